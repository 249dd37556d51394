use Rattle.std.proofs.Common.{◌≡◌, Some, add-one, ap, arith, refl, sym, ◌∙◌}
use Rattle.std.proofs.lemmas.List.{length-set}
use Rattle.kernel_seen.specs.FewSeen.{small_message}
use Rattle.kernel_seen.specs.declared.few.SmallMessage.{SmallMessage}
use Rattle.rules_machine.specs.State as machine
use Rattle.kernel_seen.proofs.FewSeen.{set_like}
use Rattle.kernel_seen.proofs.few.see_messages.Goals as goal

same_message : (m : machine.Message) (x : SmallMessage) → x.priority ≡ m.priority → x.value ≡ m.value → m ≡ small_message x
same_message m x p v = rw (p, v) refl

pub loop-count-preserved : goal.loop-count-preserved
loop-count-preserved c =
    let x : SmallMessage = record { priority = c.priority.result; value = c.value-in-Some.result } in
    let here = sym c.message.ensures.message ∙ c.in-Some.is ∙ ap Some (same_message c.in-Some.held x c.priority.ensures c.value-in-Some.ensures) in
    record {
      few = omega arith;
      room = length-set c.loop-count.messages c.loop-count.count x ∙ c.loop-count.invariant.room;
      same = rw add-one (set_like small_message _ c.loop-count.messages c.loop-count.count x (omega arith) here c.loop-count.invariant.same);
    }
