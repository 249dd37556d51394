use Rattle.std.proofs.Common.{◌≡◌, ◌∙◌, add-one, arith, refl, sym}
use Rattle.kernel_seen.specs.FewSeen.{small_message}
use Rattle.kernel_seen.proofs.FewSeen.{like_more, taken_all}
use Rattle.kernel_seen.proofs.few.are_held.Goals as goal

pub loop-place-preserved : goal.loop-place-preserved
loop-place-preserved c =
    rw add-one (like_more small_message _ c.args.few.now.messages c.loop-place.place _ _ (omega arith) refl (c.is_message_at.ensures c.if-not-is_message_at.false) c.loop-place.invariant)

pub returns : goal.returns
returns c e =
    let all : c.loop-place.place ≡ c.args.few.now.count = omega arith in
    sym (taken_all _ _ (c.is_end_of_queue.ensures e)) ∙ (rw all at c.loop-place.invariant)
