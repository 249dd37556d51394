use Rattle.std.proofs.Common.{Some, add-one, ap, arith, sym, ◌∙◌}
use Rattle.std.proofs.lemmas.List.{length-set}
use Rattle.rules_facts.specs.Fact.{on_list}
use Rattle.kernel_seen.proofs.FewSeen.{set_more, taken_all}
use Rattle.kernel_seen.proofs.few.see_list.Goals as goal

pub loop-place-preserved : goal.loop-place-preserved
loop-place-preserved c = record {
  room = length-set c.loop-place.threads c.loop-place.place c.get-in-Some.result ∙ c.loop-place.invariant.room;
  same = rw add-one (set_more _ c.loop-place.threads c.loop-place.place c.get-in-Some.result (omega arith) (sym c.thread_on_list.ensures.thread ∙ c.in-Some.is ∙ ap Some (sym c.get-in-Some.ensures.value)) c.loop-place.invariant.same);
}

pub returns-in-None-clause-list : goal.returns-in-None-clause-list
returns-in-None-clause-list c =
    ap (on_list c.args.p) (sym c.loop-place.invariant.same ∙ taken_all _ _ (sym c.thread_on_list.ensures.thread ∙ c.in-None.is))
