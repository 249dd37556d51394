use Rattle.std.proofs.Common.{List, not, refl, rules, subst, sym}
use Rattle.parts_tracer.specs.Tells.{Tells}
use Rattle.words_trace.specs.Text.{Entry}
use Rattle.words_trace.specs.declared.event.Event.TheVariants as event
use Rattle.rules_machine.specs.Mutexes.{owns_boosting}
use Rattle.rules_machine.specs.Servers.{plans}
use Rattle.rules_machine.specs.Turns.{tells}
use Rattle.kernel_state.specs.Kernel.{turn}
use Rattle.kernel_state.proofs.TickParts.{moves_if_events, plans_behind}
use Rattle.kernel_state.proofs.Turns.{then_told}
use Rattle.kernel_leaps.proofs.tick_ends.exhaust.Goals as goal

pub returns : goal.returns
returns g c = record {
  state = (search rules);
  told = (let p = c.args.p.now in
      let t = c.args.t in
      let s = plans t (tells (event.Exhaust t) (turn p)) in
      let both = then_told g.K.Sink.text g.K.Sink.faults (tells (event.Exhaust t)) (plans t) p p _ _ _ (plans_behind t) refl c.tell.ensures c.plan.ensures.told in
      subst (λ (es : List Entry). Tells g.K.Sink.text g.K.Sink.faults p.names c.args.out.now c.plan.new.out es) (sym (moves_if_events (not (owns_boosting s.machine t)) t s)) both);
}
