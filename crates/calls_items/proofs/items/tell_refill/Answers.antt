use Rattle.std.proofs.Common.{refl, rules}
use Rattle.words_trace.specs.declared.event.Event.TheVariants as event
use Rattle.rules_machine.specs.Servers.{activates}
use Rattle.rules_machine.specs.Turns.{tells}
use Rattle.rules_machine.proofs.Behind.{activates_server_behind}
use Rattle.kernel_state.proofs.Turns.{then_told}
use Rattle.calls_items.proofs.items.tell_refill.Goals as goal

pub returns-then-runs : goal.returns-then-runs
returns-then-runs g c = record {
  state = (search rules);
  told = (let t = c.args.t in
      let r = c.args.r.now in
      let all = then_told _ _ (tells (event.Refill t r.amount r.capacity)) (activates t) c.args.p.now c.args.p.now _ _ _ (λ told s. activates_server_behind t _ told s) refl c.tell.ensures c.activate.ensures.told in
      rw (c.if-r.true, c.if-runs.true) all);
}
