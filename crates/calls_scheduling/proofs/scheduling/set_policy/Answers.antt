use Rattle.std.proofs.Common.{Bool, List, ap, not, rules, subst, sym, ◌∙◌}
use Rattle.parts_tracer.specs.Tells.{Tells}
use Rattle.words_trace.specs.Text.{Entry}
use Rattle.rules_bodies.specs.declared.cursor.Cursor.{Cursor}
use Rattle.rules_machine.specs.Mutexes.{owns_boosting}
use Rattle.rules_machine.specs.Servers.{activates_if}
use Rattle.rules_machine.specs.State.{Thread}
use Rattle.rules_machine.specs.Threads.{can_run, is_runnable}
use Rattle.rules_machine.specs.Turns.{Turn}
use Rattle.rules_machine.proofs.Behind.{activates_if_behind}
use Rattle.kernel_state.specs.Kernel.{changes_policy, told, turn}
use Rattle.kernel_state.specs.Caller.{caller}
use Rattle.kernel_state.proofs.TickParts.{moves_if_events}
use Rattle.kernel_state.proofs.Turns.{then_told}
use Rattle.calls_scheduling.proofs.scheduling.set_policy.Goals as goal

pub returns : goal.returns
returns g c = record {
  state = (search rules);
  told = (let p = c.args.p.now in
      let u = c.args.u in
      let runs = c.is_runnable-runs.result in
      let first = changes_policy (caller c.args.by.now) u c.args.policy p.machine.now in
      let both = then_told g.K.Sink.text g.K.Sink.faults first (activates_if runs u) p c.change_policy.new.p _ _ _ (activates_if_behind runs u) c.change_policy.ensures.does.state c.change_policy.ensures.does.told c.activate_if.ensures.told in
      let all = subst (λ (b : Bool). Tells g.K.Sink.text g.K.Sink.faults p.names c.args.out.now c.activate_if.new.out (told (λ (s : Turn Cursor). activates_if b u (first s)) p)) (c.is_runnable-runs.ensures ∙ ap (λ (x : Thread Cursor). is_runnable x.status) c.thread.ensures) both in
      let x = activates_if (can_run p.machine u) u (first (turn p)) in
      subst (λ (es : List Entry). Tells g.K.Sink.text g.K.Sink.faults p.names c.args.out.now c.activate_if.new.out es) (sym (moves_if_events (not (owns_boosting x.machine u)) u x)) all);
}
