use Rattle.std.proofs.Common.{rules, subst, sym}
use Rattle.rules_machine.proofs.BehindCalls.{acts_if_blocked_behind}
use Rattle.kernel_state.specs.Kernel.{Kernel, turn}
use Rattle.kernel_state.specs.Caller.{caller}
use Rattle.kernel_wakes.specs.Waits.{WaitsFit}
use Rattle.kernel_wakes.specs.Joins.{JoinsFit}
use Rattle.calls_threads.proofs.Asked.{asked_fits, asked_joins}
use Rattle.kernel_state.proofs.Does.{then_does}
use Rattle.calls_threads.proofs.cancellation.cancel_live.Goals as goal

pub act_if_blocked-requires-clause-can : goal.act_if_blocked-requires-clause-can
act_if_blocked-requires-clause-can g c =
    let can = c.requires.can in
    let s = turn c.args.p.now in
    let b = caller c.args.by.now in
    record {
      threads = search rules;
      fits = subst (λ (k : Kernel). WaitsFit k.machine) (sym c.ask_to_end.ensures.state) (asked_fits b c.args.u s can.fits);
      joins = subst (λ (k : Kernel). JoinsFit k.machine) (sym c.ask_to_end.ensures.state) (asked_joins b c.args.u s can.joins);
      room = search rules;
      serial = search rules;
      early = search rules;
    }

pub returns : goal.returns
returns g c = then_does (acts_if_blocked_behind c.args.u) c.ask_to_end.ensures c.act_if_blocked.ensures
