use Rattle.std.proofs.Common.{subst, sym}
use Rattle.words_numbers.specs.declared.res.Res.TheVariants as res
use Rattle.rules_machine.proofs.BehindCalls.{signals_best_behind}
use Rattle.kernel_state.specs.Kernel.{turn}
use Rattle.kernel_state.specs.Caller.{caller}
use Rattle.calls_sync.proofs.Returned.{returned_fits}
use Rattle.kernel_state.proofs.Does.{then_does}
use Rattle.calls_sync.specs.Premises.{CanContend}
use Rattle.calls_sync.proofs.conditions.cond_signal.Goals as goal

pub returns : goal.returns
returns g c = then_does (signals_best_behind c.args.c) c.returns.ensures c.signal_best.ensures

pub signal_best-requires : goal.signal_best-requires
signal_best-requires g c =
    let can = c.requires.can in
    subst CanContend (sym c.returns.ensures.state)
    (record { fits = returned_fits (caller c.args.by.now) res.Zero (turn c.args.p.now) can.fits; room = can.room; serial = can.serial; early = can.early })
