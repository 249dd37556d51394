use Rattle.std.proofs.Common.{◌≡◌, ◌∙◌, ℕ, ap, subst, sym}
use Rattle.words_numbers.specs.declared.res.Res.TheVariants as res
use Rattle.rules_machine.specs.Conditions.{signals_best_times}
use Rattle.rules_machine.specs.Turns.{Turn, returns as returning}
use Rattle.rules_machine.proofs.BehindCalls.{signals_best_of_behind}
use Rattle.rules_bodies.specs.declared.cursor.Cursor.{Cursor}
use Rattle.kernel_state.specs.Kernel.{Kernel, turn}
use Rattle.kernel_state.specs.Caller.{caller}
use Rattle.calls_sync.proofs.Returned.{returned_fits}
use Rattle.calls_sync.proofs.WaitersLeft.{answered_left, left}
use Rattle.kernel_state.proofs.Does.{then_does}
use Rattle.kernel_state.specs.Does.{Does}
use Rattle.calls_sync.specs.Premises.{CanBroadcast}
use Rattle.calls_sync.proofs.conditions.cond_broadcast.Goals as goal

pub returns : goal.returns
returns g c =
    let first = returning (caller c.args.by.now) res.Zero 0 in
    let n = left c.args.c c.returns.new.self.machine in
    let same : n ≡ left c.args.c c.args.p.now.machine =
    ap (λ (k : Kernel). left c.args.c k.machine) c.returns.ensures.state ∙ answered_left c.args.c (caller c.args.by.now) res.Zero 0 (turn c.args.p.now) in
    let does = subst (λ (j : ℕ). Does g.K.Sink.text g.K.Sink.faults (λ (s : Turn Cursor). signals_best_times j c.args.c (first s)) c.args.p.now c.signal_all.new.p c.args.out.now c.signal_all.new.out) same
    (then_does (signals_best_of_behind n c.args.c) c.returns.ensures c.signal_all.ensures) in
    record { state = does.state; told = does.told }

pub signal_all-requires : goal.signal_all-requires
signal_all-requires g c =
    let can = c.requires.can in
    subst CanBroadcast (sym c.returns.ensures.state)
    (record { fits = returned_fits (caller c.args.by.now) res.Zero (turn c.args.p.now) can.fits; room = can.room; serial = can.serial; early = can.early })
