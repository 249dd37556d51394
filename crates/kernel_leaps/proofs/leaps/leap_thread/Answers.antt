use Rattle.std.proofs.Common.{Bool, List, ap, arith, length, subst, sym, true, ℕ, ◌-◌, ◌<◌, ◌^◌, ◌≡◌, ◌≤◌, ◌∙◌}
use Rattle.std.specs.Prelude.{◌&&◌}
use Rattle.kernel_threads.specs.Running.{all_of, only_takes_time}
use Rattle.script_code.specs.Fetched.{unit_of}
use Rattle.kernel_leaps.proofs.InUnit.{matters_of, not_blocked, not_quiet, quiet_of, so_quiet, takes_time}
use Rattle.kernel_leaps.proofs.Passing.{begun_at, may_here}
use Rattle.kernel_leaps.proofs.ThreadLeap.{acts, can_complete, has_leapt, in_time, leapt_state, leapt_told, may_be_swept, settled_stood}
use Rattle.rules_machine.specs.Threads.{thread_at}
use Rattle.kernel_state.specs.Kernel.{Kernel}
use Rattle.kernel_leaps.proofs.leaps.leap_thread.Goals as goal

both_so : (a b : Bool) → (a && b) ≡ true → (a ≡ true) × (b ≡ true)
both_so a b e = (grind arith, grind arith)

-- ---- the running

pub run_thread-ran-requires-clause-placed : goal.run_thread-ran-requires-clause-placed
run_thread-ran-requires-clause-placed g c = (may_here c.args.near c.args.t c.args.p.now c.requires.may).fits.thread.placed

pub run_thread-ran-requires-clause-ends : goal.run_thread-ran-requires-clause-ends
run_thread-ran-requires-clause-ends g c = (may_here c.args.near c.args.t c.args.p.now c.requires.may).fits.thread.can.ends

pub run_thread-ran-requires-clause-within : goal.run_thread-ran-requires-clause-within
run_thread-ran-requires-clause-within g c = (may_here c.args.near c.args.t c.args.p.now c.requires.may).fits.thread.room

pub run_thread-ran-requires-clause-early : goal.run_thread-ran-requires-clause-early
run_thread-ran-requires-clause-early g c = (may_here c.args.near c.args.t c.args.p.now c.requires.may).early

-- ---- the parts of the leap

pub complete_at_end-requires-clause-can : goal.complete_at_end-requires-clause-can
complete_at_end-requires-clause-can g c =
    let b = begun_at c.args.near c.args.t c.run_thread-ran.result c.args.p.now c.run_thread-ran.new.p c.requires.may c.run_thread-ran.ensures.ran c.run_thread-ran.ensures.state in
    can_complete (c.args.near - all_of b.units) c.args.t c.run_thread-ran.result.ticks c.run_thread-ran.result.unit c.run_thread-ran.result.was_high b.behind c.run_thread-ran.new.p b.may b.long b.state b.unit b.high

pub complete_at_end-requires-clause-caller : goal.complete_at_end-requires-clause-caller
complete_at_end-requires-clause-caller g c =
    let b = begun_at c.args.near c.args.t c.run_thread-ran.result c.args.p.now c.run_thread-ran.new.p c.requires.may c.run_thread-ran.ensures.ran c.run_thread-ran.ensures.state in
    let may = acts (c.args.near - all_of b.units) c.args.t c.run_thread-ran.result.ticks c.run_thread-ran.result.unit c.run_thread-ran.result.was_high b.behind c.run_thread-ran.new.p b.may b.long b.state b.unit b.high in
    let ran = sym c.run_thread-ran.ensures.state in
    let few = c.run_thread-ran.ensures.few in
    let early = (may_here c.args.near c.args.t c.args.p.now c.requires.may).early in
    record {
      known = subst (λ (k : Kernel). c.args.t < length k.names) ran c.requires.known;
      runs = may.runs;
      threads = may.threads;
      fits = may.waits;
      joins = may.joins;
      pends = may.pends;
      signals = may.signals;
      serial = may.serial;
      room = subst (λ (k : Kernel). length k.direct < 128) ran (subst (λ (moved : List ℕ). length moved < 128) (sym c.requires.quiet) (omega arith));
      early = subst (λ (k : Kernel). k.machine.now ≤ 10 ^ 18) ran (omega (arith, few, early));
    }

pub end_tick-requires-clause-stood : goal.end_tick-requires-clause-stood
end_tick-requires-clause-stood g c =
    let b = begun_at c.args.near c.args.t c.run_thread-ran.result c.args.p.now c.run_thread-ran.new.p c.requires.may c.run_thread-ran.ensures.ran c.run_thread-ran.ensures.state in
    settled_stood (c.args.near - all_of b.units) c.args.t c.run_thread-ran.result.ticks c.run_thread-ran.result.unit c.run_thread-ran.result.was_high b.behind c.run_thread-ran.new.p b.may b.long b.state b.unit b.high
    c.complete_at_end.new.p c.complete_at_end.ensures.state c.settle.new.p c.settle.ensures.moves c.settle.ensures.fits

pub sweep-requires-clause-can : goal.sweep-requires-clause-can
sweep-requires-clause-can g c =
    let b = begun_at c.args.near c.args.t c.run_thread-ran.result c.args.p.now c.run_thread-ran.new.p c.requires.may c.run_thread-ran.ensures.ran c.run_thread-ran.ensures.state in
    may_be_swept (c.args.near - all_of b.units) c.args.t c.run_thread-ran.result.ticks c.run_thread-ran.result.unit c.run_thread-ran.result.was_high b.behind c.run_thread-ran.new.p b.may b.long b.state b.unit b.high
    c.complete_at_end.new.p c.complete_at_end.ensures.state c.settle.new.p c.settle.ensures.moves c.settle.ensures.fits c.end_tick.new.p c.end_tick.ensures.does.state

pub sweep-requires-clause-early : goal.sweep-requires-clause-early
sweep-requires-clause-early g c =
    let b = begun_at c.args.near c.args.t c.run_thread-ran.result c.args.p.now c.run_thread-ran.new.p c.requires.may c.run_thread-ran.ensures.ran c.run_thread-ran.ensures.state in
    in_time (c.args.near - all_of b.units) c.args.t c.run_thread-ran.result.ticks c.run_thread-ran.result.unit c.run_thread-ran.result.was_high b.behind c.run_thread-ran.new.p b.may b.long b.state b.unit b.high
    c.complete_at_end.new.p c.complete_at_end.ensures.state c.settle.new.p c.settle.ensures.moves c.settle.ensures.fits c.end_tick.new.p c.end_tick.ensures.does.state

-- ---- the leap

pub returns-clause-leapt : goal.returns-clause-leapt
returns-clause-leapt g c =
    let b = begun_at c.args.near c.args.t c.run_thread-ran.result c.args.p.now c.run_thread-ran.new.p c.requires.may c.run_thread-ran.ensures.ran c.run_thread-ran.ensures.state in
    let state = leapt_state (c.args.near - all_of b.units) c.args.t c.run_thread-ran.result.ticks c.run_thread-ran.result.unit c.run_thread-ran.result.was_high b.behind c.run_thread-ran.new.p b.may b.long b.state b.unit b.high
    c.complete_at_end.new.p c.complete_at_end.ensures.state c.settle.new.p c.settle.ensures.moves c.settle.ensures.fits c.end_tick.new.p c.end_tick.ensures.does.state c.sweep.new.p c.sweep.ensures.does.state in
    let tells = leapt_told (c.args.near - all_of b.units) c.args.t c.run_thread-ran.result.ticks c.run_thread-ran.result.unit c.run_thread-ran.result.was_high b.behind c.run_thread-ran.new.p b.may b.long b.state b.unit b.high
    c.complete_at_end.new.p c.complete_at_end.ensures.state c.settle.new.p c.settle.ensures.moves c.settle.ensures.fits c.end_tick.new.p c.end_tick.ensures.does.state c.sweep.new.p c.sweep.ensures.does.state
    g.K.Sink.text g.K.Sink.faults c.args.out.now c.complete_at_end.new.out c.end_tick.new.out c.sweep.new.out c.complete_at_end.ensures.told c.end_tick.ensures.does.told c.sweep.ensures.does.told in
    has_leapt g.K.Sink.text g.K.Sink.faults c.args.near c.args.t c.run_thread-ran.result c.args.p.now c.run_thread-ran.new.p c.sweep.new.p c.args.out.now c.sweep.new.out b state tells

-- ---- a quiet tick

pub returns-clause-quiet_tick : goal.returns-clause-quiet_tick
returns-clause-quiet_tick g c quiet one =
    let ran = c.run_thread-ran.ensures.ran in
    quiet_of _ _ _ _ _ _ _ _ _ ran one (ap (λ (k : Kernel). k.machine.quantum) c.run_thread-ran.ensures.state)
    (not_quiet c.uses_up_nothing-saves.result c.run_thread-ran.result.is_complete c.run_thread-ran.result.was_high c.run_thread-ran.new.p.machine.quantum (thread_at c.run_thread-ran.new.p.machine c.args.t) (sym c.ended_quietly-is_quiet.ensures ∙ quiet) ran.complete c.uses_up_nothing-saves.ensures.sure)

pub returns-clause-each_quiet_tick : goal.returns-clause-each_quiet_tick
returns-clause-each_quiet_tick g c one runs quiet =
    let ran = c.run_thread-ran.ensures.ran in
    c.ended_quietly-is_quiet.ensures
    ∙ so_quiet c.uses_up_nothing-saves.result c.run_thread-ran.result.is_complete c.run_thread-ran.result.was_high c.run_thread-ran.new.p.machine.quantum (thread_at c.run_thread-ran.new.p.machine c.args.t) (matters_of _ _ _ _ _ _ _ _ _ ran one (ap (λ (k : Kernel). k.machine.quantum) c.run_thread-ran.ensures.state) quiet)
    ran.complete (c.uses_up_nothing-saves.ensures.whenever (not_blocked _ _ _ _ _ _ _ _ ran one runs))

-- ---- ticks that only take time

pub returns-clause-still : goal.returns-clause-still
returns-clause-still g c still alone =
    let ran = c.run_thread-ran.ensures.ran in
    let so = both_so c.uses_up_nothing-saves.result _ (sym c.only_took_time-is_still.ensures ∙ still) in
    takes_time c.args.p.now c.args.t c.args.near c.run_thread-ran.result _ _ _ ran alone _ (ap (λ (k : Kernel). k.machine.quantum) c.run_thread-ran.ensures.state)
    (subst (λ (k : Kernel). only_takes_time (unit_of k.code c.run_thread-ran.result.unit) ≡ true) c.run_thread-ran.ensures.state so.1) (c.uses_up_nothing-saves.ensures.sure so.0)
