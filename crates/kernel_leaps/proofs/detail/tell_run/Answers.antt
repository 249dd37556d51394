use Rattle.std.proofs.Common.{◌≡◌, ◌≤◌, ◌+◌, ◌∙◌, ℕ, ap, arith, false, subst, sym}
use Rattle.kernel_wakes.specs.Calls.{objects_in}
use Rattle.kernel_state.specs.Kernel.{Kernel, opened}
use Rattle.kernel_leaps.specs.Detail.{Writes, steps_left, told_by}
use Rattle.kernel_leaps.specs.Fits.{StaysFit}
use Rattle.kernel_leaps.specs.Ran.{ticked_by}
use Rattle.kernel_leaps.proofs.Running.{still_fits}
use Rattle.kernel_leaps.proofs.StepsLeft.{some_steps}
use Rattle.kernel_leaps.proofs.TellingRooms.{objects_first}
use Rattle.kernel_leaps.proofs.TellingSpan.{a_signal, no_signal}
use Rattle.kernel_leaps.proofs.ThreadNames.{thread_names}
use Rattle.kernel_leaps.proofs.TellingStart.{are_first, ends_dead, none_told, stops_short, tells_on, told_dead}
use Rattle.kernel_leaps.proofs.detail.tell_run.Goals as goal

-- nothing is left
all_done : (done left total : ℕ) → left ≤ 0 → done + left ≡ total → done ≡ total
all_done done left total none all = omega (arith, none, all)

pub begin-requires-clause-named : goal.begin-requires-clause-named
begin-requires-clause-named g c = ap (λ (x : Kernel). x.names) c.requires.opened ∙ thread_names c.args.script.now.decls

pub begin-requires-clause-objects : goal.begin-requires-clause-objects
begin-requires-clause-objects g c = objects_first c.args.script.now c.args.p.now c.requires.opened

pub leaps-init : goal.leaps-init
leaps-init g c = record {
  telling = record {
    all = (let value = c.get.ensures.value in omega (arith, value));
    state = c.requires.opened;
    alive = ap (λ (x : Kernel). x.machine.killed) c.requires.opened;
    stood = c.requires.stood;
    before = are_first c.args.script.now c.args.p.now c.requires.opened c.begin.new.self c.begin.ensures.subjects c.begin.ensures.told c.begin.ensures.signals c.begin.ensures.ready c.begin.ensures.unsteady;
    writes = none_told g.K.Sink.text g.K.Sink.faults c.args.script.now c.args.sink.now;
    quiet = λ e. absurd (cc);
  };
  spent = (let same = ap (λ (n : ℕ). steps_left c.args.script.now (record { done = 0; left = n; is_quiet = false })) c.get.ensures.value in omega (arith, same));
}

pub tell_leap-requires-clause-fits : goal.tell_leap-requires-clause-fits
tell_leap-requires-clause-fits g c =
    still_fits (opened c.args.script.now) c.leaps.p c.leaps.reached.done c.leaps.invariant.telling.state (subst (λ (x : Kernel). StaysFit x (objects_in x)) c.requires.opened c.requires.fits)

-- where a write failed
pub returns-in_default-clause-told : goal.returns-in_default-clause-told
returns-in_default-clause-told g c =
    stops_short g.K.Sink.text g.K.Sink.faults c.args.script.now c.requires.well_formed c.args.horizon c.leaps.reached c.leaps.p c.leaps.texts c.args.sink.now c.leaps.sink c.leaps.invariant.telling
    c.tell_leap.new.sink (c.tell_leap.ensures.stopped c.in_default.is)

-- where a signal ended the process
pub returns-then-is_killed-clause-state : goal.returns-then-is_killed-clause-state
returns-then-is_killed-clause-state g c e =
    let dead = a_signal c.tell_leap.new.p.machine.killed (sym c.is_killed.ensures ∙ c.if-is_killed.true) in
    ends_dead g.K.Sink.text g.K.Sink.faults c.args.script.now c.requires.well_formed c.args.horizon c.leaps.reached c.leaps.p c.leaps.texts c.args.sink.now c.leaps.sink c.leaps.invariant.telling
    c.in-Some.next c.tell_leap.new.p c.tell_leap.new.texts c.tell_leap.new.sink c.in-Some.ensures.on dead.0 dead.1

pub returns-then-is_killed-clause-told : goal.returns-then-is_killed-clause-told
returns-then-is_killed-clause-told g c =
    let dead = a_signal c.tell_leap.new.p.machine.killed (sym c.is_killed.ensures ∙ c.if-is_killed.true) in
    told_dead g.K.Sink.text g.K.Sink.faults c.args.script.now c.requires.well_formed c.args.horizon c.leaps.reached c.leaps.p c.leaps.texts c.args.sink.now c.leaps.sink c.leaps.invariant.telling
    c.in-Some.next c.tell_leap.new.p c.tell_leap.new.texts c.tell_leap.new.sink c.in-Some.ensures.on dead.0 dead.1

-- where it goes on
pub leaps-preserved : goal.leaps-preserved
leaps-preserved g c =
    let living = no_signal c.tell_leap.new.p.machine.killed (sym c.is_killed.ensures ∙ c.if-is_killed.false) in
    record {
      telling =
          tells_on g.K.Sink.text g.K.Sink.faults c.args.script.now c.requires.well_formed c.args.horizon c.leaps.reached c.leaps.p c.leaps.texts c.args.sink.now c.leaps.sink c.leaps.invariant.telling
          c.in-Some.next c.tell_leap.new.p c.tell_leap.new.texts c.tell_leap.new.sink c.in-Some.ensures.on living;
      spent = (let spent = c.leaps.invariant.spent in let more = c.in-Some.ensures.steps living in omega (arith, spent, more));
    }

-- and where nothing is left
pub returns-clause-state : goal.returns-clause-state
returns-clause-state g c e =
    c.leaps.invariant.telling.state ∙ ap (λ (i : ℕ). ticked_by i (opened c.args.script.now)) (all_done c.leaps.reached.done c.leaps.reached.left c.args.horizon c.leaps-test.false c.leaps.invariant.telling.all)

pub returns-clause-told : goal.returns-clause-told
returns-clause-told g c =
    subst (λ (i : ℕ). Writes g.K.Sink.text g.K.Sink.faults c.args.sink.now c.leaps.sink false (told_by c.args.script.now i)) (all_done c.leaps.reached.done c.leaps.reached.left c.args.horizon c.leaps-test.false c.leaps.invariant.telling.all)
    c.leaps.invariant.telling.writes

-- ---- the steps

pub returns-in_default-clause-steps : goal.returns-in_default-clause-steps
returns-in_default-clause-steps g c =
    let spent = c.leaps.invariant.spent in
    let step = c.tell_leap.ensures.step in
    let some = some_steps c.args.script.now c.requires.well_formed c.leaps.reached (let left = c.leaps-test.true in omega (arith, left)) in
    omega (arith, spent, step, some)

pub returns-then-is_killed-clause-steps : goal.returns-then-is_killed-clause-steps
returns-then-is_killed-clause-steps g c =
    let spent = c.leaps.invariant.spent in
    let step = c.tell_leap.ensures.step in
    let some = some_steps c.args.script.now c.requires.well_formed c.leaps.reached (let left = c.leaps-test.true in omega (arith, left)) in
    omega (arith, spent, step, some)

pub returns-clause-steps : goal.returns-clause-steps
returns-clause-steps g c = (let spent = c.leaps.invariant.spent in omega (arith, spent))
