use Rattle.std.proofs.Common.{◌≡◌, ◌≤◌, ◌+◌, ◌∙◌, ℕ, Bool, None, Option, Some, [], ap, arith, false, refl, subst, sym, true}
use Rattle.std.specs.Prelude.{is_some, max, min, not, ◌-◌, ◌&&◌}
use Rattle.rules_machine.specs.Agenda.{agenda}
use Rattle.rules_machine.specs.DueItems.{next_item}
use Rattle.rules_machine.specs.Eventful.{has_item}
use Rattle.rules_machine.specs.Threads.{is_blocked, thread_at, top_left}
use Rattle.rules_machine.specs.Machine.{names_of}
use Rattle.words_trace.specs.Text.{lines}
use Rattle.rules_flat_code.specs.FlatBodies.{flat_bodies}
use Rattle.rules_leaps.specs.Leap.{leap_runs, ticks_to_next}
use Rattle.script_printer.specs.Puts as printer
use Rattle.script_printer.proofs.Puts.{put_nothing, put_same}
use Rattle.kernel_texts.specs.Rooms.{HasObjectsOf}
use Rattle.kernel_state.specs.Kernel.{Kernel, told}
use Rattle.kernel_settling.specs.Stood.{StoodRight}
use Rattle.kernel_wakes.specs.Calls.{objects_in}
use Rattle.kernel_leaps.specs.Detail.{HasGoneOn, IsAfterQuietTick, Writes, is_rest, steps_left}
use Rattle.kernel_leaps.specs.Fits.{StaysFit}
use Rattle.kernel_leaps.specs.Passing.{IsQuietTick, PassesNoUnit, leap_of}
use Rattle.kernel_leaps.specs.declared.detail.Reached.{Reached}
use Rattle.kernel_leaps.specs.declared.fact_texts.FactTexts.{FactTexts}
use Rattle.laws_detail.specs.Rests.{OnlyTakeTime}
use Rattle.kernel_leaps.proofs.AtHead.{after_idle, after_thread, alone, long_by_thread, long_idle, thread_quiet, thread_runs, whole_idle, whole_thread}
use Rattle.kernel_leaps.proofs.Fitting.{instant_fits}
use Rattle.kernel_leaps.proofs.InUnit.{most_near}
use Rattle.kernel_leaps.proofs.MayTell.{may_within}
use Rattle.kernel_leaps.proofs.Midst.{midst}
use Rattle.kernel_leaps.proofs.Running.{items_fit}
use Rattle.kernel_leaps.proofs.Shown.{named, numbered}
use Rattle.kernel_leaps.proofs.StepsLeft.{first_step, quiet_tick, rest_step}
use Rattle.kernel_leaps.proofs.Telling.{m, p, q, to}
use Rattle.kernel_leaps.proofs.TellingPieces.{ends_written, is_handled, is_top, lives, ticked_is}
use Rattle.kernel_leaps.proofs.TellingRooms.{objects_here}
use Rattle.kernel_leaps.proofs.TellingSpan.{changes_stop, dispatch_stops, handled_now, items_end, items_stop, leap_goes, leap_stops, prepared_now, prepared_quiet, prepared_stands, runs, start_now, there}
use Rattle.kernel_leaps.proofs.TellingTexts.{told_again}
use Rattle.kernel_leaps.proofs.TellingTick.{ends}
use Rattle.kernel_leaps.proofs.detail.tell_leap.Goals as goal

both_so : (a b : Bool) → (a && not b) ≡ true → (a ≡ true) × (b ≡ false)
both_so a b e = (grind arith, grind arith)

both_true : (a b : Bool) → a ≡ true → b ≡ false → (a && not b) ≡ true
both_true a b e f = grind arith

no_more : (a b : Bool) → b ≡ true → (a && not b) ≡ false
no_more a b e = grind arith

dead_alive : (o : Option ℕ) → is_some o ≡ true → o ≡ None → ⊥
dead_alive o e f = cc

not_so : (b : Bool) → not b ≡ true → b ≡ false
not_so b e = grind arith

both_are : (a b : Bool) → (a && b) ≡ true → (a ≡ true) × (b ≡ true)
both_are a b e = (grind arith, grind arith)

nobody : (o : Option ℕ) (t : ℕ) → None ≡ o → o ≡ Some t → ⊥
nobody o t e f = cc

same_thread : (o : Option ℕ) (t u : ℕ) → Some t ≡ o → o ≡ Some u → t ≡ u
same_thread o t u e f = cc

-- ---- the items

pub write_items-requires-clause-fits : goal.write_items-requires-clause-fits
write_items-requires-clause-fits g c =
    let start = c.is_idle-idle.new.p in
    let same = c.is_idle-idle.ensures.same in
    let in_run = same ∙ c.requires.in_run in
    let fit = subst (λ (x : Kernel). StaysFit x (objects_in x)) (sym same) c.requires.fits in
    let quiet_start = ap (λ (x : Kernel). x.direct) in_run in
    items_fit start quiet_start fit

pub write_items-requires-clause-early : goal.write_items-requires-clause-early
write_items-requires-clause-early g c =
    let s = c.args.script.now in
    let f = c.requires.well_formed in
    let at = c.args.reached in
    let start = c.is_idle-idle.new.p in
    let same = c.is_idle-idle.ensures.same in
    let in_run = same ∙ c.requires.in_run in
    let living = ap (λ (x : Kernel). x.machine.killed) same ∙ c.requires.alive in
    let here = start_now s f at start in_run living in
    let limit = c.requires.limit in
    omega (arith, here, limit)

pub returns-then-write_items-clause-stopped : goal.returns-then-write_items-clause-stopped
returns-then-write_items-clause-stopped g c none =
    let s = c.args.script.now in
    let f = c.requires.well_formed in
    let at = c.args.reached in
    let start = c.is_idle-idle.new.p in
    let same = c.is_idle-idle.ensures.same in
    let in_run = same ∙ c.requires.in_run in
    let living = ap (λ (x : Kernel). x.machine.killed) same ∙ c.requires.alive in
    let handled = c.write_items.new.p in
    let state = c.write_items.ensures.state in
    let text = g.K.Sink.text in
    let faults = g.K.Sink.faults in
    items_stop s f at start in_run living handled state text faults c.requires.some c.args.sink.now c.write_items.new.sink c.write_items.result c.write_items.ensures.told c.if-write_items.true

pub returns-then-is_killed-clause-on : goal.returns-then-is_killed-clause-on
returns-then-is_killed-clause-on g c =
    let s = c.args.script.now in
    let f = c.requires.well_formed in
    let at = c.args.reached in
    let start = c.is_idle-idle.new.p in
    let same = c.is_idle-idle.ensures.same in
    let in_run = same ∙ c.requires.in_run in
    let living = ap (λ (x : Kernel). x.machine.killed) same ∙ c.requires.alive in
    let handled = c.write_items.new.p in
    let state = c.write_items.ensures.state in
    let stands = c.write_items.ensures.stood in
    let still = c.write_items.ensures.quiet in
    let text = g.K.Sink.text in
    let faults = g.K.Sink.faults in
    subst (λ (r : Reached). HasGoneOn text faults s at r handled c.args.texts.now c.args.sink.now c.write_items.new.sink) (sym c.after.ensures)
    (items_end s f at start in_run living handled state text faults c.requires.some c.args.sink.now c.write_items.new.sink c.write_items.result c.write_items.ensures.told c.if-write_items.false
    (sym c.is_killed.ensures ∙ c.if-is_killed.true) still stands c.args.texts.now)

-- ---- the dispatch and the facts

pub look-requires-clause-numbered : goal.look-requires-clause-numbered
look-requires-clause-numbered g c =
    let s = c.args.script.now in
    let f = c.requires.well_formed in
    let at = c.args.reached in
    let start = c.is_idle-idle.new.p in
    let same = c.is_idle-idle.ensures.same in
    let in_run = same ∙ c.requires.in_run in
    let handled = c.write_items.new.p in
    let state = c.write_items.ensures.state in
    numbered s at.done start handled in_run state c.requires.runnable f c.requires.few

pub look-requires-clause-named : goal.look-requires-clause-named
look-requires-clause-named g c =
    named c.args.script.now c.args.reached.done c.is_idle-idle.new.p c.write_items.new.p (c.is_idle-idle.ensures.same ∙ c.requires.in_run) c.write_items.ensures.state

pub look-requires-clause-objects : goal.look-requires-clause-objects
look-requires-clause-objects g c =
    let s = c.args.script.now in
    let f = c.requires.well_formed in
    let at = c.args.reached in
    let start = c.is_idle-idle.new.p in
    let same = c.is_idle-idle.ensures.same in
    let in_run = same ∙ c.requires.in_run in
    let handled = c.write_items.new.p in
    let state = c.write_items.ensures.state in
    subst (λ (x : Kernel). HasObjectsOf s x.machine) (sym (is_handled s f at.done start in_run handled state)) (objects_here s c.requires.runnable f at.done)

pub look-requires-clause-ready : goal.look-requires-clause-ready
look-requires-clause-ready g c = c.requires.before.ready

pub look-requires-clause-latest : goal.look-requires-clause-latest
look-requires-clause-latest g c u run =
    let start = c.is_idle-idle.new.p in
    let same = c.is_idle-idle.ensures.same in
    let in_run = same ∙ c.requires.in_run in
    let fit = subst (λ (x : Kernel). StaysFit x (objects_in x)) (sym same) c.requires.fits in
    let quiet_start = ap (λ (x : Kernel). x.direct) in_run in
    (instant_fits start c.write_items.new.p c.write_items.ensures.state (items_fit start quiet_start fit)).latest.each u run

pub look-requires-clause-same : goal.look-requires-clause-same
look-requires-clause-same g c idle steady =
    let s = c.args.script.now in
    let f = c.requires.well_formed in
    let at = c.args.reached in
    let start = c.is_idle-idle.new.p in
    let in_run = c.is_idle-idle.ensures.same ∙ c.requires.in_run in
    let handled = c.write_items.new.p in
    let none : next_item (m s f at.done) ≡ None = ap (λ (x : Kernel). next_item x.machine) (sym c.requires.in_run) ∙ c.is_idle-idle.ensures.idle idle in
    told_again s f at.done handled (is_handled s f at.done start in_run handled c.write_items.ensures.state) c.args.texts.now c.requires.before steady none

pub write_dispatch-to-requires-clause-latest : goal.write_dispatch-to-requires-clause-latest
write_dispatch-to-requires-clause-latest g c u run =
    let start = c.is_idle-idle.new.p in
    let same = c.is_idle-idle.ensures.same in
    let in_run = same ∙ c.requires.in_run in
    let fit = subst (λ (x : Kernel). StaysFit x (objects_in x)) (sym same) c.requires.fits in
    let quiet_start = ap (λ (x : Kernel). x.direct) in_run in
    let handled = c.write_items.new.p in
    let state = c.write_items.ensures.state in
    (instant_fits start handled state (items_fit start quiet_start fit)).latest.each u run

pub write_dispatch-to-requires-clause-early : goal.write_dispatch-to-requires-clause-early
write_dispatch-to-requires-clause-early g c =
    let s = c.args.script.now in
    let f = c.requires.well_formed in
    let at = c.args.reached in
    let start = c.is_idle-idle.new.p in
    let same = c.is_idle-idle.ensures.same in
    let in_run = same ∙ c.requires.in_run in
    let living = ap (λ (x : Kernel). x.machine.killed) same ∙ c.requires.alive in
    let handled = c.write_items.new.p in
    let state = c.write_items.ensures.state in
    let here = handled_now s f at start in_run living handled state in
    let limit = c.requires.limit in
    omega (arith, here, limit)

pub returns-then-failed-clause-stopped : goal.returns-then-failed-clause-stopped
returns-then-failed-clause-stopped g c none =
    let s = c.args.script.now in
    let f = c.requires.well_formed in
    let at = c.args.reached in
    let start = c.is_idle-idle.new.p in
    let same = c.is_idle-idle.ensures.same in
    let in_run = same ∙ c.requires.in_run in
    let living = ap (λ (x : Kernel). x.machine.killed) same ∙ c.requires.alive in
    let handled = c.write_items.new.p in
    let state = c.write_items.ensures.state in
    let alive_now = sym c.is_killed.ensures ∙ c.if-is_killed.false in
    let stands = c.write_items.ensures.stood in
    let still = c.write_items.ensures.quiet in
    let prepared = c.write_dispatch-to.new.p in
    let given = c.write_dispatch-to.ensures.state in
    let text = g.K.Sink.text in
    let faults = g.K.Sink.faults in
    dispatch_stops s f at start in_run living handled state alive_now stands still prepared given text faults c.requires.some c.args.sink.now c.write_items.new.sink c.write_dispatch-to.new.sink c.write_items.result c.write_dispatch-to.result.1 c.if-write_items.false c.write_items.ensures.told c.write_dispatch-to.ensures.told c.if-failed.true

pub returns-then-write_changed-clause-stopped : goal.returns-then-write_changed-clause-stopped
returns-then-write_changed-clause-stopped g c none =
    let s = c.args.script.now in
    let f = c.requires.well_formed in
    let at = c.args.reached in
    let start = c.is_idle-idle.new.p in
    let same = c.is_idle-idle.ensures.same in
    let in_run = same ∙ c.requires.in_run in
    let living = ap (λ (x : Kernel). x.machine.killed) same ∙ c.requires.alive in
    let handled = c.write_items.new.p in
    let state = c.write_items.ensures.state in
    let alive_now = sym c.is_killed.ensures ∙ c.if-is_killed.false in
    let stands = c.write_items.ensures.stood in
    let still = c.write_items.ensures.quiet in
    let prepared = c.write_dispatch-to.new.p in
    let given = c.write_dispatch-to.ensures.state in
    let text = g.K.Sink.text in
    let faults = g.K.Sink.faults in
    changes_stop s f at start in_run living handled state alive_now stands still prepared given text faults c.requires.some c.args.sink.now c.write_items.new.sink c.write_dispatch-to.new.sink c.write_items.result c.write_dispatch-to.result.1 c.if-write_items.false c.write_items.ensures.told c.write_dispatch-to.ensures.told c.requires.runnable c.if-failed.false c.write_changed.new.sink c.write_changed.result c.args.texts.now c.look.new.self c.write_changed.ensures c.look.ensures.signals c.look.ensures.told c.look.ensures.subjects c.look.ensures.lines c.requires.before c.look.ensures.ready c.if-write_changed.true

-- ---- where nobody runs

pub ticks_to_next-near-requires : goal.ticks_to_next-near-requires
ticks_to_next-near-requires g c =
    let s = c.args.script.now in
    let f = c.requires.well_formed in
    let at = c.args.reached in
    let start = c.is_idle-idle.new.p in
    let same = c.is_idle-idle.ensures.same in
    let in_run = same ∙ c.requires.in_run in
    let living = ap (λ (x : Kernel). x.machine.killed) same ∙ c.requires.alive in
    let handled = c.write_items.new.p in
    let state = c.write_items.ensures.state in
    let alive_now = sym c.is_killed.ensures ∙ c.if-is_killed.false in
    let stands = c.write_items.ensures.stood in
    let still = c.write_items.ensures.quiet in
    let prepared = c.write_dispatch-to.new.p in
    let given = c.write_dispatch-to.ensures.state in
    let now = prepared_now s f at start in_run living handled state alive_now stands still prepared given in
    let within = c.most_at_once-most.ensures.within in
    let limit = c.requires.limit in
    omega (arith, now, within, limit)

pub leap-requires : goal.leap-requires
leap-requires g c =
    let s = c.args.script.now in
    let f = c.requires.well_formed in
    let at = c.args.reached in
    let start = c.is_idle-idle.new.p in
    let same = c.is_idle-idle.ensures.same in
    let in_run = same ∙ c.requires.in_run in
    let living = ap (λ (x : Kernel). x.machine.killed) same ∙ c.requires.alive in
    let handled = c.write_items.new.p in
    let state = c.write_items.ensures.state in
    let alive_now = sym c.is_killed.ensures ∙ c.if-is_killed.false in
    let stands = c.write_items.ensures.stood in
    let still = c.write_items.ensures.quiet in
    let prepared = c.write_dispatch-to.new.p in
    let given = c.write_dispatch-to.ensures.state in
    let now = prepared_now s f at start in_run living handled state alive_now stands still prepared given in
    let is_near = c.ticks_to_next-near.ensures in
    let most = c.most_at_once-most.result in
    let near_most = most_near (agenda prepared.machine) prepared.machine.now most in
    let within = c.most_at_once-most.ensures.within in
    let some_most = c.most_at_once-most.ensures.some in
    let idle = c.max-ticks.ensures in
    let limit = c.requires.limit in
    record { early = omega (arith, now, is_near, near_most, within, some_most, idle, limit) }

pub after-requires-in_default-clause-within : goal.after-requires-in_default-clause-within
after-requires-in_default-clause-within g c =
    let prepared = c.write_dispatch-to.new.p in
    let is_near = c.ticks_to_next-near.ensures in
    let most = c.most_at_once-most.result in
    let near_most = most_near (agenda prepared.machine) prepared.machine.now most in
    let within = c.most_at_once-most.ensures.within in
    let some_most = c.most_at_once-most.ensures.some in
    let idle = c.max-ticks.ensures in
    omega (arith, is_near, near_most, within, some_most, idle)

pub returns-in_default-clause-on : goal.returns-in_default-clause-on
returns-in_default-clause-on g c =
    let s = c.args.script.now in
    let f = c.requires.well_formed in
    let at = c.args.reached in
    let start = c.is_idle-idle.new.p in
    let same = c.is_idle-idle.ensures.same in
    let in_run = same ∙ c.requires.in_run in
    let living = ap (λ (x : Kernel). x.machine.killed) same ∙ c.requires.alive in
    let handled = c.write_items.new.p in
    let state = c.write_items.ensures.state in
    let alive_now = sym c.is_killed.ensures ∙ c.if-is_killed.false in
    let stands = c.write_items.ensures.stood in
    let still = c.write_items.ensures.quiet in
    let prepared = c.write_dispatch-to.new.p in
    let given = c.write_dispatch-to.ensures.state in
    let text = g.K.Sink.text in
    let faults = g.K.Sink.faults in
    let at_head = there s f at start in_run living handled state alive_now stands still prepared given in
    let going = runs s f at start in_run living handled state alive_now stands still prepared given in
    let is_near = c.ticks_to_next-near.ensures in
    let most = c.most_at_once-most.result in
    let near_most = most_near (agenda prepared.machine) prepared.machine.now most in
    let within = c.most_at_once-most.ensures.within in
    let some_most = c.most_at_once-most.ensures.some in
    let reach : 2 ≤ c.ticks_to_next-near.result → c.ticks_to_next-near.result ≤ ticks_to_next most (p s f at.done).machine.now (agenda (p s f at.done).machine) =
    λ long. subst (λ (x : Kernel). c.ticks_to_next-near.result ≤ ticks_to_next most x.machine.now (agenda x.machine)) at_head (omega (arith, is_near)) in
    let idle = c.max-ticks.ensures in
    let j = c.max-ticks.result in
    let top = sym c.in_default.is ∙ c.write_dispatch-to.ensures.top in
    let whom = is_top s f at.done start in_run handled state prepared given None top in
    let long = long_idle s f at.done going (sym whom) c.ticks_to_next-near.result most j (omega (arith, idle)) reach in
    let single : c.is_calm-calm.result ≡ false → j ≡ 1 = λ e. (let one = c.most_at_once-most.ensures.one e in omega (arith, is_near, near_most, idle, one)) in
    let prepared_stood = prepared_stands s f at start in_run living handled state alive_now stands still prepared given in
    let leap = c.leap.ensures.state in
    let stood : StoodRight c.leap.new.self.machine = subst (λ (x : Kernel). StoodRight x.machine) (sym leap) (record { every = prepared_stood.every; within = prepared_stood.within; positive = prepared_stood.positive; runs = prepared_stood.runs; others = prepared_stood.others }) in
    let nothing : ends s f at.done j ≡ [] = ap (λ (o : Option ℕ). lines (names_of s) (told (leap_runs (q s f at.done) j o) (p s f at.done))) (sym whom) in
    let d = c.write_changed.new.sink in
    let fourth : Writes text faults d d false (ends s f at.done j) = put_same (printer.outlet text faults false d) (printer.outlet text faults false d) [] (ends s f at.done j) (sym nothing) (put_nothing (printer.outlet text faults false d)) in
    subst (λ (r : Reached). HasGoneOn text faults s at r c.leap.new.self c.look.new.self c.args.sink.now d) (sym c.after-in_default.ensures)
    (leap_goes s f at start in_run living handled state alive_now stands still prepared given text faults c.requires.some c.args.sink.now c.write_items.new.sink c.write_dispatch-to.new.sink c.write_items.result c.write_dispatch-to.result.1 c.if-write_items.false c.write_items.ensures.told c.write_dispatch-to.ensures.told c.requires.runnable c.if-failed.false c.write_changed.new.sink c.write_changed.result c.args.texts.now c.look.new.self c.write_changed.ensures c.look.ensures.signals c.look.ensures.told c.look.ensures.subjects c.look.ensures.lines c.requires.before c.look.ensures.ready c.is_calm-calm.result (λ e. c.requires.after_quiet (c.is_calm-calm.ensures.after e)) (λ e. ap (λ (x : Kernel). next_item x.machine) same ∙ c.is_idle-idle.ensures.idle (c.is_calm-calm.ensures.idle e)) c.if-write_changed.false j (omega (arith, idle)) (omega (arith, is_near, near_most, within, some_most, idle)) long single d fourth c.leap.new.self
    (ticked_is s f at.done start in_run handled state prepared given None top j c.leap.new.self leap) (ap (λ (x : Kernel). x.direct) leap ∙ prepared_quiet s f at start in_run living handled state alive_now stands still prepared given) stood
    (not c.is_calm-calm.result) (λ e. single (not_so c.is_calm-calm.result e)) (λ e. after_idle s f at.done going (sym whom)) c.look.new.self refl refl
    c.look.ensures.steady (λ steady t e. absurd (nobody (to s f at.done) t whom e)))

-- ---- where a thread does

pub write_ticks-failed-requires-clause-quiet : goal.write_ticks-failed-requires-clause-quiet
write_ticks-failed-requires-clause-quiet g c =
    let s = c.args.script.now in
    let f = c.requires.well_formed in
    let at = c.args.reached in
    let start = c.is_idle-idle.new.p in
    let same = c.is_idle-idle.ensures.same in
    let in_run = same ∙ c.requires.in_run in
    let living = ap (λ (x : Kernel). x.machine.killed) same ∙ c.requires.alive in
    let handled = c.write_items.new.p in
    let state = c.write_items.ensures.state in
    let alive_now = sym c.is_killed.ensures ∙ c.if-is_killed.false in
    let stands = c.write_items.ensures.stood in
    let still = c.write_items.ensures.quiet in
    let prepared = c.write_dispatch-to.new.p in
    let given = c.write_dispatch-to.ensures.state in
    prepared_quiet s f at start in_run living handled state alive_now stands still prepared given

pub write_ticks-failed-requires-clause-may : goal.write_ticks-failed-requires-clause-may
write_ticks-failed-requires-clause-may g c =
    let s = c.args.script.now in
    let f = c.requires.well_formed in
    let at = c.args.reached in
    let start = c.is_idle-idle.new.p in
    let same = c.is_idle-idle.ensures.same in
    let in_run = same ∙ c.requires.in_run in
    let living = ap (λ (x : Kernel). x.machine.killed) same ∙ c.requires.alive in
    let fit = subst (λ (x : Kernel). StaysFit x (objects_in x)) (sym same) c.requires.fits in
    let quiet_start = ap (λ (x : Kernel). x.direct) in_run in
    let handled = c.write_items.new.p in
    let state = c.write_items.ensures.state in
    let alive_now = sym c.is_killed.ensures ∙ c.if-is_killed.false in
    let stands = c.write_items.ensures.stood in
    let still = c.write_items.ensures.quiet in
    let prepared = c.write_dispatch-to.new.p in
    let given = c.write_dispatch-to.ensures.state in
    let is_near = c.ticks_to_next-near.ensures in
    let most = c.most_at_once-most.result in
    let near_most = most_near (agenda prepared.machine) prepared.machine.now most in
    let within = c.most_at_once-most.ensures.within in
    let some_most = c.most_at_once-most.ensures.some in
    let fewer = c.ticks_in_unit-at_once.ensures in
    let limit = c.requires.limit in
    may_within (record { sink = c.args.sink; failed = false; hundred = 100 }) start fit (subst (λ (x : Kernel). StoodRight x.machine) (sym same) c.requires.stood) quiet_start handled prepared c.in-Some.t state stands still alive_now
    (sym c.in-Some.is ∙ c.write_dispatch-to.ensures.top) given most c.ticks_to_next-near.result c.ticks_in_unit-at_once.result some_most is_near (omega (arith, is_near, near_most)) (omega (arith, fewer)) (λ lt. omega (arith, fewer, lt))
    (let here = start_now s f at start in_run living in omega (arith, here, within, limit))

pub write_ticks-failed-requires-clause-alone : goal.write_ticks-failed-requires-clause-alone
write_ticks-failed-requires-clause-alone g c =
    let s = c.args.script.now in
    let f = c.requires.well_formed in
    let at = c.args.reached in
    let start = c.is_idle-idle.new.p in
    let same = c.is_idle-idle.ensures.same in
    let in_run = same ∙ c.requires.in_run in
    let living = ap (λ (x : Kernel). x.machine.killed) same ∙ c.requires.alive in
    let handled = c.write_items.new.p in
    let state = c.write_items.ensures.state in
    let alive_now = sym c.is_killed.ensures ∙ c.if-is_killed.false in
    let stands = c.write_items.ensures.stood in
    let still = c.write_items.ensures.quiet in
    let prepared = c.write_dispatch-to.new.p in
    let given = c.write_dispatch-to.ensures.state in
    let at_head = there s f at start in_run living handled state alive_now stands still prepared given in
    let going = runs s f at start in_run living handled state alive_now stands still prepared given in
    let fewer = c.ticks_in_unit-at_once.ensures in
    subst (PassesNoUnit c.ticks_in_unit-at_once.result c.in-Some.t) (sym at_head)
    (alone s f at.done going c.in-Some.t c.ticks_in_unit-at_once.result (subst (λ (x : Kernel). c.ticks_in_unit-at_once.result ≤ max 1 (top_left (thread_at x.machine c.in-Some.t).frames)) at_head (omega (arith, fewer))))

pub returns-then-failed-2-clause-stopped : goal.returns-then-failed-2-clause-stopped
returns-then-failed-2-clause-stopped g c none =
    let s = c.args.script.now in
    let f = c.requires.well_formed in
    let at = c.args.reached in
    let start = c.is_idle-idle.new.p in
    let same = c.is_idle-idle.ensures.same in
    let in_run = same ∙ c.requires.in_run in
    let living = ap (λ (x : Kernel). x.machine.killed) same ∙ c.requires.alive in
    let handled = c.write_items.new.p in
    let state = c.write_items.ensures.state in
    let alive_now = sym c.is_killed.ensures ∙ c.if-is_killed.false in
    let stands = c.write_items.ensures.stood in
    let still = c.write_items.ensures.quiet in
    let prepared = c.write_dispatch-to.new.p in
    let given = c.write_dispatch-to.ensures.state in
    let text = g.K.Sink.text in
    let faults = g.K.Sink.faults in
    let at_head = there s f at start in_run living handled state alive_now stands still prepared given in
    let going = runs s f at start in_run living handled state alive_now stands still prepared given in
    let is_near = c.ticks_to_next-near.ensures in
    let most = c.most_at_once-most.result in
    let near_most = most_near (agenda prepared.machine) prepared.machine.now most in
    let within = c.most_at_once-most.ensures.within in
    let some_most = c.most_at_once-most.ensures.some in
    let fewer = c.ticks_in_unit-at_once.ensures in
    let t = c.in-Some.t in
    let short = c.ticks_in_unit-at_once.result in
    let j = c.write_ticks-failed.result.0.ticks in
    let top = sym c.in-Some.is ∙ c.write_dispatch-to.ensures.top in
    let whom = is_top s f at.done start in_run handled state prepared given (Some t) top in
    let lasts = c.write_ticks-failed.ensures.long in
    let few : j ≤ max 1 short = omega (arith, lasts) in
    let reach : 2 ≤ short → short ≤ ticks_to_next most (p s f at.done).machine.now (agenda (p s f at.done).machine) =
    λ long. subst (λ (x : Kernel). short ≤ ticks_to_next most x.machine.now (agenda x.machine)) at_head (omega (arith, is_near, fewer)) in
    let long = long_by_thread s f at.done going t (sym whom) short most j (lasts ∙ ap (leap_of short t) at_head) reach in
    let single : c.is_calm-calm.result ≡ false → j ≡ 1 = λ e. (let one = c.most_at_once-most.ensures.one e in omega (arith, is_near, near_most, fewer, lasts, one)) in
    let fourth = ends_written s f at.done start in_run handled state prepared given (Some t) top text faults j c.write_changed.new.sink c.write_ticks-failed.new.sink c.write_ticks-failed.result.1 c.write_ticks-failed.ensures.told in
    leap_stops s f at start in_run living handled state alive_now stands still prepared given text faults c.requires.some c.args.sink.now c.write_items.new.sink c.write_dispatch-to.new.sink c.write_items.result c.write_dispatch-to.result.1 c.if-write_items.false c.write_items.ensures.told c.write_dispatch-to.ensures.told c.requires.runnable c.if-failed.false c.write_changed.new.sink c.write_changed.result c.args.texts.now c.look.new.self c.write_changed.ensures c.look.ensures.signals c.look.ensures.told c.look.ensures.subjects c.look.ensures.lines c.requires.before c.look.ensures.ready c.is_calm-calm.result (λ e. c.requires.after_quiet (c.is_calm-calm.ensures.after e)) (λ e. ap (λ (x : Kernel). next_item x.machine) same ∙ c.is_idle-idle.ensures.idle (c.is_calm-calm.ensures.idle e)) c.if-write_changed.false j (omega (arith, lasts)) (omega (arith, few, fewer, is_near, near_most, within, some_most)) long single c.write_ticks-failed.new.sink c.write_ticks-failed.result.1 c.if-failed-2.true fourth

pub after-requires-2-clause-within : goal.after-requires-2-clause-within
after-requires-2-clause-within g c =
    let prepared = c.write_dispatch-to.new.p in
    let is_near = c.ticks_to_next-near.ensures in
    let most = c.most_at_once-most.result in
    let near_most = most_near (agenda prepared.machine) prepared.machine.now most in
    let within = c.most_at_once-most.ensures.within in
    let some_most = c.most_at_once-most.ensures.some in
    let fewer = c.ticks_in_unit-at_once.ensures in
    let lasts = c.write_ticks-failed.ensures.long in
    omega (arith, is_near, near_most, within, some_most, fewer, lasts)

pub returns-clause-on : goal.returns-clause-on
returns-clause-on g c =
    let s = c.args.script.now in
    let f = c.requires.well_formed in
    let at = c.args.reached in
    let start = c.is_idle-idle.new.p in
    let same = c.is_idle-idle.ensures.same in
    let in_run = same ∙ c.requires.in_run in
    let living = ap (λ (x : Kernel). x.machine.killed) same ∙ c.requires.alive in
    let handled = c.write_items.new.p in
    let state = c.write_items.ensures.state in
    let alive_now = sym c.is_killed.ensures ∙ c.if-is_killed.false in
    let stands = c.write_items.ensures.stood in
    let still = c.write_items.ensures.quiet in
    let prepared = c.write_dispatch-to.new.p in
    let given = c.write_dispatch-to.ensures.state in
    let text = g.K.Sink.text in
    let faults = g.K.Sink.faults in
    let at_head = there s f at start in_run living handled state alive_now stands still prepared given in
    let going = runs s f at start in_run living handled state alive_now stands still prepared given in
    let is_near = c.ticks_to_next-near.ensures in
    let most = c.most_at_once-most.result in
    let near_most = most_near (agenda prepared.machine) prepared.machine.now most in
    let within = c.most_at_once-most.ensures.within in
    let some_most = c.most_at_once-most.ensures.some in
    let fewer = c.ticks_in_unit-at_once.ensures in
    let t = c.in-Some.t in
    let short = c.ticks_in_unit-at_once.result in
    let j = c.write_ticks-failed.result.0.ticks in
    let top = sym c.in-Some.is ∙ c.write_dispatch-to.ensures.top in
    let whom = is_top s f at.done start in_run handled state prepared given (Some t) top in
    let lasts = c.write_ticks-failed.ensures.long in
    let few : j ≤ max 1 short = omega (arith, lasts) in
    let reach : 2 ≤ short → short ≤ ticks_to_next most (p s f at.done).machine.now (agenda (p s f at.done).machine) =
    λ long. subst (λ (x : Kernel). short ≤ ticks_to_next most x.machine.now (agenda x.machine)) at_head (omega (arith, is_near, fewer)) in
    let long = long_by_thread s f at.done going t (sym whom) short most j (lasts ∙ ap (leap_of short t) at_head) reach in
    let single : c.is_calm-calm.result ≡ false → j ≡ 1 = λ e. (let one = c.most_at_once-most.ensures.one e in omega (arith, is_near, near_most, fewer, lasts, one)) in
    let fourth = ends_written s f at.done start in_run handled state prepared given (Some t) top text faults j c.write_changed.new.sink c.write_ticks-failed.new.sink c.write_ticks-failed.result.1 c.write_ticks-failed.ensures.told in
    let is_quiet = c.is_quiet_tick.result in
    let tick : is_quiet ≡ true → IsAfterQuietTick s (at.done + 1) =
    λ e. (let so = both_so c.write_ticks-failed.result.0.is_quiet c.is_calm-calm.result (sym c.is_quiet_tick.ensures ∙ e) in
    let one = c.most_at_once-most.ensures.one so.1 in
    after_thread s f at.done going t (sym whom) (subst (λ (x : Kernel). IsQuietTick (flat_bodies x.code) x.machine.quantum (thread_at x.machine t)) at_head (c.write_ticks-failed.ensures.quiet_tick so.0 (omega (arith, is_near, near_most, fewer, one))))) in
    subst (λ (r : Reached). HasGoneOn text faults s at r c.write_ticks-failed.new.p c.follow.new.self c.args.sink.now c.write_ticks-failed.new.sink) (sym c.after-2.ensures)
    (leap_goes s f at start in_run living handled state alive_now stands still prepared given text faults c.requires.some c.args.sink.now c.write_items.new.sink c.write_dispatch-to.new.sink c.write_items.result c.write_dispatch-to.result.1 c.if-write_items.false c.write_items.ensures.told c.write_dispatch-to.ensures.told c.requires.runnable c.if-failed.false c.write_changed.new.sink c.write_changed.result c.args.texts.now c.look.new.self c.write_changed.ensures c.look.ensures.signals c.look.ensures.told c.look.ensures.subjects c.look.ensures.lines c.requires.before c.look.ensures.ready c.is_calm-calm.result (λ e. c.requires.after_quiet (c.is_calm-calm.ensures.after e)) (λ e. ap (λ (x : Kernel). next_item x.machine) same ∙ c.is_idle-idle.ensures.idle (c.is_calm-calm.ensures.idle e)) c.if-write_changed.false j (omega (arith, lasts)) (omega (arith, few, fewer, is_near, near_most, within, some_most)) long single c.write_ticks-failed.new.sink
    (subst (λ (b : Bool). Writes text faults c.write_changed.new.sink c.write_ticks-failed.new.sink b (ends s f at.done j)) c.if-failed-2.false fourth) c.write_ticks-failed.new.p
    (ticked_is s f at.done start in_run handled state prepared given (Some t) top j c.write_ticks-failed.new.p c.write_ticks-failed.ensures.state) c.write_ticks-failed.ensures.quiet c.write_ticks-failed.ensures.stood
    is_quiet (λ e. single (both_so c.write_ticks-failed.result.0.is_quiet c.is_calm-calm.result (sym c.is_quiet_tick.ensures ∙ e)).1) tick c.follow.new.self
    (ap (λ (x : FactTexts). x.desk) c.follow.ensures) (ap (λ (x : FactTexts). x.next) c.follow.ensures)
    (λ e. c.look.ensures.steady (both_are c.look.new.self.are_steady c.write_ticks-failed.result.0.is_still (sym (ap (λ (x : FactTexts). x.are_steady) c.follow.ensures) ∙ e)).0)
    (λ e u first. subst (λ (v : ℕ). OnlyTakeTime (q s f at.done) j v (p s f at.done).machine) (same_thread (to s f at.done) t u whom first)
    (subst (λ (x : Kernel). OnlyTakeTime (flat_bodies x.code) j t x.machine) at_head
    (c.write_ticks-failed.ensures.still (both_are c.look.new.self.are_steady c.write_ticks-failed.result.0.is_still (sym (ap (λ (x : FactTexts). x.are_steady) c.follow.ensures) ∙ e)).1))))

-- ---- the steps

pub returns-then-is_killed-clause-steps : goal.returns-then-is_killed-clause-steps
returns-then-is_killed-clause-steps g c alive =
    absurd (dead_alive c.write_items.new.p.machine.killed (sym c.is_killed.ensures ∙ c.if-is_killed.true) alive)

pub returns-in_default-clause-steps : goal.returns-in_default-clause-steps
returns-in_default-clause-steps g c alive =
    let s = c.args.script.now in
    let f = c.requires.well_formed in
    let at = c.args.reached in
    let start = c.is_idle-idle.new.p in
    let same = c.is_idle-idle.ensures.same in
    let in_run = same ∙ c.requires.in_run in
    let living = ap (λ (x : Kernel). x.machine.killed) same ∙ c.requires.alive in
    let handled = c.write_items.new.p in
    let state = c.write_items.ensures.state in
    let alive_now = sym c.is_killed.ensures ∙ c.if-is_killed.false in
    let stands = c.write_items.ensures.stood in
    let still = c.write_items.ensures.quiet in
    let prepared = c.write_dispatch-to.new.p in
    let given = c.write_dispatch-to.ensures.state in
    let at_head = there s f at start in_run living handled state alive_now stands still prepared given in
    let going = runs s f at start in_run living handled state alive_now stands still prepared given in
    let is_near = c.ticks_to_next-near.ensures in
    let most = c.most_at_once-most.result in
    let near_most = most_near (agenda prepared.machine) prepared.machine.now most in
    let within = c.most_at_once-most.ensures.within in
    let some_most = c.most_at_once-most.ensures.some in
    let is_rest_is : c.is_calm-calm.result ≡ is_rest s at = c.is_calm-calm.ensures.whenever ∙ ap (λ (b : Bool). at.is_quiet && b) c.is_idle-idle.ensures.whenever ∙ ap (λ (x : Kernel). at.is_quiet && not (has_item x.machine)) c.requires.in_run in
    let idle = c.max-ticks.ensures in
    let j = c.max-ticks.result in
    let calm = c.is_calm-calm.result in
    let top = sym c.in_default.is ∙ c.write_dispatch-to.ensures.top in
    let whom = is_top s f at.done start in_run handled state prepared given None top in
    let step = c.leap.ensures.step in
    let by_calm : (b : Bool) → calm ≡ b → 1 + steps_left s (record { done = at.done + j; left = at.left - j; is_quiet = not b }) ≤ steps_left s at =
    λ b. elim b as (λ k. calm ≡ k → 1 + steps_left s (record { done = at.done + j; left = at.left - j; is_quiet = not k }) ≤ steps_left s at) [
      | true ↦ λ e. (let all = c.most_at_once-most.ensures.all e in
          rest_step s f at c.requires.some (sym is_rest_is ∙ e) j (sym (whole_idle s f at.done going (sym whom) c.ticks_to_next-near.result at.left j (omega (arith, idle))
          (subst (λ (n : ℕ). c.ticks_to_next-near.result ≡ ticks_to_next n (p s f at.done).machine.now (agenda (p s f at.done).machine)) all (is_near ∙ ap (λ (x : Kernel). ticks_to_next most x.machine.now (agenda x.machine)) at_head)))))
      | false ↦ λ e. (let one = c.most_at_once-most.ensures.one e in
          let single : j ≡ 1 = omega (arith, is_near, near_most, idle, one) in
          subst (λ (i : ℕ). 1 + steps_left s (record { done = at.done + i; left = at.left - i; is_quiet = true }) ≤ steps_left s at) (sym single)
          (first_step s f at c.requires.some (sym is_rest_is ∙ e) true (λ two. refl)))
    ] in
    let left = by_calm calm refl in
    subst (λ (r : Reached). c.leap.new.steps + steps_left s r ≤ c.args.steps.now + steps_left s at) (sym c.after-in_default.ensures) (omega (arith, left, step))

pub returns-clause-steps : goal.returns-clause-steps
returns-clause-steps g c alive =
    let s = c.args.script.now in
    let f = c.requires.well_formed in
    let at = c.args.reached in
    let start = c.is_idle-idle.new.p in
    let same = c.is_idle-idle.ensures.same in
    let in_run = same ∙ c.requires.in_run in
    let living = ap (λ (x : Kernel). x.machine.killed) same ∙ c.requires.alive in
    let handled = c.write_items.new.p in
    let state = c.write_items.ensures.state in
    let alive_now = sym c.is_killed.ensures ∙ c.if-is_killed.false in
    let stands = c.write_items.ensures.stood in
    let still = c.write_items.ensures.quiet in
    let prepared = c.write_dispatch-to.new.p in
    let given = c.write_dispatch-to.ensures.state in
    let text = g.K.Sink.text in
    let faults = g.K.Sink.faults in
    let at_head = there s f at start in_run living handled state alive_now stands still prepared given in
    let going = runs s f at start in_run living handled state alive_now stands still prepared given in
    let is_near = c.ticks_to_next-near.ensures in
    let most = c.most_at_once-most.result in
    let near_most = most_near (agenda prepared.machine) prepared.machine.now most in
    let within = c.most_at_once-most.ensures.within in
    let some_most = c.most_at_once-most.ensures.some in
    let fewer = c.ticks_in_unit-at_once.ensures in
    let t = c.in-Some.t in
    let short = c.ticks_in_unit-at_once.result in
    let j = c.write_ticks-failed.result.0.ticks in
    let top = sym c.in-Some.is ∙ c.write_dispatch-to.ensures.top in
    let whom = is_top s f at.done start in_run handled state prepared given (Some t) top in
    let lasts = c.write_ticks-failed.ensures.long in
    let few : j ≤ max 1 short = omega (arith, lasts) in
    let reach : 2 ≤ short → short ≤ ticks_to_next most (p s f at.done).machine.now (agenda (p s f at.done).machine) =
    λ long. subst (λ (x : Kernel). short ≤ ticks_to_next most x.machine.now (agenda x.machine)) at_head (omega (arith, is_near, fewer)) in
    let long = long_by_thread s f at.done going t (sym whom) short most j (lasts ∙ ap (leap_of short t) at_head) reach in
    let single : c.is_calm-calm.result ≡ false → j ≡ 1 = λ e. (let one = c.most_at_once-most.ensures.one e in omega (arith, is_near, near_most, fewer, lasts, one)) in
    let fourth = ends_written s f at.done start in_run handled state prepared given (Some t) top text faults j c.write_changed.new.sink c.write_ticks-failed.new.sink c.write_ticks-failed.result.1 c.write_ticks-failed.ensures.told in
    let is_rest_is : c.is_calm-calm.result ≡ is_rest s at = c.is_calm-calm.ensures.whenever ∙ ap (λ (b : Bool). at.is_quiet && b) c.is_idle-idle.ensures.whenever ∙ ap (λ (x : Kernel). at.is_quiet && not (has_item x.machine)) c.requires.in_run in
    let calm = c.is_calm-calm.result in
    let step = c.write_ticks-failed.ensures.step in
    let quiet = c.is_quiet_tick.result in
    let living' = lives s f at.done c.args.p.now c.requires.in_run c.requires.alive in
    let by_calm : (b : Bool) → calm ≡ b → 1 + steps_left s (record { done = at.done + j; left = at.left - j; is_quiet = quiet }) ≤ steps_left s at =
    λ b. elim b as (λ k. calm ≡ k → 1 + steps_left s (record { done = at.done + j; left = at.left - j; is_quiet = quiet }) ≤ steps_left s at) [
      | true ↦ λ e. (let all = c.most_at_once-most.ensures.all e in
          let none : next_item (m s f at.done) ≡ None = ap (λ (x : Kernel). next_item x.machine) (sym in_run ∙ same) ∙ c.is_idle-idle.ensures.idle (c.is_calm-calm.ensures.idle e) in
          let in_unit = midst s f at.done living' (c.requires.after_quiet (c.is_calm-calm.ensures.after e)) none t (sym whom) in
          let over : quiet ≡ false = c.is_quiet_tick.ensures ∙ no_more c.write_ticks-failed.result.0.is_quiet calm e in
          subst (λ (b : Bool). 1 + steps_left s (record { done = at.done + j; left = at.left - j; is_quiet = b }) ≤ steps_left s at) (sym over)
          (rest_step s f at c.requires.some (sym is_rest_is ∙ e) j (sym (whole_thread s f at.done going t (sym whom) c.ticks_to_next-near.result at.left j in_unit.0 in_unit.1
          (subst (λ (n : ℕ). c.ticks_to_next-near.result ≡ ticks_to_next n (p s f at.done).machine.now (agenda (p s f at.done).machine)) all (is_near ∙ ap (λ (x : Kernel). ticks_to_next most x.machine.now (agenda x.machine)) at_head))
          (lasts ∙ ap (λ (i : ℕ). leap_of i t prepared) fewer ∙ ap (λ (x : Kernel). leap_of (min c.ticks_to_next-near.result (max 1 (top_left (thread_at x.machine t).frames))) t x) at_head)))))
      | false ↦ λ e. (let one = c.most_at_once-most.ensures.one e in
          let few_near : short ≤ 1 = omega (arith, is_near, near_most, fewer, one) in
          subst (λ (i : ℕ). 1 + steps_left s (record { done = at.done + i; left = at.left - i; is_quiet = quiet }) ≤ steps_left s at) (sym (single e))
          (first_step s f at c.requires.some (sym is_rest_is ∙ e) quiet (λ two. c.is_quiet_tick.ensures ∙ both_true c.write_ticks-failed.result.0.is_quiet calm
          (c.write_ticks-failed.ensures.each_quiet_tick few_near (subst (λ (x : Kernel). is_blocked (thread_at x.machine t).status ≡ false) (sym at_head) (thread_runs s f at.done going t (sym whom)))
          (subst (λ (x : Kernel). IsQuietTick (flat_bodies x.code) x.machine.quantum (thread_at x.machine t)) (sym at_head) (thread_quiet s f at.done going t (sym whom) (quiet_tick s f at c.requires.some two)))) e)))
    ] in
    let left = by_calm calm refl in
    subst (λ (r : Reached). c.write_ticks-failed.new.steps + steps_left s r ≤ c.args.steps.now + steps_left s at) (sym c.after-2.ensures) (omega (arith, left, step))
