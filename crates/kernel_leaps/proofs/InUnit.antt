-- A leap of a thread within the unit that it is in, and how long it is.
use Rattle.std.proofs.Common.{Bool, List, None, Option, Some, [], ◌∷◌, ap, arith, false, refl, suc, sym, true, zero, ℕ, ◌∙◌, ◌<◌, ◌≤◌, ◌≡◌, subst}
use Rattle.std.specs.Prelude.{max, min, not, ◌+◌, ◌-◌, ◌==◌, ◌&&◌, ◌||◌, if◌then◌else◌}
use Rattle.words_script.specs.declared.policy.Policy.{Policy}
use Rattle.words_script.specs.declared.policy.Policy.TheVariants as policy
use Rattle.rules_server.specs.Server.{ServerState, charge_ticks, is_high}
use Rattle.rules_bodies.specs.declared.cursor.Cursor.{Cursor}
use Rattle.rules_machine.specs.Agenda.{Coming}
use Rattle.rules_machine.specs.Bodies.{Bodies}
use Rattle.rules_machine.specs.Eventful.{tick_matters}
use Rattle.rules_machine.specs.Servers.{has_high}
use Rattle.rules_machine.specs.State.{Frame, Thread}
use Rattle.rules_machine.specs.Threads.{is_blocked, thread_at, top_left}
use Rattle.rules_moves.proofs.Runs.Ticks.{in_unit_status}
use Rattle.rules_machine.specs.Ticks.{capacity_in, slice_is_used, tick_charged}
use Rattle.rules_machine.specs.Units.{in_unit}
use Rattle.rules_leaps.specs.Leap.{capacity_left, slice_left, thread_lasts, ticks_to_next}
use Rattle.rules_leaps.specs.Quiet.{after_ticks, frames_after}
use Rattle.laws_leaps.proofs.Leaps.Lengths.{thread_ends}
use Rattle.laws_leaps.proofs.Quiet.Once.{StaysHigh, charged_is, in_unit_on}
use Rattle.kernel_threads.specs.Lasting.{lasts_by, used_up}
use Rattle.rules_bodies.specs.declared.op.Op.{Op}
use Rattle.rules_bodies.specs.Flat.{NumberedBodies}
use Rattle.rules_flat_code.specs.FlatBodies.{flat_bodies}
use Rattle.kernel_threads.specs.declared.ran.Ran.{Ran}
use Rattle.kernel_threads.specs.Running.{ArePassed, HasRun, all_of, only_takes_time, past, run_for}
use Rattle.script_code.specs.Fetched.{unit_of}
use Rattle.laws_detail.specs.Rests.{OnlyTakeTime, spent_by}
use Rattle.kernel_state.specs.Kernel.{Kernel}
use Rattle.kernel_leaps.specs.Passing.{IsQuietTick, PassesNoUnit}
use Rattle.kernel_leaps.proofs.Onward.{does_nothing, first_no, second_no}

-- ---- no unit is passed

frames_left : (k : ℕ) (fs : List (Frame Cursor)) → k < top_left fs → (top_left (frames_after k fs) == 0) ≡ false
frames_left k [] lt = absurd (omega arith)
frames_left k (f ∷ fs) lt = left f.left lt
  where
    left : (n : ℕ) → k < n → (n - k == 0) ≡ false
    left n lt = grind arith

unlike : (a b c : Bool) → a ≡ false → (b || c) ≡ false → (a || b || c) ≡ true → ⊥
unlike a b c e f g = grind arith

-- where the ticks are no more than are left of the unit
pub passes_none : (bodies : Bodies Cursor) (near quantum : ℕ) (units : List ℕ) (th : Thread Cursor) → th.slice < quantum → near ≤ top_left th.frames → ArePassed bodies near quantum units th → units ≡ []
passes_none bodies near quantum [] th room le h = refl
passes_none bodies near quantum (k ∷ ks) th room le h = absurd (by_left (top_left th.frames) refl)
  where
    by_left : (l : ℕ) → top_left th.frames ≡ l → ⊥
    by_left zero e = (let within = h.0.within in omega (arith, within, le, e))
    by_left (suc l) e =
        let same : (in_unit bodies th).thread ≡ th = in_unit_on bodies th l e in
        let long : k ≡ lasts_by near quantum th = h.0.long ∙ ap (lasts_by near quantum) same in
        let within = h.0.within in
        let ends : tick_matters (has_high th.server) quantum (after_ticks k th) ≡ true = thread_ends near k quantum th room (omega (arith, long, within)) (omega (arith, long, within)) (omega (arith, long, within)) in
        let left : used_up (has_high th.server) quantum (after_ticks k th) ≡ false = subst (λ (x : Thread Cursor). used_up (has_high th.server) quantum (after_ticks k x) ≡ false) same h.0.left in
        unlike (top_left (after_ticks k th).frames == 0) (slice_is_used (after_ticks k th).policy (after_ticks k th).slice quantum) (has_high th.server && capacity_in (after_ticks k th).server == 0) (frames_left k th.frames (omega (arith, within, le))) left ends

-- ---- how long it is

ticks_near : (comings : List Coming) (most now j : ℕ) → j ≤ ticks_to_next most now comings → j ≤ ticks_to_next j now comings
ticks_near [] most now j le = omega arith
ticks_near (c ∷ comings) most now j le = (let rest = ticks_near comings most now j (omega (arith, le)) in omega (arith, rest, le))

slice_near : (near quantum j : ℕ) (p : Policy) (slice : ℕ) → j ≤ slice_left near quantum p slice → j ≤ slice_left j quantum p slice
slice_near near quantum j (policy.Fifo p) slice le = omega arith
slice_near near quantum j (policy.Rr p) slice le = le
slice_near near quantum j (policy.Sporadic params) slice le = omega arith
slice_near near quantum j (policy.Strict params) slice le = omega arith

capacity_near : (near j : ℕ) (o : Option ServerState) → j ≤ capacity_left near o → j ≤ capacity_left j o
capacity_near near j None le = omega arith
capacity_near near j (Some s) le = by_high (is_high s) le
  where
    by_high : (b : Bool) → j ≤ (if b then s.capacity else near) → j ≤ (if b then s.capacity else j)
    by_high true le = le
    by_high false le = omega arith

lasts_near : (near quantum j : ℕ) (th : Thread Cursor) → j ≤ thread_lasts near quantum th → j ≤ thread_lasts j quantum th
lasts_near near quantum j th le =
    let slice = slice_near near quantum j th.policy th.slice (omega (arith, le)) in
    let capacity = capacity_near near j th.server (omega (arith, le)) in
    omega (arith, le, slice, capacity)

pub most_near : (comings : List Coming) (now j : ℕ) → ticks_to_next j now comings ≤ j
most_near [] now j = omega arith
most_near (c ∷ comings) now j = (let rest = most_near comings now j in omega (arith, rest))

-- up to the nearest due tick so many ticks are as many
pub ticks_same : (comings : List Coming) (most now j : ℕ) → j ≤ ticks_to_next most now comings → ticks_to_next j now comings ≡ j
ticks_same comings most now j le = (let low = ticks_near comings most now j le in let high = most_near comings now j in omega (arith, low, high))

-- as long as it may be: to the nearest due tick, and as the thread lasts
pub thread_long : (near quantum left now j : ℕ) (comings : List Coming) (th : Thread Cursor) → j ≡ lasts_by near quantum th → (2 ≤ near → near ≤ ticks_to_next left now comings)
    → max 1 (min j (min (ticks_to_next j now comings) (thread_lasts j quantum th))) ≡ j
thread_long near quantum left now zero comings th is reach = absurd (omega (arith, is))
thread_long near quantum left now (suc zero) comings th is reach = omega arith
thread_long near quantum left now (suc (suc i)) comings th is reach =
    let due = ticks_near comings left now (suc (suc i)) (let far = reach (omega (arith, is)) in omega (arith, is, far)) in
    let lasts = lasts_near near quantum (suc (suc i)) th (omega (arith, is)) in
    omega (arith, due, lasts)

pub idle_long : (near left now j : ℕ) (comings : List Coming) → j ≡ max 1 near → (2 ≤ near → near ≤ ticks_to_next left now comings) → max 1 (min j (min (ticks_to_next j now comings) j)) ≡ j
idle_long near left now zero comings is reach = absurd (omega (arith, is))
idle_long near left now (suc zero) comings is reach = omega arith
idle_long near left now (suc (suc i)) comings is reach =
    let due = ticks_near comings left now (suc (suc i)) (let far = reach (omega (arith, is)) in omega (arith, is, far)) in
    omega (arith, due)

-- ---- one tick

stays_high : (o : Option ServerState) → StaysHigh 1 o
stays_high None = tt
stays_high (Some s) = λ e i small. by_number i small e
  where
    by_number : (i : ℕ) → i < 1 → is_high s ≡ true → is_high (charge_ticks i s) ≡ true
    by_number zero small e = e
    by_number (suc i) small e = absurd (omega arith)

-- a tick's charge is that of one tick
pub one_charge : (th : Thread Cursor) → tick_charged th ≡ after_ticks 1 th
one_charge th = charged_is 1 th (stays_high th.server)

-- one tick passes no unit
pub tick_passes_none : (bodies : Bodies Cursor) (near quantum : ℕ) (units : List ℕ) (th : Thread Cursor) → near ≤ 1 → ArePassed bodies near quantum units th → units ≡ []
tick_passes_none bodies near quantum [] th le h = refl
tick_passes_none bodies near quantum (k ∷ ks) th le h = (let long = h.0.long in let within = h.0.within in absurd (omega (arith, long, within, le)))

-- what a thread has run for one tick tells whether the tick is a quiet one
module _ (code : NumberedBodies (List Op)) (near quantum : ℕ) (ran : Ran) (old new : Thread Cursor) (before now : ℕ) (h : HasRun code near quantum ran old new before now) (one : near ≤ 1) where
  abbrev bodies : Bodies Cursor
  bodies = flat_bodies code

  none : h.units ≡ []
  none = tick_passes_none bodies near quantum h.units old one h.each

  ticks : ran.ticks ≡ 1
  ticks = (let is = h.ticks in omega (arith, is, one))

  one_tick : new ≡ tick_charged (in_unit bodies old).thread
  one_tick =
      h.thread
      ∙ ap (λ (units : List ℕ). run_for bodies ran.ticks (past bodies units old)) none
      ∙ ap (λ (j : ℕ). run_for bodies j old) ticks
      ∙ sym (one_charge (in_unit bodies old).thread)

  same_tick : (now_quantum : ℕ) → now_quantum ≡ quantum → tick_matters (has_high old.server) quantum (tick_charged (in_unit bodies old).thread) ≡ tick_matters ran.was_high now_quantum new
  same_tick now_quantum same =
      ap (λ (w : Bool). tick_matters w quantum (tick_charged (in_unit bodies old).thread)) (sym h.high)
      ∙ ap (λ (x : Thread Cursor). tick_matters ran.was_high quantum x) (sym one_tick)
      ∙ ap (λ (q : ℕ). tick_matters ran.was_high q new) (sym same)

pub quiet_of : (code : NumberedBodies (List Op)) (near quantum now_quantum : ℕ) (ran : Ran) (old new : Thread Cursor) (before now : ℕ) → HasRun code near quantum ran old new before now → near ≤ 1 → now_quantum ≡ quantum
    → tick_matters ran.was_high now_quantum new ≡ false → IsQuietTick (flat_bodies code) quantum old
quiet_of code near quantum now_quantum ran old new before now h one same quiet = same_tick code near quantum ran old new before now h one now_quantum same ∙ quiet

pub matters_of : (code : NumberedBodies (List Op)) (near quantum now_quantum : ℕ) (ran : Ran) (old new : Thread Cursor) (before now : ℕ) → HasRun code near quantum ran old new before now → near ≤ 1 → now_quantum ≡ quantum
    → IsQuietTick (flat_bodies code) quantum old → tick_matters ran.was_high now_quantum new ≡ false
matters_of code near quantum now_quantum ran old new before now h one same quiet = sym (same_tick code near quantum ran old new before now h one now_quantum same) ∙ quiet

-- and the thread stands as it stood
pub not_blocked : (code : NumberedBodies (List Op)) (near quantum : ℕ) (ran : Ran) (old new : Thread Cursor) (before now : ℕ) → HasRun code near quantum ran old new before now → near ≤ 1 → is_blocked old.status ≡ false → is_blocked new.status ≡ false
not_blocked code near quantum ran old new before now h one runs =
    ap (λ (x : Thread Cursor). is_blocked x.status) (one_tick code near quantum ran old new before now h one)
    ∙ ap is_blocked (in_unit_status (flat_bodies code) old)
    ∙ runs

-- whether what it has run neither completes a unit nor uses anything up
both_not : (saves complete left slice full : Bool) → (saves && not complete) ≡ true → complete ≡ left → (saves ≡ true → (slice || full) ≡ false) → (left || slice || full) ≡ false
both_not true true left slice full quiet same sure = absurd (grind arith)
both_not true false left slice full quiet same sure = ap (λ (b : Bool). b || slice || full) (sym same) ∙ sure refl
both_not false complete left slice full quiet same sure = absurd (grind arith)

pub not_quiet : (saves complete was_high : Bool) (quantum : ℕ) (th : Thread Cursor) → (saves && not complete) ≡ true → complete ≡ (top_left th.frames == 0) → (saves ≡ true → used_up was_high quantum th ≡ false)
    → tick_matters was_high quantum th ≡ false
not_quiet saves complete was_high quantum th = both_not saves complete (top_left th.frames == 0) (slice_is_used th.policy th.slice quantum) (was_high && capacity_in th.server == 0)

both_so : (saves complete left slice full : Bool) → (left || slice || full) ≡ false → complete ≡ left → ((slice || full) ≡ false → saves ≡ true) → (saves && not complete) ≡ true
both_so saves complete true slice full none same whenever = absurd (grind arith)
both_so saves complete false slice full none same whenever = ap (λ (b : Bool). saves && not b) same ∙ ap (λ (b : Bool). b && true) (whenever none)

pub so_quiet : (saves complete was_high : Bool) (quantum : ℕ) (th : Thread Cursor) → tick_matters was_high quantum th ≡ false → complete ≡ (top_left th.frames == 0) → (used_up was_high quantum th ≡ false → saves ≡ true)
    → (saves && not complete) ≡ true
so_quiet saves complete was_high quantum th = both_so saves complete (top_left th.frames == 0) (slice_is_used th.policy th.slice quantum) (was_high && capacity_in th.server == 0)

-- what a thread has run that passed no unit tells whether its ticks only take time
module _ (p : Kernel) (t near : ℕ) (ran : Ran) (new : Thread Cursor) (before now : ℕ) (h : HasRun p.code near p.machine.quantum ran (thread_at p.machine t) new before now) (none : PassesNoUnit near t p) where
  old : Thread Cursor
  old = thread_at p.machine t

  no_units : h.units ≡ []
  no_units = none h.units h.each

  all_ticks : ran.passed + ran.ticks ≡ ran.ticks
  all_ticks = (let zero : ran.passed ≡ 0 = h.passed ∙ ap all_of no_units in omega (arith, zero))

  has_spent : new ≡ spent_by (flat_bodies p.code) (ran.passed + ran.ticks) (thread_at p.machine t)
  has_spent =
      h.thread
      ∙ ap (λ (units : List ℕ). run_for (flat_bodies p.code) ran.ticks (past (flat_bodies p.code) units (thread_at p.machine t))) no_units
      ∙ ap (λ (j : ℕ). spent_by (flat_bodies p.code) j (thread_at p.machine t)) (sym all_ticks)

  unit_is : unit_of p.code ran.unit ≡ (in_unit (flat_bodies p.code) (thread_at p.machine t)).unit
  unit_is = h.unit ∙ ap (λ (units : List ℕ). (in_unit (flat_bodies p.code) (past (flat_bodies p.code) units (thread_at p.machine t))).unit) no_units

  pub takes_time : (quantum : ℕ) → quantum ≡ p.machine.quantum → only_takes_time (unit_of p.code ran.unit) ≡ true → used_up ran.was_high quantum new ≡ false → OnlyTakeTime (flat_bodies p.code) (ran.passed + ran.ticks) t p.machine
  takes_time quantum same unit used =
      let over : used_up (has_high (thread_at p.machine t).server) p.machine.quantum (spent_by (flat_bodies p.code) (ran.passed + ran.ticks) (thread_at p.machine t)) ≡ false =
      ap (λ (x : Thread Cursor). used_up (has_high (thread_at p.machine t).server) p.machine.quantum x) (sym has_spent)
      ∙ ap (λ (w : Bool). used_up w p.machine.quantum new) (sym h.high)
      ∙ ap (λ (q : ℕ). used_up ran.was_high q new) (sym same)
      ∙ used in
      let spent = spent_by (flat_bodies p.code) (ran.passed + ran.ticks) (thread_at p.machine t) in
      record {
        idle = does_nothing (flat_bodies p.code) t (in_unit (flat_bodies p.code) (thread_at p.machine t)).unit (sym (ap only_takes_time unit_is) ∙ unit);
        interval = first_no (slice_is_used spent.policy spent.slice p.machine.quantum) (has_high (thread_at p.machine t).server && capacity_in spent.server == 0) over;
        capacity = second_no (slice_is_used spent.policy spent.slice p.machine.quantum) (has_high (thread_at p.machine t).server && capacity_in spent.server == 0) over;
      }
