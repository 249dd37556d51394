-- What one tick does with a strict server.
use Rattle.std.proofs.Common.{◌≡◌, ℕ, zero, suc, ◌+◌, ◌≤◌, Bool, true, false, Option, None, Some, refl, arith}
use Rattle.std.specs.Prelude.{not, ◌||◌, ◌==◌}
use Rattle.rules_server.specs.Server.{ServerState, charge, replenishment, has_room}
use Rattle.laws_strict_server.specs.Instants.{ended, is_high, is_open, opened, opens_if, plans_if, sets_high}
use Rattle.laws_strict_server.proofs.Sums.{early, planned_early, planned_total, total}

-- What a server is at each instant: the budget adds up, and an open run is one of consecutive ticks, the last of them just before.
pub record Standing (now : ℕ) (s : ServerState) : Type 0 where
  pub within : s.params.budget ≤ s.params.period
  pub budget : s.capacity + total s.pending + s.consumed ≡ s.params.budget
  pub run : 1 ≤ s.consumed → s.activation + s.consumed ≡ now
  pub capacity : 1 ≤ s.consumed → 1 ≤ s.capacity

-- whatever is planned from now on is due at d or later
pub record Late (d now : ℕ) (s : ServerState) : Type 0 where
  pub coming : d ≤ now + s.params.period
  pub of_run : 1 ≤ s.consumed → d ≤ s.activation + s.params.period

-- what a tick, or a part of it, does with the server; h is 1 where the tick is at the high priority
pub record Ticked (now h : ℕ) (s s' : ServerState) : Type 0 where
  pub standing : Standing (now + 1) s'
  pub period : s'.params.period ≡ s.params.period
  pub budget : s'.params.budget ≡ s.params.budget
  pub late : (d : ℕ) → Late d now s → Late d (now + 1) s'
  -- what is used, and what can be used before d, is never more than before
  pub spent : (d : ℕ) → Late d now s → h + s'.capacity + early d s'.pending ≤ s.capacity + early d s.pending

-- ---- a tick in which the thread is not the head

pub rested : (b : Bool) (now : ℕ) (s : ServerState) → is_open s ≡ b → Standing now s → Ticked now 0 s (plans_if b s)
rested true now s is ok =
    let some : 1 ≤ s.consumed = grind arith in
    let r = replenishment s in
    let sums = planned_total (not (has_room s)) r s.pending in
    record {
      standing = record { within = ok.within; budget = omega (arith, ok.budget, sums); run = λ c. absurd (omega arith); capacity = λ c. absurd (omega arith) };
      period = refl;
      budget = refl;
      late = λ d h. record { coming = omega (arith, h.coming); of_run = λ c. absurd (omega arith) };
      spent = λ d h. let e = planned_early (not (has_room s)) d r s.pending (h.of_run some) in omega arith;
    }
rested false now s is ok =
    let none : s.consumed ≡ 0 = grind arith in
    record {
      standing = record { within = ok.within; budget = ok.budget; run = λ c. absurd (omega arith); capacity = λ c. absurd (omega arith) };
      period = refl;
      budget = refl;
      late = λ d h. record { coming = omega (arith, h.coming); of_run = λ c. absurd (omega arith) };
      spent = λ d h. omega arith;
    }

-- ---- a tick of the head at its low priority

no_run : (consumed capacity : ℕ) → (1 ≤ consumed → 1 ≤ capacity) → capacity ≡ 0 → consumed ≡ 0
no_run zero capacity some none = refl
no_run (suc n) capacity some none = let c = some (omega arith) in absurd (omega arith)

pub low : (now : ℕ) (s : ServerState) → is_high s ≡ false → Standing now s → Ticked now 0 s s
low now s is ok =
    let none : s.capacity ≡ 0 = grind arith in
    let idle : s.consumed ≡ 0 = no_run s.consumed s.capacity ok.capacity none in
    record {
      standing = record { within = ok.within; budget = ok.budget; run = λ c. absurd (omega arith); capacity = λ c. absurd (omega arith) };
      period = refl;
      budget = refl;
      late = λ d h. record { coming = omega (arith, h.coming); of_run = λ c. absurd (omega arith) };
      spent = λ d h. omega arith;
    }

-- ---- a tick of the head at its high priority

-- The run is open, from now on or from before.
record Running (now : ℕ) (s s' : ServerState) : Type 0 where
  params : s'.params ≡ s.params
  capacity : s'.capacity ≡ s.capacity
  consumed : s'.consumed ≡ s.consumed
  pending : s'.pending ≡ s.pending
  run : s'.activation + s'.consumed ≡ now
  late : (d : ℕ) → Late d now s → d ≤ s'.activation + s.params.period

runs : (b : Bool) (now : ℕ) (s : ServerState) → is_open s ≡ b → Standing now s → Running now s (opens_if (not b) now s)
runs true now s is ok =
    let some : 1 ≤ s.consumed = grind arith in
    record { params = refl; capacity = refl; consumed = refl; pending = refl; run = ok.run some; late = λ d h. h.of_run some }
runs false now s is ok =
    let none : s.consumed ≡ 0 = grind arith in
    record { params = refl; capacity = refl; consumed = refl; pending = refl; run = omega arith; late = λ d h. h.coming }

-- the tick is charged, and the run goes on or is closed
used : (b blocks : Bool) (now : ℕ) (s s' : ServerState) → 1 ≤ s.capacity → (blocks || (charge s').capacity == 0) ≡ b → Standing now s → Running now s s' →
    Ticked now 1 s (plans_if b (charge s'))
used true blocks now s s' some is ok run =
    let r = replenishment (charge s') in
    let sums = planned_total (not (has_room (charge s'))) r s'.pending in
    let same : total s'.pending ≡ total s.pending = rw run.pending refl in
    let params : s'.params.budget ≡ s.params.budget = rw run.params refl in
    let periods : s'.params.period ≡ s.params.period = rw run.params refl in
    record {
      standing = record {
        within = omega (arith, ok.within);
        budget = omega (arith, ok.budget, sums, run.capacity, run.consumed);
        run = λ c. absurd (omega arith);
        capacity = λ c. absurd (omega arith);
      };
      period = periods;
      budget = params;
      late = λ d h. record { coming = omega (arith, h.coming); of_run = λ c. absurd (omega arith) };
      spent = λ d h.
          let due : d ≤ r.due = omega (arith, run.late d h) in
          let e = planned_early (not (has_room (charge s'))) d r s'.pending due in
          let f : early d s'.pending ≡ early d s.pending = rw run.pending refl in
          omega (arith, run.capacity);
    }
used false blocks now s s' some is ok run =
    let same : total s'.pending ≡ total s.pending = rw run.pending refl in
    let params : s'.params.budget ≡ s.params.budget = rw run.params refl in
    let periods : s'.params.period ≡ s.params.period = rw run.params refl in
    let left : 1 ≤ (charge s').capacity = grind arith in
    record {
      standing = record {
        within = omega (arith, ok.within);
        budget = omega (arith, ok.budget, run.capacity, run.consumed);
        run = λ c. omega (arith, run.run);
        capacity = λ c. left;
      };
      period = periods;
      budget = params;
      late = λ d h. record { coming = omega (arith, h.coming); of_run = λ c. omega (arith, run.late d h) };
      spent = λ d h.
          let f : early d s'.pending ≡ early d s.pending = rw run.pending refl in
          omega (arith, run.capacity);
    }

pub high : (blocks : Bool) (now : ℕ) (s : ServerState) → is_high s ≡ true → Standing now s → Ticked now 1 s (ended true blocks (charge (opened true now s)))
high blocks now s is ok =
    used (blocks || (charge (opened true now s)).capacity == 0) blocks now s (opened true now s) (grind arith) refl ok (runs (is_open s) now s refl ok)

-- ---- another high priority

pub priced : (x : Option ℕ) (now h : ℕ) (s s' : ServerState) → Ticked now h s s' → Ticked now h s (sets_high x s')
priced None now h s s' t = t
priced (Some p) now h s s' t = record {
  standing = record { within = t.standing.within; budget = t.standing.budget; run = t.standing.run; capacity = t.standing.capacity };
  period = t.period;
  budget = t.budget;
  late = λ d l. let r = t.late d l in record { coming = r.coming; of_run = r.of_run };
  spent = t.spent;
}

-- It does not matter whether the run is closed before or after.
pub ends_priced : (x : Option ℕ) (b : Bool) (s : ServerState) → plans_if b (sets_high x s) ≡ sets_high x (plans_if b s)
ends_priced None b s = refl
ends_priced (Some p) true s = refl
ends_priced (Some p) false s = refl
