-- The window of a strict server.
use Rattle.std.proofs.Common.{◌≡◌, ℕ, ◌+◌, ◌-◌, ◌<◌, ◌≤◌, Bool, true, false, Option, None, Some, List, [], ◌∷◌, length, refl, arith, subst, sym}
use Rattle.std.specs.Prelude.{nat_lt, ◌&&◌, ◌||◌, ◌==◌}
use Rattle.std.proofs.lemmas.Grind.{common_steps}
use Rattle.words_numbers.specs.Parameters.{Parameters, AreParameters}
use Rattle.rules_server.specs.declared.ServerKind.TheVariants as kind
use Rattle.rules_server.specs.Server.{ServerState, charge, new_server_as}
use Rattle.laws_strict_server.specs.Instants.{Step, after, charges_if, closed, ended, high_ticks, is_high, is_open, one_if, opened, plans_if, ready, runs_high, sets_high, ticked}
use Rattle.laws_strict_server.proofs.Sums.{early, early_le_total, refilled_is, total}
use Rattle.laws_strict_server.proofs.Parts.{Late, Standing, Ticked, ends_priced, high, low, priced, rested}

-- ---- one tick

pub ended_priced : (x : Option ℕ) (b blocks : Bool) (s : ServerState) → sets_high x (ended b blocks s) ≡ ended b blocks (sets_high x s)
ended_priced None b blocks s = refl
ended_priced (Some p) b blocks s = sym (ends_priced (Some p) (b && (blocks || s.capacity == 0)) s)

abbrev parts : Bool → Bool → Bool → Option ℕ → ℕ → ServerState → ServerState
parts head b blocks x now s = ended (head && b) blocks (sets_high x (charges_if (head && b) (opened (head && b) now (closed head s))))

parts_are : (head b blocks : Bool) (x : Option ℕ) (now : ℕ) (s : ServerState) → is_high s ≡ b → Standing now s →
    Ticked now (one_if (head && b)) s (parts head b blocks x now s)
parts_are false b blocks x now s is ok = priced x now 0 s (plans_if (is_open s) s) (rested (is_open s) now s refl ok)
parts_are true false blocks x now s is ok = priced x now 0 s s (low now s is ok)
parts_are true true blocks x now s is ok =
    let done = charge (opened true now s) in
    subst (λ (s' : ServerState). Ticked now 1 s s') (ended_priced x true blocks done) (priced x now 1 s (ended true blocks done) (high blocks now s is ok))

pub ready_stands : (now : ℕ) (s : ServerState) → Standing now s → Standing now (ready now s)
ready_stands now s ok =
    let fits : s.capacity + total s.pending ≤ s.params.budget = omega (arith, ok.budget) in
    let r = refilled_is now s fits in
    let budgets : (ready now s).params.budget ≡ s.params.budget = rw r.params refl in
    let periods : (ready now s).params.period ≡ s.params.period = rw r.params refl in
    record {
      within = omega (arith, ok.within);
      budget = omega (arith, ok.budget, r.sum, r.consumed);
      run = λ c. let e = ok.run (omega (arith, r.consumed)) in omega (arith, r.consumed, r.activation);
      capacity = λ c. let e = ok.capacity (omega (arith, r.consumed)) in omega (arith, r.grows);
    }

ready_late : (d now : ℕ) (s : ServerState) → Standing now s → Late d now s → Late d now (ready now s)
ready_late d now s ok late =
    let fits : s.capacity + total s.pending ≤ s.params.budget = omega (arith, ok.budget) in
    let r = refilled_is now s fits in
    let periods : (ready now s).params.period ≡ s.params.period = rw r.params refl in
    record {
      coming = omega (arith, late.coming);
      of_run = λ c. let e = late.of_run (omega (arith, r.consumed)) in omega (arith, r.activation);
    }

-- what one tick does with the server
pub record Done (now h : ℕ) (s s' : ServerState) : Type 0 where
  pub standing : Standing (now + 1) s'
  pub period : s'.params.period ≡ s.params.period
  pub budget : s'.params.budget ≡ s.params.budget
  pub late : (d : ℕ) → Late d now s → Late d (now + 1) s'
  pub spent : (d : ℕ) → now < d → Late d now s → h + s'.capacity + early d s'.pending ≤ s.capacity + early d s.pending

pub tick_done : (x : Step) (now : ℕ) (s : ServerState) → Standing now s → Done now (one_if (runs_high x now s)) s (ticked x now s)
tick_done x now s ok =
    let fits : s.capacity + total s.pending ≤ s.params.budget = omega (arith, ok.budget) in
    let r = refilled_is now s fits in
    let t = parts_are x.is_head (is_high (ready now s)) x.blocks x.priority now (ready now s) refl (ready_stands now s ok) in
    let budgets : (ready now s).params.budget ≡ s.params.budget = rw r.params refl in
    let periods : (ready now s).params.period ≡ s.params.period = rw r.params refl in
    record {
      standing = t.standing;
      period = omega (arith, t.period);
      budget = omega (arith, t.budget);
      late = λ d h. t.late d (ready_late d now s ok h);
      spent = λ d lt h.
          let e = t.spent d (ready_late d now s ok h) in
          let f = r.spent d lt in
          omega arith;
    }

-- ---- many ticks

pub one_at_most : (b : Bool) → one_if b ≤ 1
one_at_most true = omega arith
one_at_most false = omega arith

few : (xs : List Step) (now : ℕ) (s : ServerState) → high_ticks xs now s ≤ length xs
few [] now s = omega arith
few (x ∷ xs) now s =
    let ih = few xs (now + 1) (ticked x now s) in
    let one = one_at_most (runs_high x now s) in
    omega arith

-- Before d only what can be used and what is due early is used, and from d on no more than there are ticks.
pub counted : (xs : List Step) (d now : ℕ) (s : ServerState) → Standing now s → Late d now s →
    high_ticks xs now s ≤ s.capacity + early d s.pending + (now + length xs - d)
counted [] d now s ok late = omega arith
counted (x ∷ xs) d now s ok late =
    let t = tick_done x now s ok in
    of_two (nat_lt now d) refl t (counted xs d (now + 1) (ticked x now s) t.standing (t.late d late))
  where
    of_two : (b : Bool) → nat_lt now d ≡ b → Done now (one_if (runs_high x now s)) s (ticked x now s) →
        high_ticks xs (now + 1) (ticked x now s) ≤ (ticked x now s).capacity + early d (ticked x now s).pending + (now + 1 + length xs - d) →
        high_ticks (x ∷ xs) now s ≤ s.capacity + early d s.pending + (now + length (x ∷ xs) - d)
    of_two true before t rest =
        let lt : now < d = grind arith in
        let e = t.spent d lt late in
        omega arith
    of_two false before t rest =
        let ge : d ≤ now = grind arith in
        let e = few (x ∷ xs) now s in
        omega arith

-- ---- the window

-- the ticks of one period from any instant on
pub window_at : (xs : List Step) (now : ℕ) (s : ServerState) → Standing now s → length xs ≤ s.params.period →
    high_ticks xs now s ≤ s.params.budget
window_at xs now s ok short =
    let d : ℕ = now + s.params.period - s.consumed in
    let late : Late d now s = record { coming = omega arith; of_run = λ c. let e = ok.run c in omega arith } in
    let e = counted xs d now s ok late in
    let f = early_le_total d s.pending in
    omega (arith, ok.budget, ok.within)

pub after_stands : (xs : List Step) (now : ℕ) (s : ServerState) → Standing now s → Standing (now + length xs) (after xs now s)
after_stands [] now s ok = subst (λ (n : ℕ). Standing n s) (omega arith) ok
after_stands (x ∷ xs) now s ok =
    let t = tick_done x now s ok in
    subst (λ (n : ℕ). Standing n (after xs (now + 1) (ticked x now s))) (omega arith) (after_stands xs (now + 1) (ticked x now s) t.standing)

-- what the parameters were when the server was new
record SameParameters (s s' : ServerState) : Type 0 where
  period : s'.params.period ≡ s.params.period
  budget : s'.params.budget ≡ s.params.budget

after_same : (xs : List Step) (now : ℕ) (s : ServerState) → Standing now s → SameParameters s (after xs now s)
after_same [] now s ok = record { period = refl; budget = refl }
after_same (x ∷ xs) now s ok =
    let t = tick_done x now s ok in
    let ih = after_same xs (now + 1) (ticked x now s) t.standing in
    record { period = omega (arith, ih.period, t.period); budget = omega (arith, ih.budget, t.budget) }

pub new_stands : (p : Parameters) (now : ℕ) → AreParameters p → Standing now (new_server_as kind.Strict p now)
new_stands p now are = record {
  within = are.budget_within_period;
  budget = grind (arith, common_steps);
  run = λ c. absurd (omega arith);
  capacity = λ c. absurd (omega arith);
}

pub window : (p : Parameters) (start : ℕ) (before window : List Step) → AreParameters p → length window ≤ p.period →
    high_ticks window (start + length before) (after before start (new_server_as kind.Strict p start)) ≤ p.budget
window p start before xs are short =
    let new = new_stands p start are in
    let same = after_same before start (new_server_as kind.Strict p start) new in
    let e = window_at xs (start + length before) (after before start (new_server_as kind.Strict p start)) (after_stands before start (new_server_as kind.Strict p start) new)
    (omega (arith, same.period)) in
    omega (arith, same.budget)
