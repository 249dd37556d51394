-- Quiet ticks of a run: where no instant between two is eventful, the ticks between them are charges of the head and nothing else.
use Rattle.std.proofs.Common.{Bool, None, Option, Some, ap, arith, false, refl, suc, sym, zero, ℕ, ◌+◌, ◌<◌, ◌≤◌, ◌≡◌}
use Rattle.std.specs.Prelude.{is_some, ◌||◌}
use mathlib.Core.Path.{◌∙◌}
use Rattle.words_numbers.specs.declared.item.Item.{Item}
use Rattle.words_script.specs.declared.decl.Script.{Script}
use Rattle.rules_bodies.specs.Next.{Place}
use Rattle.rules_machine.specs.Bodies.{Bodies}
use Rattle.rules_machine.specs.State.{Machine}
use Rattle.rules_machine.specs.Turns.{Turn, turn_of}
use Rattle.rules_machine.specs.DueItems.{instant, item_bound, next_item}
use Rattle.rules_machine.specs.Runs.{opening, ticks}
use Rattle.rules_machine.specs.Machine.{bodies_of, machine}
use Rattle.rules_machine.specs.Eventful.{has_item, is_eventful, next_tick_matters}
use Rattle.rules_machine.specs.WellFormed.{IsWellFormed}
use Rattle.rules_moves.specs.UnitRanges.{BodiesFit}
use Rattle.rules_moves.proofs.Runs.Units.{bodies_fit}
use Rattle.laws_machine.proofs.Parts.Opening.{opening_listed}
use Rattle.rules_moves.proofs.Runs.Since.{Rests, instant_keep, run_since}
use Rattle.laws_machine.proofs.Sweeps.Kept.{EndHeard, InHeard, LawHeard, RestHeard, Swept, brings, instant_after, opening_rest, run_quiet, tick_heard}
use Rattle.laws_leaps.proofs.Quiet.Ticks.{idle_items}
use Rattle.laws_leaps.proofs.Quiet.Charges.{QuietTick, goes_on_quiet}
use Rattle.rules_leaps.specs.Quiet.{one_charge}

-- so many charges of the head, one after another
abbrev pub charges : {P : Type 0} → Bodies P → ℕ → Machine P → Machine P
charges bodies zero m = m
charges bodies (suc k) m = one_charge bodies (charges bodies k m)

-- so many instants on
abbrev pub later_by : ℕ → ℕ → ℕ
later_by a zero = a
later_by a (suc j) = suc (later_by a j)

pub later_is : (a j : ℕ) → later_by a j ≡ a + j
later_is a zero = omega arith
later_is a (suc j) = omega (arith, later_is a j)

pub first_of : (a b : Bool) → (a || b) ≡ false → a ≡ false
first_of a b e = grind arith

pub second_of : (a b : Bool) → (a || b) ≡ false → b ≡ false
second_of a b e = grind arith

pub nothing_due : (o : Option Item) → is_some o ≡ false → o ≡ None
nothing_due None e = refl
nothing_due (Some i) e = absurd (grind arith)

-- ---- where the items of an instant leave the run of a well formed script, over any bodies that keep their ranges

module _ {P : Type 0} (bodies : Bodies P) (ranges : BodiesFit bodies) (script : Script) (fits : IsWellFormed script) where
  abbrev pub Still : Turn P → Type 0
  Still s = Rests bodies ranges (RestHeard bodies) (LawHeard bodies) (InHeard bodies) (InHeard bodies) (EndHeard bodies) (tick_heard bodies) s

  stands : (n : ℕ) → Still (turn_of (ticks bodies n (opening script)).machine)
  stands n = run_since bodies ranges (RestHeard bodies) (LawHeard bodies) (InHeard bodies) (InHeard bodies) (EndHeard bodies) (tick_heard bodies) n (opening script) (opening_rest bodies ranges script fits) (opening_listed P script)

  pub handled_stands : (n : ℕ) → Still (instant bodies (turn_of (ticks bodies n (opening script)).machine))
  handled_stands n =
      instant_keep bodies ranges (RestHeard bodies) (LawHeard bodies) (InHeard bodies) (InHeard bodies) (EndHeard bodies) (tick_heard bodies) (turn_of (ticks bodies n (opening script)).machine) (stands n)

  pub handled_swept : (n : ℕ) → Swept bodies (instant bodies (turn_of (ticks bodies n (opening script)).machine)).machine
  handled_swept n =
      instant_after bodies ranges (RestHeard bodies) (LawHeard bodies) (InHeard bodies) (InHeard bodies) (EndHeard bodies) (tick_heard bodies) (Swept bodies) (brings bodies ranges script fits) (turn_of (ticks bodies n (opening script)).machine) (stands n) (run_quiet bodies ranges script fits n)

-- ---- over its trees

module _ (script : Script) (fits : IsWellFormed script) where
  abbrev pub bodies : Bodies Place
  bodies = bodies_of script

  abbrev ranges : BodiesFit bodies
  ranges = bodies_fit script fits.priorities

  abbrev pub start : Machine Place
  start = opening script

  -- the instant with its items handled
  abbrev pub handled : ℕ → Turn Place
  handled n = instant bodies (turn_of (machine script n))

  pub tick_quiet : (n : ℕ) → is_eventful bodies start (suc n) ≡ false → QuietTick bodies (handled n)
  tick_quiet n e =
      let r = handled_stands bodies ranges script fits n in
      goes_on_quiet bodies (handled n) r.still r.listed r.rest.0.0.stand (handled_swept bodies ranges script fits n) (second_of (has_item (machine script (suc n))) (next_tick_matters bodies (machine script n)) e)

  -- the tick to an instant that is not eventful is one charge
  pub tick_charges : (n : ℕ) → is_eventful bodies start (suc n) ≡ false → machine script (suc n) ≡ one_charge bodies (handled n).machine
  tick_charges n e = (tick_quiet n e).machine

  pub handled_nothing : (n : ℕ) → has_item (machine script n) ≡ false → handled n ≡ turn_of (machine script n)
  handled_nothing n e = idle_items bodies (item_bound (machine script n)) (turn_of (machine script n)) (nothing_due (next_item (machine script n)) e)

  quiet_on : (a j : ℕ) → ((i : ℕ) → i ≤ j → is_eventful bodies start (suc (later_by a i)) ≡ false) → machine script (suc (later_by a j)) ≡ charges bodies (suc j) (handled a).machine
  quiet_on a zero h = tick_charges a (h 0 (omega arith))
  quiet_on a (suc j) h =
      let n = suc (later_by a j) in
      let none : has_item (machine script n) ≡ false = first_of (has_item (machine script n)) (next_tick_matters bodies (machine script (later_by a j))) (h j (omega arith)) in
      tick_charges n (h (suc j) (omega arith))
      ∙ ap (λ (s : Turn Place). one_charge bodies s.machine) (handled_nothing n none)
      ∙ ap (one_charge bodies) (quiet_on a j (λ i le. h i (omega arith)))

  -- Where none of the instants a + 1 to a + k - 1 is eventful, each of them has the machine of a, with its items handled and so many
  -- ticks charged to the head.
  pub quiet_ticks : (a k : ℕ) → ((i : ℕ) → a < i → i < a + k → is_eventful bodies start i ≡ false) → (j : ℕ) → 1 ≤ j → j < k → machine script (a + j) ≡ charges bodies j (handled a).machine
  quiet_ticks a k h zero low high = absurd (omega arith)
  quiet_ticks a k h (suc j) low high =
      ap (machine script) (sym (later_is a (suc j)))
      ∙ quiet_on a j (λ i le. (let e = later_is a i in h (suc (later_by a i)) (omega arith) (omega arith)))

  -- and then the last of k ticks, with its charge alone, ends in k charges
  pub last_charge : (a k : ℕ) → ((i : ℕ) → a < i → i < a + suc k → is_eventful bodies start i ≡ false) → 1 ≤ k → one_charge bodies (machine script (a + k)) ≡ charges bodies (suc k) (handled a).machine
  last_charge a k h some = ap (one_charge bodies) (quiet_ticks a (suc k) h k some (omega arith))
