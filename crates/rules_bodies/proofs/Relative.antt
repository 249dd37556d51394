-- What a block comes to, seen from its own first step on: the definition carries the index of each step, and here the outcome of the
-- steps behind one is seen from a step earlier. The proofs over flat code go by this form.
use Rattle.std.proofs.Common.{ℕ, zero, suc, ◌+◌, Option, None, Some, Bool, true, false, if◌then◌else◌, ap, refl, sym, ◌≡◌, ◌∙◌}
use Rattle.words_numbers.specs.declared.res.Res.{Res}
use Rattle.words_script.specs.Block.{Block, Nothing, Running, Making, Setting, Adding, Taking, Testing, Looping, Guarding}
use Rattle.words_script.specs.declared.call.Call.TheVariants.{Push, Pop}
use Rattle.rules_bodies.specs.declared.unit.Unit as unit
use Rattle.rules_bodies.specs.declared.unit.Unit.TheVariants.{Run, Make, Jump}
use Rattle.rules_bodies.specs.Next as indexed
use Rattle.rules_bodies.specs.Next.{Place, At, In, Outcome, Due, Ended, capped, holds, passes_of, steps_from}

-- an outcome, seen from a step earlier
abbrev pub later : Outcome → Outcome
later (Due u (At i) r) = Due u (At (suc i)) r
later (Due u (In i passes place) r) = Due u (In (suc i) passes place) r
later (Ended r) = Ended r

-- the same, seen from so many steps earlier
abbrev pub later_by : ℕ → Outcome → Outcome
later_by zero o = o
later_by (suc i) o = later (later_by i o)

-- the end of the first step's block leads on to the steps after it
abbrev pub and_then : Outcome → (ℕ → Outcome) → Outcome
and_then (Due u place r) after = Due u place r
and_then (Ended r) after = later (after r)

-- the block of an `if` or `unless` at the head has one pass, and its end takes no time
abbrev pub in_test : Outcome → Outcome
in_test (Due u place r) = Due u (In 0 1 place) r
in_test (Ended r) = Ended r

-- the end of a pass: a loop of N jumps back where more than one pass was left, so N - 1 times
abbrev pub end_of_pass : ℕ → ℕ → Outcome
end_of_pass zero r = Ended r
end_of_pass (suc zero) r = Ended r
end_of_pass (suc (suc passes)) r = Due Jump (In 0 (suc passes) (At 0)) r

-- the block of a loop at the head, in a pass with so many passes left; `forever` jumps back always
abbrev pub in_loop : Option ℕ → ℕ → Outcome → Outcome
in_loop times passes (Due u place r) = Due u (In 0 passes place) r
in_loop None passes (Ended r) = Due Jump (In 0 passes (At 0)) r
in_loop (Some n) passes (Ended r) = end_of_pass passes r

-- the block of a `push` at the head, whose end is a `pop`
abbrev pub in_guard : Bool → Outcome → Outcome
in_guard run (Due u place r) = Due u (In 0 1 place) r
in_guard run (Ended r) = Due (Make (Pop run)) (At 1) r

-- in a frame whose last call had this result and this value
module _ (result : Res) (value : ℕ) where
  -- what a block comes to from its first step on, with that register
  abbrev pub from_head : Block → ℕ → Outcome
  from_head Nothing r = Ended r
  from_head (Running n rest) r = Due (Run n) (At 1) r
  from_head (Making call rest) r = Due (Make call) (At 1) r
  from_head (Setting n rest) r = later (from_head rest (capped n))
  from_head (Adding n rest) r = later (from_head rest (capped (r + n)))
  from_head (Taking rest) r = later (from_head rest (capped value))
  from_head (Testing named equal inner rest) r =
      and_then (if holds named equal result then in_test (from_head inner r) else Ended r) (from_head rest)
  from_head (Looping times inner rest) r = and_then (in_loop times (passes_of times) (from_head inner r)) (from_head rest)
  from_head (Guarding cleanup run inner rest) r = Due (Make (Push cleanup)) (In 0 1 (At 0)) r

  -- what a block comes to from a place in the block of its first step on, in a pass with so many left: `inside` goes on in that block.
  -- A step without a block has no places in it, and the place is then before the step.
  abbrev pub from_inside : ℕ → (Block → Outcome) → Block → ℕ → Outcome
  from_inside passes inside (Testing named equal inner rest) r = and_then (in_test (inside inner)) (from_head rest)
  from_inside passes inside (Looping times inner rest) r = and_then (in_loop times passes (inside inner)) (from_head rest)
  from_inside passes inside (Guarding cleanup run inner rest) r = in_guard run (inside inner)
  from_inside passes inside block r = from_head block r

  -- what a block comes to from a place on
  abbrev pub from_place : Place → Block → ℕ → Outcome
  from_place (At i) block r = later_by i (from_head (steps_from i block) r)
  from_place (In i passes place) block r =
      later_by i (from_inside passes (λ inner. from_place place inner r) (steps_from i block) r)

-- ---- both forms agree

later_at : (u : unit.Unit) (i r : ℕ) → later_by i (Due u (At 1) r) ≡ Due u (At (suc i)) r
later_at u zero r = refl
later_at u (suc i) r = ap later (later_at u i r)

later_in : (u : unit.Unit) (i passes : ℕ) (place : Place) (r : ℕ) → later_by i (Due u (In 0 passes place) r) ≡ Due u (In i passes place) r
later_in u zero passes place r = refl
later_in u (suc i) passes place r = ap later (later_in u i passes place r)

later_end : (i r : ℕ) → later_by i (Ended r) ≡ Ended r
later_end zero r = refl
later_end (suc i) r = ap later (later_end i r)

-- one step earlier, and so many more
one_more : (i : ℕ) (o : Outcome) → later_by (suc i) o ≡ later_by i (later o)
one_more zero o = refl
one_more (suc i) o = ap later (one_more i o)

module _ (i : ℕ) (steps : ℕ → Outcome) (after : ℕ → Outcome) (rest : (r : ℕ) → steps r ≡ later_by (suc i) (after r)) where
  ended_same : (r : ℕ) → steps r ≡ later_by i (later (after r))
  ended_same r = rest r ∙ one_more i (after r)

  test_same : (o : Outcome) → indexed.and_then (indexed.in_test i o) steps ≡ later_by i (and_then (in_test o) after)
  test_same (Due u place r) = sym (later_in u i 1 place r)
  test_same (Ended r) = ended_same r

  tested_same : (b : Bool) (o : Outcome) (r : ℕ) →
      indexed.and_then (if b then indexed.in_test i o else Ended r) steps ≡ later_by i (and_then (if b then in_test o else Ended r) after)
  tested_same true o r = test_same o
  tested_same false o r = ended_same r

  pass_same : (passes r : ℕ) → indexed.and_then (indexed.end_of_pass i passes r) steps ≡ later_by i (and_then (end_of_pass passes r) after)
  pass_same zero r = ended_same r
  pass_same (suc zero) r = ended_same r
  pass_same (suc (suc passes)) r = sym (later_in Jump i (suc passes) (At 0) r)

  loop_same : (times : Option ℕ) (passes : ℕ) (o : Outcome) → indexed.and_then (indexed.in_loop i times passes o) steps ≡ later_by i (and_then (in_loop times passes o) after)
  loop_same None passes (Due u place r) = sym (later_in u i passes place r)
  loop_same None passes (Ended r) = sym (later_in Jump i passes (At 0) r)
  loop_same (Some n) passes (Due u place r) = sym (later_in u i passes place r)
  loop_same (Some n) passes (Ended r) = pass_same passes r

guard_same : (i : ℕ) (run : Bool) (o : Outcome) → indexed.in_guard i run o ≡ later_by i (in_guard run o)
guard_same i run (Due u place r) = sym (later_in u i 1 place r)
guard_same i run (Ended r) = sym (later_at (Make (Pop run)) i r)

module _ (result : Res) (value : ℕ) where
  pub steps_same : (block : Block) (i r : ℕ) → indexed.from_step result value i block r ≡ later_by i (from_head result value block r)
  steps_same Nothing i r = sym (later_end i r)
  steps_same (Running n rest) i r = sym (later_at (Run n) i r)
  steps_same (Making call rest) i r = sym (later_at (Make call) i r)
  steps_same (Setting n rest) i r = steps_same rest (suc i) (capped n) ∙ one_more i (from_head result value rest (capped n))
  steps_same (Adding n rest) i r = steps_same rest (suc i) (capped (r + n)) ∙ one_more i (from_head result value rest (capped (r + n)))
  steps_same (Taking rest) i r = steps_same rest (suc i) (capped value) ∙ one_more i (from_head result value rest (capped value))
  steps_same (Testing named equal inner rest) i r =
      ap (λ (o : Outcome). indexed.and_then (if holds named equal result then indexed.in_test i o else Ended r) (indexed.from_step result value (suc i) rest)) (steps_same inner 0 r)
      ∙ tested_same i (indexed.from_step result value (suc i) rest) (from_head result value rest) (steps_same rest (suc i)) (holds named equal result) (from_head result value inner r) r
  steps_same (Looping times inner rest) i r =
      ap (λ (o : Outcome). indexed.and_then (indexed.in_loop i times (passes_of times) o) (indexed.from_step result value (suc i) rest)) (steps_same inner 0 r)
      ∙ loop_same i (indexed.from_step result value (suc i) rest) (from_head result value rest) (steps_same rest (suc i)) times (passes_of times) (from_head result value inner r)
  steps_same (Guarding cleanup run inner rest) i r = sym (later_in (Make (Push cleanup)) i 1 (At 0) r)

  inside_same : (step : Block) (i passes : ℕ) (inside inside' : Block → Outcome) (r : ℕ) → ((inner : Block) → inside inner ≡ inside' inner) →
      indexed.from_inside result value i passes inside step r ≡ later_by i (from_inside result value passes inside' step r)
  inside_same (Testing named equal inner rest) i passes inside inside' r same =
      ap (λ (o : Outcome). indexed.and_then (indexed.in_test i o) (indexed.from_step result value (suc i) rest)) (same inner)
      ∙ test_same i (indexed.from_step result value (suc i) rest) (from_head result value rest) (steps_same rest (suc i)) (inside' inner)
  inside_same (Looping times inner rest) i passes inside inside' r same =
      ap (λ (o : Outcome). indexed.and_then (indexed.in_loop i times passes o) (indexed.from_step result value (suc i) rest)) (same inner)
      ∙ loop_same i (indexed.from_step result value (suc i) rest) (from_head result value rest) (steps_same rest (suc i)) times passes (inside' inner)
  inside_same (Guarding cleanup run inner rest) i passes inside inside' r same = ap (indexed.in_guard i run) (same inner) ∙ guard_same i run (inside' inner)
  inside_same Nothing i passes inside inside' r same = steps_same Nothing i r
  inside_same (Running n rest) i passes inside inside' r same = steps_same (Running n rest) i r
  inside_same (Making call rest) i passes inside inside' r same = steps_same (Making call rest) i r
  inside_same (Setting n rest) i passes inside inside' r same = steps_same (Setting n rest) i r
  inside_same (Adding n rest) i passes inside inside' r same = steps_same (Adding n rest) i r
  inside_same (Taking rest) i passes inside inside' r same = steps_same (Taking rest) i r

  -- what a block comes to from a place on is the same in both
  pub place_same : (place : Place) (block : Block) (r : ℕ) → indexed.from_place result value place block r ≡ from_place result value place block r
  place_same (At i) block r = steps_same (steps_from i block) i r
  place_same (In i passes place) block r =
      inside_same (steps_from i block) i passes (λ inner. indexed.from_place result value place inner r) (λ inner. from_place result value place inner r) r (λ inner. place_same place inner r)
