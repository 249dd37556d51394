-- The next unit of a body, by cases on its tree of steps. Task bodies are this project's own: the standard has none.
use Rattle.std.specs.Prelude.{ℕ, zero, suc, ◌+◌, ◌*◌, ◌^◌, ◌==◌, min, Option, None, Some, Bool, if◌then◌else◌}
use Rattle.std.specs.Bool.{beq}
use Rattle.words_numbers.specs.declared.res.Res.{Res}
use Rattle.words_numbers.specs.declared.res.Res.TheVariants as res
use Rattle.words_script.specs.Block.{Block, Nothing, Running, Making, Setting, Adding, Taking, Testing, Looping, Guarding}
use Rattle.words_script.specs.declared.call.Call.TheVariants.{Push, Pop}
use Rattle.rules_bodies.specs.declared.unit.Unit as unit
use Rattle.rules_bodies.specs.declared.unit.Unit.TheVariants.{Run, Make, Jump, Finish}

-- A place in a block: a path of pairs, an index in the block and the passes left.
-- `At i` is before step i. `In i passes place` is at a place in the block of step i, with so many passes of it left, the current one
-- included. An `if`, `unless` or `push` block has 1 pass; a `forever` has no number of them, and has 0 there.
pub data Place : Type 0 where
  At : ℕ → Place
  In : ℕ → ℕ → Place → Place

-- What going on in a block comes to: a unit, with the place after it and the register, or the block's end, with the register.
pub data Outcome : Type 0 where
  Due : unit.Unit → Place → ℕ → Outcome
  Ended : ℕ → Outcome

-- the greatest value of a register
abbrev pub register_limit : ℕ
register_limit = 2 * 10 ^ 18

-- a register stops at its greatest value
abbrev pub capped : ℕ → ℕ
capped n = min n register_limit

abbrev pub res_number : Res → ℕ
res_number res.Zero = 0
res_number res.Again = 1
res_number res.Busy = 2
res_number res.Deadlk = 3
res_number res.Intr = 4
res_number res.Inval = 5
res_number res.Msgsize = 6
res_number res.Overflow = 7
res_number res.Perm = 8
res_number res.Srch = 9
res_number res.Timedout = 10

-- whether a test holds: `if` asks that the last result is the one named, `unless` (`equal` is false) that it is another one
abbrev pub holds : Res → Bool → Res → Bool
holds named equal last = beq (res_number last == res_number named) equal

-- the steps after the first one
abbrev pub rest_of : Block → Block
rest_of Nothing = Nothing
rest_of (Running n rest) = rest
rest_of (Making call rest) = rest
rest_of (Setting n rest) = rest
rest_of (Adding n rest) = rest
rest_of (Taking rest) = rest
rest_of (Testing named equal inner rest) = rest
rest_of (Looping times inner rest) = rest
rest_of (Guarding cleanup run inner rest) = rest

-- the steps from an index on
abbrev pub steps_from : ℕ → Block → Block
steps_from zero block = block
steps_from (suc i) block = steps_from i (rest_of block)

-- how many steps a block has, those of inner blocks not counted
abbrev pub step_number : Block → ℕ
step_number Nothing = 0
step_number (Running n rest) = suc (step_number rest)
step_number (Making call rest) = suc (step_number rest)
step_number (Setting n rest) = suc (step_number rest)
step_number (Adding n rest) = suc (step_number rest)
step_number (Taking rest) = suc (step_number rest)
step_number (Testing named equal inner rest) = suc (step_number rest)
step_number (Looping times inner rest) = suc (step_number rest)
step_number (Guarding cleanup run inner rest) = suc (step_number rest)

-- the end of a step's block leads on to the steps after it
abbrev pub and_then : Outcome → (ℕ → Outcome) → Outcome
and_then (Due u place r) after = Due u place r
and_then (Ended r) after = after r

-- the block of an `if` or `unless` at step i has one pass, and its end takes no time
abbrev pub in_test : ℕ → Outcome → Outcome
in_test i (Due u place r) = Due u (In i 1 place) r
in_test i (Ended r) = Ended r

-- the passes left as a loop begins
abbrev pub passes_of : Option ℕ → ℕ
passes_of None = 0
passes_of (Some n) = n

-- the end of a pass: a loop of N jumps back where more than one pass was left, so N - 1 times
abbrev pub end_of_pass : ℕ → ℕ → ℕ → Outcome
end_of_pass i zero r = Ended r
end_of_pass i (suc zero) r = Ended r
end_of_pass i (suc (suc passes)) r = Due Jump (In i (suc passes) (At 0)) r

-- the block of a loop at step i, in a pass with so many passes left; `forever` jumps back always
abbrev pub in_loop : ℕ → Option ℕ → ℕ → Outcome → Outcome
in_loop i times passes (Due u place r) = Due u (In i passes place) r
in_loop i None passes (Ended r) = Due Jump (In i passes (At 0)) r
in_loop i (Some n) passes (Ended r) = end_of_pass i passes r

-- the block of a `push` at step i, whose end is a `pop`
abbrev pub in_guard : ℕ → Bool → Outcome → Outcome
in_guard i run (Due u place r) = Due u (In i 1 place) r
in_guard i run (Ended r) = Due (Make (Pop run)) (At (suc i)) r

-- in a frame whose last call had this result and this value
module _ (result : Res) (value : ℕ) where
  -- what the steps of a block from step i on come to, with that register
  abbrev pub from_step : ℕ → Block → ℕ → Outcome
  from_step i Nothing r = Ended r
  from_step i (Running n rest) r = Due (Run n) (At (suc i)) r
  from_step i (Making call rest) r = Due (Make call) (At (suc i)) r
  from_step i (Setting n rest) r = from_step (suc i) rest (capped n)
  from_step i (Adding n rest) r = from_step (suc i) rest (capped (r + n))
  from_step i (Taking rest) r = from_step (suc i) rest (capped value)
  from_step i (Testing named equal inner rest) r =
      and_then (if holds named equal result then in_test i (from_step 0 inner r) else Ended r) (from_step (suc i) rest)
  from_step i (Looping times inner rest) r = and_then (in_loop i times (passes_of times) (from_step 0 inner r)) (from_step (suc i) rest)
  from_step i (Guarding cleanup run inner rest) r = Due (Make (Push cleanup)) (In i 1 (At 0)) r

  -- The same from a place in the block of step i on, in a pass with so many left: `inside` goes on in that block. A step without a block
  -- has no places in it, and the place is then before the step.
  abbrev pub from_inside : ℕ → ℕ → (Block → Outcome) → Block → ℕ → Outcome
  from_inside i passes inside (Testing named equal inner rest) r = and_then (in_test i (inside inner)) (from_step (suc i) rest)
  from_inside i passes inside (Looping times inner rest) r = and_then (in_loop i times passes (inside inner)) (from_step (suc i) rest)
  from_inside i passes inside (Guarding cleanup run inner rest) r = in_guard i run (inside inner)
  from_inside i passes inside steps r = from_step i steps r

  -- what a block comes to from a place on
  abbrev pub from_place : Place → Block → ℕ → Outcome
  from_place (At i) block r = from_step i (steps_from i block) r
  from_place (In i passes place) block r = from_inside i passes (λ inner. from_place place inner r) (steps_from i block) r

-- the next unit, and the place and the register after it
pub record Next : Type 0 where
  pub unit : unit.Unit
  pub place : Place
  pub register : ℕ

-- at a body's end the next unit is always Finish
abbrev pub or_finish : Block → Outcome → Next
or_finish body (Due u place r) = record { unit = u; place = place; register = r }
or_finish body (Ended r) = record { unit = Finish; place = At (step_number body); register = r }

-- the next unit of a body at a place, with that register and the last call's result and value
abbrev pub next : Block → Place → ℕ → Res → ℕ → Next
next body place register result value = or_finish body (from_place result value place body register)

-- where a body begins
abbrev pub body_start : Place
body_start = At 0

-- how many ticks a unit takes
abbrev pub ticks_of : unit.Unit → ℕ
ticks_of (Run n) = n
ticks_of (Make call) = 1
ticks_of Jump = 1
ticks_of Finish = 1
