-- Worked examples of the next unit, by computing. Each is a body in the words of a script, and its units in order.
use Rattle.std.proofs.Common.{◌≡◌, ℕ, zero, suc, ◌+◌, None, Some, true, false, List, [], ◌∷◌, refl}
use Rattle.words_numbers.specs.declared.res.Res.{Res}
use Rattle.words_numbers.specs.declared.res.Res.TheVariants.{Zero, Timedout}
use Rattle.words_script.specs.Block.{Block, Nothing, Running, Making, Setting, Adding, Taking, Testing, Looping, Guarding}
use Rattle.words_script.specs.declared.call.Call.TheVariants.{Yield, Gettime, Push, Pop}
use Rattle.rules_bodies.specs.declared.unit.Unit as unit
use Rattle.rules_bodies.specs.declared.unit.Unit.TheVariants.{Run, Make, Jump, Finish}
use Rattle.rules_bodies.specs.Next.{Place, At, In, Next, next, body_start, ticks_of}

-- what has come after so many units, where each call leaves this result and this value
abbrev after : ℕ → Block → Res → ℕ → Next → Next
after zero body result value now = now
after (suc k) body result value now = after k body result value (next body now.place now.register result value)

-- the first so many units, and the register behind them
abbrev units : ℕ → Block → Res → ℕ → Place → ℕ → List unit.Unit
units zero body result value place r = []
units (suc k) body result value place r =
    let n : Next = next body place r result value in n.unit ∷ units k body result value n.place n.register

abbrev register_after : ℕ → Block → Res → ℕ → ℕ
register_after k body result value =
    (after k body result value (record { unit = Finish; place = body_start; register = 0 })).register

abbrev total_ticks : List unit.Unit → ℕ
total_ticks [] = 0
total_ticks (u ∷ us) = ticks_of u + total_ticks us

-- set 7; loop 2; run 1; end; yield; if 0; run 2; end; unless 0; run 9; end
abbrev loop_and_tests : Block
loop_and_tests =
    Setting 7 (Looping (Some 2) (Running 1 Nothing) (Making Yield
    (Testing Zero true (Running 2 Nothing) (Testing Zero false (Running 9 Nothing) Nothing))))

loop_and_tests_units : units 7 loop_and_tests Zero 0 body_start 0
    ≡ Run 1 ∷ Jump ∷ Run 1 ∷ Make Yield ∷ Run 2 ∷ Finish ∷ Finish ∷ []
loop_and_tests_units = refl

-- it takes seven ticks, its finish included
loop_and_tests_ticks : total_ticks (units 6 loop_and_tests Zero 0 body_start 0) ≡ 7
loop_and_tests_ticks = refl

-- after a call that timed out the other test holds
other_test_units : units 6 loop_and_tests Timedout 0 body_start 0 ≡ Run 1 ∷ Jump ∷ Run 1 ∷ Make Yield ∷ Run 9 ∷ Finish ∷ []
other_test_units = refl

-- loop 3; run 1; loop 2; run 2; end; end: the inner loop begins anew in each pass of the outer one
nested_loops_units :
    units 14 (Looping (Some 3) (Running 1 (Looping (Some 2) (Running 2 Nothing) Nothing)) Nothing) Zero 0 body_start 0
    ≡ Run 1 ∷ Run 2 ∷ Jump ∷ Run 2 ∷ Jump ∷ Run 1 ∷ Run 2 ∷ Jump ∷ Run 2 ∷ Jump ∷ Run 1 ∷ Run 2 ∷ Jump ∷ Run 2 ∷ []
nested_loops_units = refl

-- the place between its first two units of the second pass: in the body's first step, with two passes left, before the inner loop
nested_loops_place :
    (after 6 (Looping (Some 3) (Running 1 (Looping (Some 2) (Running 2 Nothing) Nothing)) Nothing) Zero 0
    (record { unit = Finish; place = body_start; register = 0 })).place ≡ In 0 2 (At 1)
nested_loops_place = refl

-- forever; end: a loop without steps jumps in each tick
empty_forever_units : units 3 (Looping None Nothing Nothing) Zero 0 body_start 0 ≡ Jump ∷ Jump ∷ Jump ∷ []
empty_forever_units = refl

-- forever; run 4; end
forever_units : units 4 (Looping None (Running 4 Nothing) Nothing) Zero 0 body_start 0 ≡ Run 4 ∷ Jump ∷ Run 4 ∷ Jump ∷ []
forever_units = refl

-- loop 1; end; loop 3; end: one pass has no jump, three have two
empty_loops_units : units 3 (Looping (Some 1) Nothing (Looping (Some 3) Nothing Nothing)) Zero 0 body_start 0 ≡ Jump ∷ Jump ∷ Finish ∷ []
empty_loops_units = refl

-- push u; run 1; pop 1; run 2: the block begins and ends with a call
guarded_units : units 5 (Guarding 4 true (Running 1 Nothing) (Running 2 Nothing)) Zero 0 body_start 0
    ≡ Make (Push 4) ∷ Run 1 ∷ Make (Pop true) ∷ Run 2 ∷ Finish ∷ []
guarded_units = refl

-- set 9; add 2; run 1: registers take no time
register_added : register_after 1 (Setting 9 (Adding 2 (Running 1 Nothing))) Zero 0 ≡ 11
register_added = refl

-- set 10^18; add 10^18; add 1; run 1: a register stops at 2·10^18
register_stops : register_after 1 (Setting 1_000_000_000_000_000_000 (Adding 1_000_000_000_000_000_000 (Adding 1 (Running 1 Nothing)))) Zero 0
    ≡ 2_000_000_000_000_000_000
register_stops = refl

-- set 5; take; run 1: the register is the last call's value, here one above the greatest value of a register
register_taken : register_after 1 (Setting 5 (Taking (Running 1 Nothing))) Zero 2_000_000_000_000_000_001 ≡ 2_000_000_000_000_000_000
register_taken = refl

-- forever; add 20; gettime; end: the register keeps its value from pass to pass
register_in_loop : register_after 5 (Looping None (Adding 20 (Making Gettime Nothing)) Nothing) Zero 0 ≡ 60
register_in_loop = refl
