-- Whatever is generated is well formed.
use Rattle.std.proofs.Common.{ℕ, zero, suc, ◌≤◌, ◌<◌, ◌+◌, ◌%◌, Bool, true, false, refl, arith}
use Rattle.std.specs.Prelude.{if◌then◌else◌, ◌==◌}
use Rattle.std.proofs.Math.Nat.{mod-lt}
use Rattle.words_script.specs.Block.{Block, Making, Nothing}
use Rattle.words_script.specs.declared.call.Call.TheVariants as call
use Rattle.words_script.specs.declared.policy.Policy.{Policy}
use Rattle.script_generator.specs.Draws.{Drawn, draw, next}
use Rattle.script_generator.specs.Generated.{after_deed, deed_of, hold, policy_from, policy_of, script_of, task_from, thread_from, threads_from}
use Rattle.rules_machine.specs.WellFormed.{BlockFits, DeclsFit, DeclsGuarded, IsPriority, IsWellFormed, PolicyFits, StepsPlain, guard_depth}

chosen : {A : Type 0} (P : A → Type 0) (b : Bool) (x y : A) → P x → P y → P (if b then x else y)
chosen P true x y h k = h
chosen P false x y h k = k

-- a priority that is drawn
drawn_priority : (g : ℕ) → IsPriority (2 + draw 200 g)
drawn_priority g = let h : draw 200 g < 200 = mod-lt (next g) (omega arith) in record { positive = omega arith; small = omega arith }

policy_fits : (kind prio g : ℕ) → IsPriority prio → PolicyFits (policy_of kind prio g).value
policy_fits kind prio g h =
    chosen (λ (p : Drawn Policy). PolicyFits p.value) (kind == 0) _ _ h
    (chosen (λ (p : Drawn Policy). PolicyFits p.value) (kind == 1) _ _ h (record { positive = omega arith; small = omega arith }, h))

-- what a body does between running and sleeping
deed_fits : (deed ticks : ℕ) (rest : Block) → BlockFits rest → BlockFits (deed_of deed ticks rest)
deed_fits deed ticks rest h =
    chosen BlockFits (deed == 0) _ _ (tt, (tt, h)) (chosen BlockFits (deed == 1) _ _ (tt, (tt, h)) (chosen BlockFits (deed == 2) _ _ (tt, (tt, h)) (tt, h)))

deed_plain : (deed ticks : ℕ) (rest : Block) → StepsPlain rest → StepsPlain (deed_of deed ticks rest)
deed_plain deed ticks rest h =
    chosen StepsPlain (deed == 0) _ _ (refl, (refl, h)) (chosen StepsPlain (deed == 1) _ _ (refl, (refl, h)) (chosen StepsPlain (deed == 2) _ _ (refl, (refl, h)) (refl, h)))

deed_flat : (deed ticks : ℕ) (rest : Block) → guard_depth rest ≤ 0 → guard_depth (deed_of deed ticks rest) ≤ 0
deed_flat deed ticks rest h =
    chosen (λ b. guard_depth b ≤ 0) (deed == 0) _ _ h (chosen (λ b. guard_depth b ≤ 0) (deed == 1) _ _ h (chosen (λ b. guard_depth b ≤ 0) (deed == 2) _ _ h h))

task_fits : (g : ℕ) → BlockFits (task_from g).value
task_fits g = (deed_fits (draw 4 (next g)) _ (Making (call.Nanosleep _) Nothing) (tt, tt), tt)

task_plain : (g : ℕ) → StepsPlain (task_from g).value
task_plain g = (deed_plain (draw 4 (next g)) _ (Making (call.Nanosleep _) Nothing) (refl, tt), tt)

task_flat : (g : ℕ) → guard_depth (task_from g).value ≤ 8
task_flat g =
    let behind : ℕ = after_deed (draw 4 (next g)) (next (next g)) in
    let h = deed_flat (draw 4 (next g)) (hold (draw 4 (next g)) (next (next g))) (Making (call.Nanosleep (1 + draw 500 behind)) Nothing) (omega arith) in
    omega (arith, h)

threads_fit : (count number g : ℕ) → DeclsFit (threads_from count number g)
threads_fit zero number g = tt
threads_fit (suc count) number g = (
  (policy_fits (draw 3 g) (2 + draw 200 (next g)) (next (next g)) (drawn_priority (next g)), task_fits (next (policy_from g).state)),
  threads_fit count (number + 1) (thread_from number g).state,
)

threads_guarded : (count number g : ℕ) → DeclsGuarded (threads_from count number g)
threads_guarded zero number g = tt
threads_guarded (suc count) number g =
    ((task_plain (next (policy_from g).state), task_flat (next (policy_from g).state)), threads_guarded count (number + 1) (thread_from number g).state)

pub generated_is_well_formed : (number : ℕ) → IsWellFormed (script_of number)
generated_is_well_formed number = record {
  quantum = omega arith;
  priorities = (tt, (record { positive = omega arith; small = omega arith }, (tt, (tt, threads_fit (1 + number % 64) 0 (next (number % 65537))))));
  guards = (tt, (tt, (tt, (tt, threads_guarded (1 + number % 64) 0 (next (number % 65537))))));
}
