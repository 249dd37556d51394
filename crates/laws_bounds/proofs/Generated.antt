-- Whatever is generated, the kernel can run.
use Rattle.std.proofs.Common.{ℕ, zero, suc, ◌≡◌, ◌≤◌, ◌<◌, ◌+◌, ◌%◌, [], Bool, true, false, length, refl, sym, ap, subst, arith}
use Rattle.std.specs.Prelude.{filter_map, if◌then◌else◌, ◌==◌}
use Rattle.std.proofs.Math.Nat.{mod-lt}
use Rattle.words_script.specs.Block.{Block, Making, Nothing}
use Rattle.words_script.specs.Tree.{step_count}
use Rattle.words_script.specs.declared.call.Call.{Call}
use Rattle.words_script.specs.declared.call.Call.TheVariants as call
use Rattle.words_script.specs.declared.call.Operand.TheVariants.{Num}
use Rattle.words_script.specs.declared.policy.Policy.{Policy}
use Rattle.words_script.specs.declared.decl.Decl.{Decl}
use Rattle.words_script.specs.declared.decl.Script.{Script}
use Rattle.rules_bodies.specs.Flat.{IsFlattenable, bodies_of, nesting}
use Rattle.script_generator.specs.Draws.{Drawn, draw, next}
use Rattle.script_generator.specs.Generated.{after_deed, body_of, deed_of, hold, policy_from, policy_of, script_of, task_from, thread_from, threads_from}
use Rattle.rules_machine.specs.Declarations.{declared_thread, handlers_of, named, queue_kind, timer_kind}
use Rattle.rules_flat_code.specs.EachCall.{EachCall}
use Rattle.rules_flat_code.specs.KnownCalls.{Objects, objects_of}
use Rattle.rules_flat_code.specs.Runnable.{CallIsRunnable, HasBudget, IsRunnable}
use Rattle.laws_bounds.proofs.Declared.{DeclRuns, all_actions, all_bodies, all_budgets, all_signals, all_values}
use Rattle.laws_bounds.proofs.Bodies.{BodyHas, bodies_have, bodies_number}
use Rattle.laws_bounds.proofs.EachDecl.{Each}

-- a choice
pub chosen : {A : Type 0} (P : A → Type 0) (b : Bool) (x y : A) → P x → P y → P (if b then x else y)
chosen P true x y h k = h
chosen P false x y h k = k

-- numbers that are drawn
pub draw-below : (count g : ℕ) → 0 < count → draw count g < count
draw-below count g some = mod-lt (next g) some

-- what holds of each thread
pub each_thread : (P : Decl → Type 0) → ((number g : ℕ) → P (thread_from number g).value) → (count number g : ℕ) → Each P (threads_from count number g)
each_thread P each zero number g = tt
each_thread P each (suc count) number g = (each number g, each_thread P each count (number + 1) (thread_from number g).state)

-- so many threads, and no other thing
length-threads : (count number g : ℕ) → length (filter_map declared_thread (threads_from count number g)) ≡ count
length-threads zero number g = refl
length-threads (suc count) number g = ap suc (length-threads count (number + 1) (thread_from number g).state)

length-threads_from : (count number g : ℕ) → length (threads_from count number g) ≡ count
length-threads_from zero number g = refl
length-threads_from (suc count) number g = ap suc (length-threads_from count (number + 1) (thread_from number g).state)

no_queue : (count number g : ℕ) → filter_map (named queue_kind) (threads_from count number g) ≡ []
no_queue zero number g = refl
no_queue (suc count) number g = no_queue count (number + 1) (thread_from number g).state

no_timer : (count number g : ℕ) → filter_map (named timer_kind) (threads_from count number g) ≡ []
no_timer zero number g = refl
no_timer (suc count) number g = no_timer count (number + 1) (thread_from number g).state

-- the objects that all threads share are there
record HasShared (o : Objects) : Type 0 where
  mutexes : 2 ≤ o.mutexes
  semaphores : 1 ≤ o.semaphores
  queues : 1 ≤ o.queues

-- a server has a budget
budget_of : (kind prio g : ℕ) → HasBudget (policy_of kind prio g).value
budget_of kind prio g =
    chosen (λ (p : Drawn Policy). HasBudget p.value) (kind == 0) _ _ tt
    (chosen (λ (p : Drawn Policy). HasBudget p.value) (kind == 1) _ _ tt (omega arith))

-- what holds of each body, whatever is drawn
tasks_have : (Q : Block → Type 0) → ((run deed ticks h : ℕ) → Q (body_of run deed ticks (1 + draw 500 h))) → (g : ℕ) → Q (task_from g).value
tasks_have Q each g = each (1 + draw 9 g) (draw 4 (next g)) (hold (draw 4 (next g)) (next (next g))) (after_deed (draw 4 (next g)) (next (next g)))

module _ (o : Objects) (shared : HasShared o) where
  abbrev Runs : Call → Type 0
  Runs c = CallIsRunnable o c

  locks : (mutex : ℕ) → mutex < 2 → Runs (call.Lock mutex)
  locks mutex small = record { objects = omega (arith, shared.mutexes); budget = tt }

  unlocks : (mutex : ℕ) → mutex < 2 → Runs (call.Unlock mutex)
  unlocks mutex small = record { objects = omega (arith, shared.mutexes); budget = tt }

  posts : Runs (call.SemPost 0)
  posts = record { objects = omega (arith, shared.semaphores); budget = tt }

  sends : Runs (call.MqSend 0 8 1 (Num 1))
  sends = record { objects = (omega (arith, shared.queues), omega arith, omega arith); budget = tt }

  receives : Runs (call.MqReceive 0)
  receives = record { objects = omega (arith, shared.queues); budget = tt }

  sleeps : (ticks : ℕ) → ticks ≤ 500 → Runs (call.Nanosleep ticks)
  sleeps ticks small = record { objects = omega arith; budget = tt }

  deed_runs : (deed ticks : ℕ) (rest : Block) → EachCall Runs rest → EachCall Runs (deed_of deed ticks rest)
  deed_runs deed ticks rest h =
      chosen (EachCall Runs) (deed == 0) _ _ (locks 0 (omega arith), (unlocks 0 (omega arith), h))
      (chosen (EachCall Runs) (deed == 1) _ _ (locks 1 (omega arith), (unlocks 1 (omega arith), h))
      (chosen (EachCall Runs) (deed == 2) _ _ (posts, (sends, h)) (receives, h)))

  body_runs : (run deed ticks sleep : ℕ) → sleep ≤ 500 → EachCall Runs (body_of run deed ticks sleep)
  body_runs run deed ticks sleep small = (deed_runs deed ticks (Making (call.Nanosleep sleep) Nothing) (sleeps sleep small, tt), tt)

  slept : (g : ℕ) → 1 + draw 500 g ≤ 500
  slept g = let h = draw-below 500 g (omega arith) in omega arith

  thread_runs : (handlers number g : ℕ) → DeclRuns handlers Runs (thread_from number g).value
  thread_runs handlers number g = (
    budget_of (draw 3 g) (2 + draw 200 (next g)) (next (next g)),
    tasks_have (EachCall Runs) (λ run deed ticks h. body_runs run deed ticks (1 + draw 500 h) (slept h)) (next (policy_from g).state),
  )

-- bodies are short and shallow
deed_short : (deed ticks : ℕ) (rest : Block) → step_count (deed_of deed ticks rest) ≤ 3 + step_count rest
deed_short deed ticks rest =
    chosen (λ b. step_count b ≤ 3 + step_count rest) (deed == 0) _ _ (omega arith)
    (chosen (λ b. step_count b ≤ 3 + step_count rest) (deed == 1) _ _ (omega arith)
    (chosen (λ b. step_count b ≤ 3 + step_count rest) (deed == 2) _ _ (omega arith) (omega arith)))

body_short : (run deed ticks sleep : ℕ) → step_count (body_of run deed ticks sleep) ≤ 65536
body_short run deed ticks sleep = let h = deed_short deed ticks (Making (call.Nanosleep sleep) Nothing) in omega arith

deed_shallow : (deed ticks : ℕ) (rest : Block) → nesting rest ≡ 0 → nesting (deed_of deed ticks rest) ≤ 0
deed_shallow deed ticks rest h =
    chosen (λ b. nesting b ≤ 0) (deed == 0) _ _ (omega arith)
    (chosen (λ b. nesting b ≤ 0) (deed == 1) _ _ (omega arith)
    (chosen (λ b. nesting b ≤ 0) (deed == 2) _ _ (omega arith) (omega arith)))

body_shallow : (run deed ticks sleep : ℕ) → nesting (body_of run deed ticks sleep) ≤ 15
body_shallow run deed ticks sleep = let h = deed_shallow deed ticks (Making (call.Nanosleep sleep) Nothing) refl in omega arith

module _ (number : ℕ) where
  abbrev Own : Script
  Own = script_of number

  abbrev count : ℕ
  count = 1 + number % 64

  few_threads : count ≤ 64
  few_threads = let h : number % 64 < 64 = mod-lt number (omega arith) in omega arith

  flattenable : IsFlattenable (bodies_of Own.decls).all
  flattenable =
      let few = few_threads in
      let many = bodies_number Own.decls in
      let long : length Own.decls ≡ 4 + count = (let h = length-threads_from count 0 (next (number % 65537)) in omega (arith, h)) in
      record {
        numbered = omega (arith, few, many, long);
        short = bodies_have (λ b. step_count b ≤ 65536) Own.decls
            (tt, (tt, (tt, (tt, each_thread (BodyHas (λ b. step_count b ≤ 65536)) (λ k g. tasks_have (λ b. step_count b ≤ 65536) (λ run deed ticks h. body_short run deed ticks (1 + draw 500 h)) (next (policy_from g).state)) count 0 (next (number % 65537))))));
        nested = bodies_have (λ b. nesting b ≤ 15) Own.decls
            (tt, (tt, (tt, (tt, each_thread (BodyHas (λ b. nesting b ≤ 15)) (λ k g. tasks_have (λ b. nesting b ≤ 15) (λ run deed ticks h. body_shallow run deed ticks (1 + draw 500 h)) (next (policy_from g).state)) count 0 (next (number % 65537))))));
      }

  shared_there : HasShared (objects_of Own)
  shared_there = record { mutexes = omega arith; semaphores = omega arith; queues = omega arith }

  decls_run : (handlers : ℕ) → Each (DeclRuns handlers (CallIsRunnable (objects_of Own))) Own.decls
  decls_run handlers =
      (tt, (tt, (omega arith, (tt, each_thread (DeclRuns handlers (CallIsRunnable (objects_of Own))) (thread_runs (objects_of Own) shared_there handlers) count 0 (next (number % 65537))))))

  pub generated_can_be_run : IsRunnable Own
  generated_can_be_run =
      let n : ℕ = length (handlers_of Own) in
      let all = decls_run n in
      record {
        few = subst (λ k. k ≤ 256) (sym (length-threads count 0 (next (number % 65537)))) (let h = few_threads in omega arith);
        flattenable = flattenable;
        calls = all_bodies n (CallIsRunnable (objects_of Own)) Own.decls all;
        handlers = all_actions n (CallIsRunnable (objects_of Own)) Own.decls all;
        budgets = all_budgets n (CallIsRunnable (objects_of Own)) Own.decls all;
        values = all_values n (CallIsRunnable (objects_of Own)) Own.decls all;
        few_queues = rw (no_queue count 0 (next (number % 65537))) (omega arith);
        few_timers = rw (no_timer count 0 (next (number % 65537))) (omega arith);
        signals = all_signals n (CallIsRunnable (objects_of Own)) Own.decls all;
      }
