-- What the kernel asks of a script. Whatever the reader accepts has it.
use Rattle.std.specs.Prelude.{◌≤◌, ◌<◌, ℕ, All, None, Some, length}
use Rattle.words_script.specs.declared.call.Call.{Call}
use Rattle.words_script.specs.declared.call.Call.TheVariants as call
use Rattle.words_script.specs.declared.decl.Decl.{Decl}
use Rattle.words_script.specs.declared.decl.Decl.TheVariants as decl
use Rattle.words_script.specs.declared.decl.Kind.TheVariants as kind
use Rattle.words_script.specs.declared.decl.Script.{Script}
use Rattle.words_script.specs.declared.policy.Policy.{Policy}
use Rattle.words_script.specs.declared.policy.Policy.TheVariants as policy
use Rattle.rules_bodies.specs.Flat.{IsFlattenable, bodies_of}
use Rattle.rules_machine.specs.Declarations.{ThreadDecl, handlers_of, queues_of, threads_of, timers_of}
use Rattle.rules_machine.specs.Semaphores.{semaphore_limit}
use Rattle.rules_flat_code.specs.EachCall.{EachCall}
use Rattle.rules_flat_code.specs.KnownCalls.{IsSignal, KnowsObjects, Objects, objects_of}

-- a server begins with a budget
abbrev pub HasBudget : Policy → Type 0
HasBudget (policy.Fifo p) = Unit {0}
HasBudget (policy.Rr p) = Unit {0}
HasBudget (policy.Sporadic params) = 1 ≤ params.budget
HasBudget (policy.Strict params) = 1 ≤ params.budget

abbrev pub CallHasBudget : Call → Type 0
CallHasBudget (call.Setsched u policy) = HasBudget policy
CallHasBudget other = Unit {0}

-- a call names what there is of so many objects
pub record CallIsRunnable (o : Objects) (c : Call) : Type 0 where
  pub objects : KnowsObjects o c
  pub budget : CallHasBudget c

-- the handler of a signal's action is one of so many
abbrev pub ActionNames : ℕ → Decl → Type 0
ActionNames handlers (decl.Named name kind) = Unit {0}
ActionNames handlers (decl.Action signal None) = Unit {0}
ActionNames handlers (decl.Action signal (Some h)) = h < handlers

-- the first value of a semaphore is at most the greatest that one may have
abbrev pub HasValue : Decl → Type 0
HasValue (decl.Named name (kind.Sem value)) = value ≤ semaphore_limit
HasValue other = Unit {0}

-- a timer sends one of the signals
abbrev pub HasSignal : Decl → Type 0
HasSignal (decl.Named name (kind.Timer signal value real)) = IsSignal signal
HasSignal other = Unit {0}

-- at most 256 threads, 16 queues and 32 timers, bodies of at most 65,536 steps and 16 blocks inside one another, and calls and actions that name
-- what is declared
pub record IsRunnable (script : Script) : Type 0 where
  pub few : length (threads_of script) ≤ 256
  pub flattenable : IsFlattenable (bodies_of script.decls).all
  pub calls : All (EachCall (CallIsRunnable (objects_of script))) (bodies_of script.decls).all
  pub handlers : All (ActionNames (length (handlers_of script))) script.decls
  pub budgets : All (λ (d : ThreadDecl). HasBudget d.policy) (threads_of script)
  pub values : All HasValue script.decls
  pub few_queues : length (queues_of script) ≤ 16
  pub few_timers : length (timers_of script) ≤ 32
  pub signals : All HasSignal script.decls
