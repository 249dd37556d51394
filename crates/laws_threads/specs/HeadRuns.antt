-- At each tick the head of the highest list that is not empty runs, and no other thread does (IEEE 1003.1-2017, XSH 2.8.4).
use Rattle.std.specs.Prelude.{◌≡◌, ℕ, zero, suc, ◌+◌, ◌<◌, length, Option, None, Some}
use Rattle.words_script.specs.declared.decl.Script.{Script}
use Rattle.rules_machine.specs.State.{Machine}
use Rattle.rules_machine.specs.Threads.{thread_at}
use Rattle.rules_machine.specs.Turns.{turn_of}
use Rattle.rules_machine.specs.Declarations.{threads_of}
use Rattle.rules_machine.specs.DueItems.{instant}
use Rattle.rules_machine.specs.Dispatch.{head}
use Rattle.rules_machine.specs.Machine.{bodies_of, machine}

-- 1 where the numbers are the same, else 0
abbrev pub one_at : ℕ → ℕ → ℕ
one_at zero zero = 1
one_at zero (suc u) = 0
one_at (suc t) zero = 0
one_at (suc t) (suc u) = one_at t u

-- how many ticks of one tick a thread has, where that tick is given to the head
abbrev pub share_of : Option ℕ → ℕ → ℕ
share_of None u = 0
share_of (Some t) u = one_at t u

-- how many ticks a thread has run
abbrev pub ticks_run : {P : Type 0} → Machine P → ℕ → ℕ
ticks_run m u = (thread_at m u).ticks

-- the head, unless the process has ended
abbrev pub head_unless : {P : Type 0} → Option ℕ → Machine P → Option ℕ
head_unless None m = head m
head_unless (Some signal) m = None

-- the thread that tick k is given to, once the items of its instant are handled; none where the process has ended, or all lists are
-- empty
abbrev pub head_at : Script → ℕ → Option ℕ
head_at script k = let ready = (instant (bodies_of script) (turn_of (machine script k))).machine in head_unless ready.killed ready

-- tick k counts for the head, and for no other thread
pub record HeadRuns (script : Script) (k : ℕ) : Type 0 where
  pub counted : (u : ℕ) → u < length (threads_of script) →
      ticks_run (machine script (k + 1)) u ≡ ticks_run (machine script k) u + share_of (head_at script k) u
