-- The script of a number. This project's own.
use Rattle.std.specs.Prelude.{ℕ, zero, suc, ◌+◌, ◌%◌, ◌==◌, nat_lt, true, false, if◌then◌else◌, List, [], ◌∷◌, ◌++◌, None, Some, codes, decimal}
use Rattle.words_script.specs.declared.call.Call.TheVariants as call
use Rattle.words_script.specs.declared.call.Operand.TheVariants.{Num}
use Rattle.words_script.specs.declared.policy.Policy.{Policy}
use Rattle.words_script.specs.declared.policy.Policy.TheVariants as policy
use Rattle.words_script.specs.declared.policy.Protocol.TheVariants as protocol
use Rattle.words_script.specs.declared.decl.Decl.{Decl}
use Rattle.words_script.specs.declared.decl.Decl.TheVariants.{Named}
use Rattle.words_script.specs.declared.decl.Kind.TheVariants as kind
use Rattle.words_script.specs.declared.decl.Script.{Script}
use Rattle.words_script.specs.Block.{Block, Nothing, Running, Making, Looping}
use Rattle.script_generator.specs.Draws.{modulus, next, draw, Drawn}

-- the policy of this kind and priority; a server has the low priority 1 and the period 50
abbrev pub policy_of : ℕ → ℕ → ℕ → Drawn Policy
policy_of kind prio g =
    if kind == 0 then record { value = policy.Fifo prio; state = g }
    else if kind == 1 then record { value = policy.Rr prio; state = g }
    else record {
      value = policy.Sporadic (record { high = prio; low = 1; period = 50; budget = 1 + draw 10 g; max = 1 + draw 16 (next g) });
      state = next (next g);
    }

-- a kind, a priority from 2 to 201, and what the kind wants
abbrev pub policy_from : ℕ → Drawn Policy
policy_from g = policy_of (draw 3 g) (2 + draw 200 (next g)) (next (next g))

-- a mutex is held for so many ticks
abbrev pub holding : ℕ → ℕ → Block → Block
holding mutex ticks rest = Making (call.Lock mutex) (Running ticks (Making (call.Unlock mutex) rest))

-- what a thread does between running and sleeping: it holds one of the two mutexes, sends a message, or receives one
abbrev pub deed_of : ℕ → ℕ → Block → Block
deed_of deed ticks rest =
    if deed == 0 then holding 0 ticks rest
    else if deed == 1 then holding 1 ticks rest
    else if deed == 2 then Making (call.SemPost 0) (Making (call.MqSend 0 8 1 (Num 1)) rest)
    else Making (call.MqReceive 0) rest

-- it runs, does its deed and sleeps, forever
abbrev pub body_of : ℕ → ℕ → ℕ → ℕ → Block
body_of run deed ticks sleep = Looping None (Running run (deed_of deed ticks (Making (call.Nanosleep sleep) Nothing))) Nothing

-- how long a mutex is held; no other deed has such a time, and none is drawn for it
abbrev pub hold : ℕ → ℕ → ℕ
hold deed g = if nat_lt deed 2 then 1 + draw 5 g else 0

abbrev pub after_deed : ℕ → ℕ → ℕ
after_deed deed g = if nat_lt deed 2 then next g else g

abbrev pub body_from : ℕ → ℕ → ℕ → Drawn Block
body_from run deed g = record {
  value = body_of run deed (hold deed g) (1 + draw 500 (after_deed deed g));
  state = next (after_deed deed g);
}

-- how long a thread runs, what its deed is, and its body
abbrev pub task_from : ℕ → Drawn Block
task_from g = body_from (1 + draw 9 g) (draw 4 (next g)) (next (next g))

-- the thread of this number, which starts before instant 100
abbrev pub thread_of : ℕ → Policy → ℕ → Drawn Block → Drawn Decl
thread_of number p at task = record {
  value = Named (codes "t" ++ decimal number) (kind.Thread p (Some at) task.value);
  state = task.state;
}

abbrev pub thread_after : ℕ → Drawn Policy → Drawn Decl
thread_after number p = thread_of number p.value (draw 100 p.state) (task_from (next p.state))

abbrev pub thread_from : ℕ → ℕ → Drawn Decl
thread_from number g = thread_after number (policy_from g)

-- so many threads from this number on
abbrev pub threads_from : ℕ → ℕ → ℕ → List Decl
threads_from zero number g = []
threads_from (suc count) number g = (thread_from number g).value ∷ threads_from count (number + 1) (thread_from number g).state

-- what all threads share: two mutexes, a semaphore and a queue
abbrev pub shared : List Decl
shared =
    Named (codes "m0") (kind.Mutex protocol.Inherit false)
    ∷ Named (codes "m1") (kind.Mutex (protocol.Protect 255) false)
    ∷ Named (codes "s0") (kind.Sem 0)
    ∷ Named (codes "q0") (kind.Queue 8 64 true)
    ∷ []

-- the script of a number: a quantum from 1 to 8, and 1 to 64 threads
abbrev pub script_of : ℕ → Script
script_of number = record {
  version = 1;
  quantum = 1 + draw 8 (number % modulus);
  decls = shared ++ threads_from (1 + number % 64) 0 (next (number % modulus));
}
