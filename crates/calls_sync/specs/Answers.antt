-- How a lock comes out, and what the machine is then.
use Rattle.std.specs.Prelude.{◌≡◌, ◌==◌, ℕ, Bool, IsSome, None, false, true}
use Rattle.words_numbers.specs.declared.res.Res.{Res}
use Rattle.words_numbers.specs.declared.res.Res.TheVariants as res
use Rattle.rules_machine.specs.declared.thread.CondEnd.TheVariants as cond_end
use Rattle.rules_machine.specs.State.{Machine, Wait, for_mutex_again}
use Rattle.rules_machine.specs.Threads.{mutex_at}
use Rattle.rules_machine.specs.Mutexes.{LockAnswer, closes_cycle, counts, must_wait, recursion_limit, refused, takes}
use Rattle.calls_sync.specs.declared.answers.LockAnswer as declared
use Rattle.calls_sync.specs.declared.answers.LockAnswer.TheVariants as answer

abbrev pub answer_of : declared.LockAnswer → LockAnswer
answer_of (answer.Refused result) = refused result
answer_of answer.Counts = counts
answer_of answer.Takes = takes
answer_of answer.MustWait = must_wait

-- what an answer means for the mutex
abbrev pub CanAct : {P : Type 0} → Machine P → ℕ → ℕ → LockAnswer → Type 0
CanAct m t k (refused result) = Unit {0}
CanAct m t k counts = ((mutex_at m k).count == recursion_limit) ≡ false
CanAct m t k takes = (mutex_at m k).owner ≡ None
CanAct m t k must_wait = IsSome (mutex_at m k).owner × (closes_cycle m k t ≡ false)

-- what a wait answers that ends as its mutex is handed over
abbrev pub owner_answer : Wait → Res
owner_answer (for_mutex_again k cond_end.Timedout) = res.Timedout
owner_answer wait = res.Zero

-- whether the request that ended its condition wait acts as its mutex is handed over
abbrev pub is_cancelled_wait : Wait → Bool
is_cancelled_wait (for_mutex_again k cond_end.Cancelled) = true
is_cancelled_wait wait = false
