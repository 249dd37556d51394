-- The call that a line makes, whatever form it has and whatever its words are: it names what is declared, its numbers are in range, and
-- a server has a budget.
use Rattle.std.proofs.Common.{ℕ, ◌<◌, List, Option, arith}
use Rattle.std.specs.Option.{IfSome, option_map}
use Rattle.words_script.specs.declared.call.Call.{Call}
use Rattle.words_script.specs.declared.call.Call.TheVariants as calls
use Rattle.words_script.specs.declared.call.Moment.{Moment}
use Rattle.words_script.specs.declared.policy.Policy.{Policy}
use Rattle.script_table.specs.declared.form.CallForm.{CallForm}
use Rattle.script_table.specs.declared.form.CallForm.TheVariants as call
use Rattle.script_table.specs.declared.form.ThreadCall.{ThreadCall}
use Rattle.script_table.specs.declared.form.ThreadCall.TheVariants as thread
use Rattle.script_table.specs.declared.form.MutexCall.{MutexCall}
use Rattle.script_table.specs.declared.form.MutexCall.TheVariants as mutex
use Rattle.script_table.specs.declared.form.SemCall.{SemCall}
use Rattle.script_table.specs.declared.form.SemCall.TheVariants as sem
use Rattle.script_table.specs.declared.form.TimeCall.{TimeCall}
use Rattle.script_table.specs.declared.form.TimeCall.TheVariants as time
use Rattle.script_table.specs.declared.form.SignalCall.{SignalCall}
use Rattle.script_table.specs.declared.form.SignalCall.TheVariants as signal
use Rattle.script_table.specs.declared.form.MessageCall.{MessageCall}
use Rattle.script_table.specs.declared.form.MessageCall.TheVariants as message
use Rattle.words_script.specs.declared.name_kind.NameKind.{NameKind}
use Rattle.words_script.specs.declared.name_kind.NameKind.TheVariants as kind
use Rattle.script_table.specs.Names.{Entry}
use Rattle.script_table.specs.Operands.{map_two, number_in, amount_at, priority_at, operand_at, signal_at, signals_at, named_at, fifo_at, rr_at, sporadic_at, strict_at, moment_at, real_at}
use Rattle.script_table.specs.Calls.{thread_call, mutex_call, sem_call, time_call, signal_call, message_call, call_of}
use Rattle.rules_flat_code.specs.KnownCalls.{Objects, KnowsObjects, IsNumber, IsOperand, IsSignal, IsMoment}
use Rattle.rules_flat_code.specs.Runnable.{HasBudget, CallHasBudget}
use Rattle.laws_bounds.proofs.Operands.{mapped, mapped_two, mapped_three, mapped_four, mapped_five, Any, anything, IsFrom, number_within, amount_within, operand_within, signal_within, fifo_within, rr_within, sporadic_within, strict_within, AllBelow, named_within, moment_within, real_within}

-- how many there are of each kind that calls name by number
abbrev pub objects_by : (NameKind → ℕ) → Objects
objects_by count = record {
  threads = count kind.Thread;
  cleanups = count kind.Cleanup;
  mutexes = count kind.Mutex;
  semaphores = count kind.Sem;
  queues = count kind.Queue;
  timers = count kind.Timer;
}

-- a call knows what is declared, and has a budget where it sets a server
abbrev pub Fits : (NameKind → ℕ) → Call → Type 0
Fits count c = KnowsObjects (objects_by count) c × CallHasBudget c

module _ (count : NameKind → ℕ) (es : List Entry) (below : AllBelow count es) (words : List (List ℕ)) where
  abbrev Below : NameKind → ℕ → Type 0
  Below kind n = n < count kind

  -- calls of the first word's name, alone and with an operand
  of_name : (kind : NameKind) (make : ℕ → Call) → ((n : ℕ) → n < count kind → Fits count (make n))
      → IfSome (option_map make (named_at kind es 1 words)) (Fits count)
  of_name kind make each = mapped (Below kind) (Fits count) make each (named_at kind es 1 words) (named_within count es below kind 1 words)

  of_name_and_moment : (kind : NameKind) (make : ℕ → Moment → Call) → ((n : ℕ) (at : Moment) → n < count kind → IsMoment at → Fits count (make n at))
      → IfSome (map_two make (named_at kind es 1 words) (moment_at 2 words)) (Fits count)
  of_name_and_moment kind make each =
      mapped_two (Below kind) IsMoment (Fits count) make each (named_at kind es 1 words) (moment_at 2 words) (named_within count es below kind 1 words) (moment_within 2 words)

  of_name_and_real : (kind : NameKind) (make : ℕ → Moment → Call) → ((n : ℕ) (at : Moment) → n < count kind → IsMoment at → Fits count (make n at))
      → IfSome (map_two make (named_at kind es 1 words) (real_at 2 words)) (Fits count)
  of_name_and_real kind make each =
      mapped_two (Below kind) IsMoment (Fits count) make each (named_at kind es 1 words) (real_at 2 words) (named_within count es below kind 1 words) (real_within 2 words)

  -- a call that sets a policy
  of_policy : (policy : Option Policy) → IfSome policy HasBudget
      → IfSome (map_two calls.Setsched (named_at kind.Thread es 1 words) policy) (Fits count)
  of_policy policy budget =
      mapped_two (Below kind.Thread) HasBudget (Fits count) calls.Setsched (λ u p h b. (h, b)) (named_at kind.Thread es 1 words) policy
      (named_within count es below kind.Thread 1 words) budget

  -- a call with a set of signals
  of_set : (k : ℕ) (make : ℕ → Call) → ((set : ℕ) → Fits count (make set)) → IfSome (option_map make (signals_at k words)) (Fits count)
  of_set k make each = mapped Any (Fits count) make (λ set h. each set) (signals_at k words) (anything (signals_at k words))

  thread_fits : (f : ThreadCall) → IfSome (thread_call es f words) (Fits count)
  thread_fits thread.Yield = (tt, tt)
  thread_fits thread.Create = of_name kind.Thread calls.Create (λ u h. (h, tt))
  thread_fits thread.Join = of_name kind.Thread calls.Join (λ u h. (h, tt))
  thread_fits thread.Cancel = of_name kind.Thread calls.Cancel (λ u h. (h, tt))
  thread_fits thread.Testcancel = (tt, tt)
  thread_fits thread.SetcancelEnable = (tt, tt)
  thread_fits thread.SetcancelDisable = (tt, tt)
  thread_fits thread.Exit = mapped IsOperand (Fits count) calls.Exit (λ v h. (h, tt)) (operand_at 1 words) (operand_within 1 words)
  thread_fits thread.Setprio =
      mapped_two (Below kind.Thread) Any (Fits count) calls.Setprio (λ u p h k. (h, tt)) (named_at kind.Thread es 1 words) (priority_at 2 words)
      (named_within count es below kind.Thread 1 words) (anything (priority_at 2 words))
  thread_fits thread.SetschedFifo = of_policy (fifo_at 3 words) (fifo_within 3 words)
  thread_fits thread.SetschedRr = of_policy (rr_at 3 words) (rr_within 3 words)
  thread_fits thread.SetschedSporadic = of_policy (sporadic_at words) (sporadic_within words)
  thread_fits thread.SetschedStrict = of_policy (strict_at words) (strict_within words)

  mutex_fits : (f : MutexCall) → IfSome (mutex_call es f words) (Fits count)
  mutex_fits mutex.Lock = of_name kind.Mutex calls.Lock (λ k h. (h, tt))
  mutex_fits mutex.Timedlock = of_name_and_moment kind.Mutex calls.Timedlock (λ k at h o. ((h, o), tt))
  mutex_fits mutex.TimedlockReal = of_name_and_real kind.Mutex calls.Timedlock (λ k at h o. ((h, o), tt))
  mutex_fits mutex.Trylock = of_name kind.Mutex calls.Trylock (λ k h. (h, tt))
  mutex_fits mutex.Unlock = of_name kind.Mutex calls.Unlock (λ k h. (h, tt))
  mutex_fits mutex.Wait =
      mapped_two Any (Below kind.Mutex) (Fits count) calls.Wait (λ c k any h. (h, tt)) (named_at kind.Cond es 1 words) (named_at kind.Mutex es 2 words)
      (anything (named_at kind.Cond es 1 words)) (named_within count es below kind.Mutex 2 words)
  mutex_fits mutex.Timedwait =
      mapped_three Any (Below kind.Mutex) IsMoment (Fits count) calls.Timedwait (λ c k at any h o. ((h, o), tt))
      (named_at kind.Cond es 1 words) (named_at kind.Mutex es 2 words) (moment_at 3 words)
      (anything (named_at kind.Cond es 1 words)) (named_within count es below kind.Mutex 2 words) (moment_within 3 words)
  mutex_fits mutex.TimedwaitReal =
      mapped_three Any (Below kind.Mutex) IsMoment (Fits count) calls.Timedwait (λ c k at any h o. ((h, o), tt))
      (named_at kind.Cond es 1 words) (named_at kind.Mutex es 2 words) (real_at 3 words)
      (anything (named_at kind.Cond es 1 words)) (named_within count es below kind.Mutex 2 words) (real_within 3 words)
  mutex_fits mutex.Signal = of_name kind.Cond calls.Signal (λ c h. (tt, tt))
  mutex_fits mutex.Broadcast = of_name kind.Cond calls.Broadcast (λ c h. (tt, tt))

  sem_fits : (f : SemCall) → IfSome (sem_call es f words) (Fits count)
  sem_fits sem.Wait = of_name kind.Sem calls.SemWait (λ k h. (h, tt))
  sem_fits sem.Timedwait = of_name_and_moment kind.Sem calls.SemTimedwait (λ k at h o. ((h, o), tt))
  sem_fits sem.TimedwaitReal = of_name_and_real kind.Sem calls.SemTimedwait (λ k at h o. ((h, o), tt))
  sem_fits sem.Trywait = of_name kind.Sem calls.SemTrywait (λ k h. (h, tt))
  sem_fits sem.Getvalue = of_name kind.Sem calls.SemGetvalue (λ k h. (h, tt))
  sem_fits sem.Post = of_name kind.Sem calls.SemPost (λ k h. (h, tt))

  time_fits : (f : TimeCall) → IfSome (time_call es f words) (Fits count)
  time_fits time.Nanosleep = mapped IsNumber (Fits count) calls.Nanosleep (λ n h. (h, tt)) (amount_at 1 words) (amount_within 1 words)
  time_fits time.ClockNanosleep =
      mapped IsMoment (Fits count) calls.ClockNanosleep (λ at h. (h, tt)) (moment_at 1 words) (moment_within 1 words)
  time_fits time.ClockNanosleepReal =
      mapped IsMoment (Fits count) calls.ClockNanosleep (λ at h. (h, tt)) (real_at 1 words) (real_within 1 words)
  time_fits time.Gettime = (tt, tt)
  time_fits time.RealGettime = (tt, tt)
  time_fits time.ClockSettime = mapped IsOperand (Fits count) calls.ClockSettime (λ v h. (h, tt)) (operand_at 1 words) (operand_within 1 words)
  time_fits time.TimerSettimeRel =
      mapped_three (Below kind.Timer) IsNumber IsNumber (Fits count) calls.TimerSettimeRel (λ k n i h a b. ((h, a, b), tt))
      (named_at kind.Timer es 1 words) (amount_at 3 words) (amount_at 4 words)
      (named_within count es below kind.Timer 1 words) (amount_within 3 words) (amount_within 4 words)
  time_fits time.TimerSettimeAbs =
      mapped_three (Below kind.Timer) IsOperand IsNumber (Fits count) calls.TimerSettimeAbs (λ k at i h a b. ((h, a, b), tt))
      (named_at kind.Timer es 1 words) (operand_at 3 words) (amount_at 4 words)
      (named_within count es below kind.Timer 1 words) (operand_within 3 words) (amount_within 4 words)
  time_fits time.TimerGettime = of_name kind.Timer calls.TimerGettime (λ k h. (h, tt))
  time_fits time.TimerGetoverrun = of_name kind.Timer calls.TimerGetoverrun (λ k h. (h, tt))

  signal_fits : (f : SignalCall) → IfSome (signal_call es f words) (Fits count)
  signal_fits signal.Kill = mapped IsSignal (Fits count) calls.Kill (λ k h. (h, tt)) (signal_at 1 words) (signal_within 1 words)
  signal_fits signal.Tkill =
      mapped_two (Below kind.Thread) IsSignal (Fits count) calls.Tkill (λ u k h s. ((h, s), tt))
      (named_at kind.Thread es 1 words) (signal_at 2 words) (named_within count es below kind.Thread 1 words) (signal_within 2 words)
  signal_fits signal.Sigqueue =
      mapped_two IsSignal IsOperand (Fits count) calls.Sigqueue (λ k v s o. ((s, o), tt))
      (signal_at 1 words) (operand_at 2 words) (signal_within 1 words) (operand_within 2 words)
  signal_fits signal.SigmaskBlock = of_set 2 calls.SigmaskBlock (λ set. (tt, tt))
  signal_fits signal.SigmaskUnblock = of_set 2 calls.SigmaskUnblock (λ set. (tt, tt))
  signal_fits signal.SigmaskSet = of_set 2 calls.SigmaskSet (λ set. (tt, tt))
  signal_fits signal.Sigwaitinfo = of_set 1 calls.Sigwaitinfo (λ set. (tt, tt))
  signal_fits signal.Sigtimedwait =
      mapped_two Any IsNumber (Fits count) calls.Sigtimedwait (λ set n any h. (h, tt))
      (signals_at 1 words) (amount_at 2 words) (anything (signals_at 1 words)) (amount_within 2 words)

  message_fits : (f : MessageCall) → IfSome (message_call es f words) (Fits count)
  message_fits message.Send =
      mapped_four (Below kind.Queue) Any (IsFrom 0 31) IsOperand (Fits count) calls.MqSend
      (λ q len p v h any r o. ((h, omega (arith, r.1), o), tt))
      (named_at kind.Queue es 1 words) (number_in 0 65536 2 words) (number_in 0 31 3 words) (operand_at 4 words)
      (named_within count es below kind.Queue 1 words) (anything (number_in 0 65536 2 words)) (number_within 0 31 3 words) (operand_within 4 words)
  message_fits message.Timedsend =
      mapped_five (Below kind.Queue) Any (IsFrom 0 31) IsOperand IsMoment (Fits count) calls.MqTimedsend
      (λ q len p v at h any r o a. ((h, omega (arith, r.1), o, a), tt))
      (named_at kind.Queue es 1 words) (number_in 0 65536 2 words) (number_in 0 31 3 words) (operand_at 4 words) (moment_at 5 words)
      (named_within count es below kind.Queue 1 words) (anything (number_in 0 65536 2 words)) (number_within 0 31 3 words) (operand_within 4 words) (moment_within 5 words)
  message_fits message.TimedsendReal =
      mapped_five (Below kind.Queue) Any (IsFrom 0 31) IsOperand IsMoment (Fits count) calls.MqTimedsend
      (λ q len p v at h any r o a. ((h, omega (arith, r.1), o, a), tt))
      (named_at kind.Queue es 1 words) (number_in 0 65536 2 words) (number_in 0 31 3 words) (operand_at 4 words) (real_at 5 words)
      (named_within count es below kind.Queue 1 words) (anything (number_in 0 65536 2 words)) (number_within 0 31 3 words) (operand_within 4 words) (real_within 5 words)
  message_fits message.Receive = of_name kind.Queue calls.MqReceive (λ q h. (h, tt))
  message_fits message.Timedreceive = of_name_and_moment kind.Queue calls.MqTimedreceive (λ q at h o. ((h, o), tt))
  message_fits message.TimedreceiveReal = of_name_and_real kind.Queue calls.MqTimedreceive (λ q at h o. ((h, o), tt))
  message_fits message.Notify =
      mapped_three (Below kind.Queue) IsSignal IsOperand (Fits count) calls.MqNotify (λ q k v h s o. ((h, s, o), tt))
      (named_at kind.Queue es 1 words) (signal_at 2 words) (operand_at 3 words)
      (named_within count es below kind.Queue 1 words) (signal_within 2 words) (operand_within 3 words)

  pub call_fits : (f : CallForm) → IfSome (call_of es f words) (Fits count)
  call_fits (call.Thread f) = thread_fits f
  call_fits (call.Mutex f) = mutex_fits f
  call_fits (call.Sem f) = sem_fits f
  call_fits (call.Time f) = time_fits f
  call_fits (call.Signal f) = signal_fits f
  call_fits (call.Message f) = message_fits f
