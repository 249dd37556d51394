-- The call of a line keeps its ranges, and neither pushes nor pops a cleanup handler.
use Rattle.std.proofs.Common.{List, None, Option, Some, false, refl, ℕ, ◌≡◌}
use Rattle.std.specs.Option.{option_map}
use Rattle.words_script.specs.declared.call.Call.{Call}
use Rattle.words_script.specs.declared.call.Call.TheVariants as calls
use Rattle.words_script.specs.declared.policy.Policy.{Policy}
use Rattle.rules_machine.specs.WellFormed.{CallFits, IsPriority, PolicyFits, is_guarding}
use Rattle.script_table.specs.declared.form.CallForm.{CallForm}
use Rattle.script_table.specs.declared.form.CallForm.TheVariants as call
use Rattle.script_table.specs.declared.form.ThreadCall.{ThreadCall}
use Rattle.script_table.specs.declared.form.ThreadCall.TheVariants as thread
use Rattle.script_table.specs.declared.form.MutexCall.{MutexCall}
use Rattle.script_table.specs.declared.form.MutexCall.TheVariants as mutex
use Rattle.script_table.specs.declared.form.SemCall.{SemCall}
use Rattle.script_table.specs.declared.form.SemCall.TheVariants as sem
use Rattle.script_table.specs.declared.form.TimeCall.{TimeCall}
use Rattle.script_table.specs.declared.form.TimeCall.TheVariants as time
use Rattle.script_table.specs.declared.form.SignalCall.{SignalCall}
use Rattle.script_table.specs.declared.form.SignalCall.TheVariants as signal
use Rattle.script_table.specs.declared.form.MessageCall.{MessageCall}
use Rattle.script_table.specs.declared.form.MessageCall.TheVariants as message
use Rattle.words_script.specs.declared.name_kind.NameKind.TheVariants.{Thread, Mutex, Cond, Sem, Queue, Timer}
use Rattle.script_table.specs.Names.{Entry}
use Rattle.script_table.specs.Operands.{amount_at, fifo_at, map_five, map_four, map_three, map_two, moment_at, named_at, number_in, operand_at, priority_at, rr_at, signal_at, signals_at, sporadic_at, strict_at, real_at}
use Rattle.script_table.specs.Calls.{call_of, mutex_call, message_call, sem_call, signal_call, thread_call, time_call}
use Rattle.laws_accepted.proofs.Operands.{Said, fifo_fits, map_said, priority_is, rr_fits, sporadic_fits, strict_fits, two_said}

pub record IsPlainCall (c : Call) : Type 0 where
  pub fits : CallFits c
  pub plain : is_guarding c ≡ false

-- calls whose ranges are none
abbrev Any : {A : Type 0} → A → Type 0
Any x = Unit {0}

any : {A : Type 0} (o : Option A) → Said Any o
any None = tt
any (Some x) = tt

one : {A : Type 0} (make : A → Call) → ((x : A) → IsPlainCall (make x)) → (o : Option A) → Said IsPlainCall (option_map make o)
one make each o = map_said Any IsPlainCall make (λ x h. each x) o (any o)

two : {A B : Type 0} (make : A → B → Call) → ((x : A) (y : B) → IsPlainCall (make x y)) → (o : Option A) (p : Option B) → Said IsPlainCall (map_two make o p)
two make each o p = two_said Any Any IsPlainCall make (λ x y h k. each x y) o p (any o) (any p)

three : {A B C : Type 0} (make : A → B → C → Call) → ((x : A) (y : B) (z : C) → IsPlainCall (make x y z)) → (o : Option A) (p : Option B) (q : Option C) → Said IsPlainCall (map_three make o p q)
three make each None p q = tt
three make each (Some x) p q = two (make x) (each x) p q

four : {A B C D : Type 0} (make : A → B → C → D → Call) → ((x : A) (y : B) (z : C) (w : D) → IsPlainCall (make x y z w)) →
    (o : Option A) (p : Option B) (q : Option C) (r : Option D) → Said IsPlainCall (map_four make o p q r)
four make each None p q r = tt
four make each (Some x) p q r = three (make x) (each x) p q r

five : {A B C D E : Type 0} (make : A → B → C → D → E → Call) → ((x : A) (y : B) (z : C) (w : D) (v : E) → IsPlainCall (make x y z w v)) →
    (o : Option A) (p : Option B) (q : Option C) (r : Option D) (s : Option E) → Said IsPlainCall (map_five make o p q r s)
five make each None p q r s = tt
five make each (Some x) p q r s = four (make x) (each x) p q r s

-- a thread's new policy
setsched : (o : Option ℕ) (p : Option Policy) → Said PolicyFits p → Said IsPlainCall (map_two calls.Setsched o p)
setsched o p h = two_said Any PolicyFits IsPlainCall calls.Setsched (λ u new a k. record { fits = k; plain = refl }) o p (any o) h

thread_plain : (es : List Entry) (f : ThreadCall) (words : List (List ℕ)) → Said IsPlainCall (thread_call es f words)
thread_plain es thread.Yield words = record { fits = tt; plain = refl }
thread_plain es thread.Create words = one calls.Create (λ u. record { fits = tt; plain = refl }) (named_at Thread es 1 words)
thread_plain es thread.Join words = one calls.Join (λ u. record { fits = tt; plain = refl }) (named_at Thread es 1 words)
thread_plain es thread.Cancel words = one calls.Cancel (λ u. record { fits = tt; plain = refl }) (named_at Thread es 1 words)
thread_plain es thread.Testcancel words = record { fits = tt; plain = refl }
thread_plain es thread.SetcancelEnable words = record { fits = tt; plain = refl }
thread_plain es thread.SetcancelDisable words = record { fits = tt; plain = refl }
thread_plain es thread.Exit words = one calls.Exit (λ v. record { fits = tt; plain = refl }) (operand_at 1 words)
thread_plain es thread.Setprio words =
    two_said Any IsPriority IsPlainCall calls.Setprio (λ u p a h. record { fits = h; plain = refl }) (named_at Thread es 1 words) (priority_at 2 words) (any (named_at Thread es 1 words)) (priority_is 2 words)
thread_plain es thread.SetschedFifo words = setsched (named_at Thread es 1 words) (fifo_at 3 words) (fifo_fits 3 words)
thread_plain es thread.SetschedRr words = setsched (named_at Thread es 1 words) (rr_at 3 words) (rr_fits 3 words)
thread_plain es thread.SetschedSporadic words = setsched (named_at Thread es 1 words) (sporadic_at words) (sporadic_fits words)
thread_plain es thread.SetschedStrict words = setsched (named_at Thread es 1 words) (strict_at words) (strict_fits words)

mutex_plain : (es : List Entry) (f : MutexCall) (words : List (List ℕ)) → Said IsPlainCall (mutex_call es f words)
mutex_plain es mutex.Lock words = one calls.Lock (λ k. record { fits = tt; plain = refl }) (named_at Mutex es 1 words)
mutex_plain es mutex.Timedlock words = two calls.Timedlock (λ k at. record { fits = tt; plain = refl }) (named_at Mutex es 1 words) (moment_at 2 words)
mutex_plain es mutex.TimedlockReal words = two calls.Timedlock (λ k at. record { fits = tt; plain = refl }) (named_at Mutex es 1 words) (real_at 2 words)
mutex_plain es mutex.Trylock words = one calls.Trylock (λ k. record { fits = tt; plain = refl }) (named_at Mutex es 1 words)
mutex_plain es mutex.Unlock words = one calls.Unlock (λ k. record { fits = tt; plain = refl }) (named_at Mutex es 1 words)
mutex_plain es mutex.Wait words = two calls.Wait (λ c k. record { fits = tt; plain = refl }) (named_at Cond es 1 words) (named_at Mutex es 2 words)
mutex_plain es mutex.Timedwait words = three calls.Timedwait (λ c k at. record { fits = tt; plain = refl }) (named_at Cond es 1 words) (named_at Mutex es 2 words) (moment_at 3 words)
mutex_plain es mutex.TimedwaitReal words = three calls.Timedwait (λ c k at. record { fits = tt; plain = refl }) (named_at Cond es 1 words) (named_at Mutex es 2 words) (real_at 3 words)
mutex_plain es mutex.Signal words = one calls.Signal (λ c. record { fits = tt; plain = refl }) (named_at Cond es 1 words)
mutex_plain es mutex.Broadcast words = one calls.Broadcast (λ c. record { fits = tt; plain = refl }) (named_at Cond es 1 words)

sem_plain : (es : List Entry) (f : SemCall) (words : List (List ℕ)) → Said IsPlainCall (sem_call es f words)
sem_plain es sem.Wait words = one calls.SemWait (λ k. record { fits = tt; plain = refl }) (named_at Sem es 1 words)
sem_plain es sem.Timedwait words = two calls.SemTimedwait (λ k at. record { fits = tt; plain = refl }) (named_at Sem es 1 words) (moment_at 2 words)
sem_plain es sem.TimedwaitReal words = two calls.SemTimedwait (λ k at. record { fits = tt; plain = refl }) (named_at Sem es 1 words) (real_at 2 words)
sem_plain es sem.Trywait words = one calls.SemTrywait (λ k. record { fits = tt; plain = refl }) (named_at Sem es 1 words)
sem_plain es sem.Getvalue words = one calls.SemGetvalue (λ k. record { fits = tt; plain = refl }) (named_at Sem es 1 words)
sem_plain es sem.Post words = one calls.SemPost (λ k. record { fits = tt; plain = refl }) (named_at Sem es 1 words)

time_plain : (es : List Entry) (f : TimeCall) (words : List (List ℕ)) → Said IsPlainCall (time_call es f words)
time_plain es time.Nanosleep words = one calls.Nanosleep (λ n. record { fits = tt; plain = refl }) (amount_at 1 words)
time_plain es time.ClockNanosleep words = one calls.ClockNanosleep (λ at. record { fits = tt; plain = refl }) (moment_at 1 words)
time_plain es time.ClockNanosleepReal words = one calls.ClockNanosleep (λ at. record { fits = tt; plain = refl }) (real_at 1 words)
time_plain es time.Gettime words = record { fits = tt; plain = refl }
time_plain es time.RealGettime words = record { fits = tt; plain = refl }
time_plain es time.ClockSettime words = one calls.ClockSettime (λ v. record { fits = tt; plain = refl }) (operand_at 1 words)
time_plain es time.TimerSettimeRel words = three calls.TimerSettimeRel (λ k n interval. record { fits = tt; plain = refl }) (named_at Timer es 1 words) (amount_at 3 words) (amount_at 4 words)
time_plain es time.TimerSettimeAbs words = three calls.TimerSettimeAbs (λ k at interval. record { fits = tt; plain = refl }) (named_at Timer es 1 words) (operand_at 3 words) (amount_at 4 words)
time_plain es time.TimerGettime words = one calls.TimerGettime (λ k. record { fits = tt; plain = refl }) (named_at Timer es 1 words)
time_plain es time.TimerGetoverrun words = one calls.TimerGetoverrun (λ k. record { fits = tt; plain = refl }) (named_at Timer es 1 words)

signal_plain : (es : List Entry) (f : SignalCall) (words : List (List ℕ)) → Said IsPlainCall (signal_call es f words)
signal_plain es signal.Kill words = one calls.Kill (λ n. record { fits = tt; plain = refl }) (signal_at 1 words)
signal_plain es signal.Tkill words = two calls.Tkill (λ u n. record { fits = tt; plain = refl }) (named_at Thread es 1 words) (signal_at 2 words)
signal_plain es signal.Sigqueue words = two calls.Sigqueue (λ n v. record { fits = tt; plain = refl }) (signal_at 1 words) (operand_at 2 words)
signal_plain es signal.SigmaskBlock words = one calls.SigmaskBlock (λ set. record { fits = tt; plain = refl }) (signals_at 2 words)
signal_plain es signal.SigmaskUnblock words = one calls.SigmaskUnblock (λ set. record { fits = tt; plain = refl }) (signals_at 2 words)
signal_plain es signal.SigmaskSet words = one calls.SigmaskSet (λ set. record { fits = tt; plain = refl }) (signals_at 2 words)
signal_plain es signal.Sigwaitinfo words = one calls.Sigwaitinfo (λ set. record { fits = tt; plain = refl }) (signals_at 1 words)
signal_plain es signal.Sigtimedwait words = two calls.Sigtimedwait (λ set n. record { fits = tt; plain = refl }) (signals_at 1 words) (amount_at 2 words)

message_plain : (es : List Entry) (f : MessageCall) (words : List (List ℕ)) → Said IsPlainCall (message_call es f words)
message_plain es message.Send words = four calls.MqSend (λ q n p v. record { fits = tt; plain = refl }) (named_at Queue es 1 words) (number_in 0 65536 2 words) (number_in 0 31 3 words) (operand_at 4 words)
message_plain es message.Timedsend words =
    five calls.MqTimedsend (λ q n p v at. record { fits = tt; plain = refl }) (named_at Queue es 1 words) (number_in 0 65536 2 words) (number_in 0 31 3 words) (operand_at 4 words) (moment_at 5 words)
message_plain es message.TimedsendReal words =
    five calls.MqTimedsend (λ q n p v at. record { fits = tt; plain = refl }) (named_at Queue es 1 words) (number_in 0 65536 2 words) (number_in 0 31 3 words) (operand_at 4 words) (real_at 5 words)
message_plain es message.Receive words = one calls.MqReceive (λ q. record { fits = tt; plain = refl }) (named_at Queue es 1 words)
message_plain es message.Timedreceive words = two calls.MqTimedreceive (λ q at. record { fits = tt; plain = refl }) (named_at Queue es 1 words) (moment_at 2 words)
message_plain es message.TimedreceiveReal words = two calls.MqTimedreceive (λ q at. record { fits = tt; plain = refl }) (named_at Queue es 1 words) (real_at 2 words)
message_plain es message.Notify words = three calls.MqNotify (λ q n v. record { fits = tt; plain = refl }) (named_at Queue es 1 words) (signal_at 2 words) (operand_at 3 words)

pub call_plain : (es : List Entry) (f : CallForm) (words : List (List ℕ)) → Said IsPlainCall (call_of es f words)
call_plain es (call.Thread f) words = thread_plain es f words
call_plain es (call.Mutex f) words = mutex_plain es f words
call_plain es (call.Sem f) words = sem_plain es f words
call_plain es (call.Time f) words = time_plain es f words
call_plain es (call.Signal f) words = signal_plain es f words
call_plain es (call.Message f) words = message_plain es f words
