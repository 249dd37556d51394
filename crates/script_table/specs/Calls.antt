-- The call that a line makes: the calls of IEEE 1003.1-2017 by this project's own words for them.
use Rattle.std.specs.Prelude.{ℕ, List, true, false, Option, Some}
use Rattle.std.specs.Option.{option_map}
use Rattle.words_script.specs.declared.call.Call.{Call}
use Rattle.words_script.specs.declared.call.Call.TheVariants as calls
use Rattle.script_table.specs.declared.form.CallForm.{CallForm}
use Rattle.script_table.specs.declared.form.CallForm.TheVariants as call
use Rattle.script_table.specs.declared.form.ThreadCall.{ThreadCall}
use Rattle.script_table.specs.declared.form.ThreadCall.TheVariants as thread
use Rattle.script_table.specs.declared.form.MutexCall.{MutexCall}
use Rattle.script_table.specs.declared.form.MutexCall.TheVariants as mutex
use Rattle.script_table.specs.declared.form.SemCall.{SemCall}
use Rattle.script_table.specs.declared.form.SemCall.TheVariants as sem
use Rattle.script_table.specs.declared.form.TimeCall.{TimeCall}
use Rattle.script_table.specs.declared.form.TimeCall.TheVariants as time
use Rattle.script_table.specs.declared.form.SignalCall.{SignalCall}
use Rattle.script_table.specs.declared.form.SignalCall.TheVariants as signal
use Rattle.script_table.specs.declared.form.MessageCall.{MessageCall}
use Rattle.script_table.specs.declared.form.MessageCall.TheVariants as message
use Rattle.words_script.specs.declared.name_kind.NameKind.TheVariants.{Thread, Mutex, Cond, Sem, Queue, Timer}
use Rattle.script_table.specs.Names.{Entry}
use Rattle.script_table.specs.Operands.{amount_at, fifo_at, map_five, map_four, map_three, map_two, moment_at, named_at, number_in, operand_at, priority_at, rr_at, signal_at, signals_at, sporadic_at, strict_at, real_at}

abbrev pub thread_call : List Entry → ThreadCall → List (List ℕ) → Option Call
thread_call es thread.Yield words = Some calls.Yield
thread_call es thread.Create words = option_map calls.Create (named_at Thread es 1 words)
thread_call es thread.Join words = option_map calls.Join (named_at Thread es 1 words)
thread_call es thread.Cancel words = option_map calls.Cancel (named_at Thread es 1 words)
thread_call es thread.Testcancel words = Some calls.Testcancel
thread_call es thread.SetcancelEnable words = Some (calls.Setcancel true)
thread_call es thread.SetcancelDisable words = Some (calls.Setcancel false)
thread_call es thread.Exit words = option_map calls.Exit (operand_at 1 words)
thread_call es thread.Setprio words = map_two calls.Setprio (named_at Thread es 1 words) (priority_at 2 words)
thread_call es thread.SetschedFifo words = map_two calls.Setsched (named_at Thread es 1 words) (fifo_at 3 words)
thread_call es thread.SetschedRr words = map_two calls.Setsched (named_at Thread es 1 words) (rr_at 3 words)
thread_call es thread.SetschedSporadic words = map_two calls.Setsched (named_at Thread es 1 words) (sporadic_at words)
thread_call es thread.SetschedStrict words = map_two calls.Setsched (named_at Thread es 1 words) (strict_at words)

abbrev pub mutex_call : List Entry → MutexCall → List (List ℕ) → Option Call
mutex_call es mutex.Lock words = option_map calls.Lock (named_at Mutex es 1 words)
mutex_call es mutex.Timedlock words = map_two calls.Timedlock (named_at Mutex es 1 words) (moment_at 2 words)
mutex_call es mutex.TimedlockReal words = map_two calls.Timedlock (named_at Mutex es 1 words) (real_at 2 words)
mutex_call es mutex.Trylock words = option_map calls.Trylock (named_at Mutex es 1 words)
mutex_call es mutex.Unlock words = option_map calls.Unlock (named_at Mutex es 1 words)
mutex_call es mutex.Wait words = map_two calls.Wait (named_at Cond es 1 words) (named_at Mutex es 2 words)
mutex_call es mutex.Timedwait words = map_three calls.Timedwait (named_at Cond es 1 words) (named_at Mutex es 2 words) (moment_at 3 words)
mutex_call es mutex.TimedwaitReal words = map_three calls.Timedwait (named_at Cond es 1 words) (named_at Mutex es 2 words) (real_at 3 words)
mutex_call es mutex.Signal words = option_map calls.Signal (named_at Cond es 1 words)
mutex_call es mutex.Broadcast words = option_map calls.Broadcast (named_at Cond es 1 words)

abbrev pub sem_call : List Entry → SemCall → List (List ℕ) → Option Call
sem_call es sem.Wait words = option_map calls.SemWait (named_at Sem es 1 words)
sem_call es sem.Timedwait words = map_two calls.SemTimedwait (named_at Sem es 1 words) (moment_at 2 words)
sem_call es sem.TimedwaitReal words = map_two calls.SemTimedwait (named_at Sem es 1 words) (real_at 2 words)
sem_call es sem.Trywait words = option_map calls.SemTrywait (named_at Sem es 1 words)
sem_call es sem.Getvalue words = option_map calls.SemGetvalue (named_at Sem es 1 words)
sem_call es sem.Post words = option_map calls.SemPost (named_at Sem es 1 words)

abbrev pub time_call : List Entry → TimeCall → List (List ℕ) → Option Call
time_call es time.Nanosleep words = option_map calls.Nanosleep (amount_at 1 words)
time_call es time.ClockNanosleep words = option_map calls.ClockNanosleep (moment_at 1 words)
time_call es time.ClockNanosleepReal words = option_map calls.ClockNanosleep (real_at 1 words)
time_call es time.Gettime words = Some calls.Gettime
time_call es time.RealGettime words = Some calls.RealGettime
time_call es time.ClockSettime words = option_map calls.ClockSettime (operand_at 1 words)
time_call es time.TimerSettimeRel words = map_three calls.TimerSettimeRel (named_at Timer es 1 words) (amount_at 3 words) (amount_at 4 words)
time_call es time.TimerSettimeAbs words = map_three calls.TimerSettimeAbs (named_at Timer es 1 words) (operand_at 3 words) (amount_at 4 words)
time_call es time.TimerGettime words = option_map calls.TimerGettime (named_at Timer es 1 words)
time_call es time.TimerGetoverrun words = option_map calls.TimerGetoverrun (named_at Timer es 1 words)

abbrev pub signal_call : List Entry → SignalCall → List (List ℕ) → Option Call
signal_call es signal.Kill words = option_map calls.Kill (signal_at 1 words)
signal_call es signal.Tkill words = map_two calls.Tkill (named_at Thread es 1 words) (signal_at 2 words)
signal_call es signal.Sigqueue words = map_two calls.Sigqueue (signal_at 1 words) (operand_at 2 words)
signal_call es signal.SigmaskBlock words = option_map calls.SigmaskBlock (signals_at 2 words)
signal_call es signal.SigmaskUnblock words = option_map calls.SigmaskUnblock (signals_at 2 words)
signal_call es signal.SigmaskSet words = option_map calls.SigmaskSet (signals_at 2 words)
signal_call es signal.Sigwaitinfo words = option_map calls.Sigwaitinfo (signals_at 1 words)
signal_call es signal.Sigtimedwait words = map_two calls.Sigtimedwait (signals_at 1 words) (amount_at 2 words)

abbrev pub message_call : List Entry → MessageCall → List (List ℕ) → Option Call
message_call es message.Send words = map_four calls.MqSend (named_at Queue es 1 words) (number_in 0 65536 2 words) (number_in 0 31 3 words) (operand_at 4 words)
message_call es message.Timedsend words =
    map_five calls.MqTimedsend (named_at Queue es 1 words) (number_in 0 65536 2 words) (number_in 0 31 3 words) (operand_at 4 words) (moment_at 5 words)
message_call es message.TimedsendReal words =
    map_five calls.MqTimedsend (named_at Queue es 1 words) (number_in 0 65536 2 words) (number_in 0 31 3 words) (operand_at 4 words) (real_at 5 words)
message_call es message.Receive words = option_map calls.MqReceive (named_at Queue es 1 words)
message_call es message.Timedreceive words = map_two calls.MqTimedreceive (named_at Queue es 1 words) (moment_at 2 words)
message_call es message.TimedreceiveReal words = map_two calls.MqTimedreceive (named_at Queue es 1 words) (real_at 2 words)
message_call es message.Notify words = map_three calls.MqNotify (named_at Queue es 1 words) (signal_at 2 words) (operand_at 3 words)

abbrev pub call_of : List Entry → CallForm → List (List ℕ) → Option Call
call_of es (call.Thread f) words = thread_call es f words
call_of es (call.Mutex f) words = mutex_call es f words
call_of es (call.Sem f) words = sem_call es f words
call_of es (call.Time f) words = time_call es f words
call_of es (call.Signal f) words = signal_call es f words
call_of es (call.Message f) words = message_call es f words
