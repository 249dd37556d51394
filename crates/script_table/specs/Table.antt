-- The table of patterns: one line for each. The script language is this project's own.
use Rattle.std.specs.Prelude.{List, [], ◌∷◌, ◌++◌, codes}
use Rattle.script_table.specs.declared.form.Form.{Form}
use Rattle.script_table.specs.declared.form.Form.TheVariants as form
use Rattle.script_table.specs.declared.form.ObjectForm.TheVariants as object
use Rattle.script_table.specs.declared.form.ActionForm.TheVariants as action
use Rattle.script_table.specs.declared.form.BodyForm.TheVariants as body
use Rattle.script_table.specs.declared.form.StepForm.TheVariants as step
use Rattle.script_table.specs.declared.form.BlockForm.TheVariants as block
use Rattle.script_table.specs.declared.form.CloseForm.TheVariants as close
use Rattle.script_table.specs.declared.form.CallForm.TheVariants as call
use Rattle.script_table.specs.declared.form.ThreadCall.TheVariants as thread
use Rattle.script_table.specs.declared.form.MutexCall.TheVariants as mutex
use Rattle.script_table.specs.declared.form.SemCall.TheVariants as sem
use Rattle.script_table.specs.declared.form.TimeCall.TheVariants as time
use Rattle.script_table.specs.declared.form.SignalCall.TheVariants as signal
use Rattle.script_table.specs.declared.form.MessageCall.TheVariants as message
use Rattle.words_script.specs.declared.name_kind.NameKind.TheVariants as kind
use Rattle.script_table.specs.declared.version.Version.{Version}
use Rattle.script_table.specs.declared.version.Version.TheVariants.{One, Two}
use Rattle.script_table.specs.declared.pattern.Bar.{Bar}
use Rattle.script_table.specs.declared.pattern.Bar.TheVariants.{Nowhere, Handlers, HandlersAndCleanups}
use Rattle.script_table.specs.Patterns.{Spot, Keyword, Answer, Number, Operand, Declares, Uses, Signal, Acts, Signals, Row, greatest}

abbrev row : Form → Bar → List Spot → Row
row form bar places = record { form = form; bar = bar; places = places }

-- a priority, and a number without a range of its own
abbrev priority : Spot
priority = Number 1 255

abbrev amount : Spot
amount = Number 0 greatest

-- declarations
unfoldable pub declaration_patterns : List Row
declaration_patterns =
    row form.Quantum Nowhere (Keyword (codes "quantum") ∷ Number 1 greatest ∷ []) ∷
    row (form.Body body.FifoAt) Nowhere (Keyword (codes "thread") ∷ Declares kind.Thread ∷ Keyword (codes "fifo") ∷ priority ∷ Keyword (codes "at") ∷ amount ∷ []) ∷
    row (form.Body body.FifoDormant) Nowhere (Keyword (codes "thread") ∷ Declares kind.Thread ∷ Keyword (codes "fifo") ∷ priority ∷ Keyword (codes "dormant") ∷ []) ∷
    row (form.Body body.RrAt) Nowhere (Keyword (codes "thread") ∷ Declares kind.Thread ∷ Keyword (codes "rr") ∷ priority ∷ Keyword (codes "at") ∷ amount ∷ []) ∷
    row (form.Body body.RrDormant) Nowhere (Keyword (codes "thread") ∷ Declares kind.Thread ∷ Keyword (codes "rr") ∷ priority ∷ Keyword (codes "dormant") ∷ []) ∷
    row (form.Body body.SporadicAt) Nowhere (Keyword (codes "thread") ∷ Declares kind.Thread ∷ Keyword (codes "sporadic") ∷ priority ∷ priority ∷ amount ∷ amount ∷ amount ∷ Keyword (codes "at") ∷ amount ∷ []) ∷
    row (form.Body body.SporadicDormant) Nowhere (Keyword (codes "thread") ∷ Declares kind.Thread ∷ Keyword (codes "sporadic") ∷ priority ∷ priority ∷ amount ∷ amount ∷ amount ∷ Keyword (codes "dormant") ∷ []) ∷
    row (form.Body body.Handler) Nowhere (Keyword (codes "handler") ∷ Declares kind.Handler ∷ []) ∷
    row (form.Body body.Cleanup) Nowhere (Keyword (codes "cleanup") ∷ Declares kind.Cleanup ∷ []) ∷
    row (form.Object object.MutexNone) Nowhere (Keyword (codes "mutex") ∷ Declares kind.Mutex ∷ Keyword (codes "none") ∷ []) ∷
    row (form.Object object.MutexNoneRecursive) Nowhere (Keyword (codes "mutex") ∷ Declares kind.Mutex ∷ Keyword (codes "none") ∷ Keyword (codes "recursive") ∷ []) ∷
    row (form.Object object.MutexInherit) Nowhere (Keyword (codes "mutex") ∷ Declares kind.Mutex ∷ Keyword (codes "inherit") ∷ []) ∷
    row (form.Object object.MutexInheritRecursive) Nowhere (Keyword (codes "mutex") ∷ Declares kind.Mutex ∷ Keyword (codes "inherit") ∷ Keyword (codes "recursive") ∷ []) ∷
    row (form.Object object.MutexProtect) Nowhere (Keyword (codes "mutex") ∷ Declares kind.Mutex ∷ Keyword (codes "protect") ∷ priority ∷ []) ∷
    row (form.Object object.MutexProtectRecursive) Nowhere (Keyword (codes "mutex") ∷ Declares kind.Mutex ∷ Keyword (codes "protect") ∷ priority ∷ Keyword (codes "recursive") ∷ []) ∷
    row (form.Object object.Cond) Nowhere (Keyword (codes "cond") ∷ Declares kind.Cond ∷ []) ∷
    row (form.Object object.Sem) Nowhere (Keyword (codes "sem") ∷ Declares kind.Sem ∷ Number 0 32767 ∷ []) ∷
    row (form.Object object.Queue) Nowhere (Keyword (codes "queue") ∷ Declares kind.Queue ∷ Number 1 64 ∷ Number 1 65536 ∷ []) ∷
    row (form.Object object.QueueNonblock) Nowhere (Keyword (codes "queue") ∷ Declares kind.Queue ∷ Number 1 64 ∷ Number 1 65536 ∷ Keyword (codes "nonblock") ∷ []) ∷
    row (form.Object object.Timer) Nowhere (Keyword (codes "timer") ∷ Declares kind.Timer ∷ Signal ∷ amount ∷ []) ∷
    row (form.Object object.TimerReal) Nowhere (Keyword (codes "timer") ∷ Declares kind.Timer ∷ Signal ∷ amount ∷ Keyword (codes "real") ∷ []) ∷
    row (form.Action action.Ignore) Nowhere (Keyword (codes "action") ∷ Acts ∷ Keyword (codes "ignore") ∷ []) ∷
    row (form.Action action.Run) Nowhere (Keyword (codes "action") ∷ Acts ∷ Keyword (codes "run") ∷ Uses kind.Handler ∷ []) ∷
    []

-- steps and blocks
unfoldable pub step_patterns : List Row
step_patterns =
    row (form.Step step.Run) Nowhere (Keyword (codes "run") ∷ Number 1 greatest ∷ []) ∷
    row (form.Step step.Set) Nowhere (Keyword (codes "set") ∷ amount ∷ []) ∷
    row (form.Step step.Add) Nowhere (Keyword (codes "add") ∷ amount ∷ []) ∷
    row (form.Step step.Take) Nowhere (Keyword (codes "take") ∷ []) ∷
    row (form.Block block.If) Nowhere (Keyword (codes "if") ∷ Answer ∷ []) ∷
    row (form.Block block.Unless) Nowhere (Keyword (codes "unless") ∷ Answer ∷ []) ∷
    row (form.Block block.Loop) Nowhere (Keyword (codes "loop") ∷ Number 1 greatest ∷ []) ∷
    row (form.Block block.Forever) Nowhere (Keyword (codes "forever") ∷ []) ∷
    row (form.Block block.Push) HandlersAndCleanups (Keyword (codes "push") ∷ Uses kind.Cleanup ∷ []) ∷
    row (form.Close close.End) Nowhere (Keyword (codes "end") ∷ []) ∷
    row (form.Close close.Pop) Nowhere (Keyword (codes "pop") ∷ Keyword (codes "0") ∷ []) ∷
    row (form.Close close.PopRun) Nowhere (Keyword (codes "pop") ∷ Keyword (codes "1") ∷ []) ∷
    []

-- calls
unfoldable pub call_patterns : List Row
call_patterns =
    row (form.Call (call.Thread thread.Yield)) Nowhere (Keyword (codes "yield") ∷ []) ∷
    row (form.Call (call.Thread thread.Create)) Nowhere (Keyword (codes "create") ∷ Uses kind.Thread ∷ []) ∷
    row (form.Call (call.Thread thread.Join)) HandlersAndCleanups (Keyword (codes "join") ∷ Uses kind.Thread ∷ []) ∷
    row (form.Call (call.Thread thread.Cancel)) Nowhere (Keyword (codes "cancel") ∷ Uses kind.Thread ∷ []) ∷
    row (form.Call (call.Thread thread.Testcancel)) HandlersAndCleanups (Keyword (codes "testcancel") ∷ []) ∷
    row (form.Call (call.Thread thread.SetcancelEnable)) Nowhere (Keyword (codes "setcancel") ∷ Keyword (codes "enable") ∷ []) ∷
    row (form.Call (call.Thread thread.SetcancelDisable)) Nowhere (Keyword (codes "setcancel") ∷ Keyword (codes "disable") ∷ []) ∷
    row (form.Call (call.Thread thread.Exit)) HandlersAndCleanups (Keyword (codes "exit") ∷ Operand ∷ []) ∷
    row (form.Call (call.Thread thread.Setprio)) Nowhere (Keyword (codes "setprio") ∷ Uses kind.Thread ∷ priority ∷ []) ∷
    row (form.Call (call.Thread thread.SetschedFifo)) Nowhere (Keyword (codes "setsched") ∷ Uses kind.Thread ∷ Keyword (codes "fifo") ∷ priority ∷ []) ∷
    row (form.Call (call.Thread thread.SetschedRr)) Nowhere (Keyword (codes "setsched") ∷ Uses kind.Thread ∷ Keyword (codes "rr") ∷ priority ∷ []) ∷
    row (form.Call (call.Thread thread.SetschedSporadic)) Nowhere (Keyword (codes "setsched") ∷ Uses kind.Thread ∷ Keyword (codes "sporadic") ∷ priority ∷ priority ∷ amount ∷ amount ∷ amount ∷ []) ∷
    row (form.Call (call.Mutex mutex.Lock)) HandlersAndCleanups (Keyword (codes "lock") ∷ Uses kind.Mutex ∷ []) ∷
    row (form.Call (call.Mutex mutex.Timedlock)) HandlersAndCleanups (Keyword (codes "timedlock") ∷ Uses kind.Mutex ∷ Operand ∷ []) ∷
    row (form.Call (call.Mutex mutex.TimedlockReal)) HandlersAndCleanups (Keyword (codes "timedlock") ∷ Uses kind.Mutex ∷ Operand ∷ Keyword (codes "real") ∷ []) ∷
    row (form.Call (call.Mutex mutex.Trylock)) Nowhere (Keyword (codes "trylock") ∷ Uses kind.Mutex ∷ []) ∷
    row (form.Call (call.Mutex mutex.Unlock)) Nowhere (Keyword (codes "unlock") ∷ Uses kind.Mutex ∷ []) ∷
    row (form.Call (call.Mutex mutex.Wait)) HandlersAndCleanups (Keyword (codes "wait") ∷ Uses kind.Cond ∷ Uses kind.Mutex ∷ []) ∷
    row (form.Call (call.Mutex mutex.Timedwait)) HandlersAndCleanups (Keyword (codes "timedwait") ∷ Uses kind.Cond ∷ Uses kind.Mutex ∷ Operand ∷ []) ∷
    row (form.Call (call.Mutex mutex.TimedwaitReal)) HandlersAndCleanups (Keyword (codes "timedwait") ∷ Uses kind.Cond ∷ Uses kind.Mutex ∷ Operand ∷ Keyword (codes "real") ∷ []) ∷
    row (form.Call (call.Mutex mutex.Signal)) Nowhere (Keyword (codes "signal") ∷ Uses kind.Cond ∷ []) ∷
    row (form.Call (call.Mutex mutex.Broadcast)) Nowhere (Keyword (codes "broadcast") ∷ Uses kind.Cond ∷ []) ∷
    row (form.Call (call.Sem sem.Wait)) HandlersAndCleanups (Keyword (codes "sem_wait") ∷ Uses kind.Sem ∷ []) ∷
    row (form.Call (call.Sem sem.Timedwait)) HandlersAndCleanups (Keyword (codes "sem_timedwait") ∷ Uses kind.Sem ∷ Operand ∷ []) ∷
    row (form.Call (call.Sem sem.TimedwaitReal)) HandlersAndCleanups (Keyword (codes "sem_timedwait") ∷ Uses kind.Sem ∷ Operand ∷ Keyword (codes "real") ∷ []) ∷
    row (form.Call (call.Sem sem.Trywait)) Nowhere (Keyword (codes "sem_trywait") ∷ Uses kind.Sem ∷ []) ∷
    row (form.Call (call.Sem sem.Getvalue)) Nowhere (Keyword (codes "sem_getvalue") ∷ Uses kind.Sem ∷ []) ∷
    row (form.Call (call.Sem sem.Post)) Nowhere (Keyword (codes "sem_post") ∷ Uses kind.Sem ∷ []) ∷
    row (form.Call (call.Time time.Nanosleep)) HandlersAndCleanups (Keyword (codes "nanosleep") ∷ amount ∷ []) ∷
    row (form.Call (call.Time time.ClockNanosleep)) HandlersAndCleanups (Keyword (codes "clock_nanosleep") ∷ Operand ∷ []) ∷
    row (form.Call (call.Time time.ClockNanosleepReal)) HandlersAndCleanups (Keyword (codes "clock_nanosleep") ∷ Operand ∷ Keyword (codes "real") ∷ []) ∷
    row (form.Call (call.Time time.Gettime)) Nowhere (Keyword (codes "gettime") ∷ []) ∷
    row (form.Call (call.Time time.RealGettime)) Nowhere (Keyword (codes "real_gettime") ∷ []) ∷
    row (form.Call (call.Time time.ClockSettime)) Nowhere (Keyword (codes "clock_settime") ∷ Operand ∷ []) ∷
    row (form.Call (call.Time time.TimerSettimeRel)) Nowhere (Keyword (codes "timer_settime") ∷ Uses kind.Timer ∷ Keyword (codes "rel") ∷ amount ∷ amount ∷ []) ∷
    row (form.Call (call.Time time.TimerSettimeAbs)) Nowhere (Keyword (codes "timer_settime") ∷ Uses kind.Timer ∷ Keyword (codes "abs") ∷ Operand ∷ amount ∷ []) ∷
    row (form.Call (call.Time time.TimerGettime)) Nowhere (Keyword (codes "timer_gettime") ∷ Uses kind.Timer ∷ []) ∷
    row (form.Call (call.Time time.TimerGetoverrun)) Nowhere (Keyword (codes "timer_getoverrun") ∷ Uses kind.Timer ∷ []) ∷
    row (form.Call (call.Signal signal.Kill)) Nowhere (Keyword (codes "kill") ∷ Signal ∷ []) ∷
    row (form.Call (call.Signal signal.Tkill)) Nowhere (Keyword (codes "tkill") ∷ Uses kind.Thread ∷ Signal ∷ []) ∷
    row (form.Call (call.Signal signal.Sigqueue)) Nowhere (Keyword (codes "sigqueue") ∷ Signal ∷ Operand ∷ []) ∷
    row (form.Call (call.Signal signal.SigmaskBlock)) Handlers (Keyword (codes "sigmask") ∷ Keyword (codes "block") ∷ Signals ∷ []) ∷
    row (form.Call (call.Signal signal.SigmaskUnblock)) Handlers (Keyword (codes "sigmask") ∷ Keyword (codes "unblock") ∷ Signals ∷ []) ∷
    row (form.Call (call.Signal signal.SigmaskSet)) Handlers (Keyword (codes "sigmask") ∷ Keyword (codes "set") ∷ Signals ∷ []) ∷
    row (form.Call (call.Signal signal.Sigwaitinfo)) HandlersAndCleanups (Keyword (codes "sigwaitinfo") ∷ Signals ∷ []) ∷
    row (form.Call (call.Signal signal.Sigtimedwait)) HandlersAndCleanups (Keyword (codes "sigtimedwait") ∷ Signals ∷ amount ∷ []) ∷
    row (form.Call (call.Message message.Send)) HandlersAndCleanups (Keyword (codes "mq_send") ∷ Uses kind.Queue ∷ Number 0 65536 ∷ Number 0 31 ∷ Operand ∷ []) ∷
    row (form.Call (call.Message message.Timedsend)) HandlersAndCleanups (Keyword (codes "mq_timedsend") ∷ Uses kind.Queue ∷ Number 0 65536 ∷ Number 0 31 ∷ Operand ∷ Operand ∷ []) ∷
    row (form.Call (call.Message message.TimedsendReal)) HandlersAndCleanups (Keyword (codes "mq_timedsend") ∷ Uses kind.Queue ∷ Number 0 65536 ∷ Number 0 31 ∷ Operand ∷ Operand ∷ Keyword (codes "real") ∷ []) ∷
    row (form.Call (call.Message message.Receive)) HandlersAndCleanups (Keyword (codes "mq_receive") ∷ Uses kind.Queue ∷ []) ∷
    row (form.Call (call.Message message.Timedreceive)) HandlersAndCleanups (Keyword (codes "mq_timedreceive") ∷ Uses kind.Queue ∷ Operand ∷ []) ∷
    row (form.Call (call.Message message.TimedreceiveReal)) HandlersAndCleanups (Keyword (codes "mq_timedreceive") ∷ Uses kind.Queue ∷ Operand ∷ Keyword (codes "real") ∷ []) ∷
    row (form.Call (call.Message message.Notify)) Nowhere (Keyword (codes "mq_notify") ∷ Uses kind.Queue ∷ Signal ∷ Operand ∷ []) ∷
    []

-- strict servers, of version 2
unfoldable pub strict_declarations : List Row
strict_declarations =
    row (form.Body body.StrictAt) Nowhere (Keyword (codes "thread") ∷ Declares kind.Thread ∷ Keyword (codes "strict") ∷ priority ∷ priority ∷ amount ∷ amount ∷ amount ∷ Keyword (codes "at") ∷ amount ∷ []) ∷
    row (form.Body body.StrictDormant) Nowhere (Keyword (codes "thread") ∷ Declares kind.Thread ∷ Keyword (codes "strict") ∷ priority ∷ priority ∷ amount ∷ amount ∷ amount ∷ Keyword (codes "dormant") ∷ []) ∷
    []

unfoldable pub strict_calls : List Row
strict_calls =
    row (form.Call (call.Thread thread.SetschedStrict)) Nowhere (Keyword (codes "setsched") ∷ Uses kind.Thread ∷ Keyword (codes "strict") ∷ priority ∷ priority ∷ amount ∷ amount ∷ amount ∷ []) ∷
    []

-- all patterns of a version of the language
unfoldable pub patterns : Version → List Row
patterns One = declaration_patterns ++ (step_patterns ++ call_patterns)
patterns Two = (declaration_patterns ++ strict_declarations) ++ (step_patterns ++ (call_patterns ++ strict_calls))
