-- The places of each form of line, as the table of patterns has them.
use Rattle.std.specs.Prelude.{ℕ, Bool, true, false, List, [], ◌∷◌, codes, cond, find, None, Some}
use Rattle.script_table.specs.declared.form.Form.{Form}
use Rattle.script_table.specs.declared.form.Form.TheVariants as form
use Rattle.script_table.specs.declared.form.ObjectForm.TheVariants as object
use Rattle.script_table.specs.declared.form.ActionForm.TheVariants as action
use Rattle.script_table.specs.declared.form.BodyForm.TheVariants as body
use Rattle.script_table.specs.declared.form.StepForm.TheVariants as step
use Rattle.script_table.specs.declared.form.BlockForm.TheVariants as block
use Rattle.script_table.specs.declared.form.CloseForm.TheVariants as close
use Rattle.script_table.specs.declared.form.CallForm.TheVariants as call
use Rattle.script_table.specs.declared.form.ThreadCall.TheVariants as thread
use Rattle.script_table.specs.declared.form.MutexCall.TheVariants as mutex
use Rattle.script_table.specs.declared.form.SemCall.TheVariants as sem
use Rattle.script_table.specs.declared.form.TimeCall.TheVariants as time
use Rattle.script_table.specs.declared.form.SignalCall.TheVariants as signal
use Rattle.script_table.specs.declared.form.MessageCall.TheVariants as message
use Rattle.words_script.specs.declared.name_kind.NameKind.TheVariants as kind
use Rattle.script_table.specs.Patterns.{Spot, Keyword, Answer, Number, Operand, Declares, Uses, Signal, Acts, Signals, Row, greatest}
use Rattle.std.proofs.Common.{◌≡◌, refl, subst}
use Rattle.script_table.specs.LineFaults.{fits, fitting_row}

abbrev priority : Spot
priority = Number 1 255

abbrev amount : Spot
amount = Number 0 greatest

-- the places of a form
abbrev pub places_of : Form → List Spot
places_of form.Quantum = Keyword (codes "quantum") ∷ Number 1 greatest ∷ []
places_of (form.Body body.FifoAt) = Keyword (codes "thread") ∷ Declares kind.Thread ∷ Keyword (codes "fifo") ∷ priority ∷ Keyword (codes "at") ∷ amount ∷ []
places_of (form.Body body.FifoDormant) = Keyword (codes "thread") ∷ Declares kind.Thread ∷ Keyword (codes "fifo") ∷ priority ∷ Keyword (codes "dormant") ∷ []
places_of (form.Body body.RrAt) = Keyword (codes "thread") ∷ Declares kind.Thread ∷ Keyword (codes "rr") ∷ priority ∷ Keyword (codes "at") ∷ amount ∷ []
places_of (form.Body body.RrDormant) = Keyword (codes "thread") ∷ Declares kind.Thread ∷ Keyword (codes "rr") ∷ priority ∷ Keyword (codes "dormant") ∷ []
places_of (form.Body body.SporadicAt) = Keyword (codes "thread") ∷ Declares kind.Thread ∷ Keyword (codes "sporadic") ∷ priority ∷ priority ∷ amount ∷ amount ∷ amount ∷ Keyword (codes "at") ∷ amount ∷ []
places_of (form.Body body.StrictAt) = Keyword (codes "thread") ∷ Declares kind.Thread ∷ Keyword (codes "strict") ∷ priority ∷ priority ∷ amount ∷ amount ∷ amount ∷ Keyword (codes "at") ∷ amount ∷ []
places_of (form.Body body.SporadicDormant) = Keyword (codes "thread") ∷ Declares kind.Thread ∷ Keyword (codes "sporadic") ∷ priority ∷ priority ∷ amount ∷ amount ∷ amount ∷ Keyword (codes "dormant") ∷ []
places_of (form.Body body.StrictDormant) = Keyword (codes "thread") ∷ Declares kind.Thread ∷ Keyword (codes "strict") ∷ priority ∷ priority ∷ amount ∷ amount ∷ amount ∷ Keyword (codes "dormant") ∷ []
places_of (form.Body body.Handler) = Keyword (codes "handler") ∷ Declares kind.Handler ∷ []
places_of (form.Body body.Cleanup) = Keyword (codes "cleanup") ∷ Declares kind.Cleanup ∷ []
places_of (form.Object object.MutexNone) = Keyword (codes "mutex") ∷ Declares kind.Mutex ∷ Keyword (codes "none") ∷ []
places_of (form.Object object.MutexNoneRecursive) = Keyword (codes "mutex") ∷ Declares kind.Mutex ∷ Keyword (codes "none") ∷ Keyword (codes "recursive") ∷ []
places_of (form.Object object.MutexInherit) = Keyword (codes "mutex") ∷ Declares kind.Mutex ∷ Keyword (codes "inherit") ∷ []
places_of (form.Object object.MutexInheritRecursive) = Keyword (codes "mutex") ∷ Declares kind.Mutex ∷ Keyword (codes "inherit") ∷ Keyword (codes "recursive") ∷ []
places_of (form.Object object.MutexProtect) = Keyword (codes "mutex") ∷ Declares kind.Mutex ∷ Keyword (codes "protect") ∷ priority ∷ []
places_of (form.Object object.MutexProtectRecursive) = Keyword (codes "mutex") ∷ Declares kind.Mutex ∷ Keyword (codes "protect") ∷ priority ∷ Keyword (codes "recursive") ∷ []
places_of (form.Object object.Cond) = Keyword (codes "cond") ∷ Declares kind.Cond ∷ []
places_of (form.Object object.Sem) = Keyword (codes "sem") ∷ Declares kind.Sem ∷ Number 0 32767 ∷ []
places_of (form.Object object.Queue) = Keyword (codes "queue") ∷ Declares kind.Queue ∷ Number 1 64 ∷ Number 1 65536 ∷ []
places_of (form.Object object.QueueNonblock) = Keyword (codes "queue") ∷ Declares kind.Queue ∷ Number 1 64 ∷ Number 1 65536 ∷ Keyword (codes "nonblock") ∷ []
places_of (form.Object object.Timer) = Keyword (codes "timer") ∷ Declares kind.Timer ∷ Signal ∷ amount ∷ []
places_of (form.Object object.TimerReal) = Keyword (codes "timer") ∷ Declares kind.Timer ∷ Signal ∷ amount ∷ Keyword (codes "real") ∷ []
places_of (form.Action action.Ignore) = Keyword (codes "action") ∷ Acts ∷ Keyword (codes "ignore") ∷ []
places_of (form.Action action.Run) = Keyword (codes "action") ∷ Acts ∷ Keyword (codes "run") ∷ Uses kind.Handler ∷ []
places_of (form.Step step.Run) = Keyword (codes "run") ∷ Number 1 greatest ∷ []
places_of (form.Step step.Set) = Keyword (codes "set") ∷ amount ∷ []
places_of (form.Step step.Add) = Keyword (codes "add") ∷ amount ∷ []
places_of (form.Step step.Take) = Keyword (codes "take") ∷ []
places_of (form.Block block.If) = Keyword (codes "if") ∷ Answer ∷ []
places_of (form.Block block.Unless) = Keyword (codes "unless") ∷ Answer ∷ []
places_of (form.Block block.Loop) = Keyword (codes "loop") ∷ Number 1 greatest ∷ []
places_of (form.Block block.Forever) = Keyword (codes "forever") ∷ []
places_of (form.Block block.Push) = Keyword (codes "push") ∷ Uses kind.Cleanup ∷ []
places_of (form.Close close.End) = Keyword (codes "end") ∷ []
places_of (form.Close close.Pop) = Keyword (codes "pop") ∷ Keyword (codes "0") ∷ []
places_of (form.Close close.PopRun) = Keyword (codes "pop") ∷ Keyword (codes "1") ∷ []
places_of (form.Call (call.Thread thread.Yield)) = Keyword (codes "yield") ∷ []
places_of (form.Call (call.Thread thread.Create)) = Keyword (codes "create") ∷ Uses kind.Thread ∷ []
places_of (form.Call (call.Thread thread.Join)) = Keyword (codes "join") ∷ Uses kind.Thread ∷ []
places_of (form.Call (call.Thread thread.Cancel)) = Keyword (codes "cancel") ∷ Uses kind.Thread ∷ []
places_of (form.Call (call.Thread thread.Testcancel)) = Keyword (codes "testcancel") ∷ []
places_of (form.Call (call.Thread thread.SetcancelEnable)) = Keyword (codes "setcancel") ∷ Keyword (codes "enable") ∷ []
places_of (form.Call (call.Thread thread.SetcancelDisable)) = Keyword (codes "setcancel") ∷ Keyword (codes "disable") ∷ []
places_of (form.Call (call.Thread thread.Exit)) = Keyword (codes "exit") ∷ Operand ∷ []
places_of (form.Call (call.Thread thread.Setprio)) = Keyword (codes "setprio") ∷ Uses kind.Thread ∷ priority ∷ []
places_of (form.Call (call.Thread thread.SetschedFifo)) = Keyword (codes "setsched") ∷ Uses kind.Thread ∷ Keyword (codes "fifo") ∷ priority ∷ []
places_of (form.Call (call.Thread thread.SetschedRr)) = Keyword (codes "setsched") ∷ Uses kind.Thread ∷ Keyword (codes "rr") ∷ priority ∷ []
places_of (form.Call (call.Thread thread.SetschedSporadic)) = Keyword (codes "setsched") ∷ Uses kind.Thread ∷ Keyword (codes "sporadic") ∷ priority ∷ priority ∷ amount ∷ amount ∷ amount ∷ []
places_of (form.Call (call.Thread thread.SetschedStrict)) = Keyword (codes "setsched") ∷ Uses kind.Thread ∷ Keyword (codes "strict") ∷ priority ∷ priority ∷ amount ∷ amount ∷ amount ∷ []
places_of (form.Call (call.Mutex mutex.Lock)) = Keyword (codes "lock") ∷ Uses kind.Mutex ∷ []
places_of (form.Call (call.Mutex mutex.Timedlock)) = Keyword (codes "timedlock") ∷ Uses kind.Mutex ∷ Operand ∷ []
places_of (form.Call (call.Mutex mutex.TimedlockReal)) = Keyword (codes "timedlock") ∷ Uses kind.Mutex ∷ Operand ∷ Keyword (codes "real") ∷ []
places_of (form.Call (call.Mutex mutex.Trylock)) = Keyword (codes "trylock") ∷ Uses kind.Mutex ∷ []
places_of (form.Call (call.Mutex mutex.Unlock)) = Keyword (codes "unlock") ∷ Uses kind.Mutex ∷ []
places_of (form.Call (call.Mutex mutex.Wait)) = Keyword (codes "wait") ∷ Uses kind.Cond ∷ Uses kind.Mutex ∷ []
places_of (form.Call (call.Mutex mutex.Timedwait)) = Keyword (codes "timedwait") ∷ Uses kind.Cond ∷ Uses kind.Mutex ∷ Operand ∷ []
places_of (form.Call (call.Mutex mutex.TimedwaitReal)) = Keyword (codes "timedwait") ∷ Uses kind.Cond ∷ Uses kind.Mutex ∷ Operand ∷ Keyword (codes "real") ∷ []
places_of (form.Call (call.Mutex mutex.Signal)) = Keyword (codes "signal") ∷ Uses kind.Cond ∷ []
places_of (form.Call (call.Mutex mutex.Broadcast)) = Keyword (codes "broadcast") ∷ Uses kind.Cond ∷ []
places_of (form.Call (call.Sem sem.Wait)) = Keyword (codes "sem_wait") ∷ Uses kind.Sem ∷ []
places_of (form.Call (call.Sem sem.Timedwait)) = Keyword (codes "sem_timedwait") ∷ Uses kind.Sem ∷ Operand ∷ []
places_of (form.Call (call.Sem sem.TimedwaitReal)) = Keyword (codes "sem_timedwait") ∷ Uses kind.Sem ∷ Operand ∷ Keyword (codes "real") ∷ []
places_of (form.Call (call.Sem sem.Trywait)) = Keyword (codes "sem_trywait") ∷ Uses kind.Sem ∷ []
places_of (form.Call (call.Sem sem.Getvalue)) = Keyword (codes "sem_getvalue") ∷ Uses kind.Sem ∷ []
places_of (form.Call (call.Sem sem.Post)) = Keyword (codes "sem_post") ∷ Uses kind.Sem ∷ []
places_of (form.Call (call.Time time.Nanosleep)) = Keyword (codes "nanosleep") ∷ amount ∷ []
places_of (form.Call (call.Time time.ClockNanosleep)) = Keyword (codes "clock_nanosleep") ∷ Operand ∷ []
places_of (form.Call (call.Time time.ClockNanosleepReal)) = Keyword (codes "clock_nanosleep") ∷ Operand ∷ Keyword (codes "real") ∷ []
places_of (form.Call (call.Time time.Gettime)) = Keyword (codes "gettime") ∷ []
places_of (form.Call (call.Time time.RealGettime)) = Keyword (codes "real_gettime") ∷ []
places_of (form.Call (call.Time time.ClockSettime)) = Keyword (codes "clock_settime") ∷ Operand ∷ []
places_of (form.Call (call.Time time.TimerSettimeRel)) = Keyword (codes "timer_settime") ∷ Uses kind.Timer ∷ Keyword (codes "rel") ∷ amount ∷ amount ∷ []
places_of (form.Call (call.Time time.TimerSettimeAbs)) = Keyword (codes "timer_settime") ∷ Uses kind.Timer ∷ Keyword (codes "abs") ∷ Operand ∷ amount ∷ []
places_of (form.Call (call.Time time.TimerGettime)) = Keyword (codes "timer_gettime") ∷ Uses kind.Timer ∷ []
places_of (form.Call (call.Time time.TimerGetoverrun)) = Keyword (codes "timer_getoverrun") ∷ Uses kind.Timer ∷ []
places_of (form.Call (call.Signal signal.Kill)) = Keyword (codes "kill") ∷ Signal ∷ []
places_of (form.Call (call.Signal signal.Tkill)) = Keyword (codes "tkill") ∷ Uses kind.Thread ∷ Signal ∷ []
places_of (form.Call (call.Signal signal.Sigqueue)) = Keyword (codes "sigqueue") ∷ Signal ∷ Operand ∷ []
places_of (form.Call (call.Signal signal.SigmaskBlock)) = Keyword (codes "sigmask") ∷ Keyword (codes "block") ∷ Signals ∷ []
places_of (form.Call (call.Signal signal.SigmaskUnblock)) = Keyword (codes "sigmask") ∷ Keyword (codes "unblock") ∷ Signals ∷ []
places_of (form.Call (call.Signal signal.SigmaskSet)) = Keyword (codes "sigmask") ∷ Keyword (codes "set") ∷ Signals ∷ []
places_of (form.Call (call.Signal signal.Sigwaitinfo)) = Keyword (codes "sigwaitinfo") ∷ Signals ∷ []
places_of (form.Call (call.Signal signal.Sigtimedwait)) = Keyword (codes "sigtimedwait") ∷ Signals ∷ amount ∷ []
places_of (form.Call (call.Message message.Send)) = Keyword (codes "mq_send") ∷ Uses kind.Queue ∷ Number 0 65536 ∷ Number 0 31 ∷ Operand ∷ []
places_of (form.Call (call.Message message.Timedsend)) = Keyword (codes "mq_timedsend") ∷ Uses kind.Queue ∷ Number 0 65536 ∷ Number 0 31 ∷ Operand ∷ Operand ∷ []
places_of (form.Call (call.Message message.TimedsendReal)) = Keyword (codes "mq_timedsend") ∷ Uses kind.Queue ∷ Number 0 65536 ∷ Number 0 31 ∷ Operand ∷ Operand ∷ Keyword (codes "real") ∷ []
places_of (form.Call (call.Message message.Receive)) = Keyword (codes "mq_receive") ∷ Uses kind.Queue ∷ []
places_of (form.Call (call.Message message.Timedreceive)) = Keyword (codes "mq_timedreceive") ∷ Uses kind.Queue ∷ Operand ∷ []
places_of (form.Call (call.Message message.TimedreceiveReal)) = Keyword (codes "mq_timedreceive") ∷ Uses kind.Queue ∷ Operand ∷ Keyword (codes "real") ∷ []
places_of (form.Call (call.Message message.Notify)) = Keyword (codes "mq_notify") ∷ Uses kind.Queue ∷ Signal ∷ Operand ∷ []

abbrev pub HasPlaces : Row → Type 0
HasPlaces r = r.places ≡ places_of r.form

abbrev pub AllHave : List Row → Type 0
AllHave [] = Unit {0}
AllHave (r ∷ rs) = HasPlaces r × AllHave rs

found_case : (b : Bool) (test : Row → Bool) (r : Row) (rows : List Row) (row : Row) → test r ≡ b → find test (r ∷ rows) ≡ Some row → HasPlaces r
    → (find test rows ≡ Some row → HasPlaces row) → HasPlaces row
found_case true test r rows row is found here rest =
    let h : Some r ≡ Some row = subst (λ b. cond b (Some r) (find test rows) ≡ Some row) is found in
    let same : r ≡ row = cc in
    subst HasPlaces same here
found_case false test r rows row is found here rest =
    rest (subst (λ b. cond b (Some r) (find test rows) ≡ Some row) is found)

found_has : (test : Row → Bool) (rows : List Row) (row : Row) → find test rows ≡ Some row → AllHave rows → HasPlaces row
found_has test [] row found all = absurd (let f : None ≡ Some row = found in cc)
found_has test (r ∷ rows) row found all = found_case (test r) test r rows row refl found all.0 (λ f. found_has test rows row f all.1)

-- the pattern of a line has the places of its form
pub fitting_has : (rows : List Row) → AllHave rows → (words : List (List ℕ)) (row : Row) → fitting_row rows words ≡ Some row → row.places ≡ places_of row.form
fitting_has rows all words row found = found_has (λ r. fits r.places words) rows row found all
