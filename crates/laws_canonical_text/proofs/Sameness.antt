-- A line means the same as the line of its canonical words.
use Rattle.std.proofs.Common.{◌≡◌, ℕ, List, [], ◌∷◌, refl, Bool}
use Rattle.std.specs.Prelude.{decimal}
use Rattle.words_script.specs.Block.{Block}
use Rattle.script_table.specs.declared.form.Form.TheVariants as form
use Rattle.script_table.specs.declared.form.ObjectForm.{ObjectForm}
use Rattle.script_table.specs.declared.form.ObjectForm.TheVariants as object
use Rattle.script_table.specs.declared.form.ActionForm.{ActionForm}
use Rattle.script_table.specs.declared.form.ActionForm.TheVariants as action
use Rattle.script_table.specs.declared.form.BodyForm.{BodyForm}
use Rattle.script_table.specs.declared.form.BodyForm.TheVariants as body
use Rattle.script_table.specs.declared.form.StepForm.{StepForm}
use Rattle.script_table.specs.declared.form.StepForm.TheVariants as step
use Rattle.script_table.specs.declared.form.BlockForm.{BlockForm}
use Rattle.script_table.specs.declared.form.BlockForm.TheVariants as block
use Rattle.script_table.specs.declared.form.CallForm.{CallForm}
use Rattle.script_table.specs.declared.form.CallForm.TheVariants as call
use Rattle.script_table.specs.declared.form.ThreadCall.{ThreadCall}
use Rattle.script_table.specs.declared.form.ThreadCall.TheVariants as thread
use Rattle.script_table.specs.declared.form.MutexCall.{MutexCall}
use Rattle.script_table.specs.declared.form.MutexCall.TheVariants as mutex
use Rattle.script_table.specs.declared.form.SemCall.{SemCall}
use Rattle.script_table.specs.declared.form.SemCall.TheVariants as sem
use Rattle.script_table.specs.declared.form.TimeCall.{TimeCall}
use Rattle.script_table.specs.declared.form.TimeCall.TheVariants as time
use Rattle.script_table.specs.declared.form.SignalCall.{SignalCall}
use Rattle.script_table.specs.declared.form.SignalCall.TheVariants as signal
use Rattle.script_table.specs.declared.form.MessageCall.{MessageCall}
use Rattle.script_table.specs.declared.form.MessageCall.TheVariants as message
use Rattle.script_table.specs.Patterns.{Spot, Number, Operand, Uses, Signals}
use Rattle.script_table.specs.Words.{value_of, set_of}
use Rattle.script_table.specs.Names.{Entry, entry_of}
use Rattle.script_table.specs.Operands.{operand_at, number_of_kind}
use Rattle.script_table.specs.Calls.{thread_call, mutex_call, sem_call, time_call, signal_call, message_call, call_of}
use Rattle.script_table.specs.Meaning.{object_decl, action_decl, body_decl, plain_step, block_step}
use Rattle.laws_canonical_text.specs.Canonical.{canonical_word, canonical_words}
use Rattle.laws_canonical_text.proofs.Forms.{places_of}
use Rattle.laws_canonical_text.proofs.Shape.{padded, Holds}

-- the canonical word says what the word says; es has the names of the word's text, and xs those of the canonical text
abbrev pub Same : List Entry → List Entry → Spot → List ℕ → Type 0
Same es xs (Number low high) word = value_of (decimal (value_of word)) ≡ value_of word
Same es xs Operand word = operand_at 0 (canonical_word Operand word ∷ []) ≡ operand_at 0 (word ∷ [])
Same es xs (Uses kind) word = number_of_kind kind (entry_of xs word) ≡ number_of_kind kind (entry_of es word)
Same es xs Signals word = set_of (canonical_word Signals word) ≡ set_of word
Same es xs other word = Unit {0}

thread_same : (es xs : List Entry) (f : ThreadCall) (ws : List (List ℕ)) → Holds (Same es xs) (places_of (form.Call (call.Thread f))) ws
    → thread_call xs f (canonical_words (places_of (form.Call (call.Thread f))) (padded (places_of (form.Call (call.Thread f))) ws)) ≡ thread_call es f (padded (places_of (form.Call (call.Thread f))) ws)
thread_same es xs thread.Yield ws h = refl
thread_same es xs thread.Create ws h = rw h.1.0 refl
thread_same es xs thread.Join ws h = rw h.1.0 refl
thread_same es xs thread.Cancel ws h = rw h.1.0 refl
thread_same es xs thread.Testcancel ws h = refl
thread_same es xs thread.SetcancelEnable ws h = refl
thread_same es xs thread.SetcancelDisable ws h = refl
thread_same es xs thread.Exit ws h = rw h.1.0 refl
thread_same es xs thread.Setprio ws h = rw (h.1.0, h.1.1.0) refl
thread_same es xs thread.SetschedFifo ws h = rw (h.1.0, h.1.1.1.0) refl
thread_same es xs thread.SetschedRr ws h = rw (h.1.0, h.1.1.1.0) refl
thread_same es xs thread.SetschedSporadic ws h = rw (h.1.0, h.1.1.1.0, h.1.1.1.1.0, h.1.1.1.1.1.0, h.1.1.1.1.1.1.0, h.1.1.1.1.1.1.1.0) refl
thread_same es xs thread.SetschedStrict ws h = rw (h.1.0, h.1.1.1.0, h.1.1.1.1.0, h.1.1.1.1.1.0, h.1.1.1.1.1.1.0, h.1.1.1.1.1.1.1.0) refl

mutex_same : (es xs : List Entry) (f : MutexCall) (ws : List (List ℕ)) → Holds (Same es xs) (places_of (form.Call (call.Mutex f))) ws
    → mutex_call xs f (canonical_words (places_of (form.Call (call.Mutex f))) (padded (places_of (form.Call (call.Mutex f))) ws)) ≡ mutex_call es f (padded (places_of (form.Call (call.Mutex f))) ws)
mutex_same es xs mutex.Lock ws h = rw h.1.0 refl
mutex_same es xs mutex.Timedlock ws h = rw (h.1.0, h.1.1.0) refl
mutex_same es xs mutex.TimedlockReal ws h = rw (h.1.0, h.1.1.0) refl
mutex_same es xs mutex.Trylock ws h = rw h.1.0 refl
mutex_same es xs mutex.Unlock ws h = rw h.1.0 refl
mutex_same es xs mutex.Wait ws h = rw (h.1.0, h.1.1.0) refl
mutex_same es xs mutex.Timedwait ws h = rw (h.1.0, h.1.1.0, h.1.1.1.0) refl
mutex_same es xs mutex.TimedwaitReal ws h = rw (h.1.0, h.1.1.0, h.1.1.1.0) refl
mutex_same es xs mutex.Signal ws h = rw h.1.0 refl
mutex_same es xs mutex.Broadcast ws h = rw h.1.0 refl

sem_same : (es xs : List Entry) (f : SemCall) (ws : List (List ℕ)) → Holds (Same es xs) (places_of (form.Call (call.Sem f))) ws
    → sem_call xs f (canonical_words (places_of (form.Call (call.Sem f))) (padded (places_of (form.Call (call.Sem f))) ws)) ≡ sem_call es f (padded (places_of (form.Call (call.Sem f))) ws)
sem_same es xs sem.Wait ws h = rw h.1.0 refl
sem_same es xs sem.Timedwait ws h = rw (h.1.0, h.1.1.0) refl
sem_same es xs sem.TimedwaitReal ws h = rw (h.1.0, h.1.1.0) refl
sem_same es xs sem.Trywait ws h = rw h.1.0 refl
sem_same es xs sem.Getvalue ws h = rw h.1.0 refl
sem_same es xs sem.Post ws h = rw h.1.0 refl

time_same : (es xs : List Entry) (f : TimeCall) (ws : List (List ℕ)) → Holds (Same es xs) (places_of (form.Call (call.Time f))) ws
    → time_call xs f (canonical_words (places_of (form.Call (call.Time f))) (padded (places_of (form.Call (call.Time f))) ws)) ≡ time_call es f (padded (places_of (form.Call (call.Time f))) ws)
time_same es xs time.Nanosleep ws h = rw h.1.0 refl
time_same es xs time.ClockNanosleep ws h = rw h.1.0 refl
time_same es xs time.ClockNanosleepReal ws h = rw h.1.0 refl
time_same es xs time.Gettime ws h = refl
time_same es xs time.RealGettime ws h = refl
time_same es xs time.ClockSettime ws h = rw h.1.0 refl
time_same es xs time.TimerSettimeRel ws h = rw (h.1.0, h.1.1.1.0, h.1.1.1.1.0) refl
time_same es xs time.TimerSettimeAbs ws h = rw (h.1.0, h.1.1.1.0, h.1.1.1.1.0) refl
time_same es xs time.TimerGettime ws h = rw h.1.0 refl
time_same es xs time.TimerGetoverrun ws h = rw h.1.0 refl

signal_same : (es xs : List Entry) (f : SignalCall) (ws : List (List ℕ)) → Holds (Same es xs) (places_of (form.Call (call.Signal f))) ws
    → signal_call xs f (canonical_words (places_of (form.Call (call.Signal f))) (padded (places_of (form.Call (call.Signal f))) ws)) ≡ signal_call es f (padded (places_of (form.Call (call.Signal f))) ws)
signal_same es xs signal.Kill ws h = refl
signal_same es xs signal.Tkill ws h = rw h.1.0 refl
signal_same es xs signal.Sigqueue ws h = rw h.1.1.0 refl
signal_same es xs signal.SigmaskBlock ws h = rw h.1.1.0 refl
signal_same es xs signal.SigmaskUnblock ws h = rw h.1.1.0 refl
signal_same es xs signal.SigmaskSet ws h = rw h.1.1.0 refl
signal_same es xs signal.Sigwaitinfo ws h = rw h.1.0 refl
signal_same es xs signal.Sigtimedwait ws h = rw (h.1.0, h.1.1.0) refl

message_same : (es xs : List Entry) (f : MessageCall) (ws : List (List ℕ)) → Holds (Same es xs) (places_of (form.Call (call.Message f))) ws
    → message_call xs f (canonical_words (places_of (form.Call (call.Message f))) (padded (places_of (form.Call (call.Message f))) ws)) ≡ message_call es f (padded (places_of (form.Call (call.Message f))) ws)
message_same es xs message.Send ws h = rw (h.1.0, h.1.1.0, h.1.1.1.0, h.1.1.1.1.0) refl
message_same es xs message.Timedsend ws h = rw (h.1.0, h.1.1.0, h.1.1.1.0, h.1.1.1.1.0, h.1.1.1.1.1.0) refl
message_same es xs message.TimedsendReal ws h = rw (h.1.0, h.1.1.0, h.1.1.1.0, h.1.1.1.1.0, h.1.1.1.1.1.0) refl
message_same es xs message.Receive ws h = rw h.1.0 refl
message_same es xs message.Timedreceive ws h = rw (h.1.0, h.1.1.0) refl
message_same es xs message.TimedreceiveReal ws h = rw (h.1.0, h.1.1.0) refl
message_same es xs message.Notify ws h = rw (h.1.0, h.1.1.1.0) refl

pub call_same : (es xs : List Entry) (f : CallForm) (ws : List (List ℕ)) → Holds (Same es xs) (places_of (form.Call f)) ws
    → call_of xs f (canonical_words (places_of (form.Call f)) (padded (places_of (form.Call f)) ws)) ≡ call_of es f (padded (places_of (form.Call f)) ws)
call_same es xs (call.Thread f) ws h = thread_same es xs f ws h
call_same es xs (call.Mutex f) ws h = mutex_same es xs f ws h
call_same es xs (call.Sem f) ws h = sem_same es xs f ws h
call_same es xs (call.Time f) ws h = time_same es xs f ws h
call_same es xs (call.Signal f) ws h = signal_same es xs f ws h
call_same es xs (call.Message f) ws h = message_same es xs f ws h

pub object_same : (es xs : List Entry) (f : ObjectForm) (ws : List (List ℕ)) → Holds (Same es xs) (places_of (form.Object f)) ws
    → object_decl f (canonical_words (places_of (form.Object f)) (padded (places_of (form.Object f)) ws)) ≡ object_decl f (padded (places_of (form.Object f)) ws)
object_same es xs object.MutexNone ws h = refl
object_same es xs object.MutexNoneRecursive ws h = refl
object_same es xs object.MutexInherit ws h = refl
object_same es xs object.MutexInheritRecursive ws h = refl
object_same es xs object.MutexProtect ws h = rw h.1.1.1.0 refl
object_same es xs object.MutexProtectRecursive ws h = rw h.1.1.1.0 refl
object_same es xs object.Cond ws h = refl
object_same es xs object.Sem ws h = rw h.1.1.0 refl
object_same es xs object.Queue ws h = rw (h.1.1.0, h.1.1.1.0) refl
object_same es xs object.QueueNonblock ws h = rw (h.1.1.0, h.1.1.1.0) refl
object_same es xs object.Timer ws h = rw h.1.1.1.0 refl
object_same es xs object.TimerReal ws h = rw h.1.1.1.0 refl

pub action_same : (es xs : List Entry) (f : ActionForm) (ws : List (List ℕ)) → Holds (Same es xs) (places_of (form.Action f)) ws
    → action_decl xs f (canonical_words (places_of (form.Action f)) (padded (places_of (form.Action f)) ws)) ≡ action_decl es f (padded (places_of (form.Action f)) ws)
action_same es xs action.Ignore ws h = refl
action_same es xs action.Run ws h = rw h.1.1.1.0 refl

pub body_same : (es xs : List Entry) (steps : Block) (f : BodyForm) (ws : List (List ℕ)) → Holds (Same es xs) (places_of (form.Body f)) ws
    → body_decl f (canonical_words (places_of (form.Body f)) (padded (places_of (form.Body f)) ws)) steps ≡ body_decl f (padded (places_of (form.Body f)) ws) steps
body_same es xs steps body.FifoAt ws h = rw (h.1.1.1.0, h.1.1.1.1.1.0) refl
body_same es xs steps body.FifoDormant ws h = rw h.1.1.1.0 refl
body_same es xs steps body.RrAt ws h = rw (h.1.1.1.0, h.1.1.1.1.1.0) refl
body_same es xs steps body.RrDormant ws h = rw h.1.1.1.0 refl
body_same es xs steps body.SporadicAt ws h = rw (h.1.1.1.0, h.1.1.1.1.0, h.1.1.1.1.1.0, h.1.1.1.1.1.1.0, h.1.1.1.1.1.1.1.0, h.1.1.1.1.1.1.1.1.1.0) refl
body_same es xs steps body.StrictAt ws h = rw (h.1.1.1.0, h.1.1.1.1.0, h.1.1.1.1.1.0, h.1.1.1.1.1.1.0, h.1.1.1.1.1.1.1.0, h.1.1.1.1.1.1.1.1.1.0) refl
body_same es xs steps body.SporadicDormant ws h = rw (h.1.1.1.0, h.1.1.1.1.0, h.1.1.1.1.1.0, h.1.1.1.1.1.1.0, h.1.1.1.1.1.1.1.0) refl
body_same es xs steps body.StrictDormant ws h = rw (h.1.1.1.0, h.1.1.1.1.0, h.1.1.1.1.1.0, h.1.1.1.1.1.1.0, h.1.1.1.1.1.1.1.0) refl
body_same es xs steps body.Handler ws h = refl
body_same es xs steps body.Cleanup ws h = refl

pub plain_same : (es xs : List Entry) (f : StepForm) (ws : List (List ℕ)) → Holds (Same es xs) (places_of (form.Step f)) ws
    → plain_step f (canonical_words (places_of (form.Step f)) (padded (places_of (form.Step f)) ws)) ≡ plain_step f (padded (places_of (form.Step f)) ws)
plain_same es xs step.Run ws h = rw h.1.0 refl
plain_same es xs step.Set ws h = rw h.1.0 refl
plain_same es xs step.Add ws h = rw h.1.0 refl
plain_same es xs step.Take ws h = refl

pub block_same : (es xs : List Entry) (run : Bool) (body : Block) (f : BlockForm) (ws : List (List ℕ)) → Holds (Same es xs) (places_of (form.Block f)) ws
    → block_step xs f (canonical_words (places_of (form.Block f)) (padded (places_of (form.Block f)) ws)) run body ≡ block_step es f (padded (places_of (form.Block f)) ws) run body
block_same es xs run body block.If ws h = refl
block_same es xs run body block.Unless ws h = refl
block_same es xs run body block.Loop ws h = rw h.1.0 refl
block_same es xs run body block.Forever ws h = refl
block_same es xs run body block.Push ws h = rw h.1.0 refl
