-- The declarations of a script of version 1 have no strict policy: no pattern of that version sets one.
use Rattle.std.proofs.Common.{ℕ, ◌+◌, ◌≡◌, ◌∙◌, List, [], ◌∷◌, Bool, true, false, Option, None, Some, Ok, refl, sym, subst, ap, arith}
use Rattle.std.specs.Option.{IfSome, option_map}
use Rattle.std.specs.List.{list_all}
use Rattle.script_lex.specs.Words.{line_words}
use Rattle.words_script.specs.Block.{Block}
use Rattle.words_script.specs.declared.body.Step.TheVariants.{Make}
use Rattle.words_script.specs.declared.call.Call.{Call}
use Rattle.words_script.specs.declared.call.Call.TheVariants as calls
use Rattle.words_script.specs.declared.decl.Decl.TheVariants.{Named}
use Rattle.words_script.specs.declared.decl.Kind.{Kind}
use Rattle.words_script.specs.declared.decl.Kind.TheVariants as kinds
use Rattle.words_script.specs.declared.decl.Script.{Script}
use Rattle.words_script.specs.declared.name_kind.NameKind.TheVariants.{Thread, Mutex, Cond, Sem, Queue, Timer, Handler, Cleanup}
use Rattle.words_script.specs.declared.policy.Policy.{Policy}
use Rattle.words_script.specs.declared.policy.Policy.TheVariants.{Fifo, Rr, Sporadic}
use Rattle.script_table.specs.declared.form.Form.{Form}
use Rattle.script_table.specs.declared.form.Form.TheVariants as form
use Rattle.script_table.specs.declared.form.ObjectForm.{ObjectForm}
use Rattle.script_table.specs.declared.form.ObjectForm.TheVariants as object
use Rattle.script_table.specs.declared.form.ActionForm.{ActionForm}
use Rattle.script_table.specs.declared.form.ActionForm.TheVariants as action
use Rattle.script_table.specs.declared.form.BodyForm.{BodyForm}
use Rattle.script_table.specs.declared.form.BodyForm.TheVariants as body
use Rattle.script_table.specs.declared.form.BlockForm.{BlockForm}
use Rattle.script_table.specs.declared.form.BlockForm.TheVariants as block
use Rattle.script_table.specs.declared.form.CallForm.{CallForm}
use Rattle.script_table.specs.declared.form.CallForm.TheVariants as call
use Rattle.script_table.specs.declared.form.ThreadCall.{ThreadCall}
use Rattle.script_table.specs.declared.form.ThreadCall.TheVariants as thread
use Rattle.script_table.specs.declared.form.MutexCall.{MutexCall}
use Rattle.script_table.specs.declared.form.MutexCall.TheVariants as mutex
use Rattle.script_table.specs.declared.form.SemCall.{SemCall}
use Rattle.script_table.specs.declared.form.SemCall.TheVariants as sem
use Rattle.script_table.specs.declared.form.TimeCall.{TimeCall}
use Rattle.script_table.specs.declared.form.TimeCall.TheVariants as time
use Rattle.script_table.specs.declared.form.SignalCall.{SignalCall}
use Rattle.script_table.specs.declared.form.SignalCall.TheVariants as signal
use Rattle.script_table.specs.declared.form.MessageCall.{MessageCall}
use Rattle.script_table.specs.declared.form.MessageCall.TheVariants as message
use Rattle.script_table.specs.declared.version.Version.{Version}
use Rattle.script_table.specs.declared.version.Version.TheVariants.{One, Two}
use Rattle.script_table.specs.Versions.{version_number}
use Rattle.script_table.specs.Patterns.{Row}
use Rattle.script_table.specs.LineFaults.{fits}
use Rattle.script_table.specs.Table.{patterns, declaration_patterns, step_patterns, call_patterns}
use Rattle.script_table.specs.Structure.{Said, row_of_line, said_from}
use Rattle.script_table.specs.Names.{Entry, declared}
use Rattle.script_table.specs.Operands.{amount_at, fifo_at, map_five, map_four, map_three, map_two, moment_at, name_at, named_at, number_in, operand_at, priority_at, rr_at, server_at, signal_at, signals_at, sporadic_at, real_at}
use Rattle.script_table.specs.Calls.{thread_call, mutex_call, sem_call, time_call, signal_call, message_call, call_of}
use Rattle.script_table.specs.Meaning.{protect, queue, kind_of_object, object_decl, ignores, runs, action_decl, thread_at, thread_dormant, kind_of_body, timer}
use Rattle.script_table.specs.Build.{script_of}
use Rattle.script_table.specs.Read.{read}
use Rattle.laws_canonical_text.proofs.Accepted.{is_read}
use Rattle.laws_canonical_text.proofs.Apart.{found_passes}
use Rattle.laws_canonical_text.proofs.LineLaws.{some_found}
use Rattle.laws_canonical_text.proofs.Places.{nothing_said, said_none, said_some}
use Rattle.laws_canonical_text.proofs.Table.{the_table}
use Rattle.laws_window.specs.Before.{is_strict_policy}
use Rattle.laws_bounds.proofs.EachBody.{Guards, OneStep, more_calls, plain_calls, GuardsBy, block_calls}
use Rattle.laws_bounds.proofs.EachDecl.{Each, SaysBy, each_decl_by}
use Rattle.laws_versions.proofs.Units.{CallPlain, BlockPlain}
use Rattle.laws_versions.proofs.Declared.{DeclPlain}

-- a form that version 1 has
abbrev is_first : Form → Bool
is_first (form.Body body.StrictAt) = false
is_first (form.Body body.StrictDormant) = false
is_first (form.Call (call.Thread thread.SetschedStrict)) = false
is_first other = true

abbrev IsFirst : Form → Type 0
IsFirst f = is_first f ≡ true

all_first : list_all (λ (r : Row). is_first r.form) (patterns One) ≡ true
unfolding patterns declaration_patterns step_patterns call_patterns
all_first = refl

-- ---- calls

abbrev PlainCall : Option Call → Type 0
PlainCall o = IfSome o CallPlain

one : {A : Type 0} (make : A → Call) → ((x : A) → CallPlain (make x)) → (o : Option A) → PlainCall (option_map make o)
one make each None = tt
one make each (Some x) = each x

two : {A B : Type 0} (make : A → B → Call) → ((x : A) (y : B) → CallPlain (make x y)) → (o : Option A) (p : Option B) → PlainCall (map_two make o p)
two make each None p = tt
two make each (Some x) None = tt
two make each (Some x) (Some y) = each x y

three : {A B C : Type 0} (make : A → B → C → Call) → ((x : A) (y : B) (z : C) → CallPlain (make x y z)) → (o : Option A) (p : Option B) (q : Option C) → PlainCall (map_three make o p q)
three make each None p q = tt
three make each (Some x) p q = two (make x) (each x) p q

four : {A B C D : Type 0} (make : A → B → C → D → Call) → ((x : A) (y : B) (z : C) (w : D) → CallPlain (make x y z w)) → (o : Option A) (p : Option B) (q : Option C) (r : Option D) → PlainCall (map_four make o p q r)
four make each None p q r = tt
four make each (Some x) p q r = three (make x) (each x) p q r

five : {A B C D E : Type 0} (make : A → B → C → D → E → Call) → ((x : A) (y : B) (z : C) (w : D) (v : E) → CallPlain (make x y z w v)) →
    (o : Option A) (p : Option B) (q : Option C) (r : Option D) (s : Option E) → PlainCall (map_five make o p q r s)
five make each None p q r s = tt
five make each (Some x) p q r s = four (make x) (each x) p q r s

abbrev PlainPolicy : Option Policy → Type 0
PlainPolicy o = IfSome o (λ p. is_strict_policy p ≡ false)

by_policy : {A : Type 0} (make : A → Policy) → ((x : A) → is_strict_policy (make x) ≡ false) → (o : Option A) → PlainPolicy (option_map make o)
by_policy make each None = tt
by_policy make each (Some x) = each x

fifo_plain : (k : ℕ) (words : List (List ℕ)) → PlainPolicy (fifo_at k words)
fifo_plain k words = by_policy Fifo (λ p. refl) (priority_at k words)

rr_plain : (k : ℕ) (words : List (List ℕ)) → PlainPolicy (rr_at k words)
rr_plain k words = by_policy Rr (λ p. refl) (priority_at k words)

sporadic_plain : (words : List (List ℕ)) → PlainPolicy (sporadic_at words)
sporadic_plain words = by_policy Sporadic (λ p. refl) (server_at words)

setsched : (o : Option ℕ) (p : Option Policy) → PlainPolicy p → PlainCall (map_two calls.Setsched o p)
setsched None p h = tt
setsched (Some u) None h = tt
setsched (Some u) (Some new) h = h

module _ (es : List Entry) (words : List (List ℕ)) where
  thread_plain : (f : ThreadCall) → IsFirst (form.Call (call.Thread f)) → PlainCall (thread_call es f words)
  thread_plain thread.Yield ok = tt
  thread_plain thread.Create ok = one calls.Create (λ u. tt) (named_at Thread es 1 words)
  thread_plain thread.Join ok = one calls.Join (λ u. tt) (named_at Thread es 1 words)
  thread_plain thread.Cancel ok = one calls.Cancel (λ u. tt) (named_at Thread es 1 words)
  thread_plain thread.Testcancel ok = tt
  thread_plain thread.SetcancelEnable ok = tt
  thread_plain thread.SetcancelDisable ok = tt
  thread_plain thread.Exit ok = one calls.Exit (λ v. tt) (operand_at 1 words)
  thread_plain thread.Setprio ok = two calls.Setprio (λ u p. tt) (named_at Thread es 1 words) (priority_at 2 words)
  thread_plain thread.SetschedFifo ok = setsched (named_at Thread es 1 words) (fifo_at 3 words) (fifo_plain 3 words)
  thread_plain thread.SetschedRr ok = setsched (named_at Thread es 1 words) (rr_at 3 words) (rr_plain 3 words)
  thread_plain thread.SetschedSporadic ok = setsched (named_at Thread es 1 words) (sporadic_at words) (sporadic_plain words)
  thread_plain thread.SetschedStrict ok = absurd (let f : false ≡ true = ok in cc)

  mutex_plain : (f : MutexCall) → PlainCall (mutex_call es f words)
  mutex_plain mutex.Lock = one calls.Lock (λ k. tt) (named_at Mutex es 1 words)
  mutex_plain mutex.Timedlock = two calls.Timedlock (λ k at. tt) (named_at Mutex es 1 words) (moment_at 2 words)
  mutex_plain mutex.TimedlockReal = two calls.Timedlock (λ k at. tt) (named_at Mutex es 1 words) (real_at 2 words)
  mutex_plain mutex.Trylock = one calls.Trylock (λ k. tt) (named_at Mutex es 1 words)
  mutex_plain mutex.Unlock = one calls.Unlock (λ k. tt) (named_at Mutex es 1 words)
  mutex_plain mutex.Wait = two calls.Wait (λ c k. tt) (named_at Cond es 1 words) (named_at Mutex es 2 words)
  mutex_plain mutex.Timedwait = three calls.Timedwait (λ c k at. tt) (named_at Cond es 1 words) (named_at Mutex es 2 words) (moment_at 3 words)
  mutex_plain mutex.TimedwaitReal = three calls.Timedwait (λ c k at. tt) (named_at Cond es 1 words) (named_at Mutex es 2 words) (real_at 3 words)
  mutex_plain mutex.Signal = one calls.Signal (λ c. tt) (named_at Cond es 1 words)
  mutex_plain mutex.Broadcast = one calls.Broadcast (λ c. tt) (named_at Cond es 1 words)

  sem_plain : (f : SemCall) → PlainCall (sem_call es f words)
  sem_plain sem.Wait = one calls.SemWait (λ k. tt) (named_at Sem es 1 words)
  sem_plain sem.Timedwait = two calls.SemTimedwait (λ k at. tt) (named_at Sem es 1 words) (moment_at 2 words)
  sem_plain sem.TimedwaitReal = two calls.SemTimedwait (λ k at. tt) (named_at Sem es 1 words) (real_at 2 words)
  sem_plain sem.Trywait = one calls.SemTrywait (λ k. tt) (named_at Sem es 1 words)
  sem_plain sem.Getvalue = one calls.SemGetvalue (λ k. tt) (named_at Sem es 1 words)
  sem_plain sem.Post = one calls.SemPost (λ k. tt) (named_at Sem es 1 words)

  time_plain : (f : TimeCall) → PlainCall (time_call es f words)
  time_plain time.Nanosleep = one calls.Nanosleep (λ n. tt) (amount_at 1 words)
  time_plain time.ClockNanosleep = one calls.ClockNanosleep (λ at. tt) (moment_at 1 words)
  time_plain time.ClockNanosleepReal = one calls.ClockNanosleep (λ at. tt) (real_at 1 words)
  time_plain time.Gettime = tt
  time_plain time.RealGettime = tt
  time_plain time.ClockSettime = one calls.ClockSettime (λ v. tt) (operand_at 1 words)
  time_plain time.TimerSettimeRel = three calls.TimerSettimeRel (λ k n i. tt) (named_at Timer es 1 words) (amount_at 3 words) (amount_at 4 words)
  time_plain time.TimerSettimeAbs = three calls.TimerSettimeAbs (λ k at i. tt) (named_at Timer es 1 words) (operand_at 3 words) (amount_at 4 words)
  time_plain time.TimerGettime = one calls.TimerGettime (λ k. tt) (named_at Timer es 1 words)
  time_plain time.TimerGetoverrun = one calls.TimerGetoverrun (λ k. tt) (named_at Timer es 1 words)

  signal_plain : (f : SignalCall) → PlainCall (signal_call es f words)
  signal_plain signal.Kill = one calls.Kill (λ sig. tt) (signal_at 1 words)
  signal_plain signal.Tkill = two calls.Tkill (λ u sig. tt) (named_at Thread es 1 words) (signal_at 2 words)
  signal_plain signal.Sigqueue = two calls.Sigqueue (λ sig v. tt) (signal_at 1 words) (operand_at 2 words)
  signal_plain signal.SigmaskBlock = one calls.SigmaskBlock (λ set. tt) (signals_at 2 words)
  signal_plain signal.SigmaskUnblock = one calls.SigmaskUnblock (λ set. tt) (signals_at 2 words)
  signal_plain signal.SigmaskSet = one calls.SigmaskSet (λ set. tt) (signals_at 2 words)
  signal_plain signal.Sigwaitinfo = one calls.Sigwaitinfo (λ set. tt) (signals_at 1 words)
  signal_plain signal.Sigtimedwait = two calls.Sigtimedwait (λ set n. tt) (signals_at 1 words) (amount_at 2 words)

  message_plain : (f : MessageCall) → PlainCall (message_call es f words)
  message_plain message.Send = four calls.MqSend (λ q len prio v. tt) (named_at Queue es 1 words) (number_in 0 65536 2 words) (number_in 0 31 3 words) (operand_at 4 words)
  message_plain message.Timedsend =
      five calls.MqTimedsend (λ q len prio v at. tt) (named_at Queue es 1 words) (number_in 0 65536 2 words) (number_in 0 31 3 words) (operand_at 4 words) (moment_at 5 words)
  message_plain message.TimedsendReal =
      five calls.MqTimedsend (λ q len prio v at. tt) (named_at Queue es 1 words) (number_in 0 65536 2 words) (number_in 0 31 3 words) (operand_at 4 words) (real_at 5 words)
  message_plain message.Receive = one calls.MqReceive (λ q. tt) (named_at Queue es 1 words)
  message_plain message.Timedreceive = two calls.MqTimedreceive (λ q at. tt) (named_at Queue es 1 words) (moment_at 2 words)
  message_plain message.TimedreceiveReal = two calls.MqTimedreceive (λ q at. tt) (named_at Queue es 1 words) (real_at 2 words)
  message_plain message.Notify = three calls.MqNotify (λ q sig v. tt) (named_at Queue es 1 words) (signal_at 2 words) (operand_at 3 words)

  call_plain : (f : CallForm) → IsFirst (form.Call f) → PlainCall (call_of es f words)
  call_plain (call.Thread f) ok = thread_plain f ok
  call_plain (call.Mutex f) ok = mutex_plain f
  call_plain (call.Sem f) ok = sem_plain f
  call_plain (call.Time f) ok = time_plain f
  call_plain (call.Signal f) ok = signal_plain f
  call_plain (call.Message f) ok = message_plain f

-- ---- blocks and declarations

made_plain : (o : Option Call) → PlainCall o → IfSome o (λ c. OneStep CallPlain (Make c))
made_plain None h = tt
made_plain (Some c) h = (h, tt)

guards_plain : (run : Bool) (o : Option ℕ) → IfSome o (Guards CallPlain run)
guards_plain run None = tt
guards_plain run (Some u) = (tt, tt)

block_guards : (es : List Entry) (f : BlockForm) (words : List (List ℕ)) (run : Bool) → GuardsBy CallPlain es f words run
block_guards es block.Push words run = guards_plain run (named_at Cleanup es 1 words)
block_guards es other words run = tt

abbrev KindPlain : Kind → Type 0
KindPlain k = DeclPlain (Named [] k)

named_plain : (name : Option (List ℕ)) (k : Option Kind) → IfSome k KindPlain → IfSome (map_two Named name k) DeclPlain
named_plain None k h = tt
named_plain (Some name) None h = tt
named_plain (Some name) (Some (kinds.Thread policy start steps)) h = h
named_plain (Some name) (Some (kinds.Handler steps)) h = h
named_plain (Some name) (Some (kinds.Cleanup steps)) h = h
named_plain (Some name) (Some (kinds.Mutex protocol recursive)) h = tt
named_plain (Some name) (Some kinds.Cond) h = tt
named_plain (Some name) (Some (kinds.Sem value)) h = tt
named_plain (Some name) (Some (kinds.Queue depth longest nonblock)) h = tt
named_plain (Some name) (Some (kinds.Timer sig value real)) h = tt

protect_plain : (recursive : Bool) (o : Option ℕ) → IfSome (protect recursive o) KindPlain
protect_plain recursive None = tt
protect_plain recursive (Some ceiling) = tt

queue_plain : (nonblock : Bool) (o p : Option ℕ) → IfSome (queue nonblock o p) KindPlain
queue_plain nonblock None p = tt
queue_plain nonblock (Some depth) None = tt
queue_plain nonblock (Some depth) (Some longest) = tt

sem_kind_plain : (o : Option ℕ) → IfSome (option_map kinds.Sem o) KindPlain
sem_kind_plain None = tt
sem_kind_plain (Some value) = tt

timer_plain : (real : Bool) (o p : Option ℕ) → IfSome (timer real o p) KindPlain
timer_plain real None p = tt
timer_plain real (Some sig) None = tt
timer_plain real (Some sig) (Some value) = tt

object_kind_plain : (f : ObjectForm) (words : List (List ℕ)) → IfSome (kind_of_object f words) KindPlain
object_kind_plain object.MutexNone words = tt
object_kind_plain object.MutexNoneRecursive words = tt
object_kind_plain object.MutexInherit words = tt
object_kind_plain object.MutexInheritRecursive words = tt
object_kind_plain object.MutexProtect words = protect_plain false (priority_at 3 words)
object_kind_plain object.MutexProtectRecursive words = protect_plain true (priority_at 3 words)
object_kind_plain object.Cond words = tt
object_kind_plain object.Sem words = sem_kind_plain (number_in 0 32767 2 words)
object_kind_plain object.Queue words = queue_plain false (number_in 1 64 2 words) (number_in 1 65536 3 words)
object_kind_plain object.QueueNonblock words = queue_plain true (number_in 1 64 2 words) (number_in 1 65536 3 words)
object_kind_plain object.Timer words = timer_plain false (signal_at 2 words) (amount_at 3 words)
object_kind_plain object.TimerReal words = timer_plain true (signal_at 2 words) (amount_at 3 words)

object_plain : (f : ObjectForm) (words : List (List ℕ)) → IfSome (object_decl f words) DeclPlain
object_plain f words = named_plain (name_at 1 words) (kind_of_object f words) (object_kind_plain f words)

ignores_plain : (o : Option ℕ) → IfSome (ignores o) DeclPlain
ignores_plain None = tt
ignores_plain (Some sig) = tt

runs_plain : (o p : Option ℕ) → IfSome (runs o p) DeclPlain
runs_plain None p = tt
runs_plain (Some sig) None = tt
runs_plain (Some sig) (Some h) = tt

action_plain : (es : List Entry) (f : ActionForm) (words : List (List ℕ)) → IfSome (action_decl es f words) DeclPlain
action_plain es action.Ignore words = ignores_plain (signal_at 1 words)
action_plain es action.Run words = runs_plain (signal_at 1 words) (named_at Handler es 3 words)

at_plain : (policy : Option Policy) (start : Option ℕ) (steps : Block) → PlainPolicy policy → BlockPlain steps → IfSome (thread_at policy start steps) KindPlain
at_plain None start steps h inside = tt
at_plain (Some policy) None steps h inside = tt
at_plain (Some policy) (Some start) steps h inside = (h, inside)

dormant_plain : (policy : Option Policy) (steps : Block) → PlainPolicy policy → BlockPlain steps → IfSome (thread_dormant policy steps) KindPlain
dormant_plain None steps h inside = tt
dormant_plain (Some policy) steps h inside = (h, inside)

own_kind_plain : (f : BodyForm) (words : List (List ℕ)) (steps : Block) → IsFirst (form.Body f) → BlockPlain steps → IfSome (kind_of_body f words steps) KindPlain
own_kind_plain body.FifoAt words steps ok inside = at_plain (fifo_at 3 words) (amount_at 5 words) steps (fifo_plain 3 words) inside
own_kind_plain body.FifoDormant words steps ok inside = dormant_plain (fifo_at 3 words) steps (fifo_plain 3 words) inside
own_kind_plain body.RrAt words steps ok inside = at_plain (rr_at 3 words) (amount_at 5 words) steps (rr_plain 3 words) inside
own_kind_plain body.RrDormant words steps ok inside = dormant_plain (rr_at 3 words) steps (rr_plain 3 words) inside
own_kind_plain body.SporadicAt words steps ok inside = at_plain (sporadic_at words) (amount_at 9 words) steps (sporadic_plain words) inside
own_kind_plain body.SporadicDormant words steps ok inside = dormant_plain (sporadic_at words) steps (sporadic_plain words) inside
own_kind_plain body.StrictAt words steps ok inside = absurd (let f : false ≡ true = ok in cc)
own_kind_plain body.StrictDormant words steps ok inside = absurd (let f : false ≡ true = ok in cc)
own_kind_plain body.Handler words steps ok inside = inside
own_kind_plain body.Cleanup words steps ok inside = inside

lines_plain : (es : List Entry) → SaysBy IsFirst es BlockPlain DeclPlain
lines_plain es = record {
  none = tt;
  more = more_calls CallPlain;
  step = plain_calls CallPlain;
  call = λ f words ok. made_plain (call_of es f words) (call_plain es words f ok);
  block = λ f words run body inside. block_calls CallPlain es f words run body (block_guards es f words run) inside;
  object = object_plain;
  action = action_plain es;
  body = λ f words steps ok inside. named_plain (name_at 1 words) (kind_of_body f words steps) (own_kind_plain f words steps ok inside);
}

-- ---- the lines of a text of version 1

abbrev rows : List Row
rows = patterns One

by_row : (o : Option Row) (n : ℕ) (line : List ℕ) (lines : List (List ℕ)) → row_of_line rows line ≡ o → Each (λ (s : Said). IsFirst s.row.form) (said_from rows (n + 1) lines)
    → Each (λ (s : Said). IsFirst s.row.form) (said_from rows n (line ∷ lines))
by_row None n line lines is rest = subst (Each (λ (s : Said). IsFirst s.row.form)) (sym (said_none rows (the_table One) n line lines is)) rest
by_row (Some row) n line lines is rest =
    let found = some_found rows (line_words line) row is in
    let first = found_passes (λ (r : Row). fits r.places (line_words line)) (λ (r : Row). is_first r.form) rows row found all_first in
    subst (Each (λ (s : Said). IsFirst s.row.form)) (sym (said_some rows (the_table One) n line lines row is)) (first, rest)

said_first : (n : ℕ) (lines : List (List ℕ)) → Each (λ (s : Said). IsFirst s.row.form) (said_from rows n lines)
said_first n [] = subst (Each (λ (s : Said). IsFirst s.row.form)) (sym (nothing_said rows (the_table One) n)) tt
said_first n (line ∷ lines) = by_row (row_of_line rows line) n line lines refl (said_first (n + 1) lines)

of_lines : (v : Version) (n : ℕ) (lines : List (List ℕ)) (script : Script) → version_number v ≡ 1
    → script_of v (declared (said_from (patterns v) n lines)).names (said_from (patterns v) n lines) ≡ script → Each DeclPlain script.decls
of_lines One n lines script one means =
    let ss : List Said = said_from rows n lines in
    let es : List Entry = (declared ss).names in
    subst (λ (s : Script). Each DeclPlain s.decls) means (each_decl_by IsFirst es BlockPlain DeclPlain (lines_plain es) ss (said_first n lines))
of_lines Two n lines script one means = absurd (omega (arith, one))

pub first_is_plain : (text : List ℕ) (script : Script) → read patterns text ≡ Ok script → script.version ≡ 1 → Each DeclPlain script.decls
first_is_plain text script e one =
    let old = is_read patterns the_table text script e in
    of_lines old.part.version old.part.number old.part.lines script (ap (λ (s : Script). s.version) old.means ∙ one) old.means
