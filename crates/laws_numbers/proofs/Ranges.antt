-- Whatever is read without a fault is in range.
use Rattle.std.proofs.Common.{ℕ, ◌≡◌, ◌<◌, List, [], ◌∷◌, ◌++◌, Ok, Option, None, Some, Bool, true, false, subst, arith}
use Rattle.std.specs.Option.{IfSome, option_map}
use Rattle.words_numbers.specs.Parameters.{Parameters}
use Rattle.words_numbers.specs.declared.res.Res.{Res}
use Rattle.words_script.specs.Block.{Block}
use Rattle.words_script.specs.Tree.{block_of}
use Rattle.words_script.specs.declared.body.Step.{Step}
use Rattle.words_script.specs.declared.body.Step.TheVariants.{Run, Make, Set, Add, Take, Test, Loop, Guard}
use Rattle.words_script.specs.declared.call.Call.{Call}
use Rattle.words_script.specs.declared.call.Call.TheVariants as calls
use Rattle.words_script.specs.declared.policy.Policy.{Policy}
use Rattle.words_script.specs.declared.policy.Policy.TheVariants.{Fifo, Rr, Sporadic, Strict}
use Rattle.words_script.specs.declared.decl.Kind.{Kind}
use Rattle.words_script.specs.declared.decl.Kind.TheVariants as kinds
use Rattle.words_script.specs.declared.decl.Decl.{Decl}
use Rattle.words_script.specs.declared.decl.Decl.TheVariants.{Named}
use Rattle.words_script.specs.declared.decl.Script.{Script}
use Rattle.words_script.specs.declared.name_kind.NameKind.TheVariants as kind
use Rattle.script_table.specs.declared.form.StepForm.{StepForm}
use Rattle.script_table.specs.declared.form.StepForm.TheVariants as step
use Rattle.script_table.specs.declared.form.BlockForm.{BlockForm}
use Rattle.script_table.specs.declared.form.BlockForm.TheVariants as block
use Rattle.script_table.specs.declared.form.ObjectForm.{ObjectForm}
use Rattle.script_table.specs.declared.form.ObjectForm.TheVariants as object
use Rattle.script_table.specs.declared.form.ActionForm.{ActionForm}
use Rattle.script_table.specs.declared.form.ActionForm.TheVariants as action
use Rattle.script_table.specs.declared.form.BodyForm.{BodyForm}
use Rattle.script_table.specs.declared.form.BodyForm.TheVariants as body
use Rattle.script_table.specs.declared.form.CallForm.{CallForm}
use Rattle.script_table.specs.declared.form.CallForm.TheVariants as call
use Rattle.script_table.specs.declared.form.ThreadCall.{ThreadCall}
use Rattle.script_table.specs.declared.form.ThreadCall.TheVariants as thread
use Rattle.script_table.specs.declared.form.MutexCall.TheVariants as mutex
use Rattle.script_table.specs.declared.form.SemCall.TheVariants as sem
use Rattle.script_table.specs.declared.form.TimeCall.TheVariants as time
use Rattle.script_table.specs.declared.form.SignalCall.TheVariants as signal
use Rattle.script_table.specs.declared.form.MessageCall.TheVariants as message
use Rattle.script_table.specs.Patterns.{greatest}
use Rattle.script_table.specs.Structure.{Said}
use Rattle.script_table.specs.Table.{patterns}
use Rattle.script_table.specs.Names.{Entry, declared}
use Rattle.script_table.specs.Operands.{amount_at, answer_at, fifo_at, map_five, map_four, map_three, map_two, moment_at, name_at, named_at, number_in, operand_at, priority_at, rr_at, server_at, signal_at, signals_at, sporadic_at, strict_at, real_at}
use Rattle.script_table.specs.Calls.{call_of, thread_call}
use Rattle.script_table.specs.Meaning.{protect, queue, kind_of_object, object_decl, ignores, runs, action_decl, thread_at, thread_dormant, kind_of_body, body_decl, plain_step, block_step, test, repeat, guard, timer}
use Rattle.script_table.specs.Build.{nothing_built, script_of}
use Rattle.script_table.specs.Heading.{Beginning}
use Rattle.script_table.specs.Read.{said_in, read}
use Rattle.rules_flat_code.specs.KnownCalls.{KnowsObjects, Objects, objects_of, IsSignal}
use Rattle.laws_canonical_text.proofs.Accepted.{is_read}
use Rattle.laws_canonical_text.proofs.Again.{statements}
use Rattle.laws_canonical_text.proofs.Known.{AllKnown}
use Rattle.laws_canonical_text.proofs.Moved.{InRange, built_range}
use Rattle.laws_canonical_text.proofs.Table.{the_table}
use Rattle.laws_bounds.proofs.Calls.{Fits, call_fits}
use Rattle.laws_bounds.proofs.EachDecl as every
use Rattle.laws_bounds.proofs.EachDecl.{OfStep, Says, each_decl}
use Rattle.laws_bounds.proofs.Objects.{declared_count, all_below, objects_same}
use Rattle.laws_bounds.proofs.Operands.{mapped, mapped_two, weaker, AllBelow, named_within, number_within, amount_within, signal_within, server_within, IsFrom, IsServer, Any, anything}
use Rattle.laws_numbers.specs.Numbers.{Each, IsNumber, PolicySmall}
use Rattle.laws_numbers.specs.Scripts.{BlockSmall, CallSmall, DeclSmall, GivesSmall, IsInRange, KindSmall}

-- ---- policies

fifo_small : (k : ℕ) (words : List (List ℕ)) → IfSome (fifo_at k words) PolicySmall
fifo_small k words = mapped Any PolicySmall Fifo (λ p h. tt) (priority_at k words) (anything (priority_at k words))

rr_small : (k : ℕ) (words : List (List ℕ)) → IfSome (rr_at k words) PolicySmall
rr_small k words = mapped Any PolicySmall Rr (λ p h. tt) (priority_at k words) (anything (priority_at k words))

server_small : (p : Parameters) → IsServer p → PolicySmall (Sporadic p)
server_small p h = (omega (arith, h.budget, h.period), h.period)

sporadic_small : (words : List (List ℕ)) → IfSome (sporadic_at words) PolicySmall
sporadic_small words = mapped IsServer PolicySmall Sporadic server_small (server_at words) (server_within words)

strict_small : (words : List (List ℕ)) → IfSome (strict_at words) PolicySmall
strict_small words = mapped IsServer PolicySmall Strict (λ p h. (omega (arith, h.budget, h.period), h.period)) (server_at words) (server_within words)

-- ---- calls: only one gives a policy

both_some : {A : Type 0} (P Q : A → Type 0) (R : A → Type 0) → ((a : A) → P a → Q a → R a) → (o : Option A) → IfSome o P → IfSome o Q → IfSome o R
both_some P Q R each None h k = tt
both_some P Q R each (Some a) h k = each a h k

gives_one : {A : Type 0} (make : A → Call) → ((a : A) → GivesSmall (make a)) → (o : Option A) → IfSome (option_map make o) GivesSmall
gives_one make each None = tt
gives_one make each (Some a) = each a

gives_two : {A B : Type 0} (make : A → B → Call) → ((a : A) (b : B) → GivesSmall (make a b)) → (o : Option A) (p : Option B) → IfSome (map_two make o p) GivesSmall
gives_two make each None p = tt
gives_two make each (Some a) None = tt
gives_two make each (Some a) (Some b) = each a b

gives_three : {A B C : Type 0} (make : A → B → C → Call) → ((a : A) (b : B) (c : C) → GivesSmall (make a b c)) → (o : Option A) (p : Option B) (q : Option C) → IfSome (map_three make o p q) GivesSmall
gives_three make each None p q = tt
gives_three make each (Some a) p q = gives_two (make a) (each a) p q

gives_four : {A B C D : Type 0} (make : A → B → C → D → Call) → ((a : A) (b : B) (c : C) (d : D) → GivesSmall (make a b c d)) → (o : Option A) (p : Option B) (q : Option C) (r : Option D) → IfSome (map_four make o p q r) GivesSmall
gives_four make each None p q r = tt
gives_four make each (Some a) p q r = gives_three (make a) (each a) p q r

gives_five : {A B C D E : Type 0} (make : A → B → C → D → E → Call) → ((a : A) (b : B) (c : C) (d : D) (e : E) → GivesSmall (make a b c d e)) → (o : Option A) (p : Option B) (q : Option C) (r : Option D) (s : Option E) →
    IfSome (map_five make o p q r s) GivesSmall
gives_five make each None p q r s = tt
gives_five make each (Some a) p q r s = gives_four (make a) (each a) p q r s

gives_policy : (o : Option ℕ) (p : Option Policy) → IfSome p PolicySmall → IfSome (map_two calls.Setsched o p) GivesSmall
gives_policy None p h = tt
gives_policy (Some u) None h = tt
gives_policy (Some u) (Some p) h = h

module _ (es : List Entry) (words : List (List ℕ)) where
  thread_gives : (f : ThreadCall) → IfSome (thread_call es f words) GivesSmall
  thread_gives thread.Yield = tt
  thread_gives thread.Create = gives_one calls.Create (λ u. tt) (named_at kind.Thread es 1 words)
  thread_gives thread.Join = gives_one calls.Join (λ u. tt) (named_at kind.Thread es 1 words)
  thread_gives thread.Cancel = gives_one calls.Cancel (λ u. tt) (named_at kind.Thread es 1 words)
  thread_gives thread.Testcancel = tt
  thread_gives thread.SetcancelEnable = tt
  thread_gives thread.SetcancelDisable = tt
  thread_gives thread.Exit = gives_one calls.Exit (λ v. tt) (operand_at 1 words)
  thread_gives thread.Setprio = gives_two calls.Setprio (λ u p. tt) (named_at kind.Thread es 1 words) (priority_at 2 words)
  thread_gives thread.SetschedFifo = gives_policy (named_at kind.Thread es 1 words) (fifo_at 3 words) (fifo_small 3 words)
  thread_gives thread.SetschedRr = gives_policy (named_at kind.Thread es 1 words) (rr_at 3 words) (rr_small 3 words)
  thread_gives thread.SetschedSporadic = gives_policy (named_at kind.Thread es 1 words) (sporadic_at words) (sporadic_small words)
  thread_gives thread.SetschedStrict = gives_policy (named_at kind.Thread es 1 words) (strict_at words) (strict_small words)

  call_gives : (f : CallForm) → IfSome (call_of es f words) GivesSmall
  call_gives (call.Thread f) = thread_gives f
  call_gives (call.Mutex mutex.Lock) = gives_one calls.Lock (λ k. tt) (named_at kind.Mutex es 1 words)
  call_gives (call.Mutex mutex.Timedlock) = gives_two calls.Timedlock (λ k at. tt) (named_at kind.Mutex es 1 words) (moment_at 2 words)
  call_gives (call.Mutex mutex.TimedlockReal) = gives_two calls.Timedlock (λ k at. tt) (named_at kind.Mutex es 1 words) (real_at 2 words)
  call_gives (call.Mutex mutex.Trylock) = gives_one calls.Trylock (λ k. tt) (named_at kind.Mutex es 1 words)
  call_gives (call.Mutex mutex.Unlock) = gives_one calls.Unlock (λ k. tt) (named_at kind.Mutex es 1 words)
  call_gives (call.Mutex mutex.Wait) = gives_two calls.Wait (λ c k. tt) (named_at kind.Cond es 1 words) (named_at kind.Mutex es 2 words)
  call_gives (call.Mutex mutex.Timedwait) = gives_three calls.Timedwait (λ c k at. tt) (named_at kind.Cond es 1 words) (named_at kind.Mutex es 2 words) (moment_at 3 words)
  call_gives (call.Mutex mutex.TimedwaitReal) = gives_three calls.Timedwait (λ c k at. tt) (named_at kind.Cond es 1 words) (named_at kind.Mutex es 2 words) (real_at 3 words)
  call_gives (call.Mutex mutex.Signal) = gives_one calls.Signal (λ c. tt) (named_at kind.Cond es 1 words)
  call_gives (call.Mutex mutex.Broadcast) = gives_one calls.Broadcast (λ c. tt) (named_at kind.Cond es 1 words)
  call_gives (call.Sem sem.Wait) = gives_one calls.SemWait (λ k. tt) (named_at kind.Sem es 1 words)
  call_gives (call.Sem sem.Timedwait) = gives_two calls.SemTimedwait (λ k at. tt) (named_at kind.Sem es 1 words) (moment_at 2 words)
  call_gives (call.Sem sem.TimedwaitReal) = gives_two calls.SemTimedwait (λ k at. tt) (named_at kind.Sem es 1 words) (real_at 2 words)
  call_gives (call.Sem sem.Trywait) = gives_one calls.SemTrywait (λ k. tt) (named_at kind.Sem es 1 words)
  call_gives (call.Sem sem.Getvalue) = gives_one calls.SemGetvalue (λ k. tt) (named_at kind.Sem es 1 words)
  call_gives (call.Sem sem.Post) = gives_one calls.SemPost (λ k. tt) (named_at kind.Sem es 1 words)
  call_gives (call.Time time.Nanosleep) = gives_one calls.Nanosleep (λ n. tt) (amount_at 1 words)
  call_gives (call.Time time.ClockNanosleep) = gives_one calls.ClockNanosleep (λ at. tt) (moment_at 1 words)
  call_gives (call.Time time.ClockNanosleepReal) = gives_one calls.ClockNanosleep (λ at. tt) (real_at 1 words)
  call_gives (call.Time time.Gettime) = tt
  call_gives (call.Time time.RealGettime) = tt
  call_gives (call.Time time.ClockSettime) = gives_one calls.ClockSettime (λ v. tt) (operand_at 1 words)
  call_gives (call.Time time.TimerSettimeRel) = gives_three calls.TimerSettimeRel (λ k n i. tt) (named_at kind.Timer es 1 words) (amount_at 3 words) (amount_at 4 words)
  call_gives (call.Time time.TimerSettimeAbs) = gives_three calls.TimerSettimeAbs (λ k at i. tt) (named_at kind.Timer es 1 words) (operand_at 3 words) (amount_at 4 words)
  call_gives (call.Time time.TimerGettime) = gives_one calls.TimerGettime (λ k. tt) (named_at kind.Timer es 1 words)
  call_gives (call.Time time.TimerGetoverrun) = gives_one calls.TimerGetoverrun (λ k. tt) (named_at kind.Timer es 1 words)
  call_gives (call.Signal signal.Kill) = gives_one calls.Kill (λ k. tt) (signal_at 1 words)
  call_gives (call.Signal signal.Tkill) = gives_two calls.Tkill (λ u k. tt) (named_at kind.Thread es 1 words) (signal_at 2 words)
  call_gives (call.Signal signal.Sigqueue) = gives_two calls.Sigqueue (λ k v. tt) (signal_at 1 words) (operand_at 2 words)
  call_gives (call.Signal signal.SigmaskBlock) = gives_one calls.SigmaskBlock (λ set. tt) (signals_at 2 words)
  call_gives (call.Signal signal.SigmaskUnblock) = gives_one calls.SigmaskUnblock (λ set. tt) (signals_at 2 words)
  call_gives (call.Signal signal.SigmaskSet) = gives_one calls.SigmaskSet (λ set. tt) (signals_at 2 words)
  call_gives (call.Signal signal.Sigwaitinfo) = gives_one calls.Sigwaitinfo (λ set. tt) (signals_at 1 words)
  call_gives (call.Signal signal.Sigtimedwait) = gives_two calls.Sigtimedwait (λ set n. tt) (signals_at 1 words) (amount_at 2 words)
  call_gives (call.Message message.Send) =
      gives_four calls.MqSend (λ q len p v. tt) (named_at kind.Queue es 1 words) (number_in 0 65536 2 words) (number_in 0 31 3 words) (operand_at 4 words)
  call_gives (call.Message message.Timedsend) =
      gives_five calls.MqTimedsend (λ q len p v at. tt) (named_at kind.Queue es 1 words) (number_in 0 65536 2 words) (number_in 0 31 3 words) (operand_at 4 words) (moment_at 5 words)
  call_gives (call.Message message.TimedsendReal) =
      gives_five calls.MqTimedsend (λ q len p v at. tt) (named_at kind.Queue es 1 words) (number_in 0 65536 2 words) (number_in 0 31 3 words) (operand_at 4 words) (real_at 5 words)
  call_gives (call.Message message.Receive) = gives_one calls.MqReceive (λ q. tt) (named_at kind.Queue es 1 words)
  call_gives (call.Message message.Timedreceive) = gives_two calls.MqTimedreceive (λ q at. tt) (named_at kind.Queue es 1 words) (moment_at 2 words)
  call_gives (call.Message message.TimedreceiveReal) = gives_two calls.MqTimedreceive (λ q at. tt) (named_at kind.Queue es 1 words) (real_at 2 words)
  call_gives (call.Message message.Notify) = gives_three calls.MqNotify (λ q k v. tt) (named_at kind.Queue es 1 words) (signal_at 2 words) (operand_at 3 words)

-- ---- steps and blocks

module _ (o : Objects) where
  abbrev StepSmall : Step → Type 0
  StepSmall s = OfStep (BlockSmall o) s

  more_small : (steps : List Step) (s : Step) → BlockSmall o (block_of steps) → StepSmall s → BlockSmall o (block_of (steps ++ s ∷ []))
  more_small [] s all h = h
  more_small (Run n ∷ steps) s all h = (all.0, more_small steps s all.1 h)
  more_small (Make c ∷ steps) s all h = (all.0, more_small steps s all.1 h)
  more_small (Set n ∷ steps) s all h = more_small steps s all h
  more_small (Add n ∷ steps) s all h = more_small steps s all h
  more_small (Take ∷ steps) s all h = more_small steps s all h
  more_small (Test res equal body ∷ steps) s all h = (all.0, more_small steps s all.1 h)
  more_small (Loop times body ∷ steps) s all h = (all.0, more_small steps s all.1 h)
  more_small (Guard cleanup body run ∷ steps) s all h = (all.0, all.1, all.2, more_small steps s all.3 h)

  quiet : (make : ℕ → Step) → ((n : ℕ) → StepSmall (make n)) → (x : Option ℕ) → IfSome (option_map make x) StepSmall
  quiet make each None = tt
  quiet make each (Some n) = each n

  plain_small : (f : StepForm) (words : List (List ℕ)) → IfSome (plain_step f words) StepSmall
  plain_small step.Run words = mapped (IsFrom 1 greatest) StepSmall Run (λ n h. (h.1, tt)) (number_in 1 greatest 1 words) (number_within 1 greatest 1 words)
  plain_small step.Set words = quiet Set (λ n. tt) (amount_at 1 words)
  plain_small step.Add words = quiet Add (λ n. tt) (amount_at 1 words)
  plain_small step.Take words = tt

  test_small : (equal : Bool) (body : Block) → BlockSmall o body → (x : Option Res) → IfSome (test equal body x) StepSmall
  test_small equal body inside None = tt
  test_small equal body inside (Some res) = (inside, tt)

  repeat_small : (body : Block) → BlockSmall o body → (x : Option ℕ) → IfSome (repeat body x) StepSmall
  repeat_small body inside None = tt
  repeat_small body inside (Some times) = (inside, tt)

  guard_small : (run : Bool) (body : Block) → BlockSmall o body → (x : Option ℕ) → IfSome x (λ u. CallSmall o (calls.Push u)) → IfSome (guard run body x) StepSmall
  guard_small run body inside None h = tt
  guard_small run body inside (Some cleanup) h = (h, record { known = tt; gives = tt }, inside, tt)

  block_small : (es : List Entry) (f : BlockForm) (words : List (List ℕ)) (run : Bool) (body : Block) → IfSome (named_at kind.Cleanup es 1 words) (λ u. CallSmall o (calls.Push u)) → BlockSmall o body
      → IfSome (block_step es f words run body) StepSmall
  block_small es block.If words run body guards inside = test_small true body inside (answer_at 1 words)
  block_small es block.Unless words run body guards inside = test_small false body inside (answer_at 1 words)
  block_small es block.Loop words run body guards inside = repeat_small body inside (number_in 1 greatest 1 words)
  block_small es block.Forever words run body guards inside = (inside, tt)
  block_small es block.Push words run body guards inside = guard_small run body inside (named_at kind.Cleanup es 1 words) guards

  -- ---- what lines declare

  abbrev KindOf : Kind → Type 0
  KindOf k = KindSmall o k

  abbrev DeclOf : Decl → Type 0
  DeclOf d = DeclSmall o d

  named_small : (name : Option (List ℕ)) (k : Option Kind) → IfSome k KindOf → IfSome (map_two Named name k) DeclOf
  named_small name k h = mapped_two Any KindOf DeclOf Named (λ name kind any small. small) name k (anything name) h

  protect_small : (recursive : Bool) (x : Option ℕ) → IfSome (protect recursive x) KindOf
  protect_small recursive None = tt
  protect_small recursive (Some ceiling) = tt

  queue_small : (nonblock : Bool) (x y : Option ℕ) → IfSome x (IsFrom 1 64) → IfSome y (IsFrom 1 65536) → IfSome (queue nonblock x y) KindOf
  queue_small nonblock None y h k = tt
  queue_small nonblock (Some depth) None h k = tt
  queue_small nonblock (Some depth) (Some longest) h k = (h.1, k.1)

  timer_small : (real : Bool) (x y : Option ℕ) → IfSome x IsSignal → IfSome y IsNumber → IfSome (timer real x y) KindOf
  timer_small real None y h k = tt
  timer_small real (Some sig) None h k = tt
  timer_small real (Some sig) (Some value) h k = (h, k)

  kind_small : (f : ObjectForm) (words : List (List ℕ)) → IfSome (kind_of_object f words) KindOf
  kind_small object.MutexNone words = tt
  kind_small object.MutexNoneRecursive words = tt
  kind_small object.MutexInherit words = tt
  kind_small object.MutexInheritRecursive words = tt
  kind_small object.MutexProtect words = protect_small false (priority_at 3 words)
  kind_small object.MutexProtectRecursive words = protect_small true (priority_at 3 words)
  kind_small object.Cond words = tt
  kind_small object.Sem words = mapped (IsFrom 0 32767) KindOf kinds.Sem (λ n from. from.1) (number_in 0 32767 2 words) (number_within 0 32767 2 words)
  kind_small object.Queue words = queue_small false (number_in 1 64 2 words) (number_in 1 65536 3 words) (number_within 1 64 2 words) (number_within 1 65536 3 words)
  kind_small object.QueueNonblock words = queue_small true (number_in 1 64 2 words) (number_in 1 65536 3 words) (number_within 1 64 2 words) (number_within 1 65536 3 words)
  kind_small object.Timer words = timer_small false (signal_at 2 words) (amount_at 3 words) (signal_within 2 words) (amount_within 3 words)
  kind_small object.TimerReal words = timer_small true (signal_at 2 words) (amount_at 3 words) (signal_within 2 words) (amount_within 3 words)

  object_small : (f : ObjectForm) (words : List (List ℕ)) → IfSome (object_decl f words) DeclOf
  object_small f words = named_small (name_at 1 words) (kind_of_object f words) (kind_small f words)

  ignores_small : (x : Option ℕ) → IfSome (ignores x) DeclOf
  ignores_small None = tt
  ignores_small (Some sig) = tt

  handles_small : (x y : Option ℕ) → IfSome (runs x y) DeclOf
  handles_small None y = tt
  handles_small (Some sig) None = tt
  handles_small (Some sig) (Some h) = tt

  action_small : (es : List Entry) (f : ActionForm) (words : List (List ℕ)) → IfSome (action_decl es f words) DeclOf
  action_small es action.Ignore words = ignores_small (signal_at 1 words)
  action_small es action.Run words = handles_small (signal_at 1 words) (named_at kind.Handler es 3 words)

  at_small : (policy : Option Policy) (start : Option ℕ) (steps : Block) → BlockSmall o steps → IfSome policy PolicySmall → IfSome start IsNumber → IfSome (thread_at policy start steps) KindOf
  at_small None start steps inside p n = tt
  at_small (Some policy) None steps inside p n = tt
  at_small (Some policy) (Some start) steps inside p n = (p, n, inside)

  dormant_small : (policy : Option Policy) (steps : Block) → BlockSmall o steps → IfSome policy PolicySmall → IfSome (thread_dormant policy steps) KindOf
  dormant_small None steps inside p = tt
  dormant_small (Some policy) steps inside p = (p, tt, inside)

  own_kind_small : (f : BodyForm) (words : List (List ℕ)) (steps : Block) → BlockSmall o steps → IfSome (kind_of_body f words steps) KindOf
  own_kind_small body.FifoAt words steps inside = at_small (fifo_at 3 words) (amount_at 5 words) steps inside (fifo_small 3 words) (amount_within 5 words)
  own_kind_small body.FifoDormant words steps inside = dormant_small (fifo_at 3 words) steps inside (fifo_small 3 words)
  own_kind_small body.RrAt words steps inside = at_small (rr_at 3 words) (amount_at 5 words) steps inside (rr_small 3 words) (amount_within 5 words)
  own_kind_small body.RrDormant words steps inside = dormant_small (rr_at 3 words) steps inside (rr_small 3 words)
  own_kind_small body.SporadicAt words steps inside = at_small (sporadic_at words) (amount_at 9 words) steps inside (sporadic_small words) (amount_within 9 words)
  own_kind_small body.SporadicDormant words steps inside = dormant_small (sporadic_at words) steps inside (sporadic_small words)
  own_kind_small body.StrictAt words steps inside = at_small (strict_at words) (amount_at 9 words) steps inside (strict_small words) (amount_within 9 words)
  own_kind_small body.StrictDormant words steps inside = dormant_small (strict_at words) steps inside (strict_small words)
  own_kind_small body.Handler words steps inside = inside
  own_kind_small body.Cleanup words steps inside = inside

  body_small : (f : BodyForm) (words : List (List ℕ)) (steps : Block) → BlockSmall o steps → IfSome (body_decl f words steps) DeclOf
  body_small f words steps inside = named_small (name_at 1 words) (kind_of_body f words steps) (own_kind_small f words steps inside)

-- ---- a script

module _ (script : Script) (es : List Entry) (below : AllBelow (declared_count script.decls) es) where
  fitting : (c : Call) → Fits (declared_count script.decls) c → GivesSmall c → OfStep (BlockSmall (objects_of script)) (Make c)
  fitting c fits gives = (record { known = subst (λ o. KnowsObjects o c) (objects_same script) fits.0; gives = gives }, tt)

  call_in_range : (f : CallForm) (words : List (List ℕ)) → IfSome (call_of es f words) (λ c. OfStep (BlockSmall (objects_of script)) (Make c))
  call_in_range f words =
      both_some (Fits (declared_count script.decls)) GivesSmall (λ c. OfStep (BlockSmall (objects_of script)) (Make c)) fitting (call_of es f words)
      (call_fits (declared_count script.decls) es below words f) (call_gives es words f)

  pushed : (words : List (List ℕ)) → IfSome (named_at kind.Cleanup es 1 words) (λ u. CallSmall (objects_of script) (calls.Push u))
  pushed words =
      weaker (λ u. u < declared_count script.decls kind.Cleanup) (λ u. CallSmall (objects_of script) (calls.Push u))
      (λ u h. record { known = subst (λ o. KnowsObjects o (calls.Push u)) (objects_same script) h; gives = tt })
      (named_at kind.Cleanup es 1 words) (named_within (declared_count script.decls) es below kind.Cleanup 1 words)

  lines_small : Says es (BlockSmall (objects_of script)) (DeclSmall (objects_of script))
  lines_small = record {
    none = tt;
    more = more_small (objects_of script);
    step = plain_small (objects_of script);
    call = λ f words any. call_in_range f words;
    block = λ f words run body inside. block_small (objects_of script) es f words run body (pushed words) inside;
    object = object_small (objects_of script);
    action = λ f words. action_small (objects_of script) es f words;
    body = λ f words steps any inside. body_small (objects_of script) f words steps inside;
  }

same_each : {A : Type 0} (P : A → Type 0) (xs : List A) → every.Each P xs → Each P xs
same_each P [] h = tt
same_each P (x ∷ xs) h = (h.0, same_each P xs h.1)

pub accepted_in_range : (text : List ℕ) (script : Script) → read patterns text ≡ Ok script → IsInRange script
accepted_in_range text script e =
    let read' = is_read patterns the_table text script e in
    let b : Beginning = read'.part in
    let ss : List Said = said_in (patterns b.version) b in
    let es : List Entry = (declared ss).names in
    let own : Script = script_of b.version es ss in
    let means : own ≡ script = read'.means in
    let known : AllKnown es own.decls = (statements patterns the_table text script e).known in
    let below : AllBelow (declared_count own.decls) es = all_below es own.decls known in
    let all : every.Each (DeclSmall (objects_of own)) own.decls = each_decl es (BlockSmall (objects_of own)) (DeclSmall (objects_of own)) (lines_small own es below) ss in
    let quantum : InRange own.quantum = built_range es nothing_built ss (record { low = omega arith; high = omega arith }) in
    let range : IsInRange own = record { quantum = quantum.high; decls = same_each (DeclSmall (objects_of own)) own.decls all } in
    subst IsInRange means range
