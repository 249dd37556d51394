-- Where it is said of each row that its facts have short texts, all facts of a state have; and what is known of facts from their parts.
use Rattle.std.proofs.Common.{◌≡◌, ◌+◌, ◌<◌, ◌≤◌, List, None, Option, Some, [], ◌∷◌, ◌++◌, ◌*◌, ap, arith, length, length-append, map, subst, suc, take, zero, ℕ}
use Rattle.std.specs.List.{AllByRecursion, filter, range_with_len}
use Rattle.std.specs.Prelude.{not, slice_get, ◌==◌}
use Rattle.words_script.specs.declared.decl.Decl.{Decl}
use Rattle.words_script.specs.declared.decl.Script.{Script}
use Rattle.words_script.specs.declared.name_kind.NameKind.TheVariants as kind
use Rattle.script_lex.specs.Joined.{after_blanks}
use Rattle.script_writer.specs.Canon.{Words}
use Rattle.script_writer.specs.Names.{names_of}
use Rattle.rules_machine.specs.State.{Machine, Message, SignalRecord}
use Rattle.rules_machine.specs.Threads.{queue_at}
use Rattle.rules_facts.specs.Fact.{Fact}
use Rattle.rules_facts.specs.Facts.{facts, facts_of_objects, facts_of_threads}
use Rattle.rules_facts.specs.Lists.{lists_from}
use Rattle.rules_facts.specs.Objects.{condition_waiters, mutex_waiters, owner_fact, semaphore_fact, semaphore_waiters, timer_fact}
use Rattle.rules_facts.specs.Queues.{is_received_before, messages_fact, registration_fact, senders_and_receivers}
use Rattle.rules_facts.specs.Signals.{pending_of, signal_fact}
use Rattle.rules_facts.specs.Threads.{cancelability_fact, cleanups_fact, frames_fact, mask_fact, pending_fact, thread_fact}
use Rattle.kernel_texts.specs.Modest.{IsNumber}
use Rattle.kernel_texts.specs.Rows.{object_count, object_facts, thread_fact_of}
use Rattle.kernel_texts.specs.Short.{HasShortText, HaveShortTexts}
use Rattle.kernel_texts.specs.declared.rows.ObjectRow.{ObjectRow}
use Rattle.kernel_texts.specs.declared.rows.ObjectRow.TheVariants as object
use Rattle.kernel_texts.specs.declared.rows.ThreadRow.{ThreadRow}
use Rattle.kernel_texts.specs.declared.rows.ThreadRow.TheVariants as thread
use Rattle.kernel_texts.proofs.Lines.{blanks-append}
use Rattle.kernel_texts.specs.Picked.{is_left_out, left_in}
use Rattle.kernel_texts.proofs.Modest.{IsMessage, IsPending, list_short, messages_short, receivers_short, senders_short, signals_short}
use Rattle.kernel_texts.proofs.ModestFacts.{all_below, all_both, all_filtered, all_of_rows, all_ordered, all_reverse}

-- ---- the first members of a list

module _ {X : Type 0} (holds : X → Type 0) where
  some_same : (x y : X) → Some x ≡ Some y → holds x → holds y
  some_same x y e h = let same : x ≡ y = cc in subst holds same h

  -- with one more behind
  pub all_more : (xs : List X) (i : ℕ) (x : X) → Some x ≡ slice_get xs i → AllByRecursion holds (take i xs) → holds x → AllByRecursion holds (take (suc i) xs)
  all_more [] i x is all here = cc
  all_more (y ∷ xs) zero x is all here = (some_same x y is here, tt)
  all_more (y ∷ xs) (suc i) x is all here = (all.0, all_more xs i x is all.1 here)

  -- where there is no next one
  pub all_taken : (xs : List X) (i : ℕ) → None ≡ slice_get xs i → AllByRecursion holds (take i xs) → AllByRecursion holds xs
  all_taken [] i is all = tt
  all_taken (y ∷ xs) zero is all = cc
  all_taken (y ∷ xs) (suc i) is all = (all.0, all_taken xs i is all.1)

-- ---- facts

module _ {P : Type 0} (decls : List Decl) (m : Machine P) where
  records_are : (records : List SignalRecord) → AllByRecursion (λ (r : SignalRecord). IsNumber r.value) records → AllByRecursion IsPending (map pending_of records)
  records_are [] all = tt
  records_are (r ∷ records) all = (all.0, records_are records all.1)

  -- the pending records of a signal
  pub signal_short : (out : Option ℕ) (signal : ℕ) → IsNumber signal → AllByRecursion (λ (r : SignalRecord). IsNumber r.value) m.pending → HasShortText decls (signal_fact (left_in out m) signal)
  signal_short out signal fits all =
      let left = (left_in out m).pending in
      let left_all = all_filtered (λ (r : SignalRecord). IsNumber r.value) (λ (r : SignalRecord). not (is_left_out out r.serial)) m.pending all in
      let picked = all_filtered (λ (r : SignalRecord). IsNumber r.value) (λ (r : SignalRecord). r.signal == signal) left left_all in
      signals_short decls signal (map pending_of (filter (λ (r : SignalRecord). r.signal == signal) left)) fits
      (records_are (filter (λ (r : SignalRecord). r.signal == signal) left) picked)

  numbers_are : (ms : List Message) → AllByRecursion (λ (x : Message). x.priority < 32) ms → AllByRecursion (λ (x : Message). IsNumber x.value) ms → AllByRecursion IsMessage ms
  numbers_are [] low all = tt
  numbers_are (x ∷ ms) low all = let priority = low.0 in (record { priority = omega (arith, priority); value = all.0 }, numbers_are ms low.1 all.1)

  -- the messages of a queue
  pub queue_short : (q : ℕ) → AllByRecursion (λ (x : Message). x.priority < 32) (queue_at m q).messages → AllByRecursion (λ (x : Message). IsNumber x.value) (queue_at m q).messages
      → HasShortText decls (messages_fact m q)
  queue_short q low all = messages_short decls q _ (all_ordered IsMessage is_received_before (queue_at m q).messages (numbers_are (queue_at m q).messages low all))

-- who waits to send to a queue, and who waits for a message of it
pub both_short : {P : Type 0} (decls : List Decl) (m : Machine P) (q : ℕ) → HaveShortTexts decls (senders_and_receivers m q)
both_short decls m q = (senders_short decls q _, (receivers_short decls q _, tt))

-- ---- states

lists_short : (decls : List Decl) (p : ℕ) (lists : List (List ℕ)) → p + length lists ≤ 256 → HaveShortTexts decls (lists_from p lists)
lists_short decls p [] low = tt
lists_short decls p (threads ∷ lists) low = (list_short decls p threads (omega (arith, low)), lists_short decls (p + 1) lists (omega (arith, low)))

module _ {P : Type 0} (script : Script) (m : Machine P) where
  abbrev Holds : Fact → Type 0
  Holds f = HasShortText script.decls f

  threads_short : ((row : ThreadRow) (t : ℕ) → t < length m.threads → HasShortText script.decls (thread_fact_of row m t)) → HaveShortTexts script.decls (facts_of_threads m)
  threads_short rows =
      let n = length m.threads in
      all_both Holds _ _ (all_both Holds _ _ (all_both Holds _ _ (all_both Holds _ _ (all_both Holds _ _
      (all_below Holds (thread_fact m) 0 n (λ t low. rows thread.Status t (omega (arith, low))))
      (all_below Holds (frames_fact m) 0 n (λ t low. rows thread.Frames t (omega (arith, low)))))
      (all_below Holds (mask_fact m) 0 n (λ t low. rows thread.Mask t (omega (arith, low)))))
      (all_below Holds (cancelability_fact m) 0 n (λ t low. rows thread.Cancelability t (omega (arith, low)))))
      (all_below Holds (cleanups_fact m) 0 n (λ t low. rows thread.Cleanups t (omega (arith, low)))))
      (all_below Holds (pending_fact m) 0 n (λ t low. rows thread.Pending t (omega (arith, low))))

  objects_short : ((row : ObjectRow) (k : ℕ) → k < object_count row script.decls m → HaveShortTexts script.decls (object_facts row m k))
      → ((signal : ℕ) → signal < length m.actions → HasShortText script.decls (signal_fact m signal)) → HaveShortTexts script.decls (facts_of_objects script m)
  objects_short rows signals =
      all_both Holds _ _ (all_both Holds _ _ (all_both Holds _ _ (all_both Holds _ _ (all_both Holds _ _
      (all_both Holds _ _ (all_both Holds _ _ (all_both Holds _ _ (all_both Holds _ _
      (all_below Holds (owner_fact m) 0 (length m.mutexes) (λ k low. (rows object.Owner k (omega (arith, low))).0))
      (all_below Holds (mutex_waiters m) 0 (length m.mutexes) (λ k low. (rows object.MutexWaiters k (omega (arith, low))).0)))
      (all_below Holds (condition_waiters m) 0 (length (names_of kind.Cond script.decls)) (λ k low. (rows object.ConditionWaiters k (omega (arith, low))).0)))
      (all_below Holds (semaphore_waiters m) 0 (length m.semaphores) (λ k low. (rows object.SemaphoreWaiters k (omega (arith, low))).0)))
      (all_below Holds (semaphore_fact m) 0 (length m.semaphores) (λ k low. (rows object.Value k (omega (arith, low))).0)))
      (all_below Holds (messages_fact m) 0 (length m.queues) (λ k low. (rows object.Messages k (omega (arith, low))).0)))
      (all_of_rows Holds (senders_and_receivers m) (range_with_len 0 (length m.queues)) (both_short script.decls m)))
      (all_below Holds (registration_fact m) 0 (length m.queues) (λ k low. (rows object.Registration k (omega (arith, low))).0)))
      (all_below Holds (timer_fact m) 0 (length m.timers) (λ k low. (rows object.Arming k (omega (arith, low))).0)))
      (all_below Holds (signal_fact m) 0 (length m.actions) (λ signal low. signals signal (omega (arith, low))))

  pub state_short : length m.lists ≡ 255
      → ((row : ThreadRow) (t : ℕ) → t < length m.threads → HasShortText script.decls (thread_fact_of row m t))
      → ((row : ObjectRow) (k : ℕ) → k < object_count row script.decls m → HaveShortTexts script.decls (object_facts row m k))
      → ((signal : ℕ) → signal < length m.actions → HasShortText script.decls (signal_fact m signal))
      → HaveShortTexts script.decls (facts script m)
  state_short every threads objects signals =
      all_both Holds _ _ (all_reverse Holds (lists_from 1 m.lists) (lists_short script.decls 1 m.lists (omega (arith, every))))
      (all_both Holds _ _ (threads_short threads) (objects_short objects signals))

-- ---- each row

pub each_thread_row : (holds : ThreadRow → Type 0) → holds thread.Status → holds thread.Frames → holds thread.Mask → holds thread.Cancelability → holds thread.Cleanups → holds thread.Pending
    → (row : ThreadRow) → holds row
each_thread_row holds a b c d e f thread.Status = a
each_thread_row holds a b c d e f thread.Frames = b
each_thread_row holds a b c d e f thread.Mask = c
each_thread_row holds a b c d e f thread.Cancelability = d
each_thread_row holds a b c d e f thread.Cleanups = e
each_thread_row holds a b c d e f thread.Pending = f

pub each_object_row : (holds : ObjectRow → Type 0) → holds object.Owner → holds object.MutexWaiters → holds object.ConditionWaiters → holds object.SemaphoreWaiters → holds object.Value
    → holds object.Messages → holds object.QueueWaiters → holds object.Registration → holds object.Arming → (row : ObjectRow) → holds row
each_object_row holds a b c d e f g h i object.Owner = a
each_object_row holds a b c d e f g h i object.MutexWaiters = b
each_object_row holds a b c d e f g h i object.ConditionWaiters = c
each_object_row holds a b c d e f g h i object.SemaphoreWaiters = d
each_object_row holds a b c d e f g h i object.Value = e
each_object_row holds a b c d e f g h i object.Messages = f
each_object_row holds a b c d e f g h i object.QueueWaiters = g
each_object_row holds a b c d e f g h i object.Registration = h
each_object_row holds a b c d e f g h i object.Arming = i

-- ---- the words of the first members of a list

pub within_more : (told more : Words) (i : ℕ) → length (after_blanks told) ≤ 42 * i → length (after_blanks more) ≤ 42 → length (after_blanks (told ++ more)) ≤ 42 * suc i
within_more told more i before here =
    let blanks = ap (λ (t : List ℕ). length t) (blanks-append told more) in
    let both = length-append (after_blanks told) (after_blanks more) in
    omega (arith, blanks, both, before, here)
