-- The texts of facts in a list of texts, one for each fact. This project's own.
use Rattle.std.specs.Prelude.{Bool, List, [], false, length, map, suc, sum_by, true, zero, ℕ, ◌+◌, ◌<◌, ◌≤◌, ◌∷◌, ◌++◌, ◌≡◌}
use Rattle.std.specs.List.{AllByRecursion}
use Rattle.words_script.specs.declared.decl.Decl.{Decl}
use Rattle.parts_texts.specs.Texts.{HasRoom, Next, Told}
use Rattle.rules_machine.specs.Queues.{waits_to_receive, waits_to_send}
use Rattle.rules_machine.specs.State.{Machine}
use Rattle.rules_facts.specs.Fact.{Fact, receivers_of, senders_of}
use Rattle.rules_facts.specs.Objects.{in_service_order}
use Rattle.rules_facts.specs.Signals.{signal_fact}
use Rattle.kernel_texts.specs.Lines.{fact_text, facts_text}
use Rattle.kernel_texts.specs.Rows.{list_text, object_count, object_facts, thread_fact_of}
use Rattle.kernel_texts.specs.declared.rows.ThreadRow.{ThreadRow}
use Rattle.kernel_texts.specs.declared.rows.ThreadRow.TheVariants as thread
use Rattle.kernel_texts.specs.declared.rows.ObjectRow.{ObjectRow}
use Rattle.kernel_texts.specs.declared.rows.ObjectRow.TheVariants as object

-- the text of each fact, which is empty where the fact is
abbrev pub texts_of : List Decl → List Fact → List (List ℕ)
texts_of decls facts = map (fact_text decls) facts

-- These texts were put behind the others, unless the list is full; and it was not full before.
pub record Kept (old new : Told) (due : List (List ℕ)) : Type 0 where
  pub before : new.is_full ≡ false → old.is_full ≡ false
  pub texts : new.is_full ≡ false → new.texts ≡ old.texts ++ due

-- each text has fewer bytes than the room for one, and all have room behind those that are there
pub record HaveRoom (one : ℕ) (t : Told) (due : List (List ℕ)) : Type 0 where
  pub fresh : t.is_full ≡ false
  pub each : AllByRecursion (λ (text : List ℕ). length text < one) due
  pub bytes : sum_by length t.texts + sum_by length due ≤ t.room
  pub number : length t.texts + length due ≤ t.most

-- the rooms stay
pub record HaveSameRooms (old new : Told) : Type 0 where
  pub bytes : new.room ≡ old.room
  pub number : new.most ≡ old.most

-- The texts were put behind the others, each after it was written in the room for one, unless the list is full; and it is not where
-- there was room.
pub record KeptIn (one_old one_new : Next) (old new : Told) (due : List (List ℕ)) : Type 0 where
  pub kept : Kept old new due
  pub same_room : one_new.room ≡ one_old.room
  pub same_rooms : new.is_full ≡ false → HaveSameRooms old new
  pub roomy : HaveRoom one_old.room old due → new.is_full ≡ false

-- a text was put behind the others, unless a write of it failed; and where one has failed its room is used up
pub record KeptOne (one : Next) (failed : Bool) (old new : Told) : Type 0 where
  pub whole : new.is_full ≡ false → failed ≡ false
  pub kept : Kept old new (one.text ∷ [])
  pub same_rooms : new.is_full ≡ false → HaveSameRooms old new
  pub roomy : failed ≡ false → HasRoom old (length one.text) → new.is_full ≡ false
  pub used : 0 < one.faults → length one.text ≡ one.room

-- texts for each number below a limit
abbrev pub kept_below : (ℕ → List (List ℕ)) → ℕ → List (List ℕ)
kept_below texts zero = []
kept_below texts (suc n) = kept_below texts n ++ texts n

-- the lists, that of the greatest priority first
abbrev pub lists_kept : List Decl → List (List ℕ) → List (List ℕ)
lists_kept decls lists = kept_below (λ (i : ℕ). list_text decls 255 lists i ∷ []) 255

abbrev pub thread_row_kept : {P : Type 0} → List Decl → ThreadRow → Machine P → List (List ℕ)
thread_row_kept decls row m = kept_below (λ (t : ℕ). fact_text decls (thread_fact_of row m t) ∷ []) (length m.threads)

abbrev pub threads_kept : {P : Type 0} → List Decl → Machine P → List (List ℕ)
threads_kept decls m =
    thread_row_kept decls thread.Status m
    ++ thread_row_kept decls thread.Frames m
    ++ thread_row_kept decls thread.Mask m
    ++ thread_row_kept decls thread.Cancelability m
    ++ thread_row_kept decls thread.Cleanups m
    ++ thread_row_kept decls thread.Pending m

-- a row that has one fact for each object
abbrev pub object_row_kept : {P : Type 0} → List Decl → ObjectRow → Machine P → List (List ℕ)
object_row_kept decls row m = kept_below (λ (k : ℕ). facts_text decls (object_facts row m k) ∷ []) (object_count row decls m)

-- who waits to send to a queue, or who waits for a message of it
abbrev pub waiters_text : {P : Type 0} → List Decl → Bool → Machine P → ℕ → List ℕ
waiters_text decls true m q = fact_text decls (senders_of q (in_service_order m (waits_to_send q)))
waiters_text decls false m q = fact_text decls (receivers_of q (in_service_order m (waits_to_receive q)))

abbrev pub queue_waiters_kept : {P : Type 0} → List Decl → Machine P → List (List ℕ)
queue_waiters_kept decls m = kept_below (λ (q : ℕ). waiters_text decls true m q ∷ [] ++ waiters_text decls false m q ∷ []) (length m.queues)

abbrev pub objects_kept : {P : Type 0} → List Decl → Machine P → List (List ℕ)
objects_kept decls m =
    object_row_kept decls object.Owner m
    ++ object_row_kept decls object.MutexWaiters m
    ++ object_row_kept decls object.ConditionWaiters m
    ++ object_row_kept decls object.SemaphoreWaiters m
    ++ object_row_kept decls object.Value m
    ++ object_row_kept decls object.Messages m
    ++ queue_waiters_kept decls m
    ++ object_row_kept decls object.Registration m
    ++ object_row_kept decls object.Arming m

-- so many signals
abbrev pub signals_kept : {P : Type 0} → List Decl → Machine P → ℕ → List (List ℕ)
signals_kept decls m count = kept_below (λ (signal : ℕ). fact_text decls (signal_fact m signal) ∷ []) count
