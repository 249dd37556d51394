-- The rows of facts by their names, as rules_facts has them.
use Rattle.std.specs.Prelude.{List, None, Option, Some, [], flat_map, length, option_map, ℕ, ◌∷◌, ◌++◌, ◌-◌}
use Rattle.rules_lists.specs.Lists.{list_of}
use Rattle.words_script.specs.declared.decl.Decl.{Decl}
use Rattle.words_script.specs.declared.name_kind.NameKind.TheVariants as kind
use Rattle.script_writer.specs.Names.{names_of}
use Rattle.rules_machine.specs.State.{Machine, SignalRecord}
use Rattle.rules_facts.specs.Fact.{Fact, on_list}
use Rattle.rules_facts.specs.Numbers.{thread_numbers_told}
use Rattle.rules_facts.specs.Shown.{ending_record}
use Rattle.rules_facts.specs.Signals.{signal_fact}
use Rattle.rules_facts.specs.Objects.{condition_waiters, mutex_waiters, owner_fact, semaphore_fact, semaphore_waiters, timer_fact}
use Rattle.rules_facts.specs.Queues.{messages_fact, registration_fact, senders_and_receivers}
use Rattle.rules_facts.specs.Threads.{cancelability_fact, cleanups_fact, frames_fact, mask_fact, pending_fact, thread_fact}
use Rattle.kernel_texts.specs.Lines.{fact_text, facts_text, number_text, texts_below}
use Rattle.kernel_texts.specs.declared.rows.ObjectRow.{ObjectRow}
use Rattle.kernel_texts.specs.declared.rows.ObjectRow.TheVariants as object
use Rattle.kernel_texts.specs.declared.rows.ThreadRow.{ThreadRow}
use Rattle.kernel_texts.specs.declared.rows.ThreadRow.TheVariants as thread

abbrev pub thread_fact_of : {P : Type 0} → ThreadRow → Machine P → ℕ → Fact
thread_fact_of thread.Status m t = thread_fact m t
thread_fact_of thread.Frames m t = frames_fact m t
thread_fact_of thread.Mask m t = mask_fact m t
thread_fact_of thread.Cancelability m t = cancelability_fact m t
thread_fact_of thread.Cleanups m t = cleanups_fact m t
thread_fact_of thread.Pending m t = pending_fact m t

-- how many objects a row tells of
abbrev pub object_count : {P : Type 0} → ObjectRow → List Decl → Machine P → ℕ
object_count object.Owner decls m = length m.mutexes
object_count object.MutexWaiters decls m = length m.mutexes
object_count object.ConditionWaiters decls m = length (names_of kind.Cond decls)
object_count object.SemaphoreWaiters decls m = length m.semaphores
object_count object.Value decls m = length m.semaphores
object_count object.Messages decls m = length m.queues
object_count object.QueueWaiters decls m = length m.queues
object_count object.Registration decls m = length m.queues
object_count object.Arming decls m = length m.timers

abbrev pub object_facts : {P : Type 0} → ObjectRow → Machine P → ℕ → List Fact
object_facts object.Owner m k = owner_fact m k ∷ []
object_facts object.MutexWaiters m k = mutex_waiters m k ∷ []
object_facts object.ConditionWaiters m k = condition_waiters m k ∷ []
object_facts object.SemaphoreWaiters m k = semaphore_waiters m k ∷ []
object_facts object.Value m k = semaphore_fact m k ∷ []
object_facts object.Messages m k = messages_fact m k ∷ []
object_facts object.QueueWaiters m k = senders_and_receivers m k
object_facts object.Registration m k = registration_fact m k ∷ []
object_facts object.Arming m k = timer_fact m k ∷ []

-- ---- the text of rows

abbrev pub thread_row_text : {P : Type 0} → List Decl → ThreadRow → Machine P → List ℕ
thread_row_text decls row m = texts_below (λ (t : ℕ). fact_text decls (thread_fact_of row m t)) (length m.threads)

abbrev pub threads_text : {P : Type 0} → List Decl → Machine P → List ℕ
threads_text decls m =
    thread_row_text decls thread.Status m
    ++ thread_row_text decls thread.Frames m
    ++ thread_row_text decls thread.Mask m
    ++ thread_row_text decls thread.Cancelability m
    ++ thread_row_text decls thread.Cleanups m
    ++ thread_row_text decls thread.Pending m

abbrev pub object_row_text : {P : Type 0} → List Decl → ObjectRow → Machine P → List ℕ
object_row_text decls row m = texts_below (λ (k : ℕ). facts_text decls (object_facts row m k)) (object_count row decls m)

abbrev pub objects_text : {P : Type 0} → List Decl → Machine P → List ℕ
objects_text decls m =
    object_row_text decls object.Owner m
    ++ object_row_text decls object.MutexWaiters m
    ++ object_row_text decls object.ConditionWaiters m
    ++ object_row_text decls object.SemaphoreWaiters m
    ++ object_row_text decls object.Value m
    ++ object_row_text decls object.Messages m
    ++ object_row_text decls object.QueueWaiters m
    ++ object_row_text decls object.Registration m
    ++ object_row_text decls object.Arming m

-- the lists of so many priorities, the greatest first
abbrev pub list_text : List Decl → ℕ → List (List ℕ) → ℕ → List ℕ
list_text decls most lists i = fact_text decls (on_list (most - i) (list_of (most - i) lists))

abbrev pub signals_text : {P : Type 0} → List Decl → Machine P → List ℕ
signals_text decls m = texts_below (λ (signal : ℕ). fact_text decls (signal_fact m signal)) (length m.actions)

abbrev pub numbers_text : {P : Type 0} → List Decl → Machine P → List ℕ
numbers_text decls m = texts_below (λ (t : ℕ). flat_map (number_text decls) (thread_numbers_told m t)) (length m.threads)

-- ---- the record that is left out

abbrev pub left_out_if : {P : Type 0} → Option ℕ → Machine P → Option ℕ
left_out_if None m = None
left_out_if (Some signal) m = option_map (λ (r : SignalRecord). r.serial) (ending_record m)

-- the serial of the record that ended the process, where one did
abbrev pub left_out : {P : Type 0} → Machine P → Option ℕ
left_out m = left_out_if m.killed m
