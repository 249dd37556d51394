-- There are as many names of a kind as declarations of it.
use Rattle.std.proofs.Common.{◌≡◌, List, Option, [], ◌∷◌, ap, length, refl, suc, ℕ}
use Rattle.std.specs.List.{cons_option}
use Rattle.std.specs.Prelude.{filter_map}
use Rattle.words_script.specs.declared.decl.Decl.{Decl}
use Rattle.words_script.specs.declared.decl.Decl.TheVariants as decl
use Rattle.words_script.specs.declared.decl.Kind.{Kind}
use Rattle.words_script.specs.declared.decl.Kind.TheVariants as said
use Rattle.words_script.specs.declared.name_kind.NameKind.{NameKind}
use Rattle.words_script.specs.declared.name_kind.NameKind.TheVariants as kind
use Rattle.script_writer.specs.Names.{names_of, onto_names}
use Rattle.rules_machine.specs.Declarations.{declared_thread, mutex_kind, named, queue_kind, semaphore_kind, thread_kind, timer_kind}

-- a name more where there is one more
abbrev Matches : {X : Type 0} → NameKind → (List ℕ → Kind → Option X) → Type 0
Matches {X} wanted read =
    (name : List ℕ) (sort : Kind) (names : List (List ℕ)) (xs : List X) → length names ≡ length xs → length (onto_names wanted name sort names) ≡ length (cons_option (read name sort) xs)

thread_matches : Matches kind.Thread thread_kind
thread_matches name (said.Thread policy start body) names xs same = ap suc same
thread_matches name (said.Handler body) names xs same = same
thread_matches name (said.Cleanup body) names xs same = same
thread_matches name (said.Mutex protocol recursive) names xs same = same
thread_matches name said.Cond names xs same = same
thread_matches name (said.Sem value) names xs same = same
thread_matches name (said.Queue depth longest nonblock) names xs same = same
thread_matches name (said.Timer signal value real) names xs same = same

mutex_matches : Matches kind.Mutex (λ (name : List ℕ). mutex_kind)
mutex_matches name (said.Thread policy start body) names xs same = same
mutex_matches name (said.Handler body) names xs same = same
mutex_matches name (said.Cleanup body) names xs same = same
mutex_matches name (said.Mutex protocol recursive) names xs same = ap suc same
mutex_matches name said.Cond names xs same = same
mutex_matches name (said.Sem value) names xs same = same
mutex_matches name (said.Queue depth longest nonblock) names xs same = same
mutex_matches name (said.Timer signal value real) names xs same = same

semaphore_matches : Matches kind.Sem (λ (name : List ℕ). semaphore_kind)
semaphore_matches name (said.Thread policy start body) names xs same = same
semaphore_matches name (said.Handler body) names xs same = same
semaphore_matches name (said.Cleanup body) names xs same = same
semaphore_matches name (said.Mutex protocol recursive) names xs same = same
semaphore_matches name said.Cond names xs same = same
semaphore_matches name (said.Sem value) names xs same = ap suc same
semaphore_matches name (said.Queue depth longest nonblock) names xs same = same
semaphore_matches name (said.Timer signal value real) names xs same = same

queue_matches : Matches kind.Queue (λ (name : List ℕ). queue_kind)
queue_matches name (said.Thread policy start body) names xs same = same
queue_matches name (said.Handler body) names xs same = same
queue_matches name (said.Cleanup body) names xs same = same
queue_matches name (said.Mutex protocol recursive) names xs same = same
queue_matches name said.Cond names xs same = same
queue_matches name (said.Sem value) names xs same = same
queue_matches name (said.Queue depth longest nonblock) names xs same = ap suc same
queue_matches name (said.Timer signal value real) names xs same = same

timer_matches : Matches kind.Timer (λ (name : List ℕ). timer_kind)
timer_matches name (said.Thread policy start body) names xs same = same
timer_matches name (said.Handler body) names xs same = same
timer_matches name (said.Cleanup body) names xs same = same
timer_matches name (said.Mutex protocol recursive) names xs same = same
timer_matches name said.Cond names xs same = same
timer_matches name (said.Sem value) names xs same = same
timer_matches name (said.Queue depth longest nonblock) names xs same = same
timer_matches name (said.Timer signal value real) names xs same = ap suc same

pub threads_named : (ds : List Decl) → length (names_of kind.Thread ds) ≡ length (filter_map declared_thread ds)
threads_named [] = refl
threads_named (decl.Named name sort ∷ ds) = thread_matches name sort (names_of kind.Thread ds) (filter_map declared_thread ds) (threads_named ds)
threads_named (decl.Action signal handler ∷ ds) = threads_named ds

module _ {X : Type 0} (wanted : NameKind) (read : Kind → Option X) (matches : Matches wanted (λ (name : List ℕ). read)) where
  objects_named : (ds : List Decl) → length (names_of wanted ds) ≡ length (filter_map (named read) ds)
  objects_named [] = refl
  objects_named (decl.Named name sort ∷ ds) = matches name sort (names_of wanted ds) (filter_map (named read) ds) (objects_named ds)
  objects_named (decl.Action signal handler ∷ ds) = objects_named ds

pub mutexes_named : (ds : List Decl) → length (names_of kind.Mutex ds) ≡ length (filter_map (named mutex_kind) ds)
mutexes_named ds = objects_named kind.Mutex mutex_kind mutex_matches ds

pub semaphores_named : (ds : List Decl) → length (names_of kind.Sem ds) ≡ length (filter_map (named semaphore_kind) ds)
semaphores_named ds = objects_named kind.Sem semaphore_kind semaphore_matches ds

pub queues_named : (ds : List Decl) → length (names_of kind.Queue ds) ≡ length (filter_map (named queue_kind) ds)
queues_named ds = objects_named kind.Queue queue_kind queue_matches ds

pub timers_named : (ds : List Decl) → length (names_of kind.Timer ds) ≡ length (filter_map (named timer_kind) ds)
timers_named ds = objects_named kind.Timer timer_kind timer_matches ds
