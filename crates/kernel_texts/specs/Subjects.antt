-- The texts of the subjects of facts, one for each fact, row by row. The form is this project's own.
use Rattle.std.specs.Prelude.{List, [], codes, decimal, length, map, ℕ, ◌-◌, ◌<◌, ◌∷◌, ◌++◌, ◌≡◌}
use Rattle.std.specs.List.{AllByRecursion}
use Rattle.words_script.specs.declared.decl.Decl.{Decl}
use Rattle.words_script.specs.declared.decl.Script.{Script}
use Rattle.words_script.specs.declared.name_kind.NameKind.{NameKind}
use Rattle.words_script.specs.declared.name_kind.NameKind.TheVariants as kind
use Rattle.script_lex.specs.Joined.{joined_words}
use Rattle.script_writer.specs.Names.{name_of, names_of}
use Rattle.words_numbers.specs.Words.{signal_word}
use Rattle.rules_machine.specs.State.{Machine}
use Rattle.rules_facts.specs.Fact.{Fact}
use Rattle.kernel_texts.specs.Changed.{subject_text}
use Rattle.kernel_texts.specs.Kept.{kept_below}
use Rattle.kernel_texts.specs.Rooms.{facts_told}

-- the text of the subject of each fact
abbrev pub subjects_of : List Decl → List Fact → List (List ℕ)
subjects_of decls facts = map (subject_text decls) facts

-- the text of a keyword and one word more
abbrev pub about : List ℕ → List ℕ → List ℕ
about keyword word = joined_words (keyword ∷ word ∷ [])

-- the lists, that of the greatest priority first
abbrev pub list_subjects : List (List ℕ)
list_subjects = kept_below (λ (i : ℕ). about (codes "list") (decimal (255 - i)) ∷ []) 255

-- so many of a kind, by their names
abbrev pub named_row : List Decl → List ℕ → NameKind → ℕ → List (List ℕ)
named_row decls keyword of count = kept_below (λ (k : ℕ). about keyword (name_of decls of k) ∷ []) count

abbrev pub thread_subjects : List Decl → ℕ → List (List ℕ)
thread_subjects decls count =
    named_row decls (codes "thread") kind.Thread count
    ++ named_row decls (codes "frames") kind.Thread count
    ++ named_row decls (codes "mask") kind.Thread count
    ++ named_row decls (codes "cancelability") kind.Thread count
    ++ named_row decls (codes "cleanups") kind.Thread count
    ++ named_row decls (codes "pending") kind.Thread count

-- of each queue who waits to send to it, and who waits for a message of it
abbrev pub queue_subjects : List Decl → ℕ → List (List ℕ)
queue_subjects decls count =
    kept_below (λ (q : ℕ). about (codes "senders") (name_of decls kind.Queue q) ∷ [] ++ about (codes "receivers") (name_of decls kind.Queue q) ∷ []) count

-- of mutexes, conditions and semaphores
abbrev pub lock_subjects : {P : Type 0} → List Decl → Machine P → List (List ℕ)
lock_subjects decls m =
    named_row decls (codes "mutex") kind.Mutex (length m.mutexes)
    ++ named_row decls (codes "waiters") kind.Mutex (length m.mutexes)
    ++ named_row decls (codes "waiters") kind.Cond (length (names_of kind.Cond decls))
    ++ named_row decls (codes "waiters") kind.Sem (length m.semaphores)
    ++ named_row decls (codes "sem") kind.Sem (length m.semaphores)

abbrev pub object_subjects : {P : Type 0} → List Decl → Machine P → List (List ℕ)
object_subjects decls m =
    lock_subjects decls m
    ++ named_row decls (codes "messages") kind.Queue (length m.queues)
    ++ queue_subjects decls (length m.queues)
    ++ named_row decls (codes "notify") kind.Queue (length m.queues)
    ++ named_row decls (codes "timer") kind.Timer (length m.timers)

-- so many signals
abbrev pub signal_subjects : ℕ → List (List ℕ)
signal_subjects count = kept_below (λ (signal : ℕ). about (codes "signal") (signal_word signal) ∷ []) count

-- there is a subject for each fact, with fewer bytes than the room for one
pub record AreSubjects (script : Script) (one : ℕ) (subjects : List (List ℕ)) : Type 0 where
  pub number : length subjects ≡ facts_told script
  pub short : AllByRecursion (λ (text : List ℕ). length text < one) subjects
