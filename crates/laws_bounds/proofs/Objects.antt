-- The names of a text that is read have numbers below how many things of their kinds the script declares, and of those there are few.
use Rattle.std.proofs.Common.{ℕ, suc, ◌≡◌, ◌≤◌, List, [], ◌∷◌, refl, ap, length, arith}
use Rattle.std.specs.Prelude.{filter_map}
use Rattle.words_script.specs.declared.decl.Decl.{Decl}
use Rattle.words_script.specs.declared.decl.Decl.TheVariants.{Named, Action}
use Rattle.words_script.specs.declared.decl.Kind.TheVariants as kinds
use Rattle.words_script.specs.declared.decl.Script.{Script}
use Rattle.words_script.specs.declared.name_kind.NameKind.{NameKind}
use Rattle.script_table.specs.Names.{Entry}
use Rattle.words_script.specs.declared.name_kind.NameKind.TheVariants as name_kind
use Rattle.script_writer.specs.Names.{names_of}
use Rattle.rules_machine.specs.Declarations.{declared_thread, named, handler_kind, cleanup_kind, mutex_kind, semaphore_kind, queue_kind, timer_kind}
use Rattle.rules_flat_code.specs.KnownCalls.{objects_of}
use Rattle.laws_canonical_text.proofs.Known.{AllKnown}
use Rattle.laws_canonical_text.proofs.Numbers.{is_declared, length-names, most_of}
use Rattle.laws_bounds.proofs.Calls.{objects_by}
use Rattle.laws_bounds.proofs.Operands.{AllBelow}

-- how many names of a kind are declared
abbrev pub declared_count : List Decl → NameKind → ℕ
declared_count decls kind = length (names_of kind decls)

pub all_below : (es : List Entry) (decls : List Decl) → AllKnown es decls → AllBelow (declared_count decls) es
all_below es decls known name e found = is_declared es decls known.numbered known.names name e found

-- no more of a kind are declared than there may be
pub declared_few : (es : List Entry) (decls : List Decl) → AllKnown es decls → (kind : NameKind) → declared_count decls kind ≤ most_of kind
declared_few es decls known kind =
    let few = known.few kind in
    let many = length-names es kind in
    rw (known.names kind) (omega (arith, few, many))

threads : (decls : List Decl) → length (names_of name_kind.Thread decls) ≡ length (filter_map declared_thread decls)
threads [] = refl
threads (Named name (kinds.Thread policy start steps) ∷ decls) = ap suc (threads decls)
threads (Named name other ∷ decls) = threads decls
threads (Action sig handler ∷ decls) = threads decls

pub handlers : (decls : List Decl) → length (names_of name_kind.Handler decls) ≡ length (filter_map (named handler_kind) decls)
handlers [] = refl
handlers (Named name (kinds.Handler steps) ∷ decls) = ap suc (handlers decls)
handlers (Named name other ∷ decls) = handlers decls
handlers (Action sig handler ∷ decls) = handlers decls

cleanups : (decls : List Decl) → length (names_of name_kind.Cleanup decls) ≡ length (filter_map (named cleanup_kind) decls)
cleanups [] = refl
cleanups (Named name (kinds.Cleanup steps) ∷ decls) = ap suc (cleanups decls)
cleanups (Named name other ∷ decls) = cleanups decls
cleanups (Action sig handler ∷ decls) = cleanups decls

mutexes : (decls : List Decl) → length (names_of name_kind.Mutex decls) ≡ length (filter_map (named mutex_kind) decls)
mutexes [] = refl
mutexes (Named name (kinds.Mutex protocol recursive) ∷ decls) = ap suc (mutexes decls)
mutexes (Named name other ∷ decls) = mutexes decls
mutexes (Action sig handler ∷ decls) = mutexes decls

semaphores : (decls : List Decl) → length (names_of name_kind.Sem decls) ≡ length (filter_map (named semaphore_kind) decls)
semaphores [] = refl
semaphores (Named name (kinds.Sem value) ∷ decls) = ap suc (semaphores decls)
semaphores (Named name other ∷ decls) = semaphores decls
semaphores (Action sig handler ∷ decls) = semaphores decls

pub queues : (decls : List Decl) → length (names_of name_kind.Queue decls) ≡ length (filter_map (named queue_kind) decls)
queues [] = refl
queues (Named name (kinds.Queue depth longest nonblock) ∷ decls) = ap suc (queues decls)
queues (Named name other ∷ decls) = queues decls
queues (Action sig handler ∷ decls) = queues decls

pub timers : (decls : List Decl) → length (names_of name_kind.Timer decls) ≡ length (filter_map (named timer_kind) decls)
timers [] = refl
timers (Named name (kinds.Timer sig value real) ∷ decls) = ap suc (timers decls)
timers (Named name other ∷ decls) = timers decls
timers (Action sig handler ∷ decls) = timers decls

-- the objects of a script, by its names
pub objects_same : (script : Script) → objects_by (declared_count script.decls) ≡ objects_of script
objects_same script = rw (threads script.decls, cleanups script.decls, mutexes script.decls, semaphores script.decls, queues script.decls, timers script.decls) refl
