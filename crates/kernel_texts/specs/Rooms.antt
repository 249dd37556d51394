-- How large the rooms for the texts of a state's facts are. This project's own.
use Rattle.std.specs.Prelude.{List, [], false, length, max, ℕ, ◌+◌, ◌*◌, ◌∷◌, ◌≤◌, ◌≡◌}
use Rattle.words_script.specs.declared.decl.Decl.{Decl}
use Rattle.words_script.specs.declared.decl.Decl.TheVariants as decl
use Rattle.words_script.specs.declared.decl.Kind.{Kind}
use Rattle.words_script.specs.declared.decl.Kind.TheVariants as said
use Rattle.words_script.specs.declared.decl.Script.{Script}
use Rattle.words_script.specs.declared.name_kind.NameKind.TheVariants as kind
use Rattle.script_writer.specs.Names.{names_of}
use Rattle.parts_texts.specs.Texts.{Told}
use Rattle.rules_machine.specs.Declarations.{mutexes_of, queues_of, semaphores_of, threads_of, timers_of}
use Rattle.rules_machine.specs.State.{Machine}
use Rattle.rules_machine.specs.Threads.{queue_at}
use Rattle.kernel_texts.specs.Short.{longest_text}
use Rattle.kernel_texts.specs.declared.rooms.Rooms.{Rooms}

-- how many facts are told of a state: of each list and signal one, of each thread six, of each queue four
abbrev pub fact_count : {P : Type 0} → Script → Machine P → ℕ
fact_count script m =
    length m.lists + 6 * length m.threads + 2 * length m.mutexes + length (names_of kind.Cond script.decls) + 2 * length m.semaphores + 4 * length m.queues + length m.timers + length m.actions

-- nothing was put in so far, and there is room for so many texts, each as long as the room for one
pub record IsRoomy (one count : ℕ) (t : Told) : Type 0 where
  pub fresh : t.is_full ≡ false
  pub empty : t.texts ≡ []
  pub number : count ≤ t.most
  pub bytes : count * one ≤ t.room

-- ---- the rooms of a script's run

-- how many facts are told at each instant: of the 255 lists, of the 32 signals, and of the threads and objects
abbrev pub facts_told : Script → ℕ
facts_told script =
    287 + 6 * length (threads_of script) + 2 * length (mutexes_of script) + length (names_of kind.Cond script.decls) + 2 * length (semaphores_of script) + 4 * length (queues_of script)
    + length (timers_of script)

abbrev pub depth_in : Kind → ℕ
depth_in (said.Queue depth longest nonblock) = depth
depth_in other = 0

abbrev pub depth_of : Decl → ℕ
depth_of (decl.Named name sort) = depth_in sort
depth_of (decl.Action signal handler) = 0

-- the greatest depth of a queue
abbrev pub deepest : List Decl → ℕ
deepest [] = 0
deepest (d ∷ decls) = max (depth_of d) (deepest decls)

-- A fact tells of at most so many threads, frames, handlers, replenishments, messages and records: at most 112 records are pending.
abbrev pub members_told : Script → ℕ
members_told script = 112 + length (threads_of script) + deepest script.decls

-- at most 256 threads, and objects of each kind
pub record HasFewOfEach (script : Script) : Type 0 where
  pub threads : length (threads_of script) ≤ 256
  pub mutexes : length (mutexes_of script) ≤ 256
  pub conditions : length (names_of kind.Cond script.decls) ≤ 256
  pub semaphores : length (semaphores_of script) ≤ 256
  pub queues : length (queues_of script) ≤ 256
  pub timers : length (timers_of script) ≤ 256

-- how many texts there are, the bytes of all, and those of one
pub record AreRooms (script : Script) (rooms : Rooms) : Type 0 where
  pub most : rooms.most ≡ facts_told script
  pub longest : rooms.longest ≡ longest_text (members_told script)
  pub room : rooms.room ≡ facts_told script * longest_text (members_told script)

-- a state with the threads and objects of the script, and queues that are no deeper than it says
pub record HasObjectsOf {P : Type 0} (script : Script) (m : Machine P) : Type 0 where
  pub threads : length m.threads ≡ length (threads_of script)
  pub mutexes : length m.mutexes ≡ length (mutexes_of script)
  pub semaphores : length m.semaphores ≡ length (semaphores_of script)
  pub queues : length m.queues ≡ length (queues_of script)
  pub timers : length m.timers ≡ length (timers_of script)
  pub depths : (q : ℕ) → (queue_at m q).depth ≤ deepest script.decls

-- No text was without room so far, and the rooms of a list of texts, and that of one text, are as large as the facts of the script's run
-- need.
pub record HasRooms (script : Script) (one : ℕ) (t : Told) : Type 0 where
  pub fresh : t.is_full ≡ false
  pub long : longest_text (members_told script) ≤ one
  pub number : facts_told script ≤ t.most
  pub bytes : facts_told script * one ≤ t.room

-- no text, in these rooms
abbrev pub no_text : Rooms → Told
no_text rooms = record { texts = []; room = rooms.room; most = rooms.most; is_full = false }
