-- What makes the texts of facts short: names of at most 32 bytes, and lists that are not long. This project's own.
use Rattle.std.specs.Prelude.{List, length, ℕ, ◌<◌, ◌≤◌, ◌^◌}
use Rattle.std.specs.List.{AllByRecursion}
use Rattle.words_script.specs.declared.decl.Decl.{Decl}
use Rattle.words_script.specs.declared.name_kind.NameKind.{NameKind}
use Rattle.script_writer.specs.Names.{name_of}
use Rattle.rules_lists.specs.Lists.{AreReadyLists}
use Rattle.rules_machine.specs.State.{Machine, Thread}
use Rattle.rules_machine.specs.Threads.{queue_at, thread_at}
use Rattle.rules_facts.specs.Fact.{Fact, inner_frames, messages_of, on_list, pending_signals, pushed_cleanups, receivers_of, replenishments, senders_of, waiters_of}
use Rattle.rules_facts.specs.Threads.{planned}

pub record NamesAreShort (decls : List Decl) : Type 0 where
  pub each : (of : NameKind) (k : ℕ) → length (name_of decls of k) ≤ 32

-- a number of 64 bits
abbrev pub IsNumber : ℕ → Type 0
IsNumber n = n < 2 ^ 64

-- how many threads, frames, handlers, replenishments, messages or records a fact tells of
abbrev pub members_in : Fact → ℕ
members_in (on_list p threads) = length threads
members_in (inner_frames t bodies) = length bodies
members_in (pushed_cleanups t handlers) = length handlers
members_in (replenishments t plans) = length plans
members_in (waiters_of sort k threads) = length threads
members_in (messages_of q messages) = length messages
members_in (senders_of q threads) = length threads
members_in (receivers_of q threads) = length threads
members_in (pending_signals signal records) = length records
members_in other = 0

-- the number in the subject of a list or of a signal
abbrev pub number_in : Fact → ℕ
number_in (on_list p threads) = p
number_in (pending_signals signal records) = signal
number_in other = 0

-- a subject with a number of 64 bits, of which at most so many members are told
pub record IsModest (most : ℕ) (f : Fact) : Type 0 where
  pub number : IsNumber (number_in f)
  pub few : members_in f ≤ most

abbrev pub AreModest : ℕ → List Fact → Type 0
AreModest most facts = AllByRecursion (IsModest most) facts

-- ---- states

pub record IsModestThread {P : Type 0} (most : ℕ) (th : Thread P) : Type 0 where
  pub frames : length th.frames ≤ most
  pub cleanups : length th.cleanups ≤ most
  pub pending : length (planned th.server) ≤ most

-- A state with at most so many threads, frames, handlers, replenishments, messages and records each.
pub record IsModestState {P : Type 0} (most : ℕ) (m : Machine P) : Type 0 where
  pub few : length m.threads ≤ most
  pub lists : AreReadyLists (record { threads = length m.threads; lists = m.lists })
  pub threads : (t : ℕ) → t < length m.threads → IsModestThread most (thread_at m t)
  pub messages : (q : ℕ) → q < length m.queues → length (queue_at m q).messages ≤ most
  pub signals : length m.actions ≤ 32
  pub pending : length m.pending ≤ most

-- What a kernel's parts have room for: each thread stands on one list, has few frames, handlers and replenishments, each queue has at
-- most as many messages as it is deep, and few records are pending.
pub record HasFewMembers {P : Type 0} (m : Machine P) : Type 0 where
  pub lists : AreReadyLists (record { threads = length m.threads; lists = m.lists })
  pub threads : (t : ℕ) → t < length m.threads → IsModestThread 112 (thread_at m t)
  pub messages : (q : ℕ) → q < length m.queues → length (queue_at m q).messages ≤ (queue_at m q).depth
  pub pending : length m.pending ≤ 112
