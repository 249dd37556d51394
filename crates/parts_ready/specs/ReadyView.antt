-- What contracts see of a `Ready`, and how its bitmap and its head are tied to its lists.
use Rattle.std.specs.Prelude.{◌≡◌, ℕ, nat_lt, if◌then◌else◌, Option, Some, None, List, length, slice_index_or, []}
use Rattle.parts_ready.specs.Bits.{is_set, IsTop}
use Rattle.rules_lists.specs.Lists.{ReadyLists, AreReadyLists, highest}
use Rattle.parts_ready.specs.declared.Ready.TheInside.{Inside}

abbrev pub ready_lists : Inside → ReadyLists
ready_lists ready = record { threads = ready.threads; lists = ready.links.lists }

-- the bits of just those lists that are not empty are set
abbrev pub AreMarked : List (List ℕ) → List ℕ → Type 0
AreMarked lists words = (i : ℕ) → is_set i words ≡ nat_lt 0 (length (slice_index_or lists i []))

-- the thread of that number; none from 256 on
abbrev pub named : ℕ → Option ℕ
named n = if nat_lt n 256 then Some n else None

-- the lists are in order and marked, the head is the highest list's, and the top is that list's priority
pub record IsReady (ready : Inside) : Type 0 where
  pub lists : AreReadyLists (ready_lists ready)
  pub nodes : ready.links.nodes ≡ 256
  pub marked : AreMarked ready.links.lists ready.occupied.words
  pub head : named ready.head ≡ highest ready.links.lists
  pub top : IsTop ready.top ready.occupied.words
