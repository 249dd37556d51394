-- What a call does to the lists of a wheel and to the set of passed items (this project's own).
use Rattle.std.specs.Prelude.{◌≡◌, ◌≢◌, ◌⊎◌, ℕ, ◌<◌, ◌≤◌, true, false, List, [], ◌∷◌, ◌++◌, length, map, slice_set, Option, Some}
use Rattle.parts_links.specs.Links.{Lists, list_at, on_a_list, without, stands_at}
use Rattle.parts_wheel.specs.Bits.{is_set, ChangesBit}
use Rattle.parts_wheel.specs.Dues.{due_of}
use Rattle.parts_wheel.specs.Slots.{list_for}

-- 1,024 nodes, 2,048 lists of the lowest level and 256 of each of seven above it, and a bit for each list
pub record IsSized (links : Lists) (occupied : List ℕ) : Type 0 where
  pub nodes : links.nodes ≡ 1024
  pub lists : length links.lists ≡ 3840
  pub words : length occupied ≡ 60

-- the node alone is gone from its list
pub record IsTaken (node : ℕ) (old new : List (List ℕ)) : Type 0 where
  pub gone : on_a_list node new ≡ false
  pub lists : new ≡ map (without node) old
  pub others : (j k : ℕ) → stands_at node j old ≡ true → k ≢ j → list_at new k ≡ list_at old k

abbrev pub with_last : ℕ → ℕ → List (List ℕ) → List (List ℕ)
with_last k node lists = slice_set lists k (list_at lists k ++ node ∷ [])

-- the node has become the last of the list of its due tick, or one of the set where that tick has passed
pub record IsFiled (base node due : ℕ) (old new : List (List ℕ)) (passed now : List ℕ) : Type 0 where
  pub gone : due ≤ base → (new ≡ old) × ChangesBit node true passed now
  pub later : base < due → (new ≡ with_last (list_for base due) node old) × (now ≡ passed)

abbrev pub AreEmptyBelow : ℕ → List (List ℕ) → Type 0
AreEmptyBelow target lists = (k : ℕ) → k < target → list_at lists k ≡ []

-- of the bits of the lists that of the one that took the node is set, and all others are as before
pub record IsNoted (base due : ℕ) (old now : List ℕ) : Type 0 where
  pub gone : due ≤ base → now ≡ old
  pub later : base < due → ChangesBit (list_for base due) true old now

abbrev pub IsDue : List (Option ℕ) → ℕ → ℕ → Type 0
IsDue dues i d = due_of i dues ≡ Some d

-- the node has left its list, and has been filed anew
abbrev pub IsMoved : ℕ → ℕ → ℕ → List (List ℕ) → List (List ℕ) → List ℕ → List ℕ → Type 0
IsMoved to node d old new passed now = (mid : List (List ℕ)) × IsTaken node old mid × IsFiled to node d mid new passed now

-- each node of the target list is armed, and is filed elsewhere
abbrev pub AreToRefile : ℕ → ℕ → List (Option ℕ) → List (List ℕ) → Type 0
AreToRefile target to dues lists = (i : ℕ) → stands_at i target lists ≡ true → (d : ℕ) × IsDue dues i d × (to < d → list_for to d ≢ target)

-- some nodes of one list have been filed anew, as the wheel stands at `to`, and all else stands as before
pub record AreRefiling (target to : ℕ) (dues : List (Option ℕ)) (old new : List (List ℕ)) (passed now : List ℕ) : Type 0 where
  pub kept : (i k : ℕ) → k ≢ target → stands_at i k old ≡ true → stands_at i k new ≡ true
  pub within : (i : ℕ) → stands_at i target new ≡ true → stands_at i target old ≡ true
  pub gone : (i d : ℕ) → stands_at i target old ≡ true → IsDue dues i d → d ≤ to → (stands_at i target new ≡ true) ⊎ (is_set i now ≡ true)
  pub later : (i d : ℕ) → stands_at i target old ≡ true → IsDue dues i d → to < d → (stands_at i target new ≡ true) ⊎ (stands_at i (list_for to d) new ≡ true)
  pub stays : (i : ℕ) → is_set i passed ≡ true → is_set i now ≡ true
  pub only_later : (i k : ℕ) → stands_at i k new ≡ true → (stands_at i k old ≡ true) ⊎ ((stands_at i target old ≡ true) × ((d : ℕ) × IsDue dues i d × (to < d) × (k ≡ list_for to d)))
  pub only_gone : (i : ℕ) → is_set i now ≡ true → (is_set i passed ≡ true) ⊎ ((stands_at i target old ≡ true) × ((d : ℕ) × IsDue dues i d × (d ≤ to)))
