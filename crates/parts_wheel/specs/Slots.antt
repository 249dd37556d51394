-- Due ticks in the slots of a wheel that stands at a base: which item stands where (this project's own).
use Rattle.std.specs.Prelude.{◌≡◌, ◌≢◌, ◌⊎◌, ◌==◌, if◌then◌else◌, ℕ, ◌+◌, ◌-◌, ◌*◌, ◌/◌, ◌%◌, ◌^◌, ◌<◌, ◌≤◌, min, true, nat_lt, List, Option, None, Some, is_some, length, IfSome, MatchOption}
use Rattle.parts_links.specs.Links.{list_at, stands_in, stands_at}
use Rattle.parts_wheel.specs.Places.{place, list_of}
use Rattle.parts_wheel.specs.Bits.{is_set}
use Rattle.parts_wheel.specs.Dues.{due_of}

-- the due ticks, and the tick at which the wheel stands
pub record Placed : Type 0 where
  pub dues : List (Option ℕ)
  pub base : ℕ

-- the list of a due tick: in the block of the base one of 2,048, each for one tick, else by the place of its block one of 256 for each of seven levels
abbrev pub list_for : ℕ → ℕ → ℕ
list_for base due = if due / 2048 == base / 2048 then due % 2048 else 2048 + list_of (place 7 (base / 2048) (due / 2048))

-- the bits of just the lists that are not empty are set
abbrev pub AreMarked : List (List ℕ) → List ℕ → Type 0
AreMarked lists occupied = (k : ℕ) → is_set k occupied ≡ nat_lt 0 (length (list_at lists k))

-- an item that is due after the base stands in the list of its due tick, one that has passed in the set of those
pub record AreFiled (base : ℕ) (dues : List (Option ℕ)) (lists : List (List ℕ)) (passed : List ℕ) : Type 0 where
  pub later : (i d : ℕ) → due_of i dues ≡ Some d → base < d → stands_at i (list_for base d) lists ≡ true
  pub gone : (i d : ℕ) → due_of i dues ≡ Some d → d ≤ base → is_set i passed ≡ true
  pub only_later : (i k : ℕ) → stands_at i k lists ≡ true → (d : ℕ) × (due_of i dues ≡ Some d) × (base < d) × (k ≡ list_for base d)
  pub only_gone : (i : ℕ) → is_set i passed ≡ true → (d : ℕ) × (due_of i dues ≡ Some d) × (d ≤ base)

-- no item that is due after the base is due before this tick, and one is due then, or none at all
pub record IsLeastLater (base : ℕ) (dues : List (Option ℕ)) (tick : ℕ) : Type 0 where
  pub least : (i d : ℕ) → due_of i dues ≡ Some d → base < d → tick ≤ d
  pub holds : (tick ≡ 2 ^ 64 - 1) ⊎ ((i : ℕ) × (due_of i dues ≡ Some tick) × (base < tick))

abbrev pub AreSmall : List (Option ℕ) → Type 0
AreSmall dues = (i d : ℕ) → due_of i dues ≡ Some d → d ≤ 3 * 10 ^ 18

-- no item of the list is due before this tick, and one is due then, or none at all
pub record IsLeastOf (dues : List (Option ℕ)) (items : List ℕ) (tick : ℕ) : Type 0 where
  pub least : (i d : ℕ) → stands_in i items ≡ true → due_of i dues ≡ Some d → tick ≤ d
  pub holds : (tick ≡ 2 ^ 64 - 1) ⊎ ((i : ℕ) × (stands_in i items ≡ true) × (due_of i dues ≡ Some tick))

-- nothing is due before that tick
abbrev pub IsEarly : List (Option ℕ) → ℕ → Type 0
IsEarly dues tick = (i d : ℕ) → due_of i dues ≡ Some d → tick ≤ d

-- where an item is named, it is due then, and none with a lower number is
abbrev pub IsFirstAt : List (Option ℕ) → ℕ → Option ℕ → Type 0
IsFirstAt dues tick first = IfSome first (λ n. (due_of n dues ≡ Some tick) × ((i : ℕ) → due_of i dues ≡ Some tick → n ≤ i))

-- where an item is named, it alone of the list is due then
abbrev pub IsLoneOf : List (Option ℕ) → List ℕ → ℕ → Option ℕ → Type 0
IsLoneOf dues items tick lone = IfSome lone (λ n. (stands_in n items ≡ true) × (due_of n dues ≡ Some tick) × ((i : ℕ) → stands_in i items ≡ true → due_of i dues ≡ Some tick → i ≡ n))

-- the node stands in the list, and none with a lower number does
pub record IsLeastNode (items : List ℕ) (n : ℕ) : Type 0 where
  pub stands : stands_in n items ≡ true
  pub least : (i : ℕ) → stands_in i items ≡ true → n ≤ i

-- the least tick, and the item that alone is due then, once an item is added to those before
abbrev pub IsSooner : ℕ → Option ℕ → ℕ → Option ℕ → ℕ → Option ℕ → Type 0
IsSooner tick lone node due now sole = MatchOption due ((now ≡ tick) × (sole ≡ lone))
    (λ d. ((d < tick) × (now ≡ d) × (sole ≡ Some node)) ⊎ (((d ≡ tick) × (now ≡ tick) × (sole ≡ None)) ⊎ ((tick < d) × (now ≡ tick) × (sole ≡ lone))))

-- which item is first once one more falls due: that one, where it is due before the others; the lower of the two, where it is due with one
-- that is known; else the one that was
abbrev pub IsFirstWith : ℕ → Option ℕ → ℕ → ℕ → Option ℕ → Type 0
IsFirstWith early first id tick now = ((tick < early) × (now ≡ Some id))
    ⊎ (((tick ≡ early) × ((f : ℕ) × (first ≡ Some f) × (now ≡ Some (min f id)))) ⊎ ((early ≤ tick) × (now ≡ first) × (is_some first ≡ true → tick ≢ early)))

-- the least later due tick, a tick before which nothing is due, and the item of the least number that is due at both, where it is known
pub record IsFront (slots : Placed) (least early : ℕ) (first : Option ℕ) : Type 0 where
  pub later : IsLeastLater slots.base slots.dues least
  pub none_before : IsEarly slots.dues early
  pub lowest : IsFirstAt slots.dues least first
  pub at_once : IfSome first (λ _. early ≡ least)

-- what a wheel keeps beside its slots
pub record IsCached (slots : Placed) (least early : ℕ) (first : Option ℕ) (last : ℕ) : Type 0 where
  pub front : IsFront slots least early first
  pub behind : slots.base ≤ last
  pub small : AreSmall slots.dues
