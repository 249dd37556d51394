-- Plain lists whose members are named by number. All of it is this project's own.
use Rattle.std.specs.Prelude.{Bool, List, None, Option, Some, [], false, length, max, true, ℕ, ◌+◌, ◌==◌, ◌∷◌, ◌++◌, if◌then◌else◌, slice_index_or, slice_set, take, drop}
use Rattle.std.specs.List.{range_with_len}

-- the list with one member changed; where there is no such member, the list as it is
abbrev pub changed_at : {X : Type 0} → X → ℕ → (X → X) → List X → List X
changed_at none n change xs = slice_set xs n (change (slice_index_or xs n none))

-- the list without one member
abbrev pub without_at : {X : Type 0} → ℕ → List X → List X
without_at n xs = take n xs ++ drop (n + 1) xs

-- the numbers of a list's members, rising
abbrev pub numbers : {X : Type 0} → List X → List ℕ
numbers xs = range_with_len 0 (length xs)

abbrev pub kept_if : Bool → ℕ → List ℕ → List ℕ
kept_if true n ns = n ∷ ns
kept_if false n ns = ns

-- the numbers of the members that pass, where the first has number n
abbrev pub numbers_from : {X : Type 0} → ℕ → (X → Bool) → List X → List ℕ
numbers_from n passes [] = []
numbers_from n passes (x ∷ xs) = kept_if (passes x) n (numbers_from (n + 1) passes xs)

-- the numbers of the members that pass, rising
abbrev pub numbers_where : {X : Type 0} → (X → Bool) → List X → List ℕ
numbers_where passes xs = numbers_from 0 passes xs

-- the greatest number of a list, 0 where it is empty
abbrev pub greatest : List ℕ → ℕ
greatest [] = 0
greatest (n ∷ ns) = max n (greatest ns)

-- of two members the one that stands before the other in an order, and of equals the first
abbrev pub first_of : {X : Type 0} → (X → X → Bool) → X → Option X → X
first_of is_before x None = x
first_of is_before x (Some y) = if is_before y x then y else x

-- the member that no other stands before; of equals the first
abbrev pub first_by : {X : Type 0} → (X → X → Bool) → List X → Option X
first_by is_before [] = None
first_by is_before (x ∷ xs) = Some (first_of is_before x (first_by is_before xs))

-- whether there is a number, and it is n
abbrev pub is : Option ℕ → ℕ → Bool
is None n = false
is (Some k) n = k == n
