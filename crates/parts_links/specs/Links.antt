-- What a contract sees of lists that share nodes, and when a block holds them.
use Rattle.std.specs.Prelude.{◌≡◌, ◌≢◌, ◌==◌, if◌then◌else◌, ℕ, zero, suc, ◌+◌, ◌<◌, Bool, true, false, List, [], ◌∷◌, ◌++◌, length, get_or, Option, None, refl, nat_lt, slice_get}
use Rattle.std.specs.Coded.{Coded, code_by, coded×, coded_list, coded_ℕ}
use Rattle.parts_links.specs.Rings.{Rings}

-- the number of nodes, and the lists, each a list of nodes
pub record Lists : Type 0 where
  pub nodes : ℕ
  pub lists : List (List ℕ)

abbrev pub lists_code : Coded Lists
lists_code = code_by (ℕ × List (List ℕ)) (coded× coded_ℕ (coded_list (coded_list coded_ℕ))) (λ l. (l.nodes, l.lists)) (λ p. record { nodes = p.0; lists = p.1 }) (λ _. refl)

-- the k-th list
abbrev pub list_at : List (List ℕ) → ℕ → List ℕ
list_at ls k = get_or ls k []

abbrev pub stands_in : ℕ → List ℕ → Bool
stands_in n [] = false
stands_in n (x ∷ xs) = if x == n then true else stands_in n xs

-- whether n stands on the k-th list
abbrev pub stands_at : ℕ → ℕ → List (List ℕ) → Bool
stands_at n k ls = stands_in n (list_at ls k)

abbrev pub on_a_list : ℕ → List (List ℕ) → Bool
on_a_list n [] = false
on_a_list n (xs ∷ ls) = if stands_in n xs then true else on_a_list n ls

-- the list without n
abbrev pub without : ℕ → List ℕ → List ℕ
without n [] = []
without n (x ∷ xs) = if x == n then xs else x ∷ without n xs

-- where n stood on a list, every other list is as it was
abbrev pub OthersStay : ℕ → List (List ℕ) → List (List ℕ) → Type 0
OthersStay n old new = (j k : ℕ) → stands_at n j old ≡ true → k ≢ j → list_at new k ≡ list_at old k

-- the list with n before at, if that stands in it
abbrev pub placed_before : ℕ → ℕ → List ℕ → List ℕ
placed_before at n [] = []
placed_before at n (x ∷ xs) = if x == at then n ∷ x ∷ xs else x ∷ placed_before at n xs

-- the list with n before at, or at the end if at does not stand in it
abbrev pub placed : ℕ → ℕ → List ℕ → List ℕ
placed at n [] = n ∷ []
placed at n (x ∷ xs) = if x == at then n ∷ x ∷ xs else x ∷ placed at n xs

-- what stands after n
abbrev pub follower : ℕ → List ℕ → Option ℕ
follower n [] = None
follower n (x ∷ xs) = if x == n then slice_get xs 0 else follower n xs

abbrev pub follower_on : ℕ → List (List ℕ) → Option ℕ
follower_on n [] = None
follower_on n (xs ∷ ls) = if stands_in n xs then follower n xs else follower_on n ls

-- n is none of these
abbrev pub IsApart : ℕ → List ℕ → Type 0
IsApart n [] = Unit {0}
IsApart n (x ∷ xs) = (n ≢ x) × IsApart n xs

abbrev pub AreDistinct : List ℕ → Type 0
AreDistinct [] = Unit {0}
AreDistinct (x ∷ xs) = IsApart x xs × AreDistinct xs

-- b stands after a, and a before b
abbrev pub Edge : List ℕ → List ℕ → ℕ → ℕ → Type 0
Edge after before a b = (get_or after a 0 ≡ b) × (get_or before b 0 ≡ a)

-- from a on stand these
abbrev pub Chain : List ℕ → List ℕ → ℕ → List ℕ → Type 0
Chain after before a [] = Unit {0}
Chain after before a (x ∷ xs) = Edge after before a x × Chain after before x xs

-- these nodes are marked as the k-th list's
abbrev pub AreMarked : ℕ → List ℕ → ℕ → List ℕ → Type 0
AreMarked nodes marks k [] = Unit {0}
AreMarked nodes marks k (x ∷ xs) = (x < nodes) × (get_or marks x 0 ≡ suc k) × AreMarked nodes marks k xs

-- the ring of the k-th list goes through its nodes, and its end is the cell nodes + k
pub record IsRing (nodes k : ℕ) (r : Rings) (xs : List ℕ) : Type 0 where
  pub chain : Chain r.after r.before (nodes + k) (xs ++ (nodes + k) ∷ [])
  pub distinct : AreDistinct xs
  pub marked : AreMarked nodes r.list k xs

pub record AreLinked (nodes count : ℕ) (r : Rings) (ls : List (List ℕ)) : Type 0 where
  pub afters : length r.after ≡ nodes + count
  pub befores : length r.before ≡ nodes + count
  pub marks : length r.list ≡ nodes + count
  pub counted : length ls ≡ count
  pub ring : (k : ℕ) → k < count → IsRing nodes k r (list_at ls k)
  pub found : (n k : ℕ) → n < nodes → get_or r.list n 0 ≡ suc k → (k < count) × (stands_in n (list_at ls k) ≡ true)

-- at most fuel nodes, from n on, until the first number that is no node
abbrev pub read_from : Rings → ℕ → ℕ → ℕ → List ℕ
read_from r nodes zero n = []
read_from r nodes (suc fuel) n = if nat_lt n nodes then n ∷ read_from r nodes fuel (get_or r.after n 0) else []

abbrev pub read_lists : Rings → ℕ → ℕ → ℕ → List (List ℕ)
read_lists r nodes k zero = []
read_lists r nodes k (suc n) = read_from r nodes nodes (get_or r.after (nodes + k) 0) ∷ read_lists r nodes (suc k) n

-- a node stands at most once in all the lists
pub record StandOnce (l : Lists) : Type 0 where
  pub distinct : (k : ℕ) → k < length l.lists → AreDistinct (list_at l.lists k)
  pub one_list : (n j k : ℕ) → j < length l.lists → k < length l.lists → stands_in n (list_at l.lists j) ≡ true → stands_in n (list_at l.lists k) ≡ true → j ≡ k
  pub small : (n k : ℕ) → k < length l.lists → stands_in n (list_at l.lists k) ≡ true → n < l.nodes
