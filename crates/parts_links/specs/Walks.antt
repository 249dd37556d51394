-- What a walk along one list by `front` and `next` still has before it.
use Rattle.std.specs.Prelude.{◌==◌, if◌then◌else◌, ℕ, List, [], ◌∷◌, Option, Some, None}

-- the list from n on
abbrev pub since : ℕ → List ℕ → List ℕ
since n [] = []
since n (x ∷ xs) = if x == n then x ∷ xs else since n xs

-- the list from the node on at which the walk stands; nothing at its end
abbrev pub rest_of : Option ℕ → List ℕ → List ℕ
rest_of None xs = []
rest_of (Some n) xs = since n xs
