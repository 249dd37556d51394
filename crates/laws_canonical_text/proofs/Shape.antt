-- The words of a line, one for each place of its pattern.
use Rattle.std.proofs.Common.{◌≡◌, ℕ, List, [], ◌∷◌, refl, ap, true, false}
use Rattle.script_lex.proofs.Rejoined.{both}
use Rattle.script_table.specs.Patterns.{Spot}
use Rattle.script_table.specs.LineFaults.{stands, fits}

abbrev pub first : List (List ℕ) → List ℕ
first [] = []
first (w ∷ ws) = w

abbrev pub rest : List (List ℕ) → List (List ℕ)
rest [] = []
rest (w ∷ ws) = ws

-- a word for each place
abbrev pub padded : List Spot → List (List ℕ) → List (List ℕ)
padded [] ws = []
padded (spot ∷ spots) ws = first ws ∷ padded spots (rest ws)

-- each place and its word are so
abbrev pub Holds : (Spot → List ℕ → Type 0) → List Spot → List (List ℕ) → Type 0
Holds P [] ws = Unit {0}
Holds P (spot ∷ spots) ws = P spot (first ws) × Holds P spots (rest ws)

-- a line that a pattern fits has a word for each place
pub padded-fits : (spots : List Spot) (ws : List (List ℕ)) → fits spots ws ≡ true → padded spots ws ≡ ws
padded-fits [] [] e = refl
padded-fits [] (w ∷ ws) e = absurd (let f : false ≡ true = e in cc)
padded-fits (spot ∷ spots) [] e = absurd (let f : false ≡ true = e in cc)
padded-fits (spot ∷ spots) (w ∷ ws) e = ap (λ x. w ∷ x) (padded-fits spots ws (both (stands spot w) (fits spots ws) e).1)
