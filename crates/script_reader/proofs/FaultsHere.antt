-- The least fault of the words of a line, word by word.
use Rattle.std.proofs.Common.{◌≡◌, ℕ, ◌<◌, ◌≤◌, Option, Some, None, List, [], ◌∷◌, ◌++◌, length, get_or, drop, map, refl, arith}
use Rattle.std.specs.Option.{option_to_list}
use Rattle.script_table.specs.declared.faults.FaultKind.{FaultKind}
use Rattle.script_table.specs.declared.pattern.Place.{Place}
use Rattle.script_table.specs.Faults.{least_kind, lesser_first}
use Rattle.script_table.specs.LineFaults.{place_faults}
use Rattle.script_table.specs.Patterns.{Spot, spot_of}

module _ (test : Spot → List ℕ → Option FaultKind) where
  pub no_place : (places : List Place) (words : List (List ℕ)) → length places < 1 → None ≡ least_kind (place_faults test (map spot_of places) words)
  no_place [] words short = refl
  no_place (p ∷ places) words short = absurd (omega arith)

  pub no_word : (places : List Place) → None ≡ least_kind (place_faults test (map spot_of places) [])
  no_word [] = refl
  no_word (p ∷ places) = refl

  least_with : (here : Option FaultKind) (rest : List FaultKind) → lesser_first here (least_kind rest) ≡ least_kind (option_to_list here ++ rest)
  least_with None rest = refl
  least_with (Some k) rest = refl

  pub one_more : (places : List Place) (none : Place) (word : List ℕ) (words : List (List ℕ)) → 1 ≤ length places
      → lesser_first (test (spot_of (get_or places 0 none)) word) (least_kind (place_faults test (map spot_of (drop 1 places)) words))
      ≡ least_kind (place_faults test (map spot_of places) (word ∷ words))
  one_more [] none word words some = absurd (omega arith)
  one_more (p ∷ places) none word words some = least_with (test (spot_of p) word) (place_faults test (map spot_of places) words)
