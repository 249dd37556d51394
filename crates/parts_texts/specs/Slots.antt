-- Texts in rooms of their own. This project's own.
use Rattle.std.specs.Prelude.{List, [], suc, zero, ℕ, ◌∷◌, ◌≡◌}
use Rattle.std.specs.List.{AllByRecursion}
use Rattle.parts_texts.specs.Texts.{Next}

-- texts by number, each in a room of so many bytes
pub record Held : Type 0 where
  pub texts : List (List ℕ)
  pub room : ℕ

abbrev pub text_in : Next → List ℕ
text_in n = n.text

abbrev pub HaveRoomsOf : ℕ → List Next → Type 0
HaveRoomsOf room items = AllByRecursion (λ (n : Next). n.room ≡ room) items

-- so many empty texts
abbrev pub no_texts : ℕ → List (List ℕ)
no_texts zero = []
no_texts (suc n) = [] ∷ no_texts n
