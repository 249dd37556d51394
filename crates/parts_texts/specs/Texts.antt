-- Texts one behind the other in one room of bytes. This project's own.
use Rattle.std.specs.Prelude.{Bool, List, [], drop, false, length, sum_by, take, ℕ, ◌+◌, ◌-◌, ◌∷◌, ◌≡◌, ◌≤◌}

-- the texts that end at these places, of which the first begins at a place
abbrev pub texts_from : ℕ → List ℕ → List ℕ → List (List ℕ)
texts_from start [] bytes = []
texts_from start (end ∷ ends) bytes = take (end - start) (drop start bytes) ∷ texts_from end ends bytes

-- where the last of them ends
abbrev pub last_end : ℕ → List ℕ → ℕ
last_end start [] = start
last_end start (end ∷ ends) = last_end end ends

-- the ends rise, up to so many bytes
abbrev pub Rise : ℕ → List ℕ → ℕ → Type 0
Rise start [] most = start ≤ most
Rise start (end ∷ ends) most = (start ≤ end) × Rise end ends most

-- a list of texts, in rooms for so many bytes and so many texts; whether it was full when one more came
pub record Told : Type 0 where
  pub texts : List (List ℕ)
  pub room : ℕ
  pub most : ℕ
  pub is_full : Bool

-- there is room for a text of so many bytes
pub record HasRoom (t : Told) (more : ℕ) : Type 0 where
  pub fresh : t.is_full ≡ false
  pub bytes : sum_by length t.texts + more ≤ t.room
  pub number : length t.texts + 1 ≤ t.most

-- one text that is written piece by piece in a room of so many bytes, and how many writes found no room
pub record Next : Type 0 where
  pub text : List ℕ
  pub room : ℕ
  pub faults : ℕ
