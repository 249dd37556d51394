-- Names. Their spelling is this project's own.
use Rattle.std.specs.Prelude.{ℕ, ◌==◌, nat_le, Bool, false, ◌&&◌, ◌||◌, List, [], ◌∷◌, length}
use Rattle.std.specs.List.{list_all}

abbrev pub is_letter : ℕ → Bool
is_letter c = nat_le 97 c && nat_le c 122

abbrev pub is_digit : ℕ → Bool
is_digit c = nat_le 48 c && nat_le c 57

abbrev pub is_name_byte : ℕ → Bool
is_name_byte c = is_letter c || (is_digit c || c == 95)

abbrev pub begins_with_letter : List ℕ → Bool
begins_with_letter [] = false
begins_with_letter (c ∷ cs) = is_letter c

-- a small letter, then small letters, digits and underscores, at most 32 bytes
abbrev pub is_name : List ℕ → Bool
is_name word = begins_with_letter word && (list_all is_name_byte word && nat_le (length word) 32)
