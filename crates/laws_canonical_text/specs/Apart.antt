-- Patterns that no line has both. The script language is this project's own.
use Rattle.std.specs.Prelude.{ℕ, ◌&&◌, ◌||◌, nat_le, zero, suc, not, Bool, true, false, List, [], ◌∷◌}
use Rattle.std.specs.List.{list_all}
use Rattle.std.specs.Str.{bytes_eq}
use Rattle.script_table.specs.Heading.{is_version}
use Rattle.script_table.specs.Ranges.{sets_server}
use Rattle.script_table.specs.Patterns.{Spot, Keyword, Number, Row, greatest}

-- two keywords that differ
abbrev pub differ : Spot → Spot → Bool
differ (Keyword a) (Keyword b) = not (bytes_eq a b)
differ s t = false

-- a keyword differs, or the numbers of words do
abbrev pub apart : List Spot → List Spot → Bool
apart [] [] = false
apart [] (t ∷ ts) = true
apart (s ∷ ss) [] = true
apart (s ∷ ss) (t ∷ ts) = differ s t || apart ss ts

-- no line has two of the patterns
abbrev pub all_apart : List Row → Bool
all_apart [] = true
all_apart (r ∷ rs) = list_all (λ x. apart r.places x.places) rs && all_apart rs

-- a range of numbers that stays at or below the greatest number
abbrev pub is_bounded : Spot → Bool
is_bounded (Number low high) = nat_le high greatest
is_bounded other = true

abbrev pub all_bounded : List Row → Bool
all_bounded rows = list_all (λ r. list_all is_bounded r.places) rows

-- a number stands at this place
abbrev pub number_at : ℕ → List Spot → Bool
number_at k [] = false
number_at zero (Number low high ∷ spots) = true
number_at zero (other ∷ spots) = false
number_at (suc k) (spot ∷ spots) = number_at k spots

-- where a line sets the parameters of a server, its words 3 to 7 are numbers
abbrev pub has_parameters : Row → Bool
has_parameters row =
    not (sets_server row.form) ||
    (number_at 3 row.places && (number_at 4 row.places && (number_at 5 row.places && (number_at 6 row.places && number_at 7 row.places))))

-- no line with this pattern begins with `version`
abbrev pub is_unversioned : List Spot → Bool
is_unversioned (Keyword word ∷ spots) = not (is_version word)
is_unversioned other = false

abbrev pub all_unversioned : List Row → Bool
all_unversioned rows = list_all (λ r. is_unversioned r.places) rows
