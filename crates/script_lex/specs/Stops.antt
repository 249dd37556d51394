-- What ends a run of bytes.
use Rattle.std.specs.Prelude.{ℕ, ◌≡◌, ◌==◌, not, Bool, List, take}
use Rattle.std.specs.List.{prefix_len}
use Rattle.script_lex.specs.Words.{is_blank, is_allowed, has_bad_byte}
use Rattle.script_lex.specs.declared.stops.Stop.{Stop}
use Rattle.script_lex.specs.declared.stops.Stop.TheVariants as stop

abbrev pub stops : Stop → ℕ → Bool
stops stop.LineEnd c = c == 10
stops stop.Comment c = c == 35
stops stop.Blank c = is_blank c
stops stop.Bad c = not (is_allowed c)

-- where the first line of a text ends, where its comment begins, and whether it has a bad byte
abbrev pub AreMarks : List ℕ → ℕ → ℕ → Bool → Type 0
AreMarks text len comment_at is_bad =
    (len ≡ prefix_len (λ c. not (c == 10)) text) × (comment_at ≡ prefix_len (λ c. not (c == 35)) (take len text)) × (is_bad ≡ has_bad_byte (take len text))
