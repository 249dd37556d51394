-- An input of two parts: a head, a line `%%`, and a trace. The format is this project's own.
use Rattle.std.specs.Prelude.{ℕ, ◌+◌, if◌then◌else◌, List, [], ◌∷◌, length, take, drop, Option, None, Some, codes}
use Rattle.std.specs.Option.{option_map}
use Rattle.std.specs.Str.{bytes_eq}
use Rattle.script_lex.specs.Lines.{lines_of}

-- how many bytes stand before the first line that is exactly `%%`
abbrev pub divider_at : List (List ℕ) → Option ℕ
divider_at [] = None
divider_at (l ∷ ls) = if bytes_eq l (codes "%%") then Some 0 else option_map (λ n. length l + 1 + n) (divider_at ls)

pub record Divided : Type 0 where
  pub head : List ℕ
  pub trace : List ℕ

-- what stands before that line, and what follows its line end
abbrev pub divided_at : List ℕ → Option ℕ → Option Divided
divided_at input None = None
divided_at input (Some n) = Some (record { head = take n input; trace = drop (n + 3) input })

abbrev pub divided : List ℕ → Option Divided
divided input = divided_at input (divider_at (lines_of input))
