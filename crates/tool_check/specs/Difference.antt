-- Where two texts differ. This project's own.
use Rattle.std.specs.Prelude.{ℕ, ◌+◌, ◌==◌, if◌then◌else◌, List, take, Option, None, Some, count_by}
use Rattle.std.specs.List.{common_prefix_len}
use Rattle.std.specs.Str.{bytes_eq}

-- how long the longest common beginning is
abbrev pub common_len : List ℕ → List ℕ → ℕ
common_len have want = common_prefix_len (λ x y. x == y) have want

abbrev pub line_ends : List ℕ → ℕ
line_ends text = count_by (λ c. c == 10) text

-- the number of the first line that differs, from 1: one more than the lines that end in the common beginning
abbrev pub difference : List ℕ → List ℕ → Option ℕ
difference have want = if bytes_eq have want then None else Some (1 + line_ends (take (common_len have want) have))
