-- An audit behind the lines that were read, none of which breaks a rule. This project's own.
use Rattle.std.specs.Prelude.{◌≡◌, ℕ, List, [], ◌∷◌, ◌++◌, None, Option, filter_map}
use Rattle.tool_check.specs.Lines.{Reading, reading}
use Rattle.tool_audit.specs.Server.{NamedServer}
use Rattle.tool_audit.specs.Breach.{broken_behind, broken_by_reading}
use Rattle.tool_audit.specs.Watch.{Watch, begun, watch_with}

-- what is read of these lines
abbrev pub readings : List (List ℕ) → List Reading
readings lines = filter_map reading lines

-- the least rule that a line breaks behind these, and the one that is broken where none comes any more
abbrev pub broken_by_line : List NamedServer → List (List ℕ) → List ℕ → Option ℕ
broken_by_line servers before line = broken_by_reading servers (readings before) (reading line)

abbrev pub broken_at_end : List NamedServer → List (List ℕ) → Option ℕ
broken_at_end servers before = broken_behind servers (readings before)

-- none of these lines breaks a rule, each behind those and the ones in front of it
abbrev pub AreUnbroken : List NamedServer → List (List ℕ) → List (List ℕ) → Type 0
AreUnbroken servers before [] = Unit {0}
AreUnbroken servers before (line ∷ lines) = (broken_by_line servers before line ≡ None) × AreUnbroken servers (before ++ line ∷ []) lines

-- what is kept once these lines are taken in
abbrev pub watched_through : Watch → List (List ℕ) → Watch
watched_through w [] = w
watched_through w (line ∷ lines) = watched_through (watch_with (reading line) w) lines

-- what an audit for these servers is behind these lines
pub record IsBehind (servers : List NamedServer) (lines : List (List ℕ)) (w : Watch) : Type 0 where
  pub unbroken : AreUnbroken servers [] lines
  pub is : w ≡ watched_through (begun servers) lines
