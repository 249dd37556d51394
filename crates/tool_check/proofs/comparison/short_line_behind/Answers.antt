use Rattle.std.proofs.Common.{◌≡◌, ◌≤◌, ℕ, List, length, sym, Option, None, Some, IfSome, true, Bor}
use Rattle.std.specs.Prelude.{is_some, slice_get}
use Rattle.std.specs.Option.{option_map}
use Rattle.script_lex.specs.Lines.{lines_of}
use Rattle.parts_tracer.specs.ShortLines.{column_after}
use Rattle.tool_check.proofs.Short.{line_is_short}
use Rattle.tool_check.proofs.comparison.short_line_behind.Goals as goal

found_is_short : (text : List ℕ) (i : ℕ) (found : Option (Bor (List ℕ))) → is_some (column_after 0 text) ≡ true
    → option_map (λ l. l.now) found ≡ slice_get (lines_of text) i → IfSome found (λ l. length l.now ≤ 255)
found_is_short text i None short e = tt
found_is_short text i (Some l) short e = line_is_short text i l.now short (sym e)

pub returns-clause-short : goal.returns-clause-short
returns-clause-short c = found_is_short _ _ _ c.requires c.line_behind.ensures
