-- The first breach of a trace is what the audit finds from what it keeps.
use Rattle.std.proofs.Common.{List, None, Option, Some, [], refl, ℕ, ◌∷◌, ◌≡◌, ◌∙◌}
use Rattle.std.specs.Prelude.{map}
use Rattle.script_lex.specs.Lines.{lines_of}
use Rattle.tool_check.specs.declared.form.Form.{Form}
use Rattle.tool_check.specs.declared.form.Form.TheVariants as form
use Rattle.tool_check.specs.Lines.{Reading, reading}
use Rattle.tool_check.proofs.ClosingTimes.{IfRead, closes, read_at_zero}
use Rattle.tool_audit.specs.Server.{NamedServer}
use Rattle.tool_audit.specs.Breach.{first_breach, is_closing}
use Rattle.tool_audit.specs.Watch as watch
use Rattle.tool_audit.specs.Watch.{watch_breach}
use Rattle.tool_audit.proofs.Watching.{ClosingAtZero, first_breach_is_found}

pub same_form : (f : Form) → closes f ≡ is_closing f
same_form form.Thread = refl
same_form form.Budget = refl
same_form f = refl

lines_so : (ls : List (List ℕ)) → ClosingAtZero (map reading ls)
lines_so [] = tt
lines_so (l ∷ ls) = by_reading (reading l) (read_at_zero l) (lines_so ls)
  where
    by_reading : (o : Option Reading) → IfRead o → ClosingAtZero (map reading ls) → ClosingAtZero (o ∷ map reading ls)
    by_reading None h rest = rest
    by_reading (Some r) h rest = (λ c. h (same_form r.form ∙ c), rest)

-- The first breach of a trace is what the audit finds from what it keeps.
pub first_breach_watched : (servers : List NamedServer) (trace : List ℕ) → first_breach servers trace ≡ watch_breach (watch.begun servers) 1 (map reading (lines_of trace))
first_breach_watched servers trace = first_breach_is_found servers (map reading (lines_of trace)) (lines_so (lines_of trace))
