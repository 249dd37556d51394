-- What is answered to a head and a trace. This project's own.
use Rattle.std.specs.Prelude.{ℕ, List, ◌++◌, Option, None, Some, Result, Ok, Err, codes, decimal}
use Rattle.tool_check.specs.Divided.{Divided, divided}
use Rattle.tool_audit.specs.Server.{NamedServer}
use Rattle.tool_audit.specs.Breach.{Breach, first_breach}
use Rattle.tool_audit.specs.Faults.{Fault, number_of, name_of}
use Rattle.tool_audit.specs.Head.{read_head}

abbrev pub refusal : Fault → List ℕ
refusal f = codes "refused " ++ decimal f.line ++ codes " " ++ decimal (number_of f.kind) ++ codes " " ++ name_of f.kind ++ codes "\n"

abbrev pub breach_text : Option Breach → List ℕ
breach_text None = codes "budgets hold\n"
breach_text (Some b) = codes "breach " ++ decimal b.line ++ codes " " ++ decimal b.rule ++ codes "\n"

abbrev pub answer_of : Result (List NamedServer) Fault → List ℕ → List ℕ
answer_of (Err f) trace = refusal f
answer_of (Ok servers) trace = breach_text (first_breach servers trace)

abbrev pub answer_to : Option Divided → List ℕ
answer_to None = codes "no trace\n"
answer_to (Some d) = answer_of (read_head d.head) d.trace

-- what is answered to an input
abbrev pub audit : List ℕ → List ℕ
audit input = answer_to (divided input)
