-- What is told of an audit that was opened.
use Rattle.std.proofs.Common.{◌≡◌, ℕ, List, Result, Ok, Err}
use Rattle.tool_audit.specs.declared.server.NamedServer.{NamedServer}
use Rattle.tool_audit.specs.Breach.{first_breach}
use Rattle.tool_audit.specs.Ends.{IsOpened}
use Rattle.tool_audit.specs.Faults as head
use Rattle.tool_audit.specs.Watch.{Watch, begun}
use Rattle.tool_answers.specs.Answer.{Answer, audited_answer, breach_answer}

-- an audit that was opened is about the servers of the head
pub of_opened : (P : Answer → Type 0) (a : Watch) (found : Result (List NamedServer) head.Fault) (trace : List ℕ) → IsOpened a found
    → ((servers : List NamedServer) → a ≡ begun servers → P (breach_answer (first_breach servers trace))) → P (audited_answer found trace)
of_opened P a (Ok servers) trace is told = told servers is
of_opened P a (Err f) trace is told = absurd is
