-- What is told of a trace that breaks no rule. This project's own.
use Rattle.std.specs.Prelude.{◌≡◌, ◌≤◌, ◌^◌, ℕ, List, None, Some, Ok}
use Rattle.words_script.specs.declared.decl.Script.{Script}
use Rattle.rules_machine.specs.Machine.{trace}
use Rattle.tool_check.specs.Divided.{Divided, divided}
use Rattle.tool_audit.specs.declared.server.NamedServer.{NamedServer}
use Rattle.tool_audit.specs.Breach.{first_breach}
use Rattle.tool_audit.specs.Head.{read_head}
use Rattle.tool_audit.specs.Law.{KeepsLaw}
use Rattle.laws_audit.specs.Calm.{HasNoSetsched}
use Rattle.laws_audit.specs.Traces.{EachServerOf}

-- The input has a head of servers and a trace. No line of the trace breaks a rule for one of them, and the law of the budget holds of its
-- lines for each.
pub record BudgetsHold (input : List ℕ) : Type 0 where
  pub parts : Divided
  pub are : divided input ≡ Some parts
  pub servers : List NamedServer
  pub named : read_head parts.head ≡ Ok servers
  pub unbroken : first_breach servers parts.trace ≡ None
  pub law : KeepsLaw servers parts.trace

-- the trace of each run of the script up to that horizon breaks no rule, for servers that are sporadic threads of it
abbrev pub BreaksNoRule : Script → Type 0
BreaksNoRule script = (n : ℕ) (servers : List NamedServer) → n ≤ 10 ^ 18 → HasNoSetsched script → EachServerOf script servers → first_breach servers (trace script n) ≡ None
