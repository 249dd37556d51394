-- What is told of an audit.
use Rattle.std.proofs.Common.{◌≡◌, ◌∙◌, ℕ, List, Option, None, Some, Result, Ok, Err, ap, subst, sym, refl}
use Rattle.std.specs.Prelude.{Bool, true, false, if◌then◌else◌, length, nat_lt}
use Rattle.tool_check.specs.Divided.{Divided, divided}
use Rattle.tool_audit.specs.declared.server.NamedServer.{NamedServer}
use Rattle.tool_audit.specs.declared.breach.Breach.{Breach}
use Rattle.tool_audit.specs.Breach.{first_breach}
use Rattle.tool_audit.specs.Faults as head
use Rattle.tool_audit.specs.Head.{read_head}
use Rattle.tool_audit.proofs.Accepted.{accepted_keeps_law}
use Rattle.tool_answers.specs.declared.status.Status.{Status}
use Rattle.tool_answers.specs.declared.status.Status.TheVariants as status
use Rattle.tool_answers.specs.declared.command.Command.TheVariants as command
use Rattle.tool_answers.specs.Answer.{Answer, Told, answer, audit_answer, audited_answer, breach_answer, command_answer, too_long_line}
use Rattle.tool_commands.specs.Audited.{BudgetsHold}
use Rattle.tool_answers.specs.Command.{command as command_of_words}

is_done : (a : Answer) (s : Status) (old new : Option (List ℕ)) → Told s a old new → s ≡ status.Done → a.status ≡ status.Done
is_done a s old new told e = let done : Told status.Done a old new = subst (λ (x : Status). Told x a old new) e told in done.0

unbroken : (b : Option Breach) → (breach_answer b).status ≡ status.Done → b ≡ None
unbroken None e = refl
unbroken (Some b) e = absurd (let f : status.Breach ≡ status.Done = e in cc)

-- an audit is done where the budgets hold
pub holds_where_done : (bytes : List ℕ) → (audit_answer (divided bytes)).status ≡ status.Done → BudgetsHold bytes
holds_where_done bytes done = by_parts (divided bytes) refl done
  where
    by_head : (parts : Divided) → divided bytes ≡ Some parts → (found : Result (List NamedServer) head.Fault) → read_head parts.head ≡ found
        → (audited_answer found parts.trace).status ≡ status.Done → BudgetsHold bytes
    by_head parts are (Ok servers) named done =
        let none = unbroken (first_breach servers parts.trace) done in
        record { parts = parts; are = are; servers = servers; named = named; unbroken = none; law = accepted_keeps_law servers parts.trace none }
    by_head parts are (Err f) named done = absurd (let g : status.Refused ≡ status.Done = done in cc)

    by_parts : (o : Option Divided) → divided bytes ≡ o → (audit_answer o).status ≡ status.Done → BudgetsHold bytes
    by_parts None are done = absurd (let g : status.NoTrace ≡ status.Done = done in cc)
    by_parts (Some parts) are done = by_head parts are (read_head parts.head) refl done

-- so it is of what is told to the words of an audit
pub holds_where_told : (words : List (List ℕ)) (bytes : List ℕ) (s : Status) (old new : Option (List ℕ)) → command_of_words words ≡ Some command.Audit
    → Told s (answer words bytes) old new → s ≡ status.Done → BudgetsHold bytes
holds_where_told words bytes s old new is told e = by_length (nat_lt 67_108_864 (length bytes)) (ap (λ o. (command_answer o bytes).status) (sym is) ∙ is_done (answer words bytes) s old new told e)
  where
    by_length : (b : Bool) → (if b then record { status = status.TooLong; text = too_long_line } else audit_answer (divided bytes)).status ≡ status.Done → BudgetsHold bytes
    by_length true done = absurd (let g : status.TooLong ≡ status.Done = done in cc)
    by_length false done = holds_where_done bytes done
