-- What the clauses of the one call say, from what a command that was carried out promises.
use Rattle.std.proofs.Common.{◌≡◌, ℕ, List, Option, None, Some, IfSome, inl, inr, refl, subst, sym}
use Rattle.std.specs.Prelude.{◌⊎◌, IsSome}
use Rattle.std.specs.Io.KnownBytes.{Appends}
use Rattle.parts_io.specs.Bytes.{AppendsPart}
use Rattle.parts_io.specs.Causes.{Rose}
use Rattle.tool_answers.specs.declared.command.Command.{Command}
use Rattle.tool_answers.specs.declared.status.Status.{Status}
use Rattle.tool_answers.specs.declared.status.Status.TheVariants.{Done, Usage, Refused, TooLong, ReadFault, WriteFault, OutOfMemory, Differs, NoTrace, Breach}
use Rattle.tool_answers.specs.Answer.{Answer, Told, command_answer, no_trace_line, too_long_line, usage_line}
use Rattle.tool_answers.specs.Command.{Audits, Compares, Divides, command}
use Rattle.tool_commands.specs.Taken.{Answered}
use Rattle.tool_commands.proofs.CarriedOut.{Call, IsCarriedOut}
use Rattle.tool_commands.proofs.Seen.{Seen}

pub told : {o : Option Command} {s : Status} {call : Call} → IsCarriedOut o s call → IfSome call.rest_before (λ bytes. Told s (command_answer o bytes) call.text_before call.text_now)
told {o = o} {s = s} {call = call} p = by_rest call.rest_before p.told
  where
    by_rest : (rest : Option (List ℕ)) → ((b : List ℕ) → rest ≡ Some b → Told s (command_answer o b) call.text_before call.text_now)
        → IfSome rest (λ bytes. Told s (command_answer o bytes) call.text_before call.text_now)
    by_rest None all = tt
    by_rest (Some b) all = all b refl

pub answered : (words : List (List ℕ)) {s : Status} {call : Call} → IsCarriedOut (command words) s call
    → Answered words s call.rest_before call.rest_now call.taken_before call.taken_now call.text_before call.text_now call.steps_before call.steps_now
answered words p = record {
  bytes = p.bytes;
  bound = p.bound;
  moved = p.moved;
  count = p.count;
  told = p.told_of_taken;
  busy = p.busy_of_taken;
  rounds = p.rounds_of_taken;
}

-- ---- by the status

seen_as : {o : Option Command} {s : Status} {call : Call} → IsCarriedOut o s call → (t : Status) → s ≡ t → Seen o t call.text_before call.text_now
seen_as {o = o} {call = call} p t e = subst (λ (x : Status). Seen o x call.text_before call.text_now) e p.seen

pub usage : {o : Option Command} {s : Status} {call : Call} → IsCarriedOut o s call → s ≡ Usage → o ≡ None
usage p e = (seen_as p Usage e).0

pub usage_text : {o : Option Command} {s : Status} {call : Call} → IsCarriedOut o s call → s ≡ Usage → Appends call.text_before call.text_now usage_line
usage_text p e = (seen_as p Usage e).1

pub usage_part : {o : Option Command} {s : Status} {call : Call} → IsCarriedOut o s call → o ≡ None → s ≡ WriteFault
    → AppendsPart call.text_before call.text_now usage_line
usage_part {o = o} {s = s} {call = call} p none e =
    subst (λ (x : Status). Told x (command_answer None p.bytes) call.text_before call.text_now) e
    (subst (λ (x : Option Command). Told s (command_answer x p.bytes) call.text_before call.text_now) none p.told_of_taken)

pub too_long_text : {o : Option Command} {s : Status} {call : Call} → IsCarriedOut o s call → s ≡ TooLong → Appends call.text_before call.text_now too_long_line
too_long_text p e = seen_as p TooLong e

pub checked : {o : Option Command} {s : Status} {call : Call} → IsCarriedOut o s call → s ≡ Differs → Compares o
checked p e = seen_as p Differs e

pub audited : {o : Option Command} {s : Status} {call : Call} → IsCarriedOut o s call → s ≡ Breach → Audits o
audited p e = seen_as p Breach e

pub divided : {o : Option Command} {s : Status} {call : Call} → IsCarriedOut o s call → s ≡ NoTrace → Divides o
divided p e = (seen_as p NoTrace e).0

pub no_trace_text : {o : Option Command} {s : Status} {call : Call} → IsCarriedOut o s call → s ≡ NoTrace → Appends call.text_before call.text_now no_trace_line
no_trace_text p e = (seen_as p NoTrace e).1

-- ---- where nothing fails

-- the answer is given, or there was no memory
by_status : {A : Type 0} (o : Option Command) (a : Answer) (s : Status) (old new : Option (List ℕ)) → Told s a old new
    → (s ≡ ReadFault → ⊥) → (s ≡ WriteFault → ⊥) → (s ≡ OutOfMemory → IsSome o × A)
    → ((s ≡ a.status) × Appends old new a.text) ⊎ ((s ≡ OutOfMemory) × IsSome o × A)
by_status o a Done old new t read write memory = inl (sym t.0, t.1)
by_status o a Usage old new t read write memory = inl (sym t.0, t.1)
by_status o a Refused old new t read write memory = inl (sym t.0, t.1)
by_status o a TooLong old new t read write memory = inl (sym t.0, t.1)
by_status o a Differs old new t read write memory = inl (sym t.0, t.1)
by_status o a NoTrace old new t read write memory = inl (sym t.0, t.1)
by_status o a Breach old new t read write memory = inl (sym t.0, t.1)
by_status o a ReadFault old new t read write memory = absurd (read refl)
by_status o a WriteFault old new t read write memory = absurd (write refl)
by_status o a OutOfMemory old new t read write memory = let same = memory refl in inr (refl, same.0, same.1)

pub complete : {A : Type 0} {o : Option Command} {s : Status} {call : Call} → IsCarriedOut o s call → ((s ≡ ReadFault) ⊎ (s ≡ OutOfMemory) → A)
    → (bytes : List ℕ) → call.rest_before ≡ Some bytes
    → (Rose call.faults_before call.faults_now → ⊥) → (Rose call.sink_faults_before call.sink_faults_now → ⊥)
    → ((s ≡ (command_answer o bytes).status) × Appends call.text_before call.text_now (command_answer o bytes).text)
    ⊎ ((s ≡ OutOfMemory) × IsSome o × A)
complete {o = o} {s = s} {call = call} p same bytes is no_read no_write =
    by_status o (command_answer o bytes) s call.text_before call.text_now (p.told bytes is)
    (λ e. no_read (p.read_fault e)) (λ e. no_write (p.sink_faults.fault e)) (λ e. (p.some e, same (inr e)))
