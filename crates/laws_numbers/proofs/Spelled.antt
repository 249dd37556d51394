-- The trace of a script that is read without a fault is spelled as one.
use Rattle.std.proofs.Common.{ℕ, suc, ◌+◌, ◌^◌, ◌≡◌, ◌≤◌, ◌<◌, List, [], ◌∷◌, Ok, Option, None, Some, ap, arith, length, refl, subst}
use Rattle.std.specs.Prelude.{map, option_map}
use Rattle.words_script.specs.declared.decl.Script.{Script}
use Rattle.script_table.specs.Table.{patterns}
use Rattle.script_table.specs.Read.{read}
use Rattle.rules_server.specs.Server.{ServerState}
use Rattle.words_trace.specs.declared.event.Event.{Event}
use Rattle.words_trace.specs.declared.event.Event.TheVariants as event
use Rattle.words_trace.specs.Text.{Entry}
use Rattle.rules_machine.specs.Declarations.{ThreadDecl, threads_of}
use Rattle.rules_machine.specs.State.{Thread}
use Rattle.rules_machine.specs.Threads.{thread_in}
use Rattle.rules_machine.specs.Machine.{bodies_of, budget_of, events, machine, names_of, trace}
use Rattle.rules_machine.specs.Runs.{opening}
use Rattle.rules_machine.specs.Throughout.{after_items}
use Rattle.rules_machine.specs.WellFormed.{IsWellFormed}
use Rattle.rules_flat_code.specs.KnownCalls.{objects_of}
use Rattle.laws_threads.proofs.Within.{threads_are_within}
use Rattle.laws_accepted.proofs.Reading.{accepted_is_well_formed}
use Rattle.script_lex.specs.Lines.{lines_of}
use Rattle.tool_check.specs.Lines.{reading}
use Rattle.tool_check.specs.Laws.{HasName, IsBudgetSpelled, IsSpelled}
use Rattle.tool_audit.specs.Breach.{first_breach}
use Rattle.tool_audit.specs.declared.server.NamedServer.{NamedServer}
use Rattle.tool_audit.proofs.Walks.{EachOf}
use Rattle.laws_audit.specs.Calm.{HasNoSetsched}
use Rattle.laws_audit.specs.Traces.{AllSpelled, EachServerOf, IsServerOf, NamesApart, ReportsSpelled, TraceIsSpelled, trace_readings}
use Rattle.laws_audit.proofs.TextLines.{trace_is_read}
use Rattle.laws_audit.proofs.Traces.{no_breach_of_text}
use Rattle.laws_numbers.specs.Numbers.{Each, EntrySmall, EventSmall, HasSmall, NumbersAreSmall}
use Rattle.laws_numbers.specs.Scripts.{IsInRange}
use Rattle.laws_numbers.proofs.Servers.{capacity_told}
use Rattle.laws_numbers.proofs.Turns.{number_small}
use Rattle.laws_numbers.proofs.Runs.{events_small, numbers_small, numbers_small_between}
use Rattle.laws_numbers.proofs.Ranges.{accepted_in_range}
use Rattle.laws_numbers.proofs.Names.{WellNamed, accepted_well_named, named_by_number}

-- ---- events

module _ (names : List (List ℕ)) (count : ℕ) (named : (t : ℕ) → t < count → HasName names t) where
  event_spelled : (e : Event) → EventSmall count e → IsSpelled names e
  event_spelled (event.Dispatch t prio) h = (named t h.0, h.1)
  event_spelled event.Idle h = tt
  event_spelled (event.Start t) h = named t h
  event_spelled (event.Return t call res value) h = (named t h.0, h.1)
  event_spelled (event.Deliver t sig code value) h = (named t h.0, h.1, h.2)
  event_spelled (event.Activate t capacity) h = (named t h.0, h.1)
  event_spelled (event.Exhaust t) h = named t h
  event_spelled (event.Plan t amount due) h = (named t h.0, h.1, h.2)
  event_spelled (event.Refill t amount capacity) h = (named t h.0, h.1, h.2)
  event_spelled (event.Cancel t) h = named t h
  event_spelled (event.Exit t) h = named t h
  event_spelled (event.Killed sig) h = h
  event_spelled event.End h = tt

  all_spelled : (es : List Entry) → Each (EntrySmall count) es → AllSpelled names es
  all_spelled [] h = tt
  all_spelled (e ∷ es) h = (h.0.time, event_spelled e.event h.0.event, all_spelled es h.1)

-- ---- closing lines

budget_spelled : (ticks : ℕ) (o : Option ServerState) → ticks ≤ 10 ^ 18 → HasSmall ticks o → IsBudgetSpelled (option_map budget_of o)
budget_spelled ticks None low h = tt
budget_spelled ticks (Some s) low h =
    let high = h.high in
    let refilled = h.refilled in
    (omega arith, number_small s.params.budget h.budget, omega arith, capacity_told ticks s h)

-- what is asked of a thread that is told of
record Told {P : Type 0} (th : Thread P) : Type 0 where
  ticks : th.ticks ≤ 10 ^ 18
  server : HasSmall th.ticks th.server

reports_spelled : {P : Type 0} (names : List (List ℕ)) (t : ℕ) (ths : List (Thread P)) → ((k : ℕ) → k < length ths → HasName names (t + k)) → ((k : ℕ) → Told (thread_in ths k)) → ReportsSpelled names t ths
reports_spelled names t [] named told = tt
reports_spelled names t (th ∷ ths) named told =
    let here : t + 0 ≡ t = omega arith in
    let one = told 0 in (
      subst (HasName names) here (named 0 (omega arith)),
      number_small th.ticks one.ticks,
      budget_spelled th.ticks th.server one.ticks one.server,
      reports_spelled names (t + 1) ths (λ k lt. let next : t + suc k ≡ t + 1 + k = omega arith in subst (HasName names) next (named (suc k) (omega arith))) (λ k. told (suc k)),
    )

-- ---- a script

same_length : {X Y : Type 0} (f : X → Y) (xs : List X) → length (map f xs) ≡ length xs
same_length f [] = refl
same_length f (x ∷ xs) = ap suc (same_length f xs)

module _ (script : Script) (fits : IsWellFormed script) (ranges : IsInRange script) (names : WellNamed script) where
  has_name : (t : ℕ) → t < (objects_of script).threads → HasName (names_of script) t
  has_name t lt =
      let same : length (names_of script) ≡ length (threads_of script) = same_length (λ (d : ThreadDecl). d.name) (threads_of script) in
      named_by_number (names_of script) t names.named (omega arith)

  pub spelled : (n : ℕ) → n ≤ 10 ^ 18 → TraceIsSpelled script n
  spelled n low =
      let small = numbers_small script fits ranges n low in
      let early : (machine script n).now ≤ 10 ^ 18 = (let e = small.early in omega arith) in
      let times = (threads_are_within script).over_trees.each n 0 in
      record {
        events = all_spelled (names_of script) (objects_of script).threads has_name (events script n) (events_small script fits ranges n low);
        early = number_small (machine script n).now early;
        reports = reports_spelled (names_of script) 0 (machine script n).threads
            (λ k lt. let same : k ≡ 0 + k = omega arith in let count = small.counted in subst (HasName (names_of script)) same (has_name k (omega arith)))
            (λ k. record { ticks = (let h = (times.each k).ticks in omega arith); server = (small.of_threads k).server });
      }

-- ---- what is read

pub accepted_numbers : (text : List ℕ) (script : Script) (n : ℕ) → read patterns text ≡ Ok script → n ≤ 10 ^ 18 → NumbersAreSmall (length (threads_of script)) n (machine script n)
accepted_numbers text script n e low = numbers_small script (accepted_is_well_formed text script e) (accepted_in_range text script e) n low

pub accepted_numbers_between : (text : List ℕ) (script : Script) (n k : ℕ) → read patterns text ≡ Ok script → n ≤ 10 ^ 18 → NumbersAreSmall (length (threads_of script)) n (after_items (bodies_of script) (opening script) n k)
accepted_numbers_between text script n k e low = numbers_small_between script (accepted_is_well_formed text script e) (accepted_in_range text script e) n k low

pub accepted_apart : (text : List ℕ) (script : Script) → read patterns text ≡ Ok script → NamesApart (names_of script)
accepted_apart text script e = (accepted_well_named text script e).apart

pub accepted_spelled : (text : List ℕ) (script : Script) (n : ℕ) → read patterns text ≡ Ok script → n ≤ 10 ^ 18 → TraceIsSpelled script n
accepted_spelled text script n e low = spelled script (accepted_is_well_formed text script e) (accepted_in_range text script e) (accepted_well_named text script e) n low

pub accepted_is_read : (text : List ℕ) (script : Script) (n : ℕ) → read patterns text ≡ Ok script → n ≤ 10 ^ 18 → map reading (lines_of (trace script n)) ≡ map Some (trace_readings script n)
accepted_is_read text script n e low = trace_is_read script n (accepted_spelled text script n e low)

each_server : (script : Script) (servers : List NamedServer) → EachServerOf script servers → EachOf (IsServerOf script) servers
each_server script [] h = tt
each_server script (s ∷ servers) h = (h.0, each_server script servers h.1)

pub accepted_breaks_none : (text : List ℕ) (script : Script) (n : ℕ) (servers : List NamedServer) → read patterns text ≡ Ok script → n ≤ 10 ^ 18 → HasNoSetsched script → EachServerOf script servers →
    first_breach servers (trace script n) ≡ None
accepted_breaks_none text script n servers e low calm of =
    no_breach_of_text script (accepted_is_well_formed text script e) calm (accepted_apart text script e) n (accepted_spelled text script n e low) servers (each_server script servers of)
