-- A trace with the facts that change behind the lines of each instant, as `detail` tells it. The command and its text are this
-- project's own.
use Rattle.std.specs.Prelude.{Bool, List, [], decimal, filter, flat_map, nat_lt, not, suc, zero, ℕ, ◌+◌, ◌==◌, ◌∷◌, ◌++◌, if◌then◌else◌}
use Rattle.std.specs.List.{join_with_byte, range_with_len}
use Rattle.std.specs.Str.{bytes_eq}
use Rattle.words_script.specs.declared.decl.Decl.{Decl}
use Rattle.words_script.specs.declared.decl.Script.{Script}
use Rattle.rules_bodies.specs.Next.{Place}
use Rattle.words_trace.specs.Text.{Entry, line_of_words, lines}
use Rattle.rules_machine.specs.Machine.{closing, names_of, run}
use Rattle.rules_machine.specs.Runs.{Ran, opening}
use Rattle.rules_machine.specs.State.{Machine}
use Rattle.rules_facts.specs.Fact.{Fact}
use Rattle.rules_facts.specs.Facts.{facts}
use Rattle.rules_facts.specs.Shown.{shown_machine}
use Rattle.rules_facts.specs.Spelled.{fact_words, told}

-- whether two facts of one subject differ
abbrev pub differs : List Decl → Fact → Fact → Bool
differs decls before after = not (bytes_eq (join_with_byte 32 (told decls before)) (join_with_byte 32 (told decls after)))

-- Of two states of a run, the facts of the second that the first has not. All states of a run have the same subjects in the same order.
abbrev pub changed : List Decl → List Fact → List Fact → List Fact
changed decls [] after = []
changed decls (b ∷ before) [] = []
changed decls (b ∷ before) (a ∷ after) = if differs decls b a then a ∷ changed decls before after else changed decls before after

-- the machine of the instant before, or that before the run
abbrev pub machine_before : Script → ℕ → Machine Place
machine_before script zero = opening script
machine_before script (suc n) = shown_machine script n

abbrev pub facts_changed_at : Script → ℕ → List Fact
facts_changed_at script n = changed script.decls (facts script (machine_before script n)) (facts script (shown_machine script n))

-- a fact as a line of an instant
abbrev pub timed_line : List Decl → ℕ → Fact → List ℕ
timed_line decls n f = line_of_words (decimal n ∷ fact_words decls f)

-- The facts that change at an instant. The last one, at which the run or the process ends, has none.
abbrev pub fact_lines_at : Script → ℕ → ℕ → List ℕ
fact_lines_at script end n = if nat_lt n end then flat_map (timed_line script.decls n) (facts_changed_at script n) else []

abbrev pub events_at : ℕ → List Entry → List Entry
events_at n entries = filter (λ (e : Entry). e.time == n) entries

-- what happened at an instant, and then the facts that change
abbrev pub instant_lines : Script → Ran Place → ℕ → List ℕ
instant_lines script done n = lines (names_of script) (events_at n done.events) ++ fact_lines_at script done.machine.now n

-- the text of `detail n`
abbrev pub detail : Script → ℕ → List ℕ
detail script n = let done = run script n in
    flat_map (instant_lines script done) (range_with_len 0 (done.machine.now + 1)) ++ closing (names_of script) done.machine
