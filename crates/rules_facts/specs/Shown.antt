-- The facts of one instant of a run, as `show` tells them. The command and its text are this project's own.
use Rattle.std.specs.Prelude.{List, None, Option, Some, [], codes, decimal, filter, filter_map, flat_map, not, slice_get, ℕ, ◌∷◌, ◌++◌}
use Rattle.words_script.specs.declared.decl.Script.{Script}
use Rattle.rules_bodies.specs.Next.{Place}
use Rattle.words_numbers.specs.Words.{signal_word}
use Rattle.words_trace.specs.Text.{line_of_words}
use Rattle.rules_machine.specs.Delivery.{taken_by_sweep}
use Rattle.rules_machine.specs.Machine.{bodies_of, machine}
use Rattle.rules_machine.specs.Runs.{tick_begun}
use Rattle.rules_machine.specs.Signals.{without_record}
use Rattle.rules_machine.specs.State.{Machine, SignalRecord}
use Rattle.rules_machine.specs.Threads.{thread_numbers}
use Rattle.rules_facts.specs.Fact.{Fact}
use Rattle.rules_facts.specs.Facts.{facts}
use Rattle.rules_facts.specs.Numbers.{machine_numbers}
use Rattle.rules_facts.specs.Spelled.{fact_line, is_empty, number_line}

-- ---- the state that is shown

-- The record that ended the process. Where it has ended the machine stays as the sweep left it, with that record among the pending ones:
-- it is the one that the first thread takes to which a sweep gives one.
abbrev pub ending_record : {P : Type 0} → Machine P → Option SignalRecord
ending_record m = slice_get (filter_map (taken_by_sweep m) (thread_numbers m)) 0

abbrev pub without_taken : {P : Type 0} → Option SignalRecord → Machine P → Machine P
without_taken None m = m
without_taken (Some r) m = record m { pending = without_record r m.pending }

-- a record that is taken is shown no more
abbrev pub once_ended : {P : Type 0} → Option ℕ → Machine P → Machine P
once_ended None m = m
once_ended (Some signal) m = without_taken (ending_record m) m

-- The machine from whose lists the tick of an instant is dispatched: what is due at it is handled. Where the process has ended it
-- stays as it was then.
abbrev pub machine_at : Script → ℕ → Machine Place
machine_at script n = (tick_begun (bodies_of script) (machine script n)).machine

abbrev pub shown_machine : Script → ℕ → Machine Place
shown_machine script n = once_ended (machine_at script n).killed (machine_at script n)

-- ---- its text

abbrev pub state_line : ℕ → List ℕ
state_line now = line_of_words (decimal now ∷ codes "state" ∷ [])

-- the signal that ended the process
abbrev pub killed_line : Option ℕ → List ℕ
killed_line None = []
killed_line (Some signal) = line_of_words (codes "killed" ∷ signal_word signal ∷ [])

-- the instant, the facts that are not empty, and the numbers
abbrev pub state_text : {P : Type 0} → Script → Machine P → List ℕ
state_text script m =
    state_line m.now
    ++ killed_line m.killed
    ++ flat_map (fact_line script.decls) (filter (λ (f : Fact). not (is_empty script.decls f)) (facts script m))
    ++ flat_map (number_line script.decls) (machine_numbers m)

-- the text of `show n`
abbrev pub shown : Script → ℕ → List ℕ
shown script n = state_text script (shown_machine script n)
