-- Which pending record is selected.
use Rattle.std.specs.Prelude.{◌≡◌, ◌<◌, ◌==◌, ◌&&◌, ◌||◌, if◌then◌else◌, Bool, List, [], ◌∷◌, None, Option, Some, filter, not, true, ℕ}
use Rattle.words_numbers.specs.Signals.{has_signal}
use Rattle.rules_machine.specs.Lists.{first_by}
use Rattle.rules_machine.specs.Signals.{may_go_to, is_selected_before, without_record}
use Rattle.rules_machine.specs.State.{SignalRecord}
use Rattle.parts_arrivals.specs.Arrivals.{Arrival}
use Rattle.kernel_signals.specs.Kept.{record_of}
use Rattle.kernel_signals.specs.declared.choice.Wanted.{Wanted}
use Rattle.kernel_signals.specs.declared.choice.Wanted.TheVariants.{ForThread, WithSerial}

-- whether a record is the one
abbrev pub is_wanted : Wanted → SignalRecord → Bool
is_wanted (ForThread t) r = may_go_to t r.target
is_wanted (WithSerial n) r = r.serial == n

-- the oldest of a signal that is wanted
abbrev pub first_wanted : Wanted → ℕ → List SignalRecord → List Arrival → Option ℕ
first_wanted wanted signal records [] = None
first_wanted wanted signal records (a ∷ order) =
    if a.rank == signal && is_wanted wanted (record_of records a) then Some a.node else first_wanted wanted signal records order

-- the record that is selected among those that pass: `selected` of the machine with these records
abbrev pub selected_in : List SignalRecord → (SignalRecord → Bool) → Option SignalRecord
selected_in pending passes = first_by is_selected_before (filter passes pending)

-- a record of the set that may go to the thread
abbrev pub is_in_set : ℕ → ℕ → SignalRecord → Bool
is_in_set t set r = has_signal set r.signal && may_go_to t r.target

-- a record that may go to the thread, that its mask lets through, and that ends the process or finds the thread ready for a handler:
-- `can_take` of the machine, where `kills` has the signals that end the process
abbrev pub may_take : ℕ → ℕ → ℕ → Bool → SignalRecord → Bool
may_take t mask kills runs_handlers r = may_go_to t r.target && not (has_signal mask r.signal) && (has_signal kills r.signal || runs_handlers)

-- without the record, if there is one
abbrev pub without_one : Option SignalRecord → List SignalRecord → List SignalRecord
without_one None pending = pending
without_one (Some r) pending = without_record r pending

-- no record of a signal of the set, below a limit, goes to the thread
abbrev pub NoneBelow : ℕ → ℕ → List SignalRecord → List Arrival → ℕ → Type 0
NoneBelow t set records order limit = (signal : ℕ) → signal < limit → has_signal set signal ≡ true → first_wanted (ForThread t) signal records order ≡ None

-- the node has the oldest that goes to the thread, of the lowest signal of the set that has any
pub record IsLowest (t set : ℕ) (records : List SignalRecord) (order : List Arrival) (n : ℕ) : Type 0 where
  pub signal : ℕ
  pub in_set : has_signal set signal ≡ true
  pub first : first_wanted (ForThread t) signal records order ≡ Some n
  pub below : NoneBelow t set records order signal
