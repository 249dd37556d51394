-- Setting CLOCK_REALTIME is a chain of changes: what holds along the chain holds of the call.
use Rattle.std.proofs.Common.{Bool, List, [], false, true, ℕ, ◌∷◌}
use Rattle.std.specs.Prelude.{nat_lt, if◌then◌else◌}
use Rattle.words_numbers.specs.declared.res.Res.{Res}
use Rattle.words_numbers.specs.declared.res.Res.TheVariants as res
use Rattle.rules_machine.specs.Clock.{changes_each, clock_at, clock_limit, due_as_set, moves_times, sets_real_clock, thread_moved, timer_moved}
use Rattle.rules_machine.specs.Lists.{numbers}
use Rattle.rules_machine.specs.State.{Clock}
use Rattle.rules_machine.specs.Threads.{real_time, thread_numbers}
use Rattle.rules_machine.specs.Turns.{Caller, Turn, becomes, changes, changes_timer, returns}

-- each change leads from a turn to one that it makes of it, and one after another leads on
pub record EachLeads {P : Type 0} (Leads : Turn P → Turn P → Type 0) : Type 0 where
  pub stays : (s : Turn P) → Leads s s
  pub goes_on : (s x y : Turn P) → Leads s x → Leads x y → Leads s y
  pub clock : (clock : Clock) (s : Turn P) → Leads s (becomes (λ m. record m { clock = clock }) s)
  pub thread : (move : ℕ → ℕ) (t : ℕ) (s : Turn P) → Leads s (changes t (thread_moved move) s)
  pub timer : (move : ℕ → ℕ) (k : ℕ) (s : Turn P) → Leads s (changes_timer k (timer_moved move) s)
  pub answer : (by : Caller) (r : Res) (v : ℕ) (s : Turn P) → Leads s (returns by r v s)

module _ {P : Type 0} (Leads : Turn P → Turn P → Type 0) (each : EachLeads Leads) where
  changes_lead : (change : ℕ → Turn P → Turn P) → ((n : ℕ) (s : Turn P) → Leads s (change n s)) → (ns : List ℕ) (s : Turn P) → Leads s (changes_each change ns s)
  changes_lead change one [] s = each.stays s
  changes_lead change one (n ∷ ns) s = each.goes_on s (change n s) (changes_each change ns (change n s)) (one n s) (changes_lead change one ns (change n s))

  pub moves_times_leads : (move : ℕ → ℕ) (s : Turn P) → Leads s (moves_times move s)
  moves_times_leads move s =
      let threads : Turn P = changes_each (λ t. changes t (thread_moved move)) (thread_numbers s.machine) s in
      each.goes_on s threads (moves_times move s) (changes_lead (λ t. changes t (thread_moved move)) (each.thread move) (thread_numbers s.machine) s)
      (changes_lead (λ k. changes_timer k (timer_moved move)) (each.timer move) (numbers s.machine.timers) threads)

  module _ (by : Caller) (reading : ℕ) (s : Turn P) where
    abbrev set : Turn P
    set = becomes (λ m. record m { clock = clock_at reading m.now }) s

    abbrev moved : Turn P
    moved = moves_times (due_as_set s.machine.now (real_time s.machine) reading) set

    by_limit : (b : Bool) → Leads s (if b then returns by res.Inval 0 s else returns by res.Zero 0 moved)
    by_limit true = each.answer by res.Inval 0 s
    by_limit false =
        each.goes_on s moved (returns by res.Zero 0 moved)
        (each.goes_on s set moved (each.clock (clock_at reading s.machine.now) s) (moves_times_leads (due_as_set s.machine.now (real_time s.machine) reading) set)) (each.answer by res.Zero 0 moved)

    pub sets_real_clock_leads : Leads s (sets_real_clock by reading s)
    sets_real_clock_leads = by_limit (nat_lt clock_limit reading)
