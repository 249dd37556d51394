-- The law of the window: in every window of one period a strict thread runs at most its initial budget of ticks at its high
-- priority. All of it is this project's own.
use Rattle.std.specs.Prelude.{Bool, None, Option, Some, false, suc, zero, ℕ, ◌≡◌, ◌≤◌, ◌<◌, ◌+◌, ◌==◌, ◌&&◌}
use Rattle.words_numbers.specs.Parameters.{Parameters}
use Rattle.words_script.specs.declared.decl.Script.{Script}
use Rattle.words_script.specs.declared.policy.Policy.TheVariants as policy
use Rattle.rules_machine.specs.Bodies.{Bodies}
use Rattle.rules_machine.specs.State.{Machine}
use Rattle.rules_machine.specs.Threads.{lives, thread_at}
use Rattle.rules_machine.specs.Servers.{has_high}
use Rattle.rules_machine.specs.Dispatch.{runner}
use Rattle.rules_machine.specs.Units.{in_unit}
use Rattle.rules_machine.specs.Budget.{renews}
use Rattle.rules_machine.specs.Machine.{bodies_of}
use Rattle.rules_machine.specs.Runs.{opening, tick_begun, tick_prepared, ticks}
use Rattle.laws_strict_server.specs.Instants.{one_if}

module _ {P : Type 0} (bodies : Bodies P) where
  -- the machine as the head begins its tick: the items are handled, and Close, the dispatch and Open are made
  abbrev pub at_tick : Machine P → Machine P
  at_tick m = (tick_prepared bodies (tick_begun bodies m).machine).machine

  -- who has the tick that begins at the machine's instant
  abbrev pub ticks_next : Machine P → Option ℕ
  ticks_next m = runner (tick_begun bodies m).machine

  abbrev pub is_high_of : Option ℕ → ℕ → Machine P → Bool
  is_high_of None t m = false
  is_high_of (Some u) t m = u == t && has_high (thread_at m t).server

  -- whether that tick is one of the thread at its high priority
  abbrev pub is_high_tick : ℕ → Machine P → Bool
  is_high_tick t m = is_high_of (ticks_next m) t (at_tick m)

  abbrev pub renewed_by : Option ℕ → ℕ → Machine P → Bool
  renewed_by None t m = false
  renewed_by (Some u) t m = renews t (in_unit bodies (thread_at m u)).unit && lives m t

  -- whether a setsched gives the thread a new policy by that tick
  abbrev pub is_renewed : ℕ → Machine P → Bool
  is_renewed t m = renewed_by (ticks_next m) t (at_tick m)

  -- how many of these ticks of a run are ticks of the thread at its high priority
  abbrev pub high_count : ℕ → Machine P → ℕ → ℕ → ℕ
  high_count t start now zero = 0
  high_count t start now (suc len) = one_if (is_high_tick t (ticks bodies now start).machine) + high_count t start (now + 1) len

  -- The law, of each window in which the thread's parameters stand. A setsched takes effect at the end of its tick.
  pub record KeepsWindows (start : Machine P) : Type 0 where
    pub each : (w t : ℕ) (p : Parameters) → (thread_at (ticks bodies w start).machine t).policy ≡ policy.Strict p →
        ((n : ℕ) → w ≤ n → n + 1 < w + p.period → is_renewed t (ticks bodies n start).machine ≡ false) → high_count t start w p.period ≤ p.budget

abbrev pub RunKeepsWindows : Script → Type 0
RunKeepsWindows script = KeepsWindows (bodies_of script) (opening script)
