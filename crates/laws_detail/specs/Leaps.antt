-- What `detail` tells of a leap. All of it is this project's own.
use Rattle.std.specs.Prelude.{List, None, nat_le, ℕ, ◌+◌, ◌++◌, ◌≡◌, ◌≤◌, if◌then◌else◌}
use Rattle.words_script.specs.declared.decl.Script.{Script}
use Rattle.words_trace.specs.Text.{Entry, lines}
use Rattle.rules_machine.specs.Machine.{bodies_of, machine, names_of}
use Rattle.rules_machine.specs.Runs.{ticks}
use Rattle.rules_leaps.specs.Quiet.{handled_at}
use Rattle.laws_detail.specs.Looks.{NoneAfter, begun_turn, facts_told, told_until}
use Rattle.laws_detail.specs.Rests.{leap_at}

-- the facts that two looks tell of a leap, at its start and one tick behind it, or one look where it is one tick
abbrev pub looks_told : Script → ℕ → ℕ → List ℕ
looks_told script n length = if nat_le 2 length then facts_told script n ++ facts_told script (n + 1) else facts_told script n

-- the events of the leap from an instant
abbrev pub leap_events : Script → ℕ → ℕ → List Entry
leap_events script most n = (ticks (bodies_of script) (leap_at script most n) (machine script n)).events

-- The leap from an instant at which the process has not ended, of at most so many ticks. Behind what was told come the lines of what
-- begins its first tick, then what the looks tell, and then the lines of the rest of its events.
pub record LeapIsTold (script : Script) (most n : ℕ) : Type 0 where
  pub later : (machine script (n + leap_at script most n)).now ≡ n + leap_at script most n
  pub none_after : (told : List Entry) → NoneAfter n told → NoneAfter (n + leap_at script most n) (told ++ leap_events script most n)
  pub told : (told rest : List Entry) → NoneAfter n told
      → leap_events script most n ≡ (begun_turn (bodies_of script) (machine script n)).events ++ rest
      → told_until script (told ++ leap_events script most n) (n + leap_at script most n)
      ≡ ((told_until script told n ++ lines (names_of script) (begun_turn (bodies_of script) (machine script n)).events) ++ looks_told script n (leap_at script most n)) ++ lines (names_of script) rest

-- so it is of each instant that a run comes to alive
abbrev pub LeapsAreTold : Script → Type 0
LeapsAreTold script = (most : ℕ) → (n : ℕ) → 1 ≤ most → (machine script n).now ≡ n → (handled_at script n).machine.killed ≡ None → LeapIsTold script most n
