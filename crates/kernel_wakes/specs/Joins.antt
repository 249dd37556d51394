-- What joins, ends and requests may count on.
use Rattle.std.specs.Prelude.{◌≡◌, ◌<◌, ℕ, Some, length, true}
use Rattle.rules_machine.specs.State.{Joiner, Machine, Wait, Waiting, for_end, has_joined, nobody, waits_to_join}
use Rattle.rules_machine.specs.Threads.{is_blocked, thread_at, waiting_of}
use Rattle.kernel_threads.specs.Unused.{IsUnused}

pub record JoinsFit {P : Type 0} (m : Machine P) : Type 0 where
  -- a thread that waits to join another is blocked
  pub joiners : (t u : ℕ) → (thread_at m t).joiner ≡ waits_to_join u → is_blocked (thread_at m u).status ≡ true
  -- and what it waits to join is a thread
  pub ends : (u t : ℕ) (w : Waiting) → waiting_of m u ≡ Some w → w.wait ≡ for_end t → t < length m.threads

-- a joiner is a thread, and its server has consumed nothing that is not planned
abbrev pub JoinerFits : {P : Type 0} → Machine P → Joiner → Type 0
JoinerFits m nobody = Unit {0}
JoinerFits m has_joined = Unit {0}
JoinerFits m (waits_to_join u) = (u < length m.threads) × IsUnused (thread_at m u).server

-- a thread whose end is waited for is one of so many
abbrev pub EndIsKnown : ℕ → Wait → Type 0
EndIsKnown n (for_end t) = t < n
EndIsKnown n wait = Unit {0}
