-- Who is served first, by the waiters' own law.
use Rattle.std.proofs.Common.{◌≡◌, ◌∙◌, ℕ, Bool, List, Option}
use Rattle.rules_bodies.specs.declared.cursor.Cursor.{Cursor}
use Rattle.rules_machine.specs.State.{Thread, Timer, Wait}
use Rattle.parts_waiters.specs.declared.Place.{Place}
use Rattle.parts_waiters.specs.declared.WaitObj.{WaitObj}
use Rattle.parts_waiters.specs.Places.{best_of}
use Rattle.parts_waiters.specs.Ties.{BestsAreWaiters, is_object, object_of}
use Rattle.parts_owners.specs.Chains.{Links}
use Rattle.kernel_table.specs.Table.{best_in, machine_with}
use Rattle.kernel_table.specs.Tied.{IsTied}

pub best_is : (timers : List Timer) (threads : List (Thread Cursor)) (chain : Links) (places : List (Option Place)) (obj : WaitObj) (r : Option ℕ) → r ≡ best_of obj places → BestsAreWaiters places → IsTied threads chain places →
    (passes : Wait → Bool) → ((w : Wait) → passes w ≡ is_object obj (object_of w)) → r ≡ best_in (record { threads = threads; mutexes = chain.mutexes; timers = timers }) passes
best_is timers threads chain places obj r is law tied passes same =
    is ∙ law (machine_with threads chain.mutexes timers) obj passes same (record { lengths = tied.waiting.lengths; each = tied.waiting.each })
