-- The ties of a table where a mutex goes from its owner to a thread that wakes, and no priority changes.
use Rattle.std.proofs.Common.{◌≡◌, ◌<◌, ℕ, List, None, Option, ap, length, refl, sym}
use Rattle.std.proofs.lemmas.List.{get_or-set_other}
use Rattle.words_numbers.specs.declared.res.Res.{Res}
use Rattle.rules_bodies.specs.declared.cursor.Cursor.{Cursor}
use Rattle.rules_machine.specs.Lists.{changed_at}
use Rattle.rules_machine.specs.State.{Thread, Timer}
use Rattle.rules_machine.specs.Threads.{no_thread, thread_in}
use Rattle.rules_machine.specs.Waking.{woken}
use Rattle.rules_machine.proofs.Reading.{changed-length}
use Rattle.parts_waiters.specs.declared.Place.{Place}
use Rattle.parts_owners.specs.Chains.{Links, waiting_for}
use Rattle.parts_owners.specs.Moves.{Passes, freed_at, left, parted_at}
use Rattle.kernel_table.specs.Movers.{KeepsOthers, TellsMoved}
use Rattle.kernel_table.specs.Tied.{IsTied}
use Rattle.kernel_table.proofs.Moved.{moved_tied, mutex_tied, wait_set}
use Rattle.kernel_table.proofs.ToldMoves.{handed_over, table_with, told}

module _ (timers : List Timer) (threads : List (Thread Cursor)) (chain new : Links) (places after : List (Option Place)) (k t : ℕ) (res : Res) (value : ℕ)
    (known : t < length threads) (tied : IsTied threads chain places) (p : Passes k t chain new places after) where
  abbrev wakes : Thread Cursor → Thread Cursor
  wakes th = woken res value th

  abbrev ths : List (Thread Cursor)
  ths = changed_at no_thread t wakes threads

  long : length ths ≡ length threads
  long = changed-length no_thread t wakes threads

  freed_tied : IsTied threads (freed_at k chain) places
  freed_tied = mutex_tied threads chain (freed_at k chain) places places refl (record { same = p.freed.same; stand = p.freed.placed.stand }) tied

  parted_tied : IsTied ths (parted_at k t chain) after
  parted_tied =
      moved_tied threads (freed_at k chain) (parted_at k t chain) places (left t places) after t wakes (waiting_for None) refl refl
      (wait_set threads (freed_at k chain) places t wakes None known refl freed_tied) (record { same = p.parted.same; stand = p.parted.placed.stand }) freed_tied

  pub passed_tied : IsTied ths new after
  passed_tied = mutex_tied ths (parted_at k t chain) new after after (ap (λ (l : Links). l.claims) p.chain) (record { same = p.taken.same; stand = p.taken.placed.stand }) parted_tied

  pub told_freed : TellsMoved (table_with timers threads chain) (table_with timers threads (freed_at k chain)) None
  told_freed = told timers threads threads chain (freed_at k chain) places places None refl tied freed_tied p.freed.moved

  pub told_woken : TellsMoved (table_with timers threads (freed_at k chain)) (table_with timers ths (parted_at k t chain)) None
  told_woken = told timers threads ths (freed_at k chain) (parted_at k t chain) places after None long freed_tied parted_tied p.parted.moved

  told_taken : TellsMoved (table_with timers ths (parted_at k t chain)) (table_with timers ths new) None
  told_taken = told timers ths ths (parted_at k t chain) new after after None refl parted_tied passed_tied p.taken.moved

  pub told_others : KeepsOthers t None None (table_with timers threads chain) (table_with timers ths new)
  told_others =
      handed_over (table_with timers threads chain) (table_with timers threads (freed_at k chain)) (table_with timers ths (parted_at k t chain)) (table_with timers ths new) t None None None
      told_freed told_woken told_taken tt refl long
      (λ u other. sym (get_or-set_other threads t u (wakes (thread_in threads t)) no_thread other))
