-- Who waits after a move waited before it, or the move blocks a thread so.
use Rattle.std.proofs.Common.{Bool, None, Option, Some, ap, false, refl, sym, true, ℕ, ◌≡◌}
use Rattle.std.specs.Prelude.{◌&&◌}
use Rattle.std.specs.Option.{option_map_or}
use mathlib.Core.Path.{◌∙◌}
use Rattle.words_script.specs.declared.policy.Policy.{Policy}
use Rattle.words_trace.specs.declared.event.Event.TheVariants as event
use Rattle.rules_server.specs.Server.{ServerState, activate, refill}
use Rattle.rules_machine.specs.Bodies.{Bodies}
use Rattle.rules_machine.specs.State.{Machine, Status, Thread, Wait, Waiting}
use Rattle.rules_machine.specs.Threads.{can_run, no_thread, thread_at, waiting_in}
use Rattle.rules_machine.specs.Waiters.{somebody_waits, waits_so}
use Rattle.rules_machine.specs.Turns.{Turn, changes, moves, tells}
use Rattle.rules_machine.specs.Servers.{activates_if, activates_server, amount_of, at_once, high_server, refills_server, regains_high, with_server}
use Rattle.rules_machine.specs.Waking.{ending_with, on_top, put_to_wait, started, woken}
use Rattle.rules_machine.specs.Lives.{with_joiner, without_life, without_top}
use Rattle.rules_machine.specs.Cancellation.{without_cleanup}
use Rattle.rules_machine.specs.Scheduling.{with_policy, with_priority}
use Rattle.rules_server.specs.Server.{oldest_pending}
use Rattle.rules_moves.specs.Moves.{May, Move, alters, begins, blocks_for, blocks_plainly, does, drops, ends_with, enters_frame, leaves_frame, lives_no_more, prices, pushed, pushes, recasts, refills_one, rejoins, renews_with, wakes_with}
use Rattle.rules_moves.proofs.Cores.{same_of_wait}
use Rattle.rules_moves.proofs.Calls.Commuting.{OfNoThread, activates_part}
use Rattle.rules_moves.proofs.Waiters.Best.{any_before, any_kept, any_same}

-- what a move makes a thread wait for
abbrev pub wait_begun : {P : Type 0} → (Wait → Bool) → Move P → Bool
wait_begun passes (blocks_for by wait due) = passes wait
wait_begun passes (blocks_plainly by wait due) = passes wait
wait_begun passes move = false

module _ {P : Type 0} (passes : Wait → Bool) where
  abbrev somebody : Turn P → Bool
  somebody s = somebody_waits s.machine passes

  -- a change that leaves what its thread waits for
  kept_by : (t : ℕ) (f : Thread P → Thread P) → ((th : Thread P) → waits_so passes (f th) ≡ waits_so passes th) → (s : Turn P) → somebody (changes t f s) ≡ somebody s
  kept_by t f h s = any_kept no_thread t f (waits_so passes) h s.machine.threads

  pub activated_same : (t : ℕ) (o : Option ServerState) (s : Turn P) → somebody (activates_server t o s) ≡ somebody s
  activated_same t None s = refl
  activated_same t (Some server) s = kept_by t (with_server (activate s.machine.now)) (λ th. refl) s

  activated_if_same : (b : Bool) (t : ℕ) (s : Turn P) → somebody (activates_if b t s) ≡ somebody s
  activated_if_same true t s = activated_same t (at_once (thread_at s.machine t).server) s
  activated_if_same false t s = refl

  refilled_same : (t : ℕ) (o : Option ServerState) (s : Turn P) → somebody (refills_server t o s) ≡ somebody s
  refilled_same t None s = refl
  refilled_same t (Some server) s =
      let e = event.Refill t (amount_of (oldest_pending server)) (refill server).capacity in
      activated_if_same (regains_high server && can_run s.machine t) t (tells e (changes t (with_server refill) s)) ∙ kept_by t (with_server refill) (λ th. refl) s

  -- a change into a thread that does not wait so
  before_change : (t : ℕ) (f : Thread P → Thread P) (s : Turn P) → waits_so passes (f (thread_at s.machine t)) ≡ false → somebody (changes t f s) ≡ true → somebody s ≡ true
  before_change t f s h e = any_before no_thread t f (waits_so passes) s.machine.threads e h

  pub waited_before : (bodies : Bodies P) (who : Option ℕ) (move : Move P) (s : Turn P) → May who move s → wait_begun passes move ≡ false → somebody (does bodies move s) ≡ true → somebody s ≡ true
  waited_before bodies who (alters t f) s may h e = sym (kept_by t f (λ th. same_of_wait (λ (o : Option Waiting). option_map_or (λ (w : Waiting). passes w.wait) o false) (λ w. refl) (f th) th (may th)) s) ∙ e
  waited_before bodies who (ends_with t v) s may h e = sym (kept_by t (ending_with v) (λ th. refl) s) ∙ e
  waited_before bodies who (enters_frame t f) s may h e = sym (kept_by t (on_top f) (λ th. refl) s) ∙ e
  waited_before bodies who (leaves_frame t) s may h e = sym (kept_by t without_top (λ th. refl) s) ∙ e
  waited_before bodies who (pushes t u) s may h e = sym (kept_by t (pushed u) (λ th. refl) s) ∙ e
  waited_before bodies who (drops t) s may h e = sym (kept_by t without_cleanup (λ th. refl) s) ∙ e
  waited_before bodies who (prices t p) s may h e = sym (kept_by t (with_priority p) (λ th. refl) s) ∙ e
  waited_before bodies who (renews_with active t new) s may h e =
      sym (activated_if_same active t (changes t (with_policy new s.machine.now) s) ∙ kept_by t (with_policy new s.machine.now) (λ th. refl) s) ∙ e
  waited_before bodies who (wakes_with t ev r v) s may h e =
      let up = tells ev (moves t (changes t (woken r v) s)) in
      before_change t (woken r v) s refl (sym (activated_same t (at_once (high_server (thread_at up.machine t).server)) up) ∙ e)
  waited_before bodies who (blocks_for by wait due) s may h e =
      before_change by.thread (put_to_wait (record { wait = wait; serial = s.machine.next_serial; due = due; call = by.call })) s h e
  waited_before bodies who (blocks_plainly by wait due) s may h e = before_change by.thread (put_to_wait (record { wait = wait; serial = 0; due = due; call = by.call })) s h e
  waited_before bodies who (begins t mask) s may h e =
      let up = tells (event.Start t) (moves t (changes t (started bodies t mask s.machine.now) s)) in
      before_change t (started bodies t mask s.machine.now) s refl (sym (activated_same t (at_once (thread_at up.machine t).server) up) ∙ e)
  waited_before bodies who (lives_no_more t) s may h e = before_change t without_life s refl e
  waited_before bodies who (recasts t f) s may h e =
      sym (any_same no_thread t f (waits_so passes) s.machine.threads (ap (λ (status : Status). option_map_or (λ (w : Waiting). passes w.wait) (waiting_in status) false) may)) ∙ e
  waited_before bodies who (rejoins t j) s may h e = sym (kept_by t (with_joiner j) (λ th. refl) s) ∙ e
  waited_before bodies who (refills_one t) s may h e = sym (refilled_same t (thread_at s.machine t).server s) ∙ e
  waited_before bodies who _ s may h e = e

-- ---- a part that no change of a thread touches

module _ {P : Type 0} {X : Type 0} (part : Machine P → X) (h : OfNoThread part) where
  part_activated : (b : Bool) (t : ℕ) (s : Turn P) → part (activates_if b t s).machine ≡ part s.machine
  part_activated true t s = activates_part part h t (at_once (thread_at s.machine t).server) s
  part_activated false t s = refl

  part_refilled : (t : ℕ) (o : Option ServerState) (s : Turn P) → part (refills_server t o s).machine ≡ part s.machine
  part_refilled t None s = refl
  part_refilled t (Some server) s =
      let e = event.Refill t (amount_of (oldest_pending server)) (refill server).capacity in
      part_activated (regains_high server && can_run s.machine t) t (tells e (changes t (with_server refill) s)) ∙ h s.machine _

  -- the moves in which a thread is activated
  pub part_renewed : (active : Bool) (t : ℕ) (new : Policy) (bodies : Bodies P) (s : Turn P) → part (does bodies (renews_with active t new) s).machine ≡ part s.machine
  part_renewed active t new bodies s = part_activated active t (changes t (with_policy new s.machine.now) s) ∙ h s.machine _

  pub part_begun : (bodies : Bodies P) (t mask : ℕ) (s : Turn P) → part (does bodies (begins t mask) s).machine ≡ part s.machine
  part_begun bodies t mask s =
      let up = tells (event.Start t) (moves t (changes t (started bodies t mask s.machine.now) s)) in
      activates_part part h t (at_once (thread_at up.machine t).server) up ∙ h s.machine _

  pub part_refill : (bodies : Bodies P) (t : ℕ) (s : Turn P) → part (does bodies (refills_one t) s).machine ≡ part s.machine
  part_refill bodies t s = part_refilled t (thread_at s.machine t).server s
