-- The account of a thread in a turn: every move keeps it.
use Rattle.std.proofs.Common.{Bool, None, Option, Some, ap, arith, false, inl, inr, length, refl, suc, sym, true, zero, ℕ, ◌<◌, ◌≡◌, ◌⊎◌}
use Rattle.std.specs.Prelude.{is_some, not, option_and_then, option_map, ◌==◌, ◌&&◌, if◌then◌else◌}
use mathlib.Core.Path.{subst, ◌∙◌}
use Rattle.words_numbers.specs.Parameters.{Parameters}
use Rattle.words_numbers.specs.declared.res.Res.{Res}
use Rattle.words_script.specs.declared.policy.Policy.{Policy}
use Rattle.words_trace.specs.declared.event.Event.{Event}
use Rattle.words_trace.specs.declared.event.Event.TheVariants as event
use Rattle.rules_server.specs.declared.ServerKind.TheVariants as server_kind
use Rattle.rules_server.specs.Server.{ServerState, activate, is_high, new_server, next_due, oldest_pending, refill, set_high}
use Rattle.rules_machine.specs.Lists.{changed_at, is}
use Rattle.rules_machine.specs.Bodies.{Bodies}
use Rattle.rules_machine.specs.State.{Joiner, Status, Thread, Waiting, blocked, dormant, ended, for_mutex_again, runnable}
use Rattle.rules_machine.specs.Threads.{can_run, is_blocked, is_dormant, is_live, is_runnable, no_thread, thread_at, thread_in}
use Rattle.rules_machine.specs.Turns.{Turn, changes, moves, tells}
use Rattle.rules_machine.specs.Servers.{activates_if, activates_server, amount_of, at_once, high_server, refills_server, regains_high, server_of, with_server}
use Rattle.rules_machine.specs.Scheduling.{at_priority, with_priority}
use Rattle.rules_machine.specs.Waking.{ending_with, on_top, put_to_wait, started, wakes_telling, woken}
use Rattle.rules_machine.specs.Lives.{with_joiner, without_life, without_top}
use Rattle.rules_machine.specs.Cancellation.{without_cleanup}
use Rattle.rules_machine.specs.DueItems.{has_come}
use Rattle.rules_machine.specs.GoodState.{has_server_policy}
use Rattle.rules_machine.proofs.Reading.{changed-length, thread-other, thread-same}
use Rattle.rules_moves.specs.Moves.{Core, MayAwake, Move, alters, at_some_time, begins, blocks_for, blocks_plainly, core_of, does, drops, ends_with, enters_frame, leaves_frame, lives_no_more, prices, pushed, pushes, recasts, refills_one, rejoins, renews_with, tells_of, wakes_with}
use Rattle.rules_moves.proofs.Cores.{timeless}
use Rattle.rules_moves.proofs.Waiters.Best.{blocked_within, running_within}
use Rattle.rules_moves.proofs.Waiters.OfThreads.{changed_is}
use Rattle.laws_machine.proofs.Servers.OfThreads.{ThreadRight, none_consumed, only}
use Rattle.laws_machine.proofs.Servers.Right.{ServerIn}
use Rattle.laws_machine.proofs.Servers.Moves.{Awake, Threads, here, in_wait, sleeper}
use Rattle.laws_machine.proofs.Servers.Ends.{has_server}
use Rattle.tool_audit.specs.declared.server.Limits.{Limits}
use Rattle.tool_audit.specs.Marks.{Saying, exits, is_activated, is_refilled, nothing}
use Rattle.tool_audit.specs.Marks as marks
use Rattle.tool_audit.specs.Replay.{Account, after_saying, broken_now}
use Rattle.laws_audit.specs.Events.{is_end_event, said_by}
use Rattle.laws_audit.proofs.Standing.{Stands, told_stands}
use Rattle.laws_audit.proofs.Accounts.{Agrees, Blank, Booked, IsLimit, Still, activation_kept, active_booked, begin_kept, exit_kept, low_booked, new_agrees, other_status, plain_kept, priced_booked}
use Rattle.laws_audit.proofs.Refills.{refill_comes, refill_stays, refill_still, refilled_of}
use Rattle.laws_audit.proofs.AccountFits.{Fits, Owing, at_once_is, at_once_some, blocked_lives, contra, dormant_dead, dormant_not_ended, is_ended, live_lives, lives_account, mine_says, not_mine, quiet_plain, quiet_said, refit, runs_lives, same_account, same_activated, same_refilled}

-- ---- in a turn

module _ {P : Type 0} (bodies : Bodies P) (t : ℕ) (lim : Limits) (a : Account) (own tolled : Bool) where
  abbrev pub FitsOf : (ℕ → Status → ServerState → Account → Type 0) → ℕ → Thread P → Account → Type 0
  FitsOf Q now th b = Fits lim own tolled Q now th.status th.policy th.server th.ticks b

  abbrev pub StandsIn : Turn P → Account → Type 0
  StandsIn s b = Stands t lim a s.events s.machine.now s.machine.last b

  abbrev pub Has : (ℕ → Status → ServerState → Account → Type 0) → Turn P → Type 0
  Has Q s = (b : Account) × StandsIn s b × FitsOf Q s.machine.now (thread_at s.machine t) b

  abbrev pub Recorded : Turn P → Type 0
  Recorded s = Has (Booked lim) s

  pub one : (Q : ℕ → Status → ServerState → Account → Type 0) (v : ℕ) (f : Thread P → Thread P) (s : Turn P) →
      ((b : Account) → FitsOf Q s.machine.now (thread_at s.machine v) b → FitsOf Q s.machine.now (f (thread_at s.machine v)) b) → Has Q s → Has Q (changes v f s)
  one Q v f s h q = (q.0, q.1, of_two (changed_is no_thread v t f s.machine.threads))
    where
      of_two : ((v ≡ t) × (thread_in (changed_at no_thread v f s.machine.threads) t ≡ f (thread_at s.machine v))) ⊎ (thread_in (changed_at no_thread v f s.machine.threads) t ≡ thread_at s.machine t) →
          FitsOf Q s.machine.now (thread_at (changes v f s).machine t) q.0
      of_two (inl e) = subst (λ (th : Thread P). FitsOf Q s.machine.now th q.0) (sym e.1)
          (h q.0 (subst (λ (i : ℕ). FitsOf Q s.machine.now (thread_at s.machine i) q.0) (sym e.0) q.2))
      of_two (inr e) = subst (λ (th : Thread P). FitsOf Q s.machine.now th q.0) (sym e) q.2

  pub own_change : (Q R : ℕ → Status → ServerState → Account → Type 0) (f : Thread P → Thread P) (s : Turn P) → t < length s.machine.threads →
      ((b : Account) → FitsOf Q s.machine.now (thread_at s.machine t) b → FitsOf R s.machine.now (f (thread_at s.machine t)) b) → Has Q s → Has R (changes t f s)
  own_change Q R f s within h q = (q.0, q.1, subst (λ (th : Thread P). FitsOf R s.machine.now th q.0) (sym (thread-same s.machine t f within)) (h q.0 q.2))

  pub other : (Q : ℕ → Status → ServerState → Account → Type 0) (v : ℕ) (f : Thread P → Thread P) (s : Turn P) → (v == t) ≡ false → Has Q s → Has Q (changes v f s)
  other Q v f s e q = (q.0, q.1, subst (λ (th : Thread P). FitsOf Q s.machine.now th q.0) (sym (thread-other s.machine v t f e)) q.2)

  -- something is told that says nothing of the thread
  pub told_nothing : (Q : ℕ → Status → ServerState → Account → Type 0) (e : Event) (s : Turn P) → is_end_event e ≡ false → said_by t e ≡ nothing → Has Q s → Has Q (tells e s)
  told_nothing Q e s plain none q = (q.0, told_stands t lim a s.events s.machine.now s.machine.last s.machine.last e nothing q.0 plain none q.2.at (plain_kept lim q.0 q.2.clear) q.1.has q.1, q.2)

  -- something is told of the thread, after it was changed
  pub told_as : (Q : ℕ → Status → ServerState → Account → Type 0) (R : ℕ → Thread P → Account → Type 0) (e : Event) (w : Saying) (f : Thread P → Thread P) (s : Turn P) → t < length s.machine.threads → is_end_event e ≡ false → said_by t e ≡ w → (q : Has Q s) →
      (broken_now lim q.0 w ≡ None) × ((after_saying q.0 w).has ≡ q.0.has) × R s.machine.now (f (thread_at s.machine t)) (after_saying q.0 w) → (b : Account) × StandsIn (tells e (changes t f s)) b × R s.machine.now (thread_at (changes t f s).machine t) b
  told_as Q R e w f s within plain said q k = (
    after_saying q.0 w,
    told_stands t lim a s.events s.machine.now s.machine.last s.machine.last e w q.0 plain said q.2.at k.0 (k.1 ∙ q.1.has) q.1,
    subst (λ (th : Thread P). R s.machine.now th (after_saying q.0 w)) (sym (thread-same s.machine t f within)) k.2,
  )

  pub told_changed : (Q R : ℕ → Status → ServerState → Account → Type 0) (e : Event) (w : Saying) (f : Thread P → Thread P) (s : Turn P) → t < length s.machine.threads → is_end_event e ≡ false → said_by t e ≡ w → (q : Has Q s) →
      (broken_now lim q.0 w ≡ None) × ((after_saying q.0 w).has ≡ q.0.has) × FitsOf R s.machine.now (f (thread_at s.machine t)) (after_saying q.0 w) → Has R (tells e (changes t f s))
  told_changed Q R e w f s within plain said q k = told_as Q (FitsOf R) e w f s within plain said q k

  -- ---- an activation

  -- nothing is consumed, and the priority is high
  abbrev pub Rises : ℕ → Status → ServerState → Account → Type 0
  Rises now status x b = Still lim now status x b × (is_high x ≡ true)

  pub activates_other : (Q : ℕ → Status → ServerState → Account → Type 0) (v : ℕ) (o : Option ServerState) (s : Turn P) → (v == t) ≡ false → Has Q s → Has Q (activates_server v o s)
  activates_other Q v None s e q = q
  activates_other Q v (Some server) s e q =
      told_nothing Q (event.Activate v server.capacity) (changes v (with_server (activate s.machine.now)) s) refl (not_mine (v == t) (is_activated server.capacity) e) (other Q v (with_server (activate s.machine.now)) s e q)

  active_owing : (now : ℕ) (o : Option ServerState) → Owing lim own tolled o → Owing lim own tolled (option_map (activate now) o)
  active_owing now o k = (activate now k.0, ap (option_map (activate now)) k.1, k.2, k.3)

  activates_some : (server : ServerState) (s : Turn P) → (thread_at s.machine t).server ≡ Some server → (is_dormant (thread_at s.machine t).status ≡ false) × (is_ended (thread_at s.machine t).status ≡ false) → t < length s.machine.threads → Has Rises s → Recorded (activates_server t (Some server) s)
  activates_some server s e live within q =
      let th = thread_at s.machine t in
      let b = q.0 in
      let now = s.machine.now in
      let rises = q.2.each server e in
      told_changed Rises (Booked lim) (event.Activate t server.capacity) (is_activated server.capacity) (with_server (activate now)) s within refl (mine_says t (is_activated server.capacity)) q (
        activation_kept lim now server b q.2.clear (lives_account lim own tolled Rises now th.status th.policy th.server th.ticks b live q.2) rises.0.0 rises.0.1 rises.1,
        refl,
        refit lim own tolled Rises (Booked lim) now th.status th.status th.policy th.server (option_map (activate now) th.server) th.ticks b (after_saying b (is_activated server.capacity)) (same_activated lim own tolled b server.capacity) live live (λ o. active_owing now th.server)
            (λ x k. active_booked lim now server.capacity th.status x b q.2.at (server, only (sym k ∙ ap (option_map (activate now)) e), rises.0)) q.2,
      )

  activates_own : (o : Option ServerState) (s : Turn P) → at_once (thread_at s.machine t).server ≡ o → (is_dormant (thread_at s.machine t).status ≡ false) × (is_ended (thread_at s.machine t).status ≡ false) → t < length s.machine.threads → Has Rises s → Recorded (activates_server t o s)
  activates_own None s e live within q =
      let th = thread_at s.machine t in
      (q.0, q.1, refit lim own tolled Rises (Booked lim) s.machine.now th.status th.status th.policy th.server th.server th.ticks q.0 q.0 (same_account lim own tolled q.0) live live (λ o k. k) (λ x k. absurd (at_once_some th.server x k (q.2.each x k).0.0.sporadic e)) q.2)
  activates_own (Some server) s e live within q = activates_some server s (at_once_is (thread_at s.machine t).server server e) live within q

  -- where the priority is high
  activates_high : (o : Option ServerState) (s : Turn P) → at_once (high_server (thread_at s.machine t).server) ≡ o → (is_dormant (thread_at s.machine t).status ≡ false) × (is_ended (thread_at s.machine t).status ≡ false) → t < length s.machine.threads → Has (Still lim) s → Recorded (activates_server t o s)
  activates_high None s e live within q =
      let th = thread_at s.machine t in (
        q.0,
        q.1,
        refit lim own tolled (Still lim) (Booked lim) s.machine.now th.status th.status th.policy th.server th.server th.ticks q.0 q.0 (same_account lim own tolled q.0) live live (λ o k. k)
            (λ x k. low_booked lim s.machine.now th.status x q.0 (λ runs high. not_low x (is_high x) high (q.2.each x k).0.sporadic (ap (λ (y : Option ServerState). at_once (high_server y)) (sym k) ∙ e)) (q.2.each x k)) q.2,
      )
    where
      not_low : (x : ServerState) (b : Bool) → b ≡ true → x.kind ≡ server_kind.Sporadic → at_once (if b then Some x else None) ≡ None → ⊥
      not_low x true h sort k = at_once_some (Some x) x refl sort k
      not_low x false h sort k = absurd (grind arith)
  activates_high (Some server) s e live within q =
      let th = thread_at s.machine t in
      let found = is_server th.server (at_once_is (high_server th.server) server e) in
      activates_some server s found.0 live within (
        q.0,
        q.1,
        refit lim own tolled (Still lim) Rises s.machine.now th.status th.status th.policy th.server th.server th.ticks q.0 q.0 (same_account lim own tolled q.0) live live (λ o k. k)
            (λ x k. (q.2.each x k, subst (λ (y : ServerState). is_high y ≡ true) (only (sym found.0 ∙ k)) found.1)) q.2,
      )
    where
      is_server : (o : Option ServerState) → high_server o ≡ Some server → (o ≡ Some server) × (is_high server ≡ true)
      is_server None k = absurd (grind arith)
      is_server (Some y) k = by_high (is_high y) refl k
        where
          by_high : (c : Bool) → is_high y ≡ c → (if c then Some y else None) ≡ Some server → (Some y ≡ Some server) × (is_high server ≡ true)
          by_high true h k = (k, subst (λ (z : ServerState). is_high z ≡ true) (only k) h)
          by_high false h k = absurd (grind arith)

  -- ---- a waking

  wakes_recorded : (v : ℕ) (e : Event) (r : Res) (n : ℕ) (s : Turn P) → is_blocked (thread_at s.machine v).status ≡ true → is_end_event e ≡ false → said_by t e ≡ nothing → ((x : ServerState) → (thread_at s.machine v).server ≡ Some x → x.consumed ≡ 0) → Recorded s → Recorded (wakes_telling e v r n s)
  wakes_recorded v e r n s b plain silent none q = by_eq (v == t) refl
    where
      mine : is_blocked (thread_at s.machine t).status ≡ true → ((x : ServerState) → (thread_at s.machine t).server ≡ Some x → x.consumed ≡ 0) → Recorded (wakes_telling e t r n s)
      mine b none =
          let th = thread_at s.machine t in
          let within : t < length s.machine.threads = blocked_within s.machine.threads t b in
          let up = tells e (moves t (changes t (woken r n) s)) in
          let live : (is_dormant (thread_at up.machine t).status ≡ false) × (is_ended (thread_at up.machine t).status ≡ false) =
          runs_lives (thread_at up.machine t).status (ap (λ (x : Thread P). is_runnable x.status) (thread-same s.machine t (woken r n) within)) in
          activates_high (at_once (high_server (thread_at up.machine t).server)) up refl live (subst (λ (k : ℕ). t < k) (sym (changed-length no_thread t (woken r n) s.machine.threads)) within)
          (told_nothing (Still lim) e (moves t (changes t (woken r n) s)) plain silent
          (own_change (Booked lim) (Still lim) (woken r n) s within
          (λ c f. refit lim own tolled (Booked lim) (Still lim) s.machine.now th.status runnable th.policy th.server th.server th.ticks c c (same_account lim own tolled c) (blocked_lives th.status b) (refl, refl) (λ o k. k) (λ x k. ((f.each x k).agrees, none x k)) f) q))

      by_eq : (c : Bool) → (v == t) ≡ c → Recorded (wakes_telling e v r n s)
      by_eq true k =
          let it : t ≡ v = grind arith in
          subst (λ (i : ℕ). Recorded (wakes_telling e i r n s)) it
          (mine (subst (λ (i : ℕ). is_blocked (thread_at s.machine i).status ≡ true) (sym it) b) (subst (λ (i : ℕ). (x : ServerState) → (thread_at s.machine i).server ≡ Some x → x.consumed ≡ 0) (sym it) none))
      by_eq false k =
          let up = tells e (moves v (changes v (woken r n) s)) in
          activates_other (Booked lim) v (at_once (high_server (thread_at up.machine v).server)) up k (told_nothing (Booked lim) e (moves v (changes v (woken r n) s)) plain silent (other (Booked lim) v (woken r n) s k q))

  -- ---- a start

  new_rises : (now : ℕ) (p : Parameters) (b : Account) → IsLimit lim p → Blank lim b → Rises now runnable (new_server p now) (after_saying b marks.begins)
  new_rises now p b l k = let some = l.some in let many = l.many in ((new_agrees lim now p b l k, refl), grind arith)

  begins_recorded : (who : Option ℕ) (v mask : ℕ) (s : Turn P) → is_dormant (thread_at s.machine v).status ≡ true → Threads bodies who s → Recorded s → Recorded (does bodies (begins v mask) s)
  begins_recorded who v mask s d all q = by_eq (v == t) refl
    where
      mine : is_dormant (thread_at s.machine t).status ≡ true → Recorded (does bodies (begins t mask) s)
      mine d =
          let th = thread_at s.machine t in
          let now = s.machine.now in
          let within : t < length s.machine.threads = here bodies None is_dormant refl s.machine.threads t d in
          let f = started bodies t mask now in
          let up = tells (event.Start t) (moves t (changes t f s)) in
          let b = q.0 in
          let old = q.2 in
          let blank = old.blank d in
          let rule = old.limits in
          let begun : Has Rises up = told_changed (Booked lim) Rises (event.Start t) marks.begins f s within refl (mine_says t marks.begins) q (
            begin_kept lim b old.clear (old.started ∙ ap not d),
            refl,
            record {
              clear = old.clear;
              at = old.at;
              started = refl;
              exited = old.exited ∙ dormant_not_ended th.status d;
              ticks = old.ticks;
              blank = λ e. absurd (grind arith);
              limits = old.limits;
              fresh = old.fresh;
              owes = λ o. absurd (no_server th.server (has_none th d) (old.owes o).2);
              each = λ x k. subst (λ (y : ServerState). Rises now runnable y (after_saying b marks.begins)) (only (sym (ap (λ (r : Policy). server_of r now) rule.1) ∙ k)) (new_rises now rule.0 b rule.2 blank);
            },
          ) in
          let live : (is_dormant (thread_at up.machine t).status ≡ false) × (is_ended (thread_at up.machine t).status ≡ false) =
          runs_lives (thread_at up.machine t).status (ap (λ (x : Thread P). is_runnable x.status) (thread-same s.machine t f within)) in
          activates_own (at_once (thread_at up.machine t).server) up refl live (subst (λ (k : ℕ). t < k) (sym (changed-length no_thread t f s.machine.threads)) within) begun
        where
          no_server : (o : Option ServerState) → is_some o ≡ false → Owing lim own tolled o → ⊥
          no_server None e k = absurd (grind (arith, k.1))
          no_server (Some x) e k = absurd (grind arith)

          has_none : (th : Thread P) → is_dormant (thread_at s.machine t).status ≡ true → is_some (thread_at s.machine t).server ≡ false
          has_none th d = (all t).having ∙ dormant_dead (thread_at s.machine t).status (has_server_policy (thread_at s.machine t).policy) d

      by_eq : (c : Bool) → (v == t) ≡ c → Recorded (does bodies (begins v mask) s)
      by_eq true k = let it : t ≡ v = grind arith in subst (λ (i : ℕ). Recorded (does bodies (begins i mask) s)) it (mine (subst (λ (i : ℕ). is_dormant (thread_at s.machine i).status ≡ true) (sym it) d))
      by_eq false k =
          let f = started bodies v mask s.machine.now in
          let up = tells (event.Start v) (moves v (changes v f s)) in
          activates_other (Booked lim) v (at_once (thread_at up.machine v).server) up k
          (told_nothing (Booked lim) (event.Start v) (moves v (changes v f s)) refl (not_mine (v == t) marks.begins k) (other (Booked lim) v f s k q))

  -- ---- an end

  exits_recorded : (v : ℕ) (s : Turn P) → can_run s.machine v ≡ true → Recorded s → Recorded (does bodies (lives_no_more v) s)
  exits_recorded v s runs q = by_eq (v == t) refl
    where
      mine : can_run s.machine t ≡ true → Recorded (tells (event.Exit t) (changes t without_life s))
      mine runs =
          let th = thread_at s.machine t in
          let b = q.0 in
          let old = q.2 in
          told_changed (Booked lim) (Booked lim) (event.Exit t) exits without_life s (running_within s.machine.threads t runs) refl (mine_says t exits) q (
            exit_kept lim b old.clear (lives_account lim own tolled (Booked lim) s.machine.now th.status th.policy th.server th.ticks b (runs_lives th.status runs) old),
            refl,
            record {
              clear = old.clear;
              at = old.at;
              started = old.started ∙ ap not (runs_lives th.status runs).0;
              exited = refl;
              ticks = old.ticks;
              blank = λ e. absurd (grind arith);
              limits = old.limits;
              fresh = old.fresh;
              owes = λ o. absurd (grind arith);
              each = λ x k. absurd (grind arith);
            },
          )

      by_eq : (c : Bool) → (v == t) ≡ c → Recorded (tells (event.Exit v) (changes v without_life s))
      by_eq true k = let it : t ≡ v = grind arith in subst (λ (i : ℕ). Recorded (tells (event.Exit i) (changes i without_life s))) it (mine (subst (λ (i : ℕ). can_run s.machine i ≡ true) (sym it) runs))
      by_eq false k = told_nothing (Booked lim) (event.Exit v) (changes v without_life s) refl (not_mine (v == t) exits k) (other (Booked lim) v without_life s k q)

  -- ---- a refill

  activates_if_other : (Q : ℕ → Status → ServerState → Account → Type 0) (c : Bool) (v : ℕ) (s : Turn P) → (v == t) ≡ false → Has Q s → Has Q (activates_if c v s)
  activates_if_other Q true v s e q = activates_other Q v (at_once (thread_at s.machine v).server) s e q
  activates_if_other Q false v s e q = q

  refills_other : (v : ℕ) (o : Option ServerState) (s : Turn P) → (v == t) ≡ false → Recorded s → Recorded (refills_server v o s)
  refills_other v None s e q = q
  refills_other v (Some server) s e q =
      let up = changes v (with_server refill) s in
      let amount = amount_of (oldest_pending server) in
      activates_if_other (Booked lim) (regains_high server && can_run s.machine v) v (tells (event.Refill v amount (refill server).capacity) up) e
      (told_nothing (Booked lim) (event.Refill v amount (refill server).capacity) up refl (not_mine (v == t) (is_refilled amount (refill server).capacity) e) (other (Booked lim) v (with_server refill) s e q))

  refills_mine : (server : ServerState) (s : Turn P) → own ≡ false → (thread_at s.machine t).server ≡ Some server → is_live (thread_at s.machine t).status ≡ true → has_come (next_due server) s.machine.now ≡ true → ServerIn own s.machine.now (thread_at s.machine t).status server →
      (is_high server ≡ false → server.consumed ≡ 0) → Recorded s → Recorded (refills_server t (Some server) s)
  refills_mine server s not_own e alive come right idle q = by_regain (regains_high server && can_run s.machine t) refl
    where
      th : Thread P
      th = thread_at s.machine t

      now : ℕ
      now = s.machine.now

      within : t < length s.machine.threads
      within = has_server s.machine.threads t server e

      live : (is_dormant (thread_at s.machine t).status ≡ false) × (is_ended (thread_at s.machine t).status ≡ false)
      live = live_lives (thread_at s.machine t).status alive

      b : Account
      b = q.0

      fits : FitsOf (Booked lim) s.machine.now (thread_at s.machine t) q.0
      fits = q.2

      comes : (broken_now lim q.0 (refilled_of server) ≡ None) × Agrees lim s.machine.now (refill server) (after_saying q.0 (refilled_of server))
      comes = refill_comes lim s.machine.now server q.0 come fits.clear (lives_account lim own tolled (Booked lim) s.machine.now (thread_at s.machine t).status (thread_at s.machine t).policy (thread_at s.machine t).server (thread_at s.machine t).ticks q.0 live fits)
          fits.at right.sound (fits.each server e).agrees

      told_as : (R : ℕ → Status → ServerState → Account → Type 0) → R s.machine.now (thread_at s.machine t).status (refill server) (after_saying q.0 (refilled_of server)) →
          Has R (tells (event.Refill t (amount_of (oldest_pending server)) (refill server).capacity) (changes t (with_server refill) s))
      told_as R h =
          told_changed (Booked lim) R (event.Refill t (amount_of (oldest_pending server)) (refill server).capacity) (refilled_of server) (with_server refill) s within refl (mine_says t (refilled_of server)) q (
            comes.0,
            refl,
            refit lim own tolled (Booked lim) R s.machine.now (thread_at s.machine t).status (thread_at s.machine t).status (thread_at s.machine t).policy (thread_at s.machine t).server (option_map refill (thread_at s.machine t).server) (thread_at s.machine t).ticks
                q.0 (after_saying q.0 (refilled_of server)) (same_refilled lim own tolled q.0 (amount_of (oldest_pending server)) (refill server).capacity) live live (λ o. absurd (contra o not_own))
                (λ x k. subst (λ (y : ServerState). R s.machine.now (thread_at s.machine t).status y (after_saying q.0 (refilled_of server))) (only (sym (ap (option_map refill) e) ∙ k)) h) fits,
          )

      low_of : (x y z : Bool) → ((not x && y) && z) ≡ true → (x ≡ false) × (y ≡ true)
      low_of x y z k = (grind arith, grind arith)

      by_regain : (c : Bool) → (regains_high server && can_run s.machine t) ≡ c → Recorded (activates_if c t (tells (event.Refill t (amount_of (oldest_pending server)) (refill server).capacity) (changes t (with_server refill) s)))
      by_regain false k = told_as (Booked lim) (refill_stays lim s.machine.now (thread_at s.machine t).status server q.0 comes.1 k (fits.each server e))
      by_regain true k =
          let there = tells (event.Refill t (amount_of (oldest_pending server)) (refill server).capacity) (changes t (with_server refill) s) in
          let parts = low_of (is_high server) (is_high (refill server)) (can_run s.machine t) k in
          let same : (thread_at there.machine t).status ≡ (thread_at s.machine t).status = ap (λ (x : Thread P). x.status) (thread-same s.machine t (with_server refill) within) in
          activates_own (at_once (thread_at there.machine t).server) there refl (subst (λ (st : Status). (is_dormant st ≡ false) × (is_ended st ≡ false)) (sym same) live) (subst (λ (n : ℕ). t < n) (sym (changed-length no_thread t (with_server refill) s.machine.threads)) within)
          (told_as Rises (refill_still lim s.machine.now (thread_at s.machine t).status server q.0 comes.1 (idle parts.0), parts.1))

  idle_low : (now : ℕ) (th : Thread P) (x : ServerState) → th.server ≡ Some x → ThreadRight false now th → is_high x ≡ false → x.consumed ≡ 0
  idle_low now th x e h low = by_size x.consumed refl
    where
      by_size : (n : ℕ) → x.consumed ≡ n → x.consumed ≡ 0
      by_size zero k = k
      by_size (suc n) k = absurd (contra (((h.each x e).consumed (omega arith)).runs refl).1 low)

  has_live : (own' : Bool) (now : ℕ) (th : Thread P) (x : ServerState) → th.server ≡ Some x → ThreadRight own' now th → is_live th.status ≡ true
  has_live own' now th x e h = left (is_live th.status) (has_server_policy th.policy) (sym h.having ∙ ap is_some e)
    where
      left : (p q : Bool) → (p && q) ≡ true → p ≡ true
      left p q k = grind arith

  refills_recorded : (v : ℕ) (o : Option ServerState) (s : Turn P) → own ≡ false → (thread_at s.machine v).server ≡ o → has_come (option_and_then next_due o) s.machine.now ≡ true → Threads bodies None s → Recorded s → Recorded (refills_server v o s)
  refills_recorded v None s mine e come all q = q
  refills_recorded v (Some server) s mine e come all q = by_eq (v == t) refl
    where
      by_eq : (c : Bool) → (v == t) ≡ c → Recorded (refills_server v (Some server) s)
      by_eq true k =
          let it : t ≡ v = grind arith in
          let e' : (thread_at s.machine t).server ≡ Some server = subst (λ (i : ℕ). (thread_at s.machine i).server ≡ Some server) (sym it) e in
          subst (λ (i : ℕ). Recorded (refills_server i (Some server) s)) it
          (refills_mine server s mine e' (has_live false s.machine.now (thread_at s.machine t) server e' (all t)) come
          (subst (λ (o : Bool). ServerIn o s.machine.now (thread_at s.machine t).status server) (sym mine) ((all t).each server e')) (idle_low s.machine.now (thread_at s.machine t) server e' (all t)) q)
      by_eq false k = refills_other v (Some server) s k q

  -- ---- every move

  -- a change that leaves what the account goes by
  same_thread : (v : ℕ) (f : Thread P → Thread P) (s : Turn P) → ((b : Account) → FitsOf (Booked lim) s.machine.now (thread_at s.machine v) b → FitsOf (Booked lim) s.machine.now (f (thread_at s.machine v)) b) → Recorded s → Recorded (changes v f s)
  same_thread v f s h q = one (Booked lim) v f s h q

  -- the account goes by no time of a wait
  other_wait : (v w : Waiting) (now : ℕ) (rule : Policy) (server : Option ServerState) (ran : ℕ) (b : Account) → Fits lim own tolled (Booked lim) now (blocked v) rule server ran b → Fits lim own tolled (Booked lim) now (blocked w) rule server ran b
  other_wait v w now rule server ran b f =
      refit lim own tolled (Booked lim) (Booked lim) now (blocked v) (blocked w) rule server server ran b b (same_account lim own tolled b) (refl, refl) (refl, refl) (λ o k. k)
      (λ x k. other_status lim now (blocked v) (blocked w) x b (λ runs. runs) (f.each x k)) f

  seen_so : (status : Status) (now : ℕ) (rule : Policy) (server : Option ServerState) (ran : ℕ) (b : Account) → Fits lim own tolled (Booked lim) now status rule server ran b → Fits lim own tolled (Booked lim) now (at_some_time status) rule server ran b
  seen_so (dormant at) now rule server ran b f = f
  seen_so runnable now rule server ran b f = f
  seen_so (blocked w) now rule server ran b f = other_wait w (timeless w) now rule server ran b f
  seen_so ended now rule server ran b f = f

  so_seen : (status : Status) (now : ℕ) (rule : Policy) (server : Option ServerState) (ran : ℕ) (b : Account) → Fits lim own tolled (Booked lim) now (at_some_time status) rule server ran b → Fits lim own tolled (Booked lim) now status rule server ran b
  so_seen (dormant at) now rule server ran b f = f
  so_seen runnable now rule server ran b f = f
  so_seen (blocked w) now rule server ran b f = other_wait (timeless w) w now rule server ran b f
  so_seen ended now rule server ran b f = f

  of_core : (now : ℕ) (x y : Thread P) (b : Account) → core_of x ≡ core_of y → FitsOf (Booked lim) now y b → FitsOf (Booked lim) now x b
  of_core now x y b e h =
      so_seen x.status now x.policy x.server x.ticks b
      (subst (λ (c : Core P). Fits lim own tolled (Booked lim) now c.status c.policy c.server c.ticks b) (sym e) (seen_so y.status now y.policy y.server y.ticks b h))

  priced : (p now : ℕ) (th : Thread P) (b : Account) → FitsOf (Booked lim) now th b → FitsOf (Booked lim) now (with_priority p th) b
  priced p now th b f = record {
    clear = f.clear;
    at = f.at;
    started = f.started;
    exited = f.exited;
    ticks = f.ticks;
    blank = f.blank;
    limits = let l = f.limits in (record (l.0) { high = p }, ap (at_priority p) l.1, record { period = l.2.period; budget = l.2.budget; max = l.2.max; some = l.2.some; many = l.2.many });
    fresh = f.fresh;
    owes = λ o. let k = f.owes o in (k.0, k.1, (set_high p k.2.0, ap (option_map (set_high p)) k.2.1, k.2.2, k.2.3));
    each = of_map th.server f.each;
  }
    where
      of_map : (o : Option ServerState) → ((x : ServerState) → o ≡ Some x → Booked lim now th.status x b) → (x : ServerState) → option_map (set_high p) o ≡ Some x → Booked lim now th.status x b
      of_map None h x e = absurd (grind arith)
      of_map (Some y) h x e = subst (λ (z : ServerState). Booked lim now th.status z b) (only e) (priced_booked lim p now th.status y b (h y refl))

  -- a thread that lives is put to wait
  waits : (w : Waiting) (now : ℕ) (th : Thread P) (b : Account) → (is_dormant th.status ≡ false) × (is_ended th.status ≡ false) → FitsOf (Booked lim) now th b → FitsOf (Booked lim) now (put_to_wait w th) b
  waits w now th b live f =
      refit lim own tolled (Booked lim) (Booked lim) now th.status (blocked w) th.policy th.server th.server th.ticks b b (same_account lim own tolled b) live (refl, refl) (λ o k. k)
      (λ x k. other_status lim now th.status (blocked w) x b (λ runs. absurd (grind arith)) (f.each x k)) f

  pub sleeps_recorded : (v : ℕ) (w : Waiting) (s : Turn P) → can_run s.machine v ≡ true → Recorded s → Recorded (changes v (put_to_wait w) s)
  sleeps_recorded v w s runs q = same_thread v (put_to_wait w) s (λ b f. waits w s.machine.now (thread_at s.machine v) b (runs_lives (thread_at s.machine v).status runs) f) q

  pub joined_recorded : (v : ℕ) (j : Joiner) (s : Turn P) → Recorded s → Recorded (changes v (with_joiner j) s)
  joined_recorded v j s q = same_thread v (with_joiner j) s (λ b f. f) q

  none_blocked : (who : Option ℕ) (v : ℕ) (s : Turn P) → is_blocked (thread_at s.machine v).status ≡ true → Awake bodies who s → Threads bodies who s → (x : ServerState) → (thread_at s.machine v).server ≡ Some x → x.consumed ≡ 0
  none_blocked who v s b awake all x e =
      none_consumed s.machine.now (thread_at s.machine v).status x b (subst (λ (mine : Bool). ServerIn mine s.machine.now (thread_at s.machine v).status x) (sleeper bodies who v s awake b) ((all v).each x e))

  not_own : (who : Option ℕ) → own ≡ is who t → who ≡ None → own ≡ false
  not_own who e k = e ∙ ap (λ (o : Option ℕ). is o t) k

  pub recorded_keep : (who : Option ℕ) (move : Move P) (s : Turn P) → own ≡ is who t → MayAwake who move s → Awake bodies who s → Threads bodies who s → Recorded s → Recorded (does bodies move s)
  recorded_keep who (alters v f) s mine may awake all q = same_thread v f s (λ b h. of_core s.machine.now (f (thread_at s.machine v)) (thread_at s.machine v) b (may (thread_at s.machine v)) h) q
  recorded_keep who (tells_of e) s mine may awake all q = told_nothing (Booked lim) e s (quiet_plain e may) (quiet_said t e may) q
  recorded_keep who (ends_with v n) s mine may awake all q = same_thread v (ending_with n) s (λ b f. f) q
  recorded_keep who (enters_frame v x) s mine may awake all q = same_thread v (on_top x) s (λ b f. f) q
  recorded_keep who (leaves_frame v) s mine may awake all q = same_thread v without_top s (λ b f. f) q
  recorded_keep who (pushes v u) s mine may awake all q = same_thread v (pushed u) s (λ b f. f) q
  recorded_keep who (drops v) s mine may awake all q = same_thread v without_cleanup s (λ b f. f) q
  recorded_keep who (prices v p) s mine may awake all q = same_thread v (with_priority p) s (λ b f. priced p s.machine.now (thread_at s.machine v) b f) q
  recorded_keep who (renews_with active v new) s mine may awake all q = absurd may
  recorded_keep who (wakes_with v e r n) s mine may awake all q = wakes_recorded v e r n s may.0 (quiet_plain e may.1) (quiet_said t e may.1) (none_blocked who v s may.0 awake all) q
  recorded_keep who (blocks_for by (for_mutex_again k how) due) s mine may awake all q =
      let b : is_blocked (thread_at s.machine by.thread).status ≡ true = in_wait bodies who (thread_at s.machine by.thread).status may.0 in
      let w : Waiting = record { wait = for_mutex_again k how; serial = s.machine.next_serial; due = due; call = by.call } in
      same_thread by.thread (put_to_wait w) s (λ c f. waits w s.machine.now (thread_at s.machine by.thread) c (blocked_lives (thread_at s.machine by.thread).status b) f) q
  recorded_keep who (blocks_for by wait due) s mine may awake all q = absurd may
  recorded_keep who (blocks_plainly by wait due) s mine may awake all q = absurd may
  recorded_keep who (begins v mask) s mine may awake all q = begins_recorded who v mask s may all q
  recorded_keep who (lives_no_more v) s mine may awake all q = exits_recorded v s may.0 q
  recorded_keep who (recasts v f) s mine may awake all q = absurd may
  recorded_keep who (rejoins v j) s mine may awake all q = joined_recorded v j s q
  recorded_keep who (refills_one v) s mine may awake all q =
      refills_recorded v (thread_at s.machine v).server s (not_own who mine may.1) refl may.0 (subst (λ (o : Option ℕ). Threads bodies o s) may.1 all) q
  recorded_keep who move s mine may awake all q = q
