-- A leap of a head whose unit only takes time, and that uses up neither its interval nor its capacity, is its charge alone.
use Rattle.std.proofs.Common.{Bool, List, None, Option, Some, [], ap, arith, false, inl, inr, refl, suc, sym, true, zero, ℕ, ◌+◌, ◌∷◌, ◌≡◌, ◌⊎◌}
use Rattle.std.specs.Prelude.{nat_lt, option_and_then, option_map, ◌-◌, ◌==◌, ◌&&◌, if◌then◌else◌}
use mathlib.Core.Path.{ap₂, subst, ◌∙◌}
use Rattle.words_script.specs.declared.policy.Policy.{Policy}
use Rattle.words_script.specs.declared.policy.Policy.TheVariants as policy
use Rattle.rules_server.specs.Server.{ServerState, assigned, charge_ticks, is_high}
use Rattle.rules_server.proofs.Laws.{charge_ticks_is}
use Rattle.rules_machine.specs.declared.frame.FrameKind.{FrameKind}
use Rattle.rules_machine.specs.Bodies.{Bodies}
use Rattle.rules_machine.specs.Calls.{unit_effect}
use Rattle.rules_machine.specs.Delivery.{sweeps}
use Rattle.rules_machine.specs.Lists.{changed_at}
use Rattle.rules_machine.specs.Priorities.{Claim, assigned_under, claim_of, exec, exec_in, mutex_awaited_by, mutex_waited}
use Rattle.rules_machine.specs.Servers.{has_high}
use Rattle.rules_machine.specs.Settling.{settled}
use Rattle.rules_machine.specs.State.{Frame, Machine, Status, Thread, Waiting, blocked, dormant, ended, runnable}
use Rattle.rules_machine.specs.Threads.{can_run, is_blocked, is_runnable, is_signal, no_thread, thread_at, thread_in, thread_numbers, top_kind, top_left, waiting_in}
use Rattle.rules_machine.specs.Ticks.{TickEnd, capacity_in, completes, completes_at, consumed_in, ends_tick, frames_charged, nothing, slice_is_used, tick_end, tick_ends}
use Rattle.rules_machine.specs.Turns.{Turn, settles_since, turn_of, with_thread}
use Rattle.rules_machine.specs.Units.{in_unit}
use Rattle.rules_machine.proofs.Reading.{thread-same}
use Rattle.rules_machine.proofs.Standing.{stands}
use Rattle.rules_moves.proofs.Runs.Ticks.{in_unit_status}
use Rattle.rules_moves.proofs.Waiters.Best.{running_within}
use Rattle.rules_moves.proofs.Waiters.OfThreads.{changed_is}
use Rattle.laws_machine.proofs.Lists.Kept.{Plans, in_unit_plans}
use Rattle.laws_machine.proofs.Lists.Places.{Stand, settled_stays}
use Rattle.laws_machine.proofs.Signals.Ignored.{sent}
use Rattle.laws_machine.proofs.Signals.Takers.{Taker, charged_taker, taken_by, taker_of}
use Rattle.laws_machine.proofs.Sweeps.Visits.{Quiet, sweeps_nothing}
use Rattle.rules_leaps.specs.Quiet.{after_ticks, frames_after, server_after}
use Rattle.rules_leaps.specs.Leap.{leap_runs, unit_leapt}
use Rattle.laws_leaps.proofs.Quiet.Charges.{claims_same}
use Rattle.laws_leaps.proofs.Quiet.Ticks.{no_end}
use Rattle.laws_leaps.proofs.Leaps.Bounds.{charged_capacity}
use Rattle.laws_leaps.proofs.Quiet.Once.{less_high}

-- ---- what a charge leaves of a thread whose capacity is not used up

high_after : (k : ℕ) (s : ServerState) → (has_high (Some s) && capacity_in (Some (server_after k s)) == 0) ≡ false → assigned (server_after k s) ≡ assigned s
high_after k s e = by_high (is_high s) refl
  where
    by_high : (b : Bool) → is_high s ≡ b → assigned (server_after k s) ≡ assigned s
    by_high false h = ap (λ (b : Bool). assigned (if b then charge_ticks k s else s)) h
    by_high true h =
        let left : ((charge_ticks k s).capacity == 0) ≡ false = (rw h at e) in
        let some : (s.capacity - k == 0) ≡ false = subst (λ (n : ℕ). (n == 0) ≡ false) (charged_capacity k s) left in
        let still = less_high k s h some in
        ap (λ (b : Bool). assigned (if b then charge_ticks k s else s)) h
        ∙ ap assigned (charge_ticks_is k s)
        ∙ ap (λ (b : Bool). if b then s.params.high else s.params.low) (still ∙ sym h)

assigned_after : (k : ℕ) (p : Policy) (o : Option ServerState) → (has_high o && capacity_in (option_map (server_after k) o) == 0) ≡ false →
    assigned_under p (option_map (server_after k) o) ≡ assigned_under p o
assigned_after k (policy.Fifo p) o e = refl
assigned_after k (policy.Rr p) o e = refl
assigned_after k (policy.Sporadic params) None e = refl
assigned_after k (policy.Sporadic params) (Some s) e = high_after k s e
assigned_after k (policy.Strict params) None e = refl
assigned_after k (policy.Strict params) (Some s) e = high_after k s e

module _ {P : Type 0} (bodies : Bodies P) where
  claim_after : (k : ℕ) (th : Thread P) → (has_high th.server && capacity_in (after_ticks k (in_unit bodies th).thread).server == 0) ≡ false →
      claim_of (after_ticks k (in_unit bodies th).thread) ≡ claim_of th
  claim_after k th e =
      let unit = (in_unit bodies th).thread in
      let server : unit.server ≡ th.server = ap (λ (p : Plans). p.server) (in_unit_plans bodies th) in
      ap₂ (λ (p : Plans) (status : Status). record { assigned = assigned_under p.policy (option_map (server_after k) p.server); awaited = option_and_then (λ (w : Waiting). mutex_waited w.wait) (waiting_in status) }) (in_unit_plans bodies th) (in_unit_status bodies th)
      ∙ ap (λ (n : ℕ). record { assigned = n; awaited = mutex_awaited_by th })
      (assigned_after k th.policy th.server (subst (λ (o : Option ServerState). (has_high th.server && capacity_in (option_map (server_after k) o) == 0) ≡ false) server e))

  kind_after : (k : ℕ) (fs : List (Frame P)) → top_kind (frames_after k fs) ≡ top_kind (frames_charged fs)
  kind_after k [] = refl
  kind_after k (f ∷ fs) = refl

  taker_after : (k : ℕ) (th : Thread P) → taker_of (after_ticks k (in_unit bodies th).thread) ≡ taker_of th
  taker_after k th =
      let unit = (in_unit bodies th).thread in
      ap (λ (kind : FrameKind). record { status = unit.status; mask = unit.mask; catches = is_signal kind }) (kind_after k unit.frames) ∙ charged_taker bodies th

  not_blocked : (status : Status) → is_runnable status ≡ true → is_blocked status ≡ false
  not_blocked (dormant at) e = refl
  not_blocked runnable e = refl
  not_blocked (blocked w) e = absurd (grind arith)
  not_blocked ended e = refl

  module _ (t k : ℕ) (m : Machine P) where
    abbrev was : Thread P
    was = thread_at m t

    abbrev spent : Thread P
    spent = after_ticks k (in_unit bodies was).thread

    -- so many ticks of the thread, and nothing else
    abbrev pub gone : Machine P
    gone = record (with_thread t (λ th. spent) m) { now = m.now + k }

    spent_view : {X : Type 0} (view : Thread P → X) → view spent ≡ view was → (u : ℕ) → view (thread_at gone u) ≡ view (thread_at m u)
    spent_view {X} view e u = of_two (changed_is no_thread t u (λ th. spent) m.threads)
      where
        of_two : ((t ≡ u) × (thread_in (changed_at no_thread t (λ th. spent) m.threads) u ≡ spent)) ⊎ (thread_in (changed_at no_thread t (λ th. spent) m.threads) u ≡ thread_at m u) →
            view (thread_at gone u) ≡ view (thread_at m u)
        of_two (inl h) = ap view h.1 ∙ e ∙ ap (λ (v : ℕ). view (thread_at m v)) h.0
        of_two (inr h) = ap view h

    pub gone_can_run : (u : ℕ) → can_run gone u ≡ can_run m u
    gone_can_run = spent_view (λ (th : Thread P). is_runnable th.status) (ap is_runnable (in_unit_status bodies was))

    gone_quiet : ((u : ℕ) → Quiet bodies m u) → (u : ℕ) → Quiet bodies gone u
    gone_quiet q u = ap (λ (x : Taker). taken_by x u (sent m)) (spent_view taker_of (taker_after k was) u) ∙ q u

    module _ (full : (has_high was.server && capacity_in spent.server == 0) ≡ false) (stand : Stand m) where
      pub gone_exec : (u : ℕ) → exec gone u ≡ exec m u
      gone_exec u = ap (λ (cs : List Claim). exec_in cs m.mutexes u) (claims_same m.threads t (λ th. spent) (claim_after k was full))

      off : (u i : ℕ) → can_run gone u ≡ false → stands u i gone.lists ≡ 0
      off u i idle = stand.others u i (sym (gone_can_run u) ∙ idle)

      lists_stay : settled m [] gone ≡ gone
      lists_stay = settled_stays m gone (λ u. sym (gone_exec u)) off

      stay_again : settled gone [] gone ≡ gone
      stay_again = settled_stays gone gone (λ u. refl) off

      module _ (over : slice_is_used spent.policy spent.slice m.quantum ≡ false) (idle : (s : Turn P) → unit_effect bodies t (in_unit bodies was).unit s ≡ s) (can : can_run m t ≡ true) (q : (u : ℕ) → Quiet bodies m u) where
        here : thread_at gone t ≡ spent
        here = thread-same m t (λ th. spent) (running_within m.threads t can)

        completed : completes bodies t (in_unit bodies was).unit (turn_of gone) ≡ turn_of gone
        completed = by_left (top_left (thread_at gone t).frames)
          where
            by_left : (n : ℕ) → completes_at bodies n t (in_unit bodies was).unit (turn_of gone) ≡ turn_of gone
            by_left zero = idle (turn_of gone)
            by_left (suc n) = refl

        unit_is : unit_leapt bodies k m t (in_unit bodies was) (turn_of m) ≡ turn_of gone
        unit_is = ap (settles_since m) completed ∙ ap turn_of lists_stay

        no_rule : tick_end (has_high was.server) m.quantum spent ≡ nothing
        no_rule =
            no_end (has_high was.server) (nat_lt 0 (consumed_in spent.server)) (is_blocked spent.status) (is_runnable spent.status) (capacity_in spent.server == 0) (slice_is_used spent.policy spent.slice m.quantum)
            (not_blocked spent.status (ap is_runnable (in_unit_status bodies was) ∙ can)) over full

        ends : tick_ends (has_high was.server) t (turn_of gone) ≡ turn_of gone
        ends =
            ap (λ (e : TickEnd). settles_since gone (ends_tick e t (turn_of gone))) (ap (tick_end (has_high was.server) m.quantum) here ∙ no_rule)
            ∙ ap turn_of stay_again

        swept : sweeps bodies (turn_of gone) ≡ turn_of gone
        swept = ap (settles_since gone) (sweeps_nothing bodies (thread_numbers gone) (turn_of gone) (gone_quiet q)) ∙ ap turn_of stay_again

        pub leapt_alone : leap_runs bodies k (Some t) (turn_of m) ≡ turn_of gone
        leapt_alone = ap (λ (x : Turn P). sweeps bodies (tick_ends (has_high was.server) t x)) unit_is ∙ ap (sweeps bodies) ends ∙ swept
