-- What a strict thread may still use before an instant d, and that every move leaves it no more.
use Rattle.std.proofs.Common.{Bool, List, None, Option, Some, [], ap, arith, false, inl, inr, length, refl, sym, true, ℕ, ◌+◌, ◌<◌, ◌≤◌, ◌∷◌, ◌≡◌, ◌⊎◌}
use Rattle.std.specs.Prelude.{min, nat_lt, option_and_then, option_map, slice_get, ◌&&◌, if◌then◌else◌}
use mathlib.Core.Path.{subst, ◌∙◌}
use Rattle.words_numbers.specs.Parameters.{Parameters}
use Rattle.words_script.specs.declared.policy.Policy.{Policy}
use Rattle.words_script.specs.declared.policy.Policy.TheVariants as policy
use Rattle.words_trace.specs.declared.event.Event.TheVariants as event
use Rattle.rules_server.specs.declared.Replenish.{Replenish}
use Rattle.rules_server.specs.declared.ServerKind.{ServerKind}
use Rattle.rules_server.specs.declared.ServerKind.TheVariants as kind
use Rattle.rules_server.specs.Server.{ServerState, activate, is_high, joins_as, new_server_as, next_due, oldest_pending, plan, refill, refill_from, replenishment, set_high}
use Rattle.rules_machine.specs.Lists.{changed_at}
use Rattle.rules_machine.specs.Bodies.{Bodies}
use Rattle.rules_machine.specs.State.{Joiner, Status, Thread, Waiting, blocked, dormant, ended, runnable}
use Rattle.rules_machine.specs.Threads.{can_run, is_dormant, is_live, no_thread, thread_at, thread_in}
use Rattle.rules_machine.specs.Turns.{Turn, changes, moves, tells}
use Rattle.rules_machine.specs.Servers.{activates_if, activates_server, amount_of, at_once, at_once_as, high_server, plans_server, refills_server, regains_high, server_of, with_server}
use Rattle.rules_machine.specs.Waking.{ending_with, on_top, put_to_wait, started, woken}
use Rattle.rules_machine.specs.Lives.{with_joiner, without_life, without_top}
use Rattle.rules_machine.specs.Cancellation.{without_cleanup}
use Rattle.rules_machine.specs.Scheduling.{with_priority}
use Rattle.rules_machine.specs.DueItems.{has_come}
use Rattle.rules_moves.specs.Moves.{Core, KeepsAwake, alters, begins, blocks_for, blocks_plainly, core_of, drops, ends_with, enters_frame, leaves_frame, lives_no_more, prices, pushed, pushes, recasts, refills_one, rejoins, renews_with, wakes_with}
use Rattle.rules_moves.proofs.Cores.{dormant_seen, same_read}
use Rattle.rules_moves.proofs.Waiters.OfThreads.{changed_is}
use Rattle.laws_strict_server.proofs.Sums.{amount_if, early, planned_early}

pub only : {X : Type 0} {a b : X} → Some a ≡ Some b → a ≡ b
only {X} {a} {b} e = ap out e
  where
    out : Option X → X
    out None = a
    out (Some x) = x

-- Of what may be used, K, h is used by the tick that is under way.
module _ (p : Parameters) (d h K : ℕ) where
  pub record Room (x : ServerState) : Type 0 where
    pub strict : x.kind ≡ kind.Strict
    pub period : x.params.period ≡ p.period
    -- what can be used, and what is due before d
    pub spent : h + x.capacity + early d x.pending ≤ K
    -- an open run comes back at d or later
    pub late : 1 ≤ x.consumed → d ≤ x.activation + p.period

  pub record Has {P : Type 0} (th : Thread P) : Type 0 where
    pub room : (x : ServerState) → th.server ≡ Some x → Room x
    -- it has the budget of its policy before it starts
    pub asleep : is_dormant th.status ≡ true → (th.policy ≡ policy.Strict p) × (h + p.budget ≤ K)

  -- ---- what is done to the server

  pub planned_room : (x : ServerState) → 1 ≤ x.consumed → Room x → Room (plan x)
  planned_room x some r =
      let due : d ≤ (replenishment x).due = (let a = r.late some in let b = r.period in omega arith) in
      let e = planned_early (joins_as x.kind (length x.pending) x.params.max) d (replenishment x) x.pending due in
      let s = r.spent in record {
        strict = r.strict;
        period = r.period;
        spent = omega arith;
        late = λ c. absurd (omega arith);
      }

  pub activated_room : (x : ServerState) (time : ℕ) → x.consumed ≡ 0 → Room x → Room (activate time x)
  activated_room x time none r = record { strict = r.strict; period = r.period; spent = r.spent; late = λ c. absurd (omega arith) }

  priced_room : (x : ServerState) (q : ℕ) → Room x → Room (set_high q x)
  priced_room x q r = record { strict = r.strict; period = r.period; spent = r.spent; late = r.late }

  refilled_room : (x : ServerState) (time : ℕ) → has_come (next_due x) time ≡ true → time < d → Room x → Room (refill x)
  refilled_room x time come before r = by_pending x.pending refl come
    where
      first_early : (q : Replenish) → q.due < d → amount_if (nat_lt q.due d) q ≡ q.amount
      first_early q lt = grind arith

      by_pending : (rs : List Replenish) → x.pending ≡ rs → has_come (option_map (λ (q : Replenish). q.due) (slice_get rs 0)) time ≡ true → Room (refill_from rs x)
      by_pending [] e c = absurd (grind arith)
      by_pending (q ∷ rs) e c =
          let soon : q.due ≤ time = grind arith in
          let first = first_early q (omega arith) in
          let s : h + x.capacity + (amount_if (nat_lt q.due d) q + early d rs) ≤ K = subst (λ (qs : List Replenish). h + x.capacity + early d qs ≤ K) e r.spent in
          let most : min (x.capacity + q.amount) x.params.budget ≤ x.capacity + q.amount = omega arith in
          record { strict = r.strict; period = r.period; spent = omega arith; late = r.late }

  new_room : (time : ℕ) → h + p.budget ≤ K → Room (new_server_as kind.Strict p time)
  new_room time fits = record { strict = refl; period = refl; spent = omega arith; late = λ c. absurd (omega arith) }

  -- ---- what is done to a thread

  none_of : (x : ServerState) → None ≡ Some x → Room x
  none_of x e = absurd (grind arith)

  mapped : (f : ServerState → ServerState) → ((x : ServerState) → Room x → Room (f x)) → (o : Option ServerState) → ((x : ServerState) → o ≡ Some x → Room x) → (x : ServerState) → option_map f o ≡ Some x → Room x
  mapped f g None r x e = absurd (grind arith)
  mapped f g (Some y) r x e = subst Room (only e) (g y (r y refl))

  -- ---- a strict server is not activated at once

  none_once : (o : Option ServerState) → ((x : ServerState) → o ≡ Some x → Room x) → at_once o ≡ None
  none_once None r = refl
  none_once (Some x) r = ap (λ (k : ServerKind). at_once_as k x) (r x refl).strict

  none_high : (o : Option ServerState) → ((x : ServerState) → o ≡ Some x → Room x) → at_once (high_server o) ≡ None
  none_high None r = refl
  none_high (Some x) r = by_high (is_high x)
    where
      by_high : (b : Bool) → at_once (if b then Some x else None) ≡ None
      by_high true = ap (λ (k : ServerKind). at_once_as k x) (r x refl).strict
      by_high false = refl

  contra : {b : Bool} → b ≡ true → b ≡ false → ⊥
  contra a b = grind arith

  live_awake : (status : Status) → is_live status ≡ true → is_dormant status ≡ false
  live_awake (dormant at) e = absurd (grind arith)
  live_awake runnable e = refl
  live_awake (blocked w) e = refl
  live_awake ended e = refl

  begun_room : (time : ℕ) (rule : Policy) → (rule ≡ policy.Strict p) × (h + p.budget ≤ K) → (x : ServerState) → server_of rule time ≡ Some x → Room x
  begun_room time rule a x k = subst Room (only (sym (ap (λ (r : Policy). server_of r time) a.0) ∙ k)) (new_room time a.1)

  module _ {P : Type 0} (t now : ℕ) where
    pub record At (s : Turn P) : Type 0 where
      pub now_is : s.machine.now ≡ now
      pub here : Has (thread_at s.machine t)

    -- a change of a thread
    pub one : (v : ℕ) (f : Thread P → Thread P) (s : Turn P) → (v ≡ t → Has (thread_at s.machine t) → Has (f (thread_at s.machine t))) → At s → At (changes v f s)
    one v f s g q = record { now_is = q.now_is; here = of_two (changed_is no_thread v t f s.machine.threads) }
      where
        of_two : ((v ≡ t) × (thread_in (changed_at no_thread v f s.machine.threads) t ≡ f (thread_at s.machine v))) ⊎ (thread_in (changed_at no_thread v f s.machine.threads) t ≡ thread_at s.machine t) → Has (thread_at (changes v f s).machine t)
        of_two (inl e) = subst Has (sym (e.1 ∙ ap (λ (i : ℕ). f (thread_at s.machine i)) e.0)) (g e.0 q.here)
        of_two (inr e) = subst Has (sym e) q.here

    activated : (v : ℕ) (o : Option ServerState) (s : Turn P) → (v ≡ t → o ≡ None) → At s → At (activates_server v o s)
    activated v None s g q = q
    activated v (Some x) s g q = let k = one v (with_server (activate s.machine.now)) s (λ it. absurd (some_none (g it))) q in record { now_is = k.now_is; here = k.here }
      where
        some_none : Some x ≡ None → ⊥
        some_none e = absurd (grind arith)

    at_same : {v : ℕ} (s : Turn P) → v ≡ t → At s → (x : ServerState) → (thread_at s.machine v).server ≡ Some x → Room x
    at_same s it q x e = q.here.room x (subst (λ (i : ℕ). (thread_at s.machine i).server ≡ Some x) it e)

    pub activated_if : (b : Bool) (v : ℕ) (s : Turn P) → At s → At (activates_if b v s)
    activated_if true v s q = activated v (at_once (thread_at s.machine v).server) s (λ it. none_once (thread_at s.machine v).server (at_same s it q)) q
    activated_if false v s q = q

    -- ---- a plan

    pub planned : (v : ℕ) (o : Option ServerState) (s : Turn P) → (thread_at s.machine v).server ≡ o → ((x : ServerState) → o ≡ Some x → 1 ≤ x.consumed) → At s → At (plans_server v o s)
    planned v None s e some q = q
    planned v (Some y) s e some q =
        let k = one v (with_server plan) s (λ it q'. record { room = room_of it q'; asleep = q'.asleep }) q in record { now_is = k.now_is; here = k.here }
      where
        room_of : v ≡ t → Has (thread_at s.machine t) → (x : ServerState) → option_map plan (thread_at s.machine t).server ≡ Some x → Room x
        room_of it q' x k =
            let here : (thread_at s.machine t).server ≡ Some y = subst (λ (i : ℕ). (thread_at s.machine i).server ≡ Some y) it e in
            subst Room (only (sym (ap (option_map plan) here) ∙ k)) (planned_room y (some y refl) (q'.room y here))

    -- ---- a refill

    refilled : (v : ℕ) (o : Option ServerState) (s : Turn P) → (thread_at s.machine v).server ≡ o → has_come (option_and_then next_due o) s.machine.now ≡ true → now < d → At s → At (refills_server v o s)
    refilled v None s e come before q = q
    refilled v (Some y) s e come before q =
        let k = one v (with_server refill) s (λ it q'. record { room = room_of it q'; asleep = q'.asleep }) q in
        activated_if (regains_high y && can_run s.machine v) v (tells (event.Refill v (amount_of (oldest_pending y)) (refill y).capacity) (changes v (with_server refill) s)) (record { now_is = k.now_is; here = k.here })
      where
        room_of : v ≡ t → Has (thread_at s.machine t) → (x : ServerState) → option_map refill (thread_at s.machine t).server ≡ Some x → Room x
        room_of it q' x k =
            let here : (thread_at s.machine t).server ≡ Some y = subst (λ (i : ℕ). (thread_at s.machine i).server ≡ Some y) it e in
            subst Room (only (sym (ap (option_map refill) here) ∙ k)) (refilled_room y s.machine.now come (subst (λ (n : ℕ). n < d) (sym q.now_is) before) (q'.room y here))

    -- ---- every move

    of_core : (a b : Thread P) → core_of a ≡ core_of b → Has b → Has a
    of_core a b e q = record {
      room = λ x k. q.room x (sym (ap (λ (c : Core P). c.server) e) ∙ k);
      asleep = λ k. let g = q.asleep (same_read is_dormant dormant_seen b a (sym e) ∙ k) in (ap (λ (c : Core P). c.policy) e ∙ g.0, g.1);
    }

    -- a change that leaves status, policy and server
    same : (v : ℕ) (f : Thread P → Thread P) (s : Turn P) → ((th : Thread P) → ((f th).server ≡ th.server) × ((f th).policy ≡ th.policy) × ((f th).status ≡ th.status)) → At s → At (changes v f s)
    same v f s g q = one v f s (λ it q'. let e = g (thread_at s.machine t) in record {
      room = λ x k. q'.room x (sym e.0 ∙ k);
      asleep = λ k. let a = q'.asleep (sym (ap is_dormant e.2) ∙ k) in (e.1 ∙ a.0, a.1);
    }) q

    -- a thread blocks
    pub slept : (v : ℕ) (w : Waiting) (s : Turn P) → At s → At (changes v (put_to_wait w) s)
    slept v w s q = one v (put_to_wait w) s (λ it q'. record { room = q'.room; asleep = λ k. absurd (grind arith) }) q

    pub joined : (v : ℕ) (j : Joiner) (s : Turn P) → At s → At (changes v (with_joiner j) s)
    joined v j s q = same v (with_joiner j) s (λ th. (refl, refl, refl)) q

    pub moves_keep : (bodies : Bodies P) (who : Option ℕ) → (who ≡ None → now < d) → KeepsAwake bodies who At
    moves_keep bodies who before (alters v f) s may q = one v f s (λ it q'. of_core (f (thread_at s.machine t)) (thread_at s.machine t) (may (thread_at s.machine t)) q') q
    moves_keep bodies who before (ends_with v n) s may q = same v (ending_with n) s (λ th. (refl, refl, refl)) q
    moves_keep bodies who before (enters_frame v f) s may q = same v (on_top f) s (λ th. (refl, refl, refl)) q
    moves_keep bodies who before (leaves_frame v) s may q = same v without_top s (λ th. (refl, refl, refl)) q
    moves_keep bodies who before (pushes v u) s may q = same v (pushed u) s (λ th. (refl, refl, refl)) q
    moves_keep bodies who before (drops v) s may q = same v without_cleanup s (λ th. (refl, refl, refl)) q
    moves_keep bodies who before (prices v n) s may q = one v (with_priority n) s (λ it q'. record {
      room = mapped (set_high n) (λ x. priced_room x n) (thread_at s.machine t).server q'.room;
      asleep = λ k. absurd (contra k (live_awake (thread_at s.machine t).status (subst (λ (i : ℕ). is_live (thread_at s.machine i).status ≡ true) it may.0)));
    }) q
    moves_keep bodies who before (renews_with active v new) s may q = absurd may
    moves_keep bodies who before (wakes_with v e r n) s may q =
        let up = tells e (moves v (changes v (woken r n) s)) in
        let k = one v (woken r n) s (λ it q'. record { room = q'.room; asleep = λ k. absurd (grind arith) }) q in
        let w : At up = record { now_is = k.now_is; here = k.here } in
        activated v (at_once (high_server (thread_at up.machine v).server)) up (λ it. none_high (thread_at up.machine v).server (at_same up it w)) w
    moves_keep bodies who before (blocks_for by wait due) s may q =
        let k = slept by.thread (record { wait = wait; serial = s.machine.next_serial; due = due; call = by.call }) s q in record { now_is = k.now_is; here = k.here }
    moves_keep bodies who before (blocks_plainly by wait due) s may q = absurd may
    moves_keep bodies who before (begins v mask) s may q =
        let up = tells (event.Start v) (moves v (changes v (started bodies v mask s.machine.now) s)) in
        let k = one v (started bodies v mask s.machine.now) s (λ it q'. record {
          room = begun_room s.machine.now (thread_at s.machine t).policy (q'.asleep (subst (λ (i : ℕ). is_dormant (thread_at s.machine i).status ≡ true) it may));
          asleep = λ k. absurd (grind arith);
        }) q in
        let w : At up = record { now_is = k.now_is; here = k.here } in
        activated v (at_once (thread_at up.machine v).server) up (λ it. none_once (thread_at up.machine v).server (at_same up it w)) w
    moves_keep bodies who before (lives_no_more v) s may q =
        let k = one v without_life s (λ it q'. record { room = none_of; asleep = λ k. absurd (grind arith) }) q in record { now_is = k.now_is; here = k.here }
    moves_keep bodies who before (recasts v f) s may q = absurd may
    moves_keep bodies who before (rejoins v j) s may q = joined v j s q
    moves_keep bodies who before (refills_one v) s may q = refilled v (thread_at s.machine v).server s refl may.0 (before may.1) q
    moves_keep bodies who before move s may q = record { now_is = q.now_is; here = q.here }
