-- The thread whose unit is under way does not block, and where its tick was not charged nothing of its server is consumed.
use Rattle.std.proofs.Common.{Bool, None, Option, Some, ap, arith, false, inl, inr, refl, sym, true, ℕ, ◌≡◌, ◌⊎◌}
use Rattle.std.specs.Prelude.{option_map}
use Rattle.std.specs.Option.{option_map_or}
use mathlib.Core.Path.{subst, ◌∙◌}
use Rattle.words_script.specs.declared.policy.Policy.{Policy}
use Rattle.words_script.specs.declared.policy.Policy.TheVariants as policy
use Rattle.words_trace.specs.declared.event.Event.TheVariants as event
use Rattle.rules_server.specs.declared.ServerKind.TheVariants as kind
use Rattle.rules_server.specs.Server.{ServerState, activate, new_server, new_server_as, set_high}
use Rattle.rules_machine.specs.Lists.{changed_at}
use Rattle.rules_machine.specs.Bodies.{Bodies}
use Rattle.rules_machine.specs.State.{Status, Thread, Waiting, blocked, dormant, ended, for_mutex_again, runnable}
use Rattle.rules_machine.specs.Threads.{is_blocked, no_thread, thread_at, thread_in, waiting_in}
use Rattle.rules_machine.specs.Turns.{Turn, changes, moves, tells}
use Rattle.rules_machine.specs.Servers.{activates_if, activates_server, at_once, charged, high_server, server_of, with_server}
use Rattle.rules_machine.specs.Waking.{ending_with, on_top, put_to_wait, started, woken}
use Rattle.rules_machine.specs.Lives.{with_joiner, without_life, without_top}
use Rattle.rules_machine.specs.Cancellation.{without_cleanup}
use Rattle.rules_machine.specs.Scheduling.{with_policy, with_priority}
use Rattle.rules_machine.specs.GoodState.{is_in_condition_wait}
use Rattle.rules_moves.specs.Moves.{Core, KeepsAwake, alters, begins, blocks_for, blocks_plainly, drops, ends_with, enters_frame, leaves_frame, lives_no_more, prices, pushed, pushes, recasts, refills_one, rejoins, renews_with, wakes_with}
use Rattle.rules_moves.proofs.Cores.{blocked_seen, same_read}
use Rattle.rules_moves.proofs.Waiters.OfThreads.{changed_is}
use Rattle.laws_machine.proofs.Servers.OfThreads.{only}
use Rattle.laws_machine.proofs.Servers.Moves.{Awake}

-- nothing of it is consumed
abbrev pub NoneOf : Option ServerState → Type 0
NoneOf server = (x : ServerState) → server ≡ Some x → x.consumed ≡ 0

pub none_of_none : NoneOf None
none_of_none x e = absurd (grind arith)

pub none_mapped : (f : ServerState → ServerState) → ((x : ServerState) → (f x).consumed ≡ x.consumed) → (o : Option ServerState) → NoneOf o → NoneOf (option_map f o)
none_mapped f h None none x e = absurd (grind arith)
none_mapped f h (Some y) none x e = let it : f y ≡ x = only e in sym (ap (λ (z : ServerState). z.consumed) it) ∙ h y ∙ none y refl

pub none_of_new : (new : Policy) (now : ℕ) → NoneOf (server_of new now)
none_of_new (policy.Fifo p) now x e = absurd (grind arith)
none_of_new (policy.Rr p) now x e = absurd (grind arith)
none_of_new (policy.Strict params) now x e = let it : new_server_as kind.Strict params now ≡ x = only e in sym (ap (λ (z : ServerState). z.consumed) it)
none_of_new (policy.Sporadic params) now x e = let it : new_server params now ≡ x = only e in sym (ap (λ (z : ServerState). z.consumed) it)

-- It does not block, and where its tick was not charged nothing is consumed.
abbrev pub Alert : {P : Type 0} → Bool → Thread P → Type 0
Alert charged th = (is_blocked th.status ≡ false) × (charged ≡ false → NoneOf th.server)

pub contra : {b : Bool} → b ≡ true → b ≡ false → ⊥
contra p q = grind arith

module _ {P : Type 0} (bodies : Bodies P) (tolled : Bool) (t : ℕ) where
  abbrev AlertAt : Turn P → Type 0
  AlertAt s = Alert tolled (thread_at s.machine t)

  alert_one : (v : ℕ) (f : Thread P → Thread P) (s : Turn P) → ((th : Thread P) → Alert tolled th → Alert tolled (f th)) → AlertAt s → AlertAt (changes v f s)
  alert_one v f s h q = of_two (changed_is no_thread v t f s.machine.threads)
    where
      of_two : ((v ≡ t) × (thread_in (changed_at no_thread v f s.machine.threads) t ≡ f (thread_at s.machine v))) ⊎ (thread_in (changed_at no_thread v f s.machine.threads) t ≡ thread_at s.machine t) → AlertAt (changes v f s)
      of_two (inl e) = subst (Alert tolled) (sym e.1) (h (thread_at s.machine v) (subst (λ (i : ℕ). Alert tolled (thread_at s.machine i)) (sym e.0) q))
      of_two (inr e) = subst (Alert tolled) (sym e) q

  -- a thread that is blocked changes, and so not this one
  alert_other : (v : ℕ) (f : Thread P → Thread P) (s : Turn P) → is_blocked (thread_at s.machine v).status ≡ true → AlertAt s → AlertAt (changes v f s)
  alert_other v f s b q = of_two (changed_is no_thread v t f s.machine.threads)
    where
      of_two : ((v ≡ t) × (thread_in (changed_at no_thread v f s.machine.threads) t ≡ f (thread_at s.machine v))) ⊎ (thread_in (changed_at no_thread v f s.machine.threads) t ≡ thread_at s.machine t) → AlertAt (changes v f s)
      of_two (inl e) = absurd (contra b (subst (λ (i : ℕ). is_blocked (thread_at s.machine i).status ≡ false) (sym e.0) q.0))
      of_two (inr e) = subst (Alert tolled) (sym e) q

  alert_activated : (v : ℕ) (o : Option ServerState) (s : Turn P) → AlertAt s → AlertAt (activates_server v o s)
  alert_activated v None s q = q
  alert_activated v (Some server) s q = alert_one v (with_server (activate s.machine.now)) s (λ th h. (h.0, λ c. none_mapped (activate s.machine.now) (λ x. refl) th.server (h.1 c))) q

  alert_activated_if : (b : Bool) (v : ℕ) (s : Turn P) → AlertAt s → AlertAt (activates_if b v s)
  alert_activated_if true v s q = alert_activated v (at_once (thread_at s.machine v).server) s q
  alert_activated_if false v s q = q

  waits_blocked : (status : Status) → option_map_or (λ (w : Waiting). is_in_condition_wait w.wait) (waiting_in status) false ≡ true → is_blocked status ≡ true
  waits_blocked (dormant at) e = absurd (grind arith)
  waits_blocked runnable e = absurd (grind arith)
  waits_blocked (blocked w) e = refl
  waits_blocked ended e = absurd (grind arith)

  pub alert_renewed : (active : Bool) (v : ℕ) (new : Policy) (s : Turn P) → AlertAt s → AlertAt (activates_if active v (changes v (with_policy new s.machine.now) s))
  alert_renewed active v new s q = alert_activated_if active v (changes v (with_policy new s.machine.now) s) (alert_one v (with_policy new s.machine.now) s (λ th h. (h.0, λ c. none_of_new new s.machine.now)) q)

  pub alert_keep : KeepsAwake bodies (Some t) AlertAt
  alert_keep (alters v f) s may q =
      alert_one v f s (λ th h. (same_read is_blocked blocked_seen (f th) th (may th) ∙ h.0, subst (λ (c : Core P). tolled ≡ false → NoneOf c.server) (sym (may th)) h.1)) q
  alert_keep (ends_with v x) s may q = alert_one v (ending_with x) s (λ th h. h) q
  alert_keep (enters_frame v f) s may q = alert_one v (on_top f) s (λ th h. h) q
  alert_keep (leaves_frame v) s may q = alert_one v without_top s (λ th h. h) q
  alert_keep (pushes v u) s may q = alert_one v (pushed u) s (λ th h. h) q
  alert_keep (drops v) s may q = alert_one v without_cleanup s (λ th h. h) q
  alert_keep (prices v p) s may q = alert_one v (with_priority p) s (λ th h. (h.0, λ c. none_mapped (set_high p) (λ x. refl) th.server (h.1 c))) q
  alert_keep (renews_with active v new) s may q = absurd may
  alert_keep (wakes_with v e r x) s may q =
      let up = tells e (moves v (changes v (woken r x) s)) in
      alert_activated v (at_once (high_server (thread_at up.machine v).server)) up (alert_one v (woken r x) s (λ th h. (refl, h.1)) q)
  alert_keep (blocks_for by (for_mutex_again k how) due) s may q =
      alert_other by.thread (put_to_wait (record { wait = for_mutex_again k how; serial = s.machine.next_serial; due = due; call = by.call })) s (waits_blocked (thread_at s.machine by.thread).status may.0) q
  alert_keep (blocks_for by wait due) s may q = absurd may
  alert_keep (blocks_plainly by wait due) s may q = absurd may
  alert_keep (begins v mask) s may q =
      let up = tells (event.Start v) (moves v (changes v (started bodies v mask s.machine.now) s)) in
      alert_activated v (at_once (thread_at up.machine v).server) up (alert_one v (started bodies v mask s.machine.now) s (λ th h. (refl, λ c. none_of_new th.policy s.machine.now)) q)
  alert_keep (lives_no_more v) s may q = alert_one v without_life s (λ th h. (refl, λ c. none_of_none)) q
  alert_keep (recasts v f) s may q = absurd may
  alert_keep (rejoins v j) s may q = alert_one v (with_joiner j) s (λ th h. h) q
  alert_keep (refills_one v) s may q = absurd (no_unit may.1)
    where
      no_unit : Some t ≡ None → ⊥
      no_unit e = grind arith
  alert_keep move s may q = q

  pub awake_of : (s : Turn P) → AlertAt s → Awake bodies (Some t) s
  awake_of s q u e = let it : t ≡ u = grind arith in subst (λ (i : ℕ). is_blocked (thread_at s.machine i).status ≡ false) it q.0
