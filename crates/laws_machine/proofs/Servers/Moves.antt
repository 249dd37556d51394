-- Every move keeps the servers of a machine right.
use Rattle.std.proofs.Common.{Bool, List, None, Option, Some, [], ap, arith, false, inl, inr, length, refl, suc, sym, true, zero, ℕ, ◌<◌, ◌∷◌, ◌≡◌, ◌⊎◌}
use Rattle.std.specs.Option.{option_map_or}
use Rattle.std.specs.Prelude.{option_map, ◌==◌, ◌&&◌, if◌then◌else◌}
use mathlib.Core.Path.{subst, ◌∙◌}
use Rattle.words_numbers.specs.declared.res.Res.{Res}
use Rattle.words_script.specs.declared.policy.Policy.{Policy}
use Rattle.words_script.specs.declared.policy.Policy.TheVariants as policy
use Rattle.words_trace.specs.declared.event.Event.{Event}
use Rattle.words_trace.specs.declared.event.Event.TheVariants as event
use Rattle.rules_server.specs.declared.ServerKind.{ServerKind}
use Rattle.rules_server.specs.declared.ServerKind.TheVariants as kind
use Rattle.rules_server.specs.Server.{ServerState, activate, is_high, new_server, new_server_as, oldest_pending, refill}
use Rattle.rules_machine.specs.Lists.{changed_at, is}
use Rattle.rules_machine.specs.Bodies.{Bodies}
use Rattle.rules_machine.specs.State.{Status, Thread, Waiting, blocked, dormant, ended, for_mutex_again, runnable}
use Rattle.rules_machine.specs.Threads.{can_run, is_blocked, is_dormant, is_live, is_runnable, no_thread, thread_at, thread_in, waiting_in}
use Rattle.rules_machine.specs.Turns.{Turn, changes, moves, tells}
use Rattle.rules_machine.specs.Servers.{activates_if, activates_server, amount_of, at_once, at_once_as, high_server, refills_server, regains_high, server_of, with_server}
use Rattle.rules_machine.specs.Waking.{ending_with, on_top, put_to_wait, started, wakes_telling, woken}
use Rattle.rules_machine.specs.Lives.{with_joiner, without_life, without_top}
use Rattle.rules_machine.specs.Cancellation.{without_cleanup}
use Rattle.rules_machine.specs.Scheduling.{with_policy, with_priority}
use Rattle.rules_machine.specs.GoodState.{HasParameters, is_in_condition_wait, has_server_policy}
use Rattle.rules_machine.proofs.Reading.{changed-length, changed-twice, thread-other, thread-same}
use Rattle.rules_moves.specs.Moves.{Core, MayAwake, Move, alters, begins, blocks_for, blocks_plainly, core_of, does, drops, ends_with, enters_frame, leaves_frame, lives_no_more, prices, pushed, pushes, recasts, refills_one, rejoins, renews_with, wakes_with}
use Rattle.rules_moves.proofs.Cores.{live_seen, runnable_seen, same_read}
use Rattle.rules_moves.proofs.Waiters.Best.{blocked_within}
use Rattle.rules_moves.proofs.Waiters.OfThreads.{changed_is}
use Rattle.laws_machine.proofs.Servers.Changed.{activated_as, activated_in, refill_kind, refill_params, refilled_in, refilled_of}
use Rattle.laws_machine.proofs.Servers.OfThreads.{MayServe, ThreadIn, ThreadRight, new_thread_in, none_consumed, only, priced_in, with_other, woken_if, woken_in, woken_server}
use Rattle.laws_machine.proofs.Servers.Right.{ServerIn}

module _ {P : Type 0} (bodies : Bodies P) (who : Option ℕ) where
  -- the servers of all threads are right, that of the thread whose unit is under way as its tick left it
  abbrev pub Threads : Turn P → Type 0
  Threads s = (u : ℕ) → ThreadRight (is who u) s.machine.now (thread_at s.machine u)

  -- and that thread is not blocked
  abbrev pub Awake : Turn P → Type 0
  Awake s = (t : ℕ) → is who t ≡ true → is_blocked (thread_at s.machine t).status ≡ false

  pub one : (t : ℕ) (f : Thread P → Thread P) (s : Turn P) → (ThreadRight (is who t) s.machine.now (thread_at s.machine t) → ThreadRight (is who t) s.machine.now (f (thread_at s.machine t))) →
      Threads s → Threads (changes t f s)
  one t f s h all u = of_two (changed_is no_thread t u f s.machine.threads)
    where
      of_two : ((t ≡ u) × (thread_in (changed_at no_thread t f s.machine.threads) u ≡ f (thread_at s.machine t))) ⊎ (thread_in (changed_at no_thread t f s.machine.threads) u ≡ thread_at s.machine u) →
          ThreadRight (is who u) s.machine.now (thread_at (changes t f s).machine u)
      of_two (inl e) = subst (ThreadRight (is who u) s.machine.now) (sym e.1) (subst (λ (v : ℕ). ThreadRight (is who v) s.machine.now (f (thread_at s.machine t))) e.0 (h (all t)))
      of_two (inr e) = subst (ThreadRight (is who u) s.machine.now) (sym e) (all u)

  -- ---- a waking

  -- A thread was blocked, and is runnable and not yet activated.
  record Waking (t : ℕ) (s : Turn P) : Type 0 where
    others : (u : ℕ) → (t == u) ≡ false → ThreadRight (is who u) s.machine.now (thread_at s.machine u)
    itself : (is who t ≡ false) × (ThreadIn false s.machine.now runnable (thread_at s.machine t).policy (option_map (woken_server s.machine.now) (thread_at s.machine t).server))
    runs : (thread_at s.machine t).status ≡ runnable
    within : t < length s.machine.threads

  low_same : (now : ℕ) (o : Option ServerState) → at_once (high_server o) ≡ None → option_map (woken_server now) o ≡ o
  low_same now None e = refl
  low_same now (Some s) e = by_high (is_high s) e
    where
      up : (k : ServerKind) → at_once_as k s ≡ None → Some (woken_if true k now s) ≡ Some s
      up kind.Sporadic e = absurd (grind arith)
      up kind.Strict e = refl

      down : (k : ServerKind) → Some (woken_if false k now s) ≡ Some s
      down kind.Sporadic = refl
      down kind.Strict = refl

      by_high : (b : Bool) → at_once (if b then Some s else None) ≡ None → Some (woken_if b s.kind now s) ≡ Some s
      by_high true e = up s.kind e
      by_high false e = down s.kind

  high_same : (now : ℕ) (o : Option ServerState) (h : ServerState) → at_once (high_server o) ≡ Some h → option_map (woken_server now) o ≡ option_map (activate now) o
  high_same now None h e = absurd (grind arith)
  high_same now (Some s) h e = by_high (is_high s) e
    where
      up : (k : ServerKind) → at_once_as k s ≡ Some h → Some (woken_if true k now s) ≡ Some (activate now s)
      up kind.Sporadic e = refl
      up kind.Strict e = absurd (grind arith)

      by_high : (b : Bool) → at_once (if b then Some s else None) ≡ Some h → Some (woken_if b s.kind now s) ≡ Some (activate now s)
      by_high true e = up s.kind e
      by_high false e = absurd (grind arith)

  same_one : (t u : ℕ) → (t == u) ≡ true → t ≡ u
  same_one t u e = grind arith

  awoken : (t : ℕ) (s : Turn P) → Waking t s → (o : Option ServerState) → at_once (high_server (thread_at s.machine t).server) ≡ o → Threads (activates_server t o s)
  awoken t s w None e u = by_eq (t == u) refl
    where
      here : ThreadRight (is who t) s.machine.now (thread_at s.machine t)
      here = rw w.itself.0 (rw w.runs (subst (ThreadIn false s.machine.now runnable (thread_at s.machine t).policy) (low_same s.machine.now (thread_at s.machine t).server e) w.itself.1))

      by_eq : (b : Bool) → (t == u) ≡ b → ThreadRight (is who u) s.machine.now (thread_at s.machine u)
      by_eq true h = subst (λ (v : ℕ). ThreadRight (is who v) s.machine.now (thread_at s.machine v)) (same_one t u h) here
      by_eq false h = w.others u h
  awoken t s w (Some server) e u = by_eq (t == u) refl
    where
      after : ThreadRight (is who t) s.machine.now (with_server (activate s.machine.now) (thread_at s.machine t))
      after = rw w.itself.0 (rw w.runs (subst (ThreadIn false s.machine.now runnable (thread_at s.machine t).policy) (high_same s.machine.now (thread_at s.machine t).server server e) w.itself.1))

      by_eq : (b : Bool) → (t == u) ≡ b → ThreadRight (is who u) s.machine.now (thread_at (changes t (with_server (activate s.machine.now)) s).machine u)
      by_eq true h = subst (λ (v : ℕ). ThreadRight (is who v) s.machine.now (thread_at (changes t (with_server (activate s.machine.now)) s).machine v)) (same_one t u h)
          (subst (ThreadRight (is who t) s.machine.now) (sym (thread-same s.machine t (with_server (activate s.machine.now)) w.within)) after)
      by_eq false h = subst (ThreadRight (is who u) s.machine.now) (sym (thread-other s.machine t u (with_server (activate s.machine.now)) h)) (w.others u h)

  -- a thread is woken
  wakes_right : (t : ℕ) (e : Event) (r : Res) (v : ℕ) (s : Turn P) → is_blocked (thread_at s.machine t).status ≡ true → is who t ≡ false → Threads s → Threads (wakes_telling e t r v s)
  wakes_right t e r v s b mine all = awoken t (tells e (moves t (changes t (woken r v) s))) waking (at_once (high_server (thread_at (changes t (woken r v) s).machine t).server)) refl
    where
      there : t < length s.machine.threads
      there = blocked_within s.machine.threads t b

      same : thread_at (changes t (woken r v) s).machine t ≡ woken r v (thread_at s.machine t)
      same = thread-same s.machine t (woken r v) there

      waking : Waking t (tells e (moves t (changes t (woken r v) s)))
      waking = record {
        others = λ u h. subst (ThreadRight (is who u) s.machine.now) (sym (thread-other s.machine t u (woken r v) h)) (all u);
        itself = (
          mine,
          subst (λ (th : Thread P). ThreadIn false s.machine.now runnable th.policy (option_map (woken_server s.machine.now) th.server)) (sym same)
              (woken_in s.machine.now (thread_at s.machine t).status (thread_at s.machine t).policy (thread_at s.machine t).server b (subst (λ (own : Bool). ThreadRight own s.machine.now (thread_at s.machine t)) mine (all t))),
        );
        runs = ap (λ (th : Thread P). th.status) same;
        within = subst (λ (n : ℕ). t < n) (sym (changed-length no_thread t (woken r v) s.machine.threads)) there;
      }

  -- ---- a new server

  -- a thread that was given a new server, or none, is activated
  new_server_in : (now : ℕ) (new : Policy) (s : ServerState) → server_of new now ≡ Some s → s.consumed ≡ 0
  new_server_in now (policy.Fifo p) s e = absurd (grind arith)
  new_server_in now (policy.Rr p) s e = absurd (grind arith)
  new_server_in now (policy.Strict params) s e = let it : new_server_as kind.Strict params now ≡ s = only e in sym (ap (λ (x : ServerState). x.consumed) it)
  new_server_in now (policy.Sporadic params) s e = let it : new_server params now ≡ s = only e in sym (ap (λ (x : ServerState). x.consumed) it)

  pub activates_right : (t : ℕ) (o : Option ServerState) (s : Turn P) → ((x : ServerState) → (thread_at s.machine t).server ≡ Some x → x.consumed ≡ 0) → Threads s → Threads (activates_server t o s)
  activates_right t None s none all = all
  activates_right t (Some server) s none all =
      one t (with_server (activate s.machine.now)) s (λ h. with_other (is who t) (is who t) s.machine.now s.machine.now (thread_at s.machine t).status (thread_at s.machine t).status (thread_at s.machine t).policy (thread_at s.machine t).server
      (activate s.machine.now) refl (λ x. (refl, refl)) (λ x k g. activated_in (is who t) s.machine.now (thread_at s.machine t).status x (none x k) g.sound) h) all

  activates_if_right : (b : Bool) (t : ℕ) (s : Turn P) → ((x : ServerState) → (thread_at s.machine t).server ≡ Some x → x.consumed ≡ 0) → Threads s → Threads (activates_if b t s)
  activates_if_right true t s none all = activates_right t (at_once (thread_at s.machine t).server) s none all
  activates_if_right false t s none all = all

  -- ---- a refill

  refills_right : (t : ℕ) (o : Option ServerState) (s : Turn P) → (thread_at s.machine t).server ≡ o → is who t ≡ false → Threads s → Threads (refills_server t o s)
  refills_right t None s e mine all = all
  refills_right t (Some server) s e mine all = by_regain (regains_high server && can_run s.machine t) refl
    where
      there : t < length s.machine.threads
      there = has_server s.machine.threads t e
        where
          has_server : (ths : List (Thread P)) (t : ℕ) → (thread_in ths t).server ≡ Some server → t < length ths
          has_server [] t k = absurd (grind arith)
          has_server (th ∷ ths) zero k = omega arith
          has_server (th ∷ ths) (suc t) k = let rest = has_server ths t k in omega arith

      -- what the refill and the activation come to
      after : (b : Bool) → (regains_high server && can_run s.machine t) ≡ b → ThreadIn (is who t) s.machine.now (thread_at s.machine t).status (thread_at s.machine t).policy (option_map (refilled_of b s.machine.now) (thread_at s.machine t).server)
      after b k =
          with_other (is who t) (is who t) s.machine.now s.machine.now (thread_at s.machine t).status (thread_at s.machine t).status (thread_at s.machine t).policy (thread_at s.machine t).server (refilled_of b s.machine.now) refl
          (λ x. same_params b x) (λ x h g. subst (λ (y : ServerState). ServerIn (is who t) s.machine.now (thread_at s.machine t).status (refilled_of b s.machine.now y)) (only (sym e ∙ h))
          (subst (λ (c : Bool). ServerIn (is who t) s.machine.now (thread_at s.machine t).status (refilled_of c s.machine.now server)) k
          (refilled_in (is who t) s.machine.now (thread_at s.machine t).status server mine (subst (ServerIn (is who t) s.machine.now (thread_at s.machine t).status) (sym (only (sym e ∙ h))) g)))) (all t)
        where
          as_kind : (k : ServerKind) (x : ServerState) → ((activated_as k s.machine.now x).params ≡ x.params) × ((activated_as k s.machine.now x).kind ≡ x.kind)
          as_kind kind.Sporadic x = (refl, refl)
          as_kind kind.Strict x = (refl, refl)

          same_params : (b : Bool) (x : ServerState) → ((refilled_of b s.machine.now x).params ≡ x.params) × ((refilled_of b s.machine.now x).kind ≡ x.kind)
          same_params true x = let same = as_kind x.kind (refill x) in (same.0 ∙ refill_params x, same.1 ∙ refill_kind x)
          same_params false x = (refill_params x, refill_kind x)

      by_regain : (b : Bool) → (regains_high server && can_run s.machine t) ≡ b → Threads (activates_if b t (tells (event.Refill t (amount_of (oldest_pending server)) (refill server).capacity) (changes t (with_server refill) s)))
      by_regain false k = one t (with_server refill) s (λ h. after false k) all
      by_regain true k =
          let up = tells (event.Refill t (amount_of (oldest_pending server)) (refill server).capacity) (changes t (with_server refill) s) in
          let has : (thread_at up.machine t).server ≡ Some (refill server) = ap (λ (th : Thread P). th.server) (thread-same s.machine t (with_server refill) there) ∙ ap (option_map refill) e in
          subst (λ (o : Option ServerState). Threads (activates_server t (at_once o) up)) (sym has) (by_kind (refill server).kind refl)
        where
          up : Turn P
          up = tells (event.Refill t (amount_of (oldest_pending server)) (refill server).capacity) (changes t (with_server refill) s)

          Both : Type 0
          Both = Threads (activates_server t (at_once (Some (refill server))) up)

          two_maps : (o : Option ServerState) → o ≡ Some server → server.kind ≡ kind.Sporadic → option_map (activate s.machine.now) (option_map refill o) ≡ option_map (refilled_of true s.machine.now) o
          two_maps None k q = refl
          two_maps (Some x) k q =
              let it : x ≡ server = only k in
              let sort : x.kind ≡ kind.Sporadic = ap (λ (y : ServerState). y.kind) it ∙ q in
              ap (λ (c : ServerKind). Some (activated_as c s.machine.now (refill x))) (sym sort)

          one_map : (o : Option ServerState) → o ≡ Some server → server.kind ≡ kind.Strict → option_map refill o ≡ option_map (refilled_of true s.machine.now) o
          one_map None k q = refl
          one_map (Some x) k q =
              let it : x ≡ server = only k in
              let sort : x.kind ≡ kind.Strict = ap (λ (y : ServerState). y.kind) it ∙ q in
              ap (λ (c : ServerKind). Some (activated_as c s.machine.now (refill x))) (sym sort)

          by_kind : (c : ServerKind) → (refill server).kind ≡ c → Threads (activates_server t (at_once_as (refill server).kind (refill server)) up)
          by_kind kind.Sporadic q =
              subst (λ (c : ServerKind). Threads (activates_server t (at_once_as c (refill server)) up)) (sym q)
              (subst (λ (threads : List (Thread P)). (u : ℕ) → ThreadRight (is who u) s.machine.now (thread_in threads u)) (sym (changed-twice no_thread t (with_server refill) (with_server (activate s.machine.now)) s.machine.threads))
              (one t (λ th. with_server (activate s.machine.now) (with_server refill th)) s
              (λ h. subst (ThreadIn (is who t) s.machine.now (thread_at s.machine t).status (thread_at s.machine t).policy) (sym (two_maps (thread_at s.machine t).server e (sym (refill_kind server) ∙ q))) (after true k)) all))
          by_kind kind.Strict q =
              subst (λ (c : ServerKind). Threads (activates_server t (at_once_as c (refill server)) up)) (sym q)
              (one t (with_server refill) s (λ h. subst (ThreadIn (is who t) s.machine.now (thread_at s.machine t).status (thread_at s.machine t).policy) (sym (one_map (thread_at s.machine t).server e (sym (refill_kind server) ∙ q))) (after true k)) all)

  -- ---- every move

  not_own : (t : ℕ) (b : Bool) → is who t ≡ b → (b ≡ true → ⊥) → is who t ≡ false
  not_own t true e h = absurd (h refl)
  not_own t false e h = e

  contra : {b : Bool} → b ≡ true → b ≡ false → ⊥
  contra p q = grind arith

  pub sleeper : (t : ℕ) (s : Turn P) → Awake s → is_blocked (thread_at s.machine t).status ≡ true → is who t ≡ false
  sleeper t s awake b = not_own t (is who t) refl (λ e. contra b (awake t e))

  -- a thread in a condition wait is blocked, and waits on for the mutex
  blocked_in : (own : Bool) (now : ℕ) (w : Waiting) (status : Status) (rule : Policy) (server : Option ServerState) → own ≡ false → is_blocked status ≡ true → ThreadIn own now status rule server → ThreadIn own now (blocked w) rule server
  blocked_in own now w status rule server mine b h = record {
    having = h.having ∙ ap (λ (live : Bool). live && has_server_policy rule) (live status b);
    serves = h.serves;
    parameters = h.parameters;
    each = λ x k. let g = h.each x k in let none = none_consumed now status x b (subst (λ (own : Bool). ServerIn own now status x) mine g) in
        record { sound = g.sound; consumed = λ some. absurd (omega arith); ready = λ sort runs high. absurd (grind arith) };
  }
    where
      live : (status : Status) → is_blocked status ≡ true → is_live status ≡ is_live (blocked w)
      live (dormant at) p = absurd (grind arith)
      live runnable p = refl
      live (blocked v) p = refl
      live ended p = absurd (grind arith)

  -- another status, which lives and runs as the old one
  status_in : (own : Bool) (now : ℕ) (old new : Status) (rule : Policy) (server : Option ServerState) → is_live new ≡ is_live old → is_runnable new ≡ is_runnable old →
      ThreadIn own now old rule server → ThreadIn own now new rule server
  status_in own now old new rule server lives runs h = record {
    having = h.having ∙ ap (λ (live : Bool). live && has_server_policy rule) (sym lives);
    serves = h.serves;
    parameters = h.parameters;
    each = λ x k. let g = h.each x k in
        record {
          sound = g.sound;
          consumed = λ some. let c = g.consumed some in
              record { fresh = c.fresh; before = c.before; room = c.room; unbroken = c.unbroken; runs = λ mine. (runs ∙ (c.runs mine).0, (c.runs mine).1) };
          ready = λ sort r high. g.ready sort (sym runs ∙ r) high;
        };
  }

  of_core : (own : Bool) (now : ℕ) (a b : Thread P) → core_of a ≡ core_of b → ThreadRight own now b → ThreadRight own now a
  of_core own now a b e h =
      let lives = same_read is_live live_seen a b e in
      let runs = same_read is_runnable runnable_seen a b e in
      subst (λ (c : Core P). ThreadIn own now a.status c.policy c.server) (sym e) (status_in own now b.status a.status b.policy b.server lives runs h)

  begun_none : (t mask : ℕ) (s : Turn P) → t < length s.machine.threads → (x : ServerState) → (thread_at (changes t (started bodies t mask s.machine.now) s).machine t).server ≡ Some x → x.consumed ≡ 0
  begun_none t mask s there x e =
      new_server_in s.machine.now (thread_at s.machine t).policy x (sym (ap (λ (th : Thread P). th.server) (thread-same s.machine t (started bodies t mask s.machine.now) there)) ∙ e)

  renewed_none : (t : ℕ) (new : Policy) (s : Turn P) → t < length s.machine.threads → (x : ServerState) → (thread_at (changes t (with_policy new s.machine.now) s).machine t).server ≡ Some x → x.consumed ≡ 0
  renewed_none t new s there x e = new_server_in s.machine.now new x (sym (ap (λ (th : Thread P). th.server) (thread-same s.machine t (with_policy new s.machine.now) there)) ∙ e)

  pub here : (passes : Status → Bool) → passes ended ≡ false → (ths : List (Thread P)) (t : ℕ) → passes (thread_in ths t).status ≡ true → t < length ths
  here passes none [] t e = absurd (contra e none)
  here passes none (th ∷ ths) zero e = omega arith
  here passes none (th ∷ ths) (suc t) e = let rest = here passes none ths t e in omega arith

  dead_in : (own : Bool) (now : ℕ) (rule : Policy) → MayServe rule → ThreadIn own now ended rule None
  dead_in own now rule serves = record { having = refl; serves = serves; parameters = without rule; each = λ x k. absurd (grind arith) }
    where
      without : (rule : Policy) → HasParameters rule None
      without (policy.Fifo p) = refl
      without (policy.Rr p) = refl
      without (policy.Sporadic params) = tt
      without (policy.Strict params) = tt

  pub in_wait : (status : Status) → option_map_or (λ (w : Waiting). is_in_condition_wait w.wait) (waiting_in status) false ≡ true → is_blocked status ≡ true
  in_wait (dormant at) e = absurd (grind arith)
  in_wait runnable e = absurd (grind arith)
  in_wait (blocked w) e = refl
  in_wait ended e = absurd (grind arith)

  pub threads_renewed : (active : Bool) (t : ℕ) (new : Policy) (s : Turn P) → is_live (thread_at s.machine t).status ≡ true → MayServe new → Threads s → Threads (activates_if active t (changes t (with_policy new s.machine.now) s))
  threads_renewed active t new s live serves all =
      let there : t < length s.machine.threads = here is_live refl s.machine.threads t live in
      activates_if_right active t (changes t (with_policy new s.machine.now) s) (renewed_none t new s there)
      (one t (with_policy new s.machine.now) s (λ h. new_thread_in (is who t) s.machine.now (thread_at s.machine t).status new live serves) all)

  pub threads_keep : (move : Move P) (s : Turn P) → MayAwake who move s → Awake s → Threads s → Threads (does bodies move s)
  threads_keep (alters t f) s may awake all = one t f s (of_core (is who t) s.machine.now (f (thread_at s.machine t)) (thread_at s.machine t) (may (thread_at s.machine t))) all
  threads_keep (ends_with t v) s may awake all = one t (ending_with v) s (λ h. h) all
  threads_keep (enters_frame t f) s may awake all = one t (on_top f) s (λ h. h) all
  threads_keep (leaves_frame t) s may awake all = one t without_top s (λ h. h) all
  threads_keep (pushes t u) s may awake all = one t (pushed u) s (λ h. h) all
  threads_keep (drops t) s may awake all = one t without_cleanup s (λ h. h) all
  threads_keep (prices t p) s may awake all =
      one t (with_priority p) s (priced_in p (is who t) s.machine.now (thread_at s.machine t).status (thread_at s.machine t).policy (thread_at s.machine t).server) all
  threads_keep (renews_with active t new) s may awake all = absurd may
  threads_keep (wakes_with t e r v) s may awake all = wakes_right t e r v s may.0 (sleeper t s awake may.0) all
  threads_keep (blocks_for by (for_mutex_again k how) due) s may awake all =
      let b : is_blocked (thread_at s.machine by.thread).status ≡ true = in_wait (thread_at s.machine by.thread).status may.0 in
      let w : Waiting = record { wait = for_mutex_again k how; serial = s.machine.next_serial; due = due; call = by.call } in
      one by.thread (put_to_wait w) s (blocked_in (is who by.thread) s.machine.now w (thread_at s.machine by.thread).status (thread_at s.machine by.thread).policy (thread_at s.machine by.thread).server (sleeper by.thread s awake b) b) all
  threads_keep (blocks_for by wait due) s may awake all = absurd may
  threads_keep (blocks_plainly by wait due) s may awake all = absurd may
  threads_keep (begins t mask) s may awake all =
      let there : t < length s.machine.threads = here is_dormant refl s.machine.threads t may in
      let up = tells (event.Start t) (moves t (changes t (started bodies t mask s.machine.now) s)) in
      activates_right t (at_once (thread_at up.machine t).server) up (begun_none t mask s there)
      (one t (started bodies t mask s.machine.now) s (λ h. new_thread_in (is who t) s.machine.now runnable (thread_at s.machine t).policy refl h.serves) all)
  threads_keep (lives_no_more t) s may awake all = one t without_life s (λ h. dead_in (is who t) s.machine.now (thread_at s.machine t).policy h.serves) all
  threads_keep (recasts t f) s may awake all = absurd may
  threads_keep (rejoins t j) s may awake all = one t (with_joiner j) s (λ h. h) all
  threads_keep (refills_one t) s may awake all = refills_right t (thread_at s.machine t).server s refl (ap (λ (o : Option ℕ). is o t) may.1) all
  threads_keep move s may awake all = all
