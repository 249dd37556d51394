-- The rule of the tick's end keeps the servers right.
use Rattle.std.proofs.Common.{Bool, List, None, Option, Some, [], ap, arith, false, length, refl, suc, sym, true, zero, ℕ, ◌<◌, ◌≤◌, ◌∷◌, ◌≡◌}
use Rattle.std.specs.Prelude.{is_some, nat_lt, option_map, ◌==◌, ◌&&◌, if◌then◌else◌}
use mathlib.Core.Path.{subst, ◌∙◌}
use Rattle.words_script.specs.declared.policy.Policy.{Policy}
use Rattle.words_script.specs.declared.policy.Policy.TheVariants as policy
use Rattle.words_trace.specs.declared.event.Event.TheVariants as event
use Rattle.rules_server.specs.Server.{ServerState, plan}
use Rattle.rules_machine.specs.Lists.{is}
use Rattle.rules_machine.specs.Bodies.{Bodies}
use Rattle.rules_machine.specs.State.{Status, Thread, Waiting, blocked, dormant, ended, runnable}
use Rattle.rules_machine.specs.Threads.{can_run, is_blocked, is_live, is_runnable, no_thread, thread_at, thread_in}
use Rattle.rules_machine.specs.Turns.{Turn, changes, moves_if, tells}
use Rattle.rules_machine.specs.Servers.{plans_server, with_server}
use Rattle.rules_machine.specs.Waking.{put_to_wait}
use Rattle.rules_machine.specs.Ticks.{TickEnd, capacity_in, consumed_in, ends_tick, exhausting, nothing, planning, slice_is_used, slicing, tick_end, without_slice}
use Rattle.rules_machine.specs.GoodState.{HasParameters, has_server_policy}
use Rattle.rules_machine.proofs.Reading.{changed-keeps, thread-other, thread-same}
use Rattle.rules_moves.specs.Moves.{Runs}
use Rattle.laws_machine.proofs.Servers.Changed.{high_again, planned_in}
use Rattle.laws_machine.proofs.Servers.OfThreads.{ThreadIn, ThreadRight, only}
use Rattle.laws_machine.proofs.Servers.Right.{ServerIn}
use Rattle.laws_machine.proofs.Servers.Moves.{Threads, one}
use Rattle.laws_machine.proofs.Servers.Alert.{NoneOf, contra}
use Rattle.laws_machine.proofs.Servers.Charges.{thread_sleeps}

abbrev pub ended_server : TickEnd → ServerState → ServerState
ended_server planning s = plan s
ended_server exhausting s = plan s
ended_server slicing s = s
ended_server nothing s = s

abbrev pub end_by : (was_high some is_blocked runs empty used : Bool) → TickEnd
end_by was_high some is_blocked runs empty used =
    if was_high && some && is_blocked then planning else if was_high && some && runs && empty then exhausting else if used then slicing else nothing

no_plan : (used : Bool) (s : ServerState) → ended_server (if used then slicing else nothing) s ≡ s
no_plan true s = refl
no_plan false s = refl

server_ends : (tolled used : Bool) (now : ℕ) (status : Status) (s : ServerState) → is_live status ≡ true → (tolled ≡ false → s.consumed ≡ 0) → ServerIn true now status s →
    ServerIn false now status (ended_server (end_by tolled (nat_lt 0 s.consumed) (is_blocked status) (is_runnable status) (s.capacity == 0) used) s)
server_ends tolled used now status s live idle h = by_all tolled refl (nat_lt 0 s.consumed) refl status refl (s.capacity == 0) refl
  where
    plans : 1 ≤ s.consumed → (is_runnable status ≡ true → s.capacity ≡ 0) → ServerIn false now status (plan s)
    plans some low = planned_in false now status s some (λ k. low) h

    -- nothing is consumed, or the thread runs on at its high priority
    stays : (1 ≤ s.consumed → (is_runnable status ≡ true) × (1 ≤ s.capacity)) → ServerIn false now status s
    stays goes = record {
      sound = h.sound;
      consumed = λ some. let c = h.consumed some in record { fresh = c.fresh; before = c.before; room = c.room; unbroken = c.unbroken; runs = λ e. ((goes some).0, high_again s (goes some).1 c.room) };
      ready = h.ready;
    }

    kept : (used : Bool) → (1 ≤ s.consumed → (is_runnable status ≡ true) × (1 ≤ s.capacity)) → ServerIn false now status (ended_server (if used then slicing else nothing) s)
    kept used goes = subst (ServerIn false now status) (sym (no_plan used s)) (stays goes)

    by_all : (a : Bool) → tolled ≡ a → (b : Bool) → nat_lt 0 s.consumed ≡ b → (st : Status) → status ≡ st → (z : Bool) → (s.capacity == 0) ≡ z →
        ServerIn false now status (ended_server (end_by a b (is_blocked st) (is_runnable st) z used) s)
    by_all false p b q st r z e = kept used (λ some. let none = idle p in absurd (omega arith))
    by_all true p false q st r z e = kept used (λ some. absurd (grind arith))
    by_all true p true q (dormant at) r z e = absurd (contra live (ap is_live r))
    by_all true p true q ended r z e = absurd (contra live (ap is_live r))
    by_all true p true q (blocked w) r z e = plans (grind arith) (λ runs. absurd (contra runs (ap is_runnable r)))
    by_all true p true q runnable r true e = plans (grind arith) (λ runs. grind arith)
    by_all true p true q runnable r false e = kept used (λ some. (ap is_runnable r, grind arith))

pub has_server : {P : Type 0} (ths : List (Thread P)) (t : ℕ) (server : ServerState) → (thread_in ths t).server ≡ Some server → t < length ths
has_server [] t server k = absurd (grind arith)
has_server (th ∷ ths) zero server k = omega arith
has_server (th ∷ ths) (suc t) server k = let rest = has_server ths t server k in omega arith

module _ {P : Type 0} (bodies : Bodies P) (t : ℕ) where
  -- what a thread's right servers go by
  abbrev Served : Type 0
  Served = Status × Policy × Option ServerState

  abbrev served : Thread P → Served
  served th = (th.status, th.policy, th.server)

  abbrev RightAs : Bool → ℕ → Served → Type 0
  RightAs own now x = ThreadIn own now x.0 x.1 x.2

  not_own : (u : ℕ) (s : Turn P) → (t == u) ≡ false → Threads bodies (Some t) s → ThreadRight false s.machine.now (thread_at s.machine u)
  not_own u s h all = subst (λ (own : Bool). ThreadRight own s.machine.now (thread_at s.machine u)) h (all u)

  same_own : (s : Turn P) → ThreadRight false s.machine.now (thread_at s.machine t) → Threads bodies (Some t) s → Threads bodies None s
  same_own s h all u = by_eq (t == u) refl
    where
      by_eq : (b : Bool) → (t == u) ≡ b → ThreadRight false s.machine.now (thread_at s.machine u)
      by_eq true e = let it : t ≡ u = grind arith in subst (λ (v : ℕ). ThreadRight false s.machine.now (thread_at s.machine v)) it h
      by_eq false e = not_own u s e all

  changed_own : (f : Thread P → Thread P) (s : Turn P) → t < length s.machine.threads → ThreadRight false s.machine.now (f (thread_at s.machine t)) → Threads bodies (Some t) s → Threads bodies None (changes t f s)
  changed_own f s within h all u = by_eq (t == u) refl
    where
      by_eq : (b : Bool) → (t == u) ≡ b → ThreadRight false s.machine.now (thread_at (changes t f s).machine u)
      by_eq true e = let it : t ≡ u = grind arith in
          subst (λ (v : ℕ). ThreadRight false s.machine.now (thread_at (changes t f s).machine v)) it (subst (ThreadRight false s.machine.now) (sym (thread-same s.machine t f within)) h)
      by_eq false e = subst (ThreadRight false s.machine.now) (sym (thread-other s.machine t u f e)) (not_own u s e all)

  plans_right : (o : Option ServerState) (s : Turn P) → (thread_at s.machine t).server ≡ o → Threads bodies (Some t) s →
      ThreadIn false s.machine.now (thread_at s.machine t).status (thread_at s.machine t).policy (option_map plan (thread_at s.machine t).server) → Threads bodies None (plans_server t o s)
  plans_right None s e all h = same_own s (none_planned (thread_at s.machine t).server e h) all
    where
      none_planned : (o : Option ServerState) → o ≡ None → ThreadIn false s.machine.now (thread_at s.machine t).status (thread_at s.machine t).policy (option_map plan o) → ThreadIn false s.machine.now (thread_at s.machine t).status (thread_at s.machine t).policy o
      none_planned None k g = g
      none_planned (Some x) k g = absurd (grind arith)
  plans_right (Some x) s e all h = changed_own (with_server plan) s (has_server s.machine.threads t x e) h all

  moved_right : (b : Bool) (s : Turn P) → Threads bodies None s → Threads bodies None (moves_if b t s)
  moved_right true s q = q
  moved_right false s q = q

  same_map : (f : ServerState → ServerState) → ((x : ServerState) → f x ≡ x) → (o : Option ServerState) → option_map f o ≡ o
  same_map f h None = refl
  same_map f h (Some x) = ap (λ (y : ServerState). Some y) (h x)

  pub ended_right : (e : TickEnd) (s : Turn P) → Threads bodies (Some t) s →
      ThreadIn false s.machine.now (thread_at s.machine t).status (thread_at s.machine t).policy (option_map (ended_server e) (thread_at s.machine t).server) → Threads bodies None (ends_tick e t s)
  ended_right planning s all h = plans_right (thread_at s.machine t).server s refl all h
  ended_right exhausting s all h = moved_right _ (plans_server t (thread_at s.machine t).server (tells (event.Exhaust t) s)) (plans_right (thread_at s.machine t).server (tells (event.Exhaust t) s) refl all h)
  ended_right slicing s all h =
      moved_right (can_run s.machine t) (changes t without_slice s)
      (same_own (changes t without_slice s) (subst (RightAs false s.machine.now) (sym (changed-keeps no_thread t t without_slice served (λ th. refl) s.machine.threads)) kept) (one bodies (Some t) t without_slice s (λ g. g) all))
    where
      kept : RightAs false s.machine.now (served (thread_at s.machine t))
      kept = subst (λ (o : Option ServerState). ThreadIn false s.machine.now (thread_at s.machine t).status (thread_at s.machine t).policy o) (same_map (ended_server slicing) (λ x. refl) (thread_at s.machine t).server) h
  ended_right nothing s all h = same_own s (subst (λ (o : Option ServerState). ThreadIn false s.machine.now (thread_at s.machine t).status (thread_at s.machine t).policy o) (same_map (ended_server nothing) (λ x. refl) (thread_at s.machine t).server) h) all

  -- what the rule of the tick's end leaves
  pub thread_ends : (tolled : Bool) (quantum now : ℕ) (th : Thread P) → (tolled ≡ false → NoneOf th.server) → ThreadRight true now th → ThreadIn false now th.status th.policy (option_map (ended_server (tick_end tolled quantum th)) th.server)
  thread_ends tolled quantum now th idle h = of_server th.server refl
    where
      live_of : (x : ServerState) → th.server ≡ Some x → is_live th.status ≡ true
      live_of x e = both (is_live th.status) (has_server_policy th.policy) (sym h.having ∙ ap is_some e)
        where
          both : (a b : Bool) → (a && b) ≡ true → a ≡ true
          both a b e = grind arith

      of_server : (o : Option ServerState) → th.server ≡ o → ThreadIn false now th.status th.policy (option_map (ended_server (tick_end tolled quantum th)) o)
      of_server None e = record { serves = h.serves; having = subst (λ (o : Option ServerState). is_some o ≡ (is_live th.status && has_server_policy th.policy)) e h.having; parameters = subst (HasParameters th.policy) e h.parameters; each = λ x k. absurd (grind arith) }
      of_server (Some y) e = record {
        serves = h.serves;
        having = subst (λ (o : Option ServerState). is_some o ≡ (is_live th.status && has_server_policy th.policy)) e h.having;
        parameters = params_of (tick_end tolled quantum th) th.policy (subst (HasParameters th.policy) e h.parameters);
        each = λ x k. subst (ServerIn false now th.status) (ap (λ (o : Option ServerState). ended_server (end_at o) y) (sym e) ∙ only k)
            (server_ends tolled (slice_is_used th.policy th.slice quantum) now th.status y (live_of y e) (λ c. idle c y e) (h.each y e));
      }
        where
          end_at : Option ServerState → TickEnd
          end_at o = end_by tolled (nat_lt 0 (consumed_in o)) (is_blocked th.status) (is_runnable th.status) (capacity_in o == 0) (slice_is_used th.policy th.slice quantum)

          same_params : (e : TickEnd) → ((ended_server e y).params ≡ y.params) × ((ended_server e y).kind ≡ y.kind)
          same_params planning = (refl, refl)
          same_params exhausting = (refl, refl)
          same_params slicing = (refl, refl)
          same_params nothing = (refl, refl)

          params_of : (e : TickEnd) (rule : Policy) → HasParameters rule (Some y) → HasParameters rule (Some (ended_server e y))
          params_of e (policy.Fifo p) k = absurd (grind arith)
          params_of e (policy.Rr p) k = absurd (grind arith)
          params_of e (policy.Sporadic params) k = let same = same_params e in (same.0 ∙ k.0, same.1 ∙ k.1)
          params_of e (policy.Strict params) k = let same = same_params e in (same.0 ∙ k.0, same.1 ∙ k.1)

  -- ---- the unit's own thread blocks

  its : (who : Option ℕ) (u : ℕ) → who ≡ Some u → is who u ≡ true
  its who u e = ap (λ (o : Option ℕ). is o u) e ∙ grind arith

  pub sleeps_right : (u : ℕ) (w : Waiting) (s : Turn P) → Runs (Some t) s.machine u → Threads bodies (Some t) s → Threads bodies (Some t) (changes u (put_to_wait w) s)
  sleeps_right u w s runs all =
      one bodies (Some t) u (put_to_wait w) s (thread_sleeps (is (Some t) u) s.machine.now (thread_at s.machine u).status w (thread_at s.machine u).policy (thread_at s.machine u).server (its (Some t) u runs.1) runs.0) all
