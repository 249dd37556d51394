-- The account of a thread through a tick: its dispatch, its charge, and its end.
use Rattle.std.proofs.Common.{Bool, List, [], ◌∷◌, None, Option, Some, ap, arith, false, refl, sym, true, ℕ, ◌+◌, ◌≤◌, ◌≡◌}
use Rattle.std.specs.Prelude.{is_some, nat_lt, not, option_map, ◌==◌, ◌&&◌, if◌then◌else◌}
use mathlib.Core.Path.{subst, ◌∙◌}
use Rattle.words_script.specs.declared.policy.Policy.{Policy}
use Rattle.words_trace.specs.declared.event.Event.TheVariants as event
use Rattle.rules_server.specs.declared.ServerKind.{ServerKind}
use Rattle.rules_server.specs.declared.ServerKind.TheVariants as server_kind
use Rattle.rules_server.specs.Calls.{MayPlan}
use Rattle.rules_server.specs.Server.{ServerState, activate, charge, is_high, plan, replenishment}
use Rattle.rules_machine.specs.declared.dispatch.LastDispatch.{LastDispatch}
use Rattle.rules_machine.specs.declared.dispatch.LastDispatch.TheVariants as last
use Rattle.rules_machine.specs.Bodies.{Bodies}
use Rattle.rules_machine.specs.Lists.{is}
use Rattle.rules_machine.specs.State.{Machine, Status, Thread, blocked, dormant, ended, runnable}
use Rattle.rules_machine.specs.Threads.{can_run, is_blocked, is_dormant, is_live, is_runnable, thread_at, thread_numbers}
use Rattle.rules_machine.specs.Turns.{Turn, changes, moves_if, tells}
use Rattle.rules_machine.specs.Servers.{activates_server, charged, closes, closes_of, has_high, has_run, is_strict, may_open, opens, opens_for, opens_if, plans, plans_if, plans_server, with_server}
use Rattle.rules_machine.specs.Dispatch.{dispatch_event, dispatch_of, dispatches, is_same, tells_unless}
use Rattle.rules_machine.specs.GoodState.{has_server_policy}
use Rattle.rules_machine.specs.Priorities.{exec}
use Rattle.rules_machine.specs.Ticks.{TickEnd, prepares, capacity_in, consumed_in, ends_tick, exhausting, nothing, planning, slice_is_used, slicing, tick_charged, tick_end, without_slice}
use Rattle.rules_machine.specs.Units.{in_unit}
use Rattle.rules_machine.proofs.Reading.{thread-other, thread-same}
use Rattle.rules_moves.proofs.Runs.Preparing.{Alike, alike, alike_runs, closes_keep}
use Rattle.rules_moves.proofs.Runs.Ticks.{charged_turn, dispatched}
use Rattle.rules_moves.proofs.Waiters.Best.{running_within}
use Rattle.laws_machine.proofs.Budgets.Units.{NotDue}
use Rattle.laws_machine.proofs.Servers.OfThreads.{ThreadRight, only}
use Rattle.laws_machine.proofs.Servers.Right.{Consumed}
use Rattle.laws_machine.proofs.Servers.Moves.{Threads}
use Rattle.laws_machine.proofs.Servers.Ends.{end_by, has_server}
use Rattle.laws_machine.proofs.Servers.Units.{kept_in_unit}
use Rattle.tool_audit.specs.declared.server.Limits.{Limits}
use Rattle.tool_audit.specs.Marks.{exhausts, is_given, is_taken}
use Rattle.tool_audit.specs.Replay.{Account, after_saying, tick}
use Rattle.laws_audit.specs.Events.{is_ran}
use Rattle.laws_audit.proofs.Standing.{Stands, later_stands, told_stands}
use Rattle.laws_audit.proofs.Accounts.{Booked, exhaustion_kept, given_kept, plan_kept, planned_booked, planned_of, taken_kept}
use Rattle.laws_audit.proofs.AccountFits.{Fits, contra, is_ended, lives_account, mine_says, not_mine, runs_lives}
use Rattle.laws_audit.proofs.Moves.{FitsOf, Recorded, activates_other, one, other, told_as, told_nothing}
use Rattle.laws_audit.proofs.ChargedTicks.{idle_fits, run_fits}

-- ---- in a turn

module _ {P : Type 0} (bodies : Bodies P) (t : ℕ) (lim : Limits) (a : Account) where
  -- between two ticks, where nothing is owed
  abbrev pub Rested : Turn P → Type 0
  Rested s = (T : Bool) × Recorded bodies t lim a false T s

  -- while the unit of a thread is under way
  abbrev pub Running : Bool → ℕ → Turn P → Type 0
  Running tolled u s = Recorded bodies t lim a (u == t) tolled s

  -- ---- the dispatch

  given_fits : (T : Bool) (now : ℕ) (th : Thread P) (b : Account) → FitsOf bodies t lim a false T (Booked lim) now th b → FitsOf bodies t lim a false T (Booked lim) now th (after_saying b is_given)
  given_fits T now th b f = record {
    clear = f.clear;
    at = f.at;
    started = f.started;
    exited = f.exited;
    ticks = f.ticks;
    blank = f.blank;
    limits = f.limits;
    fresh = f.fresh;
    owes = f.owes;
    each = λ x k. let h = f.each x k in let g = h.agrees in record {
      agrees = record { level = g.level; planned = g.planned; pending = g.pending; period = g.period; budget = g.budget; max = g.max; high_total = g.high_total; refilled_total = g.refilled_total; sporadic = g.sporadic };
      consumed = λ some. let i = h.consumed some in record { before = i.before; active = i.active; since = i.since };
      ready = λ runs high. let i = h.ready runs high in record { before = i.before; active = i.active; since = i.since };
    };
  }

  taken_fits : (T : Bool) (now : ℕ) (th : Thread P) (b : Account) → FitsOf bodies t lim a false T (Booked lim) now th b → FitsOf bodies t lim a false T (Booked lim) now th (after_saying b is_taken)
  taken_fits T now th b f = record {
    clear = f.clear;
    at = f.at;
    started = f.started;
    exited = f.exited;
    ticks = f.ticks;
    blank = f.blank;
    limits = f.limits;
    fresh = f.fresh;
    owes = f.owes;
    each = λ x k. let h = f.each x k in let g = h.agrees in record {
      agrees = record { level = g.level; planned = g.planned; pending = g.pending; period = g.period; budget = g.budget; max = g.max; high_total = g.high_total; refilled_total = g.refilled_total; sporadic = g.sporadic };
      consumed = λ some. let i = h.consumed some in record { before = i.before; active = i.active; since = i.since };
      ready = λ runs high. let i = h.ready runs high in record { before = i.before; active = i.active; since = i.since };
    };
  }

  same_ran : (before : LastDispatch) (to : Option ℕ) → is_same before to ≡ true → is_ran before t ≡ is_ran (dispatch_of to) t
  same_ran last.NoTick to e = absurd (grind arith)
  same_ran last.Idle None e = refl
  same_ran last.Idle (Some u) e = absurd (grind arith)
  same_ran (last.Ran v) None e = absurd (grind arith)
  same_ran (last.Ran v) (Some u) e = let it : v ≡ u = grind arith in ap (λ (i : ℕ). i == t) it

  pub dispatches_rested : (to : Option ℕ) (s : Turn P) → ((u : ℕ) → to ≡ Some u → can_run s.machine u ≡ true) → Rested s → Rested (dispatches to s)
  dispatches_rested to s runs q = (q.0, by_same (is_same s.machine.last to) refl)
    where
      b : Account
      b = q.1.0

      by_one : (to : Option ℕ) → ((u : ℕ) → to ≡ Some u → can_run s.machine u ≡ true) → (c : Account) × Stands t lim a (tells (dispatch_event s.machine to) s).events s.machine.now (dispatch_of to) c × FitsOf bodies t lim a false q.0 (Booked lim) s.machine.now (thread_at s.machine t) c
      by_one None runs = (
        after_saying q.1.0 is_taken,
        told_stands t lim a s.events s.machine.now s.machine.last last.Idle event.Idle is_taken q.1.0 refl refl q.1.2.at (taken_kept lim q.1.0 q.1.2.clear) refl q.1.1,
        taken_fits q.0 s.machine.now (thread_at s.machine t) q.1.0 q.1.2,
      )
      by_one (Some u) runs = by_eq (u == t) refl
        where
          by_eq : (c : Bool) → (u == t) ≡ c → (c : Account) × Stands t lim a (tells (dispatch_event s.machine (Some u)) s).events s.machine.now (dispatch_of (Some u)) c × FitsOf bodies t lim a false q.0 (Booked lim) s.machine.now (thread_at s.machine t) c
          by_eq true e =
              let it : u ≡ t = grind arith in
              let th = thread_at s.machine t in
              let mine : is_runnable th.status ≡ true = subst (λ (i : ℕ). can_run s.machine i ≡ true) it (runs u refl) in (
                after_saying q.1.0 is_given,
                told_stands t lim a s.events s.machine.now s.machine.last (last.Ran u) (event.Dispatch u (exec s.machine u)) is_given q.1.0 refl (ap (λ (c : Bool). if c then is_given else is_taken) e) q.1.2.at
                    (given_kept lim q.1.0 q.1.2.clear (lives_account lim false q.0 (Booked lim) s.machine.now th.status th.policy th.server th.ticks q.1.0 (runs_lives th.status mine) q.1.2)) (sym e) q.1.1,
                given_fits q.0 s.machine.now (thread_at s.machine t) q.1.0 q.1.2,
              )
          by_eq false e = (
            after_saying q.1.0 is_taken,
            told_stands t lim a s.events s.machine.now s.machine.last (last.Ran u) (event.Dispatch u (exec s.machine u)) is_taken q.1.0 refl (ap (λ (c : Bool). if c then is_given else is_taken) e) q.1.2.at (taken_kept lim q.1.0 q.1.2.clear) (sym e) q.1.1,
            taken_fits q.0 s.machine.now (thread_at s.machine t) q.1.0 q.1.2,
          )

      by_same : (c : Bool) → is_same s.machine.last to ≡ c → (d : Account) × Stands t lim a (tells_unless c (dispatch_event s.machine to) s).events (tells_unless c (dispatch_event s.machine to) s).machine.now (dispatch_of to) d
          × FitsOf bodies t lim a false q.0 (Booked lim) (tells_unless c (dispatch_event s.machine to) s).machine.now (thread_at (tells_unless c (dispatch_event s.machine to) s).machine t) d
      by_same true e = let h = q.1.1 in (q.1.0, record { kept = h.kept; early = h.early; is = h.is; has = h.has ∙ same_ran s.machine.last to e; rising = h.rising; unended = h.unended }, q.1.2)
      by_same false e = by_one to runs

  -- ---- the charge

  not_ran : (before : LastDispatch) (u : ℕ) → before ≡ last.Ran u → (u == t) ≡ false → is_ran before t ≡ false
  not_ran before u e k = ap (λ (d : LastDispatch). is_ran d t) e ∙ k

  module _ (s : Turn P) (all : Threads bodies None s) (none : (x : ServerState) → (thread_at s.machine t).server ≡ Some x → NotDue s.machine.now x) (q : Rested s) where
    pub idles_rested : s.machine.last ≡ last.Idle → (b : Account) × Stands t lim a s.events (s.machine.now + 1) s.machine.last b × FitsOf bodies t lim a false q.0 (Booked lim) (s.machine.now + 1) (thread_at s.machine t) b
    idles_rested e =
        let th = thread_at s.machine t in (
          tick lim q.1.0,
          later_stands t lim a s.events s.machine.now s.machine.last q.1.0 q.1.1,
          idle_fits lim q.0 s.machine.now th.status th.policy th.server th.ticks q.1.0 q.1.2 (all t).having none q.0 (q.1.1.has ∙ ap (λ (d : LastDispatch). is_ran d t) e),
        )

    pub charges_running : (u : ℕ) → s.machine.last ≡ last.Ran u → can_run s.machine u ≡ true → Running (has_high (thread_at s.machine u).server) u (charged_turn bodies u s)
    charges_running u e can = by_eq (u == t) refl
      where
        f : Thread P → Thread P
        f x = tick_charged (in_unit bodies (thread_at s.machine u)).thread

        by_eq : (c : Bool) → (u == t) ≡ c → Recorded bodies t lim a c (has_high (thread_at s.machine u).server) (charged_turn bodies u s)
        by_eq false k =
            let th = thread_at s.machine t in (
              tick lim q.1.0,
              later_stands t lim a s.events s.machine.now s.machine.last q.1.0 q.1.1,
              subst (λ (x : Thread P). FitsOf bodies t lim a false (has_high (thread_at s.machine u).server) (Booked lim) (s.machine.now + 1) x (tick lim q.1.0)) (sym (thread-other s.machine u t (λ th. tick_charged (in_unit bodies (thread_at s.machine u)).thread) k))
                  (idle_fits lim q.0 s.machine.now th.status th.policy th.server th.ticks q.1.0 q.1.2 (all t).having none (has_high (thread_at s.machine u).server) (q.1.1.has ∙ not_ran s.machine.last u e k)),
            )
        by_eq true k =
            let it : t ≡ u = grind arith in
            let th = thread_at s.machine t in
            let runs : is_runnable th.status ≡ true = subst (λ (i : ℕ). can_run s.machine i ≡ true) (sym it) can in
            let after : Fits lim true (has_high th.server) (Booked lim) (s.machine.now + 1) th.status th.policy (option_map charged th.server) (th.ticks + 1) (tick lim q.1.0) =
            run_fits lim q.0 s.machine.now th.status th.policy th.server th.ticks q.1.0 q.1.2 (all t).having none (q.1.1.has ∙ ap (λ (d : LastDispatch). is_ran d t) e ∙ k) runs in (
              tick lim q.1.0,
              later_stands t lim a s.events s.machine.now s.machine.last q.1.0 q.1.1,
              subst (λ (i : ℕ). FitsOf bodies t lim a true (has_high (thread_at s.machine i).server) (Booked lim) (s.machine.now + 1) (thread_at (charged_turn bodies i s).machine t) (tick lim q.1.0)) it
                  (subst (λ (x : Thread P). FitsOf bodies t lim a true (has_high (thread_at s.machine t).server) (Booked lim) (s.machine.now + 1) x (tick lim q.1.0)) (sym (thread-same s.machine t (λ th. tick_charged (in_unit bodies (thread_at s.machine t)).thread) (running_within s.machine.threads t runs)))
                  (subst (λ (x : Status × Policy × Option ServerState × ℕ). Fits lim true (has_high (thread_at s.machine t).server) (Booked lim) (s.machine.now + 1) x.0 x.1 (option_map charged x.2) (x.3 + 1) (tick lim q.1.0))
                  (sym (kept_in_unit bodies (λ (x : Thread P). (x.status, x.policy, x.server, x.ticks)) (λ fs x. refl) (λ x. refl) (thread_at s.machine t))) after)),
            )

  -- ---- the tick's end

  moved : (c : Bool) (v : ℕ) (s : Turn P) → Rested s → Rested (moves_if c v s)
  moved true v s q = q
  moved false v s q = q

  plans_other : (v : ℕ) (o : Option ServerState) (s : Turn P) → (v == t) ≡ false → Rested s → Rested (plans_server v o s)
  plans_other v None s e q = q
  plans_other v (Some x) s e q = (
    q.0,
    told_nothing bodies t lim a false q.0 (Booked lim) (event.Plan v (replenishment x).amount (replenishment x).due) (changes v (with_server plan) s) refl (not_mine (v == t) (planned_of lim x) e)
        (other bodies t lim a false q.0 (Booked lim) v (with_server plan) s e q.1),
  )

  -- ---- what precedes the dispatch, and what follows it: runs of strict servers

  -- the thread has a sporadic server, if it has one
  abbrev IsSporadic : Option ServerState → Type 0
  IsSporadic o = (x : ServerState) → o ≡ Some x → x.kind ≡ server_kind.Sporadic

  of_rested : (s : Turn P) → Rested s → IsSporadic (thread_at s.machine t).server
  of_rested s q x e = (q.1.2.each x e).agrees.sporadic

  no_run : (o : Option ServerState) → IsSporadic o → has_run o ≡ true → ⊥
  no_run None sort run = absurd (grind arith)
  no_run (Some x) sort run = absurd (none (nat_lt 0 x.consumed) (sym (ap (λ (k : ServerKind). is_strict k && nat_lt 0 x.consumed) (sort x refl)) ∙ run))
    where
      none : (b : Bool) → (false && b) ≡ true → ⊥
      none b e = absurd (grind arith)

  no_opening : (x : ServerState) → x.kind ≡ server_kind.Sporadic → may_open x ≡ true → ⊥
  no_opening x sort may = absurd (none (is_high x) (x.consumed == 0) (sym (ap (λ (k : ServerKind). is_strict k && is_high x && x.consumed == 0) sort) ∙ may))
    where
      none : (a b : Bool) → (false && a && b) ≡ true → ⊥
      none a b e = absurd (grind arith)

  closes_rested : (v : ℕ) (s : Turn P) → has_run (thread_at s.machine v).server ≡ true → Rested s → Rested (plans v s)
  closes_rested v s run q = by_eq (v == t) refl
    where
      by_eq : (c : Bool) → (v == t) ≡ c → Rested (plans v s)
      by_eq true e = let it : t ≡ v = grind arith in absurd (no_run (thread_at s.machine t).server (of_rested s q) (subst (λ (i : ℕ). has_run (thread_at s.machine i).server ≡ true) (sym it) run))
      by_eq false e = plans_other v (thread_at s.machine v).server s e q

  opened_rested : (v : ℕ) (x : ServerState) (s : Turn P) → (thread_at s.machine v).server ≡ Some x → may_open x ≡ true → Rested s → Rested (activates_server v (Some x) s)
  opened_rested v x s is may q = by_eq (v == t) refl
    where
      by_eq : (c : Bool) → (v == t) ≡ c → Rested (activates_server v (Some x) s)
      by_eq true e = let it : t ≡ v = grind arith in absurd (no_opening x (of_rested s q x (subst (λ (i : ℕ). (thread_at s.machine i).server ≡ Some x) (sym it) is)) may)
      by_eq false e = (q.0, activates_other bodies t lim a false q.0 (Booked lim) v (Some x) s e q.1)

  -- a law that they keep, as they keep the account
  module _ (Law : Turn P → Type 0) (close : (v : ℕ) (s : Turn P) → has_run (thread_at s.machine v).server ≡ true → Law s → Law (plans v s))
      (open_one : (v : ℕ) (x : ServerState) (s : Turn P) → (thread_at s.machine v).server ≡ Some x → may_open x ≡ true → Law s → Law (activates_server v (Some x) s)) where
    close_if : (b : Bool) (to : Option ℕ) (v : ℕ) (s : Turn P) → (not (is to v) && has_run (thread_at s.machine v).server) ≡ b → Law s → Law (plans_if b v s)
    close_if true to v s e q = close v s (second (not (is to v)) (has_run (thread_at s.machine v).server) e) q
      where
        second : (p r : Bool) → (p && r) ≡ true → r ≡ true
        second p r h = grind arith
    close_if false to v s e q = q

    pub all_close : (to : Option ℕ) (vs : List ℕ) (s : Turn P) → Law s → Law (closes_of to vs s)
    all_close to [] s q = q
    all_close to (v ∷ vs) s q = let b = not (is to v) && has_run (thread_at s.machine v).server in all_close to vs (plans_if b v s) (close_if b to v s refl q)

    open_if : (b : Bool) (v : ℕ) (x : ServerState) (s : Turn P) → may_open x ≡ b → (thread_at s.machine v).server ≡ Some x → Law s → Law (opens_if b v x s)
    open_if true v x s e is q = open_one v x s is e q
    open_if false v x s e is q = q

    open_for : (v : ℕ) (o : Option ServerState) (s : Turn P) → (thread_at s.machine v).server ≡ o → Law s → Law (opens_for v o s)
    open_for v None s e q = q
    open_for v (Some x) s e q = open_if (may_open x) v x s refl e q

    pub head_opens : (to : Option ℕ) (s : Turn P) → Law s → Law (opens to s)
    head_opens None s q = q
    head_opens (Some v) s q = open_for v (thread_at s.machine v).server s refl q

  -- the server of the thread stays as it is
  same_closed : (o : Option ServerState) → IsSporadic o → (v : ℕ) (s : Turn P) → has_run (thread_at s.machine v).server ≡ true → (thread_at s.machine t).server ≡ o → (thread_at (plans v s).machine t).server ≡ o
  same_closed o sort v s run q = by_eq (v == t) refl (thread_at s.machine v).server refl
    where
      by_eq : (c : Bool) → (v == t) ≡ c → (w : Option ServerState) → (thread_at s.machine v).server ≡ w → (thread_at (plans_server v w s).machine t).server ≡ o
      by_eq true e w k =
          let it : t ≡ v = grind arith in
          absurd (no_run o sort (ap has_run (sym q) ∙ subst (λ (i : ℕ). has_run (thread_at s.machine i).server ≡ true) (sym it) run))
      by_eq false e None k = q
      by_eq false e (Some x) k = ap (λ (th : Thread P). th.server) (thread-other s.machine v t (with_server plan) e) ∙ q

  same_opened : (o : Option ServerState) → IsSporadic o → (v : ℕ) (x : ServerState) (s : Turn P) → (thread_at s.machine v).server ≡ Some x → may_open x ≡ true → (thread_at s.machine t).server ≡ o → (thread_at (activates_server v (Some x) s).machine t).server ≡ o
  same_opened o sort v x s is may q = by_eq (v == t) refl
    where
      by_eq : (c : Bool) → (v == t) ≡ c → (thread_at (activates_server v (Some x) s).machine t).server ≡ o
      by_eq true e =
          let it : t ≡ v = grind arith in
          absurd (no_opening x (sort x (sym q ∙ subst (λ (i : ℕ). (thread_at s.machine i).server ≡ Some x) (sym it) is)) may)
      by_eq false e = ap (λ (th : Thread P). th.server) (thread-other s.machine v t (with_server (activate s.machine.now)) e) ∙ q

  pub prepares_same : (to : Option ℕ) (s : Turn P) → Rested s → (thread_at (prepares to s).machine t).server ≡ (thread_at s.machine t).server
  prepares_same to s q =
      let o = (thread_at s.machine t).server in
      let sort = of_rested s q in
      let closed = all_close (λ (x : Turn P). (thread_at x.machine t).server ≡ o) (same_closed o sort) (same_opened o sort) to (thread_numbers s.machine) s refl in
      let sent = ap (λ (m : Machine P). (thread_at m t).server) (dispatched to (closes to s)) ∙ closed in
      head_opens (λ (x : Turn P). (thread_at x.machine t).server ≡ o) (same_closed o sort) (same_opened o sort) to (dispatches to (closes to s)) sent

  -- the head is the thread that was dispatched
  pub prepares_last : (to : Option ℕ) (s : Turn P) → (prepares to s).machine.last ≡ dispatch_of to
  prepares_last to s = head_opens (λ (x : Turn P). x.machine.last ≡ dispatch_of to) (λ v x run q. plan_last v (thread_at x.machine v).server x q) (λ v y x is may q. q) to (dispatches to (closes to s)) refl
    where
      plan_last : (v : ℕ) (o : Option ServerState) (x : Turn P) → x.machine.last ≡ dispatch_of to → (plans_server v o x).machine.last ≡ dispatch_of to
      plan_last v None x q = q
      plan_last v (Some y) x q = q

  pub prepares_rested : (to : Option ℕ) (s : Turn P) → ((u : ℕ) → to ≡ Some u → can_run s.machine u ≡ true) → Rested s → Rested (prepares to s)
  prepares_rested to s runs q =
      let m = s.machine in
      let close = closes to s in
      let closed = all_close Rested closes_rested opened_rested to (thread_numbers s.machine) s q in
      let start : Alike m s.machine × (s.direct ≡ s.direct) = (record { statuses = λ u. refl; lists = refl; now = refl; killed = refl; threads = refl }, refl) in
      let same = closes_keep (λ (x : Turn P). Alike m x.machine × (x.direct ≡ s.direct)) (alike m s.direct) to (thread_numbers s.machine) s start in
      head_opens Rested closes_rested opened_rested to (dispatches to close) (dispatches_rested to close (λ u k. alike_runs m close.machine u same.0 (runs u k)) closed)

  ends_other : (e : TickEnd) (v : ℕ) (s : Turn P) → (v == t) ≡ false → Rested s → Rested (ends_tick e v s)
  ends_other planning v s e q = plans_other v (thread_at s.machine v).server s e q
  ends_other exhausting v s e q =
      moved _ v (plans_server v (thread_at s.machine v).server (tells (event.Exhaust v) s))
      (plans_other v (thread_at s.machine v).server (tells (event.Exhaust v) s) e (q.0, told_nothing bodies t lim a false q.0 (Booked lim) (event.Exhaust v) s refl (not_mine (v == t) exhausts e) q.1))
  ends_other slicing v s e q = moved (can_run s.machine v) v (changes v without_slice s) (q.0, other bodies t lim a false q.0 (Booked lim) v without_slice s e q.1)
  ends_other nothing v s e q = q

  module _ (tolled : Bool) (s : Turn P) (right : ThreadRight true s.machine.now (thread_at s.machine t)) where
    -- what was consumed is planned
    plans_mine : (x : ServerState) → (thread_at s.machine t).server ≡ Some x → 1 ≤ x.consumed → (can_run s.machine t ≡ true → x.capacity ≡ 0) → Recorded bodies t lim a true tolled s → Rested (plans_server t (Some x) s)
    plans_mine x e some low q =
        let th = thread_at s.machine t in
        let b = q.0 in
        let old = q.2 in
        let now = s.machine.now in
        let booked = old.each x e in
        let live = is_alive th.status (left (is_live th.status) (has_server_policy th.policy) (sym right.having ∙ ap is_some e)) in
        let consumed : Consumed true now th.status x = (right.each x e).consumed some in (
          tolled,
          told_as bodies t lim a true tolled (Booked lim) (FitsOf bodies t lim a false tolled (Booked lim)) (event.Plan t (replenishment x).amount (replenishment x).due) (planned_of lim x) (with_server plan) s (has_server s.machine.threads t x e)
              refl (mine_says t (planned_of lim x)) q (
                plan_kept lim now x b old.clear (lives_account lim true tolled (Booked lim) now th.status th.policy th.server th.ticks b live old) booked.agrees some (subst (λ (k : ServerKind). MayPlan k x) booked.agrees.sporadic consumed.room) (booked.consumed some),
                refl,
                record {
                  clear = old.clear;
                  at = old.at;
                  started = old.started;
                  exited = old.exited;
                  ticks = old.ticks;
                  blank = λ d. absurd (contra d live.0);
                  limits = old.limits;
                  fresh = λ o. absurd (grind arith);
                  owes = λ o. absurd (grind arith);
                  each = λ y k. subst (λ (z : ServerState). Booked lim now th.status z (after_saying b (planned_of lim x))) (only (sym (ap (option_map plan) e) ∙ k)) (planned_booked lim now th.status x b old.at low booked.agrees);
                },
              ),
        )
      where
        left : (p r : Bool) → (p && r) ≡ true → p ≡ true
        left p r k = grind arith

        is_alive : (status : Status) → is_live status ≡ true → (is_dormant status ≡ false) × (is_ended status ≡ false)
        is_alive (dormant at) e = absurd (grind arith)
        is_alive runnable e = (refl, refl)
        is_alive (blocked w) e = (refl, refl)
        is_alive ended e = absurd (grind arith)

    -- where nothing is owed
    rests : (q : Recorded bodies t lim a true tolled s) → q.0.owes ≡ false → Rested s
    rests q e = (
      tolled,
      (
        q.0,
        q.1,
        record {
          clear = q.2.clear;
          at = q.2.at;
          started = q.2.started;
          exited = q.2.exited;
          ticks = q.2.ticks;
          blank = q.2.blank;
          limits = q.2.limits;
          fresh = λ o. absurd (grind arith);
          owes = λ o. absurd (contra o e);
          each = q.2.each;
        },
      ),
    )

    not_owed : (q : Recorded bodies t lim a true tolled s) → (tolled ≡ true → 1 ≤ consumed_in (thread_at s.machine t).server → is_live (thread_at s.machine t).status ≡ true → capacity_in (thread_at s.machine t).server ≡ 0 → ⊥) → q.0.owes ≡ false
    not_owed q never = by_owes q.0.owes refl
      where
        left : (p r : Bool) → (p && r) ≡ true → p ≡ true
        left p r k = grind arith

        by_owes : (c : Bool) → q.0.owes ≡ c → q.0.owes ≡ false
        by_owes false e = e
        by_owes true e =
            let o = q.2.owes e in
            let has = o.2.1 in
            absurd (never o.1 (subst (λ (z : Option ServerState). 1 ≤ consumed_in z) (sym has) o.2.2)
            (left (is_live (thread_at s.machine t).status) (has_server_policy (thread_at s.machine t).policy) (sym right.having ∙ ap is_some has))
            (ap capacity_in has ∙ o.2.3))

    exhausts_mine : (x : ServerState) → (thread_at s.machine t).server ≡ Some x → 1 ≤ x.consumed → x.capacity ≡ 0 → tolled ≡ true → Recorded bodies t lim a true tolled s → Recorded bodies t lim a true tolled (tells (event.Exhaust t) s)
    exhausts_mine x e some none high q =
        let th = thread_at s.machine t in
        let b = q.0 in
        let live = is_alive th.status (left (is_live th.status) (has_server_policy th.policy) (sym right.having ∙ ap is_some e)) in (
          b,
          told_stands t lim a s.events s.machine.now s.machine.last s.machine.last (event.Exhaust t) exhausts b refl (mine_says t exhausts) q.2.at
              (exhaustion_kept lim s.machine.now x b q.2.clear (lives_account lim true tolled (Booked lim) s.machine.now th.status th.policy th.server th.ticks b live q.2) (q.2.each x e).agrees none (q.2.fresh refl high)) q.1.has q.1,
          q.2,
        )
      where
        left : (p r : Bool) → (p && r) ≡ true → p ≡ true
        left p r k = grind arith

        is_alive : (status : Status) → is_live status ≡ true → (is_dormant status ≡ false) × (is_ended status ≡ false)
        is_alive (dormant at) e = absurd (grind arith)
        is_alive runnable e = (refl, refl)
        is_alive (blocked w) e = (refl, refl)
        is_alive ended e = absurd (grind arith)

  not_both : (status : Status) → is_blocked status ≡ true → is_runnable status ≡ true → ⊥
  not_both (dormant at) p q = absurd (grind arith)
  not_both runnable p q = absurd (grind arith)
  not_both (blocked w) p q = absurd (grind arith)
  not_both ended p q = absurd (grind arith)

  neither_lives : (status : Status) → is_blocked status ≡ false → is_runnable status ≡ false → is_live status ≡ true → ⊥
  neither_lives (dormant at) p q e = absurd (grind arith)
  neither_lives runnable p q e = absurd (grind arith)
  neither_lives (blocked w) p q e = absurd (grind arith)
  neither_lives ended p q e = absurd (grind arith)

  some_server : (o : Option ServerState) → 1 ≤ consumed_in o → (x : ServerState) × (o ≡ Some x) × (1 ≤ x.consumed)
  some_server None e = absurd (omega arith)
  some_server (Some x) e = (x, refl, e)

  ends_mine : (tolled : Bool) (quantum : ℕ) (s : Turn P) → ThreadRight true s.machine.now (thread_at s.machine t) → Recorded bodies t lim a true tolled s → Rested (ends_tick (tick_end tolled quantum (thread_at s.machine t)) t s)
  ends_mine tolled quantum s right q =
      by_all tolled refl (nat_lt 0 (consumed_in (thread_at s.machine t).server)) refl (is_blocked (thread_at s.machine t).status) refl (is_runnable (thread_at s.machine t).status) refl (capacity_in (thread_at s.machine t).server == 0) refl
      (slice_is_used (thread_at s.machine t).policy (thread_at s.machine t).slice quantum)
    where
      no_plan : (full : Bool) → q.0.owes ≡ false → Rested (ends_tick (if full then slicing else nothing) t s)
      no_plan true e = let r = rests tolled s right q e in moved (can_run s.machine t) t (changes t without_slice s) (r.0, one_slice r.1)
        where
          one_slice : {T : Bool} → Recorded bodies t lim a false T s → Recorded bodies t lim a false T (changes t without_slice s)
          one_slice {T} k = one bodies t lim a false T (Booked lim) t without_slice s (λ b f. f) k
      no_plan false e = rests tolled s right q e

      plans_it : 1 ≤ consumed_in (thread_at s.machine t).server → (can_run s.machine t ≡ true → capacity_in (thread_at s.machine t).server ≡ 0) → Rested (ends_tick planning t s)
      plans_it some low =
          let it = some_server (thread_at s.machine t).server some in
          subst (λ (o : Option ServerState). Rested (plans_server t o s)) (sym it.1) (plans_mine tolled s right it.0 it.1 it.2 (λ runs. sym (ap capacity_in it.1) ∙ low runs) q)

      exhausts_it : tolled ≡ true → 1 ≤ consumed_in (thread_at s.machine t).server → capacity_in (thread_at s.machine t).server ≡ 0 → Rested (ends_tick exhausting t s)
      exhausts_it high some empty =
          let it = some_server (thread_at s.machine t).server some in
          let none : it.0.capacity ≡ 0 = sym (ap capacity_in it.1) ∙ empty in
          let told = tells (event.Exhaust t) s in
          moved _ t (plans_server t (thread_at s.machine t).server told)
          (subst (λ (o : Option ServerState). Rested (plans_server t o told)) (sym it.1) (plans_mine tolled told right it.0 it.1 it.2 (λ runs. none) (exhausts_mine tolled s right it.0 it.1 it.2 none high q)))

      by_all : (h : Bool) → tolled ≡ h → (b : Bool) → nat_lt 0 (consumed_in (thread_at s.machine t).server) ≡ b → (c : Bool) → is_blocked (thread_at s.machine t).status ≡ c → (d : Bool) → is_runnable (thread_at s.machine t).status ≡ d →
          (z : Bool) → (capacity_in (thread_at s.machine t).server == 0) ≡ z → (full : Bool) → Rested (ends_tick (end_by h b c d z full) t s)
      by_all false h b p c r d k z e full = no_plan full (not_owed tolled s right q (λ high some live none. contra high h))
      by_all true h false p c r d k z e full = no_plan full (not_owed tolled s right q (λ high some live none. absurd (grind arith)))
      by_all true h true p true r d k z e full = plans_it (grind arith) (λ runs. absurd (not_both (thread_at s.machine t).status r runs))
      by_all true h true p false r false k z e full = no_plan full (not_owed tolled s right q (λ high some live none. neither_lives (thread_at s.machine t).status r k live))
      by_all true h true p false r true k true e full = exhausts_it h (grind arith) (grind arith)
      by_all true h true p false r true k false e full = no_plan full (not_owed tolled s right q (λ high some live none. absurd (grind arith)))

  pub ends_rested : (tolled : Bool) (u : ℕ) (s : Turn P) → Threads bodies (Some u) s → Running tolled u s → Rested (ends_tick (tick_end tolled s.machine.quantum (thread_at s.machine u)) u s)
  ends_rested tolled u s all q = by_eq (u == t) refl (all t) q
    where
      by_eq : (b : Bool) → (u == t) ≡ b → ThreadRight b s.machine.now (thread_at s.machine t) → Recorded bodies t lim a b tolled s → Rested (ends_tick (tick_end tolled s.machine.quantum (thread_at s.machine u)) u s)
      by_eq true e right k = let it : t ≡ u = grind arith in subst (λ (v : ℕ). Rested (ends_tick (tick_end tolled s.machine.quantum (thread_at s.machine v)) v s)) it (ends_mine tolled s.machine.quantum s right k)
      by_eq false e right k = ends_other (tick_end tolled s.machine.quantum (thread_at s.machine u)) u s e (tolled, k)
