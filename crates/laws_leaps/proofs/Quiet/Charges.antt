-- A quiet tick is the charge of its head: nothing is delivered, and the lists stay.
use Rattle.std.proofs.Common.{Bool, List, None, Option, Some, [], ap, arith, false, inl, inr, length, refl, suc, sym, true, zero, ℕ, ◌∷◌, ◌≡◌, ◌⊎◌, ◌+◌, ◌++◌}
use Rattle.std.specs.Prelude.{option_and_then, option_map, ◌-◌, ◌==◌, ◌&&◌, ◌||◌, if◌then◌else◌, is_some}
use mathlib.Core.Path.{ap₂, subst, ◌∙◌}
use Rattle.words_script.specs.declared.policy.Policy.{Policy}
use Rattle.words_script.specs.declared.policy.Policy.TheVariants as policy
use Rattle.words_trace.specs.Text.{Entry}
use Rattle.rules_machine.specs.declared.dispatch.LastDispatch.{LastDispatch}
use Rattle.rules_server.specs.Server.{ServerState, activate, assigned, charge, is_high, plan}
use Rattle.rules_machine.specs.Lists.{changed_at}
use Rattle.rules_machine.specs.Bodies.{Bodies}
use Rattle.rules_machine.specs.State.{Machine, Status, Thread, Waiting, blocked, dormant, ended, runnable, Frame}
use Rattle.rules_machine.specs.Threads.{can_run, is_blocked, is_runnable, no_thread, thread_at, thread_in, thread_numbers, top_left, waiting_in}
use Rattle.rules_machine.specs.Priorities.{Claim, assigned_under, claim_of, claims, exec, exec_in, mutex_awaited_by, mutex_waited}
use Rattle.rules_machine.specs.Settling.{settled}
use Rattle.rules_machine.specs.Turns.{Turn, settles_since, with_thread, changes, turn_of}
use Rattle.rules_machine.specs.Servers.{charged, has_high, closes, has_run, may_open, opens, opens_for, opens_if, plans_server, with_server}
use Rattle.rules_machine.specs.Delivery.{sweeps}
use Rattle.rules_machine.specs.Dispatch.{dispatches, head, dispatch_of}
use Rattle.rules_machine.specs.Units.{in_unit, Following, advances, advancing, begins_finish, cleaning_up, continuing, finishing, following, in_cleanup, takes_unit}
use Rattle.rules_machine.specs.Ticks.{TickEnd, capacity_in, completes_at, ends_tick, goes_on, nothing, runs, runs_head, slice_is_used, tick_charged, tick_end, tick_ends, unit_ticked, unless_killed, prepares}
use Rattle.rules_machine.specs.Eventful.{head_matters, tick_matters, unless_ended}
use Rattle.rules_machine.proofs.Reading.{thread-same}
use Rattle.rules_machine.proofs.Standing.{stands}
use Rattle.rules_moves.proofs.Waiters.Best.{running_within}
use Rattle.rules_moves.proofs.Waiters.OfThreads.{changed_is}
use Rattle.rules_moves.proofs.Runs.Listed.{AllRun, head_can_run}
use Rattle.laws_machine.proofs.Lists.Places.{Stand, settled_stays}
use Rattle.rules_moves.proofs.Runs.Ticks.{charged_turn, dispatched, in_unit_status}
use Rattle.laws_machine.proofs.Lists.Kept.{Plans, in_unit_plans, stand_prepared, strict_high}
use Rattle.laws_machine.proofs.Signals.Ignored.{sent}
use Rattle.laws_machine.proofs.Sweeps.Visits.{Quiet, sweeps_nothing}
use Rattle.laws_leaps.proofs.Quiet.Ticks.{left_over, quiet_end}
use Rattle.rules_leaps.specs.Quiet.{charged_head, charged_unless_killed, one_charge, told_with_dispatch}
use Rattle.laws_machine.proofs.Signals.Takers.{Taker, charge_of, charged_taker, taken_by, taker_of}
use Rattle.rules_machine.proofs.BehindTicks.{prepares_behind}
use Rattle.rules_moves.proofs.Runs.Preparing.{Alike, PreparingKeeps, alike_runs, prepares_keep}
use Rattle.laws_machine.proofs.Servers.OfThreads.{run_parts}
use Rattle.laws_machine.proofs.Sweeps.Kept.{Swept, swept_dispatched, swept_planned, swept_served}
use Rattle.laws_leaps.proofs.Quiet.Once.{less_high}

module _ {P : Type 0} (bodies : Bodies P) where
  -- ---- the priority of a thread whose charge does not matter

  high_stays : (s : ServerState) → (has_high (Some s) && capacity_in (Some (charged s)) == 0) ≡ false → assigned (charged s) ≡ assigned s
  high_stays s e = by_high (is_high s) refl
    where
      by_high : (b : Bool) → is_high s ≡ b → assigned (charged s) ≡ assigned s
      by_high false h = ap (λ (b : Bool). assigned (if b then charge s else s)) h
      by_high true h =
          let left : (s.capacity - 1 == 0) ≡ false = (rw h at e) in
          let still : is_high (charge s) ≡ true = less_high 1 s h left in
          ap (λ (b : Bool). assigned (if b then charge s else s)) h ∙ ap (λ (b : Bool). if b then s.params.high else s.params.low) (still ∙ sym h)

  assigned_stays : (p : Policy) (o : Option ServerState) → (has_high o && capacity_in (option_map charged o) == 0) ≡ false → assigned_under p (option_map charged o) ≡ assigned_under p o
  assigned_stays (policy.Fifo p) o e = refl
  assigned_stays (policy.Rr p) o e = refl
  assigned_stays (policy.Sporadic params) None e = refl
  assigned_stays (policy.Sporadic params) (Some s) e = high_stays s e
  assigned_stays (policy.Strict params) None e = refl
  assigned_stays (policy.Strict params) (Some s) e = high_stays s e

  last_of : (a b c : Bool) → (a || b || c) ≡ false → c ≡ false
  last_of a b c e = grind arith

  claim_stays : (quantum : ℕ) (th : Thread P) → tick_matters (has_high th.server) quantum (charge_of bodies th) ≡ false → claim_of (charge_of bodies th) ≡ claim_of th
  claim_stays quantum th e =
      let unit = (in_unit bodies th).thread in
      let server : unit.server ≡ th.server = ap (λ (p : Plans). p.server) (in_unit_plans bodies th) in
      let spent : (has_high th.server && capacity_in (option_map charged unit.server) == 0) ≡ false =
      last_of (top_left (charge_of bodies th).frames == 0) (slice_is_used (charge_of bodies th).policy (charge_of bodies th).slice quantum) (has_high th.server && capacity_in (charge_of bodies th).server == 0) e in
      ap₂ (λ (p : Plans) (status : Status). record { assigned = assigned_under p.policy (option_map charged p.server); awaited = option_and_then (λ (w : Waiting). mutex_waited w.wait) (waiting_in status) }) (in_unit_plans bodies th) (in_unit_status bodies th)
      ∙ ap (λ (n : ℕ). record { assigned = n; awaited = mutex_awaited_by th })
      (assigned_stays th.policy th.server (subst (λ (o : Option ServerState). (has_high th.server && capacity_in (option_map charged o) == 0) ≡ false) server spent))

pub claims_same : {P : Type 0} (ths : List (Thread P)) (t : ℕ) (f : Thread P → Thread P) → claim_of (f (thread_in ths t)) ≡ claim_of (thread_in ths t) → claims (changed_at no_thread t f ths) ≡ claims ths
claims_same [] t f e = refl
claims_same (th ∷ ths) zero f e = ap (λ (c : Claim). c ∷ claims ths) e
claims_same (th ∷ ths) (suc t) f e = ap (λ (cs : List Claim). claim_of th ∷ cs) (claims_same ths t f e)

module _ {P : Type 0} (bodies : Bodies P) (t : ℕ) (s : Turn P) where
  abbrev charging : Thread P → Thread P
  charging th = charge_of bodies (thread_at s.machine t)

  abbrev then' : Turn P
  then' = charged_turn bodies t s

  -- ---- what the charge leaves

  charged_view : {X : Type 0} (view : Thread P → X) → view (charge_of bodies (thread_at s.machine t)) ≡ view (thread_at s.machine t) → (u : ℕ) → view (thread_at then'.machine u) ≡ view (thread_at s.machine u)
  charged_view {X} view e u = of_two (changed_is no_thread t u charging s.machine.threads)
    where
      of_two : ((t ≡ u) × (thread_in (changed_at no_thread t charging s.machine.threads) u ≡ charging (thread_at s.machine t))) ⊎ (thread_in (changed_at no_thread t charging s.machine.threads) u ≡ thread_at s.machine u) →
          view (thread_at then'.machine u) ≡ view (thread_at s.machine u)
      of_two (inl k) = ap view k.1 ∙ e ∙ ap (λ (v : ℕ). view (thread_at s.machine v)) k.0
      of_two (inr k) = ap view k

  pub charged_can_run : (u : ℕ) → can_run then'.machine u ≡ can_run s.machine u
  charged_can_run = charged_view (λ (th : Thread P). is_runnable th.status) (ap is_runnable (in_unit_status bodies (thread_at s.machine t)))

  pub charged_quiet : ((u : ℕ) → Quiet bodies s.machine u) → (u : ℕ) → Quiet bodies then'.machine u
  charged_quiet q u = ap (λ (k : Taker). taken_by k u (sent s.machine)) (charged_view taker_of (charged_taker bodies (thread_at s.machine t)) u) ∙ q u

  -- in a tick that does not matter, for a thread that runs
  module _ (matters : tick_matters (has_high (thread_at s.machine t).server) s.machine.quantum (charge_of bodies (thread_at s.machine t)) ≡ false) where
    pub charged_exec : (u : ℕ) → exec then'.machine u ≡ exec s.machine u
    charged_exec u = ap (λ (cs : List Claim). exec_in cs s.machine.mutexes u) (claims_same s.machine.threads t charging (claim_stays bodies s.machine.quantum (thread_at s.machine t) matters))

    off : Stand s.machine → (u i : ℕ) → can_run then'.machine u ≡ false → stands u i then'.machine.lists ≡ 0
    off stand u i idle = stand.others u i (sym (charged_can_run u) ∙ idle)

    pub lists_stay : Stand s.machine → settled s.machine [] then'.machine ≡ then'.machine
    lists_stay stand = settled_stays s.machine then'.machine (λ u. sym (charged_exec u)) (off stand)

    pub stay_again : Stand s.machine → settled then'.machine [] then'.machine ≡ then'.machine
    stay_again stand = settled_stays then'.machine then'.machine (λ u. refl) (off stand)

    swept_same : Stand s.machine → ((u : ℕ) → Quiet bodies s.machine u) → (x : Turn P) → x.direct ≡ [] → x.machine ≡ then'.machine → (sweeps bodies x).machine ≡ then'.machine
    swept_same stand q x still e =
        ap (λ (y : Turn P). settled x.machine y.direct y.machine) (sweeps_nothing bodies (thread_numbers x.machine) x (λ u. subst (λ (m : Machine P). Quiet bodies m u) (sym e) (charged_quiet q u)))
        ∙ ap (λ (direct : List ℕ). settled x.machine direct x.machine) still
        ∙ ap (λ (m : Machine P). settled m [] m) e
        ∙ stay_again stand

    -- ---- the tick

    abbrev was_high : Bool
    was_high = has_high (thread_at s.machine t).server

    abbrev ticked : Turn P
    ticked = unit_ticked bodies s.machine t (in_unit bodies (thread_at s.machine t)) s

    module _ (none : s.direct ≡ []) (can : can_run s.machine t ≡ true) (stand : Stand s.machine) (q : (u : ℕ) → Quiet bodies s.machine u) where
      here : thread_at then'.machine t ≡ charge_of bodies (thread_at s.machine t)
      here = thread-same s.machine t charging (running_within s.machine.threads t can)

      quiet : tick_matters was_high s.machine.quantum (thread_at then'.machine t) ≡ false
      quiet = ap (tick_matters was_high s.machine.quantum) here ∙ matters

      left : (l : ℕ) × (top_left (thread_at then'.machine t).frames ≡ suc l)
      left = left_over was_high s.machine.quantum (thread_at then'.machine t) quiet

      not_blocked : (status : Status) → is_runnable status ≡ true → is_blocked status ≡ false
      not_blocked (dormant at) e = refl
      not_blocked runnable e = refl
      not_blocked (blocked w) e = absurd (grind arith)
      not_blocked ended e = refl

      ticked_same : ticked.machine ≡ then'.machine
      ticked_same =
          ap (λ (n : ℕ). (settles_since s.machine (completes_at bodies n t (in_unit bodies (thread_at s.machine t)).unit then')).machine) left.1
          ∙ ap (λ (direct : List ℕ). settled s.machine direct then'.machine) none ∙ lists_stay stand

      nothing_ends : tick_end was_high ticked.machine.quantum (thread_at ticked.machine t) ≡ nothing
      nothing_ends =
          subst (λ (m : Machine P). tick_end was_high m.quantum (thread_at m t) ≡ nothing) (sym ticked_same)
          (quiet_end was_high s.machine.quantum (thread_at then'.machine t) (not_blocked (thread_at then'.machine t).status (charged_can_run t ∙ can)) quiet)

      ends_same : (tick_ends was_high t ticked).machine ≡ ticked.machine
      ends_same =
          ap (λ (e : TickEnd). settled ticked.machine (ends_tick e t ticked).direct (ends_tick e t ticked).machine) nothing_ends
          ∙ subst (λ (m : Machine P). settled m [] m ≡ m) (sym ticked_same) (stay_again stand)

      -- a quiet tick of a thread that runs is its charge
      pub runs_quiet : (runs bodies (Some t) s).machine ≡ then'.machine
      runs_quiet = swept_same stand q (tick_ends was_high t ticked) refl (ends_same ∙ ticked_same)

      -- and nothing is told in it
      pub runs_silent : (runs bodies (Some t) s).events ≡ s.events
      runs_silent =
          let done = tick_ends was_high t ticked in
          let same : done.machine ≡ then'.machine = ends_same ∙ ticked_same in
          ap (λ (y : Turn P). y.events) (sweeps_nothing bodies (thread_numbers done.machine) done (λ u. subst (λ (m : Machine P). Quiet bodies m u) (sym same) (charged_quiet q u)))
          ∙ ap (λ (e : TickEnd). (ends_tick e t ticked).events) nothing_ends
          ∙ ap (λ (n : ℕ). (completes_at bodies n t (in_unit bodies (thread_at s.machine t)).unit then').events) left.1

-- ---- what precedes the tick of the head does not make it matter

module _ {P : Type 0} (bodies : Bodies P) where
  in_unit_served : (f : ServerState → ServerState) (th : Thread P) → (in_unit bodies (with_server f th)).thread ≡ with_server f (in_unit bodies th).thread
  in_unit_served f th = by_case (following th)
    where
      next : (fs : List (Frame P)) (x : Thread P) → (advances bodies fs (with_server f x)).thread ≡ with_server f (advances bodies fs x).thread
      next [] x = refl
      next (g ∷ fs) x = refl

      finish : (fs : List (Frame P)) → (begins_finish fs (with_server f th)).thread ≡ with_server f (begins_finish fs th).thread
      finish [] = refl
      finish (g ∷ fs) = refl

      by_case : (x : Following) → (takes_unit bodies x (with_server f th)).thread ≡ with_server f (takes_unit bodies x th).thread
      by_case (continuing left) = refl
      by_case advancing = next th.frames th
      by_case (cleaning_up u) = next (in_cleanup bodies u th).frames (in_cleanup bodies u th)
      by_case finishing = finish th.frames

  abbrev Matters : ℕ → Thread P → Bool
  Matters quantum th = tick_matters (has_high th.server) quantum (charge_of bodies th)

  abbrev Spent : Option ServerState → Option ServerState → Bool
  Spent o u = has_high o && capacity_in (option_map charged u) == 0

  spent_same : (f : ServerState → ServerState) (x : ServerState) → is_high (f x) ≡ is_high x → (f x).capacity ≡ x.capacity → Spent (Some (f x)) (Some (f x)) ≡ Spent (Some x) (Some x)
  spent_same f x h c = by_high (is_high x) refl
    where
      by_high : (b : Bool) → is_high x ≡ b → Spent (Some (f x)) (Some (f x)) ≡ Spent (Some x) (Some x)
      by_high true e =
          ap (λ (b : Bool). is_some (if b then Some (f x) else None) && (if b then charge (f x) else f x).capacity == 0) (h ∙ e)
          ∙ ap (λ (n : ℕ). n - 1 == 0) c
          ∙ sym (ap (λ (b : Bool). is_some (if b then Some x else None) && (if b then charge x else x).capacity == 0) e)
      by_high false e =
          ap (λ (b : Bool). is_some (if b then Some (f x) else None) && (if b then charge (f x) else f x).capacity == 0) (h ∙ e)
          ∙ sym (ap (λ (b : Bool). is_some (if b then Some x else None) && (if b then charge x else x).capacity == 0) e)

  served_matters : (quantum : ℕ) (f : ServerState → ServerState) (th : Thread P) (x : ServerState) → th.server ≡ Some x → is_high (f x) ≡ is_high x → (f x).capacity ≡ x.capacity → Matters quantum (with_server f th) ≡ Matters quantum th
  served_matters quantum f th x is h c =
      let unit = (in_unit bodies th).thread in
      let server : unit.server ≡ Some x = ap (λ (p : Plans). p.server) (in_unit_plans bodies th) ∙ is in
      ap (λ (u : Thread P). tick_matters (has_high (option_map f th.server)) quantum (tick_charged u)) (in_unit_served f th)
      ∙ ap (λ (b : Bool). top_left (charge_of bodies th).frames == 0 || slice_is_used (charge_of bodies th).policy (charge_of bodies th).slice quantum || b)
      (ap₂ (λ (o u : Option ServerState). Spent (option_map f o) (option_map f u)) is server ∙ spent_same f x h c ∙ sym (ap₂ (λ (o u : Option ServerState). Spent o u) is server))

  module _ (t : ℕ) (v : Bool) where
    abbrev MattersAt : Turn P → Type 0
    MattersAt s = Matters s.machine.quantum (thread_at s.machine t) ≡ v

    one_matters : (u : ℕ) (f : ServerState → ServerState) (x : ServerState) (s : Turn P) → (thread_at s.machine u).server ≡ Some x → is_high (f x) ≡ is_high x → (f x).capacity ≡ x.capacity → MattersAt s → MattersAt (changes u (with_server f) s)
    one_matters u f x s is h c q = of_two (changed_is no_thread u t (with_server f) s.machine.threads)
      where
        of_two : ((u ≡ t) × (thread_in (changed_at no_thread u (with_server f) s.machine.threads) t ≡ with_server f (thread_at s.machine u))) ⊎ (thread_in (changed_at no_thread u (with_server f) s.machine.threads) t ≡ thread_at s.machine t) → MattersAt (changes u (with_server f) s)
        of_two (inl e) = ap (Matters s.machine.quantum) e.1 ∙ served_matters s.machine.quantum f (thread_at s.machine u) x is h c ∙ ap (λ (i : ℕ). Matters s.machine.quantum (thread_at s.machine i)) e.0 ∙ q
        of_two (inr e) = ap (Matters s.machine.quantum) e ∙ q

    matters_prepared : PreparingKeeps MattersAt
    matters_prepared = record {
      closes = λ u s run q. closes_matters u (thread_at s.machine u).server s refl run q;
      sent = λ to s off q. subst (λ (m : Machine P). Matters m.quantum (thread_at m t) ≡ v) (sym (dispatched to s)) q;
      opens = λ u x s runs is may q. one_matters u (activate s.machine.now) x s is refl refl q;
    }
      where
        closes_matters : (u : ℕ) (o : Option ServerState) (s : Turn P) → (thread_at s.machine u).server ≡ o → has_run o ≡ true → MattersAt s → MattersAt (plans_server u o s)
        closes_matters u None s e run q = q
        closes_matters u (Some x) s e run q = one_matters u plan x s e (strict_high x.kind x.capacity (length (plan x).pending) (length x.pending) x.params.max (run_parts x run).0) refl q

-- ---- a tick from a machine in which nothing is due

module _ {P : Type 0} (bodies : Bodies P) where
  -- what a quiet tick leaves where its head has begun it
  record Quietly (to : Option ℕ) (s : Turn P) : Type 0 where
    machine : (runs bodies to s).machine ≡ charged_head bodies to s.machine
    events : (runs bodies to s).events ≡ s.events

  runs_begun : (to : Option ℕ) (s : Turn P) → s.machine.last ≡ dispatch_of to → ((t : ℕ) → to ≡ Some t → can_run s.machine t ≡ true) → s.direct ≡ [] → Stand s.machine → ((u : ℕ) → Quiet bodies s.machine u) → head_matters bodies to s.machine ≡ false → Quietly to s
  runs_begun None s sent' can none stand q matters = record { machine = ap (λ (l : LastDispatch). record (s.machine) { now = s.machine.now + 1; last = l }) sent'; events = refl }
  runs_begun (Some t) s sent' can none stand q matters = record {
    machine = runs_quiet bodies t s matters none (can t refl) stand q ∙ ap (λ (l : LastDispatch). record (with_thread t (λ th. tick_charged (in_unit bodies (thread_at s.machine t)).thread) s.machine) { now = s.machine.now + 1; last = l }) sent';
    events = runs_silent bodies t s matters none (can t refl) stand q;
  }

  -- what precedes it, from a machine in which no move is to be made
  pub prepared_machine : (to : Option ℕ) (s : Turn P) → s.direct ≡ [] → (prepares to s).machine ≡ (prepares to (turn_of s.machine)).machine
  prepared_machine to s none =
      ap (λ (x : Turn P). (prepares to x).machine) (ap (λ (ns : List ℕ). record s { direct = ns }) none ∙ ap (λ (es : List Entry). record { machine = s.machine; direct = []; events = es }) (sym (all_of s.events)))
      ∙ ap (λ (x : Turn P). x.machine) (prepares_behind bodies to s.events (turn_of s.machine))
    where
      all_of : (es : List Entry) → es ++ [] ≡ es
      all_of [] = refl
      all_of (e ∷ es) = ap (λ xs. e ∷ xs) (all_of es)

  pub sent_last : (to : Option ℕ) (s : Turn P) → (prepares to s).machine.last ≡ dispatch_of to
  sent_last to s = opens_last to (dispatches to (closes to s)) ∙ ap (λ (m : Machine P). m.last) (dispatched to (closes to s))
    where
      if_last : (b : Bool) (t : ℕ) (x : ServerState) (s : Turn P) → (opens_if b t x s).machine.last ≡ s.machine.last
      if_last true t x s = refl
      if_last false t x s = refl

      for_last : (t : ℕ) (o : Option ServerState) (s : Turn P) → (opens_for t o s).machine.last ≡ s.machine.last
      for_last t None s = refl
      for_last t (Some x) s = if_last (may_open x) t x s

      opens_last : (to : Option ℕ) (s : Turn P) → (opens to s).machine.last ≡ s.machine.last
      opens_last None s = refl
      opens_last (Some t) s = for_last t (thread_at s.machine t).server s

  swept_prepared : PreparingKeeps (λ (s : Turn P). Swept bodies s.machine)
  swept_prepared = record {
    closes = λ t s run a. swept_planned bodies t (thread_at s.machine t).server s a;
    sent = λ to s off a. swept_dispatched bodies to s a;
    opens = λ t x s runs is may a. swept_served bodies t (activate s.machine.now) s a;
  }

  -- the machine as its head begins a tick: the threads stand as before, and the tick matters as little
  pub record StaysSo (to : Option ℕ) (s : Turn P) : Type 0 where
    pub alike : Alike s.machine (prepares to s).machine
    pub direct : (prepares to s).direct ≡ s.direct
    pub stand : Stand (prepares to s).machine
    pub swept : s.machine.killed ≡ None → (u : ℕ) → Quiet bodies (prepares to s).machine u
    pub matters : head_matters bodies to (prepares to s).machine ≡ head_matters bodies to s.machine

  pub stays_so : (to : Option ℕ) (s : Turn P) → ((t : ℕ) → to ≡ Some t → can_run s.machine t ≡ true) → Stand s.machine → (s.machine.killed ≡ None → (u : ℕ) → Quiet bodies s.machine u) → StaysSo to s
  stays_so to s can stand q =
      let k = prepares_keep (λ (x : Turn P). Stand x.machine) (stand_prepared bodies) to s can stand in
      let w = prepares_keep (λ (x : Turn P). Swept bodies x.machine) swept_prepared to s can q in
      record { alike = k.1; direct = k.2; stand = k.0; swept = λ alive. w.0 (k.1.killed ∙ alive); matters = by_head to can }
    where
      by_head : (o : Option ℕ) → ((t : ℕ) → o ≡ Some t → can_run s.machine t ≡ true) → head_matters bodies o (prepares o s).machine ≡ head_matters bodies o s.machine
      by_head None can = refl
      by_head (Some t) can = (prepares_keep (MattersAt bodies t (head_matters bodies (Some t) s.machine)) (matters_prepared bodies t (head_matters bodies (Some t) s.machine)) (Some t) s can refl).0

  pub record QuietTick (s : Turn P) : Type 0 where
    pub machine : (goes_on bodies s).machine ≡ one_charge bodies s.machine
    pub events : (goes_on bodies s).events ≡ told_with_dispatch s.machine.killed s

  -- one quiet tick, from where nothing is due any more
  pub goes_on_quiet : (s : Turn P) → s.direct ≡ [] → AllRun s.machine s.machine.lists → Stand s.machine → (s.machine.killed ≡ None → (u : ℕ) → Quiet bodies s.machine u) → unless_ended bodies s.machine.killed s.machine ≡ false → QuietTick s
  goes_on_quiet s none listed stand q matters = record { machine = by_killed s.machine.killed refl matters; events = told s.machine.killed refl matters }
    where
      begun : s.machine.killed ≡ None → head_matters bodies (head s.machine) s.machine ≡ false → Quietly (head s.machine) (prepares (head s.machine) s)
      begun alive matters =
          let to = head s.machine in
          let can = λ (t : ℕ) (e : to ≡ Some t). head_can_run s.machine t listed e in
          let k = stays_so to s can stand q in
          runs_begun to (prepares to s) (sent_last to s) (λ t e. alike_runs s.machine (prepares to s).machine t k.alike (can t e)) (k.direct ∙ none) k.stand (k.swept alive) (k.matters ∙ matters)

      by_killed : (k : Option ℕ) → s.machine.killed ≡ k → unless_ended bodies k s.machine ≡ false → (unless_killed k (runs_head bodies) s).machine ≡ charged_unless_killed bodies k s.machine
      by_killed None alive matters = (begun alive matters).machine ∙ ap (charged_head bodies (head s.machine)) (prepared_machine (head s.machine) s none)
      by_killed (Some signal) dead matters = refl

      told : (k : Option ℕ) → s.machine.killed ≡ k → unless_ended bodies k s.machine ≡ false → (unless_killed k (runs_head bodies) s).events ≡ told_with_dispatch k s
      told None alive matters = (begun alive matters).events
      told (Some signal) dead matters = refl
