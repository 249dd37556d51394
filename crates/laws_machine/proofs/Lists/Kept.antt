-- At every instant of every run each runnable thread stands once, on the list of its execution priority, and no other on any.
use Rattle.std.proofs.Common.{Bool, List, None, Option, Some, [], ap, arith, false, refl, suc, sym, true, zero, ℕ, ◌+◌, ◌∷◌, ◌≡◌, length}
use Rattle.std.specs.Prelude.{filter_map, map, replicate, option_map, ◌-◌, ◌==◌}
use mathlib.Core.Path.{subst, ◌∙◌}
use Rattle.words_script.specs.declared.decl.Decl.{Decl}
use Rattle.words_script.specs.declared.decl.Decl.TheVariants as decl
use Rattle.words_script.specs.declared.decl.Kind.TheVariants as kind
use Rattle.words_script.specs.declared.decl.Script.{Script}
use Rattle.words_script.specs.declared.policy.Policy.{Policy}
use Rattle.words_script.specs.declared.policy.Policy.TheVariants as policy
use Rattle.rules_server.specs.declared.ServerKind.{ServerKind}
use Rattle.rules_server.specs.declared.ServerKind.TheVariants as server_kind
use Rattle.rules_server.specs.Server.{ServerState, activate, is_high, is_high_as, plan}
use Rattle.words_trace.specs.declared.event.Event.TheVariants as event
use Rattle.rules_machine.specs.declared.dispatch.LastDispatch.{LastDispatch}
use Rattle.rules_machine.specs.Lists.{changed_at}
use Rattle.rules_machine.specs.Bodies.{Bodies}
use Rattle.rules_machine.specs.State.{Frame, Machine, Thread, for_end, waits_to_join}
use Rattle.rules_machine.specs.Threads.{can_run, is_runnable, no_thread, thread_at, thread_in}
use Rattle.rules_machine.specs.Declarations.{ThreadDecl, mutex_kind, named, threads_of}
use Rattle.rules_machine.specs.Turns.{Turn, changes, moves_if, tells}
use Rattle.rules_machine.specs.Servers.{plans_server, with_server, activates_server, has_run}
use Rattle.rules_machine.specs.Waking.{put_to_wait}
use Rattle.rules_machine.specs.Lives.{with_joiner}
use Rattle.rules_machine.specs.Settling.{settled}
use Rattle.rules_machine.specs.GoodState.{HasParameters}
use Rattle.rules_machine.specs.Dispatch.{dispatch_of, dispatches}
use Rattle.rules_machine.specs.Units.{Following, advances, advancing, begins_finish, cleaning_up, continuing, finishing, following, in_unit, takes_unit}
use Rattle.rules_machine.specs.Ticks.{TickEnd, ends_tick, exhausting, nothing, planning, slicing, tick_charged, without_slice}
use Rattle.rules_machine.specs.Runs.{opening, thread_opened}
use Rattle.rules_machine.proofs.Standing.{stands, one_if}
use Rattle.rules_machine.specs.WellFormed.{DeclsFit, PolicyFits, IsWellFormed}
use Rattle.rules_moves.specs.Moves.{KeepsRenewing, Sleeps}
use Rattle.rules_moves.proofs.Waiters.Best.{Each}
use Rattle.laws_machine.proofs.Lists.Places.{Stand, stand_again}
use Rattle.laws_machine.proofs.Lists.Priorities.{AllFit, MutexFits, ThreadFits, charged_fits, fitting_keep, one, planned_fits, priorities, same_parameters}
use Rattle.laws_machine.proofs.Lists.Arrivals.{Come, changed_come, come_keep, come_stop, ended_come}
use Rattle.rules_moves.proofs.Runs.Units.{threads_fit}
use Rattle.rules_moves.proofs.Runs.Ticks.{charged_turn, dispatched}
use Rattle.rules_moves.proofs.Runs.Since.{TickSince}
use Rattle.laws_machine.proofs.Parts.Kept.{PartsRight, elsewhere, parts_renewing, parts_stop, parts_tick, recast}
use Rattle.laws_machine.proofs.Parts.Opening.{opening_right}
use Rattle.rules_moves.proofs.Runs.Units as units_fit
use Rattle.rules_machine.specs.Priorities.{Claim, assigned_under, claim_of, exec_in, mutex_awaited_by}
use Rattle.rules_machine.proofs.Reading.{changed-keeps}
use Rattle.laws_machine.proofs.Servers.OfThreads.{run_parts}
use Rattle.laws_machine.proofs.Servers.Right.{not_strict}
use Rattle.rules_moves.proofs.Runs.Preparing.{PreparingKeeps}

-- between settlings' effects
-- a strict server goes by its capacity alone
pub strict_high : (k : ServerKind) (c n n' max : ℕ) → k ≡ server_kind.Strict → is_high_as k c n max ≡ is_high_as k c n' max
strict_high server_kind.Sporadic c n n' max e = absurd (not_strict (sym e))
strict_high server_kind.Strict c n n' max e = refl

pub record Placed {P : Type 0} (m : Machine P) : Type 0 where
  pub parts : PartsRight m
  pub fit : AllFit m
  pub stand : Stand m

-- since a settling
pub record Placing {P : Type 0} (before : Machine P) (s : Turn P) : Type 0 where
  pub parts : PartsRight s.machine
  pub fit : AllFit s.machine
  pub stood : Stand before
  pub come : Come before s

-- ---- a unit leaves a thread's policy, server and slice

pub record Plans : Type 0 where
  pub policy : Policy
  pub server : Option ServerState
  pub slice : ℕ

abbrev pub plans_of : {P : Type 0} → Thread P → Plans
plans_of th = record { policy = th.policy; server = th.server; slice = th.slice }

module _ {P : Type 0} (bodies : Bodies P) where
  advances_plans : (fs : List (Frame P)) (th : Thread P) → plans_of (advances bodies fs th).thread ≡ plans_of th
  advances_plans [] th = refl
  advances_plans (f ∷ fs) th = refl

  finish_plans : (fs : List (Frame P)) (th : Thread P) → plans_of (begins_finish fs th).thread ≡ plans_of th
  finish_plans [] th = refl
  finish_plans (f ∷ fs) th = refl

  pub in_unit_plans : (th : Thread P) → plans_of (in_unit bodies th).thread ≡ plans_of th
  in_unit_plans th = by_case (following th)
    where
      by_case : (x : Following) → plans_of (takes_unit bodies x th).thread ≡ plans_of th
      by_case (continuing left) = refl
      by_case advancing = advances_plans th.frames th
      by_case (cleaning_up u) = refl
      by_case finishing = finish_plans th.frames th

  charged_thread : (th : Thread P) → ThreadFits th → ThreadFits (tick_charged (in_unit bodies th).thread)
  charged_thread th h =
      let unit : ThreadFits (in_unit bodies th).thread = subst (λ (p : Plans). PolicyFits p.policy × HasParameters p.policy p.server) (sym (in_unit_plans th)) h in
      (unit.0, charged_fits (in_unit bodies th).thread.policy (in_unit bodies th).thread.server unit.1)

  -- ---- items

  opened : (s : Turn P) → s.direct ≡ [] → Placed s.machine → Placing s.machine s
  opened s still q = record {
    parts = q.parts;
    fit = q.fit;
    stood = q.stand;
    come = record { lists = refl; each = λ u off runs. absurd (contra runs off) };
  }
    where
      contra : {b : Bool} → b ≡ true → b ≡ false → ⊥
      contra p q = grind arith

  placing_keep : (who : Option ℕ) (before : Machine P) → KeepsRenewing bodies who (Placing before)
  placing_keep who before move s may q = record {
    parts = parts_renewing bodies who move s may q.parts;
    fit = fitting_keep bodies who move s may q.fit;
    stood = q.stood;
    come = come_keep before bodies who move s may q.come;
  }

  -- the same threads and mutexes
  other_fit : (m : Machine P) (now : ℕ) (last : LastDispatch) (lists : List (List ℕ)) → AllFit m → AllFit (record m { now = now; last = last; lists = lists })
  other_fit m now last lists q = record { threads = q.threads; mutexes = q.mutexes }

  placed_again : (before : Machine P) (s : Turn P) → Placing before s → Placed (settled before s.direct s.machine)
  placed_again before s q = record {
    parts = elsewhere s.machine s.machine.now s.machine.last (settled before s.direct s.machine).lists q.parts;
    fit = other_fit s.machine s.machine.now s.machine.last (settled before s.direct s.machine).lists q.fit;
    stand = stand_again before s.machine s.direct q.stood q.come.lists (priorities s.machine q.fit) q.come.each;
  }

  -- ---- the charge

  stand_elsewhere : (m : Machine P) (now : ℕ) (last : LastDispatch) → Stand m → Stand (record m { now = now; last = last })
  stand_elsewhere m now last q = record { every = q.every; runs = q.runs; others = q.others }

  placed_elsewhere : (m : Machine P) (now : ℕ) (last : LastDispatch) → Placed m → Placed (record m { now = now; last = last })
  placed_elsewhere m now last q = record {
    parts = elsewhere m now last m.lists q.parts;
    fit = other_fit m now last m.lists q.fit;
    stand = stand_elsewhere m now last q.stand;
  }

  placed_dispatched : (to : Option ℕ) (s : Turn P) → Placed s.machine → Placed (dispatches to s).machine
  placed_dispatched to s q = subst Placed (sym (dispatched to s)) (placed_elsewhere s.machine s.machine.now (dispatch_of to) q)

  charged_fit : (t : ℕ) (s : Turn P) → AllFit s.machine → AllFit (charged_turn bodies t s).machine
  charged_fit t s q = record {
    threads = each_at_changed s.machine.threads t q.threads;
    mutexes = q.mutexes;
  }
    where
      each_at_changed : (ths : List (Thread P)) (t : ℕ) → Each ThreadFits ths → Each ThreadFits (changed_at no_thread t (λ th. tick_charged (in_unit bodies (thread_in ths t)).thread) ths)
      each_at_changed [] t each = tt
      each_at_changed (th ∷ ths) zero each = (charged_thread th each.0, each.1)
      each_at_changed (th ∷ ths) (suc t) each = (each.0, each_at_changed ths t each.1)

  charged_placing : (t : ℕ) (s : Turn P) → s.direct ≡ [] → can_run s.machine t ≡ true → Placed s.machine → PartsRight (charged_turn bodies t s).machine → Placing s.machine (charged_turn bodies t s)
  charged_placing t s still runs q parts =
      let f : Thread P → Thread P = λ th. tick_charged (in_unit bodies (thread_at s.machine t)).thread in
      let come = changed_come s.machine t f s (λ k. runs) (opened s still q).come in record {
        parts = parts;
        fit = charged_fit t s q.fit;
        stood = q.stand;
        come = record { lists = come.lists; each = come.each };
      }

  -- ---- the tick's end

  planned : (t : ℕ) (o : Option ServerState) (s : Turn P) → AllFit s.machine → AllFit (plans_server t o s).machine
  planned t None s q = q
  planned t (Some server) s q = let fit = one bodies None t (with_server plan) s planned_fits q in record { threads = fit.threads; mutexes = fit.mutexes }

  moved_fit : (b : Bool) (t : ℕ) (s : Turn P) → AllFit s.machine → AllFit (moves_if b t s).machine
  moved_fit true t s q = record { threads = q.threads; mutexes = q.mutexes }
  moved_fit false t s q = q

  ended_fit : (e : TickEnd) (t : ℕ) (s : Turn P) → AllFit s.machine → AllFit (ends_tick e t s).machine
  ended_fit planning t s q = planned t (thread_at s.machine t).server s q
  ended_fit exhausting t s q = moved_fit _ t _ (planned t (thread_at s.machine t).server (tells (event.Exhaust t) s) (record { threads = q.threads; mutexes = q.mutexes }))
  ended_fit slicing t s q = moved_fit (can_run s.machine t) t (changes t without_slice s) (one bodies None t without_slice s (λ th h. h) q)
  ended_fit nothing t s q = q

  placing_stop : (who : Option ℕ) (before : Machine P) → Sleeps who (Placing before) (Placing before)
  placing_stop who before = let parts = parts_stop bodies who in let come = come_stop before bodies who in record {
    done = λ s q. q;
    sleeps = λ by wait due s runs may q. record {
      parts = parts.sleeps by wait due s runs may q.parts;
      fit = (let fit = one bodies None by.thread (put_to_wait (record { wait = wait; serial = s.machine.next_serial; due = due; call = by.call })) s (λ th h. h) q.fit in record { threads = fit.threads; mutexes = fit.mutexes });
      stood = q.stood;
      come = come.sleeps by wait due s runs may q.come;
    };
    dozes = λ by wait due s runs may other q. record {
      parts = parts.dozes by wait due s runs may other q.parts;
      fit = one bodies None by.thread (put_to_wait (record { wait = wait; serial = 0; due = due; call = by.call })) s (λ th h. h) q.fit;
      stood = q.stood;
      come = come.dozes by wait due s runs may other q.come;
    };
    joins = λ by u s runs other free q. record {
      parts = parts.joins by u s runs other free q.parts;
      fit = one bodies None by.thread (put_to_wait (record { wait = for_end u; serial = 0; due = None; call = by.call })) (changes u (with_joiner (waits_to_join by.thread)) s) (λ th h. h)
          (one bodies None u (with_joiner (waits_to_join by.thread)) s (λ th h. h) q.fit);
      stood = q.stood;
      come = come.joins by u s runs other free q.come;
    };
  }

  -- ---- a run that is closed or opened leaves every priority

  pub claims_at : (t : ℕ) (f : Thread P → Thread P) (ths : List (Thread P)) → claim_of (f (thread_in ths t)) ≡ claim_of (thread_in ths t) → map claim_of (changed_at no_thread t f ths) ≡ map claim_of ths
  claims_at t f [] h = refl
  claims_at zero f (th ∷ ths) h = ap (λ (c : Claim). c ∷ map claim_of ths) h
  claims_at (suc t) f (th ∷ ths) h = ap (λ (cs : List Claim). claim_of th ∷ cs) (claims_at t f ths h)

  stand_served : (t : ℕ) (f : ServerState → ServerState) (s : Turn P) → claim_of (with_server f (thread_at s.machine t)) ≡ claim_of (thread_at s.machine t) → Stand s.machine → Stand (changes t (with_server f) s).machine
  stand_served t f s h q =
      let same = λ (u : ℕ). changed-keeps no_thread t u (with_server f) (λ (th : Thread P). is_runnable th.status) (λ th. refl) s.machine.threads in
      let claims = claims_at t (with_server f) s.machine.threads h in
      record {
        every = q.every;
        runs = λ u i runs. q.runs u i (sym (same u) ∙ runs) ∙ ap (λ (cs : List Claim). one_if (exec_in cs s.machine.mutexes u - 1 == i)) (sym claims);
        others = λ u i off. q.others u i (sym (same u) ∙ off);
      }

  same_assigned : (f : ServerState → ServerState) (p : Policy) (x : ServerState) → is_high (f x) ≡ is_high x → (f x).params ≡ x.params → assigned_under p (Some (f x)) ≡ assigned_under p (Some x)
  same_assigned f (policy.Fifo n) x e k = refl
  same_assigned f (policy.Rr n) x e k = refl
  same_assigned f (policy.Sporadic params) x e k = rw (e, k) refl
  same_assigned f (policy.Strict params) x e k = rw (e, k) refl

  pub claim_at : (f : ServerState → ServerState) (th : Thread P) (x : ServerState) → th.server ≡ Some x → is_high (f x) ≡ is_high x → (f x).params ≡ x.params → claim_of (with_server f th) ≡ claim_of th
  claim_at f th x is e k =
      let here : assigned_under th.policy (option_map f th.server) ≡ assigned_under th.policy th.server = ap (λ (o : Option ServerState). assigned_under th.policy (option_map f o)) is ∙ same_assigned f th.policy x e k ∙ ap (assigned_under th.policy) (sym is) in
      ap (λ (n : ℕ). record { assigned = n; awaited = mutex_awaited_by th }) here

  -- what precedes the tick of the head leaves the lists right
  pub stand_prepared : PreparingKeeps (λ (s : Turn P). Stand s.machine)
  stand_prepared = record {
    closes = λ t s run q. closes_stand t (thread_at s.machine t).server s refl run q;
    sent = λ to s off q. subst Stand (sym (dispatched to s)) (stand_elsewhere s.machine s.machine.now (dispatch_of to) q);
    opens = λ t x s runs is may q. again (activates_server t (Some x) s) (changes t (with_server (activate s.machine.now)) s) refl (stand_served t (activate s.machine.now) s (claim_at (activate s.machine.now) (thread_at s.machine t) x is refl refl) q);
  }
    where
      again : (x y : Turn P) → x.machine ≡ y.machine → Stand y.machine → Stand x.machine
      again x y e q = subst Stand (sym e) q

      closes_stand : (t : ℕ) (o : Option ServerState) (s : Turn P) → (thread_at s.machine t).server ≡ o → has_run o ≡ true → Stand s.machine → Stand (plans_server t o s).machine
      closes_stand t None s e run q = q
      closes_stand t (Some x) s e run q =
          let stood = stand_served t plan s (claim_at plan (thread_at s.machine t) x e (strict_high x.kind x.capacity (length (plan x).pending) (length x.pending) x.params.max (run_parts x run).0) refl) q in
          record { every = stood.every; runs = stood.runs; others = stood.others }

  closed_placed : (t : ℕ) (o : Option ServerState) (s : Turn P) → (thread_at s.machine t).server ≡ o → has_run o ≡ true → Placed s.machine → Placed (plans_server t o s).machine
  closed_placed t None s e run q = q
  closed_placed t (Some x) s e run q =
      let fit = planned t (Some x) s q.fit in
      let strict = (run_parts x run).0 in record {
        parts = recast bodies None t (with_server plan) s refl refl q.parts;
        fit = fit;
        stand = again (stand_served t plan s (claim_at plan (thread_at s.machine t) x e (strict_high x.kind x.capacity (length (plan x).pending) (length x.pending) x.params.max strict) refl) q.stand);
      }
    where
      again : Stand (changes t (with_server plan) s).machine → Stand (plans_server t (Some x) s).machine
      again stood = record { every = stood.every; runs = stood.runs; others = stood.others }

  opened_placed : (t : ℕ) (x : ServerState) (s : Turn P) → Placed s.machine → Placed (activates_server t (Some x) s).machine
  opened_placed t x s q = record {
    parts = recast bodies None t (with_server (activate s.machine.now)) s refl refl q.parts;
    fit = (let fit = one bodies None t (with_server (activate s.machine.now)) s (λ th h. (h.0, same_parameters (activate s.machine.now) (λ y. (refl, refl)) th.policy th.server h.1)) q.fit in record { threads = fit.threads; mutexes = fit.mutexes });
    stand = (let stood = stand_served t (activate s.machine.now) s (by_server (thread_at s.machine t).server refl) q.stand in record { every = stood.every; runs = stood.runs; others = stood.others });
  }
    where
      by_server : (o : Option ServerState) → (thread_at s.machine t).server ≡ o → claim_of (with_server (activate s.machine.now) (thread_at s.machine t)) ≡ claim_of (thread_at s.machine t)
      by_server None e = let th = thread_at s.machine t in ap (λ (n : ℕ). record { assigned = n; awaited = mutex_awaited_by th }) (ap (λ (o : Option ServerState). assigned_under th.policy (option_map (activate s.machine.now) o)) e ∙ ap (assigned_under th.policy) (sym e))
      by_server (Some y) e = claim_at (activate s.machine.now) (thread_at s.machine t) y e refl refl

  pub placed_tick : TickSince bodies Placed Placing (λ was_high t. Placing) (λ was_high t. Placing) (λ was_high t. Placed)
  placed_tick = record {
    opens = opened;
    moves = placing_keep None;
    joined = λ before s q. q.parts.joiners;
    settles = placed_again;
    prepares = record {
      closes = λ t s run q. closed_placed t (thread_at s.machine t).server s refl run q;
      sent = λ to s off q. placed_dispatched to s q;
      opens = λ t x s runs is may q. opened_placed t x s q;
    };
    charges = λ t s still ready runs q. charged_placing t s still runs q ((parts_tick bodies).charges t s ready runs q.parts);
    unit_moves = λ was_high t. placing_keep (Some t);
    unit_joined = λ was_high t before s q. q.parts.joiners;
    unit_stops = λ was_high t. placing_stop (Some t);
    unit_settles = λ was_high t. placed_again;
    ends = λ was_high t s still q. record {
      parts = (parts_tick bodies).ends was_high t s q.parts;
      fit = ended_fit _ t s q.fit;
      stood = q.stand;
      come = ended_come s.machine _ t s (opened s still q).come;
    };
    idles = λ s ready q. placed_elsewhere s.machine (s.machine.now + 1) s.machine.last q;
  }

-- ---- the opening

opened_fit : (P : Type 0) (ds : List ThreadDecl) → Each units_fit.ThreadFits ds → Each ThreadFits (map (λ (d : ThreadDecl). thread_opened {P = P} d) ds)
opened_fit P [] each = tt
opened_fit P (d ∷ ds) each = ((each.0.0, none_fits d.policy), opened_fit P ds each.1)
  where
    none_fits : (p : Policy) → HasParameters p None
    none_fits (policy.Fifo p) = refl
    none_fits (policy.Rr p) = refl
    none_fits (policy.Sporadic params) = tt
    none_fits (policy.Strict params) = tt

mutexes_fit : (ds : List Decl) → DeclsFit ds → Each MutexFits (filter_map (named mutex_kind) ds)
mutexes_fit [] h = tt
mutexes_fit (decl.Action signal handler ∷ ds) h = mutexes_fit ds h.1
mutexes_fit (decl.Named name (kind.Mutex protocol recursive) ∷ ds) h = (h.0, mutexes_fit ds h.1)
mutexes_fit (decl.Named name other ∷ ds) h = mutexes_fit ds h.1

nobody_runs : (P : Type 0) (ds : List ThreadDecl) (t : ℕ) → is_runnable (thread_in (map (λ (d : ThreadDecl). thread_opened {P = P} d) ds) t).status ≡ false
nobody_runs P [] t = refl
nobody_runs P (d ∷ ds) zero = refl
nobody_runs P (d ∷ ds) (suc t) = nobody_runs P ds t

none_stands : (n t i : ℕ) → stands t i (replicate n []) ≡ 0
none_stands zero t i = refl
none_stands (suc n) t zero = refl
none_stands (suc n) t (suc i) = none_stands n t i

contra : {b : Bool} → b ≡ true → b ≡ false → ⊥
contra p q = grind arith

module _ (P : Type 0) (script : Script) (fits : IsWellFormed script) where
  abbrev first : Machine P
  first = opening script

  pub opening_placed : Placed first
  opening_placed = record {
    parts = opening_right P script;
    fit = record { threads = opened_fit P (threads_of script) (threads_fit script.decls fits.priorities); mutexes = mutexes_fit script.decls fits.priorities };
    stand = record {
      every = refl;
      runs = λ t i runs. absurd (contra runs (nobody_runs P (threads_of script) t));
      others = λ t i off. none_stands 255 t i;
    };
  }
