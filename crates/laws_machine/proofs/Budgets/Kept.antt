-- The law of the budget, in every state of every run.
use Rattle.std.proofs.Common.{Bool, List, None, Option, Some, [], ap, arith, false, refl, suc, sym, true, zero, ℕ, ◌+◌, ◌∷◌, ◌++◌, ◌≡◌, inl, inr, length, ◌⊎◌, ◌≤◌}
use Rattle.std.specs.Prelude.{is_some, option_map, ◌==◌, ◌&&◌, if◌then◌else◌}
use mathlib.Core.Path.{subst, ◌∙◌}
use Rattle.words_script.specs.declared.call.Call.{Call}
use Rattle.words_script.specs.declared.call.Call.TheVariants as call
use Rattle.words_script.specs.declared.decl.Script.{Script}
use Rattle.words_script.specs.declared.policy.Policy.{Policy}
use Rattle.rules_bodies.specs.declared.unit.Unit.{Unit}
use Rattle.rules_bodies.specs.declared.unit.Unit.TheVariants as unit
use Rattle.words_trace.specs.Text.{Entry}
use Rattle.rules_server.specs.declared.ServerKind.TheVariants as server_kind
use Rattle.words_trace.specs.declared.event.Event.TheVariants as event
use Rattle.rules_server.specs.Server.{ServerState, activate, joins_as, plan, replenishment}
use Rattle.rules_machine.specs.Throughout.{after_items, turn_after}
use Rattle.laws_machine.proofs.Items.{servers_throughout}
use Rattle.rules_machine.specs.Budget.{KeepsBudgets, KeepsServer, ServerEvent, account, account_after, all_recorded, recorded_if, recorded_tick, renews, ticked_account, used, activated}
use Rattle.rules_machine.specs.Bodies.{Bodies}
use Rattle.rules_machine.specs.State.{Machine, Status, Thread}
use Rattle.rules_machine.specs.Threads.{can_run, is_live, lives, thread_at, top_left, no_thread, thread_in, thread_numbers}
use Rattle.rules_machine.specs.Turns.{Turn, settles_since, turn_of, becomes, changes, tells}
use Rattle.rules_machine.specs.Servers.{charged, has_high, activates_server, closes, has_run, may_open, opens, opens_for, opens_if, plans, plans_server, with_server}
use Rattle.rules_machine.specs.Calls.{unit_effect}
use Rattle.rules_machine.specs.DueItems.{instant, items_done, next_item}
use Rattle.rules_machine.specs.Dispatch.{dispatch_event, dispatches, head, is_same, tells_unless, dispatch_of, runner}
use Rattle.rules_machine.specs.Units.{in_unit}
use Rattle.rules_machine.specs.Ticks.{completes_at, ends_tick, runs, tick_charged, tick_end, unless_killed, consumed_in, prepares}
use Rattle.rules_machine.specs.Runs.{Ran, opening, tick_of, ticks, follow, tick_begun, tick_prepared, tick_run}
use Rattle.rules_machine.specs.Declarations.{threads_of}
use Rattle.rules_machine.specs.GoodState.{has_server_policy}
use Rattle.rules_machine.proofs.ItemsEnd.{instant_ends}
use Rattle.rules_machine.proofs.Parts.{tick_in_parts, finished_in_parts, prepares_unended}
use Rattle.rules_machine.proofs.Reading.{thread-other, thread-same}
use Rattle.rules_machine.specs.WellFormed.{IsWellFormed}
use Rattle.rules_moves.specs.UnitRanges.{BodiesFit}
use Rattle.rules_moves.proofs.Waiters.Best.{running_within}
use Rattle.rules_moves.proofs.Runs.Listed.{AllRun, head_can_run}
use Rattle.rules_moves.proofs.Runs.Units.{in_unit_fits}
use Rattle.rules_moves.proofs.Runs.Ticks.{Rests, charged_runs, charged_turn, completes_keep, dispatched, in_unit_status, instant_keep, items_keep, run_keep, sweeps_keep}
use Rattle.laws_machine.proofs.Servers.Moves.{Threads}
use Rattle.laws_machine.proofs.Servers.Ticks.{ServedDone, ServedMid, ServedRight, served_stop, served_tick}
use Rattle.laws_machine.proofs.Servers.Units.{kept_in_unit}
use Rattle.laws_machine.proofs.Parts.Opening.{opening_listed}
use Rattle.laws_machine.proofs.Servers.Kept.{opened_server, opening_served}
use Rattle.laws_machine.proofs.Budgets.Units.{Book, BookDone, BooksOf, NotDue, book_round, booked_later, booked_ticked, ends_booked, not_due, one_tick, renewing_unit, renews_booked, unit_booked, Begun, plans_mine, plans_other}
use Rattle.laws_machine.proofs.Budgets.Accounts.{keeps_account, InStep, activated_in_step}
use Rattle.laws_machine.proofs.Budgets.Booked.{Booked, IsActive, Still, active_booked}
use Rattle.laws_machine.proofs.Budgets.Moves.{Recorded, Has, activated_map, activates_other, activates_some, own, posted_so, told, told_plainly}
use Rattle.rules_machine.specs.Lists.{changed_at, is}
use Rattle.rules_machine.specs.Priorities.{exec}
use Rattle.rules_moves.proofs.Waiters.OfThreads.{changed_is}
use Rattle.rules_moves.proofs.Runs.Preparing.{Alike, PreparingKeeps, alike_runs, closed_all, closes_keep, prepared, prepares_keep}
use Rattle.laws_machine.proofs.Servers.OfThreads.{in_time, in_time_later, only, opening_none, planned_due, run_parts}
use Rattle.laws_machine.proofs.Servers.Right.{not_strict}
use Rattle.laws_machine.proofs.Servers.Ends.{has_server}

-- ---- a tick

none_more : {X : Type 0} (xs : List X) → xs ++ [] ≡ xs
none_more [] = refl
none_more (x ∷ xs) = ap (λ ys. x ∷ ys) (none_more xs)

module _ {P : Type 0} (bodies : Bodies P) (known : BodiesFit bodies) (t : ℕ) where
  -- the charge of the head's tick
  module _ (u : ℕ) (s : Turn P) (can : can_run s.machine u ≡ true) (all : Threads bodies None s) (none : (x : ServerState) → (thread_at s.machine t).server ≡ Some x → NotDue s.machine.now x) where
    abbrev takes : Unit
    takes = (in_unit bodies (thread_at s.machine u)).unit

    charged_books : (acc : List ServerEvent) → (u ≡ t → (x : ServerState) → (thread_at s.machine t).server ≡ Some x → Begun x acc) → BooksOf s.machine.now (thread_at s.machine t) acc →
        BooksOf (s.machine.now + 1) (thread_at (charged_turn bodies u s).machine t) (recorded_if (u == t && has_high (thread_at s.machine t).server) used acc)
    charged_books acc begun h = by_eq (u == t) refl
      where
        f : Thread P → Thread P
        f x = tick_charged (in_unit bodies (thread_at s.machine u)).thread

        mine : u ≡ t → BooksOf (s.machine.now + 1) (thread_at (charged_turn bodies u s).machine t) (recorded_if (has_high (thread_at s.machine t).server) used acc)
        mine it =
            let runs' : can_run s.machine t ≡ true = subst (λ (i : ℕ). can_run s.machine i ≡ true) it can in
            subst (λ (i : ℕ). BooksOf (s.machine.now + 1) (thread_at (charged_turn bodies u s).machine i) (recorded_if (has_high (thread_at s.machine t).server) used acc)) it
            (subst (λ (th : Thread P). BooksOf (s.machine.now + 1) th (recorded_if (has_high (thread_at s.machine t).server) used acc)) (sym (thread-same s.machine u (λ th. tick_charged (in_unit bodies (thread_at s.machine u)).thread) (running_within s.machine.threads u can)))
            (subst (λ (x : Status × Option ServerState). (y : ServerState) → option_map charged x.1 ≡ Some y → Booked (s.machine.now + 1) x.0 y (recorded_if (has_high (thread_at s.machine t).server) used acc))
            (ap (λ (i : ℕ). ((thread_at s.machine i).status, (thread_at s.machine i).server)) (sym it) ∙ sym (kept_in_unit bodies (λ (x : Thread P). (x.status, x.server)) (λ fs x. refl) (λ x. refl) (thread_at s.machine u)))
            (booked_ticked s.machine.now (thread_at s.machine t).status (thread_at s.machine t).server acc runs' none (begun it) h)))

        by_eq : (b : Bool) → (u == t) ≡ b → BooksOf (s.machine.now + 1) (thread_at (charged_turn bodies u s).machine t) (recorded_if (b && has_high (thread_at s.machine t).server) used acc)
        by_eq true e = mine (grind arith)
        by_eq false e = subst (λ (th : Thread P). BooksOf (s.machine.now + 1) th acc) (sym (thread-other s.machine u t (λ th. tick_charged (in_unit bodies (thread_at s.machine u)).thread) e))
            (λ x k. booked_later s.machine.now (thread_at s.machine t).status x acc (none x k) (h x k))

    -- who lives goes on to live
    lives_on : lives (charged_turn bodies u s).machine t ≡ lives s.machine t
    lives_on = by_eq (u == t) refl
      where
        by_eq : (b : Bool) → (u == t) ≡ b → lives (charged_turn bodies u s).machine t ≡ lives s.machine t
        by_eq true e =
            let it : u ≡ t = grind arith in
            subst (λ (i : ℕ). lives (charged_turn bodies u s).machine i ≡ lives s.machine i) it
            (ap (λ (th : Thread P). is_live th.status) (thread-same s.machine u (λ th. tick_charged (in_unit bodies (thread_at s.machine u)).thread) (running_within s.machine.threads u can)) ∙ ap is_live (in_unit_status bodies (thread_at s.machine u)))
        by_eq false e = ap (λ (th : Thread P). is_live th.status) (thread-other s.machine u t (λ th. tick_charged (in_unit bodies (thread_at s.machine u)).thread) e)

    -- no call is left undone
    none_left : (c : Call) → takes ≡ unit.Make c → top_left (thread_at (charged_turn bodies u s).machine u).frames ≡ 0
    none_left c e = ap (λ (th : Thread P). top_left th.frames) (thread-same s.machine u (λ th. tick_charged (in_unit bodies (thread_at s.machine u)).thread) (running_within s.machine.threads u can)) ∙ one_tick bodies c (thread_at s.machine u) e

    -- ---- the unit, and what follows

    abbrev tolled : Bool
    tolled = has_high (thread_at s.machine u).server

    abbrev Opens : List ServerEvent → Turn P → Type 0
    Opens acc x = Book bodies t s.events (recorded_tick bodies t (Some u) s.machine acc) x

    dead_none : (x : Turn P) (y : ServerState) → Threads bodies (Some u) x → lives x.machine t ≡ false → (thread_at x.machine t).server ≡ Some y → ⊥
    dead_none x y all dead e = both (lives x.machine t) (has_server_policy (thread_at x.machine t).policy) dead (sym (all t).having ∙ ap is_some e)
      where
        both : (a b : Bool) → a ≡ false → (a && b) ≡ true → ⊥
        both a b p q = grind arith

    module _ (acc : List ServerEvent) (begun : u ≡ t → (x : ServerState) → (thread_at s.machine t).server ≡ Some x → Begun x acc) (h : BooksOf s.machine.now (thread_at s.machine t) acc) (mid : ServedMid bodies tolled u (charged_turn bodies u s)) where
      abbrev after_if : Bool → List ServerEvent
      after_if b = if b then (if lives s.machine t then [] else acc) else recorded_if (u == t && has_high (thread_at s.machine t).server) used acc

      plain_completes : (left : ℕ) → renews t takes ≡ false → BookDone bodies t s.events (recorded_if (u == t && has_high (thread_at s.machine t).server) used acc) tolled u (completes_at bodies left u takes (charged_turn bodies u s))
      plain_completes zero e = unit_booked bodies t s.events (recorded_if (u == t && has_high (thread_at s.machine t).server) used acc) tolled u takes (charged_turn bodies u s) (in_unit_fits bodies known (thread_at s.machine u)) (charged_runs bodies u s can) e (mid, ([], sym (none_more s.events), charged_books acc begun h))
      plain_completes (suc left) e = ((served_stop bodies tolled u).done (charged_turn bodies u s) mid, ([], sym (none_more s.events), charged_books acc begun h))

      none_if_lives : (b : Bool) → b ≡ true → (if b then [] else acc) ≡ []
      none_if_lives true e = refl
      none_if_lives false e = absurd (grind arith)

      renewing_completes : (left : ℕ) → left ≡ 0 → (new : Policy) → takes ≡ unit.Make (call.Setsched t new) →
          Recorded bodies t s.events (if lives s.machine t then [] else acc) (completes_at bodies left u takes (charged_turn bodies u s))
      renewing_completes left none new e =
          subst (λ (n : ℕ). Recorded bodies t s.events (if lives s.machine t then [] else acc) (completes_at bodies n u takes (charged_turn bodies u s))) (sym none)
          (subst (λ (w : Unit). Recorded bodies t s.events (if lives s.machine t then [] else acc) (unit_effect bodies u w (charged_turn bodies u s))) (sym e)
          (renews_booked bodies t s.events (if lives s.machine t then [] else acc) u new (charged_turn bodies u s) (λ live. (sym (none_more s.events), none_if_lives (lives s.machine t) (sym lives_on ∙ live)))
          (λ dead. ([], sym (none_more s.events), λ x k. absurd (dead_none (charged_turn bodies u s) x mid.1 dead k)))))

      completes_booked : (left : ℕ) → top_left (thread_at (charged_turn bodies u s).machine u).frames ≡ left → (b : Bool) → renews t takes ≡ b → BookDone bodies t s.events (after_if b) tolled u (completes_at bodies left u takes (charged_turn bodies u s))
      completes_booked left e false k = plain_completes left k
      completes_booked left e true k =
          let it = renewing_unit t takes k in (
            completes_keep bodies known (ServedRight bodies) (ServedMid bodies) (ServedDone bodies) (served_tick bodies) tolled left u takes (charged_turn bodies u s) (in_unit_fits bodies known (thread_at s.machine u)) (charged_runs bodies u s can) mid,
            renewing_completes left (sym e ∙ none_left (call.Setsched t it.0) it.1) it.0 it.1,
          )

      pub runs_booked : Opens acc (runs bodies (Some u) s)
      runs_booked =
          let served = served_tick bodies in
          let acc' = recorded_tick bodies t (Some u) s.machine acc in
          let charged' = charged_turn bodies u s in
          let completed = completes_at bodies (top_left (thread_at charged'.machine u).frames) u takes charged' in
          let ticked = settles_since s.machine completed in
          let e = tick_end tolled ticked.machine.quantum (thread_at ticked.machine u) in
          let done : BookDone bodies t s.events acc' tolled u completed = completes_booked (top_left (thread_at charged'.machine u).frames) refl (renews t takes) refl in
          let done' : BookDone bodies t s.events acc' tolled u ticked = (served.unit_settles tolled u s.machine completed done.0, done.1) in
          let ended : Opens acc (ends_tick e u ticked) = (
            served.ends tolled u ticked done'.0,
            ends_booked bodies t s.events acc' tolled u ticked (λ x k. in_time (is (Some u) t) ticked.machine.now (thread_at ticked.machine t).status x ((done'.0.1 t).each x k)) done'.1,
          ) in
          let round = book_round bodies t s.events acc' in
          (sweeps_keep bodies (Opens acc) round (settles_since ticked.machine (ends_tick e u ticked)) (round.settles ticked.machine (ends_tick e u ticked) ended)).0

  -- ---- a whole tick

  -- what is posted of all the events so far
  all_told : (acc : List ServerEvent) (s : Turn P) → Recorded bodies t [] acc s → BooksOf s.machine.now (thread_at s.machine t) (all_recorded t s.events acc)
  all_told acc s q = subst (λ (es : List Entry). BooksOf s.machine.now (thread_at s.machine t) (all_recorded t es acc)) (sym q.1) q.2

  -- ---- what precedes the tick of the head

  module _ (before : List ServerEvent) where
    abbrev Given : Turn P → Type 0
    Given s = Book bodies t [] before s × ((x : ServerState) → (thread_at s.machine t).server ≡ Some x → NotDue s.machine.now x)

    not_due_planned : (v : ℕ) (o : Option ServerState) (s : Turn P) → (thread_at s.machine v).server ≡ o → has_run o ≡ true → Given s → (x : ServerState) → (thread_at (plans_server v o s).machine t).server ≡ Some x → NotDue s.machine.now x
    not_due_planned v None s e run q x k = absurd (grind arith)
    not_due_planned v (Some y) s e run q x k = of_two (changed_is no_thread v t (with_server plan) s.machine.threads)
      where
        mine : (o : Option ServerState) → (thread_at s.machine v).server ≡ o → v ≡ t → option_map plan o ≡ Some x → NotDue s.machine.now x
        mine None e' it k' = absurd (grind arith)
        mine (Some z) e' it k' =
            let here : (thread_at s.machine t).server ≡ Some z = subst (λ (i : ℕ). (thread_at s.machine i).server ≡ Some z) it e' in
            let run' : has_run (Some z) ≡ true = ap has_run (sym e' ∙ e) ∙ run in
            let late = in_time_later s.machine.now (thread_at s.machine t).status z run' ((q.0.0.1 t).each z here) in
            subst (λ (w : ServerState). NotDue s.machine.now w) (only k') (planned_due (joins_as z.kind (length z.pending) z.params.max) s.machine.now (replenishment z) z.pending late (q.1 z here))

        of_two : ((v ≡ t) × (thread_in (changed_at no_thread v (with_server plan) s.machine.threads) t ≡ with_server plan (thread_at s.machine v))) ⊎ (thread_in (changed_at no_thread v (with_server plan) s.machine.threads) t ≡ thread_at s.machine t) → NotDue s.machine.now x
        of_two (inl j) = mine (thread_at s.machine v).server refl j.0 (sym (ap (λ (th : Thread P). th.server) j.1) ∙ k)
        of_two (inr j) = q.1 x (sym (ap (λ (th : Thread P). th.server) j) ∙ k)

    closes_recorded : (v : ℕ) (s : Turn P) → has_run (thread_at s.machine v).server ≡ true → Given s → Recorded bodies t [] before (plans v s)
    closes_recorded v s run q = by_eq (v == t) refl
      where
        some : (o : Option ServerState) → has_run o ≡ true → 1 ≤ consumed_in o
        some None e = absurd (grind arith)
        some (Some x) e = (run_parts x e).1

        strict : (o : Option ServerState) → has_run o ≡ true → (x : ServerState) → o ≡ Some x → x.kind ≡ server_kind.Sporadic → ⊥
        strict o e x k sort = not_strict (sym (run_parts x (sym (ap has_run k) ∙ e)).0 ∙ sort)

        mine : has_run (thread_at s.machine t).server ≡ true → Recorded bodies t [] before (plans t s)
        mine run' =
            plans_mine bodies t [] before (thread_at s.machine t).server s refl (some (thread_at s.machine t).server run') (λ x k. in_time false s.machine.now (thread_at s.machine t).status x ((q.0.0.1 t).each x k))
            (λ x k sort runs. absurd (strict (thread_at s.machine t).server run' x k sort)) q.0.1

        by_eq : (b : Bool) → (v == t) ≡ b → Recorded bodies t [] before (plans v s)
        by_eq true e = let it : t ≡ v = grind arith in subst (λ (i : ℕ). Recorded bodies t [] before (plans i s)) it (mine (subst (λ (i : ℕ). has_run (thread_at s.machine i).server ≡ true) (sym it) run))
        by_eq false e = plans_other bodies t [] before v (thread_at s.machine v).server s e q.0.1

    sent_recorded : (to : Option ℕ) (s : Turn P) → Recorded bodies t [] before s → Recorded bodies t [] before (dispatches to s)
    sent_recorded to s q = by_same (is_same s.machine.last to) to
      where
        again : (to : Option ℕ) (x : Turn P) → Recorded bodies t [] before x → Recorded bodies t [] before (becomes (λ m. record m { last = dispatch_of to }) x)
        again to x r = (r.0, r.1, r.2)

        by_same : (b : Bool) (to : Option ℕ) → Recorded bodies t [] before (becomes (λ m. record m { last = dispatch_of to }) (tells_unless b (dispatch_event s.machine to) s))
        by_same true to = again to s q
        by_same false None = again None (tells event.Idle s) (told_plainly bodies t [] before Booked event.Idle s refl q)
        by_same false (Some u) = again (Some u) (tells (event.Dispatch u (exec s.machine u)) s) (told_plainly bodies t [] before Booked (event.Dispatch u (exec s.machine u)) s refl q)

    not_due_opened : (v : ℕ) (x : ServerState) (s : Turn P) → Given s → (y : ServerState) → (thread_at (activates_server v (Some x) s).machine t).server ≡ Some y → NotDue s.machine.now y
    not_due_opened v x s q y k = of_two (changed_is no_thread v t (with_server (activate s.machine.now)) s.machine.threads)
      where
        mine : (o : Option ServerState) → (thread_at s.machine v).server ≡ o → v ≡ t → option_map (activate s.machine.now) o ≡ Some y → NotDue s.machine.now y
        mine None e it k' = absurd (grind arith)
        mine (Some z) e it k' = subst (λ (w : ServerState). NotDue s.machine.now w) (only k') (q.1 z (subst (λ (i : ℕ). (thread_at s.machine i).server ≡ Some z) it e))

        of_two : ((v ≡ t) × (thread_in (changed_at no_thread v (with_server (activate s.machine.now)) s.machine.threads) t ≡ with_server (activate s.machine.now) (thread_at s.machine v))) ⊎ (thread_in (changed_at no_thread v (with_server (activate s.machine.now)) s.machine.threads) t ≡ thread_at s.machine t) → NotDue s.machine.now y
        of_two (inl j) = mine (thread_at s.machine v).server refl j.0 (sym (ap (λ (th : Thread P). th.server) j.1) ∙ k)
        of_two (inr j) = q.1 y (sym (ap (λ (th : Thread P). th.server) j) ∙ k)

    still_of : (x : ServerState) (s : Turn P) → (thread_at s.machine t).server ≡ Some x → may_open x ≡ true → Recorded bodies t [] before s → Has bodies t [] before Still s
    still_of x s is may q = (q.0, q.1, λ y k. ((q.2 y k).books, ap (λ (z : ServerState). z.consumed) (only (sym k ∙ is)) ∙ opening_none x may))

    opens_recorded : (v : ℕ) (x : ServerState) (s : Turn P) → (thread_at s.machine v).server ≡ Some x → may_open x ≡ true → Recorded bodies t [] before s → Recorded bodies t [] before (activates_server v (Some x) s)
    opens_recorded v x s is may q = by_eq (v == t) refl
      where
        by_eq : (b : Bool) → (v == t) ≡ b → Recorded bodies t [] before (activates_server v (Some x) s)
        by_eq true e =
            let it : t ≡ v = grind arith in
            let here : (thread_at s.machine t).server ≡ Some x = subst (λ (i : ℕ). (thread_at s.machine i).server ≡ Some x) (sym it) is in
            subst (λ (i : ℕ). Recorded bodies t [] before (activates_server i (Some x) s)) it (activates_some bodies t [] before x s (has_server s.machine.threads t x here) (still_of x s here may q))
        by_eq false e = activates_other bodies t [] before v (Some x) s e q

    given_prepared : PreparingKeeps Given
    given_prepared = record {
      closes = λ v s run q. (((served_tick bodies).prepares.closes v s run q.0.0, closes_recorded v s run q), plans_due v s run q);
      sent = λ to s off q. (((served_tick bodies).prepares.sent to s off q.0.0, sent_recorded to s q.0.1), subst (λ (m : Machine P). (x : ServerState) → (thread_at m t).server ≡ Some x → NotDue m.now x) (sym (dispatched to s)) q.1);
      opens = λ v x s runs is may q. (((served_tick bodies).prepares.opens v x s runs is may q.0.0, opens_recorded v x s is may q.0.1), not_due_opened v x s q);
    }
      where
        same_now : (v : ℕ) (o : Option ServerState) (s : Turn P) → (plans_server v o s).machine.now ≡ s.machine.now
        same_now v None s = refl
        same_now v (Some x) s = refl

        plans_due : (v : ℕ) (s : Turn P) → has_run (thread_at s.machine v).server ≡ true → Given s → (x : ServerState) → (thread_at (plans v s).machine t).server ≡ Some x → NotDue (plans v s).machine.now x
        plans_due v s run q x k = subst (λ (n : ℕ). NotDue n x) (sym (same_now v (thread_at s.machine v).server s)) (not_due_planned v (thread_at s.machine v).server s refl run q x k)

    -- the thread itself opens a run
    abbrev Readied : ℕ → Status → ServerState → List ServerEvent → Type 0
    Readied now status x a = Booked now status x a × Begun x a

    opened_readied : (b : Bool) (x : ServerState) (s : Turn P) → may_open x ≡ b → (thread_at s.machine t).server ≡ Some x → Recorded bodies t [] before s → Has bodies t [] before Readied (opens_if b t x s)
    opened_readied true x s e is q =
        let within = has_server s.machine.threads t x is in
        told bodies t [] before IsActive Readied (event.Activate t x.capacity) (changes t (with_server (activate s.machine.now)) s)
        (λ y a k g. subst (λ (c : List ServerEvent). Readied s.machine.now (thread_at (changes t (with_server (activate s.machine.now)) s).machine t).status y c) (sym (posted_so (t == t) (activated s.machine.now) a itself))
        (active_booked s.machine.now (thread_at (changes t (with_server (activate s.machine.now)) s).machine t).status y a g, λ may. subst (λ (z : ServerState). InStep z (a ++ activated s.machine.now ∷ [])) (sym g.1) (activated_in_step s.machine.now g.0 a g.2.1)))
        (own bodies t [] before Still IsActive (with_server (activate s.machine.now)) s within (λ a h. activated_map bodies t [] before s.machine.now (thread_at s.machine t).status (thread_at s.machine t).server a h) (still_of x s is e q))
      where
        itself : (t == t) ≡ true
        itself = grind arith
    opened_readied false x s e is q = (q.0, q.1, λ y k. (q.2 y k, λ may. absurd (not_both (ap may_open (only (sym k ∙ is)) ∙ e) may)))
      where
        not_both : {c : Bool} → c ≡ false → c ≡ true → ⊥
        not_both p r = grind arith

    opened_for : (o : Option ServerState) (s : Turn P) → (thread_at s.machine t).server ≡ o → Recorded bodies t [] before s → Has bodies t [] before Readied (opens_for t o s)
    opened_for None s e q = (q.0, q.1, λ y k. absurd (grind arith))
    opened_for (Some x) s e q = opened_readied (may_open x) x s refl e q

    opened_own : (u : ℕ) (s : Turn P) → u ≡ t → Recorded bodies t [] before s → Has bodies t [] before Readied (opens (Some u) s)
    opened_own u s it q = subst (λ (i : ℕ). Has bodies t [] before Readied (opens (Some i) s)) (sym it) (opened_for (thread_at s.machine t).server s refl q)

  module _ (ready : Machine P) (before : List ServerEvent) (ends : next_item ready ≡ None) (right : ServedRight bodies (turn_of ready)) (listed : AllRun ready ready.lists) (h : BooksOf ready.now (thread_at ready t) before) where
    abbrev at_head : Option ℕ → Turn P
    at_head o = prepares o (turn_of ready)

    abbrev told_so_far : Option ℕ → List ServerEvent
    told_so_far o = all_recorded t (at_head o).events before

    module _ (alive : ready.killed ≡ None) where
      ready_due : (x : ServerState) → (thread_at ready t).server ≡ Some x → NotDue ready.now x
      ready_due x e = not_due ready alive ends t x e ((right.1 t).each x e).sound.rising

      given : Given before (turn_of ready)
      given = ((right, ([], refl, h)), ready_due)

      kept : (o : Option ℕ) → ((u : ℕ) → o ≡ Some u → can_run ready u ≡ true) → Given before (at_head o) × Alike ready (at_head o).machine × ((at_head o).direct ≡ [])
      kept o can = prepares_keep (Given before) (given_prepared before) o (turn_of ready) can given

      begun : (u : ℕ) → u ≡ t → (x : ServerState) → (thread_at (at_head (Some u)).machine t).server ≡ Some x → Begun x (told_so_far (Some u))
      begun u it x k =
          let to = Some u in
          let closed = closes_keep (Given before) (given_prepared before) to (thread_numbers ready) (turn_of ready) given in
          let sent' = (given_prepared before).sent to (closes to (turn_of ready)) (λ u other. closed_all to u (turn_of ready) other) closed in
          let opened = opened_own before u (dispatches to (closes to (turn_of ready))) it sent'.0.1 in
          subst (λ (es : List Entry). Begun x (all_recorded t es before)) (sym opened.1) (opened.2 x k).1

      headed : (o : Option ℕ) → head ready ≡ o → BooksOf (runs bodies o (turn_of (at_head o).machine)).machine.now (thread_at (runs bodies o (turn_of (at_head o).machine)).machine t)
          (all_recorded t (runs bodies o (turn_of (at_head o).machine)).events (recorded_tick bodies t o (at_head o).machine (told_so_far o)))
      headed None e =
          let k = kept None (λ u f. absurd (grind arith)) in
          λ x j. booked_later (at_head None).machine.now (thread_at (at_head None).machine t).status x (told_so_far None) (k.0.1 x j) (all_told before (at_head None) k.0.0.1 x j)
      headed (Some u) e =
          let to = at_head (Some u) in
          let can : can_run ready u ≡ true = head_can_run ready u listed e in
          let k = kept (Some u) (λ v f. subst (λ (i : ℕ). can_run ready i ≡ true) (only f) can) in
          let can' : can_run to.machine u ≡ true = alike_runs ready to.machine u k.1 can in
          let q = k.0 in
          let s = turn_of to.machine in
          let mid = (served_tick bodies).charges u s (prepared (Some u) (turn_of ready)) can' q.0.0 in
          all_told (recorded_tick bodies t (Some u) to.machine (told_so_far (Some u))) (runs bodies (Some u) s) (runs_booked u s can' q.0.0.1 q.1 (told_so_far (Some u)) (begun u) (all_told before to q.0.1) mid).1

    -- what finishes the tick, unless the process has ended
    finished : (k : Option ℕ) → ready.killed ≡ k →
        let first = unless_killed k (prepares (head ready)) (turn_of ready) in
        let s = unless_killed k (runs bodies (head ready)) (turn_of first.machine) in
        BooksOf s.machine.now (thread_at s.machine t) (all_recorded t s.events (recorded_tick bodies t (if is_some k then None else head ready) first.machine (all_recorded t first.events before)))
    finished (Some signal) e = h
    finished None e = headed e (head ready) refl

    -- and so does the machine
    finished_so : let first = tick_prepared bodies ready in let s = tick_run bodies (head ready) first.machine in
        BooksOf s.machine.now (thread_at s.machine t) (all_recorded t s.events (recorded_tick bodies t (runner ready) first.machine (all_recorded t first.events before)))
    finished_so = by_end ready.killed refl (finished ready.killed refl)
      where
        by_end : (k : Option ℕ) → ready.killed ≡ k →
            (let first = unless_killed k (prepares (head ready)) (turn_of ready) in
            let s = unless_killed k (runs bodies (head ready)) (turn_of first.machine) in
            BooksOf s.machine.now (thread_at s.machine t) (all_recorded t s.events (recorded_tick bodies t (if is_some k then None else head ready) first.machine (all_recorded t first.events before)))) →
            let first = unless_killed k (prepares (head ready)) (turn_of ready) in
            let s = unless_killed first.machine.killed (runs bodies (head ready)) (turn_of first.machine) in
            BooksOf s.machine.now (thread_at s.machine t) (all_recorded t s.events (recorded_tick bodies t (if is_some k then None else head ready) first.machine (all_recorded t first.events before)))
        by_end (Some signal) e q =
            subst (λ (k : Option ℕ). let s = unless_killed k (runs bodies (head ready)) (turn_of ready) in BooksOf s.machine.now (thread_at s.machine t) (all_recorded t s.events before)) (sym e) q
        by_end None e q =
            let first = prepares (head ready) (turn_of ready) in
            subst (λ (k : Option ℕ). let s = unless_killed k (runs bodies (head ready)) (turn_of first.machine) in
            BooksOf s.machine.now (thread_at s.machine t) (all_recorded t s.events (recorded_tick bodies t (head ready) first.machine (all_recorded t first.events before)))) (sym ((prepares_unended (head ready) (turn_of ready)).killed ∙ e)) q

  tick_booked : (m : Machine P) (acc : List ServerEvent) → ServedRight bodies (turn_of m) → AllRun m m.lists → BooksOf m.now (thread_at m t) acc → BooksOf (tick_of bodies m).machine.now (thread_at (tick_of bodies m).machine t) (ticked_account bodies t m acc)
  tick_booked m acc right listed h =
      let ready = instant bodies (turn_of m) in
      let rests : Rests bodies (Book bodies t [] acc) ready = instant_keep bodies (Book bodies t [] acc) (book_round bodies t [] acc) (turn_of m) ((right, ([], refl, h)), listed) in
      subst (λ (n : Machine P). BooksOf n.now (thread_at n t) (ticked_account bodies t m acc)) (sym (ap (λ (x : Ran P). x.machine) (tick_in_parts bodies m ∙ ap (λ (x : Ran P). follow (tick_begun bodies m) (λ n. x)) (finished_in_parts bodies ready.machine))))
      (finished_so ready.machine (all_recorded t ready.events acc) (instant_ends bodies (turn_of m)) rests.0.0 rests.1 (all_told acc ready rests.0.1))

  -- ---- a run

  pub run_booked : (n : ℕ) (start : Machine P) → ServedRight bodies (turn_of start) → AllRun start start.lists → BooksOf start.now (thread_at start t) [] →
      BooksOf (ticks bodies n start).machine.now (thread_at (ticks bodies n start).machine t) (account bodies t start n)
  run_booked zero start right listed h = h
  run_booked (suc n) start right listed h =
      let so = run_keep bodies known (λ m. ServedRight bodies (turn_of m)) (ServedMid bodies) (ServedDone bodies) (served_tick bodies) n start right listed in
      tick_booked (ticks bodies n start).machine (account bodies t start n) so.0 so.1 (run_booked n start right listed h)

  -- and the items of an instant
  pub items_booked : (k : ℕ) (m : Machine P) (acc : List ServerEvent) → ServedRight bodies (turn_of m) → AllRun m m.lists → BooksOf m.now (thread_at m t) acc →
      let s : Turn P = items_done bodies k (turn_of m) in BooksOf s.machine.now (thread_at s.machine t) (all_recorded t s.events acc)
  items_booked k m acc right listed h =
      all_told acc (items_done bodies k (turn_of m)) (items_keep bodies (Book bodies t [] acc) (book_round bodies t [] acc) k (turn_of m) ((right, ([], refl, h)), listed)).0.1

-- ---- the run of every script that is well formed

keeps_server : {P : Type 0} (now : ℕ) (th : Thread P) (acc : List ServerEvent) (o : Option ServerState) → th.server ≡ o → is_some o ≡ true → BooksOf now th acc → KeepsServer o acc
keeps_server now th acc None e having h = absurd (grind arith)
keeps_server now th acc (Some x) e having h = keeps_account now x acc (h x e).books

module _ {P : Type 0} (bodies : Bodies P) (ranges : BodiesFit bodies) (script : Script) (fits : IsWellFormed script) where
  no_books : (t : ℕ) → BooksOf {P = P} 0 (thread_at (opening script) t) []
  no_books t x e = let none = opened_server P (threads_of script) t in absurd (grind arith)

  booked_after : (t n k : ℕ) →
      let s : Turn P = turn_after bodies (opening script) n k in BooksOf s.machine.now (thread_at s.machine t) (account_after bodies (opening script) t n k)
  booked_after t n k =
      let so = run_keep bodies ranges (λ m. ServedRight bodies (turn_of m)) (ServedMid bodies) (ServedDone bodies) (served_tick bodies) n (opening script) (opening_served bodies script fits) (opening_listed P script) in
      items_booked bodies ranges t k (ticks bodies n (opening script)).machine (account bodies t (opening script) n) so.0 so.1
      (run_booked bodies ranges t n (opening script) (opening_served bodies script fits) (opening_listed P script) (no_books t))

  -- The law of the budget holds in each state of the run.
  pub run_budgets : (n k : ℕ) → KeepsBudgets bodies (opening script) n k
  run_budgets n k = record {
    each = λ t live sporadic.
        let m = after_items bodies (opening script) n k in
        keeps_server m.now (thread_at m t) (account_after bodies (opening script) t n k) (thread_at m t).server refl
        (((servers_throughout bodies ranges script fits).each n k).having t ∙ both live sporadic) (booked_after t n k);
  }
    where
      both : {a b : Bool} → a ≡ true → b ≡ true → (a && b) ≡ true
      both p q = grind arith
