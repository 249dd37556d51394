-- Only the thread of the last tick has an open run: every move keeps it, and what precedes the tick of the head closes all others.
use Rattle.std.proofs.Common.{Bool, List, None, Option, Some, [], ap, arith, false, inl, inr, refl, suc, sym, true, zero, ℕ, ◌∷◌, ◌≡◌, ◌⊎◌}
use Rattle.std.specs.Prelude.{map, nat_lt, option_map, ◌&&◌, ◌==◌}
use mathlib.Core.Path.{subst, ◌∙◌}
use Rattle.words_script.specs.declared.decl.Script.{Script}
use Rattle.words_script.specs.declared.policy.Policy.{Policy}
use Rattle.words_script.specs.declared.policy.Policy.TheVariants as policy
use Rattle.words_trace.specs.declared.event.Event.TheVariants as event
use Rattle.rules_server.specs.declared.Replenish.{Replenish}
use Rattle.rules_server.specs.declared.ServerKind.{ServerKind}
use Rattle.rules_server.specs.declared.ServerKind.TheVariants as kind
use Rattle.rules_server.specs.Server.{ServerState, activate, oldest_pending, plan, refill, refill_from, set_high}
use Rattle.rules_machine.specs.declared.dispatch.LastDispatch.TheVariants as last
use Rattle.rules_machine.specs.Lists.{changed_at, is}
use Rattle.rules_machine.specs.Bodies.{Bodies}
use Rattle.rules_machine.specs.State.{Machine, Thread, for_end, waits_to_join}
use Rattle.rules_machine.specs.Threads.{can_run, no_thread, thread_at, thread_in}
use Rattle.rules_machine.specs.Declarations.{ThreadDecl, threads_of}
use Rattle.rules_machine.specs.Turns.{Turn, changes, moves, moves_if, tells, turn_of}
use Rattle.rules_machine.specs.Servers.{activates_if, activates_server, amount_of, at_once, has_run, high_server, is_strict, plans_server, refills_server, regains_high, server_of, with_server}
use Rattle.rules_machine.specs.Waking.{ending_with, on_top, put_to_wait, started, woken}
use Rattle.rules_machine.specs.Lives.{with_joiner, without_life, without_top}
use Rattle.rules_machine.specs.Cancellation.{without_cleanup}
use Rattle.rules_machine.specs.Scheduling.{with_policy, with_priority}
use Rattle.rules_machine.specs.Dispatch.{dispatch_of, dispatches}
use Rattle.rules_machine.specs.Units.{in_unit}
use Rattle.rules_machine.specs.Ticks.{TickEnd, ends_tick, exhausting, nothing, planning, slicing, tick_charged, tick_end, without_slice}
use Rattle.rules_machine.specs.Runs.{opening, thread_opened, ticks}
use Rattle.rules_machine.specs.Throughout.{HoldsThroughout}
use Rattle.rules_machine.specs.WellFormed.{IsWellFormed}
use Rattle.rules_moves.specs.Moves.{Core, MayRenewing, Move, alters, begins, blocks_for, blocks_plainly, does, drops, ends_with, enters_frame, leaves_frame, lives_no_more, prices, pushed, pushes, recasts, refills_one, rejoins, renews_with, wakes_with}
use Rattle.rules_moves.specs.UnitRanges.{BodiesFit}
use Rattle.rules_moves.proofs.Waiters.OfThreads.{changed_is}
use Rattle.rules_moves.proofs.Runs.Preparing.{Closed, IsReady}
use Rattle.rules_moves.proofs.Runs.Ticks.{charged_turn, dispatched}
use Rattle.rules_moves.proofs.Runs.Since.{Rests, TickSince, items_keep, run_since}
use Rattle.rules_moves.proofs.Runs.Beside.{TickBeside, both}
use Rattle.laws_machine.specs.Rest.{RunsAreLatest}
use Rattle.laws_machine.proofs.Parts.Opening.{opening_listed}
use Rattle.laws_machine.proofs.Lists.Kept.{Placed, Placing, opening_placed, placed_tick}

-- ---- servers

-- what opens no run
abbrev OpensNone : (Option ServerState → Option ServerState) → Type 0
OpensNone f = (o : Option ServerState) → has_run (f o) ≡ true → has_run o ≡ true

activate_opens_none : (now : ℕ) → OpensNone (option_map (activate now))
activate_opens_none now None h = h
activate_opens_none now (Some s) h = h

high_opens_none : (p : ℕ) → OpensNone (option_map (set_high p))
high_opens_none p None h = h
high_opens_none p (Some s) h = h

refill_opens_none : OpensNone (option_map refill)
refill_opens_none None h = h
refill_opens_none (Some s) h = from s.pending h
  where
    from : (rs : List Replenish) → has_run (Some (refill_from rs s)) ≡ true → has_run (Some s) ≡ true
    from [] h = h
    from (r ∷ rs) h = h

nothing_used : (k : ServerKind) → (is_strict k && nat_lt 0 0) ≡ true → ⊥
nothing_used kind.Sporadic h = grind arith
nothing_used kind.Strict h = grind arith

plan_opens_none : OpensNone (option_map plan)
plan_opens_none None h = h
plan_opens_none (Some s) h = absurd (nothing_used s.kind h)

new_has_none : (p : Policy) (now : ℕ) → has_run (server_of p now) ≡ true → ⊥
new_has_none (policy.Fifo p) now h = grind arith
new_has_none (policy.Rr p) now h = grind arith
new_has_none (policy.Sporadic params) now h = grind arith
new_has_none (policy.Strict params) now h = grind arith

none_has_none : has_run None ≡ true → ⊥
none_has_none h = grind arith

module _ {P : Type 0} where
  -- one thread changes, and has no run where it had none
  one : (t : ℕ) (f : Thread P → Thread P) (s : Turn P) → (has_run (f (thread_at s.machine t)).server ≡ true → has_run (thread_at s.machine t).server ≡ true) →
      RunsAreLatest s.machine → RunsAreLatest (changes t f s).machine
  one t f s h q = record { each = λ u run. of_two u run (changed_is no_thread t u f s.machine.threads) }
    where
      of_two : (u : ℕ) → has_run (thread_at (changes t f s).machine u).server ≡ true →
          ((t ≡ u) × (thread_in (changed_at no_thread t f s.machine.threads) u ≡ f (thread_at s.machine t))) ⊎ (thread_in (changed_at no_thread t f s.machine.threads) u ≡ thread_at s.machine u) →
          s.machine.last ≡ last.Ran u
      of_two u run (inl k) =
          let now : has_run (f (thread_at s.machine t)).server ≡ true = sym (ap (λ (th : Thread P). has_run th.server) k.1) ∙ run in
          subst (λ (v : ℕ). s.machine.last ≡ last.Ran v) k.0 (q.each t (h now))
      of_two u run (inr k) = q.each u (sym (ap (λ (th : Thread P). has_run th.server) k) ∙ run)

  served : (g : ServerState → ServerState) → OpensNone (option_map g) → (t : ℕ) (s : Turn P) → RunsAreLatest s.machine → RunsAreLatest (changes t (with_server g) s).machine
  served g none t s q = one t (with_server g) s (none (thread_at s.machine t).server) q

  activated : (t : ℕ) (o : Option ServerState) (s : Turn P) → RunsAreLatest s.machine → RunsAreLatest (activates_server t o s).machine
  activated t None s q = q
  activated t (Some server) s q = record { each = (served (activate s.machine.now) (activate_opens_none s.machine.now) t s q).each }

  activated_if : (b : Bool) (t : ℕ) (s : Turn P) → RunsAreLatest s.machine → RunsAreLatest (activates_if b t s).machine
  activated_if true t s q = activated t (at_once (thread_at s.machine t).server) s q
  activated_if false t s q = q

  refilled : (t : ℕ) (o : Option ServerState) (s : Turn P) → RunsAreLatest s.machine → RunsAreLatest (refills_server t o s).machine
  refilled t None s q = q
  refilled t (Some server) s q =
      activated_if (regains_high server && can_run s.machine t) t (tells (event.Refill t (amount_of (oldest_pending server)) (refill server).capacity) (changes t (with_server refill) s)) (record { each = (served refill refill_opens_none t s q).each })

  planned : (t : ℕ) (o : Option ServerState) (s : Turn P) → RunsAreLatest s.machine → RunsAreLatest (plans_server t o s).machine
  planned t None s q = q
  planned t (Some server) s q = record { each = (served plan plan_opens_none t s q).each }

  moved : (b : Bool) (t : ℕ) (s : Turn P) → RunsAreLatest s.machine → RunsAreLatest (moves_if b t s).machine
  moved true t s q = record { each = q.each }
  moved false t s q = q

  -- its server is left as it is
  left : (t : ℕ) (f : Thread P → Thread P) (s : Turn P) → ((th : Thread P) → (f th).server ≡ th.server) → RunsAreLatest s.machine → RunsAreLatest (changes t f s).machine
  left t f s e q = one t f s (λ run. sym (ap has_run (e (thread_at s.machine t))) ∙ run) q

module _ {P : Type 0} (bodies : Bodies P) (who : Option ℕ) where
  latest_keep : (move : Move P) (s : Turn P) → MayRenewing who move s → RunsAreLatest s.machine → RunsAreLatest (does bodies move s).machine
  latest_keep (alters t f) s may q = left t f s (λ th. ap (λ (c : Core P). c.server) (may th)) q
  latest_keep (ends_with t v) s may q = left t (ending_with v) s (λ th. refl) q
  latest_keep (enters_frame t f) s may q = left t (on_top f) s (λ th. refl) q
  latest_keep (leaves_frame t) s may q = left t without_top s (λ th. refl) q
  latest_keep (pushes t u) s may q = left t (pushed u) s (λ th. refl) q
  latest_keep (drops t) s may q = left t without_cleanup s (λ th. refl) q
  latest_keep (prices t p) s may q = one t (with_priority p) s (high_opens_none p (thread_at s.machine t).server) q
  latest_keep (renews_with active t new) s may q =
      activated_if active t (changes t (with_policy new s.machine.now) s) (one t (with_policy new s.machine.now) s (λ run. absurd (new_has_none new s.machine.now run)) q)
  latest_keep (wakes_with t e r v) s may q =
      let up = tells e (moves t (changes t (woken r v) s)) in
      let k = left t (woken r v) s (λ th. refl) q in
      activated t (at_once (high_server (thread_at up.machine t).server)) up (record { each = k.each })
  latest_keep (blocks_for by wait due) s may q = record { each = (left by.thread (put_to_wait (record { wait = wait; serial = s.machine.next_serial; due = due; call = by.call })) s (λ th. refl) q).each }
  latest_keep (blocks_plainly by wait due) s may q = absurd may
  latest_keep (begins t mask) s may q =
      let up = tells (event.Start t) (moves t (changes t (started bodies t mask s.machine.now) s)) in
      let k = one t (started bodies t mask s.machine.now) s (λ run. absurd (new_has_none (thread_at s.machine t).policy s.machine.now run)) q in
      activated t (at_once (thread_at up.machine t).server) up (record { each = k.each })
  latest_keep (lives_no_more t) s may q = record { each = (one t without_life s (λ run. absurd (none_has_none run)) q).each }
  latest_keep (recasts t f) s may q = absurd may
  latest_keep (rejoins t j) s may q = left t (with_joiner j) s (λ th. refl) q
  latest_keep (refills_one t) s may q = refilled t (thread_at s.machine t).server s q
  latest_keep move s may q = record { each = q.each }

module _ {P : Type 0} (bodies : Bodies P) where
  -- ---- the tick's end

  ended : (e : TickEnd) (t : ℕ) (s : Turn P) → RunsAreLatest s.machine → RunsAreLatest (ends_tick e t s).machine
  ended planning t s q = planned t (thread_at s.machine t).server s q
  ended exhausting t s q = moved _ t _ (planned t (thread_at s.machine t).server (tells (event.Exhaust t) s) (record { each = q.each }))
  ended slicing t s q = moved (can_run s.machine t) t (changes t without_slice s) (left t without_slice s (λ th. refl) q)
  ended nothing t s q = q

  -- ---- the charge, of the thread that the processor was given to

  charges : (t : ℕ) (s : Turn P) → IsReady (Some t) s.machine → RunsAreLatest (charged_turn bodies t s).machine
  charges t s ready = record { each = λ u run. of_two u run (changed_is no_thread t u f s.machine.threads) (t == u) refl }
    where
      f : Thread P → Thread P
      f th = tick_charged (in_unit bodies (thread_at s.machine t)).thread

      other : (u : ℕ) → (t == u) ≡ false → has_run (thread_at s.machine u).server ≡ true → ⊥
      other u e run = let none = ready.closed u e in grind arith

      of_two : (u : ℕ) → has_run (thread_in (changed_at no_thread t f s.machine.threads) u).server ≡ true →
          ((t ≡ u) × (thread_in (changed_at no_thread t f s.machine.threads) u ≡ f (thread_at s.machine t))) ⊎ (thread_in (changed_at no_thread t f s.machine.threads) u ≡ thread_at s.machine u) →
          (b : Bool) → (t == u) ≡ b → s.machine.last ≡ last.Ran u
      of_two u run (inl k) b e = subst (λ (v : ℕ). s.machine.last ≡ last.Ran v) k.0 ready.sent
      of_two u run (inr k) true e = let same : t ≡ u = grind arith in subst (λ (v : ℕ). s.machine.last ≡ last.Ran v) same ready.sent
      of_two u run (inr k) false e = absurd (other u e (sym (ap (λ (th : Thread P). has_run th.server) k) ∙ run))

  -- ---- every run

  given : (to : Option ℕ) (s : Turn P) → Closed to s.machine → RunsAreLatest (dispatches to s).machine
  given to s off = subst RunsAreLatest (sym (dispatched to s)) (record { each = λ u run. by_head to refl u run })
    where
      by_head : (o : Option ℕ) → to ≡ o → (u : ℕ) → has_run (thread_at s.machine u).server ≡ true → dispatch_of to ≡ last.Ran u
      by_head None e u run = let none = off u (ap (λ (x : Option ℕ). is x u) e) in absurd (grind arith)
      by_head (Some t) e u run = by_same (t == u) refl
        where
          by_same : (b : Bool) → (t == u) ≡ b → dispatch_of to ≡ last.Ran u
          by_same true k = let same : t ≡ u = grind arith in ap dispatch_of e ∙ ap last.Ran same
          by_same false k = let none = off u (ap (λ (x : Option ℕ). is x u) e ∙ k) in absurd (grind arith)

  abbrev At : Bool → ℕ → Machine P → Turn P → Type 0
  At b t before s = RunsAreLatest s.machine

  latest_beside : TickBeside bodies Placed Placing (λ b t. Placing) (λ b t. Placing) (λ b t. Placed) RunsAreLatest (λ before s. RunsAreLatest s.machine) At At (λ b t. RunsAreLatest)
  latest_beside = record {
    opens = λ s still p q. q;
    moves = λ before move s may p q. latest_keep bodies None move s may q;
    settles = λ before s p q. record { each = q.each };
    prepares = record {
      closes = λ t s run q. planned t (thread_at s.machine t).server s q;
      sent = λ to s off q. given to s off;
      opens = λ t x s runs is may q. activated t (Some x) s q;
    };
    charges = λ t s still ready runs p q. charges t s ready;
    unit_moves = λ b t before move s may p q. latest_keep bodies (Some t) move s may q;
    unit_stops = λ b t before. record {
      done = λ s p q. q;
      sleeps = λ by wait due s runs may p q. record { each = (left by.thread (put_to_wait (record { wait = wait; serial = s.machine.next_serial; due = due; call = by.call })) s (λ th. refl) q).each };
      dozes = λ by wait due s runs may other p q. left by.thread (put_to_wait (record { wait = wait; serial = 0; due = due; call = by.call })) s (λ th. refl) q;
      joins = λ by u s runs other free p q. left by.thread (put_to_wait (record { wait = for_end u; serial = 0; due = None; call = by.call })) (changes u (with_joiner (waits_to_join by.thread)) s) (λ th. refl)
          (left u (with_joiner (waits_to_join by.thread)) s (λ th. refl) q);
    };
    unit_settles = λ b t before s p q. record { each = q.each };
    ends = λ b t s still p q. ended (tick_end b s.machine.quantum (thread_at s.machine t)) t s q;
    idles = λ s ready p q. record { each = λ u run. let none = ready.closed u refl in absurd (grind arith) };
  }

  abbrev Rest : Machine P → Type 0
  Rest m = Placed m × RunsAreLatest m

  abbrev Law : Machine P → Turn P → Type 0
  Law before s = Placing before s × RunsAreLatest s.machine

  abbrev End : Bool → ℕ → Machine P → Type 0
  End b t m = Placed m × RunsAreLatest m

  tick_latest : TickSince bodies Rest Law (λ b t. Law) (λ b t. Law) End
  tick_latest = both bodies Placed Placing (λ b t. Placing) (λ b t. Placing) (λ b t. Placed) RunsAreLatest (λ before s. RunsAreLatest s.machine) At At (λ b t. RunsAreLatest) (placed_tick bodies) latest_beside

-- ---- the opening

opened_run : (P : Type 0) (ds : List ThreadDecl) (t : ℕ) → has_run (thread_in (map (λ (d : ThreadDecl). thread_opened {P = P} d) ds) t).server ≡ true → ⊥
opened_run P [] t h = none_has_none h
opened_run P (d ∷ ds) zero h = none_has_none h
opened_run P (d ∷ ds) (suc t) h = opened_run P ds t h

module _ {P : Type 0} (bodies : Bodies P) (ranges : BodiesFit bodies) (script : Script) (fits : IsWellFormed script) where
  stands : (n : ℕ) → Rests bodies ranges (Rest bodies) (Law bodies) (λ b t. Law bodies) (λ b t. Law bodies) (End bodies) (tick_latest bodies) (turn_of (ticks bodies n (opening script)).machine)
  stands n =
      run_since bodies ranges (Rest bodies) (Law bodies) (λ b t. Law bodies) (λ b t. Law bodies) (End bodies) (tick_latest bodies) n (opening script) (opening_placed P script fits, record { each = λ u run. absurd (opened_run P (threads_of script) u run) }) (opening_listed P script)

  pub latest_throughout : HoldsThroughout bodies (opening script) RunsAreLatest
  latest_throughout = record {
    each = λ n k. (items_keep bodies ranges (Rest bodies) (Law bodies) (λ b t. Law bodies) (λ b t. Law bodies) (End bodies) (tick_latest bodies) k (turn_of (ticks bodies n (opening script)).machine) (stands n)).rest.1;
  }
