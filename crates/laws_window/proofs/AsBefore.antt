-- A run without strict threads is what it was before there were any.
use Rattle.std.proofs.Common.{Bool, List, None, Option, Some, [], ap, arith, false, inl, inr, refl, suc, sym, true, zero, ℕ, ◌∷◌, ◌++◌, ◌≡◌, ◌⊎◌}
use Rattle.std.specs.Prelude.{not, ◌&&◌, if◌then◌else◌}
use mathlib.Core.Path.{subst, ◌∙◌}
use Rattle.words_numbers.specs.declared.res.Res.{Res}
use Rattle.words_numbers.specs.declared.res.Res.TheVariants as res
use Rattle.words_script.specs.declared.call.Call.TheVariants as call
use Rattle.words_script.specs.declared.policy.Policy.{Policy}
use Rattle.words_script.specs.declared.policy.Policy.TheVariants as policy
use Rattle.rules_bodies.specs.declared.unit.Unit.{Unit}
use Rattle.rules_bodies.specs.declared.unit.Unit.TheVariants as unit
use Rattle.words_trace.specs.declared.event.Event.TheVariants as event
use Rattle.rules_server.specs.Server.{ServerState, activate, oldest_pending, plan, refill}
use Rattle.rules_machine.specs.Lists.{changed_at}
use Rattle.rules_machine.specs.Bodies.{Bodies}
use Rattle.rules_machine.specs.State.{Frame, Machine, Thread, for_end, waits_to_join}
use Rattle.rules_machine.specs.Threads.{can_run, lives, no_thread, thread_at, thread_in, thread_numbers, top_left}
use Rattle.rules_machine.specs.Turns.{Caller, Turn, answered, changes, moves, moves_if, returns, settles_since, tells, turn_of}
use Rattle.rules_machine.specs.Servers.{activates_if, activates_server, amount_of, at_once, high_server, is_strict, plans_server, refills_server, regains_high, with_server, has_high}
use Rattle.rules_machine.specs.Mutexes.{owns_boosting}
use Rattle.rules_machine.specs.Settling.{settled}
use Rattle.rules_machine.specs.Waking.{ending_with, on_top, put_to_wait, started, woken}
use Rattle.rules_machine.specs.Lives.{with_joiner, without_life, without_top}
use Rattle.rules_machine.specs.Cancellation.{without_cleanup}
use Rattle.rules_machine.specs.Scheduling.{at_priority, with_policy, with_priority}
use Rattle.rules_machine.specs.Calls.{unit_effect}
use Rattle.rules_machine.specs.DueItems.{instant}
use Rattle.rules_machine.specs.Dispatch.{head}
use Rattle.rules_machine.specs.GoodState.{HasParameters}
use Rattle.rules_machine.specs.Ticks.{runs_head, unless_killed, TickEnd, completes_at, ends_tick, exhausting, nothing, planning, prepares, runs, slicing, tick_charged, tick_end, without_slice}
use Rattle.rules_machine.specs.Runs.{Ran, follow, ran, tick_of, ticks}
use Rattle.rules_moves.specs.Moves.{Core, KeepsAwake, Stops, alters, begins, blocks_for, blocks_plainly, drops, ends_with, enters_frame, leaves_frame, lives_no_more, prices, pushed, pushes, recasts, refills_one, rejoins, renews_with, wakes_with}
use Rattle.rules_moves.specs.UnitRanges.{BodiesFit, UnitFits}
use Rattle.rules_moves.proofs.Waiters.OfThreads.{changed_is}
use Rattle.rules_moves.proofs.Runs.Ticks.{Rests, RoundKeeps, instant_keep, charged_runs, charged_turn, completes_keep, dispatched}
use Rattle.rules_moves.proofs.Runs.Listed.{AllRun, head_can_run}
use Rattle.laws_machine.proofs.Servers.Ticks.{ServedDone, ServedMid, ServedRight, served_tick}
use Rattle.laws_window.specs.Before.{AreBodiesPlain, AreThreadsPlain, IsPlainUnit, RunsAsBefore, is_strict_policy, runs_head_before, tick_before, ticks_before}
use Rattle.laws_window.proofs.Versions.{NoneStrict, is_strict_server, runs_head_as_before}
use Rattle.rules_machine.specs.Delivery.{sweeps, sweeps_all}
use Rattle.rules_machine.specs.Units.{Following, advances, advancing, begins_finish, cleaning_up, continuing, finishing, following, in_cleanup, in_unit, takes_unit}
use Rattle.rules_machine.specs.Budget.{renews}
use Rattle.rules_moves.proofs.Calls.Table.{sweeps_all_keep, unit_keep}
use Rattle.rules_moves.proofs.Runs.Units.{in_unit_fits}
use Rattle.rules_moves.proofs.Runs.Preparing.{Alike, IsReady, PreparingKeeps, alike_runs, prepared, prepares_keep}
use Rattle.laws_machine.proofs.Parts.Kept.{PartsRight, elsewhere, ends_keep, parts_keep, parts_stop}
use Rattle.laws_machine.proofs.Servers.Units.{kept_in_unit}

plain_priced : (n : ℕ) (p : Policy) → is_strict_policy (at_priority n p) ≡ is_strict_policy p
plain_priced n (policy.Fifo p) = refl
plain_priced n (policy.Rr p) = refl
plain_priced n (policy.Sporadic params) = refl
plain_priced n (policy.Strict params) = refl

plain_server : (p : Policy) (o : Option ServerState) → HasParameters p o → is_strict_policy p ≡ false → is_strict_server o ≡ false
plain_server p None h e = refl
plain_server (policy.Fifo p) (Some s) h e = absurd (grind arith)
plain_server (policy.Rr p) (Some s) h e = absurd (grind arith)
plain_server (policy.Sporadic params) (Some s) h e = ap is_strict h.1
plain_server (policy.Strict params) (Some s) h e = absurd (grind arith)

module _ {P : Type 0} where
  abbrev Plain : Turn P → Type 0
  Plain s = AreThreadsPlain s.machine

  one : (v : ℕ) (f : Thread P → Thread P) (s : Turn P) → (is_strict_policy (thread_at s.machine v).policy ≡ false → is_strict_policy (f (thread_at s.machine v)).policy ≡ false) → Plain s → Plain (changes v f s)
  one v f s h q u = of_two (changed_is no_thread v u f s.machine.threads)
    where
      of_two : ((v ≡ u) × (thread_in (changed_at no_thread v f s.machine.threads) u ≡ f (thread_at s.machine v))) ⊎ (thread_in (changed_at no_thread v f s.machine.threads) u ≡ thread_at s.machine u) → is_strict_policy (thread_at (changes v f s).machine u).policy ≡ false
      of_two (inl e) = ap (λ (th : Thread P). is_strict_policy th.policy) e.1 ∙ h (q v)
      of_two (inr e) = ap (λ (th : Thread P). is_strict_policy th.policy) e ∙ q u

  activated : (v : ℕ) (o : Option ServerState) (s : Turn P) → Plain s → Plain (activates_server v o s)
  activated v None s q = q
  activated v (Some x) s q = one v (with_server (activate s.machine.now)) s (λ e. e) q

  activated_if : (b : Bool) (v : ℕ) (s : Turn P) → Plain s → Plain (activates_if b v s)
  activated_if true v s q = activated v (at_once (thread_at s.machine v).server) s q
  activated_if false v s q = q

  refilled : (v : ℕ) (o : Option ServerState) (s : Turn P) → Plain s → Plain (refills_server v o s)
  refilled v None s q = q
  refilled v (Some y) s q = activated_if (regains_high y && can_run s.machine v) v (tells (event.Refill v (amount_of (oldest_pending y)) (refill y).capacity) (changes v (with_server refill) s)) (one v (with_server refill) s (λ e. e) q)

  -- the items of an instant: no thread has a new policy in them
  plain_moves : (bodies : Bodies P) (who : Option ℕ) → KeepsAwake bodies who Plain
  plain_moves bodies who (alters v f) s may q = one v f s (λ e. ap (λ (c : Core P). is_strict_policy c.policy) (may (thread_at s.machine v)) ∙ e) q
  plain_moves bodies who (ends_with v n) s may q = one v (ending_with n) s (λ e. e) q
  plain_moves bodies who (enters_frame v f) s may q = one v (on_top f) s (λ e. e) q
  plain_moves bodies who (leaves_frame v) s may q = one v without_top s (λ e. e) q
  plain_moves bodies who (pushes v u) s may q = one v (pushed u) s (λ e. e) q
  plain_moves bodies who (drops v) s may q = one v without_cleanup s (λ e. e) q
  plain_moves bodies who (prices v n) s may q = one v (with_priority n) s (λ e. plain_priced n (thread_at s.machine v).policy ∙ e) q
  plain_moves bodies who (renews_with active v new) s may q = absurd may
  plain_moves bodies who (wakes_with v e r n) s may q =
      let up = tells e (moves v (changes v (woken r n) s)) in activated v (at_once (high_server (thread_at up.machine v).server)) up (one v (woken r n) s (λ e. e) q)
  plain_moves bodies who (blocks_for by wait due) s may q = one by.thread (put_to_wait (record { wait = wait; serial = s.machine.next_serial; due = due; call = by.call })) s (λ e. e) q
  plain_moves bodies who (blocks_plainly by wait due) s may q = absurd may
  plain_moves bodies who (begins v mask) s may q =
      let up = tells (event.Start v) (moves v (changes v (started bodies v mask s.machine.now) s)) in activated v (at_once (thread_at up.machine v).server) up (one v (started bodies v mask s.machine.now) s (λ e. e) q)
  plain_moves bodies who (lives_no_more v) s may q = one v without_life s (λ e. e) q
  plain_moves bodies who (recasts v f) s may q = absurd may
  plain_moves bodies who (rejoins v j) s may q = one v (with_joiner j) s (λ e. e) q
  plain_moves bodies who (refills_one v) s may q = refilled v (thread_at s.machine v).server s q
  plain_moves bodies who move s may q = q

-- ---- a tick

module _ {P : Type 0} (bodies : Bodies P) (known : BodiesFit bodies) (plain : AreBodiesPlain bodies) where
  advances_plain : (fs : List (Frame P)) (th : Thread P) → IsPlainUnit (advances bodies fs th).unit
  advances_plain [] th = refl
  advances_plain (f ∷ fs) th = plain f.body f.place (record { register = f.register; result = f.result; value = f.value })

  finish_plain : (fs : List (Frame P)) (th : Thread P) → IsPlainUnit (begins_finish fs th).unit
  finish_plain [] th = refl
  finish_plain (f ∷ fs) th = refl

  taken_plain : (th : Thread P) → IsPlainUnit (in_unit bodies th).unit
  taken_plain th = by_case (following th)
    where
      by_case : (x : Following) → IsPlainUnit (takes_unit bodies x th).unit
      by_case (continuing left) = refl
      by_case advancing = advances_plain th.frames th
      by_case (cleaning_up u) = advances_plain (in_cleanup bodies u th).frames (in_cleanup bodies u th)
      by_case finishing = finish_plain th.frames th

  abbrev Under : Turn P → Type 0
  Under s = PartsRight s.machine × Plain s

  under_moves : (u : ℕ) → KeepsAwake bodies (Some u) Under
  under_moves u move s may q = (parts_keep bodies (Some u) move s may q.0, plain_moves bodies (Some u) move s may q.1)

  under_stops : (u : ℕ) → Stops (Some u) Under Under
  under_stops u = let parts = parts_stop bodies (Some u) in record {
    done = λ s q. q;
    renewable = λ v. false;
    renewing = λ active v new s may live e fits q. absurd (grind arith);
    sleeps = λ by wait due s runs may q. (parts.sleeps by wait due s runs may q.0, one by.thread (put_to_wait (record { wait = wait; serial = s.machine.next_serial; due = due; call = by.call })) s (λ e. e) q.1);
    dozes = λ by wait due s runs may other q. (parts.dozes by wait due s runs may other q.0, one by.thread (put_to_wait (record { wait = wait; serial = 0; due = due; call = by.call })) s (λ e. e) q.1);
    joins = λ by v s runs other free q.
        (parts.joins by v s runs other free q.0, one by.thread (put_to_wait (record { wait = for_end v; serial = 0; due = None; call = by.call })) (changes v (with_joiner (waits_to_join by.thread)) s) (λ e. e) (one v (with_joiner (waits_to_join by.thread)) s (λ e. e) q.1));
  }

  moved : (b : Bool) (v : ℕ) (s : Turn P) → Plain s → Plain (moves_if b v s)
  moved true v s q = q
  moved false v s q = q

  planned : (v : ℕ) (o : Option ServerState) (s : Turn P) → Plain s → Plain (plans_server v o s)
  planned v None s q = q
  planned v (Some x) s q = one v (with_server plan) s (λ e. e) q

  ended_plain : (e : TickEnd) (v : ℕ) (s : Turn P) → Plain s → Plain (ends_tick e v s)
  ended_plain planning v s q = planned v (thread_at s.machine v).server s q
  ended_plain exhausting v s q = moved _ v (plans_server v (thread_at s.machine v).server (tells (event.Exhaust v) s)) (planned v (thread_at s.machine v).server (tells (event.Exhaust v) s) q)
  ended_plain slicing v s q = moved (can_run s.machine v) v (changes v without_slice s) (one v without_slice s (λ e. e) q)
  ended_plain nothing v s q = q

  -- a setsched that is not strict
  sets_plain : (u v : ℕ) (new : Policy) (s : Turn P) → is_strict_policy new ≡ false → Plain s → Plain (unit_effect bodies u (unit.Make (call.Setsched v new)) s)
  sets_plain u v new s e q = by_life (lives s.machine v)
    where
      told : (r : Res) → Plain (returns (record { thread = u; call = call.Setsched v new }) r 0 s)
      told r = one u (answered r 0) s (λ e. e) q

      by_life : (b : Bool) → Plain (if b then
          moves_if (not (owns_boosting (activates_if (can_run s.machine v) v (changes v (with_policy new s.machine.now) (returns (record { thread = u; call = call.Setsched v new }) res.Zero 0 s))).machine v)) v
          (activates_if (can_run s.machine v) v (changes v (with_policy new s.machine.now) (returns (record { thread = u; call = call.Setsched v new }) res.Zero 0 s)))
          else returns (record { thread = u; call = call.Setsched v new }) res.Srch 0 s)
      by_life true =
          let by : Caller = record { thread = u; call = call.Setsched v new } in
          moved (not (owns_boosting (activates_if (can_run s.machine v) v (changes v (with_policy new s.machine.now) (returns by res.Zero 0 s))).machine v)) v
          (activates_if (can_run s.machine v) v (changes v (with_policy new s.machine.now) (returns by res.Zero 0 s)))
          (activated_if (can_run s.machine v) v (changes v (with_policy new s.machine.now) (returns by res.Zero 0 s)) (one v (with_policy new s.machine.now) (returns by res.Zero 0 s) (λ k. e) (told res.Zero)))
      by_life false = told res.Srch

  keep_unit : (u : ℕ) (what : Unit) (s : Turn P) → UnitFits what → can_run s.machine u ≡ true → ((v : ℕ) → renews v what ≡ false) → Under s → Under (unit_effect bodies u what s)
  unfolding under_stops
  keep_unit u what s fits can none q = unit_keep bodies (Some u) Under Under (under_moves u) (under_stops u) (λ s q. q.0.joiners) u what s fits (can, refl) (λ v e. absurd (not_both (none v) e)) q
    where
      not_both : {b : Bool} → b ≡ false → b ≡ true → ⊥
      not_both p r = grind arith

  unit_plain : (u : ℕ) (what : Unit) (s : Turn P) → UnitFits what → IsPlainUnit what → can_run s.machine u ≡ true → PartsRight (unit_effect bodies u what s).machine → Under s → Under (unit_effect bodies u what s)
  unit_plain u (unit.Make (call.Setsched v new)) s fits is can parts q = (parts, sets_plain u v new s is q.1)
  unit_plain u what s fits is can parts q = keep_unit u what s fits can (λ v. refl) q

  completes_plain : (u left : ℕ) (what : Unit) (s : Turn P) → UnitFits what → IsPlainUnit what → can_run s.machine u ≡ true → PartsRight (completes_at bodies left u what s).machine → Under s → Under (completes_at bodies left u what s)
  completes_plain u zero what s fits is can parts q = unit_plain u what s fits is can parts q
  completes_plain u (suc left) what s fits is can parts q = q

  charged_plain : (u : ℕ) (s : Turn P) → Plain s → Plain (charged_turn bodies u s)
  charged_plain u s q = one u (λ th. tick_charged (in_unit bodies (thread_at s.machine u)).thread) s (λ e. ap is_strict_policy (kept_in_unit bodies (λ (th : Thread P). th.policy) (λ fs th. refl) (λ th. refl) (thread_at s.machine u)) ∙ e) q

  settled_under : (from : Machine P) (s : Turn P) → Under s → Under (settles_since from s)
  settled_under from s q = (elsewhere s.machine s.machine.now s.machine.last (settled from s.direct s.machine).lists q.0, q.1)

  swept_under : (u : ℕ) (s : Turn P) → Under s → Under (sweeps bodies s)
  swept_under u s q = settled_under s.machine (sweeps_all bodies (thread_numbers s.machine) s) (sweeps_all_keep bodies (Some u) Under Under (under_moves u) (under_stops u) (λ s q. q.0.joiners) (thread_numbers s.machine) s q)

  runs_plain : (u : ℕ) (s : Turn P) → IsReady (Some u) s.machine → can_run s.machine u ≡ true → ServedRight bodies s × Plain s → Plain (runs bodies (Some u) s)
  runs_plain u s ready can q =
      let charged = charged_turn bodies u s in
      let was_high = has_high (thread_at s.machine u).server in
      let taken = in_unit bodies (thread_at s.machine u) in
      let left = top_left (thread_at charged.machine u).frames in
      let completed = completes_at bodies left u taken.unit charged in
      let ticked = settles_since s.machine completed in
      let fits = in_unit_fits bodies known (thread_at s.machine u) in
      let mid = (served_tick bodies).charges u s ready can q.0 in
      let done : ServedDone bodies was_high u completed = completes_keep bodies known (ServedRight bodies) (ServedMid bodies) (ServedDone bodies) (served_tick bodies) was_high left u taken.unit charged fits (charged_runs bodies u s can) mid in
      let after : Under completed = completes_plain u left taken.unit charged fits (taken_plain (thread_at s.machine u)) (charged_runs bodies u s can) done.0 (mid.0, charged_plain u s q.1) in
      let e = tick_end was_high ticked.machine.quantum (thread_at ticked.machine u) in
      let settled' : Under ticked = settled_under s.machine completed after in
      let ended' : Under (ends_tick e u ticked) = (ends_keep bodies None e u ticked settled'.0, ended_plain e u ticked settled'.1) in
      (swept_under u (settles_since ticked.machine (ends_tick e u ticked)) (settled_under ticked.machine (ends_tick e u ticked) ended')).1

  abbrev Waiting' : Turn P → Type 0
  Waiting' s = ServedRight bodies s × Plain s

  round : RoundKeeps bodies Waiting'
  round = let served = served_tick bodies in record {
    moves = λ move s may q. (served.moves move s may q.0, plain_moves bodies None move s may q.1);
    joined = λ s q. served.joined s q.0;
    settles = λ from s q. (served.settles from s q.0, q.1);
  }

  preparing : PreparingKeeps Waiting'
  preparing = let served = served_tick bodies in record {
    closes = λ v s run q. (served.prepares.closes v s run q.0, planned v (thread_at s.machine v).server s q.1);
    sent = λ to s off q. (served.prepares.sent to s off q.0, subst AreThreadsPlain (sym (dispatched to s)) q.1);
    opens = λ v x s runs is may q. (served.prepares.opens v x s runs is may q.0, activated v (Some x) s q.1);
  }

  head_plain : (o : Option ℕ) (s : Turn P) → head s.machine ≡ o → AllRun s.machine s.machine.lists → Waiting' s → Plain (runs bodies o (prepares o s))
  head_plain o s e listed q = by_head o e (prepares_keep Waiting' preparing o s (λ u f. head_can_run s.machine u listed (e ∙ f)) q)
    where
      by_head : (o : Option ℕ) → head s.machine ≡ o → Waiting' (prepares o s) × Alike s.machine (prepares o s).machine × ((prepares o s).direct ≡ s.direct) → Plain (runs bodies o (prepares o s))
      by_head None e k = k.0.1
      by_head (Some u) e k = runs_plain u (prepares (Some u) s) (prepared (Some u) s) (alike_runs s.machine (prepares (Some u) s).machine u k.1 (head_can_run s.machine u listed e)) k.0

  record Same (m : Machine P) : Type 0 where
    tick : tick_of bodies m ≡ ran (tick_before bodies (turn_of m))
    plainly : AreThreadsPlain (tick_of bodies m).machine

  one_same : (m : Machine P) → ServedRight bodies (turn_of m) → AllRun m m.lists → AreThreadsPlain m → Same m
  one_same m right listed q = by_killed (instant bodies (turn_of m)).machine.killed refl (instant_keep bodies Waiting' round (turn_of m) ((right, q), listed))
    where
      ready : Turn P
      ready = instant bodies (turn_of m)

      none_strict : (s : Turn P) → Waiting' s → NoneStrict s.machine
      none_strict s w u = plain_server (thread_at s.machine u).policy (thread_at s.machine u).server (w.0.1 u).parameters (w.1 u)

      by_killed : (k : Option ℕ) → (instant bodies (turn_of m)).machine.killed ≡ k → Rests bodies Waiting' (instant bodies (turn_of m)) → Same m
      by_killed (Some signal) e r = record {
        tick = ap (λ (k : Option ℕ). ran (unless_killed k (runs_head bodies) (instant bodies (turn_of m)))) e ∙ sym (ap (λ (k : Option ℕ). ran (unless_killed k (runs_head_before bodies) (instant bodies (turn_of m)))) e);
        plainly = subst (λ (x : Machine P). AreThreadsPlain x) (sym (ap (λ (k : Option ℕ). (unless_killed k (runs_head bodies) (instant bodies (turn_of m))).machine) e)) r.0.1;
      }
      by_killed None e r = record {
        tick = ap (λ (k : Option ℕ). ran (unless_killed k (runs_head bodies) (instant bodies (turn_of m)))) e
            ∙ ap ran (runs_head_as_before bodies (instant bodies (turn_of m)) (none_strict (instant bodies (turn_of m)) r.0))
            ∙ sym (ap (λ (k : Option ℕ). ran (unless_killed k (runs_head_before bodies) (instant bodies (turn_of m)))) e);
        plainly = subst (λ (x : Machine P). AreThreadsPlain x) (sym (ap (λ (k : Option ℕ). (unless_killed k (runs_head bodies) (instant bodies (turn_of m))).machine) e))
            (head_plain (head (instant bodies (turn_of m)).machine) (instant bodies (turn_of m)) refl r.1 r.0);
      }

  -- ---- a run

  module _ (start : Machine P) (stands : (n : ℕ) → ServedRight bodies (turn_of (ticks bodies n start).machine) × AllRun (ticks bodies n start).machine (ticks bodies n start).machine.lists) (first : AreThreadsPlain start) where
    plain_at : (n : ℕ) → AreThreadsPlain (ticks bodies n start).machine
    plain_at zero = first
    plain_at (suc n) = let s = stands n in (one_same (ticks bodies n start).machine s.0 s.1 (plain_at n)).plainly

    same_at : (n : ℕ) → ticks bodies n start ≡ ticks_before bodies n start
    same_at zero = refl
    same_at (suc n) =
        let s = stands n in
        let m = (ticks bodies n start).machine in
        ap (λ (r : Ran P). record { machine = r.machine; events = (ticks bodies n start).events ++ r.events }) (one_same m s.0 s.1 (plain_at n)).tick
        ∙ ap (λ (r : Ran P). follow r (λ x. ran (tick_before bodies (turn_of x)))) (same_at n)

    pub runs_as_before : RunsAsBefore bodies start
    runs_as_before = record { each = same_at }
