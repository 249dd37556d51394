-- The last tick of a leap: so many charges and then one ordinary tick are one charge of all of them, and then what an ordinary tick does
-- after its charge.
use Rattle.std.proofs.Common.{Bool, List, None, Option, Some, [], ap, arith, false, refl, suc, sym, true, zero, ℕ, ◌∷◌, ◌≡◌}
use Rattle.std.specs.Prelude.{is_some, not, option_map, ◌-◌, ◌&&◌, if◌then◌else◌}
use mathlib.Core.Path.{subst, ◌∙◌}
use Rattle.rules_lists.specs.Threads.{stands_in}
use Rattle.rules_bodies.specs.declared.unit.Unit.{Unit}
use Rattle.rules_bodies.specs.declared.unit.Unit.TheVariants as unit
use Rattle.rules_bodies.specs.Next.{ticks_of}
use Rattle.rules_server.specs.Server.{ServerState, charge_ticks, is_high}
use Rattle.rules_machine.specs.declared.dispatch.LastDispatch.TheVariants as last
use Rattle.rules_machine.specs.Bodies.{Bodies}
use Rattle.rules_machine.specs.State.{Frame, Machine, Thread}
use Rattle.rules_machine.specs.Threads.{can_run, thread_at, thread_numbers, top_left}
use Rattle.rules_machine.specs.Priorities.{exec}
use Rattle.rules_machine.specs.Settling.{Shift, left_runnable, settled, shift_between, shift_of, shifted, shifted_all, stayed}
use Rattle.rules_machine.specs.Turns.{Turn, settles_since, turn_of}
use Rattle.rules_machine.specs.Servers.{has_high}
use Rattle.rules_machine.specs.Delivery.{sweeps}
use Rattle.rules_machine.specs.Units.{Following, InUnit, advances, advancing, begins_finish, choice, cleaning_up, continuing, finishing, following, in_cleanup, in_unit, is_at_end, takes_unit}
use Rattle.rules_machine.specs.Ticks.{completes, completes_at, frames_charged, runs, runs_head, tick_ends, unit_ticked, unless_killed, prepares}
use Rattle.rules_machine.specs.Runs.{ran, tick_of}
use Rattle.rules_machine.specs.Eventful.{head_matters, unless_ended}
use Rattle.rules_machine.proofs.Reading.{thread-same}
use Rattle.rules_leaps.specs.Quiet.{after_ticks, head_after, server_after}
use Rattle.rules_leaps.specs.Leap.{leap_runs, unit_leapt}
use Rattle.laws_machine.proofs.Lists.Kept.{Plans, in_unit_plans}
use Rattle.rules_moves.proofs.Runs.Ticks.{charged_turn}
use Rattle.laws_leaps.proofs.Quiet.Ticks.{left_over}
use Rattle.rules_leaps.specs.Quiet.{after_quiet}
use Rattle.laws_leaps.proofs.Quiet.Charges.{charged_can_run, charged_exec}
use Rattle.laws_machine.proofs.Signals.Takers.{charge_of}
use Rattle.laws_leaps.proofs.Quiet.Once.{Begins, StaysHigh, begins_on, charges_once, matters_of, one_is, stays_high}
use Rattle.laws_leaps.proofs.Quiet.Prepared.{Begun, one_plain, plain_charges, prepares_nothing}
use Rattle.laws_leaps.proofs.Leaps.Calm.{Handled, tick_handled}
use Rattle.laws_leaps.proofs.Leaps.Bridge.{PlainCalm, fewer_plain}

-- ---- a settling goes by the priorities before it alone

module _ {P : Type 0} (before then' m : Machine P) (can : (u : ℕ) → can_run before u ≡ can_run then' u) (same : (u : ℕ) → exec before u ≡ exec then' u) where
  shift_same : (direct : List ℕ) (u : ℕ) → shift_of before direct m u ≡ shift_of then' direct m u
  shift_same direct u =
      ap (λ (b : Bool). if b && can_run m u && not (stands_in u direct) then shift_between (exec before u) (exec m u) else stayed) (can u)
      ∙ ap (λ (p : ℕ). if can_run then' u && can_run m u && not (stands_in u direct) then shift_between p (exec m u) else stayed) (same u)

  shifts_same : (direct us : List ℕ) (lists : List (List ℕ)) → shifted_all m (shift_of before direct m) us lists ≡ shifted_all m (shift_of then' direct m) us lists
  shifts_same direct [] lists = refl
  shifts_same direct (u ∷ us) lists =
      ap (λ (h : Shift). shifted_all m (shift_of before direct m) us (shifted h u (exec m u) lists)) (shift_same direct u)
      ∙ shifts_same direct us (shifted (shift_of then' direct m u) u (exec m u) lists)

  pub settled_same : settled before [] m ≡ settled then' [] m
  settled_same = ap (λ (lists : List (List ℕ)). record m { lists = lists }) (shifts_same [] (thread_numbers m) (left_runnable m))

module _ {P : Type 0} (bodies : Bodies P) where
  -- ---- a unit of several ticks is a run

  -- a unit that goes on
  in_unit_run : (th : Thread P) (l : ℕ) → top_left th.frames ≡ suc l → in_unit bodies th ≡ record { thread = th; unit = unit.Run (suc l) }
  in_unit_run th l e = ap (λ (n : ℕ). takes_unit bodies (choice n (is_at_end th) th.cleanups) th) e

  abbrev Run : Unit → Type 0
  Run x = (n : ℕ) × (x ≡ unit.Run n)

  run_of : (x : Unit) (l : ℕ) → ticks_of x - 1 ≡ suc l → Run x
  run_of (unit.Run n) l e = (n, refl)
  run_of (unit.Make call) l e = absurd (grind arith)
  run_of unit.Jump l e = absurd (grind arith)
  run_of unit.Finish l e = absurd (grind arith)

  no_left : (fs : List (Frame P)) (th : Thread P) (l : ℕ) → th.frames ≡ fs → top_left (frames_charged fs) ≡ 0 → top_left (frames_charged th.frames) ≡ suc l → ⊥
  no_left fs th l same none e = let e' : top_left (frames_charged fs) ≡ suc l = subst (λ (gs : List (Frame P)). top_left (frames_charged gs) ≡ suc l) same e in absurd (grind arith)

  long_next : (fs : List (Frame P)) (th : Thread P) (l : ℕ) → th.frames ≡ fs → top_left (frames_charged (advances bodies fs th).thread.frames) ≡ suc l → Run (advances bodies fs th).unit
  long_next [] th l same e = absurd (no_left [] th l same refl e)
  long_next (f ∷ fs) th l same e = run_of (advances bodies (f ∷ fs) th).unit l e

  long_finish : (fs : List (Frame P)) (th : Thread P) (l : ℕ) → th.frames ≡ fs → top_left (frames_charged (begins_finish fs th).thread.frames) ≡ suc l → Run (begins_finish fs th).unit
  long_finish [] th l same e = absurd (no_left [] th l same refl e)
  long_finish (f ∷ fs) th l same e = absurd (grind arith)

  long_run : (th : Thread P) (l : ℕ) → top_left (frames_charged (in_unit bodies th).thread.frames) ≡ suc l → Run (in_unit bodies th).unit
  long_run th l = by_case (following th)
    where
      by_case : (x : Following) → top_left (frames_charged (takes_unit bodies x th).thread.frames) ≡ suc l → Run (takes_unit bodies x th).unit
      by_case (continuing left) e = (left, refl)
      by_case advancing e = long_next th.frames th l refl e
      by_case (cleaning_up u) e = long_next (in_cleanup bodies u th).frames (in_cleanup bodies u th) l refl e
      by_case finishing e = long_finish th.frames th l refl e

  run_completes : (t : ℕ) (x : Unit) (s : Turn P) → Run x → completes bodies t x s ≡ s
  run_completes t x s r = ap (λ (x : Unit). completes bodies t x s) r.1 ∙ by_left (top_left (thread_at s.machine t).frames)
    where
      by_left : (n : ℕ) → completes_at bodies n t (unit.Run r.0) s ≡ s
      by_left zero = refl
      by_left (suc n) = refl

  -- ---- the head before the last tick

  -- what is left of the unit after a charge that does not matter
  pub left_at : (t : ℕ) (n : Machine P) → Begins bodies t n → unless_ended bodies n.killed n ≡ false → (l : ℕ) × (top_left (charge_of bodies (thread_at n t)).frames ≡ suc l)
  left_at t n b e = left_over (has_high (thread_at n t).server) n.quantum (charge_of bodies (thread_at n t)) (matters_of bodies t n b.alive b.first e)

  pub head_at : (t : ℕ) (n : Machine P) → Begins bodies t n → thread_at (one_plain bodies n) t ≡ charge_of bodies (thread_at n t)
  head_at t n b = ap (λ (x : Machine P). thread_at x t) (one_is bodies t n b.alive b.first) ∙ thread-same n t (λ th. charge_of bodies (thread_at n t)) b.here

  module _ (t : ℕ) (m : Machine P) (b : Begins bodies t m) where
    matters_at : (n : Machine P) → Begins bodies t n → unless_ended bodies n.killed n ≡ false → head_matters bodies (Some t) n ≡ false
    matters_at n on e = matters_of bodies t n on.alive on.first e

    charges_can : (j : ℕ) → PlainCalm bodies j m → (u : ℕ) → can_run (plain_charges bodies j m) u ≡ can_run m u
    charges_can zero c u = refl
    charges_can (suc j) c u =
        let at = plain_charges bodies j m in
        let on = begins_on bodies j t m b in
        ap (λ (n : Machine P). can_run n u) (one_is bodies t at on.alive on.first) ∙ charged_can_run bodies t (turn_of at) u ∙ charges_can j (fewer_plain bodies j m c) u

    charges_exec : (j : ℕ) → PlainCalm bodies j m → (u : ℕ) → exec (plain_charges bodies j m) u ≡ exec m u
    charges_exec zero c u = refl
    charges_exec (suc j) c u =
        let at = plain_charges bodies j m in
        let on = begins_on bodies j t m b in
        ap (λ (n : Machine P). exec n u) (one_is bodies t at on.alive on.first)
        ∙ charged_exec bodies t (turn_of at) (matters_at at on (c.quiet j (omega arith))) u
        ∙ charges_exec j (fewer_plain bodies j m c) u

    -- ---- the last tick

    abbrev taken : InUnit P
    taken = in_unit bodies (thread_at m t)

    abbrev given : Machine P
    given = record m { last = last.Ran t }

    module _ (j : ℕ) (c : PlainCalm bodies (suc j) m) where
      abbrev x : Machine P
      x = head_after bodies (suc j) t m

      abbrev all : Machine P
      all = head_after bodies (suc (suc j)) t m

      pub is_x : plain_charges bodies (suc j) m ≡ x
      is_x = charges_once bodies j t m b (λ i small. c.quiet i (omega arith))

      is_all : after_quiet bodies t x ≡ all
      is_all =
          sym (one_is bodies t x b.alive b.first) ∙ ap (one_plain bodies) (sym is_x) ∙ charges_once bodies (suc j) t m b c.quiet

      left_x : (l : ℕ) × (top_left (thread_at x t).frames ≡ suc l)
      left_x =
          let at = plain_charges bodies j m in
          let on = begins_on bodies j t m b in
          let l = left_at t at on (c.quiet j (omega arith)) in
          (l.0, ap (λ (n : Machine P). top_left (thread_at n t).frames) (sym is_x) ∙ ap (λ (th : Thread P). top_left th.frames) (head_at t at on) ∙ l.1)

      in_x : in_unit bodies (thread_at x t) ≡ record { thread = thread_at x t; unit = unit.Run (suc left_x.0) }
      in_x = in_unit_run (thread_at x t) left_x.0 left_x.1

      run_x : Run (in_unit bodies (thread_at x t)).unit
      run_x = (suc left_x.0, ap (λ (i : InUnit P). i.unit) in_x)

      run_m : Run taken.unit
      run_m = let l = left_at t m b (c.quiet 0 (omega arith)) in long_run (thread_at m t) l.0 l.1

      moves_same : settled x [] all ≡ settled given [] all
      moves_same =
          settled_same x given all
          (λ u. ap (λ (n : Machine P). can_run n u) (sym is_x) ∙ charges_can (suc j) c u)
          (λ u. ap (λ (n : Machine P). exec n u) (sym is_x) ∙ charges_exec (suc j) c u)

      abbrev last_unit : Turn P
      last_unit = unit_ticked bodies x t (in_unit bodies (thread_at x t)) (turn_of x)

      abbrev leapt_unit : Turn P
      leapt_unit = unit_leapt bodies (suc (suc j)) given t taken (turn_of given)

      units_same : last_unit ≡ leapt_unit
      units_same =
          ap (settles_since x) (run_completes t (in_unit bodies (thread_at x t)).unit (charged_turn bodies t (turn_of x)) run_x)
          ∙ ap (λ (n : Machine P). settles_since x (turn_of n)) is_all
          ∙ ap turn_of moves_same
          ∙ ap (settles_since given) (sym (run_completes t taken.unit (turn_of all) run_m))

      server_x : (thread_at x t).server ≡ option_map (server_after (suc j)) (thread_at m t).server
      server_x =
          ap (λ (th : Thread P). th.server) (thread-same m t (λ th. after_ticks (suc j) taken.thread) b.here)
          ∙ ap (λ (p : Plans). option_map (server_after (suc j)) p.server) (in_unit_plans bodies (thread_at m t))

      high_of : (o : Option ServerState) → StaysHigh (suc (suc j)) o → has_high (option_map (server_after (suc j)) o) ≡ has_high o
      high_of None e = refl
      high_of (Some s) e = by_high (is_high s) refl
        where
          by_high : (b : Bool) → is_high s ≡ b → has_high (Some (server_after (suc j) s)) ≡ has_high (Some s)
          by_high true k =
              ap (λ (b : Bool). has_high (Some (if b then charge_ticks (suc j) s else s))) k
              ∙ ap (λ (b : Bool). is_some (if b then Some (charge_ticks (suc j) s) else None)) (e k (suc j) (omega arith) ∙ sym k)
              ∙ whichever (is_high s)
            where
              whichever : (b : Bool) → is_some (if b then Some (charge_ticks (suc j) s) else None) ≡ is_some (if b then Some s else None)
              whichever true = refl
              whichever false = refl
          by_high false k = ap (λ (b : Bool). has_high (Some (if b then charge_ticks (suc j) s else s))) k

      pub high_same : has_high (thread_at x t).server ≡ has_high (thread_at m t).server
      high_same =
          ap has_high server_x
          ∙ high_of (thread_at m t).server (subst (λ (p : Plans). StaysHigh (suc (suc j)) p.server) (in_unit_plans bodies (thread_at m t)) (stays_high bodies (suc j) t m b c.quiet))

      -- the last tick, from so many charges, is the end of one leap of all of them
      pub last_is_leap : Handled bodies (plain_charges bodies (suc j) m) → Begun (Some t) (plain_charges bodies (suc j) m) → tick_of bodies (plain_charges bodies (suc j) m) ≡ ran (leap_runs bodies (suc (suc j)) (Some t) (turn_of given))
      last_is_leap hx begun =
          ap (tick_of bodies) is_x
          ∙ tick_handled bodies x (subst (Handled bodies) is_x hx)
          ∙ ap (λ (o : Option ℕ). ran (unless_killed o (runs_head bodies) (turn_of x))) b.alive
          ∙ ap (λ (o : Option ℕ). ran (runs bodies o (prepares o (turn_of x)))) b.first
          ∙ ap (λ (s : Turn P). ran (runs bodies (Some t) s)) (prepares_nothing (Some t) x (subst (Begun (Some t)) is_x begun))
          ∙ ap (λ (s : Turn P). ran (sweeps bodies (tick_ends (has_high (thread_at x t).server) t s))) units_same
          ∙ ap (λ (was_high : Bool). ran (sweeps bodies (tick_ends was_high t leapt_unit))) high_same
