-- The account of a sporadic thread over the run of a script without a setsched step: no rule is broken, and at the end its numbers are
-- those that are told.
use Rattle.std.proofs.Common.{Bool, List, None, Option, Some, [], ap, arith, false, refl, suc, sym, true, zero, ℕ, ◌+◌, ◌≤◌, ◌∷◌, ◌++◌, ◌≡◌}
use Rattle.std.specs.Prelude.{is_some, map, not, ◌&&◌, ◌||◌}
use mathlib.Core.Path.{subst, ◌∙◌}
use Rattle.words_numbers.specs.Parameters.{Parameters}
use Rattle.words_script.specs.declared.call.Call.{Call}
use Rattle.words_script.specs.declared.call.Call.TheVariants as call
use Rattle.words_script.specs.declared.decl.Script.{Script}
use Rattle.words_script.specs.declared.policy.Policy.TheVariants as policy
use Rattle.rules_bodies.specs.Next.{Place}
use Rattle.rules_bodies.specs.declared.unit.Unit.{Unit}
use Rattle.rules_bodies.specs.declared.unit.Unit.TheVariants as unit
use Rattle.words_trace.specs.Text.{Entry}
use Rattle.rules_server.specs.Server.{ServerState}
use Rattle.rules_machine.specs.Bodies.{Bodies}
use Rattle.rules_machine.specs.Declarations.{ThreadDecl, threads_of}
use Rattle.rules_machine.specs.State.{Machine, Thread}
use Rattle.rules_machine.specs.Threads.{is_dormant, is_live, thread_at, thread_in}
use Rattle.rules_machine.specs.Turns.{Turn, turn_of}
use Rattle.rules_machine.specs.Ticks.{tick}
use Rattle.rules_machine.specs.Runs.{opening, thread_opened, tick_of, ticks}
use Rattle.rules_machine.specs.Machine.{bodies_of, events, machine}
use Rattle.rules_machine.specs.GoodState.{has_server_policy}
use Rattle.rules_machine.specs.WellFormed.{IsWellFormed}
use Rattle.rules_moves.specs.UnitRanges.{BodiesFit}
use Rattle.rules_moves.proofs.Runs.Listed.{AllRun}
use Rattle.rules_moves.proofs.Runs.Units.{bodies_fit}
use Rattle.rules_moves.proofs.Runs.Ticks.{run_keep}
use Rattle.laws_machine.proofs.Parts.Opening.{opening_listed}
use Rattle.laws_machine.proofs.Servers.Kept.{opened_server, opening_served}
use Rattle.laws_machine.proofs.Servers.Ticks.{ServedDone, ServedMid, ServedRight, served_tick}
use Rattle.tool_audit.specs.declared.server.Limits.{Limits}
use Rattle.tool_audit.specs.Marks.{Mark, nothing}
use Rattle.tool_audit.specs.Replay as replay
use Rattle.tool_audit.specs.Replay.{Account, Rising, advanced, breaks, broken_now, keeps_all, opened, replayed}
use Rattle.laws_audit.specs.Events.{is_end_event, marks_by}
use Rattle.laws_audit.specs.Calm.{BodiesCalm, CallCalm, HasNoSetsched, UnitCalm}
use Rattle.laws_audit.proofs.Standing.{any_both, has_end, keeps_more, replayed_more, rising_both, rising_more}
use Rattle.laws_audit.proofs.Accounts.{IsLimit, plain_kept}
use Rattle.laws_audit.proofs.AccountFits.{is_ended}
use Rattle.laws_audit.proofs.Units.{Rested}
use Rattle.laws_audit.proofs.Calm.{bodies_calm}
use Rattle.laws_audit.proofs.Kept.{AreCalm, IsCalm, tick_rested}

-- ---- a step that is no setsched renews nothing

call_calm : (c : Call) → CallCalm c → IsCalm (unit.Make c)
call_calm (call.Setsched u new) h = absurd h
call_calm c h = λ v. refl

unit_calm : (u : Unit) → UnitCalm u → IsCalm u
unit_calm (unit.Make c) h = call_calm c h
unit_calm u h = λ v. refl

pub are_calm : {P : Type 0} (bodies : Bodies P) → BodiesCalm bodies → AreCalm bodies
are_calm {P} bodies calm body place seen = unit_calm (bodies.next body place seen).unit (calm body place seen)

-- ---- a run

module _ {P : Type 0} (bodies : Bodies P) (known : BodiesFit bodies) (calm : AreCalm bodies) (t : ℕ) (lim : Limits) where
  -- after these events
  abbrev pub account_of : List Entry → Account
  account_of es = replayed lim opened (marks_by t es)

  -- the events broke no rule, and the account agrees with the machine
  pub record Audited (es : List Entry) (m : Machine P) : Type 0 where
    pub kept : keeps_all lim opened (marks_by t es) ≡ true
    pub rising : Rising lim opened (marks_by t es)
    pub unended : has_end es ≡ false
    pub rested : Rested bodies t lim (account_of es) (turn_of m)

  map_more : (es fs : List Entry) → marks_by t (es ++ fs) ≡ marks_by t es ++ marks_by t fs
  map_more [] fs = refl
  map_more (e ∷ es) fs = ap (λ (ms : List Mark). Rattle.laws_audit.specs.Events.mark_by t e ∷ ms) (map_more es fs)

  turned : (es : List Entry) (x : Turn P) → keeps_all lim opened (marks_by t es) ≡ true → Rising lim opened (marks_by t es) → has_end es ≡ false → Rested bodies t lim (account_of es) x → Audited (es ++ x.events) x.machine
  turned es x kept up unended q =
      let h = q.1.1 in
      let more = map_more es x.events in
      let same : account_of (es ++ x.events) ≡ replayed lim (account_of es) (marks_by t x.events) = ap (replayed lim opened) more ∙ replayed_more lim opened (marks_by t es) (marks_by t x.events) in
      record {
        kept = ap (keeps_all lim opened) more ∙ keeps_more lim opened (marks_by t es) (marks_by t x.events) ∙ ap (λ (c : Bool). c && keeps_all lim (account_of es) (marks_by t x.events)) kept ∙ h.kept;
        rested = (
          q.0,
          (
            q.1.0,
            record {
              kept = refl;
              early = subst (λ (b : Account). b.now ≤ x.machine.now) (sym same) h.early;
              is = ap (advanced lim x.machine.now) same ∙ h.is;
              has = h.has;
              rising = tt;
              unended = refl;
            },
            q.1.2,
          ),
        );
        rising = subst (Rising lim opened) (sym more) (rising_both lim opened (marks_by t es) (marks_by t x.events) up h.rising);
        unended = any_both (λ (e : Entry). is_end_event e.event) es x.events ∙ ap (λ (c : Bool). c || has_end x.events) unended ∙ h.unended;
      }

  -- one tick more
  pub ticked : (es : List Entry) (m : Machine P) → ServedRight bodies (turn_of m) → AllRun m m.lists → Audited es m → Audited (es ++ (tick_of bodies m).events) (tick_of bodies m).machine
  ticked es m right listed h = turned es (tick bodies (turn_of m)) h.kept h.rising h.unended (tick_rested bodies known calm t lim (account_of es) (turn_of m) ((right, h.rested), listed))

  pub run_audited : (n : ℕ) (start : Machine P) → ServedRight bodies (turn_of start) → AllRun start start.lists → Audited [] start → Audited (ticks bodies n start).events (ticks bodies n start).machine
  run_audited zero start right listed h = h
  run_audited (suc n) start right listed h =
      let so = run_keep bodies known (λ m. ServedRight bodies (turn_of m)) (ServedMid bodies) (ServedDone bodies) (served_tick bodies) n start right listed in
      ticked (ticks bodies n start).events (ticks bodies n start).machine so.0 so.1 (run_audited n start right listed h)

  -- ---- the end

  -- what stands behind the last event, at the instant of the machine
  abbrev pub ended_marks : List Entry → Machine P → List Mark
  ended_marks es m = marks_by t es ++ record { time = m.now; saying = nothing } ∷ []

  pub ends_kept : (es : List Entry) (m : Machine P) → Audited es m → keeps_all lim opened (ended_marks es m) ≡ true
  ends_kept es m h =
      let q = h.rested.1 in
      let last' : Mark = record { time = m.now; saying = nothing } in
      let none : breaks lim (account_of es) last' ≡ None = ap (λ (b : Account). broken_now lim b nothing) q.1.is ∙ plain_kept lim q.0 q.2.clear in
      keeps_more lim opened (marks_by t es) (last' ∷ []) ∙ ap (λ (c : Bool). c && (not (is_some (breaks lim (account_of es) last')) && true)) h.kept ∙ ap (λ (o : Option ℕ). not (is_some o) && true) none

  -- and times do not fall
  pub ends_rising : (es : List Entry) (m : Machine P) → Audited es m → Rising lim opened (ended_marks es m)
  ends_rising es m h = rising_more lim opened (marks_by t es) (record { time = m.now; saying = nothing }) h.rising h.rested.1.1.early

  -- the numbers of a server are those of the account
  pub record TellsBudget (b : Account) (o : Option ServerState) : Type 0 where
    pub server : ServerState
    pub is : o ≡ Some server
    pub high : server.high_total ≡ b.high
    pub init : server.params.budget ≡ lim.budget
    pub refilled : server.refilled_total ≡ b.refilled
    pub capacity : server.capacity + b.high ≡ lim.budget + b.refilled

  -- what the closing line tells is what the account has
  pub record ClosesRight (b : Account) (th : Thread P) : Type 0 where
    pub ticks : b.ran ≡ th.ticks
    pub living : replay.lives b ≡ is_some th.server
    pub budget : is_some th.server ≡ true → TellsBudget b th.server

  pub closes : (es : List Entry) (m : Machine P) → ServedRight bodies (turn_of m) → Audited es m → ClosesRight (advanced lim m.now (account_of es)) (thread_at m t)
  closes es m right h =
      let q = h.rested.1 in
      let th = thread_at m t in
      subst (λ (b : Account). ClosesRight b (thread_at m t)) (sym q.1.is) (record {
        ticks = q.2.ticks;
        living = by_status th.status (has_server_policy th.policy) (ap has_server_policy q.2.limits.1) q.0.started q.0.exited q.2.started q.2.exited ∙ sym (right.1 t).having;
        budget = λ some. tells th.server refl some;
      })
    where
      by_status : (st : Rattle.rules_machine.specs.State.Status) (p : Bool) → p ≡ true → (x y : Bool) → x ≡ not (is_dormant st) → y ≡ is_ended st → (x && not y) ≡ (is_live st && p)
      by_status (Rattle.rules_machine.specs.State.dormant at) p e x y f g = grind arith
      by_status Rattle.rules_machine.specs.State.runnable p e x y f g = grind arith
      by_status (Rattle.rules_machine.specs.State.blocked w) p e x y f g = grind arith
      by_status Rattle.rules_machine.specs.State.ended p e x y f g = grind arith

      tells : (o : Option ServerState) → (thread_at m t).server ≡ o → is_some o ≡ true → TellsBudget h.rested.1.0 (thread_at m t).server
      tells None e some = absurd (grind arith)
      tells (Some x) e some = let g = (h.rested.1.2.each x e).agrees in let level = g.level in record { server = x; is = e; high = g.high_total; init = g.budget; refilled = g.refilled_total; capacity = omega arith }

-- ---- the opening state

dormant_at_first : (P : Type 0) (ds : List ThreadDecl) (t : ℕ) (p : Parameters) → (thread_in {P = P} (map (λ (d : ThreadDecl). thread_opened {P = P} d) ds) t).policy ≡ policy.Sporadic p →
    (is_dormant (thread_in {P = P} (map (λ (d : ThreadDecl). thread_opened {P = P} d) ds) t).status ≡ true) × (is_ended (thread_in {P = P} (map (λ (d : ThreadDecl). thread_opened {P = P} d) ds) t).status ≡ false)
    × ((thread_in {P = P} (map (λ (d : ThreadDecl). thread_opened {P = P} d) ds) t).ticks ≡ 0)
dormant_at_first P [] t p e = absurd (grind arith)
dormant_at_first P (d ∷ ds) zero p e = (refl, refl, refl)
dormant_at_first P (d ∷ ds) (suc t) p e = dormant_at_first P ds t p e

module _ (script : Script) (fits : IsWellFormed script) (calm : HasNoSetsched script) (t : ℕ) (lim : Limits) (p : Parameters) (rule : (thread_at {P = Place} (opening script) t).policy ≡ policy.Sporadic p) (limits : IsLimit lim p) where
  ranges : BodiesFit (bodies_of script)
  ranges = bodies_fit script fits.priorities

  quiet : AreCalm (bodies_of script)
  quiet = are_calm (bodies_of script) (bodies_calm script calm)

  begun : Audited (bodies_of script) (bodies_fit script fits.priorities) (are_calm (bodies_of script) (bodies_calm script calm)) t lim [] (opening script)
  begun =
      let first = dormant_at_first Place (threads_of script) t p rule in
      let none = opened_server Place (threads_of script) t in
      record {
        kept = refl;
        rising = tt;
        unended = refl;
        rested = (
          false,
          (
            opened,
            record { kept = refl; early = omega arith; is = refl; has = refl; rising = tt; unended = refl },
            record {
              clear = record { late = refl; unpaid = refl };
              at = refl;
              started = sym (ap not first.0);
              exited = sym first.1;
              ticks = sym first.2;
              blank = λ d. record { high = refl; refilled = refl; planned = refl; ahead = refl };
              limits = (p, rule, limits);
              fresh = λ o. absurd (grind arith);
              owes = λ o. absurd (grind arith);
              each = λ x e. absurd (some_none none e);
            },
          ),
        );
      }
    where
      some_none : {x : ServerState} {o : Option ServerState} → o ≡ None → o ≡ Some x → ⊥
      some_none p k = cc

  -- No rule is broken by the events of the run, nor by its end.
  pub machine_audited : (n : ℕ) → Audited (bodies_of script) (bodies_fit script fits.priorities) (are_calm (bodies_of script) (bodies_calm script calm)) t lim (events script n) (machine script n)
  machine_audited n =
      run_audited (bodies_of script) (bodies_fit script fits.priorities) (are_calm (bodies_of script) (bodies_calm script calm)) t lim n (opening script) (opening_served (bodies_of script) script fits) (opening_listed Place script) begun

  pub machine_keeps : (n : ℕ) → keeps_all lim opened (marks_by t (events script n) ++ record { time = (machine script n).now; saying = nothing } ∷ []) ≡ true
  machine_keeps n = ends_kept (bodies_of script) (bodies_fit script fits.priorities) (are_calm (bodies_of script) (bodies_calm script calm)) t lim (events script n) (machine script n) (machine_audited n)

  pub machine_rises : (n : ℕ) → Rising lim opened (marks_by t (events script n) ++ record { time = (machine script n).now; saying = nothing } ∷ [])
  machine_rises n = ends_rising (bodies_of script) (bodies_fit script fits.priorities) (are_calm (bodies_of script) (bodies_calm script calm)) t lim (events script n) (machine script n) (machine_audited n)

  pub machine_early : (n : ℕ) → (replayed lim opened (marks_by t (events script n))).now ≤ (machine script n).now
  machine_early n = (machine_audited n).rested.1.1.early

  pub machine_unended : (n : ℕ) → has_end (events script n) ≡ false
  machine_unended n = (machine_audited n).unended

  pub machine_closes : (n : ℕ) → ClosesRight (bodies_of script) (bodies_fit script fits.priorities) (are_calm (bodies_of script) (bodies_calm script calm)) t lim (advanced lim (machine script n).now (replayed lim opened (marks_by t (events script n)))) (thread_at (machine script n) t)
  machine_closes n =
      let so = run_keep (bodies_of script) (bodies_fit script fits.priorities) (λ m. ServedRight (bodies_of script) (turn_of m)) (ServedMid (bodies_of script)) (ServedDone (bodies_of script)) (served_tick (bodies_of script)) n (opening script) (opening_served (bodies_of script) script fits) (opening_listed Place script) in
      closes (bodies_of script) (bodies_fit script fits.priorities) (are_calm (bodies_of script) (bodies_calm script calm)) t lim (events script n) (machine script n) so.0 (machine_audited n)
