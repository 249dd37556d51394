-- The account of a thread in every state of every run in which no thread is given a new policy: no rule is broken.
use Rattle.std.proofs.Common.{Bool, List, None, Option, Some, [], ap, arith, false, refl, suc, sym, true, zero, ℕ, ◌∷◌, ◌≡◌}
use Rattle.std.specs.Prelude.{◌==◌}
use mathlib.Core.Path.{subst, ◌∙◌}
use Rattle.rules_bodies.specs.declared.unit.Unit.{Unit}
use Rattle.rules_server.specs.Server.{ServerState}
use Rattle.rules_machine.specs.Budget.{renews}
use Rattle.rules_machine.specs.Bodies.{Bodies, Seen, seen_by}
use Rattle.rules_machine.specs.declared.frame.BodyOf.{BodyOf}
use Rattle.rules_machine.specs.State.{Frame, Thread, waits_to_join}
use Rattle.rules_machine.specs.Threads.{can_run, is_runnable, thread_at, top_left}
use Rattle.rules_machine.specs.Turns.{Turn, changes, settles_since}
use Rattle.rules_machine.specs.Servers.{has_high}
use Rattle.rules_machine.specs.Lives.{with_joiner}
use Rattle.rules_machine.specs.Calls.{unit_effect}
use Rattle.rules_machine.specs.DueItems.{instant, next_item}
use Rattle.rules_machine.specs.Dispatch.{head}
use Rattle.rules_machine.specs.Units.{Following, advances, advancing, begins_finish, cleaning_up, continuing, finishing, following, in_cleanup, in_unit, takes_unit}
use Rattle.rules_machine.specs.Ticks.{completes_at, ends_tick, prepares, runs, runs_head, tick, tick_end, unless_killed}
use Rattle.rules_machine.proofs.ItemsEnd.{instant_ends}
use Rattle.rules_moves.specs.Moves.{KeepsAwake, Stops}
use Rattle.rules_moves.specs.UnitRanges.{BodiesFit, UnitFits}
use Rattle.rules_moves.proofs.Calls.Commuting.{status_kept}
use Rattle.rules_moves.proofs.Calls.Table.{unit_keep}
use Rattle.rules_moves.proofs.Runs.Listed.{head_can_run}
use Rattle.rules_moves.proofs.Runs.Units.{in_unit_fits}
use Rattle.rules_moves.proofs.Runs.Ticks.{RoundKeeps, Rests, charged_runs, charged_turn, instant_keep, sweeps_keep}
use Rattle.rules_moves.proofs.Runs.Preparing.{Alike, alike_runs, prepared, prepares_keep}
use Rattle.laws_machine.proofs.Servers.Alert.{awake_of}
use Rattle.laws_machine.proofs.Servers.Ticks.{ServedDone, ServedMid, ServedRight, nobody_awake, served_stop, served_tick}
use Rattle.laws_machine.proofs.Budgets.Units.{NotDue, not_due}
use Rattle.tool_audit.specs.declared.server.Limits.{Limits}
use Rattle.tool_audit.specs.Replay.{Account}
use Rattle.laws_audit.proofs.Moves.{recorded_keep, sleeps_recorded, joined_recorded}
use Rattle.laws_audit.proofs.Units.{Rested, Running, charges_running, ends_rested, idles_rested, prepares_last, prepares_rested, prepares_same}

-- ---- bodies that give no thread a new policy

abbrev pub IsCalm : Unit → Type 0
IsCalm u = (v : ℕ) → renews v u ≡ false

abbrev pub AreCalm : {P : Type 0} → Bodies P → Type 0
AreCalm {P} bodies = (body : BodyOf) (place : P) (seen : Seen) → IsCalm (bodies.next body place seen).unit

module _ {P : Type 0} (bodies : Bodies P) (calm : AreCalm bodies) where
  advances_calm : (fs : List (Frame P)) (th : Thread P) → IsCalm (advances bodies fs th).unit
  advances_calm [] th = λ v. refl
  advances_calm (f ∷ fs) th = calm f.body f.place (seen_by f)

  finish_calm : (fs : List (Frame P)) (th : Thread P) → IsCalm (begins_finish fs th).unit
  finish_calm [] th = λ v. refl
  finish_calm (f ∷ fs) th = λ v. refl

  pub in_unit_calm : (th : Thread P) → IsCalm (in_unit bodies th).unit
  in_unit_calm th = by_case (following th)
    where
      by_case : (x : Following) → IsCalm (takes_unit bodies x th).unit
      by_case (continuing left) = λ v. refl
      by_case advancing = advances_calm th.frames th
      by_case (cleaning_up u) = advances_calm (in_cleanup bodies u th).frames (in_cleanup bodies u th)
      by_case finishing = finish_calm th.frames th

module _ {P : Type 0} (bodies : Bodies P) (known : BodiesFit bodies) (calm : AreCalm bodies) (t : ℕ) (lim : Limits) (a : Account) where
  abbrev pub Book : Turn P → Type 0
  Book s = ServedRight bodies s × Rested bodies t lim a s

  abbrev pub BookMid : Bool → ℕ → Turn P → Type 0
  BookMid tolled u s = ServedMid bodies tolled u s × Running bodies t lim a tolled u s

  abbrev pub BookDone : Bool → ℕ → Turn P → Type 0
  BookDone tolled u s = ServedDone bodies tolled u s × Running bodies t lim a tolled u s

  pub book_round : RoundKeeps bodies Book
  book_round = let served = served_tick bodies in record {
    moves = λ move s may q. (served.moves move s may q.0, (q.1.0, recorded_keep bodies t lim a false q.1.0 None move s refl may (nobody_awake bodies s) q.0.1 q.1.1));
    joined = λ s q. served.joined s q.0;
    settles = λ before s q. (served.settles before s q.0, q.1);
  }

  book_mid : (tolled : Bool) (u : ℕ) → KeepsAwake bodies (Some u) (BookMid tolled u)
  book_mid tolled u move s may q = let served = served_tick bodies in
      (served.unit_moves tolled u move s may q.0, recorded_keep bodies t lim a (u == t) tolled (Some u) move s refl may (awake_of bodies tolled u s q.0.2) q.0.1 q.1)

  book_stop : (tolled : Bool) (u : ℕ) → Stops (Some u) (BookMid tolled u) (BookDone tolled u)
  book_stop tolled u = let served = served_stop bodies tolled u in record {
    done = λ s q. (served.done s q.0, q.1);
    renewable = λ v. false;
    renewing = λ active v new s fits live e known q. absurd (grind arith);
    sleeps = λ by wait due s runs may q. (served.sleeps by wait due s runs may q.0, sleeps_recorded bodies t lim a (u == t) tolled by.thread _ s runs.0 q.1);
    dozes = λ by wait due s runs may other q. (served.dozes by wait due s runs may other q.0, sleeps_recorded bodies t lim a (u == t) tolled by.thread _ s runs.0 q.1);
    joins = λ by v s runs other free q. (
      served.joins by v s runs other free q.0,
      sleeps_recorded bodies t lim a (u == t) tolled by.thread _ (changes v (with_joiner (waits_to_join by.thread)) s)
          (ap is_runnable (status_kept v by.thread (with_joiner (waits_to_join by.thread)) (λ th. refl) s) ∙ runs.0) (joined_recorded bodies t lim a (u == t) tolled v (waits_to_join by.thread) s q.1),
    );
  }

  unit_booked : (tolled : Bool) (u : ℕ) (what : Unit) (s : Turn P) → UnitFits what → IsCalm what → can_run s.machine u ≡ true → BookMid tolled u s → BookDone tolled u (unit_effect bodies u what s)
  unfolding book_stop
  unit_booked tolled u what s fit still runs q =
      unit_keep bodies (Some u) (BookMid tolled u) (BookDone tolled u) (book_mid tolled u) (book_stop tolled u) (λ s q. (served_tick bodies).unit_joined tolled u s q.0) u what s fit (runs, refl) fits q
    where
      fits : (v : ℕ) → renews v what ≡ true → false ≡ true
      fits v e = sym (still v) ∙ e

  completes_booked : (tolled : Bool) (left u : ℕ) (what : Unit) (s : Turn P) → UnitFits what → IsCalm what → can_run s.machine u ≡ true → BookMid tolled u s → BookDone tolled u (completes_at bodies left u what s)
  completes_booked tolled zero u what s fit still runs q = unit_booked tolled u what s fit still runs q
  completes_booked tolled (suc left) u what s fit still runs q = ((served_stop bodies tolled u).done s q.0, q.1)

  -- ---- what finishes a tick

  module _ (s : Turn P) (ends : next_item s.machine ≡ None) (alive : s.machine.killed ≡ None) (rests : Rests bodies Book s) where
    due : (x : ServerState) → (thread_at s.machine t).server ≡ Some x → NotDue s.machine.now x
    due x e = not_due s.machine alive ends t x e ((rests.0.0.1 t).each x e).sound.rising

    can_to : (o : Option ℕ) → head s.machine ≡ o → (u : ℕ) → o ≡ Some u → can_run s.machine u ≡ true
    can_to o e u k = head_can_run s.machine u rests.1 (e ∙ k)

    prepared_so : (o : Option ℕ) → head s.machine ≡ o → ServedRight bodies (prepares o s) × Alike s.machine (prepares o s).machine × ((prepares o s).direct ≡ s.direct)
    prepared_so o e = prepares_keep (ServedRight bodies) (served_tick bodies).prepares o s (can_to o e) rests.0.0

    due_to : (o : Option ℕ) → head s.machine ≡ o → (x : ServerState) → (thread_at (prepares o s).machine t).server ≡ Some x → NotDue (prepares o s).machine.now x
    due_to o e x k = subst (λ (n : ℕ). NotDue n x) (sym (prepared_so o e).1.now) (due x (sym (prepares_same bodies t lim a o s rests.0.1) ∙ k))

    headed : (o : Option ℕ) → head s.machine ≡ o → Rested bodies t lim a (runs bodies o (prepares o s))
    headed None e =
        let to = prepares None s in
        let q = prepares_rested bodies t lim a None s (can_to None e) rests.0.1 in
        let r = idles_rested bodies t lim a to (prepared_so None e).0.1 (due_to None e) q (prepares_last bodies t lim a None s) in
        (q.0, (r.0, r.1, r.2))
    headed (Some u) e =
        let served = served_tick bodies in
        let to = prepares (Some u) s in
        let can : can_run s.machine u ≡ true = head_can_run s.machine u rests.1 e in
        let so = prepared_so (Some u) e in
        let can' : can_run to.machine u ≡ true = alike_runs s.machine to.machine u so.1 can in
        let tolled = has_high (thread_at to.machine u).server in
        let th = thread_at to.machine u in
        let taken = in_unit bodies th in
        let charged' = charged_turn bodies u to in
        let q : Rested bodies t lim a to = prepares_rested bodies t lim a (Some u) s (can_to (Some u) e) rests.0.1 in
        let mid : BookMid tolled u charged' = (served.charges u to (prepared (Some u) s) can' so.0, charges_running bodies t lim a to so.0.1 (due_to (Some u) e) q u (prepares_last bodies t lim a (Some u) s) can') in
        let completed = completes_at bodies (top_left (thread_at charged'.machine u).frames) u taken.unit charged' in
        let done : BookDone tolled u completed = completes_booked tolled (top_left (thread_at charged'.machine u).frames) u taken.unit charged' (in_unit_fits bodies known th) (in_unit_calm bodies calm th) (charged_runs bodies u to can') mid in
        let ticked = settles_since to.machine completed in
        let done' : BookDone tolled u ticked = (served.unit_settles tolled u to.machine completed done.0, done.1) in
        let e' = tick_end tolled ticked.machine.quantum (thread_at ticked.machine u) in
        let ended : Book (ends_tick e' u ticked) = (served.ends tolled u ticked done'.0, ends_rested bodies t lim a tolled u ticked done'.0.1 done'.1) in
        (sweeps_keep bodies Book book_round (settles_since ticked.machine (ends_tick e' u ticked)) (book_round.settles ticked.machine (ends_tick e' u ticked) ended)).0.1

  finished : (killed : Option ℕ) (s : Turn P) → s.machine.killed ≡ killed → next_item s.machine ≡ None → Rests bodies Book s → Rested bodies t lim a (unless_killed killed (runs_head bodies) s)
  finished None s e ends rests = headed s ends e rests (head s.machine) refl
  finished (Some signal) s e ends rests = rests.0.1

  -- a whole tick
  pub tick_rested : (s : Turn P) → Rests bodies Book s → Rested bodies t lim a (tick bodies s)
  tick_rested s r = let ready = instant bodies s in finished ready.machine.killed ready refl (instant_ends bodies s) (instant_keep bodies Book book_round s r)
