-- What a unit begins, its effect ends: after both each thread has the cleanup handlers round its place.
use Rattle.std.proofs.Common.{Bool, List, None, Option, Some, [], ap, arith, false, length, refl, suc, sym, true, zero, ℕ, ◌<◌, ◌≤◌, ◌∷◌, ◌≡◌}
use Rattle.std.specs.Prelude.{drop, ◌==◌, ◌&&◌, if◌then◌else◌}
use mathlib.Core.Path.{subst, ◌∙◌}
use Rattle.words_numbers.specs.declared.res.Res.TheVariants as res
use Rattle.words_script.specs.declared.call.Call.{Call}
use Rattle.words_script.specs.declared.call.Call.TheVariants as call
use Rattle.rules_bodies.specs.Next.{capped, ticks_of}
use Rattle.rules_bodies.specs.declared.unit.Unit.{Unit as Step}
use Rattle.rules_bodies.specs.declared.unit.Unit.TheVariants as unit
use Rattle.words_trace.specs.declared.event.Event.TheVariants as event
use Rattle.rules_machine.specs.declared.frame.BodyOf.{BodyOf}
use Rattle.rules_machine.specs.declared.frame.BodyOf.TheVariants as body_of
use Rattle.rules_machine.specs.declared.frame.FrameKind.{FrameKind}
use Rattle.rules_machine.specs.declared.frame.FrameKind.TheVariants as frame
use Rattle.rules_machine.specs.declared.signal.SigAction.{SigAction}
use Rattle.rules_machine.specs.declared.signal.SigAction.TheVariants as action
use Rattle.rules_machine.specs.Bodies.{Bodies, seen_by}
use Rattle.rules_machine.specs.State.{Frame, Machine, SignalRecord, Thread, Waiting}
use Rattle.rules_machine.specs.Threads.{action_of, can_run, is_dormant, is_main, thread_at, top_kind, top_left, waiting_of}
use Rattle.rules_machine.specs.Turns.{Caller, Turn, changes, changes_pending, returns, tells}
use Rattle.rules_machine.specs.Waking.{new_frame, on_top}
use Rattle.rules_machine.specs.Signals.{delivers, without_record}
use Rattle.rules_machine.specs.Lives.{ends_frame, without_life, without_target, without_top}
use Rattle.rules_machine.specs.Cancellation.{runs_cleanup_if, without_cleanup}
use Rattle.rules_machine.specs.Calls.{makes_call, unit_effect}
use Rattle.rules_machine.specs.Delivery.{acts, catches, interrupts, sweeps_all, sweeps_thread, taken_by_sweep, takes_record, ticks_left}
use Rattle.rules_machine.specs.Units.{advances, begins_finish, choice, frame_begins, in_cleanup, in_unit, next_of, takes_unit}
use Rattle.rules_machine.specs.Ticks.{completes_at, frames_charged, tick_charged}
use Rattle.rules_machine.specs.GoodState.{main_guards}
use Rattle.rules_machine.proofs.Reading.{thread-other, thread-same}
use Rattle.rules_machine.specs.WellFormed.{is_guarding}
use Rattle.laws_machine.specs.GuardedBodies.{BodiesGuarded, Guards, most_of}
use Rattle.rules_machine.proofs.Parts.{by_following}
use Rattle.rules_moves.proofs.Waiters.Best.{Each, running_within}
use Rattle.laws_machine.proofs.Cleanups.Frames.{Clean, FrameFits, Keeps, change, deliver_same, is_thread, returned, wakes_same}
use Rattle.laws_machine.proofs.Cleanups.Calls.{joined_same, made_same}

abbrev pub is_run : Step → Bool
is_run (unit.Run n) = true
is_run (unit.Make c) = false
is_run unit.Jump = false
is_run unit.Finish = false

abbrev pub guards_too : Step → Bool
guards_too (unit.Make c) = is_guarding c
guards_too (unit.Run n) = false
guards_too unit.Jump = false
guards_too unit.Finish = false

abbrev pub BeforeIn : Bool → Step → List ℕ → List ℕ → Type 0
BeforeIn true u cleanups gs = Guards u cleanups gs
BeforeIn false u cleanups gs = cleanups ≡ gs

-- a thread whose unit was charged, before its effect
pub record Before {P : Type 0} (guards : BodyOf → P → List ℕ) (u : Step) (th : Thread P) : Type 0 where
  pub pushed : th.is_ending ≡ false → BeforeIn (is_main (top_kind th.frames)) u th.cleanups (main_guards guards th.frames)
  pub awake : is_dormant th.status ≡ false
  pub placed : Each FrameFits th.frames
  pub whole : is_run u ≡ false → top_left th.frames ≡ 0
  pub aside : is_main (top_kind th.frames) ≡ false → guards_too u ≡ false

contra : {b : Bool} → b ≡ true → b ≡ false → ⊥
contra p q = grind arith

module _ {P : Type 0} (bodies : Bodies P) (guards : BodyOf → P → List ℕ) (guarded : BodiesGuarded bodies guards) where
  -- ---- the charge

  charged_guards : (fs : List (Frame P)) → main_guards guards (frames_charged fs) ≡ main_guards guards fs
  charged_guards [] = refl
  charged_guards (f ∷ fs) = refl

  charged_fit : (fs : List (Frame P)) → Each FrameFits fs → Each FrameFits (frames_charged fs)
  charged_fit [] each = tt
  charged_fit (f ∷ fs) each = each

  charged_kind : (fs : List (Frame P)) → top_kind (frames_charged fs) ≡ top_kind fs
  charged_kind [] = refl
  charged_kind (f ∷ fs) = refl

  -- what a thread is in, with its ticks not yet charged
  record Begun (u : Step) (th : Thread P) : Type 0 where
    pushed : th.is_ending ≡ false → BeforeIn (is_main (top_kind th.frames)) u th.cleanups (main_guards guards th.frames)
    awake : is_dormant th.status ≡ false
    placed : Each FrameFits th.frames
    whole : is_run u ≡ false → top_left th.frames ≤ 1
    aside : is_main (top_kind th.frames) ≡ false → guards_too u ≡ false

  less_one : (fs : List (Frame P)) → top_left fs ≤ 1 → top_left (frames_charged fs) ≡ 0
  less_one [] h = refl
  less_one (f ∷ fs) h = omega arith

  charged_begun : (u : Step) (th : Thread P) → Begun u th → Before guards u (tick_charged th)
  charged_begun u th b = record {
    pushed = λ e. subst (λ (k : FrameKind). BeforeIn (is_main k) u th.cleanups (main_guards guards (frames_charged th.frames))) (sym (charged_kind th.frames))
        (subst (λ (gs : List ℕ). BeforeIn (is_main (top_kind th.frames)) u th.cleanups gs) (sym (charged_guards th.frames)) (b.pushed e));
    awake = b.awake;
    placed = charged_fit th.frames b.placed;
    whole = λ e. less_one th.frames (b.whole e);
    aside = λ e. b.aside (sym (ap is_main (charged_kind th.frames)) ∙ e);
  }

  one_tick : (u : Step) → is_run u ≡ false → ticks_of u ≤ 1
  one_tick (unit.Run n) e = absurd (grind arith)
  one_tick (unit.Make c) e = omega arith
  one_tick unit.Jump e = omega arith
  one_tick unit.Finish e = omega arith

  none_in : (xs : List ℕ) (u : ℕ) (ys : List ℕ) → xs ≡ u ∷ ys → length xs ≤ 0 → ⊥
  none_in [] u ys e h = absurd (grind arith)
  none_in (x ∷ xs) u ys e h = absurd (omega arith)

  -- a body that no guarded block stands in neither pushes nor pops
  no_guards : (body : BodyOf) (u : Step) (before after : List ℕ) → is_thread body ≡ false → length before ≤ most_of body → length after ≤ most_of body → Guards u before after → guards_too u ≡ false
  no_guards (body_of.Thread t) u before after e h k g = absurd (grind arith)
  no_guards body (unit.Make (call.Push x)) before after e h k g = absurd (none_in after x before g (few body e k))
    where
      few : (body : BodyOf) → is_thread body ≡ false → length after ≤ most_of body → length after ≤ 0
      few (body_of.Thread t) e k = absurd (grind arith)
      few (body_of.Cleanup u) e k = k
      few (body_of.Handler n) e k = k
  no_guards body (unit.Make (call.Pop runs)) before after e h k g = absurd (none_in before g.0 after g.1 (few body e h))
    where
      few : (body : BodyOf) → is_thread body ≡ false → length before ≤ most_of body → length before ≤ 0
      few (body_of.Thread t) e k = absurd (grind arith)
      few (body_of.Cleanup u) e k = k
      few (body_of.Handler n) e k = k
  no_guards body u before after e h k g = refl

  begun_main : (f : Frame P) (fs : List (Frame P)) (th : Thread P) → is_dormant th.status ≡ false → (th.is_ending ≡ false → th.cleanups ≡ main_guards guards (f ∷ fs)) → Each FrameFits (f ∷ fs) →
      Begun (next_of bodies f).unit (record th { frames = frame_begins (next_of bodies f) f ∷ fs })
  begun_main f fs th awake pushed fit = record {
    pushed = by_kind (is_main f.kind) refl;
    awake = awake;
    placed = fit;
    whole = λ e. one_tick (next_of bodies f).unit e;
    aside = λ e. no_guards f.body (next_of bodies f).unit (guards f.body f.place) (guards f.body (next_of bodies f).place) (sym fit.0 ∙ e) (guarded.few f.body f.place) (guarded.few f.body (next_of bodies f).place) (guarded.next f.body f.place (seen_by f));
  }
    where
      by_kind : (b : Bool) → is_main f.kind ≡ b → th.is_ending ≡ false → BeforeIn (is_main f.kind) (next_of bodies f).unit th.cleanups (main_guards guards (frame_begins (next_of bodies f) f ∷ fs))
      by_kind true m e =
          let was : th.cleanups ≡ guards f.body f.place = pushed e ∙ ap (λ (b : Bool). if b then guards f.body f.place else main_guards guards fs) m in
          let now : main_guards guards (frame_begins (next_of bodies f) f ∷ fs) ≡ guards f.body (next_of bodies f).place = ap (λ (b : Bool). if b then guards f.body (next_of bodies f).place else main_guards guards fs) m in
          subst (λ (b : Bool). BeforeIn b (next_of bodies f).unit th.cleanups (main_guards guards (frame_begins (next_of bodies f) f ∷ fs))) (sym m)
          (subst (λ (gs : List ℕ). Guards (next_of bodies f).unit th.cleanups gs) (sym now) (subst (λ (cs : List ℕ). Guards (next_of bodies f).unit cs (guards f.body (next_of bodies f).place)) (sym was) (guarded.next f.body f.place (seen_by f))))
      by_kind false m e =
          let was : th.cleanups ≡ main_guards guards fs = pushed e ∙ ap (λ (b : Bool). if b then guards f.body f.place else main_guards guards fs) m in
          let now : main_guards guards (frame_begins (next_of bodies f) f ∷ fs) ≡ main_guards guards fs = ap (λ (b : Bool). if b then guards f.body (next_of bodies f).place else main_guards guards fs) m in
          subst (λ (b : Bool). BeforeIn b (next_of bodies f).unit th.cleanups (main_guards guards (frame_begins (next_of bodies f) f ∷ fs))) (sym m) (was ∙ sym now)

  runs_on : (b : Bool) (n : ℕ) (cs gs : List ℕ) → cs ≡ gs → BeforeIn b (unit.Run n) cs gs
  runs_on true n cs gs e = sym e
  runs_on false n cs gs e = e

  begun_next : (fs : List (Frame P)) (th : Thread P) → th.frames ≡ fs → is_dormant th.status ≡ false → (th.is_ending ≡ false → th.cleanups ≡ main_guards guards fs) → Each FrameFits fs → Begun (advances bodies fs th).unit (advances bodies fs th).thread
  begun_next [] th same awake pushed fit = record {
    pushed = λ e. subst (λ (fs : List (Frame P)). BeforeIn (is_main (top_kind fs)) unit.Finish th.cleanups (main_guards guards fs)) (sym same) (pushed e, refl);
    awake = awake;
    placed = subst (Each FrameFits) (sym same) tt;
    whole = λ e. (let none = ap top_left same in omega arith);
    aside = λ e. refl;
  }
  begun_next (f ∷ fs) th same awake pushed fit = begun_main f fs th awake pushed fit

  begun_on : (n : ℕ) (fs : List (Frame P)) (th : Thread P) → th.frames ≡ fs → top_left fs ≡ suc n → is_dormant th.status ≡ false → (th.is_ending ≡ false → th.cleanups ≡ main_guards guards fs) → Each FrameFits fs → Begun (unit.Run (suc n)) th
  begun_on n [] th same left awake pushed fit = absurd (grind arith)
  begun_on n (f ∷ fs) th same left awake pushed fit = record {
    pushed = λ e. subst (λ (gs : List (Frame P)). BeforeIn (is_main (top_kind gs)) (unit.Run (suc n)) th.cleanups (main_guards guards gs)) (sym same) (runs_on (is_main f.kind) (suc n) th.cleanups (main_guards guards (f ∷ fs)) (pushed e));
    awake = awake;
    placed = subst (Each FrameFits) (sym same) fit;
    whole = λ e. absurd (grind arith);
    aside = λ e. refl;
  }

  begun_finish : (fs : List (Frame P)) (th : Thread P) → th.frames ≡ fs → th.is_ending ≡ true → is_dormant th.status ≡ false → Each FrameFits fs → Begun (begins_finish fs th).unit (begins_finish fs th).thread
  begun_finish [] th same ending awake fit = record {
    pushed = λ e. absurd (contra ending e);
    awake = awake;
    placed = subst (Each FrameFits) (sym same) tt;
    whole = λ e. (let none = ap top_left same in omega arith);
    aside = λ e. refl;
  }
  begun_finish (f ∷ fs) th same ending awake fit = record {
    pushed = λ e. absurd (contra ending e);
    awake = awake;
    placed = fit;
    whole = λ e. omega arith;
    aside = λ e. refl;
  }

  begun_ending : (us : List ℕ) (th : Thread P) → th.is_ending ≡ true → is_dormant th.status ≡ false → Each FrameFits th.frames → Begun (takes_unit bodies (choice 0 true us) th).unit (takes_unit bodies (choice 0 true us) th).thread
  begun_ending [] th ending awake fit = begun_finish th.frames th refl ending awake fit
  begun_ending (u ∷ us) th ending awake fit = begun_next (in_cleanup bodies u th).frames (in_cleanup bodies u th) refl awake (λ e. absurd (contra ending e)) (refl, fit)

  begun_in : (th : Thread P) → Clean guards th → is_dormant th.status ≡ false → Begun (in_unit bodies th).unit (in_unit bodies th).thread
  begun_in th q awake =
      by_following th (λ x. Begun (takes_unit bodies x th).unit (takes_unit bodies x th).thread) (λ n some. begun_on n th.frames th refl some awake q.0 q.2) (λ none going. begun_next th.frames th refl awake q.0 q.2)
      (λ none end us same. begun_ending us th (first th.is_ending (is_main (top_kind th.frames)) end) awake q.2)
    where
      first : (a b : Bool) → (a && b) ≡ true → a ≡ true
      first a b e = grind arith

  pub charged_before : (th : Thread P) → Clean guards th → is_dormant th.status ≡ false → Before guards (in_unit bodies th).unit (tick_charged (in_unit bodies th).thread)
  charged_before th q awake = charged_begun (in_unit bodies th).unit (in_unit bodies th).thread (begun_in th q awake)

  -- ---- the effect

  settled_in : (b : Bool) (u : Step) (cs gs : List ℕ) → guards_too u ≡ false → BeforeIn b u cs gs → cs ≡ gs
  settled_in false u cs gs e h = h
  settled_in true (unit.Make (call.Push x)) cs gs e h = absurd (grind arith)
  settled_in true (unit.Make (call.Pop runs)) cs gs e h = absurd (grind arith)
  settled_in true unit.Finish cs gs e h = h.0 ∙ sym h.1
  settled_in true u cs gs e h = sym h

  fresh_none : (th : Thread P) → is_dormant th.status ≡ false → is_dormant th.status ≡ true → th.cleanups ≡ []
  fresh_none th a e = absurd (contra e a)

  clean_of : (u : Step) (th : Thread P) → guards_too u ≡ false → Before guards u th → Clean guards th
  clean_of u th plain b = (λ e. settled_in (is_main (top_kind th.frames)) u th.cleanups (main_guards guards th.frames) plain (b.pushed e), fresh_none th b.awake, b.placed)

  -- one thread changes, and all are right after it
  at_change : (t : ℕ) (f : Thread P → Thread P) (s : Turn P) → t < length s.machine.threads → ((v : ℕ) → (t == v) ≡ false → Clean guards (thread_at s.machine v)) → Clean guards (f (thread_at s.machine t)) → (v : ℕ) → Clean guards (thread_at (changes t f s).machine v)
  at_change t f s lt others mine v = by_eq (t == v) refl
    where
      by_eq : (b : Bool) → (t == v) ≡ b → Clean guards (thread_at (changes t f s).machine v)
      by_eq true e = let it : t ≡ v = grind arith in subst (λ (i : ℕ). Clean guards (thread_at (changes t f s).machine i)) it (subst (λ (th : Thread P). Clean guards th) (sym (thread-same s.machine t f lt)) mine)
      by_eq false e = subst (λ (th : Thread P). Clean guards th) (sym (thread-other s.machine t v f e)) (others v e)

  all_of : (t : ℕ) (m : Machine P) → ((v : ℕ) → (t == v) ≡ false → Clean guards (thread_at m v)) → Clean guards (thread_at m t) → (v : ℕ) → Clean guards (thread_at m v)
  all_of t m others mine v = by_eq (t == v) refl
    where
      by_eq : (b : Bool) → (t == v) ≡ b → Clean guards (thread_at m v)
      by_eq true e = let it : t ≡ v = grind arith in subst (λ (i : ℕ). Clean guards (thread_at m i)) it mine
      by_eq false e = others v e

  pushed_in : (b : Bool) (u : ℕ) (cs gs : List ℕ) → (b ≡ false → true ≡ false) → BeforeIn b (unit.Make (call.Push u)) cs gs → u ∷ cs ≡ gs
  pushed_in true u cs gs a h = sym h
  pushed_in false u cs gs a h = absurd (contra refl (a refl))

  popped_in : (b runs : Bool) (cs gs : List ℕ) → (b ≡ false → true ≡ false) → BeforeIn b (unit.Make (call.Pop runs)) cs gs → drop 1 cs ≡ gs
  popped_in true runs cs gs a h = ap (drop 1) h.1
  popped_in false runs cs gs a h = absurd (contra refl (a refl))

  cleaned : (b : Bool) (us : List ℕ) (th : Thread P) → Clean guards th → Clean guards (runs_cleanup_if b bodies us th)
  cleaned false us th q = q
  cleaned true [] th q = q
  cleaned true (u ∷ us) th q = (q.0, q.1, (refl, q.2))

  gone_in : (b : Bool) (cs gs : List ℕ) → b ≡ true → BeforeIn b unit.Finish cs gs → cs ≡ []
  gone_in true cs gs e h = h.0
  gone_in false cs gs e h = absurd (grind arith)

  lower_guards : (fs : List (Frame P)) → is_main (top_kind fs) ≡ false → main_guards guards fs ≡ main_guards guards (drop 1 fs)
  lower_guards [] e = absurd (grind arith)
  lower_guards (f ∷ fs) e = ap (λ (b : Bool). if b then guards f.body f.place else main_guards guards fs) e

  lower_fit : (fs : List (Frame P)) → Each FrameFits fs → Each FrameFits (drop 1 fs)
  lower_fit [] each = tt
  lower_fit (f ∷ fs) each = each.1

  module _ (t : ℕ) (s : Turn P) (runs : can_run s.machine t ≡ true) (others : (v : ℕ) → (t == v) ≡ false → Clean guards (thread_at s.machine v)) where
    lt : t < length s.machine.threads
    lt = running_within s.machine.threads t runs

    finished : (kind : FrameKind) → top_kind (thread_at s.machine t).frames ≡ kind → Before guards unit.Finish (thread_at s.machine t) → (v : ℕ) → Clean guards (thread_at (ends_frame kind t s).machine v)
    finished frame.Main e b v =
        joined_same bodies guards guarded (thread_at s.machine t).joiner t (changes_pending (without_target t) (tells (event.Exit t) (changes t without_life s))) v
        (at_change t without_life s lt others (λ k. gone_in (is_main (top_kind (thread_at s.machine t).frames)) (thread_at s.machine t).cleanups (main_guards guards (thread_at s.machine t).frames) (ap is_main e) (b.pushed k), λ k. absurd (grind arith), tt) v)
    finished frame.Cleanup e b v = lower (ap is_main e) b v
      where
        lower : is_main (top_kind (thread_at s.machine t).frames) ≡ false → Before guards unit.Finish (thread_at s.machine t) → (v : ℕ) → Clean guards (thread_at (changes t without_top s).machine v)
        lower e b = let q = clean_of unit.Finish (thread_at s.machine t) refl b in
            at_change t without_top s lt others (λ k. q.0 k ∙ lower_guards (thread_at s.machine t).frames e, q.1, lower_fit (thread_at s.machine t).frames q.2)
    finished frame.Signal e b v = lower (ap is_main e) b v
      where
        lower : is_main (top_kind (thread_at s.machine t).frames) ≡ false → Before guards unit.Finish (thread_at s.machine t) → (v : ℕ) → Clean guards (thread_at (changes t without_top s).machine v)
        lower e b = let q = clean_of unit.Finish (thread_at s.machine t) refl b in
            at_change t without_top s lt others (λ k. q.0 k ∙ lower_guards (thread_at s.machine t).frames e, q.1, lower_fit (thread_at s.machine t).frames q.2)

    made : (c : Call) → Before guards (unit.Make c) (thread_at s.machine t) → (v : ℕ) → Clean guards (thread_at (makes_call bodies (record { thread = t; call = c }) s).machine v)
    made (call.Push u) b v =
        let by : Caller = record { thread = t; call = call.Push u } in
        returned guards by res.Zero 0 (changes t (λ th. record th { cleanups = u ∷ th.cleanups }) s) v
        (at_change t (λ th. record th { cleanups = u ∷ th.cleanups }) s lt others
        (λ k. pushed_in (is_main (top_kind (thread_at s.machine t).frames)) u (thread_at s.machine t).cleanups (main_guards guards (thread_at s.machine t).frames) b.aside (b.pushed k), λ k. absurd (contra k b.awake), b.placed) v)
    made (call.Pop runs') b v =
        let by : Caller = record { thread = t; call = call.Pop runs' } in
        let out = changes t without_cleanup s in
        change guards t (runs_cleanup_if runs' bodies (thread_at s.machine t).cleanups) (returns by res.Zero 0 out) (cleaned runs' (thread_at s.machine t).cleanups) v
        (returned guards by res.Zero 0 out v
        (at_change t without_cleanup s lt others
        (λ k. popped_in (is_main (top_kind (thread_at s.machine t).frames)) runs' (thread_at s.machine t).cleanups (main_guards guards (thread_at s.machine t).frames) b.aside (b.pushed k), λ k. absurd (contra k b.awake), b.placed) v))
    made c b v = made_same bodies guards guarded (record { thread = t; call = c }) s refl v (all_of t s.machine others (clean_of (unit.Make c) (thread_at s.machine t) refl b) v)

    effected : (u : Step) → Before guards u (thread_at s.machine t) → (v : ℕ) → Clean guards (thread_at (unit_effect bodies t u s).machine v)
    effected (unit.Run n) b v = all_of t s.machine others (clean_of (unit.Run n) (thread_at s.machine t) refl b) v
    effected (unit.Make c) b v = made c b v
    effected unit.Jump b v = all_of t s.machine others (clean_of unit.Jump (thread_at s.machine t) refl b) v
    effected unit.Finish b v = finished (top_kind (thread_at s.machine t).frames) refl b v

    ongoing : (u : Step) (l : ℕ) → top_left (thread_at s.machine t).frames ≡ suc l → Before guards u (thread_at s.machine t) → guards_too u ≡ false
    ongoing (unit.Run n) l e b = refl
    ongoing unit.Jump l e b = refl
    ongoing unit.Finish l e b = refl
    ongoing (unit.Make c) l e b = let none = b.whole refl in absurd (omega arith)

    -- where ticks of it are left, the unit is a run
    pub completed : (left : ℕ) (u : Step) → top_left (thread_at s.machine t).frames ≡ left → Before guards u (thread_at s.machine t) → (v : ℕ) → Clean guards (thread_at (completes_at bodies left t u s).machine v)
    completed zero u e b v = effected u b v
    completed (suc l) u e b v = all_of t s.machine others (clean_of u (thread_at s.machine t) (ongoing u l e b) b) v

  -- ---- the sweep

  interrupted : (o : Option Waiting) (t : ℕ) (s : Turn P) → Keeps guards s (interrupts o t s)
  interrupted None t s = λ i q. q
  interrupted (Some w) t s = wakes_same guards t res.Intr (ticks_left w.call w.due s.machine.now) s

  caught : (h t : ℕ) (r : SignalRecord) (s : Turn P) → Keeps guards s (catches bodies h t r s)
  caught h t r s =
      let out = changes_pending (without_record r) s in
      let up = interrupts (waiting_of s.machine t) t out in
      let f = new_frame bodies frame.Signal (body_of.Handler h) (capped r.value) in
      λ i q. change guards t (on_top f) (delivers t r up) (λ th k. (k.0, k.1, (refl, k.2))) i (deliver_same guards t r up i (interrupted (waiting_of s.machine t) t out i q))

  acted : (a : SigAction) (t : ℕ) (r : SignalRecord) (s : Turn P) → Keeps guards s (acts bodies a t r s)
  acted action.Kill t r s = λ i q. q
  acted action.Ignore t r s = λ i q. q
  acted (action.Handler h) t r s = caught h t r s

  visited : (killed : Option ℕ) (t : ℕ) (s : Turn P) → Keeps guards s (sweeps_thread bodies killed t s)
  visited (Some signal) t s = λ i q. q
  visited None t s = by_taken (taken_by_sweep s.machine t)
    where
      by_taken : (o : Option SignalRecord) → Keeps guards s (takes_record bodies o t s)
      by_taken None = λ i q. q
      by_taken (Some r) = acted (action_of s.machine r.signal) t r s

  pub all_visited : (ts : List ℕ) (s : Turn P) → Keeps guards s (sweeps_all bodies ts s)
  all_visited [] s = λ i q. q
  all_visited (t ∷ ts) s = λ i q. all_visited ts (sweeps_thread bodies s.machine.killed t s) i (visited s.machine.killed t s i q)
