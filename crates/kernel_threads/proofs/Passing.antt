-- A frame goes past one more unit.
use Rattle.std.proofs.Common.{◌≡◌, ◌≤◌, ◌<◌, ◌+◌, ◌-◌, ◌∙◌, ℕ, List, [], ◌∷◌, ◌++◌, ap, arith, length, refl, subst, sym, true}
use Rattle.words_script.specs.Block.{Block}
use Rattle.rules_bodies.specs.declared.cursor.Cursor.{Cursor}
use Rattle.rules_bodies.specs.declared.op.Op.{Op}
use Rattle.rules_bodies.specs.declared.unit.Unit as unit_type
use Rattle.rules_bodies.specs.Fetch.{OneBody, fetched}
use Rattle.rules_bodies.specs.Flat.{NumberedBodies}
use Rattle.rules_bodies.specs.Next.{Place, ticks_of}
use Rattle.rules_bodies.specs.Stands.{Fetches, IsBody, IsPlaced, Stands}
use Rattle.rules_machine.specs.Bodies.{Bodies, NextUnit}
use Rattle.rules_machine.specs.State.{Frame}
use Rattle.rules_machine.specs.Units.{frame_begins, next_of}
use Rattle.rules_flat_code.specs.FlatBodies.{flat_bodies, next_unit, place_of}
use Rattle.rules_flat_code.specs.Placed.{cursor_of}
use Rattle.kernel_threads.specs.Passing.{FramePasses, IsOver, frame_behind, frame_past}
use Rattle.kernel_threads.specs.Running.{all_of, only_takes_time}

-- ---- what was fetched

abbrev pub frame_at : Frame Cursor → Cursor → Frame Cursor
frame_at f at = record f { place = place_of at; register = at.register; result = at.result; value = at.value }

abbrev behind_next : Frame Cursor → NextUnit Cursor → Frame Cursor
behind_next f next = record (frame_begins next f) { left = 0 }

-- the frame whose cursor was moved behind its next unit
behind_is : (code : NumberedBodies (List Op)) (f : Frame Cursor) (at : Cursor) (u : unit_type.Unit) → fetched code (cursor_of f) ≡ (at, u) →
    at.result ≡ f.result → at.value ≡ f.value → f.left ≡ 0 →
    frame_at f at ≡ frame_behind (flat_bodies code) f
behind_is code f at u is result value whole =
    let same : behind_next f (next_unit (fetched code (cursor_of f))) ≡ behind_next f (next_unit (at, u)) = ap (λ x. behind_next f (next_unit x)) is in
    let left : f.left ≡ 0 = whole in
    rw (result, value) (subst (λ n. record f { place = place_of at; register = at.register; left = n } ≡ behind_next f (next_unit (fetched code (cursor_of f)))) (sym left) (sym same))

unit_is : (code : NumberedBodies (List Op)) (f : Frame Cursor) (at : Cursor) (u : unit_type.Unit) → fetched code (cursor_of f) ≡ (at, u) → (next_of (flat_bodies code) f).unit ≡ u
unit_is code f at u is = ap (λ x. (next_unit x).unit) is

-- ---- one more

-- the units so far and one more
record Longer (bodies : Bodies Cursor) (most k : ℕ) (ks : List ℕ) (f g : Frame Cursor) : Type 0 where
  each : FramePasses bodies most (ks ++ k ∷ []) f
  total : all_of (ks ++ k ∷ []) ≡ all_of ks + k
  count : length (ks ++ k ∷ []) ≡ length ks + 1
  past : frame_past bodies (ks ++ k ∷ []) f ≡ frame_behind bodies g

module _ (bodies : Bodies Cursor) where
  abbrev NextIsOver : ℕ → ℕ → Frame Cursor → Type 0
  NextIsOver most k f = IsOver most k (ticks_of (next_of bodies f).unit) (next_of bodies f).unit

  longer : (most rest k : ℕ) (ks : List ℕ) (f g : Frame Cursor) → FramePasses bodies most ks f → g ≡ frame_past bodies ks f → rest + all_of ks ≡ most →
      NextIsOver rest k g → Longer bodies most k ks f g
  longer most rest k [] f g each is total over =
      let same : rest ≡ most = omega arith in
      record {
        each = (subst (λ n. NextIsOver n k f) same (subst (λ h. NextIsOver rest k h) is over), tt);
        total = omega arith;
        count = refl;
        past = ap (λ h. frame_behind bodies h) (sym is);
      }
  longer most rest k (j ∷ ks) f g (one, each) is total over =
      let more = longer (most - j) rest k ks (frame_behind bodies f) g each is (omega arith) over in
      record { each = (one, more.each); total = omega (arith, more.total); count = omega (arith, more.count); past = more.past }

-- ---- the loop

-- a frame has gone past units, in a step each, and `rest` ticks are left of `most`
pub record HasGone (code : NumberedBodies (List Op)) (most rest : ℕ) (old now : Frame Cursor) (steps_before steps_now : ℕ) : Type 0 where
  pub units : List ℕ
  pub each : FramePasses (flat_bodies code) most units old
  pub passed : rest + all_of units ≡ most
  pub frame : now ≡ frame_past (flat_bodies code) units old
  pub body : (cursor_of now).body ≡ (cursor_of old).body
  pub placed : IsPlaced code (cursor_of now)
  pub whole : now.left ≡ 0
  pub steps : steps_now ≡ steps_before + length units

goes_past : (code : NumberedBodies (List Op)) (most rest k steps_before steps_now later : ℕ) (old now : Frame Cursor) (at : Cursor) (u : unit_type.Unit) → HasGone code most rest old now steps_before steps_now →
    fetched code (cursor_of now) ≡ (at, u) →
    ((tree : Block) (place : Place) → IsBody code (cursor_of now).body tree → Stands tree place (cursor_of now) → Fetches tree place (cursor_of now) at u) →
    IsPlaced code at → only_takes_time u ≡ true → k ≡ ticks_of u → 1 ≤ k → k < rest → later ≡ steps_now + 1 → HasGone code most (rest - k) old (frame_at now at) steps_before later
goes_past code most rest k steps_before steps_now later old now at u gone is next placed idle long some within step =
    let kept = next gone.placed.body gone.placed.place gone.placed.is_body gone.placed.stands in
    let over : IsOver rest k (ticks_of u) u = record { idle = idle; long = long; some = some; within = within } in
    let more = longer (flat_bodies code) most rest k gone.units old now gone.each gone.frame gone.passed
    (subst (λ (v : unit_type.Unit). IsOver rest k (ticks_of v) v) (sym (unit_is code now at u is)) over) in
    record {
      units = gone.units ++ k ∷ [];
      each = more.each;
      passed = omega (arith, more.total, gone.passed);
      frame = behind_is code now at u is kept.result kept.value gone.whole ∙ sym more.past;
      body = kept.body_same ∙ gone.body;
      placed = placed;
      whole = gone.whole;
      steps = omega (arith, more.count, gone.steps, step);
    }

-- the same where the units of the body gave it
pub goes_on : (code : NumberedBodies (List Op)) (units : OneBody) (most rest k steps_before steps_now later : ℕ) (old now : Frame Cursor) (at : Cursor) (u : unit_type.Unit) → units.code ≡ code →
    HasGone code most rest old now steps_before steps_now → fetched units.code (cursor_of now) ≡ (at, u) →
    ((tree : Block) (place : Place) → IsBody units.code (cursor_of now).body tree → Stands tree place (cursor_of now) → Fetches tree place (cursor_of now) at u) →
    IsPlaced units.code at → only_takes_time u ≡ true → k ≡ ticks_of u → 1 ≤ k → k < rest → later ≡ steps_now + 1 → HasGone code most (rest - k) old (frame_at now at) steps_before later
goes_on code units most rest k steps_before steps_now later old now at u same gone is next placed idle long some within step =
    subst (λ one. HasGone one most (rest - k) old (frame_at now at) steps_before later) same
    (goes_past units.code most rest k steps_before steps_now later old now at u (subst (λ one. HasGone one most rest old now steps_before steps_now) (sym same) gone) is next placed idle long some within step)
