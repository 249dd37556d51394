-- A thread advances as its top frame does.
use Rattle.std.proofs.Common.{◌≡◌, ◌≤◌, ◌<◌, ◌-◌, ◌∙◌, ℕ, Bool, List, [], ◌∷◌, false, ap, arith, get_or, length, refl, set, subst, sym, take, zero, suc}
use Rattle.std.specs.Prelude.{◌&&◌}
use Rattle.rules_bodies.specs.declared.cursor.Cursor.{Cursor}
use Rattle.rules_bodies.specs.declared.op.Op.{Op}
use Rattle.rules_bodies.specs.Flat.{NumberedBodies}
use Rattle.rules_bodies.specs.Next.{ticks_of}
use Rattle.rules_machine.specs.Bodies.{Bodies}
use Rattle.rules_machine.specs.State.{Frame, Thread}
use Rattle.script_code.specs.declared.fetched.Fetched.TheVariants.{Finish}
use Rattle.rules_bodies.specs.declared.unit.Unit.TheVariants as unit
use Rattle.rules_machine.specs.Threads.{is_main, top_kind, top_left}
use Rattle.rules_machine.specs.Units.{InUnit, advances, choice, frame_begins, in_unit, is_at_end, next_of, takes_unit}
use Rattle.rules_flat_code.specs.FlatBodies.{flat_bodies}
use Rattle.rules_leaps.specs.Quiet.{frames_after}
use Rattle.kernel_threads.specs.declared.ran.Taken.{Taken}
use Rattle.kernel_threads.specs.Passing.{FramePasses, HasBegun, HasTaken, IsOver, ThreadPasses, frame_behind, frame_past, thread_behind, thread_past}

-- a thread in that frame, above others
abbrev pub in_frame : Frame Cursor → List (Frame Cursor) → Thread Cursor → Thread Cursor
in_frame f fs th = record th { frames = f ∷ fs }

module _ (bodies : Bodies Cursor) (fs : List (Frame Cursor)) (th : Thread Cursor) where
  -- what it is in, in that frame
  record Advances (f : Frame Cursor) : Type 0 where
    whole : f.left ≡ 0
    goes_on : th.is_ending && is_main f.kind ≡ false

  advanced : (f : Frame Cursor) → Advances f → in_unit bodies (in_frame f fs th) ≡ advances bodies (f ∷ fs) (in_frame f fs th)
  advanced f may = chosen f.left (th.is_ending && is_main f.kind) may.whole may.goes_on
    where
      chosen : (left : ℕ) (ends : Bool) → left ≡ 0 → ends ≡ false →
          takes_unit bodies (choice left ends th.cleanups) (in_frame f fs th) ≡ advances bodies (f ∷ fs) (in_frame f fs th)
      chosen left ends whole goes_on = rw (whole, goes_on) refl

  -- it goes past a unit as that frame does
  behind : (f : Frame Cursor) (k : ℕ) → Advances f → k ≡ ticks_of (next_of bodies f).unit → thread_behind bodies k (in_frame f fs th) ≡ in_frame (frame_behind bodies f) fs th
  behind f k may long =
      let less : Thread Cursor → Thread Cursor = λ t. record t { frames = frames_after k t.frames } in
      let none : ticks_of (next_of bodies f).unit - k ≡ 0 = omega arith in
      ap (λ (x : InUnit Cursor). less x.thread) (advanced f may) ∙ ap (λ n. in_frame (record (frame_begins (next_of bodies f) f) { left = n }) fs th) none

  record Passes (most : ℕ) (ks : List ℕ) (f : Frame Cursor) : Type 0 where
    each : ThreadPasses bodies most ks (in_frame f fs th)
    past : thread_past bodies ks (in_frame f fs th) ≡ in_frame (frame_past bodies ks f) fs th
    may : Advances (frame_past bodies ks f)

  passes : (most : ℕ) (ks : List ℕ) (f : Frame Cursor) → Advances f → FramePasses bodies most ks f → Passes most ks f
  passes most [] f may each = record { each = tt; past = refl; may = may }
  passes most (k ∷ ks) f may (over, each) =
      let more = passes (most - k) ks (frame_behind bodies f) (record { whole = refl; goes_on = may.goes_on }) each in
      let one = behind f k may over.long in
      record {
        each = (
          subst (λ (x : InUnit Cursor). IsOver most k (top_left x.thread.frames) x.unit) (sym (advanced f may)) over,
          subst (λ (t : Thread Cursor). ThreadPasses bodies (most - k) ks t) (sym one) more.each,
        );
        past = ap (λ t. thread_past bodies ks t) one ∙ more.past;
        may = more.may;
      }

-- a thread takes what its top frame begins
pub taken_by_frame : (code : NumberedBodies (List Op)) (most : ℕ) (taken : Taken) (steps_before steps_now : ℕ) (f g : Frame Cursor) (fs : List (Frame Cursor)) (th : Thread Cursor) →
    f.left ≡ 0 → th.is_ending && is_main f.kind ≡ false → HasBegun code most taken f g steps_before steps_now → HasTaken code most taken (in_frame f fs th) (in_frame g fs th) steps_before steps_now
taken_by_frame code most taken steps_before steps_now f g fs th whole goes_on begun =
    let bodies = flat_bodies code in
    let all = passes bodies fs th most begun.units f (record { whole = whole; goes_on = goes_on }) begun.each in
    let is = ap (λ t. in_unit bodies t) all.past ∙ advanced bodies fs th (frame_past bodies begun.units f) all.may in
    record {
      units = begun.units;
      each = all.each;
      passed = begun.passed;
      unit = begun.unit ∙ sym (ap (λ (x : InUnit Cursor). x.unit) is);
      thread = ap (λ h. in_frame h fs th) begun.frame ∙ sym (ap (λ (x : InUnit Cursor). x.thread) is);
      left = begun.left;
      steps = begun.steps;
    }

taken_by_top : (code : NumberedBodies (List Op)) (most : ℕ) (taken : Taken) (steps_before steps_now : ℕ) (f g : Frame Cursor) (fs : List (Frame Cursor)) (th : Thread Cursor) →
    th.frames ≡ f ∷ fs → top_left th.frames ≡ 0 → is_at_end th ≡ false → HasBegun code most taken f g steps_before steps_now → HasTaken code most taken th (in_frame g fs th) steps_before steps_now
taken_by_top code most taken steps_before steps_now f g fs th is whole goes_on begun =
    let whole_top = subst (λ hs. top_left hs ≡ 0) is whole in
    let top_goes_on = subst (λ hs. th.is_ending && is_main (top_kind hs) ≡ false) is goes_on in
    subst (λ hs. HasTaken code most taken (record th { frames = hs }) (in_frame g fs th) steps_before steps_now) (sym is) (taken_by_frame code most taken steps_before steps_now f g fs th whole_top top_goes_on begun)

-- and so where its frames are the first of some items, of which one at least is there
pub taken_by_first : (code : NumberedBodies (List Op)) (most : ℕ) (taken : Taken) (steps_before steps_now : ℕ) (f g : Frame Cursor) (count : ℕ) (items : List (Frame Cursor)) (th : Thread Cursor) →
    0 < count → 0 < length items → th.frames ≡ take count items → top_left th.frames ≡ 0 → is_at_end th ≡ false → HasBegun code most taken (get_or items 0 f) g steps_before steps_now →
    HasTaken code most taken th (record th { frames = take count (set items 0 g) }) steps_before steps_now
taken_by_first code most taken steps_before steps_now f g zero items th more some is whole goes_on begun = absurd (omega arith)
taken_by_first code most taken steps_before steps_now f g (suc n) [] th more some is whole goes_on begun = absurd (omega arith)
taken_by_first code most taken steps_before steps_now f g (suc n) (h ∷ hs) th more some is whole goes_on begun =
    taken_by_top code most taken steps_before steps_now h g (take n hs) th is whole goes_on begun

-- and one with no frame takes its finish
pub taken_by_none : (code : NumberedBodies (List Op)) (most steps : ℕ) (th : Thread Cursor) → length th.frames ≤ 0 → is_at_end th ≡ false →
    HasTaken code most (record { passed = 0; unit = Finish; left = 0 }) th th steps steps
taken_by_none code most steps th none goes_on =
    let is = no_frames th.frames none in
    let advances_none = chosen (top_left th.frames) (is_at_end th) (ap top_left is) goes_on is in
    record {
      units = [];
      each = tt;
      passed = refl;
      unit = sym (ap (λ (x : InUnit Cursor). x.unit) advances_none);
      thread = sym (ap (λ (x : InUnit Cursor). x.thread) advances_none);
      left = sym (ap top_left is);
      steps = omega arith;
    }
  where
    no_frames : (fs : List (Frame Cursor)) → length fs ≤ 0 → fs ≡ []
    no_frames [] none = refl
    no_frames (f ∷ fs) none = absurd (omega arith)

    chosen : (left : ℕ) (ends : Bool) → left ≡ 0 → ends ≡ false → th.frames ≡ [] →
        takes_unit (flat_bodies code) (choice left ends th.cleanups) th ≡ record { thread = th; unit = unit.Finish }
    chosen left ends whole stays is = rw (whole, stays) (ap (λ hs. advances (flat_bodies code) hs th) is)
