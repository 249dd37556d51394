-- The unit of a thread leaves what its places and handlers do not concern.
use Rattle.std.proofs.Common.{List, [], refl, ◌∷◌, ◌≡◌}
use mathlib.Core.Path.{◌∙◌}
use Rattle.rules_machine.specs.Bodies.{Bodies}
use Rattle.rules_machine.specs.State.{Frame, Thread}
use Rattle.rules_machine.specs.Cancellation.{without_cleanup}
use Rattle.rules_machine.specs.Units.{Following, advances, advancing, begins_finish, cleaning_up, continuing, finishing, following, in_cleanup, in_unit, takes_unit}

module _ {P : Type 0} {Y : Type 0} (bodies : Bodies P) (g : Thread P → Y) (frames_alone : (fs : List (Frame P)) (th : Thread P) → g (record th { frames = fs }) ≡ g th) (drops_alone : (th : Thread P) → g (without_cleanup th) ≡ g th) where
  kept_advances : (fs : List (Frame P)) (th : Thread P) → g (advances bodies fs th).thread ≡ g th
  kept_advances [] th = refl
  kept_advances (f ∷ fs) th = frames_alone _ th

  kept_finish : (fs : List (Frame P)) (th : Thread P) → g (begins_finish fs th).thread ≡ g th
  kept_finish [] th = refl
  kept_finish (f ∷ fs) th = frames_alone _ th

  pub kept_in_unit : (th : Thread P) → g (in_unit bodies th).thread ≡ g th
  kept_in_unit th = by_case (following th)
    where
      by_case : (x : Following) → g (takes_unit bodies x th).thread ≡ g th
      by_case (continuing left) = refl
      by_case advancing = kept_advances th.frames th
      by_case (cleaning_up u) = let begun = in_cleanup bodies u th in kept_advances begun.frames begun ∙ frames_alone begun.frames (without_cleanup th) ∙ drops_alone th
      by_case finishing = kept_finish th.frames th
