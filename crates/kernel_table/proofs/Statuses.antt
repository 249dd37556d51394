-- What changes of a thread leave of its status and its claim.
use Rattle.std.proofs.Common.{◌≡◌, ◌∙◌, ℕ, List, [], ◌∷◌, None, Option, Some, ap, refl}
use Rattle.std.specs.Prelude.{option_map}
use Rattle.words_script.specs.declared.policy.Policy.{Policy}
use Rattle.words_script.specs.declared.policy.Policy.TheVariants as policy
use Rattle.rules_server.specs.Server.{ServerState, activate}
use Rattle.rules_machine.specs.Bodies.{Bodies}
use Rattle.rules_machine.specs.Priorities.{assigned_under, claim_of, mutex_awaited_by}
use Rattle.rules_machine.specs.Servers.{with_server}
use Rattle.rules_machine.specs.State.{Frame, Thread}
use Rattle.rules_machine.specs.Units.{Following, advances, advancing, begins_finish, cleaning_up, continuing, finishing, following, frame_begins, in_cleanup, in_unit, next_of, takes_unit}

-- what goes by neither frames nor cleanup handlers
module _ {P X : Type 0} (bodies : Bodies P) (view : Thread P → X) (same : (th : Thread P) (fs : List (Frame P)) (us : List ℕ) → view (record th { frames = fs; cleanups = us }) ≡ view th) where
  advances_keeps : (fs : List (Frame P)) (th : Thread P) → view (advances bodies fs th).thread ≡ view th
  advances_keeps [] th = refl
  advances_keeps (f ∷ fs) th = same th (frame_begins (next_of bodies f) f ∷ fs) th.cleanups

  finish_keeps : (fs : List (Frame P)) (th : Thread P) → view (begins_finish fs th).thread ≡ view th
  finish_keeps [] th = refl
  finish_keeps (f ∷ fs) th = same th (record f { left = 1 } ∷ fs) th.cleanups

  -- a thread that takes a unit keeps it
  pub unit_keeps : (th : Thread P) → view (in_unit bodies th).thread ≡ view th
  unit_keeps th = by_case (following th)
    where
      by_case : (x : Following) → view (takes_unit bodies x th).thread ≡ view th
      by_case (continuing left) = refl
      by_case advancing = advances_keeps th.frames th
      by_case (cleaning_up u) = let begun = in_cleanup bodies u th in advances_keeps begun.frames begun ∙ same th begun.frames begun.cleanups
      by_case finishing = finish_keeps th.frames th

activated_under : (now : ℕ) (p : Policy) (o : Option ServerState) → assigned_under p (option_map (activate now) o) ≡ assigned_under p o
activated_under now (policy.Fifo p) o = refl
activated_under now (policy.Rr p) o = refl
activated_under now (policy.Sporadic params) None = refl
activated_under now (policy.Sporadic params) (Some s) = refl
activated_under now (policy.Strict params) None = refl
activated_under now (policy.Strict params) (Some s) = refl

-- an activation changes no priority
pub activated_claim : {P : Type 0} (now : ℕ) (th : Thread P) → claim_of (with_server (activate now) th) ≡ claim_of th
activated_claim now th = ap (λ (n : ℕ). record { assigned = n; awaited = mutex_awaited_by th }) (activated_under now th.policy th.server)
