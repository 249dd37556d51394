-- A thread that lives is told as it is.
use Rattle.std.proofs.Common.{◌≡◌, Bool, ap, false, not, refl, true}
use Rattle.std.specs.Prelude.{if◌then◌else◌}
use Rattle.rules_machine.specs.State.{Thread}
use Rattle.rules_machine.specs.Threads.{is_live, no_thread}
use Rattle.rules_facts.specs.Threads.{cancelability_of, living}

pub living_is : {P : Type 0} (th : Thread P) → is_live th.status ≡ true → living th ≡ th
living_is th e = ap (λ (b : Bool). if b then th else no_thread) e

pub living_not : {P : Type 0} (th : Thread P) → is_live th.status ≡ false → living th ≡ no_thread
living_not th e = ap (λ (b : Bool). if b then th else no_thread) e

pub flags_same : {P : Type 0} (th : Thread P) (r e d : Bool) → r ≡ th.is_requested → e ≡ th.is_enabled → d ≡ th.is_ending
    → record { is_requested = r; is_disabled = not e; is_ending = d } ≡ cancelability_of th
flags_same th r e d is_r is_e is_d = rw (is_r, is_e, is_d) refl
