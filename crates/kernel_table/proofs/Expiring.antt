-- The wheel has the expiries of the timers, as one of them changes.
use Rattle.std.proofs.Common.{◌≡◌, ◌≤◌, ◌∙◌, ℕ, zero, suc, List, [], ◌∷◌, None, Option, Some, ap, length, refl, sym}
use Rattle.std.specs.List.{filter_map}
use Rattle.std.specs.Prelude.{option_and_then}
use Rattle.words_script.specs.declared.decl.Decl.{Decl}
use Rattle.words_script.specs.declared.decl.Decl.TheVariants as decl
use Rattle.words_script.specs.declared.decl.Kind.TheVariants as kind
use Rattle.rules_bodies.specs.declared.cursor.Cursor.{Cursor}
use Rattle.rules_machine.specs.Declarations.{named, timer_kind}
use Rattle.rules_machine.specs.State.{Thread, Timer}
use Rattle.kernel_timers.specs.Timers.{timer_in}
use Rattle.kernel_table.specs.Tied.{AreArmed}

-- timers of which none is armed
pub disarmed : (threads : List (Thread Cursor)) (timers : List Timer) (dues : List (Option ℕ)) → length timers ≤ 32 → ((k : ℕ) → (timer_in timers k).due ≡ None) → AreArmed threads [] dues → AreArmed threads timers dues
disarmed threads timers dues few none h = record {
  few_timers = few;
  numbers = h.numbers;
  refills = h.refills;
  starts = h.starts;
  timeouts = h.timeouts;
  expiries = λ k lt. h.expiries k lt ∙ sym (none k);
}

-- ---- the timers of a script

decl_disarmed : (d : Decl) → option_and_then (λ (x : Timer). x.due) (named timer_kind d) ≡ None
decl_disarmed (decl.Named name (kind.Timer signal value real)) = refl
decl_disarmed (decl.Named name other) = refl
decl_disarmed (decl.Action signal handler) = refl

first_disarmed : (d : Decl) (x : Timer) → named timer_kind d ≡ Some x → x.due ≡ None
first_disarmed d x e = sym (ap (option_and_then (λ (y : Timer). y.due)) e) ∙ decl_disarmed d

one_more : (o : Option Timer) (d : Decl) (decls : List Decl) → named timer_kind d ≡ o → ((k : ℕ) → (timer_in (filter_map (named timer_kind) decls) k).due ≡ None) →
    (k : ℕ) → (timer_in (filter_map (named timer_kind) (d ∷ decls)) k).due ≡ None
one_more None d decls e rest k = rw e (rest k)
one_more (Some x) d decls e rest zero = rw e (first_disarmed d x e)
one_more (Some x) d decls e rest (suc k) = rw e (rest k)

-- none of them is armed
pub all_disarmed : (decls : List Decl) (k : ℕ) → (timer_in (filter_map (named timer_kind) decls) k).due ≡ None
all_disarmed [] k = refl
all_disarmed (d ∷ decls) k = one_more (named timer_kind d) d decls refl (all_disarmed decls) k
