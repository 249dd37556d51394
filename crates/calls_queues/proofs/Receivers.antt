-- Whether somebody waits, by who is served first.
use Rattle.std.proofs.Common.{◌≡◌, ◌∙◌, ℕ, zero, suc, Bool, true, false, List, [], ◌∷◌, Option, None, Some, ap, refl, sym}
use Rattle.std.specs.Prelude.{is_some, option_map, slice_index_or, ◌||◌}
use Rattle.std.specs.List.{list_any}
use Rattle.std.specs.Option.{option_map_or}
use Rattle.rules_bodies.specs.declared.cursor.Cursor.{Cursor}
use Rattle.rules_machine.specs.State.{Machine, Wait, Waiting}
use Rattle.rules_machine.specs.Threads.{no_thread}
use Rattle.rules_machine.specs.Waiters.{Waiter, best_waiter, somebody_waits, waits_so}
use Rattle.rules_moves.proofs.Waiters.Best.{best_waits, nobody_waits}

any_more : (b : Bool) (c : Bool) → c ≡ true → (b || c) ≡ true
any_more true c e = refl
any_more false c e = e

any_there : {X : Type 0} (none : X) (p : X → Bool) (n : ℕ) (xs : List X) → p none ≡ false → p (slice_index_or xs n none) ≡ true → list_any p xs ≡ true
any_there none p n [] off on = let e : true ≡ false = sym on ∙ off in cc
any_there none p zero (x ∷ xs) off on = ap (λ (b : Bool). b || list_any p xs) on
any_there none p (suc n) (x ∷ xs) off on = any_more (p x) (list_any p xs) (any_there none p n xs off on)

pub somebody_is : (m : Machine Cursor) (passes : Wait → Bool) (o : Option ℕ) → o ≡ option_map (λ (w : Waiter). w.thread) (best_waiter m passes) → is_some o ≡ somebody_waits m passes
somebody_is m passes o is = ap is_some is ∙ by_best (best_waiter m passes) refl
  where
    by_best : (best : Option Waiter) → best_waiter m passes ≡ best → is_some (option_map (λ (w : Waiter). w.thread) best) ≡ somebody_waits m passes
    by_best None e = sym (nobody_waits m passes e)
    by_best (Some w) e =
        let so = best_waits m passes w e in
        let on : waits_so passes (slice_index_or m.threads w.thread no_thread) ≡ true = ap (λ (x : Option Waiting). option_map_or (λ (v : Waiting). passes v.wait) x false) so.0 ∙ so.1 in
        sym (any_there no_thread (waits_so passes) w.thread m.threads refl on)
