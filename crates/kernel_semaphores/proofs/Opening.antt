-- What is found in a list, one member more.
use Rattle.std.proofs.Common.{◌≡◌, ◌<◌, ◌∙◌, ℕ, zero, suc, ◌+◌, List, [], ◌∷◌, ◌++◌, Option, None, Some, ap, append-nil, append_assoc, arith, get_or, length, refl, sym, take}
use Rattle.std.specs.List.{filter_map}
use Rattle.std.specs.Prelude.{option_to_list}

module _ {X Y : Type 0} (f : X → Option Y) where
  found_first : (o : Option Y) (x : X) (xs : List X) → f x ≡ o → filter_map f (x ∷ xs) ≡ option_to_list o ++ filter_map f xs
  found_first None x xs is = rw is refl
  found_first (Some y) x xs is = rw is refl

  pub found_more : (xs : List X) (i : ℕ) (d : X) → i < length xs → filter_map f (take (i + 1) xs) ≡ filter_map f (take i xs) ++ option_to_list (f (get_or xs i d))
  found_more [] i d lt = absurd (omega arith)
  found_more (x ∷ xs) zero d lt = found_first (f x) x [] refl ∙ append-nil (option_to_list (f x))
  found_more (x ∷ xs) (suc i) d lt =
      let one : suc i + 1 ≡ suc (i + 1) = omega arith in
      let ih = found_more xs i d (omega arith) in
      rw one (found_first (f x) x (take (i + 1) xs) refl ∙ (ap (λ ys. option_to_list (f x) ++ ys) ih ∙
      (sym (append_assoc (option_to_list (f x)) (filter_map f (take i xs)) (option_to_list (f (get_or xs i d)))) ∙
      ap (λ ys. ys ++ option_to_list (f (get_or xs i d))) (sym (found_first (f x) x (take i xs) refl)))))
