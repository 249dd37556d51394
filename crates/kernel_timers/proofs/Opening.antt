-- What the first declarations give, one more at a time.
use Rattle.std.proofs.Common.{◌≡◌, ◌<◌, ℕ, zero, suc, ◌+◌, List, [], ◌∷◌, ◌++◌, refl, sym, ◌∙◌, ap, arith, Option, Some, None, length, take, get_or, append-nil, append_assoc}
use Rattle.std.specs.Prelude.{option_to_list}
use Rattle.std.specs.List.{filter_map}

module _ {X Y : Type 0} (read : X → Option Y) where
  filter_cons : (o : Option Y) (x : X) (xs : List X) → read x ≡ o → filter_map read (x ∷ xs) ≡ option_to_list o ++ filter_map read xs
  filter_cons None x xs is = rw is refl
  filter_cons (Some d) x xs is = rw is refl

  pub read_more : (xs : List X) (i : ℕ) (d : X) → i < length xs → filter_map read (take (i + 1) xs) ≡ filter_map read (take i xs) ++ option_to_list (read (get_or xs i d))
  read_more [] i d lt = absurd (omega arith)
  read_more (x ∷ xs) zero d lt = filter_cons (read x) x [] refl ∙ append-nil (option_to_list (read x))
  read_more (x ∷ xs) (suc i) d lt =
      let one : suc i + 1 ≡ suc (i + 1) = omega arith in
      let ih = read_more xs i d (omega arith) in
      rw one (filter_cons (read x) x (take (i + 1) xs) refl ∙ (ap (λ ys. option_to_list (read x) ++ ys) ih ∙
      (sym (append_assoc (option_to_list (read x)) (filter_map read (take i xs)) (option_to_list (read (get_or xs i d)))) ∙
      ap (λ ys. ys ++ option_to_list (read (get_or xs i d))) (sym (filter_cons (read x) x (take i xs) refl)))))
