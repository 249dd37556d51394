-- One server more takes a line in.
use Rattle.std.proofs.Common.{◌≡◌, ◌∙◌, ℕ, ◌+◌, ◌<◌, List, [], ◌∷◌, ◌++◌, Option, None, Some, length, get_or, take, drop, map, sym, ap, add-one, drop-cons, refl, arith, IfNone}
use Rattle.std.specs.Prelude.{slice_set}
use Rattle.std.proofs.lemmas.List.{drop-set-lt, take_more_set, map-append}
use Rattle.std.proofs.lemmas.Grind.{common_steps}
use Rattle.tool_check.specs.Lines.{Reading}
use Rattle.tool_audit.specs.Breach.{least}
use Rattle.tool_audit.specs.Watch.{Watched, any_breaks, watched_after, watched_breaks}

least_of_three : (a b c : Option ℕ) → least (least a b) c ≡ least a (least b c)
least_of_three None b c = refl
least_of_three (Some a) None c = refl
least_of_three (Some a) (Some b) None = refl
least_of_three (Some a) (Some b) (Some c) = grind arith

none_of_two : (a b : Option ℕ) → least a b ≡ None → (a ≡ None) × (b ≡ None)
none_of_two None b e = (refl, e)
none_of_two (Some a) None e = absurd (grind arith)
none_of_two (Some a) (Some b) e = absurd (grind arith)

where_none : (o : Option ℕ) (P : Type 0) → IfNone o P → o ≡ None → P
where_none None P h e = h
where_none (Some n) P h e = absurd (grind arith)

if_none : (o : Option ℕ) (P : Type 0) → (o ≡ None → P) → IfNone o P
if_none None P h = h refl
if_none (Some n) P h = tt

ahead : (xs : List Watched) (i : ℕ) (d : Watched) → i < length xs → drop i xs ≡ get_or xs i d ∷ drop (i + 1) xs
ahead xs i d lt = rw add-one (drop-cons xs i d lt)

behind : (xs : List Watched) (i : ℕ) (d : Watched) → i < length xs → take (i + 1) xs ≡ take i xs ++ get_or xs i d ∷ []
behind xs i d lt = grind (arith, common_steps)

first_same : {a b : Watched} {vs us : List Watched} → a ∷ vs ≡ b ∷ us → a ≡ b
first_same e = cc

rest_same : {a b : Watched} {vs us : List Watched} → a ∷ vs ≡ b ∷ us → vs ≡ us
rest_same e = cc

-- the servers as they were and as they are, of which the one at i takes the line in
module _ (r : Reading) (xs ys : List Watched) (i : ℕ) (d new : Watched) (found rule more : Option ℕ)
    (within : i < length xs) (same : length ys ≡ length xs) (left : drop i ys ≡ drop i xs)
    (breaks : rule ≡ watched_breaks (get_or ys i d) r) (taken : IfNone rule (new ≡ watched_after r (get_or ys i d))) (found_now : more ≡ least found rule) where
  in_ys : i < length ys
  in_ys = omega arith

  heads : get_or ys i d ∷ drop (i + 1) ys ≡ get_or xs i d ∷ drop (i + 1) xs
  heads = sym (ahead ys i d in_ys) ∙ (left ∙ ahead xs i d within)

  pub rule_next : (all : Option ℕ) → least found (any_breaks (drop i xs) r) ≡ all → least more (any_breaks (drop (i + 1) xs) r) ≡ all
  rule_next all e =
      let here : drop i xs ≡ get_or ys i d ∷ drop (i + 1) xs = ahead xs i d within ∙ ap (λ (v : Watched). v ∷ drop (i + 1) xs) (sym (first_same heads)) in
      ap (λ (o : Option ℕ). least o (any_breaks (drop (i + 1) xs) r)) found_now
      ∙ (least_of_three found rule (any_breaks (drop (i + 1) xs) r)
      ∙ (ap (λ (o : Option ℕ). least found (least o (any_breaks (drop (i + 1) xs) r))) breaks
      ∙ (sym (ap (λ (vs : List Watched). least found (any_breaks vs r)) here) ∙ e)))

  pub ahead_next : drop (i + 1) (slice_set ys i new) ≡ drop (i + 1) xs
  ahead_next = drop-set-lt (i + 1) ys i new (omega arith) ∙ rest_same heads

  pub after_next : IfNone found (take i ys ≡ map (watched_after r) (take i xs)) → IfNone more (take (i + 1) (slice_set ys i new) ≡ map (watched_after r) (take (i + 1) xs))
  after_next h = if_none more _ (λ none.
      let parts = none_of_two found rule (sym found_now ∙ none) in
      let before = where_none found _ h parts.0 in
      let now = where_none rule _ taken parts.1 in
      take_more_set ys i new in_ys
      ∙ (ap (λ (vs : List Watched). vs ++ new ∷ []) before
      ∙ (ap (λ (v : Watched). map (watched_after r) (take i xs) ++ v ∷ []) (now ∙ ap (watched_after r) (first_same heads))
      ∙ sym (ap (map (watched_after r)) (behind xs i d within) ∙ map-append (watched_after r) (take i xs) (get_or xs i d ∷ [])))))
