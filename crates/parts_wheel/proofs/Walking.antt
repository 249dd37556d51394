-- A walk along one list for the least due tick.
use Rattle.std.proofs.Common.{◌≡◌, ◌≢◌, ◌⊎◌, inl, inr, ⊎_elim, ℕ, ◌^◌, ◌-◌, ◌≤◌, min, true, false, Option, Some, None, IfSome, is_some, List, [], ◌∷◌, slice_get, refl, sym, ap, subst, ◌∙◌, arith}
use borrow.Author.Tests.{clash}
use Rattle.std.proofs.lemmas.Bool.Decides.{nat_tests}
use Rattle.parts_links.specs.Links.{stands_in, follower, AreDistinct}
use Rattle.parts_links.specs.Walks.{rest_of}
use Rattle.std.proofs.lemmas.Option.{IfSome_then}
use Rattle.parts_links.proofs.Walks.{rest_first, step}
use Rattle.parts_wheel.specs.Dues.{due_of}
use Rattle.parts_wheel.specs.Slots.{IsSooner, IsLeastNode}
use Rattle.parts_links.proofs.Chains.{equal}
use Rattle.parts_wheel.proofs.Order.{lt_or}
use Rattle.parts_wheel.proofs.Holding.{same_due}

-- what the walk has passed is due at this tick or later, and then no other item than this one is
pub record IsWalked (dues : List (Option ℕ)) (items : List ℕ) (at : Option ℕ) (tick : ℕ) (lone : Option ℕ) : Type 0 where
  pub seen : (i d : ℕ) → stands_in i items ≡ true → due_of i dues ≡ Some d → (stands_in i (rest_of at items) ≡ true) ⊎ (tick ≤ d)
  pub holds : (tick ≡ 2 ^ 64 - 1) ⊎ ((i : ℕ) × (stands_in i items ≡ true) × (due_of i dues ≡ Some tick))
  pub alone : IfSome lone (λ n. (stands_in n items ≡ true) × (due_of n dues ≡ Some tick)
      × ((i : ℕ) → stands_in i items ≡ true → due_of i dues ≡ Some tick → (stands_in i (rest_of at items) ≡ true) ⊎ (i ≡ n)))

pub walk_start : (dues : List (Option ℕ)) (items : List ℕ) (o : Option ℕ) → o ≡ slice_get items 0 → IsWalked dues items o (2 ^ 64 - 1) None
walk_start dues items o is = record {
  seen = λ i d h due. inl (subst (λ xs. stands_in i xs ≡ true) (sym (ap (λ a. rest_of a items) is ∙ rest_first items)) h);
  holds = inl refl;
  alone = tt;
}

rest_or : (i n : ℕ) (xs : List ℕ) → i ≢ n → stands_in i (n ∷ xs) ≡ true → stands_in i xs ≡ true
rest_or i n xs other h = grind (arith, nat_tests)

pub walk_on : (dues : List (Option ℕ)) (items : List ℕ) (at o next : Option ℕ) (n e tick : ℕ) (lone : Option ℕ) (now : ℕ) (sole : Option ℕ) → AreDistinct items → at ≡ Some n → stands_in n items ≡ true → next ≡ follower n items → due_of n dues ≡ Some e
    → o ≡ Some e → IsSooner tick lone n o now sole → IsWalked dues items at tick lone → IsWalked dues items next now sole
walk_on dues items at o next n e tick lone now sole distinct is stands follows due read sooner w =
    let step_to = subst (λ (a : Option ℕ). IsSooner tick lone n a now sole) read sooner in
    let split : (i : ℕ) → stands_in i (rest_of at items) ≡ true → (i ≡ n) ⊎ (stands_in i (rest_of next items) ≡ true) = λ i s.
    let s' = subst (λ xs. stands_in i xs ≡ true) (step n items distinct stands) (subst (λ (a : Option ℕ). stands_in i (rest_of a items) ≡ true) is s) in
    ⊎_elim (λ same. inl same) (λ other. inr (subst (λ (a : Option ℕ). stands_in i (rest_of a items) ≡ true) (sym follows) (rest_or i n (rest_of (follower n items) items) other s'))) (equal i n) in
    let low : (now ≤ tick) × (now ≤ e) = ⊎_elim
    (λ a. (omega (arith, a.0, a.1), omega (arith, a.1)))
    (λ r. ⊎_elim (λ b. (omega (arith, b.1), omega (arith, b.0, b.1))) (λ c. (omega (arith, c.1), omega (arith, c.0, c.1))) r) step_to in
    let IsAlone : ℕ → ℕ → Type 0 = λ t m. (stands_in m items ≡ true) × (due_of m dues ≡ Some t)
    × ((i : ℕ) → stands_in i items ≡ true → due_of i dues ≡ Some t → (stands_in i (rest_of next items) ≡ true) ⊎ (i ≡ m)) in
    let kept : now ≡ tick → (now ≡ 2 ^ 64 - 1) ⊎ ((i : ℕ) × (stands_in i items ≡ true) × (due_of i dues ≡ Some now)) = λ same.
    ⊎_elim (λ never. inl (same ∙ never)) (λ h. inr (h.0, h.1, h.2 ∙ ap Some (sym same))) w.holds in
    record {
      seen = λ i d h g. ⊎_elim
          (λ s. ⊎_elim (λ same. inr (let q = same_due dues n e d due (subst (λ m. due_of m dues ≡ Some d) same g) in omega (arith, q, low.1))) (λ r. inl r) (split i s))
          (λ l. inr (omega (arith, l, low.0)))
          (w.seen i d h g);
      holds = ⊎_elim (λ a. inr (n, stands, due ∙ ap Some (sym a.1))) (λ r. ⊎_elim (λ b. kept b.1) (λ c. kept c.1) r) step_to;
      alone = ⊎_elim
          (λ a. subst (λ s. IfSome s (IsAlone now)) (sym a.2) (
            stands,
            due ∙ ap Some (sym a.1),
            λ i h g. ⊎_elim
                (λ s. ⊎_elim (λ same. inr same) (λ r. inl r) (split i s))
                (λ le. absurd (omega (arith, le, a.0)))
                (w.seen i e h (g ∙ ap Some a.1)),
          ))
          (λ r. ⊎_elim
          (λ b. subst (λ s. IfSome s (IsAlone now)) (sym b.2) tt)
          (λ c. subst (λ s. IfSome s (IsAlone now)) (sym c.2) (IfSome_then lone w.alone (λ m k. (
            k.0,
            k.1 ∙ ap Some (sym c.1),
            λ i h g. let g' : due_of i dues ≡ Some tick = g ∙ ap Some c.1 in ⊎_elim
                (λ s. ⊎_elim (λ same. absurd (let q = same_due dues n e tick due (subst (λ m. due_of m dues ≡ Some tick) same g') in omega (arith, q, c.0))) (λ r. inl r) (split i s))
                (λ it. inr it)
                (k.2 i h g'),
          ))))
          r)
          step_to;
    }

pub not_some : (o : Option ℕ) → is_some o ≡ false → o ≡ None
not_some None h = refl
not_some (Some n) h = cc

-- ---- a walk along one list for the least number

-- of the nodes that the walk has passed none has a lower number than this one
pub record IsLeastPassed (items : List ℕ) (at : Option ℕ) (least : ℕ) : Type 0 where
  pub stands : stands_in least items ≡ true
  pub passed : (i : ℕ) → stands_in i items ≡ true → (stands_in i (rest_of at items) ≡ true) ⊎ (least ≤ i)

passed_on : (items : List ℕ) (next : Option ℕ) (n least now : ℕ) → AreDistinct items → stands_in n items ≡ true → next ≡ follower n items → stands_in now items ≡ true → now ≤ least → now ≤ n
    → ((i : ℕ) → stands_in i items ≡ true → (stands_in i (rest_of (Some n) items) ≡ true) ⊎ (least ≤ i)) → IsLeastPassed items next now
passed_on items next n least now distinct stands follows here under low before = record {
  stands = here;
  passed = λ i h. ⊎_elim
      (λ s. let s' = subst (λ xs. stands_in i xs ≡ true) (step n items distinct stands) s in
      ⊎_elim
      (λ same. inr (omega (arith, same, low)))
      (λ other. inl (subst (λ (a : Option ℕ). stands_in i (rest_of a items) ≡ true) (sym follows) (rest_or i n (rest_of (follower n items) items) other s')))
      (equal i n))
      (λ le. inr (omega (arith, le, under)))
      (before i h);
}

pub passed_start : (items : List ℕ) (next : Option ℕ) (n : ℕ) → AreDistinct items → slice_get items 0 ≡ Some n → stands_in n items ≡ true → next ≡ follower n items → IsLeastPassed items next n
passed_start items next n distinct head stands follows =
    passed_on items next n n n distinct stands follows stands (omega arith) (omega arith)
    (λ i h. inl (subst (λ xs. stands_in i xs ≡ true) (sym (ap (λ a. rest_of a items) (sym head) ∙ rest_first items)) h))

pub passed_step : (items : List ℕ) (at next : Option ℕ) (n least now : ℕ) → AreDistinct items → at ≡ Some n → stands_in n items ≡ true → next ≡ follower n items → now ≡ min least n
    → IsLeastPassed items at least → IsLeastPassed items next now
passed_step items at next n least now distinct is stands follows low w =
    let here : stands_in now items ≡ true = ⊎_elim
    (λ l. let e : now ≡ least = omega (arith, l, low) in subst (λ m. stands_in m items ≡ true) (sym e) w.stands)
    (λ l. let e : now ≡ n = omega (arith, l, low) in subst (λ m. stands_in m items ≡ true) (sym e) stands)
    (lt_or least n) in
    passed_on items next n least now distinct stands follows here (omega (arith, low)) (omega (arith, low))
    (subst (λ (a : Option ℕ). (i : ℕ) → stands_in i items ≡ true → (stands_in i (rest_of a items) ≡ true) ⊎ (least ≤ i)) is w.passed)

pub passed_all : (items : List ℕ) (at : Option ℕ) (least : ℕ) → at ≡ None → IsLeastPassed items at least → IsLeastNode items least
passed_all items at least is w = record {
  stands = w.stands;
  least = λ i h. ⊎_elim
      (λ s. let none : stands_in i [] ≡ true = subst (λ (a : Option ℕ). stands_in i (rest_of a items) ≡ true) is s in absurd (clash none))
      (λ le. le)
      (w.passed i h);
}
