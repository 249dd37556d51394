-- What is due first, before and after a change.
use Rattle.std.proofs.Common.{◌≡◌, ◌≢◌, inl, inr, ⊎_elim, ℕ, ◌*◌, ◌^◌, ◌<◌, ◌≤◌, min, true, IfSome, Option, Some, None, is_some, List, length, set, refl, sym, subst, ◌∙◌, arith}
use Rattle.parts_wheel.specs.Dues.{due_of}
use Rattle.parts_wheel.specs.Slots.{IsEarly, IsLeastLater, IsFirstAt}
use Rattle.parts_links.proofs.Chains.{equal}
use Rattle.parts_wheel.proofs.Holding.{set_same, set_other, apart_from}
use Rattle.parts_wheel.proofs.Order.{lt_or}

-- ---- the least later due tick after a change

pub lower_armed : (base id d least : ℕ) (dues : List (Option ℕ)) → IsLeastLater base dues least → base < d → d ≤ least → id < length dues → IsLeastLater base (set dues id (Some d)) d
lower_armed base id d least dues is lt less inside = record {
  least = λ i e due l. ⊎_elim
      (λ same. let s : Some d ≡ Some e = sym (set_same id (Some d) dues inside) ∙ subst (λ m. due_of m (set dues id (Some d)) ≡ Some e) same due in
      let de : d ≡ e = cc in omega (arith, de))
      (λ other. let h = is.least i e (sym (set_other id i (Some d) dues other) ∙ due) l in omega (arith, h, less))
      (equal i id);
  holds = inr (id, set_same id (Some d) dues inside, lt);
}

pub same_armed : (base id d least : ℕ) (dues : List (Option ℕ)) → IsLeastLater base dues least → (base < d → least ≤ d) → due_of id dues ≡ None → id < length dues → IsLeastLater base (set dues id (Some d)) least
same_armed base id d least dues is above none inside = record {
  least = λ i e due l. ⊎_elim
      (λ same. let s : Some d ≡ Some e = sym (set_same id (Some d) dues inside) ∙ subst (λ m. due_of m (set dues id (Some d)) ≡ Some e) same due in
      let de : d ≡ e = cc in (let a = above (omega (arith, de, l)) in omega (arith, de, a)))
      (λ other. is.least i e (sym (set_other id i (Some d) dues other) ∙ due) l)
      (equal i id);
  holds = ⊎_elim (λ n. inl n) (λ h. inr (h.0, set_other id h.0 (Some d) dues (apart_from dues id h.0 least none h.1) ∙ h.1, h.2)) is.holds;
}

-- ---- what is due first after a change

-- nothing that is due then or later comes before
pub early_armed : (dues : List (Option ℕ)) (id d early less : ℕ) → IsEarly dues early → less ≤ early → less ≤ d → id < length dues → IsEarly (set dues id (Some d)) less
early_armed dues id d early less before le here l i e h = ⊎_elim
    (λ same. let q : Some d ≡ Some e = sym (set_same id (Some d) dues l) ∙ subst (λ m. due_of m (set dues id (Some d)) ≡ Some e) same h in
    let de : d ≡ e = cc in omega (arith, de, here))
    (λ other. let under = before i e (sym (set_other id i (Some d) dues other) ∙ h) in omega (arith, under, le))
    (equal i id)

pub front_led : (base id d least : ℕ) (dues : List (Option ℕ)) → IsLeastLater base dues least → base < d → d < least → id < length dues → IsFirstAt (set dues id (Some d)) d (Some id)
front_led base id d least dues is lt less inside = (
  set_same id (Some d) dues inside,
  λ i due. ⊎_elim
      (λ same. omega (arith, same))
      (λ other. absurd (let h = is.least i d (sym (set_other id i (Some d) dues other) ∙ due) lt in omega (arith, h, less)))
      (equal i id),
)

-- a tick before all that is due is before the least later due tick
pub before_least : (base d early least : ℕ) (dues : List (Option ℕ)) → IsLeastLater base dues least → IsEarly dues early → d < early → d ≤ 3 * 10 ^ 18 → d < least
before_least base d early least dues is none less small = ⊎_elim (λ never. omega (arith, never, small)) (λ h. let l = none h.0 least h.1 in omega (arith, l, less)) is.holds

-- the first item that is due then stays so where another falls due at another tick
first_stays : (id d least n : ℕ) (dues : List (Option ℕ)) → IsFirstAt dues least (Some n) → d ≢ least → due_of id dues ≡ None → id < length dues → IsFirstAt (set dues id (Some d)) least (Some n)
first_stays id d least n dues first apart none inside = (
  set_other id n (Some d) dues (apart_from dues id n least none first.0) ∙ first.0,
  λ i due. ⊎_elim
      (λ same. absurd (let s : Some d ≡ Some least = sym (set_same id (Some d) dues inside) ∙ subst (λ m. due_of m (set dues id (Some d)) ≡ Some least) same due in
      let de : d ≡ least = cc in apart de))
      (λ other. first.1 i (sym (set_other id i (Some d) dues other) ∙ due))
      (equal i id),
)

pub first_kept : (id d early least tick : ℕ) (first : Option ℕ) (dues : List (Option ℕ)) → IsFirstAt dues least first → IfSome first (λ _. early ≡ least) → (is_some first ≡ true → d ≢ early) → early ≤ d
    → tick ≡ min least d → due_of id dues ≡ None → id < length dues → IsFirstAt (set dues id (Some d)) tick first
first_kept id d early least tick None dues first same apart le is none inside = tt
first_kept id d early least tick (Some n) dues first same apart le is none inside =
    let at : tick ≡ least = omega (arith, same, le, is) in
    subst (λ t. IsFirstAt (set dues id (Some d)) t (Some n)) (sym at) (first_stays id d least n dues first (λ e. apart refl (e ∙ sym same)) none inside)

pub still_at_once : (first : Option ℕ) (early least d a b : ℕ) → IfSome first (λ _. early ≡ least) → early ≤ d → a ≡ min early d → b ≡ min least d → IfSome first (λ _. a ≡ b)
still_at_once None early least d a b same le is now = tt
still_at_once (Some n) early least d a b same le is now = omega (arith, same, le, is, now)

-- of two items that are due then the one with the lower number is the first
pub first_joins : (id least n : ℕ) (dues : List (Option ℕ)) → IsFirstAt dues least (Some n) → due_of id dues ≡ None → id < length dues → IsFirstAt (set dues id (Some least)) least (Some (min n id))
first_joins id least n dues first none inside =
    let low : (i : ℕ) → due_of i (set dues id (Some least)) ≡ Some least → min n id ≤ i = λ i due. ⊎_elim
    (λ same. omega (arith, same))
    (λ other. let h = first.1 i (sym (set_other id i (Some least) dues other) ∙ due) in omega (arith, h))
    (equal i id) in (
      ⊎_elim
          (λ lt. let is : n ≡ min n id = omega (arith, lt) in
          subst (λ m. due_of m (set dues id (Some least)) ≡ Some least) is (set_other id n (Some least) dues (apart_from dues id n least none first.0) ∙ first.0))
          (λ le. let is : id ≡ min n id = omega (arith, le) in subst (λ m. due_of m (set dues id (Some least)) ≡ Some least) is (set_same id (Some least) dues inside))
          (lt_or n id),
      low,
    )
