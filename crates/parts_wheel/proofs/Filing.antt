-- A wheel that goes on: where each item stands before and after.
use Rattle.std.proofs.Common.{◌≡◌, ◌≢◌, ◌⊎◌, inl, inr, ⊎_elim, ℕ, zero, suc, ◌+◌, ◌*◌, ◌^◌, ◌/◌, ◌%◌, ◌<◌, ◌≤◌, true, Option, Some, None, List, [], ◌∷◌, length, sym, ap, subst, subst₂, if◌then◌else◌, ◌∙◌, arith}
use borrow.Author.Tests.{clash, eq-eqb, apart_eqb}
use Rattle.parts_links.specs.Links.{list_at, stands_in, stands_at}
use Rattle.parts_wheel.specs.Places.{place, list_of, IsBefore}
use Rattle.parts_wheel.proofs.Order.{in_order, keeps_place, no_self, level_inside, slot_inside, lt_or, near, far, later, less_digits, place_from_list, list_order}
use Rattle.parts_wheel.specs.Bits.{is_set}
use Rattle.parts_wheel.specs.Dues.{due_of}
use Rattle.parts_wheel.specs.Slots.{list_for, AreFiled, AreSmall}
use Rattle.parts_wheel.specs.Moves.{AreEmptyBelow, AreToRefile, AreRefiling}
use Rattle.parts_links.proofs.Chains.{equal}

abbrev is_it : {X : Type 0} → Option X → Type 0
is_it (Some x) = Unit {0}
is_it None = ⊥

pub none_some : {X : Type 0} {x : X} → None ≡ Some x → ⊥
none_some {X = X} e = subst (λ (o : Option X). is_it o) (sym e) tt

pub armed_inside : (dues : List (Option ℕ)) (i d : ℕ) → due_of i dues ≡ Some d → i < length dues
armed_inside [] i d e = absurd (none_some e)
armed_inside (o ∷ dues) zero d e = omega arith
armed_inside (o ∷ dues) (suc i) d e = let l : i < length dues = armed_inside dues i d e in omega (arith, l)

pub near_list : (base d : ℕ) → d / 2048 ≡ base / 2048 → list_for base d ≡ d % 2048
near_list base d e = ap (λ b. if b then d % 2048 else 2048 + list_of (place 7 (base / 2048) (d / 2048))) (eq-eqb (d / 2048) (base / 2048) e)

far_list : (base d : ℕ) → d / 2048 ≢ base / 2048 → list_for base d ≡ 2048 + list_of (place 7 (base / 2048) (d / 2048))
far_list base d e = ap (λ b. if b then d % 2048 else 2048 + list_of (place 7 (base / 2048) (d / 2048))) (apart_eqb (d / 2048) (base / 2048) e)

later_block : (base d : ℕ) → base < d → d / 2048 ≢ base / 2048 → base / 2048 < d / 2048
later_block base d l apart = ⊎_elim (λ h. h) (λ h. absurd (apart (omega (arith, h, l)))) (lt_or (base / 2048) (d / 2048))

pub list_small : (base d : ℕ) → base < d → d ≤ 3 * 10 ^ 18 → list_for base d < 3840
list_small base d l small = ⊎_elim
    (λ same. let e = near_list base d same in omega (arith, e))
    (λ apart.
    let e : list_for base d ≡ 2048 + (256 * (place 7 (base / 2048) (d / 2048)).0 + (place 7 (base / 2048) (d / 2048)).1) = far_list base d apart in
    let level = level_inside 7 (base / 2048) (d / 2048) (later_block base d l apart) (omega (arith, small)) in
    let slot = slot_inside 7 (base / 2048) (d / 2048) in omega (arith, e, level, slot))
    (equal (d / 2048) (base / 2048))

-- a list of the lowest level is for one tick
pub near_tick : (base d list : ℕ) → list < 2048 → list ≡ list_for base d → d ≡ base / 2048 * 2048 + list
near_tick base d list low is = ⊎_elim
    (λ same. let e : list ≡ d % 2048 = is ∙ near_list base d same in omega (arith, e, same))
    (λ apart. let e : list ≡ 2048 + list_of (place 7 (base / 2048) (d / 2048)) = is ∙ far_list base d apart in absurd (omega (arith, e, low)))
    (equal (d / 2048) (base / 2048))

-- of two numbers of one slot the later is at a lower level seen from the first
deeper_level : (levels now to d : ℕ) → now < to → to < d → (place levels now d).0 ≡ (place levels now to).0 → (place levels now d).1 ≡ (place levels now to).1 → d < 256 ^ levels
    → (place levels to d).0 < (place levels now to).0
deeper_level zero now to d lt ld same slot small = let s : d < 1 = small in absurd (omega (arith, s, ld))
deeper_level (suc levels) now to d lt ld same slot small =
    ⊎_elim
    (λ tn. let at = near levels now to tn in ⊎_elim
    (λ dn. let there = near levels now d dn in
    absurd (let e : d % 256 ≡ to % 256 = sym (ap (λ (p : ℕ × ℕ). p.1) there) ∙ slot ∙ ap (λ (p : ℕ × ℕ). p.1) at in omega (arith, e, dn, tn, ld)))
    (λ dn. let there = far levels now d dn in
    absurd (let e : suc (place levels (now / 256) (d / 256)).0 ≡ 0 = sym (ap (λ (p : ℕ × ℕ). p.0) there) ∙ same ∙ ap (λ (p : ℕ × ℕ). p.0) at in omega (arith, e)))
    (equal (d / 256) (now / 256)))
    (λ tn. let at = far levels now to tn in ⊎_elim
    (λ dn. let there = near levels now d dn in
    absurd (let e : 0 ≡ suc (place levels (now / 256) (to / 256)).0 = sym (ap (λ (p : ℕ × ℕ). p.0) there) ∙ same ∙ ap (λ (p : ℕ × ℕ). p.0) at in omega (arith, e)))
    (λ dn. let there = far levels now d dn in ⊎_elim
    (λ dt. let e : (place (suc levels) to d).0 ≡ 0 = ap (λ (p : ℕ × ℕ). p.0) (near levels to d dt) in
    let f : (place (suc levels) now to).0 ≡ suc (place levels (now / 256) (to / 256)).0 = ap (λ (p : ℕ × ℕ). p.0) at in omega (arith, e, f))
    (λ dt.
    let e : suc (place levels (now / 256) (d / 256)).0 ≡ suc (place levels (now / 256) (to / 256)).0 = sym (ap (λ (p : ℕ × ℕ). p.0) there) ∙ same ∙ ap (λ (p : ℕ × ℕ). p.0) at in
    let f = sym (ap (λ (p : ℕ × ℕ). p.1) there) ∙ slot ∙ ap (λ (p : ℕ × ℕ). p.1) at in
    let under = deeper_level levels (now / 256) (to / 256) (d / 256) (later now to lt tn) (later to d ld dt) (omega (arith, e)) f (less_digits levels d small) in
    let g : (place (suc levels) to d).0 ≡ suc (place levels (to / 256) (d / 256)).0 = ap (λ (p : ℕ × ℕ). p.0) (far levels to d dt) in
    let h : (place (suc levels) now to).0 ≡ suc (place levels (now / 256) (to / 256)).0 = ap (λ (p : ℕ × ℕ). p.0) at in omega (arith, under, g, h))
    (equal (d / 256) (to / 256)))
    (equal (d / 256) (now / 256)))
    (equal (to / 256) (now / 256))

-- of two lists beyond the lowest level the places are in the same order
module _ (base a b : ℕ) (an : a / 2048 ≢ base / 2048) (bn : b / 2048 ≢ base / 2048) where
  far_before : list_for base a < list_for base b → IsBefore (place 7 (base / 2048) (a / 2048)) (place 7 (base / 2048) (b / 2048))
  far_before l =
      let p = place 7 (base / 2048) (a / 2048) in let q = place 7 (base / 2048) (b / 2048) in
      let m : 2048 + list_of p < 2048 + list_of q = subst₂ (λ x y. x < y) (far_list base a an) (far_list base b bn) l in
      list_order p q (slot_inside 7 (base / 2048) (a / 2048)) (slot_inside 7 (base / 2048) (b / 2048)) (omega (arith, m))

  far_same : list_for base a ≡ list_for base b → ((place 7 (base / 2048) (a / 2048)).0 ≡ (place 7 (base / 2048) (b / 2048)).0) × ((place 7 (base / 2048) (a / 2048)).1 ≡ (place 7 (base / 2048) (b / 2048)).1)
  far_same e =
      let p = place 7 (base / 2048) (a / 2048) in let q = place 7 (base / 2048) (b / 2048) in
      let m : 2048 + list_of p ≡ 2048 + list_of q = sym (far_list base a an) ∙ e ∙ far_list base b bn in
      place_from_list p q (slot_inside 7 (base / 2048) (a / 2048)) (slot_inside 7 (base / 2048) (b / 2048)) (omega (arith, m))

-- no list beyond the lowest level is one of it
near_far : (base a b : ℕ) → a / 2048 ≡ base / 2048 → b / 2048 ≢ base / 2048 → list_for base a < list_for base b
near_far base a b an bn = let e = near_list base a an in let f : list_for base b ≡ 2048 + list_of (place 7 (base / 2048) (b / 2048)) = far_list base b bn in omega (arith, e, f)

-- of two later ticks the one with the earlier list is the earlier
by_list : (base a b : ℕ) → base < a → base < b → list_for base a < list_for base b → a < b
by_list base a b la lb l = ⊎_elim
    (λ an. ⊎_elim
    (λ bn. let e = near_list base a an in let f = near_list base b bn in omega (arith, an, bn, e, f, l))
    (λ bn. let m = later_block base b lb bn in omega (arith, m, an))
    (equal (b / 2048) (base / 2048)))
    (λ an. ⊎_elim
    (λ bn. absurd (let m = near_far base b a bn an in omega (arith, m, l)))
    (λ bn. let m = in_order 7 (base / 2048) (a / 2048) (b / 2048) (later_block base a la an) (later_block base b lb bn) (far_before base a b an bn l) in omega (arith, m))
    (equal (b / 2048) (base / 2048)))
    (equal (a / 2048) (base / 2048))

-- of two ticks of one list beyond the lowest level the later has a lower list once the wheel stands at the first
lower : (base to d : ℕ) → base < to → to / 2048 ≢ base / 2048 → d / 2048 ≢ base / 2048 → list_for base d ≡ list_for base to → to < d → d ≤ 3 * 10 ^ 18 → list_for to d ≢ list_for base to
lower base to d lt tn dn same l small other =
    let f : list_for base to ≡ 2048 + list_of (place 7 (base / 2048) (to / 2048)) = far_list base to tn in ⊎_elim
    (λ dt. let e = near_list to d dt in omega (arith, e, f, other))
    (λ dt.
    let p = far_same base d to dn tn same in
    let under = deeper_level 7 (base / 2048) (to / 2048) (d / 2048) (later_block base to lt tn) (later_block to d l dt) p.0 p.1 (omega (arith, small)) in
    let e : list_for to d ≡ 2048 + list_of (place 7 (to / 2048) (d / 2048)) = far_list to d dt in
    let m : 2048 + list_of (place 7 (to / 2048) (d / 2048)) ≡ 2048 + list_of (place 7 (base / 2048) (to / 2048)) = sym e ∙ other ∙ f in
    let q = place_from_list (place 7 (to / 2048) (d / 2048)) (place 7 (base / 2048) (to / 2048)) (slot_inside 7 (to / 2048) (d / 2048)) (slot_inside 7 (base / 2048) (to / 2048)) (omega (arith, m)) in
    omega (arith, under, q.0))
    (equal (d / 2048) (to / 2048))

-- lists below, at and above the one of `to`
module _ (base to d : ℕ) (lt : base < to) (ld : base < d) where
  pub has_gone : list_for base d < list_for base to → d < to
  has_gone l = by_list base d to ld lt l

  pub comes_later : list_for base to < list_for base d → to < d
  comes_later l = by_list base to d lt ld l

  pub keeps_list : list_for base to < list_for base d → list_for base d ≡ list_for to d
  keeps_list l = ⊎_elim
      (λ tn. ⊎_elim
      (λ dn. near_list base d dn ∙ sym (near_list to d (dn ∙ sym tn)))
      (λ dn. far_list base d dn ∙ ap (λ n. 2048 + list_of (place 7 n (d / 2048))) (sym tn) ∙ sym (far_list to d (λ e. dn (e ∙ tn))))
      (equal (d / 2048) (base / 2048)))
      (λ tn. ⊎_elim
      (λ dn. absurd (let m = near_far base d to dn tn in omega (arith, m, l)))
      (λ dn. let before = far_before base to d tn dn l in
      far_list base d dn
      ∙ sym (ap (λ p. 2048 + list_of p) (keeps_place 7 (base / 2048) (to / 2048) (d / 2048) before))
      ∙ sym (far_list to d (λ e. no_self (place 7 (base / 2048) (to / 2048)) (subst (λ x. IsBefore (place 7 (base / 2048) (to / 2048)) (place 7 (base / 2048) x)) e before))))
      (equal (d / 2048) (base / 2048)))
      (equal (to / 2048) (base / 2048))

  pub goes_elsewhere : list_for base d ≡ list_for base to → to < d → d ≤ 3 * 10 ^ 18 → list_for to d ≢ list_for base to
  goes_elsewhere same l small other = ⊎_elim
      (λ tn. ⊎_elim
      (λ dn. let e = near_list base to tn in let f = near_list base d dn in omega (arith, e, f, same, tn, dn, l))
      (λ dn. let m = near_far base to d tn dn in omega (arith, m, same))
      (equal (d / 2048) (base / 2048)))
      (λ tn. ⊎_elim
      (λ dn. let m = near_far base d to dn tn in omega (arith, m, same))
      (λ dn. lower base to d lt tn dn same l small other)
      (equal (d / 2048) (base / 2048)))
      (equal (to / 2048) (base / 2048))

pub sides : (k t : ℕ) → (k < t) ⊎ ((k ≡ t) ⊎ (t < k))
sides k t = ⊎_elim (λ l. inl l) (λ l. ⊎_elim (λ e. inr (inl e)) (λ ne. inr (inr (omega (arith, l, ne)))) (equal k t)) (lt_or k t)

stands_empty : (i : ℕ) (xs : List ℕ) → xs ≡ [] → stands_in i xs ≡ true → ⊥
stands_empty i xs e h = let f : stands_in i [] ≡ true = subst (λ ys. stands_in i ys ≡ true) e h in clash f

module _ (base to : ℕ) (dues : List (Option ℕ)) (lists new : List (List ℕ)) (passed q : List ℕ) (lt : base < to) (small : AreSmall dues) (filed : AreFiled base dues lists passed)
    (empty : AreEmptyBelow (list_for base to) lists) where
  pub to_refile : AreToRefile (list_for base to) to dues lists
  to_refile i h = let o = filed.only_later i (list_for base to) h in (o.0, o.1, λ l. goes_elsewhere base to o.0 lt o.2 (sym o.3) l (small i o.0 o.1))

  module _ (done : AreRefiling (list_for base to) to dues lists new passed q) (all : list_at new (list_for base to) ≡ []) where
    moved_on : (i d : ℕ) → due_of i dues ≡ Some d → base < d →
        ((d ≤ to) × (is_set i q ≡ true)) ⊎ ((to < d) × (stands_at i (list_for to d) new ≡ true))
    moved_on i d due ld =
        let k = list_for base d in let t = list_for base to in
        let h = filed.later i d due ld in
        ⊎_elim
        (λ l. absurd (stands_empty i (list_at lists k) (empty k l) h))
        (λ r. ⊎_elim
        (λ e. let s = subst (λ m. stands_at i m lists ≡ true) e h in
        ⊎_elim
        (λ later. ⊎_elim (λ s2. absurd (stands_empty i (list_at new t) all s2)) (λ s2. inr (later, s2)) (done.later i d s due later))
        (λ gone. ⊎_elim (λ s2. absurd (stands_empty i (list_at new t) all s2)) (λ s2. inl (gone, s2)) (done.gone i d s due gone))
        (lt_or to d))
        (λ l. inr (comes_later base to d lt ld l, subst (λ m. stands_at i m new ≡ true) (keeps_list base to d lt ld l) (done.kept i k (λ e. omega (arith, e, l)) h)))
        r)
        (sides k t)

    pub advanced : AreFiled to dues new q
    advanced = record {
      later = λ i d due l. ⊎_elim (λ a. absurd (omega (arith, a.0, l))) (λ b. b.1) (moved_on i d due (omega (arith, l, lt)));
      gone = λ i d due l. ⊎_elim
          (λ ld. ⊎_elim (λ a. a.1) (λ b. absurd (omega (arith, b.0, l))) (moved_on i d due ld))
          (λ le. done.stays i (filed.gone i d due le))
          (lt_or base d);
      only_later = λ i k h. ⊎_elim
          (λ s. ⊎_elim
          (λ l. absurd (stands_empty i (list_at lists k) (empty k l) s))
          (λ r. ⊎_elim
          (λ e. absurd (stands_empty i (list_at new k) (subst (λ m. list_at new m ≡ []) (sym e) all) h))
          (λ l. let o = filed.only_later i k s in
          let l' = subst (λ m. list_for base to < m) o.3 l in
          (o.0, o.1, comes_later base to o.0 lt o.2 l', o.3 ∙ keeps_list base to o.0 lt o.2 l'))
          r)
          (sides k (list_for base to)))
          (λ r. r.1)
          (done.only_later i k h);
      only_gone = λ i h. ⊎_elim
          (λ s. let o = filed.only_gone i s in (o.0, o.1, omega (arith, o.2, lt)))
          (λ r. r.1)
          (done.only_gone i h);
    }
