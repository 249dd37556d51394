-- Items that are armed and disarmed, and what the slots tell of due ticks.
use Rattle.std.proofs.Common.{ltb-false, ◌≡◌, ◌≢◌, inl, inr, ⊎_elim, ℕ, zero, suc, ◌+◌, ◌*◌, ◌/◌, ◌^◌, ◌-◌, ◌<◌, ◌≤◌, true, false, nat_lt, replicate, Option, Some, None, IfSome, MatchOption, List, [], ◌∷◌, length, get_or, set, refl, sym, ap, subst, ◌∙◌, arith}
use borrow.Author.Tests.{clash}
use Rattle.std.proofs.lemmas.Option.{IfSome_then}
use Rattle.std.proofs.lemmas.List.{get_or_default, get_or-set_same, get_or-set_other}
use Rattle.std.proofs.lemmas.Bool.Decides.{nat_tests}
use Rattle.parts_links.specs.Links.{Lists, list_at, stands_in, on_a_list, stands_at}
use Rattle.parts_wheel.proofs.Order.{lt_or}
use Rattle.parts_wheel.specs.Bits.{is_set, ChangesBit, IsLowestSet, NoneIsSet}
use Rattle.parts_wheel.specs.Dues.{due_of, NoneIsDue, IsFirstDue}
use Rattle.parts_wheel.specs.Slots.{list_for, AreMarked, AreFiled, AreSmall, IsLeastLater, IsLeastNode, IsLeastOf, IsFirstAt, IsLoneOf}
use Rattle.parts_wheel.specs.Moves.{IsFiled, IsTaken, with_last, AreEmptyBelow, AreToRefile, AreRefiling}
use Rattle.parts_wheel.specs.Held.{AreHeld}
use Rattle.parts_links.proofs.Chains.{decide, equal}
use Rattle.parts_links.proofs.Standing.{off_all, on_at, put_stays, put_there, put_back}
use Rattle.parts_wheel.proofs.Stands.{some_length, taken_stays, taken_back, none_in}
use Rattle.parts_wheel.proofs.Filing.{none_some, armed_inside, comes_later, has_gone, near_tick, sides, to_refile, advanced}

-- ---- due ticks after a change

pub set_same : (i : ℕ) (v : Option ℕ) (dues : List (Option ℕ)) → i < length dues → due_of i (set dues i v) ≡ v
set_same i v dues l = get_or-set_same dues i v None l

pub set_other : (i j : ℕ) (v : Option ℕ) (dues : List (Option ℕ)) → j ≢ i → due_of j (set dues i v) ≡ due_of j dues
set_other i j v dues other = get_or-set_other dues i j v None other

pub read_at : (dues : List (Option ℕ)) (at : ℕ) (v : Option ℕ) → v ≡ get_or dues at v → at < length dues → v ≡ due_of at dues
read_at dues at v e l = e ∙ get_or_default dues at v None l

pub same_due : (dues : List (Option ℕ)) (i d e : ℕ) → due_of i dues ≡ Some d → due_of i dues ≡ Some e → d ≡ e
same_due dues i d e h g = let s : Some d ≡ Some e = sym h ∙ g in cc

pub none_armed : (dues : List (Option ℕ)) (i d : ℕ) → due_of i dues ≡ None → due_of i dues ≡ Some d → ⊥
none_armed dues i d h g = none_some (sym h ∙ g)

pub apart_from : (dues : List (Option ℕ)) (id i e : ℕ) → due_of id dues ≡ None → due_of i dues ≡ Some e → i ≢ id
apart_from dues id i e none due same = none_armed dues id e none (subst (λ m. due_of m dues ≡ Some e) same due)

module _ (base id d : ℕ) (dues : List (Option ℕ)) (lists new : List (List ℕ)) (passed q : List ℕ) (filed : AreFiled base dues lists passed) (none : due_of id dues ≡ None) (inside : id < length dues) where
  armed_later : base < d → list_for base d < length lists → AreFiled base (set dues id (Some d)) (with_last (list_for base d) id lists) passed
  armed_later lt few = record {
    later = λ i e due l. ⊎_elim
        (λ same. let s : Some d ≡ Some e = sym (set_same id (Some d) dues inside) ∙ subst (λ m. due_of m (set dues id (Some d)) ≡ Some e) same due in
        let de : d ≡ e = cc in rw (same, ← de) (put_there id (list_for base d) lists few))
        (λ other. put_stays id (list_for base d) lists i (list_for base e) few (filed.later i e (sym (set_other id i (Some d) dues other) ∙ due) l))
        (equal i id);
    gone = λ i e due l. ⊎_elim
        (λ same. let s : Some d ≡ Some e = sym (set_same id (Some d) dues inside) ∙ subst (λ m. due_of m (set dues id (Some d)) ≡ Some e) same due in
        let de : d ≡ e = cc in absurd (omega (arith, de, l, lt)))
        (λ other. filed.gone i e (sym (set_other id i (Some d) dues other) ∙ due) l)
        (equal i id);
    only_later = λ i k h. ⊎_elim
        (λ s. let o = filed.only_later i k s in (o.0, set_other id i (Some d) dues (apart_from dues id i o.0 none o.1) ∙ o.1, o.2, o.3))
        (λ e. (d, subst (λ m. due_of m (set dues id (Some d)) ≡ Some d) (sym e.0) (set_same id (Some d) dues inside), lt, e.1))
        (put_back id (list_for base d) lists i k few h);
    only_gone = λ i h. let o = filed.only_gone i h in (o.0, set_other id i (Some d) dues (apart_from dues id i o.0 none o.1) ∙ o.1, o.2);
  }

  armed_gone : d ≤ base → ChangesBit id true passed q → AreFiled base (set dues id (Some d)) lists q
  armed_gone le c = record {
    later = λ i e due l. ⊎_elim
        (λ same. let s : Some d ≡ Some e = sym (set_same id (Some d) dues inside) ∙ subst (λ m. due_of m (set dues id (Some d)) ≡ Some e) same due in
        let de : d ≡ e = cc in absurd (omega (arith, de, l, le)))
        (λ other. filed.later i e (sym (set_other id i (Some d) dues other) ∙ due) l)
        (equal i id);
    gone = λ i e due l. ⊎_elim
        (λ same. rw same c.changed)
        (λ other. c.others i other ∙ filed.gone i e (sym (set_other id i (Some d) dues other) ∙ due) l)
        (equal i id);
    only_later = λ i k h. let o = filed.only_later i k h in (o.0, set_other id i (Some d) dues (apart_from dues id i o.0 none o.1) ∙ o.1, o.2, o.3);
    only_gone = λ i h. ⊎_elim
        (λ same. (d, subst (λ m. due_of m (set dues id (Some d)) ≡ Some d) (sym same) (set_same id (Some d) dues inside), le))
        (λ other. let o = filed.only_gone i (sym (c.others i other) ∙ h) in (o.0, set_other id i (Some d) dues other ∙ o.1, o.2))
        (equal i id);
  }

  pub armed : (base < d → list_for base d < length lists) → IsFiled base id d lists new passed q → AreFiled base (set dues id (Some d)) new q
  armed few f = ⊎_elim
      (λ lt. let w = f.later lt in rw (w.0, w.1) (armed_later lt (few lt)))
      (λ le. let w = f.gone le in rw (w.0) (armed_gone le w.1))
      (lt_or base d)

  pub off_lists : on_a_list id lists ≡ false
  off_lists = off_all id lists (λ k. ⊎_elim (λ t. absurd (let o = filed.only_later id k t in none_armed dues id o.0 none o.1)) (λ f. f) (decide (stands_at id k lists)))

module _ (base id d : ℕ) (dues : List (Option ℕ)) (lists new : List (List ℕ)) (passed q : List ℕ) (filed : AreFiled base dues lists passed) (due : due_of id dues ≡ Some d) where
  inside : id < length dues
  inside = armed_inside dues id d due

  not_it : (i e : ℕ) → due_of i (set dues id None) ≡ Some e → i ≢ id
  not_it i e h same = none_some (sym (set_same id None dues inside) ∙ subst (λ m. due_of m (set dues id None) ≡ Some e) same h)

  before : (i e : ℕ) → due_of i (set dues id None) ≡ Some e → due_of i dues ≡ Some e
  before i e h = sym (set_other id i None dues (not_it i e h)) ∙ h

  pub disarmed_gone : d ≤ base → ChangesBit id false passed q → AreFiled base (set dues id None) lists q
  disarmed_gone le c = record {
    later = λ i e h l. filed.later i e (before i e h) l;
    gone = λ i e h l. c.others i (not_it i e h) ∙ filed.gone i e (before i e h) l;
    only_later = λ i k h. let o = filed.only_later i k h in
        (o.0, set_other id i None dues (λ same. let g = subst (λ m. due_of m dues ≡ Some o.0) same o.1 in let e = same_due dues id d o.0 due g in omega (arith, e, o.2, le)) ∙ o.1, o.2, o.3);
    only_gone = λ i h. ⊎_elim
        (λ same. absurd (let s = subst (λ m. is_set m q ≡ true) same h in clash (sym c.changed ∙ s)))
        (λ other. let o = filed.only_gone i (sym (c.others i other) ∙ h) in (o.0, set_other id i None dues other ∙ o.1, o.2))
        (equal i id);
  }

  pub disarmed_later : base < d → IsTaken id lists new → AreFiled base (set dues id None) new passed
  disarmed_later lt t = record {
    later = λ i e h l. taken_stays id i (list_for base e) lists new t (not_it i e h) ∙ filed.later i e (before i e h) l;
    gone = λ i e h l. filed.gone i e (before i e h) l;
    only_later = λ i k h. let b = taken_back id i k lists new t h in let o = filed.only_later i k b.0 in (o.0, set_other id i None dues b.1 ∙ o.1, o.2, o.3);
    only_gone = λ i h. let o = filed.only_gone i h in
        (o.0, set_other id i None dues (λ same. let g = subst (λ m. due_of m dues ≡ Some o.0) same o.1 in let e = same_due dues id d o.0 due g in omega (arith, e, o.2, lt)) ∙ o.1, o.2);
  }

  pub stands_later : base < d → on_a_list id lists ≡ true
  stands_later lt = on_at id (list_for base d) lists (filed.later id d due lt)

pub still_small : (dues : List (Option ℕ)) (id : ℕ) (v : Option ℕ) → AreSmall dues → ((d : ℕ) → v ≡ Some d → d ≤ 3 * 10 ^ 18) → id < length dues → AreSmall (set dues id v)
still_small dues id v small here l i d h = ⊎_elim
    (λ same. here d (sym (set_same id v dues l) ∙ subst (λ m. due_of m (set dues id v) ≡ Some d) same h))
    (λ other. small i d (sym (set_other id i v dues other) ∙ h))
    (equal i id)

pub set_twice : (i : ℕ) (v w : Option ℕ) (dues : List (Option ℕ)) → set (set dues i v) i w ≡ set dues i w
set_twice i v w [] = refl
set_twice zero v w (x ∷ dues) = refl
set_twice (suc i) v w (x ∷ dues) = ap (λ ds. x ∷ ds) (set_twice i v w dues)

-- ---- nothing is armed

due_none : (ids i : ℕ) → due_of i (replicate ids None) ≡ None
due_none zero i = refl
due_none (suc ids) zero = refl
due_none (suc ids) (suc i) = due_none ids i

length_none : (ids : ℕ) → length {A = Option ℕ} (replicate ids None) ≡ ids
length_none zero = refl
length_none (suc ids) = ap suc (length_none ids)

list_none : (n k : ℕ) → list_at (replicate n []) k ≡ []
list_none zero k = refl
list_none (suc n) zero = refl
list_none (suc n) (suc k) = list_none n k

length_lists : (n : ℕ) → length {A = List ℕ} (replicate n []) ≡ n
length_lists zero = refl
length_lists (suc n) = ap suc (length_lists n)

pub opened : (ids : ℕ) (dues : List (Option ℕ)) (links : Lists) (occupied passed : List ℕ) → ids ≤ 1024 → dues ≡ replicate ids None → (links.nodes ≡ 1024) × (links.lists ≡ replicate 3840 [])
    → (length occupied ≡ 60) × NoneIsSet occupied → (length passed ≡ 16) × NoneIsSet passed → AreHeld 0 dues links occupied passed
opened ids dues links occupied passed few e l o p = record {
  sized = record { nodes = l.0; lists = ap length l.1 ∙ length_lists 3840; words = o.0 };
  set = p.0;
  few = (let n : length dues ≡ ids = ap length e ∙ length_none ids in omega (arith, n, few));
  marked = λ k. o.1 k ∙ ap (λ (xs : List ℕ). nat_lt 0 (length xs)) (sym (ap (λ (ls : List (List ℕ)). list_at ls k) l.1 ∙ list_none 3840 k));
  filed = record {
    later = λ i d due lt. absurd (never i d due);
    gone = λ i d due le. absurd (never i d due);
    only_later = λ i k h. absurd (let s : stands_in i [] ≡ true = subst (λ xs. stands_in i xs ≡ true) (ap (λ (ls : List (List ℕ)). list_at ls k) l.1 ∙ list_none 3840 k) h in clash s);
    only_gone = λ i h. absurd (clash (sym (p.1 i) ∙ h));
  };
  small = λ i d due. absurd (never i d due);
} where
  never : (i d : ℕ) → due_of i dues ≡ Some d → ⊥
  never i d due = none_armed (replicate ids None) i d (due_none ids i) (subst (λ ds. due_of i ds ≡ Some d) e due)

-- ---- what the slots tell

pub passed_first : (base : ℕ) (dues : List (Option ℕ)) (lists : List (List ℕ)) (passed : List ℕ) (o : Option ℕ) (n : ℕ) → AreFiled base dues lists passed
    → MatchOption o (NoneIsSet passed) (λ p. IsLowestSet passed p × (p < n)) → MatchOption o (NoneIsDue base dues) (λ i. IsFirstDue base dues i)
passed_first base dues lists passed None n filed none = λ i d due. ⊎_elim (λ l. l) (λ le. absurd (clash (sym (none i) ∙ filed.gone i d due le))) (lt_or base d)
passed_first base dues lists passed (Some p) n filed low =
    let o = filed.only_gone p low.0.itself in
    record {
      inside = armed_inside dues p o.0 o.1;
      due = (o.0, o.1, o.2);
      first = λ j e l due. ⊎_elim (λ lt. lt) (λ le. absurd (clash (sym (low.0.below j l) ∙ filed.gone j e due le))) (lt_or base e);
    }

has_head : (xs : List ℕ) → nat_lt 0 (length xs) ≡ true → (x : ℕ) × (stands_in x xs ≡ true)
has_head [] h = absurd (clash h)
has_head (x ∷ xs) h = (x, grind (arith, nat_tests))

pub no_later : (base : ℕ) (dues : List (Option ℕ)) (lists : List (List ℕ)) (occupied passed : List ℕ) → AreFiled base dues lists passed → AreMarked lists occupied → NoneIsSet occupied
    → IsLeastLater base dues (2 ^ 64 - 1)
no_later base dues lists occupied passed filed marked none = record {
  least = λ i d due l. absurd (let k = list_for base d in clash (sym (sym (marked k) ∙ none k) ∙ some_length i (list_at lists k) (filed.later i d due l)));
  holds = inl refl;
}

pub least_at_lowest : (base : ℕ) (dues : List (Option ℕ)) (lists : List (List ℕ)) (occupied passed : List ℕ) (list tick : ℕ) → AreFiled base dues lists passed → AreMarked lists occupied → AreSmall dues
    → IsLowestSet occupied list → IsLeastOf dues (list_at lists list) tick → IsLeastLater base dues tick
least_at_lowest base dues lists occupied passed list tick filed marked small low of =
    let x = has_head (list_at lists list) (sym (marked list) ∙ low.itself) in
    let o = filed.only_later x.0 list x.1 in
    let most : tick ≤ 3 * 10 ^ 18 = (let s = small x.0 o.0 o.1 in let t = of.least x.0 o.0 x.1 o.1 in omega (arith, s, t)) in
    let holder = ⊎_elim (λ never. absurd (omega (arith, never, most))) (λ h. h) of.holds in
    let stood = filed.only_later holder.0 list holder.1 in
    let same = same_due dues holder.0 tick stood.0 holder.2 stood.1 in
    let after : base < tick = omega (arith, stood.2, same) in
    let at : list ≡ list_for base tick = subst (λ t. list ≡ list_for base t) (sym same) stood.3 in
    record {
      least = λ i d due l. let h = filed.later i d due l in let k = list_for base d in
          ⊎_elim (λ less. absurd (clash (sym (low.below k less) ∙ marked k ∙ some_length i (list_at lists k) h)))
          (λ r. ⊎_elim (λ e. of.least i d (subst (λ m. stands_at i m lists ≡ true) e h) due)
          (λ more. let c = comes_later base tick d after l (subst (λ m. m < k) at more) in omega (arith, c)) r)
          (sides k list);
      holds = inr (holder.0, holder.2, after);
    }

pub least_at_tick : (base : ℕ) (dues : List (Option ℕ)) (lists : List (List ℕ)) (occupied passed : List ℕ) (list : ℕ) → AreFiled base dues lists passed → AreMarked lists occupied
    → IsLowestSet occupied list → list < 2048 → IsLeastOf dues (list_at lists list) (base / 2048 * 2048 + list)
least_at_tick base dues lists occupied passed list filed marked low near =
    let x = has_head (list_at lists list) (sym (marked list) ∙ low.itself) in
    let o = filed.only_later x.0 list x.1 in
    record {
      least = λ i d h due. let p = filed.only_later i list h in let e = same_due dues i d p.0 due p.1 in let t = near_tick base p.0 list near p.3 in omega (arith, e, t);
      holds = inr (x.0, x.1, o.1 ∙ ap Some (near_tick base o.0 list near o.3));
    }

-- ---- which item is the first of those that are due next

pub lone_first : (base list tick : ℕ) (lone : Option ℕ) (dues : List (Option ℕ)) (lists : List (List ℕ)) (passed : List ℕ) → AreFiled base dues lists passed → IsLoneOf dues (list_at lists list) tick lone
    → IsFirstAt dues tick lone
lone_first base list tick lone dues lists passed filed of = IfSome_then lone of (λ n k.
    let o = filed.only_later n list k.0 in
    let same = same_due dues n o.0 tick o.1 k.1 in
    let at : list ≡ list_for base tick = subst (λ t. list ≡ list_for base t) same o.3 in
    let after : base < tick = omega (arith, o.2, same) in
    (k.1, λ i due. let e = k.2 i (subst (λ m. stands_at i m lists ≡ true) (sym at) (filed.later i tick due after)) due in omega (arith, e)))

-- a list of the lowest level is for one tick
pub first_at_tick : (base list : ℕ) (first : Option ℕ) (dues : List (Option ℕ)) (lists : List (List ℕ)) (passed : List ℕ) → AreFiled base dues lists passed → list < 2048
    → IfSome first (λ n. IsLeastNode (list_at lists list) n) → IsFirstAt dues (base / 2048 * 2048 + list) first
first_at_tick base list first dues lists passed filed near least = IfSome_then first least (λ n k.
    let o = filed.only_later n list k.stands in
    let t = near_tick base o.0 list near o.3 in
    let at : list ≡ list_for base (base / 2048 * 2048 + list) = subst (λ d. list ≡ list_for base d) t o.3 in
    let after : base < base / 2048 * 2048 + list = omega (arith, o.2, t) in
    (o.1 ∙ ap Some t, λ i due. k.least i (subst (λ m. stands_at i m lists ≡ true) (sym at) (filed.later i (base / 2048 * 2048 + list) due after))))

-- ---- a wheel goes on to its least later due tick

none_held : (xs : List ℕ) → nat_lt 0 (length xs) ≡ false → xs ≡ []
none_held [] h = refl
none_held (x ∷ xs) h = absurd (let l : length (x ∷ xs) ≤ 0 = ltb-false 0 (length (x ∷ xs)) h in let m : suc (length xs) ≤ 0 = l in omega (arith, m))

module _ (base to target : ℕ) (dues : List (Option ℕ)) (lists : List (List ℕ)) (occupied passed : List ℕ) (filed : AreFiled base dues lists passed) (marked : AreMarked lists occupied)
    (is : IsLeastLater base dues to) (most : to ≤ 3 * 10 ^ 18) where
  holder : (i : ℕ) × (due_of i dues ≡ Some to) × (base < to)
  holder = ⊎_elim (λ never. absurd (omega (arith, never, most))) (λ h. h) is.holds

  pub goes_on : base < to
  goes_on = holder.2

  held : is_set (list_for base to) occupied ≡ true
  held = marked (list_for base to) ∙ some_length holder.0 (list_at lists (list_for base to)) (filed.later holder.0 to holder.1 holder.2)

  pub some_held : NoneIsSet occupied → ⊥
  some_held none = clash (sym (none (list_for base to)) ∙ held)

  module _ (low : IsLowestSet occupied target) where
    pub target_is : target ≡ list_for base to
    target_is =
        let x = has_head (list_at lists target) (sym (marked target) ∙ low.itself) in
        let o = filed.only_later x.0 target x.1 in
        ⊎_elim
        (λ less. absurd (let g = has_gone base to o.0 goes_on o.2 (subst (λ m. m < list_for base to) o.3 less) in let l = is.least x.0 o.0 o.1 o.2 in omega (arith, g, l)))
        (λ r. ⊎_elim (λ e. e) (λ more. absurd (clash (sym (low.below (list_for base to) more) ∙ held))) r)
        (sides target (list_for base to))

    pub empty_below : AreEmptyBelow target lists
    empty_below k l = none_held (list_at lists k) (sym (marked k) ∙ low.below k l)

module _ (base to target : ℕ) (dues : List (Option ℕ)) (lists new : List (List ℕ)) (passed q : List ℕ) (is : target ≡ list_for base to) (lt : base < to) (small : AreSmall dues) (filed : AreFiled base dues lists passed)
    (empty : AreEmptyBelow target lists) where
  pub nodes_to_refile : AreToRefile target to dues lists
  nodes_to_refile = subst (λ t. AreToRefile t to dues lists) (sym is) (to_refile base to dues lists new passed q lt small filed (subst (λ t. AreEmptyBelow t lists) is empty))

  pub went_on : AreRefiling target to dues lists new passed q → list_at new target ≡ [] → AreFiled to dues new q
  went_on done all = advanced base to dues lists new passed q lt small filed (subst (λ t. AreEmptyBelow t lists) is empty)
      (subst (λ t. AreRefiling t to dues lists new passed q) is done) (subst (λ t. list_at new t ≡ []) is all)

-- ---- the item that is due next leaves, and the wheel goes on to its tick

pub comes_next : (base to : ℕ) (dues : List (Option ℕ)) → IsLeastLater base dues to → to ≤ 3 * 10 ^ 18 → base < to
comes_next base to dues is most = ⊎_elim (λ never. absurd (omega (arith, never, most))) (λ h. h.2) is.holds

module _ (base id to : ℕ) (dues : List (Option ℕ)) (lists mid new : List (List ℕ)) (passed q : List ℕ) (filed : AreFiled base dues lists passed) (due : due_of id dues ≡ Some to) (small : AreSmall dues)
    (is : IsLeastLater base dues to) (t : IsTaken id lists mid) where
  next_after : base < to
  next_after = comes_next base to dues is (small id to due)

  next_filed : AreFiled base (set dues id None) mid passed
  next_filed = disarmed_later base id to dues lists mid passed passed filed due next_after t

  next_small : AreSmall (set dues id None)
  next_small = still_small dues id None small (λ d h. absurd (none_some h)) (armed_inside dues id to due)

  next_empty : AreEmptyBelow (list_for base to) mid
  next_empty k l = none_in (list_at mid k) (λ i h.
      let o = next_filed.only_later i k h in
      let gone = has_gone base to o.0 next_after o.2 (subst (λ m. m < list_for base to) o.3 l) in
      let least = is.least i o.0 (before base id to dues lists lists passed passed filed due i o.0 o.1) o.2 in omega (arith, gone, least))

  pub next_to_refile : (list : ℕ) → list ≡ list_for base to → AreToRefile list to (set dues id None) mid
  next_to_refile list at = subst (λ m. AreToRefile m to (set dues id None) mid) (sym at) (to_refile base to (set dues id None) mid new passed q next_after next_small next_filed next_empty)

  pub next_left : (list : ℕ) → list ≡ list_for base to → AreRefiling list to (set dues id None) mid new passed q → list_at new list ≡ [] → AreFiled to (set dues id None) new q
  next_left list at done all = advanced base to (set dues id None) mid new passed q next_after next_small next_filed next_empty
      (subst (λ m. AreRefiling m to (set dues id None) mid new passed q) at done) (subst (λ m. list_at new m ≡ []) at all)
