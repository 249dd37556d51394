-- Waiters that come and go, and who is served first, and who next.
use Rattle.std.specs.Prelude.{IsSome, option_map}
use Rattle.std.proofs.Common.{◌≡◌, ◌≢◌, ◌⊎◌, inl, inr, ⊎_elim, ℕ, zero, suc, ◌<◌, ◌≤◌, true, false, replicate, Option, Some, None, List, [], ◌∷◌, length, map, get_or, set, refl, sym, ap, subst, ◌∙◌, arith}
use borrow.Author.Tests.{clash}
use Rattle.std.proofs.lemmas.List.{get_or-set_same, get_or-set_other, get_or_default}
use Rattle.std.proofs.Math.ListN.{length-set}
use Rattle.std.proofs.lemmas.Bool.Decides.{nat_tests}
use Rattle.parts_links.specs.Links.{Lists, list_at, stands_in, stands_at, on_a_list, without}
use Rattle.parts_links.proofs.Chains.{decide, equal}
use Rattle.parts_links.proofs.Standing.{stays_in, at_map, length_without, off_at, off_all, on_at}
use Rattle.parts_waiters.specs.declared.Place.{Place}
use Rattle.parts_waiters.specs.Places.{candidate_of, place_in, repriced}
use Rattle.parts_waiters.specs.Held.{AreHeld, WaitsAt, id_of, number_of}
use Rattle.parts_waiters.specs.Service.{stood_at, AreOrdered}
use Rattle.parts_waiters.proofs.Serving.{served_in, in_served, served_there, ordered_served, ordered_same, served_same, ordered_without, HavePlaces, AreSame, some_same}

abbrev is_it : {X : Type 0} → Option X → Type 0
is_it (Some x) = Unit {0}
is_it None = ⊥

none_some : {X : Type 0} {x : X} → None ≡ Some x → ⊥
none_some {X = X} e = subst (λ (o : Option X). is_it o) (sym e) tt

set_same : (i : ℕ) (v : Option Place) (places : List (Option Place)) → i < length places → place_in (set places i v) i ≡ v
set_same i v places l = get_or-set_same places i v None l

set_other : (i j : ℕ) (v : Option Place) (places : List (Option Place)) → j ≢ i → place_in (set places i v) j ≡ place_in places j
set_other i j v places other = get_or-set_other places i j v None other

pub inside : (places : List (Option Place)) (i : ℕ) (p : Place) → place_in places i ≡ Some p → i < length places
inside [] i p e = absurd (none_some e)
inside (o ∷ places) zero p e = omega arith
inside (o ∷ places) (suc i) p e = let l : i < length places = inside places i p e in omega (arith, l)

same_all : (a b : List (Option Place)) (xs : List ℕ) → ((i : ℕ) → stands_in i xs ≡ true → place_in a i ≡ place_in b i) → AreSame a b xs
same_all a b [] each = tt
same_all a b (x ∷ xs) each = (each x (grind (arith, nat_tests)), same_all a b xs (λ i h. each i (grind (arith, nat_tests))))

have_all : (places : List (Option Place)) (t : ℕ) (p : Place) (xs : List ℕ) → ((i : ℕ) → stands_in i xs ≡ true → ((q : Place) × (place_in places i ≡ Some q)) × (i ≢ t)) → HavePlaces places (candidate_of t p) xs
have_all places t p [] each = tt
have_all places t p (x ∷ xs) each =
    let here = each x (grind (arith, nat_tests)) in
    ((here.0.0, here.0.1, λ same. here.1 (sym same)), have_all places t p xs (λ i h. each i (grind (arith, nat_tests))))

-- ---- one begins to wait

module _ (places : List (Option Place)) (links : Lists) (t : ℕ) (p : Place) (w : AreHeld places links) (none : place_in places t ≡ None) (known : t < length places) where
  pub off_list : (k : ℕ) → stands_at t k links.lists ≡ false
  off_list k = ⊎_elim (λ h. absurd (let o = w.only t k h in none_some (sym none ∙ o.1.0))) (λ f. f) (decide (stands_at t k links.lists))

  pub off : on_a_list t links.lists ≡ false
  off = off_all t links.lists off_list

  other_of : (i k : ℕ) → stands_at i k links.lists ≡ true → i ≢ t
  other_of i k h same = clash (sym (off_list k) ∙ subst (λ m. stands_at m k links.lists ≡ true) same h)

  module _ (new : Lists) (is : new ≡ record links { lists = set links.lists (number_of p.object) (stood_at places (candidate_of t p) (list_at links.lists (number_of p.object))) })
      (small : number_of p.object < 1281) (id : id_of p.object < 256) where
    abbrev after : List (Option Place)
    after = set places t (Some p)

    lists_is : new.lists ≡ set links.lists (number_of p.object) (stood_at places (candidate_of t p) (list_at links.lists (number_of p.object)))
    lists_is = ap (λ (l : Lists). l.lists) is

    list_here : list_at new.lists (number_of p.object) ≡ stood_at places (candidate_of t p) (list_at links.lists (number_of p.object))
    list_here = ap (λ (ls : List (List ℕ)). list_at ls (number_of p.object)) lists_is
        ∙ get_or-set_same links.lists (number_of p.object) (stood_at places (candidate_of t p) (list_at links.lists (number_of p.object))) [] (omega (arith, small, w.lists))

    list_other : (k : ℕ) → k ≢ number_of p.object → list_at new.lists k ≡ list_at links.lists k
    list_other k other = ap (λ (ls : List (List ℕ)). list_at ls k) lists_is
        ∙ get_or-set_other links.lists (number_of p.object) k (stood_at places (candidate_of t p) (list_at links.lists (number_of p.object))) [] other

    now_at : (i : ℕ) (q : Place) → place_in after i ≡ Some q → ((i ≡ t) × (p ≡ q)) ⊎ ((i ≢ t) × (place_in places i ≡ Some q))
    now_at i q h = ⊎_elim
        (λ same. inl (same, some_same (sym (set_same t (Some p) places known) ∙ subst (λ m. place_in after m ≡ Some q) same h)))
        (λ other. inr (other, sym (set_other t i (Some p) places other) ∙ h))
        (equal i t)

    stays : (i k : ℕ) → stands_at i k links.lists ≡ true → stands_at i k new.lists ≡ true
    stays i k h = ⊎_elim
        (λ e. subst (λ m. stands_at i m new.lists ≡ true) (sym e) (subst (λ xs. stands_in i xs ≡ true) (sym list_here) (in_served places (candidate_of t p) i (list_at links.lists (number_of p.object)) (subst (λ m. stands_at i m links.lists ≡ true) e h))))
        (λ other. subst (λ xs. stands_in i xs ≡ true) (sym (list_other k other)) h)
        (equal k (number_of p.object))

    still : (i k : ℕ) → stands_at i k links.lists ≡ true → (q : Place) × WaitsAt after k i q
    still i k h = let o = w.only i k h in (o.0, (set_other t i (Some p) places (other_of i k h) ∙ o.1.0, o.1.1))

    same_places : (k : ℕ) → AreSame places after (list_at links.lists k)
    same_places k = same_all places after (list_at links.lists k) (λ i h. sym (set_other t i (Some p) places (other_of i k h)))

    ordered_here : AreOrdered after (stood_at places (candidate_of t p) (list_at links.lists (number_of p.object)))
    ordered_here =
        let xs = list_at links.lists (number_of p.object) in let same = same_places (number_of p.object) in
        subst (λ zs. AreOrdered after zs) (sym (served_same places after (candidate_of t p) xs same))
        (ordered_served after p t (set_same t (Some p) places known) xs
        (have_all after t p xs (λ i h. let o = w.only i (number_of p.object) h in let other = other_of i (number_of p.object) h in ((o.0, set_other t i (Some p) places other ∙ o.1.0), other)))
        (ordered_same places after xs same (w.ordered (number_of p.object))))

    pub entered : AreHeld (set places t (Some p)) new
    entered = record {
      nodes = ap (λ (l : Lists). l.nodes) is ∙ w.nodes;
      lists = ap length lists_is ∙ length-set links.lists (number_of p.object) (stood_at places (candidate_of t p) (list_at links.lists (number_of p.object))) ∙ w.lists;
      few = omega (arith, w.few, length-set places t (Some p));
      small = λ i q h. ⊎_elim (λ e. subst (λ (z : Place). id_of z.object < 256) e.1 id) (λ o. w.small i q o.1) (now_at i q h);
      stands = λ i q h. ⊎_elim
          (λ e. subst (λ (z : Place). stands_at i (number_of z.object) new.lists ≡ true) e.1
          (subst (λ m. stands_at m (number_of p.object) new.lists ≡ true) (sym e.0) (subst (λ xs. stands_in t xs ≡ true) (sym list_here) (served_there places (candidate_of t p) (list_at links.lists (number_of p.object))))))
          (λ o. stays i (number_of q.object) (w.stands i q o.1))
          (now_at i q h);
      only = λ i k h. ⊎_elim
          (λ e. let s = subst (λ xs. stands_in i xs ≡ true) (ap (λ m. list_at new.lists m) e ∙ list_here) h in
          ⊎_elim
          (λ same. (p, (subst (λ m. place_in after m ≡ Some p) (sym same) (set_same t (Some p) places known), sym e)))
          (λ r. still i k (subst (λ m. stands_at i m links.lists ≡ true) (sym e) r))
          (served_in places (candidate_of t p) i (list_at links.lists (number_of p.object)) s))
          (λ other. still i k (subst (λ xs. stands_in i xs ≡ true) (list_other k other) h))
          (equal k (number_of p.object));
      ordered = λ k. ⊎_elim
          (λ e. subst (λ zs. AreOrdered after zs) (sym (ap (λ m. list_at new.lists m) e ∙ list_here)) ordered_here)
          (λ other. subst (λ zs. AreOrdered after zs) (sym (list_other k other)) (ordered_same places after (list_at links.lists k) (same_places k) (w.ordered k)))
          (equal k (number_of p.object));
    }

-- ---- one waits no more

module _ (places : List (Option Place)) (links new : Lists) (t : ℕ) (w : AreHeld places links) (known : t < length places) (is : new ≡ record links { lists = map (without t) links.lists })
    (gone : on_a_list t new.lists ≡ false) where
  abbrev left : List (Option Place)
  left = set places t None

  before : (i : ℕ) (q : Place) → place_in left i ≡ Some q → (i ≢ t) × (place_in places i ≡ Some q)
  before i q h =
      let other : i ≢ t = (λ same. none_some (sym (set_same t None places known) ∙ subst (λ m. place_in left m ≡ Some q) same h)) in
      (other, sym (set_other t i None places other) ∙ h)

  list_now : (k : ℕ) → list_at new.lists k ≡ without t (list_at links.lists k)
  list_now k = ap (λ (l : Lists). list_at l.lists k) is ∙ at_map t k links.lists

  not_it : (i k : ℕ) → stands_at i k new.lists ≡ true → i ≢ t
  not_it i k h same = clash (sym (off_at t k new.lists gone) ∙ subst (λ m. stands_at m k new.lists ≡ true) same h)

  stood : (i k : ℕ) → stands_at i k new.lists ≡ true → stands_at i k links.lists ≡ true
  stood i k h = sym (stays_in t i (list_at links.lists k) (not_it i k h)) ∙ subst (λ xs. stands_in i xs ≡ true) (list_now k) h

  pub has_left : AreHeld (set places t None) new
  has_left = record {
    nodes = ap (λ (l : Lists). l.nodes) is ∙ w.nodes;
    lists = ap (λ (l : Lists). length l.lists) is ∙ length_without t links.lists ∙ w.lists;
    few = omega (arith, w.few, length-set places t None);
    small = λ i q h. w.small i q (before i q h).1;
    stands = λ i q h. let b = before i q h in
        subst (λ xs. stands_in i xs ≡ true) (sym (list_now (number_of q.object))) (stays_in t i (list_at links.lists (number_of q.object)) b.0 ∙ w.stands i q b.1);
    only = λ i k h. let o = w.only i k (stood i k h) in (o.0, (set_other t i None places (not_it i k h) ∙ o.1.0, o.1.1));
    ordered = λ k. ordered_same places left (list_at new.lists k)
        (same_all places left (list_at new.lists k) (λ i h. sym (set_other t i None places (not_it i k h))))
        (subst (λ zs. AreOrdered places zs) (sym (list_now k)) (ordered_without places t (list_at links.lists k) (w.ordered k)));
  }

-- ---- nobody waits

none_waits : (n i : ℕ) → place_in (replicate n None) i ≡ None
none_waits zero i = refl
none_waits (suc n) zero = refl
none_waits (suc n) (suc i) = none_waits n i

list_none : (n k : ℕ) → list_at (replicate n []) k ≡ []
list_none zero k = refl
list_none (suc n) zero = refl
list_none (suc n) (suc k) = list_none n k

length_lists : (n : ℕ) → length {A = List ℕ} (replicate n []) ≡ n
length_lists zero = refl
length_lists (suc n) = ap suc (length_lists n)

length_places : (n : ℕ) → length {A = Option Place} (replicate n None) ≡ n
length_places zero = refl
length_places (suc n) = ap suc (length_places n)

pub opened : (n : ℕ) (places : List (Option Place)) (links : Lists) → n ≤ 256 → places ≡ replicate n None → (links.nodes ≡ 256) × (links.lists ≡ replicate 1281 []) → AreHeld places links
opened n places links few e l = record {
  nodes = l.0;
  lists = ap length l.1 ∙ length_lists 1281;
  few = (let k : length places ≡ n = ap length e ∙ length_places n in omega (arith, k, few));
  small = λ i q h. absurd (nobody i q h);
  stands = λ i q h. absurd (nobody i q h);
  only = λ i k h. absurd (clash (subst (λ xs. stands_in i xs ≡ true) (empty k) h));
  ordered = λ k. subst (λ zs. AreOrdered places zs) (sym (empty k)) tt;
} where
  nobody : (i : ℕ) (q : Place) → place_in places i ≡ Some q → ⊥
  nobody i q h = none_some (sym (none_waits n i) ∙ subst (λ ps. place_in ps i ≡ Some q) e h)

  empty : (k : ℕ) → list_at links.lists k ≡ []
  empty k = ap (λ (ls : List (List ℕ)). list_at ls k) l.1 ∙ list_none 1281 k

pub read_at : (places : List (Option Place)) (i : ℕ) (v : Option Place) → v ≡ get_or places i v → i < length places → v ≡ place_in places i
read_at places i v e l = e ∙ get_or_default places i v None l

pub has_place : (o : Option Place) → IsSome o → (p : Place) × (o ≡ Some p)
has_place None h = absurd (clash h)
has_place (Some p) h = (p, refl)

pub on_list : (places : List (Option Place)) (links : Lists) (t : ℕ) → AreHeld places links → IsSome (place_in places t) → (t < length places) × (on_a_list t links.lists ≡ true)
on_list places links t w h = let p = has_place (place_in places t) h in (inside places t p.0 p.1, on_at t (number_of p.0.object) links.lists (w.stands t p.0 p.1))

-- ---- another priority

set_twice : (places : List (Option Place)) (t : ℕ) (a b : Option Place) → set (set places t a) t b ≡ set places t b
set_twice [] t a b = refl
set_twice (o ∷ places) zero a b = refl
set_twice (o ∷ places) (suc t) a b = ap (λ ps. o ∷ ps) (set_twice places t a b)

pub repriced_is : (places : List (Option Place)) (t p : ℕ) (old : Place) → place_in places t ≡ Some old → set (set places t None) t (Some (record old { priority = p })) ≡ repriced t p places
repriced_is places t p old at = set_twice places t None (Some (record old { priority = p })) ∙ ap (λ (o : Option Place). set places t (option_map (λ (x : Place). record x { priority = p }) o)) (sym at)

pub read_place : (places : List (Option Place)) (t : ℕ) (p : Place) (v : Option Place) → v ≡ get_or places t v → v ≡ Some p → t < length places → place_in places t ≡ Some p
read_place places t p v e is l = sym (read_at places t v e l) ∙ is
