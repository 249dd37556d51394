-- Who is read off the lists is who is served first, and who next.
use Rattle.std.specs.Prelude.{option_map, slice_index_or, if◌then◌else◌, ◌==◌}
use Rattle.std.proofs.Common.{◌≡◌, ◌≢◌, ◌⊎◌, inl, inr, ⊎_elim, ℕ, ◌+◌, ◌<◌, ◌≤◌, Bool, true, false, Option, Some, None, MatchOption, List, [], ◌∷◌, length, slice_get, refl, sym, ap, subst, ◌∙◌, arith, eqb-true}
use borrow.Author.Tests.{clash, eq-eqb}
use Rattle.std.proofs.lemmas.Bool.Decides.{nat_tests}
use Rattle.rules_machine.specs.Lists.{first_by}
use Rattle.words_numbers.specs.Signals.{has_signal}
use Rattle.parts_links.specs.Links.{Lists, list_at, stands_in, stands_at, follower, follower_on, StandOnce}
use Rattle.parts_links.specs.Walks.{since, rest_of}
use Rattle.parts_links.proofs.Chains.{decide, equal}
use Rattle.parts_links.proofs.Standing.{head_in, no_head, within}
use Rattle.parts_links.proofs.Walks.{step, follows_in, follower_stands}
use Rattle.parts_waiters.specs.declared.order.Candidate.{Candidate}
use Rattle.parts_waiters.specs.declared.Place.{Place}
use Rattle.parts_waiters.specs.declared.WaitObj.{WaitObj}
use Rattle.parts_waiters.specs.declared.WaitObj.TheVariants.{SigWait}
use Rattle.parts_waiters.specs.Places.{awaiting_at, best_for, best_of, candidate_of, comes_before, first_after, kept_after, next_of, place_in, same_object, standing_at, stands_before}
use Rattle.parts_waiters.specs.Held.{AreHeld, id_of, number_of}
use Rattle.parts_waiters.specs.Service.{first_holding, AreOrdered, Before, IsServedBefore}
use Rattle.parts_waiters.proofs.Firsts.{after_chosen, awaiting_chosen, chosen_from, first_is, nobody, standing_chosen}
use Rattle.parts_waiters.proofs.Objects.{same_number}
use Rattle.parts_waiters.proofs.Precedence.{before_is, not_back, not_itself}
use Rattle.parts_waiters.proofs.Serving.{served_first, some_same}
use Rattle.parts_waiters.proofs.Waiting.{inside}

abbrev thread_of : Candidate → ℕ
thread_of c = c.thread

-- one that is given back as a thread
pub thread_given : (o : Option ℕ) (n : ℕ) → MatchOption o (256 ≤ n) (λ t. (t ≡ n) × (n < 256)) → n < 256 → o ≡ Some n
thread_given None n m l = absurd (omega (arith, m, l))
thread_given (Some t) n m l = ap Some m.0

-- ---- those that are chosen by their places

module _ (places : List (Option Place)) (f : ℕ → Option Place → Option Candidate) where
  from_zero : (j : ℕ) (o : Option Candidate) → f (0 + j) (place_in places j) ≡ o → f j (place_in places j) ≡ o
  from_zero j o h = let z : 0 + j ≡ j = omega arith in subst (λ m. f m (place_in places j) ≡ o) z h

  to_zero : (j : ℕ) (o : Option Candidate) → f j (place_in places j) ≡ o → f (0 + j) (place_in places j) ≡ o
  to_zero j o h = let z : j ≡ 0 + j = omega arith in subst (λ m. f m (place_in places j) ≡ o) z h

  pub chosen_none : ((j : ℕ) → f j (place_in places j) ≡ None) → option_map thread_of (first_by comes_before (chosen_from f 0 places)) ≡ None
  chosen_none none = ap (option_map thread_of) (nobody f 0 places (λ j l. to_zero j None (none j)))

  pub chosen_first : ((n : ℕ) (p : Option Place) (c : Candidate) → f n p ≡ Some c → c.thread ≡ n) → (n : ℕ) (q : Place) → n < length places → f n (place_in places n) ≡ Some (candidate_of n q)
      → ((j : ℕ) (c : Candidate) → j ≢ n → f j (place_in places j) ≡ Some c → Before (candidate_of n q) c) → option_map thread_of (first_by comes_before (chosen_from f 0 places)) ≡ Some n
  chosen_first own n q lt at first =
      ap (option_map thread_of) (first_is f own (candidate_of n q) 0 places n (lt, to_zero n (Some (candidate_of n q)) at)
      (λ j c apart h. first j c apart (from_zero j (Some c) h.1)))

-- ---- those that wait for one object

standing_told : (obj : WaitObj) (i : ℕ) (o : Option Place) (c : Candidate) → standing_at i obj o ≡ Some c → (q : Place) × (o ≡ Some q) × (same_object q.object obj ≡ true) × (candidate_of i q ≡ c)
standing_told obj i None c e = cc
standing_told obj i (Some q) c e =
    ⊎_elim
    (λ t. (q, refl, t, some_same (sym (ap (λ b. if b then Some (candidate_of i q) else None) t) ∙ e)))
    (λ f. absurd (let no : None ≡ Some c = sym (ap (λ b. if b then Some (candidate_of i q) else None) f) ∙ e in cc))
    (decide (same_object q.object obj))

standing_is : (obj : WaitObj) (i : ℕ) (o : Option Place) (q : Place) → o ≡ Some q → same_object q.object obj ≡ true → standing_at i obj o ≡ Some (candidate_of i q)
standing_is obj i o q at same = ap (standing_at i obj) at ∙ ap (λ b. if b then Some (candidate_of i q) else None) same

own_number : (obj : WaitObj) (i : ℕ) (o : Option Place) (c : Candidate) → standing_at i obj o ≡ Some c → c.thread ≡ i
own_number obj i o c e = let told = standing_told obj i o c e in sym (ap thread_of told.3)

module _ (places : List (Option Place)) (links : Lists) (w : AreHeld places links) (obj : WaitObj) (id : id_of obj < 256) where
  abbrev line : List ℕ
  line = list_at links.lists (number_of obj)

  -- they are those on its list
  pub on_line : (i : ℕ) (q : Place) → place_in places i ≡ Some q → same_object q.object obj ≡ true → stands_in i line ≡ true
  on_line i q at same = subst (λ m. stands_at i m links.lists ≡ true) (eqb-true (number_of q.object) (number_of obj) (sym (same_number q.object obj (w.small i q at) id) ∙ same)) (w.stands i q at)

  pub of_line : (i : ℕ) → stands_in i line ≡ true → (q : Place) × (place_in places i ≡ Some q) × (same_object q.object obj ≡ true)
  of_line i h = let o = w.only i (number_of obj) h in (o.0, o.1.0, same_number o.0.object obj (w.small i o.0 o.1.0) id ∙ eq-eqb (number_of o.0.object) (number_of obj) o.1.1)

  stands_told : (j : ℕ) (c : Candidate) → standing_at j obj (place_in places j) ≡ Some c → (q : Place) × (place_in places j ≡ Some q) × (stands_in j line ≡ true) × (candidate_of j q ≡ c)
  stands_told j c e = let told = standing_told obj j (place_in places j) c e in (told.0, told.1, on_line j told.0 told.1 told.2, told.3)

  nobody_stands : line ≡ [] → (j : ℕ) (o : Option Candidate) → standing_at j obj (place_in places j) ≡ o → o ≡ None
  nobody_stands empty j None e = refl
  nobody_stands empty j (Some c) e = let told = stands_told j c e in absurd (clash (subst (λ xs. stands_in j xs ≡ true) empty told.2))

  first_before : (n : ℕ) (xs : List ℕ) → AreOrdered places xs → Some n ≡ slice_get xs 0 → (u : ℕ) → u ≢ n → stands_in u xs ≡ true → IsServedBefore places n u
  first_before n [] o e u other h = absurd (clash h)
  first_before n (x ∷ xs) o e u other h =
      let same : n ≡ x = some_same e in
      let apart : u ≢ x = (λ s. other (s ∙ sym same)) in
      let later : stands_in u xs ≡ true = grind (arith, nat_tests) in
      subst (λ z. IsServedBefore places z u) (sym same) (served_first places x u xs o.0 later)

  pub best_here : (n : ℕ) → Some n ≡ slice_get line 0 → best_of obj places ≡ Some n
  best_here n e =
      let here = of_line n (head_in n line e) in
      ap (λ cs. option_map thread_of (first_by comes_before cs)) (standing_chosen obj 0 places)
      ∙ chosen_first places (λ i p. standing_at i obj p) (own_number obj) n here.0 (inside places n here.0 here.1) (standing_is obj n (place_in places n) here.0 here.1 here.2)
      (λ j c apart h. let told = stands_told j c h in
      subst (λ (z : Candidate). Before (candidate_of n here.0) z) told.3 (first_before n line (w.ordered (number_of obj)) e j apart told.2 here.0 told.0 here.1 told.1))

  pub best_none : None ≡ slice_get line 0 → best_of obj places ≡ None
  best_none e =
      ap (λ cs. option_map thread_of (first_by comes_before cs)) (standing_chosen obj 0 places)
      ∙ chosen_none places (λ i p. standing_at i obj p) (λ j. nobody_stands (no_head line e) j (standing_at j obj (place_in places j)) refl)

pub best_given : (places : List (Option Place)) (links : Lists) (obj : WaitObj) (m n : ℕ) (o : Option ℕ) → AreHeld places links → id_of obj < 256 → m ≡ number_of obj
    → Some n ≡ slice_get (list_at links.lists m) 0 → n < 256 → MatchOption o (256 ≤ n) (λ t. (t ≡ n) × (n < 256)) → o ≡ best_of obj places
best_given places links obj m n o w id is e lt given =
    thread_given o n given lt ∙ sym (best_here places links w obj id n (subst (λ k. Some n ≡ slice_get (list_at links.lists k) 0) is e))

pub none_given : (places : List (Option Place)) (links : Lists) (obj : WaitObj) (m : ℕ) → AreHeld places links → id_of obj < 256 → m ≡ number_of obj
    → None ≡ slice_get (list_at links.lists m) 0 → None ≡ best_of obj places
none_given places links obj m w id is e = sym (best_none places links w obj id (subst (λ k. None ≡ slice_get (list_at links.lists k) 0) is e))

-- ---- who is served next

before_or_since : (places : List (Option Place)) (t v : ℕ) (xs : List ℕ) → AreOrdered places xs → stands_in t xs ≡ true → stands_in v xs ≡ true → (IsServedBefore places v t) ⊎ (stands_in v (since t xs) ≡ true)
before_or_since places t v [] o ht hv = absurd (clash ht)
before_or_since places t v (x ∷ xs) o ht hv = ⊎_elim
    (λ same. inr (subst (λ ys. stands_in v ys ≡ true) (sym (ap (λ b. if b then x ∷ xs else since t xs) (is_equal x t (sym same)))) hv))
    (λ other.
    let later : stands_in t xs ≡ true = grind (arith, nat_tests) in
    ⊎_elim
    (λ vx. inl (subst (λ z. IsServedBefore places z t) (sym vx) (served_first places x t xs o.0 later)))
    (λ vo. let hv' : stands_in v xs ≡ true = grind (arith, nat_tests) in
    ⊎_elim (λ b. inl b) (λ s. inr (subst (λ ys. stands_in v ys ≡ true) (sym (ap (λ b. if b then x ∷ xs else since t xs) (not_equal x t other))) s)) (before_or_since places t v xs o.1 later hv'))
    (equal v x))
    (equal t x)
  where
    is_equal : (x t : ℕ) → x ≡ t → (x == t) ≡ true
    is_equal x t e = grind (arith, nat_tests)

    not_equal : (x t : ℕ) → t ≢ x → (x == t) ≡ false
    not_equal x t ne = grind (arith, nat_tests)

since_ordered : (places : List (Option Place)) (t : ℕ) (xs : List ℕ) → AreOrdered places xs → AreOrdered places (since t xs)
since_ordered places t [] o = tt
since_ordered places t (x ∷ xs) o = ⊎_elim
    (λ e. subst (λ ys. AreOrdered places ys) (sym (ap (λ b. if b then x ∷ xs else since t xs) e)) o)
    (λ e. subst (λ ys. AreOrdered places ys) (sym (ap (λ b. if b then x ∷ xs else since t xs) e)) (since_ordered places t xs o.1))
    (decide (x == t))

head_or : (v x : ℕ) (xs : List ℕ) → stands_in v (x ∷ xs) ≡ true → (v ≡ x) ⊎ (stands_in v xs ≡ true)
head_or v x xs h = ⊎_elim (λ e. inl e) (λ ne. inr (grind (arith, nat_tests))) (equal v x)

kept_told : (from : Candidate) (o : Option Candidate) (c : Candidate) → kept_after from o ≡ Some c → (o ≡ Some c) × (stands_before from c ≡ true)
kept_told from None c e = cc
kept_told from (Some d) c e =
    ⊎_elim
    (λ t. let same : d ≡ c = some_same (sym (ap (λ b. if b then Some d else None) t) ∙ e) in (ap (λ z. Some z) same, subst (λ (z : Candidate). stands_before from z ≡ true) same t))
    (λ f. absurd (let no : None ≡ Some c = sym (ap (λ b. if b then Some d else None) f) ∙ e in cc))
    (decide (stands_before from d))

kept_is : (from c : Candidate) (o : Option Candidate) → o ≡ Some c → Before from c → kept_after from o ≡ Some c
kept_is from c o is b = ap (kept_after from) is ∙ ap (λ t. if t then Some c else None) (before_is from c b)

none_if : (o : Option Candidate) → ((c : Candidate) → o ≡ Some c → ⊥) → o ≡ None
none_if None never = refl
none_if (Some c) never = absurd (never c refl)

module _ (places : List (Option Place)) (links : Lists) (w : AreHeld places links) (once : StandOnce links) (t : ℕ) (p : Place) (at : place_in places t ≡ Some p) where
  abbrev own : Candidate
  own = candidate_of t p

  abbrev line_of : List ℕ
  line_of = list_at links.lists (number_of p.object)

  small : id_of p.object < 256
  small = w.small t p at

  here : stands_in t line_of ≡ true
  here = w.stands t p at

  few : number_of p.object < length links.lists
  few = within t (number_of p.object) links.lists here

  pub follows_here : follower_on t links.lists ≡ follower t line_of
  follows_here = follows_in links once t (number_of p.object) few here

  split : since t line_of ≡ t ∷ rest_of (follower t line_of) line_of
  split = step t line_of (once.distinct (number_of p.object) few) here

  -- one that stands behind t is among those that follow
  behind : (j : ℕ) (c : Candidate) → kept_after own (standing_at j p.object (place_in places j)) ≡ Some c → (q : Place) × (place_in places j ≡ Some q) × (stands_in j (rest_of (follower t line_of) line_of) ≡ true) × (candidate_of j q ≡ c)
  behind j c e =
      let kept = kept_told own (standing_at j p.object (place_in places j)) c e in
      let told = stands_told places links w p.object small j c kept.0 in
      let ahead : stands_before own (candidate_of j told.0) ≡ true = subst (λ (z : Candidate). stands_before own z ≡ true) (sym told.3) kept.1 in (
        told.0,
        told.1,
        ⊎_elim
            (λ b. absurd (clash (sym (not_back (candidate_of j told.0) own (b told.0 p told.1 at)) ∙ ahead)))
            (λ s. ⊎_elim
            (λ same. absurd (let q_is : p ≡ told.0 = some_same (sym at ∙ subst (λ m. place_in places m ≡ Some told.0) same told.1) in
            clash (sym (not_itself own) ∙ subst (λ (z : Candidate). stands_before own z ≡ true) (ap (λ m. candidate_of m told.0) same ∙ ap (λ z. candidate_of t z) (sym q_is)) ahead)))
            (λ r. r)
            (head_or j t (rest_of (follower t line_of) line_of) (subst (λ ys. stands_in j ys ≡ true) split s)))
            (before_or_since places t j line_of (w.ordered (number_of p.object)) here told.2),
        told.3,
      )

  as_after : next_of t places ≡ first_after p.object own places
  as_after = ap (λ (o : Option Place). Rattle.parts_waiters.specs.Places.next_at t places o) at

  as_chosen : first_after p.object own places ≡ option_map thread_of (first_by comes_before (chosen_from (λ i o. kept_after own (standing_at i p.object o)) 0 places))
  as_chosen = ap (λ cs. option_map thread_of (first_by comes_before cs)) (after_chosen own p.object 0 places)

  pub next_none : follower t line_of ≡ None → next_of t places ≡ None
  next_none e =
      as_after ∙ as_chosen
      ∙ chosen_none places (λ i o. kept_after own (standing_at i p.object o))
      (λ j. none_if (kept_after own (standing_at j p.object (place_in places j))) (λ c h. let b = behind j c h in clash (subst (λ (o : Option ℕ). stands_in j (rest_of o line_of) ≡ true) e b.2)))

  pub next_here : (u : ℕ) → follower t line_of ≡ Some u → next_of t places ≡ Some u
  next_here u e =
      let hu = follower_stands t u line_of e in
      let rest : rest_of (follower t line_of) line_of ≡ u ∷ rest_of (follower u line_of) line_of = ap (λ (o : Option ℕ). rest_of o line_of) e ∙ step u line_of (once.distinct (number_of p.object) few) hu in
      let o = subst (λ ys. AreOrdered places ys) (split ∙ ap (λ ys. t ∷ ys) rest) (since_ordered places t line_of (w.ordered (number_of p.object))) in
      let there = of_line places links w p.object small u hu in
      as_after ∙ as_chosen
      ∙ chosen_first places (λ i o. kept_after own (standing_at i p.object o)) (λ i o c h. own_number p.object i o c (kept_told own (standing_at i p.object o) c h).0) u there.0 (inside places u there.0 there.1)
      (kept_is own (candidate_of u there.0) (standing_at u p.object (place_in places u)) (standing_is p.object u (place_in places u) there.0 there.1 there.2) (o.0.0 p there.0 at there.1))
      (λ j c apart h. let b = behind j c h in
      subst (λ (z : Candidate). Before (candidate_of u there.0) z) b.3
      (⊎_elim (λ same. absurd (apart same)) (λ r. served_first places u j (rest_of (follower u line_of) line_of) o.1.0 r there.0 b.0 there.1 b.1)
      (head_or j u (rest_of (follower u line_of) line_of) (subst (λ ys. stands_in j ys ≡ true) rest b.2))))

-- ---- who is served first of those that wait for a signal

abbrev holds_it : ℕ → List ℕ → ℕ → Bool
holds_it sig sets j = has_signal (slice_index_or sets j 0) sig

module _ (sig : ℕ) (sets : List ℕ) where
  first_told : (places : List (Option Place)) (n : ℕ) (xs : List ℕ) → AreOrdered places xs → first_holding sig sets xs ≡ Some n
      → (stands_in n xs ≡ true) × (holds_it sig sets n ≡ true) × ((j : ℕ) → stands_in j xs ≡ true → holds_it sig sets j ≡ true → j ≢ n → IsServedBefore places n j)
  first_told places n [] o e = cc
  first_told places n (x ∷ xs) o e =
      ⊎_elim
      (λ t. let same : x ≡ n = some_same (sym (ap (λ b. if b then Some x else first_holding sig sets xs) t) ∙ e) in (
        grind (arith, nat_tests),
        subst (λ m. holds_it sig sets m ≡ true) same t,
        λ j hj holds apart. let later : stands_in j xs ≡ true = grind (arith, nat_tests) in subst (λ z. IsServedBefore places z j) same (served_first places x j xs o.0 later),
      ))
      (λ f. let rest = first_told places n xs o.1 (sym (ap (λ b. if b then Some x else first_holding sig sets xs) f) ∙ e) in
      let in_rest : stands_in n xs ≡ true = rest.0 in (
        grind (arith, nat_tests, in_rest),
        rest.1,
        λ j hj holds apart. ⊎_elim (λ same. absurd (clash (sym f ∙ subst (λ m. holds_it sig sets m ≡ true) same holds))) (λ r. rest.2 j r holds apart) (head_or j x xs hj),
      ))
      (decide (holds_it sig sets x))

  none_told : (xs : List ℕ) → first_holding sig sets xs ≡ None → (j : ℕ) → stands_in j xs ≡ true → holds_it sig sets j ≡ false
  none_told [] e j h = absurd (clash h)
  none_told (x ∷ xs) e j h =
      ⊎_elim
      (λ t. absurd (let no : Some x ≡ None = sym (ap (λ b. if b then Some x else first_holding sig sets xs) t) ∙ e in cc))
      (λ f. ⊎_elim (λ same. subst (λ m. holds_it sig sets m ≡ false) (sym same) f) (λ r. none_told xs (sym (ap (λ b. if b then Some x else first_holding sig sets xs) f) ∙ e) j r) (head_or j x xs h))
      (decide (holds_it sig sets x))

  awaiting_told : (i : ℕ) (o : Option Place) (c : Candidate) → awaiting_at sig sets i o ≡ Some c → (holds_it sig sets i ≡ true) × (standing_at i SigWait o ≡ Some c)
  awaiting_told i o c e =
      ⊎_elim
      (λ t. (t, sym (ap (λ b. if b then standing_at i SigWait o else None) t) ∙ e))
      (λ f. absurd (let no : None ≡ Some c = sym (ap (λ b. if b then standing_at i SigWait o else None) f) ∙ e in cc))
      (decide (holds_it sig sets i))

  module _ (places : List (Option Place)) (links : Lists) (w : AreHeld places links) where
    zero_small : id_of SigWait < 256
    zero_small = omega arith

    pub awaits_here : (n : ℕ) → first_holding sig sets (list_at links.lists 1280) ≡ Some n → best_for sig sets places ≡ Some n
    awaits_here n e =
        let told = first_told places n (list_at links.lists 1280) (w.ordered 1280) e in
        let there = of_line places links w SigWait zero_small n told.0 in
        ap (λ cs. option_map thread_of (first_by comes_before cs)) (awaiting_chosen sig sets 0 places)
        ∙ chosen_first places (λ i o. awaiting_at sig sets i o) (λ i o c h. own_number SigWait i o c (awaiting_told i o c h).1) n there.0 (inside places n there.0 there.1)
        (ap (λ b. if b then standing_at n SigWait (place_in places n) else None) told.1 ∙ standing_is SigWait n (place_in places n) there.0 there.1 there.2)
        (λ j c apart h. let a = awaiting_told j (place_in places j) c h in let s = stands_told places links w SigWait zero_small j c a.1 in
        subst (λ (z : Candidate). Before (candidate_of n there.0) z) s.3 (told.2 j s.2 a.0 apart there.0 s.0 there.1 s.1))

    pub awaits_none : first_holding sig sets (list_at links.lists 1280) ≡ None → best_for sig sets places ≡ None
    awaits_none e =
        ap (λ cs. option_map thread_of (first_by comes_before cs)) (awaiting_chosen sig sets 0 places)
        ∙ chosen_none places (λ i o. awaiting_at sig sets i o)
        (λ j. none_if (awaiting_at sig sets j (place_in places j)) (λ c h. let a = awaiting_told j (place_in places j) c h in let s = stands_told places links w SigWait zero_small j c a.1 in
        clash (sym (none_told (list_at links.lists 1280) e j s.2) ∙ a.0)))
