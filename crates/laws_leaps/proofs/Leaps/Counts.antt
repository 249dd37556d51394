-- How many leaps a run takes: one more than there are eventful instants inside, at most.
use Rattle.std.proofs.Common.{Bool, ap, arith, false, length, refl, suc, sym, true, zero, ℕ, ◌+◌, ◌<◌, ◌≤◌, ◌++◌, ◌≡◌}
use Rattle.std.specs.Prelude.{filter, ◌-◌, ◌||◌}
use Rattle.std.specs.List.{range_with_len}
use mathlib.Core.Path.{subst, ◌∙◌}
use Rattle.rules_machine.specs.Bodies.{Bodies}
use Rattle.rules_machine.specs.State.{Machine}
use Rattle.rules_machine.specs.Runs.{Ran, ticks}
use Rattle.rules_machine.specs.Eventful.{busy, has_item, is_eventful, next_tick_matters}
use Rattle.rules_machine.proofs.Joined.{ticks_add}
use Rattle.rules_leaps.specs.Leap.{AreLeaps, IsLeap, Leapt, leap_length, leaps, one_before}
use Rattle.laws_leaps.proofs.Leaps.Lengths.{IsReady, is_leap}

-- ---- how many eventful instants

abbrev count : (ℕ → Bool) → ℕ → ℕ → ℕ
count p a n = length (filter p (range_with_len a n))

count_split : (p : ℕ → Bool) (a n d : ℕ) → count p a (n + d) ≡ count p a n + count p (a + n) d
count_split p a zero d = (let none : a + 0 ≡ a = omega arith in let nothing : 0 + d ≡ d = omega arith in let sum : count p (a + 0) d ≡ 0 + count p (a + 0) d = omega arith in ap (count p a) nothing ∙ ap (λ (b : ℕ). count p b d) (sym none) ∙ sum)
count_split p a (suc n) d =
    let more : suc n + d ≡ suc (n + d) = omega arith in
    let on : a + 1 + n ≡ a + suc n = omega arith in
    ap (count p a) more ∙ by_first (p a) refl (count_split p (a + 1) n d ∙ ap (λ (b : ℕ). count p (a + 1) n + count p b d) on)
  where
    by_first : (b : Bool) → p a ≡ b → count p (a + 1) (n + d) ≡ count p (a + 1) n + count p (a + suc n) d → count p a (suc (n + d)) ≡ count p a (suc n) + count p (a + suc n) d
    by_first true e h = rw e (omega (arith, h))
    by_first false e h = rw e h

count_one : (p : ℕ → Bool) (a n : ℕ) → p a ≡ true → count p a (suc n) ≡ 1 + count p (a + 1) n
count_one p a n e = rw e (omega arith)

module _ {P : Type 0} (bodies : Bodies P) where
  -- the instants of a run, from a later one on
  pub eventful_later : (a i : ℕ) (m : Machine P) → is_eventful bodies m (a + suc i) ≡ is_eventful bodies (ticks bodies a m).machine (suc i)
  eventful_later a i m =
      let one_more : a + suc i ≡ suc (a + i) = omega arith in
      let on : suc (a + i) ≡ a + suc i = omega arith in
      ap (is_eventful bodies m) one_more
      ∙ ap (λ (n : ℕ). has_item (ticks bodies n m).machine || next_tick_matters bodies (ticks bodies (a + i) m).machine) on
      ∙ ap (λ (r : Ran P). has_item r.machine || next_tick_matters bodies (ticks bodies (a + i) m).machine) (ticks_add bodies a (suc i) m)
      ∙ ap (λ (r : Ran P). has_item (ticks bodies (suc i) (ticks bodies a m).machine).machine || next_tick_matters bodies r.machine) (ticks_add bodies a i m)

-- ---- eventful instants from a later start on

shifted : (p q : ℕ → Bool) (a b n : ℕ) → ((i : ℕ) → p (a + i) ≡ q (b + i)) → length (filter p (range_with_len a n)) ≡ length (filter q (range_with_len b n))
shifted p q a b zero h = refl
shifted p q a b (suc n) h = by_first (p a) (q b) refl refl same (shifted p q (a + 1) (b + 1) n (λ i. on i))
  where
    same : p a ≡ q b
    same = (let l : a ≡ a + 0 = omega arith in let r : b + 0 ≡ b = omega arith in ap p l ∙ h 0 ∙ ap q r)

    on : (i : ℕ) → p (a + 1 + i) ≡ q (b + 1 + i)
    on i = (let l : a + 1 + i ≡ a + suc i = omega arith in let r : b + suc i ≡ b + 1 + i = omega arith in ap p l ∙ h (suc i) ∙ ap q r)

    by_first : (x y : Bool) → p a ≡ x → q b ≡ y → p a ≡ q b → length (filter p (range_with_len (a + 1) n)) ≡ length (filter q (range_with_len (b + 1) n)) →
        length (filter p (range_with_len a (suc n))) ≡ length (filter q (range_with_len b (suc n)))
    by_first true true e f same rest = rw (e, f) (ap suc rest)
    by_first false false e f same rest = rw (e, f) rest
    by_first true false e f same rest = absurd (no (sym e ∙ same ∙ f))
      where
        no : true ≡ false → ⊥
        no h = absurd (grind arith)
    by_first false true e f same rest = absurd (no (sym e ∙ same ∙ f))
      where
        no : false ≡ true → ⊥
        no h = absurd (grind arith)

-- how busy a run is between two instants, seen from the first of them
pub busy_later : {P : Type 0} (bodies : Bodies P) (start : Machine P) (a b : ℕ) → busy bodies start a b ≡ busy bodies (ticks bodies a start).machine 0 (b - a)
busy_later bodies start a b =
    let there = (ticks bodies a start).machine in
    let each : (i : ℕ) → is_eventful bodies start (a + 1 + i) ≡ is_eventful bodies there (1 + i) =
    λ i. (let l : a + 1 + i ≡ a + suc i = omega arith in let r : suc i ≡ 1 + i = omega arith in ap (is_eventful bodies start) l ∙ eventful_later bodies a i start ∙ ap (is_eventful bodies there) r) in
    let n : b - a - 1 ≡ b - a - 0 - 1 = omega arith in
    shifted (is_eventful bodies start) (is_eventful bodies there) (a + 1) 1 (b - a - 1) each ∙ ap (λ (k : ℕ). length (filter (is_eventful bodies there) (range_with_len 1 k))) n

-- an eventful instant between two is counted
busy_first : {P : Type 0} (bodies : Bodies P) (m : Machine P) (k b : ℕ) → 1 ≤ k → k < b → is_eventful bodies m k ≡ true → busy bodies m k b + 1 ≤ busy bodies m 0 b
busy_first bodies m k b some lt e =
    let p = is_eventful bodies m in
    let n : b - 0 - 1 ≡ (k - 1) + suc (b - k - 1) = omega arith in
    let at : 0 + 1 + (k - 1) ≡ k = omega arith in
    let all = ap (count p (0 + 1)) n ∙ count_split p (0 + 1) (k - 1) (suc (b - k - 1)) in
    let rest = ap (λ (a : ℕ). count p a (suc (b - k - 1))) at ∙ count_one p k (b - k - 1) e in
    omega (arith, all, rest)

-- ---- a run in leaps

module _ {P : Type 0} (bodies : Bodies P) where
  -- every state of the run is one to leap from
  abbrev pub StaysReady : Machine P → Type 0
  StaysReady m = (n : ℕ) → IsReady bodies (ticks bodies n m).machine

  pub ready_on : (k : ℕ) (m : Machine P) → StaysReady m → StaysReady (ticks bodies k m).machine
  ready_on k m ready n = subst (λ (r : Ran P). IsReady bodies r.machine) (ticks_add bodies k n m) (ready (k + n))

  -- one leap, and then those of the rest
  one_leap : (m : Machine P) (most k : ℕ) (rest : Leapt P) → IsLeap bodies (suc most) k m → AreLeaps bodies (suc most - k) (ticks bodies k m).machine rest → AreLeaps bodies (suc most) m (one_before (ticks bodies k m) rest)
  one_leap m most k rest one more = record {
    same =
        ap (λ (r : Ran P). record { machine = r.machine; events = (ticks bodies k m).events ++ r.events }) more.same
        ∙ sym (ticks_add bodies k (suc most - k) m)
        ∙ ap (λ (n : ℕ). ticks bodies n m) all;
    few = by_rest (suc most - k) refl;
    none = λ e. absurd (omega arith);
  }
    where
      all : k + (suc most - k) ≡ suc most
      all = let le = one.within in omega (arith, le)

      by_rest : (n : ℕ) → suc most - k ≡ n → rest.count + 1 ≤ busy bodies m 0 (suc most) + 1
      by_rest zero e = let none = more.none e in omega (arith, none)
      by_rest (suc n) e =
          let some = one.some in
          let lt : k < suc most = omega arith in
          let first = busy_first bodies m k (suc most) some lt (one.ends lt) in
          let later = busy_later bodies m k (suc most) in
          let few = more.few in
          omega (arith, first, later, few)

  pub are_leaps : (bound most : ℕ) (m : Machine P) → most ≤ bound → StaysReady m → AreLeaps bodies most m (leaps bodies bound most m)
  are_leaps zero zero m le ready = record { same = refl; few = omega arith; none = λ e. refl }
  are_leaps zero (suc most) m le ready = absurd (omega arith)
  are_leaps (suc bound) zero m le ready = record { same = refl; few = omega arith; none = λ e. refl }
  are_leaps (suc bound) (suc most) m le ready =
      let k = leap_length bodies (suc most) m in
      let one : IsLeap bodies (suc most) k m = is_leap bodies m (suc most) (omega arith) (ready 0) in
      let some = one.some in
      subst (λ (r : Ran P). AreLeaps bodies (suc most) m (one_before r (leaps bodies bound (suc most - k) r.machine))) (sym one.same)
      (one_leap m most k (leaps bodies bound (suc most - k) (ticks bodies k m).machine) one
      (are_leaps bound (suc most - k) (ticks bodies k m).machine (omega (arith, some, le)) (ready_on k m ready)))
