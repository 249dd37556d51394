-- Later numbers stand in the order of their places, and what a step of now does to each place.
use Rattle.std.proofs.Common.{◌≡◌, ◌≢◌, ◌⊎◌, inl, inr, ⊎_elim, if◌then◌else◌, ℕ, zero, suc, ◌+◌, ◌*◌, ◌^◌, ◌<◌, ◌≤◌, ◌/◌, ◌%◌, sym, ap, subst, ◌∙◌, arith, ltb, ltb-true, ltb-false, pow-suc}
use borrow.Author.Tests.{eq-eqb, apart_eqb}
use Rattle.parts_links.proofs.Chains.{decide, equal}
use Rattle.parts_wheel.specs.Places.{place, deeper, IsBefore, list_of}

pub near : (levels now due : ℕ) → due / 256 ≡ now / 256 → place (suc levels) now due ≡ (0, due % 256)
near levels now due e = ap (λ b. if b then (0, due % 256) else deeper (place levels (now / 256) (due / 256))) (eq-eqb (due / 256) (now / 256) e)

pub far : (levels now due : ℕ) → due / 256 ≢ now / 256 → place (suc levels) now due ≡ deeper (place levels (now / 256) (due / 256))
far levels now due e = ap (λ b. if b then (0, due % 256) else deeper (place levels (now / 256) (due / 256))) (apart_eqb (due / 256) (now / 256) e)

rest_small : (n : ℕ) → n % 256 < 256
rest_small n = omega arith

quotient_le : (m n : ℕ) → m ≤ n → m / 256 ≤ n / 256
quotient_le m n l = omega arith

quotient_lt : (m n : ℕ) → m / 256 < n / 256 → m < n
quotient_lt m n l = omega arith

pub no_self : (p : ℕ × ℕ) → IsBefore p p → ⊥
no_self p b = ⊎_elim (λ l. omega (arith, l)) (λ e. let l : p.1 < p.1 = e.1 in omega (arith, l)) b

pub lt_or : (m n : ℕ) → (m < n) ⊎ (n ≤ m)
lt_or m n = ⊎_elim (λ t. inl (ltb-true m n t)) (λ t. inr (ltb-false m n t)) (decide (ltb m n))

apart_less : (d e now : ℕ) → d / 256 ≡ now / 256 → e / 256 ≢ now / 256 → now / 256 ≤ e / 256 → d / 256 < e / 256
apart_less d e now dn en l = ⊎_elim (λ h. h) (λ h. absurd (en (omega (arith, h, l, dn)))) (lt_or (d / 256) (e / 256))

pub later : (now d : ℕ) → now < d → d / 256 ≢ now / 256 → now / 256 < d / 256
later now d l apart = ⊎_elim (λ h. h) (λ h. let le : now / 256 ≤ d / 256 = quotient_le now d (omega arith) in absurd (apart (omega (arith, h, le)))) (lt_or (now / 256) (d / 256))

less_deep : (p q : ℕ × ℕ) → IsBefore (deeper p) (deeper q) → IsBefore p q
less_deep p q b = ⊎_elim (λ l. let l' : suc p.0 < suc q.0 = l in inl (omega (arith, l'))) (λ e. let e' : suc p.0 ≡ suc q.0 = e.0 in inr (omega (arith, e'), e.1)) b

-- of two later ticks the one with the earlier place is the earlier
pub in_order : (levels now d e : ℕ) → now < d → now < e → IsBefore (place levels now d) (place levels now e) → d < e
in_order zero now d e ld le b = absurd (no_self (0, 0) b)
in_order (suc levels) now d e ld le b = ⊎_elim
    (λ dn. ⊎_elim
    (λ en. ⊎_elim
    (λ (l : 0 < 0). absurd (omega (arith, l)))
    (λ s. let l : d % 256 < e % 256 = s.1 in omega (arith, l, dn, en))
    (subst (λ q. IsBefore (0, d % 256) q) (near levels now e en) (subst (λ p. IsBefore p (place (suc levels) now e)) (near levels now d dn) b)))
    (λ en. quotient_lt d e (let l : now / 256 ≤ e / 256 = quotient_le now e (omega arith) in apart_less d e now dn en l))
    (equal (e / 256) (now / 256)))
    (λ dn. ⊎_elim
    (λ en. ⊎_elim
    (λ l. let l' : suc (place levels (now / 256) (d / 256)).0 < 0 = l in absurd (omega (arith, l')))
    (λ s. let z : suc (place levels (now / 256) (d / 256)).0 ≡ 0 = s.0 in absurd (omega (arith, z)))
    (subst (λ q. IsBefore (deeper (place levels (now / 256) (d / 256))) q) (near levels now e en) (subst (λ p. IsBefore p (place (suc levels) now e)) (far levels now d dn) b)))
    (λ en. quotient_lt d e (in_order levels (now / 256) (d / 256) (e / 256) (later now d ld dn) (later now e le en)
    (less_deep (place levels (now / 256) (d / 256)) (place levels (now / 256) (e / 256)) (subst (λ q. IsBefore (deeper (place levels (now / 256) (d / 256))) q) (far levels now e en) (subst (λ p. IsBefore p (place (suc levels) now e)) (far levels now d dn) b)))))
    (equal (e / 256) (now / 256)))
    (equal (d / 256) (now / 256))

-- a wheel goes on to later: a tick whose place is after that of later keeps its place
pub keeps_place : (levels now later due : ℕ) → IsBefore (place levels now later) (place levels now due) → place levels later due ≡ place levels now due
keeps_place zero now later due b = absurd (no_self (0, 0) b)
keeps_place (suc levels) now later due b = ⊎_elim
    (λ ln. ⊎_elim
    (λ dn. near levels later due (dn ∙ sym ln) ∙ sym (near levels now due dn))
    (λ dn. far levels later due (λ h. dn (h ∙ ln)) ∙ ap (λ n. deeper (place levels n (due / 256))) ln ∙ sym (far levels now due dn))
    (equal (due / 256) (now / 256)))
    (λ ln. ⊎_elim
    (λ dn. ⊎_elim
    (λ l. let l' : suc (place levels (now / 256) (later / 256)).0 < 0 = l in absurd (omega (arith, l')))
    (λ s. let z : suc (place levels (now / 256) (later / 256)).0 ≡ 0 = s.0 in absurd (omega (arith, z)))
    (subst (λ q. IsBefore (deeper (place levels (now / 256) (later / 256))) q) (near levels now due dn) (subst (λ p. IsBefore p (place (suc levels) now due)) (far levels now later ln) b)))
    (λ dn. let under = less_deep (place levels (now / 256) (later / 256)) (place levels (now / 256) (due / 256)) (subst (λ q. IsBefore (deeper (place levels (now / 256) (later / 256))) q) (far levels now due dn) (subst (λ p. IsBefore p (place (suc levels) now due)) (far levels now later ln) b)) in
    far levels later due (λ same. no_self (place levels (now / 256) (later / 256)) (subst (λ x. IsBefore (place levels (now / 256) (later / 256)) (place levels (now / 256) x)) same under))
    ∙ ap deeper (keeps_place levels (now / 256) (later / 256) (due / 256) under) ∙ sym (far levels now due dn))
    (equal (due / 256) (now / 256)))
    (equal (later / 256) (now / 256))

pub less_digits : (levels due : ℕ) → due < 256 ^ suc levels → due / 256 < 256 ^ levels
less_digits levels due small = let p : 256 ^ suc levels ≡ 256 ^ levels * 256 = pow-suc 256 levels in let s : due < 256 ^ suc levels = small in omega (arith, p, s)

-- as many levels are enough as the number has digits
pub level_inside : (levels now due : ℕ) → now < due → due < 256 ^ levels → (place levels now due).0 < levels
level_inside zero now due l small = let s : due < 1 = small in absurd (omega (arith, s))
level_inside (suc levels) now due l small = ⊎_elim
    (λ e. subst (λ (p : ℕ × ℕ). p.0 < suc levels) (sym (near levels now due e)) (omega arith))
    (λ e. subst (λ (p : ℕ × ℕ). p.0 < suc levels) (sym (far levels now due e)) (let under : (place levels (now / 256) (due / 256)).0 < levels = level_inside levels (now / 256) (due / 256) (later now due l e) (less_digits levels due small) in omega (arith, under)))
    (equal (due / 256) (now / 256))

pub slot_inside : (levels now due : ℕ) → (place levels now due).1 < 256
slot_inside zero now due = omega arith
slot_inside (suc levels) now due = ⊎_elim
    (λ e. subst (λ (p : ℕ × ℕ). p.1 < 256) (sym (near levels now due e)) (rest_small due))
    (λ e. subst (λ (p : ℕ × ℕ). p.1 < 256) (sym (far levels now due e)) (slot_inside levels (now / 256) (due / 256)))
    (equal (due / 256) (now / 256))

-- ---- lists by number are places by order

pub place_from_list : (p q : ℕ × ℕ) → p.1 < 256 → q.1 < 256 → list_of p ≡ list_of q → (p.0 ≡ q.0) × (p.1 ≡ q.1)
place_from_list p q lp lq e = let f : 256 * p.0 + p.1 ≡ 256 * q.0 + q.1 = e in (omega (arith, f, lp, lq), omega (arith, f, lp, lq))

pub list_order : (p q : ℕ × ℕ) → p.1 < 256 → q.1 < 256 → list_of p < list_of q → IsBefore p q
list_order p q lp lq l = let f : 256 * p.0 + p.1 < 256 * q.0 + q.1 = l in
    ⊎_elim (λ less. inl less) (λ more. inr (omega (arith, f, lp, lq, more), omega (arith, f, lp, lq, more))) (lt_or p.0 q.0)
