-- The least of faults, part by part.
use Rattle.std.proofs.Common.{◌≡◌, ℕ, List, [], ◌∷◌, ◌++◌, refl, ap, Bool, true, false, Option, None, Some, ◌∙◌, arith}
use Rattle.std.specs.Prelude.{nat_lt, cond}
use Rattle.std.specs.Option.{option_map}
use Rattle.std.proofs.lemmas.Bool.Decides.{nat_tests}
use Rattle.script_table.specs.declared.faults.FaultKind.{FaultKind}
use Rattle.script_table.specs.Faults.{Fault, is_before, earlier, least, number_of, lesser_first, least_kind, faults_at, fault}

abbrev pub Each : (Fault → Type 0) → List Fault → Type 0
Each P [] = Unit {0}
Each P (f ∷ fs) = P f × Each P fs

abbrev pub Each-append : (P : Fault → Type 0) (xs ys : List Fault) → Each P xs → Each P ys → Each P (xs ++ ys)
Each-append P [] ys a b = b
Each-append P (x ∷ xs) ys a b = (a.0, Each-append P xs ys a.1 b)

abbrev pub Each-map : (P Q : Fault → Type 0) → ((f : Fault) → P f → Q f) → (xs : List Fault) → Each P xs → Each Q xs
Each-map P Q h [] a = tt
Each-map P Q h (x ∷ xs) a = (h x a.0, Each-map P Q h xs a.1)

abbrev pub or_else : Option Fault → Option Fault → Option Fault
or_else None o = o
or_else (Some f) o = Some f

first_stays : (f g : Fault) (o : Option Fault) (b : Bool) → is_before g f ≡ false → earlier f o ≡ Some f → earlier f (cond b o (Some g)) ≡ Some f
first_stays f g o true not_before e = e
first_stays f g o false not_before e = rw not_before refl

stays : (f g : Fault) (o : Option Fault) → is_before g f ≡ false → earlier f o ≡ Some f → earlier f (earlier g o) ≡ Some f
stays f g None not_before e = rw not_before refl
stays f g (Some h) not_before e = first_stays f g (Some h) (is_before h g) not_before e

pub least_first : (f : Fault) (ys : List Fault) → Each (λ g. is_before g f ≡ false) ys → earlier f (least ys) ≡ Some f
least_first f [] a = refl
least_first f (g ∷ gs) a = stays f g (least gs) a.0 (least_first f gs a.1)

joined : (x : Fault) (o r : Option Fault) → earlier x r ≡ Some x → earlier x (or_else o r) ≡ or_else (earlier x o) r
joined x None r e = e
joined x (Some m) r e = elim (is_before m x) as (λ b. cond b (Some m) (Some x) ≡ or_else (cond b (Some m) (Some x)) r) [ true ↦ refl | false ↦ refl ]

-- where nothing of ys is before anything of xs
pub least_cut : (xs ys : List Fault) → Each (λ x. Each (λ y. is_before y x ≡ false) ys) xs → least (xs ++ ys) ≡ or_else (least xs) (least ys)
least_cut [] ys a = refl
least_cut (x ∷ xs) ys a = ap (earlier x) (least_cut xs ys a.1) ∙ joined x (least xs) (least ys) (least_first x ys a.0)

same_place : (p n : ℕ) (j k : FaultKind) → is_before (fault p n j) (fault p n k) ≡ nat_lt (number_of j) (number_of k)
same_place p n j k = grind (arith, nat_tests)

at_one : (p n : ℕ) (k : FaultKind) (o : Option FaultKind) → earlier (fault p n k) (option_map (fault p n) o) ≡ option_map (fault p n) (lesser_first (Some k) o)
at_one p n k None = refl
at_one p n k (Some j) = rw (same_place p n j k) (elim (nat_lt (number_of j) (number_of k)) as (λ b. cond b (Some (fault p n j)) (Some (fault p n k)) ≡ Some (fault p n (cond b j k))) [ true ↦ refl | false ↦ refl ])

pub least_at : (p n : ℕ) (ks : List FaultKind) → least (faults_at p n ks) ≡ option_map (fault p n) (least_kind ks)
least_at p n [] = refl
least_at p n (k ∷ ks) = ap (earlier (fault p n k)) (least_at p n ks) ∙ at_one p n k (least_kind ks)

-- of a later line, or of a later phase
abbrev pub After : ℕ → ℕ → Fault → Type 0
After p n f = (k : FaultKind) → is_before f (fault p n k) ≡ false
