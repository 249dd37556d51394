-- How often a thread stands on a list, where others are put and taken.
use Rattle.std.proofs.Common.{Bool, List, [], ap, arith, false, length, refl, suc, sym, true, zero, ℕ, ◌+◌, ◌<◌, ◌∷◌, ◌++◌, ◌≡◌}
use Rattle.std.specs.Prelude.{filter, map, slice_index_or, ◌-◌, ◌==◌, if◌then◌else◌}
use mathlib.Core.Path.{◌∙◌}
use Rattle.rules_lists.specs.Threads.{times, without_thread}
use Rattle.rules_lists.specs.Lists.{to_head, to_tail, without}
use Rattle.rules_machine.specs.Lists.{changed_at}

-- how often a thread stands on the list of an index; the list of priority p has index p - 1
abbrev pub stands : ℕ → ℕ → List (List ℕ) → ℕ
stands t i lists = times t (slice_index_or lists i [])

abbrev pub one_if : Bool → ℕ
one_if b = if b then 1 else 0

pub gone_from : (t : ℕ) (us : List ℕ) → times t (without_thread t us) ≡ 0
gone_from t [] = refl
gone_from t (u ∷ us) = grind (arith, gone_from t us)

pub still_in : (t v : ℕ) (us : List ℕ) → (t == v) ≡ false → times v (without_thread t us) ≡ times v us
still_in t v [] h = refl
still_in t v (u ∷ us) h = grind (arith, still_in t v us h)

pub times_last : (t v : ℕ) (us : List ℕ) → times v (us ++ t ∷ []) ≡ times v us + one_if (t == v)
times_last t v [] = omega arith
times_last t v (u ∷ us) = omega (arith, times_last t v us)

pub stands_without : (t i : ℕ) (lists : List (List ℕ)) → stands t i (without t lists) ≡ 0
stands_without t i [] = refl
stands_without t zero (us ∷ lists) = gone_from t us
stands_without t (suc i) (us ∷ lists) = stands_without t i lists

pub stands_other : (t v i : ℕ) (lists : List (List ℕ)) → (t == v) ≡ false → stands v i (without t lists) ≡ stands v i lists
stands_other t v i [] h = refl
stands_other t v zero (us ∷ lists) h = still_in t v us h
stands_other t v (suc i) (us ∷ lists) h = stands_other t v i lists h

suc_same : (q p : ℕ) → (suc q == suc p) ≡ (q == p)
suc_same q p = by_eq (q == p) refl
  where
    by_eq : (b : Bool) → (q == p) ≡ b → (suc q == suc p) ≡ b
    by_eq true e = grind arith
    by_eq false e = grind arith

-- one list gets a thread more
pub stands_changed : (t v i q : ℕ) (f : List ℕ → List ℕ) → ((us : List ℕ) → times v (f us) ≡ times v us + one_if (t == v)) → (lists : List (List ℕ)) → q < length lists →
    stands v i (changed_at [] q f lists) ≡ stands v i lists + (if q == i then one_if (t == v) else 0)
stands_changed t v i q f h [] small = absurd (omega arith)
stands_changed t v zero zero f h (us ∷ lists) small = h us
stands_changed t v (suc i) zero f h (us ∷ lists) small = grind arith
stands_changed t v zero (suc q) f h (us ∷ lists) small = grind arith
stands_changed t v (suc i) (suc q) f h (us ∷ lists) small =
    stands_changed t v i q f h lists (omega arith) ∙ ap (λ (c : Bool). stands v i lists + (if c then one_if (t == v) else 0)) (sym (suc_same q i))

pub changed_length : (q : ℕ) (f : List ℕ → List ℕ) (lists : List (List ℕ)) → length (changed_at [] q f lists) ≡ length lists
changed_length q f [] = refl
changed_length zero f (us ∷ lists) = refl
changed_length (suc q) f (us ∷ lists) = ap suc (changed_length q f lists)

pub without_length : (t : ℕ) (lists : List (List ℕ)) → length (without t lists) ≡ length lists
without_length t [] = refl
without_length t (us ∷ lists) = ap suc (without_length t lists)

pub tail_length : (t p : ℕ) (lists : List (List ℕ)) → length (to_tail t p lists) ≡ length lists
tail_length t p lists = changed_length (p - 1) (λ (ts : List ℕ). ts ++ t ∷ []) (without t lists) ∙ without_length t lists

pub head_length : (t p : ℕ) (lists : List (List ℕ)) → length (to_head t p lists) ≡ length lists
head_length t p lists = changed_length (p - 1) (λ (ts : List ℕ). t ∷ ts) (without t lists) ∙ without_length t lists

-- ---- the thread that moves stands on that list alone

same_one : (t : ℕ) (c : Bool) → (if c then one_if (t == t) else 0) ≡ one_if c
same_one t c = grind arith

pub tail_self : (t i p : ℕ) (lists : List (List ℕ)) → p - 1 < length lists → stands t i (to_tail t p lists) ≡ one_if (p - 1 == i)
tail_self t i p lists small =
    let moved : stands t i (to_tail t p lists) ≡ stands t i (without t lists) + (if p - 1 == i then one_if (t == t) else 0) =
    stands_changed t t i (p - 1) (λ (ts : List ℕ). ts ++ t ∷ []) (times_last t t) (without t lists) (omega (arith, without_length t lists)) in
    omega (arith, moved, stands_without t i lists, same_one t (p - 1 == i))

pub head_self : (t i p : ℕ) (lists : List (List ℕ)) → p - 1 < length lists → stands t i (to_head t p lists) ≡ one_if (p - 1 == i)
head_self t i p lists small =
    let moved : stands t i (to_head t p lists) ≡ stands t i (without t lists) + (if p - 1 == i then one_if (t == t) else 0) =
    stands_changed t t i (p - 1) (λ (ts : List ℕ). t ∷ ts) (λ us. omega arith) (without t lists) (omega (arith, without_length t lists)) in
    omega (arith, moved, stands_without t i lists, same_one t (p - 1 == i))

-- ---- and every other thread stands as before

none_added : (b c : Bool) → b ≡ false → (if c then one_if b else 0) ≡ 0
none_added true c e = absurd (grind arith)
none_added false true e = refl
none_added false false e = refl

pub tail_other : (t v i p : ℕ) (lists : List (List ℕ)) → (t == v) ≡ false → p - 1 < length lists → stands v i (to_tail t p lists) ≡ stands v i lists
tail_other t v i p lists h small =
    let moved : stands v i (to_tail t p lists) ≡ stands v i (without t lists) + (if p - 1 == i then one_if (t == v) else 0) =
    stands_changed t v i (p - 1) (λ (ts : List ℕ). ts ++ t ∷ []) (times_last t v) (without t lists) (omega (arith, without_length t lists)) in
    omega (arith, moved, stands_other t v i lists h, none_added (t == v) (p - 1 == i) h)

pub head_other : (t v i p : ℕ) (lists : List (List ℕ)) → (t == v) ≡ false → p - 1 < length lists → stands v i (to_head t p lists) ≡ stands v i lists
head_other t v i p lists h small =
    let moved : stands v i (to_head t p lists) ≡ stands v i (without t lists) + (if p - 1 == i then one_if (t == v) else 0) =
    stands_changed t v i (p - 1) (λ (ts : List ℕ). t ∷ ts) (λ us. omega arith) (without t lists) (omega (arith, without_length t lists)) in
    omega (arith, moved, stands_other t v i lists h, none_added (t == v) (p - 1 == i) h)

-- ---- those that do not pass leave

kept_in : (passes : ℕ → Bool) (v : ℕ) (us : List ℕ) → times v (filter passes us) ≡ (if passes v then times v us else 0)
kept_in passes v [] = grind arith
kept_in passes v (u ∷ us) = grind (arith, kept_in passes v us)

pub stands_kept : (passes : ℕ → Bool) (v i : ℕ) (lists : List (List ℕ)) → stands v i (map (filter passes) lists) ≡ (if passes v then stands v i lists else 0)
stands_kept passes v i [] = grind arith
stands_kept passes v zero (us ∷ lists) = kept_in passes v us
stands_kept passes v (suc i) (us ∷ lists) = stands_kept passes v i lists

pub map_length : (f : List ℕ → List ℕ) (lists : List (List ℕ)) → length (map f lists) ≡ length lists
map_length f [] = refl
map_length f (us ∷ lists) = ap suc (map_length f lists)
