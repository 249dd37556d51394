-- The entries of an account: what one more at its end does to the ticks, the plans and their groups.
use Rattle.std.proofs.Common.{Bool, List, None, Option, Some, [], ap, append_assoc, arith, false, refl, sym, true, ℕ, ◌+◌, ◌∷◌, ◌++◌, ◌≡◌}
use Rattle.std.specs.Prelude.{filter_map, map, ◌&&◌, ◌||◌, flat_map}
use Rattle.std.specs.List.{sum}
use Rattle.std.proofs.lemmas.List.Sums.{sum_by-append}
use mathlib.Core.Path.{◌∙◌}
use Rattle.rules_server.specs.declared.Replenish.{Replenish}
use Rattle.rules_server.specs.Server.{joined_after}
use Rattle.rules_machine.specs.Budget.{ServerEvent, activated, expected_since, planned, refilled, used, Group, joined_with}
use Rattle.rules_machine.specs.Budget.{plans_follow}
use Rattle.rules_moves.proofs.Waiters.Best.{Each}

-- whether an activation is entered
abbrev pub is_active : List ServerEvent → Bool
is_active [] = false
is_active (used ∷ rest) = is_active rest
is_active (activated time ∷ rest) = true
is_active (planned time r ∷ rest) = is_active rest
is_active (refilled time amount ∷ rest) = is_active rest

-- ---- the ticks since the last activation, and its time

abbrev pub count_after : ℕ → List ServerEvent → ℕ
count_after count [] = count
count_after count (used ∷ rest) = count_after (count + 1) rest
count_after count (activated time ∷ rest) = count_after 0 rest
count_after count (planned time r ∷ rest) = count_after count rest
count_after count (refilled time amount ∷ rest) = count_after count rest

abbrev pub since_after : ℕ → List ServerEvent → ℕ
since_after since [] = since
since_after since (used ∷ rest) = since_after since rest
since_after since (activated time ∷ rest) = since_after time rest
since_after since (planned time r ∷ rest) = since_after since rest
since_after since (refilled time amount ∷ rest) = since_after since rest

-- what one more entry adds
pub expected_last : (period count since : ℕ) (acc : List ServerEvent) (x : ServerEvent) →
    expected_since period count since (acc ++ x ∷ []) ≡ expected_since period count since acc ++ expected_since period (count_after count acc) (since_after since acc) (x ∷ [])
expected_last period count since [] x = refl
expected_last period count since (used ∷ acc) x = expected_last period (count + 1) since acc x
expected_last period count since (activated time ∷ acc) x = expected_last period 0 time acc x
expected_last period count since (planned time r ∷ acc) x = ap (λ rs. record { amount = count; due = since + period } ∷ rs) (expected_last period count since acc x)
expected_last period count since (refilled time amount ∷ acc) x = expected_last period count since acc x

pub count_last : (count : ℕ) (acc : List ServerEvent) (x : ServerEvent) → count_after count (acc ++ x ∷ []) ≡ count_after (count_after count acc) (x ∷ [])
count_last count [] x = refl
count_last count (used ∷ acc) x = count_last (count + 1) acc x
count_last count (activated time ∷ acc) x = count_last 0 acc x
count_last count (planned time r ∷ acc) x = count_last count acc x
count_last count (refilled time amount ∷ acc) x = count_last count acc x

pub since_last : (since : ℕ) (acc : List ServerEvent) (x : ServerEvent) → since_after since (acc ++ x ∷ []) ≡ since_after (since_after since acc) (x ∷ [])
since_last since [] x = refl
since_last since (used ∷ acc) x = since_last since acc x
since_last since (activated time ∷ acc) x = since_last time acc x
since_last since (planned time r ∷ acc) x = since_last since acc x
since_last since (refilled time amount ∷ acc) x = since_last since acc x

pub active_last : (acc : List ServerEvent) (x : ServerEvent) → is_active (acc ++ x ∷ []) ≡ (is_active acc || is_active (x ∷ []))
active_last [] x = refl
active_last (used ∷ acc) x = active_last acc x
active_last (activated time ∷ acc) x = refl
active_last (planned time r ∷ acc) x = active_last acc x
active_last (refilled time amount ∷ acc) x = active_last acc x

-- an activation that is entered stays so
pub stays_active : (acc : List ServerEvent) (x : ServerEvent) → is_active acc ≡ true → is_active (acc ++ x ∷ []) ≡ true
stays_active acc x e = active_last acc x ∙ ap (λ (b : Bool). b || is_active (x ∷ [])) e

either_way : (a b c : Bool) → ((a && b) && c) ≡ (a && (b && c))
either_way a b c = grind arith

follow_last : (b : Bool) (acc : List ServerEvent) (x : ServerEvent) → plans_follow b (acc ++ x ∷ []) ≡ (plans_follow b acc && plans_follow (b || is_active acc) (x ∷ []))
follow_last true [] x = refl
follow_last false [] x = refl
follow_last b (used ∷ acc) x = follow_last b acc x
follow_last true (activated time ∷ acc) x = follow_last true acc x
follow_last false (activated time ∷ acc) x = follow_last true acc x
follow_last b (planned time r ∷ acc) x = ap (λ (c : Bool). b && c) (follow_last b acc x) ∙ sym (either_way b (plans_follow b acc) (plans_follow (b || is_active acc) (x ∷ [])))
follow_last b (refilled time amount ∷ acc) x = follow_last b acc x

-- what is no plan may be entered at any time
pub follows_on : (acc : List ServerEvent) (x : ServerEvent) → ((b : Bool) → plans_follow b (x ∷ []) ≡ true) → plans_follow false acc ≡ true → plans_follow false (acc ++ x ∷ []) ≡ true
follows_on acc x h e = follow_last false acc x ∙ ap (λ (b : Bool). b && plans_follow (is_active acc) (x ∷ [])) e ∙ h (is_active acc)

-- a plan may where an activation is entered
pub plan_follows : (acc : List ServerEvent) (time : ℕ) (r : Replenish) → is_active acc ≡ true → plans_follow false acc ≡ true → plans_follow false (acc ++ planned time r ∷ []) ≡ true
plan_follows acc time r a e = follow_last false acc (planned time r) ∙ ap (λ (b : Bool). b && plans_follow (is_active acc) (planned time r ∷ [])) e ∙ ap (λ (b : Bool). plans_follow b (planned time r ∷ [])) a

-- ---- lists that grow at their end

pub filter_map_last : {X Y : Type 0} (f : X → Option Y) (xs : List X) (x : X) → filter_map f (xs ++ x ∷ []) ≡ filter_map f xs ++ filter_map f (x ∷ [])
filter_map_last f [] x = refl
filter_map_last {X} {Y} f (y ∷ ys) x = by_one (f y) refl (filter_map_last f ys x)
  where
    by_one : (o : Option Y) → f y ≡ o → filter_map f (ys ++ x ∷ []) ≡ filter_map f ys ++ filter_map f (x ∷ []) → filter_map f (y ∷ ys ++ x ∷ []) ≡ filter_map f (y ∷ ys) ++ filter_map f (x ∷ [])
    by_one None e rest = rw e rest
    by_one (Some z) e rest = rw e (ap (λ zs. z ∷ zs) rest)

pub map_last : {X Y : Type 0} (f : X → Y) (xs ys : List X) → map f (xs ++ ys) ≡ map f xs ++ map f ys
map_last f [] ys = refl
map_last f (x ∷ xs) ys = ap (λ zs. f x ∷ zs) (map_last f xs ys)

pub sum_last : (xs : List ℕ) (n : ℕ) → sum (xs ++ n ∷ []) ≡ sum xs + n
sum_last xs n = let both = sum_by-append (λ (x : ℕ). x) xs (n ∷ []) in omega arith

pub none_more : {X : Type 0} (xs : List X) → xs ++ [] ≡ xs
none_more [] = refl
none_more (x ∷ xs) = ap (λ ys. x ∷ ys) (none_more xs)

pub each_more : {X : Type 0} (Law : X → Type 0) (xs : List X) (x : X) → Each Law xs → Law x → Each Law (xs ++ x ∷ [])
each_more Law [] x each h = (h, tt)
each_more Law (y ∷ ys) x each h = (each.0, each_more Law ys x each.1 h)

-- ---- groups of plans

abbrev pub group_plans : Group → List Replenish
group_plans g = g.first ∷ g.later

abbrev pub group_sum : Group → Replenish
group_sum g = joined_with g.first g.later

abbrev pub group_more : Group → Replenish → Group
group_more g r = record { first = g.first; later = g.later ++ r ∷ [] }

joined_more : (first : Replenish) (later : List Replenish) (r : Replenish) → joined_with first (later ++ r ∷ []) ≡ record { amount = (joined_with first later).amount + r.amount; due = r.due }
joined_more first [] r = refl
joined_more first (q ∷ later) r = joined_more (record { amount = first.amount + q.amount; due = q.due }) later r

pub flat_last : (gs hs : List Group) → flat_map group_plans (gs ++ hs) ≡ flat_map group_plans gs ++ flat_map group_plans hs
flat_last [] hs = refl
flat_last (g ∷ gs) hs = ap (λ rs. group_plans g ++ rs) (flat_last gs hs) ∙ sym (append_assoc (group_plans g) (flat_map group_plans gs) (flat_map group_plans hs))

-- the last group has one plan more
abbrev pub more_after : Group → List Group → Replenish → List Group
more_after g [] r = group_more g r ∷ []
more_after g (next ∷ rest) r = g ∷ more_after next rest r

pub more_plans : (g : Group) (gs : List Group) (r : Replenish) → flat_map group_plans (more_after g gs r) ≡ flat_map group_plans (g ∷ gs) ++ r ∷ []
more_plans g [] r = none_more (g.first ∷ g.later ++ r ∷ []) ∙ ap (λ rs. rs ++ r ∷ []) (sym (none_more (g.first ∷ g.later)))
more_plans g (next ∷ rest) r = ap (λ rs. group_plans g ++ rs) (more_plans next rest r) ∙ sym (append_assoc (group_plans g) (flat_map group_plans (next ∷ rest)) (r ∷ []))

pub more_sums : (g : Group) (gs : List Group) (r : Replenish) → map group_sum (more_after g gs r) ≡ joined_after r (group_sum g) (map group_sum gs)
more_sums g [] r = ap (λ (x : Replenish). x ∷ []) (joined_more g.first g.later r)
more_sums g (next ∷ rest) r = ap (λ rs. group_sum g ∷ rs) (more_sums next rest r)
