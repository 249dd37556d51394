-- How many records of a list pass.
use Rattle.std.specs.Prelude.{filter, nat_lt}
use Rattle.std.specs.List.{list_any}
use Rattle.std.proofs.Common.{◌≡◌, ℕ, ◌+◌, ◌<◌, ◌≤◌, ◌==◌, ◌||◌, Bool, true, false, List, [], ◌∷◌, ◌++◌, length, if◌then◌else◌, refl, ap, ◌∙◌, arith}
use Rattle.std.proofs.lemmas.Bool.Decides.{nat_tests}
use Rattle.rules_machine.specs.GoodState.{count_of}
use Rattle.rules_machine.specs.State.{SignalRecord}
use Rattle.parts_arrivals.specs.Arrivals.{Arrival, has_come, without_node}
use Rattle.kernel_signals.specs.Kept.{record_at, record_of, records_of}

abbrev pub one_if : Bool → ℕ
one_if b = if b then 1 else 0

module _ (passes : SignalRecord → Bool) where
  count_if : (b : Bool) (r : SignalRecord) (rs : List SignalRecord) → length (if b then r ∷ rs else rs) ≡ one_if b + length rs
  count_if true r rs = omega arith
  count_if false r rs = omega arith

  count_first : (r : SignalRecord) (rs : List SignalRecord) → count_of passes (r ∷ rs) ≡ one_if (passes r) + count_of passes rs
  count_first r rs = count_if (passes r) r (filter passes rs)

  pub count_back : (xs : List SignalRecord) (v : SignalRecord) → count_of passes (xs ++ v ∷ []) ≡ count_of passes xs + one_if (passes v)
  count_back [] v = count_first v [] ∙ omega arith
  count_back (x ∷ xs) v = omega (arith, count_first x (xs ++ v ∷ []), count_back xs v, count_first x xs)

  at_most_one : (b : Bool) → one_if b ≤ 1
  at_most_one true = omega arith
  at_most_one false = omega arith

  pub count_few : (xs : List SignalRecord) → count_of passes xs ≤ length xs
  count_few [] = omega arith
  count_few (x ∷ xs) = omega (arith, count_first x xs, count_few xs, at_most_one (passes x))

  any_if : (b : Bool) (n : ℕ) (rest : Bool) → nat_lt 0 n ≡ rest → nat_lt 0 (one_if b + n) ≡ (if b then true else rest)
  any_if true n rest e = grind (arith, nat_tests)
  any_if false n rest e = grind (arith, nat_tests, e)

  pub any_counted : (xs : List SignalRecord) → nat_lt 0 (count_of passes xs) ≡ list_any passes xs
  any_counted [] = refl
  any_counted (x ∷ xs) = ap (nat_lt 0) (count_first x xs) ∙ any_or (passes x) (any_if (passes x) (count_of passes xs) (list_any passes xs) (any_counted xs))
    where
      any_or : (b : Bool) → nat_lt 0 (one_if b + count_of passes xs) ≡ (if b then true else list_any passes xs) → nat_lt 0 (one_if b + count_of passes xs) ≡ (b || list_any passes xs)
      any_or true e = e
      any_or false e = e

  module _ (records : List SignalRecord) (n : ℕ) where
    less_if : (a : Arrival) (order : List Arrival) (b : Bool) → (a.node == n) ≡ b → (if b then true else has_come n order) ≡ true →
        (has_come n order ≡ true → count_of passes (records_of records (without_node n order)) + one_if (passes (record_at records n)) ≡ count_of passes (records_of records order)) →
        count_of passes (records_of records (if b then order else a ∷ without_node n order)) + one_if (passes (record_at records n)) ≡ count_of passes (records_of records (a ∷ order))
    less_if a order true e came later =
        let is : a.node ≡ n = grind (arith, nat_tests, e) in
        let same : one_if (passes (record_of records a)) ≡ one_if (passes (record_at records n)) = ap (λ k. one_if (passes (record_at records k))) is in
        omega (arith, same, count_first (record_of records a) (records_of records order))
    less_if a order false e came later =
        omega (arith, later came, count_first (record_of records a) (records_of records order), count_first (record_of records a) (records_of records (without_node n order)))

    pub count_less : (order : List Arrival) → has_come n order ≡ true → count_of passes (records_of records (without_node n order)) + one_if (passes (record_at records n)) ≡ count_of passes (records_of records order)
    count_less [] came = cc
    count_less (a ∷ order) came = less_if a order (a.node == n) refl came (λ e. count_less order e)
