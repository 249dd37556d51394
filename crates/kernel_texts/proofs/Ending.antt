-- The record that ended the process.
use Rattle.std.specs.List.{cons_option, range_with_len}
use Rattle.std.specs.Prelude.{filter_map, is_some, option_map}
use Rattle.std.proofs.Common.{◌≡◌, ◌<◌, ◌+◌, ◌-◌, ℕ, suc, List, None, Option, Some, ap, arith, length, refl, slice_get, sym, true, ◌∙◌}
use Rattle.rules_machine.specs.Delivery.{taken_by_sweep}
use Rattle.rules_machine.specs.State.{Machine, SignalRecord}
use Rattle.rules_facts.specs.Shown.{ending_record}
use Rattle.kernel_texts.specs.Rows.{left_out, left_out_if}

killed_by : {P : Type 0} (killed : Option ℕ) (m : Machine P) → is_some killed ≡ true → left_out_if killed m ≡ option_map (λ (r : SignalRecord). r.serial) (ending_record m)
killed_by None m e = cc
killed_by (Some signal) m e = refl

pub once_killed : {P : Type 0} (m : Machine P) → is_some m.killed ≡ true → left_out m ≡ option_map (λ (r : SignalRecord). r.serial) (ending_record m)
once_killed m e = killed_by m.killed m e

module _ {P : Type 0} (m : Machine P) where
  abbrev pub serial_of : List ℕ → Option ℕ
  serial_of threads = option_map (λ (r : SignalRecord). r.serial) (slice_get (filter_map (taken_by_sweep m) threads) 0)

  rest_of : (n : ℕ) → n < length m.threads → range_with_len n (length m.threads - n) ≡ (let rest = range_with_len (n + 1) (length m.threads - (n + 1)) in cons_option (Some n) rest)
  rest_of n lt =
      let count : length m.threads - n ≡ suc (length m.threads - (n + 1)) = omega arith in
      ap (λ (k : ℕ). range_with_len n k) count

  first_of : (n : ℕ) (o : Option SignalRecord) (rest : List ℕ) → taken_by_sweep m n ≡ o
      → serial_of (cons_option (Some n) rest) ≡ option_map (λ (r : SignalRecord). r.serial) (slice_get (cons_option o (filter_map (taken_by_sweep m) rest)) 0)
  first_of n o rest e = ap (λ (x : Option SignalRecord). option_map (λ (r : SignalRecord). r.serial) (slice_get (cons_option x (filter_map (taken_by_sweep m) rest)) 0)) e

  pub none_taken : (n : ℕ) → n < length m.threads → taken_by_sweep m n ≡ None
      → serial_of (range_with_len (n + 1) (length m.threads - (n + 1))) ≡ serial_of (range_with_len n (length m.threads - n))
  none_taken n lt e = sym (ap serial_of (rest_of n lt) ∙ first_of n None (range_with_len (n + 1) (length m.threads - (n + 1))) e)

  pub first_taken : (n : ℕ) (r : SignalRecord) → n < length m.threads → taken_by_sweep m n ≡ Some r → serial_of (range_with_len n (length m.threads - n)) ≡ Some r.serial
  first_taken n r lt e = ap serial_of (rest_of n lt) ∙ first_of n (Some r) (range_with_len (n + 1) (length m.threads - (n + 1))) e

  pub none_left : (n : ℕ) → n ≡ length m.threads → None ≡ serial_of (range_with_len n (length m.threads - n))
  none_left n e =
      let none : length m.threads - n ≡ 0 = omega (arith, e) in
      sym (ap (λ (k : ℕ). serial_of (range_with_len n k)) none)
