-- The record that a search along the signals finds is the one that is selected.
use Rattle.std.specs.Prelude.{All, IfSome, IsSome, filter, not, nat_lt}
use Rattle.std.specs.List.{AllByRecursion}
use Rattle.std.proofs.Common.{◌≡◌, ℕ, zero, suc, ◌-◌, ◌^◌, ◌<◌, ◌≤◌, ◌==◌, ◌&&◌, ◌||◌, Bool, true, false, Option, Some, None, List, [], ◌∷◌, length, get_or, min, bit_and, w32, if◌then◌else◌, refl, sym, ap, subst, ◌∙◌, arith}
use Rattle.std.proofs.lemmas.Bool.Decides.{nat_tests}
use Rattle.std.specs.Int.{bit_at, bit_not}
use Rattle.std.proofs.lemmas.Nat.Bits.{bit_at-lt, bit_at_and, bit_at_not}
use Rattle.words_numbers.specs.Signals.{has_signal}
use Rattle.rules_machine.specs.Lists.{first_by, first_of}
use Rattle.rules_machine.specs.State.{SignalRecord}
use Rattle.rules_machine.specs.Signals.{may_go_to, is_selected_before}
use Rattle.parts_arrivals.specs.Arrivals.{Arrival, IsArrival}
use Rattle.kernel_signals.specs.Choice.{IsLowest, NoneBelow, is_in_set, may_take, selected_in, first_wanted, is_wanted}
use Rattle.kernel_signals.specs.Kept.{AreRanked, AreRising, record_at, record_of, records_of}
use Rattle.kernel_signals.specs.declared.choice.Wanted.{Wanted}
use Rattle.kernel_signals.specs.declared.choice.Wanted.TheVariants.{ForThread, WithSerial}

both_true : (b c : Bool) → (b && c) ≡ true → (b ≡ true) × (c ≡ true)
both_true true c e = (refl, e)
both_true false c e = cc

stays_first : (r : SignalRecord) (o : Option SignalRecord) → IfSome o (λ (y : SignalRecord). is_selected_before y r ≡ false) → first_of is_selected_before r o ≡ r
stays_first r None h = refl
stays_first r (Some y) h = ap (λ b. if b then y else r) h

chosen : (P : SignalRecord → Type 0) (x y : SignalRecord) (b : Bool) → P x → P y → P (if b then y else x)
chosen P x y true p q = q
chosen P x y false p q = p

first_of_each : (P : SignalRecord → Type 0) (x : SignalRecord) (o : Option SignalRecord) → P x → IfSome o P → P (first_of is_selected_before x o)
first_of_each P x None p h = p
first_of_each P x (Some y) p h = chosen P x y (is_selected_before y x) p h

first_each : (P : SignalRecord → Type 0) (xs : List SignalRecord) → AllByRecursion P xs → IfSome (first_by is_selected_before xs) P
first_each P [] all = tt
first_each P (x ∷ xs) all = first_of_each P x (first_by is_selected_before xs) all.0 (first_each P xs all.1)

filter_if : (P : SignalRecord → Type 0) (x : SignalRecord) (xs : List SignalRecord) (b : Bool) → (b ≡ true → P x) → AllByRecursion P xs → AllByRecursion P (if b then x ∷ xs else xs)
filter_if P x xs true p all = (p refl, all)
filter_if P x xs false p all = all

module _ (t set : ℕ) (records : List SignalRecord) where
  abbrev passes : SignalRecord → Bool
  passes = is_in_set t set

  abbrev lowest_in : List Arrival → Option SignalRecord
  lowest_in order = first_by is_selected_before (filter (is_in_set t set) (records_of records order))

  -- each that passes has a signal from the limit on
  abbrev AreAbove : List Arrival → ℕ → Type 0
  AreAbove order limit = AllByRecursion (λ (a : Arrival). is_in_set t set (record_of records a) ≡ true → limit ≤ a.rank) order

  none_later : (a : Arrival) (order : List Arrival) (limit : ℕ) → NoneBelow t set records (a ∷ order) limit → NoneBelow t set records order limit
  none_later a order limit none s below has = without (a.rank == s && may_go_to t (record_of records a).target) (none s below has)
    where
      without : (b : Bool) → (if b then Some a.node else first_wanted (ForThread t) s records order) ≡ None → first_wanted (ForThread t) s records order ≡ None
      without true e = cc
      without false e = e

  not_below : (a : Arrival) (order : List Arrival) (limit : ℕ) → (record_of records a).signal ≡ a.rank → NoneBelow t set records (a ∷ order) limit → is_in_set t set (record_of records a) ≡ true → limit ≤ a.rank
  not_below a order limit ranked none in_set = at_least (nat_lt a.rank limit) refl
    where
      at_least : (b : Bool) → nat_lt a.rank limit ≡ b → limit ≤ a.rank
      at_least true e =
          let below : a.rank < limit = grind (arith, nat_tests, e) in
          let both = both_true (has_signal set (record_of records a).signal) (may_go_to t (record_of records a).target) in_set in
          let has : has_signal set a.rank ≡ true = ap (has_signal set) (sym ranked) ∙ both.0 in
          let same : (a.rank == a.rank) ≡ true = grind (arith, nat_tests) in
          let some : Some a.node ≡ None =
          sym (ap (λ (b : Bool). if b && may_go_to t (record_of records a).target then Some a.node else first_wanted (ForThread t) a.rank records order) same
          ∙ ap (λ (b : Bool). if b then Some a.node else first_wanted (ForThread t) a.rank records order) both.1) ∙ none a.rank below has in
          cc
      at_least false e = grind (arith, nat_tests, e)

  are_above : (order : List Arrival) (limit : ℕ) → AreRanked records order → NoneBelow t set records order limit → AreAbove order limit
  are_above [] limit ranked none = tt
  are_above (a ∷ order) limit ranked none = (not_below a order limit ranked.0 none, are_above order limit ranked.1 (none_later a order limit none))

  -- a younger record that passes is not selected before it
  not_before : (r : SignalRecord) (signal : ℕ) → r.signal ≡ signal → (order : List Arrival) → AreRanked records order → AreAbove order signal →
      AllByRecursion (λ (s : SignalRecord). r.serial < s.serial) (records_of records order) →
      AllByRecursion (λ (s : SignalRecord). is_selected_before s r ≡ false) (filter (is_in_set t set) (records_of records order))
  not_before r signal is [] ranked above later = tt
  not_before r signal is (a ∷ order) ranked above later =
      filter_if (λ (s : SignalRecord). is_selected_before s r ≡ false) (record_of records a) (filter (is_in_set t set) (records_of records order)) (is_in_set t set (record_of records a))
      (λ p. let le : signal ≤ a.rank = above.0 p in let rank : (record_of records a).signal ≡ a.rank = ranked.0 in let young : r.serial < (record_of records a).serial = later.0 in
      grind (arith, nat_tests, le, rank, young, is))
      (not_before r signal is order ranked.1 above.1 later.1)

  record IsFound (order : List Arrival) (signal n : ℕ) : Type 0 where
    selected : lowest_in order ≡ Some (record_at records n)
    of_signal : (record_at records n).signal ≡ signal

  found_here : (a : Arrival) (order : List Arrival) (signal n : ℕ) → (a.rank == signal && may_go_to t (record_of records a).target) ≡ true → Some a.node ≡ Some n → has_signal set signal ≡ true →
      AreRanked records (a ∷ order) → AreRising (records_of records (a ∷ order)) → AreAbove (a ∷ order) signal → IsFound (a ∷ order) signal n
  found_here a order signal n test e has ranked rising above =
      let node : a.node ≡ n = cc in
      let both = both_true (a.rank == signal) (may_go_to t (record_of records a).target) test in
      let rank : a.rank ≡ signal = (let same = both.0 in grind (arith, nat_tests, same)) in
      let of_it : (record_of records a).signal ≡ signal = ranked.0 ∙ rank in
      let pass : is_in_set t set (record_of records a) ≡ true =
      ap (λ s. has_signal set s && may_go_to t (record_of records a).target) of_it
      ∙ ap (λ (b : Bool). b && may_go_to t (record_of records a).target) has ∙ both.1 in
      let first = first_each (λ (s : SignalRecord). is_selected_before s (record_of records a) ≡ false) (filter (is_in_set t set) (records_of records order))
      (not_before (record_of records a) signal of_it order ranked.1 above.1 rising.0) in
      record {
        selected = ap (λ (b : Bool). first_by is_selected_before (if b then record_of records a ∷ filter (is_in_set t set) (records_of records order) else filter (is_in_set t set) (records_of records order))) pass
            ∙ ap Some (stays_first (record_of records a) (lowest_in order) first ∙ ap (record_at records) node);
        of_signal = ap (λ k. (record_at records k).signal) (sym node) ∙ of_it;
      }

  pass_on : (a : Arrival) (order : List Arrival) (signal n : ℕ) (b : Bool) → is_in_set t set (record_of records a) ≡ b → (a.rank == signal && may_go_to t (record_of records a).target) ≡ false →
      (record_of records a).signal ≡ a.rank → (is_in_set t set (record_of records a) ≡ true → signal ≤ a.rank) → IsFound order signal n →
      first_by is_selected_before (if b then record_of records a ∷ filter (is_in_set t set) (records_of records order) else filter (is_in_set t set) (records_of records order)) ≡ Some (record_at records n)
  pass_on a order signal n true p test ranked above later =
      let goes : may_go_to t (record_of records a).target ≡ true = (both_true (has_signal set (record_of records a).signal) (may_go_to t (record_of records a).target) p).1 in
      let le : signal ≤ a.rank = above p in
      let other : (a.rank == signal) ≡ false = not_and (a.rank == signal) (may_go_to t (record_of records a).target) goes test in
      let less : (record_at records n).signal < (record_of records a).signal = (let is = later.of_signal in grind (arith, nat_tests, le, other, ranked, is)) in
      let before : is_selected_before (record_at records n) (record_of records a) ≡ true = grind (arith, nat_tests, less) in
      ap (λ (o : Option SignalRecord). Some (first_of is_selected_before (record_of records a) o)) later.selected
      ∙ ap (λ b. Some (if b then record_at records n else record_of records a)) before
    where
      not_and : (b c : Bool) → c ≡ true → (b && c) ≡ false → b ≡ false
      not_and true c e f = cc
      not_and false c e f = refl
  pass_on a order signal n false p test ranked above later = later.selected

  found_if : (a : Arrival) (order : List Arrival) (signal n : ℕ) (b : Bool) → (a.rank == signal && may_go_to t (record_of records a).target) ≡ b →
      (if b then Some a.node else first_wanted (ForThread t) signal records order) ≡ Some n → has_signal set signal ≡ true →
      AreRanked records (a ∷ order) → AreRising (records_of records (a ∷ order)) → AreAbove (a ∷ order) signal →
      (first_wanted (ForThread t) signal records order ≡ Some n → IsFound order signal n) → IsFound (a ∷ order) signal n
  found_if a order signal n true test e has ranked rising above later = found_here a order signal n test e has ranked rising above
  found_if a order signal n false test e has ranked rising above later = record {
    selected = pass_on a order signal n (is_in_set t set (record_of records a)) refl test ranked.0 above.0 (later e);
    of_signal = (later e).of_signal;
  }

  found_in : (order : List Arrival) (signal n : ℕ) → first_wanted (ForThread t) signal records order ≡ Some n → has_signal set signal ≡ true → AreRanked records order → AreRising (records_of records order) →
      AreAbove order signal → IsFound order signal n
  found_in [] signal n e has ranked rising above = cc
  found_in (a ∷ order) signal n e has ranked rising above =
      found_if a order signal n (a.rank == signal && may_go_to t (record_of records a).target) refl e has ranked rising above (λ f. found_in order signal n f has ranked.1 rising.1 above.1)

  pub is_selected : (order : List Arrival) (n : ℕ) → AreRanked records order → AreRising (records_of records order) → IsLowest t set records order n →
      selected_in (records_of records order) (is_in_set t set) ≡ Some (record_at records n)
  is_selected order n ranked rising is = (found_in order is.signal n is.first is.in_set ranked rising (are_above order is.signal ranked is.below)).selected

  -- ---- none

  none_if : (nodes : ℕ) (a : Arrival) (rs : List SignalRecord) (b : Bool) → is_in_set t set (record_of records a) ≡ b → IsArrival nodes a → (is_in_set t set (record_of records a) ≡ true → 32 ≤ a.rank) → rs ≡ [] →
      (if b then record_of records a ∷ rs else rs) ≡ []
  none_if nodes a rs true p small above e = absurd (omega (arith, small.rank, above p))
  none_if nodes a rs false p small above e = e

  none_pass : (nodes : ℕ) (order : List Arrival) → AllByRecursion (IsArrival nodes) order → AreAbove order 32 → filter (is_in_set t set) (records_of records order) ≡ []
  none_pass nodes [] each above = refl
  none_pass nodes (a ∷ order) each above =
      none_if nodes a (filter (is_in_set t set) (records_of records order)) (is_in_set t set (record_of records a)) refl each.0 above.0 (none_pass nodes order each.1 above.1)

  pub none_selected : (nodes : ℕ) (order : List Arrival) → AllByRecursion (IsArrival nodes) order → AreRanked records order → NoneBelow t set records order 32 →
      selected_in (records_of records order) (is_in_set t set) ≡ None
  none_selected nodes order each ranked none = ap (first_by is_selected_before) (none_pass nodes order each (are_above order 32 ranked none))

-- ---- by a serial

record_if : (P : Bool) (node n : ℕ) (rest : Option ℕ) (Q : ℕ → Type 0) → (P ≡ true → Q node) → (rest ≡ Some n → Q n) → (if P then Some node else rest) ≡ Some n → Q n
record_if true node n rest Q here later e = let same : node ≡ n = cc in subst Q same (here refl)
record_if false node n rest Q here later e = later e

pub wanted_is : (wanted : Wanted) (signal n : ℕ) (records : List SignalRecord) (order : List Arrival) → first_wanted wanted signal records order ≡ Some n → is_wanted wanted (record_at records n) ≡ true
wanted_is wanted signal n records [] e = cc
wanted_is wanted signal n records (a ∷ order) e =
    record_if (a.rank == signal && is_wanted wanted (record_of records a)) a.node n (first_wanted wanted signal records order) (λ k. is_wanted wanted (record_at records k) ≡ true)
    (λ t. (both_true (a.rank == signal) (is_wanted wanted (record_of records a)) t).1) (λ f. wanted_is wanted signal n records order f) e

some_if : (b : Bool) (n : ℕ) (rest : Option ℕ) → IsSome rest → IsSome (if b then Some n else rest)
some_if true n rest h = refl
some_if false n rest h = h

pub has_serial : (r : SignalRecord) (k : ℕ) (records : List SignalRecord) (order : List Arrival) → AreRanked records order → k < length (records_of records order) → get_or (records_of records order) k r ≡ r →
    IsSome (first_wanted (WithSerial r.serial) r.signal records order)
has_serial r k records [] ranked l e = absurd (omega (arith, l))
has_serial r zero records (a ∷ order) ranked l e =
    let rank : a.rank ≡ r.signal = sym ranked.0 ∙ ap (λ (x : SignalRecord). x.signal) e in
    let serial : (record_of records a).serial ≡ r.serial = ap (λ (x : SignalRecord). x.serial) e in
    let one : (a.rank == r.signal) ≡ true = grind (arith, nat_tests, rank) in
    let two : ((record_of records a).serial == r.serial) ≡ true = grind (arith, nat_tests, serial) in
    subst IsSome (sym (ap (λ (b : Bool). if b && (record_of records a).serial == r.serial then Some a.node else first_wanted (WithSerial r.serial) r.signal records order) one
    ∙ ap (λ (b : Bool). if b then Some a.node else first_wanted (WithSerial r.serial) r.signal records order) two)) refl
has_serial r (suc k) records (a ∷ order) ranked l e =
    some_if (a.rank == r.signal && (record_of records a).serial == r.serial) a.node (first_wanted (WithSerial r.serial) r.signal records order)
    (has_serial r k records order ranked.1 (omega (arith, l)) e)

-- ---- signals

filter_same : (p q : SignalRecord → Bool) (x : SignalRecord) (xs : List SignalRecord) → p x ≡ q x → filter p xs ≡ filter q xs → filter p (x ∷ xs) ≡ filter q (x ∷ xs)
filter_same p q x xs e f = ap (λ b. if b then x ∷ filter p xs else filter p xs) e ∙ ap (λ (rs : List SignalRecord). if q x then x ∷ rs else rs) f

and_turned : (m k g : Bool) → ((m && k) && g) ≡ (g && m && k)
and_turned true true true = refl
and_turned true true false = refl
and_turned true false true = refl
and_turned true false false = refl
and_turned false true true = refl
and_turned false true false = refl
and_turned false false true = refl
and_turned false false false = refl

pub taken_same : (t mask kills set : ℕ) (runs : Bool) → ((s : ℕ) → s < 32 → has_signal set s ≡ (not (has_signal mask s) && (has_signal kills s || runs))) →
    (pending : List SignalRecord) → All (λ (r : SignalRecord). r.signal < 32) pending → filter (is_in_set t set) pending ≡ filter (may_take t mask kills runs) pending
taken_same t mask kills set runs is [] small = refl
taken_same t mask kills set runs is (r ∷ pending) small =
    filter_same (is_in_set t set) (may_take t mask kills runs) r pending
    (ap (λ (b : Bool). b && may_go_to t r.target) (is r.signal (small 0 r (omega arith)))
    ∙ and_turned (not (has_signal mask r.signal)) (has_signal kills r.signal || runs) (may_go_to t r.target))
    (taken_same t mask kills set runs is pending (λ k d l. small (suc k) d (omega (arith, l))))

-- ---- bits of sets

other_bit : (x : ℕ) → x < 2 → (1 - x == 1) ≡ not (x == 1)
other_bit zero l = refl
other_bit (suc zero) l = refl
other_bit (suc (suc x)) l = absurd (omega (arith, l))

both_bits : (k x : ℕ) → k < 2 → x < 2 → (min k (1 - x) == 1) ≡ (not (x == 1) && (k == 1 || false))
both_bits zero zero l m = refl
both_bits zero (suc zero) l m = refl
both_bits (suc zero) zero l m = refl
both_bits (suc zero) (suc zero) l m = refl
both_bits k (suc (suc x)) l m = absurd (omega (arith, m))
both_bits (suc (suc k)) x l m = absurd (omega (arith, l))

and_or_true : (b k : Bool) → (b && (k || true)) ≡ b
and_or_true true true = refl
and_or_true true false = refl
and_or_true false k = refl

pub all_let_through : (mask kills s : ℕ) → mask < 2 ^ 32 → s < 32 → has_signal (bit_not w32 mask) s ≡ (not (has_signal mask s) && (has_signal kills s || true))
all_let_through mask kills s fits l =
    ap (λ b. b == 1) (bit_at_not w32 mask s fits l) ∙ other_bit (bit_at mask s) (bit_at-lt mask s) ∙ sym (and_or_true (not (has_signal mask s)) (has_signal kills s))

pub kills_let_through : (mask kills s : ℕ) → mask < 2 ^ 32 → s < 32 → has_signal (bit_and kills (bit_not w32 mask)) s ≡ (not (has_signal mask s) && (has_signal kills s || false))
kills_let_through mask kills s fits l =
    ap (λ b. b == 1) (bit_at_and kills (bit_not w32 mask) s ∙ ap (λ b. min (bit_at kills s) b) (bit_at_not w32 mask s fits l))
    ∙ both_bits (bit_at kills s) (bit_at mask s) (bit_at-lt kills s) (bit_at-lt mask s)
