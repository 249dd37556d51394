-- A walk along the nodes of one rank.
use Rattle.std.specs.List.{AllByRecursion}
use Rattle.std.proofs.Common.{◌≡◌, ℕ, zero, suc, ◌<◌, ◌≤◌, ◌==◌, ◌&&◌, Bool, true, false, Option, Some, None, List, [], ◌∷◌, ◌++◌, length, get_or, if◌then◌else◌, refl, sym, ap, subst, ◌∙◌, arith}
use Rattle.std.proofs.lemmas.Bool.Decides.{nat_tests}
use Rattle.rules_machine.specs.State.{SignalRecord}
use Rattle.parts_arrivals.specs.Arrivals.{Arrival, AreDistinct, IsArrival, first_of_rank, has_come, next_in_order, next_of_rank, oldest}
use Rattle.kernel_signals.specs.Ages.{before, before_node}
use Rattle.kernel_signals.specs.Kept.{record_at, record_of}
use Rattle.kernel_signals.specs.Choice.{first_wanted, is_wanted}
use Rattle.kernel_signals.specs.Walks.{rank_of, rest_of, since}
use Rattle.kernel_signals.specs.declared.choice.Wanted.{Wanted}

other_node : (a : Arrival) (n : ℕ) (order : List Arrival) → has_come a.node order ≡ false → has_come n order ≡ true → (a.node == n) ≡ false
other_node a n order fresh came = by_test (a.node == n) refl
  where
    by_test : (b : Bool) → (a.node == n) ≡ b → (a.node == n) ≡ false
    by_test true e =
        let same : a.node ≡ n = grind (arith, nat_tests, e) in
        let gone : has_come n order ≡ false = subst (λ k. has_come k order ≡ false) same fresh in
        let clash : true ≡ false = sym came ∙ gone in cc
    by_test false e = e

-- the order from a node on
pub record IsSplit (n : ℕ) (order : List Arrival) (a : Arrival) (tail : List Arrival) : Type 0 where
  pub from : since n order ≡ a ∷ tail
  pub node : a.node ≡ n
  pub rank : a.rank ≡ rank_of n order
  pub next : next_of_rank n order ≡ first_of_rank a.rank tail
  pub after : next_in_order n order ≡ oldest tail
  pub next_before : before (oldest tail) order ≡ before_node n order ++ a ∷ []
  pub later : (m : ℕ) → has_come m tail ≡ true → (since m order ≡ since m tail) × (has_come m order ≡ true) × (rank_of m order ≡ rank_of m tail)
  pub apart : AreDistinct tail

pub record Split (n : ℕ) (order : List Arrival) : Type 0 where
  pub first : Arrival
  pub tail : List Arrival
  pub is : IsSplit n order first tail

pub oldest_in : (m : ℕ) (order : List Arrival) → oldest order ≡ Some m → has_come m order ≡ true
oldest_in m [] e = cc
oldest_in m (a ∷ order) e =
    let node : a.node ≡ m = cc in let same : (a.node == m) ≡ true = grind (arith, nat_tests, node) in
    ap (λ b. if b then true else has_come m order) same

before_next : (a : Arrival) (order : List Arrival) → has_come a.node order ≡ false → before (oldest order) (a ∷ order) ≡ a ∷ []
before_next a [] fresh = refl
before_next a (b ∷ order) fresh =
    let same : (b.node == b.node) ≡ true = grind (arith, nat_tests) in
    ap (λ c. if c then [] else a ∷ before_node b.node (b ∷ order)) (other_node a b.node (b ∷ order) fresh (oldest_in b.node (b ∷ order) refl))
    ∙ ap (λ c. a ∷ (if c then [] else b ∷ before_node b.node order)) same

before_past : (a : Arrival) (order : List Arrival) (o : Option ℕ) → has_come a.node order ≡ false → ((m : ℕ) → o ≡ Some m → has_come m order ≡ true) → before o (a ∷ order) ≡ a ∷ before o order
before_past a order None fresh in_it = refl
before_past a order (Some m) fresh in_it = ap (λ c. if c then [] else a ∷ before_node m order) (other_node a m order fresh (in_it m refl))

here : (n : ℕ) (a : Arrival) (order : List Arrival) → (a.node == n) ≡ true → has_come a.node order ≡ false → AreDistinct order → Split n (a ∷ order)
here n a order same fresh d = record {
  first = a;
  tail = order;
  is = record {
    from = ap (λ b. if b then a ∷ order else since n order) same;
    node = grind (arith, nat_tests, same);
    rank = sym (ap (λ b. if b then a.rank else rank_of n order) same);
    next = ap (λ b. if b then first_of_rank a.rank order else next_of_rank n order) same;
    after = ap (λ b. if b then oldest order else next_in_order n order) same;
    next_before = before_next a order fresh ∙ sym (ap (λ b. (if b then [] else a ∷ before_node n order) ++ a ∷ []) same);
    later = λ m came. let off = other_node a m order fresh came in (
      ap (λ b. if b then a ∷ order else since m order) off,
      ap (λ b. if b then true else has_come m order) off ∙ came,
      ap (λ b. if b then a.rank else rank_of m order) off,
    );
    apart = d;
  };
}

there : (n : ℕ) (a : Arrival) (order : List Arrival) → (a.node == n) ≡ false → has_come a.node order ≡ false → Split n order → Split n (a ∷ order)
there n a order other fresh s = record {
  first = s.first;
  tail = s.tail;
  is = record {
    from = ap (λ b. if b then a ∷ order else since n order) other ∙ s.is.from;
    node = s.is.node;
    rank = s.is.rank ∙ sym (ap (λ b. if b then a.rank else rank_of n order) other);
    next = ap (λ b. if b then first_of_rank a.rank order else next_of_rank n order) other ∙ s.is.next;
    after = ap (λ b. if b then oldest order else next_in_order n order) other ∙ s.is.after;
    next_before = before_past a order (oldest s.tail) fresh (λ m e. (s.is.later m (oldest_in m s.tail e)).1)
        ∙ ap (λ (xs : List Arrival). a ∷ xs) s.is.next_before ∙ sym (ap (λ b. (if b then [] else a ∷ before_node n order) ++ s.first ∷ []) other);
    later = λ m came. let l = s.is.later m came in let off = other_node a m order fresh l.1 in (
      ap (λ b. if b then a ∷ order else since m order) off ∙ l.0,
      ap (λ b. if b then true else has_come m order) off ∙ l.1,
      ap (λ b. if b then a.rank else rank_of m order) off ∙ l.2,
    );
    apart = s.is.apart;
  };
}

split_if : (n : ℕ) (a : Arrival) (order : List Arrival) (b : Bool) → (a.node == n) ≡ b → has_come a.node order ≡ false → AreDistinct order → (if b then true else has_come n order) ≡ true →
    (has_come n order ≡ true → Split n order) → Split n (a ∷ order)
split_if n a order true e fresh d came later = here n a order e fresh d
split_if n a order false e fresh d came later = there n a order e fresh (later came)

pub split_at : (n : ℕ) (order : List Arrival) → has_come n order ≡ true → AreDistinct order → Split n order
split_at n [] came d = cc
split_at n (a ∷ order) came d = split_if n a order (a.node == n) refl d.0 d.1 came (λ e. split_at n order e d.1)

-- ---- the first of a rank

pub record IsFirst (rank m : ℕ) (order : List Arrival) : Type 0 where
  pub came : has_come m order ≡ true
  pub rank_is : rank_of m order ≡ rank

first_if : (rank m : ℕ) (a : Arrival) (order : List Arrival) (b : Bool) → (a.rank == rank) ≡ b → has_come a.node order ≡ false → (if b then Some a.node else first_of_rank rank order) ≡ Some m →
    (first_of_rank rank order ≡ Some m → IsFirst rank m order) → IsFirst rank m (a ∷ order)
first_if rank m a order true e fresh is later =
    let node : a.node ≡ m = cc in let same : (a.node == m) ≡ true = grind (arith, nat_tests, node) in record {
      came = ap (λ b. if b then true else has_come m order) same;
      rank_is = ap (λ b. if b then a.rank else rank_of m order) same ∙ grind (arith, nat_tests, e);
    }
first_if rank m a order false e fresh is later =
    let h = later is in let off = other_node a m order fresh h.came in record {
      came = ap (λ b. if b then true else has_come m order) off ∙ h.came;
      rank_is = ap (λ b. if b then a.rank else rank_of m order) off ∙ h.rank_is;
    }

pub first_in : (rank m : ℕ) (order : List Arrival) → AreDistinct order → first_of_rank rank order ≡ Some m → IsFirst rank m order
first_in rank m [] d is = cc
first_in rank m (a ∷ order) d is = first_if rank m a order (a.rank == rank) refl d.0 is (λ e. first_in rank m order d.1 e)

-- the walk has no more before it than the order
no_longer : (n : ℕ) (order : List Arrival) → length (since n order) ≤ length order
no_longer n [] = omega arith
no_longer n (a ∷ order) = grind (arith, nat_tests, no_longer n order)

pub rest_no_longer : (o : Option ℕ) (order : List Arrival) → length (rest_of o order) ≤ length order
rest_no_longer None order = omega arith
rest_no_longer (Some n) order = no_longer n order

-- ---- what is wanted

module _ (wanted : Wanted) (rank : ℕ) (records : List SignalRecord) where
  rest_same : (o : Option ℕ) (a : Arrival) (order : List Arrival) → has_come a.node order ≡ false → ((m : ℕ) → o ≡ Some m → has_come m order ≡ true) → rest_of o (a ∷ order) ≡ rest_of o order
  rest_same None a order fresh in_order = refl
  rest_same (Some m) a order fresh in_order = ap (λ b. if b then a ∷ order else since m order) (other_node a m order fresh (in_order m refl))

  skip_if : (a : Arrival) (order : List Arrival) (b : Bool) → (a.rank == rank) ≡ b → has_come a.node order ≡ false → AreDistinct order →
      first_wanted wanted rank records order ≡ first_wanted wanted rank records (rest_of (first_of_rank rank order) order) →
      first_wanted wanted rank records (a ∷ order) ≡ first_wanted wanted rank records (rest_of (if b then Some a.node else first_of_rank rank order) (a ∷ order))
  skip_if a order true e fresh d later =
      let same : (a.node == a.node) ≡ true = grind (arith, nat_tests) in
      sym (ap (λ b. first_wanted wanted rank records (if b then a ∷ order else since a.node order)) same)
  skip_if a order false e fresh d later =
      ap (λ b. if b && is_wanted wanted (record_of records a) then Some a.node else first_wanted wanted rank records order) e
      ∙ later ∙ sym (ap (first_wanted wanted rank records) (rest_same (first_of_rank rank order) a order fresh (λ m is. (first_in rank m order d is).came)))

  -- nodes of other ranks are none that are wanted
  pub skip : (order : List Arrival) → AreDistinct order → first_wanted wanted rank records order ≡ first_wanted wanted rank records (rest_of (first_of_rank rank order) order)
  skip [] d = refl
  skip (a ∷ order) d = skip_if a order (a.rank == rank) refl d.0 d.1 (skip order d.1)

  rest_later : (order : List Arrival) (n : ℕ) (s : Split n order) (o : Option ℕ) → ((m : ℕ) → o ≡ Some m → has_come m s.tail ≡ true) → rest_of o order ≡ rest_of o s.tail
  rest_later order n s None in_tail = refl
  rest_later order n s (Some m) in_tail = (s.is.later m (in_tail m refl)).0

  module _ (order : List Arrival) (n : ℕ) (came : has_come n order ≡ true) (d : AreDistinct order) (at_rank : rank_of n order ≡ rank) where
    abbrev s : Split n order
    s = split_at n order came d

    rank_here : s.first.rank ≡ rank
    rank_here = s.is.rank ∙ at_rank

    pub next_rest : next_of_rank n order ≡ first_of_rank rank s.tail
    next_rest = s.is.next ∙ ap (λ r. first_of_rank r s.tail) rank_here

    pub next_in : (m : ℕ) → next_of_rank n order ≡ Some m → (has_come m order ≡ true) × (rank_of m order ≡ rank)
    next_in m e =
        let f = first_in rank m s.tail s.is.apart (sym next_rest ∙ e) in let l = s.is.later m f.came in
        (l.1, l.2 ∙ f.rank_is)

    next_is : rest_of (next_of_rank n order) order ≡ rest_of (first_of_rank rank s.tail) s.tail
    next_is = ap (λ o. rest_of o order) next_rest ∙ rest_later order n s (first_of_rank rank s.tail) (λ m e. (first_in rank m s.tail s.is.apart e).came)

    -- a node that is not wanted is passed
    pub passed : is_wanted wanted (record_at records n) ≡ false → first_wanted wanted rank records (since n order) ≡ first_wanted wanted rank records (rest_of (next_of_rank n order) order)
    passed refused =
        let not_it : is_wanted wanted (record_of records s.first) ≡ false = ap (λ k. is_wanted wanted (record_at records k)) s.is.node ∙ refused in
        ap (first_wanted wanted rank records) s.is.from
        ∙ wanted_not (s.first.rank == rank) (is_wanted wanted (record_of records s.first)) not_it
        ∙ skip s.tail s.is.apart ∙ sym (ap (first_wanted wanted rank records) next_is)
      where
        wanted_not : (b c : Bool) → c ≡ false → (if b && c then Some s.first.node else first_wanted wanted rank records s.tail) ≡ first_wanted wanted rank records s.tail
        wanted_not true c e = ap (λ (b : Bool). if b then Some s.first.node else first_wanted wanted rank records s.tail) e
        wanted_not false c e = refl

    -- and one that is wanted is the first
    pub found : is_wanted wanted (record_at records n) ≡ true → first_wanted wanted rank records (since n order) ≡ Some n
    found agreed =
        let it : is_wanted wanted (record_of records s.first) ≡ true = ap (λ k. is_wanted wanted (record_at records k)) s.is.node ∙ agreed in
        let at : (s.first.rank == rank) ≡ true = (let e = rank_here in grind (arith, nat_tests, e)) in
        ap (first_wanted wanted rank records) s.is.from
        ∙ ap (λ (b : Bool). if b && is_wanted wanted (record_of records s.first) then Some s.first.node else first_wanted wanted rank records s.tail) at
        ∙ ap (λ (b : Bool). if b then Some s.first.node else first_wanted wanted rank records s.tail) it
        ∙ ap Some s.is.node

    pub shorter : length (rest_of (next_of_rank n order) order) < length (since n order)
    shorter = omega (arith, ap length next_is, rest_no_longer (first_of_rank rank s.tail) s.tail, ap length s.is.from)

below_if : (n node nodes : ℕ) (came : Bool) (b : Bool) → (node == n) ≡ b → node < nodes → (came ≡ true → n < nodes) → (if b then true else came) ≡ true → n < nodes
below_if n node nodes came true same first later e = let is : node ≡ n = grind (arith, nat_tests, same) in omega (arith, is, first)
below_if n node nodes came false other first later e = later e

pub come_below : (n nodes : ℕ) (order : List Arrival) → AllByRecursion (IsArrival nodes) order → has_come n order ≡ true → n < nodes
come_below n nodes [] each came = cc
come_below n nodes (a ∷ order) each came =
    below_if n a.node nodes (has_come n order) (a.node == n) refl each.0.node (λ e. come_below n nodes order each.1 e) came

pub read_record : (records : List SignalRecord) (n : ℕ) (v : SignalRecord) → v ≡ get_or records n v → n < length records → v ≡ record_at records n
read_record [] n v e l = absurd (omega (arith, l))
read_record (x ∷ records) zero v e l = e
read_record (x ∷ records) (suc n) v e l = read_record records n v e (omega (arith, l))

-- ---- all by age

pub rest_oldest : (order : List Arrival) → rest_of (oldest order) order ≡ order
rest_oldest [] = refl
rest_oldest (a ∷ order) = let same : (a.node == a.node) ≡ true = grind (arith, nat_tests) in ap (λ b. if b then a ∷ order else since a.node order) same

pub later_rest : (order : List Arrival) (n : ℕ) (s : Split n order) → rest_of (oldest s.tail) order ≡ s.tail
later_rest order n s = at (oldest s.tail) (λ m e. oldest_in m s.tail e) ∙ rest_oldest s.tail
  where
    at : (o : Option ℕ) → ((m : ℕ) → o ≡ Some m → has_come m s.tail ≡ true) → rest_of o order ≡ rest_of o s.tail
    at None in_tail = refl
    at (Some m) in_tail = (s.is.later m (in_tail m refl)).0
