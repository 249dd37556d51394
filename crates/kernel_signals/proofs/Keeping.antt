-- Records that are kept as one becomes pending, and as one is taken.
use Rattle.std.specs.Prelude.{All, Contains, filter, not, replicate}
use Rattle.std.specs.List.{AllByRecursion}
use Rattle.std.proofs.Common.{◌≡◌, ◌≢◌, ℕ, zero, suc, ◌+◌, ◌-◌, ◌<◌, ◌≤◌, ◌==◌, Bool, true, false, List, [], ◌∷◌, ◌++◌, length, set, get_or, if◌then◌else◌, refl, sym, ap, ap₂, subst, subst₂, ◌∙◌, arith}
use Rattle.std.proofs.lemmas.Bool.Decides.{nat_tests}
use Rattle.std.proofs.lemmas.List.{get_or-set_same, get_or-set_other, length-set}
use Rattle.rules_machine.specs.State.{SignalRecord}
use Rattle.rules_machine.specs.Signals.{is_counted, without_record}
use Rattle.parts_arrivals.specs.Arrivals.{Arrival, Arrivals, has_come, without_node}
use Rattle.kernel_signals.specs.Timed.{AreTimed, with_one, with_one_fewer}
use Rattle.kernel_signals.proofs.Counting.{count_back, count_few, count_less}
use Rattle.kernel_signals.proofs.Timing.{long_fewer, long_more, timed_fewer, timed_more, timed_none}
use Rattle.kernel_signals.specs.Kept.{AreKept, AreRanked, AreRising, counted_in, no_record, room, record_at, record_of, records_of, weight_of}

-- ---- of all members of a list

pub by_recursion : {X : Type 0} (P : X → Type 0) (xs : List X) → All P xs → AllByRecursion P xs
by_recursion P [] all = tt
by_recursion P (x ∷ xs) all = (all 0 x (omega arith), by_recursion P xs (λ k d l. all (suc k) d (omega (arith, l))))

pub to_all : {X : Type 0} (P : X → Type 0) (xs : List X) → AllByRecursion P xs → All P xs
to_all P [] all k d l = absurd (omega (arith, l))
to_all P (x ∷ xs) all zero d l = all.0
to_all P (x ∷ xs) all (suc k) d l = to_all P xs all.1 k d (omega (arith, l))

all_back : {X : Type 0} (P : X → Type 0) (xs : List X) (x : X) → AllByRecursion P xs → P x → AllByRecursion P (xs ++ x ∷ [])
all_back P [] x all p = (p, tt)
all_back P (y ∷ xs) x all p = (all.0, all_back P xs x all.1 p)

-- ---- nothing is pending

pub kept_none : (arrivals : Arrivals) (records : List SignalRecord) (timers : List ℕ) → arrivals ≡ record { nodes = room; order = [] } → records ≡ replicate room no_record → timers ≡ replicate 256 0
    → AreKept arrivals records 0 timers
kept_none arrivals records timers a r t =
    subst (λ (x : Arrivals). AreKept x records 0 timers) (sym a) (subst₂ (λ (rs : List SignalRecord) (ts : List ℕ). AreKept (record { nodes = room; order = [] }) rs 0 ts) (sym r) (sym t)
    (record { nodes = refl; known = length_all no_record room; ranked = tt; rising = tt; signals = tt; tallied = refl; long = (let none : ℕ = 0 in length_all none 256); timed = timed_none }))
  where
    length_all : {X : Type 0} (x : X) (n : ℕ) → length (replicate n x) ≡ n
    length_all x zero = refl
    length_all x (suc n) = ap suc (length_all x n)

-- ---- a record becomes pending

kept_others : (records : List SignalRecord) (n : ℕ) (v : SignalRecord) (order : List Arrival) → has_come n order ≡ false → records_of (set records n v) order ≡ records_of records order
kept_others records n v [] h = refl
kept_others records n v (a ∷ order) h =
    let other : a.node ≢ n = grind (arith, nat_tests, h) in
    let later : has_come n order ≡ false = grind (arith, nat_tests, h) in
    let first : get_or (set records n v) a.node no_record ≡ get_or records a.node no_record = get_or-set_other records n a.node v no_record other in
    let rest : records_of (set records n v) order ≡ records_of records order = kept_others records n v order later in
    ap₂ (λ (r : SignalRecord) (rs : List SignalRecord). r ∷ rs) first rest

pub records_back : (records : List SignalRecord) (a : Arrival) (order : List Arrival) → records_of records (order ++ a ∷ []) ≡ records_of records order ++ record_of records a ∷ []
records_back records a [] = refl
records_back records a (b ∷ order) = ap (λ (rs : List SignalRecord). record_of records b ∷ rs) (records_back records a order)

pub records_with : (records : List SignalRecord) (n rank : ℕ) (v : SignalRecord) (order : List Arrival) → n < length records → has_come n order ≡ false →
    records_of (set records n v) (order ++ record { node = n; rank = rank } ∷ []) ≡ records_of records order ++ v ∷ []
records_with records n rank v order known fresh =
    records_back (set records n v) (record { node = n; rank = rank }) order
    ∙ ap₂ (λ (rs : List SignalRecord) (r : SignalRecord). rs ++ r ∷ []) (kept_others records n v order fresh) (get_or-set_same records n v no_record known)

ranked_others : (records : List SignalRecord) (n : ℕ) (v : SignalRecord) (order : List Arrival) → has_come n order ≡ false → AreRanked records order → AreRanked (set records n v) order
ranked_others records n v [] h ranked = tt
ranked_others records n v (a ∷ order) h ranked =
    let other : a.node ≢ n = grind (arith, nat_tests, h) in
    let later : has_come n order ≡ false = grind (arith, nat_tests, h) in
    let first : get_or (set records n v) a.node no_record ≡ get_or records a.node no_record = get_or-set_other records n a.node v no_record other in
    (ap (λ (r : SignalRecord). r.signal) first ∙ ranked.0, ranked_others records n v order later ranked.1)

ranked_with : (records : List SignalRecord) (n : ℕ) (v : SignalRecord) (order : List Arrival) → n < length records → has_come n order ≡ false → AreRanked records order →
    AreRanked (set records n v) (order ++ record { node = n; rank = v.signal } ∷ [])
ranked_with records n v order known fresh ranked =
    all_back (λ (a : Arrival). (record_of (set records n v) a).signal ≡ a.rank) order (record { node = n; rank = v.signal })
    (ranked_others records n v order fresh ranked) (ap (λ (r : SignalRecord). r.signal) (get_or-set_same records n v no_record known))

rising_with : (xs : List SignalRecord) (v : SignalRecord) → AreRising xs → AllByRecursion (λ (r : SignalRecord). r.serial < v.serial) xs → AreRising (xs ++ v ∷ [])
rising_with [] v rising below = (tt, tt)
rising_with (x ∷ xs) v rising below = (all_back (λ (s : SignalRecord). x.serial < s.serial) xs v rising.0 below.0, rising_with xs v rising.1 below.1)

pub count_with : (xs : List SignalRecord) (v : SignalRecord) → counted_in (xs ++ v ∷ []) ≡ counted_in xs + weight_of v.code
count_with xs v = count_back (λ (r : SignalRecord). is_counted r.code) xs v

pub length_records : (records : List SignalRecord) (order : List Arrival) → length (records_of records order) ≡ length order
length_records records [] = refl
length_records records (a ∷ order) = ap suc (length_records records order)

pub few_counted : (records : List SignalRecord) (order : List Arrival) → counted_in (records_of records order) ≤ length order
few_counted records order = omega (arith, count_few (λ (r : SignalRecord). is_counted r.code) (records_of records order), length_records records order)

pub kept_with : (arrivals arrivals' : Arrivals) (records : List SignalRecord) (counted n : ℕ) (timers : List ℕ) (v : SignalRecord) → AreKept arrivals records counted timers → v.signal < 32 → n < arrivals.nodes → has_come n arrivals.order ≡ false →
    arrivals' ≡ record arrivals { order = arrivals.order ++ record { node = n; rank = v.signal } ∷ [] } → AllByRecursion (λ (r : SignalRecord). r.serial < v.serial) (records_of records arrivals.order) →
    AreKept arrivals' (set records n v) (counted + weight_of v.code) (with_one v.timer timers)
kept_with arrivals arrivals' records counted n timers v kept small below fresh is youngest =
    let known : n < length records = omega (arith, below, kept.nodes, kept.known) in
    let seen : records_of (set records n v) arrivals'.order ≡ records_of records arrivals.order ++ v ∷ [] =
    ap (λ (a : Arrivals). records_of (set records n v) a.order) is ∙ records_with records n v.signal v arrivals.order known fresh in
    record {
      nodes = ap (λ (a : Arrivals). a.nodes) is ∙ kept.nodes;
      known = length-set records n v ∙ kept.known;
      ranked = subst (λ (a : Arrivals). AreRanked (set records n v) a.order) (sym is) (ranked_with records n v arrivals.order known fresh kept.ranked);
      rising = subst AreRising (sym seen) (rising_with (records_of records arrivals.order) v kept.rising youngest);
      signals = subst (λ (rs : List SignalRecord). AllByRecursion (λ (r : SignalRecord). r.signal < 32) rs) (sym seen)
          (all_back (λ (r : SignalRecord). r.signal < 32) (records_of records arrivals.order) v kept.signals small);
      tallied = omega (arith, kept.tallied, ap counted_in seen, count_with (records_of records arrivals.order) v);
      long = long_more v.timer timers ∙ kept.long;
      timed = subst (AreTimed (with_one v.timer timers)) (sym seen) (timed_more timers (records_of records arrivals.order) v kept.long kept.timed);
    }

-- ---- a record is taken

module _ (records : List SignalRecord) (n : ℕ) where
  member_if : (P : SignalRecord → Type 0) (a : Arrival) (came : Bool) (b : Bool) → (a.node == n) ≡ b → P (record_of records a) → (came ≡ true → P (record_at records n)) → (if b then true else came) ≡ true → P (record_at records n)
  member_if P a came true same first later e = let is : a.node ≡ n = grind (arith, nat_tests, same) in subst (λ k. P (record_at records k)) is first
  member_if P a came false other first later e = later e

  -- what holds of all holds of the one at the node
  pub member : (P : SignalRecord → Type 0) (order : List Arrival) → AllByRecursion P (records_of records order) → has_come n order ≡ true → P (record_at records n)
  member P [] all came = cc
  member P (a ∷ order) all came = member_if P a (has_come n order) (a.node == n) refl all.0 (λ e. member P order all.1 e) came

  all_if : (P : SignalRecord → Type 0) (a : Arrival) (order : List Arrival) (b : Bool) → AllByRecursion P (records_of records (a ∷ order)) → AllByRecursion P (records_of records (without_node n order)) →
      AllByRecursion P (records_of records (if b then order else a ∷ without_node n order))
  all_if P a order true all later = all.1
  all_if P a order false all later = (all.0, later)

  all_without : (P : SignalRecord → Type 0) (order : List Arrival) → AllByRecursion P (records_of records order) → AllByRecursion P (records_of records (without_node n order))
  all_without P [] all = tt
  all_without P (a ∷ order) all = all_if P a order (a.node == n) all (all_without P order all.1)

  ranked_if : (a : Arrival) (order : List Arrival) (b : Bool) → AreRanked records (a ∷ order) → AreRanked records (without_node n order) → AreRanked records (if b then order else a ∷ without_node n order)
  ranked_if a order true all later = all.1
  ranked_if a order false all later = (all.0, later)

  ranked_without : (order : List Arrival) → AreRanked records order → AreRanked records (without_node n order)
  ranked_without [] all = tt
  ranked_without (a ∷ order) all = ranked_if a order (a.node == n) all (ranked_without order all.1)

  rising_if : (a : Arrival) (order : List Arrival) (b : Bool) → AreRising (records_of records (a ∷ order)) → AreRising (records_of records (without_node n order)) →
      AreRising (records_of records (if b then order else a ∷ without_node n order))
  rising_if a order true rising later = rising.1
  rising_if a order false rising later = (all_without (λ (s : SignalRecord). (record_of records a).serial < s.serial) order rising.0, later)

  rising_without : (order : List Arrival) → AreRising (records_of records order) → AreRising (records_of records (without_node n order))
  rising_without [] rising = tt
  rising_without (a ∷ order) rising = rising_if a order (a.node == n) rising (rising_without order rising.1)

  -- none of these is the record
  all_stay : (serial : ℕ) (xs : List SignalRecord) → AllByRecursion (λ (s : SignalRecord). serial < s.serial) xs → filter (λ (s : SignalRecord). not (s.serial == serial)) xs ≡ xs
  all_stay serial [] all = refl
  all_stay serial (x ∷ xs) all =
      let above : serial < x.serial = all.0 in let other : (x.serial == serial) ≡ false = grind (arith, nat_tests, above) in
      ap (λ b. if not b then x ∷ filter (λ (s : SignalRecord). not (s.serial == serial)) xs else filter (λ (s : SignalRecord). not (s.serial == serial)) xs) other
      ∙ ap (λ (rs : List SignalRecord). x ∷ rs) (all_stay serial xs all.1)

  without_if : (a : Arrival) (order : List Arrival) (b : Bool) → (a.node == n) ≡ b → AreRising (records_of records (a ∷ order)) → (if b then true else has_come n order) ≡ true →
      (has_come n order ≡ true → records_of records (without_node n order) ≡ without_record (record_at records n) (records_of records order)) →
      records_of records (if b then order else a ∷ without_node n order) ≡ without_record (record_at records n) (records_of records (a ∷ order))
  without_if a order true e rising came later =
      let is : a.node ≡ n = grind (arith, nat_tests, e) in
      let serial : (record_of records a).serial ≡ (record_at records n).serial = ap (λ k. (record_at records k).serial) is in
      let same : ((record_of records a).serial == (record_at records n).serial) ≡ true = grind (arith, nat_tests, serial) in
      let tail = subst (λ k. AllByRecursion (λ (s : SignalRecord). k < s.serial) (records_of records order)) serial rising.0 in
      sym (ap (λ b. if not b then record_of records a ∷ without_record (record_at records n) (records_of records order) else without_record (record_at records n) (records_of records order)) same
      ∙ all_stay (record_at records n).serial (records_of records order) tail)
  without_if a order false e rising came later =
      let above : (record_of records a).serial < (record_at records n).serial = member (λ (s : SignalRecord). (record_of records a).serial < s.serial) order rising.0 came in
      let other : ((record_of records a).serial == (record_at records n).serial) ≡ false = grind (arith, nat_tests, above) in
      ap (λ (rs : List SignalRecord). record_of records a ∷ rs) (later came)
      ∙ sym (ap (λ b. if not b then record_of records a ∷ without_record (record_at records n) (records_of records order) else without_record (record_at records n) (records_of records order)) other)

  pub records_without : (order : List Arrival) → AreRising (records_of records order) → has_come n order ≡ true → records_of records (without_node n order) ≡ without_record (record_at records n) (records_of records order)
  records_without [] rising came = cc
  records_without (a ∷ order) rising came = without_if a order (a.node == n) refl rising came (λ e. records_without order rising.1 e)

  pub count_without : (order : List Arrival) → has_come n order ≡ true → counted_in (records_of records (without_node n order)) + weight_of (record_at records n).code ≡ counted_in (records_of records order)
  count_without order came = count_less (λ (r : SignalRecord). is_counted r.code) records n order came

  pub kept_without : (arrivals arrivals' : Arrivals) (counted : ℕ) (timers : List ℕ) → AreKept arrivals records counted timers → has_come n arrivals.order ≡ true → arrivals' ≡ record arrivals { order = without_node n arrivals.order } →
      AreKept arrivals' records (counted - weight_of (record_at records n).code) (with_one_fewer (record_at records n).timer timers)
  kept_without arrivals arrivals' counted timers kept came is = record {
    nodes = ap (λ (a : Arrivals). a.nodes) is ∙ kept.nodes;
    known = kept.known;
    ranked = subst (λ (a : Arrivals). AreRanked records a.order) (sym is) (ranked_without arrivals.order kept.ranked);
    rising = subst (λ (a : Arrivals). AreRising (records_of records a.order)) (sym is) (rising_without arrivals.order kept.rising);
    signals = subst (λ (a : Arrivals). AllByRecursion (λ (r : SignalRecord). r.signal < 32) (records_of records a.order)) (sym is) (all_without (λ (r : SignalRecord). r.signal < 32) arrivals.order kept.signals);
    tallied = omega (arith, kept.tallied, count_without arrivals.order came, ap (λ (a : Arrivals). counted_in (records_of records a.order)) is);
    long = long_fewer (record_at records n).timer timers ∙ kept.long;
    timed = subst (λ (a : Arrivals). AreTimed (with_one_fewer (record_at records n).timer timers) (records_of records a.order)) (sym is) (timed_fewer timers records n arrivals.order kept.long came kept.timed);
  }

-- ---- a member

pub contained : (P : SignalRecord → Type 0) (xs : List SignalRecord) (r : SignalRecord) → AllByRecursion P xs → Contains xs r → P r
contained P xs r all is = subst P is.2 (to_all P xs all is.0 r is.1)

-- what is taken goes by its serial alone
pub same_serial : (r s : SignalRecord) (xs : List SignalRecord) → r.serial ≡ s.serial → without_record r xs ≡ without_record s xs
same_serial r s xs e = ap (λ k. filter (λ (other : SignalRecord). not (other.serial == k)) xs) e

contains_if : (records : List SignalRecord) (n : ℕ) (a : Arrival) (order : List Arrival) (b : Bool) → (a.node == n) ≡ b → (if b then true else has_come n order) ≡ true →
    (has_come n order ≡ true → Contains (records_of records order) (record_at records n)) → Contains (records_of records (a ∷ order)) (record_at records n)
contains_if records n a order true e came later = let is : a.node ≡ n = grind (arith, nat_tests, e) in (0, omega arith, ap (record_at records) is)
contains_if records n a order false e came later = let c = later came in (suc c.0, omega (arith, c.1), c.2)

pub contains_at : (records : List SignalRecord) (n : ℕ) (order : List Arrival) → has_come n order ≡ true → Contains (records_of records order) (record_at records n)
contains_at records n [] came = cc
contains_at records n (a ∷ order) came = contains_if records n a order (a.node == n) refl came (λ e. contains_at records n order e)
