-- The next message, and what its node is.
use Rattle.std.specs.Prelude.{IsSome, nat_lt, option_map, position, unwrap_or}
use Rattle.std.specs.List.{AllByRecursion, position_from}
use Rattle.std.proofs.Common.{◌≡◌, ◌≢◌, ℕ, zero, suc, ◌+◌, ◌<◌, ◌≤◌, ◌==◌, true, false, Bool, Option, Some, None, List, [], ◌∷◌, ◌++◌, length, max, set, get_or, if◌then◌else◌, refl, sym, ap, subst, ◌∙◌, arith}
use Rattle.std.proofs.lemmas.Bool.Decides.{nat_tests}
use Rattle.std.proofs.lemmas.Iterator.Adapters.{position_from-zero}
use Rattle.std.proofs.lemmas.List.{get_or-set_same, get_or-set_other}
use Rattle.rules_machine.specs.State.{Message, Queue, Registration}
use Rattle.rules_machine.specs.Lists.{without_at}
use Rattle.rules_machine.specs.Queues.{has_room, highest_priority, next_message, value_at}
use Rattle.parts_arrivals.specs.Arrivals.{Arrival, AreDistinct, IsArrival, first_of_rank, has_come, higher, highest_rank, without_node}
use Rattle.kernel_queues.specs.Messages.{message_at, messages_of}
use Rattle.kernel_queues.specs.Queues.{next_value, without_next, without_one}

-- what is seen of a queue
abbrev pub seen : ℕ → ℕ → Bool → List Message → Option Registration → Queue
seen depth longest nonblock messages registration = record { depth = depth; longest = longest; is_nonblock = nonblock; messages = messages; registration = registration }

-- ---- a message enters

kept_values : (values : List ℕ) (n v : ℕ) (order : List Arrival) → has_come n order ≡ false → messages_of (set values n v) order ≡ messages_of values order
kept_values values n v [] h = refl
kept_values values n v (a ∷ order) h =
    let other : a.node ≢ n = grind (arith, nat_tests, h) in
    let later : has_come n order ≡ false = grind (arith, nat_tests, h) in
    let here : get_or (set values n v) a.node 0 ≡ get_or values a.node 0 = get_or-set_other values n a.node v 0 other in
    let rest : messages_of (set values n v) order ≡ messages_of values order = kept_values values n v order later in
    rw (here, rest) refl

messages_back : (values : List ℕ) (a : Arrival) (order : List Arrival) → messages_of values (order ++ a ∷ []) ≡ messages_of values order ++ message_at values a ∷ []
messages_back values a [] = refl
messages_back values a (b ∷ order) = ap (λ (ms : List Message). message_at values b ∷ ms) (messages_back values a order)

pub messages_with : (values : List ℕ) (n r v : ℕ) (order : List Arrival) → n < length values → has_come n order ≡ false →
    messages_of (set values n v) (order ++ record { node = n; rank = r } ∷ []) ≡ messages_of values order ++ record { priority = r; value = v } ∷ []
messages_with values n r v order known fresh =
    let here : get_or (set values n v) n 0 ≡ v = get_or-set_same values n v 0 known in
    let rest : messages_of (set values n v) order ≡ messages_of values order = kept_values values n v order fresh in
    messages_back (set values n v) (record { node = n; rank = r }) order ∙ rw (here, rest) refl

pub length_messages : (values : List ℕ) (order : List Arrival) → length (messages_of values order) ≡ length order
length_messages values [] = refl
length_messages values (a ∷ order) = ap suc (length_messages values order)

-- ---- the greatest priority

higher_is : (rank g : ℕ) (o : Option ℕ) → unwrap_or o 0 ≡ g → higher rank o ≡ max rank g
higher_is rank g None e = omega (arith, e)
higher_is rank g (Some k) e = ap (λ n. max rank n) e

greatest_is : (values : List ℕ) (order : List Arrival) → unwrap_or (highest_rank order) 0 ≡ highest_priority (messages_of values order)
greatest_is values [] = refl
greatest_is values (a ∷ order) = higher_is a.rank (highest_priority (messages_of values order)) (highest_rank order) (greatest_is values order)

pub highest_is : (values : List ℕ) (order : List Arrival) (p : ℕ) → highest_rank order ≡ Some p → highest_priority (messages_of values order) ≡ p
highest_is values order p e = sym (greatest_is values order) ∙ ap (λ (o : Option ℕ). unwrap_or o 0) e

-- ---- the oldest of a priority

record IsChosen (values : List ℕ) (order : List Arrival) (p n i : ℕ) : Type 0 where
  at : ℕ
  found : position_from (λ (m : Message). m.priority == p) i (messages_of values order) ≡ Some (i + at)
  read : value_at (messages_of values order) at ≡ get_or values n 0
  rest : messages_of values (without_node n order) ≡ without_at at (messages_of values order)
  came : has_come n order ≡ true

first_here : (values : List ℕ) (a : Arrival) (order : List Arrival) (p n i : ℕ) → (a.rank == p) ≡ true → Some a.node ≡ Some n → IsChosen values (a ∷ order) p n i
first_here values a order p n i same e =
    let node : a.node ≡ n = cc in
    let tested : (a.node == n) ≡ true = grind (arith, nat_tests, node) in
    record {
      at = 0;
      found = ap (λ b. if b then Some i else position_from (λ (m : Message). m.priority == p) (i + 1) (messages_of values order)) same ∙ ap Some (omega arith);
      read = ap (λ k. get_or values k 0) node;
      rest = ap (λ b. messages_of values (if b then order else a ∷ without_node n order)) tested;
      came = ap (λ b. if b then true else has_come n order) tested;
    }

not_same : (a : Arrival) (n : ℕ) (order : List Arrival) → has_come a.node order ≡ false → has_come n order ≡ true → (a.node == n) ≡ false
not_same a n order fresh came = by_test (a.node == n) refl
  where
    by_test : (b : Bool) → (a.node == n) ≡ b → (a.node == n) ≡ false
    by_test true e =
        let same : a.node ≡ n = grind (arith, nat_tests, e) in
        let gone : has_come n order ≡ false = subst (λ k. has_come k order ≡ false) same fresh in
        let clash : true ≡ false = sym came ∙ gone in cc
    by_test false e = e

without_later : (m : Message) (k : ℕ) (ms : List Message) → without_at (suc k) (m ∷ ms) ≡ m ∷ without_at k ms
without_later m k ms = let e : suc k + 1 ≡ suc (k + 1) = omega arith in rw e refl

first_later : (values : List ℕ) (a : Arrival) (order : List Arrival) (p n i : ℕ) → (a.rank == p) ≡ false → has_come a.node order ≡ false → IsChosen values order p n (i + 1) → IsChosen values (a ∷ order) p n i
first_later values a order p n i other fresh later =
    let tested = not_same a n order fresh later.came in
    record {
      at = suc later.at;
      found = ap (λ b. if b then Some i else position_from (λ (m : Message). m.priority == p) (i + 1) (messages_of values order)) other ∙ later.found ∙ ap Some (omega arith);
      read = later.read;
      rest = ap (λ b. messages_of values (if b then order else a ∷ without_node n order)) tested ∙ ap (λ (ms : List Message). message_at values a ∷ ms) later.rest
          ∙ sym (without_later (message_at values a) later.at (messages_of values order));
      came = ap (λ b. if b then true else has_come n order) tested ∙ later.came;
    }

chosen_if : (values : List ℕ) (a : Arrival) (order : List Arrival) (p n i : ℕ) (b : Bool) → (a.rank == p) ≡ b → has_come a.node order ≡ false →
    (if b then Some a.node else first_of_rank p order) ≡ Some n → (first_of_rank p order ≡ Some n → IsChosen values order p n (i + 1)) → IsChosen values (a ∷ order) p n i
chosen_if values a order p n i true same fresh e later = first_here values a order p n i same e
chosen_if values a order p n i false other fresh e later = first_later values a order p n i other fresh (later e)

first_chosen : (values : List ℕ) (order : List Arrival) (p n i : ℕ) → first_of_rank p order ≡ Some n → AreDistinct order → IsChosen values order p n i
first_chosen values [] p n i e d = cc
first_chosen values (a ∷ order) p n i e d =
    chosen_if values a order p n i (a.rank == p) refl d.0 e (λ e'. first_chosen values order p n (i + 1) e' d.1)

-- what is taken, with its place among the messages
pub record IsNext (values : List ℕ) (order : List Arrival) (n : ℕ) : Type 0 where
  pub at : ℕ
  pub found : next_message (messages_of values order) ≡ Some at
  pub read : value_at (messages_of values order) at ≡ get_or values n 0
  pub rest : messages_of values (without_node n order) ≡ without_at at (messages_of values order)
  pub came : has_come n order ≡ true

pub next_chosen : (values : List ℕ) (order : List Arrival) (p n : ℕ) → highest_rank order ≡ Some p → first_of_rank p order ≡ Some n → AreDistinct order → IsNext values order n
next_chosen values order p n top first d =
    let is = first_chosen values order p n 0 first d in
    record {
      at = is.at;
      found = ap (λ h. position (λ (m : Message). m.priority == h) (messages_of values order)) (highest_is values order p top)
          ∙ position_from-zero (λ (m : Message). m.priority == p) (messages_of values order) ∙ is.found ∙ ap Some (omega arith);
      read = is.read;
      rest = is.rest;
      came = is.came;
    }

pub none_next : (values : List ℕ) (order : List Arrival) → highest_rank order ≡ None → messages_of values order ≡ []
none_next values [] e = refl
none_next values (a ∷ order) e = cc

-- the highest rank has a first node
first_if : (a : Arrival) (p : ℕ) (rest : Option ℕ) → (a.rank ≢ p → IsSome rest) → IsSome (if a.rank == p then Some a.node else rest)
first_if a p rest h = by_test (a.rank == p) refl
  where
    by_test : (b : Bool) → (a.rank == p) ≡ b → IsSome (if b then Some a.node else rest)
    by_test true same = refl
    by_test false other = h (grind (arith, nat_tests, other))

of_rest : (rank p : ℕ) (o : Option ℕ) → Some (higher rank o) ≡ Some p → rank ≢ p → o ≡ Some p
of_rest rank p None e other = absurd (other cc)
of_rest rank p (Some k) e other = let m : max rank k ≡ p = cc in ap Some (omega (arith, m, other))

pub has_first : (order : List Arrival) (p : ℕ) → highest_rank order ≡ Some p → IsSome (first_of_rank p order)
has_first [] p e = cc
has_first (a ∷ order) p e = first_if a p (first_of_rank p order) (λ other. has_first order p (of_rest a.rank p (highest_rank order) e other))

below_if : (n node nodes : ℕ) (came : Bool) (b : Bool) → (node == n) ≡ b → node < nodes → (came ≡ true → n < nodes) → (if b then true else came) ≡ true → n < nodes
below_if n node nodes came true same here later e = let is : node ≡ n = grind (arith, nat_tests, same) in omega (arith, is, here)
below_if n node nodes came false other here later e = later e

pub come_below : (n nodes : ℕ) (order : List Arrival) → AllByRecursion (IsArrival nodes) order → has_come n order ≡ true → n < nodes
come_below n nodes [] each came = cc
come_below n nodes (a ∷ order) each came =
    below_if n a.node nodes (has_come n order) (a.node == n) refl each.0.node (λ e. come_below n nodes order each.1 e) came

pub read_value : (values : List ℕ) (n v : ℕ) → v ≡ get_or values n v → n < length values → v ≡ get_or values n 0
read_value [] n v e l = absurd (omega (arith, l))
read_value (x ∷ values) zero v e l = e
read_value (x ∷ values) (suc n) v e l = read_value values n v e (omega (arith, l))

-- ---- the queue after the next message is taken

pub value_taken : (values : List ℕ) (order : List Arrival) (n v depth longest : ℕ) (nonblock : Bool) (registration : Option Registration) → IsNext values order n → v ≡ get_or values n 0 →
    Some v ≡ next_value (seen depth longest nonblock (messages_of values order) registration)
value_taken values order n v depth longest nonblock registration is e =
    ap Some (e ∙ sym is.read) ∙ ap (λ (o : Option ℕ). option_map (value_at (messages_of values order)) o) (sym is.found)

pub rest_taken : (values : List ℕ) (order : List Arrival) (n depth longest : ℕ) (nonblock : Bool) (registration : Option Registration) → IsNext values order n →
    seen depth longest nonblock (messages_of values (without_node n order)) registration ≡ without_next (seen depth longest nonblock (messages_of values order) registration)
rest_taken values order n depth longest nonblock registration is =
    ap (λ (ms : List Message). seen depth longest nonblock ms registration) is.rest
    ∙ sym (ap (λ (o : Option ℕ). without_one o (seen depth longest nonblock (messages_of values order) registration)) is.found)

pub no_value : (values : List ℕ) (order : List Arrival) (depth longest : ℕ) (nonblock : Bool) (registration : Option Registration) → highest_rank order ≡ None →
    None ≡ next_value (seen depth longest nonblock (messages_of values order) registration)
no_value values order depth longest nonblock registration e =
    sym (ap (λ (ms : List Message). next_value (seen depth longest nonblock ms registration)) (none_next values order e))

pub no_rest : (values : List ℕ) (order : List Arrival) (depth longest : ℕ) (nonblock : Bool) (registration : Option Registration) → highest_rank order ≡ None →
    seen depth longest nonblock (messages_of values order) registration ≡ without_next (seen depth longest nonblock (messages_of values order) registration)
no_rest values order depth longest nonblock registration e =
    sym (ap (λ (o : Option ℕ). without_one o (seen depth longest nonblock (messages_of values order) registration))
    (ap (λ (ms : List Message). next_message ms) (none_next values order e)))

-- ---- and there is room for another

shorter_if : (a : Arrival) (n : ℕ) (order : List Arrival) (b : Bool) → (a.node == n) ≡ b → (has_come n order ≡ true → suc (length (without_node n order)) ≡ length order) →
    (if b then true else has_come n order) ≡ true → suc (length (if b then order else a ∷ without_node n order)) ≡ suc (length order)
shorter_if a n order true same rest came = refl
shorter_if a n order false other rest came = ap suc (rest came)

shorter : (n : ℕ) (order : List Arrival) → has_come n order ≡ true → suc (length (without_node n order)) ≡ length order
shorter n [] came = cc
shorter n (a ∷ order) came = shorter_if a n order (a.node == n) refl (shorter n order) came

below : (a b : ℕ) → a < b → nat_lt a b ≡ true
below a b lt = grind (arith, lt)

pub room_taken : (values : List ℕ) (order : List Arrival) (n nodes depth longest : ℕ) (nonblock : Bool) (registration : Option Registration) → has_come n order ≡ true → length order ≤ nodes →
    nodes ≡ depth → has_room (seen depth longest nonblock (messages_of values (without_node n order)) registration) ≡ true
room_taken values order n nodes depth longest nonblock registration came few same =
    below (length (messages_of values (without_node n order))) depth (omega (arith, length_messages values (without_node n order), shorter n order came, few, same))
