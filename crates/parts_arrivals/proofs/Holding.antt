-- Lists of nodes that hold arrivals.
use Rattle.std.specs.Prelude.{MatchOption, is_some, nat_lt}
use Rattle.std.proofs.Common.{◌≡◌, ◌≢◌, ⊎_elim, ℕ, zero, suc, ◌+◌, ◌-◌, ◌<◌, ◌≤◌, ◌==◌, Bool, true, false, Option, Some, None, List, [], ◌∷◌, ◌++◌, length, map, replicate, set, get_or, slice_get, refl, sym, ap, subst, ◌∙◌, arith}
use Rattle.std.proofs.lemmas.List.{get_or-set_same, get_or-set_other, length-set}
use Rattle.std.proofs.lemmas.Bool.Decides.{nat_tests}
use Rattle.std.proofs.lemmas.Nat.Bits.{bit_at-zero}
use Rattle.parts_links.specs.Links.{Lists, StandOnce, list_at, stands_in, stands_at, on_a_list, without, follower, follower_on}
use Rattle.parts_links.proofs.Chains.{equal}
use Rattle.parts_links.proofs.Standing.{absent_same, alone_on, at_map, head_in, length_without, off_all, on_at, within, put_other, put_same}
use Rattle.parts_links.proofs.Walks.{follows_in}
use Rattle.parts_arrivals.specs.Arrivals.{Arrival, Arrivals, AreArrivals, first_of_rank, has_come, highest_rank, next_in_order, next_of_rank, of_rank, without_node}
use Rattle.parts_arrivals.specs.Held.{AreHeld, first_nodes, is_marked, order_of}
use Rattle.parts_arrivals.specs.Marks.{ChangesMark, IsHighest, NoneIsMarked}
use Rattle.parts_arrivals.proofs.Orders
use Rattle.parts_arrivals.proofs.Ranks.{highest_is, highest_none}

no_length : (xs : List ℕ) → nat_lt 0 (length xs) ≡ false → length xs ≡ 0
no_length [] h = refl
no_length (x ∷ xs) h = grind (arith, nat_tests, h)

a_length : (xs : List ℕ) → nat_lt 0 (length xs) ≡ true → 0 < length xs
a_length [] h = grind (arith, nat_tests, h)
a_length (x ∷ xs) h = omega arith

-- what is seen
abbrev pub seen : ℕ → List Arrival → Arrivals
seen nodes order = record { nodes = nodes; order = order }

some_back : (n : ℕ) (xs : List ℕ) → nat_lt 0 (length (xs ++ n ∷ [])) ≡ true
some_back n [] = refl
some_back n (x ∷ xs) = grind (arith, nat_tests)

some_head : (xs : List ℕ) → is_some (slice_get xs 0) ≡ nat_lt 0 (length xs)
some_head [] = refl
some_head (x ∷ xs) = grind (arith, nat_tests)

module _ (arrived ranked : Lists) (ranks : List ℕ) (marks count : ℕ) (h : AreHeld arrived ranked ranks marks count) where
  come : List ℕ
  come = list_at arrived.lists 0

  order : List Arrival
  order = order_of ranks come

  first_list : 0 < length arrived.lists
  first_list = omega (arith, h.two)

  pub come_below : (n : ℕ) → stands_in n (list_at arrived.lists 0) ≡ true → n < arrived.nodes
  come_below n t = h.ages_once.small n 0 first_list t

  pub are_arrivals : AreArrivals (record { nodes = arrived.nodes; order = order_of ranks (list_at arrived.lists 0) })
  are_arrivals = record {
    each = Orders.each_arrival ranks arrived.nodes (list_at arrived.lists 0) come_below h.small;
    distinct = Orders.distinct_order ranks (list_at arrived.lists 0) (h.ages_once.distinct 0 first_list);
    few = omega (arith, Orders.length_order ranks (list_at arrived.lists 0), h.counted);
  }

  pub first_held : (rank : ℕ) → rank < 32 → slice_get (list_at ranked.lists rank) 0 ≡ first_of_rank rank (order_of ranks (list_at arrived.lists 0))
  first_held rank l = ap (λ (xs : List ℕ). slice_get xs 0) (h.placed rank l) ∙ sym (Orders.first_is rank (order_of ranks (list_at arrived.lists 0)))

  pub marked_held : (rank : ℕ) → rank < 32 → is_marked rank marks ≡ is_some (first_of_rank rank (order_of ranks (list_at arrived.lists 0)))
  marked_held rank l = h.marked rank l ∙ sym (some_head (list_at ranked.lists rank)) ∙ ap (λ (o : Option ℕ). is_some o) (first_held rank l)

  pub highest_held : (o : Option ℕ) → MatchOption o (NoneIsMarked marks) (λ rank. IsHighest rank marks) → o ≡ highest_rank (order_of ranks (list_at arrived.lists 0))
  highest_held None none = highest_none arrived.nodes (order_of ranks (list_at arrived.lists 0)) are_arrivals.each
      (λ k l. ap (λ (xs : List ℕ). length xs) (sym (h.placed k l)) ∙ no_length (list_at ranked.lists k) (sym (h.marked k l) ∙ none k))
  highest_held (Some r) is = highest_is r arrived.nodes (order_of ranks (list_at arrived.lists 0)) are_arrivals.each
      (subst (λ (xs : List ℕ). 0 < length xs) (h.placed r is.small) (a_length (list_at ranked.lists r) (sym (h.marked r is.small) ∙ is.itself)))
      (λ k above l. ap (λ (xs : List ℕ). length xs) (sym (h.placed k l)) ∙ no_length (list_at ranked.lists k) (sym (h.marked k l) ∙ is.above k above))

  -- ---- a node that has come

  pub stands : (n : ℕ) → has_come n (order_of ranks (list_at arrived.lists 0)) ≡ true → stands_in n (list_at arrived.lists 0) ≡ true
  stands n t = sym (Orders.come_is ranks n (list_at arrived.lists 0)) ∙ t

  pub on_ages : (n : ℕ) → stands_in n (list_at arrived.lists 0) ≡ true → on_a_list n arrived.lists ≡ true
  on_ages n t = on_at n 0 arrived.lists t

  pub in_its_rank : (n : ℕ) → stands_in n (list_at arrived.lists 0) ≡ true → stands_at n (get_or ranks n 0) ranked.lists ≡ true
  in_its_rank n t = ap (λ (xs : List ℕ). stands_in n xs) (h.placed (get_or ranks n 0) (h.small n)) ∙ Orders.in_rank ranks n (get_or ranks n 0) (list_at arrived.lists 0) t refl

  pub on_ranks : (n : ℕ) → stands_in n (list_at arrived.lists 0) ≡ true → on_a_list n ranked.lists ≡ true
  on_ranks n t = on_at n (get_or ranks n 0) ranked.lists (in_its_rank n t)

  rank_list : (n : ℕ) → get_or ranks n 0 < length ranked.lists
  rank_list n = omega (arith, h.small n, h.each_rank)

  pub next_held : (n : ℕ) → stands_in n (list_at arrived.lists 0) ≡ true → follower_on n ranked.lists ≡ next_of_rank n (order_of ranks (list_at arrived.lists 0))
  next_held n t =
      follows_in ranked h.ranks_once n (get_or ranks n 0) (rank_list n) (in_its_rank n t)
      ∙ ap (λ (xs : List ℕ). follower n xs) (h.placed (get_or ranks n 0) (h.small n))
      ∙ sym (Orders.next_is ranks n (list_at arrived.lists 0) (h.ages_once.distinct 0 first_list) t)

  pub after_held : (n : ℕ) → stands_in n (list_at arrived.lists 0) ≡ true → follower_on n arrived.lists ≡ next_in_order n (order_of ranks (list_at arrived.lists 0))
  after_held n t = follows_in arrived h.ages_once n 0 first_list t ∙ sym (Orders.after_is ranks n (list_at arrived.lists 0))

  pub rank_read : (n v : ℕ) → stands_in n (list_at arrived.lists 0) ≡ true → v ≡ get_or ranks n v → v ≡ get_or ranks n 0
  rank_read n v t e = Orders.read_rank ranks n v e (omega (arith, come_below n t, h.known))

  -- ---- a node that has not

  pub free : (n : ℕ) → Some n ≡ slice_get (list_at arrived.lists 1) 0 → stands_in n (list_at arrived.lists 0) ≡ false
  free n e = alone_on arrived h.ages_once n 1 (head_in n (list_at arrived.lists 1) e) 0 (λ z. omega (arith, z))

  pub free_below : (n : ℕ) → Some n ≡ slice_get (list_at arrived.lists 1) 0 → n < arrived.nodes
  free_below n e = h.ages_once.small n 1 (omega (arith, h.two)) (head_in n (list_at arrived.lists 1) e)

  off_rank : (n : ℕ) → stands_in n (list_at arrived.lists 0) ≡ false → (k : ℕ) → stands_at n k ranked.lists ≡ false
  off_rank n f k =
      Orders.no_if (stands_at n k ranked.lists) (λ t. let l : k < 32 = omega (arith, within n k ranked.lists t, h.each_rank) in
      let there : stands_in n (of_rank k (order_of ranks (list_at arrived.lists 0))) ≡ true = sym (ap (λ (xs : List ℕ). stands_in n xs) (h.placed k l)) ∙ t in
      let came = (Orders.of_its_rank ranks n k (list_at arrived.lists 0) there).0 in cc)

  pub off_ranks : (n : ℕ) → stands_in n (list_at arrived.lists 0) ≡ false → on_a_list n ranked.lists ≡ false
  off_ranks n f = off_all n ranked.lists (off_rank n f)

  -- ---- a node comes

  module _ (n r : ℕ) (head : Some n ≡ slice_get (list_at arrived.lists 1) 0) (small : r < 32) (arrived' ranked' : Lists) (ranks' : List ℕ) (marks' : ℕ)
      (ages : arrived' ≡ record arrived { lists = set (map (without n) arrived.lists) 0 (list_at (map (without n) arrived.lists) 0 ++ n ∷ []) })
      (rank : ranked' ≡ record ranked { lists = set ranked.lists r (list_at ranked.lists r ++ n ∷ []) })
      (read : ranks' ≡ set ranks n r) where
    gone : List (List ℕ)
    gone = map (without n) arrived.lists

    fresh : stands_in n (list_at arrived.lists 0) ≡ false
    fresh = free n head

    known : n < length ranks
    known = omega (arith, h.known, h.ages_once.small n 1 (omega (arith, h.two)) (head_in n (list_at arrived.lists 1) head))

    come_kept : list_at (map (without n) arrived.lists) 0 ≡ list_at arrived.lists 0
    come_kept = at_map n 0 arrived.lists ∙ absent_same n (list_at arrived.lists 0) fresh

    two_left : length (map (without n) arrived.lists) ≡ 2
    two_left = length_without n arrived.lists ∙ h.two

    pub come_more : list_at arrived'.lists 0 ≡ list_at arrived.lists 0 ++ n ∷ []
    come_more =
        ap (λ (l : Lists). list_at l.lists 0) ages ∙ put_same n 0 (map (without n) arrived.lists) (omega (arith, two_left))
        ∙ ap (λ (xs : List ℕ). xs ++ n ∷ []) come_kept

    free_less : list_at arrived'.lists 1 ≡ without n (list_at arrived.lists 1)
    free_less = ap (λ (l : Lists). list_at l.lists 1) ages ∙ put_other n 0 (map (without n) arrived.lists) 1 (λ z. omega (arith, z)) ∙ at_map n 1 arrived.lists

    pub order_more : order_of ranks' (list_at arrived'.lists 0) ≡ order_of ranks (list_at arrived.lists 0) ++ record { node = n; rank = r } ∷ []
    order_more = rw (come_more, read) (Orders.order_with ranks n r (list_at arrived.lists 0) known fresh)

    placed_more : (k : ℕ) → k < 32 → list_at ranked'.lists k ≡ of_rank k (order_of ranks' (list_at arrived'.lists 0))
    placed_more k l = ⊎_elim
        (λ (same : k ≡ r). let here : list_at ranked.lists r ≡ of_rank r (order_of ranks (list_at arrived.lists 0)) = h.placed r small in
        rw same (ap (λ (l : Lists). list_at l.lists r) rank ∙ put_same n r ranked.lists (omega (arith, small, h.each_rank)) ∙ ap (λ (xs : List ℕ). xs ++ n ∷ []) here
        ∙ sym (ap (of_rank r) order_more ∙ Orders.rank_back_same r (order_of ranks (list_at arrived.lists 0)) (record { node = n; rank = r }) refl)))
        (λ other. ap (λ (l : Lists). list_at l.lists k) rank ∙ put_other n r ranked.lists k other ∙ h.placed k l
        ∙ sym (ap (of_rank k) order_more ∙ Orders.rank_back_other k (order_of ranks (list_at arrived.lists 0)) (record { node = n; rank = r }) (λ e. other (sym e))))
        (equal k r)

    small_more : (k : ℕ) → get_or ranks' k 0 < 32
    small_more k = ⊎_elim
        (λ (same : k ≡ n). let e : get_or ranks' k 0 ≡ r = (rw (read, same) (get_or-set_same ranks n r 0 known)) in omega (arith, e, small))
        (λ other. let e : get_or ranks' k 0 ≡ get_or ranks k 0 = (rw read (get_or-set_other ranks n k r 0 other)) in omega (arith, e, h.small k))
        (equal k n)

    marked_more : ChangesMark r true marks marks' → (k : ℕ) → k < 32 → is_marked k marks' ≡ nat_lt 0 (length (list_at ranked'.lists k))
    marked_more marked k l = ⊎_elim
        (λ (same : k ≡ r). rw same (marked.changed ∙ sym (ap (λ (l : Lists). nat_lt 0 (length (list_at l.lists r))) rank
        ∙ ap (λ (xs : List ℕ). nat_lt 0 (length xs)) (put_same n r ranked.lists (omega (arith, small, h.each_rank))) ∙ some_back n (list_at ranked.lists r))))
        (λ other. marked.others k l other ∙ h.marked k l ∙ sym (ap (λ (l : Lists). nat_lt 0 (length (list_at l.lists k))) rank
        ∙ ap (λ (xs : List ℕ). nat_lt 0 (length xs)) (put_other n r ranked.lists k other)))
        (equal k r)

    pub entered : ChangesMark r true marks marks' → StandOnce arrived' → StandOnce ranked' → AreHeld arrived' ranked' ranks' marks' (count + 1)
    entered marked a_once r_once = record {
      ages_once = a_once;
      ranks_once = r_once;
      few = omega (arith, h.few, ap (λ (l : Lists). l.nodes) ages);
      two = ap (λ (l : Lists). length l.lists) ages ∙ length-set (map (without n) arrived.lists) 0 _ ∙ two_left;
      same_nodes = ap (λ (l : Lists). l.nodes) rank ∙ h.same_nodes ∙ sym (ap (λ (l : Lists). l.nodes) ages);
      each_rank = ap (λ (l : Lists). length l.lists) rank ∙ length-set ranked.lists r _ ∙ h.each_rank;
      known = ap (λ (xs : List ℕ). length xs) read ∙ length-set ranks n r ∙ h.known ∙ sym (ap (λ (l : Lists). l.nodes) ages);
      tallied = omega (arith, h.tallied, ap (λ (xs : List ℕ). length xs) come_more, Orders.length_back n (list_at arrived.lists 0));
      counted = omega (
        arith,
        h.counted,
        ap (λ (xs : List ℕ). length xs) come_more,
        Orders.length_back n (list_at arrived.lists 0),
        ap (λ (xs : List ℕ). length xs) free_less,
        Orders.length_gone n (list_at arrived.lists 1) (head_in n (list_at arrived.lists 1) head),
        ap (λ (l : Lists). l.nodes) ages,
      );
      small = small_more;
      placed = placed_more;
      marked = marked_more marked;
    }

  -- ---- a node leaves

  module _ (n : ℕ) (came : stands_in n (list_at arrived.lists 0) ≡ true) (arrived' ranked' : Lists) (marks' : ℕ) (remains : Bool)
      (ages : arrived' ≡ record arrived { lists = set (map (without n) arrived.lists) 1 (n ∷ list_at (map (without n) arrived.lists) 1) })
      (rank : ranked' ≡ record ranked { lists = map (without n) ranked.lists })
      (is_left : remains ≡ is_some (slice_get (list_at ranked'.lists (get_or ranks n 0)) 0)) where
    two_still : length (map (without n) arrived.lists) ≡ 2
    two_still = length_without n arrived.lists ∙ h.two

    come_less : list_at arrived'.lists 0 ≡ without n (list_at arrived.lists 0)
    come_less = ap (λ (l : Lists). list_at l.lists 0) ages ∙ get_or-set_other (map (without n) arrived.lists) 1 0 _ [] (λ z. omega (arith, z)) ∙ at_map n 0 arrived.lists

    not_free : stands_in n (list_at arrived.lists 1) ≡ false
    not_free = alone_on arrived h.ages_once n 0 came 1 (λ z. omega (arith, z))

    free_more : list_at arrived'.lists 1 ≡ n ∷ list_at arrived.lists 1
    free_more =
        ap (λ (l : Lists). list_at l.lists 1) ages ∙ get_or-set_same (map (without n) arrived.lists) 1 _ [] (omega (arith, two_still))
        ∙ ap (λ (xs : List ℕ). n ∷ xs) (at_map n 1 arrived.lists ∙ absent_same n (list_at arrived.lists 1) not_free)

    pub order_less : order_of ranks (list_at arrived'.lists 0) ≡ without_node n (order_of ranks (list_at arrived.lists 0))
    order_less = ap (order_of ranks) come_less ∙ sym (Orders.without_is ranks n (list_at arrived.lists 0))

    rank_less : (k : ℕ) → list_at ranked'.lists k ≡ without n (list_at ranked.lists k)
    rank_less k = ap (λ (l : Lists). list_at l.lists k) rank ∙ at_map n k ranked.lists

    placed_less : (k : ℕ) → k < 32 → list_at ranked'.lists k ≡ of_rank k (order_of ranks (list_at arrived'.lists 0))
    placed_less k l =
        rank_less k ∙ ap (without n) (h.placed k l) ∙ sym (Orders.rank_without ranks n k (list_at arrived.lists 0) (h.ages_once.distinct 0 first_list))
        ∙ sym (ap (λ (ns : List ℕ). of_rank k (order_of ranks ns)) come_less)

    rank_kept : (k : ℕ) → k ≢ get_or ranks n 0 → list_at ranked'.lists k ≡ list_at ranked.lists k
    rank_kept k other = rank_less k ∙ absent_same n (list_at ranked.lists k) (alone_on ranked h.ranks_once n (get_or ranks n 0) (in_its_rank n came) k other)

    marked_less : ChangesMark (get_or ranks n 0) remains marks marks' → (k : ℕ) → k < 32 → is_marked k marks' ≡ nat_lt 0 (length (list_at ranked'.lists k))
    marked_less marked k l = ⊎_elim
        (λ (same : k ≡ get_or ranks n 0). rw same (marked.changed ∙ is_left ∙ some_head (list_at ranked'.lists (get_or ranks n 0))))
        (λ other. marked.others k l other ∙ h.marked k l ∙ sym (ap (λ (xs : List ℕ). nat_lt 0 (length xs)) (rank_kept k other)))
        (equal k (get_or ranks n 0))

    pub one_more : length (list_at arrived'.lists 0) + 1 ≡ length (list_at arrived.lists 0)
    one_more = omega (arith, ap (λ (xs : List ℕ). length xs) come_less, Orders.length_gone n (list_at arrived.lists 0) came)

    pub left : ChangesMark (get_or ranks n 0) remains marks marks' → StandOnce arrived' → StandOnce ranked' → AreHeld arrived' ranked' ranks marks' (count - 1)
    left marked a_once r_once = record {
      ages_once = a_once;
      ranks_once = r_once;
      few = omega (arith, h.few, ap (λ (l : Lists). l.nodes) ages);
      two = ap (λ (l : Lists). length l.lists) ages ∙ length-set (map (without n) arrived.lists) 1 _ ∙ two_still;
      same_nodes = ap (λ (l : Lists). l.nodes) rank ∙ h.same_nodes ∙ sym (ap (λ (l : Lists). l.nodes) ages);
      each_rank = ap (λ (l : Lists). length l.lists) rank ∙ length_without n ranked.lists ∙ h.each_rank;
      known = h.known ∙ sym (ap (λ (l : Lists). l.nodes) ages);
      tallied = omega (arith, h.tallied, one_more);
      counted = omega (arith, h.counted, one_more, ap (λ (xs : List ℕ). length xs) free_more, ap (λ (l : Lists). l.nodes) ages);
      small = h.small;
      placed = placed_less;
      marked = marked_less marked;
    }

-- ---- none has come

no_lists : (n k : ℕ) → get_or {A = List ℕ} (replicate n []) k [] ≡ []
no_lists zero k = refl
no_lists (suc n) zero = refl
no_lists (suc n) (suc k) = no_lists n k

no_numbers : (n k : ℕ) → get_or {A = ℕ} (replicate n 0) k 0 ≡ 0
no_numbers zero k = refl
no_numbers (suc n) zero = refl
no_numbers (suc n) (suc k) = no_numbers n k

length_copies : {X : Type 0} (n : ℕ) (x : X) → length (replicate n x) ≡ n
length_copies zero x = refl
length_copies (suc n) x = ap suc (length_copies n x)

pub opened : (arrived ranked : Lists) (ranks : List ℕ) (nodes : ℕ) → nodes ≤ 65536 → arrived ≡ record { nodes = nodes; lists = [] ∷ first_nodes nodes ∷ [] } →
    ranked.nodes ≡ nodes → ranked.lists ≡ replicate 32 [] → ranks ≡ replicate nodes 0 → StandOnce arrived → StandOnce ranked → AreHeld arrived ranked ranks 0 0
opened arrived ranked ranks nodes few is same empty none a_once r_once =
    let at : (k : ℕ) → list_at ranked.lists k ≡ [] = λ k. ap (λ (ls : List (List ℕ)). list_at ls k) empty ∙ no_lists 32 k in
    let come : list_at arrived.lists 0 ≡ [] = ap (λ (l : Lists). list_at l.lists 0) is in
    let n : arrived.nodes ≡ nodes = ap (λ (l : Lists). l.nodes) is in
    record {
      ages_once = a_once;
      ranks_once = r_once;
      few = omega (arith, n, few);
      two = ap (λ (l : Lists). length l.lists) is;
      same_nodes = same ∙ sym n;
      each_rank = ap (λ (ls : List (List ℕ)). length ls) empty ∙ length_copies {X = List ℕ} 32 [];
      known = ap (λ (xs : List ℕ). length xs) none ∙ length_copies nodes 0 ∙ sym n;
      tallied = ap (λ (xs : List ℕ). length xs) (sym come);
      counted = omega (arith, n, ap (λ (xs : List ℕ). length xs) come, ap (λ (l : Lists). length (list_at l.lists 1)) is, Orders.length_first nodes);
      small = λ k. let e : get_or ranks k 0 ≡ 0 = ap (λ (xs : List ℕ). get_or xs k 0) none ∙ no_numbers nodes k in omega (arith, e);
      placed = λ k l. at k ∙ sym (ap (λ (ns : List ℕ). of_rank k (order_of ranks ns)) come);
      marked = λ k l. ap (λ b. b == 1) (bit_at-zero k) ∙ sym (ap (λ (xs : List ℕ). nat_lt 0 (length xs)) (at k));
    }
