-- The head of the highest list after a change of the lists.
use Rattle.std.proofs.Common.{◌≡◌, ◌≢◌, ℕ, zero, suc, ◌+◌, ◌-◌, ◌<◌, ◌≤◌, true, false, nat_lt, Option, None, Some, List, [], ◌∷◌, ◌++◌, length, get_or, map, set, replicate, unwrap_or, refl, sym, ap, ◌∙◌, subst, arith, inl, inr, get_or-set_same}
use Rattle.std.specs.Option.{option_or}
use Rattle.std.specs.Prelude.{slice_get, MatchOption}
use Rattle.std.proofs.lemmas.Bool.Decides.{nat_tests, eqb_tells}
use Rattle.std.proofs.lemmas.List.{get_or-set_other}
use Rattle.std.proofs.lemmas.Grind.{common_steps}
use Rattle.parts_links.specs.Links.{follower, follower_on, stands_in as node_stands, without as without_node}
use Rattle.rules_lists.specs.Threads.{times, without_thread}
use Rattle.parts_ready.specs.declared.End.{End}
use Rattle.parts_ready.specs.declared.End.TheVariants.{Head, Tail}
use Rattle.parts_ready.specs.Ends.{at_end}
use Rattle.parts_ready.specs.Bits.{ChangesBit}
use Rattle.rules_lists.specs.Lists.{AreReadyLists, change_list, highest, times_in_all, to_tail, without}
use Rattle.parts_ready.specs.ReadyView.{AreMarked, named}
use Rattle.parts_ready.proofs.Places.{at_tail, highest_at, marked_after, times_at_le, without_at, without_ok}
use Rattle.parts_ready.proofs.Tails.{follower_at, set_again}
use Rattle.parts_ready.proofs.Nodes.{all_without, one_changes, present_node, prio_at}

-- ---- the list on which the head stands

pub record Top (h : ℕ) (ls : List (List ℕ)) : Type 0 where
  pub at : ℕ
  pub first : slice_get (get_or ls at []) 0 ≡ Some h
  pub above : (k : ℕ) → at < k → get_or ls k [] ≡ []

no_first : (xs : List ℕ) → slice_get xs 0 ≡ None → xs ≡ []
no_first [] e = refl
no_first (x ∷ xs) e = cc

some_first : (h : ℕ) (xs : List ℕ) → slice_get xs 0 ≡ Some h → 0 < length xs
some_first h [] e = cc
some_first h (x ∷ xs) e = omega arith

first_node : (h : ℕ) (xs : List ℕ) → slice_get xs 0 ≡ Some h → node_stands h xs ≡ true
first_node h [] e = cc
first_node h (x ∷ xs) e = grind (arith, nat_tests)

or_none : (o p : Option ℕ) → option_or o p ≡ None → (o ≡ None) × (p ≡ None)
or_none None p e = (refl, e)
or_none (Some n) p e = cc

pub none_all : (ls : List (List ℕ)) → highest ls ≡ None → (k : ℕ) → get_or ls k [] ≡ []
none_all [] e k = refl
none_all (xs ∷ ls) e zero = no_first xs (or_none (highest ls) (slice_get xs 0) e).1
none_all (xs ∷ ls) e (suc k) = none_all ls (or_none (highest ls) (slice_get xs 0) e).0 k

later_none : (xs : List ℕ) (ls : List (List ℕ)) → ((k : ℕ) → get_or ls k [] ≡ []) → (k : ℕ) → 0 < k → get_or (xs ∷ ls) k [] ≡ []
later_none xs ls none zero lt = absurd (omega arith)
later_none xs ls none (suc k) lt = none k

later_above : (xs : List ℕ) (ls : List (List ℕ)) (i : ℕ) → ((k : ℕ) → i < k → get_or ls k [] ≡ []) → (k : ℕ) → suc i < k → get_or (xs ∷ ls) k [] ≡ []
later_above xs ls i none zero lt = absurd (omega arith)
later_above xs ls i none (suc k) lt = none k (omega arith)

top_or : (h : ℕ) (xs : List ℕ) (ls : List (List ℕ)) (o : Option ℕ) → highest ls ≡ o → option_or o (slice_get xs 0) ≡ Some h → (highest ls ≡ Some h → Top h ls) → Top h (xs ∷ ls)
top_or h xs ls None e is later = record { at = 0; first = is; above = later_none xs ls (none_all ls e) }
top_or h xs ls (Some u) e is later =
    let top = later (e ∙ is) in
    record { at = suc top.at; first = top.first; above = later_above xs ls top.at top.above }

pub top_of : (h : ℕ) (ls : List (List ℕ)) → highest ls ≡ Some h → Top h ls
top_of h [] e = cc
top_of h (xs ∷ ls) e = top_or h xs ls (highest ls) refl e (top_of h ls)

pub top_node : (h : ℕ) (ls : List (List ℕ)) (top : Top h ls) → node_stands h (get_or ls top.at []) ≡ true
top_node h ls top = first_node h (get_or ls top.at []) top.first

one_place : (t j k : ℕ) (ls : List (List ℕ)) → times_in_all t ls ≤ 1 → node_stands t (get_or ls j []) ≡ true → node_stands t (get_or ls k []) ≡ true → j ≡ k
one_place t j k ls once hj hk =
    let e : 0 + j ≡ 0 + k = ap (λ (o : Option ℕ). unwrap_or o 0) (sym (prio_at 0 t j ls once hj) ∙ prio_at 0 t k ls once hk) in omega (arith, e)

pub top_at : (h k : ℕ) (ls : List (List ℕ)) (top : Top h ls) → times_in_all h ls ≤ 1 → node_stands h (get_or ls k []) ≡ true → top.at ≡ k
top_at h k ls top once there = one_place h top.at k ls once (top_node h ls top) there

-- ---- one list changes

-- the lists above are empty
lead : (ls : List (List ℕ)) (i : ℕ) (new : List ℕ) → i < length ls → 0 < length new → ((k : ℕ) → i < k → get_or ls k [] ≡ []) → highest (set ls i new) ≡ slice_get new 0
lead ls i new lt some above =
    let same : get_or (set ls i new) i [] ≡ new = get_or-set_same ls i new [] lt in
    highest_at (set ls i new) i (subst (λ xs. 0 < length xs) (sym same) some)
    (λ k over. get_or-set_other ls i k new [] (λ e. omega (arith, e, over)) ∙ above k over)
    ∙ ap (λ xs. slice_get xs 0) same

-- the list is not above the head's, and the head stays first where it is the head's
follow : (h : ℕ) (ls : List (List ℕ)) (i : ℕ) (new : List ℕ) → (top : Top h ls) → i ≤ top.at → (i ≡ top.at → slice_get new 0 ≡ Some h) → i < length ls → highest (set ls i new) ≡ Some h
follow h ls i new top below first lt =
    elim (eqb_tells top.at i) [
      | inl same ↦ (let e : top.at ≡ i = omega arith in let is = first (sym e) in
          lead ls i new lt (some_first h new is) (λ k over. top.above k (omega (arith, e, over))) ∙ is)
      | inr other ↦ (let kept : get_or (set ls i new) top.at [] ≡ get_or ls top.at [] = get_or-set_other ls i top.at new [] other.1 in
          highest_at (set ls i new) top.at (subst (λ xs. 0 < length xs) (sym kept) (some_first h (get_or ls top.at []) top.first))
          (λ k over. get_or-set_other ls i k new [] (λ e. omega (arith, e, over, below)) ∙ top.above k over)
          ∙ ap (λ xs. slice_get xs 0) kept ∙ top.first)
    ]

-- ---- a thread is put in

end_some : (end : End) (t : ℕ) (xs : List ℕ) → 0 < length (at_end end t xs)
end_some Head t xs = omega arith
end_some Tail t [] = omega arith
end_some Tail t (x ∷ xs) = omega arith

first_alone : (end : End) (t : ℕ) (xs : List ℕ) → xs ≡ [] → slice_get (at_end end t xs) 0 ≡ Some t
first_alone Head t xs e = refl
first_alone Tail t [] e = refl
first_alone Tail t (x ∷ xs) e = cc

first_stays : (h t : ℕ) (xs : List ℕ) → slice_get xs 0 ≡ Some h → slice_get (xs ++ t ∷ []) 0 ≡ Some h
first_stays h t [] e = cc
first_stays h t (x ∷ xs) e = e

-- all lists from that place on are empty
pub put_leads : (end : End) (t p : ℕ) (ls : List (List ℕ)) → p - 1 < length ls → ((k : ℕ) → p - 1 ≤ k → get_or ls k [] ≡ []) → highest (change_list p (at_end end t) ls) ≡ Some t
put_leads end t p ls lt none =
    let i = p - 1 in let new = at_end end t (get_or ls i []) in
    lead ls i new lt (end_some end t (get_or ls i [])) (λ k over. none k (omega (arith, over)))
    ∙ first_alone end t (get_or ls i []) (none i (omega arith))

-- the thread comes before the head, or the lists above are empty
pub head_leads : (t p : ℕ) (ls : List (List ℕ)) → p - 1 < length ls → ((k : ℕ) → p - 1 < k → get_or ls k [] ≡ []) → highest (change_list p (at_end Head t) ls) ≡ Some t
head_leads t p ls lt none = let i = p - 1 in lead ls i (t ∷ get_or ls i []) lt (omega arith) none

pub head_below : (end : End) (h t p : ℕ) (ls : List (List ℕ)) (top : Top h ls) → p - 1 < length ls → p - 1 < top.at → highest (change_list p (at_end end t) ls) ≡ Some h
head_below end h t p ls top lt below = let i = p - 1 in follow h ls i (at_end end t (get_or ls i [])) top (omega (arith, below)) (λ e. absurd (omega (arith, e, below))) lt

pub tail_below : (h t p : ℕ) (ls : List (List ℕ)) (top : Top h ls) → p - 1 < length ls → p - 1 ≤ top.at → highest (change_list p (at_end Tail t) ls) ≡ Some h
tail_below h t p ls top lt below =
    let i = p - 1 in
    follow h ls i (get_or ls i [] ++ t ∷ []) top below
    (λ e. first_stays h t (get_or ls i []) (subst (λ k. slice_get (get_or ls k []) 0 ≡ Some h) (sym e) top.first)) lt

pub put_head : (end at : End) (t p : ℕ) (ls new : List (List ℕ)) → end ≡ at → new ≡ set ls (p - 1) (at_end at t (get_or ls (p - 1) [])) → highest (change_list p (at_end end t) ls) ≡ highest new
put_head end at t p ls new e is = rw (is, e) refl

-- ---- a thread is taken out

pub first_without : (t : ℕ) (xs : List ℕ) → slice_get xs 0 ≢ Some t → slice_get (without_thread t xs) 0 ≡ slice_get xs 0
first_without t [] other = refl
first_without t (x ∷ xs) other = grind (arith, nat_tests, other)

or_without : (t : ℕ) (xs : List ℕ) (o o' : Option ℕ) → (o ≢ Some t → o' ≡ o) → option_or o (slice_get xs 0) ≢ Some t →
    option_or o' (slice_get (without_thread t xs) 0) ≡ option_or o (slice_get xs 0)
or_without t xs None o' higher other = let e : o' ≡ None = higher (λ no. cc) in rw e (first_without t xs other)
or_without t xs (Some h) o' higher other = let e : o' ≡ Some h = higher other in rw e refl

-- the head stays where another thread goes
pub other_goes : (t : ℕ) (ls : List (List ℕ)) → highest ls ≢ Some t → highest (without t ls) ≡ highest ls
other_goes t [] other = refl
other_goes t (xs ∷ ls) other = or_without t xs (highest ls) (highest (without t ls)) (other_goes t ls) other

-- the next of its list follows the head that goes
pub head_goes : (t n k : ℕ) (ls : List (List ℕ)) → times_in_all t ls ≤ 1 → k < length ls → node_stands t (get_or ls k []) ≡ true → highest ls ≡ Some t →
    slice_get (get_or (without t ls) k []) 0 ≡ Some n → highest (without t ls) ≡ Some n
head_goes t n k ls once lt there is next =
    let xs = get_or ls k [] in let top = top_of t ls is in
    let at : top.at ≡ k = top_at t k ls top once there in
    let gone : without t ls ≡ set ls k (without_thread t xs) = without_at t ls k once (present_node t xs there) lt in
    let first : slice_get (without_thread t xs) 0 ≡ Some n = ap (λ (l : List ℕ). slice_get l 0) (sym (get_or-set_same ls k (without_thread t xs) [] lt)) ∙ ap (λ (l : List (List ℕ)). slice_get (get_or l k []) 0) (sym gone) ∙ next in
    ap highest gone ∙ lead ls k (without_thread t xs) lt (some_first n (without_thread t xs) first) (λ m over. top.above m (omega (arith, at, over))) ∙ first

-- ---- a thread of a list becomes its tail

pub stands_within : (t k : ℕ) (ls : List (List ℕ)) → node_stands t (get_or ls k []) ≡ true → k < length ls
stands_within t k [] h = cc
stands_within t zero (xs ∷ ls) h = omega arith
stands_within t (suc k) (xs ∷ ls) h = omega (arith, stands_within t k ls h)

pub rotated : (t p : ℕ) (ls : List (List ℕ)) → times_in_all t ls ≤ 1 → node_stands t (get_or ls (p - 1) []) ≡ true →
    to_tail t p ls ≡ set ls (p - 1) (without_thread t (get_or ls (p - 1) []) ++ t ∷ [])
rotated t p ls once stands =
    let i = p - 1 in let xs = get_or ls i [] in
    let lt : i < length ls = stands_within t i ls stands in
    let gone : without t ls ≡ set ls i (without_thread t xs) = without_at t ls i once (present_node t xs stands) lt in
    let there : get_or (set ls i (without_thread t xs)) i [] ≡ without_thread t xs = get_or-set_same ls i (without_thread t xs) [] lt in
    rw (gone, there) (set_again ls i (without_thread t xs) (without_thread t xs ++ t ∷ []))

next_first : (t n : ℕ) (xs : List ℕ) → times t xs ≤ 1 → slice_get xs 0 ≡ Some t → follower t xs ≡ Some n → slice_get (without_thread t xs ++ t ∷ []) 0 ≡ Some n
next_first t n [] once first next = cc
next_first t n (x ∷ []) once first next = grind (arith, nat_tests)
next_first t n (x ∷ y ∷ xs) once first next = grind (arith, nat_tests)

other_first : (t h : ℕ) (xs : List ℕ) → slice_get xs 0 ≡ Some h → h ≢ t → slice_get (without_thread t xs ++ t ∷ []) 0 ≡ Some h
other_first t h [] first other = cc
other_first t h (x ∷ xs) first other = grind (arith, nat_tests, other)

-- its next follows the head
pub head_rotates : (t n p : ℕ) (ls : List (List ℕ)) → times_in_all t ls ≤ 1 → node_stands t (get_or ls (p - 1) []) ≡ true → highest ls ≡ Some t →
    follower_on t ls ≡ Some n → highest (to_tail t p ls) ≡ Some n
head_rotates t n p ls once stands is next =
    let i = p - 1 in let xs = get_or ls i [] in let new = without_thread t xs ++ t ∷ [] in let top = top_of t ls is in
    let lt : i < length ls = stands_within t i ls stands in
    let at : top.at ≡ i = top_at t i ls top once stands in
    let few : times t xs ≤ 1 = omega (arith, times_at_le t ls i, once) in
    let first : slice_get new 0 ≡ Some n = next_first t n xs few (subst (λ k. slice_get (get_or ls k []) 0 ≡ Some t) at top.first) (sym (follower_at t i ls once stands) ∙ next) in
    ap highest (rotated t p ls once stands) ∙ lead ls i new lt (some_first n new first) (λ m over. top.above m (omega (arith, at, over))) ∙ first

not_over : (m n : ℕ) → ((m < n) → ⊥) → n ≤ m
not_over m zero never = omega arith
not_over zero (suc n) never = absurd (never (omega arith))
not_over (suc m) (suc n) never = let le : n ≤ m = not_over m n (λ l. never (omega (arith, l))) in omega (arith, le)

not_empty : (t : ℕ) (xs : List ℕ) → node_stands t xs ≡ true → xs ≢ []
not_empty t [] stands e = cc
not_empty t (x ∷ xs) stands e = cc

-- the head stays where another thread becomes the tail
pub other_rotates : (t h p : ℕ) (ls : List (List ℕ)) → times_in_all t ls ≤ 1 → node_stands t (get_or ls (p - 1) []) ≡ true → highest ls ≡ Some h → h ≢ t →
    highest (to_tail t p ls) ≡ Some h
other_rotates t h p ls once stands is other =
    let i = p - 1 in let xs = get_or ls i [] in let top = top_of h ls is in
    let lt : i < length ls = stands_within t i ls stands in
    let below : i ≤ top.at = not_over top.at i (λ over. not_empty t xs stands (top.above i over)) in
    ap highest (rotated t p ls once stands)
    ∙ follow h ls i (without_thread t xs ++ t ∷ []) top below (λ e. other_first t h xs (subst (λ k. slice_get (get_or ls k []) 0 ≡ Some h) (sym e) top.first) other) lt

pub none_rotates : (t p : ℕ) (ls : List (List ℕ)) → node_stands t (get_or ls (p - 1) []) ≡ true → highest ls ≢ None
none_rotates t p ls stands e = not_empty t (get_or ls (p - 1) []) stands (none_all ls e (p - 1))

tail_some : (t : ℕ) (xs ys : List ℕ) → node_stands t xs ≡ true → nat_lt 0 (length xs) ≡ nat_lt 0 (length (ys ++ t ∷ []))
tail_some t [] ys stands = cc
tail_some t (x ∷ xs) ys stands = grind (arith, nat_tests, common_steps)

pub rotated_marks : (t p : ℕ) (ls : List (List ℕ)) (words : List ℕ) → times_in_all t ls ≤ 1 → node_stands t (get_or ls (p - 1) []) ≡ true → AreMarked ls words → AreMarked (to_tail t p ls) words
rotated_marks t p ls words once stands marked k =
    let i = p - 1 in let xs = get_or ls i [] in let new = without_thread t xs ++ t ∷ [] in
    let lt : i < length ls = stands_within t i ls stands in
    marked k ∙ elim (eqb_tells k i) [
      | inl same ↦ (let e : k ≡ i = omega arith in rw (e, rotated t p ls once stands, get_or-set_same ls i new [] lt) (tail_some t xs (without_thread t xs) stands))
      | inr other ↦ rw (rotated t p ls once stands, get_or-set_other ls i k new [] other.1) refl
    ]

-- what links leave is what `to_tail` says
pub moved : (t p n q : ℕ) (ls middle new : List (List ℕ)) → times_in_all t ls ≤ 1 → n ≡ t → q ≡ p → middle ≡ map (without_node n) ls →
    new ≡ set middle (q - 1) (get_or middle (q - 1) [] ++ n ∷ []) → new ≡ to_tail t p ls
moved t p n q ls middle new once node prio gone put = rw (put, gone, node, prio, all_without t ls once) refl

pub rotated_ok : (threads t p : ℕ) (ls new : List (List ℕ)) → AreReadyLists (record { threads = threads; lists = ls }) → node_stands t (get_or ls (p - 1) []) ≡ true →
    new ≡ to_tail t p ls → AreReadyLists (record { threads = threads; lists = new })
rotated_ok threads t p ls new ok stands is =
    let i = p - 1 in
    let known : t < threads = ok.known t (omega (arith, present_node t (get_or ls i []) stands, times_at_le t ls i)) in
    let small : i < 255 = omega (arith, stands_within t i ls stands, ok.each_priority) in
    rw is (at_tail (record { threads = threads; lists = without t ls }) t i ls (without_ok (record { threads = threads; lists = ls }) t ok) known refl small)

-- ---- the bits after a thread is taken out

here_or_there : (t k : ℕ) (ls : List (List ℕ)) (words : List ℕ) → times_in_all t ls ≤ 1 → k < length ls → node_stands t (get_or ls k []) ≡ true → AreMarked ls words →
    nat_lt 0 (length (get_or ls k [])) ≡ nat_lt 0 (length (without_thread t (get_or ls k []))) → AreMarked (without t ls) words
here_or_there t k ls words once lt stands marked same i =
    let xs = get_or ls k [] in let new = without_thread t xs in
    let gone : without t ls ≡ set ls k new = without_at t ls k once (present_node t xs stands) lt in
    marked i ∙ elim (eqb_tells i k) [
      | inl at ↦ (let e : i ≡ k = omega arith in rw (e, gone, get_or-set_same ls k new [] lt) same)
      | inr other ↦ rw (gone, get_or-set_other ls k i new [] other.1) refl
    ]

both_some : (t n : ℕ) (xs ys : List ℕ) → node_stands t xs ≡ true → Some n ≡ slice_get ys 0 → nat_lt 0 (length xs) ≡ nat_lt 0 (length ys)
both_some t n [] ys stands e = cc
both_some t n (x ∷ xs) [] stands e = cc
both_some t n (x ∷ xs) (y ∷ ys) stands e = grind (arith, nat_tests)

pub marks_stay : (t n k : ℕ) (ls new : List (List ℕ)) (words : List ℕ) → times_in_all t ls ≤ 1 → k < length ls → node_stands t (get_or ls k []) ≡ true → new ≡ without t ls →
    Some n ≡ slice_get (get_or new k []) 0 → AreMarked ls words → AreMarked new words
marks_stay t n k ls new words once lt stands is first marked =
    let xs = get_or ls k [] in
    let gone : without t ls ≡ set ls k (without_thread t xs) = without_at t ls k once (present_node t xs stands) lt in
    let there : get_or new k [] ≡ without_thread t xs = ap (λ (l : List (List ℕ)). get_or l k []) (is ∙ gone) ∙ get_or-set_same ls k (without_thread t xs) [] lt in
    rw is (here_or_there t k ls words once lt stands marked (both_some t n xs (without_thread t xs) stands (first ∙ ap (λ (l : List ℕ). slice_get l 0) there)))

none_marks : (xs : List ℕ) → None ≡ slice_get xs 0 → false ≡ nat_lt 0 (length xs)
none_marks [] e = refl
none_marks (x ∷ xs) e = cc

pub mark_goes : (t k : ℕ) (ls new : List (List ℕ)) (words after : List ℕ) → times_in_all t ls ≤ 1 → k < length ls → node_stands t (get_or ls k []) ≡ true → new ≡ without t ls →
    None ≡ slice_get (get_or new k []) 0 → AreMarked ls words → ChangesBit k false words after → AreMarked new after
mark_goes t k ls new words after once lt stands is none marked changes i =
    let here = get_or (without t ls) k [] in
    let one = one_changes t k ls once lt stands in
    marked_after ls words after k false here marked changes lt (none_marks here (none ∙ ap (λ (l : List (List ℕ)). slice_get (get_or l k []) 0) is)) i
    ∙ ap (λ (l : List (List ℕ)). nat_lt 0 (length (get_or l i []))) (one ∙ sym is)

-- ---- numbers

empty_head : (n : ℕ) → highest (replicate n []) ≡ None
empty_head zero = refl
empty_head (suc n) = rw (empty_head n) refl

pub none_named : (ls : List (List ℕ)) → ls ≡ replicate 255 [] → named 256 ≡ highest ls
none_named ls e = sym (ap highest e ∙ empty_head 255)

pub named_small : (n : ℕ) → n < 256 → named n ≡ Some n
named_small n l = grind (arith, nat_tests)

pub named_none : (n : ℕ) → 256 ≤ n → named n ≡ None
named_none n l = grind (arith, nat_tests)

pub named_given : (o : Option ℕ) (n : ℕ) → MatchOption o (256 ≤ n) (λ t. (t ≡ n) × (n < 256)) → o ≡ named n
named_given None n m = sym (named_none n m)
named_given (Some t) n m = ap Some m.0 ∙ sym (named_small n m.1)

-- a thread with another number is not the one named
pub named_other : (n t : ℕ) → n ≢ t → named n ≢ Some t
named_other n t other e = grind (arith, nat_tests, e, other)

pub named_within : (n h : ℕ) → named n ≡ Some h → n ≡ h
named_within n h e = grind (arith, nat_tests, e)

pub named_some : (n : ℕ) → named n ≢ None → named n ≡ Some n
named_some n other = grind (arith, nat_tests, other)

-- the head is numbered where one of the lists is not empty
pub head_is : (n t p : ℕ) (ls : List (List ℕ)) → named n ≡ highest ls → node_stands t (get_or ls (p - 1) []) ≡ true → highest ls ≡ Some n
head_is n t p ls e stands = sym e ∙ named_some n (λ none. none_rotates t p ls stands (sym e ∙ none))

pub is_head : (h n t : ℕ) (ls : List (List ℕ)) → named h ≡ highest ls → h ≡ n → n ≡ t → n < 256 → highest ls ≡ Some t
is_head h n t ls e same number small = sym e ∙ named_small h (omega (arith, same, small)) ∙ ap Some (same ∙ number)

pub is_other : (h n t : ℕ) (ls : List (List ℕ)) → named h ≡ highest ls → h ≢ n → n ≡ t → highest ls ≢ Some t
is_other h n t ls e other number is = named_other h t (λ same. other (same ∙ sym number)) (e ∙ is)
