-- The priority of the highest list that is not empty, as the bitmap tells it, and the head of that list.
use Rattle.std.proofs.Common.{◌≡◌, ◌≢◌, ℕ, suc, zero, ◌-◌, ◌<◌, ◌≤◌, Bool, true, false, None, Some, List, [], ◌∷◌, length, get_or, refl, sym, ap, ◌∙◌, subst, arith, inl, inr, if◌then◌else◌}
use Rattle.std.specs.Prelude.{nat_lt, slice_get}
use Rattle.std.proofs.lemmas.Bool.Decides.{nat_tests, eqb_tells}
use Rattle.rules_lists.specs.Threads.{without_thread}
use Rattle.parts_ready.specs.declared.End.{End}
use Rattle.parts_ready.specs.declared.End.TheVariants.{Head, Tail}
use Rattle.parts_ready.specs.Ends.{at_end, leads}
use Rattle.parts_ready.specs.Bits.{is_set, AreClear, ChangesBit, IsTop, NoneIsSet}
use Rattle.rules_lists.specs.Lists.{change_list, highest, without}
use Rattle.parts_ready.specs.ReadyView.{AreMarked, named}
use Rattle.parts_ready.proofs.Places.{highest_at, is_empty}
use Rattle.parts_ready.proofs.Heads.{Top, first_without, head_below, head_leads, named_small, named_some, put_leads, tail_below}

pub no_top : (words : List ℕ) → NoneIsSet words → IsTop 0 words
no_top words none = record { above = λ k from. none k; itself = λ some. absurd (omega (arith, some)) }

-- ---- a list and its bit

first_there : (n : ℕ) (xs : List ℕ) → Some n ≡ slice_get xs 0 → nat_lt 0 (length xs) ≡ true
first_there n [] e = cc
first_there n (x ∷ xs) e = grind (arith, nat_tests)

first_absent : (xs : List ℕ) → None ≡ slice_get xs 0 → nat_lt 0 (length xs) ≡ false
first_absent [] e = refl
first_absent (x ∷ xs) e = cc

has_first : (xs : List ℕ) → 0 < length xs → slice_get xs 0 ≢ None
has_first [] some e = absurd (omega arith)
has_first (x ∷ xs) some e = cc

some_marked : (n i : ℕ) (lists : List (List ℕ)) (words : List ℕ) → AreMarked lists words → Some n ≡ slice_get (get_or lists i []) 0 → is_set i words ≡ true
some_marked n i lists words marked first = marked i ∙ first_there n (get_or lists i []) first

none_marked : (i : ℕ) (lists : List (List ℕ)) (words : List ℕ) → AreMarked lists words → None ≡ slice_get (get_or lists i []) 0 → is_set i words ≡ false
none_marked i lists words marked none = marked i ∙ first_absent (get_or lists i []) none

is_some : (i : ℕ) (lists : List (List ℕ)) (words : List ℕ) → AreMarked lists words → is_set i words ≡ true → 0 < length (get_or lists i [])
is_some i lists words marked is = let e = sym (marked i) ∙ is in grind (arith, nat_tests, e)

is_none : (i : ℕ) (lists : List (List ℕ)) (words : List ℕ) → AreMarked lists words → is_set i words ≡ false → get_or lists i [] ≡ []
is_none i lists words marked is = is_empty (get_or lists i []) (sym (marked i) ∙ is)

-- ---- the search

pub found_head : (i n : ℕ) (lists : List (List ℕ)) (words : List ℕ) → AreMarked lists words → AreClear (suc i) words → Some n ≡ slice_get (get_or lists i []) 0 → highest lists ≡ Some n
found_head i n lists words marked above first =
    highest_at lists i (is_some i lists words marked (some_marked n i lists words marked first))
    (λ k over. is_none k lists words marked (above k (omega (arith, over)))) ∙ sym first

-- the search ends at an empty list only where all are empty
pub found_none : (i : ℕ) (lists : List (List ℕ)) (words : List ℕ) → AreMarked lists words → AreClear (suc i) words → (0 < i → is_set i words ≡ true) → None ≡ slice_get (get_or lists i []) 0 → NoneIsSet words
found_none zero lists words marked above itself none zero = none_marked 0 lists words marked none
found_none zero lists words marked above itself none (suc k) = above (suc k) (omega arith)
found_none (suc i) lists words marked above itself none k = absurd (let no : true ≡ false = sym (itself (omega arith)) ∙ none_marked (suc i) lists words marked none in cc)

-- ---- a thread is put in

leads_over : (end : End) (p top : ℕ) → leads end p top ≡ true → top ≤ p
leads_over Head p top h = grind (arith, nat_tests, h)
leads_over Tail p top h = grind (arith, nat_tests, h)

leads_under : (end : End) (p top : ℕ) → leads end p top ≡ false → p ≤ top
leads_under Head p top h = grind (arith, nat_tests, h)
leads_under Tail p top h = grind (arith, nat_tests, h)

top_after : (b : Bool) (p top : ℕ) (old new : List ℕ) → 1 ≤ p → (b ≡ true → top ≤ p) → (b ≡ false → p ≤ top) → IsTop top old → ChangesBit (p - 1) true old new → IsTop (if b then p else top) new
top_after true p top old new some over under is changes = record {
  above = λ k from. changes.others k (λ e. omega (arith, e, from, some)) ∙ is.above k (omega (arith, over refl, from));
  itself = λ _. changes.changed;
}
top_after false p top old new some over under is changes = record {
  above = λ k from. changes.others k (λ e. omega (arith, e, from, some, under refl)) ∙ is.above k from;
  itself = λ up. elim (eqb_tells (top - 1) (p - 1)) [
    | inl same ↦ (let e : top - 1 ≡ p - 1 = omega arith in rw e changes.changed)
    | inr other ↦ changes.others (top - 1) other.1 ∙ is.itself up
  ];
}

pub put_top : (end : End) (p top : ℕ) (old new : List ℕ) → 1 ≤ p → IsTop top old → ChangesBit (p - 1) true old new → IsTop (if leads end p top then p else top) new
put_top end p top old new some is changes = top_after (leads end p top) p top old new some (leads_over end p top) (leads_under end p top) is changes

same_some : (h t : ℕ) → Some h ≡ Some t → h ≡ t
same_some h t e = cc

-- the head is the first of the top's list
top_first : (h top : ℕ) (lists : List (List ℕ)) (words : List ℕ) → AreMarked lists words → IsTop top words → named h ≡ highest lists → 0 < top → slice_get (get_or lists (top - 1) []) 0 ≡ Some h
top_first h top lists words marked is head some =
    let there = is_some (top - 1) lists words marked (is.itself some) in
    let found : highest lists ≡ slice_get (get_or lists (top - 1) []) 0 = highest_at lists (top - 1) there (λ k over. is_none k lists words marked (is.above k (omega (arith, over, some)))) in
    sym found ∙ sym head ∙ named_some h (λ none. has_first (get_or lists (top - 1) []) there (sym found ∙ sym head ∙ none))

found_again : (h top : ℕ) (lists : List (List ℕ)) (words : List ℕ) → AreMarked lists words → IsTop top words → named h ≡ highest lists → 0 < top → highest lists ≡ Some h
found_again h top lists words marked is head some =
    let there = is_some (top - 1) lists words marked (is.itself some) in
    highest_at lists (top - 1) there (λ k over. is_none k lists words marked (is.above k (omega (arith, over, some)))) ∙ top_first h top lists words marked is head some

abbrev top_list : (h top : ℕ) (lists : List (List ℕ)) (words : List ℕ) → AreMarked lists words → IsTop top words → named h ≡ highest lists → 0 < top → Top h lists
top_list h top lists words marked is head some = record {
  at = top - 1;
  first = top_first h top lists words marked is head some;
  above = λ k over. is_none k lists words marked (is.above k (omega (arith, over, some)));
}

put_named_at : (b : Bool) (end : End) (h t p top : ℕ) (lists : List (List ℕ)) (words : List ℕ) → leads end p top ≡ b → AreMarked lists words → IsTop top words → named h ≡ highest lists →
    p - 1 < length lists → 1 ≤ p → t < 256 → named (if b then t else h) ≡ highest (change_list p (at_end end t) lists)
put_named_at true Head h t p top lists words told marked is head lt some small =
    let over : top ≤ p = leads_over Head p top told in
    named_small t small ∙ sym (head_leads t p lists lt (λ k above. is_none k lists words marked (is.above k (omega (arith, above, over)))))
put_named_at true Tail h t p top lists words told marked is head lt some small =
    let over : top < p = grind (arith, nat_tests, told) in
    named_small t small ∙ sym (put_leads Tail t p lists lt (λ k from. is_none k lists words marked (is.above k (omega (arith, from, over)))))
put_named_at false Head h t p top lists words told marked is head lt some small =
    let under : p < top = grind (arith, nat_tests, told) in
    let up : 0 < top = omega (arith, under) in
    let kept = top_list h top lists words marked is head up in
    let stays : highest lists ≡ Some h = found_again h top lists words marked is head up in
    head ∙ stays ∙ sym (head_below Head h t p lists kept lt (omega (arith, under, some)))
put_named_at false Tail h t p top lists words told marked is head lt some small =
    let under : p ≤ top = leads_under Tail p top told in
    let up : 0 < top = omega (arith, under, some) in
    let kept = top_list h top lists words marked is head up in
    let stays : highest lists ≡ Some h = found_again h top lists words marked is head up in
    head ∙ stays ∙ sym (tail_below h t p lists kept lt (omega (arith, under)))

pub put_named : (end : End) (h t p top : ℕ) (lists : List (List ℕ)) (words : List ℕ) → AreMarked lists words → IsTop top words → named h ≡ highest lists →
    p - 1 < length lists → 1 ≤ p → t < 256 → named (if leads end p top then t else h) ≡ highest (change_list p (at_end end t) lists)
put_named end h t p top lists words marked is head lt some small = put_named_at (leads end p top) end h t p top lists words refl marked is head lt some small

-- ---- a thread is taken out

get_without : (t k : ℕ) (lists : List (List ℕ)) → get_or (without t lists) k [] ≡ without_thread t (get_or lists k [])
get_without t k [] = refl
get_without t zero (xs ∷ lists) = refl
get_without t (suc k) (xs ∷ lists) = get_without t k lists

-- the list that another thread leaves empty is not the head's
other_list : (h t k top : ℕ) (lists : List (List ℕ)) → h ≢ t → slice_get (get_or lists (top - 1) []) 0 ≡ Some h → None ≡ slice_get (get_or (without t lists) k []) 0 → top - 1 ≢ k
other_list h t k top lists other first none same =
    let here : slice_get (get_or lists k []) 0 ≡ Some h = subst (λ i. slice_get (get_or lists i []) 0 ≡ Some h) same first in
    let stays = first_without t (get_or lists k []) (λ e. other (same_some h t (sym here ∙ e))) in
    absurd (let no : None ≡ Some h = none ∙ ap (λ (xs : List ℕ). slice_get xs 0) (get_without t k lists) ∙ stays ∙ here in cc)

-- the top stays where the last thread of another list goes
pub other_top : (h t k top : ℕ) (lists : List (List ℕ)) (words new : List ℕ) → AreMarked lists words → IsTop top words → named h ≡ highest lists → h ≢ t →
    None ≡ slice_get (get_or (without t lists) k []) 0 → ChangesBit k false words new → IsTop top new
other_top h t k top lists words new marked is head other none changes = record {
  above = λ j from. elim (eqb_tells j k) [
    | inl same ↦ (let e : j ≡ k = omega arith in rw e changes.changed)
    | inr apart ↦ changes.others j apart.1 ∙ is.above j from
  ];
  itself = λ up. changes.others (top - 1) (other_list h t k top lists other (top_first h top lists words marked is head up) none) ∙ is.itself up;
}
