-- Where nodes stand after one was taken out, and which lists are not empty.
use Rattle.std.proofs.Common.{◌≡◌, ◌≢◌, ⊎_elim, ℕ, ◌<◌, Bool, true, false, nat_lt, is_some, List, [], ◌∷◌, length, map, slice_get, refl, sym, ap, subst, subst₂, ◌∙◌, arith}
use Rattle.std.proofs.lemmas.Grind.{common_steps}
use Rattle.std.proofs.lemmas.Bool.Decides.{nat_tests}
use Rattle.parts_links.specs.Links.{Lists, OthersStay, list_at, on_a_list, stands_in, stands_at, without}
use Rattle.parts_links.proofs.Chains.{equal}
use Rattle.parts_links.proofs.Standing.{stays_in, shorter_without, at_map, off_at, length_without, put_there, put_other}
use Rattle.parts_wheel.proofs.Order.{lt_or}
use Rattle.parts_wheel.specs.Bits.{is_set, ChangesBit}
use Rattle.parts_wheel.specs.Slots.{AreMarked, list_for}
use Rattle.parts_wheel.specs.Moves.{IsSized, IsTaken, IsFiled, IsNoted, with_last}

pub taken_stays : (n i k : ℕ) (old new : List (List ℕ)) → IsTaken n old new → i ≢ n → stands_at i k new ≡ stands_at i k old
taken_stays n i k old new t other = ap (λ (ls : List (List ℕ)). stands_at i k ls) t.lists ∙ ap (λ (xs : List ℕ). stands_in i xs) (at_map n k old) ∙ stays_in n i (list_at old k) other

-- what stands after a node was taken out stood before, and is another
pub taken_back : (n i k : ℕ) (old new : List (List ℕ)) → IsTaken n old new → stands_at i k new ≡ true → (stands_at i k old ≡ true) × (i ≢ n)
taken_back n i k old new t h =
    ⊎_elim
    (λ same. let off : stands_at i k new ≡ false = rw same (off_at n k new t.gone) in cc)
    (λ other. (sym (taken_stays n i k old new t other) ∙ h, other))
    (equal i n)

pub taken_marks : (n k0 : ℕ) (old new : List (List ℕ)) (words now : List ℕ) (bit : Bool) → IsTaken n old new → stands_at n k0 old ≡ true → AreMarked old words
    → ChangesBit k0 bit words now → bit ≡ nat_lt 0 (length (list_at new k0)) → AreMarked new now
taken_marks n k0 old new words now bit t h marked changes is k =
    ⊎_elim
    (λ same. rw same (changes.changed ∙ is))
    (λ other. changes.others k other ∙ marked k ∙ ap (λ (xs : List ℕ). nat_lt 0 (length xs)) (sym (t.others k0 k h other)))
    (equal k k0)

pub some_length : (i : ℕ) (xs : List ℕ) → stands_in i xs ≡ true → nat_lt 0 (length xs) ≡ true
some_length i [] h = cc
some_length i (x ∷ xs) h = grind (arith, nat_tests, common_steps)

-- the same, where another node is left in the list
pub taken_marks_kept : (n k0 : ℕ) (old new : List (List ℕ)) (words : List ℕ) → IsTaken n old new → stands_at n k0 old ≡ true → AreMarked old words
    → nat_lt 0 (length (list_at new k0)) ≡ true → AreMarked new words
taken_marks_kept n k0 old new words t h marked is k =
    ⊎_elim
    (λ same. rw same (marked k0 ∙ some_length n (list_at old k0) h ∙ sym is))
    (λ other. marked k ∙ ap (λ (xs : List ℕ). nat_lt 0 (length xs)) (sym (t.others k0 k h other)))
    (equal k k0)

-- what a node that is unlinked leaves
pub taken_by : (n : ℕ) (old new : Lists) → new ≡ record old { lists = map (without n) old.lists } → on_a_list n new.lists ≡ false → OthersStay n old.lists new.lists
    → IsTaken n old.lists new.lists
taken_by n old new is gone others = record { gone = gone; lists = ap (λ (l : Lists). l.lists) is; others = others }

pub still_sized : (n : ℕ) (old new : Lists) (words now : List ℕ) → IsSized old words → new ≡ record old { lists = map (without n) old.lists } → length now ≡ length words
    → IsSized new now
still_sized n old new words now sized is same = record {
  nodes = ap (λ (l : Lists). l.nodes) is ∙ sized.nodes;
  lists = ap (λ (l : Lists). length l.lists) is ∙ length_without n old.lists ∙ sized.lists;
  words = same ∙ sized.words;
}

-- a list with a first node is not empty
pub some_head : (xs : List ℕ) → is_some (slice_get xs 0) ≡ true → nat_lt 0 (length xs) ≡ true
some_head [] h = cc
some_head (x ∷ xs) h = grind (arith, nat_tests, common_steps)

-- a list has a first node exactly where it is not empty
pub has_first : (xs : List ℕ) → is_some (slice_get xs 0) ≡ nat_lt 0 (length xs)
has_first [] = refl
has_first (x ∷ xs) = sym (some_head (x ∷ xs) refl)

pub none_in : (xs : List ℕ) → ((i : ℕ) → stands_in i xs ≡ true → ⊥) → xs ≡ []
none_in [] h = refl
none_in (x ∷ xs) h = absurd (h x (grind (arith, nat_tests)))

pub length_taken : (n : ℕ) (old new : List (List ℕ)) → IsTaken n old new → length new ≡ length old
length_taken n old new t = ap length t.lists ∙ length_without n old

pub shorter_at : (n k : ℕ) (old new : List (List ℕ)) → IsTaken n old new → stands_at n k old ≡ true → length (list_at new k) < length (list_at old k)
shorter_at n k old new t h = let e = ap (λ (ls : List (List ℕ)). list_at ls k) t.lists ∙ at_map n k old in rw e (shorter_without n (list_at old k) h)

-- ---- the bits of the lists as a node is filed

abbrev pub IsMarked : ℕ → List (List ℕ) → List ℕ → Type 0
IsMarked k lists occupied = is_set k occupied ≡ nat_lt 0 (length (list_at lists k))

marked_last : (n t k : ℕ) (lists : List (List ℕ)) (words now : List ℕ) → t < length lists → ChangesBit t true words now → IsMarked k lists words → IsMarked k (with_last t n lists) now
marked_last n t k lists words now inside c marked = ⊎_elim
    (λ same. subst (λ m. IsMarked m (with_last t n lists) now) (sym same) (c.changed ∙ sym (some_length n (list_at (with_last t n lists) t) (put_there n t lists inside))))
    (λ other. c.others k other ∙ marked ∙ ap (λ (xs : List ℕ). nat_lt 0 (length xs)) (sym (put_other n t lists k other)))
    (equal k t)

pub filed_mark : (base n due k : ℕ) (old new : List (List ℕ)) (p q words now : List ℕ) → (base < due → list_for base due < length old) → IsFiled base n due old new p q → IsNoted base due words now
    → IsMarked k old words → IsMarked k new now
filed_mark base n due k old new p q words now inside f noted marked = ⊎_elim
    (λ lt. let w = f.later lt in subst (λ ls. IsMarked k ls now) (sym (w.0)) (marked_last n (list_for base due) k old words now (inside lt) (noted.later lt) marked))
    (λ le. let w = f.gone le in subst₂ (λ ls ws. IsMarked k ls ws) (sym (w.0)) (sym (noted.gone le)) marked)
    (lt_or base due)

pub all_marked : (target : ℕ) (lists : List (List ℕ)) (words : List ℕ) → list_at lists target ≡ [] → is_set target words ≡ false → ((k : ℕ) → k ≢ target → IsMarked k lists words) → AreMarked lists words
all_marked target lists words empty none others k = ⊎_elim
    (λ same. subst (λ m. IsMarked m lists words) (sym same) (none ∙ sym (ap (λ (xs : List ℕ). nat_lt 0 (length xs)) empty)))
    (λ other. others k other)
    (equal k target)

pub filed_unmarked : (base due k : ℕ) (words now : List ℕ) → (base < due → list_for base due ≢ k) → IsNoted base due words now → is_set k words ≡ false → is_set k now ≡ false
filed_unmarked base due k words now apart noted none = ⊎_elim
    (λ lt. (noted.later lt).others k (λ e. apart lt (sym e)) ∙ none)
    (λ le. rw (noted.gone le) none)
    (lt_or base due)
