-- One turn of the loops that move nodes.
use Rattle.std.proofs.Common.{◌≡◌, ◌≢◌, inl, inr, ⊎_elim, ℕ, ◌<◌, ◌≤◌, true, nat_lt, Option, Some, List, [], ◌∷◌, if◌then◌else◌, length, slice_get, refl, sym, ap, subst, ◌∙◌, arith}
use borrow.Author.Tests.{eq-eqb}
use Rattle.parts_links.specs.Links.{list_at, stands_in, stands_at, without, follower}
use Rattle.parts_wheel.proofs.Order.{lt_or}
use Rattle.parts_wheel.specs.Bits.{is_set, ChangesBit}
use Rattle.parts_wheel.specs.Slots.{list_for}
use Rattle.parts_wheel.specs.Moves.{IsTaken, IsNoted, IsDue, IsMoved, with_last, AreRefiling}
use Rattle.parts_links.proofs.Chains.{equal}
use Rattle.parts_links.proofs.Standing.{at_map, put_stays, put_there, put_back, put_other}
use Rattle.parts_wheel.proofs.Stands.{IsMarked, filed_mark, taken_stays, taken_back, length_taken, shorter_at}

pub set_stays : (n i : ℕ) (old new : List ℕ) → ChangesBit n true old new → is_set i old ≡ true → is_set i new ≡ true
set_stays n i old new c h = ⊎_elim (λ same. rw same c.changed) (λ other. c.others i other ∙ h) (equal i n)

-- ---- one list is filed anew

pub refiling_start : (target to : ℕ) (dues : List (Option ℕ)) (lists : List (List ℕ)) (passed : List ℕ) → AreRefiling target to dues lists lists passed passed
refiling_start target to dues lists passed = record {
  kept = λ i k other h. h;
  within = λ i h. h;
  gone = λ i d h due l. inl h;
  later = λ i d h due l. inl h;
  stays = λ i h. h;
  only_later = λ i k h. inl h;
  only_gone = λ i h. inl h;
}

one_due : (dues : List (Option ℕ)) (n d e : ℕ) → IsDue dues n d → IsDue dues n e → d ≡ e
one_due dues n d e h g = let s : Some d ≡ Some e = sym h ∙ g in cc

pub refiling_gone : (target to n d : ℕ) (dues : List (Option ℕ)) (old now new : List (List ℕ)) (passed p q : List ℕ) → AreRefiling target to dues old now passed p
    → stands_at n target now ≡ true → IsDue dues n d → d ≤ to → IsTaken n now new → ChangesBit n true p q → AreRefiling target to dues old new passed q
refiling_gone target to n d dues old now new passed p q r h due le t c = record {
  kept = λ i k other s. ap (λ (xs : List ℕ). stands_in i xs) (t.others target k h other) ∙ r.kept i k other s;
  within = λ i s. r.within i (taken_back n i target now new t s).0;
  gone = λ i e s g l. ⊎_elim
      (λ stands. ⊎_elim (λ same. inr (rw same c.changed)) (λ other. inl (taken_stays n i target now new t other ∙ stands)) (equal i n))
      (λ set. inr (set_stays n i p q c set)) (r.gone i e s g l);
  later = λ i e s g l. ⊎_elim
      (λ same. absurd (let g' : IsDue dues n e = subst (λ m. IsDue dues m e) same g in let q' = one_due dues n d e due g' in omega (arith, q', l, le)))
      (λ other. ⊎_elim (λ stands. inl (taken_stays n i target now new t other ∙ stands)) (λ stands. inr (taken_stays n i (list_for to e) now new t other ∙ stands)) (r.later i e s g l))
      (equal i n);
  stays = λ i s. set_stays n i p q c (r.stays i s);
  only_later = λ i k s. r.only_later i k (taken_back n i k now new t s).0;
  only_gone = λ i s. ⊎_elim
      (λ same. inr (rw same (r.within n h, (d, due, le))))
      (λ other. r.only_gone i (sym (c.others i other) ∙ s)) (equal i n);
}

refiling_later : (target to n d : ℕ) (dues : List (Option ℕ)) (old now mid : List (List ℕ)) (passed p : List ℕ) → AreRefiling target to dues old now passed p
    → stands_at n target now ≡ true → IsDue dues n d → to < d → list_for to d ≢ target → list_for to d < length mid → IsTaken n now mid
    → AreRefiling target to dues old (with_last (list_for to d) n mid) passed p
refiling_later target to n d dues old now mid passed p r h due lt apart inside t =
    let k' = list_for to d in
    record {
      kept = λ i k other s. put_stays n k' mid i k inside (ap (λ (xs : List ℕ). stands_in i xs) (t.others target k h other) ∙ r.kept i k other s);
      within = λ i s. ⊎_elim (λ m. r.within i (taken_back n i target now mid t m).0) (λ e. absurd (apart (sym e.1))) (put_back n k' mid i target inside s);
      gone = λ i e s g l. ⊎_elim
          (λ same. absurd (let g' : IsDue dues n e = subst (λ m. IsDue dues m e) same g in let q' = one_due dues n d e due g' in omega (arith, q', l, lt)))
          (λ other. ⊎_elim (λ stands. inl (put_stays n k' mid i target inside (taken_stays n i target now mid t other ∙ stands))) (λ set. inr set) (r.gone i e s g l))
          (equal i n);
      later = λ i e s g l. ⊎_elim
          (λ same. inr (let g' : IsDue dues n e = subst (λ m. IsDue dues m e) same g in
          rw (same, ← one_due dues n d e due g') (put_there n k' mid inside)))
          (λ other. ⊎_elim
          (λ stands. inl (put_stays n k' mid i target inside (taken_stays n i target now mid t other ∙ stands)))
          (λ stands. inr (put_stays n k' mid i (list_for to e) inside (taken_stays n i (list_for to e) now mid t other ∙ stands)))
          (r.later i e s g l))
          (equal i n);
      stays = r.stays;
      only_later = λ i k s. ⊎_elim
          (λ m. r.only_later i k (taken_back n i k now mid t m).0)
          (λ e. inr (rw (e.0) (r.within n h, (d, due, lt, e.1))))
          (put_back n k' mid i k inside s);
      only_gone = r.only_gone;
    }

pub refiling_step : (target to n d : ℕ) (dues : List (Option ℕ)) (old now new : List (List ℕ)) (passed p q : List ℕ) → AreRefiling target to dues old now passed p
    → stands_at n target now ≡ true → IsDue dues n d → (to < d → list_for to d ≢ target) → (to < d → list_for to d < length now) → IsMoved to n d now new p q
    → AreRefiling target to dues old new passed q
refiling_step target to n d dues old now new passed p q r h due apart inside (mid, t, f) =
    ⊎_elim
    (λ lt. let w = f.later lt in rw (w.0, w.1)
    (refiling_later target to n d dues old now mid passed p r h due lt (apart lt) (let l = inside lt in omega (arith, l, length_taken n now mid t)) t))
    (λ le. let w = f.gone le in rw (w.0) (refiling_gone target to n d dues old now mid passed p q r h due le t w.1))
    (lt_or to d)

pub refiling_less : (target to n d : ℕ) (now new : List (List ℕ)) (p q : List ℕ) → stands_at n target now ≡ true → (to < d → list_for to d ≢ target) → IsMoved to n d now new p q
    → length (list_at new target) < length (list_at now target)
refiling_less target to n d now new p q h apart (mid, t, f) =
    let less = shorter_at n target now mid t h in
    ⊎_elim
    (λ lt. let w = f.later lt in rw (w.0) (let o = put_other n (list_for to d) mid target (λ e. apart lt (sym e)) in rw o less))
    (λ le. let w = f.gone le in rw (w.0) less)
    (lt_or to d)

-- the bit of a list other than the target
pub moved_mark : (target to n d k : ℕ) (now new : List (List ℕ)) (p q words noted : List ℕ) → stands_at n target now ≡ true → (to < d → list_for to d < length now) → k ≢ target
    → IsMoved to n d now new p q → IsNoted to d words noted → IsMarked k now words → IsMarked k new noted
moved_mark target to n d k now new p q words noted h inside other (mid, t, f) is marked =
    filed_mark to n d k mid new p q words noted (λ lt. let l = inside lt in omega (arith, l, length_taken n now mid t)) f is
    (marked ∙ ap (λ (xs : List ℕ). nat_lt 0 (length xs)) (sym (t.others target k h other)))

-- the node after the head is the head once that has left
next_head : (n : ℕ) (xs : List ℕ) → Some n ≡ slice_get xs 0 → follower n xs ≡ slice_get (without n xs) 0
next_head n [] h = cc
next_head n (x ∷ xs) h =
    let same : n ≡ x = cc in let e = eq-eqb x n (sym same) in
    ap (λ b. if b then slice_get xs 0 else follower n xs) e ∙ sym (ap (λ b. slice_get (if b then xs else x ∷ without n xs) 0) e)

pub taken_head : (target n : ℕ) (now mid : List (List ℕ)) → Some n ≡ slice_get (list_at now target) 0 → IsTaken n now mid → follower n (list_at now target) ≡ slice_get (list_at mid target) 0
taken_head target n now mid head t =
    next_head n (list_at now target) head
    ∙ ap (λ (xs : List ℕ). slice_get xs 0) (sym (ap (λ (ls : List (List ℕ)). list_at ls target) t.lists ∙ at_map n target now))

pub moved_head : (target to n d : ℕ) (now new : List (List ℕ)) (p q : List ℕ) → Some n ≡ slice_get (list_at now target) 0 → (to < d → list_for to d ≢ target) → IsMoved to n d now new p q
    → follower n (list_at now target) ≡ slice_get (list_at new target) 0
moved_head target to n d now new p q head apart (mid, t, f) =
    taken_head target n now mid head t
    ∙ ⊎_elim
    (λ lt. let w = f.later lt in rw (w.0) (ap (λ (xs : List ℕ). slice_get xs 0) (sym (put_other n (list_for to d) mid target (λ e. apart lt (sym e))))))
    (λ le. let w = f.gone le in rw (w.0) refl)
    (lt_or to d)
