-- What is due first once an item is not armed.
use Rattle.std.proofs.Common.{◌≡◌, ◌≢◌, inl, inr, ⊎_elim, ℕ, ◌<◌, ◌≤◌, Option, Some, None, List, length, set, sym, ap, subst, ◌∙◌}
use Rattle.std.proofs.lemmas.Option.{IfSome_then}
use Rattle.parts_links.proofs.Chains.{equal}
use Rattle.parts_wheel.specs.Dues.{Dues, due_of}
use Rattle.parts_wheel.specs.Slots.{Placed, AreSmall, IsCached, IsEarly, IsFront}
use Rattle.parts_wheel.proofs.Filing.{none_some}
use Rattle.parts_wheel.proofs.Holding.{set_same, set_other}

-- what is due afterwards was due before
pub due_before : (dues : List (Option ℕ)) (id i d : ℕ) → id < length dues → due_of i (set dues id None) ≡ Some d → due_of i dues ≡ Some d
due_before dues id i d inside h = ⊎_elim
    (λ same. absurd (none_some (sym (set_same id None dues inside) ∙ subst (λ m. due_of m (set dues id None) ≡ Some d) same h)))
    (λ other. sym (set_other id i None dues other) ∙ h)
    (equal i id)

-- what is due at another tick stays
due_after : (dues : List (Option ℕ)) (id i d e : ℕ) → due_of id dues ≡ Some d → d ≢ e → due_of i dues ≡ Some e → due_of i (set dues id None) ≡ Some e
due_after dues id i d e due apart h =
    set_other id i None dues (λ same. apart (let is : Some d ≡ Some e = sym due ∙ subst (λ m. due_of m dues ≡ Some e) same h in cc)) ∙ h

module _ (slots new : Placed) (id base last : ℕ) (now : Dues) (left : new ≡ record { dues = set slots.dues id None; base = base }) (is : record { dues = slots.dues; last = last } ≡ now)
    (inside : id < length now.dues) where
  dues_left : new.dues ≡ set slots.dues id None
  dues_left = ap (λ (s : Placed). s.dues) left

  was_due : (i d : ℕ) → due_of i new.dues ≡ Some d → due_of i slots.dues ≡ Some d
  was_due i d h = due_before slots.dues id i d (subst (λ (n : Dues). id < length n.dues) (sym is) inside) (subst (λ ds. due_of i ds ≡ Some d) dues_left h)

  pub left_early : (early : ℕ) → IsEarly slots.dues early → IsEarly new.dues early
  left_early early before i d h = before i d (was_due i d h)

  pub left_cached : (least early : ℕ) (first : Option ℕ) → IsFront new least early first → base ≤ last → AreSmall slots.dues → IsCached new least early first last
  left_cached least early first front behind small = record {
    front = front;
    behind = subst (λ b. b ≤ last) (sym (ap (λ (s : Placed). s.base) left)) behind;
    small = λ i d h. small i d (was_due i d h);
  }

  pub left_view : record { dues = new.dues; last = last } ≡ record now { dues = set now.dues id None }
  left_view = ap (λ (ds : List (Option ℕ)). record { dues = ds; last = last }) dues_left ∙ ap (λ (n : Dues). record { dues = set n.dues id None; last = n.last }) is

  -- the item was not among those that are due first
  pub left_front : (d least early : ℕ) (first : Option ℕ) → IsFront slots least early first → base ≡ slots.base → due_of id now.dues ≡ Some d → d ≢ least → IsFront new least early first
  left_front d least early first front same due apart =
      let due_then : due_of id slots.dues ≡ Some d = subst (λ (n : Dues). due_of id n.dues ≡ Some d) (sym is) due in
      let stays : (i : ℕ) → due_of i slots.dues ≡ Some least → due_of i new.dues ≡ Some least =
      λ i h. subst (λ ds. due_of i ds ≡ Some least) (sym dues_left) (due_after slots.dues id i d least due_then apart h) in
      let stands : new.base ≡ slots.base = ap (λ (s : Placed). s.base) left ∙ same in
      record {
        later = record {
          least = λ i e h l. front.later.least i e (was_due i e h) (subst (λ b. b < e) stands l);
          holds = ⊎_elim (λ none. inl none) (λ h. inr (h.0, stays h.0 h.1, subst (λ b. b < least) (sym stands) h.2)) front.later.holds;
        };
        none_before = left_early early front.none_before;
        lowest = IfSome_then first front.lowest (λ n k. (stays n k.0, λ i h. k.1 i (was_due i least h)));
        at_once = front.at_once;
      }
