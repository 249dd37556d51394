-- The turns of the walk along the chain of owners.
use Rattle.std.proofs.Common.{List, None, Option, Some, ap, arith, inl, inr, length, refl, set, suc, sym, ℕ, ◌+◌, ◌<◌, ◌≡◌, ◌≢◌, ◌∙◌}
use Rattle.std.specs.Prelude.{IfSome, is_none, option_and_then, option_map, if◌then◌else◌}
use Rattle.std.proofs.lemmas.Bool.Decides.{eqb_tells}
use Rattle.std.proofs.lemmas.List.{get_or-set_other, get_or-set_same, length-set, set-get_or}
use Rattle.rules_machine.specs.State.{Mutex}
use Rattle.rules_machine.specs.Threads.{mutex_in}
use Rattle.rules_machine.specs.Priorities.{Claim}
use Rattle.parts_waiters.specs.declared.Place.{Place}
use Rattle.parts_waiters.specs.Places.{place_in, repriced}
use Rattle.parts_owners.specs.declared.walk.Moved.{Moved}
use Rattle.parts_owners.specs.Chains.{ArePriorities, ChainsEnd, OwnersAreThreads, Solves, SolvesBut, above_in, asked_in, awaited_in, links_of, next_in, prio_in}
use Rattle.rules_machine.specs.WellFormed.{IsPriority}
use Rattle.parts_owners.specs.Moves.{MayWalk, SamePlaces, StandsAt, TellsMoved, WaitersStand, mutex_placed, unpriced}
use Rattle.parts_owners.proofs.OneSolution.{asked_same, within_chain}

-- ---- places

-- a thread that waits nowhere has no place to change
pub stays : (t p : ℕ) (places : List (Option Place)) → place_in places t ≡ None → repriced t p places ≡ places
stays t p places none = rw none (rw (← none) (set-get_or places t None))

repriced_kept : (p : ℕ) (x : Option Place) → option_map unpriced (option_map (λ (y : Place). record y { priority = p }) x) ≡ option_map unpriced x
repriced_kept p None = refl
repriced_kept p (Some x) = refl

repriced_place : (t p u : ℕ) (places : List (Option Place)) → t < length places →
    place_in (repriced t p places) t ≡ option_map (λ (y : Place). record y { priority = p }) (place_in places t)
repriced_place t p u places lt = get_or-set_same places t (option_map (λ (y : Place). record y { priority = p }) (place_in places t)) None lt

repriced_other : (t p u : ℕ) (places : List (Option Place)) → u ≢ t → place_in (repriced t p places) u ≡ place_in places u
repriced_other t p u places other = get_or-set_other places t u (option_map (λ (y : Place). record y { priority = p }) (place_in places t)) None other

pub repriced_same : (t p : ℕ) (places : List (Option Place)) → t < length places → SamePlaces places (repriced t p places)
repriced_same t p places lt = record {
  length = length-set places t (option_map (λ (y : Place). record y { priority = p }) (place_in places t));
  each = λ u. elim (eqb_tells u t) [
    | inl same ↦ rw same.1 (rw (repriced_place t p u places lt) (repriced_kept p (place_in places t)))
    | inr other ↦ ap (option_map unpriced) (repriced_other t p u places other.1)
  ];
}

stands_priced : (p n : ℕ) (x : Option Place) → n ≡ p → IfSome (option_map (λ (y : Place). record y { priority = p }) x) (λ (y : Place). y.priority ≡ n)
stands_priced p n None e = tt
stands_priced p n (Some x) e = sym e

pub stands_after : (t p : ℕ) (exec : List ℕ) (places : List (Option Place)) → t < length exec → t < length places → StandsAt (prio_in exec) places →
    StandsAt (prio_in (set exec t p)) (repriced t p places)
stands_after t p exec places lt within stands = record {
  each = λ u. elim (eqb_tells u t) [
    | inl same ↦ rw same.1 (rw (repriced_place t p u places within) (stands_priced p (prio_in (set exec t p) t) (place_in places t) (get_or-set_same exec t p 0 lt)))
    | inr other ↦ (let e : prio_in (set exec t p) u ≡ prio_in exec u = get_or-set_other exec t u p 0 other.1 in
        rw (repriced_other t p u places other.1) (rw e (stands.each u)))
  ];
}

pub none_back : (x y : Option Place) → option_map unpriced x ≡ option_map unpriced y → x ≡ None → y ≡ None
none_back x None e none = refl
none_back x (Some y) e none = cc

same_then : (a b c : List (Option Place)) → SamePlaces a b → SamePlaces b c → SamePlaces a c
same_then a b c h k = record { length = k.length ∙ h.length; each = λ t. k.each t ∙ h.each t }

pub same_some : (t u : ℕ) → Some t ≡ Some u → t ≡ u
same_some t u e = cc

pub none_some : (t : ℕ) → None ≡ Some t → ⊥
none_some t e = cc

some_none : (p : Place) → Some p ≡ None → ⊥
some_none p e = cc

not_repriced : (p : ℕ) (x : Option Place) → option_map (λ (y : Place). record y { priority = p }) x ≡ None → x ≡ None
not_repriced p None e = refl
not_repriced p (Some x) e = cc

repriced_at : (p t : ℕ) (places new : List (Option Place)) → new ≡ repriced t p places → t < length places →
    place_in new t ≡ option_map (λ (y : Place). record y { priority = p }) (place_in places t)
repriced_at p t places new is lt = rw is (repriced_place t p t places lt)

-- ---- ranges

pub fits_set : (exec : List ℕ) (t v : ℕ) → ArePriorities exec → IsPriority v → ArePriorities (set exec t v)
fits_set exec t v all fits = record {
  each = λ u lt.
      let within : u < length exec = omega (arith, lt, length-set exec t v) in
      elim (eqb_tells u t) [
        | inl same ↦ rw (same.1, get_or-set_same exec t v 0 (rw same.1 at within)) fits
        | inr other ↦ rw (get_or-set_other exec t u v 0 other.1) (all.each u within)
      ];
}

-- ---- equations

module _ (claims : List Claim) (mutexes : List Mutex) where
  -- after a turn the equations hold at each thread but maybe the owner that comes next
  turned_right : (exec : List ℕ) (p v : ℕ) → length exec ≡ length claims → p < length claims → SolvesBut claims mutexes p (prio_in exec) →
      v ≡ asked_in claims mutexes (prio_in exec) p → (t : ℕ) → t < length claims → next_in claims mutexes p ≢ Some t →
      prio_in (set exec p v) t ≡ asked_in claims mutexes (prio_in (set exec p v)) t
  turned_right exec p v each known right is t lt apart =
      let asks : asked_in claims mutexes (prio_in (set exec p v)) t ≡ asked_in claims mutexes (prio_in exec) t =
      asked_same claims mutexes (prio_in (set exec p v)) (prio_in exec) t
      (λ u below next. get_or-set_other exec p u v 0 (λ (same : u ≡ p). apart (rw (← same) next))) in
      elim (eqb_tells t p) [
        | inl same ↦ (let here : prio_in (set exec p v) p ≡ v = get_or-set_same exec p v 0 (omega arith) in
            rw asks (rw same.1 (here ∙ is)))
        | inr other ↦ rw asks (get_or-set_other exec p t v 0 other.1 ∙ right.others t lt other.1)
      ]

  -- where the walk stands
  pub record Walking (start : ℕ) (before : List ℕ) (old : List (Option Place)) (turns at : ℕ) (exec : List ℕ) (places : List (Option Place)) : Type 0 where
    pub known : at < length claims
    pub there : above_in claims mutexes turns start ≡ Some at
    pub each : length exec ≡ length claims
    pub right : SolvesBut claims mutexes at (prio_in exec)
    -- no thread that waits for no mutex has been corrected yet
    pub free : (t : ℕ) → awaited_in claims t ≡ None → prio_in exec t ≡ prio_in before t
    pub lengths : length places ≡ length claims
    pub same : SamePlaces old places
    pub stand : StandsAt (prio_in exec) places
    -- from a thread that waits for no owned mutex it goes nowhere
    pub alone : next_in claims mutexes start ≡ None → at ≡ start
    pub fits : ArePriorities exec

  pub starts : (start : ℕ) (exec : List ℕ) (places : List (Option Place)) → start < length claims → length exec ≡ length claims →
      length places ≡ length claims → SolvesBut claims mutexes start (prio_in exec) → StandsAt (prio_in exec) places → ArePriorities exec →
      Walking start exec places 0 start exec places
  starts start exec places known each lengths right stand fits = record {
    known = known;
    there = refl;
    each = each;
    right = right;
    free = λ t h. refl;
    lengths = lengths;
    same = record { length = refl; each = λ t. refl };
    stand = stand;
    alone = λ none. refl;
    fits = fits;
  }

  -- a thread that waits for no mutex is not one with an owner next
  free_end : (t u : ℕ) → next_in claims mutexes t ≡ Some u → awaited_in claims t ≡ None → ⊥
  free_end t u next none = let e : next_in claims mutexes t ≡ None = rw none refl in cc

  next_below : OwnersAreThreads claims mutexes → (k : Option ℕ) (u : ℕ) → option_and_then (λ (j : ℕ). (mutex_in mutexes j).owner) k ≡ Some u → u < length claims
  next_below owners None u h = cc
  next_below owners (Some k) u h = owners.each k u h

  pub turns_on : (start : ℕ) (before : List ℕ) (old : List (Option Place)) (turns at v up : ℕ) (exec : List ℕ) (places : List (Option Place)) →
      Walking start before old turns at exec places → OwnersAreThreads claims mutexes → v ≡ asked_in claims mutexes (prio_in exec) at →
      next_in claims mutexes at ≡ Some up → IsPriority v →
      Walking start before old (turns + 1) up (set exec at v) (repriced at v places)
  turns_on start before old turns at v up exec places w owners is next fits = record {
    known = next_below owners (awaited_in claims at) up next;
    there = (let more : turns + 1 ≡ suc turns = omega arith in rw more (rw w.there next));
    each = length-set exec at v ∙ w.each;
    right = record {
      others = λ t lt other. turned_right exec at v w.each w.known w.right is t lt (λ (e : next_in claims mutexes at ≡ Some t). other (same_some t up (sym e ∙ next)));
    };
    free = λ t none. get_or-set_other exec at t v 0 (λ (e : t ≡ at). free_end at up next (rw (← e) none)) ∙ w.free t none;
    lengths = (repriced_same at v places (omega (arith, w.known, w.lengths))).length ∙ w.lengths;
    same = same_then old places (repriced at v places) w.same (repriced_same at v places (omega (arith, w.known, w.lengths)));
    stand = stands_after at v exec places (omega (arith, w.known, w.each)) (omega (arith, w.known, w.lengths)) w.stand;
    alone = λ none. (let end : next_in claims mutexes at ≡ None = rw (w.alone none) none in absurd (none_some up (sym end ∙ next)));
    fits = fits_set exec at v w.fits fits;
  }

  -- the walk ends where a priority is already right
  pub ends_right : (start : ℕ) (before : List ℕ) (old : List (Option Place)) (turns at : ℕ) (exec : List ℕ) (places : List (Option Place)) →
      Walking start before old turns at exec places → prio_in exec at ≡ asked_in claims mutexes (prio_in exec) at → Solves claims mutexes (prio_in exec)
  ends_right start before old turns at exec places w is = record {
    each = λ t lt. elim (eqb_tells t at) [ inl same ↦ rw same.1 is | inr other ↦ w.right.others t lt other.1 ];
  }

  pub ends_untold : (start : ℕ) (before : List ℕ) (old : List (Option Place)) (turns at : ℕ) (exec : List ℕ) (places : List (Option Place)) →
      Walking start before old turns at exec places → WaitersStand claims old → (t : ℕ) → t < length claims → place_in places t ≡ None →
      prio_in exec t ≡ prio_in before t
  ends_untold start before old turns at exec places w waiters t lt none =
      w.free t (waiters.each t ∙ ap mutex_placed (none_back (place_in places t) (place_in old t) (w.same.each t) none))

  -- the walk ends at a thread that waits for no owned mutex
  pub ends_last : (start : ℕ) (before : List ℕ) (old : List (Option Place)) (turns at v : ℕ) (exec : List ℕ) (places : List (Option Place)) →
      Walking start before old turns at exec places → v ≡ asked_in claims mutexes (prio_in exec) at → next_in claims mutexes at ≡ None →
      Solves claims mutexes (prio_in (set exec at v))
  ends_last start before old turns at v exec places w is none = record {
    each = λ t lt. turned_right exec at v w.each w.known w.right is t lt (λ (e : next_in claims mutexes at ≡ Some t). absurd (none_some t (sym none ∙ e)));
  }

  pub ends_told : (start : ℕ) (before : List ℕ) (old : List (Option Place)) (turns at b v : ℕ) (exec : List ℕ) (places new : List (Option Place)) →
      Walking start before old turns at exec places → WaitersStand claims old → b ≡ prio_in exec at → v ≢ b →
      new ≡ repriced at v places → (here : Option Place) → here ≡ place_in new at →
      TellsMoved (length claims) (prio_in before) (prio_in (set exec at v)) new
      (if is_none here then Some (record { thread = at; before = b; after = v }) else None)
  ends_told start before old turns at b v exec places new w waiters was changed is None at_place = record {
    known = w.known;
    nowhere = sym at_place;
    before = was ∙ ends_untold start before old turns at exec places w waiters at w.known (not_repriced v (place_in places at) (sym (repriced_at v at places new is (omega (arith, w.known, w.lengths))) ∙ sym at_place));
    after = sym (get_or-set_same exec at v 0 (omega (arith, w.known, w.each)));
    changed = λ e. changed (sym e);
    others = λ t lt none other. get_or-set_other exec at t v 0 other ∙ ends_untold start before old turns at exec places w waiters t lt (sym (repriced_other at v t places other) ∙ rw (← is) none);
  }
  ends_told start before old turns at b v exec places new w waiters was changed is (Some p) at_place = λ t lt none.
      let other : t ≢ at = (λ (e : t ≡ at). absurd (some_none p (at_place ∙ rw (← e) none))) in
      get_or-set_other exec at t v 0 other ∙ ends_untold start before old turns at exec places w waiters t lt (sym (repriced_other at v t places other) ∙ rw (← is) none)

  -- and then the one that is told is the thread from which the walk began
  pub told_alone : (start : ℕ) (before : List ℕ) (old : List (Option Place)) (turns at b v : ℕ) (exec : List ℕ) (places : List (Option Place)) (here : Option Place) →
      Walking start before old turns at exec places → next_in claims mutexes start ≡ None →
      IfSome (if is_none here then Some (record { thread = at; before = b; after = v }) else None) (λ (m : Moved). m.thread ≡ start)
  told_alone start before old turns at b v exec places None w none = w.alone none
  told_alone start before old turns at b v exec places (Some p) w none = tt

  -- one turn ends the walk of a thread that waits nowhere
  pub alone_right : (t p : ℕ) (exec : List ℕ) (places : List (Option Place)) → MayWalk (links_of claims mutexes) exec t places → place_in places t ≡ None →
      p ≡ asked_in claims mutexes (prio_in exec) t → Solves claims mutexes (prio_in (set exec t p))
  alone_right t p exec places may nowhere asks =
      let last : next_in claims mutexes t ≡ None = rw (may.waiters.each t ∙ ap mutex_placed nowhere) refl in
      ends_last t exec places 0 t p exec places (starts t exec places may.known may.each may.counted may.right may.stand may.fits) asks last

  -- there is no turn after as many as there are threads
  pub no_more : (start : ℕ) (before : List ℕ) (old : List (Option Place)) (turns at : ℕ) (exec : List ℕ) (places : List (Option Place)) →
      Walking start before old turns at exec places → ChainsEnd claims mutexes → start < length claims → turns < length claims
  no_more start before old turns at exec places w ends known =
      within_chain claims mutexes start turns (length claims) at (ends.each start known) w.there
