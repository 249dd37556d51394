-- Where the walk begins after each change.
use Rattle.std.proofs.Common.{Bool, List, None, Option, Some, ap, arith, false, get_or, inl, inr, length, refl, set, sym, true, unwrap_or, ℕ, ◌<◌, ◌≡◌, ◌≢◌, ◌⊎◌, ◌∙◌}
use Rattle.std.specs.Prelude.{IsSome, option_and_then, ◌&&◌}
use Rattle.std.proofs.lemmas.Bool.Decides.{eqb_tells}
use Rattle.std.proofs.lemmas.List.{get_or-set_other, get_or-set_same, length-set}
use Rattle.rules_machine.specs.Lists.{is}
use Rattle.rules_machine.specs.State.{Mutex}
use Rattle.rules_machine.specs.Threads.{mutex_in, no_mutex}
use Rattle.rules_machine.specs.Priorities.{Claim, assigned_in, owner_ceiling, is_inherit, is_inherit_mutex_of}
use Rattle.rules_machine.specs.Mutexes.{freed, taken_by}
use Rattle.rules_machine.proofs.Reading.{changed-keeps, changed-length}
use Rattle.parts_waiters.specs.declared.Place.{Place}
use Rattle.parts_waiters.specs.declared.WaitObj.TheVariants as wait_obj
use Rattle.parts_waiters.specs.Places.{place_in}
use Rattle.parts_owners.specs.Chains.{Links, NoCycle, OwnersAreThreads, SameExec, Settled, Solves, SolvesBut, asked_in, assigned_to, awaited_in, closes_cycle_in, counted, exec_of, next_in, no_claim, prio_in, waiting_for, with_claim, with_mutex}
use Rattle.parts_owners.specs.Moves.{IsPlaced, StandsAt, WaitersStand, entered, mutex_placed}
use Rattle.parts_owners.proofs.Elsewhere.{asked_beside, asked_elsewhere, asked_raised, less_no_cycle, more_no_cycle, owned_no_cycle}
use Rattle.parts_owners.proofs.Cycles.{differ, never_leads}
use Rattle.parts_owners.proofs.Turns.{none_some, same_some}
use Rattle.parts_owners.proofs.Done.{Begins, cached_is, stand_same}

pub stands_cached : (s : Links) (exec : List ℕ) (places : List (Option Place)) → Settled s exec → IsPlaced s places → StandsAt (prio_in exec) places
stands_cached s exec places settled placed =
    stand_same (exec_of s) (prio_in exec) (length s.claims) places placed.lengths
    (λ t lt. sym (cached_is s exec settled.free settled.owners settled.right t lt)) placed.stand

-- ---- the assigned priority of a thread

module _ (s : Links) (exec : List ℕ) (t p : ℕ) where
  awaits_same : (u : ℕ) → awaited_in (with_claim t (assigned_to p) s).claims u ≡ awaited_in s.claims u
  awaits_same u = changed-keeps no_claim t u (assigned_to p) (λ (c : Claim). c.awaited) (λ c. refl) s.claims

  base_right : Solves s.claims s.mutexes (prio_in exec) → SolvesBut (with_claim t (assigned_to p) s).claims s.mutexes t (prio_in exec)
  base_right right = record {
    others = λ u lt other.
        right.each u (omega (arith, changed-length no_claim t (assigned_to p) s.claims))
        ∙ sym (asked_elsewhere s.claims (with_claim t (assigned_to p) s).claims s.mutexes (prio_in exec) u
        (changed-length no_claim t (assigned_to p) s.claims)
        (ap (λ (c : Claim). c.assigned) (get_or-set_other s.claims t u (assigned_to p (get_or s.claims t no_claim)) no_claim other))
        (λ k owned i. ap (λ o. is o k) (awaits_same i)));
  }

  pub begins_base : (places : List (Option Place)) → t < length s.claims → Settled s exec → IsPlaced s places →
      Begins s (with_claim t (assigned_to p) s) exec t places
  begins_base places known settled placed =
      let lengths = changed-length no_claim t (assigned_to p) s.claims in
      record {
        known = omega arith;
        lengths = lengths;
        each = settled.each ∙ sym lengths;
        places = placed.lengths ∙ sym lengths;
        free = less_no_cycle s.claims s.mutexes (with_claim t (assigned_to p) s).claims s.mutexes
            (λ u x h. sym (ap (λ o. option_and_then (λ (k : ℕ). (mutex_in s.mutexes k).owner) o) (awaits_same u)) ∙ h) settled.free;
        owners = record { each = λ k u owned. (let lt = settled.owners.each k u owned in omega arith) };
        right = base_right settled.right;
        waiters = record { each = λ u. awaits_same u ∙ placed.waiters.each u };
        stand = stands_cached s exec places settled placed;
        cached = cached_is s exec settled.free settled.owners settled.right;
        fits = settled.fits;
      }

  -- an assigned priority above what the thread has is what it is asked for
  pub raised_asked : t < length s.claims → Settled s exec → prio_in exec t < p → p ≡ asked_in (with_claim t (assigned_to p) s).claims s.mutexes (prio_in exec) t
  raised_asked known settled above =
      asked_raised s.claims (with_claim t (assigned_to p) s).claims s.mutexes (prio_in exec) t p (changed-length no_claim t (assigned_to p) s.claims)
      (ap (λ (c : Claim). c.assigned) (get_or-set_same s.claims t (assigned_to p (get_or s.claims t no_claim)) no_claim known))
      awaits_same (settled.right.each t known) above

-- ---- the mutex that a thread waits for

module _ (s : Links) (exec : List ℕ) (t : ℕ) (k : Option ℕ) where
  abbrev awaiting : Links
  awaiting = with_claim t (waiting_for k) s

  assigned_same : (u : ℕ) → assigned_in awaiting.claims s.mutexes u ≡ assigned_in s.claims s.mutexes u
  assigned_same u = changed-keeps no_claim t u (waiting_for k) (λ (c : Claim). c.assigned) (λ c. refl) s.claims

  awaits_other : (u : ℕ) → u ≢ t → awaited_in awaiting.claims u ≡ awaited_in s.claims u
  awaits_other u other = ap (λ (c : Claim). c.awaited) (get_or-set_other s.claims t u (waiting_for k (get_or s.claims t no_claim)) no_claim other)

  awaits_new : t < length s.claims → awaited_in awaiting.claims t ≡ k
  awaits_new lt = ap (λ (c : Claim). c.awaited) (get_or-set_same s.claims t (waiting_for k (get_or s.claims t no_claim)) no_claim lt)

  -- where the wait that comes or goes is for one mutex, only its owner may be asked for another priority
  wait_right : (m start : ℕ) → t < length s.claims → Solves s.claims s.mutexes (prio_in exec) →
      ((j : ℕ) → j ≢ m → is k j ≡ is (awaited_in s.claims t) j) → ((u : ℕ) → u ≢ start → (mutex_in s.mutexes m).owner ≢ Some u) →
      SolvesBut awaiting.claims s.mutexes start (prio_in exec)
  wait_right m start known right elsewhere owner = record {
    others = λ u lt other.
        right.each u (omega (arith, changed-length no_claim t (waiting_for k) s.claims))
        ∙ sym (asked_elsewhere s.claims awaiting.claims s.mutexes (prio_in exec) u (changed-length no_claim t (waiting_for k) s.claims)
        (assigned_same u)
        (λ j owned i.
        let apart : j ≢ m = (λ (e : j ≡ m). owner u other (sym (ap (λ (n : ℕ). (mutex_in s.mutexes n).owner) e) ∙ owned)) in
        elim (eqb_tells i t) [
          | inl same ↦ rw same.1 (ap (λ o. is o j) (awaits_new known) ∙ elsewhere j apart)
          | inr beside ↦ ap (λ o. is o j) (awaits_other i beside.1)
        ]));
  }

  wait_begins : (start m : ℕ) (places before : List (Option Place)) → t < length s.claims → start < length s.claims → Settled s exec →
      ((j : ℕ) → j ≢ m → is k j ≡ is (awaited_in s.claims t) j) → ((u : ℕ) → u ≢ start → (mutex_in s.mutexes m).owner ≢ Some u) →
      NoCycle awaiting.claims s.mutexes → length before ≡ length s.claims → WaitersStand awaiting.claims before → StandsAt (prio_in exec) before →
      Begins s awaiting exec start before
  wait_begins start m places before known within settled elsewhere owner free counted waiters stand =
      let lengths = changed-length no_claim t (waiting_for k) s.claims in
      record {
        known = omega arith;
        lengths = lengths;
        each = settled.each ∙ sym lengths;
        places = counted ∙ sym lengths;
        free = free;
        owners = record { each = λ j u owned. (let lt = settled.owners.each j u owned in omega arith) };
        right = wait_right m start known settled.right elsewhere owner;
        waiters = waiters;
        stand = stand;
        cached = cached_is s exec settled.free settled.owners settled.right;
        fits = settled.fits;
      }

  -- where the wait begins: there was none
  none_before : (m : ℕ) → k ≡ Some m → awaited_in s.claims t ≡ None → (j : ℕ) → j ≢ m → is k j ≡ is (awaited_in s.claims t) j
  none_before m is none j other = rw (is, none) (differ m j (λ (e : m ≡ j). other (sym e)))

  -- where it ends: there is none
  none_after : (m : ℕ) → k ≡ None → awaited_in s.claims t ≡ Some m → (j : ℕ) → j ≢ m → is k j ≡ is (awaited_in s.claims t) j
  none_after m none was j other = rw (none, was) (sym (differ m j (λ (e : m ≡ j). other (sym e))))

  -- ---- the places

  pub entered_waiters : (x : Place) (places : List (Option Place)) → length places ≡ length s.claims → t < length s.claims → mutex_placed (Some x) ≡ k →
      WaitersStand s.claims places → WaitersStand awaiting.claims (set places t (Some x))
  entered_waiters x places counted known is waiters = record {
    each = λ u. elim (eqb_tells u t) [
      | inl same ↦ (let here : place_in (set places t (Some x)) t ≡ Some x = get_or-set_same places t (Some x) None (omega arith) in
          rw same.1 (rw here (awaits_new known ∙ sym is)))
      | inr other ↦ rw (get_or-set_other places t u (Some x) None other.1) (awaits_other u other.1 ∙ waiters.each u)
    ];
  }

  pub entered_stand : (e : ℕ → ℕ) (x : Place) (places : List (Option Place)) → length places ≡ length s.claims → t < length s.claims → x.priority ≡ e t →
      StandsAt e places → StandsAt e (set places t (Some x))
  entered_stand e x places counted known is stand = record {
    each = λ u. elim (eqb_tells u t) [
      | inl same ↦ (let here : place_in (set places t (Some x)) t ≡ Some x = get_or-set_same places t (Some x) None (omega arith) in rw same.1 (rw here is))
      | inr other ↦ rw (get_or-set_other places t u (Some x) None other.1) (stand.each u)
    ];
  }

  pub left_waiters : (places : List (Option Place)) → length places ≡ length s.claims → t < length s.claims → k ≡ None → WaitersStand s.claims places →
      WaitersStand awaiting.claims (set places t None)
  left_waiters places counted known is waiters = record {
    each = λ u. elim (eqb_tells u t) [
      | inl same ↦ (let here : place_in (set places t None) t ≡ None = get_or-set_same places t None None (omega arith) in
          rw same.1 (rw here (awaits_new known ∙ is)))
      | inr other ↦ rw (get_or-set_other places t u None None other.1) (awaits_other u other.1 ∙ waiters.each u)
    ];
  }

  pub left_stand : (e : ℕ → ℕ) (places : List (Option Place)) → length places ≡ length s.claims → t < length s.claims → StandsAt e places → StandsAt e (set places t None)
  left_stand e places counted known stand = record {
    each = λ u. elim (eqb_tells u t) [
      | inl same ↦ (let here : place_in (set places t None) t ≡ None = get_or-set_same places t None None (omega arith) in rw same.1 (rw here tt))
      | inr other ↦ rw (get_or-set_other places t u None None other.1) (stand.each u)
    ];
  }

  -- ---- the chains

  next_other : (u : ℕ) → u ≢ t → next_in awaiting.claims s.mutexes u ≡ next_in s.claims s.mutexes u
  next_other u other = ap (λ o. option_and_then (λ (j : ℕ). (mutex_in s.mutexes j).owner) o) (awaits_other u other)

  next_new : t < length s.claims → next_in awaiting.claims s.mutexes t ≡ option_and_then (λ (j : ℕ). (mutex_in s.mutexes j).owner) k
  next_new known = ap (λ o. option_and_then (λ (j : ℕ). (mutex_in s.mutexes j).owner) o) (awaits_new known)

  left_free : t < length s.claims → k ≡ None → NoCycle s.claims s.mutexes → NoCycle awaiting.claims s.mutexes
  left_free known is free = less_no_cycle s.claims s.mutexes awaiting.claims s.mutexes
      (λ u x h. elim (eqb_tells u t) [
        | inl same ↦ absurd (let gone : next_in awaiting.claims s.mutexes u ≡ None = rw same.1 (next_new known ∙ rw is refl) in cc)
        | inr other ↦ sym (next_other u other.1) ∙ h
      ]) free

  entered_free : (m o : ℕ) → t < length s.claims → k ≡ Some m → (mutex_in s.mutexes m).owner ≡ Some o → OwnersAreThreads s.claims s.mutexes →
      closes_cycle_in s.claims s.mutexes t m ≡ false → NoCycle s.claims s.mutexes → NoCycle awaiting.claims s.mutexes
  entered_free m o known is owned owners unclosed free = more_no_cycle s.claims s.mutexes awaiting.claims s.mutexes t o next_other
      (next_new known ∙ rw is owned) (never_leads s.claims s.mutexes t m o owned owners unclosed free) free

pub some_of : {o : Option ℕ} → IsSome o → (x : ℕ) × (o ≡ Some x)
some_of {o = None} h = cc
some_of {o = Some x} h = (x, refl)

within : {claims : List Claim} {mutexes : List Mutex} → OwnersAreThreads claims mutexes → {t : ℕ} (m o : ℕ) → t < length claims → (own : Option ℕ) →
    own ≡ (mutex_in mutexes m).owner → o ≡ unwrap_or own t → o < length claims
within owners m o known None is from = omega arith
within owners m o known (Some x) is from = (let lt = owners.each m x (sym is) in omega arith)

module _ (s : Links) (exec : List ℕ) (t : ℕ) where
  pub begins_entered : (m o serial : ℕ) (x : Place) (places : List (Option Place)) → t < length s.claims → Settled s exec → IsPlaced s places →
      (mutex_in s.mutexes m).owner ≡ Some o → place_in places t ≡ None → closes_cycle_in s.claims s.mutexes t m ≡ false → mutex_placed (Some x) ≡ Some m → x.priority ≡ prio_in exec t →
      Begins s (with_claim t (waiting_for (Some m)) s) exec o (set places t (Some x))
  begins_entered m o serial x places known settled placed owned nowhere unclosed named is =
      wait_begins s exec t (Some m) o m places (set places t (Some x)) known (settled.owners.each m o owned) settled
      (none_before s exec t (Some m) m refl (placed.waiters.each t ∙ ap mutex_placed nowhere))
      (λ u other (e : (mutex_in s.mutexes m).owner ≡ Some u). other (same_some u o (sym e ∙ owned)))
      (entered_free s exec t (Some m) m o known refl owned settled.owners unclosed settled.free)
      (length-set places t (Some x) ∙ placed.lengths)
      (entered_waiters s exec t (Some m) x places placed.lengths known named placed.waiters)
      (entered_stand s exec t (Some m) (prio_in exec) x places placed.lengths known is (stands_cached s exec places settled placed))

  -- the place that the code makes is the one with the execution priority
  pub entered_is : (m serial p r : ℕ) (places new : List (Option Place)) → Settled s exec → t < length s.claims → p ≡ prio_in exec t → r ≡ 0 →
      new ≡ set places t (Some (record { object = wait_obj.Mutex m; priority = p; serial = serial; released = r })) → new ≡ entered t m serial s places
  entered_is m serial p r places new settled known read none put =
      let is : p ≡ exec_of s t = read ∙ cached_is s exec settled.free settled.owners settled.right t known in
      put ∙ ap (λ (n : ℕ). set places t (Some (record { object = wait_obj.Mutex m; priority = p; serial = serial; released = n }))) none
      ∙ ap (λ (n : ℕ). set places t (Some (record { object = wait_obj.Mutex m; priority = n; serial = serial; released = 0 }))) is

  pub begins_waiting : (m o serial : ℕ) (places : List (Option Place)) → t < length s.claims → Settled s exec → IsPlaced s places →
      (mutex_in s.mutexes m).owner ≡ Some o → place_in places t ≡ None → closes_cycle_in s.claims s.mutexes t m ≡ false →
      Begins s (with_claim t (waiting_for (Some m)) s) exec o (entered t m serial s places)
  begins_waiting m o serial places known settled placed owned nowhere unclosed =
      begins_entered m o serial (record { object = wait_obj.Mutex m; priority = exec_of s t; serial = serial; released = 0 }) places known settled placed owned nowhere unclosed refl
      (sym (cached_is s exec settled.free settled.owners settled.right t known))

  owner_is : (m o : ℕ) (own : Option ℕ) → (own ≡ None → o ≡ t) → ((x : ℕ) → own ≡ Some x → o ≡ x) → (u : ℕ) → u ≢ o → own ≢ Some u
  owner_is m o None h g u other e = cc
  owner_is m o (Some x) h g u other e = other (same_some u x (sym e) ∙ sym (g x refl))

  pub begins_left : (m : ℕ) (o : ℕ) (places : List (Option Place)) → t < length s.claims → Settled s exec → IsPlaced s places →
      awaited_in s.claims t ≡ Some m → o ≡ unwrap_or (next_in s.claims s.mutexes t) t →
      Begins s (with_claim t (waiting_for None) s) exec o (set places t None)
  begins_left m o places known settled placed was start =
      let next : next_in s.claims s.mutexes t ≡ (mutex_in s.mutexes m).owner = rw was refl in
      let from : o ≡ unwrap_or (mutex_in s.mutexes m).owner t = start ∙ ap (λ x. unwrap_or x t) next in
      wait_begins s exec t None o m places (set places t None) known
      (within settled.owners m o known (mutex_in s.mutexes m).owner refl from) settled
      (none_after s exec t None m refl was)
      (owner_is m o (mutex_in s.mutexes m).owner (λ e. from ∙ ap (λ x. unwrap_or x t) e) (λ x e. from ∙ ap (λ x. unwrap_or x t) e))
      (left_free s exec t None known refl settled.free)
      (length-set places t None ∙ placed.lengths)
      (left_waiters s exec t None places placed.lengths known refl placed.waiters)
      (left_stand s exec t None (prio_in exec) places placed.lengths known (stands_cached s exec places settled placed))

-- ---- the owner of a mutex

module _ (s : Links) (exec : List ℕ) (k t : ℕ) (y : Mutex) where
  abbrev owning : Links
  owning = record s { mutexes = set s.mutexes k y }

  owner_other : (j : ℕ) → j ≢ k → mutex_in owning.mutexes j ≡ mutex_in s.mutexes j
  owner_other j other = get_or-set_other s.mutexes k j y no_mutex other

  owner_new : k < length s.mutexes → mutex_in owning.mutexes k ≡ y
  owner_new lt = get_or-set_same s.mutexes k y no_mutex lt

  owner_right : Solves s.claims s.mutexes (prio_in exec) → ((u : ℕ) → u ≢ t → owner_ceiling u y ≡ owner_ceiling u (mutex_in s.mutexes k)) →
      ((u : ℕ) → u ≢ t → is_inherit_mutex_of u y ≡ is_inherit_mutex_of u (mutex_in s.mutexes k)) → SolvesBut s.claims owning.mutexes t (prio_in exec)
  owner_right right ceiling lends = record {
    others = λ u lt other. right.each u lt ∙ sym (asked_beside s.claims s.mutexes (prio_in exec) k u y (ceiling u other) (lends u other));
  }

  owner_begins : (places : List (Option Place)) → t < length s.claims → Settled s exec → IsPlaced s places →
      ((u : ℕ) → u ≢ t → owner_ceiling u y ≡ owner_ceiling u (mutex_in s.mutexes k)) → ((u : ℕ) → u ≢ t → is_inherit_mutex_of u y ≡ is_inherit_mutex_of u (mutex_in s.mutexes k)) →
      ((u : ℕ) → y.owner ≡ Some u → u < length s.claims) → k < length s.mutexes → NoCycle s.claims owning.mutexes → Begins s owning exec t places
  owner_begins places known settled placed ceiling lends thread lt free = record {
    known = known;
    lengths = refl;
    each = settled.each;
    places = placed.lengths;
    free = free;
    owners = record {
      each = λ j u owned. elim (eqb_tells j k) [
        | inl same ↦ thread u (ap (λ (m : Mutex). m.owner) (sym (ap (mutex_in owning.mutexes) same.1 ∙ owner_new lt)) ∙ owned)
        | inr other ↦ settled.owners.each j u (ap (λ (m : Mutex). m.owner) (sym (owner_other j other.1)) ∙ owned)
      ];
    };
    right = owner_right settled.right ceiling lends;
    waiters = placed.waiters;
    stand = stands_cached s exec places settled placed;
    cached = cached_is s exec settled.free settled.owners settled.right;
    fits = settled.fits;
  }

not_is : (t u : ℕ) → u ≢ t → is (Some t) u ≡ false
not_is t u other = differ t u (λ (e : t ≡ u). other (sym e))

pub no_ceiling : (u : ℕ) (k : Mutex) → is k.owner u ≡ false → owner_ceiling u k ≡ 0
no_ceiling u k h = rw h refl

no_loan : (b c : Bool) → c ≡ false → (b && c) ≡ false
no_loan true c h = h
no_loan false c h = refl

pub no_lending : (u : ℕ) (k : Mutex) → is k.owner u ≡ false → is_inherit_mutex_of u k ≡ false
no_lending u k h = no_loan (is_inherit k.protocol) (is k.owner u) h

module _ (s : Links) (exec : List ℕ) (k t : ℕ) where
  next_by : (old new : List Mutex) → ((j : ℕ) → j ≢ k → mutex_in new j ≡ mutex_in old j) → (x : ℕ) (o : Option ℕ) →
      ((mutex_in new k).owner ≡ Some x → x ≡ t) → option_and_then (λ (j : ℕ). (mutex_in new j).owner) o ≡ Some x →
      (x ≡ t) ⊎ (option_and_then (λ (j : ℕ). (mutex_in old j).owner) o ≡ Some x)
  next_by old new other x None here h = cc
  next_by old new other x (Some j) here h = elim (eqb_tells j k) [
    | inl same ↦ inl (here (sym (ap (λ (i : ℕ). (mutex_in new i).owner) same.1) ∙ h))
    | inr apart ↦ inr (sym (ap (λ (m : Mutex). m.owner) (other j apart.1)) ∙ h)
  ]

  pub begins_taken : (places : List (Option Place)) → t < length s.claims → k < length s.mutexes → Settled s exec → IsPlaced s places →
      (mutex_in s.mutexes k).owner ≡ None → awaited_in s.claims t ≡ None → Begins s (with_mutex k (taken_by t) s) exec t places
  begins_taken places known lt settled placed free waits_not =
      let y = taken_by t (mutex_in s.mutexes k) in
      let was : (u : ℕ) → is (mutex_in s.mutexes k).owner u ≡ false = λ u. rw free refl in
      owner_begins s exec k t y places known settled placed
      (λ u other. no_ceiling u y (not_is t u other) ∙ sym (no_ceiling u (mutex_in s.mutexes k) (was u)))
      (λ u other. no_lending u y (not_is t u other) ∙ sym (no_lending u (mutex_in s.mutexes k) (was u)))
      (λ u e. let same : t ≡ u = same_some t u e in omega arith)
      lt
      (owned_no_cycle s.claims s.mutexes s.claims (set s.mutexes k y) t (rw waits_not refl)
      (λ u x h. next_by s.mutexes (set s.mutexes k y) (owner_other s exec k t y) x (awaited_in s.claims u)
      (λ e. sym (same_some t x (sym (ap (λ (m : Mutex). m.owner) (owner_new s exec k t y lt)) ∙ e))) h)
      settled.free)

  next_less : (old new : List Mutex) → ((j : ℕ) → j ≢ k → mutex_in new j ≡ mutex_in old j) → (x : ℕ) (o : Option ℕ) →
      (mutex_in new k).owner ≡ None → option_and_then (λ (j : ℕ). (mutex_in new j).owner) o ≡ Some x →
      option_and_then (λ (j : ℕ). (mutex_in old j).owner) o ≡ Some x
  next_less old new other x None here h = cc
  next_less old new other x (Some j) here h = elim (eqb_tells j k) [
    | inl same ↦ absurd (none_some x (sym here ∙ (sym (ap (λ (i : ℕ). (mutex_in new i).owner) same.1) ∙ h)))
    | inr apart ↦ sym (ap (λ (m : Mutex). m.owner) (other j apart.1)) ∙ h
  ]

  pub begins_freed : (places : List (Option Place)) → k < length s.mutexes → Settled s exec → IsPlaced s places →
      (mutex_in s.mutexes k).owner ≡ Some t → Begins s (with_mutex k freed s) exec t places
  begins_freed places lt settled placed owned =
      let y = freed (mutex_in s.mutexes k) in
      let was : (u : ℕ) → u ≢ t → is (mutex_in s.mutexes k).owner u ≡ false = λ u other. rw owned (not_is t u other) in
      owner_begins s exec k t y places (settled.owners.each k t owned) settled placed
      (λ u other. no_ceiling u y refl ∙ sym (no_ceiling u (mutex_in s.mutexes k) (was u other)))
      (λ u other. no_lending u y refl ∙ sym (no_lending u (mutex_in s.mutexes k) (was u other)))
      (λ u e. absurd (none_some u e))
      lt
      (less_no_cycle s.claims s.mutexes s.claims (set s.mutexes k y)
      (λ u x h. next_less s.mutexes (set s.mutexes k y) (owner_other s exec k t y) x (awaited_in s.claims u)
      (ap (λ (m : Mutex). m.owner) (owner_new s exec k t y lt)) h)
      settled.free)

-- ---- how often a mutex is counted

module _ (s : Links) (exec : List ℕ) (k n : ℕ) where
  abbrev recounted : Links
  recounted = with_mutex k (counted n) s

  -- what a count leaves of each mutex
  kept_owner : (j : ℕ) → k < length s.mutexes → (mutex_in recounted.mutexes j).owner ≡ (mutex_in s.mutexes j).owner
  kept_owner j lt = elim (eqb_tells j k) [
    | inl same ↦ rw same.1 (ap (λ (m : Mutex). m.owner) (owner_new s exec k k (counted n (mutex_in s.mutexes k)) lt))
    | inr other ↦ ap (λ (m : Mutex). m.owner) (owner_other s exec k k (counted n (mutex_in s.mutexes k)) j other.1)
  ]

  kept_next : (o : Option ℕ) (x : ℕ) → k < length s.mutexes → option_and_then (λ (j : ℕ). (mutex_in recounted.mutexes j).owner) o ≡ Some x →
      option_and_then (λ (j : ℕ). (mutex_in s.mutexes j).owner) o ≡ Some x
  kept_next None x lt h = cc
  kept_next (Some j) x lt h = sym (kept_owner j lt) ∙ h

  pub settled_recounted : k < length s.mutexes → Settled s exec → Settled recounted exec
  settled_recounted lt settled = record {
    each = settled.each;
    owners = record { each = λ j u owned. settled.owners.each j u (sym (kept_owner j lt) ∙ owned) };
    free = less_no_cycle s.claims s.mutexes s.claims recounted.mutexes (λ u x h. kept_next (awaited_in s.claims u) x lt h) settled.free;
    right = record {
      each = λ u below. settled.right.each u below ∙ sym (asked_beside s.claims s.mutexes (prio_in exec) k u (counted n (mutex_in s.mutexes k)) refl refl);
    };
    fits = settled.fits;
  }

  pub same_recounted : k < length s.mutexes → Settled s exec → SameExec s recounted
  same_recounted lt settled = record {
    lengths = refl;
    each = λ t below.
        let after = settled_recounted lt settled in
        sym (cached_is recounted exec after.free after.owners after.right t below) ∙ cached_is s exec settled.free settled.owners settled.right t below;
  }
