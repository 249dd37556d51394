-- The ties of a table where a thread's claim or wait changes: the chain has put each waiter at its new priority.
use Rattle.std.proofs.Common.{◌≡◌, ◌<◌, ◌∙◌, ℕ, zero, suc, List, [], ◌∷◌, Bool, true, false, None, Option, Some, ap, arith, length, refl, subst, sym}
use Rattle.std.specs.Prelude.{◌==◌, IfSome, option_and_then, option_map, slice_set}
use Rattle.std.proofs.lemmas.List.{length-set}
use Rattle.rules_bodies.specs.declared.cursor.Cursor.{Cursor}
use Rattle.rules_machine.specs.Conditions.{released_mutex}
use Rattle.rules_machine.specs.Lists.{changed_at}
use Rattle.rules_machine.specs.Priorities.{Claim, assigned_of, claim_of, claims, exec_in, mutex_waited}
use Rattle.rules_machine.specs.State.{Thread, Waiting}
use Rattle.rules_machine.specs.Threads.{no_thread, thread_in, waiting_in}
use Rattle.rules_machine.proofs.Reading.{changed-keeps, changed-length, changed-other, changed-same, changed-twice}
use Rattle.parts_waiters.specs.declared.Place.{Place}
use Rattle.parts_waiters.specs.declared.WaitObj.{WaitObj}
use Rattle.parts_waiters.specs.Places.{place_in}
use Rattle.parts_waiters.specs.Ties.{object_of, place_at, place_of}
use Rattle.parts_owners.specs.Chains.{Links, assigned_to, exec_of, links_of, no_claim, waiting_for, with_claim}
use Rattle.parts_owners.specs.Moves.{SamePlaces, left, unpriced}
use Rattle.rules_machine.specs.Waking.{put_to_wait}
use Rattle.kernel_table.specs.Moves.{ArePriced, beginning, begun}
use Rattle.kernel_table.proofs.Places.{set_other, set_same}
use Rattle.kernel_table.specs.Tied.{IsTied}

-- ---- claims

-- the claims of the threads where one of them changes
pub claims_changed : (threads : List (Thread Cursor)) (t : ℕ) (f : Thread Cursor → Thread Cursor) (g : Claim → Claim) →
    claim_of (f (thread_in threads t)) ≡ g (claim_of (thread_in threads t)) → changed_at no_claim t g (claims threads) ≡ claims (changed_at no_thread t f threads)
claims_changed [] t f g same = refl
claims_changed (th ∷ threads) zero f g same = ap (λ (c : Claim). c ∷ claims threads) (sym same)
claims_changed (th ∷ threads) (suc t) f g same = ap (λ (cs : List Claim). claim_of th ∷ cs) (claims_changed threads t f g same)

-- ---- places

-- a place but for its priority
abbrev pub bare : Option Place → Option Place
bare p = option_map unpriced p

bare_at : (p q serial : ℕ) (r : Option ℕ) (o : Option WaitObj) → bare (place_at p serial r o) ≡ bare (place_at q serial r o)
bare_at p q serial r None = refl
bare_at p q serial r (Some o) = refl

pub bare_of : (p q : ℕ) (w : Option Waiting) → bare (place_of p w) ≡ bare (place_of q w)
bare_of p q None = refl
bare_of p q (Some w) = bare_at p q w.serial (released_mutex w.wait) (object_of w.wait)

priced_at : (x : Option Place) (e serial : ℕ) (r : Option ℕ) (o : Option WaitObj) → bare x ≡ bare (place_at 0 serial r o) → IfSome x (λ (p : Place). p.priority ≡ e) → x ≡ place_at e serial r o
priced_at None e serial r None same at = refl
priced_at None e serial r (Some o) same at = absurd cc
priced_at (Some p) e serial r None same at = absurd cc
priced_at (Some p) e serial r (Some o) same at = grind (arith, same, at)

-- a place with what it stands for and its priority is known
priced : (x : Option Place) (e : ℕ) (w : Option Waiting) → bare x ≡ bare (place_of 0 w) → IfSome x (λ (p : Place). p.priority ≡ e) → x ≡ place_of e w
priced None e None same at = refl
priced (Some p) e None same at = absurd cc
priced x e (Some w) same at = priced_at x e w.serial (released_mutex w.wait) (object_of w.wait) same at

-- what the threads wait for, as places
pub record WaitSo (threads : List (Thread Cursor)) (places : List (Option Place)) : Type 0 where
  pub lengths : length places ≡ length threads
  pub each : (u : ℕ) → u < length threads → bare (place_in places u) ≡ bare (place_of 0 (waiting_in (thread_in threads u).status))

-- the ties of new threads
pub tied_anew : (threads : List (Thread Cursor)) (new : Links) (before after : List (Option Place)) → length threads < 257 → new.claims ≡ claims threads → WaitSo threads before →
    ArePriced new before after → IsTied threads new after
tied_anew threads new before after few same so priced_so = record {
  few = omega arith;
  claims = same;
  waiting = record {
    lengths = priced_so.same.length ∙ so.lengths;
    each = λ u lt. priced (place_in after u) (exec_in (claims threads) new.mutexes u) (waiting_in (thread_in threads u).status) (priced_so.same.each u ∙ so.each u lt)
        (subst (λ (cs : List Claim). IfSome (place_in after u) (λ (p : Place). p.priority ≡ exec_in cs new.mutexes u)) same (priced_so.stand.each u));
  };
}

-- ---- what threads wait for after a change

-- all as before
pub wait_same : (threads : List (Thread Cursor)) (chain : Links) (places : List (Option Place)) (t : ℕ) (f : Thread Cursor → Thread Cursor) →
    ((th : Thread Cursor) → waiting_in (f th).status ≡ waiting_in th.status) → IsTied threads chain places → WaitSo (changed_at no_thread t f threads) places
wait_same threads chain places t f same tied =
    let long = changed-length no_thread t f threads in
    record {
      lengths = tied.waiting.lengths ∙ sym long;
      each = λ u lt. ap bare (tied.waiting.each u (omega (arith, lt, long))) ∙ bare_of (exec_in (claims threads) chain.mutexes u) 0 (waiting_in (thread_in threads u).status)
          ∙ ap (λ (w : Option Waiting). bare (place_of 0 w)) (sym (changed-keeps no_thread t u f (λ th. waiting_in th.status) same threads));
    }

-- one thread has another place
pub wait_set : (threads : List (Thread Cursor)) (chain : Links) (places : List (Option Place)) (t : ℕ) (f : Thread Cursor → Thread Cursor) (p : Option Place) → t < length threads →
    bare p ≡ bare (place_of 0 (waiting_in (f (thread_in threads t)).status)) → IsTied threads chain places → WaitSo (changed_at no_thread t f threads) (slice_set places t p)
wait_set threads chain places t f p known so tied =
    let long = changed-length no_thread t f threads in
    record {
      lengths = length-set places t p ∙ tied.waiting.lengths ∙ sym long;
      each = λ u lt. at_eq u (omega (arith, lt, long)) (t == u) refl;
    }
  where
    at_eq : (u : ℕ) → u < length threads → (b : Bool) → (t == u) ≡ b → bare (place_in (slice_set places t p) u) ≡ bare (place_of 0 (waiting_in (thread_in (changed_at no_thread t f threads) u).status))
    at_eq u lt true e =
        let it : t ≡ u = grind arith in
        subst (λ (v : ℕ). bare (place_in (slice_set places t p) v) ≡ bare (place_of 0 (waiting_in (thread_in (changed_at no_thread t f threads) v).status))) it
        (ap bare (set_same places t p None (omega (arith, known, tied.waiting.lengths))) ∙ so ∙ ap (λ (th : Thread Cursor). bare (place_of 0 (waiting_in th.status))) (sym (changed-same no_thread no_thread t f threads known)))
    at_eq u lt false e =
        ap bare (set_other places t u p None e) ∙ ap bare (tied.waiting.each u lt) ∙ bare_of (exec_in (claims threads) chain.mutexes u) 0 (waiting_in (thread_in threads u).status)
        ∙ ap (λ (th : Thread Cursor). bare (place_of 0 (waiting_in th.status))) (sym (changed-other no_thread no_thread t u f threads e))

-- the claim of one thread changes, and with it where it waits
pub moved_tied : (threads : List (Thread Cursor)) (chain new : Links) (places before after : List (Option Place)) (t : ℕ) (f : Thread Cursor → Thread Cursor) (g : Claim → Claim) →
    new ≡ with_claim t g chain → claim_of (f (thread_in threads t)) ≡ g (claim_of (thread_in threads t)) → WaitSo (changed_at no_thread t f threads) before → ArePriced new before after →
    IsTied threads chain places → IsTied (changed_at no_thread t f threads) new after
moved_tied threads chain new places before after t f g changed same so priced_so tied =
    let long = changed-length no_thread t f threads in
    tied_anew (changed_at no_thread t f threads) new before after (omega (arith, tied.few, long))
    (ap (λ (s : Links). s.claims) changed ∙ ap (λ (cs : List Claim). changed_at no_claim t g cs) tied.claims ∙ claims_changed threads t f g same) so priced_so

-- a thread that waits as before, and has taken its assigned priority
pub reassigned_to : (f : Thread Cursor → Thread Cursor) (threads : List (Thread Cursor)) (t : ℕ) (new : Thread Cursor) → t < length threads → new ≡ f (thread_in threads t) →
    ((th : Thread Cursor) → waiting_in (f th).status ≡ waiting_in th.status) →
    claim_of (f (thread_in threads t)) ≡ assigned_to (assigned_of (thread_in (slice_set threads t new) t)) (claim_of (thread_in threads t))
reassigned_to f threads t new known is same =
    rw (set_same threads t new no_thread known, is)
    (ap (λ (w : Option Waiting). record { assigned = assigned_of (f (thread_in threads t)); awaited = option_and_then (λ (x : Waiting). mutex_waited x.wait) w }) (same (thread_in threads t)))

-- the ties of a thread that waits as before, and has taken its assigned priority
pub reassigned_tied : (threads : List (Thread Cursor)) (chain new_chain : Links) (places after : List (Option Place)) (t : ℕ) (f : Thread Cursor → Thread Cursor) (new : Thread Cursor) → t < length threads →
    new ≡ f (thread_in threads t) → ((th : Thread Cursor) → waiting_in (f th).status ≡ waiting_in th.status) →
    new_chain ≡ with_claim t (assigned_to (assigned_of (thread_in (slice_set threads t new) t))) chain → ArePriced new_chain places after → IsTied threads chain places →
    IsTied (slice_set threads t new) new_chain after
reassigned_tied threads chain new_chain places after t f new known is same changed priced_so tied =
    subst (λ (th : Thread Cursor). IsTied (slice_set threads t th) new_chain after) (sym is)
    (moved_tied threads chain new_chain places places after t f (assigned_to (assigned_of (thread_in (slice_set threads t new) t))) changed (reassigned_to f threads t new known is same)
    (wait_same threads chain places t f same tied) priced_so tied)

-- ---- two changes of the chain, one after the other

same_both : (a b c : List (Option Place)) → SamePlaces a b → SamePlaces b c → SamePlaces a c
same_both a b c x y = record { length = y.length ∙ x.length; each = λ t. y.each t ∙ x.each t }

-- a thread that waits for nothing any more, and has taken its assigned priority
pub restated_tied : (threads : List (Thread Cursor)) (chain mid new_chain : Links) (places between after : List (Option Place)) (t : ℕ) (f : Thread Cursor → Thread Cursor) (new : Thread Cursor) →
    t < length threads → new ≡ f (thread_in threads t) → waiting_in (f (thread_in threads t)).status ≡ None →
    mid ≡ with_claim t (waiting_for None) chain → ArePriced mid (left t places) between →
    new_chain ≡ with_claim t (assigned_to (assigned_of (thread_in (slice_set threads t new) t))) mid → ArePriced new_chain between after → IsTied threads chain places →
    IsTied (slice_set threads t new) new_chain after
restated_tied threads chain mid new_chain places between after t f new known is none first priced_first second priced_second tied =
    let a = assigned_of (thread_in (slice_set threads t new) t) in
    let g : Claim → Claim = λ (c : Claim). assigned_to a (waiting_for None c) in
    let both : new_chain ≡ with_claim t g chain = second ∙ ap (λ (s : Links). with_claim t (assigned_to a) s) first
    ∙ ap (λ (cs : List Claim). links_of cs chain.mutexes) (changed-twice no_claim t (waiting_for None) (assigned_to a) chain.claims) in
    let claim : claim_of (f (thread_in threads t)) ≡ g (claim_of (thread_in threads t)) =
    rw (set_same threads t new no_thread known, is) (ap (λ (w : Option Waiting). record { assigned = assigned_of (f (thread_in threads t)); awaited = option_and_then (λ (x : Waiting). mutex_waited x.wait) w }) none) in
    subst (λ (th : Thread Cursor). IsTied (slice_set threads t th) new_chain after) (sym is)
    (moved_tied threads chain new_chain places (left t places) after t f g both claim
    (wait_set threads chain places t f None known (ap (λ (w : Option Waiting). bare (place_of 0 w)) (sym none)) tied)
    (record { same = same_both (left t places) between after priced_first.same priced_second.same; stand = priced_second.stand }) tied)

set_both : (a b : List (Option Place)) (t : ℕ) (p : Option Place) → SamePlaces (left t a) b → SamePlaces (slice_set a t p) (slice_set b t p)
set_both a b t p h =
    let lengths : length b ≡ length a = h.length ∙ length-set a t None in
    record { length = length-set b t p ∙ lengths ∙ sym (length-set a t p); each = λ u. at_eq u (t == u) refl lengths }
  where
    same_at : (a b : List (Option Place)) (t : ℕ) → length b ≡ length a → bare (place_in (slice_set b t p) t) ≡ bare (place_in (slice_set a t p) t)
    same_at [] [] t e = refl
    same_at [] (y ∷ b) t e = absurd (omega arith)
    same_at (x ∷ a) [] t e = absurd (omega arith)
    same_at (x ∷ a) (y ∷ b) zero e = refl
    same_at (x ∷ a) (y ∷ b) (suc t) e = same_at a b t (omega arith)

    at_eq : (u : ℕ) (c : Bool) → (t == u) ≡ c → length b ≡ length a → bare (place_in (slice_set b t p) u) ≡ bare (place_in (slice_set a t p) u)
    at_eq u true e lengths = let it : t ≡ u = grind arith in subst (λ (v : ℕ). bare (place_in (slice_set b t p) v) ≡ bare (place_in (slice_set a t p) v)) it (same_at a b t lengths)
    at_eq u false e lengths = ap bare (set_other b t u p None e) ∙ h.each u ∙ ap bare (set_other a t u None None e ∙ sym (set_other a t u p None e))

-- a thread that begins to wait, and waited for nothing in an order or leaves what it waited for
pub begun_tied : (threads : List (Thread Cursor)) (chain mid new_chain : Links) (places between after : List (Option Place)) (t : ℕ) (w : Waiting) (new : Thread Cursor) →
    t < length threads → new ≡ put_to_wait w (thread_in threads t) →
    mid ≡ with_claim t (waiting_for None) chain → ArePriced mid (left t places) between →
    new_chain ≡ with_claim t (waiting_for (mutex_waited w.wait)) mid → ArePriced new_chain (begun mid t w.wait w.serial between) after → IsTied threads chain places →
    IsTied (slice_set threads t new) new_chain after
begun_tied threads chain mid new_chain places between after t w new known is first priced_first second priced_second tied =
    let f = put_to_wait w in
    let g : Claim → Claim = λ (c : Claim). waiting_for (mutex_waited w.wait) (waiting_for None c) in
    let both : new_chain ≡ with_claim t g chain = second ∙ ap (λ (s : Links). with_claim t (waiting_for (mutex_waited w.wait)) s) first
    ∙ ap (λ (cs : List Claim). links_of cs chain.mutexes) (changed-twice no_claim t (waiting_for None) (waiting_for (mutex_waited w.wait)) chain.claims) in
    let p = beginning mid t w.wait w.serial in
    subst (λ (th : Thread Cursor). IsTied (slice_set threads t th) new_chain after) (sym is)
    (moved_tied threads chain new_chain places (slice_set places t p) after t f g both refl
    (wait_set threads chain places t f p known (bare_at (exec_of mid t) 0 w.serial (released_mutex w.wait) (object_of w.wait)) tied)
    (record { same = same_both (slice_set places t p) (begun mid t w.wait w.serial between) after (set_both places between t p priced_first.same) priced_second.same; stand = priced_second.stand }) tied)

-- ---- mutexes

-- an owner or a count changes
pub mutex_tied : (threads : List (Thread Cursor)) (chain new : Links) (places after : List (Option Place)) → new.claims ≡ chain.claims → ArePriced new places after → IsTied threads chain places →
    IsTied threads new after
mutex_tied threads chain new places after same priced_so tied =
    tied_anew threads new places after (omega (arith, tied.few)) (same ∙ tied.claims)
    (record { lengths = tied.waiting.lengths; each = λ u lt. ap bare (tied.waiting.each u lt) ∙ bare_of (exec_in (claims threads) chain.mutexes u) 0 (waiting_in (thread_in threads u).status) }) priced_so
