-- What is told of execution priorities, from what the chain tells of its walks.
use Rattle.std.proofs.Common.{◌≡◌, ◌≢◌, ◌<◌, ◌∙◌, ℕ, zero, suc, List, [], ◌∷◌, Bool, true, false, None, Option, Some, ap, arith, length, refl, sym}
use Rattle.std.specs.Prelude.{◌==◌, IfSome, option_and_then, option_map, if◌then◌else◌}
use Rattle.std.proofs.lemmas.List.{length-map}
use Rattle.rules_bodies.specs.declared.cursor.Cursor.{Cursor}
use Rattle.rules_machine.specs.Conditions.{released_mutex}
use Rattle.rules_machine.specs.Lists.{changed_at, is}
use Rattle.rules_machine.specs.Priorities.{Claim, claim_of, claims, exec_in}
use Rattle.rules_machine.specs.State.{Thread, Timer, Waiting}
use Rattle.rules_machine.specs.Threads.{no_thread, thread_in, waiting_in}
use Rattle.rules_machine.proofs.Reading.{changed-map}
use Rattle.parts_waiters.specs.declared.Place.{Place}
use Rattle.parts_waiters.specs.declared.WaitObj.{WaitObj}
use Rattle.parts_waiters.specs.Places.{place_in}
use Rattle.parts_waiters.specs.Ties.{object_of, place_at, place_of}
use Rattle.parts_owners.specs.declared.walk.Moved.{Moved}
use Rattle.parts_owners.specs.Chains.{Links, awaited_in, exec_of, no_claim, waiting_for, with_claim}
use Rattle.parts_owners.specs.Moves.{SamePlaces, TellsMoved as ChainTells, unpriced}
use Rattle.kernel_table.specs.Movers.{IsFree, KeepsOthers, TellsMoved, TellsMovedBeside, beside, object_awaited}
use Rattle.kernel_table.specs.Table.{Table, exec, thread_at}
use Rattle.kernel_table.specs.Tied.{IsTied}
use Rattle.kernel_table.proofs.Places.{bare_none}
use Rattle.kernel_table.proofs.Ties.{exec_kept}

-- ---- threads that stand nowhere

unplaced : (e serial : ℕ) (r : Option ℕ) (o : Option WaitObj) → o ≡ None → place_at e serial r o ≡ None
unplaced e serial r None none = refl
unplaced e serial r (Some o) none = absurd cc

no_object : (e serial : ℕ) (r : Option ℕ) (o : Option WaitObj) → place_at e serial r o ≡ None → o ≡ None
no_object e serial r None none = refl
no_object e serial r (Some o) none = absurd cc

has_no_place : (e : ℕ) (w : Option Waiting) → option_and_then (λ (x : Waiting). object_of x.wait) w ≡ None → place_of e w ≡ None
has_no_place e None none = refl
has_no_place e (Some w) none = unplaced e w.serial (released_mutex w.wait) (object_of w.wait) none

awaits_no_object : (e : ℕ) (w : Option Waiting) → place_of e w ≡ None → option_and_then (λ (x : Waiting). object_of x.wait) w ≡ None
awaits_no_object e None none = refl
awaits_no_object e (Some w) none = no_object e w.serial (released_mutex w.wait) (object_of w.wait) none

-- the threads and the mutexes of a chain, and the timers
abbrev pub table_with : List Timer → List (Thread Cursor) → Links → Table
table_with timers threads chain = record { threads = threads; mutexes = chain.mutexes; timers = timers }

free_nowhere : (timers : List Timer) (threads : List (Thread Cursor)) (chain : Links) (places : List (Option Place)) (u : ℕ) → IsTied threads chain places → IsFree (table_with timers threads chain) u → place_in places u ≡ None
free_nowhere timers threads chain places u tied free =
    tied.waiting.each u free.known ∙ has_no_place (exec_in (claims threads) chain.mutexes u) (waiting_in (thread_in threads u).status) free.nowhere

nowhere_free : (timers : List Timer) (threads : List (Thread Cursor)) (chain : Links) (places : List (Option Place)) (u : ℕ) → IsTied threads chain places → u < length threads → place_in places u ≡ None →
    IsFree (table_with timers threads chain) u
nowhere_free timers threads chain places u tied lt none = record {
  known = lt;
  nowhere = awaits_no_object (exec_in (claims threads) chain.mutexes u) (waiting_in (thread_in threads u).status) (sym (tied.waiting.each u lt) ∙ none);
}

pub claims_long : (threads : List (Thread Cursor)) (chain : Links) (places : List (Option Place)) → IsTied threads chain places → length chain.claims ≡ length threads
claims_long threads chain places tied = ap length tied.claims ∙ length-map threads claim_of

-- ---- one walk

pub told : (timers : List Timer) (threads new_threads : List (Thread Cursor)) (chain new : Links) (places after : List (Option Place)) (r : Option Moved) → length new_threads ≡ length threads →
    IsTied threads chain places → IsTied new_threads new after → ChainTells (length chain.claims) (exec_of chain) (exec_of new) after r →
    TellsMoved (table_with timers threads chain) (table_with timers new_threads new) (option_map (λ (m : Moved). m.thread) r)
told timers threads new_threads chain new places after None long tied new_tied h = λ u free.
    sym (exec_kept new_threads new after u new_tied)
    ∙ h u (let all = claims_long threads chain places tied in let lt = free.known in omega (arith, all, long, lt)) (free_nowhere timers new_threads new after u new_tied free)
    ∙ exec_kept threads chain places u tied
told timers threads new_threads chain new places after (Some m) long tied new_tied h =
    let all = claims_long threads chain places tied in
    record {
      free = nowhere_free timers new_threads new after m.thread new_tied (omega (arith, all, long, h.known)) h.nowhere;
      changed = λ e. h.changed (h.before ∙ exec_kept threads chain places m.thread tied ∙ sym e ∙ sym (exec_kept new_threads new after m.thread new_tied) ∙ sym h.after);
      others = λ u free other. sym (exec_kept new_threads new after u new_tied)
          ∙ h.others u (let lt = free.known in omega (arith, all, long, lt)) (free_nowhere timers new_threads new after u new_tied free) other
          ∙ exec_kept threads chain places u tied;
    }

-- ---- two walks, of which the second changes one thread alone

module _ (timers : List Timer) (threads new_threads : List (Thread Cursor)) (chain mid new : Links) (places between after : List (Option Place)) (t : ℕ)
    (long : length new_threads ≡ length threads) (same_long : length mid.claims ≡ length chain.claims)
    (tied : IsTied threads chain places) (new_tied : IsTied new_threads new after) (same : SamePlaces between after) where
  stays : (s : Option Moved) → ChainTells (length mid.claims) (exec_of mid) (exec_of new) after s → IfSome s (λ (m : Moved). m.thread ≡ t) →
      (u : ℕ) → u < length mid.claims → place_in after u ≡ None → u ≢ t → exec_of new u ≡ exec_of mid u
  stays None h alone u lt none other = h u lt none
  stays (Some m) h alone u lt none other = h.others u lt none (λ e. other (e ∙ alone))

  pub told_beside : (r s : Option Moved) → ChainTells (length chain.claims) (exec_of chain) (exec_of mid) between r →
      ChainTells (length mid.claims) (exec_of mid) (exec_of new) after s → IfSome s (λ (m : Moved). m.thread ≡ t) →
      TellsMovedBeside t (table_with timers threads chain) (table_with timers new_threads new) (beside t (option_map (λ (m : Moved). m.thread) r))
  told_beside None s first second alone = λ u free other.
      let all = claims_long threads chain places tied in
      let lt : u < length chain.claims = (let known = free.known in omega (arith, all, long, known)) in
      let none = free_nowhere timers new_threads new after u new_tied free in
      sym (exec_kept new_threads new after u new_tied) ∙ stays s second alone u (omega (arith, lt, same_long)) none other
      ∙ first u lt (bare_none (place_in between u) (sym (same.each u) ∙ ap (option_map unpriced) none)) ∙ exec_kept threads chain places u tied
  told_beside (Some m) s first second alone = by_test (m.thread == t) refl
    where
      all : length chain.claims ≡ length threads
      all = claims_long threads chain places tied

      back : (u : ℕ) → place_in after u ≡ None → place_in between u ≡ None
      back u none = bare_none (place_in between u) (sym (same.each u) ∙ ap (option_map unpriced) none)

      kept : (u : ℕ) → IsFree (table_with timers new_threads new) u → u ≢ t → u ≢ m.thread → exec (table_with timers new_threads new) u ≡ exec (table_with timers threads chain) u
      kept u free other apart =
          let lt : u < length chain.claims = (let known = free.known in omega (arith, all, long, known)) in
          let none = free_nowhere timers new_threads new after u new_tied free in
          sym (exec_kept new_threads new after u new_tied) ∙ stays s second alone u (omega (arith, lt, same_long)) none other
          ∙ first.others u lt (back u none) apart ∙ exec_kept threads chain places u tied

      by_test : (b : Bool) → (m.thread == t) ≡ b → TellsMovedBeside t (table_with timers threads chain) (table_with timers new_threads new) (if b then None else Some m.thread)
      by_test true e = let it : m.thread ≡ t = grind arith in λ u free other. kept u free other (λ h. other (h ∙ it))
      by_test false e =
          let apart : m.thread ≢ t = grind arith in
          let none : place_in after m.thread ≡ None = bare_none (place_in after m.thread) (same.each m.thread ∙ ap (option_map unpriced) first.nowhere) in
          record {
            other = apart;
            free = nowhere_free timers new_threads new after m.thread new_tied (let lt = first.known in omega (arith, all, long, lt)) none;
            changed = λ h. first.changed (first.before ∙ exec_kept threads chain places m.thread tied ∙ sym h ∙ sym (exec_kept new_threads new after m.thread new_tied)
                ∙ stays s second alone m.thread (let lt = first.known in omega (arith, lt, same_long)) none apart ∙ sym first.after);
            others = λ u free other far. kept u free other far;
          }

-- ---- what a caller takes from it

-- each other thread that stands among no waiters has the priority that it had
pub keeps : (old new : Table) (a : Option ℕ) → TellsMoved old new a → (u : ℕ) → IsFree new u → is a u ≡ false → exec new u ≡ exec old u
keeps old new None h u free e = h u free
keeps old new (Some m) h u free e = h.others u free (λ same. let apart : (m == u) ≡ false = e in absurd (grind (arith, same, apart)))

-- a thread that can run is one of these
pub runs_free : (table : Table) (u : ℕ) → u < length table.threads → waiting_in (thread_at table u).status ≡ None → IsFree table u
runs_free table u lt none = record { known = lt; nowhere = ap (option_and_then (λ (w : Waiting). object_of w.wait)) none }

-- ---- three walks, of which the last changes one thread alone

pub handed_over : (old one two new : Table) (t : ℕ) (a b c : Option ℕ) → TellsMoved old one a → TellsMoved one two b → TellsMoved two new c → IfSome c (λ (u : ℕ). u ≡ t) →
    two.threads ≡ new.threads → length new.threads ≡ length one.threads → ((u : ℕ) → u ≢ t → thread_at one u ≡ thread_at new u) → KeepsOthers t a b old new
handed_over old one two new t a b c first second third alone same long others u free other not_a not_b =
    let here : IsFree two u = record { known = (let lt = free.known in let e = ap length same in omega (arith, lt, e)); nowhere = ap (λ (ths : List (Thread Cursor)). object_awaited (thread_in ths u)) same ∙ free.nowhere } in
    let before : IsFree one u = record { known = (let lt = free.known in omega (arith, lt, long)); nowhere = ap object_awaited (others u other) ∙ free.nowhere } in
    last c third alone ∙ keeps one two b second u here not_b ∙ keeps old one a first u before not_a
  where
    last : (c : Option ℕ) → TellsMoved two new c → IfSome c (λ (u : ℕ). u ≡ t) → exec new u ≡ exec two u
    last None h alone = h u free
    last (Some m) h alone = h.others u free (λ e. other (e ∙ alone))

-- ---- changes that leave every claim

pub claims_kept : (table : Table) (t : ℕ) (f : Thread Cursor → Thread Cursor) → ((th : Thread Cursor) → claim_of (f th) ≡ claim_of th) →
    (u : ℕ) → exec (record table { threads = changed_at no_thread t f table.threads }) u ≡ exec table u
claims_kept table t f same u = ap (λ (cs : List Claim). exec_in cs table.mutexes u) (changed-map no_thread t f claim_of same table.threads)

pub thread_alone : (t : ℕ) (r : Option Moved) → IfSome r (λ (m : Moved). m.thread ≡ t) → IfSome (option_map (λ (m : Moved). m.thread) r) (λ (u : ℕ). u ≡ t)
thread_alone t None alone = tt
thread_alone t (Some m) alone = alone

-- ---- a thread that awaits no mutex

pub awaits_nothing : (cs : List Claim) (t : ℕ) → awaited_in (changed_at no_claim t (waiting_for None) cs) t ≡ None
awaits_nothing [] t = refl
awaits_nothing (c ∷ cs) zero = refl
awaits_nothing (c ∷ cs) (suc t) = awaits_nothing cs t

same_claims : (cs : List Claim) (t : ℕ) → awaited_in cs t ≡ None → changed_at no_claim t (waiting_for None) cs ≡ cs
same_claims [] t none = refl
same_claims (c ∷ cs) zero none = ap (λ (k : Option ℕ). record { assigned = c.assigned; awaited = k } ∷ cs) (sym none)
same_claims (c ∷ cs) (suc t) none = ap (λ (xs : List Claim). c ∷ xs) (same_claims cs t none)

-- it stops awaiting nothing
pub same_links : (chain : Links) (t : ℕ) → awaited_in chain.claims t ≡ None → with_claim t (waiting_for None) chain ≡ chain
same_links chain t none = ap (λ (cs : List Claim). record { claims = cs; mutexes = chain.mutexes }) (same_claims chain.claims t none)
