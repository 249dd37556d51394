-- The ties of a table stay where a thread changes in nothing that they go by.
use Rattle.std.proofs.Common.{◌≡◌, ◌∙◌, ℕ, List, [], None, Option, ap, arith, subst, sym}
use Rattle.rules_bodies.specs.declared.cursor.Cursor.{Cursor}
use Rattle.rules_machine.specs.Lists.{changed_at}
use Rattle.rules_machine.specs.Priorities.{Claim, claim_of, claims, exec_in, mutex_awaited_by}
use Rattle.rules_machine.specs.State.{Thread, Waiting}
use Rattle.rules_machine.specs.Threads.{no_thread, thread_in, waiting_in}
use Rattle.rules_machine.proofs.Reading.{changed-keeps, changed-length, changed-map}
use Rattle.parts_waiters.specs.declared.Place.{Place}
use Rattle.parts_waiters.specs.Ties.{place_of}
use Rattle.parts_owners.specs.Chains.{Links, awaited_in, exec_of, links_of}
use Rattle.parts_owners.specs.Moves.{IsPlaced}
use Rattle.parts_owners.proofs.Machine.{awaited_is, waits_placed}
use Rattle.kernel_table.specs.Table.{machine_with}
use Rattle.kernel_table.specs.Tied.{IsTied}

-- the chain's priorities are those of the threads
pub exec_kept : (threads : List (Thread Cursor)) (chain : Links) (places : List (Option Place)) (t : ℕ) → IsTied threads chain places →
    exec_in chain.claims chain.mutexes t ≡ exec_in (claims threads) chain.mutexes t
exec_kept threads chain places t tied = ap (λ (cs : List Claim). exec_in cs chain.mutexes t) tied.claims

-- a thread that keeps its claim and its wait
pub still_tied : (threads : List (Thread Cursor)) (chain : Links) (places : List (Option Place)) (t : ℕ) (f : Thread Cursor → Thread Cursor) →
    ((th : Thread Cursor) → claim_of (f th) ≡ claim_of th) → ((th : Thread Cursor) → waiting_in (f th).status ≡ waiting_in th.status) →
    IsTied threads chain places → IsTied (changed_at no_thread t f threads) chain places
still_tied threads chain places t f same_claim same_wait tied =
    let long = changed-length no_thread t f threads in
    let kept : claims (changed_at no_thread t f threads) ≡ claims threads = changed-map no_thread t f claim_of same_claim threads in
    record {
      few = rw long tied.few;
      claims = tied.claims ∙ sym kept;
      waiting = record {
        lengths = tied.waiting.lengths ∙ sym long;
        each = λ u lt. rw kept (tied.waiting.each u (omega (arith, lt, long))
            ∙ ap (λ (w : Option Waiting). place_of (exec_in (claims threads) chain.mutexes u) w) (sym (changed-keeps no_thread t u f (λ th. waiting_in th.status) same_wait threads)));
      };
    }

-- so the waiters stand right for the chain
pub placed : (threads : List (Thread Cursor)) (chain : Links) (places : List (Option Place)) → IsTied threads chain places → IsPlaced chain places
placed threads chain places tied =
    subst (λ (cs : List Claim). IsPlaced (links_of cs chain.mutexes) places) (sym tied.claims)
    (waits_placed (machine_with threads chain.mutexes []) places (record { lengths = tied.waiting.lengths; each = tied.waiting.each }))

awaited_claim : (threads : List (Thread Cursor)) (t : ℕ) → awaited_in (claims threads) t ≡ mutex_awaited_by (thread_in threads t)
awaited_claim threads t = awaited_is threads t

-- a thread that awaits no mutex
pub awaits_none : (threads : List (Thread Cursor)) (chain : Links) (places : List (Option Place)) (t : ℕ) → mutex_awaited_by (thread_in threads t) ≡ None → IsTied threads chain places → awaited_in chain.claims t ≡ None
awaits_none threads chain places t none tied = ap (λ (cs : List Claim). awaited_in cs t) tied.claims ∙ awaited_claim threads t ∙ none

-- another count of a mutex changes no priority
pub count_kept : (threads : List (Thread Cursor)) (chain new : Links) (places : List (Option Place)) (u : ℕ) → IsTied threads chain places → new.claims ≡ chain.claims →
    exec_of new u ≡ exec_of chain u → exec_in (claims threads) new.mutexes u ≡ exec_in (claims threads) chain.mutexes u
count_kept threads chain new places u tied same kept =
    ap (λ (cs : List Claim). exec_in cs new.mutexes u) (sym (same ∙ tied.claims)) ∙ kept ∙ exec_kept threads chain places u tied
