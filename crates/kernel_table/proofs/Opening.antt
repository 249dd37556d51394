-- The chain takes the assigned priorities, one thread after the other.
use Rattle.std.proofs.Common.{◌≡◌, ◌<◌, ◌≤◌, ◌∙◌, ℕ, zero, suc, ◌+◌, ◌-◌, None, Option, Some, List, [], ◌∷◌, ◌++◌, ap, append-nil, append_assoc, arith, get_or, length, refl, replicate, sym, take}
use Rattle.std.specs.List.{filter_map}
use Rattle.std.specs.Prelude.{map, option_and_then, option_map, option_to_list}
use Rattle.words_script.specs.declared.decl.Decl.{Decl}
use Rattle.std.proofs.lemmas.List.{length-map, take_all}
use Rattle.rules_bodies.specs.declared.cursor.Cursor.{Cursor}
use Rattle.rules_machine.specs.Declarations.{ThreadDecl, mutex_kind, named}
use Rattle.rules_machine.specs.Lists.{changed_at}
use Rattle.rules_machine.specs.Priorities.{Claim, assigned_of, claim_of, claims as claims_of, exec_in, mutex_waited}
use Rattle.rules_machine.specs.Runs.{thread_opened}
use Rattle.rules_machine.specs.State.{Mutex, Thread, Waiting}
use Rattle.rules_machine.specs.Threads.{thread_in}
use Rattle.parts_waiters.specs.declared.Place.{Place}
use Rattle.parts_waiters.specs.Places.{place_in}
use Rattle.parts_waiters.specs.Ties.{place_of}
use Rattle.parts_owners.specs.Chains.{Links, assigned_to, no_claim, with_claim}
use Rattle.parts_owners.specs.Fresh.{fresh_claim}
use Rattle.parts_owners.specs.Moves.{IsPlaced, unpriced}
use Rattle.kernel_table.specs.Moves.{ArePriced}
use Rattle.kernel_table.specs.Opening.{AreAssigned, NoneWaits}
use Rattle.kernel_table.specs.Tied.{IsTied}
use Rattle.kernel_table.proofs.Places.{bare_none}

seam : (xs : List Claim) (n : ℕ) (d : Claim) (g : Claim → Claim) → n < length xs → g d ≡ get_or xs n d →
    changed_at no_claim n g (take n xs ++ replicate (length xs - n) d) ≡ take (n + 1) xs ++ replicate (length xs - (n + 1)) d
seam [] n d g lt is = absurd (omega arith)
seam (x ∷ xs) zero d g lt is =
    let e : suc (length xs) - 0 ≡ suc (length xs) = omega arith in
    let f : suc (length xs) - 1 ≡ length xs = omega arith in
    rw (e, f) (ap (λ (c : Claim). c ∷ replicate (length xs) d) is)
seam (x ∷ xs) (suc n) d g lt is =
    let e : suc (length xs) - suc n ≡ length xs - n = omega arith in
    let f : suc (length xs) - (suc n + 1) ≡ length xs - (n + 1) = omega arith in
    let one : suc n + 1 ≡ suc (n + 1) = omega arith in
    rw (e, f, one) (ap (λ (cs : List Claim). x ∷ cs) (seam xs n d g (omega arith) is))

claim_at : (threads : List (Thread Cursor)) (n : ℕ) (d : Claim) → n < length threads → get_or (claims_of threads) n d ≡ claim_of (thread_in threads n)
claim_at [] n d lt = absurd (omega arith)
claim_at (th ∷ threads) zero d lt = refl
claim_at (th ∷ threads) (suc n) d lt = claim_at threads n d (omega arith)

-- one thread more
pub one_more : (threads : List (Thread Cursor)) (n : ℕ) (owned : List Mutex) (chain new : Links) (places after : List (Option Place)) → n < length threads → NoneWaits threads →
    new ≡ with_claim n (assigned_to (assigned_of (thread_in threads n))) chain → ArePriced new places after → IsPlaced new after → AreAssigned threads n owned chain places →
    AreAssigned threads (n + 1) owned new after
one_more threads n owned chain new places after lt none changed priced placed h =
    let g = assigned_to (assigned_of (thread_in threads n)) in
    let long : length (claims_of threads) ≡ length threads = length-map threads claim_of in
    let same : g fresh_claim ≡ get_or (claims_of threads) n fresh_claim =
    sym (claim_at threads n fresh_claim lt ∙ ap (λ (w : Option Waiting). record { assigned = assigned_of (thread_in threads n); awaited = option_and_then (λ (x : Waiting). mutex_waited x.wait) w }) (none n)) in
    let joined = rw long at (seam (claims_of threads) n fresh_claim g (omega (arith, lt, long)) same) in
    record {
      claims = ap (λ (s : Links). s.claims) changed ∙ ap (λ (cs : List Claim). changed_at no_claim n g cs) h.claims ∙ joined;
      mutexes = ap (λ (s : Links). s.mutexes) changed ∙ h.mutexes;
      nowhere = λ t. bare_none (place_in after t) (priced.same.each t ∙ ap (option_map unpriced) (h.nowhere t));
      placed = placed;
    }

-- all of them
pub all_tied : (threads : List (Thread Cursor)) (owned : List Mutex) (chain : Links) (places : List (Option Place)) → length threads ≤ 256 → NoneWaits threads →
    AreAssigned threads (length threads) owned chain places → IsTied threads chain places
all_tied threads owned chain places few none h =
    let long : length (claims_of threads) ≡ length threads = length-map threads claim_of in
    let left : length threads - length threads ≡ 0 = omega arith in
    let all : chain.claims ≡ claims_of threads = h.claims ∙ rw (left, append-nil) (take_all (length threads) (claims_of threads) (omega (arith, long))) in
    record {
      few = few;
      claims = all;
      waiting = record {
        lengths = h.placed.lengths ∙ ap length all ∙ long;
        each = λ t lt. h.nowhere t ∙ ap (λ (w : Option Waiting). place_of (exec_in (claims_of threads) chain.mutexes t) w) (sym (none t));
      };
    }

-- no thread waits before it has started
pub none_waits : (ds : List ThreadDecl) → NoneWaits (map (thread_opened {P = Cursor}) ds)
none_waits [] t = refl
none_waits (d ∷ ds) zero = refl
none_waits (d ∷ ds) (suc t) = none_waits ds t

filter_cons : (o : Option Mutex) (x : Decl) (xs : List Decl) → named mutex_kind x ≡ o → filter_map (named mutex_kind) (x ∷ xs) ≡ option_to_list o ++ filter_map (named mutex_kind) xs
filter_cons None x xs is = rw is refl
filter_cons (Some d) x xs is = rw is refl

-- one declaration more
pub mutexes_more : (decls : List Decl) (i : ℕ) (d : Decl) → i < length decls →
    filter_map (named mutex_kind) (take (i + 1) decls) ≡ filter_map (named mutex_kind) (take i decls) ++ option_to_list (named mutex_kind (get_or decls i d))
mutexes_more [] i d lt = absurd (omega arith)
mutexes_more (x ∷ xs) zero d lt = filter_cons (named mutex_kind x) x [] refl ∙ append-nil (option_to_list (named mutex_kind x))
mutexes_more (x ∷ xs) (suc i) d lt =
    let one : suc i + 1 ≡ suc (i + 1) = omega arith in
    let ih = mutexes_more xs i d (omega arith) in
    rw one (filter_cons (named mutex_kind x) x (take (i + 1) xs) refl ∙ (ap (λ ys. option_to_list (named mutex_kind x) ++ ys) ih ∙
    (sym (append_assoc (option_to_list (named mutex_kind x)) (filter_map (named mutex_kind) (take i xs)) (option_to_list (named mutex_kind (get_or xs i d)))) ∙
    ap (λ ys. ys ++ option_to_list (named mutex_kind (get_or xs i d))) (sym (filter_cons (named mutex_kind x) x (take i xs) refl)))))
