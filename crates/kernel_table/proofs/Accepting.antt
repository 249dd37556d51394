-- Who accepts a signal, by the waiters' own law.
use Rattle.std.proofs.Common.{◌≡◌, ◌≤◌, ◌<◌, ◌∙◌, ◌+◌, ◌∷◌, [], ℕ, zero, suc, Bool, List, None, Option, Some, ap, arith, false, length, refl, sym, true}
use Rattle.std.specs.Prelude.{is_some, map, option_map, slice_index_or}
use Rattle.words_numbers.specs.Signals.{has_signal}
use Rattle.rules_machine.specs.Lists.{first_by}
use Rattle.rules_bodies.specs.declared.cursor.Cursor.{Cursor}
use Rattle.rules_machine.specs.State.{SignalRecord, Thread, Timer, Waiting, for_signal}
use Rattle.rules_machine.specs.Threads.{thread_in, waiting_in}
use Rattle.parts_waiters.specs.declared.Place.{Place}
use Rattle.parts_waiters.specs.declared.order.Candidate.{Candidate}
use Rattle.parts_waiters.specs.declared.WaitObj.TheVariants.{SigWait}
use Rattle.parts_waiters.specs.Places.{awaiting_at, awaiting_from, best_for, best_of, comes_before, standing_at, standing_from}
use Rattle.parts_waiters.specs.Ties.{BestsAreAcceptors}
use Rattle.parts_owners.specs.Chains.{Links}
use Rattle.kernel_threads.specs.Signals.{signals_awaited, signals_in}
use Rattle.kernel_table.specs.Acceptors.{acceptor_in, set_awaited}
use Rattle.kernel_table.specs.Table.{machine_with}
use Rattle.kernel_table.specs.Tied.{IsTied}

-- ---- the sets

pub set_read : (threads : List (Thread Cursor)) (t : ℕ) → t < length threads → set_awaited (thread_in threads t) ≡ slice_index_or (map set_awaited threads) t 0
set_read [] t known = absurd (omega (arith, known))
set_read (th ∷ threads) zero known = refl
set_read (th ∷ threads) (suc t) known = set_read threads t (omega (arith, known))

length_sets : (threads : List (Thread Cursor)) → length (map set_awaited threads) ≡ length threads
length_sets [] = refl
length_sets (th ∷ threads) = ap suc (length_sets threads)

pub has_set : (threads : List (Thread Cursor)) (t : ℕ) → t < length (map set_awaited threads) → t < length threads
has_set threads t known = let many = length_sets threads in omega (arith, known, many)

-- each thread that waits has a set
pub sets_many : (threads : List (Thread Cursor)) (chain : Links) (places : List (Option Place)) → IsTied threads chain places → length places ≤ length (map set_awaited threads)
sets_many threads chain places tied = let many = length_sets threads in let lengths = tied.waiting.lengths in omega (arith, many, lengths)

-- ---- the law

awaits : (o : Option Waiting) (w : Waiting) (awaited : ℕ) → o ≡ Some w → w.wait ≡ for_signal awaited → signals_awaited o ≡ awaited
awaits o w awaited is waits = ap signals_awaited is ∙ ap signals_in waits

are_all : (ths : List (Thread Cursor)) (t : ℕ) (w : Waiting) (awaited : ℕ) → waiting_in (thread_in ths t).status ≡ Some w → w.wait ≡ for_signal awaited → slice_index_or (map set_awaited ths) t 0 ≡ awaited
are_all [] t w awaited found waits = absurd cc
are_all (th ∷ ths) zero w awaited found waits = awaits (waiting_in th.status) w awaited found waits
are_all (th ∷ ths) (suc t) w awaited found waits = are_all ths t w awaited found waits

pub accepted_by : (timers : List Timer) (threads : List (Thread Cursor)) (chain : Links) (places : List (Option Place)) (signal : ℕ) (o : Option ℕ) → o ≡ best_for signal (map set_awaited threads) places →
    BestsAreAcceptors places → IsTied threads chain places → (r : SignalRecord) → r.signal ≡ signal → r.target ≡ None →
    o ≡ acceptor_in (record { threads = threads; mutexes = chain.mutexes; timers = timers }) r
accepted_by timers threads chain places signal o is law tied r same free =
    let sets = map set_awaited threads in
    is ∙ ap (λ (n : ℕ). best_for n sets places) (sym same)
    ∙ law (machine_with threads chain.mutexes timers) r sets free (record { lengths = tied.waiting.lengths; each = tied.waiting.each }) (are_all threads)

-- ---- where no thread waits for a signal

none_first : (cs : List Candidate) → option_map (λ (c : Candidate). c.thread) (first_by comes_before cs) ≡ None → cs ≡ []
none_first [] none = refl
none_first (c ∷ cs) none = absurd cc

none_stands : (sig n : ℕ) (sets : List ℕ) (places : List (Option Place)) → standing_from n SigWait places ≡ [] → awaiting_from sig sets n places ≡ []
none_stands sig n sets [] none = refl
none_stands sig n sets (p ∷ places) none = by_first (standing_at n SigWait p) refl (λ rest. none_stands sig (n + 1) sets places rest)
  where
    by_test : (b : Bool) → has_signal (slice_index_or sets n 0) sig ≡ b → standing_at n SigWait p ≡ None → awaiting_at sig sets n p ≡ None
    by_test true on e = rw on e
    by_test false off e = rw off refl

    by_first : (c : Option Candidate) → standing_at n SigWait p ≡ c → (standing_from (n + 1) SigWait places ≡ [] → awaiting_from sig sets (n + 1) places ≡ []) →
        awaiting_from sig sets n (p ∷ places) ≡ []
    by_first None e others =
        let rest : standing_from (n + 1) SigWait places ≡ [] = rw e at none in
        let here : awaiting_at sig sets n p ≡ None = by_test (has_signal (slice_index_or sets n 0) sig) refl e in
        rw here (others rest)
    by_first (Some c) e others = absurd (let some : c ∷ standing_from (n + 1) SigWait places ≡ [] = rw e at none in cc)

none_for : (sig : ℕ) (sets : List ℕ) (places : List (Option Place)) → best_of SigWait places ≡ None → best_for sig sets places ≡ None
none_for sig sets places none = rw (none_stands sig 0 sets places (none_first (standing_from 0 SigWait places) none)) refl

-- nobody accepts a signal
pub none_accepts : (timers : List Timer) (threads : List (Thread Cursor)) (chain : Links) (places : List (Option Place)) (o : Option ℕ) → is_some o ≡ false → o ≡ best_of SigWait places →
    BestsAreAcceptors places → IsTied threads chain places → (r : SignalRecord) → r.target ≡ None → None ≡ acceptor_in (record { threads = threads; mutexes = chain.mutexes; timers = timers }) r
none_accepts timers threads chain places o none is law tied r free =
    let sets = map set_awaited threads in
    sym (none_for r.signal sets places (sym is ∙ is_none o none))
    ∙ law (machine_with threads chain.mutexes timers) r sets free (record { lengths = tied.waiting.lengths; each = tied.waiting.each }) (are_all threads)
  where
    is_none : (o : Option ℕ) → is_some o ≡ false → o ≡ None
    is_none None h = refl
    is_none (Some t) h = absurd cc
