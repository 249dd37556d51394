-- Where threads wait, and the order in which those that wait for one object are served.
use Rattle.std.specs.Prelude.{Bool, List, None, Option, Some, [], false, nat_lt, option_map, slice_index_or, slice_set, true, ℕ, ◌+◌, ◌==◌, ◌&&◌, ◌||◌, ◌∷◌, if◌then◌else◌}
use Rattle.rules_machine.specs.Lists.{first_by}
use Rattle.words_numbers.specs.Signals.{has_signal}
use Rattle.parts_waiters.specs.declared.order.Candidate.{Candidate}
use Rattle.parts_waiters.specs.declared.Place.{Place}
use Rattle.parts_waiters.specs.declared.WaitObj.{WaitObj}
use Rattle.parts_waiters.specs.declared.WaitObj.TheVariants.{Cond, Mutex, Receiver, Sem, Sender, SigWait}

-- the place of a thread; None where it waits nowhere
abbrev pub place_in : List (Option Place) → ℕ → Option Place
place_in places t = slice_index_or places t None

-- the thread waits at another priority, since the same serial
abbrev pub repriced : ℕ → ℕ → List (Option Place) → List (Option Place)
repriced t p places = slice_set places t (option_map (λ (x : Place). record x { priority = p }) (place_in places t))

abbrev pub same_object : WaitObj → WaitObj → Bool
same_object (Mutex a) (Mutex b) = a == b
same_object (Cond a) (Cond b) = a == b
same_object (Sem a) (Sem b) = a == b
same_object (Sender a) (Sender b) = a == b
same_object (Receiver a) (Receiver b) = a == b
same_object SigWait SigWait = true
same_object a b = false

-- a thread as one that waits at a place
abbrev pub candidate_of : ℕ → Place → Candidate
candidate_of t p = record { thread = t; priority = p.priority; serial = p.serial }

-- the thread as one that waits for the object, if it does
abbrev pub standing_at : ℕ → WaitObj → Option Place → Option Candidate
standing_at t obj None = None
standing_at t obj (Some p) = if same_object p.object obj then Some (candidate_of t p) else None

abbrev pub with_first : Option Candidate → List Candidate → List Candidate
with_first None cs = cs
with_first (Some c) cs = c ∷ cs

-- those that wait for an object, by their numbers, where the first place is that of thread n
abbrev pub standing_from : ℕ → WaitObj → List (Option Place) → List Candidate
standing_from n obj [] = []
standing_from n obj (p ∷ places) = with_first (standing_at n obj p) (standing_from (n + 1) obj places)

-- the order of service: by priority, and among equals by serial
abbrev pub comes_before : Candidate → Candidate → Bool
comes_before a b = nat_lt b.priority a.priority || (a.priority == b.priority && nat_lt a.serial b.serial)

-- the thread that is served first
abbrev pub best_of : WaitObj → List (Option Place) → Option ℕ
best_of obj places = option_map (λ (c : Candidate). c.thread) (first_by comes_before (standing_from 0 obj places))

-- whether a thread at the place waits for the object
abbrev pub waits_at : WaitObj → Option Place → Bool
waits_at obj None = false
waits_at obj (Some p) = same_object p.object obj

-- the order in which waiters stand: that of service, and of equals the lower number first, as `first_by` takes them
abbrev pub stands_before : Candidate → Candidate → Bool
stands_before a b = nat_lt b.priority a.priority || (a.priority == b.priority && (nat_lt a.serial b.serial || (a.serial == b.serial && nat_lt a.thread b.thread)))

abbrev pub kept_after : Candidate → Option Candidate → Option Candidate
kept_after from None = None
kept_after from (Some c) = if stands_before from c then Some c else None

-- those that wait for an object and are served after another
abbrev pub after_from : Candidate → ℕ → WaitObj → List (Option Place) → List Candidate
after_from from n obj [] = []
after_from from n obj (p ∷ places) = with_first (kept_after from (standing_at n obj p)) (after_from from (n + 1) obj places)

abbrev pub first_after : WaitObj → Candidate → List (Option Place) → Option ℕ
first_after obj from places = option_map (λ (c : Candidate). c.thread) (first_by comes_before (after_from from 0 obj places))

abbrev pub next_at : ℕ → List (Option Place) → Option Place → Option ℕ
next_at t places None = None
next_at t places (Some p) = first_after p.object (candidate_of t p) places

-- the thread that is served next after this one, of those that wait for the same object
abbrev pub next_of : ℕ → List (Option Place) → Option ℕ
next_of t places = next_at t places (place_in places t)

-- the thread as one that waits for the signal, if it waits for signals and that is one of its set
abbrev pub awaiting_at : ℕ → List ℕ → ℕ → Option Place → Option Candidate
awaiting_at sig sets t place = if has_signal (slice_index_or sets t 0) sig then standing_at t SigWait place else None

abbrev pub awaiting_from : ℕ → List ℕ → ℕ → List (Option Place) → List Candidate
awaiting_from sig sets n [] = []
awaiting_from sig sets n (p ∷ places) = with_first (awaiting_at sig sets n p) (awaiting_from sig sets (n + 1) places)

-- the thread that is served first of those that wait for the signal
abbrev pub best_for : ℕ → List ℕ → List (Option Place) → Option ℕ
best_for sig sets places = option_map (λ (c : Candidate). c.thread) (first_by comes_before (awaiting_from sig sets 0 places))
