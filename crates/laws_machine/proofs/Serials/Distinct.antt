-- Serials that stand for an order are distinct, and below the next one: every move keeps it.
use Rattle.std.proofs.Common.{Bool, List, None, Option, Some, [], ap, arith, false, refl, suc, true, zero, ℕ, ◌+◌, ◌<◌, ◌≤◌, ◌∷◌, ◌++◌, ◌≡◌}
use Rattle.std.proofs.lemmas.List.Elements.{All-cons, All-nil}
use Rattle.std.specs.Prelude.{All, filter, filter_map, map, nat_lt, not, ◌==◌, ◌&&◌, if◌then◌else◌}
use Rattle.std.specs.List.{AllByRecursion, IsDistinct}
use mathlib.Core.Path.{subst}
use Rattle.words_trace.specs.declared.event.Event.TheVariants as event
use Rattle.rules_server.specs.Server.{ServerState, activate, oldest_pending, plan, refill}
use Rattle.rules_machine.specs.Lists.{changed_at, is}
use Rattle.rules_machine.specs.Bodies.{Bodies}
use Rattle.rules_machine.specs.State.{Machine, SignalRecord, Status, Thread, Wait, Waiting, for_end, for_time, waits_to_join}
use Rattle.rules_machine.specs.Threads.{can_run, no_thread, thread_at, thread_in, waiting_in}
use Rattle.rules_machine.specs.Turns.{Caller, Turn, changes, changes_pending, moves, moves_if, tells}
use Rattle.rules_machine.specs.Servers.{activates_if, activates_server, amount_of, at_once, high_server, plans_server, refills_server, regains_high, with_server}
use Rattle.rules_machine.specs.Waking.{ending_with, on_top, put_to_wait, started, woken}
use Rattle.rules_machine.specs.Queues.{record_of_notification}
use Rattle.rules_machine.specs.Lives.{with_joiner, without_life, without_top}
use Rattle.rules_machine.specs.Cancellation.{without_cleanup}
use Rattle.rules_machine.specs.Scheduling.{with_policy, with_priority}
use Rattle.rules_machine.specs.GoodState.{is_ordered, serial_of, serials}
use Rattle.rules_machine.specs.Units.{in_unit}
use Rattle.rules_machine.specs.Ticks.{TickEnd, ends_tick, exhausting, nothing, planning, slicing, tick_charged, without_slice}
use Rattle.rules_lists.specs.Threads.{times}
use Rattle.rules_moves.specs.Moves.{MayRenewing, MayWaitPlainly, Move, alters, begins, blocks_for, blocks_plainly, does, drops, ends_with, enters_frame, fires, leaves_frame, lives_no_more, prices, pushed, pushes, recasts, record_in, record_out, records_of_ended, refills_one, rejoins, renews_with, wakes_with}
use Rattle.rules_moves.proofs.Cores.{same_of_wait}
use Rattle.rules_moves.proofs.Runs.Ticks.{in_unit_status}
use Rattle.rules_moves.proofs.Runs.MachineLaws.{MachineLaw}

abbrev pub one_if : Bool → ℕ
one_if true = 1
one_if false = 0

-- whether a status has the serial
abbrev pub held : ℕ → Status → ℕ
held n status = one_if (is (serial_of (waiting_in status)) n)

abbrev pub waits : {P : Type 0} → ℕ → List (Thread P) → ℕ
waits n [] = 0
waits n (th ∷ ths) = held n th.status + waits n ths

abbrev pub pends : ℕ → List SignalRecord → ℕ
pends n [] = 0
pends n (r ∷ rs) = one_if (r.serial == n) + pends n rs

abbrev pub Serials : {P : Type 0} → Machine P → Type 0
Serials m = (n : ℕ) → waits n m.threads + pends n m.pending ≤ one_if (nat_lt n m.next_serial)

-- ---- counts

pub waits_changed : {P : Type 0} (n t c : ℕ) (f : Thread P → Thread P) (ths : List (Thread P)) → held n (f (thread_in ths t)).status ≤ held n (thread_in ths t).status + c → waits n (changed_at no_thread t f ths) ≤ waits n ths + c
waits_changed n t c f [] h = omega arith
waits_changed n zero c f (th ∷ ths) h = omega arith
waits_changed n (suc t) c f (th ∷ ths) h = let rest = waits_changed n t c f ths h in omega arith

pub pends_last : (n : ℕ) (rs : List SignalRecord) (r : SignalRecord) → pends n (rs ++ r ∷ []) ≡ pends n rs + one_if (r.serial == n)
pends_last n [] r = omega arith
pends_last n (x ∷ rs) r = omega (arith, pends_last n rs r)

pub pends_fewer : (n : ℕ) (keep : SignalRecord → Bool) (rs : List SignalRecord) → pends n (filter keep rs) ≤ pends n rs
pends_fewer n keep [] = omega arith
pends_fewer n keep (r ∷ rs) = split (keep r) refl (pends_fewer n keep rs)
  where
    split : (b : Bool) → keep r ≡ b → pends n (filter keep rs) ≤ pends n rs → pends n (filter keep (r ∷ rs)) ≤ pends n (r ∷ rs)
    split true e rest = rw e (omega arith)
    split false e rest = rw e (omega arith)

room_more : (n next : ℕ) → one_if (nat_lt n next) + one_if (next == n) ≤ one_if (nat_lt n (next + 1))
room_more n next = by_case (nat_lt n next) refl (next == n) refl
  where
    by_case : (a : Bool) → nat_lt n next ≡ a → (b : Bool) → (next == n) ≡ b → one_if a + one_if b ≤ one_if (nat_lt n (next + 1))
    by_case true e true f = absurd (grind arith)
    by_case true e false f = let g : nat_lt n (next + 1) ≡ true = grind arith in rw g (omega arith)
    by_case false e true f = let g : nat_lt n (next + 1) ≡ true = grind arith in rw g (omega arith)
    by_case false e false f = omega arith

module _ {P : Type 0} (bodies : Bodies P) (who : Option ℕ) where
  -- a change of a thread that waits after it only as before
  one : (t : ℕ) (f : Thread P → Thread P) (s : Turn P) → ((n : ℕ) → held n (f (thread_at s.machine t)).status ≤ held n (thread_at s.machine t).status) → Serials s.machine → Serials (changes t f s).machine
  one t f s h q n = let less = waits_changed n t 0 f s.machine.threads (let k = h n in omega arith) in let before = q n in omega arith

  same : (t : ℕ) (f : Thread P → Thread P) (s : Turn P) → ((th : Thread P) → (f th).status ≡ th.status) → Serials s.machine → Serials (changes t f s).machine
  same t f s h = one t f s (λ n. (let e = ap (held n) (h (thread_at s.machine t)) in omega arith))

  -- a change into a thread that does not wait
  awake : (t : ℕ) (f : Thread P → Thread P) (s : Turn P) → ((th : Thread P) → waiting_in (f th).status ≡ None) → Serials s.machine → Serials (changes t f s).machine
  awake t f s h = one t f s (λ n. (let e = ap (λ (o : Option Waiting). one_if (is (serial_of o) n)) (h (thread_at s.machine t)) in omega arith))

  serial_small : (w : Waiting) (n : ℕ) → one_if (is (serial_of (Some w)) n) ≤ one_if (w.serial == n)
  serial_small w n = by_ordered (is_ordered w.wait)
    where
      by_ordered : (b : Bool) → one_if (is (if b then Some w.serial else None) n) ≤ one_if (w.serial == n)
      by_ordered true = omega arith
      by_ordered false = omega arith

  pub slept : (by : Caller) (wait : Wait) (due : Option ℕ) (s : Turn P) → Serials s.machine → Serials (does bodies (blocks_for by wait due) s).machine
  slept by wait due s q n =
      let w : Waiting = record { wait = wait; serial = s.machine.next_serial; due = due; call = by.call } in
      let more = waits_changed n by.thread (one_if (s.machine.next_serial == n)) (put_to_wait w) s.machine.threads (let k = serial_small w n in omega arith) in
      let before = q n in let room = room_more n s.machine.next_serial in omega arith

  pub dozed : (by : Caller) (wait : Wait) (due : Option ℕ) (s : Turn P) → is_ordered wait ≡ false → Serials s.machine → Serials (does bodies (blocks_plainly by wait due) s).machine
  dozed by wait due s h = one by.thread (put_to_wait (record { wait = wait; serial = 0; due = due; call = by.call })) s (λ n. (let e = ap (λ (b : Bool). one_if (is (if b then Some 0 else None) n)) h in omega arith))

  pended : (r : SignalRecord) (s : Turn P) → r.serial ≡ s.machine.next_serial → Serials s.machine → (n : ℕ) → waits n s.machine.threads + pends n (s.machine.pending ++ r ∷ []) ≤ one_if (nat_lt n (s.machine.next_serial + 1))
  pended r s e q n = let last = pends_last n s.machine.pending r in let it = ap (λ (k : ℕ). one_if (k == n)) e in let before = q n in let room = room_more n s.machine.next_serial in omega arith

  activated : (t : ℕ) (o : Option ServerState) (s : Turn P) → Serials s.machine → Serials (activates_server t o s).machine
  activated t None s q = q
  activated t (Some server) s q = same t (with_server (activate s.machine.now)) s (λ th. refl) q

  activated_if : (b : Bool) (t : ℕ) (s : Turn P) → Serials s.machine → Serials (activates_if b t s).machine
  activated_if true t s q = activated t (at_once (thread_at s.machine t).server) s q
  activated_if false t s q = q

  refilled : (t : ℕ) (o : Option ServerState) (s : Turn P) → Serials s.machine → Serials (refills_server t o s).machine
  refilled t None s q = q
  refilled t (Some server) s q =
      activated_if (regains_high server && can_run s.machine t) t (tells (event.Refill t (amount_of (oldest_pending server)) (refill server).capacity) (changes t (with_server refill) s)) (same t (with_server refill) s (λ th. refl) q)

  fewer : (keep : SignalRecord → Bool) (s : Turn P) → Serials s.machine → Serials (changes_pending (filter keep) s).machine
  fewer keep s q n = let less = pends_fewer n keep s.machine.pending in let before = q n in omega arith

  pub serials_keep : (move : Move P) (s : Turn P) → MayRenewing who move s → Serials s.machine → Serials (does bodies move s).machine
  serials_keep (alters t f) s may q =
      let th = thread_at s.machine t in one t f s (λ n. (let e = same_of_wait (λ (o : Option Waiting). one_if (is (serial_of o) n)) (λ w. refl) (f th) th (may th) in omega arith)) q
  serials_keep (ends_with t v) s may q = same t (ending_with v) s (λ th. refl) q
  serials_keep (enters_frame t f) s may q = same t (on_top f) s (λ th. refl) q
  serials_keep (leaves_frame t) s may q = same t without_top s (λ th. refl) q
  serials_keep (pushes t u) s may q = same t (pushed u) s (λ th. refl) q
  serials_keep (drops t) s may q = same t without_cleanup s (λ th. refl) q
  serials_keep (prices t p) s may q = same t (with_priority p) s (λ th. refl) q
  serials_keep (renews_with active t new) s may q = activated_if active t (changes t (with_policy new s.machine.now) s) (same t (with_policy new s.machine.now) s (λ th. refl) q)
  serials_keep (wakes_with t e r v) s may q =
      let up = tells e (moves t (changes t (woken r v) s)) in activated t (at_once (high_server (thread_at up.machine t).server)) up (awake t (woken r v) s (λ th. refl) q)
  serials_keep (blocks_for by wait due) s may q = slept by wait due s q
  serials_keep (blocks_plainly by wait due) s may q = absurd may
  serials_keep (begins t mask) s may q =
      let up = tells (event.Start t) (moves t (changes t (started bodies t mask s.machine.now) s)) in activated t (at_once (thread_at up.machine t).server) up (awake t (started bodies t mask s.machine.now) s (λ th. refl) q)
  serials_keep (lives_no_more t) s may q = awake t without_life s (λ th. refl) q
  serials_keep (recasts t f) s may q = absurd may
  serials_keep (rejoins t j) s may q = same t (with_joiner j) s (λ th. refl) q
  serials_keep (refills_one t) s may q = refilled t (thread_at s.machine t).server s q
  serials_keep (record_in r) s may q = pended (record r { serial = s.machine.next_serial }) s refl q
  serials_keep (fires p r) s may q = pended (record (record_of_notification p r) { serial = s.machine.next_serial }) s refl q
  serials_keep (record_out r) s may q = fewer (λ (other : SignalRecord). not (other.serial == r.serial)) s q
  serials_keep (records_of_ended t) s may q = fewer (λ (r : SignalRecord). not (is r.target t)) s q
  serials_keep move s may q = q

-- ---- what that says

times_append : (n : ℕ) (xs ys : List ℕ) → times n (xs ++ ys) ≡ times n xs + times n ys
times_append n [] ys = omega arith
times_append n (x ∷ xs) ys = omega (arith, times_append n xs ys)

times_one : (x n : ℕ) → (if x == n then 1 else 0) ≡ one_if (x == n)
times_one x n = by_case (x == n)
  where
    by_case : (b : Bool) → (if b then 1 else 0) ≡ one_if b
    by_case true = refl
    by_case false = refl

waits_times : {P : Type 0} (n : ℕ) (ths : List (Thread P)) → times n (filter_map (λ (th : Thread P). serial_of (waiting_in th.status)) ths) ≡ waits n ths
waits_times n [] = refl
waits_times {P} n (th ∷ ths) = split (serial_of (waiting_in th.status)) refl (waits_times n ths)
  where
    split : (o : Option ℕ) → serial_of (waiting_in th.status) ≡ o → times n (filter_map (λ (th : Thread P). serial_of (waiting_in th.status)) ths) ≡ waits n ths →
        times n (filter_map (λ (th : Thread P). serial_of (waiting_in th.status)) (th ∷ ths)) ≡ waits n (th ∷ ths)
    split None e rest = rw e (omega (arith, rest))
    split (Some x) e rest = rw e (let k = times_one x n in omega (arith, rest))

pends_times : (n : ℕ) (rs : List SignalRecord) → times n (map (λ (r : SignalRecord). r.serial) rs) ≡ pends n rs
pends_times n [] = refl
pends_times n (r ∷ rs) = let k = times_one r.serial n in omega (arith, pends_times n rs)

pub serials_times : {P : Type 0} (m : Machine P) → Serials m → (n : ℕ) → times n (serials m) ≤ one_if (nat_lt n m.next_serial)
serials_times {P} m q n =
    let a = times_append n (filter_map (λ (th : Thread P). serial_of (waiting_in th.status)) m.threads) (map (λ (r : SignalRecord). r.serial) m.pending) in
    let b = waits_times n m.threads in let c = pends_times n m.pending in let d = q n in omega arith

times_self : (x y : ℕ) (ys : List ℕ) → x ≡ y → 1 ≤ times x (y ∷ ys)
times_self x y ys e = let one : ℕ = 1 in let it : (if y == x then 1 else 0) ≡ one = grind arith in omega (arith, it)

times_head : (x : ℕ) (xs : List ℕ) → times x (x ∷ xs) ≡ 1 + times x xs
times_head x xs = grind arith

apart : (x : ℕ) (xs : List ℕ) → times x xs ≡ 0 → AllByRecursion (λ (y : ℕ). (x == y) ≡ false) xs
apart x [] h = tt
apart x (y ∷ ys) h = (by_eq (x == y) refl, apart x ys (omega arith))
  where
    by_eq : (b : Bool) → (x == y) ≡ b → (x == y) ≡ false
    by_eq false e = e
    by_eq true e = let same : x ≡ y = grind arith in absurd (counted (times x (y ∷ ys)) (times_self x y ys same) h)
      where
        counted : (n : ℕ) → 1 ≤ n → n ≡ 0 → ⊥
        counted n a b = omega arith

pub distinct_by_times : (xs : List ℕ) → ((n : ℕ) → times n xs ≤ 1) → IsDistinct (λ (a b : ℕ). a == b) xs
unfolding IsDistinct
distinct_by_times [] h = tt
distinct_by_times (x ∷ xs) h = (apart x xs (alone (h x)), distinct_by_times xs (λ n. (let l = h n in omega arith)))
  where
    alone : times x (x ∷ xs) ≤ 1 → times x xs ≡ 0
    alone l = let some = times_head x xs in omega (arith, some)

pub below_by_times : (next : ℕ) (xs : List ℕ) → ((n : ℕ) → times n xs ≤ one_if (nat_lt n next)) → All (λ (n : ℕ). n < next) xs
below_by_times next [] h = All-nil (λ (n : ℕ). n < next)
below_by_times next (x ∷ xs) h = All-cons (λ (n : ℕ). n < next) x xs (by_lt (nat_lt x next) refl) (below_by_times next xs (λ n. (let l = h n in omega arith)))
  where
    by_lt : (b : Bool) → nat_lt x next ≡ b → x < next
    by_lt true e = grind arith
    by_lt false e = let l : times x (x ∷ xs) ≤ 0 = subst (λ (b : Bool). times x (x ∷ xs) ≤ one_if b) e (h x) in let some = times_self x x xs refl in absurd (omega arith)

pub at_most_one : (b : Bool) → one_if b ≤ 1
at_most_one true = omega arith
at_most_one false = omega arith

-- ---- every run

module _ {P : Type 0} (bodies : Bodies P) where
  planned : (t : ℕ) (o : Option ServerState) (s : Turn P) → Serials s.machine → Serials (plans_server t o s).machine
  planned t None s q = q
  planned t (Some server) s q = same bodies None t (with_server plan) s (λ th. refl) q

  moved : (b : Bool) (t : ℕ) (s : Turn P) → Serials s.machine → Serials (moves_if b t s).machine
  moved true t s q = q
  moved false t s q = q

  ended : (e : TickEnd) (t : ℕ) (s : Turn P) → Serials s.machine → Serials (ends_tick e t s).machine
  ended planning t s q = planned t (thread_at s.machine t).server s q
  ended exhausting t s q = moved _ t _ (planned t (thread_at s.machine t).server (tells (event.Exhaust t) s) q)
  ended slicing t s q = moved (can_run s.machine t) t (changes t without_slice s) (same bodies None t without_slice s (λ th. refl) q)
  ended nothing t s q = q

  plain_waits : (who : Option ℕ) (m : Machine P) (t : ℕ) (wait : Wait) → MayWaitPlainly who m t wait → is_ordered wait ≡ false
  plain_waits who m t (for_end u) may = refl
  plain_waits who m t for_time may = refl
  plain_waits who m t wait may = absurd may

  pub serials_law : MachineLaw bodies Serials
  serials_law = record {
    moves = serials_keep bodies;
    sleeps = λ by wait due s runs q. slept bodies None by wait due s q;
    dozes = λ who by wait due s may q. dozed bodies None by wait due s (plain_waits who s.machine by.thread wait may) q;
    joins = λ by u s runs q. dozed bodies None by (for_end u) None (changes u (with_joiner (waits_to_join by.thread)) s) refl (same bodies None u (with_joiner (waits_to_join by.thread)) s (λ th. refl) q);
    elsewhere = λ m now last lists q. q;
    charged = λ t s runs q. one bodies None t (λ th. tick_charged (in_unit bodies (thread_at s.machine t)).thread) s (λ n. (let e = ap (held n) (in_unit_status bodies (thread_at s.machine t)) in omega arith)) q;
    ended = ended;
    opened = λ t x s is q. activated bodies None t (Some x) s q;
  }
