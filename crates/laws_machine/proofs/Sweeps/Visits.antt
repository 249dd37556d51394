-- After a sweep no signal can be delivered.
use Rattle.std.proofs.Common.{Bool, List, None, Option, Some, [], ap, arith, false, inl, inr, length, refl, suc, true, zero, ℕ, ◌+◌, ◌<◌, ◌≤◌, ◌∷◌, ◌≡◌, ◌⊎◌}
use Rattle.std.specs.Prelude.{filter, not, slice_index_or, ◌==◌, ◌&&◌, ◌||◌, if◌then◌else◌}
use Rattle.std.specs.List.{range_with_len}
use Rattle.std.specs.Option.{option_map_or}
use mathlib.Core.Path.{subst, ◌∙◌}
use Rattle.words_numbers.specs.Signals.{has_signal}
use Rattle.words_numbers.specs.declared.res.Res.{Res}
use Rattle.words_numbers.specs.declared.res.Res.TheVariants as res
use Rattle.rules_lists.specs.Threads.{stands_in}
use Rattle.rules_bodies.specs.Next.{capped}
use Rattle.words_trace.specs.declared.event.Event.{Event}
use Rattle.words_trace.specs.declared.event.Event.TheVariants as event
use Rattle.rules_server.specs.Server.{ServerState, activate}
use Rattle.rules_machine.specs.declared.frame.BodyOf.TheVariants as body_of
use Rattle.rules_machine.specs.declared.frame.FrameKind.TheVariants as frame
use Rattle.rules_machine.specs.declared.signal.SigAction.{SigAction}
use Rattle.rules_machine.specs.declared.signal.SigAction.TheVariants as action
use Rattle.rules_machine.specs.Lists.{changed_at, first_by}
use Rattle.rules_machine.specs.Bodies.{Bodies}
use Rattle.rules_machine.specs.State.{Frame, Machine, SignalRecord, Thread, Waiting}
use Rattle.rules_machine.specs.Threads.{action_of, no_thread, thread_at, thread_in, thread_numbers, waiting_in, waiting_of}
use Rattle.rules_machine.specs.Turns.{Turn, changes, changes_pending, moves, tells, turn_of}
use Rattle.rules_machine.specs.Servers.{activates_server, at_once, high_server, with_server}
use Rattle.rules_machine.specs.Waking.{new_frame, on_top, wakes_telling, woken}
use Rattle.rules_machine.specs.Signals.{delivers, may_go_to, is_ignore, is_kill, is_selected_before, selected, tells_overrun, without_record}
use Rattle.rules_machine.specs.Delivery.{acts, can_take, catches, defers_handlers, interrupts, may_be_interrupted, sweeps, sweeps_all, sweeps_thread, taken_by_sweep, takes_record, ticks_left}
use Rattle.rules_machine.specs.Settling.{settled}
use Rattle.rules_machine.specs.GoodState.{IsSwept}
use Rattle.rules_machine.proofs.Reading.{thread-other}
use Rattle.rules_moves.proofs.Waiters.Best.{first_none, first_one}
use Rattle.rules_moves.proofs.Calls.Commuting.{wakes_telling_part}
use Rattle.laws_machine.proofs.Signals.Ignored.{Heard, Sent, same_heard, sent}
use Rattle.rules_moves.proofs.Runs.Listed.{each_kept}
use Rattle.laws_machine.proofs.Lists.Places.{Stand, settled_stays}

-- ---- a thread that another's waking does not touch

module _ {P : Type 0} (t u : ℕ) (h : (t == u) ≡ false) where
  activates_other : (o : Option ServerState) (s : Turn P) → thread_at (activates_server t o s).machine u ≡ thread_at s.machine u
  activates_other None s = refl
  activates_other (Some server) s = thread-other s.machine t u (with_server (activate s.machine.now)) h

  wakes_other : (e : Event) (r : Res) (v : ℕ) (s : Turn P) → thread_at (wakes_telling e t r v s).machine u ≡ thread_at s.machine u
  wakes_other e r v s =
      let up = tells e (moves t (changes t (woken r v) s)) in
      activates_other (at_once (high_server (thread_at up.machine t).server)) up ∙ thread-other s.machine t u (woken r v) h

  interrupts_other : (o : Option Waiting) (s : Turn P) → thread_at (interrupts o t s).machine u ≡ thread_at s.machine u
  interrupts_other None s = refl
  interrupts_other (Some w) s = wakes_other _ res.Intr (ticks_left w.call w.due s.machine.now) s

overrun_threads : {P : Type 0} (o : Option ℕ) (s : Turn P) → (tells_overrun o s).machine.threads ≡ s.machine.threads
overrun_threads None s = refl
overrun_threads (Some k) s = refl

overrun_sent : {P : Type 0} (o : Option ℕ) (s : Turn P) → sent (tells_overrun o s).machine ≡ sent s.machine
overrun_sent None s = refl
overrun_sent (Some k) s = refl

interrupts_sent : {P : Type 0} (t : ℕ) (o : Option Waiting) (s : Turn P) → sent (interrupts o t s).machine ≡ sent s.machine
interrupts_sent t None s = refl
interrupts_sent {P} t (Some w) s = wakes_telling_part (λ (m : Machine P). sent m) (λ m threads. refl) _ t res.Intr (ticks_left w.call w.due s.machine.now) s

module _ {P : Type 0} (bodies : Bodies P) where
  -- ---- what a handler's beginning leaves

  abbrev handler_frame : ℕ → SignalRecord → Frame P
  handler_frame h r = new_frame bodies frame.Signal (body_of.Handler h) (capped r.value)

  catches_sent : (h t : ℕ) (r : SignalRecord) (s : Turn P) → sent (catches bodies h t r s).machine ≡ record { pending = without_record r s.machine.pending; actions = s.machine.actions }
  catches_sent h t r s =
      let out = changes_pending (without_record r) s in
      overrun_sent r.timer (tells (event.Deliver t r.signal r.code r.value) (interrupts (waiting_of s.machine t) t out)) ∙ interrupts_sent t (waiting_of s.machine t) out

  catches_other : (h t u : ℕ) (r : SignalRecord) (s : Turn P) → (t == u) ≡ false → thread_at (catches bodies h t r s).machine u ≡ thread_at s.machine u
  catches_other h t u r s k =
      let out = changes_pending (without_record r) s in
      let up = interrupts (waiting_of s.machine t) t out in
      thread-other (delivers t r up).machine t u (on_top (handler_frame h r)) k
      ∙ ap (λ (ths : List (Thread P)). thread_in ths u) (overrun_threads r.timer (tells (event.Deliver t r.signal r.code r.value) up))
      ∙ interrupts_other t u k (waiting_of s.machine t) out

  -- ---- a thread that takes nothing goes on to take nothing

  abbrev pub Quiet : Machine P → ℕ → Type 0
  Quiet m t = taken_by_sweep m t ≡ None

  none_of_fewer : {X : Type 0} (passes keep : X → Bool) (xs : List X) → filter passes xs ≡ [] → filter passes (filter keep xs) ≡ []
  none_of_fewer passes keep [] e = refl
  none_of_fewer {X} passes keep (x ∷ xs) e = split (passes x) refl (keep x) refl (none_of_fewer passes keep xs)
    where
      split : (b : Bool) → passes x ≡ b → (c : Bool) → keep x ≡ c → (filter passes xs ≡ [] → filter passes (filter keep xs) ≡ []) → filter passes (filter keep (x ∷ xs)) ≡ []
      split true p c k rest = absurd (grind arith)
      split false p true k rest = let none : filter passes xs ≡ [] = grind arith in let less = rest none in rw k (rw p less)
      split false p false k rest = let none : filter passes xs ≡ [] = grind arith in rw k (rest none)

  -- what a thread would take, by its own state, the actions and the pending records
  abbrev pub takes_of : Thread P → ℕ → Sent → SignalRecord → Bool
  takes_of th t p r = may_go_to t r.target && not (has_signal th.mask r.signal) && (is_kill (slice_index_or p.actions r.signal action.Kill) || not (option_map_or (λ (w : Waiting). defers_handlers w.wait) (waiting_in th.status) false))

  abbrev pub taken_of : Thread P → ℕ → Sent → Option SignalRecord
  taken_of th t p = if may_be_interrupted th then first_by is_selected_before (filter (takes_of th t p) p.pending) else None

  fewer_quiet : (th : Thread P) (t : ℕ) (p : Sent) (keep : SignalRecord → Bool) → taken_of th t p ≡ None → taken_of th t (record p { pending = filter keep p.pending }) ≡ None
  fewer_quiet th t p keep e = by_case (may_be_interrupted th) refl
    where
      by_case : (b : Bool) → may_be_interrupted th ≡ b → taken_of th t (record p { pending = filter keep p.pending }) ≡ None
      by_case false k = rw k refl
      by_case true k =
          let none : filter (takes_of th t p) p.pending ≡ [] = first_none is_selected_before (filter (takes_of th t p) p.pending) (rw k at e) in
          rw (k, none_of_fewer (takes_of th t p) keep p.pending none) refl

  catches_quiet : (h u t : ℕ) (r : SignalRecord) (s : Turn P) → (u == t) ≡ false → Quiet s.machine t → Quiet (catches bodies h u r s).machine t
  catches_quiet h u t r s k e =
      ap (λ (th : Thread P). taken_of th t (sent (catches bodies h u r s).machine)) (catches_other h u t r s k)
      ∙ ap (taken_of (thread_at s.machine t) t) (catches_sent h u r s)
      ∙ fewer_quiet (thread_at s.machine t) t (sent s.machine) (λ (other : SignalRecord). not (other.serial == r.serial)) e

  -- ---- a visit

  not_interrupted : (f : Frame P) → f.kind ≡ frame.Signal → (ths : List (Thread P)) (t : ℕ) → may_be_interrupted (thread_in (changed_at no_thread t (on_top f) ths) t) ≡ false
  not_interrupted f k [] t = refl
  not_interrupted f k (th ∷ ths) zero = rw k (grind arith)
  not_interrupted f k (th ∷ ths) (suc t) = not_interrupted f k ths t

  taken_heard : (m : Machine P) (t : ℕ) (r : SignalRecord) → Heard m → taken_by_sweep m t ≡ Some r → is_ignore (action_of m r.signal) ≡ false
  taken_heard m t r heard e = by_test (may_be_interrupted (thread_at m t)) e
    where
      by_test : (b : Bool) → (if b then selected m (can_take m t) else None) ≡ Some r → is_ignore (action_of m r.signal) ≡ false
      by_test true h = first_one (λ (x : SignalRecord). is_ignore (action_of m x.signal) ≡ false) is_selected_before (filter (can_take m t) m.pending) r
          (each_kept (λ (x : SignalRecord). is_ignore (action_of m x.signal) ≡ false) (can_take m t) m.pending heard) h
      by_test false h = absurd (grind arith)

  visited_acts : (a : SigAction) (t : ℕ) (r : SignalRecord) (s : Turn P) → is_ignore a ≡ false → (acts bodies a t r s).machine.killed ≡ None → Quiet (acts bodies a t r s).machine t
  visited_acts action.Kill t r s heard alive = absurd (grind arith)
  visited_acts action.Ignore t r s heard alive = absurd (grind arith)
  visited_acts (action.Handler h) t r s heard alive =
      let up = delivers t r (interrupts (waiting_of s.machine t) t (changes_pending (without_record r) s)) in
      let off : may_be_interrupted (thread_at (catches bodies h t r s).machine t) ≡ false = not_interrupted (handler_frame h r) refl up.machine.threads t in
      ap (λ (b : Bool). if b then selected (catches bodies h t r s).machine (can_take (catches bodies h t r s).machine t) else None) off

  -- a thread that was visited takes nothing any more, unless the process has ended
  visited : (killed : Option ℕ) (t : ℕ) (s : Turn P) → s.machine.killed ≡ killed → Heard s.machine → (sweeps_thread bodies killed t s).machine.killed ≡ None → Quiet (sweeps_thread bodies killed t s).machine t
  visited (Some signal) t s e heard alive = absurd (grind arith)
  visited None t s e heard alive = by_taken (taken_by_sweep s.machine t) refl alive
    where
      by_taken : (o : Option SignalRecord) → taken_by_sweep s.machine t ≡ o → (takes_record bodies o t s).machine.killed ≡ None → Quiet (takes_record bodies o t s).machine t
      by_taken None h alive = h
      by_taken (Some r) h alive = visited_acts (action_of s.machine r.signal) t r s (taken_heard s.machine t r heard h) alive

  passed_acts : (a : SigAction) (u t : ℕ) (r : SignalRecord) (s : Turn P) → (u == t) ≡ false → Quiet s.machine t → Quiet (acts bodies a u r s).machine t
  passed_acts action.Kill u t r s k e = e
  passed_acts action.Ignore u t r s k e = e
  passed_acts (action.Handler h) u t r s k e = catches_quiet h u t r s k e

  -- and the visit of another leaves it so
  passed : (killed : Option ℕ) (u t : ℕ) (s : Turn P) → (u == t) ≡ false → Quiet s.machine t → Quiet (sweeps_thread bodies killed u s).machine t
  passed (Some signal) u t s k e = e
  passed None u t s k e = by_taken (taken_by_sweep s.machine u)
    where
      by_taken : (o : Option SignalRecord) → Quiet (takes_record bodies o u s).machine t
      by_taken None = e
      by_taken (Some r) = passed_acts (action_of s.machine r.signal) u t r s k e

  heard_acts : (a : SigAction) (t : ℕ) (r : SignalRecord) (s : Turn P) → Heard s.machine → Heard (acts bodies a t r s).machine
  heard_acts action.Kill t r s h = h
  heard_acts action.Ignore t r s h = h
  heard_acts (action.Handler n) t r s h =
      same_heard (changes_pending (without_record r) s).machine (catches bodies n t r s).machine (catches_sent n t r s)
      (each_kept (λ (x : SignalRecord). is_ignore (action_of s.machine x.signal) ≡ false) (λ (other : SignalRecord). not (other.serial == r.serial)) s.machine.pending h)

  heard_visit : (killed : Option ℕ) (t : ℕ) (s : Turn P) → Heard s.machine → Heard (sweeps_thread bodies killed t s).machine
  heard_visit (Some signal) t s h = h
  heard_visit None t s h = by_taken (taken_by_sweep s.machine t)
    where
      by_taken : (o : Option SignalRecord) → Heard (takes_record bodies o t s).machine
      by_taken None = h
      by_taken (Some r) = heard_acts (action_of s.machine r.signal) t r s h

  stays_killed : (ts : List ℕ) (s : Turn P) (signal : ℕ) → s.machine.killed ≡ Some signal → (sweeps_all bodies ts s).machine.killed ≡ Some signal
  stays_killed [] s signal e = e
  stays_killed (t ∷ ts) s signal e = ap (λ (k : Option ℕ). (sweeps_all bodies ts (sweeps_thread bodies k t s)).machine.killed) e ∙ stays_killed ts s signal e

  alive_before : (ts : List ℕ) (s : Turn P) → (sweeps_all bodies ts s).machine.killed ≡ None → s.machine.killed ≡ None
  alive_before ts s alive = by_killed s.machine.killed refl
    where
      by_killed : (k : Option ℕ) → s.machine.killed ≡ k → k ≡ None
      by_killed None e = refl
      by_killed (Some signal) e = let still = stays_killed ts s signal e in absurd (grind arith)

  -- ---- all visits

  all_quiet : (ts : List ℕ) (s : Turn P) → Heard s.machine → (t : ℕ) → (stands_in t ts ≡ true) ⊎ Quiet s.machine t → (sweeps_all bodies ts s).machine.killed ≡ None → Quiet (sweeps_all bodies ts s).machine t
  all_quiet [] s heard t (inl e) alive = absurd (grind arith)
  all_quiet [] s heard t (inr q) alive = q
  all_quiet (u ∷ us) s heard t c alive =
      all_quiet us (sweeps_thread bodies s.machine.killed u s) (heard_visit s.machine.killed u s heard) t (by_eq (u == t) refl c) alive
    where
      first : (sweeps_thread bodies s.machine.killed u s).machine.killed ≡ None
      first = alive_before us (sweeps_thread bodies s.machine.killed u s) alive

      by_eq : (b : Bool) → (u == t) ≡ b → (stands_in t (u ∷ us) ≡ true) ⊎ Quiet s.machine t → (stands_in t us ≡ true) ⊎ Quiet (sweeps_thread bodies s.machine.killed u s).machine t
      by_eq true e c =
          let it : u ≡ t = grind arith in
          inr (subst (λ (v : ℕ). Quiet (sweeps_thread bodies s.machine.killed u s).machine v) it (visited s.machine.killed u s refl heard first))
      by_eq false e (inl among) = inl (grind arith)
      by_eq false e (inr q) = inr (passed s.machine.killed u t s e q)

  among_numbers : (t a n : ℕ) → a ≤ t → t < a + n → stands_in t (range_with_len a n) ≡ true
  among_numbers t a zero low high = absurd (omega arith)
  among_numbers t a (suc n) low high = by_eq (a == t) refl (λ next. among_numbers t (a + 1) n next (omega arith))
    where
      by_eq : (b : Bool) → (a == t) ≡ b → (a + 1 ≤ t → stands_in t (range_with_len (a + 1) n) ≡ true) → stands_in t (range_with_len a (suc n)) ≡ true
      by_eq true same rest = grind arith
      by_eq false other rest = let next : a + 1 ≤ t = grind arith in let found = rest next in grind arith

  unknown : (ths : List (Thread P)) (t : ℕ) → length ths ≤ t → thread_in ths t ≡ no_thread
  unknown [] t h = refl
  unknown (th ∷ ths) zero h = absurd (omega arith)
  unknown (th ∷ ths) (suc t) h = unknown ths t (omega arith)

  -- nobody takes anything after a sweep
  pub sweeps_quiet : (s : Turn P) → Heard s.machine → (sweeps bodies s).machine.killed ≡ None → (t : ℕ) → Quiet (sweeps bodies s).machine t
  sweeps_quiet s heard alive t = all_quiet (thread_numbers s.machine) s heard t (known (either_way t (length s.machine.threads))) alive
    where
      either_way : (t n : ℕ) → (t < n) ⊎ (n ≤ t)
      either_way t n = grind arith

      known : (t < length s.machine.threads) ⊎ (length s.machine.threads ≤ t) → (stands_in t (thread_numbers s.machine) ≡ true) ⊎ Quiet s.machine t
      known (inl h) = inl (among_numbers t 0 (length s.machine.threads) (omega arith) (omega arith))
      known (inr h) = inr (ap (λ (th : Thread P). taken_of th t (sent s.machine)) (unknown s.machine.threads t h))

  -- ---- where nobody takes anything, a sweep is nothing

  visits_nothing : (killed : Option ℕ) (t : ℕ) (s : Turn P) → Quiet s.machine t → sweeps_thread bodies killed t s ≡ s
  visits_nothing None t s q = ap (λ (o : Option SignalRecord). takes_record bodies o t s) q
  visits_nothing (Some signal) t s q = refl

  pub sweeps_nothing : (ts : List ℕ) (s : Turn P) → ((t : ℕ) → Quiet s.machine t) → sweeps_all bodies ts s ≡ s
  sweeps_nothing [] s q = refl
  sweeps_nothing (t ∷ ts) s q = ap (sweeps_all bodies ts) (visits_nothing s.machine.killed t s (q t)) ∙ sweeps_nothing ts s q

  pub is_swept : (m : Machine P) → ((t : ℕ) → Quiet m t) → Stand m → IsSwept bodies m
  is_swept m q stand = record {
    machine = ap (λ (s : Turn P). settled m s.direct s.machine) (sweeps_nothing (thread_numbers m) (turn_of m) q) ∙ settled_stays m m (λ t. refl) (λ t i off. stand.others t i off);
    events = ap (λ (s : Turn P). s.events) (sweeps_nothing (thread_numbers m) (turn_of m) q);
  }
