-- Closing the runs of all but the head is a plan of the thread of the last tick, or nothing.
use Rattle.std.proofs.Common.{Bool, List, None, Option, Some, [], ap, arith, false, refl, suc, sym, true, zero, ℕ, ◌<◌, ◌≤◌, ◌≡◌, ◌∙◌, ◌∷◌}
use Rattle.std.specs.Prelude.{length, not, ◌==◌, ◌&&◌}
use Rattle.rules_bodies.specs.declared.cursor.Cursor.{Cursor}
use Rattle.words_trace.specs.declared.event.Event.{Event}
use Rattle.rules_server.specs.Server.{ServerState}
use Rattle.rules_machine.specs.declared.dispatch.LastDispatch.{LastDispatch}
use Rattle.rules_machine.specs.declared.dispatch.LastDispatch.TheVariants as last
use Rattle.rules_machine.specs.Dispatch.{dispatch_event, dispatch_of, dispatches, is_same, tells_unless}
use Rattle.rules_machine.specs.Lists.{is}
use Rattle.rules_machine.specs.Servers.{closes, closes_of, has_run, plans_if, plans_server}
use Rattle.rules_machine.specs.State.{Machine, Thread}
use Rattle.rules_machine.specs.Threads.{thread_at, thread_in, thread_numbers}
use Rattle.rules_machine.specs.Ticks.{consumed_in}
use Rattle.rules_machine.specs.Turns.{Turn, becomes}
use Rattle.rules_moves.proofs.Runs.Closing.{closes_last, closes_latest}
use Rattle.kernel_state.specs.Kernel.{Kernel, after, ran, turn}

-- what is known of the runs
abbrev Latest : Kernel → Type 0
Latest k = (u : ℕ) → has_run (thread_at k.machine u).server ≡ true → k.machine.last ≡ last.Ran u

pub none_closes : (k : Kernel) (to : Option ℕ) → Latest k → ran k.machine.last ≡ None → closes to (turn k) ≡ turn k
none_closes k to latest e = closes_latest to (turn k) latest ∙ by_last k.machine.last e
  where
    by_last : (l : LastDispatch) → ran l ≡ None → closes_last to l (turn k) ≡ turn k
    by_last last.NoTick e = refl
    by_last last.Idle e = refl
    by_last (last.Ran u) e = absurd (grind arith)

pub last_closes : (k : Kernel) (to : Option ℕ) (u : ℕ) (run : Bool) → Latest k → is_same k.machine.last to ≡ false → ran k.machine.last ≡ Some u → has_run (thread_at k.machine u).server ≡ run →
    closes to (turn k) ≡ plans_if run u (turn k)
last_closes k to u run latest other e r =
    closes_latest to (turn k) latest ∙ ap (λ (l : LastDispatch). closes_last to l (turn k)) it
    ∙ ap (λ (b : Bool). plans_if (not b && has_run (thread_at k.machine u).server) u (turn k)) off
    ∙ ap (λ (b : Bool). plans_if b u (turn k)) r
  where
    it : k.machine.last ≡ last.Ran u
    it = by_last k.machine.last e
      where
        by_last : (l : LastDispatch) → ran l ≡ Some u → l ≡ last.Ran u
        by_last last.NoTick e = absurd (grind arith)
        by_last last.Idle e = absurd (grind arith)
        by_last (last.Ran v) e = ap last.Ran (grind arith)

    off : is to u ≡ false
    off = by_head to (sym (ap (λ (l : LastDispatch). is_same l to) it) ∙ other)
      where
        by_head : (o : Option ℕ) → is_same (last.Ran u) o ≡ false → is o u ≡ false
        by_head None h = refl
        by_head (Some t) h = grind arith

-- a thread that has a run has consumed something
pub run_consumes : (k : Kernel) (u : ℕ) → has_run (thread_at k.machine u).server ≡ true → 1 ≤ consumed_in (thread_at k.machine u).server
run_consumes k u h = of_server (thread_at k.machine u).server h
  where
    of_server : (o : Option ServerState) → has_run o ≡ true → 1 ≤ consumed_in o
    of_server None h = absurd (grind arith)
    of_server (Some s) h = grind arith

-- where as many threads have names
pub run_named : (threads : List (Thread Cursor)) (names : List (List ℕ)) (u : ℕ) → length names ≡ length threads → has_run (thread_in threads u).server ≡ true → u < length names
run_named threads names u as_many h = let k = within threads u h in omega arith
  where
    within : (threads : List (Thread Cursor)) (u : ℕ) → has_run (thread_in threads u).server ≡ true → u < length threads
    within [] u h = absurd (grind arith)
    within (th ∷ ths) zero h = omega arith
    within (th ∷ ths) (suc u) h = let k = within ths u h in omega arith

-- where the processor stays with the thread of the last tick, nothing is closed or told
pub same_dispatched : (k : Kernel) (to : Option ℕ) → Latest k → is_same k.machine.last to ≡ true → dispatches to (closes to (turn k)) ≡ turn k
same_dispatched k to latest same =
    ap (dispatches to) (closes_latest to (turn k) latest ∙ by_last k.machine.last to same)
    ∙ ap (λ (b : Bool). becomes (λ m. record m { last = dispatch_of to }) (tells_unless b (dispatch_event k.machine to) (turn k))) same
    ∙ ap (λ (l : LastDispatch). record (turn k) { machine = record k.machine { last = l } }) (is_given k.machine.last to same)
  where
    by_last : (l : LastDispatch) (o : Option ℕ) → is_same l o ≡ true → closes_last o l (turn k) ≡ turn k
    by_last last.NoTick o e = refl
    by_last last.Idle o e = refl
    by_last (last.Ran u) None e = absurd (grind arith)
    by_last (last.Ran u) (Some t) e =
        let it : (t == u) ≡ true = grind arith in
        ap (λ (b : Bool). plans_if (not b && has_run (thread_at k.machine u).server) u (turn k)) it

    is_given : (l : LastDispatch) (o : Option ℕ) → is_same l o ≡ true → dispatch_of o ≡ l
    is_given last.NoTick o e = absurd (grind arith)
    is_given last.Idle None e = refl
    is_given last.Idle (Some t) e = absurd (grind arith)
    is_given (last.Ran u) None e = absurd (grind arith)
    is_given (last.Ran u) (Some t) e = let it : t ≡ u = grind arith in ap last.Ran it

-- ---- what closing and the dispatch leave

abbrev Left : Machine Cursor → LastDispatch × ℕ
Left m = (m.last, m.now)

plans_left : (t : ℕ) (o : Option ServerState) (s : Turn Cursor) → Left (plans_server t o s).machine ≡ Left s.machine
plans_left t None s = refl
plans_left t (Some server) s = refl

if_left : (b : Bool) (t : ℕ) (s : Turn Cursor) → Left (plans_if b t s).machine ≡ Left s.machine
if_left true t s = plans_left t (thread_at s.machine t).server s
if_left false t s = refl

closes_of_left : (to : Option ℕ) (ts : List ℕ) (s : Turn Cursor) → Left (closes_of to ts s).machine ≡ Left s.machine
closes_of_left to [] s = refl
closes_of_left to (t ∷ ts) s =
    let b = not (is to t) && has_run (thread_at s.machine t).server in
    closes_of_left to ts (plans_if b t s) ∙ if_left b t s

pub closes_left : (to : Option ℕ) (s : Turn Cursor) → ((closes to s).machine.last ≡ s.machine.last) × ((closes to s).machine.now ≡ s.machine.now)
closes_left to s = let both = closes_of_left to (thread_numbers s.machine) s in (ap (λ (x : LastDispatch × ℕ). x.0) both, ap (λ (x : LastDispatch × ℕ). x.1) both)

told_now : (b : Bool) (e : Event) (s : Turn Cursor) → (tells_unless b e s).machine.now ≡ s.machine.now
told_now true e s = refl
told_now false e s = refl

pub given_now : (k l : Kernel) (to : Option ℕ) → l ≡ after (λ (s : Turn Cursor). dispatches to (closes to s)) k → l.machine.now ≡ k.machine.now
given_now k l to state =
    let s = closes to (turn k) in
    ap (λ (x : Kernel). x.machine.now) state ∙ told_now (is_same s.machine.last to) (dispatch_event s.machine to) s ∙ (closes_left to (turn k)).1
