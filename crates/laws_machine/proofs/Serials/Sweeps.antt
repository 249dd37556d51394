-- What a sweep costs: the record of a handler that begins is paid for by its frame. And serials in the words of a good state.
use Rattle.std.proofs.Common.{Bool, List, None, Option, Some, [], ap, arith, false, length, refl, suc, sym, true, zero, ℕ, ◌+◌, ◌<◌, ◌≤◌, ◌∷◌, ◌≡◌}
use Rattle.std.specs.Prelude.{filter, is_some, nat_lt, not, ◌&&◌}
use mathlib.Core.Path.{subst, ◌∙◌}
use Rattle.words_numbers.specs.declared.res.Res.TheVariants as res
use Rattle.words_numbers.specs.declared.res.Res.{Res}
use Rattle.rules_bodies.specs.Next.{capped}
use Rattle.words_trace.specs.declared.event.Event.{Event}
use Rattle.words_trace.specs.declared.event.Event.TheVariants as event
use Rattle.rules_server.specs.Server.{ServerState, activate}
use Rattle.rules_machine.specs.declared.frame.BodyOf.TheVariants as body_of
use Rattle.rules_machine.specs.declared.frame.FrameKind.TheVariants as frame
use Rattle.rules_machine.specs.declared.signal.SigAction.{SigAction}
use Rattle.rules_machine.specs.declared.signal.SigAction.TheVariants as action
use Rattle.rules_machine.specs.Lists.{changed_at}
use Rattle.rules_machine.specs.Bodies.{Bodies}
use Rattle.rules_machine.specs.State.{Frame, Machine, SignalRecord, Thread, Waiting}
use Rattle.rules_machine.specs.Threads.{action_of, catches_signal, is_live, is_signal, no_thread, thread_at, thread_in, top_kind, waiting_of}
use Rattle.rules_machine.specs.Waiters.{waits_so}
use Rattle.rules_machine.specs.Turns.{Turn, changes, changes_pending, frames_answered, moves, tells}
use Rattle.rules_machine.specs.Servers.{activates_server, at_once, high_server, with_server}
use Rattle.rules_machine.specs.Waking.{new_frame, on_top, wakes_telling, woken}
use Rattle.rules_machine.specs.Signals.{delivers, tells_overrun, without_record}
use Rattle.rules_machine.specs.Delivery.{acts, catches, interrupts, may_be_interrupted, sweeps_thread, taken_by_sweep, takes_record, ticks_left}
use Rattle.rules_machine.specs.GoodState.{SerialsAreRight, count_of, from_timers_and_queues, serials, waits_on_any_condition}
use Rattle.laws_machine.proofs.Serials.Distinct.{Serials, at_most_one, below_by_times, distinct_by_times, one_if, pends, serials_times}
use Rattle.laws_machine.proofs.Serials.Costs.{Costs, bonus, catchers, catching, debt, deliver_cost, gain_changed, out_cost, sleepers, sleeping, sources, wakes_cost}
use Rattle.laws_machine.proofs.Signals.Sources.{Plain}

-- ---- a handler begins: what its record was, its frame is

abbrev Ready : {P : Type 0} → List (Thread P) → ℕ → Type 0
Ready ths t = (t < length ths) × (is_live (thread_in ths t).status ≡ true) × (is_signal (top_kind (thread_in ths t).frames) ≡ false)

module _ {P : Type 0} where
  live_within : (ths : List (Thread P)) (t : ℕ) → is_live (thread_in ths t).status ≡ true → t < length ths
  live_within [] t e = absurd (grind arith)
  live_within (th ∷ ths) zero e = omega arith
  live_within (th ∷ ths) (suc t) e = let rest = live_within ths t e in omega arith

  ready_of : (ths : List (Thread P)) (t : ℕ) → may_be_interrupted (thread_in ths t) ≡ true → Ready ths t
  ready_of ths t e = (live_within ths t (first (is_live (thread_in ths t).status) (is_signal (top_kind (thread_in ths t).frames)) e), first (is_live (thread_in ths t).status) (is_signal (top_kind (thread_in ths t).frames)) e, second (is_live (thread_in ths t).status) (is_signal (top_kind (thread_in ths t).frames)) e)
    where
      first : (a b : Bool) → (a && not b) ≡ true → a ≡ true
      first a b e = grind arith

      second : (a b : Bool) → (a && not b) ≡ true → b ≡ false
      second a b e = grind arith

  ready_changed : (t : ℕ) (f : Thread P → Thread P) (ths : List (Thread P)) → ((th : Thread P) → is_live th.status ≡ true → is_live (f th).status ≡ true) → ((th : Thread P) → top_kind (f th).frames ≡ top_kind th.frames) → Ready ths t → Ready (changed_at no_thread t f ths) t
  ready_changed t f [] h g r = r
  ready_changed zero f (th ∷ ths) h g r = (r.0, h th r.1, ap is_signal (g th) ∙ r.2)
  ready_changed (suc t) f (th ∷ ths) h g r =
      let rest = ready_changed t f ths h g ((let lt = r.0 in omega arith), r.1, r.2) in ((let lt = rest.0 in omega arith), rest.1, rest.2)

  answered_top : (r : Res) (v : ℕ) (th : Thread P) → top_kind (woken r v th).frames ≡ top_kind th.frames
  answered_top r v th = by_frames th.frames
    where
      by_frames : (fs : List (Frame P)) → top_kind (frames_answered r v fs) ≡ top_kind fs
      by_frames [] = refl
      by_frames (f ∷ fs) = refl

  ready_activated : (t : ℕ) (o : Option ServerState) (s : Turn P) → Ready s.machine.threads t → Ready (activates_server t o s).machine.threads t
  ready_activated t None s r = r
  ready_activated t (Some server) s r = ready_changed t (with_server (activate s.machine.now)) s.machine.threads (λ th e. e) (λ th. refl) r

  ready_woken : (e : Event) (t : ℕ) (r : Res) (v : ℕ) (s : Turn P) → Ready s.machine.threads t → Ready (wakes_telling e t r v s).machine.threads t
  ready_woken e t r v s k =
      let up = tells e (moves t (changes t (woken r v) s)) in
      ready_activated t (at_once (high_server (thread_at up.machine t).server)) up (ready_changed t (woken r v) s.machine.threads (λ th e. refl) (answered_top r v) k)

  ready_interrupted : (o : Option Waiting) (t : ℕ) (s : Turn P) → Ready s.machine.threads t → Ready (interrupts o t s).machine.threads t
  ready_interrupted None t s r = r
  ready_interrupted (Some w) t s r = ready_woken _ t res.Intr (ticks_left w.call w.due s.machine.now) s r

  interrupt_cost : (o : Option Waiting) (t : ℕ) (s : Turn P) → Costs 0 s (interrupts o t s)
  interrupt_cost None t s = omega arith
  interrupt_cost (Some w) t s = wakes_cost t res.Intr (ticks_left w.call w.due s.machine.now) s

  overrun_threads : (o : Option ℕ) (s : Turn P) → (tells_overrun o s).machine.threads ≡ s.machine.threads
  overrun_threads None s = refl
  overrun_threads (Some k) s = refl

module _ {P : Type 0} (bodies : Bodies P) where
  frame_gain : (f : Frame P) (t : ℕ) (s : Turn P) → f.kind ≡ frame.Signal → Ready s.machine.threads t → debt (changes t (on_top f) s).machine + bonus s.machine + 1 ≤ debt s.machine + bonus (changes t (on_top f) s).machine
  frame_gain f t s k r = let gain = gain_changed t (on_top f) s.machine.threads r.0 (paid (thread_at s.machine t) r.1 r.2) in omega arith
    where
      paid : (th : Thread P) → is_live th.status ≡ true → is_signal (top_kind th.frames) ≡ false → sleeping th.status + catching th + 1 ≤ sleeping th.status + catching (on_top f th)
      paid th live calm =
          let before : catching th ≡ 0 = ap (λ (b : Bool). one_if (is_live th.status && b)) calm ∙ none (is_live th.status) in
          let after : catching (on_top f th) ≡ 1 = ap (λ (b : Bool). one_if (b && is_signal f.kind)) live ∙ ap (λ (kind : _). one_if (is_signal kind)) k in omega arith
        where
          none : (b : Bool) → one_if (b && false) ≡ 0
          none true = refl
          none false = refl

  catch_cost : (h t : ℕ) (r : SignalRecord) (s : Turn P) → may_be_interrupted (thread_at s.machine t) ≡ true → Plain s.machine → ((n : ℕ) → pends n s.machine.pending ≤ 1) → Costs 0 s (catches bodies h t r s)
  catch_cost h t r s may plain once =
      let out = changes_pending (without_record r) s in
      let up = interrupts (waiting_of s.machine t) t out in
      let told = delivers t r up in
      let f = new_frame bodies frame.Signal (body_of.Handler h) (capped r.value) in
      let ready : Ready told.machine.threads t = subst (λ (ths : List (Thread P)). Ready ths t) (sym (overrun_threads r.timer (tells (event.Deliver t r.signal r.code r.value) up)))
      (ready_interrupted (waiting_of s.machine t) t out (ready_of s.machine.threads t may)) in
      let a = out_cost r s plain (once r.serial) in
      let b = interrupt_cost (waiting_of s.machine t) t out in
      let c = deliver_cost t r up in
      let d = frame_gain f t told refl ready in omega arith

  act_cost : (a : SigAction) (t : ℕ) (r : SignalRecord) (s : Turn P) → may_be_interrupted (thread_at s.machine t) ≡ true → Plain s.machine → ((n : ℕ) → pends n s.machine.pending ≤ 1) → Costs 0 s (acts bodies a t r s)
  act_cost action.Kill t r s may plain once = omega arith
  act_cost action.Ignore t r s may plain once = omega arith
  act_cost (action.Handler h) t r s may plain once = catch_cost h t r s may plain once

  pub visit_cost : (killed : Option ℕ) (t : ℕ) (s : Turn P) → Plain s.machine → ((n : ℕ) → pends n s.machine.pending ≤ 1) → Costs 0 s (sweeps_thread bodies killed t s)
  visit_cost (Some signal) t s plain once = omega arith
  visit_cost None t s plain once = by_taken (taken_by_sweep s.machine t) refl
    where
      may_take : (r : SignalRecord) → taken_by_sweep s.machine t ≡ Some r → (b : Bool) → may_be_interrupted (thread_at s.machine t) ≡ b → may_be_interrupted (thread_at s.machine t) ≡ true
      may_take r e true h = h
      may_take r e false h = absurd (grind (arith, rw h at e))

      by_taken : (o : Option SignalRecord) → taken_by_sweep s.machine t ≡ o → Costs 0 s (takes_record bodies o t s)
      by_taken None e = omega arith
      by_taken (Some r) e = act_cost (action_of s.machine r.signal) t r s (may_take r e (may_be_interrupted (thread_at s.machine t)) refl) plain once

-- ---- in the words of the law

counted_cons : {X : Type 0} (passes : X → Bool) (x : X) (xs : List X) → count_of passes (x ∷ xs) ≡ one_if (passes x) + count_of passes xs
counted_cons {X} passes x xs = split (passes x) refl
  where
    split : (b : Bool) → passes x ≡ b → length (filter passes (x ∷ xs)) ≡ one_if b + length (filter passes xs)
    split true e = rw e (omega arith)
    split false e = rw e (omega arith)

sleepers_count : {P : Type 0} (ths : List (Thread P)) → count_of (waits_so waits_on_any_condition) ths ≤ sleepers ths
sleepers_count [] = omega arith
sleepers_count (th ∷ ths) = let c = counted_cons (waits_so waits_on_any_condition) th ths in omega (arith, sleepers_count ths)

catchers_count : {P : Type 0} (ths : List (Thread P)) → catchers ths ≤ count_of catches_signal ths
catchers_count [] = omega arith
catchers_count (th ∷ ths) = let c = counted_cons catches_signal th ths in let d = fewer (is_live th.status) (catches_signal th) in omega (arith, catchers_count ths)
  where
    fewer : (a b : Bool) → one_if (a && b) ≤ one_if b
    fewer true b = omega arith
    fewer false true = omega arith
    fewer false false = omega arith

sources_count : (rs : List SignalRecord) → sources rs ≤ from_timers_and_queues rs
sources_count [] = omega arith
sources_count (r ∷ rs) =
    let c = counted_cons (λ (r : SignalRecord). is_some r.timer) r rs in let d = counted_cons (λ (r : SignalRecord). is_some r.queue) r rs in omega (arith, sources_count rs)

abbrev pub Few : {P : Type 0} → Machine P → Type 0
Few m = debt m ≤ bonus m + 1

pub serials_right : {P : Type 0} (m : Machine P) → Serials m → Few m → SerialsAreRight m
serials_right m q few = record {
  distinct = distinct_by_times (serials m) (λ n. (let k = serials_times m q n in let l = at_most_one (nat_lt n m.next_serial) in omega arith));
  below = below_by_times m.next_serial (serials m) (serials_times m q);
  few = (let a = sleepers_count m.threads in let b = catchers_count m.threads in let c = sources_count m.pending in omega (arith, few));
}
