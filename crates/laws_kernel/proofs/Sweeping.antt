-- What a sweep leaves fit for a sweep was so before it: it takes away nothing from a thread that is in the way of one.
use Rattle.std.proofs.Common.{◌≡◌, ◌∙◌, ◌≤◌, ◌<◌, ℕ, List, [], ◌∷◌, Bool, true, false, Option, None, Some, ap, arith, inl, inr, length, refl, subst, suc, sym, zero, ◌⊎◌}
use Rattle.std.specs.Prelude.{not, option_map, slice_index_or, ◌&&◌, if◌then◌else◌}
use Rattle.words_numbers.specs.declared.res.Res.{Res}
use Rattle.words_numbers.specs.declared.res.Res.TheVariants as res
use Rattle.rules_bodies.specs.declared.cursor.Cursor.{Cursor}
use Rattle.rules_bodies.specs.declared.op.Op.{Op}
use Rattle.rules_bodies.specs.Flat as flat
use Rattle.rules_bodies.specs.Next.{capped}
use Rattle.words_trace.specs.declared.event.Event.{Event}
use Rattle.words_trace.specs.declared.event.Event.TheVariants as event
use Rattle.rules_server.specs.declared.ServerKind.{ServerKind}
use Rattle.rules_server.specs.declared.ServerKind.TheVariants as kind
use Rattle.rules_server.specs.Server.{ServerState, activate, is_high}
use Rattle.rules_machine.specs.declared.frame.BodyOf.TheVariants as body_of
use Rattle.rules_machine.specs.declared.frame.FrameKind.TheVariants as frame
use Rattle.rules_machine.specs.declared.signal.SigAction.{SigAction}
use Rattle.rules_machine.specs.declared.signal.SigAction.TheVariants as action
use Rattle.rules_machine.specs.Bodies.{Bodies}
use Rattle.rules_machine.specs.CallNames.{name_of}
use Rattle.rules_machine.specs.Delivery.{acts, interrupts, sweeps, sweeps_all, sweeps_thread, taken_by_sweep, takes_record, ticks_left}
use Rattle.rules_machine.specs.GoodState.{ServersAreRight}
use Rattle.rules_machine.specs.Lists.{changed_at}
use Rattle.rules_machine.specs.Servers.{activates_server, at_once, at_once_as, high_server, with_server}
use Rattle.rules_machine.specs.Signals.{delivers, tells_overrun, without_record}
use Rattle.rules_machine.specs.State.{Frame, Machine, SignalRecord, Status, Thread, Waiting, blocked, dormant, ended, runnable}
use Rattle.rules_machine.specs.Threads.{action_of, catches_signal, is_blocked, is_live, is_runnable, no_thread, thread_at, thread_in, thread_numbers, waiting_of}
use Rattle.rules_machine.specs.Turns.{Turn, changes, changes_pending, frames_answered, moves, tells}
use Rattle.rules_machine.specs.Waking.{call_in, new_frame, on_top, wakes_telling, woken}
use Rattle.rules_machine.proofs.Reading.{thread-same}
use Rattle.rules_moves.proofs.Calls.Commuting.{wakes_telling_part}
use Rattle.rules_moves.proofs.Waiters.OfThreads.{changed_is}
use Rattle.laws_machine.proofs.Servers.Ends.{has_server}
use Rattle.laws_threads.specs.Frames.{AreInOrder}
use Rattle.laws_threads.proofs.Frames.{at_most_two}
use Rattle.kernel_threads.specs.Unused.{IsUnused, IsUnusedAs}
use Rattle.kernel_state.specs.Caught.{CatchesBy, CanVisit}
use Rattle.laws_kernel.specs.Visitable.{CanBeSwept, ConsumesHigh, IsVisitable}

-- ---- one thread

not_later : {X : Type 0} (n : ℕ) → n < n → X
not_later n h = absurd (omega (arith, h))

not_low : {X : Type 0} (s : ServerState) → at_once (high_server (Some s)) ≡ None → s.kind ≡ kind.Sporadic → is_high s ≡ true → X
not_low {X} s none k high = by_high (is_high s) high none
  where
    by_kind : (j : ServerKind) → j ≡ kind.Sporadic → at_once_as j s ≡ None → X
    by_kind kind.Sporadic e none = absurd (grind arith)
    by_kind kind.Strict e none = absurd cc

    by_high : (b : Bool) → b ≡ true → at_once (if b then Some s else None) ≡ None → X
    by_high true e none = by_kind s.kind k none
    by_high false e none = absurd (grind arith)

order_back : (r : Res) (value : ℕ) (fs : List (Frame Cursor)) → AreInOrder (frames_answered r value fs) → AreInOrder fs
order_back r value [] h = tt
order_back r value (f ∷ fs) h = h

top_back : (now : ℕ) (f : Frame Cursor) (th : Thread Cursor) → IsVisitable now (on_top f th) → IsVisitable now th
top_back now f th h = record { ordered = h.ordered.1; consuming = h.consuming }

-- what is activated now has consumed nothing since
activated_back : (now : ℕ) (th : Thread Cursor) → IsVisitable now (with_server (activate now) th) → IsVisitable now th
activated_back now th h = record {
  ordered = h.ordered;
  consuming = λ s e k some. not_later now (h.consuming (activate now s) (ap (option_map (activate now)) e) k some).before;
}

-- ---- all threads

module _ (bodies : Bodies Cursor) where
  abbrev AllVisitable : Turn Cursor → Type 0
  AllVisitable s = (t : ℕ) → IsVisitable s.machine.now (thread_at s.machine t)

  one_back : (v : ℕ) (f : Thread Cursor → Thread Cursor) (s : Turn Cursor) → ((th : Thread Cursor) → IsVisitable s.machine.now (f th) → IsVisitable s.machine.now th) → AllVisitable (changes v f s) → AllVisitable s
  one_back v f s back h u = of_two (changed_is no_thread v u f s.machine.threads)
    where
      of_two : ((v ≡ u) × (thread_in (changed_at no_thread v f s.machine.threads) u ≡ f (thread_at s.machine v))) ⊎ (thread_in (changed_at no_thread v f s.machine.threads) u ≡ thread_at s.machine u) →
          IsVisitable s.machine.now (thread_at s.machine u)
      of_two (inl e) =
          subst (λ (i : ℕ). IsVisitable s.machine.now (thread_at s.machine i)) e.0 (back (thread_at s.machine v) (subst (IsVisitable s.machine.now) e.1 (h u)))
      of_two (inr e) = subst (IsVisitable s.machine.now) e (h u)

  activation_back : (t : ℕ) (o : Option ServerState) (x : Turn Cursor) → AllVisitable (activates_server t o x) → AllVisitable x
  activation_back t None x h = h
  activation_back t (Some server) x h = one_back t (with_server (activate x.machine.now)) x (activated_back x.machine.now) h

  -- what wakes has consumed nothing
  idle_as_it_wakes : (t : ℕ) (o : Option ServerState) (x : Turn Cursor) → at_once (high_server (thread_at x.machine t).server) ≡ o → AllVisitable (activates_server t o x) →
      (y : ServerState) → (thread_at x.machine t).server ≡ Some y → y.kind ≡ kind.Sporadic → 1 ≤ y.consumed → ⊥
  idle_as_it_wakes t None x low h y e k some = not_low y (sym (ap (λ (o : Option ServerState). at_once (high_server o)) e) ∙ low) k ((h t).consuming y e k some).high
  idle_as_it_wakes t (Some server) x high h y e k some =
      let now = x.machine.now in
      let same = thread-same x.machine t (with_server (activate now)) (has_server x.machine.threads t y e) in
      let there : IsVisitable now (with_server (activate now) (thread_at x.machine t)) = subst (IsVisitable now) same (h t) in
      not_later now (there.consuming (activate now y) (ap (option_map (activate now)) e) k some).before

  waking_back : (ev : Event) (t : ℕ) (r : Res) (v : ℕ) (s : Turn Cursor) → AllVisitable (wakes_telling ev t r v s) → AllVisitable s
  waking_back ev t r v s h u = of_two (changed_is no_thread t u (woken r v) s.machine.threads)
    where
      x : Turn Cursor
      x = tells ev (moves t (changes t (woken r v) s))

      up : Option ServerState
      up = at_once (high_server (thread_at x.machine t).server)

      of_two : ((t ≡ u) × (thread_in (changed_at no_thread t (woken r v) s.machine.threads) u ≡ woken r v (thread_at s.machine t))) ⊎ (thread_in (changed_at no_thread t (woken r v) s.machine.threads) u ≡ thread_at s.machine u) →
          IsVisitable s.machine.now (thread_at s.machine u)
      of_two (inr e) = subst (IsVisitable s.machine.now) e (activation_back t up x h u)
      of_two (inl e) =
          let th = thread_at s.machine t in
          let here : IsVisitable s.machine.now (woken r v th) = subst (IsVisitable s.machine.now) e.1 (activation_back t up x h u) in
          let itself : thread_at x.machine t ≡ woken r v th = subst (λ (i : ℕ). thread_in (changed_at no_thread t (woken r v) s.machine.threads) i ≡ woken r v th) (sym e.0) e.1 in
          subst (λ (i : ℕ). IsVisitable s.machine.now (thread_at s.machine i)) e.0 (record {
            ordered = order_back r v th.frames here.ordered;
            consuming = λ y e' k some. absurd (idle_as_it_wakes t up x refl h y (ap (λ (th : Thread Cursor). th.server) itself ∙ e') k some);
          })

  -- ---- the sweep

  interrupts_back : (w : Option Waiting) (t : ℕ) (s : Turn Cursor) → AllVisitable (interrupts w t s) → AllVisitable s
  interrupts_back None t s h = h
  interrupts_back (Some w) t s h = let value = ticks_left w.call w.due s.machine.now in waking_back (event.Return t (name_of (call_in (waiting_of s.machine t))) res.Intr value) t res.Intr value s h

  delivers_back : (t : ℕ) (r : SignalRecord) (s : Turn Cursor) → AllVisitable (delivers t r s) → AllVisitable s
  delivers_back t r s h = told r.timer h
    where
      told : (k : Option ℕ) → AllVisitable (tells_overrun k (tells (event.Deliver t r.signal r.code r.value) s)) → AllVisitable s
      told None h = h
      told (Some k) h = h

  acts_back : (a : SigAction) (t : ℕ) (r : SignalRecord) (s : Turn Cursor) → AllVisitable (acts bodies a t r s) → AllVisitable s
  acts_back action.Kill t r s h = h
  acts_back action.Ignore t r s h = h
  acts_back (action.Handler n) t r s h =
      let out = changes_pending (without_record r) s in
      let woke = interrupts (waiting_of s.machine t) t out in
      let top = new_frame bodies frame.Signal (body_of.Handler n) (capped r.value) in
      interrupts_back (waiting_of s.machine t) t out (delivers_back t r woke (one_back t (on_top top) (delivers t r woke) (top_back (delivers t r woke).machine.now top) h))

  takes_back : (r : Option SignalRecord) (t : ℕ) (s : Turn Cursor) → AllVisitable (takes_record bodies r t s) → AllVisitable s
  takes_back None t s h = h
  takes_back (Some r) t s h = acts_back (action_of s.machine r.signal) t r s h

  visit_back : (killed : Option ℕ) (t : ℕ) (s : Turn Cursor) → AllVisitable (sweeps_thread bodies killed t s) → AllVisitable s
  visit_back None t s h = takes_back (taken_by_sweep s.machine t) t s h
  visit_back (Some signal) t s h = h

  all_back : (ts : List ℕ) (s : Turn Cursor) → AllVisitable (sweeps_all bodies ts s) → AllVisitable s
  all_back [] s h = h
  all_back (t ∷ ts) s h = visit_back s.machine.killed t s (all_back ts (sweeps_thread bodies s.machine.killed t s) h)

  -- ---- it leaves the actions

  abbrev acted : Turn Cursor → List SigAction
  acted s = s.machine.actions

  interrupts_acted : (w : Option Waiting) (t : ℕ) (s : Turn Cursor) → acted (interrupts w t s) ≡ acted s
  interrupts_acted None t s = refl
  interrupts_acted (Some w) t s =
      wakes_telling_part (λ (m : Machine Cursor). m.actions) (λ m threads. refl) (event.Return t (name_of (call_in (waiting_of s.machine t))) res.Intr (ticks_left w.call w.due s.machine.now)) t res.Intr (ticks_left w.call w.due s.machine.now) s

  delivers_acted : (t : ℕ) (r : SignalRecord) (s : Turn Cursor) → acted (delivers t r s) ≡ acted s
  delivers_acted t r s = told r.timer
    where
      told : (k : Option ℕ) → acted (tells_overrun k (tells (event.Deliver t r.signal r.code r.value) s)) ≡ acted s
      told None = refl
      told (Some k) = refl

  acts_acted : (a : SigAction) (t : ℕ) (r : SignalRecord) (s : Turn Cursor) → acted (acts bodies a t r s) ≡ acted s
  acts_acted action.Kill t r s = refl
  acts_acted action.Ignore t r s = refl
  acts_acted (action.Handler n) t r s =
      let out = changes_pending (without_record r) s in
      delivers_acted t r (interrupts (waiting_of s.machine t) t out) ∙ interrupts_acted (waiting_of s.machine t) t out

  takes_acted : (r : Option SignalRecord) (t : ℕ) (s : Turn Cursor) → acted (takes_record bodies r t s) ≡ acted s
  takes_acted None t s = refl
  takes_acted (Some r) t s = acts_acted (action_of s.machine r.signal) t r s

  visit_acted : (killed : Option ℕ) (t : ℕ) (s : Turn Cursor) → acted (sweeps_thread bodies killed t s) ≡ acted s
  visit_acted None t s = takes_acted (taken_by_sweep s.machine t) t s
  visit_acted (Some signal) t s = refl

  all_acted : (ts : List ℕ) (s : Turn Cursor) → acted (sweeps_all bodies ts s) ≡ acted s
  all_acted [] s = refl
  all_acted (t ∷ ts) s = all_acted ts (sweeps_thread bodies s.machine.killed t s) ∙ visit_acted s.machine.killed t s

  -- ---- so it was before

  pub swept_back : (code : flat.NumberedBodies (List Op)) (s : Turn Cursor) → CanBeSwept code (sweeps bodies s).machine → CanBeSwept code s.machine
  swept_back code s h = record {
    caught = λ signal. subst (λ (actions : List SigAction). CatchesBy (length code.handlers) (slice_index_or actions signal action.Kill)) (all_acted (thread_numbers s.machine) s) (h.caught signal);
    each = all_back (thread_numbers s.machine) s h.each;
  }

-- where the servers are right
pub consuming_high : (m : Machine Cursor) → ServersAreRight m → (t : ℕ) (s : ServerState) → (thread_at m t).server ≡ Some s → s.kind ≡ kind.Sporadic → 1 ≤ s.consumed → ConsumesHigh m.now (thread_at m t).status s
consuming_high m right t s e k some = let c = (right.each t s e).consuming some in record { runs = c.runnable; high = c.high; before = c.before }

none_where : (n : ℕ) → (1 ≤ n → ⊥) → n ≡ 0
none_where zero h = refl
none_where (suc n) h = absurd (h (omega arith))

not_blocked : {X : Type 0} (s : Status) → is_blocked s ≡ true → is_runnable s ≡ true → X
not_blocked (dormant at) b r = absurd cc
not_blocked runnable b r = absurd cc
not_blocked (blocked w) b r = absurd cc
not_blocked ended b r = absurd cc

not_signal : (a b : Bool) → (a && not b) ≡ true → b ≡ false
not_signal a true e = absurd (grind arith)
not_signal a false e = refl

pub can_visit : (now : ℕ) (th : Thread Cursor) → IsVisitable now th → CanVisit th
can_visit now th h = record {
  frames = λ free. at_most_two th.frames h.ordered (not_signal (is_live th.status) (catches_signal th) free);
  rests = λ waits. by_server th.server refl waits;
}
  where
    by_server : (o : Option ServerState) → th.server ≡ o → is_blocked th.status ≡ true → IsUnused o
    by_server None e waits = tt
    by_server (Some s) e waits = by_kind s.kind refl
      where
        by_kind : (k : ServerKind) → s.kind ≡ k → IsUnusedAs k s
        by_kind kind.Sporadic k = none_where s.consumed (λ some. not_blocked th.status waits (h.consuming s e k some).runs)
        by_kind kind.Strict k = tt
