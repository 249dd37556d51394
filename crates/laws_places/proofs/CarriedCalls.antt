-- Each call, item and tick of a carried turn is the carried one, where both know the same of bodies.
use Rattle.std.proofs.Common.{Bool, List, None, Option, Some, [], ap, false, refl, true, ℕ, ◌+◌, ◌∷◌, ◌≡◌}
use Rattle.std.specs.Prelude.{drop, map, nat_lt, not, ◌-◌, ◌==◌, if◌then◌else◌}
use mathlib.Core.Path.{ap₂, ◌∙◌}
use Rattle.words_numbers.specs.declared.res.Res.TheVariants as res
use Rattle.words_script.specs.declared.call.Moment.{Moment}
use Rattle.words_script.specs.declared.call.Moment.TheVariants as moment
use Rattle.words_script.specs.declared.call.Operand.{Operand}
use Rattle.words_script.specs.declared.call.Operand.TheVariants as operand
use Rattle.words_script.specs.declared.policy.Policy.{Policy}
use Rattle.words_trace.specs.declared.event.Event.{Event}
use Rattle.words_trace.specs.declared.event.Event.TheVariants as event
use Rattle.rules_machine.specs.declared.frame.BodyOf.{BodyOf}
use Rattle.rules_machine.specs.declared.frame.FrameKind.{FrameKind}
use Rattle.rules_machine.specs.declared.frame.FrameKind.TheVariants as frame
use Rattle.rules_machine.specs.declared.thread.CondEnd.TheVariants as cond_end
use Rattle.rules_machine.specs.Clock.{changes_each, clock_at, clock_limit, due_as_set, moves_times, sets_real_clock, thread_moved, timer_moved}
use Rattle.rules_machine.specs.Lists.{numbers}
use Rattle.rules_machine.specs.State.{Frame, Joiner, Machine, Thread, Wait, Waiting, for_condition, for_end, for_mutex, for_mutex_again, for_semaphore, for_signal, for_time, has_joined, nobody, waits_to_join}
use Rattle.rules_machine.specs.Threads.{can_run, is_dormant, lives, moment_of, number_of, real_time, thread_at, thread_numbers, top_kind, waiting_of}
use Rattle.rules_machine.specs.Turns.{Caller, Turn, becomes, changes, changes_pending, changes_timer, moves_if, returns, settles_since, tells, ◌▷◌}
use Rattle.rules_machine.specs.Servers.{activates_if, plans}
use Rattle.rules_machine.specs.Waking.{blocks_unordered, wakes}
use Rattle.rules_machine.specs.Mutexes.{moves_unless_boosted}
use Rattle.rules_machine.specs.Delivery.{interrupts, ticks_left}
use Rattle.rules_machine.specs.Lives.{ends, finishes, ends_frame, is_nobody, joins, wakes_joiner, with_joiner, without_life, without_target, without_top}
use Rattle.rules_machine.specs.Cancellation.{acts_if_blocked, cancels, leaves, leaves_wait, on_live, request_acts, requested}
use Rattle.rules_machine.specs.Scheduling.{sets_policy, sets_priority, takes_priority, with_policy, with_priority}
use Rattle.rules_machine.specs.DueItems.{items_of_threads, pending_count, times_out, wait_times_out}
use Rattle.rules_machine.specs.Dispatch.{dispatch_event, dispatch_of, dispatches, is_same, tells_unless}
use Rattle.rules_machine.specs.Ticks.{TickEnd, ends_tick, exhausting, nothing, planning, slicing, tick_end, tick_ends, without_slice}
use Rattle.laws_places.specs.Carried.{frame_carried}
use Rattle.laws_places.proofs.CarriedReads.{C, M, can_run_carries, exec_carries, kind_carries, lives_carries, numbers_carry, register_carries, status_carries, thread_carries, waiting_carries}
use Rattle.laws_places.proofs.CarriedEffects.{Carries, T, activates_if_carries, blocks_unordered_carries, changes_carry, contends_carries, if_carries, moves_if_carries, moves_unless_boosted_carries, plans_carries, returns_carries, settles_carry, wakes_cancelled_carries, wakes_carries}

module _ {P Q : Type 0} (carry : BodyOf → P → Q) where
  -- ---- operands

  pub number_carries : (m : Machine P) (t : ℕ) (v : Operand) → number_of (M carry m) t v ≡ number_of m t v
  number_carries m t (operand.Num n) = refl
  number_carries m t operand.Reg = register_carries carry m t

  pub moment_carries : (m : Machine P) (t : ℕ) (at : Moment) → moment_of (M carry m) t at ≡ moment_of m t at
  moment_carries m t (moment.Monotonic at) = number_carries m t at
  moment_carries m t (moment.Realtime at) = ap (λ (n : ℕ). m.now + (n - real_time m)) (number_carries m t at)

  -- ---- the clock

  changes_each_carries : (change' : ℕ → Turn Q → Turn Q) (change : ℕ → Turn P → Turn P) → ((n : ℕ) → Carries carry (change' n) (change n)) → (ns : List ℕ) →
      Carries carry (changes_each change' ns) (changes_each change ns)
  changes_each_carries change' change each [] s = refl
  changes_each_carries change' change each (n ∷ ns) s = ap (changes_each change' ns) (each n s) ∙ changes_each_carries change' change each ns (change n s)

  moves_times_carries : (move : ℕ → ℕ) → Carries carry (moves_times move) (moves_times move)
  moves_times_carries move s =
      let threads' : ℕ → Turn Q → Turn Q = λ t. changes t (thread_moved move) in
      let threads : ℕ → Turn P → Turn P = λ t. changes t (thread_moved move) in
      let timers' : ℕ → Turn Q → Turn Q = λ k. changes_timer k (timer_moved move) in
      let timers : ℕ → Turn P → Turn P = λ k. changes_timer k (timer_moved move) in
      let ks = numbers s.machine.timers in
      let ts = thread_numbers s.machine in
      ap (λ (ns : List ℕ). changes_each timers' ks (changes_each threads' ns (T carry s))) (numbers_carry carry s.machine)
      ∙ ap (changes_each timers' ks) (changes_each_carries threads' threads (λ t. changes_carry carry t (thread_moved move) (thread_moved move) (λ th. refl)) ts s)
      ∙ changes_each_carries timers' timers (λ k s. refl) ks (changes_each threads ts s)

  pub sets_real_clock_carries : (by : Caller) (reading : ℕ) → Carries carry (sets_real_clock by reading) (sets_real_clock by reading)
  sets_real_clock_carries by reading s =
      let set = becomes (λ m. record m { clock = clock_at reading m.now }) s in
      let move = due_as_set s.machine.now (real_time s.machine) reading in
      if_carries carry (nat_lt clock_limit reading) (nat_lt clock_limit reading) _ _ (returns by res.Inval 0 s) (returns by res.Zero 0 (moves_times move set)) refl
      (returns_carries carry by res.Inval 0 s)
      (ap (returns by res.Zero 0) (moves_times_carries move set) ∙ returns_carries carry by res.Zero 0 (moves_times move set))

  -- ---- joins, cancellation and scheduling

  pub joins_carries : (by : Caller) (u : ℕ) → Carries carry (joins by u) (joins by u)
  joins_carries by u s =
      let waiting = changes u (with_joiner (waits_to_join by.thread)) s in
      let joined = changes u (with_joiner has_joined) s in
      let value = (thread_at s.machine u).exit_value in
      if_carries carry (u == by.thread) (u == by.thread) _ _ (returns by res.Deadlk 0 s) _ refl (returns_carries carry by res.Deadlk 0 s)
      (if_carries carry _ (is_dormant (thread_at s.machine u).status) _ _ (returns by res.Srch 0 s) _ (ap is_dormant (status_carries carry s.machine u)) (returns_carries carry by res.Srch 0 s)
      (if_carries carry _ (not (is_nobody (thread_at s.machine u).joiner)) _ _ (returns by res.Inval 0 s) _ (ap (λ (th : Thread Q). not (is_nobody th.joiner)) (thread_carries carry s.machine u)) (returns_carries carry by res.Inval 0 s)
      (if_carries carry _ (lives s.machine u) _ _ (blocks_unordered by (for_end u) None waiting) (returns by res.Zero value joined) (lives_carries carry s.machine u)
      (ap (blocks_unordered by (for_end u) None) (changes_carry carry u (with_joiner (waits_to_join by.thread)) (with_joiner (waits_to_join by.thread)) (λ th. refl) s) ∙ blocks_unordered_carries carry by (for_end u) None waiting)
      (ap₂ (λ (v : ℕ) (x : Turn Q). returns by res.Zero v x) (ap (λ (th : Thread Q). th.exit_value) (thread_carries carry s.machine u))
      (changes_carry carry u (with_joiner has_joined) (with_joiner has_joined) (λ th. refl) s) ∙ returns_carries carry by res.Zero value joined))))

  wakes_joiner_carries : (j : Joiner) (t : ℕ) → Carries carry (wakes_joiner j t) (wakes_joiner j t)
  wakes_joiner_carries nobody t s = refl
  wakes_joiner_carries has_joined t s = refl
  wakes_joiner_carries (waits_to_join u) t s =
      let joined = changes t (with_joiner has_joined) s in
      let value = (thread_at s.machine t).exit_value in
      ap₂ (λ (v : ℕ) (x : Turn Q). wakes u res.Zero v x) (ap (λ (th : Thread Q). th.exit_value) (thread_carries carry s.machine t))
      (changes_carry carry t (with_joiner has_joined) (with_joiner has_joined) (λ th. refl) s) ∙ wakes_carries carry u res.Zero value joined

  ends_carries : (t : ℕ) → Carries carry (ends t) (ends t)
  ends_carries t s =
      let gone = changes_pending (without_target t) (tells (event.Exit t) (changes t without_life s)) in
      ap₂ (λ (j : Joiner) (x : Turn Q). wakes_joiner j t (changes_pending (without_target t) (tells (event.Exit t) x))) (ap (λ (th : Thread Q). th.joiner) (thread_carries carry s.machine t))
      (changes_carry carry t without_life without_life (λ th. refl) s) ∙ wakes_joiner_carries (thread_at s.machine t).joiner t gone

  drop_carried : (fs : List (Frame P)) → drop 1 (map (frame_carried carry) fs) ≡ map (frame_carried carry) (drop 1 fs)
  drop_carried [] = refl
  drop_carried (f ∷ fs) = refl

  finishes_in_carries : (kind : FrameKind) (t : ℕ) → Carries carry (ends_frame kind t) (ends_frame kind t)
  finishes_in_carries frame.Main t s = ends_carries t s
  finishes_in_carries frame.Cleanup t s = changes_carry carry t without_top without_top (λ th. ap (λ (fs : List (Frame Q)). record (C carry th) { frames = fs }) (drop_carried th.frames)) s
  finishes_in_carries frame.Signal t s = changes_carry carry t without_top without_top (λ th. ap (λ (fs : List (Frame Q)). record (C carry th) { frames = fs }) (drop_carried th.frames)) s

  pub finishes_carries : (t : ℕ) → Carries carry (finishes t) (finishes t)
  finishes_carries t s =
      ap (λ (k : FrameKind). ends_frame k t (T carry s)) (kind_carries carry s.machine t) ∙ finishes_in_carries (top_kind (thread_at s.machine t).frames) t s

  leaves_carries : (wait : Wait) (u : ℕ) → Carries carry (leaves wait u) (leaves wait u)
  leaves_carries (for_mutex k) u s = refl
  leaves_carries (for_mutex_again k how) u s = refl
  leaves_carries (for_condition c k) u s = contends_carries carry u cond_end.Cancelled s
  leaves_carries (for_end t) u s =
      ap (λ (x : Turn Q). leaves (for_semaphore 0) u x) (changes_carry carry t (with_joiner nobody) (with_joiner nobody) (λ th. refl) s) ∙ wakes_cancelled_carries carry u (changes t (with_joiner nobody) s)
  leaves_carries _ u s = wakes_cancelled_carries carry u s

  leaves_wait_carries : (w : Option Waiting) (u : ℕ) → Carries carry (leaves_wait w u) (leaves_wait w u)
  leaves_wait_carries None u s = refl
  leaves_wait_carries (Some w) u s = leaves_carries w.wait u s

  pub acts_if_blocked_carries : (u : ℕ) → Carries carry (acts_if_blocked u) (acts_if_blocked u)
  acts_if_blocked_carries u s =
      if_carries carry _ (request_acts (thread_at s.machine u)) _ _ (leaves_wait (waiting_of s.machine u) u s) s (ap request_acts (thread_carries carry s.machine u))
      (ap (λ (w : Option Waiting). leaves_wait w u (T carry s)) (waiting_carries carry s.machine u) ∙ leaves_wait_carries (waiting_of s.machine u) u s) refl

  pub on_live_carries : (by : Caller) (u : ℕ) (f' : Turn Q → Turn Q) (f : Turn P → Turn P) → Carries carry f' f → Carries carry (on_live by u f') (on_live by u f)
  on_live_carries by u f' f h s = if_carries carry _ (lives s.machine u) _ _ (f s) (returns by res.Srch 0 s) (lives_carries carry s.machine u) (h s) (returns_carries carry by res.Srch 0 s)

  pub cancels_carries : (by : Caller) (u : ℕ) → Carries carry (cancels by u) (cancels by u)
  cancels_carries by u =
      on_live_carries by u (λ s. s ▷ returns by res.Zero 0 ▷ changes u requested ▷ acts_if_blocked u) (λ s. s ▷ returns by res.Zero 0 ▷ changes u requested ▷ acts_if_blocked u)
      (λ s.
      let back = returns by res.Zero 0 s in
      ap (λ (x : Turn Q). acts_if_blocked u (changes u requested x)) (returns_carries carry by res.Zero 0 s)
      ∙ ap (acts_if_blocked u) (changes_carry carry u requested requested (λ th. refl) back)
      ∙ acts_if_blocked_carries u (changes u requested back))

  pub sets_priority_carries : (by : Caller) (u p : ℕ) → Carries carry (sets_priority by u p) (sets_priority by u p)
  sets_priority_carries by u p =
      on_live_carries by u (λ s. if takes_priority (thread_at s.machine u).policy p then (s ▷ changes u (with_priority p) ▷ returns by res.Zero 0) else returns by res.Inval 0 s)
      (λ s. if takes_priority (thread_at s.machine u).policy p then (s ▷ changes u (with_priority p) ▷ returns by res.Zero 0) else returns by res.Inval 0 s)
      (λ s.
      if_carries carry _ (takes_priority (thread_at s.machine u).policy p) _ _ (returns by res.Zero 0 (changes u (with_priority p) s)) (returns by res.Inval 0 s)
      (ap (λ (th : Thread Q). takes_priority th.policy p) (thread_carries carry s.machine u))
      (ap (returns by res.Zero 0) (changes_carry carry u (with_priority p) (with_priority p) (λ th. refl) s) ∙ returns_carries carry by res.Zero 0 (changes u (with_priority p) s))
      (returns_carries carry by res.Inval 0 s))

  pub sets_policy_carries : (by : Caller) (u : ℕ) (new : Policy) → Carries carry (sets_policy by u new) (sets_policy by u new)
  sets_policy_carries by u new =
      on_live_carries by u (λ s. s ▷ returns by res.Zero 0 ▷ changes u (with_policy new s.machine.now) ▷ activates_if (can_run s.machine u) u ▷ moves_unless_boosted u)
      (λ s. s ▷ returns by res.Zero 0 ▷ changes u (with_policy new s.machine.now) ▷ activates_if (can_run s.machine u) u ▷ moves_unless_boosted u)
      (λ s.
      let now = s.machine.now in
      let back = returns by res.Zero 0 s in
      let renewed = changes u (with_policy new now) back in
      ap₂ (λ (b : Bool) (x : Turn Q). moves_unless_boosted u (activates_if b u (changes u (with_policy new now) x))) (can_run_carries carry s.machine u) (returns_carries carry by res.Zero 0 s)
      ∙ ap (λ (x : Turn Q). moves_unless_boosted u (activates_if (can_run s.machine u) u x)) (changes_carry carry u (with_policy new now) (with_policy new now) (λ th. refl) back)
      ∙ ap (moves_unless_boosted u) (activates_if_carries carry (can_run s.machine u) u renewed)
      ∙ moves_unless_boosted_carries carry u (activates_if (can_run s.machine u) u renewed))

  pub sets_mask_carries : (by : Caller) (f : ℕ → ℕ) → Carries carry (λ s. s ▷ changes by.thread (λ th. record th { mask = f th.mask }) ▷ returns by res.Zero 0) (λ s. s ▷ changes by.thread (λ th. record th { mask = f th.mask }) ▷ returns by res.Zero 0)
  sets_mask_carries by f s =
      let masked = changes by.thread (λ th. record th { mask = f th.mask }) s in
      ap (returns by res.Zero 0) (changes_carry carry by.thread (λ th. record th { mask = f th.mask }) (λ th. record th { mask = f th.mask }) (λ th. refl) s) ∙ returns_carries carry by res.Zero 0 masked

  -- ---- the rule of the tick's end, timeouts, the dispatch

  times_out_of_carries : (wait : Wait) (t : ℕ) → Carries carry (wait_times_out wait t) (wait_times_out wait t)
  times_out_of_carries (for_condition c k) t s = contends_carries carry t cond_end.Timedout s
  times_out_of_carries for_time t s = wakes_carries carry t res.Zero 0 s
  times_out_of_carries (for_signal set) t s = wakes_carries carry t res.Again 0 s
  times_out_of_carries _ t s = wakes_carries carry t res.Timedout 0 s

  pub times_out_carries : (w : Option Waiting) (t : ℕ) → Carries carry (times_out w t) (times_out w t)
  times_out_carries None t s = refl
  times_out_carries (Some w) t s = times_out_of_carries w.wait t s

  pub interrupts_carries : (w : Option Waiting) (t : ℕ) → Carries carry (interrupts w t) (interrupts w t)
  interrupts_carries None t s = refl
  interrupts_carries (Some w) t s = wakes_carries carry t res.Intr (ticks_left w.call w.due s.machine.now) s

  tells_unless_carries : (b : Bool) (e : Event) → Carries carry (tells_unless b e) (tells_unless b e)
  tells_unless_carries true e s = refl
  tells_unless_carries false e s = refl

  dispatch_event_carries : (m : Machine P) (to : Option ℕ) → dispatch_event (M carry m) to ≡ dispatch_event m to
  dispatch_event_carries m None = refl
  dispatch_event_carries m (Some t) = ap (event.Dispatch t) (exec_carries carry m t)

  pub dispatches_carries : (to : Option ℕ) → Carries carry (dispatches to) (dispatches to)
  dispatches_carries to s =
      ap (λ (e : Event). becomes (λ m. record m { last = dispatch_of to }) (tells_unless (is_same s.machine.last to) e (T carry s))) (dispatch_event_carries s.machine to)
      ∙ ap (becomes (λ m. record m { last = dispatch_of to })) (tells_unless_carries (is_same s.machine.last to) (dispatch_event s.machine to) s)

  pub ends_tick_carries : (e : TickEnd) (t : ℕ) → Carries carry (ends_tick e t) (ends_tick e t)
  ends_tick_carries planning t s = plans_carries carry t s
  ends_tick_carries exhausting t s =
      let out = tells (event.Exhaust t) s in
      ap (moves_unless_boosted t) (plans_carries carry t out) ∙ moves_unless_boosted_carries carry t (plans t out)
  ends_tick_carries slicing t s =
      ap₂ (λ (b : Bool) (x : Turn Q). moves_if b t x) (can_run_carries carry s.machine t) (changes_carry carry t without_slice without_slice (λ th. refl) s)
      ∙ moves_if_carries carry (can_run s.machine t) t (changes t without_slice s)
  ends_tick_carries nothing t s = refl

  pub tick_ends_carries : (was_high : Bool) (t : ℕ) → Carries carry (tick_ends was_high t) (tick_ends was_high t)
  tick_ends_carries was_high t s =
      let e = tick_end was_high s.machine.quantum (thread_at s.machine t) in
      ap (λ (x : TickEnd). settles_since (M carry s.machine) (ends_tick x t (T carry s))) (ap (tick_end was_high s.machine.quantum) (thread_carries carry s.machine t))
      ∙ ap (settles_since (M carry s.machine)) (ends_tick_carries e t s)
      ∙ settles_carry carry s.machine (ends_tick e t s)

  -- ---- what is due

  pub items_of_carried : (ths : List (Thread P)) → items_of_threads (map (C carry) ths) ≡ items_of_threads ths
  items_of_carried [] = refl
  items_of_carried (th ∷ ths) = ap (λ (n : ℕ). pending_count th.server + 2 + n) (items_of_carried ths)
