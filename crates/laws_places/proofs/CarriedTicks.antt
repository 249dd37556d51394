-- A run of a carried machine is the carried run, where both know the same of bodies.
use Rattle.std.proofs.Common.{Bool, List, None, Option, Some, [], ap, false, refl, suc, true, zero, ℕ, ◌+◌, ◌++◌, ◌∷◌, ◌≡◌}
use Rattle.std.specs.Prelude.{filter, length, map, not, option_and_then, ◌&&◌, ◌||◌, if◌then◌else◌}
use Rattle.std.specs.Option.{option_map_or}
use mathlib.Core.Path.{ap₂, ◌∙◌}
use Rattle.words_numbers.specs.Signals.{every_signal, has_signal}
use Rattle.words_numbers.specs.declared.item.Item.{Item}
use Rattle.words_numbers.specs.declared.item.Item.TheVariants as item
use Rattle.words_numbers.specs.declared.res.Res.TheVariants as res
use Rattle.words_script.specs.declared.call.Call.{Call}
use Rattle.words_script.specs.declared.call.Call.TheVariants as call
use Rattle.words_script.specs.declared.call.Moment.TheVariants as moment
use Rattle.words_script.specs.declared.call.Operand.TheVariants as operand
use Rattle.rules_bodies.specs.Next.{capped, ticks_of}
use Rattle.rules_bodies.specs.declared.unit.Unit.{Unit}
use Rattle.rules_bodies.specs.declared.unit.Unit.TheVariants as unit
use Rattle.words_trace.specs.declared.event.Event.TheVariants as event
use Rattle.rules_server.specs.Server.{next_due}
use Rattle.rules_machine.specs.declared.frame.BodyOf.{BodyOf}
use Rattle.rules_machine.specs.declared.frame.BodyOf.TheVariants as body_of
use Rattle.rules_machine.specs.declared.frame.FrameKind.{FrameKind}
use Rattle.rules_machine.specs.declared.frame.FrameKind.TheVariants as frame
use Rattle.rules_machine.specs.declared.signal.SigAction.{SigAction}
use Rattle.rules_machine.specs.declared.signal.SigAction.TheVariants as action
use Rattle.rules_machine.specs.Lists.{first_by}
use Rattle.rules_machine.specs.Bodies.{Bodies, Seen}
use Rattle.rules_machine.specs.Clock.{sets_real_clock}
use Rattle.rules_machine.specs.State.{Frame, Machine, SignalRecord, Thread, Waiting}
use Rattle.rules_machine.specs.Threads.{action_of, is_dormant, is_live, is_main, is_signal, moment_of, number_of, thread_at, thread_numbers, top_left, waiting_of}
use Rattle.rules_machine.specs.Turns.{Caller, Turn, becomes, changes, changes_pending, moves, returns, settles_since, tells, turn_of}
use Rattle.rules_machine.specs.Servers.{activates, closes, has_high, opens, server_of}
use Rattle.rules_machine.specs.Waking.{cancelled_value, ending_with, new_frame, on_top, started, starts}
use Rattle.rules_machine.specs.Signals.{delivers, may_go_to, is_kill, is_selected_before, record_of_kill, record_of_sigqueue, selected, sends_signal, with_signals, without_record, without_signals}
use Rattle.rules_machine.specs.Delivery.{acts, can_take, defers_handlers, interrupts, may_be_interrupted, sweeps, sweeps_all, sweeps_thread, taken_by_sweep, takes_record}
use Rattle.rules_machine.specs.Lives.{creates, exits, inherited_mask}
use Rattle.rules_machine.specs.Cancellation.{is_cancellation_point, is_cancelled, pops_cleanup, request_acts, runs_cleanup, runs_cleanup_if, without_cleanup}
use Rattle.rules_machine.specs.Calls.{call_effect, makes_call, unit_effect}
use Rattle.rules_machine.specs.DueItems.{due_items, due_of_kind, first_item, handles, has_come, instant, item_bound, item_done, item_then, items_done, next_item, refill_due, start_due, start_in, timeout_due, times_out}
use Rattle.rules_machine.specs.Dispatch.{dispatches, head}
use Rattle.rules_machine.specs.Units.{Following, InUnit, advances, advancing, begins_finish, choice, cleaning_up, continuing, finishing, following, in_cleanup, in_unit, takes_unit}
use Rattle.rules_machine.specs.Ticks.{completes, completes_at, frames_charged, goes_on, later, runs, runs_head, tick, tick_charged, tick_ends, unit_ticked, unless_killed}
use Rattle.rules_machine.specs.Runs.{Ran, follow, tick_of, ticks}
use Rattle.laws_places.specs.Carried.{Agree, frame_carried, ran_carried}
use Rattle.laws_places.proofs.CarriedReads.{C, M, kind_carried, left_carried, left_carries, numbers_carry, same_function, server_carries, status_carries, thread_carries, waiting_carries}
use Rattle.laws_places.proofs.CarriedEffects.{Carries, T, activates_carries, asks_notification_carries, broadcasts_carries, changes_carry, closes_carries, delivers_carries, expires_carries, if_carries, locks_carries, opens_carries, posts_carries, receives_message_carries, refills_carries, returns_carries, sends_message_carries, sends_signal_carries, settles_carry, signals_carries, sleeps_until_carries, tries_lock_carries, tries_semaphore_carries, unlocks_carries, waits_carries, waits_semaphore_carries, waits_signal_on_carries}
use Rattle.laws_places.proofs.CarriedCalls.{cancels_carries, dispatches_carries, finishes_carries, interrupts_carries, items_of_carried, joins_carries, moment_carries, number_carries, on_live_carries, sets_mask_carries, sets_policy_carries, sets_priority_carries, sets_real_clock_carries, tick_ends_carries, times_out_carries}

module _ {P Q : Type 0} (carry : BodyOf → P → Q) (p : Bodies P) (q : Bodies Q) (a : Agree carry p q) where
  -- ---- frames begin where the bodies do

  new_frame_carries : (kind : FrameKind) (body : BodyOf) (value : ℕ) → new_frame q kind body value ≡ frame_carried carry (new_frame p kind body value)
  new_frame_carries kind body value =
      ap (λ (place : Q). record { kind = kind; body = body; place = place; register = value; result = res.Zero; value = value; left = 0 }) (a.start body)

  on_top_carries : (kind : FrameKind) (body : BodyOf) (value : ℕ) (th : Thread P) → on_top (new_frame q kind body value) (C carry th) ≡ C carry (on_top (new_frame p kind body value) th)
  on_top_carries kind body value th = ap (λ (f : Frame Q). on_top f (C carry th)) (new_frame_carries kind body value)

  starts_carries : (t mask : ℕ) → Carries carry (starts q t mask) (starts p t mask)
  starts_carries t mask s =
      let now = s.machine.now in
      let up = tells (event.Start t) (moves t (changes t (started p t mask now) s)) in
      ap (λ (x : Turn Q). activates t (tells (event.Start t) (moves t x)))
      (changes_carry carry t (started q t mask now) (started p t mask now)
      (λ th. ap (λ (f : Frame Q). record (C carry th) { status = (started p t mask now th).status; slice = 0; mask = mask; frames = f ∷ []; server = server_of th.policy now }) (new_frame_carries frame.Main (body_of.Thread t) 0)) s)
      ∙ activates_carries carry t up

  mask_carried : (th : Thread P) → inherited_mask (C carry th) ≡ inherited_mask th
  mask_carried th = ap (λ (k : FrameKind). if is_signal k then every_signal else th.mask) (kind_carried carry th.frames)

  creates_carries : (by : Caller) (u : ℕ) → Carries carry (creates q by u) (creates p by u)
  creates_carries by u s =
      let mask = inherited_mask (thread_at s.machine by.thread) in
      let back = returns by res.Zero 0 s in
      if_carries carry _ (is_dormant (thread_at s.machine u).status) _ _ (starts p u mask back) (returns by res.Again 0 s) (ap is_dormant (status_carries carry s.machine u))
      (ap₂ (λ (n : ℕ) (x : Turn Q). starts q u n x) (ap inherited_mask (thread_carries carry s.machine by.thread) ∙ mask_carried (thread_at s.machine by.thread)) (returns_carries carry by res.Zero 0 s)
      ∙ starts_carries u mask back)
      (returns_carries carry by res.Again 0 s)

  runs_cleanup_carries : (cleanups : List ℕ) (th : Thread P) → runs_cleanup q cleanups (C carry th) ≡ C carry (runs_cleanup p cleanups th)
  runs_cleanup_carries [] th = refl
  runs_cleanup_carries (u ∷ us) th = on_top_carries frame.Cleanup (body_of.Cleanup u) 0 th

  runs_cleanup_if_carries : (b : Bool) (cleanups : List ℕ) (th : Thread P) → runs_cleanup_if b q cleanups (C carry th) ≡ C carry (runs_cleanup_if b p cleanups th)
  runs_cleanup_if_carries true cleanups th = runs_cleanup_carries cleanups th
  runs_cleanup_if_carries false cleanups th = refl

  pops_cleanup_carries : (by : Caller) (runs : Bool) → Carries carry (pops_cleanup q by runs) (pops_cleanup p by runs)
  pops_cleanup_carries by runs s =
      let t = by.thread in
      let cleanups = (thread_at s.machine t).cleanups in
      let popped = changes t without_cleanup s in
      let back = returns by res.Zero 0 popped in
      ap₂ (λ (us : List ℕ) (x : Turn Q). changes t (runs_cleanup_if runs q us) (returns by res.Zero 0 x)) (ap (λ (th : Thread Q). th.cleanups) (thread_carries carry s.machine t))
      (changes_carry carry t without_cleanup without_cleanup (λ th. refl) s)
      ∙ ap (changes t (runs_cleanup_if runs q cleanups)) (returns_carries carry by res.Zero 0 popped)
      ∙ changes_carry carry t (runs_cleanup_if runs q cleanups) (runs_cleanup_if runs p cleanups) (runs_cleanup_if_carries runs cleanups) back

  -- ---- the sweep

  acts_carries : (x : SigAction) (t : ℕ) (r : SignalRecord) → Carries carry (acts q x t r) (acts p x t r)
  acts_carries action.Kill t r s = refl
  acts_carries action.Ignore t r s = refl
  acts_carries (action.Handler h) t r s =
      let out = changes_pending (without_record r) s in
      let w = waiting_of s.machine t in
      let woken = interrupts w t out in
      let told = delivers t r woken in
      let frame' = on_top (new_frame q frame.Signal (body_of.Handler h) (capped r.value)) in
      ap (λ (o : Option Waiting). changes t frame' (delivers t r (interrupts o t (T carry out)))) (waiting_carries carry s.machine t)
      ∙ ap (λ (x : Turn Q). changes t frame' (delivers t r x)) (interrupts_carries carry w t out)
      ∙ ap (changes t frame') (delivers_carries carry t r woken)
      ∙ changes_carry carry t frame' (on_top (new_frame p frame.Signal (body_of.Handler h) (capped r.value))) (on_top_carries frame.Signal (body_of.Handler h) (capped r.value)) told

  can_take_carries : (m : Machine P) (t : ℕ) (r : SignalRecord) → can_take (M carry m) t r ≡ can_take m t r
  can_take_carries m t r =
      ap₂ (λ (mask : ℕ) (w : Option Waiting). may_go_to t r.target && not (has_signal mask r.signal) && (is_kill (action_of m r.signal) || not (option_map_or (λ (w : Waiting). defers_handlers w.wait) w false)))
      (ap (λ (th : Thread Q). th.mask) (thread_carries carry m t)) (waiting_carries carry m t)

  interrupted_carried : (th : Thread P) → may_be_interrupted (C carry th) ≡ may_be_interrupted th
  interrupted_carried th = ap (λ (k : FrameKind). is_live th.status && not (is_signal k)) (kind_carried carry th.frames)

  pub taken_by_sweep_carries : (m : Machine P) (t : ℕ) → taken_by_sweep (M carry m) t ≡ taken_by_sweep m t
  taken_by_sweep_carries m t =
      let functions : can_take (M carry m) t ≡ can_take m t = same_function (can_take (M carry m) t) (can_take m t) (can_take_carries m t) in
      ap₂ (λ (b : Bool) (f : SignalRecord → Bool). if b then first_by is_selected_before (filter f m.pending) else None)
      (ap may_be_interrupted (thread_carries carry m t) ∙ interrupted_carried (thread_at m t)) functions

  takes_record_carries : (r : Option SignalRecord) (t : ℕ) → Carries carry (takes_record q r t) (takes_record p r t)
  takes_record_carries None t s = refl
  takes_record_carries (Some r) t s = acts_carries (action_of s.machine r.signal) t r s

  sweeps_thread_carries : (killed : Option ℕ) (t : ℕ) → Carries carry (sweeps_thread q killed t) (sweeps_thread p killed t)
  sweeps_thread_carries (Some signal) t s = refl
  sweeps_thread_carries None t s =
      ap (λ (r : Option SignalRecord). takes_record q r t (T carry s)) (taken_by_sweep_carries s.machine t) ∙ takes_record_carries (taken_by_sweep s.machine t) t s

  sweeps_all_carries : (ts : List ℕ) → Carries carry (sweeps_all q ts) (sweeps_all p ts)
  sweeps_all_carries [] s = refl
  sweeps_all_carries (t ∷ ts) s = ap (sweeps_all q ts) (sweeps_thread_carries s.machine.killed t s) ∙ sweeps_all_carries ts (sweeps_thread p s.machine.killed t s)

  pub sweeps_carries : Carries carry (sweeps q) (sweeps p)
  sweeps_carries s =
      ap (λ (ts : List ℕ). settles_since (M carry s.machine) (sweeps_all q ts (T carry s))) (numbers_carry carry s.machine)
      ∙ ap (settles_since (M carry s.machine)) (sweeps_all_carries (thread_numbers s.machine) s)
      ∙ settles_carry carry s.machine (sweeps_all p (thread_numbers s.machine) s)

  -- ---- the items of an instant

  handles_carries : (i : Item) → Carries carry (handles q i) (handles p i)
  handles_carries (item.Refill t) s = refills_carries carry t s
  handles_carries (item.Start t) s = starts_carries t 0 s
  handles_carries (item.Timeout t) s = ap (λ (w : Option Waiting). times_out w t (T carry s)) (waiting_carries carry s.machine t) ∙ times_out_carries carry (waiting_of s.machine t) t s
  handles_carries (item.Timer k) s = expires_carries carry k s

  item_done_carries : (i : Item) → Carries carry (item_done q i) (item_done p i)
  item_done_carries i s =
      let handled = handles p i s in
      ap (λ (x : Turn Q). sweeps q (settles_since (M carry s.machine) x)) (handles_carries i s)
      ∙ ap (sweeps q) (settles_carry carry s.machine handled)
      ∙ sweeps_carries (settles_since s.machine handled)

  due_of_carries : (m : Machine P) (kind : ℕ → Item) (due' due : ℕ → Option ℕ) → ((n : ℕ) → due' n ≡ due n) → (ns' ns : List ℕ) → ns' ≡ ns →
      map kind (filter (λ (n : ℕ). has_come (due' n) m.now) ns') ≡ map kind (filter (λ (n : ℕ). has_come (due n) m.now) ns)
  due_of_carries m kind due' due h ns' ns e =
      let functions : due' ≡ due = same_function due' due h in
      ap₂ (λ (f : ℕ → Option ℕ) (xs : List ℕ). map kind (filter (λ (n : ℕ). has_come (f n) m.now) xs)) functions e

  due_items_carry : (m : Machine P) → due_items (M carry m) ≡ due_items m
  due_items_carry m =
      let ns = numbers_carry carry m in
      let ns' = thread_numbers (M carry m) in
      let refills_first : due_of_kind item.Refill refill_due ns' (M carry m) ≡ due_of_kind item.Refill refill_due (thread_numbers m) m =
      due_of_carries m item.Refill (refill_due (M carry m)) (refill_due m) (λ n. ap (option_and_then next_due) (server_carries carry m n)) ns' (thread_numbers m) ns in
      let starts_next : due_of_kind item.Start start_due ns' (M carry m) ≡ due_of_kind item.Start start_due (thread_numbers m) m =
      due_of_carries m item.Start (start_due (M carry m)) (start_due m) (λ n. ap start_in (status_carries carry m n)) ns' (thread_numbers m) ns in
      let timeouts_next : due_of_kind item.Timeout timeout_due ns' (M carry m) ≡ due_of_kind item.Timeout timeout_due (thread_numbers m) m =
      due_of_carries m item.Timeout (timeout_due (M carry m)) (timeout_due m) (λ n. ap (option_and_then (λ (w : Waiting). w.due)) (waiting_carries carry m n)) ns' (thread_numbers m) ns in
      cc (refills_first, starts_next, timeouts_next)

  pub next_item_carries : (m : Machine P) → next_item (M carry m) ≡ next_item m
  next_item_carries m = ap (first_item m.killed) (due_items_carry m)

  item_then_carries : (o : Option Item) (rest' : Turn Q → Turn Q) (rest : Turn P → Turn P) → Carries carry rest' rest → Carries carry (item_then q o rest') (item_then p o rest)
  item_then_carries None rest' rest h s = refl
  item_then_carries (Some i) rest' rest h s = ap rest' (item_done_carries i s) ∙ h (item_done p i s)

  pub items_done_carries : (most : ℕ) → Carries carry (items_done q most) (items_done p most)
  items_done_carries zero s = refl
  items_done_carries (suc most) s =
      ap (λ (o : Option Item). item_then q o (items_done q most) (T carry s)) (next_item_carries s.machine)
      ∙ item_then_carries (next_item s.machine) (items_done q most) (items_done p most) (items_done_carries most) s

  pub instant_carries : Carries carry (instant q) (instant p)
  instant_carries s =
      ap (λ (n : ℕ). items_done q (n + length s.machine.timers) (T carry s)) (items_of_carried carry s.machine.threads) ∙ items_done_carries (item_bound s.machine) s

  -- ---- calls

  call_effect_carries : (by : Caller) (call' : Call) → Carries carry (call_effect q by call') (call_effect p by call')
  call_effect_carries by call.Yield s = returns_carries carry by res.Zero 0 (moves by.thread s)
  call_effect_carries by (call.Create u) s = creates_carries by u s
  call_effect_carries by (call.Join u) s = joins_carries carry by u s
  call_effect_carries by (call.Cancel u) s = cancels_carries carry by u s
  call_effect_carries by call.Testcancel s = returns_carries carry by res.Zero 0 s
  call_effect_carries by (call.Setcancel on) s =
      ap (returns by res.Zero 0) (changes_carry carry by.thread (λ th. record th { is_enabled = on }) (λ th. record th { is_enabled = on }) (λ th. refl) s)
      ∙ returns_carries carry by res.Zero 0 (changes by.thread (λ th. record th { is_enabled = on }) s)
  call_effect_carries by (call.Push u) s =
      ap (returns by res.Zero 0) (changes_carry carry by.thread (λ th. record th { cleanups = u ∷ th.cleanups }) (λ th. record th { cleanups = u ∷ th.cleanups }) (λ th. refl) s)
      ∙ returns_carries carry by res.Zero 0 (changes by.thread (λ th. record th { cleanups = u ∷ th.cleanups }) s)
  call_effect_carries by (call.Pop runs) s = pops_cleanup_carries by runs s
  call_effect_carries by (call.Exit v) s =
      ap (λ (n : ℕ). exits by n (T carry s)) (number_carries carry s.machine by.thread v)
      ∙ changes_carry carry by.thread (ending_with (number_of s.machine by.thread v)) (ending_with (number_of s.machine by.thread v)) (λ th. refl) s
  call_effect_carries by (call.Setprio u n) s = sets_priority_carries carry by u n s
  call_effect_carries by (call.Setsched u new) s = sets_policy_carries carry by u new s
  call_effect_carries by (call.Lock k) s = locks_carries carry by k None s
  call_effect_carries by (call.Timedlock k at) s =
      ap (λ (n : ℕ). call_effect q by (call.Timedlock k (moment.Monotonic (operand.Num n))) (T carry s)) (moment_carries carry s.machine by.thread at) ∙ locks_carries carry by k (Some (moment_of s.machine by.thread at)) s
  call_effect_carries by (call.Trylock k) s = tries_lock_carries carry by k s
  call_effect_carries by (call.Unlock k) s = unlocks_carries carry by k s
  call_effect_carries by (call.Wait c k) s = waits_carries carry by c k None s
  call_effect_carries by (call.Timedwait c k at) s =
      ap (λ (n : ℕ). call_effect q by (call.Timedwait c k (moment.Monotonic (operand.Num n))) (T carry s)) (moment_carries carry s.machine by.thread at) ∙ waits_carries carry by c k (Some (moment_of s.machine by.thread at)) s
  call_effect_carries by (call.Signal c) s = signals_carries carry by c s
  call_effect_carries by (call.Broadcast c) s = broadcasts_carries carry by c s
  call_effect_carries by (call.SemWait k) s = waits_semaphore_carries carry by k None s
  call_effect_carries by (call.SemTimedwait k at) s =
      ap (λ (n : ℕ). call_effect q by (call.SemTimedwait k (moment.Monotonic (operand.Num n))) (T carry s)) (moment_carries carry s.machine by.thread at) ∙ waits_semaphore_carries carry by k (Some (moment_of s.machine by.thread at)) s
  call_effect_carries by (call.SemTrywait k) s = tries_semaphore_carries carry by k s
  call_effect_carries by (call.SemGetvalue k) s = returns_carries carry by res.Zero _ s
  call_effect_carries by (call.SemPost k) s = posts_carries carry by k s
  call_effect_carries by (call.Nanosleep n) s = sleeps_until_carries carry by (s.machine.now + n) s
  call_effect_carries by (call.ClockNanosleep at) s =
      ap (λ (n : ℕ). call_effect q by (call.ClockNanosleep (moment.Monotonic (operand.Num n))) (T carry s)) (moment_carries carry s.machine by.thread at) ∙ sleeps_until_carries carry by (moment_of s.machine by.thread at) s
  call_effect_carries by call.Gettime s = returns_carries carry by res.Zero _ s
  call_effect_carries by call.RealGettime s = returns_carries carry by res.Zero _ s
  call_effect_carries by (call.ClockSettime at) s =
      ap (λ (n : ℕ). sets_real_clock by n (T carry s)) (number_carries carry s.machine by.thread at) ∙ sets_real_clock_carries carry by (number_of s.machine by.thread at) s
  call_effect_carries by (call.TimerSettimeRel k n interval) s = returns_carries carry by res.Zero 0 (call_timer s)
    where
      call_timer : Turn P → Turn P
      call_timer s = becomes (λ m. record m { timers = (call_effect p by (call.TimerSettimeRel k n interval) s).machine.timers }) s
  call_effect_carries by (call.TimerSettimeAbs k at interval) s =
      ap (λ (n : ℕ). call_effect q by (call.TimerSettimeAbs k (operand.Num n) interval) (T carry s)) (number_carries carry s.machine by.thread at) ∙ returns_carries carry by res.Zero 0 (call_timer s)
    where
      call_timer : Turn P → Turn P
      call_timer s = becomes (λ m. record m { timers = (call_effect p by (call.TimerSettimeAbs k at interval) s).machine.timers }) s
  call_effect_carries by (call.TimerGettime k) s = returns_carries carry by res.Zero _ s
  call_effect_carries by (call.TimerGetoverrun k) s = returns_carries carry by res.Zero _ s
  call_effect_carries by (call.Kill signal) s = sends_signal_carries carry by (record_of_kill signal None) s
  call_effect_carries by (call.Tkill u signal) s =
      on_live_carries carry by u (sends_signal by (record_of_kill signal (Some u))) (sends_signal by (record_of_kill signal (Some u))) (sends_signal_carries carry by (record_of_kill signal (Some u))) s
  call_effect_carries by (call.Sigqueue signal v) s =
      ap (λ (n : ℕ). sends_signal by (record_of_sigqueue signal n) (T carry s)) (number_carries carry s.machine by.thread v) ∙ sends_signal_carries carry by (record_of_sigqueue signal (number_of s.machine by.thread v)) s
  call_effect_carries by (call.SigmaskBlock set) s = sets_mask_carries carry by (with_signals set) s
  call_effect_carries by (call.SigmaskUnblock set) s = sets_mask_carries carry by (without_signals set) s
  call_effect_carries by (call.SigmaskSet set) s = sets_mask_carries carry by (λ (mask : ℕ). set) s
  call_effect_carries by (call.Sigwaitinfo set) s =
      waits_signal_on_carries carry (selected s.machine (λ (r : SignalRecord). has_signal set r.signal && may_go_to by.thread r.target)) None by set s
  call_effect_carries by (call.Sigtimedwait set n) s =
      waits_signal_on_carries carry (selected s.machine (λ (r : SignalRecord). has_signal set r.signal && may_go_to by.thread r.target)) (Some n) by set s
  call_effect_carries by (call.MqSend queue len prio v) s =
      ap (λ (n : ℕ). call_effect q by (call.MqSend queue len prio (operand.Num n)) (T carry s)) (number_carries carry s.machine by.thread v)
      ∙ sends_message_carries carry by queue len (record { priority = prio; value = number_of s.machine by.thread v }) None s
  call_effect_carries by (call.MqTimedsend queue len prio v at) s =
      ap₂ (λ (n k : ℕ). call_effect q by (call.MqTimedsend queue len prio (operand.Num n) (moment.Monotonic (operand.Num k))) (T carry s)) (number_carries carry s.machine by.thread v) (moment_carries carry s.machine by.thread at)
      ∙ sends_message_carries carry by queue len (record { priority = prio; value = number_of s.machine by.thread v }) (Some (moment_of s.machine by.thread at)) s
  call_effect_carries by (call.MqReceive queue) s = receives_message_carries carry by queue None s
  call_effect_carries by (call.MqTimedreceive queue at) s =
      ap (λ (n : ℕ). call_effect q by (call.MqTimedreceive queue (moment.Monotonic (operand.Num n))) (T carry s)) (moment_carries carry s.machine by.thread at)
      ∙ receives_message_carries carry by queue (Some (moment_of s.machine by.thread at)) s
  call_effect_carries by (call.MqNotify queue signal v) s =
      ap (λ (n : ℕ). call_effect q by (call.MqNotify queue signal (operand.Num n)) (T carry s)) (number_carries carry s.machine by.thread v)
      ∙ asks_notification_carries carry by queue (record { signal = signal; value = number_of s.machine by.thread v }) s

  makes_call_carries : (by : Caller) → Carries carry (makes_call q by) (makes_call p by)
  makes_call_carries by s =
      if_carries carry _ (is_cancellation_point by.call && request_acts (thread_at s.machine by.thread)) _ _ (is_cancelled by.thread s) (call_effect p by by.call s)
      (ap (λ (th : Thread Q). is_cancellation_point by.call && request_acts th) (thread_carries carry s.machine by.thread))
      (changes_carry carry by.thread (ending_with cancelled_value) (ending_with cancelled_value) (λ th. refl) (tells (event.Cancel by.thread) s))
      (call_effect_carries by by.call s)

  pub unit_effect_carries : (t : ℕ) (unit' : Unit) → Carries carry (unit_effect q t unit') (unit_effect p t unit')
  unit_effect_carries t (unit.Run n) s = refl
  unit_effect_carries t (unit.Make call) s = makes_call_carries (record { thread = t; call = call }) s
  unit_effect_carries t unit.Jump s = refl
  unit_effect_carries t unit.Finish s = finishes_carries carry t s

  -- ---- the unit of a tick

  abbrev in_unit_carried : InUnit P → InUnit Q
  in_unit_carried x = record { thread = C carry x.thread; unit = x.unit }

  abbrev begun : Frame P → List (Frame P) → Thread P → Unit → Q → ℕ → InUnit Q
  begun f fs th u place register = record {
    thread = record (C carry th) { frames = record (frame_carried carry f) { place = place; register = register; left = ticks_of u } ∷ map (frame_carried carry) fs };
    unit = u;
  }

  advances_carries : (fs : List (Frame P)) (th : Thread P) → advances q (map (frame_carried carry) fs) (C carry th) ≡ in_unit_carried (advances p fs th)
  advances_carries [] th = refl
  advances_carries (f ∷ fs) th =
      let seen : Seen = record { register = f.register; result = f.result; value = f.value } in
      let found = q.next f.body (carry f.body f.place) seen in
      let next = p.next f.body f.place seen in
      ap (λ (u : Unit). begun f fs th u found.place found.register) (a.unit f.body f.place seen)
      ∙ ap₂ (λ (place : Q) (register : ℕ). begun f fs th next.unit place register) (a.place f.body f.place seen) (a.register f.body f.place seen)

  begins_finish_carries : (fs : List (Frame P)) (th : Thread P) → begins_finish (map (frame_carried carry) fs) (C carry th) ≡ in_unit_carried (begins_finish fs th)
  begins_finish_carries [] th = refl
  begins_finish_carries (f ∷ fs) th = refl

  takes_unit_carries : (x : Following) (th : Thread P) → takes_unit q x (C carry th) ≡ in_unit_carried (takes_unit p x th)
  takes_unit_carries (continuing left) th = refl
  takes_unit_carries advancing th = advances_carries th.frames th
  takes_unit_carries (cleaning_up u) th =
      let ending = in_cleanup p u th in
      ap (λ (x : Thread Q). advances q x.frames x) (runs_cleanup_carries (u ∷ []) (without_cleanup th)) ∙ advances_carries ending.frames ending
  takes_unit_carries finishing th = begins_finish_carries th.frames th

  pub in_unit_carries : (th : Thread P) → in_unit q (C carry th) ≡ in_unit_carried (in_unit p th)
  in_unit_carries th =
      ap₂ (λ (k : FrameKind) (left : ℕ). takes_unit q (choice left (th.is_ending && is_main k) th.cleanups) (C carry th)) (kind_carried carry th.frames) (left_carried carry th.frames)
      ∙ takes_unit_carries (following th) th

  -- ---- a tick

  frames_charged_carry : (fs : List (Frame P)) → frames_charged (map (frame_carried carry) fs) ≡ map (frame_carried carry) (frames_charged fs)
  frames_charged_carry [] = refl
  frames_charged_carry (f ∷ fs) = refl

  pub charged_carries : (th : Thread P) → tick_charged (C carry th) ≡ C carry (tick_charged th)
  charged_carries th = ap (λ (fs : List (Frame Q)). record (C carry (tick_charged th)) { frames = fs }) (frames_charged_carry th.frames)

  completes_carries : (left t : ℕ) (unit' : Unit) → Carries carry (completes_at q left t unit') (completes_at p left t unit')
  completes_carries zero t unit' s = unit_effect_carries t unit' s
  completes_carries (suc left) t unit' s = refl

  unit_ticked_carries : (before : Machine P) (t : ℕ) (taken : InUnit P) → Carries carry (unit_ticked q (M carry before) t (in_unit_carried taken)) (unit_ticked p before t taken)
  unit_ticked_carries before t taken s =
      let charged = becomes later (changes t (λ th. tick_charged taken.thread) s) in
      let left = top_left (thread_at charged.machine t).frames in
      ap (λ (x : Turn Q). settles_since (M carry before) (completes q t taken.unit (becomes later x)))
      (changes_carry carry t (λ th. tick_charged (C carry taken.thread)) (λ th. tick_charged taken.thread) (λ th. charged_carries taken.thread) s)
      ∙ ap (λ (n : ℕ). settles_since (M carry before) (completes_at q n t taken.unit (T carry charged))) (left_carries carry charged.machine t)
      ∙ ap (settles_since (M carry before)) (completes_carries left t taken.unit charged)
      ∙ settles_carry carry before (completes p t taken.unit charged)

  runs_carries : (to : Option ℕ) → Carries carry (runs q to) (runs p to)
  runs_carries None s = refl
  runs_carries (Some t) s =
      let taken = in_unit p (thread_at s.machine t) in
      let was_high = has_high (thread_at s.machine t).server in
      let done = unit_ticked p s.machine t taken s in
      ap₂ (λ (x : InUnit Q) (b : Bool). sweeps q (tick_ends b t (unit_ticked q (M carry s.machine) t x (T carry s))))
      (ap (in_unit q) (thread_carries carry s.machine t) ∙ in_unit_carries (thread_at s.machine t)) (ap has_high (server_carries carry s.machine t))
      ∙ ap (λ (x : Turn Q). sweeps q (tick_ends was_high t x)) (unit_ticked_carries s.machine t taken s)
      ∙ ap (sweeps q) (tick_ends_carries carry was_high t done)
      ∙ sweeps_carries (tick_ends was_high t done)

  unless_killed_carries : (killed : Option ℕ) (f' : Turn Q → Turn Q) (f : Turn P → Turn P) → Carries carry f' f → Carries carry (unless_killed killed f') (unless_killed killed f)
  unless_killed_carries None f' f h s = h s
  unless_killed_carries (Some signal) f' f h s = refl

  runs_head_carries : Carries carry (runs_head q) (runs_head p)
  runs_head_carries s =
      let to = head s.machine in
      let closed = closes to s in
      let sent = dispatches to closed in
      ap (λ (x : Turn Q). runs q to (opens to (dispatches to x))) (closes_carries carry to s)
      ∙ ap (λ (x : Turn Q). runs q to (opens to x)) (dispatches_carries carry to closed)
      ∙ ap (runs q to) (opens_carries carry to sent)
      ∙ runs_carries to (opens to sent)

  pub tick_carries : Carries carry (tick q) (tick p)
  tick_carries s =
      let ready = instant p s in
      ap (goes_on q) (instant_carries s) ∙ unless_killed_carries ready.machine.killed (runs_head q) (runs_head p) runs_head_carries ready

  -- so many ticks from the carried machine are the carried ticks, and tell the same
  pub ticks_carry : (n : ℕ) (m : Machine P) → ticks q n (M carry m) ≡ ran_carried carry (ticks p n m)
  ticks_carry zero m = refl
  ticks_carry (suc n) m =
      ap (λ (r : Ran Q). follow r (tick_of q)) (ticks_carry n m)
      ∙ ap (λ (x : Turn Q). record { machine = x.machine; events = (ticks p n m).events ++ x.events }) (tick_carries (turn_of (ticks p n m).machine))
