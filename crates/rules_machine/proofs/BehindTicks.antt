-- Events of two parts, for due items and ticks: what a turn tells is told behind what was told before it.
use Rattle.rules_machine.specs.Lists.{is}
use Rattle.std.proofs.Common.{Bool, List, None, Option, Some, [], ap, false, refl, suc, true, zero, ℕ, ◌∷◌}
use Rattle.std.specs.Prelude.{not, ◌&&◌, ◌==◌}
use mathlib.Core.Path.{◌∙◌}
use Rattle.words_numbers.specs.declared.item.Item.{Item}
use Rattle.words_numbers.specs.declared.item.Item.TheVariants as item
use Rattle.words_numbers.specs.declared.res.Res.TheVariants as res
use Rattle.rules_bodies.specs.Next.{capped}
use Rattle.rules_bodies.specs.declared.unit.Unit.{Unit}
use Rattle.words_trace.specs.declared.event.Event.{Event}
use Rattle.words_trace.specs.declared.event.Event.TheVariants as event
use Rattle.rules_server.specs.Server.{ServerState, activate, is_high, oldest_pending, plan, refill, replenishment}
use Rattle.rules_machine.specs.declared.frame.BodyOf.TheVariants as body_of
use Rattle.rules_machine.specs.declared.frame.FrameKind.TheVariants as frame
use Rattle.rules_machine.specs.declared.signal.SigAction.{SigAction}
use Rattle.rules_machine.specs.declared.signal.SigAction.TheVariants as action
use Rattle.rules_machine.specs.declared.thread.CondEnd.TheVariants as cond_end
use Rattle.rules_machine.specs.Bodies.{Bodies}
use Rattle.rules_machine.specs.State.{Machine, SignalRecord, Wait, Waiting, for_condition, for_signal, for_time}
use Rattle.rules_machine.specs.Threads.{action_of, can_run, thread_at, thread_numbers, timer_at, top_left, waiting_of}
use Rattle.rules_machine.specs.Turns.{Turn, becomes, changes, changes_pending, changes_timer, settles_since, tells}
use Rattle.rules_machine.specs.Servers.{activates_if, amount_of, closes, closes_of, has_high, has_run, is_strict, opens, opens_for, opens_if, plans, plans_server, plans_if, refills_server, regains_high, with_server}
use Rattle.rules_machine.specs.Waking.{new_frame, on_top}
use Rattle.rules_machine.specs.Mutexes.{moves_unless_boosted}
use Rattle.rules_machine.specs.Signals.{delivers, without_record}
use Rattle.rules_machine.specs.Timers.{armed_again, expires, is_pending_from, overrun_once_more, record_of_timer, signals_expiry}
use Rattle.rules_machine.specs.Delivery.{acts, interrupts, sweeps, sweeps_all, sweeps_thread, taken_by_sweep, takes_record, ticks_left}
use Rattle.rules_machine.specs.DueItems.{handles, instant, item_done, times_out, wait_times_out}
use Rattle.rules_machine.specs.Dispatch.{dispatch_event, dispatch_of, dispatches, head, is_same, tells_unless}
use Rattle.rules_machine.specs.Units.{InUnit, in_unit}
use Rattle.rules_machine.specs.Ticks.{TickEnd, completes_at, ends_tick, exhausting, goes_on, later, nothing, planning, runs, runs_head, slicing, tick, tick_charged, tick_end, tick_ends, unit_ticked, unless_killed, without_slice, prepares}
use Rattle.rules_machine.proofs.Behind.{AddsBehind, activates_if_behind, if_behind, tells_behind, wakes_behind}
use Rattle.rules_machine.proofs.BehindCalls.{contends_behind, delivers_behind, generates_behind, moves_if_behind, moves_unless_boosted_behind, starts_behind, unit_effect_behind}

module _ {P : Type 0} where
  -- ---- items

  pub refills_for_behind : (t : ℕ) (server : Option ServerState) → AddsBehind {P = P} (refills_server t server)
  refills_for_behind t None told s = refl
  refills_for_behind t (Some server) told s =
      let e = event.Refill t (amount_of (oldest_pending server)) (refill server).capacity in
      let regains = regains_high server && can_run s.machine t in
      let fed = changes t (with_server refill) s in
      ap (activates_if regains t) (tells_behind e told fed) ∙ activates_if_behind regains t told (tells e fed)

  pub times_out_of_behind : (wait : Wait) (t : ℕ) → AddsBehind {P = P} (wait_times_out wait t)
  times_out_of_behind (for_condition c k) t told s = contends_behind t cond_end.Timedout told s
  times_out_of_behind for_time t told s = wakes_behind t res.Zero 0 told s
  times_out_of_behind (for_signal set) t told s = wakes_behind t res.Again 0 told s
  times_out_of_behind _ t told s = wakes_behind t res.Timedout 0 told s

  pub times_out_behind : (w : Option Waiting) (t : ℕ) → AddsBehind {P = P} (times_out w t)
  times_out_behind None t told s = refl
  times_out_behind (Some w) t told s = times_out_of_behind w.wait t told s

  pub signals_expiry_behind : (k : ℕ) → AddsBehind {P = P} (signals_expiry k)
  signals_expiry_behind k =
      if_behind (λ m. is_pending_from k m) (changes_timer k overrun_once_more) _ (λ told s. refl) (λ told s. generates_behind (record_of_timer k (timer_at s.machine k)) told s)

  pub expires_behind : (k : ℕ) → AddsBehind {P = P} (expires k)
  expires_behind k told s = ap (changes_timer k (armed_again s.machine.now)) (signals_expiry_behind k told s)

  pub interrupts_behind : (w : Option Waiting) (t : ℕ) → AddsBehind {P = P} (interrupts w t)
  interrupts_behind None t told s = refl
  interrupts_behind (Some w) t told s = wakes_behind t res.Intr (ticks_left w.call w.due s.machine.now) told s

  -- ---- the dispatch, and the rule of the tick's end

  pub tells_unless_behind : (b : Bool) (e : Event) → AddsBehind {P = P} (tells_unless b e)
  tells_unless_behind true e told s = refl
  tells_unless_behind false e told s = tells_behind e told s

  pub dispatches_behind : (to : Option ℕ) → AddsBehind {P = P} (dispatches to)
  dispatches_behind to told s =
      ap (becomes (λ m. record m { last = dispatch_of to })) (tells_unless_behind (is_same s.machine.last to) (dispatch_event s.machine to) told s)

  pub plans_for_behind : (t : ℕ) (server : Option ServerState) → AddsBehind {P = P} (plans_server t server)
  plans_for_behind t None told s = refl
  plans_for_behind t (Some server) told s = tells_behind (event.Plan t (replenishment server).amount (replenishment server).due) told (changes t (with_server plan) s)

  -- Close and Open

  plans_if_behind : (b : Bool) (t : ℕ) → AddsBehind {P = P} (plans_if b t)
  plans_if_behind true t told s = plans_for_behind t (thread_at s.machine t).server told s
  plans_if_behind false t told s = refl

  closes_of_behind : (to : Option ℕ) (ts : List ℕ) → AddsBehind {P = P} (closes_of to ts)
  closes_of_behind to [] told s = refl
  closes_of_behind to (t ∷ ts) told s =
      let b = not (is to t) && has_run (thread_at s.machine t).server in
      ap (closes_of to ts) (plans_if_behind b t told s) ∙ closes_of_behind to ts told (plans_if b t s)

  pub closes_behind : (to : Option ℕ) → AddsBehind {P = P} (closes to)
  closes_behind to told s = closes_of_behind to (thread_numbers s.machine) told s

  opens_if_behind : (b : Bool) (t : ℕ) (server : ServerState) → AddsBehind {P = P} (opens_if b t server)
  opens_if_behind true t server told s = tells_behind (event.Activate t server.capacity) told (changes t (with_server (activate s.machine.now)) s)
  opens_if_behind false t server told s = refl

  opens_for_behind : (t : ℕ) (server : Option ServerState) → AddsBehind {P = P} (opens_for t server)
  opens_for_behind t None told s = refl
  opens_for_behind t (Some server) told s = opens_if_behind (is_strict server.kind && is_high server && server.consumed == 0) t server told s

  pub opens_behind : (to : Option ℕ) → AddsBehind {P = P} (opens to)
  opens_behind None told s = refl
  opens_behind (Some t) told s = opens_for_behind t (thread_at s.machine t).server told s

  pub ends_tick_behind : (e : TickEnd) (t : ℕ) → AddsBehind {P = P} (ends_tick e t)
  ends_tick_behind planning t told s = plans_for_behind t (thread_at s.machine t).server told s
  ends_tick_behind exhausting t told s =
      let out = tells (event.Exhaust t) s in
      ap (λ (x : Turn P). moves_unless_boosted t (plans t x)) (tells_behind (event.Exhaust t) told s)
      ∙ ap (moves_unless_boosted t) (plans_for_behind t (thread_at s.machine t).server told out)
      ∙ moves_unless_boosted_behind t told (plans t out)
  ends_tick_behind slicing t told s = moves_if_behind (can_run s.machine t) t told (changes t without_slice s)
  ends_tick_behind nothing t told s = refl

  pub tick_ends_behind : (was_high : Bool) (t : ℕ) → AddsBehind {P = P} (tick_ends was_high t)
  tick_ends_behind was_high t told s =
      ap (settles_since s.machine) (ends_tick_behind (tick_end was_high s.machine.quantum (thread_at s.machine t)) t told s)

  unless_killed_behind : (killed : Option ℕ) (f : Turn P → Turn P) → AddsBehind f → AddsBehind (unless_killed killed f)
  unless_killed_behind None f h told s = h told s
  unless_killed_behind (Some signal) f h told s = refl

module _ {P : Type 0} (bodies : Bodies P) where
  -- ---- the sweep

  acts_behind : (a : SigAction) (t : ℕ) (r : SignalRecord) → AddsBehind (acts bodies a t r)
  acts_behind action.Kill t r told s = ap (becomes (λ m. record m { killed = Some r.signal })) (tells_behind (event.Killed r.signal) told s)
  acts_behind action.Ignore t r told s = refl
  acts_behind (action.Handler h) t r told s =
      let out = changes_pending (without_record r) s in
      let w = waiting_of s.machine t in
      let frame' = on_top (new_frame bodies frame.Signal (body_of.Handler h) (capped r.value)) in
      ap (λ (x : Turn P). changes t frame' (delivers t r x)) (interrupts_behind w t told out) ∙ ap (changes t frame') (delivers_behind t r told (interrupts w t out))

  takes_record_behind : (r : Option SignalRecord) (t : ℕ) → AddsBehind (takes_record bodies r t)
  takes_record_behind None t told s = refl
  takes_record_behind (Some r) t told s = acts_behind (action_of s.machine r.signal) t r told s

  sweeps_thread_behind : (killed : Option ℕ) (t : ℕ) → AddsBehind (sweeps_thread bodies killed t)
  sweeps_thread_behind (Some signal) t told s = refl
  sweeps_thread_behind None t told s = takes_record_behind (taken_by_sweep s.machine t) t told s

  sweeps_all_behind : (ts : List ℕ) → AddsBehind (sweeps_all bodies ts)
  sweeps_all_behind [] told s = refl
  sweeps_all_behind (t ∷ ts) told s =
      ap (sweeps_all bodies ts) (sweeps_thread_behind s.machine.killed t told s) ∙ sweeps_all_behind ts told (sweeps_thread bodies s.machine.killed t s)

  pub sweeps_behind : AddsBehind (sweeps bodies)
  sweeps_behind told s = ap (settles_since s.machine) (sweeps_all_behind (thread_numbers s.machine) told s)

  -- ---- all items of an instant

  handles_behind : (i : Item) → AddsBehind (handles bodies i)
  handles_behind (item.Refill t) told s = refills_for_behind t (thread_at s.machine t).server told s
  handles_behind (item.Start t) told s = starts_behind bodies t 0 told s
  handles_behind (item.Timeout t) told s = times_out_behind (waiting_of s.machine t) t told s
  handles_behind (item.Timer k) told s = expires_behind k told s

  pub item_done_behind : (i : Item) → AddsBehind (item_done bodies i)
  item_done_behind i told s =
      ap (λ (x : Turn P). sweeps bodies (settles_since s.machine x)) (handles_behind i told s) ∙ sweeps_behind told (settles_since s.machine (handles bodies i s))

  -- ---- a tick

  pub completes_behind : (left t : ℕ) (unit' : Unit) → AddsBehind (completes_at bodies left t unit')
  completes_behind zero t unit' told s = unit_effect_behind bodies t unit' told s
  completes_behind (suc left) t unit' told s = refl

  pub unit_ticked_behind : (before : Machine P) (t : ℕ) (taken : InUnit P) → AddsBehind (unit_ticked bodies before t taken)
  unit_ticked_behind before t taken told s =
      let charged = becomes later (changes t (λ th. tick_charged taken.thread) s) in
      ap (settles_since before) (completes_behind (top_left (thread_at charged.machine t).frames) t taken.unit told charged)

  pub runs_behind : (to : Option ℕ) → AddsBehind (runs bodies to)
  runs_behind None told s = refl
  runs_behind (Some t) told s =
      let taken = in_unit bodies (thread_at s.machine t) in
      let was_high = has_high (thread_at s.machine t).server in
      let done = unit_ticked bodies s.machine t taken s in
      ap (λ (x : Turn P). sweeps bodies (tick_ends was_high t x)) (unit_ticked_behind s.machine t taken told s)
      ∙ ap (sweeps bodies) (tick_ends_behind was_high t told done)
      ∙ sweeps_behind told (tick_ends was_high t done)

  pub prepares_behind : (to : Option ℕ) → AddsBehind {P = P} (prepares to)
  prepares_behind to told s =
      let closed = closes to s in
      let sent = dispatches to closed in
      ap (λ (x : Turn P). opens to (dispatches to x)) (closes_behind to told s) ∙ ap (opens to) (dispatches_behind to told closed) ∙ opens_behind to told sent

  runs_head_behind : AddsBehind (runs_head bodies)
  runs_head_behind told s =
      let to = head s.machine in
      let closed = closes to s in
      let sent = dispatches to closed in
      ap (λ (x : Turn P). runs bodies to (opens to (dispatches to x))) (closes_behind to told s)
      ∙ ap (λ (x : Turn P). runs bodies to (opens to x)) (dispatches_behind to told closed)
      ∙ ap (runs bodies to) (opens_behind to told sent)
      ∙ runs_behind to told (opens to sent)

  pub goes_on_behind : AddsBehind (goes_on bodies)
  goes_on_behind told s = unless_killed_behind s.machine.killed (runs_head bodies) runs_head_behind told s
