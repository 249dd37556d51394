-- The instant counts the ticks: an item leaves it, a tick moves it by one, and a process that has ended stays as it is.
use Rattle.rules_machine.specs.Lists.{is}
use Rattle.std.proofs.Common.{Bool, List, None, Option, Some, [], ap, arith, false, refl, suc, true, zero, ℕ, ◌+◌, ◌∷◌, ◌≡◌}
use Rattle.std.specs.Prelude.{not, ◌&&◌, ◌==◌}
use mathlib.Core.Path.{◌∙◌}
use Rattle.words_numbers.specs.declared.item.Item.{Item}
use Rattle.words_numbers.specs.declared.item.Item.TheVariants as item
use Rattle.words_numbers.specs.declared.res.Res.TheVariants as res
use Rattle.words_trace.specs.declared.event.Event.{Event}
use Rattle.words_trace.specs.declared.event.Event.TheVariants as event
use Rattle.rules_server.specs.Server.{ServerState, is_high, oldest_pending, refill}
use Rattle.rules_machine.specs.declared.thread.CondEnd.TheVariants as cond_end
use Rattle.rules_machine.specs.Bodies.{Bodies}
use Rattle.rules_machine.specs.State.{Machine, Wait, Waiting, for_condition, for_signal, for_time}
use Rattle.rules_machine.specs.Threads.{can_run, thread_at, thread_numbers, timer_at, waiting_of}
use Rattle.rules_machine.specs.Turns.{Turn, changes, settles_since, tells, turn_of}
use Rattle.rules_machine.specs.Servers.{amount_of, closes, closes_of, has_run, is_strict, opens, opens_for, opens_if, plans_server, plans_if, refills_server, regains_high, with_server}
use Rattle.rules_machine.specs.Timers.{is_pending_from, record_of_timer, signals_expiry}
use Rattle.rules_machine.specs.DueItems.{due_items, first_item, handles, instant, item_bound, item_done, item_then, items_done, next_item, times_out, wait_times_out}
use Rattle.rules_machine.specs.Dispatch.{dispatch_event, dispatches, head, is_same, tells_unless}
use Rattle.rules_machine.specs.Ticks.{goes_on, runs_head, tick, unless_killed}
use Rattle.rules_machine.specs.Runs.{tick_of}
use Rattle.rules_machine.proofs.Kept.{Kept, activates_if_kept, if_kept, kept, wakes_kept}
use Rattle.rules_machine.proofs.KeptByCalls.{contends_kept, generates_kept, starts_kept}
use Rattle.rules_machine.proofs.Instants.{runs_now, sweeps_now}

-- ---- an item leaves the instant

refills_for_kept : {P : Type 0} (t : ℕ) (server : Option ServerState) (s : Turn P) → kept (refills_server t server s) ≡ kept s
refills_for_kept t None s = refl
refills_for_kept t (Some server) s =
    let e = event.Refill t (amount_of (oldest_pending server)) (refill server).capacity in
    activates_if_kept (regains_high server && can_run s.machine t) t (tells e (changes t (with_server refill) s))

times_out_of_kept : {P : Type 0} (wait : Wait) (t : ℕ) (s : Turn P) → kept (wait_times_out wait t s) ≡ kept s
times_out_of_kept (for_condition c k) t s = contends_kept t cond_end.Timedout s
times_out_of_kept for_time t s = wakes_kept t res.Zero 0 s
times_out_of_kept (for_signal set) t s = wakes_kept t res.Again 0 s
times_out_of_kept _ t s = wakes_kept t res.Timedout 0 s

times_out_kept : {P : Type 0} (w : Option Waiting) (t : ℕ) (s : Turn P) → kept (times_out w t s) ≡ kept s
times_out_kept None t s = refl
times_out_kept (Some w) t s = times_out_of_kept w.wait t s

signals_expiry_kept : {P : Type 0} (k : ℕ) (s : Turn P) → kept (signals_expiry k s) ≡ kept s
signals_expiry_kept k s = if_kept (is_pending_from k s.machine) _ _ s refl (generates_kept (record_of_timer k (timer_at s.machine k)) s)

tells_unless_kept : {P : Type 0} (b : Bool) (e : Event) (s : Turn P) → kept (tells_unless b e s) ≡ kept s
tells_unless_kept true e s = refl
tells_unless_kept false e s = refl

plans_for_now : {P : Type 0} (t : ℕ) (server : Option ServerState) (s : Turn P) → (plans_server t server s).machine.now ≡ s.machine.now
plans_for_now t None s = refl
plans_for_now t (Some server) s = refl

plans_if_now : {P : Type 0} (b : Bool) (t : ℕ) (s : Turn P) → (plans_if b t s).machine.now ≡ s.machine.now
plans_if_now true t s = plans_for_now t (thread_at s.machine t).server s
plans_if_now false t s = refl

closes_of_now : {P : Type 0} (to : Option ℕ) (ts : List ℕ) (s : Turn P) → (closes_of to ts s).machine.now ≡ s.machine.now
closes_of_now to [] s = refl
closes_of_now to (t ∷ ts) s =
    let b = not (is to t) && has_run (thread_at s.machine t).server in
    closes_of_now to ts (plans_if b t s) ∙ plans_if_now b t s

opens_if_now : {P : Type 0} (b : Bool) (t : ℕ) (server : ServerState) (s : Turn P) → (opens_if b t server s).machine.now ≡ s.machine.now
opens_if_now true t server s = refl
opens_if_now false t server s = refl

opens_for_now : {P : Type 0} (t : ℕ) (server : Option ServerState) (s : Turn P) → (opens_for t server s).machine.now ≡ s.machine.now
opens_for_now t None s = refl
opens_for_now t (Some server) s = opens_if_now (is_strict server.kind && is_high server && server.consumed == 0) t server s

opens_now : {P : Type 0} (to : Option ℕ) (s : Turn P) → (opens to s).machine.now ≡ s.machine.now
opens_now None s = refl
opens_now (Some t) s = opens_for_now t (thread_at s.machine t).server s

dispatch_now : {P : Type 0} (to : Option ℕ) (s : Turn P) → (dispatches to s).machine.now ≡ s.machine.now
dispatch_now to s = ap (λ (k : Kept). k.now) (tells_unless_kept (is_same s.machine.last to) (dispatch_event s.machine to) s)

module _ {P : Type 0} (bodies : Bodies P) where
  pub handles_kept : (i : Item) (s : Turn P) → kept (handles bodies i s) ≡ kept s
  handles_kept (item.Refill t) s = refills_for_kept t (thread_at s.machine t).server s
  handles_kept (item.Start t) s = starts_kept bodies t 0 s
  handles_kept (item.Timeout t) s = times_out_kept (waiting_of s.machine t) t s
  handles_kept (item.Timer k) s = signals_expiry_kept k s

  item_done_now : (i : Item) (s : Turn P) → (item_done bodies i s).machine.now ≡ s.machine.now
  item_done_now i s = sweeps_now bodies (settles_since s.machine (handles bodies i s)) ∙ ap (λ (k : Kept). k.now) (handles_kept i s)

  item_then_now : (o : Option Item) (rest : Turn P → Turn P) → ((s : Turn P) → (rest s).machine.now ≡ s.machine.now) → (s : Turn P) →
      (item_then bodies o rest s).machine.now ≡ s.machine.now
  item_then_now None rest h s = refl
  item_then_now (Some i) rest h s = h (item_done bodies i s) ∙ item_done_now i s

  items_done_now : (most : ℕ) (s : Turn P) → (items_done bodies most s).machine.now ≡ s.machine.now
  items_done_now zero s = refl
  items_done_now (suc most) s = item_then_now (next_item s.machine) (items_done bodies most) (items_done_now most) s

  pub instant_now : (s : Turn P) → (instant bodies s).machine.now ≡ s.machine.now
  instant_now s = items_done_now (item_bound s.machine) s

  -- ---- a tick moves it by one

  unless_killed_now : (killed : Option ℕ) (s : Turn P) → killed ≡ None → (unless_killed killed (runs_head bodies) s).machine.now ≡ s.machine.now + 1
  unless_killed_now None s e =
      let to = head s.machine in
      let closed = closes to s in
      let sent = dispatches to closed in
      runs_now bodies to (opens to sent)
      ∙ ap (λ (n : ℕ). n + 1) (opens_now to sent ∙ dispatch_now to closed ∙ closes_of_now to (thread_numbers s.machine) s)
  unless_killed_now (Some signal) s e = absurd (grind arith)

  -- where no item of the instant ends the process
  pub tick_now : (s : Turn P) → (instant bodies s).machine.killed ≡ None → (tick bodies s).machine.now ≡ s.machine.now + 1
  tick_now s e =
      let ready = instant bodies s in
      unless_killed_now ready.machine.killed ready e ∙ ap (λ (n : ℕ). n + 1) (instant_now s)

  -- ---- a process that has ended stays as it is

  ended_items : (most : ℕ) (signal : ℕ) (s : Turn P) → s.machine.killed ≡ Some signal → items_done bodies most s ≡ s
  ended_items zero signal s e = refl
  ended_items (suc most) signal s e = ap (λ (o : Option ℕ). item_then bodies (first_item o (due_items s.machine)) (items_done bodies most) s) e

  pub ended_stays : (signal : ℕ) (m : Machine P) → m.killed ≡ Some signal → tick_of bodies m ≡ record { machine = m; events = [] }
  ended_stays signal m e =
      let s = turn_of m in
      ap (λ (x : Turn P). record { machine = (goes_on bodies x).machine; events = (goes_on bodies x).events }) (ended_items (item_bound m) signal s e)
      ∙ ap (λ (o : Option ℕ). record { machine = (unless_killed o (runs_head bodies) s).machine; events = (unless_killed o (runs_head bodies) s).events }) e
