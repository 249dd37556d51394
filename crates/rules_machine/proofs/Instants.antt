-- A settling changes the lists alone, and a tick moves the instant by one.
use Rattle.std.proofs.Common.{Bool, List, None, Option, Some, [], ap, refl, suc, zero, ℕ, ◌+◌, ◌∷◌, ◌≡◌}
use mathlib.Core.Path.{◌∙◌}
use Rattle.words_numbers.specs.declared.res.Res.TheVariants as res
use Rattle.words_trace.specs.declared.event.Event.TheVariants as event
use Rattle.rules_bodies.specs.declared.unit.Unit.{Unit}
use Rattle.rules_server.specs.Server.{ServerState}
use Rattle.rules_machine.specs.declared.signal.SigAction.{SigAction}
use Rattle.rules_machine.specs.declared.signal.SigAction.TheVariants as action
use Rattle.rules_machine.specs.Bodies.{Bodies}
use Rattle.rules_machine.specs.State.{Machine, SignalRecord, Waiting}
use Rattle.rules_machine.specs.Threads.{action_of, can_run, thread_at, thread_numbers, top_left, waiting_of}
use Rattle.rules_machine.specs.Turns.{Turn, becomes, changes, changes_pending, tells}
use Rattle.rules_machine.specs.Servers.{has_high, plans, plans_server}
use Rattle.rules_machine.specs.Signals.{without_record}
use Rattle.rules_machine.specs.Delivery.{acts, interrupts, sweeps, sweeps_all, sweeps_thread, taken_by_sweep, takes_record, ticks_left}
use Rattle.rules_machine.specs.Units.{InUnit, in_unit}
use Rattle.rules_machine.specs.Ticks.{TickEnd, completes_at, ends_tick, exhausting, later, nothing, planning, runs, slicing, tick_charged, tick_end, tick_ends, unit_ticked, without_slice}
use Rattle.rules_machine.proofs.Kept.{Kept, kept, wakes_kept}
use Rattle.rules_machine.proofs.KeptByCalls.{delivers_kept, moves_if_kept, moves_unless_boosted_kept, unit_effect_kept}

-- ---- a settling changes the lists alone

-- ---- the parts of a tick leave the instant

pub interrupts_kept : {P : Type 0} (w : Option Waiting) (t : ℕ) (s : Turn P) → kept (interrupts w t s) ≡ kept s
interrupts_kept None t s = refl
interrupts_kept (Some w) t s = wakes_kept t res.Intr (ticks_left w.call w.due s.machine.now) s

pub plans_kept : {P : Type 0} (t : ℕ) (server : Option ServerState) (s : Turn P) → kept (plans_server t server s) ≡ kept s
plans_kept t None s = refl
plans_kept t (Some server) s = refl

pub ends_tick_kept : {P : Type 0} (e : TickEnd) (t : ℕ) (s : Turn P) → kept (ends_tick e t s) ≡ kept s
ends_tick_kept planning t s = plans_kept t (thread_at s.machine t).server s
ends_tick_kept exhausting t s =
    let told = tells (event.Exhaust t) s in
    moves_unless_boosted_kept t (plans t told) ∙ plans_kept t (thread_at s.machine t).server told
ends_tick_kept slicing t s = moves_if_kept (can_run s.machine t) t (changes t without_slice s)
ends_tick_kept nothing t s = refl

pub tick_ends_now : {P : Type 0} (was_high : Bool) (t : ℕ) (s : Turn P) → (tick_ends was_high t s).machine.now ≡ s.machine.now
tick_ends_now was_high t s = ap (λ (k : Kept). k.now) (ends_tick_kept (tick_end was_high s.machine.quantum (thread_at s.machine t)) t s)

module _ {P : Type 0} (bodies : Bodies P) where
  pub acts_now : (a : SigAction) (t : ℕ) (r : SignalRecord) (s : Turn P) → (acts bodies a t r s).machine.now ≡ s.machine.now
  acts_now action.Kill t r s = refl
  acts_now action.Ignore t r s = refl
  acts_now (action.Handler h) t r s =
      let out = changes_pending (without_record r) s in
      let woken = interrupts (waiting_of s.machine t) t out in
      ap (λ (k : Kept). k.now) (delivers_kept t r woken ∙ interrupts_kept (waiting_of s.machine t) t out)

  pub takes_record_now : (r : Option SignalRecord) (t : ℕ) (s : Turn P) → (takes_record bodies r t s).machine.now ≡ s.machine.now
  takes_record_now None t s = refl
  takes_record_now (Some r) t s = acts_now (action_of s.machine r.signal) t r s

  pub sweeps_thread_now : (killed : Option ℕ) (t : ℕ) (s : Turn P) → (sweeps_thread bodies killed t s).machine.now ≡ s.machine.now
  sweeps_thread_now None t s = takes_record_now (taken_by_sweep s.machine t) t s
  sweeps_thread_now (Some signal) t s = refl

  pub sweeps_all_now : (ts : List ℕ) (s : Turn P) → (sweeps_all bodies ts s).machine.now ≡ s.machine.now
  sweeps_all_now [] s = refl
  sweeps_all_now (t ∷ ts) s = sweeps_all_now ts (sweeps_thread bodies s.machine.killed t s) ∙ sweeps_thread_now s.machine.killed t s

  pub sweeps_now : (s : Turn P) → (sweeps bodies s).machine.now ≡ s.machine.now
  sweeps_now s = sweeps_all_now (thread_numbers s.machine) s

  pub completes_now : (left t : ℕ) (unit : Unit) (s : Turn P) → (completes_at bodies left t unit s).machine.now ≡ s.machine.now
  completes_now zero t unit s = ap (λ (k : Kept). k.now) (unit_effect_kept bodies t unit s)
  completes_now (suc left) t unit s = refl

  -- ---- and the charge moves it by one

  pub unit_ticked_now : (before : Machine P) (t : ℕ) (taken : InUnit P) (s : Turn P) → (unit_ticked bodies before t taken s).machine.now ≡ s.machine.now + 1
  unit_ticked_now before t taken s =
      let charged = becomes later (changes t (λ th. tick_charged taken.thread) s) in
      completes_now (top_left (thread_at charged.machine t).frames) t taken.unit charged

  pub runs_now : (to : Option ℕ) (s : Turn P) → (runs bodies to s).machine.now ≡ s.machine.now + 1
  runs_now None s = refl
  runs_now (Some t) s =
      let taken = in_unit bodies (thread_at s.machine t) in
      let done = unit_ticked bodies s.machine t taken s in
      let was_high = has_high (thread_at s.machine t).server in
      sweeps_now (tick_ends was_high t done) ∙ tick_ends_now was_high t done ∙ unit_ticked_now s.machine t taken s
