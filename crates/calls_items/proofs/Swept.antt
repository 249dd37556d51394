-- What a visit tells is told behind what was told before it.
use Rattle.std.proofs.Common.{◌≡◌, ◌<◌, length, ℕ, List, [], Bool, true, false, None, Option, Some, ap, refl, sym, ◌∙◌}
use Rattle.std.specs.Prelude.{if◌then◌else◌, is_some}
use Rattle.parts_tracer.specs.Tells.{Tells}
use Rattle.words_trace.specs.declared.event.Event.TheVariants as event
use Rattle.parts_tracer.specs.declared.tracer.Tracer.{Tracer}
use Rattle.rules_bodies.specs.Next.{capped}
use Rattle.rules_machine.specs.declared.frame.BodyOf.TheVariants as body_of
use Rattle.rules_machine.specs.declared.frame.FrameKind.TheVariants as frame
use Rattle.rules_machine.specs.declared.signal.SigAction.{SigAction}
use Rattle.rules_machine.specs.declared.signal.SigAction.TheVariants as action
use Rattle.rules_bodies.specs.declared.cursor.Cursor.{Cursor}
use Rattle.rules_machine.specs.Bodies.{Bodies}
use Rattle.rules_machine.specs.Delivery.{acts, can_take, interrupts, may_be_interrupted, sweeps, sweeps_thread, taken_by_sweep, takes_record}
use Rattle.rules_machine.specs.Signals.{delivers, selected, without_record}
use Rattle.rules_machine.specs.State.{Machine, SignalRecord}
use Rattle.rules_machine.specs.Threads.{action_of, thread_at, waiting_of}
use Rattle.rules_machine.specs.Turns.{Turn, becomes, changes, changes_pending}
use Rattle.rules_machine.specs.Waking.{new_frame, on_top}
use Rattle.rules_machine.proofs.Behind.{AddsBehind, tells_behind}
use Rattle.rules_machine.proofs.BehindCalls.{delivers_behind}
use Rattle.rules_machine.proofs.BehindTicks.{interrupts_behind}
use Rattle.rules_flat_code.specs.FlatBodies.{flat_bodies}
use Rattle.kernel_state.specs.Kernel.{Kernel, after, told, turn}
use Rattle.kernel_settling.specs.Stood.{StoodRight}
use Rattle.kernel_settling.proofs.SweepNothing.{sweeps_nothing}
use Rattle.calls_generation.proofs.Same.{nothing_after, nothing_told, same_after, same_told}
use Rattle.kernel_state.specs.Does.{Does}
use Rattle.kernel_state.proofs.Does.{nothing_does}

module _ (bodies : Bodies Cursor) where
  acts_behind : (a : SigAction) (t : ℕ) (r : SignalRecord) → AddsBehind (acts bodies a t r)
  acts_behind action.Kill t r told s = ap (becomes (λ m. record m { killed = Some r.signal })) (tells_behind (event.Killed r.signal) told s)
  acts_behind action.Ignore t r told s = refl
  acts_behind (action.Handler h) t r told s =
      let out = changes_pending (without_record r) s in
      let w = waiting_of s.machine t in
      let top = on_top (new_frame bodies frame.Signal (body_of.Handler h) (capped r.value)) in
      ap (λ (x : Turn Cursor). changes t top (delivers t r x)) (interrupts_behind w t told out) ∙ ap (changes t top) (delivers_behind t r told (interrupts w t out))

  takes_behind : (o : Option SignalRecord) (t : ℕ) → AddsBehind (takes_record bodies o t)
  takes_behind None t told s = refl
  takes_behind (Some r) t told s = acts_behind (action_of s.machine r.signal) t r told s

  visit_behind : (killed : Option ℕ) (t : ℕ) → AddsBehind (sweeps_thread bodies killed t)
  visit_behind (Some signal) t told s = refl
  visit_behind None t told s = takes_behind (taken_by_sweep s.machine t) t told s

  pub thread_behind : (t : ℕ) → AddsBehind (λ (s : Turn Cursor). sweeps_thread bodies s.machine.killed t s)
  thread_behind t told s = visit_behind s.machine.killed t told s

-- ---- which visit it is

killed_visit : (bodies : Bodies Cursor) (killed : Option ℕ) (t : ℕ) (s : Turn Cursor) → is_some killed ≡ true → sweeps_thread bodies killed t s ≡ s
killed_visit bodies None t s h = absurd cc
killed_visit bodies (Some signal) t s h = refl

live_visit : (bodies : Bodies Cursor) (killed : Option ℕ) (t : ℕ) (s : Turn Cursor) → is_some killed ≡ false → sweeps_thread bodies killed t s ≡ takes_record bodies (taken_by_sweep s.machine t) t s
live_visit bodies None t s h = refl
live_visit bodies (Some signal) t s h = absurd cc

-- the process has ended
visit_ended : (bodies : Bodies Cursor) (t : ℕ) (s : Turn Cursor) (b : Bool) → b ≡ is_some s.machine.killed → b ≡ true → sweeps_thread bodies s.machine.killed t s ≡ s
visit_ended bodies t s b is on = killed_visit bodies s.machine.killed t s (sym is ∙ on)

-- it takes nothing
visit_none : (bodies : Bodies Cursor) (t : ℕ) (s : Turn Cursor) (b : Bool) (o : Option SignalRecord) → b ≡ is_some s.machine.killed → b ≡ false → o ≡ taken_by_sweep s.machine t → o ≡ None →
    sweeps_thread bodies s.machine.killed t s ≡ s
visit_none bodies t s b o is off taken none =
    live_visit bodies s.machine.killed t s (sym is ∙ off) ∙ ap (λ (x : Option SignalRecord). takes_record bodies x t s) (sym taken ∙ none)

-- it takes a record
visit_some : (bodies : Bodies Cursor) (t : ℕ) (s : Turn Cursor) (b : Bool) (r : SignalRecord) → b ≡ is_some s.machine.killed → b ≡ false → Some r ≡ taken_by_sweep s.machine t →
    sweeps_thread bodies s.machine.killed t s ≡ acts bodies (action_of s.machine r.signal) t r s
visit_some bodies t s b r is off taken =
    live_visit bodies s.machine.killed t s (sym is ∙ off) ∙ ap (λ (x : Option SignalRecord). takes_record bodies x t s) (sym taken)

-- who takes one may be interrupted
pub taken_may : (m : Machine Cursor) (t : ℕ) (r : SignalRecord) → Some r ≡ taken_by_sweep m t → may_be_interrupted (thread_at m t) ≡ true
taken_may m t r taken = by_test (may_be_interrupted (thread_at m t)) taken
  where
    by_test : (b : Bool) → Some r ≡ (if b then selected m (can_take m t) else None) → b ≡ true
    by_test true h = refl
    by_test false h = absurd cc

-- ---- the same of a kernel

abbrev pub visiting : Bodies Cursor → ℕ → Turn Cursor → Turn Cursor
visiting bodies t s = sweeps_thread bodies s.machine.killed t s

module _ (bodies : Bodies Cursor) (t : ℕ) (k : Kernel) (b : Bool) (killed : b ≡ is_some k.machine.killed) where
  pub as_ended : b ≡ true → k ≡ after (visiting bodies t) k
  as_ended on = nothing_after (visiting bodies t) k (visit_ended bodies t (turn k) b killed on)

  pub as_none : b ≡ false → (o : Option SignalRecord) → o ≡ taken_by_sweep k.machine t → o ≡ None → k ≡ after (visiting bodies t) k
  as_none off o taken none = nothing_after (visiting bodies t) k (visit_none bodies t (turn k) b o killed off taken none)

  pub as_some : b ≡ false → (r : SignalRecord) (l : Kernel) → Some r ≡ taken_by_sweep k.machine t → l ≡ after (acts bodies (action_of k.machine r.signal) t r) k → l ≡ after (visiting bodies t) k
  as_some off r l taken e = same_after (visiting bodies t) (acts bodies (action_of k.machine r.signal) t r) k l (visit_some bodies t (turn k) b r killed off taken) e

  module _ {K : Type 0} (text : K → Option (List ℕ)) (faults : K → ℕ) (a : Tracer K) where
    pub told_ended : b ≡ true → Tells text faults k.names a a (told (visiting bodies t) k)
    told_ended on = nothing_told text faults (visiting bodies t) k a (visit_ended bodies t (turn k) b killed on)

    pub told_none : b ≡ false → (o : Option SignalRecord) → o ≡ taken_by_sweep k.machine t → o ≡ None → Tells text faults k.names a a (told (visiting bodies t) k)
    told_none off o taken none = nothing_told text faults (visiting bodies t) k a (visit_none bodies t (turn k) b o killed off taken none)

    pub told_some : b ≡ false → (r : SignalRecord) (c : Tracer K) → Some r ≡ taken_by_sweep k.machine t → Tells text faults k.names a c (told (acts bodies (action_of k.machine r.signal) t r) k) →
        Tells text faults k.names a c (told (visiting bodies t) k)
    told_some off r c taken h = same_told text faults (visiting bodies t) (acts bodies (action_of k.machine r.signal) t r) k a c (visit_some bodies t (turn k) b r killed off taken) h

-- ---- a sweep in which nobody takes a record

pub nothing_swept : {K : Type 0} {text : K → Option (List ℕ)} {faults : K → ℕ} (k : Kernel) (a : Tracer K) → ((t : ℕ) → t < length k.machine.threads → taken_by_sweep k.machine t ≡ None) → k.direct ≡ [] →
    StoodRight k.machine → Does text faults (sweeps (flat_bodies k.code)) k k a a
nothing_swept k a none quiet stood = nothing_does (sweeps (flat_bodies k.code)) k a (sweeps_nothing (flat_bodies k.code) (turn k) none quiet stood)
