-- A delivery tells itself, the overrun of a timer is told by nothing, and the threads and the direct moves stay.
use Rattle.std.proofs.Common.{◌≡◌, ◌<◌, ◌∙◌, ℕ, List, None, Option, Some, ap, length, refl, subst, sym}
use Rattle.words_trace.specs.Text.{Entry}
use Rattle.parts_tracer.specs.Tells.{Tells}
use Rattle.words_trace.specs.declared.event.Event.{Event}
use Rattle.words_trace.specs.declared.event.Event.TheVariants as event
use Rattle.parts_tracer.specs.declared.tracer.Tracer.{Tracer}
use Rattle.rules_bodies.specs.declared.cursor.Cursor.{Cursor}
use Rattle.rules_machine.specs.Signals.{delivers, tells_overrun}
use Rattle.rules_machine.specs.State.{SignalRecord, Thread}
use Rattle.rules_machine.specs.Threads.{thread_at, thread_in}
use Rattle.rules_machine.specs.Turns.{Turn, tells}
use Rattle.kernel_threads.specs.Unused.{IsUnused}
use Rattle.kernel_state.specs.Kernel.{Kernel, after, told, turn}

-- ---- a delivery

overrun_events : (k : Option ℕ) (s : Turn Cursor) → (tells_overrun k s).events ≡ s.events
overrun_events None s = refl
overrun_events (Some k) s = refl

same_overrun : (o : Option ℕ) (e : Event) (k : Kernel) → after (tells_overrun o) k ≡ after (λ (s : Turn Cursor). tells_overrun o (tells e s)) k
same_overrun None e k = refl
same_overrun (Some j) e k = refl

pub delivered_state : (t : ℕ) (r : SignalRecord) (k l : Kernel) (o : Option ℕ) → o ≡ r.timer → l ≡ after (tells_overrun o) k → l ≡ after (delivers t r) k
delivered_state t r k l o is e =
    let ev = event.Deliver t r.signal r.code r.value in
    e ∙ same_overrun o ev k ∙ ap (λ (j : Option ℕ). after (λ (s : Turn Cursor). tells_overrun j (tells ev s)) k) is

pub delivered_told : {K : Type 0} (text : K → Option (List ℕ)) (faults : K → ℕ) (t : ℕ) (r : SignalRecord) (k : Kernel) (a b : Tracer K) (e : Event) →
    e ≡ event.Deliver t r.signal r.code r.value → Tells text faults k.names a b (told (tells e) k) → Tells text faults k.names a b (told (delivers t r) k)
delivered_told text faults t r k a b e is h =
    subst (λ (es : List Entry). Tells text faults k.names a b es)
    (ap (λ (e : Event). (tells e (turn k)).events) is ∙ sym (overrun_events r.timer (tells (event.Deliver t r.signal r.code r.value) (turn k)))) h

-- ---- what it leaves

-- the threads and the direct moves stay
pub record Alike (s x : Turn Cursor) : Type 0 where
  pub threads : x.machine.threads ≡ s.machine.threads
  pub actions : x.machine.actions ≡ s.machine.actions
  pub now : x.machine.now ≡ s.machine.now
  pub lists : x.machine.lists ≡ s.machine.lists
  pub direct : x.direct ≡ s.direct

overrun_alike : (k : Option ℕ) (s : Turn Cursor) → Alike s (tells_overrun k s)
overrun_alike None s = record { threads = refl; actions = refl; now = refl; lists = refl; direct = refl }
overrun_alike (Some k) s = record { threads = refl; actions = refl; now = refl; lists = refl; direct = refl }

pub delivers_alike : (t : ℕ) (r : SignalRecord) (s : Turn Cursor) → Alike s (delivers t r s)
delivers_alike t r s =
    let a = overrun_alike r.timer (tells (event.Deliver t r.signal r.code r.value) s) in
    record { threads = a.threads; actions = a.actions; now = a.now; lists = a.lists; direct = a.direct }

-- ---- the same of a kernel

pub delivered_unused : (t u : ℕ) (r : SignalRecord) (k l : Kernel) → l ≡ after (delivers t r) k → IsUnused (thread_at k.machine u).server → IsUnused (thread_at l.machine u).server
delivered_unused t u r k l e h =
    rw e (subst (λ (ths : List (Thread Cursor)). IsUnused (thread_in ths u).server) (sym (delivers_alike t r (turn k)).threads) h)

pub delivered_room : (t : ℕ) (r : SignalRecord) (k l : Kernel) → l ≡ after (delivers t r) k → length k.direct < 512 → length l.direct < 512
delivered_room t r k l e h = rw (e, (delivers_alike t r (turn k)).direct) h

pub delivered_now : (t : ℕ) (r : SignalRecord) (k l : Kernel) → l ≡ after (delivers t r) k → l.machine.now ≡ k.machine.now
delivered_now t r k l e = ap (λ (x : Kernel). x.machine.now) e ∙ (delivers_alike t r (turn k)).now
