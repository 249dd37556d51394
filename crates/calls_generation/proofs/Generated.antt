-- How a signal that is generated comes out.
use Rattle.std.proofs.Common.{◌≡◌, ◌∙◌, ℕ, Bool, true, false, List, None, Option, Some, ap, refl, subst, sym}
use Rattle.std.specs.Prelude.{if◌then◌else◌, option_map}
use Rattle.words_numbers.specs.declared.res.Res.TheVariants as res
use Rattle.parts_tracer.specs.Tells.{Tells}
use Rattle.parts_tracer.specs.declared.tracer.Tracer.{Tracer}
use Rattle.rules_bodies.specs.declared.cursor.Cursor.{Cursor}
use Rattle.rules_machine.specs.Signals.{acceptor, becomes_pending, delivers, generates, is_accepted_or_pends, is_ignore}
use Rattle.rules_machine.specs.State.{Machine, SignalRecord}
use Rattle.rules_machine.specs.Threads.{action_of}
use Rattle.rules_machine.specs.Turns.{Turn, ◌▷◌}
use Rattle.rules_machine.specs.Waiters.{Waiter}
use Rattle.rules_machine.specs.Waking.{wakes}
use Rattle.kernel_state.specs.Kernel.{Kernel, after, told, turn}
use Rattle.calls_generation.proofs.Same.{nothing_after, nothing_told as nothing_of, same_after, same_told}

thread_of : (o : Option Waiter) → option_map (λ (w : Waiter). w.thread) o ≡ None → o ≡ None
thread_of None e = refl
thread_of (Some w) e = absurd cc

pub nobody_accepts : (m : Machine Cursor) (r : SignalRecord) (o : Option ℕ) → o ≡ option_map (λ (w : Waiter). w.thread) (acceptor m r) → o ≡ None → acceptor m r ≡ None
nobody_accepts m r o is none = thread_of (acceptor m r) (sym is ∙ none)

module _ (r : SignalRecord) (s : Turn Cursor) where
  generated_as : (o : Option Waiter) → acceptor s.machine r ≡ o → generates r s ≡ is_accepted_or_pends o r s
  generated_as o e = ap (λ (x : Option Waiter). is_accepted_or_pends x r s) e

  abbrev ignores : Bool
  ignores = is_ignore (action_of s.machine r.signal)

  accepted : (t : ℕ) → Some t ≡ option_map (λ (w : Waiter). w.thread) (acceptor s.machine r) → generates r s ≡ wakes t res.Zero r.signal (delivers t r s)
  accepted t is = by_acceptor (acceptor s.machine r) refl is
    where
      by_acceptor : (o : Option Waiter) → acceptor s.machine r ≡ o → Some t ≡ option_map (λ (w : Waiter). w.thread) o → generates r s ≡ wakes t res.Zero r.signal (delivers t r s)
      by_acceptor None e h = absurd cc
      by_acceptor (Some w) e h =
          let it : w.thread ≡ t = cc in
          generated_as (Some w) e ∙ ap (λ (u : ℕ). wakes u res.Zero r.signal (delivers u r s)) it

  ignored : acceptor s.machine r ≡ None → ignores ≡ true → generates r s ≡ s
  ignored none on = generated_as None none ∙ ap (λ (b : Bool). if b then s else becomes_pending r s) on

  pending : acceptor s.machine r ≡ None → ignores ≡ false → generates r s ≡ becomes_pending r s
  pending none off = generated_as None none ∙ ap (λ (b : Bool). if b then s else becomes_pending r s) off

  -- nothing happens where nobody accepts it
  silent : acceptor s.machine r ≡ None → (generates r s).events ≡ s.events
  silent none = by_action ignores refl
    where
      by_action : (b : Bool) → ignores ≡ b → (generates r s).events ≡ s.events
      by_action true e = ap (λ (x : Turn Cursor). x.events) (ignored none e)
      by_action false e = ap (λ (x : Turn Cursor). x.events) (pending none e)

-- ---- the same of a kernel

module _ (r : SignalRecord) (k l : Kernel) where
  pub as_accepted : (t : ℕ) → Some t ≡ option_map (λ (w : Waiter). w.thread) (acceptor k.machine r) → l ≡ after (λ (s : Turn Cursor). s ▷ delivers t r ▷ wakes t res.Zero r.signal) k → l ≡ after (generates r) k
  as_accepted t is e = same_after (generates r) (λ s. s ▷ delivers t r ▷ wakes t res.Zero r.signal) k l (accepted r (turn k) t is) e

  pub as_pending : (b : Bool) → b ≡ is_ignore (action_of k.machine r.signal) → b ≡ false → acceptor k.machine r ≡ None → l ≡ after (becomes_pending r) k → l ≡ after (generates r) k
  as_pending b is off none e = same_after (generates r) (becomes_pending r) k l (pending r (turn k) none (sym is ∙ off)) e

pub as_ignored : (r : SignalRecord) (k : Kernel) (b : Bool) → b ≡ is_ignore (action_of k.machine r.signal) → b ≡ true → acceptor k.machine r ≡ None → k ≡ after (generates r) k
as_ignored r k b is on none = nothing_after (generates r) k (ignored r (turn k) none (sym is ∙ on))

module _ {K : Type 0} (text : K → Option (List ℕ)) (faults : K → ℕ) (r : SignalRecord) (k : Kernel) where
  pub told_accepted : (a b : Tracer K) (t : ℕ) → Some t ≡ option_map (λ (w : Waiter). w.thread) (acceptor k.machine r) → Tells text faults k.names a b (told (λ (s : Turn Cursor). s ▷ delivers t r ▷ wakes t res.Zero r.signal) k) →
      Tells text faults k.names a b (told (generates r) k)
  told_accepted a b t is h = same_told text faults (generates r) (λ s. s ▷ delivers t r ▷ wakes t res.Zero r.signal) k a b (accepted r (turn k) t is) h

  pub nothing_told : (a : Tracer K) → acceptor k.machine r ≡ None → Tells text faults k.names a a (told (generates r) k)
  nothing_told a none = subst (Tells text faults k.names a a) (sym (silent r (turn k) none)) (nothing_of text faults (λ s. s) k a refl)
