-- How a wait for signals comes out.
use Rattle.std.proofs.Common.{◌≡◌, ◌≢◌, ◌+◌, ◌∙◌, ℕ, zero, suc, List, None, Option, Some, ap, refl, subst, sym}
use Rattle.std.specs.Prelude.{◌&&◌}
use Rattle.words_numbers.specs.Signals.{has_signal}
use Rattle.words_numbers.specs.declared.res.Res.TheVariants as res
use Rattle.parts_tracer.specs.Tells.{Tells}
use Rattle.parts_tracer.specs.declared.tracer.Tracer.{Tracer}
use Rattle.parts_tracer.proofs.Tells.{tells_nothing}
use Rattle.rules_bodies.specs.declared.cursor.Cursor.{Cursor}
use Rattle.rules_machine.specs.Signals.{delivers, may_go_to, selected, waits_signal, takes_signal_or_waits, blocks_for_signal, without_record}
use Rattle.rules_machine.specs.State.{Machine, SignalRecord, for_signal}
use Rattle.rules_machine.specs.Turns.{Caller, Turn, changes_pending, returns, ◌▷◌}
use Rattle.rules_machine.specs.Waking.{blocks}
use Rattle.kernel_state.specs.Kernel.{Kernel, after, told}

-- the pending record that a thread takes which asks for a set
abbrev pub awaited : Machine Cursor → ℕ → ℕ → Option SignalRecord
awaited m t set = selected m (λ (r : SignalRecord). has_signal set r.signal && may_go_to t r.target)

module _ (ticks : Option ℕ) (by : Caller) (set : ℕ) (k l : Kernel) where
  pub waits_some : (r : SignalRecord) → Some r ≡ awaited k.machine by.thread set → l ≡ after (λ (s : Turn Cursor). s ▷ changes_pending (without_record r) ▷ delivers by.thread r ▷ returns by res.Zero r.signal) k →
      l ≡ after (waits_signal ticks by set) k
  waits_some r is e = e ∙ ap (λ (o : Option SignalRecord). after (takes_signal_or_waits o ticks by set) k) is

  pub waits_none : (o : Option SignalRecord) → o ≡ awaited k.machine by.thread set → o ≡ None → l ≡ after (blocks_for_signal ticks by set) k → l ≡ after (waits_signal ticks by set) k
  waits_none o is none e = e ∙ ap (λ (o : Option SignalRecord). after (takes_signal_or_waits o ticks by set) k) (sym none ∙ is)

module _ {K : Type 0} (text : K → Option (List ℕ)) (faults : K → ℕ) (ticks : Option ℕ) (by : Caller) (set : ℕ) (k : Kernel) (a b : Tracer K) where
  pub told_some : (r : SignalRecord) → Some r ≡ awaited k.machine by.thread set →
      Tells text faults k.names a b (told (λ (s : Turn Cursor). s ▷ changes_pending (without_record r) ▷ delivers by.thread r ▷ returns by res.Zero r.signal) k) → Tells text faults k.names a b (told (waits_signal ticks by set) k)
  told_some r is h = subst (λ (o : Option SignalRecord). Tells text faults k.names a b (told (takes_signal_or_waits o ticks by set) k)) is h

  pub told_none : (o : Option SignalRecord) → o ≡ awaited k.machine by.thread set → o ≡ None → Tells text faults k.names a b (told (blocks_for_signal ticks by set) k) → Tells text faults k.names a b (told (waits_signal ticks by set) k)
  told_none o is none h = subst (λ (o : Option SignalRecord). Tells text faults k.names a b (told (takes_signal_or_waits o ticks by set) k)) (sym none ∙ is) h

-- some ticks are given to wait
pub waits_some_ticks : (n : ℕ) (by : Caller) (set : ℕ) (k l : Kernel) → n ≢ 0 → l ≡ after (blocks by (for_signal set) (Some (k.machine.now + n))) k → l ≡ after (blocks_for_signal (Some n) by set) k
waits_some_ticks zero by set k l some e = absurd (some refl)
waits_some_ticks (suc n) by set k l some e = e

-- then nothing is told
pub told_some_ticks : {K : Type 0} (text : K → Option (List ℕ)) (faults : K → ℕ) (n : ℕ) (by : Caller) (set : ℕ) (k : Kernel) (a : Tracer K) → n ≢ 0 → Tells text faults k.names a a (told (blocks_for_signal (Some n) by set) k)
told_some_ticks text faults zero by set k a some = absurd (some refl)
told_some_ticks text faults (suc n) by set k a some = tells_nothing text faults k.names a
