-- How a signal that is sent comes out.
use Rattle.std.proofs.Common.{◌≡◌, ◌∙◌, ℕ, Bool, true, false, List, None, Option, Some, ap, refl, sym}
use Rattle.std.specs.Prelude.{if◌then◌else◌, is_none, not, option_map, ◌&&◌}
use Rattle.words_numbers.specs.declared.res.Res.TheVariants as res
use Rattle.parts_tracer.specs.Tells.{Tells}
use Rattle.parts_tracer.specs.declared.tracer.Tracer.{Tracer}
use Rattle.rules_bodies.specs.declared.cursor.Cursor.{Cursor}
use Rattle.rules_machine.specs.Signals.{acceptor, becomes_pending, delivers, generates, is_accepted_or_pends, has_no_room, is_full, is_ignore, sends_signal}
use Rattle.rules_machine.specs.State.{SignalRecord}
use Rattle.rules_machine.specs.Threads.{action_of}
use Rattle.rules_machine.specs.Turns.{Caller, Turn, answered, returns, ◌▷◌}
use Rattle.rules_machine.specs.Waiters.{Waiter}
use Rattle.rules_machine.specs.Waking.{wakes}
use Rattle.rules_moves.proofs.Calls.Answers.{acceptor_kept}
use Rattle.kernel_state.specs.Kernel.{Kernel, after, told, turn}
use Rattle.calls_generation.proofs.Same.{same_after, same_told}

module _ (by : Caller) (r : SignalRecord) (s : Turn Cursor) where
  -- who accepts it is the same once the call has returned
  same_acceptor : acceptor (returns by res.Zero 0 s).machine r ≡ acceptor s.machine r
  same_acceptor = acceptor_kept s.machine by.thread (answered res.Zero 0) r (λ th. refl) (λ th. refl)

  sent_as : (o : Option Waiter) (b : Bool) → acceptor s.machine r ≡ o → has_no_room s.machine r ≡ b →
      sends_signal by r s ≡ (if b then returns by res.Again 0 s else is_accepted_or_pends o r (returns by res.Zero 0 s))
  sent_as o b e h =
      ap (λ (c : Bool). if c then returns by res.Again 0 s else generates r (returns by res.Zero 0 s)) h
      ∙ ap (λ (x : Option Waiter). if b then returns by res.Again 0 s else is_accepted_or_pends x r (returns by res.Zero 0 s)) (same_acceptor ∙ e)

  abbrev ignores : Bool
  ignores = is_ignore (action_of s.machine r.signal)

  -- whether there is no room, by who accepts it and whether it is ignored
  no_room : (o : Option Waiter) (b full : Bool) → acceptor s.machine r ≡ o → ignores ≡ b → is_full s.machine ≡ full → has_no_room s.machine r ≡ (is_none o && not b && full)
  no_room o b full e h k =
      ap (λ (x : Option Waiter). is_none x && not ignores && is_full s.machine) e
      ∙ ap (λ (c : Bool). is_none o && not c && is_full s.machine) h
      ∙ ap (λ (c : Bool). is_none o && not b && c) k

  pub sent_to : (t : ℕ) → Some t ≡ option_map (λ (w : Waiter). w.thread) (acceptor s.machine r) → sends_signal by r s ≡ wakes t res.Zero r.signal (delivers t r (returns by res.Zero 0 s))
  sent_to t is = by_acceptor (acceptor s.machine r) refl is
    where
      by_acceptor : (o : Option Waiter) → acceptor s.machine r ≡ o → Some t ≡ option_map (λ (w : Waiter). w.thread) o → sends_signal by r s ≡ wakes t res.Zero r.signal (delivers t r (returns by res.Zero 0 s))
      by_acceptor None e h = absurd cc
      by_acceptor (Some w) e h =
          let it : w.thread ≡ t = cc in
          sent_as (Some w) false e (no_room (Some w) ignores (is_full s.machine) e refl refl) ∙ ap (λ (u : ℕ). wakes u res.Zero r.signal (delivers u r (returns by res.Zero 0 s))) it

  pub sent_ignored : acceptor s.machine r ≡ None → ignores ≡ true → sends_signal by r s ≡ returns by res.Zero 0 s
  sent_ignored none ignored =
      sent_as None false none (no_room None true (is_full s.machine) none ignored refl) ∙ ap (λ (b : Bool). if b then returns by res.Zero 0 s else becomes_pending r (returns by res.Zero 0 s)) ignored

  pub sent_full : acceptor s.machine r ≡ None → ignores ≡ false → is_full s.machine ≡ true → sends_signal by r s ≡ returns by res.Again 0 s
  sent_full none acts full = sent_as None true none (no_room None false true none acts full)

  pub sent_pending : acceptor s.machine r ≡ None → ignores ≡ false → is_full s.machine ≡ false → sends_signal by r s ≡ becomes_pending r (returns by res.Zero 0 s)
  sent_pending none acts room =
      sent_as None false none (no_room None false false none acts room) ∙ ap (λ (b : Bool). if b then returns by res.Zero 0 s else becomes_pending r (returns by res.Zero 0 s)) acts

-- ---- the same of a kernel

module _ (by : Caller) (r : SignalRecord) (k l : Kernel) where
  pub as_sent_to : (t : ℕ) → Some t ≡ option_map (λ (w : Waiter). w.thread) (acceptor k.machine r) → l ≡ after (λ (s : Turn Cursor). s ▷ returns by res.Zero 0 ▷ delivers t r ▷ wakes t res.Zero r.signal) k →
      l ≡ after (sends_signal by r) k
  as_sent_to t is e = same_after (sends_signal by r) (λ s. s ▷ returns by res.Zero 0 ▷ delivers t r ▷ wakes t res.Zero r.signal) k l (sent_to by r (turn k) t is) e

  pub as_ignored : (b : Bool) → b ≡ is_ignore (action_of k.machine r.signal) → b ≡ true → acceptor k.machine r ≡ None → l ≡ after (returns by res.Zero 0) k → l ≡ after (sends_signal by r) k
  as_ignored b is on none e = same_after (sends_signal by r) (returns by res.Zero 0) k l (sent_ignored by r (turn k) none (sym is ∙ on)) e

  pub as_full : (b full : Bool) → b ≡ is_ignore (action_of k.machine r.signal) → b ≡ false → full ≡ is_full k.machine → full ≡ true → acceptor k.machine r ≡ None → l ≡ after (returns by res.Again 0) k → l ≡ after (sends_signal by r) k
  as_full b full is off filled on none e = same_after (sends_signal by r) (returns by res.Again 0) k l (sent_full by r (turn k) none (sym is ∙ off) (sym filled ∙ on)) e

  pub as_pending : (b full : Bool) → b ≡ is_ignore (action_of k.machine r.signal) → b ≡ false → full ≡ is_full k.machine → full ≡ false → acceptor k.machine r ≡ None →
      l ≡ after (λ (s : Turn Cursor). s ▷ returns by res.Zero 0 ▷ becomes_pending r) k → l ≡ after (sends_signal by r) k
  as_pending b full is off filled not_on none e = same_after (sends_signal by r) (λ s. s ▷ returns by res.Zero 0 ▷ becomes_pending r) k l (sent_pending by r (turn k) none (sym is ∙ off) (sym filled ∙ not_on)) e

module _ {K : Type 0} (text : K → Option (List ℕ)) (faults : K → ℕ) (by : Caller) (r : SignalRecord) (k : Kernel) (a b : Tracer K) where
  pub told_sent_to : (t : ℕ) → Some t ≡ option_map (λ (w : Waiter). w.thread) (acceptor k.machine r) →
      Tells text faults k.names a b (told (λ (s : Turn Cursor). s ▷ returns by res.Zero 0 ▷ delivers t r ▷ wakes t res.Zero r.signal) k) → Tells text faults k.names a b (told (sends_signal by r) k)
  told_sent_to t is h = same_told text faults (sends_signal by r) (λ s. s ▷ returns by res.Zero 0 ▷ delivers t r ▷ wakes t res.Zero r.signal) k a b (sent_to by r (turn k) t is) h

  pub told_ignored : (c : Bool) → c ≡ is_ignore (action_of k.machine r.signal) → c ≡ true → acceptor k.machine r ≡ None → Tells text faults k.names a b (told (returns by res.Zero 0) k) →
      Tells text faults k.names a b (told (sends_signal by r) k)
  told_ignored c is on none h = same_told text faults (sends_signal by r) (returns by res.Zero 0) k a b (sent_ignored by r (turn k) none (sym is ∙ on)) h

  pub told_full : (c full : Bool) → c ≡ is_ignore (action_of k.machine r.signal) → c ≡ false → full ≡ is_full k.machine → full ≡ true → acceptor k.machine r ≡ None →
      Tells text faults k.names a b (told (returns by res.Again 0) k) → Tells text faults k.names a b (told (sends_signal by r) k)
  told_full c full is off filled on none h = same_told text faults (sends_signal by r) (returns by res.Again 0) k a b (sent_full by r (turn k) none (sym is ∙ off) (sym filled ∙ on)) h

  pub told_pending : (c full : Bool) → c ≡ is_ignore (action_of k.machine r.signal) → c ≡ false → full ≡ is_full k.machine → full ≡ false → acceptor k.machine r ≡ None →
      Tells text faults k.names a b (told (λ (s : Turn Cursor). s ▷ returns by res.Zero 0 ▷ becomes_pending r) k) → Tells text faults k.names a b (told (sends_signal by r) k)
  told_pending c full is off filled not_on none h =
      same_told text faults (sends_signal by r) (λ s. s ▷ returns by res.Zero 0 ▷ becomes_pending r) k a b (sent_pending by r (turn k) none (sym is ∙ off) (sym filled ∙ not_on)) h
