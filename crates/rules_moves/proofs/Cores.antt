-- What can still be read of a thread's status where only whether its wait ends at some time is seen.
use Rattle.std.proofs.Common.{None, Option, Some, ap, arith, refl, sym, ℕ, ◌≡◌}
use Rattle.std.specs.Option.{option_map}
use mathlib.Core.Path.{◌∙◌}
use Rattle.rules_machine.specs.State.{Status, Thread, Wait, Waiting, blocked, dormant, ended, runnable}
use Rattle.rules_machine.specs.Threads.{is_blocked, is_dormant, is_live, is_runnable, waiting_in}
use Rattle.rules_moves.specs.Moves.{Core, at_some_time, core_of}

-- a wait of which only that is seen
abbrev pub timeless : Waiting → Waiting
timeless w = record w { due = option_map (λ (due : ℕ). 0) w.due }

-- what a thread with this status waits for
abbrev pub wait_in : Status → Option Wait
wait_in status = option_map (λ (w : Waiting). w.wait) (waiting_in status)

-- ---- of a status

pub runnable_seen : (status : Status) → is_runnable (at_some_time status) ≡ is_runnable status
runnable_seen (dormant at) = refl
runnable_seen runnable = refl
runnable_seen (blocked w) = refl
runnable_seen ended = refl

pub blocked_seen : (status : Status) → is_blocked (at_some_time status) ≡ is_blocked status
blocked_seen (dormant at) = refl
blocked_seen runnable = refl
blocked_seen (blocked w) = refl
blocked_seen ended = refl

pub live_seen : (status : Status) → is_live (at_some_time status) ≡ is_live status
live_seen (dormant at) = refl
live_seen runnable = refl
live_seen (blocked w) = refl
live_seen ended = refl

pub dormant_seen : (status : Status) → is_dormant (at_some_time status) ≡ is_dormant status
dormant_seen (dormant at) = refl
dormant_seen runnable = refl
dormant_seen (blocked w) = refl
dormant_seen ended = refl

pub waiting_seen : (status : Status) → waiting_in (at_some_time status) ≡ option_map timeless (waiting_in status)
waiting_seen (dormant at) = refl
waiting_seen runnable = refl
waiting_seen (blocked w) = refl
waiting_seen ended = refl

-- ---- of two threads that others see as the same

module _ {P : Type 0} {X : Type 0} where
  -- what is read of a status, and not of the time of a wait
  pub same_read : (read : Status → X) → ((status : Status) → read (at_some_time status) ≡ read status) → (a b : Thread P) → core_of a ≡ core_of b → read a.status ≡ read b.status
  same_read read seen a b e = sym (seen a.status) ∙ ap (λ (c : Core P). read c.status) e ∙ seen b.status

  -- and of a wait
  pub same_of_wait : (read : Option Waiting → X) → ((w : Waiting) → read (Some (timeless w)) ≡ read (Some w)) → (a b : Thread P) → core_of a ≡ core_of b →
      read (waiting_in a.status) ≡ read (waiting_in b.status)
  same_of_wait read seen = same_read (λ (status : Status). read (waiting_in status)) by_status
    where
      by_status : (status : Status) → read (waiting_in (at_some_time status)) ≡ read (waiting_in status)
      by_status (dormant at) = refl
      by_status runnable = refl
      by_status (blocked w) = seen w
      by_status ended = refl

-- a wait that ends at no time is the same
pub endless_same : {P : Type 0} (a b : Thread P) (w : Waiting) → core_of a ≡ core_of b → waiting_in b.status ≡ Some w → w.due ≡ None → waiting_in a.status ≡ Some w
endless_same {P} a b w e waits never = of_wait (waiting_in a.status) refl
  where
    seen : option_map timeless (waiting_in a.status) ≡ Some (timeless w)
    seen = sym (waiting_seen a.status) ∙ ap (λ (c : Core P). waiting_in c.status) e ∙ waiting_seen b.status ∙ ap (option_map timeless) waits

    no_time : (due : Option ℕ) → option_map {U = ℕ} (λ (due : ℕ). 0) due ≡ None → due ≡ None
    no_time None h = refl
    no_time (Some due) h = absurd (grind arith)

    same : (v : Waiting) → timeless v ≡ timeless w → v ≡ w
    same v h =
        let none : v.due ≡ None = no_time v.due (ap (λ (x : Waiting). x.due) h ∙ ap (option_map {U = ℕ} (λ (due : ℕ). 0)) never) in
        ap (λ (due : Option ℕ). record v { due = due }) none ∙ ap (λ (x : Waiting). record x { due = None }) h ∙ sym (ap (λ (due : Option ℕ). record w { due = due }) never)

    only : (v : Waiting) → Some (timeless v) ≡ Some (timeless w) → timeless v ≡ timeless w
    only v h = ap out h
      where
        out : Option Waiting → Waiting
        out None = timeless v
        out (Some x) = x

    of_wait : (o : Option Waiting) → waiting_in a.status ≡ o → waiting_in a.status ≡ Some w
    of_wait None k = let none : None ≡ Some (timeless w) = sym (ap (option_map timeless) k) ∙ seen in absurd (grind arith)
    of_wait (Some v) k = k ∙ ap Some (same v (only v (sym (ap (option_map timeless) k) ∙ seen)))
