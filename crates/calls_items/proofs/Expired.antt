-- How the expiry of a timer comes out.
use Rattle.std.proofs.Common.{◌≡◌, ◌<◌, ◌∙◌, ℕ, Bool, true, false, List, None, Option, Some, ap, arith, length, refl, subst, sym}
use Rattle.std.specs.Prelude.{if◌then◌else◌}
use Rattle.parts_tracer.specs.Tells.{Tells}
use Rattle.parts_tracer.specs.declared.tracer.Tracer.{Tracer}
use Rattle.words_numbers.specs.declared.res.Res.{Res}
use Rattle.words_numbers.specs.declared.res.Res.TheVariants as res
use Rattle.words_trace.specs.declared.event.Event.TheVariants as event
use Rattle.rules_server.specs.Server.{ServerState}
use Rattle.rules_bodies.specs.declared.cursor.Cursor.{Cursor}
use Rattle.rules_machine.specs.CallNames.{name_of}
use Rattle.rules_machine.specs.Servers.{activates_server, at_once, high_server}
use Rattle.rules_machine.specs.Signals.{acceptor, becomes_pending, delivers, generates, is_accepted_or_pends, is_ignore, tells_overrun, with_overrun_told}
use Rattle.rules_machine.specs.State.{SignalRecord}
use Rattle.rules_machine.specs.Threads.{action_of, no_timer, thread_at, timer_at, waiting_of}
use Rattle.rules_machine.specs.Timers.{armed_again, expires, is_pending_from, overrun_once_more, record_of_timer, signals_expiry}
use Rattle.rules_machine.specs.Turns.{Turn, changes, changes_timer, moves, tells}
use Rattle.rules_machine.specs.Waiters.{Waiter}
use Rattle.rules_machine.specs.Waking.{call_in, wakes, woken}
use Rattle.rules_machine.proofs.Kept.{Kept, if_kept, kept}
use Rattle.rules_machine.proofs.KeptByCalls.{generates_kept}
use Rattle.rules_machine.proofs.Reading.{changed-length}
use Rattle.kernel_state.specs.Caught.{HasRoomToPend}
use Rattle.kernel_state.specs.Kernel.{Kernel, after, told, turn}
use Rattle.kernel_state.specs.Pending.{PendingFits, SignalsFit}
use Rattle.calls_generation.proofs.Same.{nothing_told as nothing_of, same_after, same_told}

-- ---- how many timers there are

abbrev many : Turn Cursor → ℕ
many s = length s.machine.timers

overrun_many : (o : Option ℕ) (s : Turn Cursor) → many (tells_overrun o s) ≡ many s
overrun_many None s = refl
overrun_many (Some j) s = changed-length no_timer j with_overrun_told s.machine.timers

activates_many : (t : ℕ) (o : Option ServerState) (s : Turn Cursor) → many (activates_server t o s) ≡ many s
activates_many t None s = refl
activates_many t (Some server) s = refl

wakes_many : (t : ℕ) (r : Res) (value : ℕ) (s : Turn Cursor) → many (wakes t r value s) ≡ many s
wakes_many t r value s =
    let up = tells (event.Return t (name_of (call_in (waiting_of s.machine t))) r value) (moves t (changes t (woken r value) s)) in
    activates_many t (at_once (high_server (thread_at up.machine t).server)) up

if_many : (b : Bool) (x y : Turn Cursor) (n : ℕ) → many x ≡ n → many y ≡ n → many (if b then x else y) ≡ n
if_many true x y n h g = h
if_many false x y n h g = g

generates_many : (w : Option Waiter) (r : SignalRecord) (s : Turn Cursor) → many (is_accepted_or_pends w r s) ≡ many s
generates_many (Some w) r s =
    wakes_many w.thread res.Zero r.signal (delivers w.thread r s) ∙ overrun_many r.timer (tells (event.Deliver w.thread r.signal r.code r.value) s)
generates_many None r s = if_many (is_ignore (action_of s.machine r.signal)) s (becomes_pending r s) (many s) refl refl

-- ---- the expiry is signalled

module _ (k : ℕ) (s : Turn Cursor) where
  abbrev again : Turn Cursor
  again = changes_timer k overrun_once_more s

  abbrev sent : Turn Cursor
  sent = generates (record_of_timer k (timer_at s.machine k)) s

  signals_as : (b : Bool) → b ≡ is_pending_from k s.machine → signals_expiry k s ≡ (if b then again else sent)
  signals_as b is = ap (λ (c : Bool). if c then again else sent) (sym is)

  signals_kept : kept (signals_expiry k s) ≡ kept s
  signals_kept = if_kept (is_pending_from k s.machine) again sent s refl (generates_kept (record_of_timer k (timer_at s.machine k)) s)

  signals_many : many (signals_expiry k s) ≡ many s
  signals_many = if_many (is_pending_from k s.machine) again sent (many s) (changed-length no_timer k overrun_once_more s.machine.timers)
      (generates_many (acceptor s.machine (record_of_timer k (timer_at s.machine k))) (record_of_timer k (timer_at s.machine k)) s)

-- ---- the same of a kernel

module _ (k : ℕ) (p l : Kernel) where
  pub as_overrun : (b : Bool) → b ≡ is_pending_from k p.machine → b ≡ true → l ≡ after (changes_timer k overrun_once_more) p → l ≡ after (signals_expiry k) p
  as_overrun b is on e = same_after (signals_expiry k) (changes_timer k overrun_once_more) p l (signals_as k (turn p) true (sym on ∙ is)) e

  pub as_generated : (b : Bool) → b ≡ is_pending_from k p.machine → b ≡ false → l ≡ after (generates (record_of_timer k (timer_at p.machine k))) p → l ≡ after (signals_expiry k) p
  as_generated b is off e = same_after (signals_expiry k) (generates (record_of_timer k (timer_at p.machine k))) p l (signals_as k (turn p) false (sym off ∙ is)) e

  -- the record is the timer's
  pub as_record : (r : SignalRecord) → r ≡ record_of_timer k (timer_at p.machine k) → l ≡ after (generates r) p → l ≡ after (generates (record_of_timer k (timer_at p.machine k))) p
  as_record r is e = e ∙ ap (λ (x : SignalRecord). after (generates x) p) is

  pub signalled_now : l ≡ after (signals_expiry k) p → l.machine.now ≡ p.machine.now
  signalled_now e = ap (λ (x : Kernel). x.machine.now) e ∙ ap (λ (x : Kept). x.now) (signals_kept k (turn p))

  pub signalled_many : l ≡ after (signals_expiry k) p → k < length p.machine.timers → k < length l.machine.timers
  signalled_many e lt =
      let long : length l.machine.timers ≡ length p.machine.timers = ap (λ (x : Kernel). length x.machine.timers) e ∙ signals_many k (turn p) in
      omega (arith, lt, long)

pub armed_after : (k : ℕ) (p l m : Kernel) → l ≡ after (signals_expiry k) p → m ≡ after (changes_timer k (armed_again l.machine.now)) l → m ≡ after (expires k) p
armed_after k p l m first second =
    second ∙ ap (λ (n : ℕ). after (changes_timer k (armed_again n)) l) (signalled_now k p l first) ∙ ap (after (changes_timer k (armed_again p.machine.now))) first

module _ {K : Type 0} (text : K → Option (List ℕ)) (faults : K → ℕ) (k : ℕ) (p : Kernel) where
  pub told_overrun : (a : Tracer K) (b : Bool) → b ≡ is_pending_from k p.machine → b ≡ true → Tells text faults p.names a a (told (signals_expiry k) p)
  told_overrun a b is on =
      same_told text faults (signals_expiry k) (changes_timer k overrun_once_more) p a a (signals_as k (turn p) true (sym on ∙ is)) (nothing_of text faults (λ s. s) p a refl)

  pub told_generated : (a c : Tracer K) (b : Bool) → b ≡ is_pending_from k p.machine → b ≡ false →
      Tells text faults p.names a c (told (generates (record_of_timer k (timer_at p.machine k))) p) → Tells text faults p.names a c (told (signals_expiry k) p)
  told_generated a c b is off h = same_told text faults (signals_expiry k) (generates (record_of_timer k (timer_at p.machine k))) p a c (signals_as k (turn p) false (sym off ∙ is)) h

  pub told_record : (a c : Tracer K) (r : SignalRecord) → r ≡ record_of_timer k (timer_at p.machine k) → Tells text faults p.names a c (told (generates r) p) →
      Tells text faults p.names a c (told (generates (record_of_timer k (timer_at p.machine k))) p)
  told_record a c r is h = subst (λ (x : SignalRecord). Tells text faults p.names a c (told (generates x) p)) is h

-- ---- the record has room, and a signal that is one

pub has_room : (k : ℕ) (p : Kernel) (b : Bool) → b ≡ is_pending_from k p.machine → b ≡ false → k < length p.machine.timers → PendingFits p.machine → HasRoomToPend p.machine
has_room k p b is off lt fits = record { few = fits.timers k lt (sym is ∙ off); youngest = fits.youngest }

pub has_signal : (k : ℕ) (p : Kernel) (r : SignalRecord) → r ≡ record_of_timer k (timer_at p.machine k) → k < length p.machine.timers → SignalsFit p.machine → r.signal < 32
has_signal k p r is lt fits = rw is (fits.timers k lt)
