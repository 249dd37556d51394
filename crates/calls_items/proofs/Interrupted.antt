-- What an interruption answers, and what it leaves.
use Rattle.std.proofs.Common.{◌≡◌, ◌∙◌, ℕ, true, List, [], ◌∷◌, None, Option, Some, ap, length, refl}
use Rattle.std.specs.Prelude.{option_map}
use Rattle.words_numbers.specs.declared.res.Res.{Res}
use Rattle.words_numbers.specs.declared.res.Res.TheVariants as res
use Rattle.parts_tracer.specs.Tells.{Tells}
use Rattle.words_trace.specs.declared.event.Event.TheVariants as event
use Rattle.parts_tracer.specs.declared.tracer.Tracer.{Tracer}
use Rattle.rules_bodies.specs.declared.cursor.Cursor.{Cursor}
use Rattle.rules_server.specs.Server.{ServerState, activate}
use Rattle.rules_machine.specs.CallNames.{name_of}
use Rattle.rules_machine.specs.Delivery.{interrupts, ticks_left}
use Rattle.rules_machine.specs.Servers.{activates_server, at_once, high_server, with_server}
use Rattle.rules_machine.specs.Signals.{delivers}
use Rattle.rules_machine.specs.State.{Frame, SignalRecord, Status, Thread, Waiting}
use Rattle.rules_machine.specs.Threads.{is_blocked, no_thread, thread_at, thread_in, waiting_in, waiting_of}
use Rattle.rules_machine.specs.Turns.{Turn, changes, frames_answered, moves, tells}
use Rattle.rules_machine.specs.Waking.{call_in, wakes, woken}
use Rattle.rules_machine.proofs.Reading.{changed-keeps}
use Rattle.kernel_state.specs.Kernel.{Kernel, after, told, turn}
use Rattle.calls_generation.proofs.Same.{nothing_after, nothing_told, same_after, same_told}
use Rattle.calls_generation.proofs.Delivered.{delivers_alike}

-- ---- an interruption

abbrev pub left_at : ℕ → Waiting → ℕ
left_at now w = ticks_left w.call w.due now

none_waits : (o : Option Waiting) (now : ℕ) (left : Option ℕ) → left ≡ option_map (left_at now) o → left ≡ None → o ≡ None
none_waits None now left is none = refl
none_waits (Some w) now left is none = absurd cc

pub none_interrupted : (t : ℕ) (s : Turn Cursor) (left : Option ℕ) → left ≡ option_map (left_at s.machine.now) (waiting_of s.machine t) → left ≡ None →
    interrupts (waiting_of s.machine t) t s ≡ s
none_interrupted t s left is none = ap (λ (o : Option Waiting). interrupts o t s) (none_waits (waiting_of s.machine t) s.machine.now left is none)

some_waits : (o : Option Waiting) (t n : ℕ) (s : Turn Cursor) → Some n ≡ option_map (left_at s.machine.now) o → interrupts o t s ≡ wakes t res.Intr n s
some_waits None t n s is = absurd cc
some_waits (Some w) t n s is = let same : left_at s.machine.now w ≡ n = cc in ap (λ (n : ℕ). wakes t res.Intr n s) same

pub some_interrupted : (t n : ℕ) (s : Turn Cursor) → Some n ≡ option_map (left_at s.machine.now) (waiting_of s.machine t) → interrupts (waiting_of s.machine t) t s ≡ wakes t res.Intr n s
some_interrupted t n s is = some_waits (waiting_of s.machine t) t n s is

blocked_by : (o : Option Waiting) (status : Status) (now n : ℕ) → waiting_in status ≡ o → Some n ≡ option_map (left_at now) o → is_blocked status ≡ true
blocked_by None status now n e is = absurd cc
blocked_by (Some w) status now n e is = rw e refl

pub interrupted_blocked : (th : Thread Cursor) (now n : ℕ) → Some n ≡ option_map (left_at now) (waiting_in th.status) → is_blocked th.status ≡ true
interrupted_blocked th now n is = blocked_by (waiting_in th.status) th.status now n refl is

-- ---- the same of a kernel

abbrev pub interrupting : ℕ → Turn Cursor → Turn Cursor
interrupting t s = interrupts (waiting_of s.machine t) t s

module _ (t : ℕ) (k : Kernel) where
  pub not_interrupted : (left : Option ℕ) → left ≡ option_map (left_at k.machine.now) (waiting_of k.machine t) → left ≡ None → k ≡ after (interrupting t) k
  not_interrupted left is none = nothing_after (interrupting t) k (none_interrupted t (turn k) left is none)

  pub as_interrupted : (n : ℕ) (l : Kernel) → Some n ≡ option_map (left_at k.machine.now) (waiting_of k.machine t) → l ≡ after (wakes t res.Intr n) k → l ≡ after (interrupting t) k
  as_interrupted n l is e = same_after (interrupting t) (wakes t res.Intr n) k l (some_interrupted t n (turn k) is) e

  pub told_not_interrupted : {K : Type 0} (text : K → Option (List ℕ)) (faults : K → ℕ) (a : Tracer K) (left : Option ℕ) → left ≡ option_map (left_at k.machine.now) (waiting_of k.machine t) → left ≡ None →
      Tells text faults k.names a a (told (interrupting t) k)
  told_not_interrupted text faults a left is none = nothing_told text faults (interrupting t) k a (none_interrupted t (turn k) left is none)

  pub told_interrupted : {K : Type 0} (text : K → Option (List ℕ)) (faults : K → ℕ) (a b : Tracer K) (n : ℕ) → Some n ≡ option_map (left_at k.machine.now) (waiting_of k.machine t) →
      Tells text faults k.names a b (told (wakes t res.Intr n) k) → Tells text faults k.names a b (told (interrupting t) k)
  told_interrupted text faults a b n is h = same_told text faults (interrupting t) (wakes t res.Intr n) k a b (some_interrupted t n (turn k) is) h

-- ---- it leaves as many frames

answered_long : (r : Res) (value : ℕ) (fs : List (Frame Cursor)) → length (frames_answered r value fs) ≡ length fs
answered_long r value [] = refl
answered_long r value (f ∷ fs) = refl

abbrev pub depth_in : List (Thread Cursor) → ℕ → ℕ
depth_in threads u = length (thread_in threads u).frames

activates_long : (t u : ℕ) (o : Option ServerState) (s : Turn Cursor) → depth_in (activates_server t o s).machine.threads u ≡ depth_in s.machine.threads u
activates_long t u None s = refl
activates_long t u (Some server) s = changed-keeps no_thread t u (with_server (activate s.machine.now)) (λ th. length th.frames) (λ th. refl) s.machine.threads

wakes_long : (t u : ℕ) (r : Res) (value : ℕ) (s : Turn Cursor) → depth_in (wakes t r value s).machine.threads u ≡ depth_in s.machine.threads u
wakes_long t u r value s =
    let up = tells (event.Return t (name_of (call_in (waiting_of s.machine t))) r value) (moves t (changes t (woken r value) s)) in
    activates_long t u (at_once (high_server (thread_at up.machine t).server)) up
    ∙ changed-keeps no_thread t u (woken r value) (λ th. length th.frames) (λ th. answered_long r value th.frames) s.machine.threads

interrupts_long : (w : Option Waiting) (t u : ℕ) (s : Turn Cursor) → depth_in (interrupts w t s).machine.threads u ≡ depth_in s.machine.threads u
interrupts_long None t u s = refl
interrupts_long (Some w) t u s = wakes_long t u res.Intr (ticks_left w.call w.due s.machine.now) s

pub interrupted_long : (w : Option Waiting) (t u : ℕ) (r : SignalRecord) (s : Turn Cursor) → depth_in (delivers t r (interrupts w t s)).machine.threads u ≡ depth_in s.machine.threads u
interrupted_long w t u r s =
    ap (λ (ths : List (Thread Cursor)). depth_in ths u) (delivers_alike t r (interrupts w t s)).threads ∙ interrupts_long w t u s
