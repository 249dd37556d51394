-- A cleanup handler that is popped.
use Rattle.std.proofs.Common.{◌≡◌, ◌<◌, ◌∙◌, ℕ, zero, suc, true, false, List, [], ◌∷◌, Option, None, Some, ap, length, refl, subst, sym}
use Rattle.std.specs.Prelude.{IfSome, slice_get}
use Rattle.words_numbers.specs.declared.res.Res.{Res}
use Rattle.rules_bodies.specs.declared.cursor.Cursor.{Cursor}
use Rattle.rules_machine.specs.declared.frame.BodyOf.TheVariants as body_of
use Rattle.rules_machine.specs.declared.frame.FrameKind.TheVariants as frame
use Rattle.rules_machine.specs.Bodies.{Bodies}
use Rattle.rules_machine.specs.Cancellation.{runs_cleanup_if, without_cleanup}
use Rattle.rules_machine.specs.Lists.{changed_at}
use Rattle.rules_machine.specs.State.{Frame, Thread}
use Rattle.rules_machine.specs.Threads.{no_thread, thread_at}
use Rattle.rules_machine.specs.Turns.{Caller, Turn, answered, changes, frames_answered, returns, ◌▷◌}
use Rattle.rules_machine.specs.Waking.{new_frame, on_top}
use Rattle.rules_machine.proofs.Reading.{changed-keeps}
use Rattle.kernel_threads.specs.Handlers.{AreHandlers}
use Rattle.kernel_state.specs.Kernel.{Kernel, after}

same_threads : (t : ℕ) (threads : List (Thread Cursor)) → threads ≡ changed_at no_thread t (λ th. th) threads
same_threads t [] = refl
same_threads zero (th ∷ ths) = refl
same_threads (suc t) (th ∷ ths) = ap (λ (xs : List (Thread Cursor)). th ∷ xs) (same_threads t ths)

module _ (bodies : Bodies Cursor) (t : ℕ) (k : Kernel) where
  unchanged : k ≡ after (changes t (λ th. th)) k
  unchanged = ap (λ (xs : List (Thread Cursor)). record k { machine = record (k.machine) { threads = xs } }) (same_threads t k.machine.threads)

  -- none is to run, or there is none
  pub off_runs : (us : List ℕ) → k ≡ after (changes t (runs_cleanup_if false bodies us)) k
  off_runs us = unchanged

  pub none_runs : (us : List ℕ) → None ≡ slice_get us 0 → k ≡ after (changes t (runs_cleanup_if true bodies us)) k
  none_runs [] e = unchanged
  none_runs (u ∷ us) e = absurd cc

  pub one_runs : (u : ℕ) (us : List ℕ) → Some u ≡ slice_get us 0 →
      after (changes t (on_top (new_frame bodies frame.Cleanup (body_of.Cleanup u) 0))) k ≡ after (changes t (runs_cleanup_if true bodies us)) k
  one_runs u [] e = absurd cc
  one_runs u (v ∷ us) e =
      let same : u ≡ v = cc in
      ap (λ (x : ℕ). after (changes t (on_top (new_frame bodies frame.Cleanup (body_of.Cleanup x) 0))) k) same

pub first_known : (n : ℕ) (us : List ℕ) (last : Option ℕ) → last ≡ slice_get us 0 → AreHandlers n us → IfSome last (λ u. u < n)
first_known n [] last e all = subst (λ (o : Option ℕ). IfSome o (λ u. u < n)) (sym e) tt
first_known n (v ∷ us) last e (lt, all) = subst (λ (o : Option ℕ). IfSome o (λ u. u < n)) (sym e) lt

answered_length : (r : Res) (value : ℕ) (fs : List (Frame Cursor)) → length (frames_answered r value fs) ≡ length fs
answered_length r value [] = refl
answered_length r value (f ∷ fs) = refl

-- a call that returns leaves as many frames
pub frames_kept : (by : Caller) (r : Res) (value : ℕ) (s : Turn Cursor) (u : ℕ) →
    length (thread_at (s ▷ changes by.thread without_cleanup ▷ returns by r value).machine u).frames ≡ length (thread_at s.machine u).frames
frames_kept by r value s u =
    changed-keeps no_thread by.thread u (answered r value) (λ (th : Thread Cursor). length th.frames) (λ th. answered_length r value th.frames) (changes by.thread without_cleanup s).machine.threads
    ∙ changed-keeps no_thread by.thread u without_cleanup (λ (th : Thread Cursor). length th.frames) (λ th. refl) s.machine.threads
