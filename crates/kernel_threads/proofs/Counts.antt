-- A thread takes its units whatever its policy is, and whatever it was charged.
use Rattle.std.proofs.Common.{◌≡◌, ◌∙◌, ℕ, List, [], ◌∷◌, Option, ap, refl}
use Rattle.words_script.specs.declared.policy.Policy.{Policy}
use Rattle.rules_bodies.specs.declared.cursor.Cursor.{Cursor}
use Rattle.rules_server.specs.Server.{ServerState}
use Rattle.rules_machine.specs.Bodies.{Bodies}
use Rattle.rules_machine.specs.State.{Frame, Thread}
use Rattle.rules_machine.specs.Units.{Following, InUnit, advances, advancing, begins_finish, cleaning_up, continuing, finishing, following, in_cleanup, in_unit, takes_unit}
use Rattle.rules_leaps.specs.Quiet.{after_ticks, frames_after}
use Rattle.kernel_threads.specs.Passing.{HasCountsOf, thread_behind, thread_past}
use Rattle.kernel_threads.specs.Running.{run_for}

module _ (p : Policy) (ticks slice : ℕ) (server : Option ServerState) where
  -- a thread with these counts
  abbrev pub counting : Thread Cursor → Thread Cursor
  counting th = record th { policy = p; ticks = ticks; slice = slice; server = server }

  abbrev pub counting_in : InUnit Cursor → InUnit Cursor
  counting_in x = record { thread = counting x.thread; unit = x.unit }

  module _ (bodies : Bodies Cursor) where
    next_of : (fs : List (Frame Cursor)) (th : Thread Cursor) → advances bodies fs (counting th) ≡ counting_in (advances bodies fs th)
    next_of [] th = refl
    next_of (f ∷ fs) th = refl

    finish_of : (fs : List (Frame Cursor)) (th : Thread Cursor) → begins_finish fs (counting th) ≡ counting_in (begins_finish fs th)
    finish_of [] th = refl
    finish_of (f ∷ fs) th = refl

    by_case : (x : Following) (th : Thread Cursor) → takes_unit bodies x (counting th) ≡ counting_in (takes_unit bodies x th)
    by_case (continuing left) th = refl
    by_case advancing th = next_of th.frames th
    by_case (cleaning_up u) th = next_of (in_cleanup bodies u th).frames (in_cleanup bodies u th)
    by_case finishing th = finish_of th.frames th

    pub in_unit_counting : (th : Thread Cursor) → in_unit bodies (counting th) ≡ counting_in (in_unit bodies th)
    in_unit_counting th = by_case (following th) th

    pub past_counting : (ks : List ℕ) (th : Thread Cursor) → thread_past bodies ks (counting th) ≡ counting (thread_past bodies ks th)
    past_counting [] th = refl
    past_counting (k ∷ ks) th =
        ap (λ (x : InUnit Cursor). thread_past bodies ks (record x.thread { frames = frames_after k x.thread.frames })) (in_unit_counting th) ∙
        past_counting ks (thread_behind bodies k th)

    -- so many ticks of its unit
    pub run_counting : (k : ℕ) (th : Thread Cursor) →
        run_for bodies k (counting th) ≡ after_ticks k (counting (in_unit bodies th).thread)
    run_counting k th = ap (λ (x : InUnit Cursor). after_ticks k x.thread) (in_unit_counting th)

-- it keeps what it was charged
pub past_counts : (bodies : Bodies Cursor) (ks : List ℕ) (th : Thread Cursor) → HasCountsOf th (in_unit bodies (thread_past bodies ks th)).thread
past_counts bodies ks th =
    let is = ap (λ (x : Thread Cursor). (in_unit bodies x).thread) (past_counting th.policy th.ticks th.slice th.server bodies ks th) ∙
    ap (λ (x : InUnit Cursor). x.thread) (in_unit_counting th.policy th.ticks th.slice th.server bodies (thread_past bodies ks th)) in
    record {
      policy = ap (λ (x : Thread Cursor). x.policy) is;
      ticks = ap (λ (x : Thread Cursor). x.ticks) is;
      slice = ap (λ (x : Thread Cursor). x.slice) is;
      server = ap (λ (x : Thread Cursor). x.server) is;
    }
