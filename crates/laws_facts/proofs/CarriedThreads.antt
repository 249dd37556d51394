-- The facts of the threads of a carried machine are those of the machine.
use Rattle.std.proofs.Common.{Bool, List, [], ap, false, refl, true, ℕ, ◌∷◌, ◌≡◌}
use Rattle.std.specs.Prelude.{filter, map, not, if◌then◌else◌}
use mathlib.Core.Path.{ap₂, ◌∙◌}
use Rattle.rules_machine.specs.declared.frame.BodyOf.{BodyOf}
use Rattle.rules_machine.specs.Priorities.{assigned_of}
use Rattle.rules_machine.specs.State.{Frame, Machine, Status, Thread, blocked, dormant, ended, runnable}
use Rattle.rules_machine.specs.Threads.{is_live, is_main, no_thread, thread_at}
use Rattle.rules_facts.specs.Fact.{Priorities, blocked_thread, cancelability, inner_frames, masked, pushed_cleanups, ready_thread, replenishments}
use Rattle.rules_facts.specs.Numbers.{frame_numbers, numbers_of, thread_numbers_told}
use Rattle.rules_facts.specs.Fact.{Number}
use Rattle.rules_facts.specs.Threads.{blocking_of, cancelability_fact, cancelability_of, cleanups_fact, frames_fact, inner_bodies, living, mask_fact, pending_fact, planned, priorities_of, status_fact, thread_fact}
use Rattle.laws_places.specs.Carried.{frame_carried}
use Rattle.laws_places.proofs.CarriedReads.{C, M, exec_carries, status_carries, thread_carries}
use Rattle.std.specs.Prelude.{◌++◌}
use Rattle.rules_facts.specs.Numbers.{budget_numbers, slice_numbers}

module _ {P Q : Type 0} (carry : BodyOf → P → Q) where
  -- ---- the status

  abbrev priorities : ℕ → ℕ → Priorities
  priorities assigned exec = record { assigned = assigned; exec = exec }

  priorities_carry : (m : Machine P) (t : ℕ) → priorities_of (M carry m) t ≡ priorities_of m t
  priorities_carry m t = ap₂ priorities (ap (λ (th : Thread Q). assigned_of th) (thread_carries carry m t)) (exec_carries carry m t)

  status_fact_carries : (m : Machine P) (t : ℕ) (status : Status) → status_fact (M carry m) t status ≡ status_fact m t status
  status_fact_carries m t (dormant at) = refl
  status_fact_carries m t runnable = ap (ready_thread t) (priorities_carry m t)
  status_fact_carries m t (blocked w) = ap (λ (p : Priorities). blocked_thread t p (blocking_of w)) (priorities_carry m t)
  status_fact_carries m t ended = refl

  pub thread_fact_carries : (m : Machine P) (t : ℕ) → thread_fact (M carry m) t ≡ thread_fact m t
  thread_fact_carries m t = ap (status_fact (M carry m) t) (status_carries carry m t) ∙ status_fact_carries m t (thread_at m t).status

  -- ---- what a thread has about it

  live_or_none : (lives : Bool) (th : Thread P) → (if lives then C carry th else no_thread) ≡ C carry (if lives then th else no_thread)
  live_or_none true th = refl
  live_or_none false th = refl

  living_carries : (m : Machine P) (t : ℕ) → living (thread_at (M carry m) t) ≡ C carry (living (thread_at m t))
  living_carries m t = ap (λ (th : Thread Q). living th) (thread_carries carry m t) ∙ live_or_none (is_live (thread_at m t).status) (thread_at m t)

  bodies_kept : (is_inner : Bool) (f : Frame P) (fs' : List (Frame Q)) (fs : List (Frame P)) → map (λ (g : Frame Q). g.body) fs' ≡ map (λ (g : Frame P). g.body) fs
      → map (λ (g : Frame Q). g.body) (if is_inner then frame_carried carry f ∷ fs' else fs') ≡ map (λ (g : Frame P). g.body) (if is_inner then f ∷ fs else fs)
  bodies_kept true f fs' fs same = ap (λ (bodies : List BodyOf). f.body ∷ bodies) same
  bodies_kept false f fs' fs same = same

  bodies_carried : (fs : List (Frame P)) → inner_bodies (map (frame_carried carry) fs) ≡ inner_bodies fs
  bodies_carried [] = refl
  bodies_carried (f ∷ fs) =
      bodies_kept (not (is_main f.kind)) f (filter (λ (g : Frame Q). not (is_main g.kind)) (map (frame_carried carry) fs)) (filter (λ (g : Frame P). not (is_main g.kind)) fs) (bodies_carried fs)

  pub frames_fact_carries : (m : Machine P) (t : ℕ) → frames_fact (M carry m) t ≡ frames_fact m t
  frames_fact_carries m t =
      ap (λ (th : Thread Q). inner_frames t (inner_bodies th.frames)) (living_carries m t) ∙ ap (inner_frames t) (bodies_carried (living (thread_at m t)).frames)

  pub mask_fact_carries : (m : Machine P) (t : ℕ) → mask_fact (M carry m) t ≡ mask_fact m t
  mask_fact_carries m t = ap (λ (th : Thread Q). masked t th.mask) (living_carries m t)

  pub cancelability_fact_carries : (m : Machine P) (t : ℕ) → cancelability_fact (M carry m) t ≡ cancelability_fact m t
  cancelability_fact_carries m t = ap (λ (th : Thread Q). cancelability t (cancelability_of th)) (living_carries m t)

  pub cleanups_fact_carries : (m : Machine P) (t : ℕ) → cleanups_fact (M carry m) t ≡ cleanups_fact m t
  cleanups_fact_carries m t = ap (λ (th : Thread Q). pushed_cleanups t th.cleanups) (living_carries m t)

  pub pending_fact_carries : (m : Machine P) (t : ℕ) → pending_fact (M carry m) t ≡ pending_fact m t
  pending_fact_carries m t = ap (λ (th : Thread Q). replenishments t (planned th.server)) (living_carries m t)

  -- ---- its numbers

  frame_numbers_carry : (t ticks : ℕ) (fs : List (Frame P)) → frame_numbers t ticks (map (frame_carried carry) fs) ≡ frame_numbers t ticks fs
  frame_numbers_carry t ticks [] = refl
  frame_numbers_carry t ticks (f ∷ fs) = refl

  numbers_of_carry : (t : ℕ) (th : Thread P) → numbers_of t (C carry th) ≡ numbers_of t th
  numbers_of_carry t th =
      ap (λ (ns : List Number). ns ++ slice_numbers t th.slice th.policy ++ budget_numbers t th.server) (frame_numbers_carry t th.ticks th.frames)

  pub numbers_told_carry : (m : Machine P) (t : ℕ) → thread_numbers_told (M carry m) t ≡ thread_numbers_told m t
  numbers_told_carry m t =
      ap (λ (th : Thread Q). if is_live th.status then numbers_of t th else []) (thread_carries carry m t)
      ∙ ap (λ (ns : List Number). if is_live (thread_at m t).status then ns else []) (numbers_of_carry t (thread_at m t))
