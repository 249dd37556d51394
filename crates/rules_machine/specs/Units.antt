-- The unit that a thread is in, or takes next. Units and their ticks are this project's own.
use Rattle.std.specs.Prelude.{Bool, List, [], false, suc, true, zero, ℕ, ◌&&◌, ◌∷◌}
use Rattle.rules_bodies.specs.declared.unit.Unit.{Unit}
use Rattle.rules_bodies.specs.declared.unit.Unit.TheVariants as unit
use Rattle.rules_bodies.specs.Next.{ticks_of}
use Rattle.rules_machine.specs.declared.frame.BodyOf.TheVariants as body_of
use Rattle.rules_machine.specs.declared.frame.FrameKind.TheVariants as frame
use Rattle.rules_machine.specs.State.{Frame, Thread}
use Rattle.rules_machine.specs.Threads.{is_main, top_kind, top_left}
use Rattle.rules_machine.specs.Bodies.{Bodies, NextUnit, seen_by}
use Rattle.rules_machine.specs.Waking.{new_frame, on_top}
use Rattle.rules_machine.specs.Cancellation.{without_cleanup}

-- ---- the choice

-- what follows for a thread
pub data Following : Type 0 where
  -- the unit that it is in goes on, with so many ticks left
  continuing : ℕ → Following
  -- its present body has the next unit
  advancing : Following
  -- it is ending, and begins the cleanup handler that it pushed last
  cleaning_up : ℕ → Following
  -- it is ending, and no cleanup handler is left
  finishing : Following

-- What follows, by the ticks left of the unit, whether the thread is ending in its main body, and its cleanup handlers. XSH
-- 2.9.5.3: an ending thread takes no more units of that body; its handlers run, the last one pushed first, and then it ends.
abbrev pub choice : ℕ → Bool → List ℕ → Following
choice (suc left) at_end cleanups = continuing (suc left)
choice zero false cleanups = advancing
choice zero true (u ∷ us) = cleaning_up u
choice zero true [] = finishing

abbrev pub is_at_end : {P : Type 0} → Thread P → Bool
is_at_end th = th.is_ending && is_main (top_kind th.frames)

abbrev pub following : {P : Type 0} → Thread P → Following
following th = choice (top_left th.frames) (is_at_end th) th.cleanups

-- ---- each case

-- a thread in a unit, and what the unit does once it is complete
pub record InUnit (P : Type 0) : Type 0 where
  pub thread : Thread P
  pub unit : Unit

-- A unit that goes on is a run, since every other unit takes one tick.
abbrev pub continues : {P : Type 0} → ℕ → Thread P → InUnit P
continues left th = record { thread = th; unit = unit.Run left }

-- the frame as it begins the unit
abbrev pub frame_begins : {P : Type 0} → NextUnit P → Frame P → Frame P
frame_begins next f = record f { place = next.place; register = next.register; left = ticks_of next.unit }

-- an ending thread with no cleanup handler left ends its main body
abbrev pub begins_finish : {P : Type 0} → List (Frame P) → Thread P → InUnit P
begins_finish [] th = record { thread = th; unit = unit.Finish }
begins_finish (f ∷ fs) th = record { thread = record th { frames = record f { left = 1 } ∷ fs }; unit = unit.Finish }

module _ {P : Type 0} (bodies : Bodies P) where
  abbrev pub next_of : Frame P → NextUnit P
  next_of f = bodies.next f.body f.place (seen_by f)

  -- the top frame begins the next unit of its body
  abbrev pub advances : List (Frame P) → Thread P → InUnit P
  advances [] th = record { thread = th; unit = unit.Finish }
  advances (f ∷ fs) th = record { thread = record th { frames = frame_begins (next_of f) f ∷ fs }; unit = (next_of f).unit }

  -- the thread in a frame of its last cleanup handler
  abbrev pub in_cleanup : ℕ → Thread P → Thread P
  in_cleanup u th = on_top (new_frame bodies frame.Cleanup (body_of.Cleanup u) 0) (without_cleanup th)

  -- that frame begins its first unit at once
  abbrev pub begins_cleanup : ℕ → Thread P → InUnit P
  begins_cleanup u th = advances (in_cleanup u th).frames (in_cleanup u th)

  abbrev pub takes_unit : Following → Thread P → InUnit P
  takes_unit (continuing left) th = continues left th
  takes_unit advancing th = advances th.frames th
  takes_unit (cleaning_up u) th = begins_cleanup u th
  takes_unit finishing th = begins_finish th.frames th

  abbrev pub in_unit : Thread P → InUnit P
  in_unit th = takes_unit (following th) th
