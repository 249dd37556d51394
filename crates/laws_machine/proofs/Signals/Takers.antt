-- What a thread would take of the pending signals goes by its status, its mask and whether it is in a signal-catching function, and
-- a tick's charge leaves these.
use Rattle.std.proofs.Common.{Bool, List, None, Option, [], ap, arith, false, refl, sym, true, ℕ, ◌∷◌, ◌≡◌}
use Rattle.std.specs.Prelude.{filter, not, slice_index_or, ◌&&◌, ◌||◌, if◌then◌else◌}
use Rattle.std.specs.Option.{option_map_or}
use mathlib.Core.Path.{◌∙◌}
use Rattle.rules_machine.specs.declared.frame.FrameKind.{FrameKind}
use Rattle.rules_machine.specs.declared.frame.FrameKind.TheVariants as frame
use Rattle.rules_machine.specs.declared.signal.SigAction.TheVariants as action
use Rattle.words_numbers.specs.Signals.{has_signal}
use Rattle.rules_machine.specs.Signals.{may_go_to, is_kill, is_selected_before}
use Rattle.rules_machine.specs.Lists.{first_by}
use Rattle.rules_machine.specs.Bodies.{Bodies}
use Rattle.rules_machine.specs.State.{Frame, SignalRecord, Status, Thread, Waiting}
use Rattle.rules_machine.specs.Threads.{catches_signal, is_live, is_main, is_signal, top_kind, waiting_in}
use Rattle.rules_machine.specs.Delivery.{defers_handlers}
use Rattle.rules_machine.specs.Units.{advances, begins_finish, choice, in_unit, takes_unit}
use Rattle.rules_machine.specs.Ticks.{frames_charged, tick_charged}
use Rattle.rules_machine.proofs.Parts.{by_following}
use Rattle.laws_machine.proofs.Signals.Ignored.{Sent}

pub record Taker : Type 0 where
  pub status : Status
  pub mask : ℕ
  pub catches : Bool

abbrev pub taker_of : {P : Type 0} → Thread P → Taker
taker_of th = record { status = th.status; mask = th.mask; catches = catches_signal th }

abbrev pub takes_by : Taker → ℕ → Sent → SignalRecord → Bool
takes_by k t p r = may_go_to t r.target && not (has_signal k.mask r.signal) && (is_kill (slice_index_or p.actions r.signal action.Kill) || not (option_map_or (λ (w : Waiting). defers_handlers w.wait) (waiting_in k.status) false))

abbrev pub taken_by : Taker → ℕ → Sent → Option SignalRecord
taken_by k t p = if is_live k.status && not k.catches then first_by is_selected_before (filter (takes_by k t p) p.pending) else None

module _ {P : Type 0} (bodies : Bodies P) where
  other_frames : (fs : List (Frame P)) (th : Thread P) → th.frames ≡ fs → record { status = th.status; mask = th.mask; catches = is_signal (top_kind fs) } ≡ taker_of th
  other_frames fs th e = ap (λ (fs : List (Frame P)). record { status = th.status; mask = th.mask; catches = is_signal (top_kind fs) }) (sym e)

  advances_taker : (fs : List (Frame P)) (th : Thread P) → th.frames ≡ fs → taker_of (advances bodies fs th).thread ≡ taker_of th
  advances_taker [] th e = refl
  advances_taker (f ∷ fs) th e = other_frames (f ∷ fs) th e

  finish_taker : (fs : List (Frame P)) (th : Thread P) → th.frames ≡ fs → taker_of (begins_finish fs th).thread ≡ taker_of th
  finish_taker [] th e = refl
  finish_taker (f ∷ fs) th e = other_frames (f ∷ fs) th e

  ending_taker : (us : List ℕ) (th : Thread P) → is_main (top_kind th.frames) ≡ true → taker_of (takes_unit bodies (choice 0 true us) th).thread ≡ taker_of th
  ending_taker [] th main = finish_taker th.frames th refl
  ending_taker (u ∷ us) th main = ap (λ (b : Bool). record { status = th.status; mask = th.mask; catches = b }) (sym (no_signal (top_kind th.frames) main))
    where
      no_signal : (kind : FrameKind) → is_main kind ≡ true → is_signal kind ≡ false
      no_signal frame.Main e = refl
      no_signal frame.Cleanup e = absurd (grind arith)
      no_signal frame.Signal e = absurd (grind arith)

  in_unit_taker : (th : Thread P) → taker_of (in_unit bodies th).thread ≡ taker_of th
  in_unit_taker th =
      by_following th (λ x. taker_of (takes_unit bodies x th).thread ≡ taker_of th) (λ n some. refl) (λ none going. advances_taker th.frames th refl)
      (λ none end us same. ending_taker us th (main_of th.is_ending (is_main (top_kind th.frames)) end))
    where
      main_of : (a b : Bool) → (a && b) ≡ true → b ≡ true
      main_of a b e = grind arith

  frames_taker : (fs : List (Frame P)) → top_kind (frames_charged fs) ≡ top_kind fs
  frames_taker [] = refl
  frames_taker (f ∷ fs) = refl

  -- the charge of a thread
  abbrev pub charge_of : Thread P → Thread P
  charge_of th = tick_charged (in_unit bodies th).thread

  pub charged_taker : (th : Thread P) → taker_of (charge_of th) ≡ taker_of th
  charged_taker th =
      let unit = (in_unit bodies th).thread in
      ap (λ (kind : FrameKind). record { status = unit.status; mask = unit.mask; catches = is_signal kind }) (frames_taker unit.frames) ∙ in_unit_taker th
