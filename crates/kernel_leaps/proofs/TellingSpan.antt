-- One leap of a run that is told, from the calls that write it.
use Rattle.std.proofs.Common.{◌≡◌, ◌≤◌, ◌+◌, ◌∙◌, ℕ, Bool, List, None, Option, Some, [], ap, arith, false, length, refl, subst, sym, true}
use Rattle.std.specs.Prelude.{is_some, ◌-◌}
use Rattle.words_script.specs.declared.decl.Script.{Script}
use Rattle.words_trace.specs.Text.{lines}
use Rattle.parts_tracer.specs.Printed.{Printed, outlet}
use Rattle.rules_bodies.specs.declared.cursor.Cursor.{Cursor}
use Rattle.rules_machine.specs.Dispatch.{head}
use Rattle.rules_machine.specs.DueItems.{instant, next_item}
use Rattle.rules_machine.specs.State.{Machine}
use Rattle.rules_machine.specs.Ticks.{prepares}
use Rattle.rules_machine.specs.WellFormed.{IsWellFormed}
use Rattle.rules_machine.proofs.Counting.{instant_now}
use Rattle.rules_machine.proofs.Parts.{prepares_unended}
use Rattle.rules_flat_code.specs.FlatBodies.{flat_bodies}
use Rattle.rules_flat_code.specs.Runnable.{IsRunnable}
use Rattle.rules_leaps.specs.Leap.{leap_length, leap_runs}
use Rattle.rules_facts.specs.Facts.{facts}
use Rattle.rules_facts.specs.Shown.{once_ended}
use Rattle.script_printer.specs.Puts.{Put}
use Rattle.parts_texts.specs.Texts.{Next}
use Rattle.kernel_looks.specs.Desk.{IsReady}
use Rattle.laws_detail.specs.Rests.{BeginsPlainly, OnlyTakeTime}
use Rattle.script_printer.specs.Puts as printer
use Rattle.script_printer.proofs.Puts.{put_same}
use Rattle.kernel_texts.specs.Changed.{changed_lines}
use Rattle.kernel_texts.specs.Kept.{texts_of}
use Rattle.kernel_state.specs.Kernel.{Kernel, after, opened, told, turn}
use Rattle.kernel_settling.specs.Stood.{StoodRight}
use Rattle.kernel_leaps.specs.Detail.{AreBefore, GoesOn, HasGoneOn, AreReady, IsAfterQuietTick, StayIfIdle, Stops, Writes}
use Rattle.kernel_leaps.specs.Ran.{ticked_by}
use Rattle.kernel_leaps.specs.declared.detail.Reached.{Reached}
use Rattle.kernel_leaps.specs.declared.fact_texts.FactTexts.{FactTexts}
use Rattle.kernel_leaps.proofs.Prepared.{kernel_prepared, stands_prepared}
use Rattle.kernel_leaps.proofs.Resting.{StayFor, facts_before, one_stays, stay_calm, told_stays}
use Rattle.kernel_leaps.proofs.Telling.{leap_here, leap_state, m, now_of, p, q, ready, to}
use Rattle.kernel_leaps.proofs.TellingLeap.{ends_at_item, leaps_on, stops_at_once}
use Rattle.kernel_leaps.proofs.TellingPieces.{dispatch_written, ends_there, goes_on, is_handled, is_prepared, items_written, lives}
use Rattle.kernel_leaps.proofs.TellingTexts.{changes_are, told_later}
use Rattle.kernel_leaps.proofs.TimeTaken.{stays_behind}
use Rattle.kernel_leaps.proofs.TellingTick.{changes, dispatch, ends, items, only_items, stops_at_changes, stops_at_dispatch, stops_at_end, stops_at_items, whole_leap}

pub no_signal : (o : Option ℕ) → is_some o ≡ false → o ≡ None
no_signal None e = refl
no_signal (Some signal) e = absurd (cc)

pub a_signal : (o : Option ℕ) → is_some o ≡ true → (signal : ℕ) × (o ≡ Some signal)
a_signal None e = absurd (cc)
a_signal (Some signal) e = (signal, refl)

-- ---- the items

module _ (script : Script) (fits : IsWellFormed script) (at : Reached) (start : Kernel) (in_run : start ≡ ticked_by at.done (opened script)) (living : start.machine.killed ≡ None) where
  abbrev n : ℕ
  n = at.done

  pub alive : (m script fits at.done).killed ≡ None
  alive = lives script fits at.done start in_run living

  pub start_now : start.machine.now ≡ at.done
  start_now = ap (λ (x : Kernel). x.machine.now) in_run ∙ now_of script fits at.done alive

  module _ (handled : Kernel) (state : handled ≡ after (instant (flat_bodies start.code)) start) where
    pub handled_now : handled.machine.now ≡ at.done
    handled_now = ap (λ (x : Kernel). x.machine.now) state ∙ instant_now (flat_bodies start.code) (turn start) ∙ start_now

    module _ {K : Type 0} (text : K → Option (List ℕ)) (faults : K → ℕ) (some : 1 ≤ at.left) (a b : K) (v : Bool)
        (first : Printed (outlet text faults false a) (outlet text faults v b) (lines start.names (told (instant (flat_bodies start.code)) start))) where
      pub items_are : Writes text faults a b v (items script fits at.done)
      items_are = items_written script fits at.done start in_run text faults a b v first

      -- their lines could not be written
      pub items_stop : v ≡ true → Stops text faults script at a b
      items_stop failed = stops_at_once text faults script at some a b (stops_at_items script fits at.done alive text faults a b v failed items_are)

      -- one of them ends the process
      pub items_end : v ≡ false → is_some handled.machine.killed ≡ true → handled.direct ≡ [] → StoodRight handled.machine → (t : FactTexts)
          → HasGoneOn text faults script at (record { done = at.done + 1; left = at.left - 1; is_quiet = false }) handled t a b
      items_end good dead quiet stood t =
          let s = a_signal handled.machine.killed dead in
          let there = ends_there script fits at.done start in_run handled state s.0 s.1 in
          ends_at_item text faults script at fits alive some s.0 there handled (is_handled script fits at.done start in_run handled state) quiet stood s.1 t a b
          (subst (GoesOn text faults script at.done (at.done + 1) a b) good (only_items script fits at.done alive text faults s.0 there a b v items_are))

    -- ---- the dispatch

    module _ (living' : is_some handled.machine.killed ≡ false) (stands : StoodRight handled.machine) (still : handled.direct ≡ []) (prepared : Kernel) (given : prepared ≡ after (prepares (head handled.machine)) handled) where
      pub runs : (ready script fits at.done).machine.killed ≡ None
      runs = goes_on script fits at.done start in_run handled state (no_signal handled.machine.killed living')

      pub prepared_now : prepared.machine.now ≡ at.done
      prepared_now = ap (λ (x : Machine Cursor). x.now) (kernel_prepared handled prepared stands given).machine ∙ handled_now

      pub prepared_quiet : prepared.direct ≡ []
      prepared_quiet = ap (λ (x : Kernel). x.direct) given ∙ (prepares_unended (head handled.machine) (turn handled)).direct ∙ still

      pub prepared_stands : StoodRight prepared.machine
      prepared_stands = stands_prepared handled.machine (turn prepared) (kernel_prepared handled prepared stands given) stands

      pub there : prepared ≡ p script fits at.done
      there = is_prepared script fits at.done start in_run handled state prepared given

      module _ {K : Type 0} (text : K → Option (List ℕ)) (faults : K → ℕ) (some : 1 ≤ at.left) (a b c : K) (v w : Bool) (good : v ≡ false)
          (first : Printed (outlet text faults false a) (outlet text faults v b) (lines start.names (told (instant (flat_bodies start.code)) start)))
          (second : Printed (outlet text faults false b) (outlet text faults w c) (lines handled.names (told (prepares (head handled.machine)) handled))) where
        dispatch_is : Writes text faults b c w (dispatch script fits at.done)
        dispatch_is = dispatch_written script fits at.done start in_run handled state text faults b c w second

        -- its lines could not be written
        pub dispatch_stops : w ≡ true → Stops text faults script at a c
        dispatch_stops failed = stops_at_once text faults script at some a c (stops_at_dispatch script fits at.done alive text faults runs a b c v w good (items_are text faults some a b v first) dispatch_is failed)

        -- ---- the facts

        module _ (ok : IsRunnable script) (fine : w ≡ false) (d : K) (x : Bool) (old look : FactTexts)
            (third : Put (printer.outlet text faults false c) (printer.outlet text faults x d) look.desk.lines.text)
            (signals : length handled.machine.actions ≡ 32)
            (kept : look.desk.told.texts ≡ texts_of script.decls (facts script (once_ended handled.machine.killed handled.machine))) (subjects : look.desk.subjects ≡ old.desk.subjects)
            (differ : look.desk.lines.text ≡ changed_lines handled.machine.now old.desk.subjects.texts old.desk.told.texts look.desk.told.texts)
            (was : AreBefore script at.done old) (is_ready : AreReady script look) where
          changes_is : Writes text faults c d x (changes script fits at.done)
          changes_is =
              put_same (printer.outlet text faults false c) (printer.outlet text faults x d) look.desk.lines.text (changes script fits at.done)
              (differ
              ∙ ap (λ (i : ℕ). changed_lines i old.desk.subjects.texts old.desk.told.texts look.desk.told.texts) handled_now
              ∙ changes_are script ok fits at.done old look handled (is_handled script fits at.done start in_run handled state) signals kept subjects was is_ready)
              third

          -- their lines could not be written
          pub changes_stop : x ≡ true → Stops text faults script at a d
          changes_stop failed =
              stops_at_once text faults script at some a d (stops_at_changes script fits at.done alive text faults runs a b c v w good (items_are text faults some a b v first) dispatch_is fine d x changes_is failed)

          -- ---- the leap

          module _ (calm : Bool) (after_quiet : calm ≡ true → IsAfterQuietTick script at.done) (idle : calm ≡ true → next_item start.machine ≡ None) (sound : x ≡ false) (j : ℕ) (one : 1 ≤ j) (within : j ≤ at.left)
              (long : leap_length (q script fits at.done) j (m script fits at.done) ≡ j) (once : calm ≡ false → j ≡ 1) where
            stays : StayFor script at.done j
            stays = by_calm calm refl
              where
                by_calm : (b : Bool) → calm ≡ b → StayFor script at.done j
                by_calm true e =
                    stay_calm script fits at.done (after_quiet e) (sym (ap (λ (x : Kernel). next_item x.machine) in_run) ∙ idle e) j (leap_here script fits at.done alive runs j one long)
                by_calm false e = subst (StayFor script at.done) (sym (once e)) (one_stays script at.done)

            -- and behind it they stay, where it begins plainly and only takes time
            stays_then : (left : Kernel) → left ≡ after (leap_runs (flat_bodies (p script fits at.done).code) j (to script fits at.done)) (p script fits at.done) → left.direct ≡ []
                → BeginsPlainly handled.machine → ((t : ℕ) → to script fits at.done ≡ Some t → OnlyTakeTime (q script fits at.done) j t (p script fits at.done).machine) → StayIfIdle script (at.done + j)
            stays_then left leap quiet plain only none =
                stays_behind script fits at.done runs (subst (λ (k : Kernel). BeginsPlainly k.machine) (is_handled script fits at.done start in_run handled state) plain)
                (subst (λ (k : Kernel). k.direct ≡ []) there prepared_quiet) j only left leap (leap_state script fits at.done alive runs j one long left leap quiet) none
                ∙ sym (facts_before script at.done j stays one)

            pub leap_stops : (e : K) (y : Bool) → y ≡ true → Writes text faults d e y (ends script fits at.done j) → Stops text faults script at a e
            leap_stops e y failed fourth = record {
              later = at.done + j;
              within = omega (arith, within);
              on = stops_at_end script fits at.done alive text faults runs a b c v w good (items_are text faults some a b v first) dispatch_is fine d x changes_is sound j one long (told_stays script at.done j stays one) e y failed fourth;
            }

            pub leap_goes : (e : K) → Writes text faults d e false (ends script fits at.done j) → (left : Kernel) → left ≡ after (leap_runs (flat_bodies (p script fits at.done).code) j (to script fits at.done)) (p script fits at.done)
                → left.direct ≡ [] → StoodRight left.machine → (is_quiet : Bool) → (is_quiet ≡ true → j ≡ 1) → (is_quiet ≡ true → IsAfterQuietTick script (at.done + 1))
                → (new : FactTexts) → new.desk ≡ look.desk → new.next ≡ look.next
                → (new.are_steady ≡ true → BeginsPlainly handled.machine) → (new.are_steady ≡ true → (t : ℕ) → to script fits at.done ≡ Some t → OnlyTakeTime (q script fits at.done) j t (p script fits at.done).machine)
                → HasGoneOn text faults script at (record { done = at.done + j; left = at.left - j; is_quiet = is_quiet }) left new a e
            leap_goes e fourth left leap quiet stood is_quiet single tick new desk next plain only =
                leaps_on text faults script at fits alive runs j one within long left leap quiet stood is_quiet new a e
                (whole_leap script fits at.done alive text faults runs a b c v w good (items_are text faults some a b v first) dispatch_is fine d x changes_is sound j one long (told_stays script at.done j stays one) e false fourth)
                (told_later script ok fits at.done old new handled (is_handled script fits at.done start in_run handled state) signals (ap (λ d. d.told.texts) desk ∙ kept) (ap (λ d. d.subjects) desk ∙ subjects) was
                (record { desk = subst (λ d. IsReady script new.next.room d) (sym desk) (subst (λ (x : Next). IsReady script x.room look.desk) (sym next) is_ready.desk) }) j (facts_before script at.done j stays one)
                (λ steady. stays_then left leap quiet (plain steady) (only steady)))
                (λ e'. subst (λ (i : ℕ). IsAfterQuietTick script (at.done + i)) (sym (single e')) (tick e'))
