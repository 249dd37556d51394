-- The pieces that are written of one tick, as the calls that write them say.
use Rattle.std.proofs.Common.{◌≡◌, ◌∙◌, ℕ, Bool, List, None, Option, Some, ap, false, subst, sym}
use Rattle.words_script.specs.declared.decl.Script.{Script}
use Rattle.words_trace.specs.Text.{lines}
use Rattle.parts_tracer.specs.Printed.{Printed, outlet}
use Rattle.rules_machine.specs.Dispatch.{head}
use Rattle.rules_machine.specs.DueItems.{instant}
use Rattle.rules_machine.specs.Ticks.{prepares}
use Rattle.rules_machine.specs.WellFormed.{IsWellFormed}
use Rattle.rules_flat_code.specs.FlatBodies.{flat_bodies}
use Rattle.rules_leaps.specs.Leap.{leap_runs}
use Rattle.kernel_state.specs.Kernel.{Kernel, after, opened, told}
use Rattle.kernel_leaps.specs.Detail.{Writes}
use Rattle.kernel_leaps.specs.Ran.{ticked_by}
use Rattle.kernel_leaps.proofs.OneLeap.{put_of}
use Rattle.kernel_leaps.proofs.Telling.{l, m, p, ready, to}
use Rattle.kernel_leaps.proofs.TellingTick.{dispatch, ends, items}

module _ (script : Script) (fits : IsWellFormed script) (n : ℕ) (start : Kernel) (in_run : start ≡ ticked_by n (opened script)) where
  pub lives : start.machine.killed ≡ None → (m script fits n).killed ≡ None
  lives e = subst (λ (x : Kernel). x.machine.killed ≡ None) in_run e

  module _ {K : Type 0} (text : K → Option (List ℕ)) (faults : K → ℕ) where
    pub items_written : (a b : K) (v : Bool) → Printed (outlet text faults false a) (outlet text faults v b) (lines start.names (told (instant (flat_bodies start.code)) start))
        → Writes text faults a b v (items script fits n)
    items_written a b v h =
        put_of text faults false v a b (items script fits n)
        (subst (λ (x : Kernel). Printed (outlet text faults false a) (outlet text faults v b) (lines x.names (told (instant (flat_bodies x.code)) x))) in_run h)

  -- with its items handled
  module _ (handled : Kernel) (state : handled ≡ after (instant (flat_bodies start.code)) start) where
    pub is_handled : handled ≡ l script fits n
    is_handled = state ∙ ap (λ (x : Kernel). after (instant (flat_bodies x.code)) x) in_run

    pub goes_on : handled.machine.killed ≡ None → (ready script fits n).machine.killed ≡ None
    goes_on e = sym (ap (λ (x : Kernel). x.machine.killed) is_handled) ∙ e

    pub ends_there : (signal : ℕ) → handled.machine.killed ≡ Some signal → (ready script fits n).machine.killed ≡ Some signal
    ends_there signal e = sym (ap (λ (x : Kernel). x.machine.killed) is_handled) ∙ e

    module _ {K : Type 0} (text : K → Option (List ℕ)) (faults : K → ℕ) where
      pub dispatch_written : (a b : K) (v : Bool)
          → Printed (outlet text faults false a) (outlet text faults v b) (lines handled.names (told (prepares (head handled.machine)) handled)) → Writes text faults a b v (dispatch script fits n)
      dispatch_written a b v h =
          put_of text faults false v a b (dispatch script fits n)
          (subst (λ (x : Kernel). Printed (outlet text faults false a) (outlet text faults v b) (lines x.names (told (prepares (head x.machine)) x))) is_handled h)

    -- with its tick begun
    module _ (prepared : Kernel) (given : prepared ≡ after (prepares (head handled.machine)) handled) where
      pub is_prepared : prepared ≡ p script fits n
      is_prepared = given ∙ ap (λ (x : Kernel). after (prepares (head x.machine)) x) is_handled

      module _ (whom : Option ℕ) (top : whom ≡ head handled.machine) where
        pub is_top : whom ≡ to script fits n
        is_top = top ∙ ap (λ (x : Kernel). head x.machine) is_handled

        -- the kernel that so many ticks of it leave
        pub ticked_is : (j : ℕ) (left : Kernel) → left ≡ after (leap_runs (flat_bodies prepared.code) j whom) prepared → left ≡ after (leap_runs (flat_bodies (p script fits n).code) j (to script fits n)) (p script fits n)
        ticked_is j left e =
            e
            ∙ ap (λ (o : Option ℕ). after (leap_runs (flat_bodies prepared.code) j o) prepared) is_top
            ∙ ap (λ (x : Kernel). after (leap_runs (flat_bodies x.code) j (to script fits n)) x) is_prepared

        module _ {K : Type 0} (text : K → Option (List ℕ)) (faults : K → ℕ) where
          pub ends_written : (j : ℕ) (a b : K) (v : Bool)
              → Printed (outlet text faults false a) (outlet text faults v b) (lines prepared.names (told (leap_runs (flat_bodies prepared.code) j whom) prepared)) → Writes text faults a b v (ends script fits n j)
          ends_written j a b v h =
              put_of text faults false v a b (ends script fits n j)
              (subst (λ (x : Kernel). Printed (outlet text faults false a) (outlet text faults v b) (lines x.names (told (leap_runs (flat_bodies x.code) j (to script fits n)) x))) is_prepared
              (subst (λ (o : Option ℕ). Printed (outlet text faults false a) (outlet text faults v b) (lines prepared.names (told (leap_runs (flat_bodies prepared.code) j o) prepared))) is_top h))
