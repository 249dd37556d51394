-- A run in which some leaps are done.
use Rattle.std.proofs.Common.{◌≡◌, ◌≤◌, ◌+◌, ℕ, List, [], Option, ap, arith, refl, subst, sym, true, ◌∙◌}
use Rattle.parts_tracer.specs.declared.tracer.Tracer.{Tracer}
use Rattle.parts_tracer.specs.Tells.{Tells}
use Rattle.words_trace.specs.Text.{Entry}
use Rattle.parts_tracer.proofs.Tells.{tells_both, tells_nothing, tells_stopped}
use Rattle.rules_bodies.specs.declared.cursor.Cursor.{Cursor}
use Rattle.rules_machine.specs.State.{Machine}
use Rattle.rules_machine.specs.Turns.{Turn, turn_of}
use Rattle.rules_machine.specs.DueItems.{instant, items_done}
use Rattle.rules_machine.specs.Eventful.{busy}
use Rattle.rules_machine.specs.Runs.{Ran, ran, ticks}
use Rattle.rules_machine.proofs.Joined.{ticks_add}
use Rattle.rules_flat_code.specs.FlatBodies.{flat_bodies}
use Rattle.rules_flat_code.specs.KnownCalls.{Objects}
use Rattle.kernel_wakes.specs.Calls.{objects_in}
use Rattle.rules_leaps.specs.Leap.{IsLeap, in_leaps, leap, leap_length}
use Rattle.laws_leaps.proofs.Leaps.Counts.{StaysReady, are_leaps}
use Rattle.laws_leaps.proofs.Leaps.Lengths.{is_leap}
use Rattle.laws_leaps.proofs.Quiet.AnyMachine.{handled_of}
use Rattle.kernel_leaps.specs.Fits.{CanLeap, Fits, ItemsFit, StaysFit}
use Rattle.kernel_leaps.proofs.Fitting.{objects_same}
use Rattle.kernel_state.specs.Kernel.{Kernel, after, told, turn}
use Rattle.kernel_settling.specs.Stood.{StoodRight}

-- so many ticks are done
pub record Running {K : Type 0} (text : K → Option (List ℕ)) (faults : K → ℕ) (start k : Kernel) (n : ℕ) (a b : Tracer K) : Type 0 where
  pub state : k ≡ record start { machine = (ticks (flat_bodies start.code) n start.machine).machine }
  pub told : Tells text faults start.names a b (ticks (flat_bodies start.code) n start.machine).events
  pub stood : StoodRight k.machine
  pub quiet : k.direct ≡ []

pub turn_is : (k : Kernel) → k.direct ≡ [] → turn k ≡ turn_of k.machine
turn_is k quiet = ap (λ (d : List ℕ). record { machine = k.machine; direct = d; events = [] }) quiet

-- the kernel after so many ticks
ticked : ℕ → Kernel → Kernel
ticked n k = record k { machine = (ticks (flat_bodies k.code) n k.machine).machine }

-- a leap leaves it where its ticks do
leapt_is : (j : ℕ) (k l : Kernel) → k.direct ≡ [] → l.direct ≡ [] → ran (leap (flat_bodies k.code) j (turn_of k.machine)) ≡ ticks (flat_bodies k.code) j k.machine →
    l ≡ after (leap (flat_bodies k.code) j) k → l ≡ ticked j k
unfolding ticked
leapt_is j k l quiet still same state =
    let s = leap (flat_bodies k.code) j (turn k) in
    let there : s.machine ≡ (ticks (flat_bodies k.code) j k.machine).machine =
    ap (λ (x : Turn Cursor). (leap (flat_bodies k.code) j x).machine) (turn_is k quiet) ∙ ap (λ (r : Ran Cursor). r.machine) same in
    let none : s.direct ≡ k.direct = sym (ap (λ (x : Kernel). x.direct) state) ∙ still ∙ sym quiet in
    state ∙ ap (λ (m : Machine Cursor). record k { machine = m; direct = s.direct }) there
    ∙ ap (λ (d : List ℕ). record k { machine = (ticks (flat_bodies k.code) j k.machine).machine; direct = d }) none

-- and it is one to leap from
leaps_from : (k : Kernel) (o : Objects) → StaysFit k o → StaysReady (flat_bodies k.code) k.machine
leaps_from k o fit n =
    let can = fit.leaps n in
    record { still = can.still; handled = handled_of (flat_bodies k.code) (instant (flat_bodies k.code) (turn_of (ticks (flat_bodies k.code) n k.machine).machine)).machine can.handled; slices = can.slices }

pub is_leap_of : (k : Kernel) (o : Objects) (most : ℕ) → 1 ≤ most → StaysFit k o → IsLeap (flat_bodies k.code) most (leap_length (flat_bodies k.code) most k.machine) k.machine
is_leap_of k o most some fit = is_leap (flat_bodies k.code) k.machine most some (leaps_from k o fit 0)

pub few_leaps : (k : Kernel) (o : Objects) (most : ℕ) → StaysFit k o → (in_leaps (flat_bodies k.code) most k.machine).count ≤ busy (flat_bodies k.code) k.machine 0 most + 1
few_leaps k o most fit = (are_leaps (flat_bodies k.code) most most k.machine (omega arith) (leaps_from k o fit)).few

-- what stays so from a kernel on stays so from each later one on
stays_fit_later : (start k : Kernel) (n : ℕ) (o : Objects) → k ≡ record start { machine = (ticks (flat_bodies start.code) n start.machine).machine } → StaysFit start o → StaysFit k o
stays_fit_later start k n o state fit =
    let bodies = flat_bodies start.code in
    let first = (ticks bodies n start.machine).machine in
    let later : StaysFit (record start { machine = first }) o = record {
      each = λ i most. subst (λ (r : Ran Cursor). Fits o start.code (items_done bodies most (turn_of r.machine)).machine) (ticks_add bodies n i start.machine) (fit.each (n + i) most);
      leaps = λ i. subst (λ (r : Ran Cursor). CanLeap bodies r.machine) (ticks_add bodies n i start.machine) (fit.leaps (n + i));
    } in
    subst (λ (x : Kernel). StaysFit x o) (sym state) later

-- of all objects of the kernel
pub still_fits : (start k : Kernel) (n : ℕ) → k ≡ record start { machine = (ticks (flat_bodies start.code) n start.machine).machine } → StaysFit start (objects_in start) → StaysFit k (objects_in k)
still_fits start k n state fit =
    let same = ap objects_in state ∙ objects_same start (ticks (flat_bodies start.code) n start.machine).machine (fit.each n 0).counts in
    subst (λ (o : Objects). StaysFit k o) (sym same) (stays_fit_later start k n (objects_in start) state fit)

-- and so do the items of its instant
pub items_fit : (k : Kernel) → k.direct ≡ [] → StaysFit k (objects_in k) → ItemsFit k (objects_in k)
items_fit k quiet fit = record {
  each = λ most. subst (λ (s : Turn Cursor). Fits (objects_in k) k.code (items_done (flat_bodies k.code) most s).machine) (sym (turn_is k quiet)) (fit.each 0 most);
}

module _ {K : Type 0} (text : K → Option (List ℕ)) (faults : K → ℕ) where
  pub no_ticks : (start : Kernel) (a : Tracer K) → StoodRight start.machine → start.direct ≡ [] → Running text faults start start 0 a a
  no_ticks start a stood quiet = record { state = refl; told = tells_nothing text faults start.names a; stood = stood; quiet = quiet }

  -- one leap more
  pub one_leap : (start k l : Kernel) (n j : ℕ) (a b c : Tracer K) → Running text faults start k n a b → ran (leap (flat_bodies k.code) j (turn_of k.machine)) ≡ ticks (flat_bodies k.code) j k.machine →
      l ≡ after (leap (flat_bodies k.code) j) k → Tells text faults k.names b c (told (leap (flat_bodies k.code) j) k) → StoodRight l.machine → l.direct ≡ [] → Running text faults start l (n + j) a c
  unfolding ticked
  one_leap start k l n j a b c running same state tells stood quiet =
      let bodies = flat_bodies start.code in
      let first = leapt_is j k l running.quiet quiet same state ∙ ap (ticked j) running.state in
      let turned = ap (λ (x : Turn Cursor). (leap (flat_bodies k.code) j x).events) (turn_is k running.quiet) ∙ ap (λ (r : Ran Cursor). r.events) same in
      let here = subst (λ (es : List Entry). Tells text faults k.names b c es) turned tells in
      let there = subst (λ (x : Kernel). Tells text faults x.names b c (ticks (flat_bodies x.code) j x.machine).events) running.state here in
      let both = ticks_add bodies n j start.machine in
      record {
        state = first ∙ ap (λ (r : Ran Cursor). record start { machine = r.machine }) (sym both);
        told = tells_both text faults start.names a b c _ _ _ running.told there (sym (ap (λ (r : Ran Cursor). r.events) both));
        stood = stood;
        quiet = quiet;
      }

  -- so many ticks more
  pub run_on : (start k l : Kernel) (n j : ℕ) (a b c : Tracer K) → Running text faults start k n a b → l ≡ record k { machine = (ticks (flat_bodies k.code) j k.machine).machine } →
      Tells text faults k.names b c (ticks (flat_bodies k.code) j k.machine).events → StoodRight l.machine → l.direct ≡ [] → Running text faults start l (n + j) a c
  unfolding ticked
  run_on start k l n j a b c running state tells stood quiet =
      let bodies = flat_bodies start.code in
      let first = state ∙ ap (ticked j) running.state in
      let there = subst (λ (x : Kernel). Tells text faults x.names b c (ticks (flat_bodies x.code) j x.machine).events) running.state tells in
      let both = ticks_add bodies n j start.machine in
      record {
        state = first ∙ ap (λ (r : Ran Cursor). record start { machine = r.machine }) (sym both);
        told = tells_both text faults start.names a b c _ _ _ running.told there (sym (ap (λ (r : Ran Cursor). r.events) both));
        stood = stood;
        quiet = quiet;
      }

  -- after a failure more ticks may have come
  pub stopped_told : (start k : Kernel) (n d : ℕ) (a b : Tracer K) → Running text faults start k n a b → b.failed ≡ true →
      Tells text faults start.names a b (ticks (flat_bodies start.code) (n + d) start.machine).events
  stopped_told start k n d a b running failed =
      let bodies = flat_bodies start.code in
      let first = ticks bodies n start.machine in
      tells_stopped text faults start.names a b first.events (ticks bodies d first.machine).events _ running.told failed
      (sym (ap (λ (r : Ran Cursor). r.events) (ticks_add bodies n d start.machine)))
