-- The run of a script's kernel is the run of the script.
use Rattle.std.proofs.Common.{◌≡◌, ◌∙◌, ◌-◌, ◌+◌, ◌≤◌, ℕ, List, Option, ap, arith, subst}
use Rattle.parts_tracer.specs.Tells.{Tells}
use Rattle.parts_tracer.specs.declared.tracer.Tracer.{Tracer}
use Rattle.words_script.specs.declared.decl.Script.{Script}
use Rattle.rules_bodies.specs.declared.cursor.Cursor.{Cursor}
use Rattle.rules_machine.specs.Eventful.{busy}
use Rattle.rules_machine.specs.Machine.{names_of, run}
use Rattle.rules_machine.specs.Promises.{busy_between}
use Rattle.rules_machine.specs.Runs.{Ran, opening, ticks}
use Rattle.rules_flat_code.specs.FlatBodies.{code_of, flat_bodies}
use Rattle.laws_places.specs.Carried.{ran_carried}
use Rattle.laws_flat_code.specs.Places.{carry}
use Rattle.laws_flat_code.proofs.Agrees.{flat_busy, flat_runs}
use Rattle.kernel_state.specs.Kernel.{Kernel, opened}
use Rattle.kernel_leaps.specs.Ran.{ticked_by}

-- what goes on from where a kernel stands to the horizon
abbrev to_horizon : ℕ → Kernel → Ran Cursor
to_horizon h k = ticks (flat_bodies k.code) (h - k.machine.now) k.machine

module _ (script : Script) (h : ℕ) (k : Kernel) (is : k ≡ opened script) where
  from_start : h - 0 ≡ h
  from_start = omega arith

  runs : to_horizon h k ≡ ran_carried (carry script) (run script h)
  runs = ap (to_horizon h) is ∙ ap (λ (n : ℕ). ticks (flat_bodies (code_of script)) n (opening script)) from_start ∙ flat_runs script h

  pub machine_of : (q : Kernel) → q ≡ ticked_by (h - k.machine.now) k → q.machine ≡ (ran_carried (carry script) (run script h)).machine
  machine_of q state = ap (λ (x : Kernel). x.machine) state ∙ ap (λ (r : Ran Cursor). r.machine) runs

  pub events_of : {K : Type 0} (text : K → Option (List ℕ)) (faults : K → ℕ) (a b : Tracer K) → Tells text faults k.names a b (to_horizon h k).events →
      Tells text faults (names_of script) a b (run script h).events
  events_of text faults a b tells =
      subst (λ (r : Ran Cursor). Tells text faults (names_of script) a b r.events) runs
      (subst (λ (x : Kernel). Tells text faults x.names a b (to_horizon h k).events) is tells)

  pub busy_of : (before after : ℕ) → after ≤ before + busy (flat_bodies k.code) k.machine 0 (h - k.machine.now) + 1 → after ≤ before + busy_between script 0 h + 1
  busy_of before after bound =
      let counted = ap (λ (x : Kernel). busy (flat_bodies x.code) x.machine 0 (h - x.machine.now)) is
      ∙ ap (busy (flat_bodies (code_of script)) (opening script) 0) from_start ∙ flat_busy script 0 h in
      subst (λ (n : ℕ). after ≤ before + n + 1) counted bound
