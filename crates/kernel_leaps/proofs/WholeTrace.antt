-- The run of a script's kernel and its closing lines are the script's trace.
use Rattle.std.proofs.Common.{◌≡◌, ◌-◌, ℕ, List, Option, ap, arith, subst, true, ◌∙◌}
use Rattle.parts_tracer.specs.Prints.{Prints}
use Rattle.parts_tracer.specs.Tells.{Tells}
use Rattle.words_trace.specs.Text.{lines}
use Rattle.parts_tracer.specs.declared.tracer.Tracer.{Tracer}
use Rattle.parts_tracer.proofs.Prints.{prints_both, prints_stopped}
use Rattle.words_script.specs.declared.decl.Script.{Script}
use Rattle.rules_machine.specs.Machine.{closing, names_of, trace}
use Rattle.rules_machine.specs.Runs.{opening, ticks}
use Rattle.laws_flat_code.proofs.Agrees.{flat_traces}
use Rattle.rules_flat_code.specs.FlatBodies.{code_of, flat_bodies}
use Rattle.kernel_state.specs.Kernel.{Kernel, opened}

-- the kernel after the ticks to a horizon
abbrev pub at_end : ℕ → Kernel → Kernel
at_end h k = record k { machine = (ticks (flat_bodies k.code) (h - k.machine.now) k.machine).machine }

module _ {K : Type 0} (text : K → Option (List ℕ)) (faults : K → ℕ) (script : Script) (h : ℕ) where
  from_start : h - 0 ≡ h
  from_start = omega arith

  told_all : (p : Kernel) (a b : Tracer K) → p ≡ opened script → Tells text faults p.names a b (ticks (flat_bodies p.code) (h - p.machine.now) p.machine).events →
      Prints text faults a b (lines (names_of script) (ticks (flat_bodies (code_of script)) h (opening script)).events)
  told_all p a b is tells =
      let first = subst (λ (k : Kernel). Tells text faults k.names a b (ticks (flat_bodies k.code) (h - k.machine.now) k.machine).events) is tells in
      (subst (λ (n : ℕ). Tells text faults (names_of script) a b (ticks (flat_bodies (code_of script)) n (opening script)).events) from_start first).told

  pub ended_text : (p q : Kernel) (a b c : Tracer K) → p ≡ opened script → q ≡ at_end h p → Tells text faults p.names a b (ticks (flat_bodies p.code) (h - p.machine.now) p.machine).events →
      Prints text faults b c (closing q.names q.machine) → Prints text faults a c (trace script h)
  ended_text p q a b c is state tells prints =
      let first = subst (λ (k : Kernel). Prints text faults b c (closing k.names k.machine)) (state ∙ ap (at_end h) is) prints in
      let second = subst (λ (n : ℕ). Prints text faults b c (closing (names_of script) (ticks (flat_bodies (code_of script)) n (opening script)).machine)) from_start first in
      subst (λ (due : List ℕ). Prints text faults a c due) (flat_traces script h) (prints_both text faults a b c _ _ (told_all p a b is tells) second)

  pub stopped_text : (p : Kernel) (a b : Tracer K) → p ≡ opened script → b.failed ≡ true → Tells text faults p.names a b (ticks (flat_bodies p.code) (h - p.machine.now) p.machine).events →
      Prints text faults a b (trace script h)
  stopped_text p a b is failed tells =
      subst (λ (due : List ℕ). Prints text faults a b due) (flat_traces script h)
      (prints_stopped text faults a b _ (closing (names_of script) (ticks (flat_bodies (code_of script)) h (opening script)).machine) (told_all p a b is tells) failed)
