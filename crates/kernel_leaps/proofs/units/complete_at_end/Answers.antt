use Rattle.std.proofs.Common.{arith, false, refl, rules, subst, suc, sym, zero, ℕ, ◌∙◌, ◌≡◌}
use Rattle.std.specs.Prelude.{◌==◌}
use Rattle.parts_tracer.specs.Tells.{Tells}
use Rattle.parts_tracer.proofs.Tells.{tells_nothing}
use Rattle.rules_bodies.specs.declared.cursor.Cursor.{Cursor}
use Rattle.rules_bodies.specs.declared.unit.Unit as unit
use Rattle.script_code.specs.Fetched.{unit_of}
use Rattle.rules_machine.specs.Bodies.{Bodies}
use Rattle.rules_machine.specs.Threads.{thread_at, top_left}
use Rattle.rules_machine.specs.Ticks.{completes_at}
use Rattle.rules_machine.specs.Turns.{Turn}
use Rattle.rules_flat_code.specs.FlatBodies.{flat_bodies}
use Rattle.kernel_state.specs.Kernel.{turn}
use Rattle.kernel_leaps.proofs.units.complete_at_end.Goals as goal

-- nothing is complete while ticks are left
later_nothing : (bodies : Bodies Cursor) (n t : ℕ) (u : unit.Unit) (s : Turn Cursor) → (n ≡ 0 → ⊥) → s ≡ completes_at bodies n t u s
later_nothing bodies zero t u s h = absurd (h refl)
later_nothing bodies (suc n) t u s h = refl

pub returns-else-ran : goal.returns-else-ran
returns-else-ran g c = record {
  state = (search rules);
  told = (let p = c.args.p.now in
      let left = top_left (thread_at p.machine c.args.t).frames in
      let some : (left == 0) ≡ false = sym c.requires.complete ∙ c.if-ran.false in
      let later : left ≡ 0 → ⊥ = λ e. absurd (grind arith) in
      subst (λ (s : Turn Cursor). Tells g.K.Sink.text g.K.Sink.faults p.names c.args.out.now c.args.out.now s.events)
      (later_nothing (flat_bodies p.code) left c.args.t (unit_of p.code c.args.ran.now.unit) (turn p) later) (tells_nothing _ _ _ _));
}
