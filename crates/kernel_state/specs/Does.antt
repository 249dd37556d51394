-- What a call of the kernel does: one effect of the machine. This project's own.
use Rattle.std.specs.Prelude.{◌≡◌, ℕ, List, Option}
use Rattle.parts_tracer.specs.Tells.{Tells}
use Rattle.parts_tracer.specs.declared.tracer.Tracer.{Tracer}
use Rattle.rules_bodies.specs.declared.cursor.Cursor.{Cursor}
use Rattle.rules_machine.specs.Turns.{Turn}
use Rattle.kernel_state.specs.Kernel.{Kernel, after, told}

-- the kernel is the old one after the effect, and the lines of the effect's events were written
pub record Does {K : Type 0} (text : K → Option (List ℕ)) (faults : K → ℕ) (effect : Turn Cursor → Turn Cursor) (old new : Kernel) (before behind : Tracer K) : Type 0 where
  pub state : new ≡ after effect old
  pub told : Tells text faults old.names before behind (told effect old)
