-- What a call that prints does to its tracer. This project's own.
use Rattle.std.specs.Prelude.{◌≡◌, ℕ, List, Option}
use Rattle.parts_tracer.specs.declared.tracer.Tracer.{Tracer}
use Rattle.parts_tracer.specs.Printed.{Printed, outlet}

-- the tracer has the same sink, and the text due was printed to it
pub record Prints {K : Type 0} (text : K → Option (List ℕ)) (faults : K → ℕ) (old new : Tracer K) (due : List ℕ) : Type 0 where
  pub same_sink : new.sink.ghost_name ≡ old.sink.ghost_name
  pub printed : Printed (outlet text faults old.failed old.sink.now) (outlet text faults new.failed new.sink.now) due
