-- What a call that has events does to its tracer. This project's own.
use Rattle.std.specs.Prelude.{ℕ, List, Option}
use Rattle.parts_tracer.specs.declared.tracer.Tracer.{Tracer}
use Rattle.parts_tracer.specs.Prints.{Prints}
use Rattle.words_trace.specs.Text.{Entry, lines}

-- the lines of these events were printed
pub record Tells {K : Type 0} (text : K → Option (List ℕ)) (faults : K → ℕ) (names : List (List ℕ)) (old new : Tracer K) (events : List Entry) : Type 0 where
  pub told : Prints text faults old new (lines names events)
