-- What the code has of a saying.
use Rattle.std.specs.Prelude.{◌≤◌}
use Rattle.tool_check.specs.Words.{greatest}
use Rattle.tool_audit.specs.Marks as marks
use Rattle.tool_audit.specs.declared.saying.Saying.{Saying}
use Rattle.tool_audit.specs.declared.saying.Saying.TheVariants as saying

abbrev pub meant : Saying → marks.Saying
meant saying.Begins = marks.begins
meant saying.IsGiven = marks.is_given
meant saying.IsTaken = marks.is_taken
meant (saying.IsActivated capacity) = marks.is_activated capacity
meant saying.Exhausts = marks.exhausts
meant (saying.IsPlanned amount due) = marks.is_planned amount due
meant (saying.IsRefilled amount capacity) = marks.is_refilled amount capacity
meant saying.Exits = marks.exits
meant saying.Nothing = marks.nothing

-- no number in it is above the greatest of a trace
abbrev pub IsSmall : Saying → Type 0
IsSmall (saying.IsActivated capacity) = capacity ≤ greatest
IsSmall (saying.IsPlanned amount due) = (amount ≤ greatest) × (due ≤ greatest)
IsSmall (saying.IsRefilled amount capacity) = (amount ≤ greatest) × (capacity ≤ greatest)
IsSmall other = Unit {0}
