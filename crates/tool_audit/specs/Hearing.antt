-- What becomes of the account of a server where something is said of its thread.
use Rattle.std.specs.Prelude.{◌≡◌, ◌<◌, ◌≤◌, ◌+◌, ℕ, IsTrue, length, slice_get}
use Rattle.tool_audit.specs.Server.{Limits}
use Rattle.tool_audit.specs.Marks as marks
use Rattle.tool_audit.specs.Replay.{Account, after_mark, fits_oldest}
use Rattle.tool_audit.specs.View.{Kept}
use Rattle.tool_audit.specs.declared.saying.Saying.{Saying}
use Rattle.tool_audit.specs.declared.saying.Saying.TheVariants as saying

-- what a saying that breaks no rule finds
abbrev pub CanSay : Account → Limits → Saying → Type 0
CanSay a s (saying.IsActivated capacity) = a.planned ≡ a.high
CanSay a s (saying.IsPlanned amount due) = (length a.ahead < s.max) × (a.planned + amount ≤ a.high)
CanSay a s (saying.IsRefilled amount capacity) = (1 ≤ length a.ahead) × IsTrue (fits_oldest (slice_get a.ahead 0) a.now amount)
CanSay a s other = Unit {0}

-- after what is said at a time
abbrev pub heard : ℕ → marks.Saying → Kept → Kept
heard time what k = record { limits = k.limits; account = after_mark k.limits k.account (record { time = time; saying = what }) }
