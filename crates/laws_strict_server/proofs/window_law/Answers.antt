use Rattle.laws_strict_server.proofs.Window.{window}
use Rattle.laws_strict_server.proofs.window_law.Goals as goal

pub returns : goal.returns
returns c = window
