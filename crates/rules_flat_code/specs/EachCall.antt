-- What holds of each call of a body: of its steps, and of its flat code. A guarded block stands for its two calls.
use Rattle.std.specs.Prelude.{List, [], ◌∷◌}
use Rattle.words_script.specs.Block.{Block, Nothing, Running, Making, Setting, Adding, Taking, Testing, Looping, Guarding}
use Rattle.words_script.specs.declared.call.Call.{Call}
use Rattle.words_script.specs.declared.call.Call.TheVariants as call
use Rattle.rules_bodies.specs.declared.op.Op.{Op}
use Rattle.rules_bodies.specs.declared.op.Op.TheVariants as op

abbrev pub EachCall : (Call → Type 0) → Block → Type 0
EachCall Holds Nothing = Unit {0}
EachCall Holds (Running n rest) = EachCall Holds rest
EachCall Holds (Making c rest) = Holds c × EachCall Holds rest
EachCall Holds (Setting n rest) = EachCall Holds rest
EachCall Holds (Adding n rest) = EachCall Holds rest
EachCall Holds (Taking rest) = EachCall Holds rest
EachCall Holds (Testing named equal inner rest) = EachCall Holds inner × EachCall Holds rest
EachCall Holds (Looping times inner rest) = EachCall Holds inner × EachCall Holds rest
EachCall Holds (Guarding cleanup run inner rest) = Holds (call.Push cleanup) × Holds (call.Pop run) × EachCall Holds inner × EachCall Holds rest

abbrev pub EachMade : (Call → Type 0) → List Op → Type 0
EachMade Holds [] = Unit {0}
EachMade Holds (op.Make c ∷ ops) = Holds c × EachMade Holds ops
EachMade Holds (o ∷ ops) = EachMade Holds ops
