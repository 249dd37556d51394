use Rattle.std.proofs.Common.{Bool, None, Some, ap, sym, ◌∙◌}
use Rattle.std.specs.Prelude.{if◌then◌else◌}
use Rattle.kernel_state.proofs.parts.Parts.if_awaits.Goals as goal

pub returns-then-awaits : goal.returns-then-awaits
returns-then-awaits c = λ r same. ap (λ (b : Bool). if b then Some c.args.t else None) (sym (sym (c.awaits.ensures r same) ∙ c.if-awaits.true))

pub returns-else-awaits : goal.returns-else-awaits
returns-else-awaits c = λ r same. ap (λ (b : Bool). if b then Some c.args.t else None) (sym (sym (c.awaits.ensures r same) ∙ c.if-awaits.false))
