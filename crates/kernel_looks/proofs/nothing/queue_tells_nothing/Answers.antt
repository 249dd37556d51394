use Rattle.std.proofs.Common.{Bool, [], subst, sym, ◌≡◌}
use Rattle.kernel_texts.specs.Kept.{waiters_text}
use Rattle.kernel_looks.proofs.NothingTold.{nobody_receives, nobody_sends}
use Rattle.kernel_looks.proofs.nothing.queue_tells_nothing.Goals as goal

pub returns-then-to_send : goal.returns-then-to_send
returns-then-to_send c e decls =
    subst (λ (to_send : Bool). waiters_text decls to_send c.args.parts.now.machine c.args.q ≡ []) (sym c.if-to_send.true) (nobody_sends c.args.parts.now.machine c.args.q (c.nobody_waits.ensures e) decls)

pub returns : goal.returns
returns c e decls =
    subst (λ (to_send : Bool). waiters_text decls to_send c.args.parts.now.machine c.args.q ≡ []) (sym c.if-to_send.false) (nobody_receives c.args.parts.now.machine c.args.q (c.nobody_waits-2.ensures e) decls)
