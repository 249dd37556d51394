-- The leap is the way to the instant.
use Rattle.std.proofs.Common.{ap, arith, ◌∙◌, ◌<◌, ◌≡◌, ◌≤◌}
use Rattle.std.specs.Prelude.{◌-◌}
use Rattle.tool_audit.specs.View.{Kept}
use Rattle.tool_audit.proofs.Advance.{stays_there, went_on}
use Rattle.tool_audit.proofs.replay.Replay.advance.Goals as goal

pub returns-then-to-self : goal.returns-then-to-self
returns-then-to-self c =
    let there : c.self.inside.instant ≡ c.args.self.now.account.now = ap (λ (k : Kept). k.account.now) c.self.view_is in
    let past = c.if-to-self.true in
    let behind : c.args.to ≤ c.args.self.now.account.now = omega arith in
    stays_there c.args.self.now c.args.to behind

pub returns : goal.returns
returns c =
    let here : c.leap.inside.instant ≡ c.args.self.now.account.now = ap (λ (k : Kept). k.account.now) c.leap.view_is in
    let there : c.self.inside.instant ≡ c.args.self.now.account.now = ap (λ (k : Kept). k.account.now) c.self.view_is in
    let not_yet = c.if-to-self.false in
    let later : c.args.self.now.account.now < c.args.to = omega arith in
    c.leap-2.ensures ∙ went_on c.args.self.now c.args.to (c.args.to - c.leap.inside.instant) c.rest-rest.result c.may-may.result c.misses-missed.result (omega arith) later c.rest-rest.ensures c.may-may.ensures c.misses-missed.ensures
