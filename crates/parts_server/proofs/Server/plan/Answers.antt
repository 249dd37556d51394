use Rattle.std.proofs.Common.{length, ◌≡◌, ◌≤◌, subst, sym, ap}
use Rattle.rules_server.specs.declared.Replenish.{Replenish}
use Rattle.rules_server.specs.Server.{ServerState, joins_as, replenishment}
use Rattle.rules_server.specs.Calls.{MayPlan}
use Rattle.parts_server.specs.ServerView.{server_state}
use Rattle.rules_server.proofs.Laws.{put_keeps}
use Rattle.parts_server.proofs.Server.plan.Goals as goal

pub invariant_of-self : goal.invariant_of-self
invariant_of-self c =
    let s = server_state c.self.inside in
    let back = sym c.self.view_is in
    let used : 1 ≤ s.consumed = subst (λ (x : ServerState). 1 ≤ x.consumed) back c.requires.used in
    let may : MayPlan c.args.self.now.kind c.args.self.now = c.requires.room in
    let room : MayPlan s.kind s = subst (λ (x : ServerState). MayPlan x.kind x) back may in
    let joins : c.joins-joins.result ≡ joins_as s.kind (length s.pending) s.params.max = subst (λ (x : ServerState). c.joins-joins.result ≡ joins_as x.kind (length x.pending) x.params.max) back c.joins-joins.ensures in
    let planned : c.replenishment-planned.result ≡ replenishment s = subst (λ (x : ServerState). c.replenishment-planned.result ≡ replenishment x) back c.replenishment-planned.ensures in
    put_keeps s c.replenishment-planned.result c.joins-joins.result c.put.new.pending.items c.self.invariant used room (ap (λ (r : Replenish). r.amount) planned) joins c.put.ensures
