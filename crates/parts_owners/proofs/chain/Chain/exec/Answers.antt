use Rattle.std.proofs.Common.{arith, length, subst, sym, ◌<◌, ◌∙◌}
use Rattle.std.proofs.lemmas.List.{get_or_read}
use Rattle.parts_owners.specs.Chains.{Links, links_of}
use Rattle.parts_owners.proofs.Done.{cached_is}
use Rattle.parts_owners.proofs.chain.Chain.exec.Goals as goal

pub returns : goal.returns
returns c =
    let s = c.self.invariant.settled in
    let links = links_of c.self.inside.claims.items c.self.inside.mutexes.items in
    let known : c.args.t < length links.claims = subst (λ (x : Links). c.args.t < length x.claims) (sym c.self.view_is) c.requires in
    let within : c.args.t < length c.self.inside.exec.items = omega (arith, s.each, known) in
    rw (← c.self.view_is)
    (get_or_read c.self.inside.exec.items c.args.t c.index.result.now within (rw c.get.ensures.value at c.index.ensures) 0 ∙ cached_is links c.self.inside.exec.items s.free s.owners s.right c.args.t known)
