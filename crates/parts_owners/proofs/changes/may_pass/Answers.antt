use Rattle.std.proofs.Common.{true, ◌≡◌, ◌∙◌, sym, ◌<◌, length}
use Rattle.parts_owners.specs.Chains.{assigned_at, links_of, prio_in}
use Rattle.parts_owners.proofs.AtOnce.{are_same}
use Rattle.parts_owners.proofs.Done.{cached_is}
use Rattle.parts_owners.proofs.InheritWaiters.{is_tells}
use Rattle.parts_owners.proofs.changes.may_pass.Goals as goal

pub returns-then-is_plain : goal.returns-then-is_plain
returns-then-is_plain c told =
    let l = links_of c.args.claims.now c.args.mutexes.now in
    let s = c.requires.settled in
    let known : c.args.owner < length l.claims = s.owners.each c.args.k c.args.owner c.requires.owned in
    let here : c.is_at_assigned.result ≡ true = cc in
    let low : prio_in c.args.exec.now c.args.owner ≡ assigned_at l c.args.owner = are_same _ _ _ here c.is_at_assigned.ensures in
    record {
      low = sym (cached_is l c.args.exec.now s.free s.owners s.right c.args.owner known) ∙ low;
      plain = c.is_plain.ensures c.if-is_plain.true;
      waits = is_tells _ _ (sym c.is_awaited.ensures ∙ told);
    }
