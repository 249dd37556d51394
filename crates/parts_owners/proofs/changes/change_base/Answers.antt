use Rattle.std.proofs.Common.{None, refl, ◌≡◌, ◌∙◌}
use Rattle.rules_machine.specs.Priorities.{Claim}
use Rattle.rules_machine.proofs.Reading.{changed-keeps}
use Rattle.parts_owners.specs.Chains.{assigned_to, awaited_in, links_of, no_claim}
use Rattle.parts_owners.proofs.Begun.{begins_base}
use Rattle.parts_owners.proofs.Done.{Begins, finished, may_walk, settled_after}
use Rattle.parts_owners.proofs.changes.change_base.Goals as goal

pub walk-requires : goal.walk-requires
walk-requires c =
    let old = links_of c.args.claims.now c.args.mutexes.now in
    let new = links_of c.assign.new.claims c.args.mutexes.now in
    let b : Begins old new c.args.exec.now c.args.t c.args.w.now =
    rw c.assign.ensures (begins_base old _ _ c.args.p _ c.requires.known c.requires.settled c.requires.placed) in
    may_walk old new _ _ _ b

pub returns : goal.returns
returns c =
    let old = links_of c.args.claims.now c.args.mutexes.now in
    let new = links_of c.assign.new.claims c.args.mutexes.now in
    let b : Begins old new c.args.exec.now c.args.t c.args.w.now =
    rw c.assign.ensures (begins_base old _ _ c.args.p _ c.requires.known c.requires.settled c.requires.placed) in
    let e = c.walk.ensures in
    record {
      claims = c.assign.ensures;
      settled = settled_after old new _ _ _ _ b e.each e.right e.fits;
      changes = finished old new _ _ _ _ _ _ b e.right e.same e.stand e.moved;
      alone = λ none.
          let here : awaited_in c.assign.new.claims c.args.t ≡ None =
          rw c.assign.ensures (changed-keeps no_claim c.args.t c.args.t (assigned_to c.args.p) (λ (x : Claim). x.awaited) (λ x. refl) c.args.claims.now ∙ none) in
          e.alone (rw here refl);
    }
