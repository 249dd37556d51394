use Rattle.std.proofs.Common.{◌<◌, arith, length, subst, ℕ}
use Rattle.parts_owners.specs.Chains.{Links, exec_of}
use Rattle.rules_machine.specs.WellFormed.{IsPriority}
use Rattle.parts_owners.specs.ChainView.{links}
use Rattle.parts_owners.proofs.Done.{cached_is}
use Rattle.parts_owners.proofs.chain.Chain.priorities_fit.Goals as goal

pub returns : goal.returns
returns c =
    let s = c.self.invariant.settled in
    let l = links c.self.inside in
    subst (λ (x : Links). (t : ℕ) → t < length x.claims → IsPriority (exec_of x t)) c.self.view_is
    (λ t lt. subst IsPriority (cached_is l c.self.inside.exec.items s.free s.owners s.right t lt) (s.fits.each t (omega (arith, s.each, lt))))
