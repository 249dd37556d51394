use Rattle.std.proofs.Common.{Some, ap, length, subst, sym, ℕ, ◌<◌, ◌∙◌, ◌≡◌}
use Rattle.std.specs.Prelude.{◌==◌}
use Rattle.parts_owners.specs.Chains.{Links, assigned_at, exec_of, mutex_at, prio_in}
use Rattle.parts_owners.specs.ChainView.{links}
use Rattle.parts_owners.proofs.Done.{cached_is}
use Rattle.parts_owners.proofs.chain.Chain.release_at_once.Goals as goal

pub returns-clause-value : goal.returns-clause-value
returns-clause-value c =
    let s = c.self.invariant.settled in
    let l = links c.self.inside in
    let t = c.args.t in
    let known : t < length l.claims =
    s.owners.each c.args.k t (subst (λ (x : Links). (mutex_at x c.args.k).owner ≡ Some t) (sym c.self.view_is) c.requires.owned) in
    let value : c.release_at_once.result ≡ (prio_in c.self.inside.exec.items t == assigned_at l t) =
    rw (← c.deref.ensures.value, ← c.deref-2.ensures.value) c.release_at_once.ensures.value in
    subst (λ (x : Links). c.release_at_once.result ≡ (exec_of x t == assigned_at x t)) c.self.view_is
    (value ∙ ap (λ (n : ℕ). n == assigned_at l t) (cached_is l c.self.inside.exec.items s.free s.owners s.right t known))
