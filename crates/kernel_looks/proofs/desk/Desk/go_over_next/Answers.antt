use Rattle.std.proofs.Common.{[], ◌≡◌, ◌∷◌, ◌++◌, arith, subst, ℕ}
use Rattle.kernel_looks.specs.Nothings.{WentKnown, nothings}
use Rattle.kernel_looks.proofs.Runs.{known_both, known_one}
use Rattle.kernel_looks.proofs.desk.Desk.go_over_next.Goals as goal

pub returns-clause-went : goal.returns-clause-went
returns-clause-went c =
    let none : c.go_over_empty-empty.result ≡ 0 = omega (arith, c.if-empty-gt0.false) in
    subst (λ (n : ℕ). WentKnown c.args.self.now c.go_over_nothing.new.self (nothings n ++ [] ∷ [])) none
    (known_both _ _ _ _ _ c.go_over_empty-empty.ensures.went (known_one _ _ c.go_over_nothing.ensures.went c.go_over_nothing.ensures.seen))
