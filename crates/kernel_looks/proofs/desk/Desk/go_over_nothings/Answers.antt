use Rattle.std.proofs.Common.{◌≡◌, ◌+◌, ◌-◌, arith, subst, sym, ℕ}
use Rattle.kernel_looks.specs.Nothings.{WentKnown, nothings}
use Rattle.kernel_looks.proofs.Runs.{known_both, nothings_sum}
use Rattle.kernel_looks.proofs.desk.Desk.go_over_nothings.Goals as goal

pub returns-then-empty-count : goal.returns-then-empty-count
returns-then-empty-count c =
    subst (λ (n : ℕ). WentKnown c.args.self.now c.go_over_empty-empty.new.self (nothings n)) c.if-empty-count.true c.go_over_empty-empty.ensures.went

pub returns : goal.returns
returns c =
    let empty = c.go_over_empty-empty.result in
    let few = c.go_over_empty-empty.ensures.few in
    let all : c.args.count ≡ empty + (c.args.count - empty) = omega (arith, few) in
    subst (WentKnown c.args.self.now c.go_over_others.new.self) (sym (nothings_sum empty (c.args.count - empty) c.args.count all))
    (known_both _ _ _ _ _ c.go_over_empty-empty.ensures.went c.go_over_others.ensures)
