use Rattle.std.proofs.Common.{◌+◌, ◌≡◌, arith, refl, subst, sym, ℕ}
use Rattle.kernel_looks.specs.Nothings.{WentKnown, nothings}
use Rattle.kernel_looks.proofs.Runs.{known_both, known_none, nothings_sum}
use Rattle.kernel_looks.proofs.desk.Desk.go_over_others.Goals as goal

pub loop-gone-init : goal.loop-gone-init
loop-gone-init c = record { few = omega arith; went = known_none _ }

pub loop-gone-preserved : goal.loop-gone-preserved
loop-gone-preserved c =
    let step = c.go_over_next-gone.ensures in
    let gone = c.loop-gone.gone in
    let more = c.go_over_next-gone.result in
    let few = step.few in
    let before = c.loop-gone.invariant.few in
    record {
      few = omega (arith, few, before);
      went = subst (WentKnown c.args.self.now c.go_over_next-gone.new.self) (sym (nothings_sum gone more (gone + more) refl)) (known_both _ _ _ _ _ c.loop-gone.invariant.went step.went);
    }

pub returns : goal.returns
returns c =
    let few = c.loop-gone.invariant.few in
    let all : c.loop-gone.gone ≡ c.args.count = omega (arith, few, c.loop-gone-test.false) in
    subst (λ (n : ℕ). WentKnown c.args.self.now c.loop-gone.self (nothings n)) all c.loop-gone.invariant.went
