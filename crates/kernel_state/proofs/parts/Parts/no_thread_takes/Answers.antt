use Rattle.std.proofs.Common.{◌≡◌, ◌<◌, ◌+◌, ◌⊎◌, inl, inr, None, arith, subst, ℕ}
use Rattle.rules_machine.specs.Delivery.{taken_by_sweep}
use Rattle.kernel_state.proofs.parts.Parts.no_thread_takes.Goals as goal

pub loop-number-init : goal.loop-number-init
loop-number-init c t below = absurd (omega (arith, below))

pub loop-number-preserved : goal.loop-number-preserved
loop-number-preserved c t below = by_order (t_or_before c.loop-number.number t below)
  where
    t_or_before : (n t : ℕ) → t < n + 1 → (t < n) ⊎ (n ≡ t)
    t_or_before n t below = grind (arith, below)

    this : taken_by_sweep c.args.self.now.machine c.loop-number.number ≡ None
    this = subst (λ (u : ℕ). taken_by_sweep c.args.self.now.machine u ≡ None) c.tid-t.ensures (c.takes_none.ensures (let no = c.if-not-takes_none.false in grind (arith, no)))

    by_order : (t < c.loop-number.number) ⊎ (c.loop-number.number ≡ t) → taken_by_sweep c.args.self.now.machine t ≡ None
    by_order (inl before) = c.loop-number.invariant t before
    by_order (inr same) = subst (λ (u : ℕ). taken_by_sweep c.args.self.now.machine u ≡ None) same this

pub returns : goal.returns
returns c all_are t below =
    let end = c.count-number-end.ensures.threads in
    let past = c.loop-number-test.false in
    c.loop-number.invariant t (omega (arith, end, past, below))
