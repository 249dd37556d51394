use Rattle.std.proofs.Common.{◌≡◌, ◌+◌, ◌*◌, ◌-◌, ℕ, min, arith}
use Rattle.std.proofs.lemmas.List.Sums.{fold_more}
use Rattle.script_table.proofs.words.wide_value.Goals as goal

step : (h v w d : ℕ) → w ≡ min (h + 1) v → min (w * 10 + d) (h + 1) ≡ min (h + 1) (v * 10 + d)
step h v w d is = omega arith

pub loop-c-preserved : goal.loop-c-preserved
loop-c-preserved c =
    let more = fold_more (λ (v d : ℕ). v * 10 + (d - 48)) 0 c.args.word.now c.loop-c.c-index 0 c.loop-c-test.true in
    rw (c.min-value.ensures, c.saturating_sub.ensures, more) (step _ _ _ _ c.loop-c.invariant)
