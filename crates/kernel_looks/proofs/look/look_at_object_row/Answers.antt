use Rattle.std.proofs.Common.{◌≡◌, add-one, arith, below_more, ℕ}
use Rattle.kernel_texts.specs.Rows.{object_count, object_facts}
use Rattle.kernel_texts.specs.Short.{HaveShortTexts}
use Rattle.kernel_looks.proofs.Looking.{went_both, went_none}
use Rattle.kernel_looks.proofs.look.look_at_object_row.Goals as goal

pub loop-number-init : goal.loop-number-init
loop-number-init c = record { kept = went_none _ _; short = λ k low. absurd (omega (arith, low)); memory = c.requires.memory }

pub loop-number-preserved : goal.loop-number-preserved
loop-number-preserved c =
    let holds = λ (k : ℕ). HaveShortTexts c.args.decls.now (object_facts c.args.row c.args.parts.now.machine k) in
    record {
      kept = rw add-one (went_both _ _ _ _ _ _ _ _ c.loop-number.invariant.kept (rw c.object_of.ensures at c.look_at_object_fact.ensures.kept));
      short = below_more holds c.loop-number.number c.loop-number.invariant.short (rw c.object_of.ensures at c.look_at_object_fact.ensures.short);
      memory = c.look_at_object_fact.ensures.memory;
    }

pub returns-clause-kept : goal.returns-clause-kept
returns-clause-kept c =
    let all : c.loop-number.number ≡ object_count c.args.row c.args.decls.now c.args.parts.now.machine = omega (arith, c.requires.count) in
    rw all at c.loop-number.invariant.kept

pub returns-clause-short : goal.returns-clause-short
returns-clause-short c =
    let all : c.loop-number.number ≡ object_count c.args.row c.args.decls.now c.args.parts.now.machine = omega (arith, c.requires.count) in
    rw all at c.loop-number.invariant.short
