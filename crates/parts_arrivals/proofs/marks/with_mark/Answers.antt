use Rattle.std.proofs.Common.{◌==◌, ap, w32, sym, ◌∙◌}
use Rattle.std.proofs.lemmas.Nat.Bits.{bit_at_set_same, bit_at_set_other, bit_at_clear_same, bit_at_clear_other}
use Rattle.parts_arrivals.proofs.marks.with_mark.Goals as goal

pub returns-then-marked : goal.returns-then-marked
returns-then-marked c = record {
  changed = ap (λ b. b == 1) (bit_at_set_same w32 c.args.marks c.args.rank c.requires) ∙ sym c.if-marked.true;
  others = λ k within other. ap (λ b. b == 1) (bit_at_set_other w32 c.args.marks c.args.rank c.requires k other);
}

pub returns-else-marked : goal.returns-else-marked
returns-else-marked c = record {
  changed = ap (λ b. b == 1) (bit_at_clear_same w32 c.args.marks c.args.rank c.requires) ∙ sym c.if-marked.false;
  others = λ k within other. ap (λ b. b == 1) (bit_at_clear_other w32 c.args.marks c.args.rank c.requires k within other);
}
