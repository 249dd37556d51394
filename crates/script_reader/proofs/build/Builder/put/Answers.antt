use Rattle.std.proofs.Common.{◌-◌, sym, refl, ap, ◌∙◌, arith}
use Rattle.std.specs.Prelude.{Some}
use Rattle.std.specs.Vec.{vec_len}
use Rattle.script_table.specs.Build.{Built, with_step}
use Rattle.script_reader.proofs.Innermost.{put_last}
use Rattle.script_reader.proofs.build.Builder.put.Goals as goal

pub returns : goal.returns
returns c =
    let inside = c.self.inside in
    let step = c.in-Some.step in
    let last = c.in-Some-last_mut in
    let inner = put_last inside.blocks.items last.block.now c.push.new.self step (vec_len inside.blocks - 1) (omega (arith, inside.blocks.ok.0, last.ensures.variant.0 refl)) last.ensures.value c.in_ok-push.ensures in
    ap (λ bs. record { quantum = inside.quantum; blocks = bs; decls = inside.decls.items }) inner
    ∙ (ap (λ (b : Built). with_step b (Some step)) c.self.view_is ∙ ap (with_step c.args.self.now) (sym c.in-Some.is))
