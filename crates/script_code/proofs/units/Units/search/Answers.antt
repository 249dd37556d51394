use Rattle.std.proofs.Common.{◌∙◌, ap, arith, rules}
use Rattle.rules_bodies.specs.Fetch.{ops_of}
use Rattle.script_code.specs.Packed.{unpacked}
use Rattle.script_code.proofs.Packs.{is_at, most_skipped_alone}
use Rattle.script_code.proofs.Told.{search_told, skips_within, told_moves}
use Rattle.script_code.proofs.units.Units.search.Goals as goal

pub carry_out-requires-clause-room : goal.carry_out-requires-clause-room
carry_out-requires-clause-room c =
    let calls = c.self.inside.calls.now in
    let ops = ops_of c.args.self.now.code c.args.self.now.body in
    let kept = c.self.invariant ∙ ap (λ u. ops_of u.code u.body) c.self.view_is in
    let h = is_at calls c.self.inside.packed.now ops c.loop-op.at.pc c.in-Some.op.now kept (search rules) (search rules) in
    let skips = skips_within ops c.loop-op.at.pc (unpacked calls c.in-Some.op.now) c.loop-op.invariant.ready.safe h.past h.at in
    let short = c.requires.short in
    omega (arith, most_skipped_alone calls c.in-Some.op.now)

pub returns-in-Some-carry_out-clause-found : goal.returns-in-Some-carry_out-clause-found
returns-in-Some-carry_out-clause-found c =
    let calls = c.self.inside.calls.now in
    let ops = ops_of c.args.self.now.code c.args.self.now.body in
    let kept = c.self.invariant ∙ ap (λ u. ops_of u.code u.body) c.self.view_is in
    let h = is_at calls c.self.inside.packed.now ops c.loop-op.at.pc c.in-Some.op.now kept (search rules) (search rules) in
    search_told ops c.args.at.now c.loop-op.at calls c.in-Some.op.now c.loop-op.invariant h.past h.at _
    (c.in-Some-carry_out.ensures calls)

pub loop-op-smaller : goal.loop-op-smaller
loop-op-smaller c =
    let calls = c.self.inside.calls.now in
    let ops = ops_of c.args.self.now.code c.args.self.now.body in
    let kept = c.self.invariant ∙ ap (λ u. ops_of u.code u.body) c.self.view_is in
    let h = is_at calls c.self.inside.packed.now ops c.loop-op.at.pc c.in-Some.op.now kept (search rules) (search rules) in
    let past = h.past in
    let moves = told_moves _ _ c.in-Some.op.now (unpacked calls c.in-Some.op.now) _ _ (c.in_default-carry_out.ensures calls) in
    omega arith

pub loop-op-preserved : goal.loop-op-preserved
loop-op-preserved c =
    let calls = c.self.inside.calls.now in
    let ops = ops_of c.args.self.now.code c.args.self.now.body in
    let kept = c.self.invariant ∙ ap (λ u. ops_of u.code u.body) c.self.view_is in
    let h = is_at calls c.self.inside.packed.now ops c.loop-op.at.pc c.in-Some.op.now kept (search rules) (search rules) in
    search_told ops c.args.at.now c.loop-op.at calls c.in-Some.op.now c.loop-op.invariant h.past h.at _
    (c.in_default-carry_out.ensures calls)
