use Rattle.std.proofs.Common.{ap, arith, length, subst, sym}
use Rattle.kernel_texts.proofs.Named.{HasShortName, names_short, none_left, rest_short}
use Rattle.kernel_texts.proofs.short.know_names.Goals as goal
use Rattle.kernel_texts.proofs.short.know_names.Goals.{in-Action, in-Named}

pub loop-decl-preserved : goal.loop-decl-preserved
loop-decl-preserved c =
    let d = c.decl-item.result in
    elim c.match-decl.branch [
      | in-Named w ↦
          let name : HasShortName d = subst HasShortName (sym w.in-Named.is) (omega (arith, w.bytes-bytes.ensures.short, ap length w.bytes-bytes.ensures.value)) in
          λ of rest. c.loop-decl.invariant of (rest_short of c.args.decls.now c.loop-decl.decl-index d c.loop-decl-test.true c.decl-item.is name rest)
      | in-Action w ↦
          let name : HasShortName d = subst HasShortName (sym w.in-Action.is) tt in
          λ of rest. c.loop-decl.invariant of (rest_short of c.args.decls.now c.loop-decl.decl-index d c.loop-decl-test.true c.decl-item.is name rest)
    ]

pub returns : goal.returns
returns c = names_short c.args.decls.now (λ of. c.loop-decl.invariant of (none_left of c.args.decls.now c.loop-decl.decl-index c.loop-decl-test.false))
