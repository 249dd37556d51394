use Rattle.std.proofs.Common.{ap, ◌∙◌}
use Rattle.words_script.specs.declared.decl.Decl.TheVariants.{Named}
use Rattle.rules_bodies.specs.Flat.{body_list}
use Rattle.rules_bodies.proofs.Opens.{short_body}
use Rattle.script_flattener.proofs.bodies.declare.Goals as goal

pub add_body-requires-clause-short : goal.add_body-requires-clause-short
add_body-requires-clause-short c =
    short_body c.args.decl.now c.in-Thread.body
    (ap body_list c.in-Named.is ∙ ap (λ kind. body_list (Named c.in-Named.field-0 kind)) c.in-Thread.is) c.requires.short

pub add_body-requires-in-Handler-clause-short : goal.add_body-requires-in-Handler-clause-short
add_body-requires-in-Handler-clause-short c =
    short_body c.args.decl.now c.in-Handler.body
    (ap body_list c.in-Named.is ∙ ap (λ kind. body_list (Named c.in-Named.field-0 kind)) c.in-Handler.is) c.requires.short

pub add_body-requires-in-Cleanup-clause-short : goal.add_body-requires-in-Cleanup-clause-short
add_body-requires-in-Cleanup-clause-short c =
    short_body c.args.decl.now c.in-Cleanup.body
    (ap body_list c.in-Named.is ∙ ap (λ kind. body_list (Named c.in-Named.field-0 kind)) c.in-Cleanup.is) c.requires.short
