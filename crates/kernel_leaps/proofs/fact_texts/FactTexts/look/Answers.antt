use Rattle.std.proofs.Common.{ap, sym, ◌∙◌}
use Rattle.parts_texts.specs.Texts.{Next}
use Rattle.kernel_texts.specs.Changed.{changed_lines}
use Rattle.kernel_leaps.specs.declared.fact_texts.FactTexts.{FactTexts}
use Rattle.kernel_leaps.proofs.Unlooked.{no_lines}
use Rattle.kernel_leaps.proofs.fact_texts.FactTexts.look.Goals.{then-is_idle+then-self, else-is_idle, else-is_idle-via-then-is_idle+else-self, else-is_idle-via-else-is_idle}
use Rattle.kernel_leaps.proofs.fact_texts.FactTexts.look.Goals as goal

pub returns-clause-lines : goal.returns-clause-lines
returns-clause-lines c =
    let now = c.args.parts.now.machine.now in
    let abouts = c.args.self.now.desk.subjects.texts in
    let told = c.args.self.now.desk.told.texts in
    elim c.if-is_idle.branch [
      | then-is_idle+then-self w ↦
          ap (λ (t : FactTexts). t.desk.lines.text) w.self-is
          ∙ ap (λ (x : Next). x.text) w.clear.ensures
          ∙ sym (no_lines now abouts told)
          ∙ ap (λ (t : FactTexts). changed_lines now abouts told t.desk.told.texts) (sym w.self-is)
      | else-is_idle w ↦
          ap (λ (t : FactTexts). t.desk.lines.text) w.self-is
          ∙ w.look_at_facts.ensures.lines
          ∙ ap (λ (t : FactTexts). changed_lines now abouts told t.desk.told.texts) (sym w.self-is)
    ]
