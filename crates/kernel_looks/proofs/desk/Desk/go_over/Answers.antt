use Rattle.std.proofs.Common.{Bool, ap, false, refl, true, ◌≡◌}
use Rattle.parts_texts.specs.Slots.{Held}
use Rattle.kernel_looks.proofs.FactsSeen.{memory_put, none_there}
use Rattle.kernel_looks.proofs.Looking.{has_place, line_fits, space_line, went_nowhere, went_over}
use Rattle.kernel_looks.proofs.desk.Desk.go_over.Goals as goal

clash : (v : Bool) → v ≡ true → v ≡ false → ⊥
clash v on off = cc

pub returns-then-has_no_place-clause-went : goal.returns-then-has_no_place-clause-went
returns-then-has_no_place-clause-went c =
    went_nowhere c.args.self.now _ _ refl
    (λ one space. let h = has_place one c.args.self.now c.args.text.now space in
    clash c.has_no_place.result c.if-has_no_place.true (c.has_no_place.ensures.only h.0 h.1 h.2))

pub returns-then-failed-clause-went : goal.returns-then-failed-clause-went
returns-then-failed-clause-went c =
    went_nowhere c.args.self.now _ _ refl
    (λ one space. clash c.print_changed_line-failed.result c.if-failed.true
    (line_fits c.args.self.now.lines c.print_changed_line-failed.new.sink c.print_changed_line-failed.result _
    (rw (c.text-about.ensures, c.text-before.ensures) at c.print_changed_line-failed.ensures) c.know_use.ensures (space_line one c.args.self.now c.args.text.now space)))

pub returns-clause-went : goal.returns-clause-went
returns-clause-went c =
    went_over c.args.self.now _ c.args.text.now (c.has_no_place.ensures.place c.if-has_no_place.false) (c.has_no_place.ensures.subject c.if-has_no_place.false) c.put.ensures refl refl refl refl
    (rw (c.if-failed.false, c.text-about.ensures, c.text-before.ensures) at c.print_changed_line-failed.ensures)

pub returns-clause-seen : goal.returns-clause-seen
returns-clause-seen c decls h tells =
    memory_put decls c.args.self.now.told.texts c.args.self.now.seen c.put-2.new.self c.args.self.now.at c.args.seen.now c.args.text.now (c.has_no_place.ensures.place c.if-has_no_place.false)
    c.put-2.ensures.facts (λ off. none_there c.args.text.now c.is_empty.result c.is_empty.ensures (c.put-2.ensures.empty off)) c.put-2.ensures.others h tells _ _ (ap (λ (t : Held). t.texts) c.put.ensures) refl
