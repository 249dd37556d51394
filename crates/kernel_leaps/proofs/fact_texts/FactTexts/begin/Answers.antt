use Rattle.std.proofs.Common.{ap, subst, sym, ◌∙◌}
use Rattle.kernel_texts.specs.Subjects.{AreSubjects}
use Rattle.parts_texts.specs.Texts.{Told}
use Rattle.kernel_leaps.proofs.TellingRooms.{begun_ready, cleared_rooms, kept_rooms, kept_texts}
use Rattle.kernel_leaps.proofs.fact_texts.FactTexts.begin.Goals as goal

pub look_at_facts-requires-clause-ready : goal.look_at_facts-requires-clause-ready
look_at_facts-requires-clause-ready c =
    let s = c.args.script.now in
    let m = c.args.parts.now.machine in
    let one = c.args.self.now.next.room in
    let rooms = c.requires.rooms.desk.subjects in
    let texts = kept_texts s m _ c.args.self.now.desk.subjects c.clear.new.self c.keep_subjects.new.texts one c.keep_subjects.new.next.room c.clear.ensures c.keep_subjects.ensures.kept
    c.keep_subjects.ensures.roomy c.requires.objects rooms in
    begun_ready s one c.keep_subjects.new.next.room c.args.self.now.desk c.keep_subjects.new.texts c.keep_subjects.ensures.room c.requires.rooms.desk
    (kept_rooms s m _ c.args.self.now.desk.subjects c.clear.new.self c.keep_subjects.new.texts one c.keep_subjects.new.next.room c.clear.ensures c.keep_subjects.ensures.kept
    c.keep_subjects.ensures.roomy c.requires.objects rooms)
    (subst (AreSubjects s one) (sym texts) (c.keep_subjects.ensures.fit c.requires.objects (ap (λ (t : Told). t.texts) c.clear.ensures) (cleared_rooms s one c.args.self.now.desk.subjects c.clear.new.self c.clear.ensures rooms)))

pub returns-clause-subjects : goal.returns-clause-subjects
returns-clause-subjects c =
    ap (λ (t : Told). t.texts) c.look_at_facts.ensures.subjects
    ∙ kept_texts c.args.script.now c.args.parts.now.machine _ c.args.self.now.desk.subjects c.clear.new.self c.keep_subjects.new.texts c.args.self.now.next.room c.keep_subjects.new.next.room c.clear.ensures
    c.keep_subjects.ensures.kept c.keep_subjects.ensures.roomy c.requires.objects c.requires.rooms.desk.subjects
