use Rattle.std.proofs.Common.{List, length, subst, ◌∙◌}
use Rattle.words_script.specs.declared.decl.Decl.{Decl}
use Rattle.rules_facts.specs.Facts.{facts}
use Rattle.kernel_texts.specs.Modest.{NamesAreShort}
use Rattle.kernel_texts.specs.Kept.{KeptIn}
use Rattle.kernel_texts.specs.Subjects.{subjects_of, thread_subjects}
use Rattle.kernel_texts.proofs.Keeping.{kept_both}
use Rattle.kernel_texts.proofs.Roomy.{still_rooms, subjects_fit, subjects_number}
use Rattle.kernel_texts.proofs.KeptSubjects.{subjects_kept}
use Rattle.kernel_subjects.proofs.subjects.keep_subjects.Goals as goal

pub returns : goal.returns
returns c =
    let m = c.args.parts.now.machine in
    let threads =
    subst (λ (ds : List Decl). KeptIn c.keep_list_subjects.new.next c.keep_thread_subjects.new.next c.keep_list_subjects.new.texts c.keep_thread_subjects.new.texts (thread_subjects ds (length m.threads)))
    (c.of.ensures ∙ c.items-items.ensures) c.keep_thread_subjects.ensures in
    let all : KeptIn c.args.next.now c.keep_signal_subjects.new.next c.args.texts.now c.keep_signal_subjects.new.texts (subjects_of c.args.script.now.decls (facts c.args.script.now m)) =
    subst (KeptIn c.args.next.now c.keep_signal_subjects.new.next c.args.texts.now c.keep_signal_subjects.new.texts) (subjects_kept c.args.script.now m c.know_rows.ensures.lists c.know_rows.ensures.signals)
    (kept_both _ _ _ _ _ _ _ _ c.keep_list_subjects.ensures (kept_both _ _ _ _ _ _ _ _ threads (kept_both _ _ _ _ _ _ _ _ c.keep_object_subjects.ensures c.keep_signal_subjects.ensures))) in
    let names = subst NamesAreShort c.items-items.ensures c.know_names.ensures in
    record {
      kept = all.kept;
      room = all.same_room;
      rooms = all.same_rooms;
      roomy = λ has none h. still_rooms c.args.script.now c.args.next.now.room c.keep_signal_subjects.new.next.room c.args.texts.now c.keep_signal_subjects.new.texts h all.same_room
          (all.same_rooms (all.roomy (subjects_fit c.args.script.now m names c.know_rows.ensures.lists c.know_rows.ensures.signals c.know_few.ensures has c.args.next.now.room c.args.texts.now none h)))
          (all.roomy (subjects_fit c.args.script.now m names c.know_rows.ensures.lists c.know_rows.ensures.signals c.know_few.ensures has c.args.next.now.room c.args.texts.now none h));
      fit = λ has none h. record {
        number = subjects_number c.args.script.now m names c.know_rows.ensures.lists c.know_rows.ensures.signals c.know_few.ensures has c.args.next.now.room c.args.texts.now none h;
        short = (subjects_fit c.args.script.now m names c.know_rows.ensures.lists c.know_rows.ensures.signals c.know_few.ensures has c.args.next.now.room c.args.texts.now none h).each;
      };
    }
