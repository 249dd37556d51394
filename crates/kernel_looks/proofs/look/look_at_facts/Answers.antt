use Rattle.std.proofs.Common.{List, ap, arith, length, refl, subst, sym, ◌<◌, ◌≡◌, ◌∙◌, ℕ}
use Rattle.words_script.specs.declared.decl.Decl.{Decl}
use Rattle.rules_facts.specs.Facts.{facts}
use Rattle.rules_facts.specs.Shown.{once_ended}
use Rattle.kernel_texts.specs.Rows.{left_out, object_count, object_facts, thread_fact_of}
use Rattle.kernel_texts.specs.Short.{HasShortText, HaveShortTexts}
use Rattle.kernel_texts.specs.declared.rows.ObjectRow.{ObjectRow}
use Rattle.kernel_texts.specs.declared.rows.ObjectRow.TheVariants as object
use Rattle.kernel_texts.specs.declared.rows.ThreadRow.{ThreadRow}
use Rattle.kernel_texts.specs.declared.rows.ThreadRow.TheVariants as thread
use Rattle.kernel_texts.specs.Kept.{lists_kept, signals_kept, texts_of, threads_kept}
use Rattle.kernel_texts.specs.Picked.{left_in}
use Rattle.kernel_seen.specs.FactSeen.{IsMemoryOf}
use Rattle.kernel_looks.specs.Desk.{WentOn}
use Rattle.rules_bodies.specs.declared.cursor.Cursor.{Cursor}
use Rattle.rules_machine.specs.State.{Machine}
use Rattle.rules_facts.specs.Signals.{signal_fact}
use Rattle.kernel_texts.specs.Modest.{NamesAreShort}
use Rattle.kernel_texts.proofs.Modest.{number_len}
use Rattle.kernel_texts.proofs.Roomy.{facts_fit, facts_number}
use Rattle.kernel_texts.proofs.KeptFacts.{state_kept}
use Rattle.kernel_texts.proofs.ShortFacts.{each_object_row, each_thread_row, state_short}
use Rattle.kernel_texts.proofs.Whole.{ended_state}
use Rattle.kernel_looks.proofs.Looking.{went_both}
use Rattle.kernel_looks.proofs.Ready.{begun, has_looked, is_roomy, roomy_list}
use Rattle.kernel_looks.specs.declared.desk.Desk.{Desk}
use Rattle.kernel_looks.proofs.look.look_at_facts.Goals as goal

pub look_at_lists-requires : goal.look_at_lists-requires
look_at_lists-requires c = record {
  memory =
      subst (λ (d : Desk). IsMemoryOf c.of.result d.told.texts d.seen) (sym c.begin.ensures)
      (subst (λ (ds : List Decl). IsMemoryOf ds c.args.desk.now.told.texts c.args.desk.now.seen) (sym (c.of.ensures ∙ c.items-items.ensures)) c.requires.ready.rooms.seen);
}

pub returns : goal.returns
returns c =
    let m = c.args.parts.now.machine in
    let same = (c.of.ensures ∙ c.items-items.ensures) in
    let lists = subst (λ (ds : List Decl). WentOn c.args.next.now c.look_at_lists.new.next c.begin.new.self c.look_at_lists.new.desk (lists_kept ds m.lists)) same c.look_at_lists.ensures.kept in
    let threads =
    subst (λ (ds : List Decl). WentOn c.look_at_lists.new.next c.look_at_threads.new.next c.look_at_lists.new.desk c.look_at_threads.new.desk (threads_kept ds m)) same c.look_at_threads.ensures.kept in
    let signals =
    subst (λ (ds : List Decl). WentOn c.look_at_objects.new.next c.look_at_signals.new.next c.look_at_objects.new.desk c.look_at_signals.new.desk (signals_kept ds (left_in (left_out m) m) 32))
    same c.look_at_signals.ensures.kept in
    let all : WentOn c.args.next.now c.look_at_signals.new.next c.begin.new.self c.look_at_signals.new.desk (texts_of c.args.script.now.decls (facts c.args.script.now (once_ended m.killed m))) =
    subst (WentOn c.args.next.now c.look_at_signals.new.next c.begin.new.self c.look_at_signals.new.desk) (state_kept c.args.script.now m c.know_rows.ensures.lists c.know_rows.ensures.signals)
    (went_both _ _ _ _ _ _ _ _ lists (went_both _ _ _ _ _ _ _ _ threads (went_both _ _ _ _ _ _ _ _ c.look_at_objects.ensures.kept signals))) in
    let names = subst NamesAreShort c.items-items.ensures c.know_names.ensures in
    let lists_count = c.know_rows.ensures.lists in
    let signal_count = c.know_rows.ensures.signals in
    let rows = subst (λ (ds : List Decl). (row : ThreadRow) (t : ℕ) → t < length m.threads → HasShortText ds (thread_fact_of row m t)) same c.look_at_threads.ensures.short in
    let ended = subst (λ (ds : List Decl). (signal : ℕ) → signal < 32 → HasShortText ds (signal_fact (left_in (left_out m) m) signal)) same c.look_at_signals.ensures.short in
    let objects = c.look_at_objects.ensures.short in
    let left = left_in (left_out m) m in
    let threads_left = each_thread_row (λ (row : ThreadRow). (t : ℕ) → t < length m.threads → HasShortText c.args.script.now.decls (thread_fact_of row left t))
    (rows thread.Status) (rows thread.Frames) (rows thread.Mask) (rows thread.Cancelability) (rows thread.Cleanups) (rows thread.Pending) in
    let objects_left = each_object_row
    (λ (row : ObjectRow). (k : ℕ) → k < object_count row c.args.script.now.decls left → HaveShortTexts c.args.script.now.decls (object_facts row left k))
    (objects object.Owner) (objects object.MutexWaiters) (objects object.ConditionWaiters) (objects object.SemaphoreWaiters) (objects object.Value) (objects object.Messages)
    (objects object.QueueWaiters) (objects object.Registration) (objects object.Arming) in
    let short_left : HaveShortTexts c.args.script.now.decls (facts c.args.script.now left) =
    state_short c.args.script.now left lists_count threads_left objects_left (λ signal low. ended signal (omega (arith, low, signal_count))) in
    let short = subst (λ (x : Machine Cursor). HaveShortTexts c.args.script.now.decls (facts c.args.script.now x)) (ended_state m) short_left in
    let one = c.args.next.now.room in
    let listed = roomy_list c.args.script.now one in
    let has = c.requires.objects in
    let ready = c.requires.ready in
    let rooms = is_roomy c.args.script.now one c.args.desk.now ready in
    let fit = facts_fit c.args.script.now m names lists_count signal_count c.know_few.ensures has one listed refl rooms short in
    let number = facts_number c.args.script.now m names lists_count signal_count c.know_few.ensures has one listed refl rooms in
    let value = c.get.ensures.value ∙ c.instant.ensures in
    let range = c.get.ensures.range in
    let early = number_len m.now (omega (arith, value, range)) in
    let begins : c.begin.new.self ≡ begun m.now c.args.desk.now = c.begin.ensures ∙ ap (λ (n : ℕ). begun n c.args.desk.now) value in
    let memory = subst (λ (ds : List Decl). IsMemoryOf ds c.look_at_signals.new.desk.told.texts c.look_at_signals.new.desk.seen) same c.look_at_signals.ensures.memory in
    let done = has_looked c.args.script.now c.args.next.now c.look_at_signals.new.next c.args.desk.now c.look_at_signals.new.desk m.now
    (texts_of c.args.script.now.decls (facts c.args.script.now (once_ended m.killed m))) ready early fit.each number
    (subst (λ (d : Desk). WentOn c.args.next.now c.look_at_signals.new.next d c.look_at_signals.new.desk (texts_of c.args.script.now.decls (facts c.args.script.now (once_ended m.killed m)))) begins all) memory in
    record { told = done.told; lines = done.lines; subjects = done.subjects; ready = done.ready }
