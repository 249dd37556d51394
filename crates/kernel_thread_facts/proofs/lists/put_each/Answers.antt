use Rattle.std.proofs.Common.{◌≡◌, ◌<◌, ℕ, [], ◌∷◌, add-one, arith, codes, decimal, flat_map, length, refl, sym, take, ◌∙◌}
use Rattle.std.proofs.lemmas.Option.{slice_get_within}
use Rattle.rules_lists.specs.Lists.{list_of}
use Rattle.rules_facts.specs.Spelled.{thread_name}
use Rattle.script_writer.specs.Canon.{Words}
use Rattle.script_printer.proofs.Puts.{puts_nothing}
use Rattle.kernel_texts.proofs.Lines.{one_each, told_some, words_all, words_more}
use Rattle.kernel_texts.proofs.Puts.{puts_end, puts_more}
use Rattle.kernel_thread_facts.proofs.lists.put_each.Goals as goal

pub loop-t-init : goal.loop-t-init
loop-t-init g c = record { text = puts_nothing _ _ _; flag = refl }

pub loop-t-smaller : goal.loop-t-smaller
loop-t-smaller g c =
    let within : c.loop-t.place < length (list_of c.args.p c.args.parts.now.machine.lists) = slice_get_within _ _ c.in-Some.t (sym c.in-Some.ensures.thread) in
    omega (arith, within)

pub loop-t-preserved : goal.loop-t-preserved
loop-t-preserved g c =
    let list = list_of c.args.p c.args.parts.now.machine.lists in
    let words = λ (t : ℕ). let all : Words = thread_name c.args.decls.now t ∷ [] in all in
    let more = words_more words list c.loop-t.place c.in-Some.t c.in-Some.ensures.thread in
    record {
      text = rw (add-one, ← more) (puts_more _ _ _ _ _ (codes "list" ∷ decimal c.from.result ∷ []) (flat_map words (take c.loop-t.place list)) (words c.in-Some.t) c.loop-t.is_begun (omega arith) (omega arith)
          c.loop-t.invariant.flag c.loop-t.invariant.text (rw c.thread_name.ensures.name at c.put_more.ensures.text));
      flag = rw (add-one, ← more) (told_some (flat_map words (take c.loop-t.place list)) (words c.in-Some.t) (omega arith));
    }

pub returns : goal.returns
returns g c =
    let list = list_of c.args.p c.args.parts.now.machine.lists in
    let words = λ (t : ℕ). let all : Words = thread_name c.args.decls.now t ∷ [] in all in
    let all = words_all words list c.loop-t.place c.in_default.ensures.thread in
    let each = one_each (thread_name c.args.decls.now) list in
    let number : c.from.result ≡ c.args.p = c.from.ensures ∙ c.get.ensures.value in
    rw (all, each, number) at
    (puts_end _ _ _ _ _ (codes "list" ∷ decimal c.from.result ∷ []) (flat_map words (take c.loop-t.place list)) c.loop-t.is_begun c.loop-t.invariant.flag c.loop-t.invariant.text c.put_end.ensures)
