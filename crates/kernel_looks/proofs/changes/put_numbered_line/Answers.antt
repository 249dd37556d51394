use Rattle.std.proofs.Common.{◌≡◌, ◌∙◌, ◌++◌, ◌∷◌, [], List, ℕ, ap, append_assoc, arith, decimal, length, sym}
use Rattle.script_printer.proofs.Puts.{puts_both}
use Rattle.kernel_texts.proofs.Puts.{puts_as}
use Rattle.kernel_looks.proofs.Changing.{line_none, line_some}
use Rattle.kernel_looks.proofs.changes.put_numbered_line.Goals as goal

pub returns-then-is_empty : goal.returns-then-is_empty
returns-then-is_empty g c =
    let none : length c.args.line.now ≡ 0 = grind (arith, c.is_empty.ensures, c.if-is_empty.true) in
    let same = append_assoc (decimal c.args.now) (32 ∷ c.args.about.now) (10 ∷ [])
    ∙ ap (λ (t : List ℕ). decimal c.args.now ++ (32 ∷ t)) (sym (line_none c.args.about.now c.args.line.now none)) in
    puts_as _ _ _ _ _ _ same (puts_both _ _ _ _ _ _ _ c.numbered.ensures c.end.ensures)

pub returns-else-is_empty : goal.returns-else-is_empty
returns-else-is_empty g c =
    let same = ap (λ (t : List ℕ). decimal c.args.now ++ (32 ∷ t))
    (sym (line_some c.args.about.now c.args.line.now (λ none. absurd (grind (arith, none, c.is_empty.ensures, c.if-is_empty.false))))) in
    puts_as _ _ _ _ _ _ same c.numbered-else-is_empty.ensures
