use Rattle.std.proofs.Common.{◌≡◌, ◌+◌, [], List, ap, arith, false, subst, ℕ}
use Rattle.std.specs.Prelude.{◌-◌}
use Rattle.rules_facts.specs.Fact.{on_list}
use Rattle.rules_lists.specs.Lists.{list_of}
use Rattle.kernel_texts.specs.Lines.{fact_text}
use Rattle.kernel_seen.specs.FactSeen.{may_tell}
use Rattle.kernel_looks.specs.Nothings.{list_at}
use Rattle.kernel_looks.proofs.Stretches.{still_quiet}
use Rattle.kernel_looks.proofs.look_lists.gap_ahead.Goals as goal

pub returns-clause-told : goal.returns-clause-told
returns-clause-told c k low =
    let d = c.args.desk.now in
    let lists = c.args.parts.now.machine.lists in
    let same = c.args.stretch.now.same in
    let quiet = c.quiet_behind-quiet.ensures in
    let fewer = quiet.few in
    let few = c.empty_lists-empty.ensures.few in
    let is = c.prio_of.ensures in
    let within = c.requires.within in
    let back : c.prio_of.result - k ≡ 255 - (c.args.from + k) = omega (arith, is, within, low, few, fewer) in
    let none : list_of (255 - (c.args.from + k)) lists ≡ [] = subst (λ (p : ℕ). list_of p lists ≡ []) back (c.empty_lists-empty.ensures.empty k (omega (arith, low, few, fewer))) in
    let there : d.at + same + k ≡ d.at + (same + k) = omega arith in
    still_quiet d (d.at + (same + k)) (list_at lists (c.args.from + k)) (λ decls. ap (λ (xs : List ℕ). fact_text decls (on_list (255 - (c.args.from + k)) xs)) none)
    (subst (λ (n : ℕ). may_tell n d.seen.busy ≡ false) there (quiet.quiet k (omega (arith, low, few, fewer))))
