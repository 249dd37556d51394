use Rattle.std.proofs.Common.{◌≡◌, ◌+◌, ◌∙◌, drop, sym, ap, false, true}
use Rattle.std.specs.List.{list_any}
use Rattle.std.proofs.lemmas.List.{map-append}
use Rattle.script_table.specs.Names.{Declared, declared_from}
use Rattle.script_reader.specs.Declarations.{is_named}
use Rattle.script_reader.proofs.Phases.{at_drop}
use Rattle.script_reader.proofs.Unnamed.{declared_past, kept_past, kept_more}
use Rattle.script_reader.proofs.names.declarations.Naming.add_all.Goals as goal

pub loop-s-preserved-then-not-any_is_named : goal.loop-s-preserved-then-not-any_is_named
loop-s-preserved-then-not-any_is_named c =
    let here = at_drop _ _ _ c.loop-s-test.true c.s-item.is in
    let none : list_any is_named c.s-item.result.row.places ≡ false = ap (list_any is_named) c.places.ensures ∙ (sym c.any_is_named.ensures ∙ c.if-not-any_is_named.true) in
    record {
      declared = declared_past _ _ _ _ _ here none c.loop-s.invariant.declared;
      kept = kept_past _ _ _ _ _ here none c.loop-s.invariant.kept;
    }

pub loop-s-preserved : goal.loop-s-preserved
loop-s-preserved c =
    let here = at_drop _ _ _ c.loop-s-test.true c.s-item.is in
    let some : list_any is_named c.s-item.result.row.places ≡ true = ap (list_any is_named) c.places.ensures ∙ (sym c.any_is_named.ensures ∙ c.if-not-any_is_named.false) in
    record {
      declared = ap (λ (d : Declared). declared_from d (drop (c.loop-s.s-index + 1) c.args.statements.now)) c.in_ok-declare_line.ensures ∙ (ap (declared_from c.loop-s.self.declared) (sym here) ∙ c.loop-s.invariant.declared);
      kept = rw (c.in_ok-push.ensures.items, map-append) (kept_more _ _ _ _ _ here some c.loop-s.invariant.kept);
    }
