use Rattle.std.proofs.Common.{arith, rules, subst, sym, ◌<◌, ◌^◌, ◌∙◌, ◌≡◌}
use Rattle.parts_tracer.specs.Tells.{Tells}
use Rattle.rules_machine.specs.DueItems.{item_done}
use Rattle.rules_machine.proofs.ItemsEnd.{item_falls}
use Rattle.rules_flat_code.specs.FlatBodies.{flat_bodies}
use Rattle.kernel_state.specs.Kernel.{Kernel, after, told, turn}
use Rattle.calls_items.specs.Handled.{CanHandle}
use Rattle.rules_machine.specs.DueItems.{handles}
use Rattle.rules_machine.specs.Turns.{Turn, settles_since, ◌▷◌}
use Rattle.rules_bodies.specs.declared.cursor.Cursor.{Cursor}
use Rattle.kernel_state.specs.Caught.{CanSweep}
use Rattle.kernel_leaps.proofs.Landing.{item_sweeps}
use Rattle.kernel_leaps.proofs.Halfway.{all_state, all_told, fits_now, one_done}
use Rattle.kernel_leaps.proofs.instant.do_instant.Goals as goal

pub items-smaller : goal.items-smaller
items-smaller g c =
    let k = c.items.p in
    let due = sym c.next_item.ensures.value ∙ c.in-Some.is in
    let state = subst (λ (x : Kernel). c.do_item.new.p ≡ after (item_done (flat_bodies x.code) c.in-Some.i) x) c.next_item.ensures.same c.do_item.ensures.does.state in
    rw state (item_falls (flat_bodies k.code) (turn k) c.in-Some.i due)

pub do_item-requires-clause-can : goal.do_item-requires-clause-can
do_item-requires-clause-can g c =
    let early = c.requires.early in
    let time = c.items.invariant.time in
    let fits = fits_now _ _ c.args.p.now c.items.p _ _ c.items.invariant c.requires.fits in
    record {
      quiet = search rules;
      fits = subst (λ (x : Kernel). CanHandle x.machine) (sym c.next_item.ensures.same) fits.items;
      serial = subst (λ (x : Kernel). x.machine.next_serial < 2 ^ 62) (sym c.next_item.ensures.same) (fits.serial (omega (arith, early, time)));
      early = search rules;
    }

pub do_item-requires-clause-sweeps : goal.do_item-requires-clause-sweeps
do_item-requires-clause-sweeps g c =
    let due = sym c.next_item.ensures.value ∙ c.in-Some.is in
    subst (λ (x : Kernel). CanSweep (after (λ (s : Turn Cursor). s ▷ handles (flat_bodies x.code) c.in-Some.i ▷ settles_since s.machine) x)) (sym c.next_item.ensures.same)
    (item_sweeps _ _ c.args.p.now c.items.p _ _ c.in-Some.i c.items.invariant c.requires.fits due)

pub items-preserved : goal.items-preserved
items-preserved g c =
    let k = c.items.p in
    let same = c.next_item.ensures.same in
    let due = sym c.next_item.ensures.value ∙ c.in-Some.is in
    let state = subst (λ (x : Kernel). c.do_item.new.p ≡ after (item_done (flat_bodies x.code) c.in-Some.i) x) same c.do_item.ensures.does.state in
    let tells = subst (λ (x : Kernel). Tells g.K.Sink.text g.K.Sink.faults x.names c.items.out c.do_item.new.out (told (item_done (flat_bodies x.code) c.in-Some.i) x)) same c.do_item.ensures.does.told in
    let time = subst (λ (x : Kernel). c.do_item.new.p.machine.now ≡ x.machine.now) same c.do_item.ensures.time in
    one_done _ _ c.args.p.now k c.do_item.new.p c.args.out.now c.items.out c.do_item.new.out c.in-Some.i c.items.invariant due
    state tells c.do_item.ensures.stood c.do_item.ensures.quiet time

pub returns-clause-does : goal.returns-clause-does
returns-clause-does g c = record {
  state = (c.next_item.ensures.same ∙ all_state _ _ c.args.p.now c.items.p _ _ c.items.invariant (sym c.in_default.ensures.value));
  told = (all_told _ _ c.args.p.now c.items.p _ _ c.items.invariant (sym c.in_default.ensures.value));
}
