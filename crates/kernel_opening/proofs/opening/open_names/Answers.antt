use Rattle.std.proofs.Common.{◌≡◌, ◌≤◌, ◌+◌, ◌-◌, ◌++◌, [], length, take, replicate, length-append, refl, ◌∙◌, ap, sym, arith, subst}
use Rattle.std.specs.Prelude.{map, option_to_list}
use Rattle.std.specs.List.{filter_map}
use Rattle.rules_machine.specs.Declarations.{declared_thread}
use Rattle.kernel_threads.specs.Opening.{with_name}
use Rattle.kernel_threads.proofs.Opening.{threads_more, threads_room, names_length, names_next, name_of}
use Rattle.kernel_opening.proofs.opening.open_names.Goals as goal

pub add_name-t-requires-clause-room : goal.add_name-t-requires-clause-room
add_name-t-requires-clause-room c =
    let decls = c.items-decl-items.result.now in
    let front = filter_map declared_thread (take c.loop-decl.decl-index decls) in
    let room = subst (λ d. length front + length (option_to_list (declared_thread d)) ≤ length (filter_map declared_thread decls)) (sym c.decl-item.is)
    (threads_room decls c.loop-decl.decl-index c.decl-item.result c.loop-decl-test.true) in
    let all : c.args.threads ≡ length (filter_map declared_thread decls) = c.requires.all ∙ ap (λ ds. length (filter_map declared_thread ds)) (sym c.items-decl-items.ensures) in
    let long = names_length decls c.loop-decl.decl-index c.loop-decl.t c.args.threads c.loop-decl.names c.loop-decl.invariant.count c.loop-decl.invariant.names all in
    omega (arith, room, long, c.loop-decl.invariant.count, all)

pub add_name-t-requires-clause-few : goal.add_name-t-requires-clause-few
add_name-t-requires-clause-few c =
    let decls = c.items-decl-items.result.now in
    let all : c.args.threads ≡ length (filter_map declared_thread decls) = c.requires.all ∙ ap (λ ds. length (filter_map declared_thread ds)) (sym c.items-decl-items.ensures) in
    let long = names_length decls c.loop-decl.decl-index c.loop-decl.t c.args.threads c.loop-decl.names c.loop-decl.invariant.count c.loop-decl.invariant.names all in
    omega (arith, long, c.requires.few)

pub loop-decl-preserved : goal.loop-decl-preserved
loop-decl-preserved c =
    let decls = c.items-decl-items.result.now in
    let front = filter_map declared_thread (take c.loop-decl.decl-index decls) in
    let next = filter_map declared_thread (take (c.loop-decl.decl-index + 1) decls) in
    let new = option_to_list (declared_thread c.decl-item.result) in
    let at : next ≡ front ++ new = subst (λ d. next ≡ front ++ option_to_list (declared_thread d)) (sym c.decl-item.is)
    (threads_more decls c.loop-decl.decl-index c.decl-item.result c.loop-decl-test.true) in
    let room = subst (λ d. length front + length (option_to_list (declared_thread d)) ≤ length (filter_map declared_thread decls)) (sym c.decl-item.is)
    (threads_room decls c.loop-decl.decl-index c.decl-item.result c.loop-decl-test.true) in
    let all : c.args.threads ≡ length (filter_map declared_thread decls) = c.requires.all ∙ ap (λ ds. length (filter_map declared_thread ds)) (sym c.items-decl-items.ensures) in
    let long = ap length at ∙ length-append front new in
    let named = names_next front (declared_thread c.decl-item.result) c.loop-decl.t c.args.threads c.loop-decl.invariant.count (omega (arith, room, all, c.loop-decl.invariant.count)) in
    let same : map name_of (front ++ new) ++ replicate (c.args.threads - (c.loop-decl.t + length new)) [] ≡ map name_of next ++ replicate (c.args.threads - c.add_name-t.result) [] =
    rw (at, c.add_name-t.ensures.next) refl in
    record {
      count = omega (arith, c.add_name-t.ensures.next, c.loop-decl.invariant.count, long);
      names = c.add_name-t.ensures.names ∙ (ap (λ ns. with_name ns c.loop-decl.t (declared_thread c.decl-item.result)) c.loop-decl.invariant.names ∙ (named ∙ same));
    }
