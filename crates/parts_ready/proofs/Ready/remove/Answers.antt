use Rattle.std.proofs.Common.{◌≡◌, false, refl, subst}
use Rattle.parts_links.specs.Links.{on_a_list}
use Rattle.rules_lists.specs.Lists.{ReadyLists, without}
use Rattle.parts_ready.proofs.Places.{without_nowhere}
use Rattle.parts_ready.proofs.Nodes.{times_off}
use Rattle.parts_ready.proofs.Ready.remove.Goals as goal

pub returns-in_default : goal.returns-in_default
returns-in_default c =
    let off : on_a_list c.args.t c.self.inside.links.lists ≡ false = subst (λ n. on_a_list n c.self.inside.links.lists ≡ false) c.get.ensures.value c.in_default.ensures in
    let same : without c.args.t c.args.self.now.lists ≡ c.args.self.now.lists = subst (λ (r : ReadyLists). without c.args.t r.lists ≡ r.lists) c.self.view_is
    (without_nowhere c.args.t c.self.inside.links.lists (times_off c.args.t c.self.inside.links.lists off)) in
    rw same refl
