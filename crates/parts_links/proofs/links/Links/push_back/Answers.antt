use Rattle.std.proofs.Common.{◌≡◌, ◌<◌, ◌+◌, length, set, sym, ap, subst, ◌∙◌, arith}
use Rattle.parts_links.specs.Links.{Lists, list_at, read_lists, placed}
use Rattle.std.proofs.Common.{◌∷◌, [], ◌++◌}
use Rattle.parts_links.proofs.Heads.{put_back}
use Rattle.parts_links.proofs.links.Links.push_back.Goals as goal

pub returns : goal.returns
returns c =
    let h = c.self.inside in let is = c.self.invariant.2 in let ls = read_lists h.block h.nodes 0 h.lists in
    let inside : c.args.list < h.lists = (let l : c.args.list < length ls = subst (λ (v : Lists). c.args.list < length v.lists) (sym c.self.view_is) c.requires.0 in omega (arith, l, is.counted)) in
    let put = subst (λ (v : Lists). placed (v.nodes + c.args.list) c.args.node (list_at v.lists c.args.list) ≡ list_at v.lists c.args.list ++ c.args.node ∷ []) c.self.view_is (put_back h.nodes h.lists h.block ls is c.args.list c.args.node inside) in
    let same = ap (λ (v : Lists). v.nodes) c.self.view_is in
    c.place.ensures ∙ ap (λ ys. record c.args.self.now { lists = set c.args.self.now.lists c.args.list ys }) (ap (λ n. placed (n + c.args.list) c.args.node (list_at c.args.self.now.lists c.args.list)) same ∙ put)
