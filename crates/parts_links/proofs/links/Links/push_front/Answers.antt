use Rattle.std.proofs.Common.{◌≡◌, ◌<◌, ◌+◌, ◌⊎◌, true, length, set, sym, ap, subst, ◌∙◌, arith}
use Rattle.parts_links.specs.Links.{Lists, list_at, read_lists, stands_in, placed}
use Rattle.std.proofs.Common.{◌∷◌}
use Rattle.parts_links.proofs.Heads.{put_front, front_stands}
use Rattle.parts_links.proofs.links.Links.push_front.Goals as goal

pub place-requires-clause-at : goal.place-requires-clause-at
place-requires-clause-at c =
    let h = c.self.inside in let is = c.self.invariant.2 in let ls = read_lists h.block h.nodes 0 h.lists in
    let inside : c.args.list < h.lists = (let l : c.args.list < length ls = subst (λ (v : Lists). c.args.list < length v.lists) (sym c.self.view_is) c.requires.0 in omega (arith, l, is.counted)) in
    let stands = front_stands h.nodes h.lists h.block ls is c.args.list inside in
    subst (λ (v : Lists). (c.after-first.result ≡ v.nodes + c.args.list) ⊎ (stands_in c.after-first.result (list_at v.lists c.args.list) ≡ true)) c.self.view_is
    (subst (λ x. (x ≡ h.nodes + c.args.list) ⊎ (stands_in x (list_at ls c.args.list) ≡ true)) (sym c.after-first.ensures) stands)

pub returns : goal.returns
returns c =
    let h = c.self.inside in let is = c.self.invariant.2 in let ls = read_lists h.block h.nodes 0 h.lists in
    let inside : c.args.list < h.lists = (let l : c.args.list < length ls = subst (λ (v : Lists). c.args.list < length v.lists) (sym c.self.view_is) c.requires.0 in omega (arith, l, is.counted)) in
    let put = subst (λ x. placed x c.args.node (list_at ls c.args.list) ≡ c.args.node ∷ list_at ls c.args.list) (sym c.after-first.ensures) (put_front h.nodes h.lists h.block ls is c.args.list c.args.node inside) in
    c.place.ensures ∙ subst (λ (v : Lists). record v { lists = set v.lists c.args.list (placed c.after-first.result c.args.node (list_at v.lists c.args.list)) } ≡ record v { lists = set v.lists c.args.list (c.args.node ∷ list_at v.lists c.args.list) }) c.self.view_is
    (ap (λ ys. record { nodes = h.nodes; lists = set ls c.args.list ys }) put)
