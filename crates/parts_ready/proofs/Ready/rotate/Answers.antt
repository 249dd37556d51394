use Rattle.std.proofs.Common.{◌≡◌, ◌≢◌, ◌-◌, [], Some, true, get_or, subst, refl, sym, ap, ◌∙◌, arith}
use Rattle.parts_links.specs.Links.{Lists, follower_on, stands_in}
use Rattle.rules_lists.specs.Lists.{ReadyLists, highest}
use Rattle.parts_ready.proofs.Nodes.{on_at}
use Rattle.parts_ready.proofs.Heads.{head_is, head_rotates, is_head, moved, named_small, other_rotates, rotated_marks, rotated_ok}
use Rattle.parts_ready.proofs.Ready.rotate.Goals as goal

pub unlink-requires : goal.unlink-requires
unlink-requires c =
    let lists = c.self.inside.links.lists in let i = c.args.p - 1 in
    let stands : stands_in c.args.t (get_or lists i []) ≡ true = subst (λ (r : ReadyLists). stands_in c.args.t (get_or r.lists i []) ≡ true) (sym c.self.view_is) c.requires.on.1 in
    (omega (arith, c.get-node.ensures.small, c.self.invariant.nodes), on_at c.get-node.result i lists (subst (λ n. stands_in n (get_or lists i []) ≡ true) (sym c.get-node.ensures.value) stands))

pub invariant_of-self : goal.invariant_of-self
invariant_of-self c =
    let lists = c.self.inside.links.lists in let t = c.args.t in let p = c.args.p in let once = c.self.invariant.lists.once t in
    let stands : stands_in t (get_or lists (p - 1) []) ≡ true = subst (λ (r : ReadyLists). stands_in t (get_or r.lists (p - 1) []) ≡ true) (sym c.self.view_is) c.requires.on.1 in
    let next : follower_on t lists ≡ Some c.args.next = subst (λ (r : ReadyLists). follower_on t r.lists ≡ Some c.args.next) (sym c.self.view_is) c.requires.next.1 in
    let now = moved t p c.get-node.result c.get.result lists c.unlink.new.self.lists c.push_back.new.self.lists once c.get-node.ensures.value c.get.ensures.value
    (ap (λ (l : Lists). l.lists) c.unlink.ensures.lists) (ap (λ (l : Lists). l.lists) c.push_back.ensures) in
    let head = is_head c.self.inside.head c.get-2.result t lists c.self.invariant.head c.if-self-get.true c.get-2.ensures.value c.get-2.ensures.small in
    record {
      lists = rotated_ok c.self.inside.threads t p lists c.push_back.new.self.lists c.self.invariant.lists stands now;
      nodes = ap (λ (l : Lists). l.nodes) c.push_back.ensures ∙ ap (λ (l : Lists). l.nodes) c.unlink.ensures.lists ∙ c.self.invariant.nodes;
      marked = rw now (rotated_marks t p lists c.self.inside.occupied.words once stands c.self.invariant.marked);
      head = named_small c.args.next c.requires.next.0 ∙ sym (ap highest now ∙ head_rotates t c.args.next p lists once stands head next);
      top = c.self.invariant.top;
    }

pub invariant_of-self-else-self-get : goal.invariant_of-self-else-self-get
invariant_of-self-else-self-get c =
    let lists = c.self.inside.links.lists in let t = c.args.t in let p = c.args.p in let once = c.self.invariant.lists.once t in let h = c.self.inside.head in
    let stands : stands_in t (get_or lists (p - 1) []) ≡ true = subst (λ (r : ReadyLists). stands_in t (get_or r.lists (p - 1) []) ≡ true) (sym c.self.view_is) c.requires.on.1 in
    let now = moved t p c.get-node.result c.get.result lists c.unlink.new.self.lists c.push_back.new.self.lists once c.get-node.ensures.value c.get.ensures.value
    (ap (λ (l : Lists). l.lists) c.unlink.ensures.lists) (ap (λ (l : Lists). l.lists) c.push_back.ensures) in
    let is : highest lists ≡ Some h = head_is h t p lists c.self.invariant.head stands in
    let other : h ≢ t = λ same. c.if-self-get.false (same ∙ sym c.get-2.ensures.value) in
    record {
      lists = rotated_ok c.self.inside.threads t p lists c.push_back.new.self.lists c.self.invariant.lists stands now;
      nodes = ap (λ (l : Lists). l.nodes) c.push_back.ensures ∙ ap (λ (l : Lists). l.nodes) c.unlink.ensures.lists ∙ c.self.invariant.nodes;
      marked = rw now (rotated_marks t p lists c.self.inside.occupied.words once stands c.self.invariant.marked);
      head = c.self.invariant.head ∙ is ∙ sym (ap highest now ∙ other_rotates t h p lists once stands is other);
      top = c.self.invariant.top;
    }

pub returns-then-self-get : goal.returns-then-self-get
returns-then-self-get c =
    let now = moved c.args.t c.args.p c.get-node.result c.get.result c.self.inside.links.lists c.unlink.new.self.lists c.push_back.new.self.lists (c.self.invariant.lists.once c.args.t) c.get-node.ensures.value c.get.ensures.value
    (ap (λ (l : Lists). l.lists) c.unlink.ensures.lists) (ap (λ (l : Lists). l.lists) c.push_back.ensures) in
    rw (now, ← c.self.view_is) refl

pub returns-else-self-get : goal.returns-else-self-get
returns-else-self-get c =
    let now = moved c.args.t c.args.p c.get-node.result c.get.result c.self.inside.links.lists c.unlink.new.self.lists c.push_back.new.self.lists (c.self.invariant.lists.once c.args.t) c.get-node.ensures.value c.get.ensures.value
    (ap (λ (l : Lists). l.lists) c.unlink.ensures.lists) (ap (λ (l : Lists). l.lists) c.push_back.ensures) in
    rw (now, ← c.self.view_is) refl
