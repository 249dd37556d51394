use Rattle.std.specs.Prelude.{slice_get, List, [], ℕ}
use Rattle.std.proofs.Common.{◌≡◌, ◌<◌, true, get_or, refl, subst, sym, ap, ◌∙◌, arith}
use Rattle.parts_links.specs.Links.{Lists, stands_in}
use Rattle.rules_lists.specs.Lists.{ReadyLists, highest, without}
use Rattle.parts_ready.proofs.Places.{without_ok}
use Rattle.parts_ready.proofs.Nodes.{on_at, all_without}
use Rattle.parts_ready.proofs.Heads.{head_goes, is_head, is_other, mark_goes, marks_stay, named_small, other_goes, stands_within}
use Rattle.parts_ready.proofs.Tops.{other_top}
use Rattle.parts_ready.proofs.Ready.leave.Goals as goal

pub unlink-requires : goal.unlink-requires
unlink-requires c =
    let lists = c.self.inside.links.lists in let k = c.args.place in let t = c.args.t in
    let stands : stands_in t (get_or lists k []) ≡ true = subst (λ (r : ReadyLists). stands_in t (get_or r.lists k []) ≡ true) (sym c.self.view_is) c.requires in
    (omega (arith, c.get.ensures.small, c.self.invariant.nodes), on_at c.get.result k lists (subst (λ n. stands_in n (get_or lists k []) ≡ true) (sym c.get.ensures.value) stands))

pub find_head-head-requires-clause-marked : goal.find_head-head-requires-clause-marked
find_head-head-requires-clause-marked c =
    let lists = c.self.inside.links.lists in let new = c.unlink.new.self.lists in let k = c.args.place in let t = c.args.t in let once = c.self.invariant.lists.once t in
    let stands : stands_in t (get_or lists k []) ≡ true = subst (λ (r : ReadyLists). stands_in t (get_or r.lists k []) ≡ true) (sym c.self.view_is) c.requires in
    let within = stands_within t k lists stands in
    let all = ap (λ (l : Lists). l.lists) c.unlink.ensures.lists ∙ all_without c.get.result lists (c.self.invariant.lists.once c.get.result) ∙ ap (λ n. without n lists) c.get.ensures.value in
    mark_goes t k lists new c.self.inside.occupied.words c.unmark.new.self.words once within stands all c.in-None.ensures.head c.self.invariant.marked c.unmark.ensures

pub invariant_of-self : goal.invariant_of-self
invariant_of-self c =
    let lists = c.self.inside.links.lists in let new = c.unlink.new.self.lists in let k = c.args.place in let t = c.args.t in let once = c.self.invariant.lists.once t in
    let stands : stands_in t (get_or lists k []) ≡ true = subst (λ (r : ReadyLists). stands_in t (get_or r.lists k []) ≡ true) (sym c.self.view_is) c.requires in
    let within = stands_within t k lists stands in
    let all = ap (λ (l : Lists). l.lists) c.unlink.ensures.lists ∙ all_without c.get.result lists (c.self.invariant.lists.once c.get.result) ∙ ap (λ n. without n lists) c.get.ensures.value in
    let first = c.in-Some.first in
    let small : first < 256 = omega (arith, c.in-Some.ensures.stands.0, ap (λ (l : Lists). l.nodes) c.unlink.ensures.lists, c.self.invariant.nodes) in
    let head = is_head c.self.inside.head c.get-in-Some.result t lists c.self.invariant.head c.if-self-get.true c.get-in-Some.ensures.value c.get-in-Some.ensures.small in
    let next = ap (λ (ls : List (List ℕ)). slice_get (get_or ls k []) 0) (sym all) ∙ sym c.in-Some.ensures.head in
    record {
      lists = rw all (without_ok (record { threads = c.self.inside.threads; lists = lists }) t c.self.invariant.lists);
      nodes = ap (λ (l : Lists). l.nodes) c.unlink.ensures.lists ∙ c.self.invariant.nodes;
      marked = marks_stay t c.in-Some.first k lists new c.self.inside.occupied.words once within stands all c.in-Some.ensures.head c.self.invariant.marked;
      head = named_small first small ∙ sym (ap highest all ∙ head_goes t first k lists once within stands head next);
      top = c.self.invariant.top;
    }

pub invariant_of-self-else-self-get : goal.invariant_of-self-else-self-get
invariant_of-self-else-self-get c =
    let lists = c.self.inside.links.lists in let new = c.unlink.new.self.lists in let k = c.args.place in let t = c.args.t in let once = c.self.invariant.lists.once t in
    let stands : stands_in t (get_or lists k []) ≡ true = subst (λ (r : ReadyLists). stands_in t (get_or r.lists k []) ≡ true) (sym c.self.view_is) c.requires in
    let within = stands_within t k lists stands in
    let all = ap (λ (l : Lists). l.lists) c.unlink.ensures.lists ∙ all_without c.get.result lists (c.self.invariant.lists.once c.get.result) ∙ ap (λ n. without n lists) c.get.ensures.value in
    let other = is_other c.self.inside.head c.get-in-Some.result t lists c.self.invariant.head c.if-self-get.false c.get-in-Some.ensures.value in
    record {
      lists = rw all (without_ok (record { threads = c.self.inside.threads; lists = lists }) t c.self.invariant.lists);
      nodes = ap (λ (l : Lists). l.nodes) c.unlink.ensures.lists ∙ c.self.invariant.nodes;
      marked = marks_stay t c.in-Some.first k lists new c.self.inside.occupied.words once within stands all c.in-Some.ensures.head c.self.invariant.marked;
      head = c.self.invariant.head ∙ sym (ap highest all ∙ other_goes t lists other);
      top = c.self.invariant.top;
    }

pub invariant_of-self-then-self-get-2 : goal.invariant_of-self-then-self-get-2
invariant_of-self-then-self-get-2 c =
    let lists = c.self.inside.links.lists in let new = c.unlink.new.self.lists in let k = c.args.place in let t = c.args.t in let once = c.self.invariant.lists.once t in
    let stands : stands_in t (get_or lists k []) ≡ true = subst (λ (r : ReadyLists). stands_in t (get_or r.lists k []) ≡ true) (sym c.self.view_is) c.requires in
    let within = stands_within t k lists stands in
    let all = ap (λ (l : Lists). l.lists) c.unlink.ensures.lists ∙ all_without c.get.result lists (c.self.invariant.lists.once c.get.result) ∙ ap (λ n. without n lists) c.get.ensures.value in
    record {
      lists = rw all (without_ok (record { threads = c.self.inside.threads; lists = lists }) t c.self.invariant.lists);
      nodes = ap (λ (l : Lists). l.nodes) c.unlink.ensures.lists ∙ c.self.invariant.nodes;
      marked = mark_goes t k lists new c.self.inside.occupied.words c.unmark.new.self.words once within stands all c.in-None.ensures.head c.self.invariant.marked c.unmark.ensures;
      head = c.find_head-head.ensures.head;
      top = c.find_head-head.ensures.top;
    }

pub invariant_of-self-else-self-get-2 : goal.invariant_of-self-else-self-get-2
invariant_of-self-else-self-get-2 c =
    let lists = c.self.inside.links.lists in let new = c.unlink.new.self.lists in let k = c.args.place in let t = c.args.t in let once = c.self.invariant.lists.once t in
    let stands : stands_in t (get_or lists k []) ≡ true = subst (λ (r : ReadyLists). stands_in t (get_or r.lists k []) ≡ true) (sym c.self.view_is) c.requires in
    let within = stands_within t k lists stands in
    let all = ap (λ (l : Lists). l.lists) c.unlink.ensures.lists ∙ all_without c.get.result lists (c.self.invariant.lists.once c.get.result) ∙ ap (λ n. without n lists) c.get.ensures.value in
    let other = is_other c.self.inside.head c.get-in-None.result t lists c.self.invariant.head c.if-self-get-2.false c.get-in-None.ensures.value in
    record {
      lists = rw all (without_ok (record { threads = c.self.inside.threads; lists = lists }) t c.self.invariant.lists);
      nodes = ap (λ (l : Lists). l.nodes) c.unlink.ensures.lists ∙ c.self.invariant.nodes;
      marked = mark_goes t k lists new c.self.inside.occupied.words c.unmark.new.self.words once within stands all c.in-None.ensures.head c.self.invariant.marked c.unmark.ensures;
      head = c.self.invariant.head ∙ sym (ap highest all ∙ other_goes t lists other);
      top = other_top c.self.inside.head t k c.self.inside.top lists c.self.inside.occupied.words c.unmark.new.self.words c.self.invariant.marked c.self.invariant.top c.self.invariant.head
          (λ same. c.if-self-get-2.false (same ∙ sym c.get-in-None.ensures.value)) (c.in-None.ensures.head ∙ ap (λ (ls : List (List ℕ)). slice_get (get_or ls k []) 0) all) c.unmark.ensures;
    }

pub returns-then-self-get : goal.returns-then-self-get
returns-then-self-get c =
    let lists = c.self.inside.links.lists in
    let all = ap (λ (l : Lists). l.lists) c.unlink.ensures.lists ∙ all_without c.get.result lists (c.self.invariant.lists.once c.get.result) ∙ ap (λ n. without n lists) c.get.ensures.value in
    rw (all, ← c.self.view_is) refl

pub returns-else-self-get : goal.returns-else-self-get
returns-else-self-get c =
    let lists = c.self.inside.links.lists in
    let all = ap (λ (l : Lists). l.lists) c.unlink.ensures.lists ∙ all_without c.get.result lists (c.self.invariant.lists.once c.get.result) ∙ ap (λ n. without n lists) c.get.ensures.value in
    rw (all, ← c.self.view_is) refl

pub returns-then-self-get-2 : goal.returns-then-self-get-2
returns-then-self-get-2 c =
    let lists = c.self.inside.links.lists in
    let all = ap (λ (l : Lists). l.lists) c.unlink.ensures.lists ∙ all_without c.get.result lists (c.self.invariant.lists.once c.get.result) ∙ ap (λ n. without n lists) c.get.ensures.value in
    rw (all, ← c.self.view_is) refl

pub returns-else-self-get-2 : goal.returns-else-self-get-2
returns-else-self-get-2 c =
    let lists = c.self.inside.links.lists in
    let all = ap (λ (l : Lists). l.lists) c.unlink.ensures.lists ∙ all_without c.get.result lists (c.self.invariant.lists.once c.get.result) ∙ ap (λ n. without n lists) c.get.ensures.value in
    rw (all, ← c.self.view_is) refl
