use Rattle.std.proofs.Common.{◌≡◌, ◌-◌, ◌<◌, ◌∷◌, ◌++◌, [], ℕ, List, false, nat_lt, length, get_or, set, subst, sym, ap, ◌∙◌, arith}
use Rattle.parts_links.specs.Links.{Lists, on_a_list}
use Rattle.rules_lists.specs.Lists.{ReadyLists}
use Rattle.parts_ready.proofs.Places.{at_tail, at_head, marked_after, tail_marks, head_marks, without_nowhere}
use Rattle.parts_ready.proofs.Nodes.{times_off}
use Rattle.parts_ready.specs.declared.End.TheVariants.{Head, Tail}
use Rattle.parts_ready.proofs.Heads.{put_head}
use Rattle.parts_ready.specs.Bits.{IsTop}
use Rattle.parts_ready.specs.ReadyView.{named}
use Rattle.parts_ready.proofs.Tops.{put_named, put_top}
use Rattle.parts_ready.proofs.Ready.join.Goals as goal

pub push_front-requires : goal.push_front-requires
push_front-requires c =
    let lists = c.self.inside.links.lists in
    let off : on_a_list c.args.t lists ≡ false = subst (λ (r : ReadyLists). on_a_list c.args.t r.lists ≡ false) (sym c.self.view_is) c.requires.off in (
      omega (arith, c.get-level.ensures.small, c.get-level.ensures.above_zero, c.self.invariant.lists.each_priority),
      omega (arith, c.get-node.ensures.small, c.self.invariant.nodes),
      subst (λ n. on_a_list n lists ≡ false) (sym c.get-node.ensures.value) off,
    )

pub push_back-requires : goal.push_back-requires
push_back-requires c =
    let lists = c.self.inside.links.lists in
    let off : on_a_list c.args.t lists ≡ false = subst (λ (r : ReadyLists). on_a_list c.args.t r.lists ≡ false) (sym c.self.view_is) c.requires.off in (
      omega (arith, c.get-level.ensures.small, c.get-level.ensures.above_zero, c.self.invariant.lists.each_priority),
      omega (arith, c.get-node.ensures.small, c.self.invariant.nodes),
      subst (λ n. on_a_list n lists ≡ false) (sym c.get-node.ensures.value) off,
    )

pub invariant_of-self : goal.invariant_of-self
invariant_of-self c =
    let lists = c.self.inside.links.lists in let i = c.get-level.result - 1 in let t = c.args.t in
    let threads = ap (λ (r : ReadyLists). r.threads) c.self.view_is in
    let off : on_a_list t lists ≡ false = subst (λ (r : ReadyLists). on_a_list t r.lists ≡ false) (sym c.self.view_is) c.requires.off in
    let gone = sym (without_nowhere t lists (times_off t lists off)) in
    let known : t < c.self.inside.threads = omega (arith, c.requires.known, threads) in
    let small : i < 255 = omega (arith, c.get-level.ensures.small, c.get-level.ensures.above_zero) in
    let within : i < length lists = omega (arith, small, c.self.invariant.lists.each_priority) in
    let p = c.get-level.result in let words = c.self.inside.occupied.words in let with = c.head_with-head.ensures in
    let thread : t < 256 = omega (arith, known, c.self.invariant.lists.few_threads) in
    let now : c.push_front.new.self.lists ≡ set lists i (t ∷ get_or lists i []) = ap (λ (l : Lists). l.lists) c.push_front.ensures
    ∙ ap (λ n. set lists i (n ∷ get_or lists i [])) c.get-node.ensures.value in
    record {
      lists = rw now (at_head (record { threads = c.self.inside.threads; lists = lists }) t i lists c.self.invariant.lists known gone small);
      head = ap named with.head ∙ put_named c.args.end c.self.inside.head t p c.self.inside.top lists words c.self.invariant.marked c.self.invariant.top c.self.invariant.head within c.get-level.ensures.above_zero thread
          ∙ put_head c.args.end Head t p lists c.push_front.new.self.lists c.in-Head.is now;
      top = subst (λ n. IsTop n c.mark.new.self.words) (sym with.top) (put_top c.args.end p c.self.inside.top words c.mark.new.self.words c.get-level.ensures.above_zero c.self.invariant.top c.mark.ensures);
      nodes = ap (λ (l : Lists). l.nodes) c.push_front.ensures ∙ c.self.invariant.nodes;
      marked = λ k. marked_after lists c.self.inside.occupied.words c.mark.new.self.words i _ (t ∷ get_or lists i []) c.self.invariant.marked c.mark.ensures within
          (head_marks t (get_or lists i [])) k ∙ ap (λ (ls : List (List ℕ)). nat_lt 0 (length (get_or ls k []))) (sym now);
    }

pub invariant_of-self-in-Tail : goal.invariant_of-self-in-Tail
invariant_of-self-in-Tail c =
    let lists = c.self.inside.links.lists in let i = c.get-level.result - 1 in let t = c.args.t in
    let threads = ap (λ (r : ReadyLists). r.threads) c.self.view_is in
    let off : on_a_list t lists ≡ false = subst (λ (r : ReadyLists). on_a_list t r.lists ≡ false) (sym c.self.view_is) c.requires.off in
    let gone = sym (without_nowhere t lists (times_off t lists off)) in
    let known : t < c.self.inside.threads = omega (arith, c.requires.known, threads) in
    let small : i < 255 = omega (arith, c.get-level.ensures.small, c.get-level.ensures.above_zero) in
    let within : i < length lists = omega (arith, small, c.self.invariant.lists.each_priority) in
    let p = c.get-level.result in let words = c.self.inside.occupied.words in let with = c.head_with-head.ensures in
    let thread : t < 256 = omega (arith, known, c.self.invariant.lists.few_threads) in
    let now : c.push_back.new.self.lists ≡ set lists i (get_or lists i [] ++ t ∷ []) = ap (λ (l : Lists). l.lists) c.push_back.ensures
    ∙ ap (λ n. set lists i (get_or lists i [] ++ n ∷ [])) c.get-node.ensures.value in
    record {
      lists = rw now (at_tail (record { threads = c.self.inside.threads; lists = lists }) t i lists c.self.invariant.lists known gone small);
      head = ap named with.head ∙ put_named c.args.end c.self.inside.head t p c.self.inside.top lists words c.self.invariant.marked c.self.invariant.top c.self.invariant.head within c.get-level.ensures.above_zero thread
          ∙ put_head c.args.end Tail t p lists c.push_back.new.self.lists c.in-Tail.is now;
      top = subst (λ n. IsTop n c.mark.new.self.words) (sym with.top) (put_top c.args.end p c.self.inside.top words c.mark.new.self.words c.get-level.ensures.above_zero c.self.invariant.top c.mark.ensures);
      nodes = ap (λ (l : Lists). l.nodes) c.push_back.ensures ∙ c.self.invariant.nodes;
      marked = λ k. marked_after lists c.self.inside.occupied.words c.mark.new.self.words i _ (get_or lists i [] ++ t ∷ []) c.self.invariant.marked c.mark.ensures within
          (tail_marks t (get_or lists i [])) k ∙ ap (λ (ls : List (List ℕ)). nat_lt 0 (length (get_or ls k []))) (sym now);
    }
