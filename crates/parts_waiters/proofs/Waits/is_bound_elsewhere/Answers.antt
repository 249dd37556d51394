use Rattle.std.proofs.Common.{◌∙◌, ℕ, ap, sym, subst, subst₂}
use Rattle.std.specs.Prelude.{List, Option}
use Rattle.parts_links.specs.Links.{list_at}
use Rattle.parts_waiters.specs.declared.Place.{Place}
use Rattle.parts_waiters.specs.Bound.{AreAsOne, WaitsElsewhere, has_one, others}
use Rattle.parts_waiters.proofs.Alike.{are_as_one}
use Rattle.parts_waiters.proofs.Elsewhere.{none_found, one_found}
use Rattle.parts_waiters.proofs.Waits.is_bound_elsewhere.Goals as goal

pub is_first_elsewhere-requires-clause-alike : goal.is_first_elsewhere-requires-clause-alike
is_first_elsewhere-requires-clause-alike c =
    let w = c.self.inside in
    subst₂ (λ (n : ℕ) (places : List (Option Place)). AreAsOne (others c.args.k places) (list_at w.links.lists n)) (sym c.number-list.ensures.number) (sym c.deref.ensures.value)
    (are_as_one w.places.items w.links c.self.invariant.held (c.self.invariant.alike c.if-self.true) c.args.c c.args.k c.number-list.ensures.id)

pub returns-then-self-clause-found : goal.returns-then-self-clause-found
returns-then-self-clause-found c =
    let w = c.self.inside in let k = c.args.k in
    let read = c.is_first_elsewhere.ensures ∙ ap (λ (places : List (Option Place)). has_one (others k places) (list_at w.links.lists c.number-list.result)) c.deref.ensures.value
    ∙ ap (λ (n : ℕ). has_one (others k w.places.items) (list_at w.links.lists n)) c.number-list.ensures.number in
    λ is. subst (λ (places : List (Option Place)). (t : ℕ) × WaitsElsewhere places c.args.c k t) c.self.view_is (one_found k w.places.items w.links c.self.invariant.held c.args.c c.number-list.ensures.id (sym read ∙ is))

pub returns-then-self-clause-none : goal.returns-then-self-clause-none
returns-then-self-clause-none c =
    let w = c.self.inside in let k = c.args.k in
    let read = c.is_first_elsewhere.ensures ∙ ap (λ (places : List (Option Place)). has_one (others k places) (list_at w.links.lists c.number-list.result)) c.deref.ensures.value
    ∙ ap (λ (n : ℕ). has_one (others k w.places.items) (list_at w.links.lists n)) c.number-list.ensures.number in
    λ is. subst (λ (places : List (Option Place)). (t : ℕ) → WaitsElsewhere places c.args.c k t → ⊥) c.self.view_is (none_found k w.places.items w.links c.self.invariant.held c.args.c c.number-list.ensures.id (sym read ∙ is))

pub returns-else-self-clause-found : goal.returns-else-self-clause-found
returns-else-self-clause-found c =
    let w = c.self.inside in let k = c.args.k in
    let read = c.has_one_elsewhere.ensures ∙ ap (λ (places : List (Option Place)). has_one (others k places) (list_at w.links.lists c.number-list.result)) c.deref-else-self.ensures.value
    ∙ ap (λ (n : ℕ). has_one (others k w.places.items) (list_at w.links.lists n)) c.number-list.ensures.number in
    λ is. subst (λ (places : List (Option Place)). (t : ℕ) × WaitsElsewhere places c.args.c k t) c.self.view_is (one_found k w.places.items w.links c.self.invariant.held c.args.c c.number-list.ensures.id (sym read ∙ is))

pub returns-else-self-clause-none : goal.returns-else-self-clause-none
returns-else-self-clause-none c =
    let w = c.self.inside in let k = c.args.k in
    let read = c.has_one_elsewhere.ensures ∙ ap (λ (places : List (Option Place)). has_one (others k places) (list_at w.links.lists c.number-list.result)) c.deref-else-self.ensures.value
    ∙ ap (λ (n : ℕ). has_one (others k w.places.items) (list_at w.links.lists n)) c.number-list.ensures.number in
    λ is. subst (λ (places : List (Option Place)). (t : ℕ) → WaitsElsewhere places c.args.c k t → ⊥) c.self.view_is (none_found k w.places.items w.links c.self.invariant.held c.args.c c.number-list.ensures.id (sym read ∙ is))
