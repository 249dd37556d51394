-- What holds of each body that a script declares.
use Rattle.std.proofs.Common.{◌+◌, ◌≤◌, ◌≡◌, ◌∙◌, List, [], ◌∷◌, length, Some, ap, sym, subst, arith, length-append}
use Rattle.std.specs.Prelude.{All}
use Rattle.std.proofs.lemmas.List.Elements.{All-nil, All-cons, All-append}
use Rattle.words_script.specs.Block.{Block}
use Rattle.words_script.specs.declared.decl.Kind.TheVariants as kinds
use Rattle.words_script.specs.declared.decl.Decl.{Decl}
use Rattle.words_script.specs.declared.decl.Decl.TheVariants.{Named}
use Rattle.rules_bodies.specs.Flat.{NumberedBodies, no_bodies, bodies_of, with_decl, with_decls}
use Rattle.laws_bounds.proofs.Decls.{bodies_in, decl_more}
use Rattle.laws_bounds.proofs.EachDecl.{Each}

-- Q holds of the body, where there is one
abbrev pub BodyHas : (Block → Type 0) → Decl → Type 0
BodyHas Q (Named name (kinds.Thread policy start steps)) = Q steps
BodyHas Q (Named name (kinds.Handler steps)) = Q steps
BodyHas Q (Named name (kinds.Cleanup steps)) = Q steps
BodyHas Q other = Unit {0}

module _ (Q : Block → Type 0) where
  body_has : (d : Decl) → BodyHas Q d → All Q (bodies_in (Some d))
  body_has (Named name (kinds.Thread policy start steps)) h = All-cons Q steps [] h (All-nil Q)
  body_has (Named name (kinds.Handler steps)) h = All-cons Q steps [] h (All-nil Q)
  body_has (Named name (kinds.Cleanup steps)) h = All-cons Q steps [] h (All-nil Q)
  body_has other h = All-nil Q

  more_have : (decls : List Decl) (b : NumberedBodies Block) → All Q b.all → Each (BodyHas Q) decls → All Q (with_decls (λ steps. steps) decls b).all
  more_have [] b h all = h
  more_have (d ∷ decls) b h all =
      more_have decls (with_decl (λ steps. steps) d b) (subst (All Q) (sym (decl_more d b)) (All-append Q b.all (bodies_in (Some d)) h (body_has d all.0))) all.1

  pub bodies_have : (decls : List Decl) → Each (BodyHas Q) decls → All Q (bodies_of decls).all
  bodies_have decls all = more_have decls no_bodies (All-nil Q) all

-- there are no more bodies than declarations
one_body : (d : Decl) → length (bodies_in (Some d)) ≤ 1
one_body (Named name (kinds.Thread policy start steps)) = omega arith
one_body (Named name (kinds.Handler steps)) = omega arith
one_body (Named name (kinds.Cleanup steps)) = omega arith
one_body other = omega arith

more_number : (decls : List Decl) (b : NumberedBodies Block) → length (with_decls (λ steps. steps) decls b).all ≤ length b.all + length decls
more_number [] b = omega arith
more_number (d ∷ decls) b =
    let next = with_decl (λ steps. steps) d b in
    let rest : length (with_decls (λ steps. steps) decls next).all ≤ length next.all + length decls = more_number decls next in
    let here : length next.all ≡ length b.all + length (bodies_in (Some d)) = ap length (decl_more d b) ∙ length-append b.all (bodies_in (Some d)) in
    let one = one_body d in
    omega (arith, rest, here, one)

pub bodies_number : (decls : List Decl) → length (bodies_of decls).all ≤ length decls
bodies_number decls = let h = more_number decls no_bodies in omega (arith, h)
