-- The flat form of a script, one declaration after another.
use Rattle.std.proofs.Common.{◌≡◌, ℕ, zero, suc, ◌+◌, ◌<◌, ◌≤◌, Some, List, [], ◌∷◌, ◌++◌, length, map, drop, drop-cons, get_or, add-one, slice_get, All, refl, ap, sym, subst, ◌∙◌, append_assoc, append-nil, length-append, arith}
use Rattle.std.proofs.lemmas.List.{get_or_append_left, get_or-append-add}
use Rattle.std.proofs.Math.ListN.{drop_of_length-le}
use Rattle.std.proofs.lemmas.Option.{get_or_from_slice_get, slice_get_within}
use Rattle.words_script.specs.Block.{Block}
use Rattle.words_script.specs.Tree.{step_count}
use Rattle.words_script.specs.declared.decl.Decl.{Decl}
use Rattle.words_script.specs.declared.decl.Decl.TheVariants.{Named, Action}
use Rattle.words_script.specs.declared.decl.Kind.TheVariants.{Thread, Handler, Cleanup, Mutex, Cond, Sem, Queue, Timer}
use Rattle.rules_bodies.specs.declared.op.Op.{Op}
use Rattle.rules_bodies.specs.Flat.{NumberedBodies, IsFlattenable, flat, flat_form, bodies_of, body_list, no_bodies, with_decl, with_decls, nesting}
use Rattle.rules_bodies.specs.Stands.{IsBody}

-- the bodies of declarations, in their order
abbrev pub bodies_in : List Decl → List Block
bodies_in [] = []
bodies_in (decl ∷ decls) = body_list decl ++ bodies_in decls

all-with_decl : (decl : Decl) (b : NumberedBodies Block) → (with_decl (λ body. body) decl b).all ≡ b.all ++ body_list decl
all-with_decl (Named name (Thread policy start body)) b = refl
all-with_decl (Named name (Handler body)) b = refl
all-with_decl (Named name (Cleanup body)) b = refl
all-with_decl (Named name (Mutex protocol recursive)) b = sym (append-nil b.all)
all-with_decl (Named name Cond) b = sym (append-nil b.all)
all-with_decl (Named name (Sem value)) b = sym (append-nil b.all)
all-with_decl (Named name (Queue depth max_len nonblock)) b = sym (append-nil b.all)
all-with_decl (Named name (Timer sig value real)) b = sym (append-nil b.all)
all-with_decl (Action sig handler) b = sym (append-nil b.all)

all-with_decls : (decls : List Decl) (b : NumberedBodies Block) → (with_decls (λ body. body) decls b).all ≡ b.all ++ bodies_in decls
all-with_decls [] b = sym (append-nil b.all)
all-with_decls (decl ∷ decls) b =
    all-with_decls decls (with_decl (λ body. body) decl b)
    ∙ (ap (λ xs. xs ++ bodies_in decls) (all-with_decl decl b) ∙ append_assoc b.all (body_list decl) (bodies_in decls))

pub all-bodies_of : (decls : List Decl) → (bodies_of decls).all ≡ bodies_in decls
all-bodies_of decls = all-with_decls decls no_bodies

-- a flat form has as many bodies, under the same numbers
map-append_one : (xs : List Block) (x : Block) → map (flat 0) xs ++ flat 0 x ∷ [] ≡ map (flat 0) (xs ++ x ∷ [])
map-append_one [] x = refl
map-append_one (y ∷ xs) x = ap (λ zs. flat 0 y ∷ zs) (map-append_one xs x)

length-map_flat : (xs : List Block) → length (map (flat 0) xs) ≡ length xs
length-map_flat [] = refl
length-map_flat (x ∷ xs) = ap suc (length-map_flat xs)

with_decl-flat_form : (decl : Decl) (b : NumberedBodies Block) → with_decl (flat 0) decl (flat_form b) ≡ flat_form (with_decl (λ body. body) decl b)
with_decl-flat_form (Named name (Thread policy start body)) b =
    ap (λ n. record (flat_form b) { all = map (flat 0) b.all ++ flat 0 body ∷ []; threads = b.threads ++ n ∷ [] }) (length-map_flat b.all)
    ∙ ap (λ xs. record (flat_form b) { all = xs; threads = b.threads ++ length b.all ∷ [] }) (map-append_one b.all body)
with_decl-flat_form (Named name (Handler body)) b =
    ap (λ n. record (flat_form b) { all = map (flat 0) b.all ++ flat 0 body ∷ []; handlers = b.handlers ++ n ∷ [] }) (length-map_flat b.all)
    ∙ ap (λ xs. record (flat_form b) { all = xs; handlers = b.handlers ++ length b.all ∷ [] }) (map-append_one b.all body)
with_decl-flat_form (Named name (Cleanup body)) b =
    ap (λ n. record (flat_form b) { all = map (flat 0) b.all ++ flat 0 body ∷ []; cleanups = b.cleanups ++ n ∷ [] }) (length-map_flat b.all)
    ∙ ap (λ xs. record (flat_form b) { all = xs; cleanups = b.cleanups ++ length b.all ∷ [] }) (map-append_one b.all body)
with_decl-flat_form (Named name (Mutex protocol recursive)) b = refl
with_decl-flat_form (Named name Cond) b = refl
with_decl-flat_form (Named name (Sem value)) b = refl
with_decl-flat_form (Named name (Queue depth max_len nonblock)) b = refl
with_decl-flat_form (Named name (Timer sig value real)) b = refl
with_decl-flat_form (Action sig handler) b = refl

pub with_decls-flat_form : (decls : List Decl) (b : NumberedBodies Block)
    → with_decls (flat 0) decls (flat_form b) ≡ flat_form (with_decls (λ body. body) decls b)
with_decls-flat_form [] b = refl
with_decls-flat_form (decl ∷ decls) b =
    ap (with_decls (flat 0) decls) (with_decl-flat_form decl b) ∙ with_decls-flat_form decls (with_decl (λ body. body) decl b)

-- the bodies of a script stand in its flat form
slice_get-map_flat : (xs : List Block) (n : ℕ) (x : Block) → slice_get xs n ≡ Some x → slice_get (map (flat 0) xs) n ≡ Some (flat 0 x)
slice_get-map_flat [] n x e = cc
slice_get-map_flat (y ∷ xs) zero x e = cc
slice_get-map_flat (y ∷ xs) (suc n) x e = slice_get-map_flat xs n x e

holds_at : (P : Block → Type 0) (xs : List Block) (n : ℕ) (x : Block) → All P xs → slice_get xs n ≡ Some x → P x
holds_at P xs n x h e = subst P (get_or_from_slice_get xs n x x e) (h n x (slice_get_within xs n x e))

pub is_body_of_script : (bodies : NumberedBodies Block) (code : NumberedBodies (List Op)) (n : ℕ) (body : Block) → code ≡ flat_form bodies → IsFlattenable bodies.all
    → slice_get bodies.all n ≡ Some body → IsBody code n body
is_body_of_script bodies code n body e h at = record {
  flat_form = ap (λ (c : NumberedBodies (List Op)). slice_get c.all n) e ∙ slice_get-map_flat bodies.all n body at;
  short = holds_at (λ body. step_count body ≤ 65536) bodies.all n body h.short at;
  nested = holds_at (λ body. nesting body ≤ 15) bodies.all n body h.nested at;
}

-- Of a script's declarations, all but these are taken.
pub record Opens (decls : List Decl) (code : NumberedBodies (List Op)) (left : List Decl) : Type 0 where
  pub taken : with_decls (flat 0) left code ≡ flat_form (bodies_of decls)
  pub room : length code.all + length (bodies_in left) ≤ 65536
  pub short : All (λ body. step_count body ≤ 65536) (bodies_in left)

-- code without bodies
empty_code : (code : NumberedBodies (List Op)) → code.all ≡ [] → code.threads ≡ [] → code.handlers ≡ [] → code.cleanups ≡ [] → code ≡ no_bodies
empty_code code e f g h =
    ap (λ xs. record code { all = xs }) e
    ∙ (ap (λ xs. record code { all = []; threads = xs }) f
    ∙ (ap (λ xs. record code { all = []; threads = []; handlers = xs }) g
    ∙ ap (λ xs. record code { all = []; threads = []; handlers = []; cleanups = xs }) h))

opens_at_first : (decls : List Decl) → IsFlattenable (bodies_of decls).all → Opens decls no_bodies decls
opens_at_first decls h =
    let e = all-bodies_of decls in
    let room = h.numbered in
    record {
      taken = with_decls-flat_form decls no_bodies;
      room = omega (arith, ap length e);
      short = subst (All (λ body. step_count body ≤ 65536)) e h.short;
    }

pub opens_empty : (decls items : List Decl) (code : NumberedBodies (List Op)) → IsFlattenable (bodies_of decls).all → items ≡ decls
    → code.all ≡ [] → code.threads ≡ [] → code.handlers ≡ [] → code.cleanups ≡ [] → Opens decls code items
opens_empty decls items code h e all threads handlers cleanups =
    subst (λ code. Opens decls code items) (sym (empty_code code all threads handlers cleanups))
    (subst (Opens decls no_bodies) (sym e) (opens_at_first decls h))

All-front : (P : Block → Type 0) (xs ys : List Block) → All P (xs ++ ys) → All P xs
All-front P xs ys h =
    λ k d past. subst P (get_or_append_left xs ys d k past) (h k d (omega (arith, length-append xs ys)))

All-back : (P : Block → Type 0) (xs ys : List Block) → All P (xs ++ ys) → All P ys
All-back P xs ys h =
    λ k d past. subst P (get_or-append-add xs ys k d) (h (length xs + k) d (omega (arith, length-append xs ys)))

drop_at_decl : (decls : List Decl) (i : ℕ) (d : Decl) → i < length decls → d ≡ get_or decls i d → drop i decls ≡ d ∷ drop (i + 1) decls
drop_at_decl decls i d past at =
    drop-cons decls i d past ∙ (ap (λ x. x ∷ drop (suc i) decls) (sym at) ∙ ap (λ k. d ∷ drop k decls) (sym (add-one i)))

-- the next declaration
pub record OpensNext (code : NumberedBodies (List Op)) (decl : Decl) : Type 0 where
  pub room : length code.all + length (body_list decl) ≤ 65536
  pub short : All (λ body. step_count body ≤ 65536) (body_list decl)

pub opens_next : (decls items : List Decl) (code : NumberedBodies (List Op)) (i : ℕ) (d : Decl) → Opens decls code (drop i items) → i < length items
    → d ≡ get_or items i d → OpensNext code d
opens_next decls items code i d h past at =
    let split = ap bodies_in (drop_at_decl items i d past at) in
    let room = h.room in
    record {
      room = omega (arith, ap length split, length-append (body_list d) (bodies_in (drop (i + 1) items)));
      short = All-front (λ body. step_count body ≤ 65536) (body_list d) (bodies_in (drop (i + 1) items))
          (subst (All (λ body. step_count body ≤ 65536)) split h.short);
    }

length-with_decl : (decl : Decl) (code : NumberedBodies (List Op)) → length (with_decl (flat 0) decl code).all ≡ length code.all + length (body_list decl)
length-with_decl (Named name (Thread policy start body)) code = length-append code.all (flat 0 body ∷ [])
length-with_decl (Named name (Handler body)) code = length-append code.all (flat 0 body ∷ [])
length-with_decl (Named name (Cleanup body)) code = length-append code.all (flat 0 body ∷ [])
length-with_decl (Named name (Mutex protocol recursive)) code = omega arith
length-with_decl (Named name Cond) code = omega arith
length-with_decl (Named name (Sem value)) code = omega arith
length-with_decl (Named name (Queue depth max_len nonblock)) code = omega arith
length-with_decl (Named name (Timer sig value real)) code = omega arith
length-with_decl (Action sig handler) code = omega arith

pub opens_more : (decls items : List Decl) (code new : NumberedBodies (List Op)) (i : ℕ) (d : Decl) → Opens decls code (drop i items) → i < length items
    → d ≡ get_or items i d → new ≡ with_decl (flat 0) d code → Opens decls new (drop (i + 1) items)
opens_more decls items code new i d h past at e =
    let split = drop_at_decl items i d past at in
    let bodies = ap bodies_in split in
    let room = h.room in
    let n = length-with_decl d code in
    let m = ap (λ (c : NumberedBodies (List Op)). length c.all) e in
    record {
      taken = ap (with_decls (flat 0) (drop (i + 1) items)) e ∙ (ap (λ ds. with_decls (flat 0) ds code) (sym split) ∙ h.taken);
      room = omega (arith, ap length bodies, length-append (body_list d) (bodies_in (drop (i + 1) items)));
      short = All-back (λ body. step_count body ≤ 65536) (body_list d) (bodies_in (drop (i + 1) items))
          (subst (All (λ body. step_count body ≤ 65536)) bodies h.short);
    }

-- the body of a declaration is short
pub short_body : (decl : Decl) (body : Block) → body_list decl ≡ body ∷ [] → All (λ body. step_count body ≤ 65536) (body_list decl) → step_count body ≤ 65536
short_body decl body e h = subst (All (λ body. step_count body ≤ 65536)) e h 0 body (omega arith)

-- all declarations are taken
pub opens_all : (decls items : List Decl) (code : NumberedBodies (List Op)) (i : ℕ) → Opens decls code (drop i items) → length items ≤ i
    → code ≡ flat_form (bodies_of decls)
opens_all decls items code i h past = ap (λ ds. with_decls (flat 0) ds code) (sym (drop_of_length-le items past)) ∙ h.taken
