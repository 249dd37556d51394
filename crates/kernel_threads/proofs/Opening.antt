-- The threads of the first declarations, one more at a time.
use Rattle.std.proofs.Common.{◌≡◌, ◌≤◌, ◌<◌, ℕ, zero, suc, ◌+◌, ◌-◌, List, [], ◌∷◌, ◌++◌, refl, sym, ◌∙◌, ap, arith, Option, Some, None, length, take, get_or, append-nil, append_assoc, replicate, length-append}
use Rattle.std.specs.Prelude.{map, option_to_list, slice_set}
use Rattle.std.specs.List.{filter_map}
use Rattle.words_script.specs.declared.decl.Decl.{Decl}
use Rattle.rules_machine.specs.Declarations.{ThreadDecl, declared_thread}
use Rattle.std.proofs.lemmas.List.{map-append, length-map, length-replicate}
use Rattle.kernel_threads.specs.Opening.{with_name}

filter_cons : (o : Option ThreadDecl) (x : Decl) (xs : List Decl) → declared_thread x ≡ o → filter_map declared_thread (x ∷ xs) ≡ option_to_list o ++ filter_map declared_thread xs
filter_cons None x xs is = rw is refl
filter_cons (Some d) x xs is = rw is refl

pub threads_more : (decls : List Decl) (i : ℕ) (d : Decl) → i < length decls →
    filter_map declared_thread (take (i + 1) decls) ≡ filter_map declared_thread (take i decls) ++ option_to_list (declared_thread (get_or decls i d))
threads_more [] i d lt = absurd (omega arith)
threads_more (x ∷ xs) zero d lt = filter_cons (declared_thread x) x [] refl ∙ append-nil (option_to_list (declared_thread x))
threads_more (x ∷ xs) (suc i) d lt =
    let one : suc i + 1 ≡ suc (i + 1) = omega arith in
    let ih = threads_more xs i d (omega arith) in
    rw one (filter_cons (declared_thread x) x (take (i + 1) xs) refl ∙ (ap (λ ys. option_to_list (declared_thread x) ++ ys) ih ∙
    (sym (append_assoc (option_to_list (declared_thread x)) (filter_map declared_thread (take i xs)) (option_to_list (declared_thread (get_or xs i d)))) ∙
    ap (λ ys. ys ++ option_to_list (declared_thread (get_or xs i d))) (sym (filter_cons (declared_thread x) x (take i xs) refl)))))

-- so many threads are declared in all
pub threads_total : (decls : List Decl) (i : ℕ) → length (filter_map declared_thread (take i decls)) ≤ length (filter_map declared_thread decls)
threads_total decls zero = omega arith
threads_total [] (suc i) = omega arith
threads_total (x ∷ xs) (suc i) =
    let ih = threads_total xs i in
    let a = ap length (filter_cons (declared_thread x) x (take i xs) refl) in
    let b = ap length (filter_cons (declared_thread x) x xs refl) in
    let c = length-append (option_to_list (declared_thread x)) (filter_map declared_thread (take i xs)) in
    let d = length-append (option_to_list (declared_thread x)) (filter_map declared_thread xs) in
    omega arith

-- one more is among them
pub threads_room : (decls : List Decl) (i : ℕ) (d : Decl) → i < length decls →
    length (filter_map declared_thread (take i decls)) + length (option_to_list (declared_thread (get_or decls i d))) ≤ length (filter_map declared_thread decls)
threads_room decls i d lt =
    let more = ap length (threads_more decls i d lt) in
    let both = length-append (filter_map declared_thread (take i decls)) (option_to_list (declared_thread (get_or decls i d))) in
    let all = threads_total decls (i + 1) in
    omega arith

abbrev pub name_of : ThreadDecl → List ℕ
name_of d = d.name

-- all names are there from the first on, some of them empty
pub names_length : (decls : List Decl) (i t n : ℕ) (names : List (List ℕ)) → t ≡ length (filter_map declared_thread (take i decls)) →
    names ≡ map name_of (filter_map declared_thread (take i decls)) ++ replicate (n - t) [] → n ≡ length (filter_map declared_thread decls) → length names ≡ n
names_length decls i t n names count is all =
    let long = ap length is ∙ length-append (map name_of (filter_map declared_thread (take i decls))) (replicate (n - t) []) in
    let front = length-map (filter_map declared_thread (take i decls)) name_of in
    let empty : List ℕ = [] in
    let back = length-replicate (n - t) empty in
    let total = threads_total decls i in
    omega arith

set_seam : (xs : List (List ℕ)) (k : ℕ) (y : List ℕ) → slice_set (xs ++ replicate (suc k) []) (length xs) y ≡ (xs ++ y ∷ []) ++ replicate k []
set_seam [] k y = refl
set_seam (x ∷ xs) k y = ap (λ zs. x ∷ zs) (set_seam xs k y)

-- one more thread has its name
pub names_next : (ds : List ThreadDecl) (o : Option ThreadDecl) (t n : ℕ) → t ≡ length ds → t + length (option_to_list o) ≤ n →
    with_name (map name_of ds ++ replicate (n - t) []) t o ≡ map name_of (ds ++ option_to_list o) ++ replicate (n - (t + length (option_to_list o))) []
names_next ds None t n count fits = let e : n - (t + 0) ≡ n - t = omega arith in rw (e, append-nil) refl
names_next ds (Some d) t n count fits =
    let e : n - t ≡ suc (n - (t + 1)) = omega arith in
    let long : t ≡ length (map name_of ds) = count ∙ sym (length-map ds name_of) in
    let seam = set_seam (map name_of ds) (n - (t + 1)) d.name in
    let at = rw (← long) at seam in
    rw (e, map-append) at
