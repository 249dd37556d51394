-- The names that a kernel keeps of its threads are those of the declarations, in their order.
use Rattle.std.proofs.Common.{List, [], ◌∷◌, ap, map, refl, ℕ, ◌≡◌}
use Rattle.std.specs.Prelude.{filter_map}
use Rattle.words_script.specs.declared.decl.Decl.{Decl}
use Rattle.words_script.specs.declared.decl.Decl.TheVariants as decl
use Rattle.words_script.specs.declared.decl.Kind.{Kind}
use Rattle.words_script.specs.declared.decl.Kind.TheVariants as sort
use Rattle.words_script.specs.declared.name_kind.NameKind.TheVariants as kind
use Rattle.script_writer.specs.Names.{names_of}
use Rattle.rules_machine.specs.Declarations.{ThreadDecl, declared_thread}

abbrev pub thread_names_of : List Decl → List (List ℕ)
thread_names_of decls = map (λ (d : ThreadDecl). d.name) (filter_map declared_thread decls)

-- with one declaration in front
named_too : (name : List ℕ) (k : Kind) (decls : List Decl) → thread_names_of decls ≡ names_of kind.Thread decls
    → thread_names_of (decl.Named name k ∷ decls) ≡ names_of kind.Thread (decl.Named name k ∷ decls)
named_too name (sort.Thread policy start body) decls e = ap (λ (names : List (List ℕ)). name ∷ names) e
named_too name (sort.Handler body) decls e = e
named_too name (sort.Cleanup body) decls e = e
named_too name (sort.Mutex protocol recursive) decls e = e
named_too name sort.Cond decls e = e
named_too name (sort.Sem value) decls e = e
named_too name (sort.Queue depth longest nonblock) decls e = e
named_too name (sort.Timer signal value real) decls e = e

pub thread_names : (decls : List Decl) → thread_names_of decls ≡ names_of kind.Thread decls
thread_names [] = refl
thread_names (decl.Named name k ∷ decls) = named_too name k decls (thread_names decls)
thread_names (decl.Action signal handler ∷ decls) = thread_names decls
