-- The names of threads and objects, by their numbers. The script language is this project's own.
use Rattle.std.specs.Prelude.{ℕ, if◌then◌else◌, List, [], ◌∷◌, slice_get, unwrap_or}
use Rattle.words_script.specs.declared.decl.Decl.{Decl}
use Rattle.words_script.specs.declared.decl.Decl.TheVariants.{Named, Action}
use Rattle.words_script.specs.declared.decl.Kind.{Kind}
use Rattle.words_script.specs.declared.name_kind.NameKind.{NameKind}
use Rattle.words_script.specs.Kinds.{kind_of, same_kind}

-- a name before others, where it stands for this kind
abbrev pub onto_names : NameKind → List ℕ → Kind → List (List ℕ) → List (List ℕ)
onto_names wanted name kind names = if same_kind (kind_of kind) wanted then name ∷ names else names

-- the names of a kind, in order of declaration
abbrev pub names_of : NameKind → List Decl → List (List ℕ)
names_of wanted [] = []
names_of wanted (Named name kind ∷ decls) = onto_names wanted name kind (names_of wanted decls)
names_of wanted (Action sig handler ∷ decls) = names_of wanted decls

-- the name of the thread or object that has a number
abbrev pub name_of : List Decl → NameKind → ℕ → List ℕ
name_of decls wanted k = unwrap_or (slice_get (names_of wanted decls) k) []
