-- The names of what is built so far.
use Rattle.std.proofs.Common.{◌≡◌, ℕ, List, [], ◌∷◌, ◌++◌, refl, sym, ◌∙◌, ap, Bool, true, false, Option, None, Some, append_assoc, append-nil}
use Rattle.std.specs.Prelude.{option_to_list, if◌then◌else◌}
use Rattle.std.specs.Option.{option_map}
use Rattle.words_script.specs.Block.{Block}
use Rattle.words_script.specs.Tree.{block_of}
use Rattle.words_script.specs.declared.body.Step.{Step}
use Rattle.words_script.specs.declared.body.Step.TheVariants as steps
use Rattle.words_script.specs.declared.decl.Decl.{Decl}
use Rattle.words_script.specs.declared.decl.Decl.TheVariants.{Named, Action}
use Rattle.script_table.specs.declared.form.Form.{Form}
use Rattle.script_table.specs.declared.form.Form.TheVariants as form
use Rattle.script_table.specs.declared.form.ObjectForm.{ObjectForm}
use Rattle.script_table.specs.declared.form.ObjectForm.TheVariants as object
use Rattle.script_table.specs.declared.form.ActionForm.{ActionForm}
use Rattle.script_table.specs.declared.form.ActionForm.TheVariants as action
use Rattle.script_table.specs.declared.form.BodyForm.{BodyForm}
use Rattle.script_table.specs.declared.form.BodyForm.TheVariants as body
use Rattle.script_table.specs.declared.pattern.Bar.{Bar}
use Rattle.words_script.specs.declared.name_kind.NameKind.{NameKind}
use Rattle.words_script.specs.declared.name_kind.NameKind.TheVariants.{Handler}
use Rattle.script_table.specs.Words.{value_of}
use Rattle.script_table.specs.Ranges.{word, server_faults, object_kind}
use Rattle.script_table.specs.Structure.{not_here, body_kind}
use Rattle.script_table.specs.Names.{Entry}
use Rattle.script_table.specs.Operands.{signal_at, named_at}
use Rattle.script_table.specs.Calls.{call_of}
use Rattle.script_table.specs.Meaning.{object_decl, action_decl, runs, ignores, body_decl, plain_step, block_step, runs_cleanup}
use Rattle.script_table.specs.Build.{Opened, Built, put_step, close_one, closed, after_form}
use Rattle.words_script.specs.Kinds.{kind_of, same_kind}
use Rattle.script_writer.specs.Names.{names_of}
use Rattle.laws_canonical_text.proofs.Declares.{declared_kind}
use Rattle.laws_canonical_text.proofs.Forms.{places_of}
use Rattle.laws_canonical_text.proofs.Shape.{padded, Holds, first, rest}
use Rattle.laws_canonical_text.proofs.Shown.{Shows, server_fits}
use Rattle.laws_canonical_text.proofs.Stack.{IsInner, Stack, openings_of, outside}
use Rattle.laws_canonical_text.proofs.Printed.{Told, told_padded, empty_nil}

-- the name that a line declares, where it is of this kind
abbrev pub kind_names : NameKind → Option NameKind → List (List ℕ) → List (List ℕ)
kind_names wanted None words = []
kind_names wanted (Some k) words = if same_kind k wanted then first (rest words) ∷ [] else []

object_named : (es : List Entry) (ds : List Decl) (wanted : NameKind) (f : ObjectForm) (ws : List (List ℕ)) → Holds (Shows es ds) (places_of (form.Object f)) ws
    → names_of wanted (option_to_list (object_decl f (padded (places_of (form.Object f)) ws))) ≡ kind_names wanted (Some (object_kind f)) (padded (places_of (form.Object f)) ws)
object_named es ds wanted object.MutexNone ws h = rw h.1.0 refl
object_named es ds wanted object.MutexNoneRecursive ws h = rw h.1.0 refl
object_named es ds wanted object.MutexInherit ws h = rw h.1.0 refl
object_named es ds wanted object.MutexInheritRecursive ws h = rw h.1.0 refl
object_named es ds wanted object.MutexProtect ws h = rw (h.1.0, h.1.1.1.0) refl
object_named es ds wanted object.MutexProtectRecursive ws h = rw (h.1.0, h.1.1.1.0) refl
object_named es ds wanted object.Cond ws h = rw h.1.0 refl
object_named es ds wanted object.Sem ws h = rw (h.1.0, h.1.1.0) refl
object_named es ds wanted object.Queue ws h = rw (h.1.0, h.1.1.0, h.1.1.1.0) refl
object_named es ds wanted object.QueueNonblock ws h = rw (h.1.0, h.1.1.0, h.1.1.1.0) refl
object_named es ds wanted object.Timer ws h = rw (h.1.0, h.1.1.0.found, h.1.1.1.0) refl
object_named es ds wanted object.TimerReal ws h = rw (h.1.0, h.1.1.0.found, h.1.1.1.0) refl

body_named : (es : List Entry) (ds : List Decl) (wanted : NameKind) (steps : Block) (f : BodyForm) (ws : List (List ℕ)) → Holds (Shows es ds) (places_of (form.Body f)) ws → server_faults (form.Body f) (padded (places_of (form.Body f)) ws) ≡ []
    → names_of wanted (option_to_list (body_decl f (padded (places_of (form.Body f)) ws) steps)) ≡ kind_names wanted (Some (body_kind f)) (padded (places_of (form.Body f)) ws)
body_named es ds wanted steps body.FifoAt ws h e = rw (h.1.0, h.1.1.1.0, h.1.1.1.1.1.0) refl
body_named es ds wanted steps body.FifoDormant ws h e = rw (h.1.0, h.1.1.1.0) refl
body_named es ds wanted steps body.RrAt ws h e = rw (h.1.0, h.1.1.1.0, h.1.1.1.1.1.0) refl
body_named es ds wanted steps body.RrDormant ws h e = rw (h.1.0, h.1.1.1.0) refl
body_named es ds wanted steps body.SporadicAt ws h e =
    let s = server_fits (value_of (word 3 (padded (places_of (form.Body body.SporadicAt)) ws))) (value_of (word 4 (padded (places_of (form.Body body.SporadicAt)) ws))) (value_of (word 5 (padded (places_of (form.Body body.SporadicAt)) ws))) (value_of (word 6 (padded (places_of (form.Body body.SporadicAt)) ws))) (value_of (word 7 (padded (places_of (form.Body body.SporadicAt)) ws))) h.1.1.1.0 h.1.1.1.1.0 h.1.1.1.1.1.0 h.1.1.1.1.1.1.0 h.1.1.1.1.1.1.1.0 e in
    rw (h.1.0, h.1.1.1.0, h.1.1.1.1.0, h.1.1.1.1.1.0, h.1.1.1.1.1.1.0, h.1.1.1.1.1.1.1.1.1.0, s.pending, s.order) refl
body_named es ds wanted steps body.StrictAt ws h e =
    let s = server_fits (value_of (word 3 (padded (places_of (form.Body body.StrictAt)) ws))) (value_of (word 4 (padded (places_of (form.Body body.StrictAt)) ws))) (value_of (word 5 (padded (places_of (form.Body body.StrictAt)) ws))) (value_of (word 6 (padded (places_of (form.Body body.StrictAt)) ws))) (value_of (word 7 (padded (places_of (form.Body body.StrictAt)) ws))) h.1.1.1.0 h.1.1.1.1.0 h.1.1.1.1.1.0 h.1.1.1.1.1.1.0 h.1.1.1.1.1.1.1.0 e in
    rw (h.1.0, h.1.1.1.0, h.1.1.1.1.0, h.1.1.1.1.1.0, h.1.1.1.1.1.1.0, h.1.1.1.1.1.1.1.1.1.0, s.pending, s.order) refl
body_named es ds wanted steps body.SporadicDormant ws h e =
    let s = server_fits (value_of (word 3 (padded (places_of (form.Body body.SporadicDormant)) ws))) (value_of (word 4 (padded (places_of (form.Body body.SporadicDormant)) ws))) (value_of (word 5 (padded (places_of (form.Body body.SporadicDormant)) ws))) (value_of (word 6 (padded (places_of (form.Body body.SporadicDormant)) ws))) (value_of (word 7 (padded (places_of (form.Body body.SporadicDormant)) ws))) h.1.1.1.0 h.1.1.1.1.0 h.1.1.1.1.1.0 h.1.1.1.1.1.1.0 h.1.1.1.1.1.1.1.0 e in
    rw (h.1.0, h.1.1.1.0, h.1.1.1.1.0, h.1.1.1.1.1.0, h.1.1.1.1.1.1.0, s.pending, s.order) refl
body_named es ds wanted steps body.StrictDormant ws h e =
    let s = server_fits (value_of (word 3 (padded (places_of (form.Body body.StrictDormant)) ws))) (value_of (word 4 (padded (places_of (form.Body body.StrictDormant)) ws))) (value_of (word 5 (padded (places_of (form.Body body.StrictDormant)) ws))) (value_of (word 6 (padded (places_of (form.Body body.StrictDormant)) ws))) (value_of (word 7 (padded (places_of (form.Body body.StrictDormant)) ws))) h.1.1.1.0 h.1.1.1.1.0 h.1.1.1.1.1.0 h.1.1.1.1.1.1.0 h.1.1.1.1.1.1.1.0 e in
    rw (h.1.0, h.1.1.1.0, h.1.1.1.1.0, h.1.1.1.1.1.0, h.1.1.1.1.1.1.0, s.pending, s.order) refl
body_named es ds wanted steps body.Handler ws h e = rw h.1.0 refl
body_named es ds wanted steps body.Cleanup ws h e = rw h.1.0 refl

-- a line that declares a name is told
abbrev pub Naming : Form → List (List ℕ) → Type 0
Naming (form.Object f) words = Told [] [] (form.Object f) words
Naming (form.Body f) words = Told [] [] (form.Body f) words
Naming other words = Unit {0}

abbrev pub open_names : NameKind → List Opened → List (List ℕ)
open_names wanted [] = []
open_names wanted (o ∷ blocks) = open_names wanted blocks ++ kind_names wanted (declared_kind o.form) o.words

abbrev pub names_so_far : NameKind → Built → List (List ℕ)
names_so_far wanted b = names_of wanted b.decls ++ open_names wanted b.blocks

onto_more : (b : Bool) (name : List ℕ) (front back all : List (List ℕ)) → all ≡ front ++ back → (if b then name ∷ all else all) ≡ (if b then name ∷ front else front) ++ back
onto_more true name front back all e = ap (λ x. name ∷ x) e
onto_more false name front back all e = e

names_of_more : (wanted : NameKind) (xs ys : List Decl) → names_of wanted (xs ++ ys) ≡ names_of wanted xs ++ names_of wanted ys
names_of_more wanted [] ys = refl
names_of_more wanted (Named name kind ∷ xs) ys = onto_more (same_kind (kind_of kind) wanted) name (names_of wanted xs) (names_of wanted ys) (names_of wanted (xs ++ ys)) (names_of_more wanted xs ys)
names_of_more wanted (Action sig handler ∷ xs) ys = names_of_more wanted xs ys

decl_names_more : (wanted : NameKind) (xs : List Decl) (d : Option Decl) (blocks : List Opened) (names : List (List ℕ)) → blocks ≡ [] → names_of wanted (option_to_list d) ≡ names
    → names_of wanted (xs ++ option_to_list d) ++ open_names wanted blocks ≡ (names_of wanted xs ++ open_names wanted blocks) ++ names
decl_names_more wanted xs d blocks names none e =
    let before : List (List ℕ) = names_of wanted xs in
    ap (λ bs. names_of wanted (xs ++ option_to_list d) ++ open_names wanted bs) none
    ∙ (append-nil (names_of wanted (xs ++ option_to_list d))
    ∙ (names_of_more wanted xs (option_to_list d) ∙ (ap (λ l. before ++ l) e
    ∙ (ap (λ l. l ++ names) (sym (append-nil before)) ∙ ap (λ bs. (before ++ open_names wanted bs) ++ names) (sym none)))))

put_names : (wanted : NameKind) (s : Option Step) (blocks : List Opened) → open_names wanted (put_step s blocks) ≡ open_names wanted blocks
put_names wanted None blocks = refl
put_names wanted (Some s) [] = refl
put_names wanted (Some s) (o ∷ blocks) = refl

ignores_none : (wanted : NameKind) (sig : Option ℕ) → names_of wanted (option_to_list (ignores sig)) ≡ []
ignores_none wanted None = refl
ignores_none wanted (Some sig) = refl

runs_none : (wanted : NameKind) (sig handler : Option ℕ) → names_of wanted (option_to_list (runs sig handler)) ≡ []
runs_none wanted None handler = refl
runs_none wanted (Some sig) None = refl
runs_none wanted (Some sig) (Some h) = refl

action_none : (wanted : NameKind) (es : List Entry) (f : ActionForm) (words : List (List ℕ)) → names_of wanted (option_to_list (action_decl es f words)) ≡ []
action_none wanted es action.Ignore words = ignores_none wanted (signal_at 1 words)
action_none wanted es action.Run words = runs_none wanted (signal_at 1 words) (named_at Handler es 3 words)

close_names : (wanted : NameKind) (es : List Entry) (b : Built) (run : Bool) (f : Form) (words : List (List ℕ)) (ss : List Step) → IsInner f b.blocks → Naming f words
    → names_so_far wanted (close_one es b run f words ss) ≡ names_of wanted b.decls ++ (open_names wanted b.blocks ++ kind_names wanted (declared_kind f) words)
close_names wanted es b run (form.Body f) words ss within told =
    let d : Option Decl = body_decl f words (block_of ss) in
    let names : List (List ℕ) = kind_names wanted (Some (body_kind f)) words in
    let named : names_of wanted (option_to_list d) ≡ names =
    told_padded [] [] (λ w. names_of wanted (option_to_list (body_decl f w (block_of ss))) ≡ kind_names wanted (Some (body_kind f)) w) (form.Body f) words told
    (λ server. body_named [] [] wanted (block_of ss) f words told.shown server) in
    decl_names_more wanted b.decls d b.blocks names (empty_nil b.blocks within) named ∙ append_assoc (names_of wanted b.decls) (open_names wanted b.blocks) names
close_names wanted es b run (form.Block f) words ss within told =
    ap (λ x. names_of wanted b.decls ++ x) (put_names wanted (block_step es f words run (block_of ss)) b.blocks ∙ sym (append-nil (open_names wanted b.blocks)))
close_names wanted es b run other words ss within told = absurd within

closed_names : (wanted : NameKind) (es : List Entry) (b : Built) (run : Bool) (blocks : List Opened) → b.blocks ≡ blocks → Stack Naming blocks
    → names_so_far wanted (closed es b run blocks) ≡ names_of wanted b.decls ++ open_names wanted blocks
closed_names wanted es b run [] same stack = ap (λ bs. names_of wanted b.decls ++ open_names wanted bs) same
closed_names wanted es b run (o ∷ blocks) same stack = close_names wanted es (record b { blocks = blocks }) run o.form o.words o.steps stack.0 stack.1

-- the names after one more line
pub after_names : (wanted : NameKind) (es : List Entry) (b : Built) (f : Form) (bar : Bar) (words : List (List ℕ)) → Naming f words → Stack Naming b.blocks → not_here f bar (openings_of b.blocks) ≡ []
    → names_so_far wanted (after_form es b f words) ≡ names_so_far wanted b ++ kind_names wanted (declared_kind f) words
after_names wanted es b form.Quantum bar words told stack e = sym (append-nil (names_so_far wanted b))
after_names wanted es b (form.Object f) bar words told stack e =
    decl_names_more wanted b.decls (object_decl f words) b.blocks (kind_names wanted (Some (object_kind f)) words) (outside Naming b.blocks stack e)
    (told_padded [] [] (λ w. names_of wanted (option_to_list (object_decl f w)) ≡ kind_names wanted (Some (object_kind f)) w) (form.Object f) words told
    (λ server. object_named [] [] wanted f words told.shown))
after_names wanted es b (form.Action f) bar words told stack e =
    decl_names_more wanted b.decls (action_decl es f words) b.blocks [] (outside Naming b.blocks stack e) (action_none wanted es f words)
after_names wanted es b (form.Body f) bar words told stack e = sym (append_assoc (names_of wanted b.decls) (open_names wanted b.blocks) (kind_names wanted (Some (body_kind f)) words))
after_names wanted es b (form.Block f) bar words told stack e = sym (append_assoc (names_of wanted b.decls) (open_names wanted b.blocks) [])
after_names wanted es b (form.Step f) bar words told stack e =
    ap (λ x. names_of wanted b.decls ++ x) (put_names wanted (plain_step f words) b.blocks) ∙ sym (append-nil (names_so_far wanted b))
after_names wanted es b (form.Call f) bar words told stack e =
    ap (λ x. names_of wanted b.decls ++ x) (put_names wanted (option_map steps.Make (call_of es f words)) b.blocks) ∙ sym (append-nil (names_so_far wanted b))
after_names wanted es b (form.Close f) bar words told stack e = closed_names wanted es b (runs_cleanup f) b.blocks refl stack ∙ sym (append-nil (names_so_far wanted b))
