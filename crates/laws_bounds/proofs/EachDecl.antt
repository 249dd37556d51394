-- What holds of each declaration of a script that statements say. `Says` asks of the lines, form by form, what each adds: to a body,
-- where B is kept by one more step, and to the declarations, each of which has D. Nothing here depends on B or D.
use Rattle.std.proofs.Common.{ℕ, List, [], ◌∷◌, ◌++◌, Option, None, Some, Bool, sym, subst, append-nil}
use Rattle.std.specs.Prelude.{option_to_list}
use Rattle.std.specs.Option.{IfSome, option_map}
use Rattle.words_script.specs.Block.{Block, Nothing}
use Rattle.words_script.specs.Tree.{block_of}
use Rattle.words_script.specs.declared.body.Step.{Step}
use Rattle.words_script.specs.declared.body.Step.TheVariants.{Make}
use Rattle.words_script.specs.declared.call.Call.{Call}
use Rattle.words_script.specs.declared.decl.Decl.{Decl}
use Rattle.script_table.specs.declared.form.Form.{Form}
use Rattle.script_table.specs.declared.form.Form.TheVariants as form
use Rattle.script_table.specs.declared.form.ObjectForm.{ObjectForm}
use Rattle.script_table.specs.declared.form.ActionForm.{ActionForm}
use Rattle.script_table.specs.declared.form.BodyForm.{BodyForm}
use Rattle.script_table.specs.declared.form.StepForm.{StepForm}
use Rattle.script_table.specs.declared.form.BlockForm.{BlockForm}
use Rattle.script_table.specs.declared.form.CallForm.{CallForm}
use Rattle.script_table.specs.Structure.{Said}
use Rattle.script_table.specs.Names.{Entry}
use Rattle.script_table.specs.Calls.{call_of}
use Rattle.script_table.specs.Meaning.{object_decl, action_decl, body_decl, plain_step, block_step, runs_cleanup}
use Rattle.script_table.specs.Build.{Opened, Built, put_step, close_one, closed, after_form, after, nothing_built, built_from}

-- P of each element, from the first on
abbrev pub Each : {A : Type 0} → (A → Type 0) → List A → Type 0
Each P [] = Unit {0}
Each P (x ∷ xs) = P x × Each P xs

pub each_more : {A : Type 0} (P : A → Type 0) (xs : List A) (x : A) → Each P xs → P x → Each P (xs ++ x ∷ [])
each_more P [] x all h = (h, tt)
each_more P (y ∷ xs) x all h = (all.0, each_more P xs x all.1 h)

pub each_weaker : {A : Type 0} (P Q : A → Type 0) → ((x : A) → P x → Q x) → (xs : List A) → Each P xs → Each Q xs
each_weaker P Q weaker [] all = tt
each_weaker P Q weaker (x ∷ xs) all = (weaker x all.0, each_weaker P Q weaker xs all.1)

-- a body of one step
abbrev pub OfStep : (Block → Type 0) → Step → Type 0
OfStep B s = B (block_of (s ∷ []))

-- what each line adds, where its form is one of these
pub record SaysBy (Allowed : Form → Type 0) (es : List Entry) (B : Block → Type 0) (D : Decl → Type 0) : Type 0 where
  pub none : B Nothing
  pub more : (steps : List Step) (s : Step) → B (block_of steps) → OfStep B s → B (block_of (steps ++ s ∷ []))
  pub step : (f : StepForm) (words : List (List ℕ)) → IfSome (plain_step f words) (OfStep B)
  pub call : (f : CallForm) (words : List (List ℕ)) → Allowed (form.Call f) → IfSome (call_of es f words) (λ c. OfStep B (Make c))
  pub block : (f : BlockForm) (words : List (List ℕ)) (run : Bool) (body : Block) → B body → IfSome (block_step es f words run body) (OfStep B)
  pub object : (f : ObjectForm) (words : List (List ℕ)) → IfSome (object_decl f words) D
  pub action : (f : ActionForm) (words : List (List ℕ)) → IfSome (action_decl es f words) D
  pub body : (f : BodyForm) (words : List (List ℕ)) (steps : Block) → Allowed (form.Body f) → B steps → IfSome (body_decl f words steps) D

abbrev Any : Form → Type 0
Any f = Unit {0}

-- of any form
abbrev pub Says : List Entry → (Block → Type 0) → (Decl → Type 0) → Type 0
Says es B D = SaysBy Any es B D

made : (P : Step → Type 0) (o : Option Call) → IfSome o (λ c. P (Make c)) → IfSome (option_map Make o) P
made P None h = tt
made P (Some c) h = h

module _ (Allowed : Form → Type 0) (es : List Entry) (B : Block → Type 0) (D : Decl → Type 0) (says : SaysBy Allowed es B D) where
  abbrev IsOpen : Opened → Type 0
  IsOpen o = Allowed o.form × B (block_of o.steps)

  -- of what is built so far
  record Holds (b : Built) : Type 0 where
    blocks : Each IsOpen b.blocks
    decls : Each D b.decls

  put_holds : (s : Option Step) (blocks : List Opened) → IfSome s (OfStep B) → Each IsOpen blocks → Each IsOpen (put_step s blocks)
  put_holds None blocks h all = all
  put_holds (Some s) [] h all = all
  put_holds (Some s) (o ∷ blocks) h all = ((all.0.0, says.more o.steps s all.0.1 h), all.1)

  decl_holds : (d : Option Decl) (ds : List Decl) → IfSome d D → Each D ds → Each D (ds ++ option_to_list d)
  decl_holds None ds h all = subst (Each D) (sym (append-nil ds)) all
  decl_holds (Some d) ds h all = each_more D ds d all h

  close_holds : (b : Built) (run : Bool) (f : Form) (words : List (List ℕ)) (steps : List Step) → Allowed f → B (block_of steps) → Holds b → Holds (close_one es b run f words steps)
  close_holds b run (form.Body f) words steps ok inside h =
      record { blocks = h.blocks; decls = decl_holds (body_decl f words (block_of steps)) b.decls (says.body f words (block_of steps) ok inside) h.decls }
  close_holds b run (form.Block f) words steps ok inside h =
      record { blocks = put_holds (block_step es f words run (block_of steps)) b.blocks (says.block f words run (block_of steps) inside) h.blocks; decls = h.decls }
  close_holds b run other words steps ok inside h = h

  closed_holds : (b : Built) (run : Bool) (blocks : List Opened) → Each IsOpen blocks → Holds b → Holds (closed es b run blocks)
  closed_holds b run [] all h = h
  closed_holds b run (o ∷ blocks) all h =
      close_holds (record b { blocks = blocks }) run o.form o.words o.steps all.0.0 all.0.1 (record { blocks = all.1; decls = h.decls })

  after_holds : (b : Built) (f : Form) (words : List (List ℕ)) → Allowed f → Holds b → Holds (after_form es b f words)
  after_holds b form.Quantum words ok h = record { blocks = h.blocks; decls = h.decls }
  after_holds b (form.Object f) words ok h = record { blocks = h.blocks; decls = decl_holds (object_decl f words) b.decls (says.object f words) h.decls }
  after_holds b (form.Action f) words ok h = record { blocks = h.blocks; decls = decl_holds (action_decl es f words) b.decls (says.action f words) h.decls }
  after_holds b (form.Body f) words ok h = record { blocks = ((ok, says.none), h.blocks); decls = h.decls }
  after_holds b (form.Block f) words ok h = record { blocks = ((ok, says.none), h.blocks); decls = h.decls }
  after_holds b (form.Step f) words ok h = record { blocks = put_holds (plain_step f words) b.blocks (says.step f words) h.blocks; decls = h.decls }
  after_holds b (form.Call f) words ok h =
      record { blocks = put_holds (option_map Make (call_of es f words)) b.blocks (made (OfStep B) (call_of es f words) (says.call f words ok)) h.blocks; decls = h.decls }
  after_holds b (form.Close f) words ok h = closed_holds b (runs_cleanup f) b.blocks h.blocks h

  abbrev pub AllAllowed : List Said → Type 0
  AllAllowed ss = Each (λ (s : Said). Allowed s.row.form) ss

  all_hold : (ss : List Said) (b : Built) → AllAllowed ss → Holds b → Holds (built_from es b ss)
  all_hold [] b ok h = h
  all_hold (s ∷ ss) b ok h = all_hold ss (after es b s) ok.1 (after_holds b s.row.form s.words ok.0 h)

  -- each declaration of the script has D, where the lines have allowed forms
  pub each_decl_by : (ss : List Said) → AllAllowed ss → Each D (built_from es nothing_built ss).decls
  each_decl_by ss ok = (all_hold ss nothing_built ok (record { blocks = tt; decls = tt })).decls

any_forms : (ss : List Said) → Each (λ (s : Said). Any s.row.form) ss
any_forms [] = tt
any_forms (s ∷ ss) = (tt, any_forms ss)

-- each declaration of the script has D
pub each_decl : (es : List Entry) (B : Block → Type 0) (D : Decl → Type 0) → Says es B D → (ss : List Said) → Each D (built_from es nothing_built ss).decls
each_decl es B D says ss = each_decl_by Any es B D says ss (any_forms ss)
