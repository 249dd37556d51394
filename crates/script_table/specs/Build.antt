-- The script that statements say. This project's own.
use Rattle.std.specs.Prelude.{ℕ, Bool, List, [], ◌∷◌, ◌++◌, Option, None, Some, unwrap_or, option_to_list}
use Rattle.std.specs.Option.{option_map}
use Rattle.words_script.specs.Tree.{block_of}
use Rattle.words_script.specs.declared.body.Step.{Step}
use Rattle.words_script.specs.declared.body.Step.TheVariants.{Make}
use Rattle.words_script.specs.declared.decl.Decl.{Decl}
use Rattle.words_script.specs.declared.decl.Script.{Script}
use Rattle.script_table.specs.declared.form.Form.{Form}
use Rattle.script_table.specs.declared.form.Form.TheVariants as form
use Rattle.script_table.specs.declared.version.Version.{Version}
use Rattle.script_table.specs.Versions.{version_number}
use Rattle.script_table.specs.Patterns.{greatest}
use Rattle.script_table.specs.Structure.{Said}
use Rattle.script_table.specs.Names.{Entry}
use Rattle.script_table.specs.Operands.{number_in}
use Rattle.script_table.specs.Calls.{call_of}
use Rattle.script_table.specs.Meaning.{object_decl, action_decl, body_decl, plain_step, block_step, runs_cleanup}

-- a body or block that is open, with its steps so far
pub record Opened : Type 0 where
  pub form : Form
  pub words : List (List ℕ)
  pub steps : List Step

-- the quantum, what is open, the innermost first, and what is declared so far
pub record Built : Type 0 where
  pub quantum : ℕ
  pub blocks : List Opened
  pub decls : List Decl

-- with one more step in the innermost
abbrev pub put_step : Option Step → List Opened → List Opened
put_step None blocks = blocks
put_step (Some s) [] = []
put_step (Some s) (o ∷ blocks) = record o { steps = o.steps ++ s ∷ [] } ∷ blocks

abbrev pub with_decl : Built → Option Decl → Built
with_decl b d = record b { decls = b.decls ++ option_to_list d }

abbrev pub with_step : Built → Option Step → Built
with_step b s = record b { blocks = put_step s b.blocks }

-- a body that is closed is a declaration, and a block that is closed a step of what it stands in
abbrev pub close_one : List Entry → Built → Bool → Form → List (List ℕ) → List Step → Built
close_one es b run (form.Body f) words steps = with_decl b (body_decl f words (block_of steps))
close_one es b run (form.Block f) words steps = with_step b (block_step es f words run (block_of steps))
close_one es b run other words steps = b

-- the innermost is closed
abbrev pub closed : List Entry → Built → Bool → List Opened → Built
closed es b run [] = b
closed es b run (o ∷ blocks) = close_one es (record b { blocks = blocks }) run o.form o.words o.steps

abbrev pub opens : Built → Form → List (List ℕ) → Built
opens b form words = record b { blocks = record { form = form; words = words; steps = [] } ∷ b.blocks }

-- after one more line
abbrev pub after_form : List Entry → Built → Form → List (List ℕ) → Built
after_form es b form.Quantum words = record b { quantum = unwrap_or (number_in 1 greatest 1 words) b.quantum }
after_form es b (form.Object f) words = with_decl b (object_decl f words)
after_form es b (form.Action f) words = with_decl b (action_decl es f words)
after_form es b (form.Body f) words = opens b (form.Body f) words
after_form es b (form.Block f) words = opens b (form.Block f) words
after_form es b (form.Step f) words = with_step b (plain_step f words)
after_form es b (form.Call f) words = with_step b (option_map Make (call_of es f words))
after_form es b (form.Close f) words = closed es b (runs_cleanup f) b.blocks

abbrev pub after : List Entry → Built → Said → Built
after es b s = after_form es b s.row.form s.words

-- the quantum is 10 ticks where no line sets it
abbrev pub nothing_built : Built
nothing_built = record { quantum = 10; blocks = []; decls = [] }

-- after all lines
abbrev pub built_from : List Entry → Built → List Said → Built
built_from es b [] = b
built_from es b (s ∷ ss) = built_from es (after es b s) ss

abbrev pub script_of_built : Version → Built → Script
script_of_built version b = record { version = version_number version; quantum = b.quantum; decls = b.decls }

-- what the lines of a text of this version say
abbrev pub script_of : Version → List Entry → List Said → Script
script_of version es ss = script_of_built version (built_from es nothing_built ss)
