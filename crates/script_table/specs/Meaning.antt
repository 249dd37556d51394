-- What a line declares, and which step it is. This project's own.
use Rattle.std.specs.Prelude.{ℕ, Bool, true, false, List, Option, None, Some}
use Rattle.std.specs.Option.{option_map}
use Rattle.words_numbers.specs.declared.res.Res.{Res}
use Rattle.words_script.specs.Block.{Block}
use Rattle.words_script.specs.declared.body.Step.{Step}
use Rattle.words_script.specs.declared.body.Step.TheVariants as steps
use Rattle.words_script.specs.declared.policy.Policy.{Policy}
use Rattle.words_script.specs.declared.policy.Protocol.TheVariants.{Plain, Inherit, Protect}
use Rattle.words_script.specs.declared.decl.Kind.{Kind}
use Rattle.words_script.specs.declared.decl.Kind.TheVariants as kinds
use Rattle.words_script.specs.declared.decl.Decl.{Decl}
use Rattle.words_script.specs.declared.decl.Decl.TheVariants.{Named, Action}
use Rattle.script_table.specs.declared.form.ObjectForm.{ObjectForm}
use Rattle.script_table.specs.declared.form.ObjectForm.TheVariants as object
use Rattle.script_table.specs.declared.form.ActionForm.{ActionForm}
use Rattle.script_table.specs.declared.form.ActionForm.TheVariants as action
use Rattle.script_table.specs.declared.form.BodyForm.{BodyForm}
use Rattle.script_table.specs.declared.form.BodyForm.TheVariants as body
use Rattle.script_table.specs.declared.form.StepForm.{StepForm}
use Rattle.script_table.specs.declared.form.StepForm.TheVariants as step
use Rattle.script_table.specs.declared.form.BlockForm.{BlockForm}
use Rattle.script_table.specs.declared.form.BlockForm.TheVariants as block
use Rattle.script_table.specs.declared.form.CloseForm.{CloseForm}
use Rattle.script_table.specs.declared.form.CloseForm.TheVariants as close
use Rattle.words_script.specs.declared.name_kind.NameKind.TheVariants.{Handler, Cleanup}
use Rattle.script_table.specs.Patterns.{greatest}
use Rattle.script_table.specs.Names.{Entry}
use Rattle.script_table.specs.Operands.{map_two, number_in, amount_at, priority_at, answer_at, signal_at, name_at, named_at, fifo_at, rr_at, sporadic_at, strict_at}

-- a mutex of each protocol
abbrev pub protect : Bool → Option ℕ → Option Kind
protect recursive None = None
protect recursive (Some ceiling) = Some (kinds.Mutex (Protect ceiling) recursive)

abbrev pub queue : Bool → Option ℕ → Option ℕ → Option Kind
queue nonblock None max_len = None
queue nonblock (Some depth) None = None
queue nonblock (Some depth) (Some max_len) = Some (kinds.Queue depth max_len nonblock)

abbrev pub timer : Bool → Option ℕ → Option ℕ → Option Kind
timer real None value = None
timer real (Some sig) None = None
timer real (Some sig) (Some value) = Some (kinds.Timer sig value real)

-- what an object is
abbrev pub kind_of_object : ObjectForm → List (List ℕ) → Option Kind
kind_of_object object.MutexNone words = Some (kinds.Mutex Plain false)
kind_of_object object.MutexNoneRecursive words = Some (kinds.Mutex Plain true)
kind_of_object object.MutexInherit words = Some (kinds.Mutex Inherit false)
kind_of_object object.MutexInheritRecursive words = Some (kinds.Mutex Inherit true)
kind_of_object object.MutexProtect words = protect false (priority_at 3 words)
kind_of_object object.MutexProtectRecursive words = protect true (priority_at 3 words)
kind_of_object object.Cond words = Some kinds.Cond
kind_of_object object.Sem words = option_map kinds.Sem (number_in 0 32767 2 words)
kind_of_object object.Queue words = queue false (number_in 1 64 2 words) (number_in 1 65536 3 words)
kind_of_object object.QueueNonblock words = queue true (number_in 1 64 2 words) (number_in 1 65536 3 words)
kind_of_object object.Timer words = timer false (signal_at 2 words) (amount_at 3 words)
kind_of_object object.TimerReal words = timer true (signal_at 2 words) (amount_at 3 words)

abbrev pub object_decl : ObjectForm → List (List ℕ) → Option Decl
object_decl f words = map_two Named (name_at 1 words) (kind_of_object f words)

-- what a signal does
abbrev pub runs : Option ℕ → Option ℕ → Option Decl
runs None handler = None
runs (Some sig) None = None
runs (Some sig) (Some h) = Some (Action sig (Some h))

abbrev pub ignores : Option ℕ → Option Decl
ignores None = None
ignores (Some sig) = Some (Action sig None)

abbrev pub action_decl : List Entry → ActionForm → List (List ℕ) → Option Decl
action_decl es action.Ignore words = ignores (signal_at 1 words)
action_decl es action.Run words = runs (signal_at 1 words) (named_at Handler es 3 words)

-- a thread that starts at a tick, and one that is dormant
abbrev pub thread_at : Option Policy → Option ℕ → Block → Option Kind
thread_at None start body = None
thread_at (Some policy) None body = None
thread_at (Some policy) (Some start) body = Some (kinds.Thread policy (Some start) body)

abbrev pub thread_dormant : Option Policy → Block → Option Kind
thread_dormant None body = None
thread_dormant (Some policy) body = Some (kinds.Thread policy None body)

-- what has a body
abbrev pub kind_of_body : BodyForm → List (List ℕ) → Block → Option Kind
kind_of_body body.FifoAt words steps = thread_at (fifo_at 3 words) (amount_at 5 words) steps
kind_of_body body.FifoDormant words steps = thread_dormant (fifo_at 3 words) steps
kind_of_body body.RrAt words steps = thread_at (rr_at 3 words) (amount_at 5 words) steps
kind_of_body body.RrDormant words steps = thread_dormant (rr_at 3 words) steps
kind_of_body body.SporadicAt words steps = thread_at (sporadic_at words) (amount_at 9 words) steps
kind_of_body body.SporadicDormant words steps = thread_dormant (sporadic_at words) steps
kind_of_body body.StrictAt words steps = thread_at (strict_at words) (amount_at 9 words) steps
kind_of_body body.StrictDormant words steps = thread_dormant (strict_at words) steps
kind_of_body body.Handler words steps = Some (kinds.Handler steps)
kind_of_body body.Cleanup words steps = Some (kinds.Cleanup steps)

abbrev pub body_decl : BodyForm → List (List ℕ) → Block → Option Decl
body_decl f words steps = map_two Named (name_at 1 words) (kind_of_body f words steps)

-- a step without a block that is no call
abbrev pub plain_step : StepForm → List (List ℕ) → Option Step
plain_step step.Run words = option_map steps.Run (number_in 1 greatest 1 words)
plain_step step.Set words = option_map steps.Set (amount_at 1 words)
plain_step step.Add words = option_map steps.Add (amount_at 1 words)
plain_step step.Take words = Some steps.Take

-- whether the cleanup handler runs where its block is closed
abbrev pub runs_cleanup : CloseForm → Bool
runs_cleanup close.PopRun = true
runs_cleanup other = false

-- a step with a block
abbrev pub test : Bool → Block → Option Res → Option Step
test equal body None = None
test equal body (Some res) = Some (steps.Test res equal body)

abbrev pub repeat : Block → Option ℕ → Option Step
repeat body None = None
repeat body (Some times) = Some (steps.Loop (Some times) body)

abbrev pub guard : Bool → Block → Option ℕ → Option Step
guard run body None = None
guard run body (Some cleanup) = Some (steps.Guard cleanup body run)

abbrev pub block_step : List Entry → BlockForm → List (List ℕ) → Bool → Block → Option Step
block_step es block.If words run body = test true body (answer_at 1 words)
block_step es block.Unless words run body = test false body (answer_at 1 words)
block_step es block.Loop words run body = repeat body (number_in 1 greatest 1 words)
block_step es block.Forever words run body = Some (steps.Loop None body)
block_step es block.Push words run body = guard run body (named_at Cleanup es 1 words)
