-- Whatever is read without a fault, the kernel can run.
use Rattle.std.proofs.Common.{ℕ, ◌≡◌, ◌≤◌, ◌<◌, List, Ok, Bool, length, sym, subst}
use Rattle.std.specs.Option.{IfSome}
use Rattle.words_script.specs.declared.body.Step.TheVariants.{Make}
use Rattle.words_script.specs.declared.call.Call.{Call}
use Rattle.words_script.specs.declared.call.Call.TheVariants.{Push, Pop}
use Rattle.words_script.specs.declared.decl.Decl.{Decl}
use Rattle.words_script.specs.declared.decl.Script.{Script}
use Rattle.script_table.specs.declared.form.BlockForm.{BlockForm}
use Rattle.script_table.specs.declared.form.BlockForm.TheVariants as block
use Rattle.script_table.specs.declared.form.CallForm.{CallForm}
use Rattle.words_script.specs.declared.name_kind.NameKind.TheVariants.{Cleanup, Handler, Queue, Timer}
use Rattle.script_table.specs.Structure.{Said}
use Rattle.script_table.specs.Table.{patterns}
use Rattle.script_table.specs.Names.{Entry, declared}
use Rattle.script_table.specs.Operands.{named_at}
use Rattle.script_table.specs.Calls.{call_of}
use Rattle.script_table.specs.Heading.{Beginning}
use Rattle.script_table.specs.Build.{script_of}
use Rattle.script_table.specs.Read.{said_in, read}
use Rattle.rules_machine.specs.Declarations.{handlers_of}
use Rattle.rules_flat_code.specs.EachCall.{EachCall}
use Rattle.rules_flat_code.specs.KnownCalls.{KnowsObjects, objects_of}
use Rattle.rules_flat_code.specs.Runnable.{CallHasBudget, CallIsRunnable, IsRunnable}
use Rattle.laws_canonical_text.proofs.Accepted.{is_read}
use Rattle.laws_canonical_text.proofs.Again.{statements}
use Rattle.laws_canonical_text.proofs.Known.{AllKnown}
use Rattle.laws_canonical_text.proofs.Table.{the_table}
use Rattle.laws_bounds.proofs.Bounds.{IsBounded, read_is_bounded}
use Rattle.laws_bounds.proofs.Calls.{objects_by, Fits, call_fits}
use Rattle.laws_bounds.proofs.Declared.{DeclRuns, object_runs, action_runs, body_runs, all_actions, all_bodies, all_budgets, all_signals, all_values}
use Rattle.laws_bounds.proofs.EachBody.{Guards, OneStep, more_calls, plain_calls, GuardsBy, block_calls}
use Rattle.laws_bounds.proofs.EachDecl.{Each, Says, each_decl}
use Rattle.laws_bounds.proofs.Objects.{declared_count, declared_few, all_below, handlers, objects_same, queues, timers}
use Rattle.laws_bounds.proofs.Operands.{weaker, AllBelow, named_within}

module _ (script : Script) (es : List Entry) (below : AllBelow (declared_count script.decls) es) where
  abbrev Runs : Call → Type 0
  Runs c = CallIsRunnable (objects_of script) c

  runs : (c : Call) → KnowsObjects (objects_by (declared_count script.decls)) c → CallHasBudget c → Runs c
  runs c known budget = record { objects = subst (λ o. KnowsObjects o c) (objects_same script) known; budget = budget }

  call_runs : (f : CallForm) (words : List (List ℕ)) → IfSome (call_of es f words) (λ c. OneStep Runs (Make c))
  call_runs f words =
      weaker (Fits (declared_count script.decls)) (λ c. OneStep Runs (Make c)) (λ c h. (runs c h.0 h.1, tt))
      (call_of es f words) (call_fits (declared_count script.decls) es below words f)

  block_runs : (f : BlockForm) (words : List (List ℕ)) (run : Bool) → GuardsBy Runs es f words run
  block_runs block.Push words run =
      weaker (λ u. u < declared_count script.decls Cleanup) (Guards Runs run) (λ u h. (runs (Push u) h tt, runs (Pop run) tt tt))
      (named_at Cleanup es 1 words) (named_within (declared_count script.decls) es below Cleanup 1 words)
  block_runs other words run = tt

  handler_known : (words : List (List ℕ)) → IfSome (named_at Handler es 3 words) (λ h. h < length (handlers_of script))
  handler_known words =
      subst (λ n. IfSome (named_at Handler es 3 words) (λ h. h < n)) (handlers script.decls) (named_within (declared_count script.decls) es below Handler 3 words)

  lines_run : Says es (EachCall Runs) (DeclRuns (length (handlers_of script)) Runs)
  lines_run = record {
    none = tt;
    more = more_calls Runs;
    step = plain_calls Runs;
    call = λ f words any. call_runs f words;
    block = λ f words run body inside. block_calls Runs es f words run body (block_runs f words run) inside;
    object = object_runs (length (handlers_of script)) Runs;
    action = λ f words. action_runs (length (handlers_of script)) Runs es f words (handler_known words);
    body = λ f words steps any inside. body_runs (length (handlers_of script)) Runs f words steps inside;
  }

decls_run : (script : Script) (es : List Entry) → IsBounded 256 script → AllKnown es script.decls → Each (DeclRuns (length (handlers_of script)) (CallIsRunnable (objects_of script))) script.decls
    → IsRunnable script
decls_run script es bounded known all =
    let ds : List Decl = script.decls in
    let n : ℕ = length (handlers_of script) in
    record {
      few = bounded.few;
      flattenable = bounded.flattenable;
      calls = all_bodies n (CallIsRunnable (objects_of script)) ds all;
      handlers = all_actions n (CallIsRunnable (objects_of script)) ds all;
      budgets = all_budgets n (CallIsRunnable (objects_of script)) ds all;
      values = all_values n (CallIsRunnable (objects_of script)) ds all;
      few_queues = subst (λ k. k ≤ 16) (queues ds) (declared_few es ds known Queue);
      few_timers = subst (λ k. k ≤ 32) (timers ds) (declared_few es ds known Timer);
      signals = all_signals n (CallIsRunnable (objects_of script)) ds all;
    }

pub accepted_can_be_run : (text : List ℕ) (script : Script) → read patterns text ≡ Ok script → IsRunnable script
accepted_can_be_run text script e =
    let read' = is_read patterns the_table text script e in
    let b : Beginning = read'.part in
    let ss : List Said = said_in (patterns b.version) b in
    let es : List Entry = (declared ss).names in
    let own : Script = script_of b.version es ss in
    let means : own ≡ script = read'.means in
    let known : AllKnown es own.decls = (statements patterns the_table text script e).known in
    let below : AllBelow (declared_count own.decls) es = all_below es own.decls known in
    let all : Each (DeclRuns (length (handlers_of own)) (CallIsRunnable (objects_of own))) own.decls =
    each_decl es (EachCall (CallIsRunnable (objects_of own))) (DeclRuns (length (handlers_of own)) (CallIsRunnable (objects_of own))) (lines_run own es below) ss in
    subst IsRunnable means (decls_run own es (subst (IsBounded 256) (sym means) (read_is_bounded patterns text script e)) known all)
