-- What a line declares can be run, and what follows of all that is declared.
use Rattle.std.proofs.Common.{ℕ, ◌≤◌, ◌<◌, List, [], ◌∷◌, Option, None, Some, Bool, true, false}
use Rattle.std.specs.Prelude.{All, filter_map}
use Rattle.std.specs.Option.{IfSome}
use Rattle.std.proofs.lemmas.List.Elements.{All-nil, All-cons}
use Rattle.words_script.specs.Block.{Block}
use Rattle.words_script.specs.declared.call.Call.{Call}
use Rattle.words_script.specs.declared.policy.Policy.{Policy}
use Rattle.words_script.specs.declared.decl.Kind.{Kind}
use Rattle.words_script.specs.declared.decl.Kind.TheVariants as kinds
use Rattle.words_script.specs.declared.decl.Decl.{Decl}
use Rattle.words_script.specs.declared.decl.Decl.TheVariants.{Named, Action}
use Rattle.rules_bodies.specs.Flat.{bodies_of}
use Rattle.script_table.specs.declared.form.ObjectForm.{ObjectForm}
use Rattle.script_table.specs.declared.form.ObjectForm.TheVariants as object
use Rattle.script_table.specs.declared.form.ActionForm.{ActionForm}
use Rattle.script_table.specs.declared.form.ActionForm.TheVariants as action
use Rattle.script_table.specs.declared.form.BodyForm.{BodyForm}
use Rattle.script_table.specs.declared.form.BodyForm.TheVariants as body
use Rattle.words_script.specs.declared.name_kind.NameKind.TheVariants.{Handler}
use Rattle.script_table.specs.Names.{Entry}
use Rattle.script_table.specs.Operands.{map_two, number_in, amount_at, priority_at, signal_at, name_at, named_at, fifo_at, rr_at, sporadic_at, strict_at}
use Rattle.script_table.specs.Meaning.{protect, queue, kind_of_object, object_decl, ignores, runs, action_decl, thread_at, thread_dormant, kind_of_body, body_decl, timer}
use Rattle.rules_machine.specs.Declarations.{ThreadDecl, declared_thread}
use Rattle.rules_machine.specs.Semaphores.{semaphore_limit}
use Rattle.rules_flat_code.specs.EachCall.{EachCall}
use Rattle.rules_flat_code.specs.KnownCalls.{IsSignal}
use Rattle.rules_flat_code.specs.Runnable.{ActionNames, HasBudget, HasSignal, HasValue}
use Rattle.laws_bounds.proofs.Bodies.{BodyHas, bodies_have}
use Rattle.laws_bounds.proofs.EachDecl.{Each, each_weaker}
use Rattle.laws_bounds.proofs.Operands.{IsFrom, mapped, mapped_two, number_within, signal_within, Any, anything, fifo_within, rr_within, sporadic_within, strict_within}

-- P holds of each call of a body, a thread's policy has a budget, a semaphore a value, and a timer a signal
abbrev pub KindRuns : (Call → Type 0) → Kind → Type 0
KindRuns P (kinds.Thread policy start steps) = HasBudget policy × EachCall P steps
KindRuns P (kinds.Handler steps) = EachCall P steps
KindRuns P (kinds.Cleanup steps) = EachCall P steps
KindRuns P (kinds.Sem value) = value ≤ semaphore_limit
KindRuns P (kinds.Timer sig value real) = IsSignal sig
KindRuns P other = Unit {0}

-- the handler of an action is one of so many
abbrev pub DeclRuns : ℕ → (Call → Type 0) → Decl → Type 0
DeclRuns handlers P (Named name kind) = KindRuns P kind
DeclRuns handlers P (Action sig None) = Unit {0}
DeclRuns handlers P (Action sig (Some h)) = h < handlers

module _ (handlers : ℕ) (P : Call → Type 0) where
  abbrev Runs : Decl → Type 0
  Runs d = DeclRuns handlers P d

  abbrev KindOf : Kind → Type 0
  KindOf k = KindRuns P k

  -- what each line declares
  named_runs : (name : Option (List ℕ)) (k : Option Kind) → IfSome k KindOf → IfSome (map_two Named name k) Runs
  named_runs name k h = mapped_two Any KindOf Runs Named (λ name kind any runs. runs) name k (anything name) h

  protect_runs : (recursive : Bool) (o : Option ℕ) → IfSome (protect recursive o) KindOf
  protect_runs recursive None = tt
  protect_runs recursive (Some ceiling) = tt

  queue_runs : (nonblock : Bool) (o p : Option ℕ) → IfSome (queue nonblock o p) KindOf
  queue_runs nonblock None p = tt
  queue_runs nonblock (Some depth) None = tt
  queue_runs nonblock (Some depth) (Some longest) = tt

  timer_runs : (real : Bool) (o p : Option ℕ) → IfSome o IsSignal → IfSome (timer real o p) KindOf
  timer_runs real None p small = tt
  timer_runs real (Some sig) None small = tt
  timer_runs real (Some sig) (Some value) small = small

  kind_runs : (f : ObjectForm) (words : List (List ℕ)) → IfSome (kind_of_object f words) KindOf
  kind_runs object.MutexNone words = tt
  kind_runs object.MutexNoneRecursive words = tt
  kind_runs object.MutexInherit words = tt
  kind_runs object.MutexInheritRecursive words = tt
  kind_runs object.MutexProtect words = protect_runs false (priority_at 3 words)
  kind_runs object.MutexProtectRecursive words = protect_runs true (priority_at 3 words)
  kind_runs object.Cond words = tt
  kind_runs object.Sem words = mapped (IsFrom 0 32767) KindOf kinds.Sem (λ n from. from.1) (number_in 0 32767 2 words) (number_within 0 32767 2 words)
  kind_runs object.Queue words = queue_runs false (number_in 1 64 2 words) (number_in 1 65536 3 words)
  kind_runs object.QueueNonblock words = queue_runs true (number_in 1 64 2 words) (number_in 1 65536 3 words)
  kind_runs object.Timer words = timer_runs false (signal_at 2 words) (amount_at 3 words) (signal_within 2 words)
  kind_runs object.TimerReal words = timer_runs true (signal_at 2 words) (amount_at 3 words) (signal_within 2 words)

  pub object_runs : (f : ObjectForm) (words : List (List ℕ)) → IfSome (object_decl f words) Runs
  object_runs f words = named_runs (name_at 1 words) (kind_of_object f words) (kind_runs f words)

  ignores_runs : (o : Option ℕ) → IfSome (ignores o) Runs
  ignores_runs None = tt
  ignores_runs (Some sig) = tt

  handles_runs : (o p : Option ℕ) → IfSome p (λ h. h < handlers) → IfSome (runs o p) Runs
  handles_runs None p known = tt
  handles_runs (Some sig) None known = tt
  handles_runs (Some sig) (Some h) known = known

  -- the name of an action's handler has a number below how many handlers there are
  pub action_runs : (es : List Entry) (f : ActionForm) (words : List (List ℕ)) → IfSome (named_at Handler es 3 words) (λ h. h < handlers) → IfSome (action_decl es f words) Runs
  action_runs es action.Ignore words known = ignores_runs (signal_at 1 words)
  action_runs es action.Run words known = handles_runs (signal_at 1 words) (named_at Handler es 3 words) known

  at_runs : (policy : Option Policy) (start : Option ℕ) (steps : Block) → EachCall P steps → IfSome policy HasBudget → IfSome (thread_at policy start steps) KindOf
  at_runs None start steps inside budget = tt
  at_runs (Some policy) None steps inside budget = tt
  at_runs (Some policy) (Some start) steps inside budget = (budget, inside)

  dormant_runs : (policy : Option Policy) (steps : Block) → EachCall P steps → IfSome policy HasBudget → IfSome (thread_dormant policy steps) KindOf
  dormant_runs None steps inside budget = tt
  dormant_runs (Some policy) steps inside budget = (budget, inside)

  own_kind_runs : (f : BodyForm) (words : List (List ℕ)) (steps : Block) → EachCall P steps → IfSome (kind_of_body f words steps) KindOf
  own_kind_runs body.FifoAt words steps inside = at_runs (fifo_at 3 words) (amount_at 5 words) steps inside (fifo_within 3 words)
  own_kind_runs body.FifoDormant words steps inside = dormant_runs (fifo_at 3 words) steps inside (fifo_within 3 words)
  own_kind_runs body.RrAt words steps inside = at_runs (rr_at 3 words) (amount_at 5 words) steps inside (rr_within 3 words)
  own_kind_runs body.RrDormant words steps inside = dormant_runs (rr_at 3 words) steps inside (rr_within 3 words)
  own_kind_runs body.SporadicAt words steps inside = at_runs (sporadic_at words) (amount_at 9 words) steps inside (sporadic_within words)
  own_kind_runs body.SporadicDormant words steps inside = dormant_runs (sporadic_at words) steps inside (sporadic_within words)
  own_kind_runs body.StrictAt words steps inside = at_runs (strict_at words) (amount_at 9 words) steps inside (strict_within words)
  own_kind_runs body.StrictDormant words steps inside = dormant_runs (strict_at words) steps inside (strict_within words)
  own_kind_runs body.Handler words steps inside = inside
  own_kind_runs body.Cleanup words steps inside = inside

  pub body_runs : (f : BodyForm) (words : List (List ℕ)) (steps : Block) → EachCall P steps → IfSome (body_decl f words steps) Runs
  body_runs f words steps inside = named_runs (name_at 1 words) (kind_of_body f words steps) (own_kind_runs f words steps inside)

  -- the bodies
  body_calls : (d : Decl) → Runs d → BodyHas (EachCall P) d
  body_calls (Named name (kinds.Thread policy start steps)) h = h.1
  body_calls (Named name (kinds.Handler steps)) h = h
  body_calls (Named name (kinds.Cleanup steps)) h = h
  body_calls other h = tt

  pub all_bodies : (decls : List Decl) → Each Runs decls → All (EachCall P) (bodies_of decls).all
  all_bodies decls all = bodies_have (EachCall P) decls (each_weaker Runs (BodyHas (EachCall P)) body_calls decls all)

  -- the policies of the threads
  abbrev pub ThreadHasBudget : ThreadDecl → Type 0
  ThreadHasBudget d = HasBudget d.policy

  thread_case : (d : Decl) (decls : List Decl) → Runs d → All ThreadHasBudget (filter_map declared_thread decls) → All ThreadHasBudget (filter_map declared_thread (d ∷ decls))
  thread_case (Named name (kinds.Thread policy start steps)) decls h all =
      All-cons ThreadHasBudget (record { name = name; policy = policy; start = start; body = steps }) (filter_map declared_thread decls) h.0 all
  thread_case (Named name (kinds.Handler steps)) decls h all = all
  thread_case (Named name (kinds.Cleanup steps)) decls h all = all
  thread_case other decls h all = all

  pub all_budgets : (decls : List Decl) → Each Runs decls → All ThreadHasBudget (filter_map declared_thread decls)
  all_budgets [] all = All-nil ThreadHasBudget
  all_budgets (d ∷ decls) all = thread_case d decls all.0 (all_budgets decls all.1)

  -- the handlers of the actions, the values of the semaphores and the signals of the timers
  pub all_actions : (decls : List Decl) → Each Runs decls → All (ActionNames handlers) decls
  all_actions [] all = All-nil (ActionNames handlers)
  all_actions (Action sig (Some h) ∷ decls) all = All-cons (ActionNames handlers) (Action sig (Some h)) decls all.0 (all_actions decls all.1)
  all_actions (d ∷ decls) all = All-cons (ActionNames handlers) d decls tt (all_actions decls all.1)

  pub all_values : (decls : List Decl) → Each Runs decls → All HasValue decls
  all_values [] all = All-nil HasValue
  all_values (Named name (kinds.Sem value) ∷ decls) all = All-cons HasValue (Named name (kinds.Sem value)) decls all.0 (all_values decls all.1)
  all_values (d ∷ decls) all = All-cons HasValue d decls tt (all_values decls all.1)

  pub all_signals : (decls : List Decl) → Each Runs decls → All HasSignal decls
  all_signals [] all = All-nil HasSignal
  all_signals (Named name (kinds.Timer sig value real) ∷ decls) all = All-cons HasSignal (Named name (kinds.Timer sig value real)) decls all.0 (all_signals decls all.1)
  all_signals (d ∷ decls) all = All-cons HasSignal d decls tt (all_signals decls all.1)
