-- What a script declares, kind by kind, each in order of declaration: so its threads and objects are numbered. Scripts are this
-- project's own.
use Rattle.std.specs.Prelude.{List, None, Option, Some, [], filter_map, fold, replicate, slice_set, ℕ, false}
use Rattle.words_script.specs.Block.{Block}
use Rattle.words_script.specs.declared.decl.Decl.{Decl}
use Rattle.words_script.specs.declared.decl.Decl.TheVariants as decl
use Rattle.words_script.specs.declared.decl.Kind.{Kind}
use Rattle.words_script.specs.declared.decl.Kind.TheVariants as kind
use Rattle.words_script.specs.declared.decl.Script.{Script}
use Rattle.words_script.specs.declared.policy.Policy.{Policy}
use Rattle.rules_machine.specs.declared.signal.SigAction.{SigAction}
use Rattle.rules_machine.specs.declared.signal.SigAction.TheVariants as action
use Rattle.rules_machine.specs.State.{Mutex, Queue, Timer}

-- a thread of a script
pub record ThreadDecl : Type 0 where
  pub name : List ℕ
  pub policy : Policy
  -- the tick at which it starts, where it starts by itself
  pub start : Option ℕ
  pub body : Block

abbrev pub thread_kind : List ℕ → Kind → Option ThreadDecl
thread_kind name (kind.Thread policy start body) = Some (record { name = name; policy = policy; start = start; body = body })
thread_kind name other = None

abbrev pub handler_kind : Kind → Option Block
handler_kind (kind.Handler body) = Some body
handler_kind other = None

abbrev pub cleanup_kind : Kind → Option Block
cleanup_kind (kind.Cleanup body) = Some body
cleanup_kind other = None

-- a free mutex
abbrev pub mutex_kind : Kind → Option Mutex
mutex_kind (kind.Mutex protocol recursive) = Some (record { protocol = protocol; is_recursive = recursive; owner = None; count = 0 })
mutex_kind other = None

abbrev pub semaphore_kind : Kind → Option ℕ
semaphore_kind (kind.Sem value) = Some value
semaphore_kind other = None

-- an empty queue without a registration
abbrev pub queue_kind : Kind → Option Queue
queue_kind (kind.Queue depth longest nonblock) =
    Some (record { depth = depth; longest = longest; is_nonblock = nonblock; messages = []; registration = None })
queue_kind other = None

-- a disarmed timer
abbrev pub timer_kind : Kind → Option Timer
timer_kind (kind.Timer signal value real) = Some (record { signal = signal; value = value; is_real = real; due = None; is_reading = false; interval = 0; extra = 0; overrun = 0 })
timer_kind other = None

-- a declaration of a name, read by its kind
abbrev pub named : {X : Type 0} → (Kind → Option X) → Decl → Option X
named read (decl.Named name kind) = read kind
named read (decl.Action signal handler) = None

abbrev pub declared_thread : Decl → Option ThreadDecl
declared_thread (decl.Named name kind) = thread_kind name kind
declared_thread (decl.Action signal handler) = None

-- XSH 2.4.3 and sigaction: a handler, or SIG_IGN
abbrev pub declared_action : Option ℕ → SigAction
declared_action None = action.Ignore
declared_action (Some h) = action.Handler h

abbrev pub with_action : List SigAction → Decl → List SigAction
with_action actions (decl.Named name kind) = actions
with_action actions (decl.Action signal handler) = slice_set actions signal (declared_action handler)

abbrev pub threads_of : Script → List ThreadDecl
threads_of script = filter_map declared_thread script.decls

abbrev pub handlers_of : Script → List Block
handlers_of script = filter_map (named handler_kind) script.decls

abbrev pub cleanups_of : Script → List Block
cleanups_of script = filter_map (named cleanup_kind) script.decls

abbrev pub mutexes_of : Script → List Mutex
mutexes_of script = filter_map (named mutex_kind) script.decls

abbrev pub semaphores_of : Script → List ℕ
semaphores_of script = filter_map (named semaphore_kind) script.decls

abbrev pub queues_of : Script → List Queue
queues_of script = filter_map (named queue_kind) script.decls

abbrev pub timers_of : Script → List Timer
timers_of script = filter_map (named timer_kind) script.decls

-- the action of each of the 32 signals; without a declaration the default, which ends the process
abbrev pub actions_of : Script → List SigAction
actions_of script = fold with_action (replicate 32 action.Kill) script.decls
