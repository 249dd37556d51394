-- What a line declares is well formed.
use Rattle.std.proofs.Common.{Bool, List, None, Option, Some, [], arith, false, true, ℕ, ◌∷◌, ◌++◌}
use Rattle.std.specs.Option.{option_map}
use Rattle.std.specs.Prelude.{option_to_list}
use Rattle.words_script.specs.Tree.{block_of}
use Rattle.words_script.specs.declared.body.Step.{Step}
use Rattle.words_script.specs.declared.policy.Policy.{Policy}
use Rattle.words_script.specs.declared.decl.Kind.{Kind}
use Rattle.words_script.specs.declared.decl.Kind.TheVariants as kinds
use Rattle.words_script.specs.declared.decl.Decl.{Decl}
use Rattle.words_script.specs.declared.decl.Decl.TheVariants.{Named}
use Rattle.rules_machine.specs.WellFormed.{DeclFits, DeclGuarded, DeclsFit, DeclsGuarded, IsPriority, KindFits, KindGuarded, PolicyFits}
use Rattle.script_table.specs.declared.form.ObjectForm.{ObjectForm}
use Rattle.script_table.specs.declared.form.ObjectForm.TheVariants as object
use Rattle.script_table.specs.declared.form.ActionForm.{ActionForm}
use Rattle.script_table.specs.declared.form.ActionForm.TheVariants as action
use Rattle.script_table.specs.declared.form.BodyForm.{BodyForm}
use Rattle.script_table.specs.declared.form.BodyForm.TheVariants as body
use Rattle.words_script.specs.declared.name_kind.NameKind.{NameKind}
use Rattle.words_script.specs.declared.name_kind.NameKind.TheVariants as kind
use Rattle.script_table.specs.Names.{Entry}
use Rattle.script_table.specs.Structure.{body_kind}
use Rattle.script_table.specs.Operands.{map_two, number_in, amount_at, priority_at, signal_at, name_at, named_at, fifo_at, rr_at, sporadic_at, strict_at}
use Rattle.script_table.specs.Meaning.{protect, queue, kind_of_object, object_decl, runs, ignores, action_decl, thread_at, thread_dormant, body_decl, kind_of_body, timer}
use Rattle.laws_accepted.proofs.Operands.{Said, fifo_fits, priority_is, rr_fits, sporadic_fits, strict_fits}
use Rattle.laws_accepted.proofs.Steps.{AreSound}

pub record IsSoundDecl (d : Decl) : Type 0 where
  pub fits : DeclFits d
  pub guarded : DeclGuarded d

record IsSoundKind (k : Kind) : Type 0 where
  fits : KindFits k
  guarded : KindGuarded k

named : (name : Option (List ℕ)) (k : Option Kind) → Said IsSoundKind k → Said IsSoundDecl (map_two Named name k)
named None k h = tt
named (Some name) None h = tt
named (Some name) (Some k) h = record { fits = h.fits; guarded = h.guarded }

-- ---- objects and actions

protected : (recursive : Bool) (o : Option ℕ) → Said IsPriority o → Said IsSoundKind (protect recursive o)
protected recursive None h = tt
protected recursive (Some ceiling) h = record { fits = h; guarded = tt }

queues : (nonblock : Bool) (o p : Option ℕ) → Said IsSoundKind (queue nonblock o p)
queues nonblock None p = tt
queues nonblock (Some depth) None = tt
queues nonblock (Some depth) (Some max_len) = record { fits = tt; guarded = tt }

semaphores : (o : Option ℕ) → Said IsSoundKind (option_map kinds.Sem o)
semaphores None = tt
semaphores (Some n) = record { fits = tt; guarded = tt }

timers : (real : Bool) (o p : Option ℕ) → Said IsSoundKind (timer real o p)
timers real None p = tt
timers real (Some sig) None = tt
timers real (Some sig) (Some value) = record { fits = tt; guarded = tt }

objects : (f : ObjectForm) (words : List (List ℕ)) → Said IsSoundKind (kind_of_object f words)
objects object.MutexNone words = record { fits = tt; guarded = tt }
objects object.MutexNoneRecursive words = record { fits = tt; guarded = tt }
objects object.MutexInherit words = record { fits = tt; guarded = tt }
objects object.MutexInheritRecursive words = record { fits = tt; guarded = tt }
objects object.MutexProtect words = protected false (priority_at 3 words) (priority_is 3 words)
objects object.MutexProtectRecursive words = protected true (priority_at 3 words) (priority_is 3 words)
objects object.Cond words = record { fits = tt; guarded = tt }
objects object.Sem words = semaphores (number_in 0 32767 2 words)
objects object.Queue words = queues false (number_in 1 64 2 words) (number_in 1 65536 3 words)
objects object.QueueNonblock words = queues true (number_in 1 64 2 words) (number_in 1 65536 3 words)
objects object.Timer words = timers false (signal_at 2 words) (amount_at 3 words)
objects object.TimerReal words = timers true (signal_at 2 words) (amount_at 3 words)

pub object_sound : (f : ObjectForm) (words : List (List ℕ)) → Said IsSoundDecl (object_decl f words)
object_sound f words = named (name_at 1 words) (kind_of_object f words) (objects f words)

ignored : (o : Option ℕ) → Said IsSoundDecl (ignores o)
ignored None = tt
ignored (Some sig) = record { fits = tt; guarded = tt }

run : (o p : Option ℕ) → Said IsSoundDecl (runs o p)
run None p = tt
run (Some sig) None = tt
run (Some sig) (Some h) = record { fits = tt; guarded = tt }

pub action_sound : (es : List Entry) (f : ActionForm) (words : List (List ℕ)) → Said IsSoundDecl (action_decl es f words)
action_sound es action.Ignore words = ignored (signal_at 1 words)
action_sound es action.Run words = run (signal_at 1 words) (named_at kind.Handler es 3 words)

-- ---- bodies

-- how deep guarded blocks may stand in a body of this kind
abbrev pub limit_of : NameKind → ℕ
limit_of kind.Handler = 0
limit_of kind.Cleanup = 0
limit_of other = 8

module _ (steps : List Step) where
  threads_at : (policy : Option Policy) (start : Option ℕ) → Said PolicyFits policy → AreSound 8 0 steps → Said IsSoundKind (thread_at policy start (block_of steps))
  threads_at None start p h = tt
  threads_at (Some policy) None p h = tt
  threads_at (Some policy) (Some start) p h = record { fits = (p, h.fits); guarded = (h.plain, (let d = h.deep in omega arith)) }

  threads_dormant : (policy : Option Policy) → Said PolicyFits policy → AreSound 8 0 steps → Said IsSoundKind (thread_dormant policy (block_of steps))
  threads_dormant None p h = tt
  threads_dormant (Some policy) p h = record { fits = (p, h.fits); guarded = (h.plain, (let d = h.deep in omega arith)) }

  bodies : (f : BodyForm) (words : List (List ℕ)) → AreSound (limit_of (body_kind f)) 0 steps → Said IsSoundKind (kind_of_body f words (block_of steps))
  bodies body.FifoAt words h = threads_at (fifo_at 3 words) (amount_at 5 words) (fifo_fits 3 words) h
  bodies body.FifoDormant words h = threads_dormant (fifo_at 3 words) (fifo_fits 3 words) h
  bodies body.RrAt words h = threads_at (rr_at 3 words) (amount_at 5 words) (rr_fits 3 words) h
  bodies body.RrDormant words h = threads_dormant (rr_at 3 words) (rr_fits 3 words) h
  bodies body.SporadicAt words h = threads_at (sporadic_at words) (amount_at 9 words) (sporadic_fits words) h
  bodies body.SporadicDormant words h = threads_dormant (sporadic_at words) (sporadic_fits words) h
  bodies body.StrictAt words h = threads_at (strict_at words) (amount_at 9 words) (strict_fits words) h
  bodies body.StrictDormant words h = threads_dormant (strict_at words) (strict_fits words) h
  bodies body.Handler words h = record { fits = h.fits; guarded = (h.plain, (let d = h.deep in omega arith)) }
  bodies body.Cleanup words h = record { fits = h.fits; guarded = (h.plain, (let d = h.deep in omega arith)) }

  pub body_sound : (f : BodyForm) (words : List (List ℕ)) → AreSound (limit_of (body_kind f)) 0 steps → Said IsSoundDecl (body_decl f words (block_of steps))
  body_sound f words h = named (name_at 1 words) (kind_of_body f words (block_of steps)) (bodies f words h)

-- ---- all of them

pub record AreSoundDecls (decls : List Decl) : Type 0 where
  pub fit : DeclsFit decls
  pub guarded : DeclsGuarded decls

fit_more : (decls : List Decl) (d : Decl) → DeclsFit decls → DeclFits d → DeclsFit (decls ++ d ∷ [])
fit_more [] d old new = (new, tt)
fit_more (e ∷ decls) d old new = (old.0, fit_more decls d old.1 new)

guarded_more : (decls : List Decl) (d : Decl) → DeclsGuarded decls → DeclGuarded d → DeclsGuarded (decls ++ d ∷ [])
guarded_more [] d old new = (new, tt)
guarded_more (e ∷ decls) d old new = (old.0, guarded_more decls d old.1 new)

fit_none : (decls : List Decl) → DeclsFit decls → DeclsFit (decls ++ [])
fit_none [] old = tt
fit_none (e ∷ decls) old = (old.0, fit_none decls old.1)

guarded_none : (decls : List Decl) → DeclsGuarded decls → DeclsGuarded (decls ++ [])
guarded_none [] old = tt
guarded_none (e ∷ decls) old = (old.0, guarded_none decls old.1)

pub decls_more : (decls : List Decl) (d : Option Decl) → AreSoundDecls decls → Said IsSoundDecl d → AreSoundDecls (decls ++ option_to_list d)
decls_more decls None old new = record { fit = fit_none decls old.fit; guarded = guarded_none decls old.guarded }
decls_more decls (Some d) old new = record { fit = fit_more decls d old.fit new.fits; guarded = guarded_more decls d old.guarded new.guarded }
