-- The bodies of handlers and of cleanup handlers push and pop no cleanup handler.
use Rattle.std.proofs.Common.{List, [], arith, false, suc, zero, ℕ, ◌≡◌, ◌≤◌, ◌∷◌}
use Rattle.std.specs.Prelude.{slice_index_or}
use Rattle.std.specs.List.{filter_map}
use Rattle.words_script.specs.Block.{Adding, Block, Guarding, Looping, Making, Nothing, Running, Setting, Taking, Testing}
use Rattle.words_script.specs.declared.call.Call.{Call}
use Rattle.words_script.specs.declared.decl.Decl.{Decl}
use Rattle.words_script.specs.declared.decl.Decl.TheVariants as decl
use Rattle.words_script.specs.declared.decl.Kind.TheVariants as kind
use Rattle.words_script.specs.declared.decl.Script.{Script}
use Rattle.rules_bodies.specs.Fetch.{ops_of}
use Rattle.rules_machine.specs.declared.frame.BodyOf.TheVariants as body_of
use Rattle.rules_machine.specs.Declarations.{cleanup_kind, handler_kind, named}
use Rattle.rules_machine.specs.Machine.{body_tree}
use Rattle.rules_machine.specs.WellFormed.{DeclsGuarded, StepsPlain, guard_depth, is_guarding}
use Rattle.rules_flat_code.specs.EachCall.{EachCall, EachMade}
use Rattle.rules_flat_code.specs.FlatBodies.{code_of, number_of}
use Rattle.rules_flat_code.proofs.Numbered.{body_ops}
use Rattle.laws_threads.proofs.MadeCalls.{flat_made}

abbrev pub IsPlain : Call → Type 0
IsPlain c = is_guarding c ≡ false

no_guards : (b : Block) → StepsPlain b → guard_depth b ≤ 0 → EachCall IsPlain b
no_guards Nothing plain low = tt
no_guards (Running n rest) plain low = no_guards rest plain low
no_guards (Making c rest) plain low = (plain.0, no_guards rest plain.1 low)
no_guards (Setting n rest) plain low = no_guards rest plain low
no_guards (Adding n rest) plain low = no_guards rest plain low
no_guards (Taking rest) plain low = no_guards rest plain low
no_guards (Testing named equal inner rest) plain low = (no_guards inner plain.0 (omega arith), no_guards rest plain.1 (omega arith))
no_guards (Looping times inner rest) plain low = (no_guards inner plain.0 (omega arith), no_guards rest plain.1 (omega arith))
no_guards (Guarding cleanup run inner rest) plain low = absurd (omega arith)

cleanups_plain : (decls : List Decl) (u : ℕ) → DeclsGuarded decls → EachCall IsPlain (slice_index_or (filter_map (named cleanup_kind) decls) u Nothing)
cleanups_plain [] u h = tt
cleanups_plain (decl.Named name (kind.Cleanup body) ∷ decls) zero h = no_guards body h.0.0 h.0.1
cleanups_plain (decl.Named name (kind.Cleanup body) ∷ decls) (suc u) h = cleanups_plain decls u h.1
cleanups_plain (decl.Named name (kind.Thread policy start body) ∷ decls) u h = cleanups_plain decls u h.1
cleanups_plain (decl.Named name (kind.Handler body) ∷ decls) u h = cleanups_plain decls u h.1
cleanups_plain (decl.Named name (kind.Mutex protocol recursive) ∷ decls) u h = cleanups_plain decls u h.1
cleanups_plain (decl.Named name kind.Cond ∷ decls) u h = cleanups_plain decls u h.1
cleanups_plain (decl.Named name (kind.Sem value) ∷ decls) u h = cleanups_plain decls u h.1
cleanups_plain (decl.Named name (kind.Queue depth longest nonblock) ∷ decls) u h = cleanups_plain decls u h.1
cleanups_plain (decl.Named name (kind.Timer signal value real) ∷ decls) u h = cleanups_plain decls u h.1
cleanups_plain (decl.Action signal handler ∷ decls) u h = cleanups_plain decls u h.1

handlers_plain : (decls : List Decl) (n : ℕ) → DeclsGuarded decls → EachCall IsPlain (slice_index_or (filter_map (named handler_kind) decls) n Nothing)
handlers_plain [] n h = tt
handlers_plain (decl.Named name (kind.Handler body) ∷ decls) zero h = no_guards body h.0.0 h.0.1
handlers_plain (decl.Named name (kind.Handler body) ∷ decls) (suc n) h = handlers_plain decls n h.1
handlers_plain (decl.Named name (kind.Thread policy start body) ∷ decls) n h = handlers_plain decls n h.1
handlers_plain (decl.Named name (kind.Cleanup body) ∷ decls) n h = handlers_plain decls n h.1
handlers_plain (decl.Named name (kind.Mutex protocol recursive) ∷ decls) n h = handlers_plain decls n h.1
handlers_plain (decl.Named name kind.Cond ∷ decls) n h = handlers_plain decls n h.1
handlers_plain (decl.Named name (kind.Sem value) ∷ decls) n h = handlers_plain decls n h.1
handlers_plain (decl.Named name (kind.Queue depth longest nonblock) ∷ decls) n h = handlers_plain decls n h.1
handlers_plain (decl.Named name (kind.Timer signal value real) ∷ decls) n h = handlers_plain decls n h.1
handlers_plain (decl.Action signal handler ∷ decls) n h = handlers_plain decls n h.1

module _ (script : Script) (guards : DeclsGuarded script.decls) where
  pub cleanup_plain : (u : ℕ) → EachMade IsPlain (ops_of (code_of script) (number_of (code_of script) (body_of.Cleanup u)))
  cleanup_plain u = rw (body_ops script (body_of.Cleanup u)) (flat_made IsPlain 0 (body_tree script (body_of.Cleanup u)) (cleanups_plain script.decls u guards))

  pub handler_plain : (h : ℕ) → EachMade IsPlain (ops_of (code_of script) (number_of (code_of script) (body_of.Handler h)))
  handler_plain h = rw (body_ops script (body_of.Handler h)) (flat_made IsPlain 0 (body_tree script (body_of.Handler h)) (handlers_plain script.decls h guards))
