-- The bodies and threads of declarations without strict policies.
use Rattle.std.proofs.Common.{List, [], false, refl, suc, zero, ℕ, ◌∷◌, ◌≡◌}
use Rattle.std.specs.Prelude.{filter_map, map, slice_index_or}
use Rattle.words_script.specs.Block.{Nothing}
use Rattle.words_script.specs.declared.decl.Decl.{Decl}
use Rattle.words_script.specs.declared.decl.Decl.TheVariants as decl
use Rattle.words_script.specs.declared.decl.Kind.TheVariants as kind
use Rattle.words_script.specs.declared.decl.Script.{Script}
use Rattle.rules_bodies.specs.Next.{Place}
use Rattle.rules_machine.specs.declared.frame.BodyOf.{BodyOf}
use Rattle.rules_machine.specs.declared.frame.BodyOf.TheVariants as body_of
use Rattle.rules_machine.specs.Declarations.{ThreadDecl, cleanup_kind, declared_thread, handler_kind, named, threads_of}
use Rattle.rules_machine.specs.Machine.{body_tree, bodies_of}
use Rattle.rules_machine.specs.Runs.{opening, thread_opened}
use Rattle.rules_machine.specs.Threads.{thread_in}
use Rattle.laws_window.specs.Before.{AreBodiesPlain, AreThreadsPlain, is_strict_policy}
use Rattle.laws_bounds.proofs.EachDecl.{Each}
use Rattle.laws_versions.proofs.Units.{BlockPlain, next_plain}

-- a declaration whose thread and whose body set no strict policy
abbrev pub DeclPlain : Decl → Type 0
DeclPlain (decl.Named name (kind.Thread policy start body)) = (is_strict_policy policy ≡ false) × BlockPlain body
DeclPlain (decl.Named name (kind.Handler body)) = BlockPlain body
DeclPlain (decl.Named name (kind.Cleanup body)) = BlockPlain body
DeclPlain other = Unit {0}

abbrev ThreadPlain : ThreadDecl → Type 0
ThreadPlain d = (is_strict_policy d.policy ≡ false) × BlockPlain d.body

threads_plain : (ds : List Decl) → Each DeclPlain ds → Each ThreadPlain (filter_map declared_thread ds)
threads_plain [] h = tt
threads_plain (decl.Action signal handler ∷ ds) h = threads_plain ds h.1
threads_plain (decl.Named name (kind.Thread policy start body) ∷ ds) h = (h.0, threads_plain ds h.1)
threads_plain (decl.Named name other ∷ ds) h = threads_plain ds h.1

thread_block : (ds : List ThreadDecl) (t : ℕ) → Each ThreadPlain ds → BlockPlain (slice_index_or (map (λ (d : ThreadDecl). d.body) ds) t Nothing)
thread_block [] t each = tt
thread_block (d ∷ ds) zero each = each.0.1
thread_block (d ∷ ds) (suc t) each = thread_block ds t each.1

handler_block : (ds : List Decl) (h : ℕ) → Each DeclPlain ds → BlockPlain (slice_index_or (filter_map (named handler_kind) ds) h Nothing)
handler_block [] h k = tt
handler_block (decl.Action signal handler ∷ ds) h k = handler_block ds h k.1
handler_block (decl.Named name (kind.Handler body) ∷ ds) zero k = k.0
handler_block (decl.Named name (kind.Handler body) ∷ ds) (suc h) k = handler_block ds h k.1
handler_block (decl.Named name other ∷ ds) h k = handler_block ds h k.1

cleanup_block : (ds : List Decl) (u : ℕ) → Each DeclPlain ds → BlockPlain (slice_index_or (filter_map (named cleanup_kind) ds) u Nothing)
cleanup_block [] u k = tt
cleanup_block (decl.Action signal handler ∷ ds) u k = cleanup_block ds u k.1
cleanup_block (decl.Named name (kind.Cleanup body) ∷ ds) zero k = k.0
cleanup_block (decl.Named name (kind.Cleanup body) ∷ ds) (suc u) k = cleanup_block ds u k.1
cleanup_block (decl.Named name other ∷ ds) u k = cleanup_block ds u k.1

thread_policy : (ds : List ThreadDecl) (t : ℕ) → Each ThreadPlain ds → is_strict_policy (thread_in (map (thread_opened {P = Place}) ds) t).policy ≡ false
thread_policy [] t each = refl
thread_policy (d ∷ ds) zero each = each.0.0
thread_policy (d ∷ ds) (suc t) each = thread_policy ds t each.1

module _ (script : Script) (plain : Each DeclPlain script.decls) where
  block_plain : (body : BodyOf) → BlockPlain (body_tree script body)
  block_plain (body_of.Thread t) = thread_block (threads_of script) t (threads_plain script.decls plain)
  block_plain (body_of.Cleanup u) = cleanup_block script.decls u plain
  block_plain (body_of.Handler h) = handler_block script.decls h plain

  pub bodies_plain : AreBodiesPlain (bodies_of script)
  bodies_plain body place seen = next_plain (body_tree script body) place seen (block_plain body)

  pub opening_plain : AreThreadsPlain (opening {P = Place} script)
  opening_plain u = thread_policy (threads_of script) u (threads_plain script.decls plain)
