-- Where the bodies of a script begin in its flat code, and what its signals do.
use Rattle.std.proofs.Common.{List, None, Some, [], ap, arith, length, refl, suc, zero, ℕ, ◌<◌, ◌≤◌, ◌∷◌, ◌≡◌}
use Rattle.std.specs.Prelude.{All, fold, replicate, slice_get, slice_index_or, slice_set}
use Rattle.std.proofs.lemmas.List.{length-map}
use Rattle.words_script.specs.Block.{Block, Nothing}
use Rattle.words_script.specs.declared.decl.Decl.{Decl}
use Rattle.words_script.specs.declared.decl.Decl.TheVariants as decl
use Rattle.words_script.specs.declared.decl.Script.{Script}
use Rattle.rules_bodies.specs.declared.op.Op.{Op}
use Rattle.rules_bodies.specs.Flat as flat
use Rattle.rules_bodies.specs.Fetch.{started}
use Rattle.rules_bodies.specs.Next.{body_start, register_limit}
use Rattle.rules_bodies.specs.Stands.{IsPlaced}
use Rattle.rules_bodies.proofs.Opens.{is_body_of_script}
use Rattle.rules_machine.specs.declared.frame.BodyOf.TheVariants as body_of
use Rattle.rules_machine.specs.declared.signal.SigAction.{SigAction}
use Rattle.rules_machine.specs.declared.signal.SigAction.TheVariants as action
use Rattle.rules_machine.specs.Declarations.{ThreadDecl, actions_of, cleanups_of, handlers_of, threads_of, with_action}
use Rattle.rules_flat_code.specs.FlatBodies.{code_of, number_of}
use Rattle.rules_flat_code.proofs.Numbered.{Numbered, cleanup_blocks, handler_blocks, known, thread_blocks}
use Rattle.laws_threads.specs.EachThread.{ActionKnown, Given}
use Rattle.rules_flat_code.specs.Runnable.{ActionNames}
use Rattle.laws_threads.specs.Placeable.{IsPlaceable}

-- ---- bodies by number

numbered_length : (all : List Block) (ns : List ℕ) (bs : List Block) → Numbered all ns bs → length ns ≡ length bs
numbered_length all [] [] is = refl
numbered_length all [] (b ∷ bs) is = absurd is
numbered_length all (n ∷ ns) [] is = absurd is
numbered_length all (n ∷ ns) (b ∷ bs) (one, rest) = ap suc (numbered_length all ns bs rest)

numbered_at : (all : List Block) (ns : List ℕ) (bs : List Block) (t d : ℕ) → Numbered all ns bs → t < length bs → slice_get all (slice_index_or ns t d) ≡ Some (slice_index_or bs t Nothing)
numbered_at all [] [] t d is lt = absurd (omega arith)
numbered_at all [] (b ∷ bs) t d is lt = absurd is
numbered_at all (n ∷ ns) [] t d is lt = absurd (omega arith)
numbered_at all (n ∷ ns) (b ∷ bs) zero d (one, rest) lt = one
numbered_at all (n ∷ ns) (b ∷ bs) (suc t) d (one, rest) lt = numbered_at all ns bs t d rest (omega arith)

module _ (script : Script) (ok : IsPlaceable script) where
  abbrev b : flat.NumberedBodies Block
  b = flat.bodies_of script.decls

  abbrev code : flat.NumberedBodies (List Op)
  code = code_of script

  -- the body of a number, from its first step on
  begins_at : (n : ℕ) (block : Block) (value : ℕ) → slice_get b.all n ≡ Some block → value ≤ register_limit → IsPlaced code (started n value)
  begins_at n block value at low = record {
    body = block;
    is_body = is_body_of_script b code n block refl ok.flattenable at;
    place = body_start;
    stands = record { at = refl; passes = refl; register = low };
  }

  pub thread_begins : (t : ℕ) → t < length (threads_of script) → IsPlaced code (started (number_of code (body_of.Thread t)) 0)
  thread_begins t lt =
      begins_at (number_of code (body_of.Thread t)) (slice_index_or (thread_blocks script.decls) t Nothing) 0
      (numbered_at b.all b.threads (thread_blocks script.decls) t (length code.all) (known script).threads
      (let e = length-map (threads_of script) (λ (d : ThreadDecl). d.body) in omega (arith, e, lt))) (omega arith)

  pub cleanup_begins : (u : ℕ) → u < length (cleanups_of script) → IsPlaced code (started (number_of code (body_of.Cleanup u)) 0)
  cleanup_begins u lt =
      begins_at (number_of code (body_of.Cleanup u)) (slice_index_or (cleanup_blocks script.decls) u Nothing) 0
      (numbered_at b.all b.cleanups (cleanup_blocks script.decls) u (length code.all) (known script).cleanups lt) (omega arith)

  pub handler_begins : (h value : ℕ) → h < length (handlers_of script) → value ≤ register_limit → IsPlaced code (started (number_of code (body_of.Handler h)) value)
  handler_begins h value lt low =
      begins_at (number_of code (body_of.Handler h)) (slice_index_or (handler_blocks script.decls) h Nothing) value
      (numbered_at b.all b.handlers (handler_blocks script.decls) h (length code.all) (known script).handlers lt) low

-- ---- actions

module _ {P : Type 0} (given : Given P) where
  abbrev AllKnown : List SigAction → Type 0
  AllKnown actions = (signal : ℕ) → ActionKnown given (slice_index_or actions signal action.Kill)

  default_known : (n : ℕ) → AllKnown (replicate n action.Kill)
  default_known zero signal = tt
  default_known (suc n) zero = tt
  default_known (suc n) (suc signal) = default_known n signal

  set_known : (actions : List SigAction) (n : ℕ) (a : SigAction) → ActionKnown given a → AllKnown actions → AllKnown (slice_set actions n a)
  set_known [] n a known all signal = all signal
  set_known (x ∷ xs) zero a known all zero = known
  set_known (x ∷ xs) zero a known all (suc signal) = all (suc signal)
  set_known (x ∷ xs) (suc n) a known all zero = all zero
  set_known (x ∷ xs) (suc n) a known all (suc signal) = set_known xs n a known (λ j. all (suc j)) signal

  with_known : (handlers : ℕ) → ((h : ℕ) → h < handlers → given.Handles h) → (d : Decl) (actions : List SigAction) → ActionNames handlers d → AllKnown actions → AllKnown (with_action actions d)
  with_known handlers so (decl.Named name kind) actions names all = all
  with_known handlers so (decl.Action signal None) actions names all = set_known actions signal action.Ignore tt all
  with_known handlers so (decl.Action signal (Some h)) actions names all = set_known actions signal (action.Handler h) (so h names) all

  all_known : (handlers : ℕ) → ((h : ℕ) → h < handlers → given.Handles h) → (decls : List Decl) (actions : List SigAction) → All (ActionNames handlers) decls → AllKnown actions →
      AllKnown (fold with_action actions decls)
  all_known handlers so [] actions names all = all
  all_known handlers so (d ∷ decls) actions names all =
      all_known handlers so decls (with_action actions d) (λ k d lt. names (suc k) d (omega arith)) (with_known handlers so d actions (names 0 d (omega arith)) all)

  pub actions_known : (script : Script) → IsPlaceable script → ((h : ℕ) → h < length (handlers_of script) → given.Handles h) → AllKnown (actions_of script)
  actions_known script ok so = all_known (length (handlers_of script)) so script.decls (replicate 32 action.Kill) ok.actions (default_known 32)
