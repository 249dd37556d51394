-- The flat form of a script: the operations of each body, one after another. This project's own.
use Rattle.std.specs.Prelude.{ℕ, ◌+◌, ◌≤◌, ◌^◌, max, None, Some, List, [], ◌∷◌, ◌++◌, length, map, All}
use Rattle.words_script.specs.Block.{Block, Nothing, Running, Making, Setting, Adding, Taking, Testing, Looping, Guarding}
use Rattle.words_script.specs.Tree.{step_count}
use Rattle.words_script.specs.declared.call.Call.TheVariants as call
use Rattle.words_script.specs.declared.decl.Decl.{Decl}
use Rattle.words_script.specs.declared.decl.Decl.TheVariants.{Named}
use Rattle.words_script.specs.declared.decl.Kind.TheVariants.{Thread, Handler, Cleanup}
use Rattle.rules_bodies.specs.declared.op.Op.{Op}
use Rattle.rules_bodies.specs.declared.op.Op.TheVariants.{Run, Make, Set, Add, Take, Test, Begin, Repeat, Again}

-- how many operations a block has
abbrev pub op_number : Block → ℕ
op_number Nothing = 0
op_number (Running n rest) = 1 + op_number rest
op_number (Making c rest) = 1 + op_number rest
op_number (Setting n rest) = 1 + op_number rest
op_number (Adding n rest) = 1 + op_number rest
op_number (Taking rest) = 1 + op_number rest
op_number (Testing named equal inner rest) = (1 + op_number inner) + op_number rest
op_number (Looping None inner rest) = (1 + op_number inner) + op_number rest
op_number (Looping (Some n) inner rest) = (2 + op_number inner) + op_number rest
op_number (Guarding cleanup run inner rest) = (2 + op_number inner) + op_number rest

-- The operations of a block whose first one has the number `at`. A test passes over its block's operations; a counted loop stands
-- between a beginning and a repetition, `forever` before a jump, and a guarded block between its two calls.
abbrev pub flat : ℕ → Block → List Op
flat at Nothing = []
flat at (Running n rest) = Run n ∷ flat (at + 1) rest
flat at (Making c rest) = Make c ∷ flat (at + 1) rest
flat at (Setting n rest) = Set n ∷ flat (at + 1) rest
flat at (Adding n rest) = Add n ∷ flat (at + 1) rest
flat at (Taking rest) = Take ∷ flat (at + 1) rest
flat at (Testing named equal inner rest) =
    (Test named equal (op_number inner) ∷ flat (at + 1) inner) ++ flat (at + (1 + op_number inner)) rest
flat at (Looping None inner rest) = (flat at inner ++ Again at ∷ []) ++ flat (at + (1 + op_number inner)) rest
flat at (Looping (Some n) inner rest) =
    (Begin n ∷ (flat (at + 1) inner ++ Repeat (at + 1) ∷ [])) ++ flat (at + (2 + op_number inner)) rest
flat at (Guarding cleanup run inner rest) =
    (Make (call.Push cleanup) ∷ (flat (at + 1) inner ++ Make (call.Pop run) ∷ [])) ++ flat (at + (2 + op_number inner)) rest

-- how many blocks stand inside one another in a block
abbrev pub nesting : Block → ℕ
nesting Nothing = 0
nesting (Running n rest) = nesting rest
nesting (Making c rest) = nesting rest
nesting (Setting n rest) = nesting rest
nesting (Adding n rest) = nesting rest
nesting (Taking rest) = nesting rest
nesting (Testing named equal inner rest) = max (1 + nesting inner) (nesting rest)
nesting (Looping times inner rest) = max (1 + nesting inner) (nesting rest)
nesting (Guarding cleanup run inner rest) = max (1 + nesting inner) (nesting rest)

-- The bodies of a script, and the numbers of those of its threads, of its handlers and of its cleanup handlers.
pub record NumberedBodies (B : Type 0) : Type 0 where
  pub all : List B
  pub threads : List ℕ
  pub handlers : List ℕ
  pub cleanups : List ℕ

-- no bodies
abbrev pub no_bodies : {B : Type 0} → NumberedBodies B
no_bodies = record { all = []; threads = []; handlers = []; cleanups = [] }

-- A declaration's body, kept in some form, takes the next number.
abbrev pub with_decl : {B : Type 0} → (Block → B) → Decl → NumberedBodies B → NumberedBodies B
with_decl form (Named name (Thread policy start body)) b =
    record b { all = b.all ++ form body ∷ []; threads = b.threads ++ length b.all ∷ [] }
with_decl form (Named name (Handler body)) b =
    record b { all = b.all ++ form body ∷ []; handlers = b.handlers ++ length b.all ∷ [] }
with_decl form (Named name (Cleanup body)) b =
    record b { all = b.all ++ form body ∷ []; cleanups = b.cleanups ++ length b.all ∷ [] }
with_decl form decl b = b

-- the body of a declaration, if it has one
abbrev pub body_list : Decl → List Block
body_list decl = (with_decl (λ body. body) decl no_bodies).all

-- those of declarations, in their order
abbrev pub with_decls : {B : Type 0} → (Block → B) → List Decl → NumberedBodies B → NumberedBodies B
with_decls form [] b = b
with_decls form (decl ∷ decls) b = with_decls form decls (with_decl form decl b)

-- the bodies of a script as trees
abbrev pub bodies_of : List Decl → NumberedBodies Block
bodies_of decls = with_decls (λ body. body) decls no_bodies

-- the flat form of the bodies of a script
abbrev pub flat_form : NumberedBodies Block → NumberedBodies (List Op)
flat_form b = record { all = map (flat 0) b.all; threads = b.threads; handlers = b.handlers; cleanups = b.cleanups }

-- What a script keeps to: its bodies have numbers of 16 bits, and each has at most 65,536 steps and 16 blocks inside one another, the
-- body as the first.
pub record IsFlattenable (bodies : List Block) : Type 0 where
  pub numbered : length bodies ≤ 2 ^ 16
  pub short : All (λ body. step_count body ≤ 65536) bodies
  pub nested : All (λ body. nesting body ≤ 15) bodies
