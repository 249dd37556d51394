-- What holds of every script that is read, and a run stays good by: a round robin interval of a tick at least, priorities in their
-- range, and cleanup handlers that are pushed and popped by guarded blocks alone. XSH pthread_cleanup_pop lets pthread_cleanup_push and
-- pthread_cleanup_pop appear only in pairs in one block; the ranges are this project's own.
use Rattle.std.specs.Prelude.{Bool, List, [], false, max, suc, true, ℕ, ◌≡◌, ◌≤◌, ◌∷◌}
use Rattle.words_numbers.specs.Parameters.{AreParameters}
use Rattle.words_script.specs.Block.{Adding, Block, Guarding, Looping, Making, Nothing, Running, Setting, Taking, Testing}
use Rattle.words_script.specs.declared.call.Call.{Call}
use Rattle.words_script.specs.declared.call.Call.TheVariants as call
use Rattle.words_script.specs.declared.decl.Decl.{Decl}
use Rattle.words_script.specs.declared.decl.Decl.TheVariants as decl
use Rattle.words_script.specs.declared.decl.Kind.{Kind}
use Rattle.words_script.specs.declared.decl.Kind.TheVariants as kind
use Rattle.words_script.specs.declared.decl.Script.{Script}
use Rattle.words_script.specs.declared.policy.Policy.{Policy}
use Rattle.words_script.specs.declared.policy.Policy.TheVariants as policy
use Rattle.words_script.specs.declared.policy.Protocol.{Protocol}
use Rattle.words_script.specs.declared.policy.Protocol.TheVariants as protocol

-- ---- priorities

pub record IsPriority (p : ℕ) : Type 0 where
  pub positive : 1 ≤ p
  pub small : p ≤ 255

abbrev pub PolicyFits : Policy → Type 0
PolicyFits (policy.Fifo p) = IsPriority p
PolicyFits (policy.Rr p) = IsPriority p
PolicyFits (policy.Sporadic params) = IsPriority params.low × IsPriority params.high
PolicyFits (policy.Strict params) = IsPriority params.low × IsPriority params.high × AreParameters params

abbrev pub ProtocolFits : Protocol → Type 0
ProtocolFits protocol.Plain = Unit {0}
ProtocolFits protocol.Inherit = Unit {0}
ProtocolFits (protocol.Protect p) = IsPriority p

abbrev pub CallFits : Call → Type 0
CallFits (call.Setprio u p) = IsPriority p
CallFits (call.Setsched u new) = PolicyFits new
CallFits c = Unit {0}

abbrev pub BlockFits : Block → Type 0
BlockFits Nothing = Unit {0}
BlockFits (Running n rest) = BlockFits rest
BlockFits (Making c rest) = CallFits c × BlockFits rest
BlockFits (Setting n rest) = BlockFits rest
BlockFits (Adding n rest) = BlockFits rest
BlockFits (Taking rest) = BlockFits rest
BlockFits (Testing named equal inner rest) = BlockFits inner × BlockFits rest
BlockFits (Looping times inner rest) = BlockFits inner × BlockFits rest
BlockFits (Guarding cleanup run inner rest) = BlockFits inner × BlockFits rest

abbrev pub KindFits : Kind → Type 0
KindFits (kind.Thread policy start body) = PolicyFits policy × BlockFits body
KindFits (kind.Handler body) = BlockFits body
KindFits (kind.Cleanup body) = BlockFits body
KindFits (kind.Mutex protocol recursive) = ProtocolFits protocol
KindFits other = Unit {0}

abbrev pub DeclFits : Decl → Type 0
DeclFits (decl.Named name k) = KindFits k
DeclFits (decl.Action signal handler) = Unit {0}

abbrev pub DeclsFit : List Decl → Type 0
DeclsFit [] = Unit {0}
DeclsFit (d ∷ ds) = DeclFits d × DeclsFit ds

-- ---- cleanup handlers

abbrev pub is_guarding : Call → Bool
is_guarding (call.Push u) = true
is_guarding (call.Pop runs) = true
is_guarding c = false

-- no step of its own pushes or pops
abbrev pub StepsPlain : Block → Type 0
StepsPlain Nothing = Unit {0}
StepsPlain (Running n rest) = StepsPlain rest
StepsPlain (Making c rest) = (is_guarding c ≡ false) × StepsPlain rest
StepsPlain (Setting n rest) = StepsPlain rest
StepsPlain (Adding n rest) = StepsPlain rest
StepsPlain (Taking rest) = StepsPlain rest
StepsPlain (Testing named equal inner rest) = StepsPlain inner × StepsPlain rest
StepsPlain (Looping times inner rest) = StepsPlain inner × StepsPlain rest
StepsPlain (Guarding cleanup run inner rest) = StepsPlain inner × StepsPlain rest

-- how many guarded blocks stand in one another
abbrev pub guard_depth : Block → ℕ
guard_depth Nothing = 0
guard_depth (Running n rest) = guard_depth rest
guard_depth (Making c rest) = guard_depth rest
guard_depth (Setting n rest) = guard_depth rest
guard_depth (Adding n rest) = guard_depth rest
guard_depth (Taking rest) = guard_depth rest
guard_depth (Testing named equal inner rest) = max (guard_depth inner) (guard_depth rest)
guard_depth (Looping times inner rest) = max (guard_depth inner) (guard_depth rest)
guard_depth (Guarding cleanup run inner rest) = max (suc (guard_depth inner)) (guard_depth rest)

-- the bodies of threads have them, at most eight in one another
abbrev pub KindGuarded : Kind → Type 0
KindGuarded (kind.Thread policy start body) = StepsPlain body × (guard_depth body ≤ 8)
KindGuarded (kind.Handler body) = StepsPlain body × (guard_depth body ≤ 0)
KindGuarded (kind.Cleanup body) = StepsPlain body × (guard_depth body ≤ 0)
KindGuarded other = Unit {0}

abbrev pub DeclGuarded : Decl → Type 0
DeclGuarded (decl.Named name k) = KindGuarded k
DeclGuarded (decl.Action signal handler) = Unit {0}

abbrev pub DeclsGuarded : List Decl → Type 0
DeclsGuarded [] = Unit {0}
DeclsGuarded (d ∷ ds) = DeclGuarded d × DeclsGuarded ds

-- ---- both

pub record IsWellFormed (script : Script) : Type 0 where
  pub quantum : 1 ≤ script.quantum
  pub priorities : DeclsFit script.decls
  pub guards : DeclsGuarded script.decls
