-- A queue that is as deep as it is declared is no deeper than the deepest.
use Rattle.std.proofs.Common.{◌≡◌, ◌≤◌, ◌∙◌, List, [], ◌∷◌, ap, arith, map, max, refl, suc, zero, ℕ}
use Rattle.std.specs.List.{cons_option}
use Rattle.std.specs.Prelude.{filter_map, slice_index_or}
use Rattle.words_script.specs.declared.decl.Decl.{Decl}
use Rattle.words_script.specs.declared.decl.Decl.TheVariants as decl
use Rattle.words_script.specs.declared.decl.Kind.{Kind}
use Rattle.words_script.specs.declared.decl.Kind.TheVariants as said
use Rattle.rules_machine.specs.Declarations.{named, queue_kind}
use Rattle.rules_machine.specs.State.{Queue}
use Rattle.rules_machine.specs.Threads.{no_queue}
use Rattle.kernel_texts.specs.Rooms.{deepest, depth_in}

abbrev depths : List Queue → List ℕ
depths queues = map (λ (q : Queue). q.depth) queues

-- the depth at a number
depth_at : (q : ℕ) (qs : List Queue) → (slice_index_or qs q no_queue).depth ≡ slice_index_or (depths qs) q 0
depth_at q [] = refl
depth_at zero (x ∷ qs) = refl
depth_at (suc q) (x ∷ qs) = depth_at q qs

-- the queues that are declared
module _ (ds : List Decl) (rest : (q : ℕ) → slice_index_or (depths (filter_map (named queue_kind) ds)) q 0 ≤ deepest ds) where
  one_more : (sort : Kind) (q : ℕ) → slice_index_or (depths (cons_option (queue_kind sort) (filter_map (named queue_kind) ds))) q 0 ≤ max (depth_in sort) (deepest ds)
  one_more (said.Queue depth longest nonblock) zero = omega arith
  one_more (said.Queue depth longest nonblock) (suc q) = (let deep = rest q in omega (arith, deep))
  one_more (said.Thread policy start body) q = (let deep = rest q in omega (arith, deep))
  one_more (said.Handler body) q = (let deep = rest q in omega (arith, deep))
  one_more (said.Cleanup body) q = (let deep = rest q in omega (arith, deep))
  one_more (said.Mutex protocol recursive) q = (let deep = rest q in omega (arith, deep))
  one_more said.Cond q = (let deep = rest q in omega (arith, deep))
  one_more (said.Sem value) q = (let deep = rest q in omega (arith, deep))
  one_more (said.Timer signal value real) q = (let deep = rest q in omega (arith, deep))

declared_deep : (ds : List Decl) (q : ℕ) → slice_index_or (depths (filter_map (named queue_kind) ds)) q 0 ≤ deepest ds
declared_deep [] q = omega arith
declared_deep (decl.Named name sort ∷ ds) q = one_more ds (declared_deep ds) sort q
declared_deep (decl.Action signal handler ∷ ds) q = (let deep = declared_deep ds q in omega (arith, deep))

pub no_deeper : (ds : List Decl) (qs : List Queue) → depths qs ≡ depths (filter_map (named queue_kind) ds) → (q : ℕ) → (slice_index_or qs q no_queue).depth ≤ deepest ds
no_deeper ds qs same q =
    let here = depth_at q qs ∙ ap (λ (ns : List ℕ). slice_index_or ns q 0) same in
    let deep = declared_deep ds q in
    omega (arith, here, deep)
