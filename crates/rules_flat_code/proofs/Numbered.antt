-- The numbers of a script's bodies.
use Rattle.std.proofs.Common.{◌≡◌, ℕ, zero, suc, List, [], ◌∷◌, ◌++◌, refl, subst, Some, length, append-nil, append_assoc}
use Rattle.std.specs.Prelude.{map, slice_get, slice_index_or}
use Rattle.std.specs.List.{filter_map}
use Rattle.words_script.specs.Block.{Block, Nothing}
use Rattle.words_script.specs.declared.decl.Script.{Script}
use Rattle.words_script.specs.declared.decl.Decl.{Decl}
use Rattle.words_script.specs.declared.decl.Decl.TheVariants.{Named, Action}
use Rattle.words_script.specs.declared.decl.Kind.TheVariants.{Thread, Handler, Cleanup, Mutex, Cond, Sem, Queue, Timer}
use Rattle.rules_bodies.specs.Flat.{NumberedBodies, flat, no_bodies, with_decl, with_decls, bodies_of}
use Rattle.rules_bodies.specs.Fetch.{ops_of}
use Rattle.rules_machine.specs.declared.frame.BodyOf.{BodyOf}
use Rattle.rules_machine.specs.declared.frame.BodyOf.TheVariants as body_of
use Rattle.rules_machine.specs.Declarations.{ThreadDecl, cleanup_kind, declared_thread, handler_kind, named}
use Rattle.rules_machine.specs.Machine.{body_tree}
use Rattle.rules_flat_code.specs.FlatBodies.{code_of, number_of}

-- the bodies of these numbers are these blocks
abbrev pub Numbered : List Block → List ℕ → List Block → Type 0
Numbered all [] [] = Unit {0}
Numbered all [] (b ∷ bs) = ⊥
Numbered all (n ∷ ns) [] = ⊥
Numbered all (n ∷ ns) (b ∷ bs) = (slice_get all n ≡ Some b) × Numbered all ns bs

get_front : {X : Type 0} (xs ys : List X) (n : ℕ) (x : X) → slice_get xs n ≡ Some x → slice_get (xs ++ ys) n ≡ Some x
get_front [] ys n x is = cc
get_front (y ∷ xs) ys zero x is = is
get_front (y ∷ xs) ys (suc n) x is = get_front xs ys n x is

get_last : {X : Type 0} (xs : List X) (x : X) → slice_get (xs ++ x ∷ []) (length xs) ≡ Some x
get_last [] x = refl
get_last (y ∷ xs) x = get_last xs x

front : (all more : List Block) (ns : List ℕ) (bs : List Block) → Numbered all ns bs → Numbered (all ++ more) ns bs
front all more [] [] is = tt
front all more [] (b ∷ bs) is = absurd is
front all more (n ∷ ns) [] is = absurd is
front all more (n ∷ ns) (b ∷ bs) (one, rest) = (get_front all more n b one, front all more ns bs rest)

last : (all : List Block) (ns : List ℕ) (bs : List Block) (n : ℕ) (b : Block) → Numbered all ns bs → slice_get all n ≡ Some b → Numbered all (ns ++ n ∷ []) (bs ++ b ∷ [])
last all [] [] n b is new = (new, tt)
last all [] (c ∷ bs) n b is new = absurd is
last all (m ∷ ns) [] n b is new = absurd is
last all (m ∷ ns) (c ∷ bs) n b (one, rest) new = (one, last all ns bs n b rest new)

pub record Known (b : NumberedBodies Block) (ts hs us : List Block) : Type 0 where
  pub threads : Numbered b.all b.threads ts
  pub handlers : Numbered b.all b.handlers hs
  pub cleanups : Numbered b.all b.cleanups us

abbrev tree : Block → Block
tree body = body

abbrev pub thread_blocks : List Decl → List Block
thread_blocks decls = map (λ (d : ThreadDecl). d.body) (filter_map declared_thread decls)

abbrev pub handler_blocks : List Decl → List Block
handler_blocks decls = filter_map (named handler_kind) decls

abbrev pub cleanup_blocks : List Decl → List Block
cleanup_blocks decls = filter_map (named cleanup_kind) decls

known_all : (decls : List Decl) (b : NumberedBodies Block) (ts hs us : List Block) → Known b ts hs us →
    Known (with_decls tree decls b) (ts ++ thread_blocks decls) (hs ++ handler_blocks decls) (us ++ cleanup_blocks decls)
known_all [] b ts hs us is = rw (append-nil ts, append-nil hs, append-nil us) is
known_all (Named name (Thread policy start body) ∷ decls) b ts hs us is =
    let h = known_all decls (with_decl tree (Named name (Thread policy start body)) b) (ts ++ body ∷ []) hs us (record {
      threads = last (b.all ++ body ∷ []) b.threads ts (length b.all) body (front b.all (body ∷ []) b.threads ts is.threads) (get_last b.all body);
      handlers = front b.all (body ∷ []) b.handlers hs is.handlers;
      cleanups = front b.all (body ∷ []) b.cleanups us is.cleanups;
    }) in
    subst (λ (xs : List Block). Known (with_decls tree decls (with_decl tree (Named name (Thread policy start body)) b)) xs (hs ++ handler_blocks decls) (us ++ cleanup_blocks decls)) (append_assoc ts (body ∷ []) (thread_blocks decls)) h
known_all (Named name (Handler body) ∷ decls) b ts hs us is =
    let h = known_all decls (with_decl tree (Named name (Handler body)) b) ts (hs ++ body ∷ []) us (record {
      threads = front b.all (body ∷ []) b.threads ts is.threads;
      handlers = last (b.all ++ body ∷ []) b.handlers hs (length b.all) body (front b.all (body ∷ []) b.handlers hs is.handlers) (get_last b.all body);
      cleanups = front b.all (body ∷ []) b.cleanups us is.cleanups;
    }) in
    subst (λ (xs : List Block). Known (with_decls tree decls (with_decl tree (Named name (Handler body)) b)) (ts ++ thread_blocks decls) xs (us ++ cleanup_blocks decls)) (append_assoc hs (body ∷ []) (handler_blocks decls)) h
known_all (Named name (Cleanup body) ∷ decls) b ts hs us is =
    let h = known_all decls (with_decl tree (Named name (Cleanup body)) b) ts hs (us ++ body ∷ []) (record {
      threads = front b.all (body ∷ []) b.threads ts is.threads;
      handlers = front b.all (body ∷ []) b.handlers hs is.handlers;
      cleanups = last (b.all ++ body ∷ []) b.cleanups us (length b.all) body (front b.all (body ∷ []) b.cleanups us is.cleanups) (get_last b.all body);
    }) in
    subst (λ (xs : List Block). Known (with_decls tree decls (with_decl tree (Named name (Cleanup body)) b)) (ts ++ thread_blocks decls) (hs ++ handler_blocks decls) xs) (append_assoc us (body ∷ []) (cleanup_blocks decls)) h
known_all (Named name (Mutex protocol recursive) ∷ decls) b ts hs us is = known_all decls b ts hs us is
known_all (Named name Cond ∷ decls) b ts hs us is = known_all decls b ts hs us is
known_all (Named name (Sem value) ∷ decls) b ts hs us is = known_all decls b ts hs us is
known_all (Named name (Queue depth max_len nonblock) ∷ decls) b ts hs us is = known_all decls b ts hs us is
known_all (Named name (Timer sig value real) ∷ decls) b ts hs us is = known_all decls b ts hs us is
known_all (Action sig handler ∷ decls) b ts hs us is = known_all decls b ts hs us is

pub known : (script : Script) → Known (bodies_of script.decls) (thread_blocks script.decls) (handler_blocks script.decls) (cleanup_blocks script.decls)
known script = known_all script.decls no_bodies [] [] [] (record { threads = tt; handlers = tt; cleanups = tt })

-- ---- the operations of a body by its number

past_end : {X : Type 0} (xs : List X) (d : X) → slice_index_or xs (length xs) d ≡ d
past_end [] d = refl
past_end (x ∷ xs) d = past_end xs d

ops_at : (all : List Block) (n : ℕ) (b : Block) → slice_get all n ≡ Some b → slice_index_or (map (flat 0) all) n [] ≡ flat 0 b
ops_at [] n b is = cc
ops_at (c ∷ all) zero b is = cc
ops_at (c ∷ all) (suc n) b is = ops_at all n b is

numbered_ops : (all : List Block) (ns : List ℕ) (bs : List Block) (t : ℕ) → Numbered all ns bs →
    slice_index_or (map (flat 0) all) (slice_index_or ns t (length (map (flat 0) all))) [] ≡ flat 0 (slice_index_or bs t Nothing)
numbered_ops all [] [] t is = past_end (map (flat 0) all) []
numbered_ops all [] (b ∷ bs) t is = absurd is
numbered_ops all (n ∷ ns) [] t is = absurd is
numbered_ops all (n ∷ ns) (b ∷ bs) zero (one, rest) = ops_at all n b one
numbered_ops all (n ∷ ns) (b ∷ bs) (suc t) (one, rest) = numbered_ops all ns bs t rest

pub body_ops : (script : Script) (b : BodyOf) → ops_of (code_of script) (number_of (code_of script) b) ≡ flat 0 (body_tree script b)
body_ops script (body_of.Thread t) = let b = bodies_of script.decls in numbered_ops b.all b.threads (thread_blocks script.decls) t (known script).threads
body_ops script (body_of.Cleanup u) = let b = bodies_of script.decls in numbered_ops b.all b.cleanups (cleanup_blocks script.decls) u (known script).cleanups
body_ops script (body_of.Handler h) = let b = bodies_of script.decls in numbered_ops b.all b.handlers (handler_blocks script.decls) h (known script).handlers
