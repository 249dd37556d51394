-- The kernel of a script, before the first tick.
use Rattle.std.proofs.Common.{◌≡◌, ◌<◌, ℕ, zero, suc, List, [], ◌∷◌, ap, arith, length, refl, sym, ◌∙◌, Some}
use Rattle.std.specs.Prelude.{map, slice_get, slice_index, slice_index_or}
use Rattle.std.proofs.lemmas.List.{length-map}
use Rattle.words_script.specs.Block.{Block, Nothing}
use Rattle.words_script.specs.declared.decl.Script.{Script}
use Rattle.rules_bodies.specs.Flat as flat
use Rattle.rules_bodies.specs.Next.{body_start}
use Rattle.rules_bodies.proofs.Opens.{is_body_of_script}
use Rattle.rules_bodies.specs.declared.cursor.Cursor.{Cursor}
use Rattle.rules_machine.specs.Declarations.{ThreadDecl, threads_of}
use Rattle.rules_machine.specs.Machine.{names_of}
use Rattle.rules_machine.specs.Runs.{thread_opened}
use Rattle.rules_flat_code.proofs.Numbered.{Numbered, cleanup_blocks, handler_blocks, known, thread_blocks}
use Rattle.rules_flat_code.specs.FlatBodies.{code_of}
use Rattle.rules_flat_code.specs.Runnable.{IsRunnable}
use Rattle.kernel_threads.specs.Handlers.{CatchersBegin, HandlerBegins, HandlersBegin}
use Rattle.kernel_state.specs.Tied.{IsTied}

-- a number that is there does not depend on what stands past the end
pub number_known : (ns : List ℕ) (t d : ℕ) → t < length ns → slice_index_or ns t d ≡ slice_index ns t
number_known [] t d lt = absurd (omega arith)
number_known (n ∷ ns) zero d lt = refl
number_known (n ∷ ns) (suc t) d lt = number_known ns t d (omega arith)

-- ---- the code is that of the threads

numbered_length : (all : List Block) (ns : List ℕ) (bs : List Block) → Numbered all ns bs → length ns ≡ length bs
numbered_length all [] [] is = refl
numbered_length all [] (b ∷ bs) is = absurd is
numbered_length all (n ∷ ns) [] is = absurd is
numbered_length all (n ∷ ns) (b ∷ bs) (one, rest) = ap suc (numbered_length all ns bs rest)

there : (all : List Block) (n : ℕ) (b : Block) → slice_get all n ≡ Some b → n < length all
there [] n b is = cc
there (x ∷ all) zero b is = omega arith
there (x ∷ all) (suc n) b is = let h = there all n b is in omega (arith, h)

numbered_there : (all : List Block) (ns : List ℕ) (bs : List Block) (t : ℕ) → Numbered all ns bs → t < length ns → slice_index ns t < length all
numbered_there all [] bs t is lt = absurd (omega arith)
numbered_there all (n ∷ ns) [] t is lt = absurd is
numbered_there all (n ∷ ns) (b ∷ bs) zero (one, rest) lt = there all n b one
numbered_there all (n ∷ ns) (b ∷ bs) (suc t) (one, rest) lt = numbered_there all ns bs t rest (omega arith)

-- ---- each cleanup handler begins at a place of the code

numbered_at : (all : List Block) (ns : List ℕ) (bs : List Block) (t : ℕ) → Numbered all ns bs → t < length ns → slice_get all (slice_index ns t) ≡ Some (slice_index_or bs t Nothing)
numbered_at all [] bs t is lt = absurd (omega arith)
numbered_at all (n ∷ ns) [] t is lt = absurd is
numbered_at all (n ∷ ns) (b ∷ bs) zero (one, rest) lt = one
numbered_at all (n ∷ ns) (b ∷ bs) (suc t) (one, rest) lt = numbered_at all ns bs t rest (omega arith)

pub handlers_opening : (script : Script) → IsRunnable script → HandlersBegin (code_of script)
handlers_opening script ok = record { each = begins }
  where
    b : flat.NumberedBodies Block
    b = flat.bodies_of script.decls

    begins : (u : ℕ) → u < length (code_of script).cleanups → HandlerBegins (code_of script) u
    begins u lt =
        let here = numbered_at b.all b.cleanups (cleanup_blocks script.decls) u (known script).cleanups lt in
        let block = slice_index_or (cleanup_blocks script.decls) u Nothing in
        let below = there b.all (slice_index b.cleanups u) block here in
        record {
          there = omega (arith, below, length-map b.all (flat.flat 0));
          placed = record {
            body = block;
            is_body = is_body_of_script b (code_of script) (slice_index b.cleanups u) block refl ok.flattenable here;
            place = body_start;
            stands = record { at = refl; passes = refl; register = omega arith };
          };
        }

-- and each handler of a signal has a body
pub catchers_opening : (script : Script) → CatchersBegin (code_of script)
catchers_opening script =
    let b = flat.bodies_of script.decls in
    record { each = λ h lt. (let below = numbered_there b.all b.handlers (handler_blocks script.decls) h (known script).handlers lt in omega (arith, below, length-map b.all (flat.flat 0))) }

pub code_threads : (script : Script) → length (code_of script).threads ≡ length (threads_of script)
code_threads script =
    let b = flat.bodies_of script.decls in
    numbered_length b.all b.threads (thread_blocks script.decls) (known script).threads ∙ length-map (threads_of script) (λ (d : ThreadDecl). d.body)

pub tied_opening : (script : Script) → IsRunnable script → IsTied (names_of script) (code_of script) (length (map (thread_opened {P = Cursor}) (threads_of script))) (map thread_opened (threads_of script)) []
tied_opening script ok =
    let b = flat.bodies_of script.decls in
    let ds = threads_of script in
    let opened : length (map (thread_opened {P = Cursor}) ds) ≡ length ds = length-map ds (thread_opened {P = Cursor}) in
    let named : length (names_of script) ≡ length ds = length-map ds (λ (d : ThreadDecl). d.name) in
    record {
      few = omega (arith, ok.few, opened);
      named = named ∙ sym opened;
      listed = refl;
      known = λ k d lt. absurd (omega arith);
      handlers = handlers_opening script ok;
      catchers = catchers_opening script;
      bodies = record {
        numbered = code_threads script ∙ sym named;
        each = λ t lt. (let h = numbered_there b.all b.threads (thread_blocks script.decls) t (known script).threads (omega (arith, code_threads script, named)) in omega (arith, h, length-map b.all (flat.flat 0)));
      };
    }
