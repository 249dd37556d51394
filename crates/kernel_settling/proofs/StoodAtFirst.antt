-- Before the first tick all threads stand right, as none can run.
use Rattle.std.proofs.Common.{◌≡◌, ℕ, zero, suc, List, [], ◌∷◌, Bool, true, false, ap, arith, refl, sym, replicate, ◌∙◌}
use Rattle.std.specs.Prelude.{map, slice_index_or}
use Rattle.words_script.specs.declared.decl.Script.{Script}
use Rattle.rules_lists.specs.Threads.{times}
use Rattle.rules_bodies.specs.declared.cursor.Cursor.{Cursor}
use Rattle.rules_machine.specs.Declarations.{ThreadDecl, threads_of}
use Rattle.rules_machine.specs.Threads.{is_runnable, no_thread}
use Rattle.rules_machine.specs.Runs.{opening, thread_opened}
use Rattle.kernel_settling.specs.Settled.{HavePriorities}
use Rattle.kernel_settling.specs.Stood.{StoodRight}

none_runs : (ds : List ThreadDecl) (t : ℕ) → is_runnable (slice_index_or (map (thread_opened {P = Cursor}) ds) t no_thread).status ≡ false
none_runs [] t = refl
none_runs (d ∷ ds) zero = refl
none_runs (d ∷ ds) (suc t) = none_runs ds t

abbrev none : List ℕ
none = []

empty_at : (n i : ℕ) → slice_index_or (replicate n none) i none ≡ none
empty_at zero i = refl
empty_at (suc n) zero = refl
empty_at (suc n) (suc i) = empty_at n i

no_times : (t : ℕ) (us : List ℕ) → us ≡ none → times t us ≡ 0
no_times t us e = ap (times t) e

not_both : {X : Type 0} (b : Bool) → b ≡ false → b ≡ true → X
not_both b off on = let a : true ≡ false = sym on ∙ off in absurd cc

pub stood_opening : (script : Script) → HavePriorities (opening {P = Cursor} script) → StoodRight (opening {P = Cursor} script)
stood_opening script fits = record {
  every = refl;
  within = λ t. (let s = fits.small t in omega (arith, s));
  positive = λ t runs. not_both _ (none_runs (threads_of script) t) runs;
  runs = λ t i runs. not_both _ (none_runs (threads_of script) t) runs;
  others = λ t i off. no_times t (slice_index_or (replicate 255 none) i none) (empty_at 255 i);
}
