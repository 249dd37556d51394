-- What holds of the kernel of a script before the first tick, and from then on.
use Rattle.std.proofs.Common.{◌≡◌, ◌∙◌, ℕ, ap, length, subst, sym}
use Rattle.std.proofs.lemmas.List.{length-map}
use Rattle.words_script.specs.declared.decl.Script.{Script}
use Rattle.rules_bodies.specs.Flat as flat
use Rattle.rules_machine.specs.Budget.{KeepsBudgets}
use Rattle.rules_machine.specs.Declarations.{ThreadDecl, cleanups_of, threads_of}
use Rattle.rules_machine.specs.Threads.{thread_at}
use Rattle.rules_machine.specs.Throughout.{after_items}
use Rattle.rules_machine.specs.Machine.{names_of}
use Rattle.rules_machine.specs.DueItems.{item_bound}
use Rattle.rules_machine.specs.Runs.{opening, ticks}
use Rattle.rules_machine.specs.WellFormed.{IsWellFormed}
use Rattle.rules_flat_code.proofs.Numbered.{cleanup_blocks, known}
use Rattle.rules_flat_code.specs.FlatBodies.{code_of, flat_bodies}
use Rattle.rules_flat_code.specs.KnownCalls.{Objects, objects_of}
use Rattle.rules_flat_code.specs.Runnable.{IsRunnable}
use Rattle.laws_machine.proofs.Budgets.Kept.{run_budgets}
use Rattle.laws_machine.proofs.Good.{lists_throughout, serials_throughout, swept_throughout}
use Rattle.laws_machine.proofs.Items.{mutexes_throughout, servers_throughout, signals_throughout, waits_throughout}
use Rattle.laws_machine.proofs.Servers.Latest.{latest_throughout}
use Rattle.laws_leaps.proofs.Leaps.Scripts.{stays_ready}
use Rattle.laws_threads.proofs.Frames.{all_placed}
use Rattle.laws_threads.proofs.Within.{threads_are_within}
use Rattle.kernel_state.specs.Kernel.{Kernel, opened}
use Rattle.kernel_wakes.specs.Calls.{objects_in}
use Rattle.laws_kernel.proofs.HeldLaw.{calls_known}
use Rattle.laws_kernel.proofs.Kept.{as_many, placeable, stand_after, states_fit}
use Rattle.laws_kernel.proofs.Ranges.{flat_bodies_fit}
use Rattle.kernel_leaps.specs.Fits.{CanLeap, Fits, StaysFit}
use Rattle.kernel_leaps.proofs.Pushing.{push_room}
use Rattle.kernel_leaps.proofs.Ticking.{can_tick}

-- ---- the objects of the kernel are those of the script

pub objects_opened : (script : Script) → objects_in (opened script) ≡ objects_of script
objects_opened script =
    let b = flat.bodies_of script.decls in
    let cleanups : length (code_of script).cleanups ≡ length (cleanups_of script) = as_many b.all b.cleanups (cleanup_blocks script.decls) (known script).cleanups in
    let threads : length (names_of script) ≡ length (threads_of script) = length-map (threads_of script) (λ (d : ThreadDecl). d.name) in
    ap (λ (n : ℕ). record (objects_of script) { threads = n; cleanups = length (code_of script).cleanups }) threads
    ∙ ap (λ (n : ℕ). record (objects_of script) { cleanups = n }) cleanups

-- ---- and so the run fits

module _ (script : Script) (ok : IsRunnable script) (fits : IsWellFormed script) where
  fits_after : (n most : ℕ) → Fits (objects_of script) (code_of script) (after_items (flat_bodies (code_of script)) (opening script) n most)
  fits_after n most =
      let bodies = flat_bodies (code_of script) in
      let m = after_items bodies (opening script) n most in
      let ranges = flat_bodies_fit script fits.priorities in
      let stand = stand_after script ok fits n most in
      let kernel = (states_fit script ok fits).each n most in
      record {
        items = record { waits = kernel.waits; pends = kernel.pends; signals = kernel.signals; rests_low = kernel.rests_low };
        joins = kernel.joins;
        top = λ t e. record {
          can = can_tick script (placeable script ok fits) (calls_known script ok) (thread_at m t) (stand t) (push_room script fits n most t);
          placed = all_placed (code_of script) (thread_at m t).frames (stand t).all;
          room = ((threads_are_within script).over_code.each n most).each t;
        };
        serial = kernel.serial;
        threads = kernel.threads;
        counts = kernel.counts;
        sweeps = kernel.sweeps;
        latest = (latest_throughout bodies ranges script fits).each n most;
        good = record {
          lists = (lists_throughout bodies ranges script fits).each n most;
          mutexes = (mutexes_throughout bodies ranges script fits).each n most;
          servers = (servers_throughout bodies ranges script fits).each n most;
          waits = (waits_throughout bodies ranges script fits).each n most;
          signals = (signals_throughout bodies ranges script fits).each n most;
          serials = (serials_throughout bodies ranges script fits).each n most;
          swept = (swept_throughout bodies ranges script fits).each n most;
        };
      }

  leaps_after : (n : ℕ) → CanLeap (flat_bodies (code_of script)) (ticks (flat_bodies (code_of script)) n (opening script)).machine
  leaps_after n =
      let bodies = flat_bodies (code_of script) in
      let ranges = flat_bodies_fit script fits.priorities in
      let ready = stays_ready bodies ranges script fits n in
      record {
        still = ready.still;
        handled = record {
          nothing = ready.handled.nothing;
          lists = (lists_throughout bodies ranges script fits).each n (item_bound (ticks bodies n (opening script)).machine);
          swept = ready.handled.swept;
        };
        slices = ready.slices;
      }

  pub script_fits : StaysFit (opened script) (objects_in (opened script))
  script_fits = record {
    each = λ n most.
        subst (λ (o : Objects). Fits o (code_of script) (after_items (flat_bodies (code_of script)) (opening script) n most)) (sym (objects_opened script)) (fits_after n most);
    leaps = leaps_after;
  }

-- and each server keeps its budget, at each instant of a run and between its items
pub budgets_kept : (script : Script) → IsWellFormed script → (k : Kernel) → k ≡ opened script → (n most : ℕ) → KeepsBudgets (flat_bodies k.code) k.machine n most
budgets_kept script fits k is n most =
    subst (λ (x : Kernel). KeepsBudgets (flat_bodies x.code) x.machine n most) (sym is)
    (run_budgets (flat_bodies (code_of script)) (flat_bodies_fit script fits.priorities) script fits n most)
