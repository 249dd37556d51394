-- What is shown of a script's kernel is what is shown of the script.
use Rattle.std.proofs.Common.{List, ap, arith, subst, sym, ℕ, ◌∙◌, ◌≡◌, ◌≤◌}
use Rattle.words_script.specs.declared.decl.Script.{Script}
use Rattle.words_script.specs.declared.name_kind.NameKind.TheVariants as kind
use Rattle.script_writer.specs.Names.{names_of}
use Rattle.rules_machine.specs.DueItems.{instant, item_bound}
use Rattle.rules_machine.specs.Runs.{opening, ticks}
use Rattle.rules_machine.specs.WellFormed.{IsWellFormed}
use Rattle.rules_flat_code.specs.FlatBodies.{code_of, flat_bodies}
use Rattle.rules_flat_code.specs.Runnable.{IsRunnable}
use Rattle.rules_facts.specs.Shown.{once_ended, shown, state_text}
use Rattle.laws_facts.proofs.Shows.{flat_shows}
use Rattle.kernel_texts.specs.Numbered.{AreNumbered}
use Rattle.laws_kernel.specs.Counts.{Counts, counts_in, counts_of}
use Rattle.kernel_state.specs.Kernel.{Kernel, after, opened}
use Rattle.kernel_wakes.specs.Calls.{objects_in}
use Rattle.kernel_leaps.specs.Ran.{ticked_by}
use Rattle.kernel_leaps.specs.Shown.{HasFewObjects}
use Rattle.kernel_leaps.proofs.Opened.{script_fits}
use Rattle.kernel_leaps.proofs.ThreadNames.{thread_names}

-- the kernel with the items of its instant handled
abbrev with_items : Kernel → Kernel
with_items k = after (instant (flat_bodies k.code)) k

abbrev text_of : Script → Kernel → List ℕ
text_of script k = state_text script (once_ended k.machine.killed k.machine)

module _ (script : Script) (n : ℕ) (k q : Kernel) (is : k ≡ ticked_by n (opened script)) (state : q ≡ with_items k) where
  items_handled : q ≡ with_items (ticked_by n (opened script))
  items_handled = state ∙ ap with_items is

  pub text_is : text_of script q ≡ shown script n
  text_is = ap (text_of script) items_handled ∙ flat_shows script n

  -- it has as many objects as the script
  pub counts_are : IsRunnable script → IsWellFormed script → counts_of q.machine ≡ counts_in (objects_in (opened script))
  counts_are ok fits =
      let m = (ticks (flat_bodies (code_of script)) n (opening script)).machine in
      ap (λ (x : Kernel). counts_of x.machine) items_handled ∙ ((script_fits script ok fits).each n (item_bound m)).counts

  -- so each has a number
  pub numbered : IsRunnable script → IsWellFormed script → HasFewObjects script → AreNumbered script q.machine
  numbered ok fits few =
      let counts = sym (counts_are ok fits) in
      record {
        mutexes = subst (λ (c : Counts). c.mutexes ≤ 256) counts few.mutexes;
        conditions = few.conditions;
        semaphores = subst (λ (c : Counts). c.semaphores ≤ 256) counts few.semaphores;
        queues = subst (λ (c : Counts). c.queues ≤ 256) counts (omega (arith, ok.few_queues));
      }

  -- and its threads have the names of the script's
  pub named : q.names ≡ names_of kind.Thread script.decls
  named = ap (λ (x : Kernel). x.names) items_handled ∙ thread_names script.decls
