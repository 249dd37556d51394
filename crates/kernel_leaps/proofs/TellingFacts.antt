-- The facts that `detail` tells at an instant, from the texts of the facts before and now.
use Rattle.std.proofs.Common.{◌≡◌, ◌+◌, ◌∙◌, ℕ, List, Option, [], ◌∷◌, ap, length, map, refl, sym, true}
use Rattle.words_script.specs.declared.decl.Decl.{Decl}
use Rattle.words_script.specs.declared.decl.Script.{Script}
use Rattle.script_lex.specs.Joined.{joined_words}
use Rattle.rules_bodies.specs.Next.{Place}
use Rattle.rules_bodies.specs.declared.cursor.Cursor.{Cursor}
use Rattle.rules_machine.specs.Declarations.{actions_of}
use Rattle.rules_machine.specs.DueItems.{instant, item_bound}
use Rattle.rules_machine.specs.Runs.{Ran, opening, ticks}
use Rattle.rules_machine.specs.State.{Machine}
use Rattle.rules_machine.specs.Turns.{turn_of}
use Rattle.rules_machine.specs.WellFormed.{IsWellFormed}
use Rattle.rules_flat_code.specs.FlatBodies.{code_of, flat_bodies}
use Rattle.rules_flat_code.specs.Runnable.{IsRunnable}
use Rattle.rules_facts.specs.Detail.{machine_before}
use Rattle.rules_facts.specs.Fact.{Fact}
use Rattle.rules_facts.specs.Facts.{facts}
use Rattle.rules_facts.specs.Shown.{once_ended, shown_machine}
use Rattle.rules_facts.specs.Spelled.{subject}
use Rattle.laws_flat_code.specs.Places.{carry}
use Rattle.laws_flat_code.proofs.Agrees.{flat_runs}
use Rattle.laws_facts.specs.Shows.{shown_of}
use Rattle.laws_facts.proofs.CarriedFacts.{facts_carry}
use Rattle.laws_detail.specs.Looks.{facts_told}
use Rattle.laws_detail.specs.Subjects.{HaveSameSizes}
use Rattle.laws_detail.proofs.Flat.{flat_tells_the_same}
use Rattle.laws_detail.proofs.Subjects.{subjects_same}
use Rattle.kernel_texts.specs.Rows.{left_out}
use Rattle.kernel_texts.specs.Changed.{HaveSameSubjects, changed_lines}
use Rattle.kernel_texts.specs.Kept.{texts_of}
use Rattle.kernel_texts.specs.Picked.{left_in}
use Rattle.kernel_texts.specs.Subjects.{subjects_of}
use Rattle.kernel_texts.proofs.Whole.{ended_state}
use Rattle.kernel_looks.proofs.Changing.{texts_are}
use Rattle.laws_kernel.specs.Counts.{Counts}
use Rattle.kernel_state.specs.Kernel.{opened}
use Rattle.kernel_wakes.specs.Calls.{objects_in}
use Rattle.kernel_leaps.specs.Detail.{AreBefore, AreReady, StayIfIdle}
use Rattle.kernel_leaps.specs.Fits.{Fits}
use Rattle.kernel_leaps.specs.declared.fact_texts.FactTexts.{FactTexts}
use Rattle.kernel_leaps.proofs.Opened.{script_fits}

-- facts with the same subjects have the same texts of them
map_again : {X Y Z : Type 0} (f : X → Y) (g : Y → Z) (xs : List X) → map (λ (x : X). g (f x)) xs ≡ map g (map f xs)
map_again f g [] = refl
map_again {Z = Z} f g (x ∷ xs) = ap (λ (zs : List Z). g (f x) ∷ zs) (map_again f g xs)

pub same_texts : (decls : List Decl) (before after : List Fact) → HaveSameSubjects decls before after → subjects_of decls before ≡ subjects_of decls after
same_texts decls before after same =
    map_again (subject decls) joined_words before ∙ ap (map joined_words) same ∙ sym (map_again (subject decls) joined_words after)

-- the facts of the instant that so many ticks of the flat run lead to are the script's
pub shown_here : (script : Script) (n : ℕ) → facts script (shown_of (flat_bodies (code_of script)) (ticks (flat_bodies (code_of script)) n (opening script)).machine) ≡ facts script (shown_machine script n)
shown_here script n = (flat_tells_the_same script n).told

-- what was told and what is told now give the lines of the facts that change
pub changed_here : (script : Script) (n : ℕ) (subjects before lines : List (List ℕ)) → HaveSameSubjects script.decls (facts script (machine_before script n)) (facts script (shown_machine script n))
    → subjects ≡ subjects_of script.decls (facts script (machine_before script n)) → before ≡ texts_of script.decls (facts script (machine_before script n))
    → lines ≡ texts_of script.decls (facts script (shown_machine script n)) → changed_lines n subjects before lines ≡ facts_told script n
changed_here script n subjects before lines same s b l =
    texts_are n subjects before lines script.decls (facts script (machine_before script n)) (facts script (shown_machine script n)) same
    (s ∙ same_texts script.decls (facts script (machine_before script n)) (facts script (shown_machine script n)) same) b l

-- ---- the subjects are those of the opening state

-- without the record that ended the process the rest of a machine is the same
ended_same : {X : Type 0} (f : Machine Cursor → X) (m : Machine Cursor) → ((o : Option ℕ) → f (left_in o m) ≡ f m) → f (once_ended m.killed m) ≡ f m
ended_same f m same = ap f (sym (ended_state m)) ∙ same (left_out m)

pub opened_facts : (script : Script) → facts script (opening {P = Cursor} script) ≡ facts script (opening {P = Place} script)
opened_facts script = ap (λ (r : Ran Cursor). facts script r.machine) (flat_runs script 0) ∙ facts_carry (carry script) script (opening script)

module _ (script : Script) (ok : IsRunnable script) (fits : IsWellFormed script) (n : ℕ) where
  abbrev here : Machine Cursor
  here = (ticks (flat_bodies (code_of script)) n (opening script)).machine

  abbrev ready : Machine Cursor
  ready = (instant (flat_bodies (code_of script)) (turn_of here)).machine

  fits_here : Fits (objects_in (opened script)) (code_of script) ready
  fits_here = (script_fits script ok fits).each n (item_bound here)

  fits_opened : Fits (objects_in (opened script)) (code_of script) (opening script)
  fits_opened = (script_fits script ok fits).each 0 0

  module _ (signals : length ready.actions ≡ 32) (declared : length (actions_of script) ≡ 32) where
    sizes : HaveSameSizes (once_ended ready.killed ready) (opening script)
    sizes =
        let counts = fits_here.counts in
        record {
          lists = ended_same (λ (m : Machine Cursor). length m.lists) ready (λ o. refl) ∙ fits_here.good.lists.each_priority ∙ sym fits_opened.good.lists.each_priority;
          threads = ended_same (λ (m : Machine Cursor). length m.threads) ready (λ o. refl) ∙ fits_here.threads ∙ sym fits_opened.threads;
          mutexes = ended_same (λ (m : Machine Cursor). length m.mutexes) ready (λ o. refl) ∙ ap (λ (c : Counts). c.mutexes) counts;
          semaphores = ended_same (λ (m : Machine Cursor). length m.semaphores) ready (λ o. refl) ∙ ap (λ (c : Counts). c.semaphores) counts;
          queues = ended_same (λ (m : Machine Cursor). length m.queues) ready (λ o. refl) ∙ ap (λ (c : Counts). c.queues) counts;
          timers = ended_same (λ (m : Machine Cursor). length m.timers) ready (λ o. refl) ∙ ap (λ (c : Counts). c.timers) counts;
          actions = ended_same (λ (m : Machine Cursor). length m.actions) ready (λ o. refl) ∙ signals ∙ sym declared;
        }

    pub same_here : HaveSameSubjects script.decls (facts script (shown_machine script n)) (facts script (opening {P = Place} script))
    same_here =
        ap (map (subject script.decls)) (sym (shown_here script n))
        ∙ subjects_same script (once_ended ready.killed ready) (opening script) sizes
        ∙ ap (map (subject script.decls)) (opened_facts script)

-- ---- from one instant to a later one

module _ (script : Script) (ok : IsRunnable script) (fits : IsWellFormed script) (n : ℕ) (old : FactTexts) (before : AreBefore script n old)
    (signals : length (instant (flat_bodies (code_of script)) (turn_of (ticks (flat_bodies (code_of script)) n (opening script)).machine)).machine.actions ≡ 32) where
  -- the subjects stay
  pub same_now : HaveSameSubjects script.decls (facts script (machine_before script n)) (facts script (shown_machine script n))
  same_now = before.same ∙ sym (same_here script ok fits n signals before.signals)

  -- what changes at this instant
  pub changed_now : (lines : List (List ℕ)) → lines ≡ texts_of script.decls (facts script (shown_machine script n)) → changed_lines n old.desk.subjects.texts old.desk.told.texts lines ≡ facts_told script n
  changed_now lines is = changed_here script n old.desk.subjects.texts old.desk.told.texts lines same_now before.subjects before.told is

  -- what is told before a later one, where the facts stay up to it
  pub before_later : (j : ℕ) → facts script (machine_before script (n + j)) ≡ facts script (shown_machine script n) → (new : FactTexts) → new.desk.subjects.texts ≡ old.desk.subjects.texts
      → new.desk.told.texts ≡ texts_of script.decls (facts script (shown_machine script n)) → AreReady script new → (new.are_steady ≡ true → StayIfIdle script (n + j)) → AreBefore script (n + j) new
  before_later j stay new subjects told ready steady = record {
    subjects =
        subjects ∙ before.subjects
        ∙ same_texts script.decls (facts script (machine_before script n)) (facts script (shown_machine script n)) same_now
        ∙ ap (subjects_of script.decls) (sym stay);
    told = told ∙ ap (texts_of script.decls) (sym stay);
    same = ap (map (subject script.decls)) stay ∙ same_here script ok fits n signals before.signals;
    signals = before.signals;
    ready = ready;
    steady = steady;
  }
