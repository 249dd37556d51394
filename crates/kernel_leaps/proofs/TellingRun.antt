-- A run that is told leap by leap: what is told of it goes on, and stays once the process has ended.
use Rattle.std.proofs.Common.{◌≡◌, ◌≤◌, ◌+◌, ◌-◌, ◌++◌, ◌∙◌, ℕ, zero, suc, List, None, Option, Some, [], ap, append_assoc, append-nil, arith, false, refl, subst, sym, true}
use Rattle.words_script.specs.declared.decl.Script.{Script}
use Rattle.rules_bodies.specs.declared.cursor.Cursor.{Cursor}
use Rattle.rules_machine.specs.Machine.{closing, names_of, run}
use Rattle.rules_machine.specs.Runs.{Ran, opening, ticks}
use Rattle.rules_machine.specs.WellFormed.{IsWellFormed}
use Rattle.rules_flat_code.specs.FlatBodies.{code_of, flat_bodies}
use Rattle.rules_facts.specs.Detail.{detail}
use Rattle.laws_places.proofs.CarriedTrace.{closing_carries}
use Rattle.laws_flat_code.specs.Places.{carry}
use Rattle.laws_flat_code.proofs.Agrees.{flat_runs}
use Rattle.laws_detail.specs.Looks.{told_until}
use Rattle.laws_detail.proofs.Looks.{is_told}
use Rattle.kernel_state.specs.Kernel.{Kernel, opened}
use Rattle.kernel_settling.specs.Stood.{StoodRight}
use Rattle.kernel_leaps.specs.Detail.{AreBefore, GoesOn, IsAfterQuietTick, Writes, told_by}
use Rattle.kernel_leaps.specs.Ran.{ticked_by}
use Rattle.kernel_leaps.specs.declared.detail.Reached.{Reached}
use Rattle.kernel_leaps.specs.declared.fact_texts.FactTexts.{FactTexts}
use Rattle.kernel_leaps.proofs.Ending.{ended_ticks}
use Rattle.kernel_leaps.proofs.Telling.{told_flat}
use Rattle.kernel_leaps.proofs.TellingTick.{with_items, writes_both, writes_stopped}

-- what is told of one run begins with what is told of a shorter one
pub record Longer (script : Script) (n h : ℕ) : Type 0 where
  pub rest : List ℕ
  pub is : told_by script h ≡ told_by script n ++ rest

module _ (script : Script) (fits : IsWellFormed script) where
  -- once the process has ended nothing more is told
  pub ended_told : (n d signal : ℕ) → (ticks (flat_bodies (code_of script)) n (opening script)).machine.killed ≡ Some signal → told_by script (n + d) ≡ told_by script n
  ended_told n d signal dead =
      told_flat script (n + d)
      ∙ ap (λ (r : Ran Cursor). told_until script r.events r.machine.now) (ended_ticks (flat_bodies (code_of script)) n d (opening script) signal dead)
      ∙ sym (told_flat script n)

  pub ended_state : (n d signal : ℕ) → (ticks (flat_bodies (code_of script)) n (opening script)).machine.killed ≡ Some signal → ticked_by (n + d) (opened script) ≡ ticked_by n (opened script)
  ended_state n d signal dead =
      ap (λ (r : Ran Cursor). record (opened script) { machine = r.machine }) (ended_ticks (flat_bodies (code_of script)) n d (opening script) signal dead)

  one_longer : (n : ℕ) → Longer script n (n + 1)
  one_longer n = by_killed (ticks (flat_bodies (code_of script)) n (opening script)).machine.killed refl
    where
      by_killed : (o : Option ℕ) → (ticks (flat_bodies (code_of script)) n (opening script)).machine.killed ≡ o → Longer script n (n + 1)
      by_killed None alive = let begins = with_items script fits n alive in record { rest = _; is = begins.is }
      by_killed (Some signal) dead = record { rest = []; is = ended_told n 1 signal dead ∙ sym (append-nil (told_by script n)) }

  pub longer : (n d : ℕ) → Longer script n (n + d)
  longer n zero = let same : n + 0 ≡ n = omega arith in record { rest = []; is = ap (told_by script) same ∙ sym (append-nil (told_by script n)) }
  longer n (suc d) =
      let before = longer n d in
      let one = one_longer (n + d) in
      let on : n + suc d ≡ n + d + 1 = omega arith in
      record {
        rest = before.rest ++ one.rest;
        is = ap (told_by script) on ∙ one.is ∙ ap (λ (xs : List ℕ). xs ++ one.rest) before.is ∙ append_assoc (told_by script n) before.rest one.rest;
      }

-- what is told of the whole run, and the closing lines
pub detail_is : (script : Script) (h : ℕ) → detail script h ≡ told_by script h ++ closing (names_of script) (ticks (flat_bodies (code_of script)) h (opening script)).machine
detail_is script h =
    (is_told script).whole h
    ∙ ap (λ (xs : List ℕ). told_by script h ++ xs)
    (sym (ap (λ (r : Ran Cursor). closing (names_of script) r.machine) (flat_runs script h) ∙ closing_carries (carry script) (names_of script) (run script h).machine))

-- where a run of so many ticks stands that has been told so far
pub record Telling {K : Type 0} (text : K → Option (List ℕ)) (faults : K → ℕ) (script : Script) (total : ℕ) (at : Reached) (p : Kernel) (t : FactTexts) (a b : K) : Type 0 where
  pub all : at.done + at.left ≡ total
  pub state : p ≡ ticked_by at.done (opened script)
  pub alive : p.machine.killed ≡ None
  pub stood : StoodRight p.machine
  pub before : AreBefore script at.done t
  pub writes : Writes text faults a b false (told_by script at.done)
  pub quiet : at.is_quiet ≡ true → IsAfterQuietTick script at.done

module _ {K : Type 0} (text : K → Option (List ℕ)) (faults : K → ℕ) (script : Script) (n : ℕ) where
  -- what follows is written
  pub goes_further : (later : ℕ) (a b c : K) → Writes text faults a b false (told_by script n) → GoesOn text faults script n later b c false → Writes text faults a c false (told_by script later)
  goes_further later a b c written on =
      subst (Writes text faults a c false) (sym on.told) (writes_both text faults a b c false false (told_by script n) on.due refl written on.writes)

  -- or the writing stops in it, whatever was to come
  pub stops_in : (fits : IsWellFormed script) (later total : ℕ) → later ≤ total → (a b c : K) → Writes text faults a b false (told_by script n) → GoesOn text faults script n later b c true
      → Writes text faults a c true (told_by script total)
  stops_in fits later total within a b c written on =
      let more = longer script fits later (total - later) in
      let all : later + (total - later) ≡ total = omega (arith, within) in
      subst (Writes text faults a c true) (sym (ap (told_by script) (sym all) ∙ more.is ∙ ap (λ (xs : List ℕ). xs ++ more.rest) on.told))
      (writes_stopped text faults a c true (told_by script n ++ on.due) more.rest refl (writes_both text faults a b c false true (told_by script n) on.due refl written on.writes))
