-- The text of a run over other places is the text of the script's run.
use Rattle.std.proofs.Common.{List, [], ap, refl, sym, ℕ, ◌+◌, ◌++◌, ◌∷◌, ◌≡◌}
use Rattle.std.specs.Prelude.{map}
use mathlib.Core.Path.{◌∙◌}
use Rattle.words_script.specs.declared.decl.Script.{Script}
use Rattle.rules_bodies.specs.Next.{Place}
use Rattle.words_trace.specs.declared.event.Event.TheVariants as event
use Rattle.words_trace.specs.Text.{line, lines, report_line}
use Rattle.rules_machine.specs.declared.frame.BodyOf.{BodyOf}
use Rattle.rules_machine.specs.Bodies.{Bodies}
use Rattle.rules_machine.specs.State.{Machine, Thread}
use Rattle.rules_machine.specs.Declarations.{ThreadDecl, threads_of}
use Rattle.rules_machine.specs.Runs.{Ran, opening, thread_opened, ticks}
use Rattle.rules_machine.specs.Machine.{bodies_of, closing, names_of, report_of, reports, trace}
use Rattle.laws_places.specs.Carried.{Agree, ran_carried}
use Rattle.laws_places.specs.TextOver.{text_over}
use Rattle.laws_places.proofs.CarriedReads.{C, M}
use Rattle.laws_places.proofs.CarriedTicks.{ticks_carry}

module _ {P Q : Type 0} (carry : BodyOf → P → Q) where
  -- no frame is open at the opening
  opened_carry : (ds : List ThreadDecl) → map (C carry) (map thread_opened ds) ≡ map thread_opened ds
  opened_carry [] = refl
  opened_carry (d ∷ ds) = ap (λ (ths : List (Thread Q)). thread_opened d ∷ ths) (opened_carry ds)

  pub opening_carries : (script : Script) → M carry (opening script) ≡ opening script
  opening_carries script = ap (λ (ths : List (Thread Q)). record (opening script) { threads = ths }) (opened_carry (threads_of script))

  -- the closing lines say nothing of places
  reports_carry : (names : List (List ℕ)) (t : ℕ) (ths : List (Thread P)) → reports names t (map (C carry) ths) ≡ reports names t ths
  reports_carry names t [] = refl
  reports_carry names t (th ∷ ths) = ap (λ (text : List ℕ). report_line names t (report_of th) ++ text) (reports_carry names (t + 1) ths)

  pub closing_carries : (names : List (List ℕ)) (m : Machine P) → closing names (M carry m) ≡ closing names m
  closing_carries names m = ap (λ (text : List ℕ). line names m.now event.End ++ text) (reports_carry names 0 m.threads)

  -- so many ticks from the opening are the same over both
  pub runs_carry : (p : Bodies P) (q : Bodies Q) → Agree carry p q → (script : Script) (n : ℕ) →
      ticks q n (opening script) ≡ ran_carried carry (ticks p n (opening script))
  runs_carry p q a script n =
      let opened : M carry (opening script) ≡ opening script = opening_carries script in
      sym (ap (ticks q n) opened) ∙ ticks_carry carry p q a n (opening script)

-- where they know the same of the script's bodies, it is the script's trace
pub trace_over : {Q : Type 0} (carry : BodyOf → Place → Q) (script : Script) (q : Bodies Q) → Agree carry (bodies_of script) q → (n : ℕ) →
    text_over q script n ≡ trace script n
trace_over {Q} carry script q a n =
    let done = ticks (bodies_of script) n (opening script) in
    ap (λ (r : Ran Q). lines (names_of script) r.events ++ closing (names_of script) r.machine) (runs_carry carry (bodies_of script) q a script n)
    ∙ ap (λ (text : List ℕ). lines (names_of script) done.events ++ text) (closing_carries carry (names_of script) done.machine)
