-- What is written of a leap more, piece by piece.
use Rattle.std.proofs.Common.{◌≡◌, ◌≤◌, ◌∙◌, ◌+◌, ◌++◌, ℕ, Bool, List, None, Option, Some, [], ap, append_assoc, append-nil, arith, false, refl, subst, sym, true}
use Rattle.words_script.specs.declared.decl.Script.{Script}
use Rattle.words_trace.specs.Text.{lines}
use Rattle.rules_machine.specs.DueItems.{instant}
use Rattle.rules_machine.specs.Machine.{names_of}
use Rattle.rules_machine.specs.Ticks.{prepares}
use Rattle.rules_machine.specs.WellFormed.{IsWellFormed}
use Rattle.rules_leaps.specs.Leap.{leap_length, leap_runs, length_from}
use Rattle.script_printer.specs.Puts.{outlet}
use Rattle.script_printer.proofs.Puts.{put_both, put_silent}
use Rattle.laws_detail.specs.Looks.{facts_told, facts_told_from}
use Rattle.kernel_state.specs.Kernel.{told}
use Rattle.kernel_leaps.specs.Detail.{GoesOn, Writes, told_by}
use Rattle.kernel_leaps.proofs.Telling.{items_told, k, l, leap_told, m, p, q, ready, to}

-- what is told of one tick more begins so
pub record Begins (script : Script) (n : ℕ) (front : List ℕ) : Type 0 where
  pub rest : List ℕ
  pub is : told_by script (n + 1) ≡ told_by script n ++ (front ++ rest)

module _ {K : Type 0} (text : K → Option (List ℕ)) (faults : K → ℕ) where
  -- one text behind the other, where the first was written
  pub writes_both : (a b c : K) (v w : Bool) (xs ys : List ℕ) → v ≡ false → Writes text faults a b v xs → Writes text faults b c w ys → Writes text faults a c w (xs ++ ys)
  writes_both a b c v w xs ys good first second =
      put_both (outlet text faults false a) (outlet text faults false b) (outlet text faults w c) xs ys (subst (λ (x : Bool). Writes text faults a b x xs) good first) second

  -- where a write failed, more may have been due
  pub writes_stopped : (a b : K) (v : Bool) (xs ys : List ℕ) → v ≡ true → Writes text faults a b v xs → Writes text faults a b true (xs ++ ys)
  writes_stopped a b v xs ys failed first =
      put_both (outlet text faults false a) (outlet text faults true b) (outlet text faults true b) xs ys (subst (λ (x : Bool). Writes text faults a b x xs) failed first) (put_silent (outlet text faults true b) ys refl)

  pub stops_there : (script : Script) (n : ℕ) (front : List ℕ) (a b : K) (v : Bool) → v ≡ true → Begins script n front → Writes text faults a b v front → GoesOn text faults script n (n + 1) a b true
  stops_there script n front a b v failed begins writes = record { due = front ++ begins.rest; told = begins.is; writes = writes_stopped a b v front begins.rest failed writes }

-- of one tick the facts are told once
pub told_once : (script : Script) (n : ℕ) → facts_told_from script n 1 ≡ facts_told script n
told_once script n = append-nil (facts_told script n)

module _ (script : Script) (fits : IsWellFormed script) (n : ℕ) where
  -- one tick is a leap of one
  pub one_long : (ready script fits n).machine.killed ≡ None → leap_length (q script fits n) 1 (m script fits n) ≡ 1
  one_long runs = ap (λ (o : Option ℕ). length_from (q script fits n) o 1 (ready script fits n).machine) runs ∙ omega arith

  abbrev pub items : List ℕ
  items = lines (names_of script) (told (instant (q script fits n)) (k script fits n))

  abbrev pub dispatch : List ℕ
  dispatch = lines (names_of script) (told (prepares (to script fits n)) (l script fits n))

  abbrev pub changes : List ℕ
  changes = facts_told script n

  -- what ends so many ticks
  abbrev pub ends : ℕ → List ℕ
  ends j = lines (names_of script) (told (leap_runs (q script fits n) j (to script fits n)) (p script fits n))

module _ (script : Script) (fits : IsWellFormed script) (n : ℕ) (alive : (m script fits n).killed ≡ None) where
  -- where the run goes on
  module _ (runs : (ready script fits n).machine.killed ≡ None) where
    whole : (j : ℕ) → 1 ≤ j → leap_length (q script fits n) j (m script fits n) ≡ j → facts_told_from script n j ≡ facts_told script n
        → told_by script (n + j) ≡ told_by script n ++ (((items script fits n ++ dispatch script fits n) ++ changes script fits n) ++ ends script fits n j)
    whole j some long still = leap_told script fits n alive runs j some long still

    pub with_changes : Begins script n ((items script fits n ++ dispatch script fits n) ++ changes script fits n)
    with_changes = record { rest = ends script fits n 1; is = whole 1 (omega arith) (one_long script fits n runs) (told_once script n) }

    pub with_dispatch : Begins script n (items script fits n ++ dispatch script fits n)
    unfolding with_changes
    with_dispatch = record {
      rest = changes script fits n ++ ends script fits n 1;
      is = with_changes.is ∙ ap (λ (xs : List ℕ). told_by script n ++ xs) (append_assoc (items script fits n ++ dispatch script fits n) (changes script fits n) (ends script fits n 1));
    }

    living_items : Begins script n (items script fits n)
    unfolding with_dispatch
    living_items = record {
      rest = dispatch script fits n ++ (changes script fits n ++ ends script fits n 1);
      is = with_dispatch.is ∙ ap (λ (xs : List ℕ). told_by script n ++ xs) (append_assoc (items script fits n) (dispatch script fits n) (changes script fits n ++ ends script fits n 1));
    }

  dead_items : (signal : ℕ) → (ready script fits n).machine.killed ≡ Some signal → Begins script n (items script fits n)
  dead_items signal dead = record { rest = []; is = items_told script fits n alive signal dead ∙ ap (λ (xs : List ℕ). told_by script n ++ xs) (sym (append-nil (items script fits n))) }

  pub with_items : Begins script n (items script fits n)
  with_items = by_killed (ready script fits n).machine.killed refl
    where
      by_killed : (o : Option ℕ) → (ready script fits n).machine.killed ≡ o → Begins script n (items script fits n)
      by_killed None e = living_items e
      by_killed (Some signal) e = dead_items signal e

  -- ---- what was written of the leap, and by which pieces

  module _ {K : Type 0} (text : K → Option (List ℕ)) (faults : K → ℕ) where
    -- the items alone, where one of them ends the process
    pub only_items : (signal : ℕ) → (ready script fits n).machine.killed ≡ Some signal → (a b : K) (v : Bool) → Writes text faults a b v (items script fits n) → GoesOn text faults script n (n + 1) a b v
    only_items signal dead a b v written = record { due = items script fits n; told = items_told script fits n alive signal dead; writes = written }

    -- the items failed
    pub stops_at_items : (a b : K) (v : Bool) → v ≡ true → Writes text faults a b v (items script fits n) → GoesOn text faults script n (n + 1) a b true
    stops_at_items a b v failed written = stops_there text faults script n (items script fits n) a b v failed with_items written

    module _ (runs : (ready script fits n).machine.killed ≡ None) (a b c : K) (v w : Bool) (good : v ≡ false) (first : Writes text faults a b v (items script fits n)) (second : Writes text faults b c w (dispatch script fits n)) where
      two : Writes text faults a c w (items script fits n ++ dispatch script fits n)
      two = writes_both text faults a b c v w (items script fits n) (dispatch script fits n) good first second

      -- the dispatch failed
      pub stops_at_dispatch : w ≡ true → GoesOn text faults script n (n + 1) a c true
      stops_at_dispatch failed = stops_there text faults script n (items script fits n ++ dispatch script fits n) a c w failed (with_dispatch runs) two

      module _ (fine : w ≡ false) (d : K) (x : Bool) (third : Writes text faults c d x (changes script fits n)) where
        three : Writes text faults a d x ((items script fits n ++ dispatch script fits n) ++ changes script fits n)
        three = writes_both text faults a c d w x (items script fits n ++ dispatch script fits n) (changes script fits n) fine two third

        -- the facts failed
        pub stops_at_changes : x ≡ true → GoesOn text faults script n (n + 1) a d true
        stops_at_changes failed = stops_there text faults script n ((items script fits n ++ dispatch script fits n) ++ changes script fits n) a d x failed (with_changes runs) three

        -- all of it
        pub whole_leap : x ≡ false → (j : ℕ) → 1 ≤ j → leap_length (q script fits n) j (m script fits n) ≡ j → facts_told_from script n j ≡ facts_told script n
            → (e : K) (y : Bool) → Writes text faults d e y (ends script fits n j) → GoesOn text faults script n (n + j) a e y
        whole_leap sound j some long still e y fourth = record {
          due = ((items script fits n ++ dispatch script fits n) ++ changes script fits n) ++ ends script fits n j;
          told = whole runs j some long still;
          writes = writes_both text faults a d e x y ((items script fits n ++ dispatch script fits n) ++ changes script fits n) (ends script fits n j) sound three fourth;
        }

        -- what ends them failed, whatever was to come: as of one tick
        pub stops_at_end : x ≡ false → (j : ℕ) → 1 ≤ j → leap_length (q script fits n) j (m script fits n) ≡ j → facts_told_from script n j ≡ facts_told script n
            → (e : K) (y : Bool) → y ≡ true → Writes text faults d e y (ends script fits n j) → GoesOn text faults script n (n + j) a e true
        stops_at_end sound j some long still e y failed fourth =
            subst (GoesOn text faults script n (n + j) a e) failed (whole_leap sound j some long still e y fourth)
