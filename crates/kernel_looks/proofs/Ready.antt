-- A look at all facts of a state, at a desk of its run.
use Rattle.std.proofs.Common.{◌≡◌, ◌∙◌, ◌+◌, ◌*◌, ◌<◌, ◌≤◌, List, [], ◌∷◌, ◌++◌, ap, append-nil, arith, drop, false, length, refl, subst, sym, take, ℕ}
use Rattle.std.specs.List.{AllByRecursion}
use Rattle.std.specs.Prelude.{decimal, sum_by}
use Rattle.std.proofs.lemmas.List.{drop_all, take-append-drop}
use Rattle.std.proofs.lemmas.List.Sums.{sum_by-cons}
use Rattle.words_script.specs.declared.decl.Script.{Script}
use Rattle.parts_texts.specs.Texts.{Next, Told}
use Rattle.kernel_texts.specs.Changed.{changed_lines}
use Rattle.kernel_texts.specs.Subjects.{AreSubjects}
use Rattle.kernel_texts.specs.Rooms.{HasRooms, facts_told}
use Rattle.kernel_seen.specs.FactSeen.{IsMemoryOf}
use Rattle.kernel_looks.specs.Desk.{HasSpace, HaveSameSpace, IsReady, Looked, WentOn, line_room}
use Rattle.kernel_looks.specs.declared.desk.Desk.{Desk}

-- a list of texts in which the facts of a script's run have room
abbrev pub roomy_list : Script → ℕ → Told
roomy_list script one = record { texts = []; room = facts_told script * one; most = facts_told script; is_full = false }

pub is_roomy : (script : Script) (one : ℕ) (d : Desk) → IsReady script one d → HasRooms script one (roomy_list script one)
is_roomy script one d ready = record { fresh = refl; long = ready.rooms.long; number = omega arith; bytes = omega arith }

-- a look that begins
abbrev pub begun : ℕ → Desk → Desk
begun now d = record d { lines = record d.lines { text = []; faults = 0 }; at = 0; instant = now }

-- the room for the lines of so many
lines_room : (one : ℕ) (due : List (List ℕ)) → sum_by (line_room one) due ≡ length due * (one + 22)
lines_room one [] = omega arith
lines_room one (x ∷ due) =
    let sum = sum_by-cons (line_room one) x due in
    let rest = lines_room one due in
    let is : length (x ∷ due) ≡ 1 + length due = omega arith in
    let more : (1 + length due) * (one + 22) ≡ one + 22 + length due * (one + 22) = grind arith in
    let whole = ap (λ (n : ℕ). n * (one + 22)) is ∙ more in
    omega (arith, sum, rest, whole)

-- what a look at all facts has done
pub record HasLooked (script : Script) (one_new : Next) (old new : Desk) (now : ℕ) (due : List (List ℕ)) : Type 0 where
  pub told : new.told.texts ≡ due
  pub lines : new.lines.text ≡ changed_lines now old.subjects.texts old.told.texts new.told.texts
  pub subjects : new.subjects ≡ old.subjects
  pub ready : IsReady script one_new.room new

module _ (script : Script) (one two : Next) (d after : Desk) (now : ℕ) (due : List (List ℕ)) (ready : IsReady script one.room d) (early : length (decimal now) ≤ 20)
    (short : AllByRecursion (λ (text : List ℕ). length text < one.room) due) (all : length due ≡ facts_told script) (went : WentOn one two (begun now d) after due)
    (memory : IsMemoryOf script.decls after.told.texts after.seen) where
  space : HasSpace one.room (begun now d) due
  space =
      let number = ready.rooms.number in
      let subjects = ready.subjects.number in
      let lines = ready.rooms.lines in
      let sum = lines_room one.room due ∙ ap (λ (n : ℕ). n * (one.room + 22)) all in
      record {
        fresh = ready.rooms.fresh;
        each = short;
        slots = ready.rooms.slots;
        number = omega (arith, number, all);
        subjects = omega (arith, subjects, all);
        short = ready.subjects.short;
        early = early;
        bytes = omega (arith, sum, lines);
      }

  fresh : after.is_full ≡ false
  fresh = went.roomy space

  looked : Looked (begun now d) after due
  looked = went.looked fresh

  same : HaveSameSpace (begun now d) after
  same = went.same fresh

  none_left : drop after.at after.told.texts ≡ []
  none_left = let number = ready.rooms.number in looked.left ∙ drop_all (length due) d.told.texts (omega (arith, number, all))

  told : after.told.texts ≡ due
  told =
      sym (take-append-drop after.at after.told.texts)
      ∙ ap (λ (ts : List (List ℕ)). take after.at after.told.texts ++ ts) none_left
      ∙ append-nil (take after.at after.told.texts)
      ∙ looked.front

  still_ready : IsReady script two.room after
  still_ready =
      subst (λ (n : ℕ). IsReady script n after) (sym went.same_room)
      (let slots = ready.rooms.slots in
      let same_slots = same.slots in
      let lines = ready.rooms.lines in
      let same_lines = same.lines in
      record {
        rooms = record {
          fresh = fresh;
          long = ready.rooms.long;
          slots = omega (arith, slots, same_slots);
          number = same.number ∙ ready.rooms.number;
          lines = omega (arith, lines, same_lines);
          seen = memory;
          subjects = subst (HasRooms script one.room) (sym looked.subjects) ready.rooms.subjects;
        };
        subjects = subst (λ (t : Told). AreSubjects script one.room t.texts) (sym looked.subjects) ready.subjects;
      })

  pub has_looked : HasLooked script two d after now due
  has_looked = record {
    told = told;
    lines = looked.lines ∙ ap (changed_lines now d.subjects.texts d.told.texts) (sym told);
    subjects = looked.subjects;
    ready = still_ready;
  }
