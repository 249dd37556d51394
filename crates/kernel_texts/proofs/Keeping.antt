-- Texts that are put behind others.
use Rattle.std.proofs.Common.{◌≡◌, ◌∙◌, ◌+◌, ◌<◌, ◌≤◌, List, [], ◌∷◌, ◌++◌, ap, append-nil, append_assoc, arith, false, true, Bool, Some, Option, length, length-append, refl, subst, sym, ℕ}
use Rattle.std.specs.List.{AllByRecursion}
use Rattle.std.specs.Prelude.{sum_by, take}
use Rattle.std.proofs.lemmas.List.{length-take}
use Rattle.std.proofs.lemmas.List.Sums.{sum_by-append, sum_by-cons}
use Rattle.parts_texts.specs.Texts.{Next, Told}
use Rattle.script_printer.specs.Puts.{Put, outlet}
use Rattle.kernel_texts.specs.Kept.{HaveRoom, HaveSameRooms, KeptIn, KeptOne}

-- ---- a list in two parts

pub all_first : {X : Type 0} (P : X → Type 0) (xs ys : List X) → AllByRecursion P (xs ++ ys) → AllByRecursion P xs
all_first P [] ys all = tt
all_first P (x ∷ xs) ys all = (all.0, all_first P xs ys all.1)

pub all_last : {X : Type 0} (P : X → Type 0) (xs ys : List X) → AllByRecursion P (xs ++ ys) → AllByRecursion P ys
all_last P [] ys all = all
all_last P (x ∷ xs) ys all = all_last P xs ys all.1

-- where there is room for two rows, there is for the first, and then for the second
room_first : (one : ℕ) (t : Told) (xs ys : List (List ℕ)) → HaveRoom one t (xs ++ ys) → HaveRoom one t xs
room_first one t xs ys h =
    let bytes = sum_by-append length xs ys in
    let number = length-append xs ys in
    record {
      fresh = h.fresh;
      each = all_first _ xs ys h.each;
      bytes = omega (arith, bytes, h.bytes);
      number = omega (arith, number, h.number);
    }

room_last : (one still : ℕ) (a b : Told) (xs ys : List (List ℕ)) → HaveRoom one a (xs ++ ys) → still ≡ one → b.is_full ≡ false → b.texts ≡ a.texts ++ xs → HaveSameRooms a b → HaveRoom still b ys
room_last one still a b xs ys h same fresh texts rooms =
    let bytes = sum_by-append length xs ys in
    let number = length-append xs ys in
    let bytes_there : sum_by length b.texts ≡ sum_by length a.texts + sum_by length xs = ap (sum_by length) texts ∙ sum_by-append length a.texts xs in
    let number_there : length b.texts ≡ length a.texts + length xs = ap length texts ∙ length-append a.texts xs in
    record {
      fresh = fresh;
      each = subst (λ (n : ℕ). AllByRecursion (λ (text : List ℕ). length text < n) ys) (sym same) (all_last _ xs ys h.each);
      bytes = omega (arith, bytes, bytes_there, h.bytes, rooms.bytes);
      number = omega (arith, number, number_there, h.number, rooms.number);
    }

-- ---- rows

pub kept_none : (one : Next) (t : Told) → KeptIn one one t t []
kept_none one t = record {
  kept = record { before = λ e. e; texts = λ e. sym (append-nil t.texts) };
  same_room = refl;
  same_rooms = λ e. record { bytes = refl; number = refl };
  roomy = λ h. h.fresh;
}

pub kept_both : (one two three : Next) (a b c : Told) (xs ys : List (List ℕ)) → KeptIn one two a b xs → KeptIn two three b c ys → KeptIn one three a c (xs ++ ys)
kept_both one two three a b c xs ys first second = record {
  kept = record {
    before = λ e. first.kept.before (second.kept.before e);
    texts = λ e. second.kept.texts e ∙ ap (λ (ts : List (List ℕ)). ts ++ ys) (first.kept.texts (second.kept.before e)) ∙ append_assoc a.texts xs ys;
  };
  same_room = second.same_room ∙ first.same_room;
  same_rooms = λ e.
      let last = second.same_rooms e in
      let begun = first.same_rooms (second.kept.before e) in
      record { bytes = last.bytes ∙ begun.bytes; number = last.number ∙ begun.number };
  roomy = λ h.
      let begun = first.roomy (room_first one.room a xs ys h) in
      second.roomy (room_last one.room two.room a b xs ys h first.same_room begun (first.kept.texts begun) (first.same_rooms begun));
}

-- ---- one text

abbrev pub text_told : Next → Option (List ℕ)
text_told n = Some (n.room ∷ n.text)

abbrev pub faults_told : Next → ℕ
faults_told n = n.faults

module _ (before cleared printed : Next) (due : List ℕ) (empty : cleared ≡ record before { text = []; faults = 0 }) where
  room_is : cleared.room ≡ before.room
  room_is = ap (λ (n : Next). n.room) empty

  none : cleared.text ≡ []
  none = ap (λ (n : Next). n.text) empty

  sound : cleared.faults ≡ 0
  sound = ap (λ (n : Next). n.faults) empty

  pub whole_text : (failed : Bool) → Put (outlet text_told faults_told false cleared) (outlet text_told faults_told failed printed) due → failed ≡ false → printed.text ≡ due
  whole_text failed put whole =
      let told : printed.room ∷ printed.text ≡ (cleared.room ∷ cleared.text) ++ due = put.whole whole in
      let text : printed.text ≡ cleared.text ++ due = cc in
      text ∙ ap (λ (t : List ℕ). t ++ due) none

  pub part_text : (failed : Bool) → (put : Put (outlet text_told faults_told false cleared) (outlet text_told faults_told failed printed) due)
      → (printed.room ≡ before.room) × (length printed.text ≤ length due)
  part_text failed put =
      let k = put.part.0 in
      let told : printed.room ∷ printed.text ≡ (cleared.room ∷ cleared.text) ++ take k due = put.part.1 in
      let room : printed.room ≡ cleared.room = cc in
      let text : printed.text ≡ cleared.text ++ take k due = cc in
      let is : printed.text ≡ take k due = text ∙ ap (λ (t : List ℕ). t ++ take k due) none in
      let len = ap length is in
      let short = length-take k due in
      (room ∙ room_is, omega (arith, len, short))

  -- no write fails where the whole has room
  pub succeeds : (failed : Bool) → Put (outlet text_told faults_told false cleared) (outlet text_told faults_told failed printed) due
      → (0 < printed.faults → length printed.text ≡ printed.room) → length due < before.room → failed ≡ false
  succeeds false put used fits = refl
  succeeds true put used fits =
      let rose = put.fault refl refl in
      let some : 0 < printed.faults = omega (arith, rose, sound) in
      let full = used some in
      let part = part_text true put in
      let room = part.0 in
      let short = part.1 in
      absurd (omega (arith, full, room, short, fits))

  -- a text that was printed where nothing was, and kept unless a write failed
  pub kept_printed : (a b : Told) (failed : Bool) → Put (outlet text_told faults_told false cleared) (outlet text_told faults_told failed printed) due
      → KeptOne printed failed a b → KeptIn before printed a b (due ∷ [])
  kept_printed a b failed put one = record {
    kept = record {
      before = one.kept.before;
      texts = λ e. one.kept.texts e ∙ ap (λ (t : List ℕ). a.texts ++ t ∷ []) (whole_text failed put (one.whole e));
    };
    same_room = (part_text failed put).0;
    same_rooms = one.same_rooms;
    roomy = λ h.
        let each = h.each.0 in
        let good = succeeds failed put one.used each in
        let bytes = sum_by-cons length due [] in
        let same = ap length (whole_text failed put good) in
        one.roomy good (record { fresh = h.fresh; bytes = omega (arith, bytes, same, h.bytes); number = omega (arith, h.number) });
  }
