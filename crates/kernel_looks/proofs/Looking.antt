-- A look over one fact, and over several, one after the other.
use Rattle.std.proofs.Common.{◌≡◌, ◌∙◌, ◌+◌, ◌<◌, ◌≤◌, Bool, List, [], ◌∷◌, ◌++◌, ap, append-nil, append_assoc, arith, drop, false, length, length-append, refl, subst, suc, sym, take, true, zero, ℕ}
use Rattle.std.specs.List.{AllByRecursion}
use Rattle.std.specs.Prelude.{decimal, slice_index_or, slice_set, sum_by, ◌==◌, ◌&&◌, if◌then◌else◌}
use Rattle.std.specs.Str.{bytes_eq}
use Rattle.std.proofs.Math.Seq.{drop-cons}
use Rattle.std.proofs.lemmas.Grind.{take-set_at}
use Rattle.std.proofs.lemmas.List.{drop-drop, drop-set-lt, length-set, length-take, set-get_or}
use Rattle.std.proofs.lemmas.List.Sums.{sum_by-append, sum_by-cons}
use Rattle.parts_texts.specs.Slots.{Held}
use Rattle.parts_texts.specs.Texts.{Next, Told}
use Rattle.script_printer.specs.Puts.{Put, outlet}
use Rattle.kernel_texts.specs.Changed.{behind_subject, changed_line, changed_lines, line_or_subject}
use Rattle.kernel_texts.proofs.Keeping.{all_first, all_last, faults_told, part_text, succeeds, text_told, whole_text}
use Rattle.kernel_looks.specs.Desk.{HasSpace, HaveSameSpace, Looked, Went, WentOn, WentOver, line_room, subjects_left, told_left}
use Rattle.kernel_looks.specs.declared.desk.Desk.{Desk}

-- ---- the lines of changes

lines_none : (now : ℕ) (abouts before : List (List ℕ)) → changed_lines now abouts before [] ≡ []
lines_none now [] before = refl
lines_none now (a ∷ abouts) [] = refl
lines_none now (a ∷ abouts) (b ∷ before) = refl

no_left : (n : ℕ) → drop {A = List ℕ} n [] ≡ []
no_left zero = refl
no_left (suc n) = refl

pub lines_both : (now : ℕ) (abouts before xs ys : List (List ℕ))
    → changed_lines now abouts before (xs ++ ys) ≡ changed_lines now abouts before xs ++ changed_lines now (drop (length xs) abouts) (drop (length xs) before) ys
lines_both now abouts before [] ys = sym (ap (λ (t : List ℕ). t ++ changed_lines now abouts before ys) (lines_none now abouts before))
lines_both now [] before (x ∷ xs) ys = refl
lines_both now (a ∷ abouts) [] (x ∷ xs) ys = sym (no_lines now (drop (length xs) abouts) ys)
  where
    no_lines : (now : ℕ) (abouts lines : List (List ℕ)) → changed_lines now abouts [] lines ≡ []
    no_lines now [] lines = refl
    no_lines now (a ∷ abouts) lines = refl
lines_both now (a ∷ abouts) (b ∷ before) (x ∷ xs) ys =
    ap (λ (t : List ℕ). changed_line now a b x ++ t) (lines_both now abouts before xs ys)
    ∙ sym (append_assoc (changed_line now a b x) (changed_lines now abouts before xs) (changed_lines now (drop (length xs) abouts) (drop (length xs) before) ys))

same_bytes : (bytes : List ℕ) → bytes_eq bytes bytes ≡ true
same_bytes [] = refl
same_bytes (b ∷ bytes) =
    let here : (b == b) ≡ true = grind arith in
    ap (λ (x : Bool). x && bytes_eq bytes bytes) here ∙ same_bytes bytes

-- what is told as before has no line
pub line_same : (now : ℕ) (about text : List ℕ) → changed_line now about text text ≡ []
line_same now about text = ap (λ (x : Bool). if x then [] else decimal now ++ (32 ∷ line_or_subject about text)) (same_bytes (behind_subject about text))

lines_one : (now : ℕ) (abouts before : List (List ℕ)) (at : ℕ) (text : List ℕ) → at < length abouts → at < length before
    → changed_lines now (drop at abouts) (drop at before) (text ∷ []) ≡ changed_line now (slice_index_or abouts at []) (slice_index_or before at []) text
lines_one now abouts before at text some there =
    ap (λ (subjects : List (List ℕ)). changed_lines now subjects (drop at before) (text ∷ [])) (drop-cons abouts at [] some)
    ∙ ap (λ (lines : List (List ℕ)). changed_lines now (slice_index_or abouts at [] ∷ drop (suc at) abouts) lines (text ∷ [])) (drop-cons before at [] there)
    ∙ ap (λ (t : List ℕ). changed_line now (slice_index_or abouts at []) (slice_index_or before at []) text ++ t) (lines_none now (drop (suc at) abouts) (drop (suc at) before))
    ∙ append-nil (changed_line now (slice_index_or abouts at []) (slice_index_or before at []) text)

-- ---- how long they are

line_length : (now one : ℕ) (about before text : List ℕ) → length (decimal now) ≤ 20 → length about < one → length text < one → length (changed_line now about before text) < one + 22
line_length now one about before text early short fits = by_test (bytes_eq (behind_subject about before) (behind_subject about text))
  where
    body : (text : List ℕ) → length text < one → length (line_or_subject about text) ≤ one
    body [] fits = let more = length-append about (10 ∷ []) in omega (arith, more, short)
    body (x ∷ text) fits = omega (arith, fits)

    by_test : (b : Bool) → length (if b then [] else decimal now ++ (32 ∷ line_or_subject about text)) < one + 22
    by_test true = omega arith
    by_test false =
        let all = length-append (decimal now) (32 ∷ line_or_subject about text) in
        let rest = body text fits in
        omega (arith, all, rest, early)

lines_length : (now one : ℕ) (abouts before due : List (List ℕ)) → length (decimal now) ≤ 20 → AllByRecursion (λ (t : List ℕ). length t < one) abouts → AllByRecursion (λ (t : List ℕ). length t < one) due
    → length (changed_lines now abouts before due) ≤ sum_by (line_room one) due
lines_length now one [] before due early short fits = omega arith
lines_length now one (a ∷ abouts) [] due early short fits = omega arith
lines_length now one (a ∷ abouts) (b ∷ before) [] early short fits = omega arith
lines_length now one (a ∷ abouts) (b ∷ before) (x ∷ due) early short fits =
    let first = line_length now one a b x early short.0 fits.0 in
    let rest = lines_length now one abouts before due early short.1 fits.1 in
    let all = length-append (changed_line now a b x) (changed_lines now abouts before due) in
    let sum = sum_by-cons (line_room one) x due in
    omega (arith, first, rest, all, sum)

all_dropped : (P : List ℕ → Type 0) (n : ℕ) (xs : List (List ℕ)) → AllByRecursion P xs → AllByRecursion P (drop n xs)
all_dropped P zero xs all = all
all_dropped P (suc n) [] all = tt
all_dropped P (suc n) (x ∷ xs) all = all_dropped P n xs all.1

-- ---- one after the other

pub looked_both : (a b c : Desk) (xs ys : List (List ℕ)) → Looked a b xs → Looked b c ys → Looked a c (xs ++ ys)
looked_both a b c xs ys first second =
    let more = length-append xs ys in
    let at_first = first.at in
    let at_second = second.at in
    let here : length xs + a.at ≡ b.at = omega (arith, at_first) in
    let subjects_here : subjects_left b ≡ drop (length xs) (subjects_left a) =
    ap (λ (t : Told). drop b.at t.texts) first.subjects ∙ ap (λ (n : ℕ). drop n a.subjects.texts) at_first ∙ sym (drop-drop (length xs) a.at a.subjects.texts) in
    record {
      at = omega (arith, at_first, at_second, more);
      front = second.front ∙ ap (λ (ts : List (List ℕ)). ts ++ ys) first.front ∙ append_assoc (take a.at a.told.texts) xs ys;
      left = second.left ∙ ap (drop (length ys)) first.left ∙ drop-drop (length ys) (length xs) (told_left a) ∙ ap (λ (n : ℕ). drop n (told_left a)) (sym more);
      lines =
          second.lines
          ∙ ap (λ (t : List ℕ). t ++ changed_lines b.instant (subjects_left b) (told_left b) ys) first.lines
          ∙ ap (λ (n : ℕ). (a.lines.text ++ changed_lines a.instant (subjects_left a) (told_left a) xs) ++ changed_lines n (subjects_left b) (told_left b) ys) first.instant
          ∙ ap (λ (s : List (List ℕ)). (a.lines.text ++ changed_lines a.instant (subjects_left a) (told_left a) xs) ++ changed_lines a.instant s (told_left b) ys) subjects_here
          ∙ ap (λ (s : List (List ℕ)). (a.lines.text ++ changed_lines a.instant (subjects_left a) (told_left a) xs) ++ changed_lines a.instant (drop (length xs) (subjects_left a)) s ys) first.left
          ∙ append_assoc a.lines.text (changed_lines a.instant (subjects_left a) (told_left a) xs) (changed_lines a.instant (drop (length xs) (subjects_left a)) (drop (length xs) (told_left a)) ys)
          ∙ ap (λ (t : List ℕ). a.lines.text ++ t) (sym (lines_both a.instant (subjects_left a) (told_left a) xs ys));
      subjects = second.subjects ∙ first.subjects;
      instant = second.instant ∙ first.instant;
    }

pub looked_none : (a : Desk) → Looked a a []
looked_none a = record {
  at = omega arith;
  front = sym (append-nil (take a.at a.told.texts));
  left = refl;
  lines = sym (ap (λ (t : List ℕ). a.lines.text ++ t) (lines_none a.instant (subjects_left a) (told_left a)) ∙ append-nil a.lines.text);
  subjects = refl;
  instant = refl;
}

-- where there is space for two rows, there is for the first, and then for the second
space_first : (one : ℕ) (d : Desk) (xs ys : List (List ℕ)) → HasSpace one d (xs ++ ys) → HasSpace one d xs
space_first one d xs ys h =
    let sum = sum_by-append (line_room one) xs ys in
    let count = length-append xs ys in
    let number = h.number in
    let subjects = h.subjects in
    let bytes = h.bytes in
    record {
      fresh = h.fresh;
      each = all_first _ xs ys h.each;
      slots = h.slots;
      number = omega (arith, count, number);
      subjects = omega (arith, count, subjects);
      short = h.short;
      early = h.early;
      bytes = omega (arith, sum, bytes);
    }

space_last : (one : ℕ) (a b : Desk) (xs ys : List (List ℕ)) → HasSpace one a (xs ++ ys) → b.is_full ≡ false → Looked a b xs → HaveSameSpace a b → HasSpace one b ys
space_last one a b xs ys h fresh looked same =
    let sum = sum_by-append (line_room one) xs ys in
    let count = length-append xs ys in
    let number = h.number in
    let subjects = h.subjects in
    let bytes = h.bytes in
    let at = looked.at in
    let slots = h.slots in
    let room = same.slots in
    let places = same.number in
    let lines = same.lines in
    let told = length-append a.lines.text (changed_lines a.instant (subjects_left a) (told_left a) xs) in
    let is_told = ap length looked.lines in
    let few = lines_length a.instant one (subjects_left a) (told_left a) xs h.early h.short (all_first _ xs ys h.each) in
    let as_many = ap (λ (t : Told). length t.texts) looked.subjects in
    record {
      fresh = fresh;
      each = all_last _ xs ys h.each;
      slots = omega (arith, slots, room);
      number = omega (arith, count, number, at, places);
      subjects = omega (arith, count, subjects, at, as_many);
      short = subst (λ (s : List (List ℕ)). AllByRecursion (λ (t : List ℕ). length t < one) s)
          (sym (ap (λ (t : Told). drop b.at t.texts) looked.subjects ∙ ap (λ (n : ℕ). drop n a.subjects.texts) at ∙ sym (drop-drop (length xs) a.at a.subjects.texts)))
          (all_dropped _ (length xs) (subjects_left a) h.short);
      early = subst (λ (n : ℕ). length (decimal n) ≤ 20) (sym looked.instant) h.early;
      bytes = omega (arith, sum, bytes, lines, told, is_told, few);
    }

-- ---- rows

same_space : (a b c : Desk) → HaveSameSpace a b → HaveSameSpace b c → HaveSameSpace a c
same_space a b c first second = record { slots = second.slots ∙ first.slots; number = second.number ∙ first.number; lines = second.lines ∙ first.lines }

pub went_none : (one : Next) (d : Desk) → WentOn one one d d []
went_none one d = record {
  before = λ e. e;
  looked = λ e. looked_none d;
  same = λ e. record { slots = refl; number = refl; lines = refl };
  same_room = refl;
  roomy = λ h. h.fresh;
}

pub went_both : (one two three : Next) (a b c : Desk) (xs ys : List (List ℕ)) → WentOn one two a b xs → WentOn two three b c ys → WentOn one three a c (xs ++ ys)
went_both one two three a b c xs ys first second = record {
  before = λ e. first.before (second.before e);
  looked = λ e. looked_both a b c xs ys (first.looked (second.before e)) (second.looked e);
  same = λ e. same_space a b c (first.same (second.before e)) (second.same e);
  same_room = second.same_room ∙ first.same_room;
  roomy = λ h.
      let begun = first.roomy (space_first one.room a xs ys h) in
      second.roomy (subst (λ (room : ℕ). HasSpace room b ys) (sym first.same_room) (space_last one.room a b xs ys h begun (first.looked begun) (first.same begun)));
}

-- over a fact that tells nothing
pub went_nothing : (one : Next) (a b : Desk) (due : List ℕ) → due ≡ [] → Went a b ([] ∷ []) → WentOn one one a b (due ∷ [])
went_nothing one a b due none h = subst (λ (text : List ℕ). WentOn one one a b (text ∷ [])) (sym none) (record {
  before = h.before;
  looked = h.looked;
  same = h.same;
  same_room = refl;
  roomy = λ space. h.roomy one.room space;
})

-- over a fact whose text was printed where nothing was
pub went_printed : (before cleared printed : Next) (due : List ℕ) → cleared ≡ record before { text = []; faults = 0 } → (a b : Desk) (failed : Bool)
    → Put (outlet text_told faults_told false cleared) (outlet text_told faults_told failed printed) due → WentOver printed failed a b → WentOn before printed a b (due ∷ [])
went_printed before cleared printed due empty a b failed put over = record {
  before = over.before;
  looked = λ e. subst (λ (t : List ℕ). Looked a b (t ∷ [])) (whole_text before cleared printed due empty failed put (over.whole e)) (over.looked e);
  same = over.same;
  same_room = (part_text before cleared printed due empty failed put).0;
  roomy = λ h.
      let good = succeeds before cleared printed due empty failed put over.used h.each.0 in
      over.roomy good before.room (subst (λ (t : List ℕ). HasSpace before.room a (t ∷ [])) (sym (whole_text before cleared printed due empty failed put good)) h);
}

-- ---- one fact

module _ (a b : Desk) (text : List ℕ) (place : a.at < length a.told.texts) (subject : a.at < length a.subjects.texts)
    (told : b.told.texts ≡ slice_set a.told.texts a.at text) (at : b.at ≡ a.at + 1) (subjects : b.subjects ≡ a.subjects) (now : b.instant ≡ a.instant)
    (lines : b.lines.text ≡ a.lines.text ++ changed_line a.instant (slice_index_or a.subjects.texts a.at []) (slice_index_or a.told.texts a.at []) text) where
  left_is : told_left b ≡ drop 1 (told_left a)
  left_is =
      ap (λ (n : ℕ). drop n b.told.texts) at
      ∙ ap (drop (a.at + 1)) told
      ∙ drop-set-lt (a.at + 1) a.told.texts a.at text (omega arith)
      ∙ sym (drop-drop 1 a.at a.told.texts)

  front_is : take b.at b.told.texts ≡ take a.at a.told.texts ++ text ∷ []
  front_is =
      ap (λ (n : ℕ). take n b.told.texts) at
      ∙ ap (take (a.at + 1)) told
      ∙ take-set_at a.told.texts a.at (a.at + 1) text refl place

  pub looked_over : Looked a b (text ∷ [])
  looked_over = record {
    at = at;
    front = front_is;
    left = left_is;
    lines = lines ∙ ap (λ (t : List ℕ). a.lines.text ++ t) (sym (lines_one a.instant a.subjects.texts a.told.texts a.at text subject place));
    subjects = subjects;
    instant = now;
  }

-- what was told as before
pub looked_same : (a b : Desk) (text : List ℕ) → a.at < length a.told.texts → a.at < length a.subjects.texts → slice_index_or a.told.texts a.at [] ≡ text → b ≡ record a { at = a.at + 1 } → Looked a b (text ∷ [])
looked_same a b text place subject same is =
    let told : b.told.texts ≡ slice_set a.told.texts a.at text =
    ap (λ (d : Desk). d.told.texts) is ∙ sym (set-get_or a.told.texts a.at []) ∙ ap (slice_set a.told.texts a.at) same in
    let no_line : changed_line a.instant (slice_index_or a.subjects.texts a.at []) (slice_index_or a.told.texts a.at []) text ≡ [] =
    ap (λ (t : List ℕ). changed_line a.instant (slice_index_or a.subjects.texts a.at []) t text) same ∙ line_same a.instant (slice_index_or a.subjects.texts a.at []) text in
    looked_over a b text place subject told (ap (λ (d : Desk). d.at) is) (ap (λ (d : Desk). d.subjects) is) (ap (λ (d : Desk). d.instant) is)
    (ap (λ (d : Desk). d.lines.text) is ∙ sym (append-nil a.lines.text) ∙ ap (λ (t : List ℕ). a.lines.text ++ t) (sym no_line))

-- ---- the line of one

-- the line was printed behind the others
pub line_behind : (old new : Next) (due : List ℕ) → Put (outlet text_told faults_told false old) (outlet text_told faults_told false new) due → new.text ≡ old.text ++ due
line_behind old new due put =
    let told : new.room ∷ new.text ≡ (old.room ∷ old.text) ++ due = put.whole refl in
    cc

-- and its room stays
pub line_kept : (old new : Next) (failed : Bool) (due : List ℕ) → Put (outlet text_told faults_told false old) (outlet text_told faults_told failed new) due → new.room ≡ old.room
line_kept old new failed due put =
    let k = put.part.0 in
    let told : new.room ∷ new.text ≡ (old.room ∷ old.text) ++ take k due = put.part.1 in
    cc

-- no write fails where there is room
pub line_fits : (old new : Next) (failed : Bool) (due : List ℕ) → Put (outlet text_told faults_told false old) (outlet text_told faults_told failed new) due
    → (0 < new.faults → length new.text ≡ new.room) → length old.text + length due < old.room → failed ≡ false
line_fits old new false due put used fits = refl
line_fits old new true due put used fits =
    let rose = put.fault refl refl in
    let some : 0 < new.faults = omega (arith, rose) in
    let full = used some in
    let k = put.part.0 in
    let told : new.room ∷ new.text ≡ (old.room ∷ old.text) ++ take k due = put.part.1 in
    let room : new.room ≡ old.room = cc in
    let text : new.text ≡ old.text ++ take k due = cc in
    let len = ap length text in
    let both = length-append old.text (take k due) in
    let short = length-take k due in
    absurd (omega (arith, full, room, len, both, short, fits))

-- what there is space for
pub space_line : (one : ℕ) (d : Desk) (text : List ℕ) → HasSpace one d (text ∷ [])
    → length d.lines.text + length (changed_line d.instant (slice_index_or d.subjects.texts d.at []) (slice_index_or d.told.texts d.at []) text) < d.lines.room
space_line one d text h =
    let number = h.number in
    let subjects = h.subjects in
    let is = ap length (lines_one d.instant d.subjects.texts d.told.texts d.at text (omega (arith, subjects)) (omega (arith, number))) in
    let few = lines_length d.instant one (subjects_left d) (told_left d) (text ∷ []) h.early h.short h.each in
    let bytes = h.bytes in
    omega (arith, is, few, bytes)

-- ---- what a look over one does

clash : (v : Bool) → v ≡ true → v ≡ false → ⊥
clash v on off = cc

-- the desk is full, as there was no space
pub went_nowhere : (a b : Desk) (due : List (List ℕ)) → b.is_full ≡ true → ((one : ℕ) → HasSpace one a due → ⊥) → Went a b due
went_nowhere a b due full none = record {
  before = λ e. absurd (clash b.is_full full e);
  looked = λ e. absurd (clash b.is_full full e);
  same = λ e. absurd (clash b.is_full full e);
  roomy = λ one space. absurd (none one space);
}

pub has_place : (one : ℕ) (d : Desk) (text : List ℕ) → HasSpace one d (text ∷ []) → (d.at < length d.told.texts) × (d.at < length d.subjects.texts) × (length text ≤ d.told.room)
has_place one d text h =
    let number = h.number in
    let subjects = h.subjects in
    let fits = h.each.0 in
    let slots = h.slots in
    (omega (arith, number), omega (arith, subjects), omega (arith, fits, slots))

pub went_over : (a b : Desk) (text : List ℕ) → a.at < length a.told.texts → a.at < length a.subjects.texts → b.told ≡ record a.told { texts = slice_set a.told.texts a.at text } → b.at ≡ a.at + 1
    → b.subjects ≡ a.subjects → b.instant ≡ a.instant → b.is_full ≡ a.is_full
    → Put (outlet text_told faults_told false a.lines) (outlet text_told faults_told false b.lines) (changed_line a.instant (slice_index_or a.subjects.texts a.at []) (slice_index_or a.told.texts a.at []) text)
    → Went a b (text ∷ [])
went_over a b text place subject told at subjects now full put =
    let line = changed_line a.instant (slice_index_or a.subjects.texts a.at []) (slice_index_or a.told.texts a.at []) text in
    let looked = looked_over a b text place subject (ap (λ (h : Held). h.texts) told) at subjects now (line_behind a.lines b.lines line put) in
    record {
      before = λ e. sym full ∙ e;
      looked = λ e. looked;
      same = λ e. record {
        slots = ap (λ (h : Held). h.room) told;
        number = ap (λ (h : Held). length h.texts) told ∙ length-set a.told.texts a.at text;
        lines = line_kept a.lines b.lines false line put;
      };
      roomy = λ one space. full ∙ space.fresh;
    }

-- what is seen is noted afterwards
pub went_seen : (a b c : Desk) (due : List (List ℕ)) → c ≡ record b { seen = c.seen } → Went a b due → Went a c due
went_seen a b c due is h = subst (λ (x : Desk). Went a x due) (sym is) (record {
  before = h.before;
  looked = λ e. let l = h.looked e in record { at = l.at; front = l.front; left = l.left; lines = l.lines; subjects = l.subjects; instant = l.instant };
  same = λ e. let s = h.same e in record { slots = s.slots; number = s.number; lines = s.lines };
  roomy = h.roomy;
})

pub went_same : (a b : Desk) (text : List ℕ) → a.at < length a.told.texts → a.at < length a.subjects.texts → slice_index_or a.told.texts a.at [] ≡ text → b ≡ record a { at = a.at + 1 } → Went a b (text ∷ [])
went_same a b text place subject same is =
    let looked = looked_same a b text place subject same is in
    let full = ap (λ (d : Desk). d.is_full) is in
    record {
      before = λ e. sym full ∙ e;
      looked = λ e. looked;
      same = λ e. record { slots = ap (λ (d : Desk). d.told.room) is; number = ap (λ (d : Desk). length d.told.texts) is; lines = ap (λ (d : Desk). d.lines.room) is };
      roomy = λ one space. full ∙ space.fresh;
    }

pub over_failed : (one : Next) (a b : Desk) → b.is_full ≡ true → (0 < one.faults → length one.text ≡ one.room) → (failed : Bool) → failed ≡ true → WentOver one failed a b
over_failed one a b full used failed bad = record {
  whole = λ e. absurd (clash b.is_full full e);
  before = λ e. absurd (clash b.is_full full e);
  looked = λ e. absurd (clash b.is_full full e);
  same = λ e. absurd (clash b.is_full full e);
  roomy = λ good room space. absurd (clash failed bad good);
  used = used;
}

pub over_whole : (one : Next) (a b : Desk) → Went a b (one.text ∷ []) → (0 < one.faults → length one.text ≡ one.room) → (failed : Bool) → failed ≡ false → WentOver one failed a b
over_whole one a b went used failed good = record {
  whole = λ e. good;
  before = went.before;
  looked = went.looked;
  same = went.same;
  roomy = λ ok room space. went.roomy room space;
  used = used;
}
