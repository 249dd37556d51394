-- What `detail` has told goes on with what happens, and with the facts of the instants that are passed.
use Rattle.std.proofs.Common.{Bool, List, [], ap, append_assoc, arith, false, refl, suc, sym, true, zero, ℕ, ◌+◌, ◌++◌, ◌<◌, ◌∷◌, ◌≡◌, ◌≤◌}
use Rattle.std.specs.Prelude.{flat_map, nat_lt, ◌==◌, if◌then◌else◌}
use Rattle.std.specs.List.{range_with_len}
use mathlib.Core.Path.{ap₂, ◌∙◌}
use Rattle.words_script.specs.declared.decl.Script.{Script}
use Rattle.words_trace.specs.Text.{Entry, line, lines}
use Rattle.rules_machine.specs.Machine.{closing, names_of, run}
use Rattle.rules_facts.specs.Detail.{detail, events_at, instant_lines}
use Rattle.laws_detail.specs.Looks.{AllAt, IsTold, NoneAfter, facts_told, facts_told_from, instant_told, lines_at, told_until}

-- ---- lists

no_more : (xs : List ℕ) → xs ++ [] ≡ xs
no_more [] = refl
no_more (x ∷ xs) = ap (λ (ys : List ℕ). x ∷ ys) (no_more xs)

no_entry_more : (es : List Entry) → es ++ [] ≡ es
no_entry_more [] = refl
no_entry_more (e ∷ es) = ap (λ (xs : List Entry). e ∷ xs) (no_entry_more es)

lines_more : (names : List (List ℕ)) (es more : List Entry) → lines names (es ++ more) ≡ lines names es ++ lines names more
lines_more names [] more = refl
lines_more names (e ∷ es) more = ap (λ (xs : List ℕ). line names e.time e.event ++ xs) (lines_more names es more) ∙ sym (append_assoc (line names e.time e.event) (lines names es) (lines names more))

-- one number more, and each text the same up to it
range_more : (f : ℕ → List ℕ) (a n : ℕ) → flat_map f (range_with_len a (suc n)) ≡ flat_map f (range_with_len a n) ++ f (a + n)
range_more f a zero = (let at : a ≡ a + 0 = omega arith in no_more (f a) ∙ ap f at)
range_more f a (suc n) =
    let on : a + 1 + n ≡ a + suc n = omega arith in
    ap (λ (xs : List ℕ). f a ++ xs) (range_more f (a + 1) n ∙ ap (λ (k : ℕ). flat_map f (range_with_len (a + 1) n) ++ f k) on)
    ∙ sym (append_assoc (f a) (flat_map f (range_with_len (a + 1) n)) (f (a + suc n)))

same_below : (f g : ℕ → List ℕ) (a n : ℕ) → ((i : ℕ) → a ≤ i → i < a + n → f i ≡ g i) → flat_map f (range_with_len a n) ≡ flat_map g (range_with_len a n)
same_below f g a zero h = refl
same_below f g a (suc n) h = ap₂ (λ (xs ys : List ℕ). xs ++ ys) (h a (omega arith) (omega arith)) (same_below f g (a + 1) n (λ i low high. h i (omega arith) (omega arith)))

-- ---- the events of an instant

at_more : (n : ℕ) (es more : List Entry) → events_at n (es ++ more) ≡ events_at n es ++ events_at n more
at_more n [] more = refl
at_more n (e ∷ es) more = by_time (e.time == n) (at_more n es more)
  where
    by_time : (b : Bool) → events_at n (es ++ more) ≡ events_at n es ++ events_at n more
        → (if b then e ∷ events_at n (es ++ more) else events_at n (es ++ more)) ≡ (if b then e ∷ events_at n es else events_at n es) ++ events_at n more
    by_time true h = ap (λ (xs : List Entry). e ∷ xs) h
    by_time false h = h

all_here : (n : ℕ) (es : List Entry) → AllAt n es → events_at n es ≡ es
all_here n [] h = refl
all_here n (e ∷ es) h =
    let here : (e.time == n) ≡ true = (let t = h.0 in grind arith) in
    ap (λ (b : Bool). if b then e ∷ events_at n es else events_at n es) here ∙ ap (λ (xs : List Entry). e ∷ xs) (all_here n es h.1)

none_before : (i n : ℕ) (es : List Entry) → i < n → AllAt n es → events_at i es ≡ []
none_before i n [] lt h = refl
none_before i n (e ∷ es) lt h =
    let other : (e.time == i) ≡ false = (let t = h.0 in grind arith) in
    ap (λ (b : Bool). if b then e ∷ events_at i es else events_at i es) other ∙ none_before i n es lt h.1

none_later : (n i : ℕ) (es : List Entry) → n < i → NoneAfter n es → events_at i es ≡ []
none_later n i [] lt h = refl
none_later n i (e ∷ es) lt h =
    let other : (e.time == i) ≡ false = (let t = h.0 in grind arith) in
    ap (λ (b : Bool). if b then e ∷ events_at i es else events_at i es) other ∙ none_later n i es lt h.1

module _ (script : Script) where
  abbrev names : List (List ℕ)
  names = names_of script

  -- ---- what happens at the instant

  before_same : (told more : List Entry) (n i : ℕ) → AllAt n more → i < n → instant_told script (told ++ more) i ≡ instant_told script told i
  before_same told more n i h lt =
      ap (λ (es : List Entry). lines names es ++ facts_told script i)
      (at_more i told more ∙ ap (λ (es : List Entry). events_at i told ++ es) (none_before i n more lt h) ∙ no_entry_more (events_at i told))

  here_more : (told more : List Entry) (n : ℕ) → AllAt n more → lines_at script (told ++ more) n ≡ lines_at script told n ++ lines names more
  here_more told more n h =
      ap (lines names) (at_more n told more ∙ ap (λ (es : List Entry). events_at n told ++ es) (all_here n more h)) ∙ lines_more names (events_at n told) more

  event : (told more : List Entry) (n : ℕ) → AllAt n more → told_until script (told ++ more) n ≡ told_until script told n ++ lines names more
  event told more n h =
      ap₂ (λ (xs ys : List ℕ). xs ++ ys) (same_below (instant_told script (told ++ more)) (instant_told script told) 0 n (λ i low high. before_same told more n i h (omega arith)))
      (here_more told more n h)
      ∙ sym (append_assoc (flat_map (instant_told script told) (range_with_len 0 n)) (lines_at script told n) (lines names more))

  -- ---- instants that are passed

  none_after_on : (n : ℕ) (es : List Entry) → NoneAfter n es → NoneAfter (suc n) es
  none_after_on n [] h = tt
  none_after_on n (e ∷ es) h = (let le = h.0 in omega (arith, le), none_after_on n es h.1)

  one_passed : (told : List Entry) (n : ℕ) → NoneAfter n told → told_until script told (suc n) ≡ told_until script told n ++ facts_told script n
  one_passed told n h =
      let whole = flat_map (instant_told script told) (range_with_len 0 n) in
      let at : 0 + n ≡ n = omega arith in
      ap (λ (es : List Entry). flat_map (instant_told script told) (range_with_len 0 (suc n)) ++ lines names es) (none_later n (suc n) told (omega arith) h)
      ∙ no_more (flat_map (instant_told script told) (range_with_len 0 (suc n)))
      ∙ range_more (instant_told script told) 0 n
      ∙ ap (λ (k : ℕ). whole ++ instant_told script told k) at
      ∙ sym (append_assoc whole (lines_at script told n) (facts_told script n))

  passed : (told : List Entry) (n count : ℕ) → NoneAfter n told → told_until script told (n + count) ≡ told_until script told n ++ facts_told_from script n count
  passed told n zero h = (let none : n + 0 ≡ n = omega arith in ap (told_until script told) none ∙ sym (no_more (told_until script told n)))
  passed told n (suc count) h =
      let on : n + suc count ≡ suc n + count = omega arith in
      let next : suc n ≡ n + 1 = omega arith in
      ap (told_until script told) on
      ∙ passed told (suc n) count (none_after_on n told h)
      ∙ ap (λ (xs : List ℕ). xs ++ facts_told_from script (suc n) count) (one_passed told n h)
      ∙ append_assoc (told_until script told n) (facts_told script n) (facts_told_from script (suc n) count)
      ∙ ap (λ (k : ℕ). told_until script told n ++ (facts_told script n ++ facts_told_from script k count)) next

  -- ---- the whole run

  before_end : (n i : ℕ) → let done = run script n in i < done.machine.now → instant_lines script done i ≡ instant_told script done.events i
  before_end n i lt =
      let done = run script n in
      let holds : nat_lt i done.machine.now ≡ true = grind (arith, lt) in
      ap (λ (b : Bool). lines_at script done.events i ++ (if b then facts_told script i else [])) holds

  at_end : (n : ℕ) → let done = run script n in instant_lines script done done.machine.now ≡ lines_at script done.events done.machine.now
  at_end n =
      let done = run script n in
      let here = lines_at script done.events done.machine.now in
      let fails : nat_lt done.machine.now done.machine.now ≡ false = grind arith in
      ap (λ (b : Bool). here ++ (if b then facts_told script done.machine.now else [])) fails ∙ no_more here

  whole : (n : ℕ) → let done = run script n in detail script n ≡ told_until script done.events done.machine.now ++ closing names done.machine
  whole n =
      let done = run script n in
      let end = done.machine.now in
      let one : end + 1 ≡ suc end = omega arith in
      let at : 0 + end ≡ end = omega arith in
      ap (λ (xs : List ℕ). xs ++ closing names done.machine)
      (ap (λ (k : ℕ). flat_map (instant_lines script done) (range_with_len 0 k)) one
      ∙ range_more (instant_lines script done) 0 end
      ∙ ap (λ (k : ℕ). flat_map (instant_lines script done) (range_with_len 0 end) ++ instant_lines script done k) at
      ∙ ap₂ (λ (xs ys : List ℕ). xs ++ ys) (same_below (instant_lines script done) (instant_told script done.events) 0 end (λ i low high. before_end n i (omega arith))) (at_end n))

  pub is_told : IsTold script
  is_told = record { first = refl; event = event; passed = passed; whole = whole }
