-- A word that says something says it in the one way that is written, but for numbers and sets.
use Rattle.std.proofs.Common.{◌≡◌, ◌<◌, ◌≤◌, ◌-◌, ◌*◌, ℕ, ◌+◌, List, [], ◌∷◌, length, get_or, refl, sym, ◌∙◌, ap, subst, Bool, true, false, arith, rules, Option, None, Some, eqb-true}
use Rattle.std.specs.Prelude.{◌&&◌, ◌||◌, ◌==◌, nat_le, nat_lt, is_some, decimal, codes, if◌then◌else◌}
use Rattle.std.specs.Fmt.{digits}
use Rattle.std.specs.List.{list_all, range_with_len}
use Rattle.std.specs.Str.{bytes_eq}
use Rattle.std.proofs.lemmas.Slice.Eq.{bytes_eq-Decides}
use Rattle.std.proofs.lemmas.Fmt.{decimal_digit}
use Rattle.std.proofs.lemmas.List.FromFn.{get_or-range_with_len, length-range_with_len}
use Rattle.script_lex.proofs.Rejoined.{both}
use Rattle.words_numbers.specs.declared.res.Res.{Res}
use Rattle.words_numbers.specs.declared.res.Res.TheVariants as res
use Rattle.words_numbers.specs.Words.{res_text, signal_word}
use Rattle.words_script.specs.Names.{is_digit, is_name}
use Rattle.words_script.specs.declared.decl.Decl.{Decl}
use Rattle.words_script.specs.declared.call.Operand.TheVariants.{Num, Reg}
use Rattle.script_table.specs.declared.faults.FaultKind.TheVariants.{NumberRange, BadName, UnknownName, WrongKind}
use Rattle.words_script.specs.declared.name_kind.NameKind.{NameKind}
use Rattle.words_script.specs.Kinds.{same_kind}
use Rattle.script_table.specs.Patterns.{Spot, Keyword, Answer, Number, Operand, Declares, Uses, Signal, Acts, Signals, greatest}
use Rattle.script_table.specs.Words.{value_of, is_register, signal_number, signal_of, set_of, answer_of}
use Rattle.script_table.specs.LineFaults.{stands, fits, spelling, place_faults}
use Rattle.script_table.specs.Ranges.{range_fault, is_within}
use Rattle.script_table.specs.Names.{Entry, entry_of, Declared, name_fault, used}
use Rattle.script_writer.specs.Names.{name_of}
use Rattle.laws_canonical_text.proofs.Bounds.{if_some}
use Rattle.laws_canonical_text.proofs.Declares.{same_kind_is}
use Rattle.laws_canonical_text.proofs.Signals.{all_at}
use Rattle.laws_canonical_text.proofs.Kept.{IsClean, AreClean, holds, none_first}
use Rattle.laws_canonical_text.proofs.Shape.{Holds}
use Rattle.laws_canonical_text.proofs.Shown.{Shows, ShowsOperand, ShowsName, ShowsSignal, ShowsSet, ShowsAnswer}

abbrev two_signs : ℕ → ℕ → Bool
two_signs i b = bytes_eq (decimal ((i + 1) * 10 + b)) ((49 + i) ∷ (48 + b) ∷ [])

each_two_signs : list_all (λ i. list_all (two_signs i) (range_with_len 0 10)) (range_with_len 0 3) ≡ true
unfolding digits
each_two_signs = refl

at_range : (p : ℕ → Bool) (k n : ℕ) → k < n → list_all p (range_with_len 0 n) ≡ true → p k ≡ true
at_range p k n h e =
    let same : get_or (range_with_len 0 n) k 0 ≡ 0 + k = get_or-range_with_len 0 n k 0 h in
    let number : 0 + k ≡ k = omega arith in
    let room : k < length (range_with_len 0 n) = omega (arith, length-range_with_len 0 n) in
    subst (λ j. p j ≡ true) (same ∙ number) (all_at p (range_with_len 0 n) k 0 room e)

-- two digits, the first 1, 2 or 3
two_digits : (i b : ℕ) → i < 3 → b < 10 → decimal ((i + 1) * 10 + b) ≡ (49 + i) ∷ (48 + b) ∷ []
two_digits i b h k =
    let one : list_all (two_signs i) (range_with_len 0 10) ≡ true = at_range (λ j. list_all (two_signs j) (range_with_len 0 10)) i 3 h each_two_signs in
    let two : two_signs i b ≡ true = at_range (two_signs i) b 10 k one in
    search (rules, bytes_eq-Decides)

digit_text : (d : ℕ) → is_digit d ≡ true → decimal (d - 48) ≡ d ∷ []
digit_text d e =
    let low : 48 ≤ d = search rules in
    let high : d ≤ 57 = search rules in
    let back : 48 + (d - 48) ≡ d = omega arith in
    decimal_digit (d - 48) (omega arith) ∙ ap (λ x. x ∷ []) back

digits_text : (t d : ℕ) → 49 ≤ t → t ≤ 51 → is_digit d ≡ true → decimal ((t - 48) * 10 + (d - 48)) ≡ t ∷ d ∷ []
digits_text t d h k e =
    let low : 48 ≤ d = search rules in
    let high : d ≤ 57 = search rules in
    let first : (t - 49) + 1 ≡ t - 48 = omega arith in
    let back : 49 + (t - 49) ≡ t = omega arith in
    let second : 48 + (d - 48) ≡ d = omega arith in
    ap (λ x. decimal (x * 10 + (d - 48))) (sym first) ∙ (two_digits (t - 49) (d - 48) (omega arith) (omega arith)
    ∙ (ap (λ x. x ∷ (48 + (d - 48)) ∷ []) back ∙ ap (λ x. t ∷ x ∷ []) second))

signal_digits : (word : List ℕ) (k : ℕ) → signal_number word ≡ Some k → decimal k ≡ word
signal_digits [] k e = absurd (let f : None ≡ Some k = e in cc)
signal_digits (d ∷ []) k e =
    let h = if_some (is_digit d) (d - 48) k e in
    ap decimal (sym h.1) ∙ digit_text d h.0
signal_digits (t ∷ d ∷ []) k e =
    let n : ℕ = (t - 48) * 10 + (d - 48) in
    let h = if_some ((nat_le 49 t && (nat_le t 51 && is_digit d)) && nat_le n 31) n k e in
    let one = both (nat_le 49 t && (nat_le t 51 && is_digit d)) (nat_le n 31) h.0 in
    let two = both (nat_le 49 t) (nat_le t 51 && is_digit d) one.0 in
    let three = both (nat_le t 51) (is_digit d) two.1 in
    let low : 49 ≤ t = (let f = two.0 in search rules) in
    let high : t ≤ 51 = (let f = three.0 in search rules) in
    ap decimal (sym h.1) ∙ digits_text t d low high three.1
signal_digits (t ∷ d ∷ c ∷ more) k e = absurd (let f : None ≡ Some k = e in cc)

signal_case : (b : Bool) (r t : ℕ) (more : List ℕ) (k : ℕ) → (r == 114 && t == 116) ≡ b → (if b then signal_number more else None) ≡ Some k → signal_word k ≡ r ∷ t ∷ more
signal_case true r t more k is e =
    let h = both (r == 114) (t == 116) is in
    let p : r ≡ 114 = eqb-true r 114 h.0 in
    let q : t ≡ 116 = eqb-true t 116 h.1 in
    ap (λ x. 114 ∷ 116 ∷ x) (signal_digits more k e) ∙ (ap (λ x. x ∷ 116 ∷ more) (sym p) ∙ ap (λ x. r ∷ x ∷ more) (sym q))
signal_case false r t more k is e = absurd (let f : None ≡ Some k = e in cc)

-- a signal has one spelling
pub signal_spelled : (word : List ℕ) (k : ℕ) → signal_of word ≡ Some k → signal_word k ≡ word
signal_spelled [] k e = absurd (let f : None ≡ Some k = e in cc)
signal_spelled (r ∷ []) k e = absurd (let f : None ≡ Some k = e in cc)
signal_spelled (r ∷ t ∷ more) k e = signal_case (r == 114 && t == 116) r t more k refl e

answer_case : (b : Bool) (a r : Res) (word : List ℕ) (other : Option Res) → bytes_eq word (res_text a) ≡ b → (if b then Some a else other) ≡ Some r → (other ≡ Some r → res_text r ≡ word) → res_text r ≡ word
answer_case true a r word other is e rest =
    let f : Some a ≡ Some r = e in
    let same : a ≡ r = cc in
    let text : word ≡ res_text a = search (rules, bytes_eq-Decides) in
    ap res_text (sym same) ∙ sym text
answer_case false a r word other is e rest = rest e

-- an answer has one spelling
pub answer_spelled : (word : List ℕ) (r : Res) → answer_of word ≡ Some r → res_text r ≡ word
answer_spelled word r e =
    answer_case _ res.Zero r word _ refl e (λ e. answer_case _ res.Again r word _ refl e (λ e. answer_case _ res.Busy r word _ refl e
    (λ e. answer_case _ res.Deadlk r word _ refl e (λ e. answer_case _ res.Intr r word _ refl e (λ e. answer_case _ res.Inval r word _ refl e
    (λ e. answer_case _ res.Msgsize r word _ refl e (λ e. answer_case _ res.Overflow r word _ refl e (λ e. answer_case _ res.Perm r word _ refl e
    (λ e. answer_case _ res.Srch r word _ refl e (λ e. answer_case _ res.Timedout r word _ refl e (λ e. absurd (let f : None ≡ Some r = e in cc))))))))))))

keyword_shown : (k word : List ℕ) → bytes_eq word k ≡ true → word ≡ k
keyword_shown k word e = search (rules, bytes_eq-Decides)

answer_shown : (found : Option Res) (word : List ℕ) → answer_of word ≡ found → is_some found ≡ true → ShowsAnswer word
answer_shown None word is some = absurd (let f : false ≡ true = some in cc)
answer_shown (Some r) word is some = record { res = r; found = is; text = answer_spelled word r is }

signal_shown : (found : Option ℕ) (word : List ℕ) → signal_of word ≡ found → is_some found ≡ true → ShowsSignal word
signal_shown None word is some = absurd (let f : false ≡ true = some in cc)
signal_shown (Some k) word is some = record { sig = k; found = is; text = signal_spelled word k is }

set_shown : (found : Option ℕ) (word : List ℕ) → set_of word ≡ found → is_some found ≡ true → ShowsSet word
set_shown None word is some = absurd (let f : false ≡ true = some in cc)
set_shown (Some set) word is some = record { set = set; found = is }

operand_shown : (b : Bool) (word : List ℕ) → is_register word ≡ b → IsClean Operand word → ShowsOperand word
operand_shown true word is clean =
    let text : word ≡ codes "reg" = keyword_shown (codes "reg") word is in
    record { value = Reg; found = rw is refl; text = rw is (sym text) }
operand_shown false word is clean =
    let within : is_within 0 greatest word ≡ true = (let h = holds (is_register word || is_within 0 greatest word) NumberRange clean.ranged in rw is at h) in
    record { value = Num (value_of word); found = rw (is, within) refl; text = rw is refl }

-- what is known of the number of a name
pub record GivesName (ds : List Decl) (word : List ℕ) (e : Entry) : Type 0 where
  pub small : e.number < 256
  pub name : name_of ds e.kind e.number ≡ word

abbrev pub AllGive : List Entry → List Decl → Type 0
AllGive es ds = (word : List ℕ) (e : Entry) → entry_of es word ≡ Some e → GivesName ds word e

kind_case : (b : Bool) → (if b then None else Some WrongKind) ≡ None → b ≡ true
kind_case true e = refl
kind_case false e = absurd (let f : Some WrongKind ≡ None = e in cc)

name_shown : (found : Option Entry) (es : List Entry) (ds : List Decl) (kind : NameKind) (word : List ℕ) → AllGive es ds → entry_of es word ≡ found → used kind found ≡ None → ShowsName es ds kind word
name_shown None es ds kind word give is fault = absurd (let f : Some UnknownName ≡ None = fault in cc)
name_shown (Some e) es ds kind word give is fault =
    let same : same_kind e.kind kind ≡ true = kind_case (same_kind e.kind kind) fault in
    let h = give word e is in
    let small : nat_lt e.number 256 ≡ true = (let f = h.small in search rules) in
    record {
      number = e.number;
      found = rw (is, same, small) refl;
      text = ap (λ k. name_of ds k e.number) (sym (same_kind_is e.kind kind same)) ∙ h.name;
    }

one_shown : (d : Declared) (ds : List Decl) → AllGive d.names ds → (n : ℕ) (spot : Spot) (word : List ℕ) → stands spot word ≡ true → IsClean spot word → name_fault d n spot word ≡ None → Shows d.names ds spot word
one_shown d ds give n (Keyword k) word st clean fault = keyword_shown k word st
one_shown d ds give n Answer word st clean fault = answer_shown (answer_of word) word refl st
one_shown d ds give n (Number low high) word st clean fault = holds (is_within low high word) NumberRange clean.ranged
one_shown d ds give n Operand word st clean fault = operand_shown (is_register word) word refl clean
one_shown d ds give n (Declares kind) word st clean fault = holds (is_name word) BadName clean.spelled
one_shown d ds give n (Uses kind) word st clean fault = name_shown (entry_of d.names word) d.names ds kind word give refl fault
one_shown d ds give n Signal word st clean fault = signal_shown (signal_of word) word refl (holds (is_some (signal_of word)) BadName clean.spelled)
one_shown d ds give n Acts word st clean fault = signal_shown (signal_of word) word refl (holds (is_some (signal_of word)) BadName clean.spelled)
one_shown d ds give n Signals word st clean fault = set_shown (set_of word) word refl (holds (is_some (set_of word)) BadName clean.spelled)

-- the words of a line without faults say what is written as their canonical words
pub all_shown : (d : Declared) (ds : List Decl) → AllGive d.names ds → (n : ℕ) (spots : List Spot) (words : List (List ℕ)) → fits spots words ≡ true → AreClean spots words → place_faults (name_fault d n) spots words ≡ []
    → Holds (Shows d.names ds) spots words
all_shown d ds give n [] words fit clean fault = tt
all_shown d ds give n (spot ∷ spots) [] fit clean fault = absurd (let f : false ≡ true = fit in cc)
all_shown d ds give n (spot ∷ spots) (word ∷ words) fit clean fault =
    let st = both (stands spot word) (fits spots words) fit in
    let s = none_first (spelling spot word) (place_faults spelling spots words) clean.spelled in
    let r = none_first (range_fault spot word) (place_faults range_fault spots words) clean.ranged in
    let u = none_first (name_fault d n spot word) (place_faults (name_fault d n) spots words) fault in
    (one_shown d ds give n spot word st.0 (record { spelled = s.0; ranged = r.0 }) u.0, all_shown d ds give n spots words st.1 (record { spelled = s.1; ranged = r.1 }) u.1)
