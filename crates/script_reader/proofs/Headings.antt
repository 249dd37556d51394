-- The lines before the first that says something.
use Rattle.std.proofs.Common.{zero, suc, take, drop, length, get_or, drop-cons, add-one, append_assoc, arith, ◌++◌, ◌<◌, Bool, ◌≡◌, ℕ, ◌+◌, List, [], ◌∷◌, refl, sym, ◌∙◌, ap, subst, true, false}
use Rattle.std.specs.Prelude.{Result, Ok, Err, IfOk, IfErr, MatchResult}
use Rattle.std.specs.Prelude.{◌==◌, map, not}
use Rattle.std.specs.List.{list_all, prefix_len}
use Rattle.std.proofs.lemmas.Bool.Decides.{nat_tests}
use Rattle.script_lex.proofs.Rejoined.{both}
use Rattle.script_lex.specs.Words.{before_comment, has_bad_byte, is_allowed, line_words, words_of}
use Rattle.script_reader.specs.declared.end.ScriptEnd.TheVariants as end
use Rattle.script_lex.specs.Lines.{Ahead, lines_of}
use Rattle.script_table.specs.declared.faults.FaultKind.TheVariants.{BadByte}
use Rattle.script_table.specs.declared.version.Version.{Version}
use Rattle.script_table.specs.declared.version.Version.TheVariants.{One}
use Rattle.script_table.specs.Faults.{Fault, fault}
use Rattle.script_table.specs.Heading.{Beginning, by_words, unless_bad, heading, printed, printed_words}
use Rattle.script_table.specs.Patterns.{Row}
use Rattle.script_table.specs.Read.{Tables, read_behind, read_in, read}
use Rattle.words_script.specs.declared.decl.Script.{Script}
use Rattle.script_reader.specs.declared.end.ScriptEnd.{ScriptEnd}
use Rattle.script_reader.specs.Begun.{begun}
use Rattle.script_reader.specs.Ends.{EndsHeading, IsRefusal}

abbrev Found : Type 0
Found = Result Beginning Fault

none_left : (n : ℕ) → heading n [] ≡ Ok (record { version = One; number = n; lines = [] })
unfolding heading
none_left n = refl

pub one_line : (n : ℕ) (line : List ℕ) (lines : List (List ℕ)) → heading n (line ∷ lines) ≡ by_words n line (printed_words line) lines (heading (n + 1) lines)
unfolding heading
one_line n line lines = refl

allowed_printed : (b : Bool) (c : ℕ) → is_allowed c ≡ b → b ≡ true → printed c ≡ c
allowed_printed true c is e = rw is refl
allowed_printed false c is e = absurd (cc)

-- what is allowed is printed as it is
all_printed : (cs : List ℕ) → list_all is_allowed cs ≡ true → map printed cs ≡ cs
all_printed [] e = refl
all_printed (c ∷ cs) e =
    let h = both (is_allowed c) (list_all is_allowed cs) e in
    ap (λ d. d ∷ map printed cs) (allowed_printed (is_allowed c) c refl h.0) ∙ ap (λ ds. c ∷ ds) (all_printed cs h.1)

front_allowed : (k : ℕ) (cs : List ℕ) → list_all is_allowed cs ≡ true → list_all is_allowed (take k cs) ≡ true
front_allowed zero cs e = refl
front_allowed (suc k) [] e = refl
front_allowed (suc k) (c ∷ cs) e =
    let h = both (is_allowed c) (list_all is_allowed cs) e in
    rw (h.0, front_allowed k cs h.1) refl

not_bad : (b : Bool) → not b ≡ false → b ≡ true
not_bad true e = refl
not_bad false e = absurd (cc)

-- the words of a line without a bad byte
pub clean_words : (line : List ℕ) → has_bad_byte line ≡ false → printed_words line ≡ line_words line
clean_words line good = ap words_of (all_printed (before_comment line) (front_allowed (prefix_len (λ c. not (c == 35)) line) line (not_bad (list_all is_allowed line) good)))

-- ---- a line with a bad byte, byte by byte

front_more : (c : ℕ) (cs : List ℕ) → (c == 35) ≡ false → before_comment (c ∷ cs) ≡ c ∷ before_comment cs
front_more c cs e =
    let n = prefix_len (λ d. not (d == 35)) cs in
    let one : 1 + n ≡ suc n = omega arith in
    rw (e, one) refl

is_other : (b : Bool) (x : ℕ) → (x == 35) ≡ b → (x ≡ 35 → ⊥) → b ≡ false
is_other true x e differs = absurd (differs (let h : x ≡ 35 = grind (arith, nat_tests) in h))
is_other false x e differs = refl

-- what is done, and what is left from a place on
abbrev pub Printing : List ℕ → ℕ → List ℕ → Type 0
Printing line i done = done ++ map printed (before_comment (drop i line)) ≡ map printed (before_comment line)

pub printed_more : (line done : List ℕ) (i c d : ℕ) → i < length line → c ≡ get_or line i d → (c ≡ 35 → ⊥) → Printing line i done → Printing line (i + 1) (done ++ printed c ∷ [])
printed_more line done i c d lt is other so_far =
    let at : drop i line ≡ c ∷ drop (i + 1) line = rw add-one (drop-cons line i d lt ∙ ap (λ x. x ∷ drop (suc i) line) (sym is)) in
    append_assoc done (printed c ∷ []) (map printed (before_comment (drop (i + 1) line)))
    ∙ (ap (λ bs. done ++ map printed bs) (sym (ap before_comment at ∙ front_more c (drop (i + 1) line) (is_other (c == 35) c refl other))) ∙ so_far)

-- the heading, where these are the words of the next line
pub by_next : (n m : ℕ) (lines rest : List (List ℕ)) (line : List ℕ) (words : List (List ℕ)) (found : Found) →
    lines ≡ line ∷ rest → m ≡ n + 1 → printed_words line ≡ words → heading n lines ≡ found → by_words n line words rest (heading m rest) ≡ found
by_next n m lines rest line words found is is_m are so_far =
    ap (λ ws. by_words n line ws rest (heading m rest)) (sym are)
    ∙ (ap (λ k. by_words n line (printed_words line) rest (heading k rest)) is_m
    ∙ (sym (one_line n line rest) ∙ (ap (heading n) (sym is) ∙ so_far)))

-- past a line without words
pub past_line : (n m : ℕ) (lines rest : List (List ℕ)) (line : List ℕ) (words : List (List ℕ)) (found : Found) →
    lines ≡ line ∷ rest → m ≡ n + 1 → line_words line ≡ words → words ≡ [] → has_bad_byte line ≡ false → heading n lines ≡ found → heading m rest ≡ found
past_line n m lines rest line words found is is_m are none good so_far =
    let h : unless_bad n line (heading m rest) ≡ found = by_next n m lines rest line [] found is is_m (clean_words line good ∙ (are ∙ none)) so_far in
    rw good at h

-- a bad line without words
pub bad_line : (n m : ℕ) (lines rest : List (List ℕ)) (line : List ℕ) (words : List (List ℕ)) →
    lines ≡ line ∷ rest → m ≡ n + 1 → printed_words line ≡ words → words ≡ [] → has_bad_byte line ≡ true → heading n lines ≡ Err (fault 1 n BadByte)
bad_line n m lines rest line words is is_m are none bad =
    let h : unless_bad n line (heading m rest) ≡ heading n lines = by_next n m lines rest line [] (heading n lines) is is_m (are ∙ none) refl in
    sym (rw bad at h)

-- no line is left
pub at_end : (ahead lines : Ahead) (version : Version) (found : Found) → ahead.lines ≡ [] → version ≡ One → lines ≡ ahead → heading ahead.number ahead.lines ≡ found → found ≡ Ok (begun version lines)
at_end ahead lines version found none one same so_far =
    let h : heading ahead.number [] ≡ found = subst (λ ls. heading ahead.number ls ≡ found) none so_far in
    let empty : Ok (record { version = One; number = ahead.number; lines = [] }) ≡ Ok (begun One ahead) = ap (λ ls. Ok (record { version = One; number = ahead.number; lines = ls })) (sym none) in
    sym h ∙ (none_left ahead.number ∙ (empty ∙ (ap (λ v. Ok (begun v ahead)) (sym one) ∙ ap (λ a. Ok (begun version a)) (sym same))))

pub behind_heading : (tables : Tables) (text : List ℕ) (rows : List Row) (b : Beginning) → heading 1 (lines_of text) ≡ Ok b → rows ≡ tables b.version → read_in rows b ≡ read tables text
unfolding read
behind_heading tables text rows b found are = ap (λ rs. read_in rs b) are ∙ ap (read_behind tables) (sym found)

pub in_heading : (tables : Tables) (text : List ℕ) (e : ScriptEnd) → EndsHeading e (heading 1 (lines_of text)) → IsRefusal e (read tables text)
unfolding read
in_heading tables text end.OutOfMemory h = tt
in_heading tables text (end.Fault line kind) h = subst (IsRefusal (end.Fault line kind)) (ap (read_behind tables) (sym h)) (refl, refl)

pub of_ok : (r : Result Script ScriptEnd) (found want : Result Script Fault) → found ≡ want → MatchResult r (λ s. found ≡ Ok s) (λ e. IsRefusal e found) → IfOk r (λ s. want ≡ Ok s)
of_ok (Ok s) found want same h = sym same ∙ h
of_ok (Err e) found want same h = tt

pub of_err : (r : Result Script ScriptEnd) (found want : Result Script Fault) → found ≡ want → MatchResult r (λ s. found ≡ Ok s) (λ e. IsRefusal e found) → IfErr r (λ e. IsRefusal e want)
of_err (Ok s) found want same h = tt
of_err (Err e) found want same h = subst (IsRefusal e) same h

-- a line whose printed words are these
pub of_bad_line : (n at m : ℕ) (lines rest : List (List ℕ)) (line bytes shown : List ℕ) (words : List (List ℕ)) →
    lines ≡ line ∷ rest → n ≡ at → m ≡ at + 1 → bytes ≡ map printed (before_comment line) → shown ≡ bytes → words ≡ words_of shown → by_words at line words rest (heading m rest) ≡ heading n lines
of_bad_line n at m lines rest line bytes shown words is is_n is_m are seen split =
    let same : printed_words line ≡ words = ap words_of (sym are ∙ sym seen) ∙ sym split in
    by_next at m lines rest line words (heading n lines) is is_m same (ap (λ k. heading k lines) (sym is_n))
