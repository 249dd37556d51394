-- The line of the quantum is moved to the front.
use Rattle.std.proofs.Common.{◌≡◌, ◌≤◌, ℕ, ◌+◌, List, [], ◌∷◌, ◌++◌, refl, sym, ◌∙◌, ap, subst, Bool, true, false, None, Some, arith}
use Rattle.std.specs.Prelude.{map, unwrap_or, ◌&&◌, nat_le, if◌then◌else◌}
use Rattle.words_script.specs.declared.body.Step.{Step}
use Rattle.script_table.specs.declared.faults.FaultKind.TheVariants.{TooMany}
use Rattle.script_table.specs.declared.form.Form.{Form}
use Rattle.script_table.specs.declared.form.Form.TheVariants as form
use Rattle.script_table.specs.declared.pattern.Closer.{Closer}
use Rattle.script_table.specs.declared.pattern.Closer.TheVariants as closer
use Rattle.script_table.specs.declared.pattern.Opening.{Opening}
use Rattle.script_table.specs.Faults.{faults_at, when}
use Rattle.script_table.specs.Patterns.{greatest}
use Rattle.script_table.specs.Words.{value_of}
use Rattle.script_table.specs.LineFaults.{place_faults}
use Rattle.script_table.specs.Structure.{Said, opened, closer_of, closed_by}
use Rattle.script_table.specs.Ranges.{Tally, entered, left, tallied, is_too_many, is_within, range_faults, range_fault, server_faults, phase_three, word}
use Rattle.script_table.specs.Names.{Entry, Declared, declared_at, declared_from, name_faults, phase_two}
use Rattle.script_table.specs.Meaning.{runs_cleanup}
use Rattle.script_table.specs.Build.{Opened, Built, close_one, closed, after_form, after, built_from}
use Rattle.script_writer.specs.Canon.{Words}
use Rattle.laws_canonical_text.specs.Canonical.{canonical_words}
use Rattle.laws_canonical_text.proofs.Places.{both_none}
use Rattle.laws_canonical_text.proofs.Kept.{within_parts}
use Rattle.laws_canonical_text.proofs.Names.{Rises}
use Rattle.laws_canonical_text.proofs.Forms.{places_of}
use Rattle.laws_canonical_text.proofs.Rebuilt.{AllSound}
use Rattle.laws_canonical_text.proofs.Stack.{Placed}
use Rattle.laws_canonical_text.proofs.Printed.{kept, line_of, lines_of_said}

abbrev pub keep : Form → Said → List Said → List Said
keep form.Quantum s ss = ss
keep other s ss = s ∷ ss

-- the statements, but for the quantum's
abbrev pub without : List Said → List Said
without [] = []
without (s ∷ ss) = keep s.row.form s (without ss)

abbrev pub NotQuantum : Form → Type 0
NotQuantum form.Quantum = ⊥
NotQuantum other = Unit {0}

pub keep_case : (P : List Said → Type 0) (f : Form) (s : Said) (ss : List Said) → (f ≡ form.Quantum → P ss) → (NotQuantum f → P (s ∷ ss)) → P (keep f s ss)
keep_case P form.Quantum s ss p q = p refl
keep_case P (form.Object f) s ss p q = q tt
keep_case P (form.Action f) s ss p q = q tt
keep_case P (form.Body f) s ss p q = q tt
keep_case P (form.Step f) s ss p q = q tt
keep_case P (form.Call f) s ss p q = q tt
keep_case P (form.Block f) s ss p q = q tt
keep_case P (form.Close f) s ss p q = q tt

pub placed_without : (openings : List Opening) (ss : List Said) → Placed openings ss → Placed openings (without ss)
placed_without openings [] h = h
placed_without openings (s ∷ ss) h =
    let ih = placed_without (opened s.row.form openings) ss h.1 in
    keep_case (Placed openings) s.row.form s (without ss) (λ q. subst (λ f. Placed (opened f openings) (without ss)) q ih) (λ other. (h.0, ih))

pub rises_down : (n m : ℕ) (ss : List Said) → n ≤ m → Rises m ss → Rises n ss
rises_down n m [] h r = tt
rises_down n m (s ∷ ss) h r = let one = r.0 in (omega arith, r.1)

pub rises_without : (n : ℕ) (ss : List Said) → Rises n ss → Rises n (without ss)
rises_without n [] h = tt
rises_without n (s ∷ ss) h =
    let ih = rises_without (s.line + 1) ss h.1 in
    let one = h.0 in
    keep_case (Rises n) s.row.form s (without ss) (λ q. rises_down n (s.line + 1) (without ss) (omega arith) ih) (λ other. (h.0, ih))

pub names_without : (d : Declared) (ss : List Said) → phase_two d ss ≡ [] → phase_two d (without ss) ≡ []
names_without d [] e = e
names_without d (s ∷ ss) e =
    let own = both_none (faults_at 2 s.line (name_faults d s)) (phase_two d ss) e in
    let ih = names_without d ss own.1 in
    keep_case (λ xs. phase_two d xs ≡ []) s.row.form s (without ss) (λ q. ih) (λ other. ap (λ x. x ++ phase_two d (without ss)) own.0 ∙ ih)

-- the quantum's line declares nothing
quantum_declares : (d : Declared) (n : ℕ) (words : List (List ℕ)) → declared_at d n (places_of form.Quantum) words ≡ d
quantum_declares d n [] = refl
quantum_declares d n (w ∷ []) = refl
quantum_declares d n (w ∷ v ∷ words) = refl

pub declared_without : (d : Declared) (ss : List Said) → AllSound ss → declared_from d (without ss) ≡ declared_from d ss
declared_without d [] sound = refl
declared_without d (s ∷ ss) sound =
    let next : Declared = declared_at d s.line s.row.places s.words in
    let ih = declared_without next ss sound.1 in
    keep_case (λ xs. declared_from d xs ≡ declared_from d (s ∷ ss)) s.row.form s (without ss)
    (λ q.
    let same : next ≡ d = ap (λ places. declared_at d s.line places s.words) (sound.0.places ∙ ap places_of q) ∙ quantum_declares d s.line s.words in
    ap (λ x. declared_from x (without ss)) (sym same) ∙ ih)
    (λ other. ih)

abbrev pub with_quanta : ℕ → Tally → Tally
with_quanta k t = record t { quanta = k }

entered_quanta : (t : Tally) (k : ℕ) (c : Closer) → entered (with_quanta k t) c ≡ with_quanta k (entered t c)
entered_quanta t k closer.End = refl
entered_quanta t k closer.Pop = refl

left_quanta : (t : Tally) (k : ℕ) (c : Closer) → left (with_quanta k t) c ≡ with_quanta k (left t c)
left_quanta t k closer.End = refl
left_quanta t k closer.Pop = refl

tallied_quanta : (t : Tally) (k : ℕ) (f : Form) → NotQuantum f → tallied (with_quanta k t) f ≡ with_quanta k (tallied t f)
tallied_quanta t k form.Quantum other = absurd other
tallied_quanta t k (form.Object f) other = refl
tallied_quanta t k (form.Action f) other = refl
tallied_quanta t k (form.Body f) other = refl
tallied_quanta t k (form.Step f) other = refl
tallied_quanta t k (form.Call f) other = refl
tallied_quanta t k (form.Block f) other = entered_quanta t k (closer_of f)
tallied_quanta t k (form.Close f) other = left_quanta t k (closed_by f)

too_many_quanta : (t : Tally) (k : ℕ) (f : Form) → NotQuantum f → is_too_many (with_quanta k t) f ≡ is_too_many t f
too_many_quanta t k form.Quantum other = absurd other
too_many_quanta t k (form.Object f) other = refl
too_many_quanta t k (form.Action f) other = refl
too_many_quanta t k (form.Body f) other = refl
too_many_quanta t k (form.Step f) other = refl
too_many_quanta t k (form.Call f) other = refl
too_many_quanta t k (form.Block f) other = refl
too_many_quanta t k (form.Close f) other = refl

range_quanta : (t : Tally) (k : ℕ) (s : Said) → NotQuantum s.row.form → range_faults (with_quanta k t) s ≡ range_faults t s
range_quanta t k s other =
    ap (λ b. place_faults range_fault s.row.places s.words ++ (server_faults s.row.form s.words ++ when b TooMany))
    (too_many_quanta t k s.row.form other)

-- the number of lines of the quantum matters for those alone
pub limits_without : (m k : ℕ) (t : Tally) (ss : List Said) → phase_three m t ss ≡ [] → phase_three m (with_quanta k t) (without ss) ≡ []
limits_without m k t [] e = e
limits_without m k t (s ∷ ss) e =
    let own = both_none (faults_at 3 s.line (range_faults (tallied t s.row.form) s)) (phase_three m (tallied t s.row.form) ss) e in
    let ih = limits_without m k (tallied t s.row.form) ss own.1 in
    keep_case (λ xs. phase_three m (with_quanta k t) xs ≡ []) s.row.form s (without ss)
    (λ q. subst (λ f. phase_three m (with_quanta k (tallied t f)) (without ss) ≡ []) q ih)
    (λ other.
    ap (λ x. faults_at 3 s.line (range_faults x s) ++ phase_three m x (without ss)) (tallied_quanta t k s.row.form other)
    ∙ (ap (λ x. faults_at 3 s.line x ++ phase_three m (with_quanta k (tallied t s.row.form)) (without ss)) (range_quanta (tallied t s.row.form) k s other)
    ∙ (ap (λ x. x ++ phase_three m (with_quanta k (tallied t s.row.form)) (without ss)) own.0 ∙ ih)))

abbrev pub with_quantum : ℕ → Built → Built
with_quantum q b = record b { quantum = q }

close_quantum : (es : List Entry) (q : ℕ) (b : Built) (run : Bool) (f : Form) (words : List (List ℕ)) (ss : List Step) → close_one es (with_quantum q b) run f words ss ≡ with_quantum q (close_one es b run f words ss)
close_quantum es q b run (form.Body f) words ss = refl
close_quantum es q b run (form.Block f) words ss = refl
close_quantum es q b run form.Quantum words ss = refl
close_quantum es q b run (form.Object f) words ss = refl
close_quantum es q b run (form.Action f) words ss = refl
close_quantum es q b run (form.Step f) words ss = refl
close_quantum es q b run (form.Call f) words ss = refl
close_quantum es q b run (form.Close f) words ss = refl

closed_quantum : (es : List Entry) (q : ℕ) (b : Built) (run : Bool) (blocks : List Opened) → closed es (with_quantum q b) run blocks ≡ with_quantum q (closed es b run blocks)
closed_quantum es q b run [] = refl
closed_quantum es q b run (o ∷ blocks) = close_quantum es q (record b { blocks = blocks }) run o.form o.words o.steps

after_quantum : (es : List Entry) (q : ℕ) (b : Built) (f : Form) (words : List (List ℕ)) → NotQuantum f → after_form es (with_quantum q b) f words ≡ with_quantum q (after_form es b f words)
after_quantum es q b form.Quantum words other = absurd other
after_quantum es q b (form.Object f) words other = refl
after_quantum es q b (form.Action f) words other = refl
after_quantum es q b (form.Body f) words other = refl
after_quantum es q b (form.Block f) words other = refl
after_quantum es q b (form.Step f) words other = refl
after_quantum es q b (form.Call f) words other = refl
after_quantum es q b (form.Close f) words other = closed_quantum es q b (runs_cleanup f) b.blocks

-- what is built does not depend on where the quantum's line stands
pub built_without : (es : List Entry) (q : ℕ) (b : Built) (ss : List Said) → built_from es (with_quantum q b) (without ss) ≡ with_quantum q (built_from es b ss)
built_without es q b [] = refl
built_without es q b (s ∷ ss) =
    let ih = built_without es q (after es b s) ss in
    keep_case (λ xs. built_from es (with_quantum q b) xs ≡ with_quantum q (built_from es b (s ∷ ss))) s.row.form s (without ss)
    (λ is. ap (λ f. built_from es (with_quantum q (after_form es b f s.words)) (without ss)) (sym is) ∙ ih)
    (λ other. ap (λ x. built_from es x (without ss)) (after_quantum es q b s.row.form s.words other) ∙ ih)

-- a quantum that a line may set
pub record InRange (q : ℕ) : Type 0 where
  pub low : 1 ≤ q
  pub high : q ≤ greatest

set_case : (b : Bool) (n q : ℕ) → (nat_le 1 n && nat_le n greatest) ≡ b → InRange q → InRange (unwrap_or (if b then Some n else None) q)
set_case true n q is h = let p = within_parts 1 greatest n is in record { low = p.0; high = p.1 }
set_case false n q is h = h

close_range : (es : List Entry) (b : Built) (run : Bool) (f : Form) (words : List (List ℕ)) (ss : List Step) → InRange b.quantum → InRange (close_one es b run f words ss).quantum
close_range es b run (form.Body f) words ss h = h
close_range es b run (form.Block f) words ss h = h
close_range es b run form.Quantum words ss h = h
close_range es b run (form.Object f) words ss h = h
close_range es b run (form.Action f) words ss h = h
close_range es b run (form.Step f) words ss h = h
close_range es b run (form.Call f) words ss h = h
close_range es b run (form.Close f) words ss h = h

closed_range : (es : List Entry) (b : Built) (run : Bool) (blocks : List Opened) → InRange b.quantum → InRange (closed es b run blocks).quantum
closed_range es b run [] h = h
closed_range es b run (o ∷ blocks) h = close_range es (record b { blocks = blocks }) run o.form o.words o.steps h

after_range : (es : List Entry) (b : Built) (f : Form) (words : List (List ℕ)) → InRange b.quantum → InRange (after_form es b f words).quantum
after_range es b form.Quantum words h = set_case (is_within 1 greatest (word 1 words)) (value_of (word 1 words)) b.quantum refl h
after_range es b (form.Object f) words h = h
after_range es b (form.Action f) words h = h
after_range es b (form.Body f) words h = h
after_range es b (form.Block f) words h = h
after_range es b (form.Step f) words h = h
after_range es b (form.Call f) words h = h
after_range es b (form.Close f) words h = closed_range es b (runs_cleanup f) b.blocks h

pub built_range : (es : List Entry) (b : Built) (ss : List Said) → InRange b.quantum → InRange (built_from es b ss).quantum
built_range es b [] h = h
built_range es b (s ∷ ss) h = built_range es (after es b s) ss (after_range es b s.row.form s.words h)

-- the canonical words of a statement
abbrev pub words_of : Said → Words
words_of s = canonical_words s.row.places s.words

line_some : (f : Form) (words : List (List ℕ)) → NotQuantum f → line_of f words ≡ kept f words ∷ []
line_some form.Quantum words other = absurd other
line_some (form.Object f) words other = refl
line_some (form.Action f) words other = refl
line_some (form.Body f) words other = refl
line_some (form.Block f) words other = refl
line_some (form.Step f) words other = refl
line_some (form.Call f) words other = refl
line_some (form.Close f) words other = refl

pub lines_without : (ss : List Said) → AllSound ss → lines_of_said ss ≡ map words_of (without ss)
lines_without [] sound = refl
lines_without (s ∷ ss) sound =
    let ih = lines_without ss sound.1 in
    keep_case (λ xs. line_of s.row.form s.words ++ lines_of_said ss ≡ map words_of xs) s.row.form s (without ss)
    (λ is. ap (λ f. line_of f s.words ++ lines_of_said ss) is ∙ ih)
    (λ other.
    ap (λ l. l ++ lines_of_said ss) (line_some s.row.form s.words other)
    ∙ (ap (λ places. canonical_words places s.words ∷ lines_of_said ss) (sym sound.0.places) ∙ ap (λ l. words_of s ∷ l) ih))
