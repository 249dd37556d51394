-- Statements that are said anew build the same script.
use Rattle.std.proofs.Common.{◌≡◌, ℕ, List, [], ◌∷◌, refl, ◌∙◌, ap, Bool, Option, None, Some}
use Rattle.std.specs.Prelude.{map, unwrap_or}
use Rattle.std.specs.Option.{option_map}
use Rattle.words_script.specs.Tree.{block_of}
use Rattle.words_script.specs.declared.body.Step.{Step}
use Rattle.words_script.specs.declared.body.Step.TheVariants.{Make}
use Rattle.script_table.specs.declared.form.Form.{Form}
use Rattle.script_table.specs.declared.form.Form.TheVariants as form
use Rattle.script_table.specs.Patterns.{greatest}
use Rattle.script_table.specs.Structure.{Said}
use Rattle.script_table.specs.Names.{Entry}
use Rattle.script_table.specs.Operands.{number_in}
use Rattle.script_table.specs.Calls.{call_of}
use Rattle.script_table.specs.Meaning.{object_decl, action_decl, body_decl, plain_step, block_step, runs_cleanup}
use Rattle.script_table.specs.declared.version.Version.{Version}
use Rattle.script_table.specs.Versions.{version_number}
use Rattle.script_table.specs.Build.{Opened, Built, put_step, with_decl, with_step, close_one, closed, after_form, after, built_from, nothing_built, script_of}
use Rattle.laws_canonical_text.specs.Canonical.{canonical_words}
use Rattle.laws_canonical_text.specs.Laws.{AreAnew}
use Rattle.std.specs.Prelude.{true}
use Rattle.laws_canonical_text.proofs.Declares.{declares_rightly}
use Rattle.laws_canonical_text.proofs.Forms.{places_of}
use Rattle.laws_canonical_text.proofs.Shape.{padded, Holds}
use Rattle.laws_canonical_text.proofs.Sameness.{Same, call_same, object_same, action_same, body_same, plain_same, block_same}
use Rattle.laws_canonical_text.proofs.Sound.{Sound, SameNumbers, same_places, of_padded}

-- what is open, with canonical words
abbrev pub anew_open : Opened → Opened
anew_open o = record o { words = canonical_words (places_of o.form) o.words }

abbrev pub anew_built : Built → Built
anew_built b = record b { blocks = map anew_open b.blocks }

abbrev pub AllOpen : List Opened → Type 0
AllOpen [] = Unit {0}
AllOpen (o ∷ blocks) = Sound o.form o.words × AllOpen blocks

quantum_same : (es xs : List Entry) (ws : List (List ℕ)) → Holds (Same es xs) (places_of form.Quantum) ws
    → number_in 1 greatest 1 (canonical_words (places_of form.Quantum) (padded (places_of form.Quantum) ws)) ≡ number_in 1 greatest 1 (padded (places_of form.Quantum) ws)
quantum_same es xs ws h = rw h.1.0 refl

put_anew : (s : Option Step) (blocks : List Opened) → put_step s (map anew_open blocks) ≡ map anew_open (put_step s blocks)
put_anew None blocks = refl
put_anew (Some s) [] = refl
put_anew (Some s) (o ∷ blocks) = refl

step_anew : (b : Built) (s t : Option Step) → t ≡ s → with_step (anew_built b) t ≡ anew_built (with_step b s)
step_anew b s t same = ap (with_step (anew_built b)) same ∙ ap (λ x. record b { blocks = x }) (put_anew s b.blocks)

close_anew : (es xs : List Entry) → SameNumbers es xs → (b : Built) (run : Bool) (f : Form) (words : List (List ℕ)) (steps : List Step) → Sound f words
    → close_one xs (anew_built b) run f (canonical_words (places_of f) words) steps ≡ anew_built (close_one es b run f words steps)
close_anew es xs names b run (form.Body f) words steps sound =
    ap (with_decl (anew_built b))
    (of_padded (λ w. body_decl f (canonical_words (places_of (form.Body f)) w) (block_of steps) ≡ body_decl f w (block_of steps)) (form.Body f) words sound
    (body_same es xs (block_of steps) f words (same_places es xs names (form.Body f) words sound)))
close_anew es xs names b run (form.Block f) words steps sound =
    step_anew b _ _
    (of_padded (λ w. block_step xs f (canonical_words (places_of (form.Block f)) w) run (block_of steps) ≡ block_step es f w run (block_of steps)) (form.Block f) words sound
    (block_same es xs run (block_of steps) f words (same_places es xs names (form.Block f) words sound)))
close_anew es xs names b run form.Quantum words steps sound = refl
close_anew es xs names b run (form.Object f) words steps sound = refl
close_anew es xs names b run (form.Action f) words steps sound = refl
close_anew es xs names b run (form.Step f) words steps sound = refl
close_anew es xs names b run (form.Call f) words steps sound = refl
close_anew es xs names b run (form.Close f) words steps sound = refl

closed_anew : (es xs : List Entry) → SameNumbers es xs → (b : Built) (run : Bool) (blocks : List Opened) → AllOpen blocks
    → closed xs (anew_built b) run (map anew_open blocks) ≡ anew_built (closed es b run blocks)
closed_anew es xs names b run [] sound = refl
closed_anew es xs names b run (o ∷ blocks) sound = close_anew es xs names (record b { blocks = blocks }) run o.form o.words o.steps sound.0

after_anew : (es xs : List Entry) → SameNumbers es xs → (b : Built) (f : Form) (words : List (List ℕ)) → Sound f words → AllOpen b.blocks
    → after_form xs (anew_built b) f (canonical_words (places_of f) words) ≡ anew_built (after_form es b f words)
after_anew es xs names b form.Quantum words sound open' =
    ap (λ q. record (anew_built b) { quantum = unwrap_or q b.quantum })
    (of_padded (λ w. number_in 1 greatest 1 (canonical_words (places_of form.Quantum) w) ≡ number_in 1 greatest 1 w) form.Quantum words sound
    (quantum_same es xs words (same_places es xs names form.Quantum words sound)))
after_anew es xs names b (form.Object f) words sound open' =
    ap (with_decl (anew_built b))
    (of_padded (λ w. object_decl f (canonical_words (places_of (form.Object f)) w) ≡ object_decl f w) (form.Object f) words sound
    (object_same es xs f words (same_places es xs names (form.Object f) words sound)))
after_anew es xs names b (form.Action f) words sound open' =
    ap (with_decl (anew_built b))
    (of_padded (λ w. action_decl xs f (canonical_words (places_of (form.Action f)) w) ≡ action_decl es f w) (form.Action f) words sound
    (action_same es xs f words (same_places es xs names (form.Action f) words sound)))
after_anew es xs names b (form.Body f) words sound open' = refl
after_anew es xs names b (form.Block f) words sound open' = refl
after_anew es xs names b (form.Step f) words sound open' =
    step_anew b _ _
    (of_padded (λ w. plain_step f (canonical_words (places_of (form.Step f)) w) ≡ plain_step f w) (form.Step f) words sound
    (plain_same es xs f words (same_places es xs names (form.Step f) words sound)))
after_anew es xs names b (form.Call f) words sound open' =
    step_anew b _ _ (ap (option_map Make)
    (of_padded (λ w. call_of xs f (canonical_words (places_of (form.Call f)) w) ≡ call_of es f w) (form.Call f) words sound
    (call_same es xs f words (same_places es xs names (form.Call f) words sound))))
after_anew es xs names b (form.Close f) words sound open' = closed_anew es xs names b (runs_cleanup f) b.blocks open'

put_open : (s : Option Step) (blocks : List Opened) → AllOpen blocks → AllOpen (put_step s blocks)
put_open None blocks h = h
put_open (Some s) [] h = h
put_open (Some s) (o ∷ blocks) h = h

close_open : (es : List Entry) (b : Built) (run : Bool) (f : Form) (words : List (List ℕ)) (steps : List Step) → AllOpen b.blocks → AllOpen (close_one es b run f words steps).blocks
close_open es b run (form.Body f) words steps h = h
close_open es b run (form.Block f) words steps h = put_open (block_step es f words run (block_of steps)) b.blocks h
close_open es b run form.Quantum words steps h = h
close_open es b run (form.Object f) words steps h = h
close_open es b run (form.Action f) words steps h = h
close_open es b run (form.Step f) words steps h = h
close_open es b run (form.Call f) words steps h = h
close_open es b run (form.Close f) words steps h = h

closed_open : (es : List Entry) (b : Built) (run : Bool) (blocks : List Opened) → AllOpen b.blocks → AllOpen blocks → AllOpen (closed es b run blocks).blocks
closed_open es b run [] h k = h
closed_open es b run (o ∷ blocks) h k = close_open es (record b { blocks = blocks }) run o.form o.words o.steps k.1

pub after_open : (es : List Entry) (b : Built) (f : Form) (words : List (List ℕ)) → Sound f words → AllOpen b.blocks → AllOpen (after_form es b f words).blocks
after_open es b form.Quantum words sound h = h
after_open es b (form.Object f) words sound h = h
after_open es b (form.Action f) words sound h = h
after_open es b (form.Body f) words sound h = (sound, h)
after_open es b (form.Block f) words sound h = (sound, h)
after_open es b (form.Step f) words sound h = put_open (plain_step f words) b.blocks h
after_open es b (form.Call f) words sound h = put_open (option_map Make (call_of es f words)) b.blocks h
after_open es b (form.Close f) words sound h = closed_open es b (runs_cleanup f) b.blocks h h

-- a statement has the places of its form, and no fault of its own
pub record SoundSaid (s : Said) : Type 0 where
  pub places : s.row.places ≡ places_of s.row.form
  pub declares : declares_rightly s.row ≡ true
  pub sound : Sound s.row.form s.words

abbrev pub AllSound : List Said → Type 0
AllSound [] = Unit {0}
AllSound (s ∷ ss) = SoundSaid s × AllSound ss

built_anew : (es xs : List Entry) → SameNumbers es xs → (ss ts : List Said) (b : Built) → AreAnew ss ts → AllSound ss → AllOpen b.blocks
    → built_from xs (anew_built b) ts ≡ anew_built (built_from es b ss)
built_anew es xs names [] [] b anew sound open' = refl
built_anew es xs names [] (t ∷ ts) b anew sound open' = absurd anew
built_anew es xs names (s ∷ ss) [] b anew sound open' = absurd anew
built_anew es xs names (s ∷ ss) (t ∷ ts) b anew sound open' =
    let f : Form = s.row.form in
    let words : t.words ≡ canonical_words (places_of f) s.words = anew.0.words ∙ ap (λ places. canonical_words places s.words) sound.0.places in
    let one : after xs (anew_built b) t ≡ anew_built (after es b s) =
    ap (λ row. after_form xs (anew_built b) row.form t.words) anew.0.pattern
    ∙ (ap (after_form xs (anew_built b) f) words ∙ after_anew es xs names b f s.words sound.0.sound open') in
    ap (λ x. built_from xs x ts) one ∙ built_anew es xs names ss ts (after es b s) anew.1 sound.1 (after_open es b f s.words sound.0.sound open')

-- the same script
pub script_anew : (v : Version) (es xs : List Entry) → SameNumbers es xs → (ss ts : List Said) → AreAnew ss ts → AllSound ss → script_of v xs ts ≡ script_of v es ss
script_anew v es xs names ss ts anew sound =
    ap (λ b. record { version = version_number v; quantum = b.quantum; decls = b.decls }) (built_anew es xs names ss ts nothing_built anew sound tt)
