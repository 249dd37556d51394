-- What is read without a fault is well formed.
use Rattle.std.proofs.Common.{Bool, List, None, Ok, Option, Some, [], ap, arith, false, length, refl, subst, sym, true, ℕ, ◌+◌, ◌≡◌, ◌≤◌, ◌∷◌, ◌++◌, ◌∙◌}
use Rattle.std.specs.Prelude.{Result, Err, nat_lt, not, option_to_list, unwrap_or, ◌||◌, if◌then◌else◌}
use Rattle.std.specs.Option.{option_map}
use Rattle.std.proofs.lemmas.Bool.{ltb-false}
use Rattle.script_lex.specs.Lines.{lines_of}
use Rattle.script_lex.specs.Words.{has_bad_byte, line_words}
use Rattle.words_script.specs.declared.body.Step.TheVariants.{Make}
use Rattle.words_script.specs.declared.decl.Script.{Script}
use Rattle.rules_machine.specs.WellFormed.{IsWellFormed}
use Rattle.script_table.specs.declared.faults.FaultKind.{FaultKind}
use Rattle.script_table.specs.declared.faults.FaultKind.TheVariants.{BadByte, NotHere, StrayClose, TooMany}
use Rattle.script_table.specs.declared.form.Form.{Form}
use Rattle.script_table.specs.declared.form.Form.TheVariants as form
use Rattle.script_table.specs.declared.form.BlockForm.{BlockForm}
use Rattle.script_table.specs.declared.form.BlockForm.TheVariants as block
use Rattle.script_table.specs.declared.form.BodyForm.{BodyForm}
use Rattle.script_table.specs.declared.form.CallForm.{CallForm}
use Rattle.script_table.specs.declared.form.StepForm.{StepForm}
use Rattle.script_table.specs.declared.form.CloseForm.{CloseForm}
use Rattle.script_table.specs.declared.pattern.Bar.{Bar}
use Rattle.script_table.specs.declared.pattern.Bar.TheVariants as bar
use Rattle.words_script.specs.declared.name_kind.NameKind.{NameKind}
use Rattle.words_script.specs.declared.name_kind.NameKind.TheVariants as kind
use Rattle.script_table.specs.declared.pattern.Opening.{Opening}
use Rattle.script_table.specs.Faults.{Fault, earlier, faults_at, is_before, least, when}
use Rattle.script_table.specs.LineFaults.{faults_by, fitting_some, place_faults}
use Rattle.script_table.specs.Patterns.{Row, greatest, is_barred, same_closer}
use Rattle.script_table.specs.Table.{patterns}
use Rattle.script_table.specs.Structure.{Open, Said, behind, behind_line, closed_by, closer_of, line_faults, not_here, opened, opened_by, phase_one, place_of_row, row_of_line, said_from}
use Rattle.script_table.specs.Names.{Entry, declared, phase_two}
use Rattle.script_table.specs.Ranges.{Tally, entered, is_too_many, left, no_tally, phase_three, range_faults, range_fault, server_faults, tallied}
use Rattle.script_table.specs.Operands.{number_in}
use Rattle.script_table.specs.Calls.{call_of}
use Rattle.script_table.specs.Meaning.{action_decl, object_decl, plain_step, runs_cleanup}
use Rattle.script_table.specs.Build.{Built, Opened, after, after_form, built_from, close_one, closed, nothing_built, script_of, script_of_built}
use Rattle.script_table.specs.declared.version.Version.{Version}
use Rattle.script_table.specs.Versions.{most_of}
use Rattle.script_table.specs.Heading.{Beginning, heading}
use Rattle.script_table.specs.Read.{faults_in, read_behind, read_in, read, said_in, verdict}
use Rattle.laws_accepted.proofs.Operands as operands
use Rattle.laws_accepted.proofs.Operands.{IsBetween, number_between}
use Rattle.laws_accepted.proofs.Steps.{call_sound, own_guard, plain_sound}
use Rattle.laws_accepted.proofs.Declarations.{AreSoundDecls, action_sound, decls_more, limit_of, object_sound}
use Rattle.laws_accepted.proofs.Openings.{Fits, Match, closes_left, closes_match, guards_fit, guards_of, put_guards, put_match}
use Rattle.laws_accepted.proofs.Table.{fitting_barred, is_barred_so}

-- what is built so far against what the structure has open and the tally counts
record Keeps (t : Tally) (openings : List Opening) (b : Built) : Type 0 where
  match : Match openings b.blocks
  pushes : t.pushes ≡ guards_of b.blocks
  decls : AreSoundDecls b.decls
  quantum : 1 ≤ b.quantum

-- ---- no fault, and what it says

not_so : (holds : Bool) (kind : FaultKind) → when holds kind ≡ [] → holds ≡ false
not_so true kind e = cc
not_so false kind e = refl

so : (b : Bool) → not b ≡ false → b ≡ true
so true e = refl
so false e = cc

nil_left : {A : Type 0} (xs ys : List A) → xs ++ ys ≡ [] → xs ≡ []
nil_left [] ys e = refl
nil_left (x ∷ xs) ys e = cc

nil_right : {A : Type 0} (xs ys : List A) → xs ++ ys ≡ [] → ys ≡ []
nil_right [] ys e = e
nil_right (x ∷ xs) ys e = cc

no_kinds : (phase line : ℕ) (kinds : List FaultKind) → faults_at phase line kinds ≡ [] → kinds ≡ []
no_kinds phase line [] e = refl
no_kinds phase line (k ∷ kinds) e = cc

left_false : (a b : Bool) → (a || b) ≡ false → a ≡ false
left_false true b e = e
left_false false b e = refl

right_false : (a b : Bool) → (a || b) ≡ false → b ≡ false
right_false true b e = cc
right_false false b e = e

-- ---- one more line

quantum_kept : (o : Option ℕ) (q : ℕ) → operands.Said (IsBetween 1 greatest) o → 1 ≤ q → 1 ≤ unwrap_or o q
quantum_kept None q h k = k
quantum_kept (Some n) q h k = h.least

step_fits : (openings : List Opening) (blocks : List Opened) (f : StepForm) (words : List (List ℕ)) → Match openings blocks → Fits openings blocks (plain_step f words)
step_fits [] blocks f words m = tt
step_fits (p ∷ openings) blocks f words m = plain_sound (limit_of p.home) (guards_of blocks) (guards_fit p openings blocks m) f words

call_fits : (es : List Entry) (openings : List Opening) (blocks : List Opened) (f : CallForm) (words : List (List ℕ)) → Match openings blocks → Fits openings blocks (option_map Make (call_of es f words))
call_fits es [] blocks f words m = tt
call_fits es (p ∷ openings) blocks f words m = call_sound (limit_of p.home) (guards_of blocks) (guards_fit p openings blocks m) es f words

-- a body is opened where nothing is open
body_opens : (f : BodyForm) (b : Bar) (words : List (List ℕ)) (openings : List Opening) (blocks : List Opened) → not_here (form.Body f) b openings ≡ [] → Match openings blocks →
    Match (opened (form.Body f) openings) (record { form = form.Body f; words = words; steps = [] } ∷ blocks)
body_opens f b words [] [] here m = (record { closer = refl; home = refl; sound = record { fits = tt; plain = tt; deep = omega arith } }, tt)
body_opens f b words [] (o ∷ blocks) here m = absurd m
body_opens f b words (p ∷ openings) blocks here m = absurd (let none : NotHere ∷ [] ≡ [] = here in cc)

-- a guarded block is opened in the body of a thread, where fewer than eight are open
push_room : (b : Bar) (home : NameKind) (round : ℕ) → is_barred_so (form.Block block.Push) b ≡ true → is_barred b home ≡ false → 1 + round ≤ 8 → 1 + round ≤ limit_of home
push_room bar.HandlersAndCleanups kind.Handler round barred free few = absurd (grind arith)
push_room bar.HandlersAndCleanups kind.Cleanup round barred free few = absurd (grind arith)
push_room bar.HandlersAndCleanups other round barred free few = few
push_room bar.Nowhere home round barred free few = absurd (grind arith)
push_room bar.Handlers home round barred free few = absurd (grind arith)

block_room : (f : BlockForm) (b : Bar) (t : Tally) (home : NameKind) (round : ℕ) → is_barred_so (form.Block f) b ≡ true → is_barred b home ≡ false → nat_lt 8 (entered t (closer_of f)).pushes ≡ false →
    t.pushes ≡ round → round ≤ limit_of home → own_guard f + round ≤ limit_of home
block_room block.Push b t home round barred free few same room = let most : t.pushes + 1 ≤ 8 = ltb-false 8 (t.pushes + 1) few in push_room b home round barred free (omega arith)
block_room block.If b t home round barred free few same room = omega arith
block_room block.Unless b t home round barred free few same room = omega arith
block_room block.Loop b t home round barred free few same room = omega arith
block_room block.Forever b t home round barred free few same room = omega arith

block_pushes : (f : BlockForm) (t : Tally) (round : ℕ) → t.pushes ≡ round → (entered t (closer_of f)).pushes ≡ own_guard f + round
block_pushes block.Push t round e = omega (arith, e)
block_pushes block.If t round e = omega (arith, e)
block_pushes block.Unless t round e = omega (arith, e)
block_pushes block.Loop t round e = omega (arith, e)
block_pushes block.Forever t round e = omega (arith, e)

block_opens : (f : BlockForm) (b : Bar) (t : Tally) (words : List (List ℕ)) (openings : List Opening) (blocks : List Opened) → not_here (form.Block f) b openings ≡ [] → is_barred_so (form.Block f) b ≡ true →
    nat_lt 8 (entered t (closer_of f)).pushes ≡ false → t.pushes ≡ guards_of blocks → Match openings blocks →
    Match (opened (form.Block f) openings) (record { form = form.Block f; words = words; steps = [] } ∷ blocks)
block_opens f b t words [] blocks here barred few same m = absurd (let none : NotHere ∷ [] ≡ [] = here in cc)
block_opens f b t words (p ∷ openings) blocks here barred few same m =
    let room = block_room f b t p.home (guards_of blocks) barred (not_so (is_barred b p.home) NotHere here) few same (guards_fit p openings blocks m) in
    (record { closer = refl; home = refl; sound = record { fits = tt; plain = tt; deep = omega arith } }, m)

close_pushes : (es : List Entry) (t : Tally) (b : Built) (f : CloseForm) (bar' : Bar) (openings : List Opening) → not_here (form.Close f) bar' openings ≡ [] → Match openings b.blocks → t.pushes ≡ guards_of b.blocks →
    (left t (closed_by f)).pushes ≡ guards_of (closed es b (runs_cleanup f) b.blocks).blocks
close_pushes es t b f bar' [] here m same = absurd (let none : StrayClose ∷ [] ≡ [] = here in cc)
close_pushes es t b f bar' (p ∷ openings) here m same =
    closes_left es b.quantum b.decls (runs_cleanup f) p openings b.blocks (closed_by f) t m (so (same_closer p.closer (closed_by f)) (not_so (not (same_closer p.closer (closed_by f))) StrayClose here)) same

keeps_after : (es : List Entry) (t : Tally) (openings : List Opening) (b : Built) (f : Form) (bar' : Bar) (words : List (List ℕ)) → not_here f bar' openings ≡ [] →
    is_too_many (tallied t f) f ≡ false → is_barred_so f bar' ≡ true → Keeps t openings b → Keeps (tallied t f) (opened f openings) (after_form es b f words)
keeps_after es t openings b form.Quantum bar' words here few barred k =
    record { match = k.match; pushes = k.pushes; decls = k.decls; quantum = quantum_kept (number_in 1 greatest 1 words) b.quantum (number_between 1 greatest 1 words) k.quantum }
keeps_after es t openings b (form.Object f) bar' words here few barred k =
    record { match = k.match; pushes = k.pushes; decls = decls_more b.decls (object_decl f words) k.decls (object_sound f words); quantum = k.quantum }
keeps_after es t openings b (form.Action f) bar' words here few barred k =
    record { match = k.match; pushes = k.pushes; decls = decls_more b.decls (action_decl es f words) k.decls (action_sound es f words); quantum = k.quantum }
keeps_after es t openings b (form.Body f) bar' words here few barred k =
    record { match = body_opens f bar' words openings b.blocks here k.match; pushes = omega (arith, k.pushes); decls = k.decls; quantum = k.quantum }
keeps_after es t openings b (form.Step f) bar' words here few barred k = record {
  match = put_match openings b.blocks (plain_step f words) (step_fits openings b.blocks f words k.match) k.match;
  pushes = k.pushes ∙ sym (put_guards (plain_step f words) b.blocks);
  decls = k.decls;
  quantum = k.quantum;
}
keeps_after es t openings b (form.Call f) bar' words here few barred k = record {
  match = put_match openings b.blocks (option_map Make (call_of es f words)) (call_fits es openings b.blocks f words k.match) k.match;
  pushes = k.pushes ∙ sym (put_guards (option_map Make (call_of es f words)) b.blocks);
  decls = k.decls;
  quantum = k.quantum;
}
keeps_after es t openings b (form.Block f) bar' words here few barred k =
    let t' = entered t (closer_of f) in
    let most = right_false (nat_lt 16 t'.depth) (nat_lt 8 t'.pushes) (right_false (nat_lt 65536 t'.steps) (nat_lt 16 t'.depth || nat_lt 8 t'.pushes) few) in
    record {
      match = block_opens f bar' t words openings b.blocks here barred most k.pushes k.match;
      pushes = block_pushes f t (guards_of b.blocks) k.pushes;
      decls = k.decls;
      quantum = k.quantum;
    }
keeps_after es t openings b (form.Close f) bar' words here few barred k =
    let c = closes_match es b.quantum b.decls (runs_cleanup f) openings b.blocks k.match k.decls in
    record { match = c.match; pushes = close_pushes es t b f bar' openings here k.match k.pushes; decls = c.decls; quantum = close_quantum es b (runs_cleanup f) b.blocks k.quantum }
  where
    one_quantum : (es : List Entry) (b : Built) (run : Bool) (o : Opened) → 1 ≤ b.quantum → (g : Form) → 1 ≤ (close_one es b run g o.words o.steps).quantum
    one_quantum es b run o h (form.Body f) = h
    one_quantum es b run o h (form.Block f) = h
    one_quantum es b run o h other = h

    close_quantum : (es : List Entry) (b : Built) (run : Bool) (blocks : List Opened) → 1 ≤ b.quantum → 1 ≤ (closed es b run blocks).quantum
    close_quantum es b run [] h = h
    close_quantum es b run (o ∷ blocks) h = one_quantum es (record b { blocks = blocks }) run o h o.form

-- ---- all lines

-- what these lines make of what is built before them
abbrev Goes : Version → List Entry → ℕ → ℕ → List (List ℕ) → Type 0
Goes v es n m lines = (t : Tally) (openings : List Opening) (b : Built) → phase_one (patterns v) n (Some openings) lines ≡ [] → phase_three m t (said_from (patterns v) n lines) ≡ [] → Keeps t openings b →
    IsWellFormed (script_of_built v (built_from es b (said_from (patterns v) n lines)))

well_formed_from : (v : Version) (es : List Entry) (n m : ℕ) (t : Tally) (openings : List Opening) (b : Built) (lines : List (List ℕ)) → phase_one (patterns v) n (Some openings) lines ≡ [] →
    phase_three m t (said_from (patterns v) n lines) ≡ [] → Keeps t openings b → IsWellFormed (script_of_built v (built_from es b (said_from (patterns v) n lines)))
unfolding phase_one said_from
well_formed_from v es n m t openings b [] one three k = record { quantum = k.quantum; priorities = k.decls.fit; guards = k.decls.guarded }
well_formed_from v es n m t openings b (line ∷ lines) one three k =
    by_row (row_of_line (patterns v) line) refl three (λ t' openings' b' more more' k'. well_formed_from v es (n + 1) m t' openings' b' lines more more' k')
  where
    of_line : line_faults (patterns v) (Some openings) line ≡ []
    of_line = no_kinds 1 n (line_faults (patterns v) (Some openings) line) (nil_left (faults_at 1 n (line_faults (patterns v) (Some openings) line)) (phase_one (patterns v) (n + 1) (behind_line (patterns v) (Some openings) line) lines) one)

    behind_it : (o : Option Row) → row_of_line (patterns v) line ≡ o → phase_one (patterns v) (n + 1) (Some (opened_by o openings)) lines ≡ []
    behind_it o e =
        subst (λ (open' : Open). phase_one (patterns v) (n + 1) open' lines ≡ []) (ap (λ (ks : List FaultKind). behind ks (row_of_line (patterns v) line) (Some openings)) of_line ∙ ap (λ (o : Option Row). Some (opened_by o openings)) e)
        (nil_right (faults_at 1 n (line_faults (patterns v) (Some openings) line)) (phase_one (patterns v) (n + 1) (behind_line (patterns v) (Some openings) line) lines) one)

    place : place_of_row (Some openings) (row_of_line (patterns v) line) ≡ []
    place =
        let words = line_words line in
        let spelled = faults_by (fitting_some (patterns v) words) (patterns v) words in
        let found = place_of_row (Some openings) (row_of_line (patterns v) line) in
        nil_right spelled found (nil_right (when (has_bad_byte line) BadByte) (spelled ++ found) of_line)

    said_of : Option Row → List Said
    said_of o = option_to_list (option_map (λ row. record { line = n; row = row; words = line_words line }) o) ++ said_from (patterns v) (n + 1) lines

    by_row : (o : Option Row) → row_of_line (patterns v) line ≡ o → phase_three m t (said_of o) ≡ [] → Goes v es (n + 1) m lines → IsWellFormed (script_of_built v (built_from es b (said_of o)))
    by_row None e three' rest = rest t openings b (behind_it None e) three' k
    by_row (Some row) e three' rest =
        let s : Said = record { line = n; row = row; words = line_words line } in
        let t' = tallied t row.form in
        let others = said_from (patterns v) (n + 1) lines in
        let here = no_kinds 3 n (range_faults t' s) (nil_left (faults_at 3 n (range_faults t' s)) (phase_three m t' others) three') in
        let limits = nil_right (server_faults row.form s.words) (when (is_too_many t' row.form) TooMany)
        (nil_right (place_faults range_fault row.places s.words) (server_faults row.form s.words ++ when (is_too_many t' row.form) TooMany) here) in
        let stands : not_here row.form row.bar openings ≡ [] = subst (λ (o : Option Row). place_of_row (Some openings) o ≡ []) e place in
        rest t' (opened row.form openings) (after es b s) (behind_it (Some row) e) (nil_right (faults_at 3 n (range_faults t' s)) (phase_three m t' others) three')
        (keeps_after es t openings b row.form row.bar s.words stands (not_so (is_too_many t' row.form) TooMany limits) (fitting_barred v (line_words line) row e) k)

keeps_nothing : (most : ℕ) → Keeps (no_tally most) [] nothing_built
keeps_nothing most = record { match = tt; pushes = refl; decls = record { fit = tt; guarded = tt }; quantum = omega arith }

-- ---- a text without a fault

some_chosen : (holds : Bool) (f g : Fault) → (if holds then Some g else Some f) ≡ None → ⊥
some_chosen true f g e = cc
some_chosen false f g e = cc

some_earlier : (f : Fault) (o : Option Fault) → earlier f o ≡ None → ⊥
some_earlier f None e = cc
some_earlier f (Some g) e = some_chosen (is_before g f) f g e

no_faults : (fs : List Fault) → least fs ≡ None → fs ≡ []
no_faults [] e = refl
no_faults (f ∷ fs) e = absurd (some_earlier f (least fs) e)

record Accepts (o : Option Fault) (script accepted : Script) : Type 0 where
  none : o ≡ None
  same : script ≡ accepted

accepts : (o : Option Fault) (script accepted : Script) → verdict o script ≡ Ok accepted → Accepts o script accepted
accepts None script accepted e = record { none = refl; same = cc }
accepts (Some f) script accepted e = cc

of_lines : (b : Beginning) (script : Script) → read_in (patterns b.version) b ≡ Ok script → IsWellFormed script
unfolding read_in
of_lines b script e =
    let rows = patterns b.version in
    let ss = said_in rows b in
    let t = no_tally (most_of b.version) in
    let last = b.number + length b.lines in
    let one = phase_one rows b.number (Some []) b.lines in
    let two = phase_two (declared ss) ss in
    let three = phase_three last t ss in
    let a = accepts (least (faults_in rows b)) (script_of b.version (declared ss).names ss) script e in
    let none = no_faults (faults_in rows b) a.none in
    subst IsWellFormed a.same
    (well_formed_from b.version (declared ss).names b.number last t [] nothing_built b.lines (nil_left one (two ++ three) none)
    (nil_right two three (nil_right one (two ++ three) none)) (keeps_nothing (most_of b.version)))

of_text : (found : Result Beginning Fault) (script : Script) → read_behind patterns found ≡ Ok script → IsWellFormed script
of_text (Err f) script e = absurd (let h : Err f ≡ Ok script = e in cc)
of_text (Ok b) script e = of_lines b script e

pub accepted_is_well_formed : (text : List ℕ) (script : Script) → read patterns text ≡ Ok script → IsWellFormed script
unfolding read
accepted_is_well_formed text script e = of_text (heading 1 (lines_of text)) script e
