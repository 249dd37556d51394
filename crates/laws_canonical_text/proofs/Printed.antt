-- The canonical lines of a script are those of the statements that it was built from.
use Rattle.std.proofs.Common.{◌≡◌, ℕ, List, [], ◌∷◌, ◌++◌, refl, sym, ◌∙◌, ap, subst, true, false, not, Option, None, Some, append_assoc, append-nil}
use Rattle.std.specs.Prelude.{codes, option_to_list}
use Rattle.std.specs.Option.{option_map}
use Rattle.words_script.specs.Tree.{block_of}
use Rattle.words_script.specs.declared.body.Step.{Step}
use Rattle.words_script.specs.declared.body.Step.TheVariants as steps
use Rattle.words_script.specs.declared.call.Call.{Call}
use Rattle.words_script.specs.declared.decl.Decl.{Decl}
use Rattle.script_table.specs.declared.faults.FaultKind.TheVariants.{StrayClose}
use Rattle.script_table.specs.declared.form.Form.{Form}
use Rattle.script_table.specs.declared.form.Form.TheVariants as form
use Rattle.script_table.specs.declared.form.BlockForm.{BlockForm}
use Rattle.script_table.specs.declared.form.BlockForm.TheVariants as block
use Rattle.script_table.specs.declared.form.CloseForm.{CloseForm}
use Rattle.script_table.specs.declared.form.CloseForm.TheVariants as close
use Rattle.script_table.specs.declared.pattern.Bar.{Bar}
use Rattle.script_table.specs.Faults.{when}
use Rattle.script_table.specs.Patterns.{same_closer}
use Rattle.script_table.specs.LineFaults.{fits}
use Rattle.script_table.specs.Ranges.{server_faults}
use Rattle.script_table.specs.Structure.{Said, not_here, close_faults, closed_by, closer_of, opened}
use Rattle.script_table.specs.Names.{Entry}
use Rattle.script_table.specs.Calls.{call_of}
use Rattle.script_table.specs.Meaning.{object_decl, action_decl, body_decl, plain_step, block_step, runs_cleanup}
use Rattle.script_table.specs.Build.{Opened, Built, put_step, close_one, closed, after_form, after, built_from}
use Rattle.script_writer.specs.Canon.{Words, call_words, run_words, set_words, add_words, take_words, block_lines, decl_lines, decls_lines, test_words, loop_words, push_words, pop_words, end_words}
use Rattle.laws_canonical_text.specs.Canonical.{canonical_words}
use Rattle.laws_canonical_text.proofs.Forms.{places_of}
use Rattle.laws_canonical_text.proofs.Shape.{padded, padded-fits, Holds}
use Rattle.laws_canonical_text.proofs.Shown.{Shows, shown_call, shown_step, shown_decl, closing_words, call_shown, object_shown, action_shown, body_shown, plain_shown, block_shown}
use Rattle.laws_canonical_text.proofs.Stack.{IsInner, is_empty, Stack, openings_of, Placed, outside, at_end, within_some, own_closer, after_goes}

-- a line that says what is written as its canonical words
pub record Told (es : List Entry) (ds : List Decl) (f : Form) (words : List (List ℕ)) : Type 0 where
  pub shown : Holds (Shows es ds) (places_of f) words
  pub fit : fits (places_of f) words ≡ true
  pub server : server_faults f words ≡ []

-- what is so of words that are made of one for each place
pub told_padded : (es : List Entry) (ds : List Decl) (P : List (List ℕ) → Type 0) (f : Form) (words : List (List ℕ)) → Told es ds f words
    → (server_faults f (padded (places_of f) words) ≡ [] → P (padded (places_of f) words)) → P words
told_padded es ds P f words told p =
    let same = padded-fits (places_of f) words told.fit in
    subst P same (p (subst (λ w. server_faults f w ≡ []) (sym same) told.server))

-- the words of a line in canonical form
abbrev pub kept : Form → List (List ℕ) → Words
kept f words = canonical_words (places_of f) words

-- the lines of what is open
abbrev pub open_lines : List Decl → List Opened → List Words
open_lines ds [] = []
open_lines ds (o ∷ blocks) = open_lines ds blocks ++ (kept o.form o.words ∷ block_lines ds (block_of o.steps))

-- the lines of what is built so far
abbrev pub lines_so_far : List Decl → Built → List Words
lines_so_far ds b = decls_lines ds b.decls ++ open_lines ds b.blocks

-- the line of a statement, but for the quantum's
abbrev pub line_of : Form → List (List ℕ) → List Words
line_of form.Quantum words = []
line_of other words = kept other words ∷ []

abbrev pub lines_of_said : List Said → List Words
lines_of_said [] = []
lines_of_said (s ∷ ss) = line_of s.row.form s.words ++ lines_of_said ss

inner_more : (w v : Words) (body front back all : List Words) → all ≡ front ++ back → (w ∷ (body ++ (v ∷ all))) ≡ (w ∷ (body ++ (v ∷ front))) ++ back
inner_more w v body front back all e = ap (λ x. w ∷ (body ++ (v ∷ x))) e ∙ ap (λ x. w ∷ x) (sym (append_assoc body (v ∷ front) back))

steps_more : (ds : List Decl) (ss more : List Step) → block_lines ds (block_of (ss ++ more)) ≡ block_lines ds (block_of ss) ++ block_lines ds (block_of more)
steps_more ds [] more = refl
steps_more ds (steps.Run n ∷ ss) more = ap (λ x. run_words n ∷ x) (steps_more ds ss more)
steps_more ds (steps.Make call ∷ ss) more = ap (λ x. call_words ds call ∷ x) (steps_more ds ss more)
steps_more ds (steps.Set n ∷ ss) more = ap (λ x. set_words n ∷ x) (steps_more ds ss more)
steps_more ds (steps.Add n ∷ ss) more = ap (λ x. add_words n ∷ x) (steps_more ds ss more)
steps_more ds (steps.Take ∷ ss) more = ap (λ x. take_words ∷ x) (steps_more ds ss more)
steps_more ds (steps.Test res equal body ∷ ss) more =
    inner_more (test_words res equal) end_words (block_lines ds body) (block_lines ds (block_of ss)) (block_lines ds (block_of more)) (block_lines ds (block_of (ss ++ more))) (steps_more ds ss more)
steps_more ds (steps.Loop times body ∷ ss) more =
    inner_more (loop_words times) end_words (block_lines ds body) (block_lines ds (block_of ss)) (block_lines ds (block_of more)) (block_lines ds (block_of (ss ++ more))) (steps_more ds ss more)
steps_more ds (steps.Guard cleanup body run ∷ ss) more =
    inner_more (push_words ds cleanup) (pop_words run) (block_lines ds body) (block_lines ds (block_of ss)) (block_lines ds (block_of more)) (block_lines ds (block_of (ss ++ more))) (steps_more ds ss more)

put_lines : (ds : List Decl) (s : Option Step) (blocks : List Opened) → is_empty blocks ≡ false → open_lines ds (put_step s blocks) ≡ open_lines ds blocks ++ shown_step ds s
put_lines ds s [] some = absurd (let f : true ≡ false = some in cc)
put_lines ds None (o ∷ blocks) some = sym (append-nil (open_lines ds (o ∷ blocks)))
put_lines ds (Some s) (o ∷ blocks) some =
    ap (λ x. open_lines ds blocks ++ (kept o.form o.words ∷ x)) (steps_more ds o.steps (s ∷ []))
    ∙ sym (append_assoc (open_lines ds blocks) (kept o.form o.words ∷ block_lines ds (block_of o.steps)) (block_lines ds (block_of (s ∷ []))))

decls_more : (ds xs : List Decl) (d : Option Decl) → decls_lines ds (xs ++ option_to_list d) ≡ decls_lines ds xs ++ shown_decl ds d
decls_more ds [] None = refl
decls_more ds [] (Some d) = append-nil (decl_lines ds d)
decls_more ds (x ∷ xs) d = ap (λ y. decl_lines ds x ++ y) (decls_more ds xs d) ∙ sym (append_assoc (decl_lines ds x) (decls_lines ds xs) (shown_decl ds d))

-- with one more declaration, where nothing is open
decl_lines_more : (ds xs : List Decl) (d : Option Decl) (blocks : List Opened) (ls : List Words) → blocks ≡ [] → shown_decl ds d ≡ ls
    → decls_lines ds (xs ++ option_to_list d) ++ open_lines ds blocks ≡ (decls_lines ds xs ++ open_lines ds blocks) ++ ls
decl_lines_more ds xs d blocks ls none e =
    let xs_lines : List Words = decls_lines ds xs in
    ap (λ bs. decls_lines ds (xs ++ option_to_list d) ++ open_lines ds bs) none
    ∙ (append-nil (decls_lines ds (xs ++ option_to_list d))
    ∙ (decls_more ds xs d ∙ (ap (λ l. xs_lines ++ l) e
    ∙ (ap (λ l. l ++ ls) (sym (append-nil xs_lines)) ∙ ap (λ bs. (xs_lines ++ open_lines ds bs) ++ ls) (sym none)))))

-- with one more step in what is open
step_lines_more : (ds xs : List Decl) (s : Option Step) (blocks : List Opened) (ls : List Words) → is_empty blocks ≡ false → shown_step ds s ≡ ls
    → decls_lines ds xs ++ open_lines ds (put_step s blocks) ≡ (decls_lines ds xs ++ open_lines ds blocks) ++ ls
step_lines_more ds xs s blocks ls some e =
    ap (λ l. decls_lines ds xs ++ l) (put_lines ds s blocks some ∙ ap (λ l. open_lines ds blocks ++ l) e)
    ∙ sym (append_assoc (decls_lines ds xs) (open_lines ds blocks) ls)

abbrev close_words : CloseForm → Words
close_words close.End = codes "end" ∷ []
close_words close.Pop = codes "pop" ∷ codes "0" ∷ []
close_words close.PopRun = codes "pop" ∷ codes "1" ∷ []

close_shown : (es : List Entry) (ds : List Decl) (f : CloseForm) (ws : List (List ℕ)) → Holds (Shows es ds) (places_of (form.Close f)) ws → kept (form.Close f) (padded (places_of (form.Close f)) ws) ≡ close_words f
close_shown es ds close.End ws h = rw h.0 refl
close_shown es ds close.Pop ws h = rw (h.0, h.1.0) refl
close_shown es ds close.PopRun ws h = rw (h.0, h.1.0) refl

close_told : (es : List Entry) (ds : List Decl) (f : CloseForm) (words : List (List ℕ)) → Told es ds (form.Close f) words → kept (form.Close f) words ≡ close_words f
close_told es ds f words told = told_padded es ds (λ w. kept (form.Close f) w ≡ close_words f) (form.Close f) words told (λ e. close_shown es ds f words told.shown)

-- a body is closed by `end`
body_closing : (g : CloseForm) → when (not (same_closer (closer_of block.If) (closed_by g))) StrayClose ≡ [] → end_words ≡ close_words g
body_closing close.End e = refl
body_closing close.Pop e = absurd (let f : (StrayClose ∷ []) ≡ [] = e in cc)
body_closing close.PopRun e = absurd (let f : (StrayClose ∷ []) ≡ [] = e in cc)

block_closing : (f : BlockForm) (g : CloseForm) → same_closer (closer_of f) (closed_by g) ≡ true → closing_words f (runs_cleanup g) ≡ close_words g
block_closing block.Push close.End e = absurd (let f : false ≡ true = e in cc)
block_closing block.Push close.Pop e = refl
block_closing block.Push close.PopRun e = refl
block_closing f close.End e = refl
block_closing f close.Pop e = absurd (let f : false ≡ true = e in cc)
block_closing f close.PopRun e = absurd (let f : false ≡ true = e in cc)

pub empty_nil : (blocks : List Opened) → is_empty blocks ≡ true → blocks ≡ []
empty_nil [] e = refl
empty_nil (o ∷ blocks) e = absurd (let f : false ≡ true = e in cc)

regroup : (a b : List Words) (w : Words) (c : List Words) (v : Words) → (a ++ b) ++ (w ∷ (c ++ (v ∷ []))) ≡ (a ++ (b ++ (w ∷ c))) ++ (v ∷ [])
regroup a b w c v =
    append_assoc a b (w ∷ (c ++ (v ∷ [])))
    ∙ (ap (λ x. a ++ x) (sym (append_assoc b (w ∷ c) (v ∷ [])))
    ∙ sym (append_assoc a (b ++ (w ∷ c)) (v ∷ [])))

close_lines : (es : List Entry) (ds : List Decl) (b : Built) (f : Form) (words : List (List ℕ)) (ss : List Step) (g : CloseForm) → IsInner f b.blocks → Told es ds f words → Stack (Told es ds) b.blocks
    → close_faults (closed_by g) (opened f (openings_of b.blocks)) ≡ []
    → lines_so_far ds (close_one es b (runs_cleanup g) f words ss) ≡ (decls_lines ds b.decls ++ (open_lines ds b.blocks ++ (kept f words ∷ block_lines ds (block_of ss)))) ++ (close_words g ∷ [])
close_lines es ds b (form.Body f) words ss g within told stack e =
    let line : Words = kept (form.Body f) words in
    let body : List Words = block_lines ds (block_of ss) in
    let d : Option Decl = body_decl f words (block_of ss) in
    let shown : shown_decl ds d ≡ line ∷ (body ++ (end_words ∷ [])) =
    told_padded es ds (λ w. shown_decl ds (body_decl f w (block_of ss)) ≡ kept (form.Body f) w ∷ (body ++ (end_words ∷ []))) (form.Body f) words told
    (λ server. body_shown es ds (block_of ss) f words told.shown server) in
    decl_lines_more ds b.decls d b.blocks (line ∷ (body ++ (end_words ∷ []))) (empty_nil b.blocks within) shown
    ∙ (ap (λ v. (decls_lines ds b.decls ++ open_lines ds b.blocks) ++ (line ∷ (body ++ (v ∷ [])))) (body_closing g e)
    ∙ regroup (decls_lines ds b.decls) (open_lines ds b.blocks) line body (close_words g))
close_lines es ds b (form.Block f) words ss g within told stack e =
    let line : Words = kept (form.Block f) words in
    let body : List Words = block_lines ds (block_of ss) in
    let s : Option Step = block_step es f words (runs_cleanup g) (block_of ss) in
    let last : Words = closing_words f (runs_cleanup g) in
    let shown : shown_step ds s ≡ line ∷ (body ++ (last ∷ [])) =
    told_padded es ds (λ w. shown_step ds (block_step es f w (runs_cleanup g) (block_of ss)) ≡ kept (form.Block f) w ∷ (body ++ (last ∷ []))) (form.Block f) words told
    (λ server. block_shown es ds (runs_cleanup g) (block_of ss) f words told.shown) in
    step_lines_more ds b.decls s b.blocks (line ∷ (body ++ (last ∷ []))) within shown
    ∙ (ap (λ v. (decls_lines ds b.decls ++ open_lines ds b.blocks) ++ (line ∷ (body ++ (v ∷ [])))) (block_closing f g (own_closer (closer_of f) (closed_by g) (openings_of b.blocks) e))
    ∙ regroup (decls_lines ds b.decls) (open_lines ds b.blocks) line body (close_words g))
close_lines es ds b other words ss g within told stack e = absurd within

closed_lines : (es : List Entry) (ds : List Decl) (b : Built) (blocks : List Opened) (g : CloseForm) → Stack (Told es ds) blocks → close_faults (closed_by g) (openings_of blocks) ≡ []
    → lines_so_far ds (closed es b (runs_cleanup g) blocks) ≡ (decls_lines ds b.decls ++ open_lines ds blocks) ++ (close_words g ∷ [])
closed_lines es ds b [] g stack e = absurd (let f : (StrayClose ∷ []) ≡ [] = e in cc)
closed_lines es ds b (o ∷ blocks) g stack e = close_lines es ds (record b { blocks = blocks }) o.form o.words o.steps g stack.0 stack.1 stack.2 e

-- the lines after one more line
after_lines : (es : List Entry) (ds : List Decl) (b : Built) (f : Form) (bar : Bar) (words : List (List ℕ)) → Told es ds f words → Stack (Told es ds) b.blocks → not_here f bar (openings_of b.blocks) ≡ []
    → lines_so_far ds (after_form es b f words) ≡ lines_so_far ds b ++ line_of f words
after_lines es ds b form.Quantum bar words told stack e = sym (append-nil (lines_so_far ds b))
after_lines es ds b (form.Object f) bar words told stack e =
    decl_lines_more ds b.decls (object_decl f words) b.blocks (kept (form.Object f) words ∷ []) (outside (Told es ds) b.blocks stack e)
    (told_padded es ds (λ w. shown_decl ds (object_decl f w) ≡ kept (form.Object f) w ∷ []) (form.Object f) words told (λ server. object_shown es ds f words told.shown))
after_lines es ds b (form.Action f) bar words told stack e =
    decl_lines_more ds b.decls (action_decl es f words) b.blocks (kept (form.Action f) words ∷ []) (outside (Told es ds) b.blocks stack e)
    (told_padded es ds (λ w. shown_decl ds (action_decl es f w) ≡ kept (form.Action f) w ∷ []) (form.Action f) words told (λ server. action_shown es ds f words told.shown))
after_lines es ds b (form.Body f) bar words told stack e = sym (append_assoc (decls_lines ds b.decls) (open_lines ds b.blocks) (kept (form.Body f) words ∷ []))
after_lines es ds b (form.Block f) bar words told stack e = sym (append_assoc (decls_lines ds b.decls) (open_lines ds b.blocks) (kept (form.Block f) words ∷ []))
after_lines es ds b (form.Step f) bar words told stack e =
    step_lines_more ds b.decls (plain_step f words) b.blocks (kept (form.Step f) words ∷ []) (within_some bar b.blocks e)
    (told_padded es ds (λ w. shown_step ds (plain_step f w) ≡ kept (form.Step f) w ∷ []) (form.Step f) words told (λ server. plain_shown es ds f words told.shown))
after_lines es ds b (form.Call f) bar words told stack e =
    step_lines_more ds b.decls (option_map steps.Make (call_of es f words)) b.blocks (kept (form.Call f) words ∷ []) (within_some bar b.blocks e)
    (made (call_of es f words) ∙ told_padded es ds (λ w. shown_call ds (call_of es f w) ≡ kept (form.Call f) w ∷ []) (form.Call f) words told (λ server. call_shown es ds f words told.shown server))
  where
    made : (c : Option Call) → shown_step ds (option_map steps.Make c) ≡ shown_call ds c
    made None = refl
    made (Some c) = refl
after_lines es ds b (form.Close f) bar words told stack e =
    closed_lines es ds b b.blocks f stack e ∙ ap (λ w. lines_so_far ds b ++ (w ∷ [])) (sym (close_told es ds f words told))

-- each statement says what is written as its canonical words
abbrev pub AllTold : List Entry → List Decl → List Said → Type 0
AllTold es ds [] = Unit {0}
AllTold es ds (s ∷ ss) = Told es ds s.row.form s.words × AllTold es ds ss

pub built_lines : (es : List Entry) (ds : List Decl) (ss : List Said) (b : Built) → AllTold es ds ss → Stack (Told es ds) b.blocks → Placed (openings_of b.blocks) ss
    → decls_lines ds (built_from es b ss).decls ≡ lines_so_far ds b ++ lines_of_said ss
built_lines es ds [] b told stack placed =
    let none = at_end (Told es ds) b.blocks stack placed in
    sym (append-nil (lines_so_far ds b) ∙ (ap (λ bs. decls_lines ds b.decls ++ open_lines ds bs) none ∙ append-nil (decls_lines ds b.decls)))
built_lines es ds (s ∷ ss) b told stack placed =
    let goes = after_goes (Told es ds) es b s.row.form s.row.bar s.words told.0 stack placed.0 in
    let rest = subst (λ os. Placed os ss) (sym goes.openings) placed.1 in
    built_lines es ds ss (after es b s) told.1 goes.stack rest
    ∙ (ap (λ l. l ++ lines_of_said ss) (after_lines es ds b s.row.form s.row.bar s.words told.0 stack placed.0)
    ∙ append_assoc (lines_so_far ds b) (line_of s.row.form s.words) (lines_of_said ss))
