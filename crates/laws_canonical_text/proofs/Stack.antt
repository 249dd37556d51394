-- What is open while a script is built, and what stands where.
use Rattle.std.proofs.Common.{◌≡◌, ℕ, List, [], ◌∷◌, refl, sym, ◌∙◌, ap, Bool, true, false, not, Option, None, Some}
use Rattle.std.specs.Option.{option_map}
use Rattle.words_script.specs.Tree.{block_of}
use Rattle.words_script.specs.declared.body.Step.TheVariants.{Make}
use Rattle.script_table.specs.Calls.{call_of}
use Rattle.words_script.specs.declared.body.Step.{Step}
use Rattle.script_table.specs.declared.faults.FaultKind.TheVariants.{NotHere, StrayClose, Unclosed}
use Rattle.script_table.specs.declared.form.Form.{Form}
use Rattle.script_table.specs.declared.form.Form.TheVariants as form
use Rattle.script_table.specs.declared.pattern.Bar.{Bar}
use Rattle.script_table.specs.declared.pattern.Closer.{Closer}
use Rattle.script_table.specs.declared.pattern.Opening.{Opening}
use Rattle.script_table.specs.Faults.{when}
use Rattle.script_table.specs.Patterns.{same_closer}
use Rattle.script_table.specs.Structure.{Said, is_nil, tail_of, not_here, step_faults, close_faults, closer_of, inner, opened, unclosed}
use Rattle.script_table.specs.Names.{Entry}
use Rattle.script_table.specs.Meaning.{plain_step, block_step, runs_cleanup}
use Rattle.script_table.specs.Build.{Opened, Built, put_step, close_one, closed, after_form}

abbrev pub is_empty : List Opened → Bool
is_empty [] = true
is_empty (o ∷ blocks) = false

-- a body stands alone, and a block in something
abbrev pub IsInner : Form → List Opened → Type 0
IsInner (form.Body f) blocks = is_empty blocks ≡ true
IsInner (form.Block f) blocks = is_empty blocks ≡ false
IsInner other blocks = ⊥

-- what is open, where each line that opened it is so
abbrev pub Stack : (Form → List (List ℕ) → Type 0) → List Opened → Type 0
Stack T [] = Unit {0}
Stack T (o ∷ blocks) = IsInner o.form blocks × T o.form o.words × Stack T blocks

abbrev pub openings_of : List Opened → List Opening
openings_of [] = []
openings_of (o ∷ blocks) = opened o.form (openings_of blocks)

-- the statements stand where they may, and all that they open is closed
abbrev pub Placed : List Opening → List Said → Type 0
Placed openings [] = unclosed (Some openings) ≡ []
Placed openings (s ∷ ss) = (not_here s.row.form s.row.bar openings ≡ []) × Placed (opened s.row.form openings) ss

inner_open : (c : Closer) (openings : List Opening) → is_nil openings ≡ false → is_nil (inner c openings) ≡ false
inner_open c [] e = e
inner_open c (o ∷ openings) e = refl

is_open : (T : Form → List (List ℕ) → Type 0) (f : Form) (blocks : List Opened) → IsInner f blocks → Stack T blocks → is_nil (opened f (openings_of blocks)) ≡ false
is_open T (form.Body f) blocks within stack = refl
is_open T (form.Block f) [] within stack = absurd (let f : true ≡ false = within in cc)
is_open T (form.Block f) (x ∷ blocks) within stack = inner_open (closer_of f) (openings_of (x ∷ blocks)) (is_open T x.form blocks stack.0 stack.2)
is_open T other blocks within stack = absurd within

-- nothing is open where no opening is
pub all_closed : (T : Form → List (List ℕ) → Type 0) (blocks : List Opened) → Stack T blocks → is_nil (openings_of blocks) ≡ true → blocks ≡ []
all_closed T [] stack e = refl
all_closed T (o ∷ blocks) stack e = absurd (let f : true ≡ false = sym e ∙ is_open T o.form blocks stack.0 stack.2 in cc)

nil_when : (b : Bool) → when (not b) NotHere ≡ [] → b ≡ true
nil_when true e = refl
nil_when false e = absurd (let f : (NotHere ∷ []) ≡ [] = e in cc)

-- a declaration stands outside of all bodies
pub outside : (T : Form → List (List ℕ) → Type 0) (blocks : List Opened) → Stack T blocks → when (not (is_nil (openings_of blocks))) NotHere ≡ [] → blocks ≡ []
outside T blocks stack e = all_closed T blocks stack (nil_when (is_nil (openings_of blocks)) e)

unclosed_nil : (openings : List Opening) → unclosed (Some openings) ≡ [] → is_nil openings ≡ true
unclosed_nil [] e = refl
unclosed_nil (o ∷ openings) e = absurd (let f : (Unclosed ∷ []) ≡ [] = e in cc)

pub at_end : (T : Form → List (List ℕ) → Type 0) (blocks : List Opened) → Stack T blocks → unclosed (Some (openings_of blocks)) ≡ [] → blocks ≡ []
at_end T blocks stack e = all_closed T blocks stack (unclosed_nil (openings_of blocks) e)

pub not_stray : (b : Bool) → when (not b) StrayClose ≡ [] → b ≡ true
not_stray true e = refl
not_stray false e = absurd (let f : (StrayClose ∷ []) ≡ [] = e in cc)

-- the word that closes a block is its own
pub own_closer : (c d : Closer) (openings : List Opening) → close_faults d (inner c openings) ≡ [] → same_closer c d ≡ true
own_closer c d [] e = absurd (let f : (StrayClose ∷ []) ≡ [] = e in cc)
own_closer c d (o ∷ openings) e = not_stray (same_closer c d) e

tail_inner : (c : Closer) (openings : List Opening) → tail_of (inner c openings) ≡ openings
tail_inner c [] = refl
tail_inner c (o ∷ openings) = refl

put_stack : (T : Form → List (List ℕ) → Type 0) (s : Option Step) (blocks : List Opened) → Stack T blocks → Stack T (put_step s blocks)
put_stack T None blocks h = h
put_stack T (Some s) [] h = h
put_stack T (Some s) (o ∷ blocks) h = h

put_openings : (s : Option Step) (blocks : List Opened) → openings_of (put_step s blocks) ≡ openings_of blocks
put_openings None blocks = refl
put_openings (Some s) [] = refl
put_openings (Some s) (o ∷ blocks) = refl

pub some_open : (bar : Bar) (openings : List Opening) → step_faults bar openings ≡ [] → is_nil openings ≡ false
some_open bar [] e = absurd (let f : (NotHere ∷ []) ≡ [] = e in cc)
some_open bar (o ∷ openings) e = refl

-- what is open after a line
pub record Goes (T : Form → List (List ℕ) → Type 0) (blocks : List Opened) (after : List Opening) : Type 0 where
  pub stack : Stack T blocks
  pub openings : openings_of blocks ≡ after

close_goes : (T : Form → List (List ℕ) → Type 0) (es : List Entry) (b : Built) (run : Bool) (f : Form) (words : List (List ℕ)) (steps : List Step) → IsInner f b.blocks → Stack T b.blocks
    → Goes T (close_one es b run f words steps).blocks (tail_of (opened f (openings_of b.blocks)))
close_goes T es b run (form.Body f) words steps within stack = record { stack = stack; openings = refl }
close_goes T es b run (form.Block f) words steps within stack =
    let s : Option Step = block_step es f words run (block_of steps) in
    record { stack = put_stack T s b.blocks stack; openings = put_openings s b.blocks ∙ sym (tail_inner (closer_of f) (openings_of b.blocks)) }
close_goes T es b run other words steps within stack = absurd within

closed_goes : (T : Form → List (List ℕ) → Type 0) (es : List Entry) (b : Built) (run : Bool) (blocks : List Opened) → Stack T b.blocks → openings_of b.blocks ≡ openings_of blocks → Stack T blocks
    → Goes T (closed es b run blocks).blocks (tail_of (openings_of blocks))
closed_goes T es b run [] h same k = record { stack = h; openings = same }
closed_goes T es b run (o ∷ blocks) h same k = close_goes T es (record b { blocks = blocks }) run o.form o.words o.steps k.0 k.2

open_some : (blocks : List Opened) → is_nil (openings_of blocks) ≡ false → is_empty blocks ≡ false
open_some [] e = e
open_some (o ∷ blocks) e = refl

-- a step stands in something
pub within_some : (bar : Bar) (blocks : List Opened) → step_faults bar (openings_of blocks) ≡ [] → is_empty blocks ≡ false
within_some bar blocks e = open_some blocks (some_open bar (openings_of blocks) e)

-- what is open after a line that stands where it may
pub after_goes : (T : Form → List (List ℕ) → Type 0) (es : List Entry) (b : Built) (f : Form) (bar : Bar) (words : List (List ℕ)) → T f words → Stack T b.blocks → not_here f bar (openings_of b.blocks) ≡ []
    → Goes T (after_form es b f words).blocks (opened f (openings_of b.blocks))
after_goes T es b form.Quantum bar words told stack e = record { stack = stack; openings = refl }
after_goes T es b (form.Object f) bar words told stack e = record { stack = stack; openings = refl }
after_goes T es b (form.Action f) bar words told stack e = record { stack = stack; openings = refl }
after_goes T es b (form.Body f) bar words told stack e = record { stack = (ap is_empty (outside T b.blocks stack e), told, stack); openings = refl }
after_goes T es b (form.Step f) bar words told stack e = record { stack = put_stack T (plain_step f words) b.blocks stack; openings = put_openings (plain_step f words) b.blocks }
after_goes T es b (form.Call f) bar words told stack e =
    let s : Option Step = option_map Make (call_of es f words) in
    record { stack = put_stack T s b.blocks stack; openings = put_openings s b.blocks }
after_goes T es b (form.Block f) bar words told stack e = record { stack = (within_some bar b.blocks e, told, stack); openings = refl }
after_goes T es b (form.Close f) bar words told stack e = closed_goes T es b (runs_cleanup f) b.blocks stack refl stack
