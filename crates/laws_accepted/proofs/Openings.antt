-- What is open while lines are read: each block stands in what the structure says that it stands in, and its steps are sound there.
use Rattle.std.proofs.Common.{Bool, List, None, Option, Some, [], arith, refl, subst, sym, true, ℕ, ◌+◌, ◌≡◌, ◌≤◌, ◌∷◌, ◌∙◌, ap}
use Rattle.words_script.specs.Tree.{block_of}
use Rattle.words_script.specs.declared.body.Step.{Step}
use Rattle.words_script.specs.declared.decl.Decl.{Decl}
use Rattle.script_table.specs.declared.form.Form.{Form}
use Rattle.script_table.specs.declared.form.Form.TheVariants as form
use Rattle.script_table.specs.declared.form.BlockForm.{BlockForm}
use Rattle.script_table.specs.declared.form.BlockForm.TheVariants as block
use Rattle.script_table.specs.declared.form.BodyForm.{BodyForm}
use Rattle.words_script.specs.declared.name_kind.NameKind.{NameKind}
use Rattle.script_table.specs.declared.pattern.Opening.{Opening}
use Rattle.script_table.specs.declared.pattern.Closer.{Closer}
use Rattle.script_table.specs.declared.pattern.Closer.TheVariants as closer
use Rattle.script_table.specs.Names.{Entry}
use Rattle.script_table.specs.Patterns.{same_closer}
use Rattle.script_table.specs.Ranges.{Tally, left}
use Rattle.script_table.specs.Structure.{body_kind, closer_of, tail_of}
use Rattle.script_table.specs.Meaning.{block_step, body_decl}
use Rattle.script_table.specs.Build.{Built, Opened, close_one, closed, put_step}
use Rattle.laws_accepted.proofs.Operands.{Said}
use Rattle.laws_accepted.proofs.Steps.{AreSound, IsSound, block_sound, more_sound, own_guard}
use Rattle.laws_accepted.proofs.Declarations.{AreSoundDecls, body_sound, decls_more, limit_of}

-- how many of what is open are guarded blocks
abbrev pub guard_of : Form → ℕ
guard_of (form.Block f) = own_guard f
guard_of other = 0

abbrev pub guards_of : List Opened → ℕ
guards_of [] = 0
guards_of (o ∷ blocks) = guard_of o.form + guards_of blocks

-- what closes it
abbrev pub closes : Form → Closer
closes (form.Block f) = closer_of f
closes other = closer.End

-- whose body it is, or is in
abbrev pub IsHome : NameKind → Form → List Opening → Type 0
IsHome home (form.Body f) openings = home ≡ body_kind f
IsHome home (form.Block f) [] = ⊥
IsHome home (form.Block f) (o ∷ openings) = o.home ≡ home
IsHome home other openings = ⊥

pub record Level (p : Opening) (o : Opened) (openings : List Opening) (blocks : List Opened) : Type 0 where
  pub closer : p.closer ≡ closes o.form
  pub home : IsHome p.home o.form openings
  pub sound : AreSound (limit_of p.home) (guard_of o.form + guards_of blocks) o.steps

abbrev pub Match : List Opening → List Opened → Type 0
Match [] [] = Unit {0}
Match [] (o ∷ blocks) = ⊥
Match (p ∷ openings) [] = ⊥
Match (p ∷ openings) (o ∷ blocks) = Level p o openings blocks × Match openings blocks

-- ---- a step more in the innermost

-- a step that is sound in the innermost
abbrev pub Fits : List Opening → List Opened → Option Step → Type 0
Fits [] blocks d = Unit {0}
Fits (p ∷ openings) blocks d = Said (IsSound (limit_of p.home) (guards_of blocks)) d

pub put_match : (openings : List Opening) (blocks : List Opened) (d : Option Step) → Fits openings blocks d → Match openings blocks → Match openings (put_step d blocks)
put_match openings blocks None fits m = m
put_match [] [] (Some s) fits m = tt
put_match [] (o ∷ blocks) (Some s) fits m = m
put_match (p ∷ openings) [] (Some s) fits m = m
put_match (p ∷ openings) (o ∷ blocks) (Some s) fits m = (
  record {
    closer = m.0.closer;
    home = m.0.home;
    sound = more_sound (limit_of p.home) (guard_of o.form + guards_of blocks) o.steps s m.0.sound fits;
  },
  m.1,
)

pub put_guards : (d : Option Step) (blocks : List Opened) → guards_of (put_step d blocks) ≡ guards_of blocks
put_guards None blocks = refl
put_guards (Some s) [] = refl
put_guards (Some s) (o ∷ blocks) = refl

-- so many guarded blocks as are open may be
pub guards_fit : (p : Opening) (openings : List Opening) (blocks : List Opened) → Match (p ∷ openings) blocks → guards_of blocks ≤ limit_of p.home
guards_fit p openings [] m = absurd m
guards_fit p openings (o ∷ blocks) m = let d = m.0.sound.deep in omega arith

-- ---- the innermost is closed

-- what is open and declared then
pub record Closed (openings : List Opening) (b : Built) : Type 0 where
  pub match : Match openings b.blocks
  pub decls : AreSoundDecls b.decls

block_fits : (es : List Entry) (run : Bool) (p : Opening) (f : BlockForm) (words : List (List ℕ)) (steps : List Step) (openings : List Opening) (blocks : List Opened) →
    IsHome p.home (form.Block f) openings → AreSound (limit_of p.home) (own_guard f + guards_of blocks) steps → Fits openings blocks (block_step es f words run (block_of steps))
block_fits es run p f words steps [] blocks home sound = tt
block_fits es run p f words steps (q ∷ openings) blocks home sound =
    block_sound (limit_of q.home) (guards_of blocks) steps es f words run (subst (λ (k : NameKind). AreSound (limit_of k) (own_guard f + guards_of blocks) steps) (sym home) sound)

whole : (home : NameKind) (f : BodyForm) (round : ℕ) (steps : List Step) → home ≡ body_kind f → AreSound (limit_of home) round steps → AreSound (limit_of (body_kind f)) 0 steps
whole home f round steps e sound =
    let h : AreSound (limit_of (body_kind f)) round steps = subst (λ (k : NameKind). AreSound (limit_of k) round steps) e sound in
    record { fits = h.fits; plain = h.plain; deep = (let d = h.deep in omega arith) }

one_closes : (es : List Entry) (q : ℕ) (decls : List Decl) (run : Bool) (p : Opening) (f : Form) (words : List (List ℕ)) (steps : List Step) (openings : List Opening) (blocks : List Opened) →
    Match (p ∷ openings) (record { form = f; words = words; steps = steps } ∷ blocks) → AreSoundDecls decls →
    Closed openings (close_one es (record { quantum = q; blocks = blocks; decls = decls }) run f words steps)
one_closes es q decls run p (form.Body f) words steps openings blocks m sound = record {
  match = m.1;
  decls = decls_more decls (body_decl f words (block_of steps)) sound (body_sound steps f words (whole p.home f (0 + guards_of blocks) steps m.0.home m.0.sound));
}
one_closes es q decls run p (form.Block f) words steps openings blocks m sound = record {
  match = put_match openings blocks (block_step es f words run (block_of steps)) (block_fits es run p f words steps openings blocks m.0.home m.0.sound) m.1;
  decls = sound;
}
one_closes es q decls run p form.Quantum words steps openings blocks m sound = absurd m.0.home
one_closes es q decls run p (form.Object f) words steps openings blocks m sound = absurd m.0.home
one_closes es q decls run p (form.Action f) words steps openings blocks m sound = absurd m.0.home
one_closes es q decls run p (form.Step f) words steps openings blocks m sound = absurd m.0.home
one_closes es q decls run p (form.Call f) words steps openings blocks m sound = absurd m.0.home
one_closes es q decls run p (form.Close f) words steps openings blocks m sound = absurd m.0.home

pub closes_match : (es : List Entry) (q : ℕ) (decls : List Decl) (run : Bool) (openings : List Opening) (blocks : List Opened) → Match openings blocks → AreSoundDecls decls →
    Closed (tail_of openings) (closed es (record { quantum = q; blocks = blocks; decls = decls }) run blocks)
closes_match es q decls run [] [] m sound = record { match = tt; decls = sound }
closes_match es q decls run [] (o ∷ blocks) m sound = absurd m
closes_match es q decls run (p ∷ openings) [] m sound = absurd m
closes_match es q decls run (p ∷ openings) (o ∷ blocks) m sound = one_closes es q decls run p o.form o.words o.steps openings blocks m sound

-- the guarded blocks that are left
one_left : (es : List Entry) (q : ℕ) (decls : List Decl) (run : Bool) (f : Form) (words : List (List ℕ)) (steps : List Step) (blocks : List Opened) →
    guards_of (close_one es (record { quantum = q; blocks = blocks; decls = decls }) run f words steps).blocks ≡ guards_of blocks
one_left es q decls run (form.Block f) words steps blocks = put_guards (block_step es f words run (block_of steps)) blocks
one_left es q decls run other words steps blocks = refl

-- what is closed by its own word is a guarded block where that word is pop
left_by : (f : Form) (c : Closer) (t : Tally) (round : ℕ) → same_closer (closes f) c ≡ true → t.pushes ≡ guard_of f + round → (left t c).pushes ≡ round
left_by (form.Block block.Push) closer.Pop t round e h = omega (arith, h)
left_by (form.Block block.Push) closer.End t round e h = absurd (grind arith)
left_by (form.Block block.If) closer.End t round e h = omega (arith, h)
left_by (form.Block block.Unless) closer.End t round e h = omega (arith, h)
left_by (form.Block block.Loop) closer.End t round e h = omega (arith, h)
left_by (form.Block block.Forever) closer.End t round e h = omega (arith, h)
left_by (form.Block block.If) closer.Pop t round e h = absurd (grind arith)
left_by (form.Block block.Unless) closer.Pop t round e h = absurd (grind arith)
left_by (form.Block block.Loop) closer.Pop t round e h = absurd (grind arith)
left_by (form.Block block.Forever) closer.Pop t round e h = absurd (grind arith)
left_by other closer.End t round e h = omega (arith, h)
left_by other closer.Pop t round e h = absurd (grind arith)

pub closes_left : (es : List Entry) (q : ℕ) (decls : List Decl) (run : Bool) (p : Opening) (openings : List Opening) (blocks : List Opened) (c : Closer) (t : Tally) →
    Match (p ∷ openings) blocks → same_closer p.closer c ≡ true → t.pushes ≡ guards_of blocks →
    (left t c).pushes ≡ guards_of (closed es (record { quantum = q; blocks = blocks; decls = decls }) run blocks).blocks
closes_left es q decls run p openings [] c t m e h = absurd m
closes_left es q decls run p openings (o ∷ blocks) c t m e h =
    left_by o.form c t (guards_of blocks) (ap (λ (k : Closer). same_closer k c) (sym m.0.closer) ∙ e) h ∙ sym (one_left es q decls run o.form o.words o.steps blocks)
