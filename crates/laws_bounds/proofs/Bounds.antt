-- What is read without a fault has few threads, and bodies that are not too long and not nested too deeply.
use Rattle.std.proofs.Common.{ap, ℕ, ◌+◌, ◌-◌, ◌≤◌, ◌≡◌, max, List, [], ◌∷◌, ◌++◌, length, Option, None, Some, Ok, Bool, true, false, refl, subst, arith}
use Rattle.std.specs.Prelude.{Result, Err, nat_lt, ◌||◌, if◌then◌else◌, option_to_list}
use Rattle.std.specs.Option.{option_map}
use Rattle.std.proofs.lemmas.List.Elements.{All-nil}
use Rattle.std.proofs.lemmas.Bool.{ltb-false}
use Rattle.script_lex.specs.Lines.{lines_of}
use Rattle.words_script.specs.Tree.{block_of}
use Rattle.words_script.specs.declared.body.Step.{Step}
use Rattle.words_script.specs.declared.body.Step.TheVariants.{Make}
use Rattle.words_script.specs.declared.call.Call.{Call}
use Rattle.words_script.specs.declared.decl.Decl.{Decl}
use Rattle.words_script.specs.declared.decl.Script.{Script}
use Rattle.rules_bodies.specs.Flat.{nesting, bodies_of, IsFlattenable}
use Rattle.rules_machine.specs.Declarations.{threads_of}
use Rattle.script_table.specs.declared.faults.FaultKind.{FaultKind}
use Rattle.script_table.specs.declared.faults.FaultKind.TheVariants.{TooMany}
use Rattle.script_table.specs.declared.form.Form.{Form}
use Rattle.script_table.specs.declared.form.Form.TheVariants as form
use Rattle.script_table.specs.declared.form.ObjectForm.{ObjectForm}
use Rattle.script_table.specs.declared.form.ObjectForm.TheVariants as object
use Rattle.script_table.specs.declared.form.BodyForm.{BodyForm}
use Rattle.script_table.specs.declared.form.BodyForm.TheVariants as body
use Rattle.script_table.specs.declared.form.BlockForm.{BlockForm}
use Rattle.script_table.specs.declared.pattern.Closer.{Closer}
use Rattle.script_table.specs.declared.pattern.Closer.TheVariants as closer
use Rattle.script_table.specs.Faults.{Fault, when, faults_at, least, earlier, is_before}
use Rattle.script_table.specs.LineFaults.{place_faults}
use Rattle.script_table.specs.Patterns.{Row}
use Rattle.script_table.specs.Structure.{Said, body_kind, closer_of, closed_by, phase_one}
use Rattle.script_table.specs.Names.{Entry, Counts, counted, declared, phase_two}
use Rattle.script_table.specs.Ranges.{Tally, no_tally, tallied, entered, left, object_kind, is_over, is_too_many, range_fault, server_faults, range_faults, phase_three}
use Rattle.script_table.specs.Calls.{call_of}
use Rattle.script_table.specs.Meaning.{object_decl, action_decl, plain_step, runs_cleanup}
use Rattle.script_table.specs.Build.{Opened, Built, put_step, opens, after_form, after, closed, nothing_built, built_from, script_of_built, script_of}
use Rattle.script_table.specs.declared.version.Version.{Version}
use Rattle.script_table.specs.declared.version.Version.TheVariants.{One, Two}
use Rattle.script_table.specs.Versions.{version_number, most_of}
use Rattle.script_table.specs.Heading.{Beginning, heading}
use Rattle.script_table.specs.Read.{Tables, said_in, faults_in, verdict, read_in, read_behind, read}
use Rattle.laws_canonical_text.proofs.Wider.{most_kept}
use Rattle.laws_bounds.proofs.Steps.{AtMost, made_at_most, plain_at_most}
use Rattle.laws_bounds.proofs.Blocks.{Within, put_within, opens_within, closes_within}
use Rattle.laws_bounds.proofs.Decls.{IsShort, IsShallow, Declares, own_thread, object_added, action_added, declares_weaker, declares_more, put_declares, opens_declares, one_closes_declares}

-- handlers and cleanup handlers together
abbrev others : Counts → ℕ
others c = c.handlers + c.cleanups

-- what is built so far keeps to what is tallied, and the tally to its limits
record Keeps (t : Tally) (b : Built) : Type 0 where
  within : Within t.depth t.steps b.blocks
  declares : Declares t.counts.threads (t.counts.threads + others t.counts) b.blocks b.decls
  steps : t.steps ≤ 65536
  most : t.most ≤ 256
  threads : t.counts.threads ≤ t.most
  others_few : others t.counts ≤ 64

-- an object is no thread, no handler and no cleanup handler
object_threads : (c : Counts) (f : ObjectForm) → (counted c (object_kind f)).threads ≡ c.threads
object_threads c object.Cond = refl
object_threads c object.Sem = refl
object_threads c object.Queue = refl
object_threads c object.QueueNonblock = refl
object_threads c object.Timer = refl
object_threads c object.TimerReal = refl
object_threads c mutex = refl

object_others : (c : Counts) (f : ObjectForm) → others (counted c (object_kind f)) ≡ others c
object_others c object.Cond = refl
object_others c object.Sem = refl
object_others c object.Queue = refl
object_others c object.QueueNonblock = refl
object_others c object.Timer = refl
object_others c object.TimerReal = refl
object_others c mutex = refl

-- the counts after a line that opens a body
record CountsBody (f : BodyForm) (c : Counts) : Type 0 where
  threads : (counted c (body_kind f)).threads ≡ c.threads + own_thread (form.Body f)
  all : (counted c (body_kind f)).threads + others (counted c (body_kind f)) ≡ (c.threads + others c) + 1
  few : (most : ℕ) → is_over most (counted c (body_kind f)) (body_kind f) ≡ false → c.threads ≤ most → (counted c (body_kind f)).threads ≤ most
  others_few : (most : ℕ) → is_over most (counted c (body_kind f)) (body_kind f) ≡ false → others c ≤ 64 → others (counted c (body_kind f)) ≤ 64

body_counts : (f : BodyForm) (c : Counts) → CountsBody f c
body_counts body.Handler c = record {
  threads = omega arith;
  all = omega arith;
  few = λ most free few. few;
  others_few = λ most free few. ltb-false 64 ((c.handlers + 1) + c.cleanups) free;
}
body_counts body.Cleanup c = record {
  threads = omega arith;
  all = omega arith;
  few = λ most free few. few;
  others_few = λ most free few. ltb-false 64 (c.handlers + (c.cleanups + 1)) free;
}
body_counts thread c = record {
  threads = omega arith;
  all = omega arith;
  few = λ most free few. ltb-false most (c.threads + 1) free;
  others_few = λ most free few. few;
}

-- a block that opens, and a line that closes, leave the counts as they are
record SameCounts (t t' : Tally) : Type 0 where
  threads : t'.counts.threads ≡ t.counts.threads
  others_same : others t'.counts ≡ others t.counts

record Enters (t t' : Tally) : Type 0 where
  most : t'.most ≡ t.most
  counts : SameCounts t t'
  steps : t'.steps ≡ t.steps + 1
  depth : t'.depth ≡ t.depth + 1

record Leaves (t t' : Tally) : Type 0 where
  most : t'.most ≡ t.most
  counts : SameCounts t t'
  steps : t'.steps ≡ t.steps
  depth : t'.depth ≡ t.depth - 1

enters : (t : Tally) (c : Closer) → Enters t (entered t c)
enters t closer.End = record { most = refl; counts = record { threads = refl; others_same = refl }; steps = refl; depth = refl }
enters t closer.Pop = record { most = refl; counts = record { threads = refl; others_same = refl }; steps = refl; depth = refl }

leaves : (t : Tally) (c : Closer) → Leaves t (left t c)
leaves t closer.End = record { most = refl; counts = record { threads = refl; others_same = refl }; steps = refl; depth = refl }
leaves t closer.Pop = record { most = refl; counts = record { threads = refl; others_same = refl }; steps = refl; depth = refl }

left_false : (a b : Bool) → (a || b) ≡ false → a ≡ false
left_false true b e = e
left_false false b e = refl

right_false : (a b : Bool) → (a || b) ≡ false → b ≡ false
right_false true b e = cc
right_false false b e = e

-- a step without a block
keeps_step : (t : Tally) (b : Built) (s : Option Step) → AtMost 1 0 s → nat_lt 65536 (t.steps + 1) ≡ false → Keeps t b →
    Keeps (record t { steps = t.steps + 1 }) (record b { blocks = put_step s b.blocks })
keeps_step t b s most free k = record {
  within = put_within s 1 0 t.depth t.steps (t.steps + 1) b.blocks most (omega arith) (omega arith) k.within;
  declares = put_declares s t.counts.threads (t.counts.threads + others t.counts) t.counts.threads (t.counts.threads + others t.counts) b.blocks b.decls
      (omega arith) (omega arith) k.declares;
  steps = ltb-false 65536 (t.steps + 1) free;
  most = k.most;
  threads = k.threads;
  others_few = k.others_few;
}

-- a block opens
keeps_open : (t t' : Tally) (b : Built) (f : BlockForm) (words : List (List ℕ)) → Enters t t' → nat_lt 65536 t'.steps ≡ false → nat_lt 16 t'.depth ≡ false →
    Keeps t b → Keeps t' (opens b (form.Block f) words)
keeps_open t t' b f words e short shallow k =
    let deep : t'.depth ≤ 16 = ltb-false 16 t'.depth shallow in
    record {
      within = opens_within (form.Block f) words t.depth t.steps t'.depth t'.steps b.blocks e.depth (omega (arith, e.steps)) (λ block. deep) k.within;
      declares = opens_declares (form.Block f) words t.counts.threads (t.counts.threads + others t.counts) t'.counts.threads (t'.counts.threads + others t'.counts)
          b.blocks b.decls (omega (arith, e.counts.threads)) (omega (arith, e.counts.threads, e.counts.others_same)) k.declares;
      steps = ltb-false 65536 t'.steps short;
      most = omega (arith, k.most, e.most);
      threads = omega (arith, k.threads, e.counts.threads, e.most);
      others_few = omega (arith, k.others_few, e.counts.others_same);
    }

-- the innermost is closed
closes_declares : (es : List Entry) (q : ℕ) (blocks : List Opened) (decls : List Decl) (run : Bool) (depth steps threads bodies : ℕ) → steps ≤ 65536 →
    Within depth steps blocks → Declares threads bodies blocks decls →
    let b : Built = closed es (record { quantum = q; blocks = blocks; decls = decls }) run blocks in Declares threads bodies b.blocks b.decls
closes_declares es q [] decls run depth steps threads bodies limit w d = d
closes_declares es q (o ∷ blocks) decls run depth steps threads bodies limit w d =
    let nested : nesting (block_of o.steps) + (length blocks + 1) ≤ max 16 (length blocks + 1) = w.levels.0.nested in
    one_closes_declares es q decls run o.form o.words o.steps threads bodies blocks (omega (arith, w.held)) (omega arith) d

keeps_close : (es : List Entry) (t t' : Tally) (b : Built) (run : Bool) → Leaves t t' → Keeps t b → Keeps t' (closed es b run b.blocks)
keeps_close es t t' b run e k =
    let now = closed es b run b.blocks in
    record {
      within = closes_within es b.quantum b.blocks b.decls run t.depth t.steps t'.depth t'.steps e.depth e.steps k.within;
      declares = declares_weaker t.counts.threads (t.counts.threads + others t.counts) t'.counts.threads (t'.counts.threads + others t'.counts) now.blocks now.decls
          (omega (arith, e.counts.threads)) (omega (arith, e.counts.threads, e.counts.others_same))
          (closes_declares es b.quantum b.blocks b.decls run t.depth t.steps t.counts.threads (t.counts.threads + others t.counts) k.steps k.within k.declares);
      steps = omega (arith, k.steps, e.steps);
      most = omega (arith, k.most, e.most);
      threads = omega (arith, k.threads, e.counts.threads, e.most);
      others_few = omega (arith, k.others_few, e.counts.others_same);
    }

-- one more line with which there are not too many
keeps_after : (es : List Entry) (t : Tally) (b : Built) (f : Form) (words : List (List ℕ)) → is_too_many (tallied t f) f ≡ false → Keeps t b →
    Keeps (tallied t f) (after_form es b f words)
keeps_after es t b form.Quantum words free k =
    record { within = k.within; declares = k.declares; steps = k.steps; most = k.most; threads = k.threads; others_few = k.others_few }
keeps_after es t b (form.Object f) words free k =
    let c = counted t.counts (object_kind f) in
    let e = object_threads t.counts f in
    let h = object_others t.counts f in
    let decls = b.decls ++ option_to_list (object_decl f words) in
    record {
      within = k.within;
      declares = declares_weaker t.counts.threads (t.counts.threads + others t.counts) c.threads (c.threads + others c) b.blocks decls (omega arith) (omega arith)
          (declares_more (object_decl f words) 0 0 t.counts.threads (t.counts.threads + others t.counts) b.blocks b.blocks b.decls
          (object_added f words) (omega arith) (omega arith) k.declares);
      steps = k.steps;
      most = k.most;
      threads = omega (arith, k.threads);
      others_few = omega (arith, k.others_few);
    }
keeps_after es t b (form.Action f) words free k =
    record {
      within = k.within;
      declares = declares_more (action_decl es f words) 0 0 t.counts.threads (t.counts.threads + others t.counts) b.blocks b.blocks b.decls
          (action_added es f words) (omega arith) (omega arith) k.declares;
      steps = k.steps;
      most = k.most;
      threads = k.threads;
      others_few = k.others_few;
    }
keeps_after es t b (form.Body f) words free k =
    let c = counted t.counts (body_kind f) in
    let e = body_counts f t.counts in
    record {
      within = opens_within (form.Body f) words t.depth t.steps (t.depth + 1) t.steps b.blocks refl (omega arith) (λ none. absurd (omega arith)) k.within;
      declares = opens_declares (form.Body f) words t.counts.threads (t.counts.threads + others t.counts) c.threads (c.threads + others c) b.blocks b.decls
          (omega (arith, e.threads)) (omega (arith, e.all)) k.declares;
      steps = k.steps;
      most = k.most;
      threads = e.few t.most free k.threads;
      others_few = e.others_few t.most free k.others_few;
    }
keeps_after es t b (form.Step f) words free k = keeps_step t b (plain_step f words) (plain_at_most f words) free k
keeps_after es t b (form.Call f) words free k =
    keeps_step t b (option_map Make (call_of es f words))
    (made_at_most Make (λ (c : Call). record { count = omega arith; nested = omega arith }) (call_of es f words)) free k
keeps_after es t b (form.Block f) words free k =
    let t' = entered t (closer_of f) in
    let deep = right_false (nat_lt 65536 t'.steps) (nat_lt 16 t'.depth || nat_lt 8 t'.pushes) free in
    keeps_open t t' b f words (enters t (closer_of f)) (left_false (nat_lt 65536 t'.steps) (nat_lt 16 t'.depth || nat_lt 8 t'.pushes) free)
    (left_false (nat_lt 16 t'.depth) (nat_lt 8 t'.pushes) deep) k
keeps_after es t b (form.Close f) words free k = keeps_close es t (left t (closed_by f)) b (runs_cleanup f) (leaves t (closed_by f)) k

-- parts of a list with no elements have none
nil_left : {A : Type 0} (xs ys : List A) → xs ++ ys ≡ [] → xs ≡ []
nil_left [] ys e = refl
nil_left (x ∷ xs) ys e = cc

nil_right : {A : Type 0} (xs ys : List A) → xs ++ ys ≡ [] → ys ≡ []
nil_right [] ys e = e
nil_right (x ∷ xs) ys e = cc

no_kinds : (phase line : ℕ) (kinds : List FaultKind) → faults_at phase line kinds ≡ [] → kinds ≡ []
no_kinds phase line [] e = refl
no_kinds phase line (k ∷ kinds) e = cc

not_so : (holds : Bool) (kind : FaultKind) → when holds kind ≡ [] → holds ≡ false
not_so true kind e = cc
not_so false kind e = refl

pub record IsBounded (most : ℕ) (script : Script) : Type 0 where
  pub few : length (threads_of script) ≤ most
  pub flattenable : IsFlattenable (bodies_of script.decls).all

-- what is built of lines with no fault of the third phase
bounded_from : (v : Version) (es : List Entry) (n : ℕ) (t : Tally) (b : Built) (ss : List Said) → phase_three n t ss ≡ [] → Keeps t b →
    IsBounded t.most (script_of_built v (built_from es b ss))
bounded_from v es n t b [] none k = record {
  few = omega (arith, k.threads, k.declares.few);
  flattenable = record { numbered = omega (arith, k.most, k.threads, k.others_few, k.declares.numbered); short = k.declares.short; nested = k.declares.nested };
}
bounded_from v es n t b (s ∷ ss) none k =
    let t' = tallied t s.row.form in
    let here = no_kinds 3 s.line (range_faults t' s) (nil_left (faults_at 3 s.line (range_faults t' s)) (phase_three n t' ss) none) in
    let limits = nil_right (server_faults s.row.form s.words) (when (is_too_many t' s.row.form) TooMany)
    (nil_right (place_faults range_fault s.row.places s.words) (server_faults s.row.form s.words ++ when (is_too_many t' s.row.form) TooMany) here) in
    subst (λ m. IsBounded m (script_of_built v (built_from es (after es b s) ss))) (most_kept t s.row.form)
    (bounded_from v es n t' (after es b s) ss (nil_right (faults_at 3 s.line (range_faults t' s)) (phase_three n t' ss) none)
    (keeps_after es t b s.row.form s.words (not_so (is_too_many t' s.row.form) TooMany limits) k))

keeps_nothing : (most : ℕ) → most ≤ 256 → Keeps (no_tally most) nothing_built
keeps_nothing most few = record {
  within = record { deep = refl; held = omega arith; levels = tt };
  declares = record {
    few = omega arith;
    numbered = omega arith;
    short = All-nil IsShort;
    nested = All-nil IsShallow;
  };
  steps = omega arith;
  most = few;
  threads = omega arith;
  others_few = omega arith;
}

-- a text has no least fault where it has none
some_chosen : (holds : Bool) (f g : Fault) → (if holds then Some g else Some f) ≡ None → ⊥
some_chosen true f g e = cc
some_chosen false f g e = cc

some_earlier : (f : Fault) (o : Option Fault) → earlier f o ≡ None → ⊥
some_earlier f None e = cc
some_earlier f (Some g) e = some_chosen (is_before g f) f g e

no_faults : (fs : List Fault) → least fs ≡ None → fs ≡ []
no_faults [] e = refl
no_faults (f ∷ fs) e = absurd (some_earlier f (least fs) e)

record Accepts (o : Option Fault) (script accepted : Script) : Type 0 where
  none : o ≡ None
  same : script ≡ accepted

accepts : (o : Option Fault) (script accepted : Script) → verdict o script ≡ Ok accepted → Accepts o script accepted
accepts None script accepted e = record { none = refl; same = cc }
accepts (Some f) script accepted e = cc

few_of : (v : Version) → most_of v ≤ 256
few_of One = omega arith
few_of Two = omega arith

part_is_bounded : (rows : List Row) (b : Beginning) (script : Script) → read_in rows b ≡ Ok script → IsBounded (most_of b.version) script
unfolding read_in
part_is_bounded rows b script e =
    let ss = said_in rows b in
    let t = no_tally (most_of b.version) in
    let last = b.number + length b.lines in
    let one = phase_one rows b.number (Some []) b.lines in
    let two = phase_two (declared ss) ss in
    let three = phase_three last t ss in
    let a = accepts (least (faults_in rows b)) (script_of b.version (declared ss).names ss) script e in
    let none = nil_right two three (nil_right one (two ++ three) (no_faults (faults_in rows b) a.none)) in
    subst (IsBounded (most_of b.version)) a.same (bounded_from b.version (declared ss).names last t nothing_built ss none (keeps_nothing (most_of b.version) (few_of b.version)))

own_version : (rows : List Row) (b : Beginning) (script : Script) → read_in rows b ≡ Ok script → version_number b.version ≡ script.version
unfolding read_in
own_version rows b script e =
    let ss = said_in rows b in
    ap (λ (s : Script). s.version) (accepts (least (faults_in rows b)) (script_of b.version (declared ss).names ss) script e).same

-- the limits of a script's version
record Limited (script : Script) : Type 0 where
  version : Version
  number : version_number version ≡ script.version
  bounded : IsBounded (most_of version) script

within_limits : (tables : Tables) (found : Result Beginning Fault) (script : Script) → read_behind tables found ≡ Ok script → Limited script
within_limits tables (Err f) script e = absurd (let h : Err f ≡ Ok script = e in cc)
within_limits tables (Ok b) script e = record { version = b.version; number = own_version (tables b.version) b script e; bounded = part_is_bounded (tables b.version) b script e }

-- whatever the rows of the tables are
read_is_within : (tables : Tables) (text : List ℕ) (script : Script) → read tables text ≡ Ok script → Limited script
unfolding read
read_is_within tables text script e = within_limits tables (heading 1 (lines_of text)) script e

pub read_is_bounded : (tables : Tables) (text : List ℕ) (script : Script) → read tables text ≡ Ok script → IsBounded 256 script
read_is_bounded tables text script e =
    let h = read_is_within tables text script e in
    let few = few_of h.version in
    record { few = omega (arith, h.bounded.few); flattenable = h.bounded.flattenable }

first_version : (v : Version) (script : Script) → version_number v ≡ script.version → script.version ≡ 1 → length (threads_of script) ≤ most_of v → length (threads_of script) ≤ 64
first_version One script number one few = few
first_version Two script number one few = absurd (omega (arith, number, one))

pub first_is_bounded : (tables : Tables) (text : List ℕ) (script : Script) → read tables text ≡ Ok script → script.version ≡ 1 → length (threads_of script) ≤ 64
first_is_bounded tables text script e one = let h = read_is_within tables text script e in first_version h.version script h.number one h.bounded.few
