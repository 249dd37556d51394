-- What is declared while lines are read: how many threads and bodies, and that each body can be run.
use Rattle.std.proofs.Common.{ℕ, ◌+◌, ◌≤◌, ◌≡◌, List, [], ◌∷◌, ◌++◌, length, Option, None, Some, Bool, true, false, refl, sym, ◌∙◌, ap, subst, arith, append-nil, length-append}
use Rattle.std.specs.Option.{option_map}
use Rattle.std.specs.Prelude.{All, option_to_list, filter_map}
use Rattle.std.proofs.lemmas.List.Elements.{All-nil, All-cons, All-append, filter_map-append}
use Rattle.words_script.specs.Block.{Block}
use Rattle.words_script.specs.Tree.{block_of, step_count}
use Rattle.words_script.specs.declared.body.Step.{Step}
use Rattle.words_script.specs.declared.policy.Policy.{Policy}
use Rattle.words_script.specs.declared.decl.Kind.{Kind}
use Rattle.words_script.specs.declared.decl.Kind.TheVariants as kinds
use Rattle.words_script.specs.declared.decl.Decl.{Decl}
use Rattle.words_script.specs.declared.decl.Decl.TheVariants.{Named, Action}
use Rattle.rules_bodies.specs.Flat.{NumberedBodies, nesting, no_bodies, bodies_of, with_decl, with_decls}
use Rattle.rules_machine.specs.Declarations.{declared_thread}
use Rattle.script_table.specs.declared.form.Form.{Form}
use Rattle.script_table.specs.declared.form.Form.TheVariants as form
use Rattle.script_table.specs.declared.form.ObjectForm.{ObjectForm}
use Rattle.script_table.specs.declared.form.ObjectForm.TheVariants as object
use Rattle.script_table.specs.declared.form.ActionForm.{ActionForm}
use Rattle.script_table.specs.declared.form.ActionForm.TheVariants as action
use Rattle.script_table.specs.declared.form.BodyForm.{BodyForm}
use Rattle.script_table.specs.declared.form.BodyForm.TheVariants as body
use Rattle.words_script.specs.declared.name_kind.NameKind.TheVariants as kind
use Rattle.script_table.specs.Names.{Entry}
use Rattle.script_table.specs.Operands.{map_two, number_in, amount_at, priority_at, signal_at, name_at, named_at, fifo_at, rr_at, sporadic_at, strict_at}
use Rattle.script_table.specs.Meaning.{protect, queue, kind_of_object, object_decl, runs, ignores, action_decl, thread_at, thread_dormant, body_decl, block_step, timer}
use Rattle.script_table.specs.Build.{Opened, Built, put_step, close_one}

-- the bodies of what a line declares
abbrev pub bodies_in : Option Decl → List Block
bodies_in None = []
bodies_in (Some (Named name (kinds.Thread policy start steps))) = steps ∷ []
bodies_in (Some (Named name (kinds.Handler steps))) = steps ∷ []
bodies_in (Some (Named name (kinds.Cleanup steps))) = steps ∷ []
bodies_in (Some other) = []

abbrev pub threads_in : Option Decl → ℕ
threads_in d = length (filter_map declared_thread (option_to_list d))

decls_more : (decls : List Decl) (d : Decl) (b : NumberedBodies Block) →
    with_decls (λ steps. steps) (decls ++ d ∷ []) b ≡ with_decl (λ steps. steps) d (with_decls (λ steps. steps) decls b)
decls_more [] d b = refl
decls_more (e ∷ decls) d b = decls_more decls d (with_decl (λ steps. steps) e b)

pub decl_more : (d : Decl) (b : NumberedBodies Block) → (with_decl (λ steps. steps) d b).all ≡ b.all ++ bodies_in (Some d)
decl_more (Named name (kinds.Thread policy start steps)) b = refl
decl_more (Named name (kinds.Handler steps)) b = refl
decl_more (Named name (kinds.Cleanup steps)) b = refl
decl_more other b = sym (append-nil b.all)

bodies_more : (decls : List Decl) (d : Option Decl) → (bodies_of (decls ++ option_to_list d)).all ≡ (bodies_of decls).all ++ bodies_in d
bodies_more decls None = ap (λ (ds : List Decl). (bodies_of ds).all) (append-nil decls) ∙ sym (append-nil (bodies_of decls).all)
bodies_more decls (Some d) =
    ap (λ (b : NumberedBodies Block). b.all) (decls_more decls d no_bodies) ∙ decl_more d (with_decls (λ steps. steps) decls no_bodies)

threads_more : (decls : List Decl) (d : Option Decl) → length (filter_map declared_thread (decls ++ option_to_list d)) ≡ length (filter_map declared_thread decls) + threads_in d
threads_more decls d = ap length (filter_map-append declared_thread decls (option_to_list d)) ∙ length-append (filter_map declared_thread decls) (filter_map declared_thread (option_to_list d))

-- what the machine asks of a body
abbrev pub IsShort : Block → Type 0
IsShort steps = step_count steps ≤ 65536

abbrev pub IsShallow : Block → Type 0
IsShallow steps = nesting steps ≤ 15

-- a line declares at most so many threads and bodies, and bodies that can be run
pub record Adds (threads bodies : ℕ) (d : Option Decl) : Type 0 where
  pub few : threads_in d ≤ threads
  pub numbered : length (bodies_in d) ≤ bodies
  pub short : All IsShort (bodies_in d)
  pub nested : All IsShallow (bodies_in d)

-- kinds without a body
abbrev HasNoBody : Option Kind → Type 0
HasNoBody (Some (kinds.Thread policy start steps)) = ⊥
HasNoBody (Some (kinds.Handler steps)) = ⊥
HasNoBody (Some (kinds.Cleanup steps)) = ⊥
HasNoBody other = Unit {0}

none_added : (threads bodies : ℕ) → Adds threads bodies None
none_added threads bodies = record {
  few = omega arith;
  numbered = omega arith;
  short = All-nil IsShort;
  nested = All-nil IsShallow;
}

no_body_added : (d : Decl) → bodies_in (Some d) ≡ [] → threads_in (Some d) ≡ 0 → Adds 0 0 (Some d)
no_body_added d none few = record {
  few = omega arith;
  numbered = rw none (omega arith);
  short = rw none (All-nil IsShort);
  nested = rw none (All-nil IsShallow);
}

plain_added : (name : Option (List ℕ)) (k : Option Kind) → HasNoBody k → Adds 0 0 (map_two Named name k)
plain_added None k plain = none_added 0 0
plain_added (Some name) None plain = none_added 0 0
plain_added (Some name) (Some (kinds.Thread policy start steps)) plain = absurd plain
plain_added (Some name) (Some (kinds.Handler steps)) plain = absurd plain
plain_added (Some name) (Some (kinds.Cleanup steps)) plain = absurd plain
plain_added (Some name) (Some other) plain = no_body_added (Named name other) refl refl

protect_plain : (recursive : Bool) (o : Option ℕ) → HasNoBody (protect recursive o)
protect_plain recursive None = tt
protect_plain recursive (Some ceiling) = tt

queue_plain : (nonblock : Bool) (o p : Option ℕ) → HasNoBody (queue nonblock o p)
queue_plain nonblock None p = tt
queue_plain nonblock (Some depth) None = tt
queue_plain nonblock (Some depth) (Some max_len) = tt

sem_plain : (o : Option ℕ) → HasNoBody (option_map kinds.Sem o)
sem_plain None = tt
sem_plain (Some n) = tt

timer_plain : (real : Bool) (o p : Option ℕ) → HasNoBody (timer real o p)
timer_plain real None p = tt
timer_plain real (Some sig) None = tt
timer_plain real (Some sig) (Some value) = tt

object_plain : (f : ObjectForm) (words : List (List ℕ)) → HasNoBody (kind_of_object f words)
object_plain object.MutexNone words = tt
object_plain object.MutexNoneRecursive words = tt
object_plain object.MutexInherit words = tt
object_plain object.MutexInheritRecursive words = tt
object_plain object.MutexProtect words = protect_plain false (priority_at 3 words)
object_plain object.MutexProtectRecursive words = protect_plain true (priority_at 3 words)
object_plain object.Cond words = tt
object_plain object.Sem words = sem_plain (number_in 0 32767 2 words)
object_plain object.Queue words = queue_plain false (number_in 1 64 2 words) (number_in 1 65536 3 words)
object_plain object.QueueNonblock words = queue_plain true (number_in 1 64 2 words) (number_in 1 65536 3 words)
object_plain object.Timer words = timer_plain false (signal_at 2 words) (amount_at 3 words)
object_plain object.TimerReal words = timer_plain true (signal_at 2 words) (amount_at 3 words)

pub object_added : (f : ObjectForm) (words : List (List ℕ)) → Adds 0 0 (object_decl f words)
object_added f words = plain_added (name_at 1 words) (kind_of_object f words) (object_plain f words)

ignores_added : (o : Option ℕ) → Adds 0 0 (ignores o)
ignores_added None = none_added 0 0
ignores_added (Some sig) = no_body_added (Action sig None) refl refl

runs_added : (o p : Option ℕ) → Adds 0 0 (runs o p)
runs_added None p = none_added 0 0
runs_added (Some sig) None = none_added 0 0
runs_added (Some sig) (Some h) = no_body_added (Action sig (Some h)) refl refl

pub action_added : (es : List Entry) (f : ActionForm) (words : List (List ℕ)) → Adds 0 0 (action_decl es f words)
action_added es action.Ignore words = ignores_added (signal_at 1 words)
action_added es action.Run words = runs_added (signal_at 1 words) (named_at kind.Handler es 3 words)

-- how many threads, and how many bodies, a line of this form opens
abbrev pub own_thread : Form → ℕ
own_thread (form.Body body.Handler) = 0
own_thread (form.Body body.Cleanup) = 0
own_thread (form.Body thread) = 1
own_thread other = 0

abbrev pub own_body : Form → ℕ
own_body (form.Body f) = 1
own_body other = 0

module _ (steps : Block) (short : IsShort steps) (nested : IsShallow steps) where
  body_added : (threads : ℕ) (d : Decl) → bodies_in (Some d) ≡ steps ∷ [] → threads_in (Some d) ≤ threads → Adds threads 1 (Some d)
  body_added threads d one few = record {
    few = few;
    numbered = rw one (omega arith);
    short = rw one (All-cons IsShort steps [] short (All-nil IsShort));
    nested = rw one (All-cons IsShallow steps [] nested (All-nil IsShallow));
  }

  thread_at_added : (name : Option (List ℕ)) (policy : Option Policy) (start : Option ℕ) → Adds 1 1 (map_two Named name (thread_at policy start steps))
  thread_at_added None policy start = none_added 1 1
  thread_at_added (Some name) None start = none_added 1 1
  thread_at_added (Some name) (Some policy) None = none_added 1 1
  thread_at_added (Some name) (Some policy) (Some start) = body_added 1 (Named name (kinds.Thread policy (Some start) steps)) refl (omega arith)

  thread_dormant_added : (name : Option (List ℕ)) (policy : Option Policy) → Adds 1 1 (map_two Named name (thread_dormant policy steps))
  thread_dormant_added None policy = none_added 1 1
  thread_dormant_added (Some name) None = none_added 1 1
  thread_dormant_added (Some name) (Some policy) = body_added 1 (Named name (kinds.Thread policy None steps)) refl (omega arith)

  handler_added : (name : Option (List ℕ)) → Adds 0 1 (map_two Named name (Some (kinds.Handler steps)))
  handler_added None = none_added 0 1
  handler_added (Some name) = body_added 0 (Named name (kinds.Handler steps)) refl (omega arith)

  cleanup_added : (name : Option (List ℕ)) → Adds 0 1 (map_two Named name (Some (kinds.Cleanup steps)))
  cleanup_added None = none_added 0 1
  cleanup_added (Some name) = body_added 0 (Named name (kinds.Cleanup steps)) refl (omega arith)

  pub decl_added : (f : BodyForm) (words : List (List ℕ)) → Adds (own_thread (form.Body f)) 1 (body_decl f words steps)
  decl_added body.FifoAt words = thread_at_added (name_at 1 words) (fifo_at 3 words) (amount_at 5 words)
  decl_added body.FifoDormant words = thread_dormant_added (name_at 1 words) (fifo_at 3 words)
  decl_added body.RrAt words = thread_at_added (name_at 1 words) (rr_at 3 words) (amount_at 5 words)
  decl_added body.RrDormant words = thread_dormant_added (name_at 1 words) (rr_at 3 words)
  decl_added body.SporadicAt words = thread_at_added (name_at 1 words) (sporadic_at words) (amount_at 9 words)
  decl_added body.SporadicDormant words = thread_dormant_added (name_at 1 words) (sporadic_at words)
  decl_added body.StrictAt words = thread_at_added (name_at 1 words) (strict_at words) (amount_at 9 words)
  decl_added body.StrictDormant words = thread_dormant_added (name_at 1 words) (strict_at words)
  decl_added body.Handler words = handler_added (name_at 1 words)
  decl_added body.Cleanup words = cleanup_added (name_at 1 words)

-- the threads and the bodies that are open
abbrev pub open_threads : List Opened → ℕ
open_threads [] = 0
open_threads (o ∷ blocks) = own_thread o.form + open_threads blocks

abbrev pub open_bodies : List Opened → ℕ
open_bodies [] = 0
open_bodies (o ∷ blocks) = own_body o.form + open_bodies blocks

-- what is declared, with what is open, against the counts of the lines
pub record Declares (threads bodies : ℕ) (blocks : List Opened) (decls : List Decl) : Type 0 where
  pub few : length (filter_map declared_thread decls) + open_threads blocks ≤ threads
  pub numbered : length (bodies_of decls).all + open_bodies blocks ≤ bodies
  pub short : All IsShort (bodies_of decls).all
  pub nested : All IsShallow (bodies_of decls).all

pub declares_weaker : (threads bodies threads' bodies' : ℕ) (blocks : List Opened) (decls : List Decl) → threads ≤ threads' → bodies ≤ bodies' →
    Declares threads bodies blocks decls → Declares threads' bodies' blocks decls
declares_weaker threads bodies threads' bodies' blocks decls more more' d =
    record { few = omega (arith, d.few); numbered = omega (arith, d.numbered); short = d.short; nested = d.nested }

-- a declaration, and what is open then
pub declares_more : (d : Option Decl) (x y threads bodies : ℕ) (blocks blocks' : List Opened) (decls : List Decl) → Adds x y d →
    open_threads blocks' + x ≤ open_threads blocks → open_bodies blocks' + y ≤ open_bodies blocks → Declares threads bodies blocks decls →
    Declares threads bodies blocks' (decls ++ option_to_list d)
declares_more d x y threads bodies blocks blocks' decls adds less less' old =
    let t = threads_more decls d in
    let e = bodies_more decls d in
    let n : length (bodies_of (decls ++ option_to_list d)).all ≡ length (bodies_of decls).all + length (bodies_in d) =
    ap length e ∙ length-append (bodies_of decls).all (bodies_in d) in
    record {
      few = omega (arith, adds.few, old.few);
      numbered = omega (arith, adds.numbered, old.numbered);
      short = subst (All IsShort) (sym e)
          (All-append IsShort (bodies_of decls).all (bodies_in d) old.short adds.short);
      nested = subst (All IsShallow) (sym e)
          (All-append IsShallow (bodies_of decls).all (bodies_in d) old.nested adds.nested);
    }

-- a step does not change what is open
put_threads : (s : Option Step) (blocks : List Opened) → open_threads (put_step s blocks) ≡ open_threads blocks
put_threads None blocks = refl
put_threads (Some s) [] = refl
put_threads (Some s) (o ∷ blocks) = refl

put_bodies : (s : Option Step) (blocks : List Opened) → open_bodies (put_step s blocks) ≡ open_bodies blocks
put_bodies None blocks = refl
put_bodies (Some s) [] = refl
put_bodies (Some s) (o ∷ blocks) = refl

pub put_declares : (s : Option Step) (threads bodies threads' bodies' : ℕ) (blocks : List Opened) (decls : List Decl) → threads ≤ threads' → bodies ≤ bodies' →
    Declares threads bodies blocks decls → Declares threads' bodies' (put_step s blocks) decls
put_declares s threads bodies threads' bodies' blocks decls more more' d =
    let t = put_threads s blocks in
    let n = put_bodies s blocks in
    record { few = omega (arith, d.few); numbered = omega (arith, d.numbered); short = d.short; nested = d.nested }

-- a body or block opens
pub opens_declares : (f : Form) (words : List (List ℕ)) (threads bodies threads' bodies' : ℕ) (blocks : List Opened) (decls : List Decl) →
    threads + own_thread f ≤ threads' → bodies + own_body f ≤ bodies' → Declares threads bodies blocks decls →
    Declares threads' bodies' (record { form = f; words = words; steps = [] } ∷ blocks) decls
opens_declares f words threads bodies threads' bodies' blocks decls more more' d =
    record { few = omega (arith, d.few); numbered = omega (arith, d.numbered); short = d.short; nested = d.nested }

-- the innermost is closed
pub one_closes_declares : (es : List Entry) (q : ℕ) (decls : List Decl) (run : Bool) (f : Form) (words : List (List ℕ)) (ss : List Step) (threads bodies : ℕ)
    (blocks : List Opened) → IsShort (block_of ss) → IsShallow (block_of ss) →
    Declares threads bodies (record { form = f; words = words; steps = ss } ∷ blocks) decls →
    let b : Built = close_one es (record { quantum = q; blocks = blocks; decls = decls }) run f words ss in Declares threads bodies b.blocks b.decls
one_closes_declares es q decls run (form.Body f) words ss threads bodies blocks short nested d =
    declares_more (body_decl f words (block_of ss)) (own_thread (form.Body f)) 1 threads bodies (record { form = form.Body f; words = words; steps = ss } ∷ blocks) blocks
    decls (decl_added (block_of ss) short nested f words) (omega arith) (omega arith) d
one_closes_declares es q decls run (form.Block f) words ss threads bodies blocks short nested d =
    put_declares (block_step es f words run (block_of ss)) threads bodies threads bodies blocks decls (omega arith) (omega arith)
    (record { few = omega (arith, d.few); numbered = omega (arith, d.numbered); short = d.short; nested = d.nested })
one_closes_declares es q decls run other words ss threads bodies blocks short nested d =
    record { few = omega (arith, d.few); numbered = omega (arith, d.numbered); short = d.short; nested = d.nested }
