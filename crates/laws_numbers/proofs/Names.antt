-- The names of the threads of a script that is read without a fault are names, and tell its threads apart.
use Rattle.std.proofs.Common.{ℕ, zero, suc, ◌≡◌, ◌<◌, List, [], ◌∷◌, ◌++◌, Ok, Option, None, Some, Bool, true, false, ap, arith, length, refl, rules, sym, subst, ◌∙◌}
use Rattle.std.specs.Prelude.{filter_map, map, ◌==◌, if◌then◌else◌}
use Rattle.std.specs.Option.{IfSome}
use Rattle.std.specs.Str.{bytes_eq}
use Rattle.std.proofs.lemmas.Slice.Eq.{bytes_eq-Decides}
use Rattle.words_script.specs.Block.{Block}
use Rattle.words_script.specs.Names.{is_name}
use Rattle.words_script.specs.Kinds.{same_kind}
use Rattle.words_script.specs.declared.decl.Kind.TheVariants as kinds
use Rattle.words_script.specs.declared.decl.Decl.{Decl}
use Rattle.words_script.specs.declared.decl.Decl.TheVariants.{Named, Action}
use Rattle.words_script.specs.declared.decl.Script.{Script}
use Rattle.words_script.specs.declared.name_kind.NameKind.{NameKind}
use Rattle.words_script.specs.declared.name_kind.NameKind.TheVariants as kind
use Rattle.script_table.specs.declared.form.ActionForm.{ActionForm}
use Rattle.script_table.specs.declared.form.ActionForm.TheVariants as action
use Rattle.script_table.specs.Patterns.{Spot, Declares}
use Rattle.script_table.specs.Structure.{Said}
use Rattle.script_table.specs.Table.{patterns}
use Rattle.script_table.specs.Ranges.{word}
use Rattle.script_table.specs.Names.{Declared, Entry, declared, declared_at, declared_from, entry_of, nothing_declared, with_declaration, with_name}
use Rattle.script_table.specs.Operands.{name_at, named_at, signal_at}
use Rattle.script_table.specs.Calls.{call_of}
use Rattle.script_table.specs.Meaning.{kind_of_object, ignores, runs, action_decl, kind_of_body, plain_step, block_step}
use Rattle.script_table.specs.Build.{script_of}
use Rattle.script_table.specs.Heading.{Beginning}
use Rattle.script_table.specs.Read.{said_in, read}
use Rattle.script_writer.specs.Names.{names_of}
use Rattle.laws_canonical_text.proofs.Accepted.{is_read}
use Rattle.laws_canonical_text.proofs.Again.{statements}
use Rattle.laws_canonical_text.proofs.Known.{AllKnown}
use Rattle.laws_canonical_text.proofs.Numbers.{names_in}
use Rattle.laws_canonical_text.proofs.Table.{the_table}
use Rattle.laws_bounds.proofs.EachDecl as every
use Rattle.laws_bounds.proofs.EachDecl.{Says, each_decl}
use Rattle.laws_bounds.proofs.Operands.{mapped_two, Any, anything}
use Rattle.words_trace.specs.Text as text
use Rattle.rules_machine.specs.Declarations.{ThreadDecl, declared_thread}
use Rattle.rules_machine.specs.Machine as machine
use Rattle.laws_audit.specs.Traces.{NamesApart}
use Rattle.laws_numbers.specs.Numbers.{Each}

-- ---- bytes

same_bytes : (a b : List ℕ) → bytes_eq a b ≡ true → a ≡ b
same_bytes a b e = search (rules, bytes_eq-Decides)

own_bytes : (a : List ℕ) → bytes_eq a a ≡ true
own_bytes a = search (rules, bytes_eq-Decides)

other_way : (a b : List ℕ) → bytes_eq a b ≡ false → bytes_eq b a ≡ false
other_way a b e = by (bytes_eq b a) refl
  where
    by : (x : Bool) → bytes_eq b a ≡ x → bytes_eq b a ≡ false
    by false k = k
    by true k = let same : b ≡ a = same_bytes b a k in absurd (let one : bytes_eq a b ≡ true = subst (λ (c : List ℕ). bytes_eq a c ≡ true) (sym same) (own_bytes a) in cc)

-- ---- entries of other names

abbrev Absent : List ℕ → List Entry → Type 0
Absent w [] = Unit {0}
Absent w (e ∷ es) = (bytes_eq w e.name ≡ false) × Absent w es

abbrev Distinct : List Entry → Type 0
Distinct [] = Unit {0}
Distinct (e ∷ es) = Absent e.name es × Distinct es

absent_case : (b : Bool) (w : List ℕ) (e : Entry) (es : List Entry) → bytes_eq w e.name ≡ b → entry_of (e ∷ es) w ≡ None → (entry_of es w ≡ None → Absent w es) → Absent w (e ∷ es)
absent_case true w e es is none rest = absurd (let f : Some e ≡ None = rw is at none in cc)
absent_case false w e es is none rest = (is, rest (rw is at none))

absent : (w : List ℕ) (es : List Entry) → entry_of es w ≡ None → Absent w es
absent w [] none = tt
absent w (e ∷ es) none = absent_case (bytes_eq w e.name) w e es refl none (absent w es)

absent_more : (w : List ℕ) (es : List Entry) (x : Entry) → Absent w es → bytes_eq w x.name ≡ false → Absent w (es ++ x ∷ [])
absent_more w [] x h k = (k, tt)
absent_more w (e ∷ es) x h k = (h.0, absent_more w es x h.1 k)

distinct_more : (es : List Entry) (x : Entry) → Distinct es → Absent x.name es → Distinct (es ++ x ∷ [])
distinct_more [] x h k = (tt, tt)
distinct_more (e ∷ es) x h k = (absent_more e.name es x h.0 (other_way x.name e.name k.0), distinct_more es x h.1 k.1)

distinct_with : (o : Option Entry) (es : List Entry) (n : ℕ) (k : NameKind) (name : List ℕ) → entry_of es name ≡ o → Distinct es → Distinct (with_name es n k name)
distinct_with (Some e) es n k name is h = rw is h
distinct_with None es n k name is h = rw is (distinct_more es _ h (absent name es is))

distinct_one : (d : Declared) (n : ℕ) (spot : Spot) (w : List ℕ) → Distinct d.names → Distinct (with_declaration d n spot w).names
distinct_one d n (Declares k) w h = distinct_with (entry_of d.names w) d.names n k w refl h
distinct_one d n other w h = h

distinct_at : (d : Declared) (n : ℕ) (spots : List Spot) (words : List (List ℕ)) → Distinct d.names → Distinct (declared_at d n spots words).names
distinct_at d n [] words h = h
distinct_at d n (spot ∷ spots) [] h = h
distinct_at d n (spot ∷ spots) (w ∷ words) h = distinct_at (with_declaration d n spot w) n spots words (distinct_one d n spot w h)

distinct_from : (d : Declared) (ss : List Said) → Distinct d.names → Distinct (declared_from d ss).names
distinct_from d [] h = h
distinct_from d (s ∷ ss) h = distinct_from (declared_at d s.line s.row.places s.words) ss (distinct_at d s.line s.row.places s.words h)

-- ---- names of one kind

abbrev NoneIs : List ℕ → List (List ℕ) → Type 0
NoneIs w [] = Unit {0}
NoneIs w (n ∷ ns) = (bytes_eq w n ≡ false) × NoneIs w ns

abbrev AllApart : List (List ℕ) → Type 0
AllApart [] = Unit {0}
AllApart (n ∷ ns) = NoneIs n ns × AllApart ns

none_in : (k : NameKind) (w : List ℕ) (es : List Entry) → Absent w es → NoneIs w (names_in k es)
none_in k w [] h = tt
none_in k w (e ∷ es) h = by (same_kind e.kind k) (none_in k w es h.1)
  where
    by : (b : Bool) → NoneIs w (names_in k es) → NoneIs w (if b then e.name ∷ names_in k es else names_in k es)
    by true rest = (h.0, rest)
    by false rest = rest

apart_in : (k : NameKind) (es : List Entry) → Distinct es → AllApart (names_in k es)
apart_in k [] h = tt
apart_in k (e ∷ es) h = by (same_kind e.kind k) (apart_in k es h.1)
  where
    by : (b : Bool) → AllApart (names_in k es) → AllApart (if b then e.name ∷ names_in k es else names_in k es)
    by true rest = (none_in k e.name es h.0, rest)
    by false rest = rest

-- ---- names that are names

abbrev IsNamed : List ℕ → Type 0
IsNamed name = is_name name ≡ true

abbrev HasName : Decl → Type 0
HasName (Named name k) = IsNamed name
HasName (Action sig handler) = Unit {0}

name_case : (b : Bool) (w : List ℕ) → is_name w ≡ b → IfSome (if b then Some w else None) IsNamed
name_case true w e = e
name_case false w e = tt

name_named : (k : ℕ) (words : List (List ℕ)) → IfSome (name_at k words) IsNamed
name_named k words = name_case (is_name (word k words)) (word k words) refl

ignores_named : (x : Option ℕ) → IfSome (ignores x) HasName
ignores_named None = tt
ignores_named (Some sig) = tt

handles_named : (x y : Option ℕ) → IfSome (runs x y) HasName
handles_named None y = tt
handles_named (Some sig) None = tt
handles_named (Some sig) (Some h) = tt

action_named : (es : List Entry) (f : ActionForm) (words : List (List ℕ)) → IfSome (action_decl es f words) HasName
action_named es action.Ignore words = ignores_named (signal_at 1 words)
action_named es action.Run words = handles_named (signal_at 1 words) (named_at kind.Handler es 3 words)

abbrev AnyBlock : Block → Type 0
AnyBlock b = Unit {0}

lines_named : (es : List Entry) → Says es AnyBlock HasName
lines_named es = record {
  none = tt;
  more = λ steps s all h. tt;
  step = λ f words. anything (plain_step f words);
  call = λ f words any. anything (call_of es f words);
  block = λ f words run body inside. anything (block_step es f words run body);
  object = λ f words. mapped_two IsNamed Any HasName Named (λ name k n any. n) (name_at 1 words) (kind_of_object f words) (name_named 1 words) (anything (kind_of_object f words));
  action = λ f words. action_named es f words;
  body = λ f words steps any inside. mapped_two IsNamed Any HasName Named (λ name k n any. n) (name_at 1 words) (kind_of_body f words steps) (name_named 1 words) (anything (kind_of_body f words steps));
}

threads_named : (ds : List Decl) → every.Each HasName ds → Each IsNamed (map (λ (d : ThreadDecl). d.name) (filter_map declared_thread ds))
threads_named [] h = tt
threads_named (Action sig handler ∷ ds) h = threads_named ds h.1
threads_named (Named name (kinds.Thread policy start steps) ∷ ds) h = (h.0, threads_named ds h.1)
threads_named (Named name other ∷ ds) h = threads_named ds h.1

same_names : (ds : List Decl) → names_of kind.Thread ds ≡ map (λ (d : ThreadDecl). d.name) (filter_map declared_thread ds)
same_names [] = refl
same_names (Action sig handler ∷ ds) = same_names ds
same_names (Named name (kinds.Thread policy start steps) ∷ ds) = ap (λ ns. name ∷ ns) (same_names ds)
same_names (Named name other ∷ ds) = same_names ds

-- ---- by number

pub named_by_number : (ns : List (List ℕ)) (t : ℕ) → Each IsNamed ns → t < length ns → is_name (text.name_at ns t) ≡ true
named_by_number [] t h lt = absurd (omega arith)
named_by_number (n ∷ ns) zero h lt = h.0
named_by_number (n ∷ ns) (suc t) h lt = named_by_number ns t h.1 (omega arith)

none_by_number : (w : List ℕ) (ns : List (List ℕ)) (t : ℕ) → NoneIs w ns → t < length ns → bytes_eq w (text.name_at ns t) ≡ false
none_by_number w [] t h lt = absurd (omega arith)
none_by_number w (n ∷ ns) zero h lt = h.0
none_by_number w (n ∷ ns) (suc t) h lt = none_by_number w ns t h.1 (omega arith)

no_bytes : (w : List ℕ) → is_name w ≡ true → bytes_eq [] w ≡ false
no_bytes [] e = absurd (grind arith)
no_bytes (c ∷ w) e = refl

-- whether the number is one of a name or not
none_past : (w : List ℕ) (ns : List (List ℕ)) (u : ℕ) → is_name w ≡ true → NoneIs w ns → bytes_eq (text.name_at ns u) w ≡ false
none_past w [] u e h = no_bytes w e
none_past w (n ∷ ns) zero e h = other_way w n h.0
none_past w (n ∷ ns) (suc u) e h = none_past w ns u e h.1

zero_not : (t : ℕ) → (0 == suc t) ≡ false
zero_not t = grind arith

not_zero : (t : ℕ) → (suc t == 0) ≡ false
not_zero t = grind arith

both_more : (u t : ℕ) → (suc u == suc t) ≡ (u == t)
both_more u t = grind arith

apart_by_number : (ns : List (List ℕ)) → Each IsNamed ns → AllApart ns → (u t : ℕ) → t < length ns → bytes_eq (text.name_at ns u) (text.name_at ns t) ≡ (u == t)
apart_by_number [] named apart u t lt = absurd (omega arith)
apart_by_number (n ∷ ns) named apart zero zero lt = own_bytes n
apart_by_number (n ∷ ns) named apart zero (suc t) lt = none_by_number n ns t apart.0 (omega arith) ∙ sym (zero_not t)
apart_by_number (n ∷ ns) named apart (suc u) zero lt = none_past n ns u named.0 apart.0 ∙ sym (not_zero u)
apart_by_number (n ∷ ns) named apart (suc u) (suc t) lt = apart_by_number ns named.1 apart.1 u t (omega arith) ∙ sym (both_more u t)

-- ---- a script

pub record WellNamed (script : Script) : Type 0 where
  pub named : Each IsNamed (machine.names_of script)
  pub apart : NamesApart (machine.names_of script)

pub accepted_well_named : (text : List ℕ) (script : Script) → read patterns text ≡ Ok script → WellNamed script
accepted_well_named text script e =
    let read' = is_read patterns the_table text script e in
    let b : Beginning = read'.part in
    let ss : List Said = said_in (patterns b.version) b in
    let es : List Entry = (declared ss).names in
    let own : Script = script_of b.version es ss in
    let means : own ≡ script = read'.means in
    let known : AllKnown es own.decls = (statements patterns the_table text script e).known in
    let named : Each IsNamed (machine.names_of own) = threads_named own.decls (each_decl es AnyBlock HasName (lines_named es) ss) in
    let apart : AllApart (machine.names_of own) = subst AllApart (sym (known.names kind.Thread) ∙ same_names own.decls) (apart_in kind.Thread es (distinct_from nothing_declared ss tt)) in
    subst WellNamed means (record { named = named; apart = record { apart = apart_by_number (machine.names_of own) named apart } })
