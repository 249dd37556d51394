-- The numbers of the names of a text without faults give the names back, and each of its lines says what is written.
use Rattle.std.proofs.Common.{◌≡◌, ◌≤◌, ◌<◌, ℕ, ◌+◌, List, [], ◌∷◌, ◌++◌, refl, sym, ◌∙◌, ap, subst, Bool, true, false, Option, None, Some, arith, rules, append-nil}
use Rattle.std.specs.Prelude.{nat_lt, is_some}
use Rattle.std.specs.Str.{bytes_eq}
use Rattle.script_lex.proofs.Rejoined.{both}
use Rattle.words_script.specs.declared.decl.Decl.{Decl}
use Rattle.script_table.specs.declared.faults.FaultKind.TheVariants.{DuplicateName, TooMany}
use Rattle.script_table.specs.declared.form.Form.{Form}
use Rattle.script_table.specs.declared.form.Form.TheVariants as form
use Rattle.script_table.specs.declared.pattern.Closer.{Closer}
use Rattle.script_table.specs.declared.pattern.Closer.TheVariants as closer
use Rattle.words_script.specs.declared.name_kind.NameKind.{NameKind}
use Rattle.words_script.specs.declared.name_kind.NameKind.TheVariants as kind
use Rattle.script_table.specs.Faults.{faults_at, when}
use Rattle.words_script.specs.Kinds.{same_kind}
use Rattle.script_table.specs.Patterns.{Spot, Keyword, Answer, Number, Operand, Declares, Uses, Signal, Acts, Signals}
use Rattle.script_table.specs.LineFaults.{stands, fits, place_faults}
use Rattle.script_table.specs.Structure.{Said, body_kind, closer_of, closed_by}
use Rattle.script_table.specs.Ranges.{Tally, object_kind, entered, left, tallied, is_over, is_too_many, range_faults, range_fault, server_faults, phase_three}
use Rattle.script_table.specs.Names.{Counts, no_counts, counted, count_of, counts_from, Entry, entry_of, with_name, Declared, nothing_declared, with_declaration, declared_at, declared_from, duplicate, name_fault, name_faults, phase_two}
use Rattle.script_table.specs.Build.{Built, after, built_from, nothing_built}
use Rattle.script_writer.specs.Names.{names_of}
use Rattle.laws_canonical_text.proofs.Places.{both_none}
use Rattle.laws_canonical_text.proofs.Kept.{none_first}
use Rattle.laws_canonical_text.proofs.Limits as bounds
use Rattle.laws_canonical_text.proofs.Naming as alike
use Rattle.laws_canonical_text.proofs.Names.{Rises}
use Rattle.laws_canonical_text.proofs.Declares.{declared_kind, no_uses, by_kind, names_after, declared_names}
use Rattle.laws_canonical_text.proofs.Forms.{places_of}
use Rattle.laws_canonical_text.proofs.Shape.{first, rest}
use Rattle.laws_canonical_text.proofs.Sound.{Sound}
use Rattle.laws_canonical_text.proofs.Spelled.{AllGive, all_shown}
use Rattle.laws_canonical_text.proofs.Rebuilt.{SoundSaid, AllSound}
use Rattle.laws_canonical_text.proofs.Wider.{most_kept, over_wider}
use Rattle.laws_canonical_text.proofs.Numbers.{names_in, AreNumbered, numbered_more, counts_more, names_more, gives_name, AreFew, most_of, most_of-small, number_below, few_more}
use Rattle.laws_canonical_text.proofs.Stack.{Stack, openings_of, Placed, at_end, after_goes}
use Rattle.laws_canonical_text.proofs.Printed.{Told, AllTold}
use Rattle.laws_canonical_text.proofs.Named.{Naming, kind_names, open_names, names_so_far, after_names}

-- names that stand before a line
abbrev pub AllBefore : ℕ → List Entry → Type 0
AllBefore n [] = Unit {0}
AllBefore n (e ∷ es) = (e.line < n) × AllBefore n es

before_later : (n m : ℕ) (es : List Entry) → n ≤ m → AllBefore n es → AllBefore m es
before_later n m [] h all = tt
before_later n m (e ∷ es) h all = let one = all.0 in (omega arith, before_later n m es h all.1)

before_more : (n : ℕ) (es : List Entry) (e : Entry) → AllBefore n es → e.line < n → AllBefore n (es ++ e ∷ [])
before_more n [] e all h = (h, tt)
before_more n (x ∷ es) e all h = (all.0, before_more n es e all.1 h)

before_case : (b : Bool) (n : ℕ) (x : Entry) (es : List Entry) (word : List ℕ) (e : Entry) → bytes_eq word x.name ≡ b → entry_of (x ∷ es) word ≡ Some e → x.line < n → (entry_of es word ≡ Some e → e.line < n) → e.line < n
before_case true n x es word e is found one rest =
    let f : Some x ≡ Some e = rw is at found in
    let same : x ≡ e = cc in
    subst (λ y. y.line < n) same one
before_case false n x es word e is found one rest = rest (rw is at found)

is_before_line : (n : ℕ) (es : List Entry) (word : List ℕ) (e : Entry) → AllBefore n es → entry_of es word ≡ Some e → e.line < n
is_before_line n [] word e all found = absurd (let f : None ≡ Some e = found in cc)
is_before_line n (x ∷ es) word e all found = before_case (bytes_eq word x.name) n x es word e refl found all.0 (is_before_line n es word e all.1)

-- a name that is there stays
stays_case : (b : Bool) (x : Entry) (es : List Entry) (word : List ℕ) (e y : Entry) → bytes_eq word x.name ≡ b → entry_of (x ∷ es) word ≡ Some e → (entry_of es word ≡ Some e → entry_of (es ++ y ∷ []) word ≡ Some e)
    → entry_of (x ∷ (es ++ y ∷ [])) word ≡ Some e
stays_case true x es word e y is found rest = let f : Some x ≡ Some e = rw is at found in rw is f
stays_case false x es word e y is found rest = let f : entry_of es word ≡ Some e = rw is at found in rw is (rest f)

stays_more : (es : List Entry) (word : List ℕ) (e y : Entry) → entry_of es word ≡ Some e → entry_of (es ++ y ∷ []) word ≡ Some e
stays_more [] word e y found = absurd (let f : None ≡ Some e = found in cc)
stays_more (x ∷ es) word e y found = stays_case (bytes_eq word x.name) x es word e y refl found (stays_more es word e y)

stays_with : (b : Bool) (es : List Entry) (n : ℕ) (k : NameKind) (name word : List ℕ) (e : Entry) → is_some (entry_of es name) ≡ b → entry_of es word ≡ Some e → entry_of (with_name es n k name) word ≡ Some e
stays_with true es n k name word e is found = rw is found
stays_with false es n k name word e is found = rw is (stays_more es word e _ found)

stays_one : (d : Declared) (n : ℕ) (spot : Spot) (w word : List ℕ) (e : Entry) → entry_of d.names word ≡ Some e → entry_of (with_declaration d n spot w).names word ≡ Some e
stays_one d n (Declares k) w word e found = stays_with (is_some (entry_of d.names w)) d.names n k w word e refl found
stays_one d n other w word e found = found

stays_at : (d : Declared) (n : ℕ) (spots : List Spot) (words : List (List ℕ)) (word : List ℕ) (e : Entry) → entry_of d.names word ≡ Some e → entry_of (declared_at d n spots words).names word ≡ Some e
stays_at d n [] words word e found = found
stays_at d n (spot ∷ spots) [] word e found = found
stays_at d n (spot ∷ spots) (w ∷ words) word e found = stays_at (with_declaration d n spot w) n spots words word e (stays_one d n spot w word e found)

stays : (d : Declared) (ss : List Said) (word : List ℕ) (e : Entry) → entry_of d.names word ≡ Some e → entry_of (declared_from d ss).names word ≡ Some e
stays d [] word e found = found
stays d (s ∷ ss) word e found = stays (declared_at d s.line s.row.places s.words) ss word e (stays_at d s.line s.row.places s.words word e found)

-- the fault of a second declaration
second_fault : (d : Declared) (n : ℕ) (k : NameKind) (spots : List Spot) (words : List (List ℕ)) → by_kind (Some k) spots ≡ true → fits spots words ≡ true → place_faults (name_fault d n) spots words ≡ []
    → duplicate n (entry_of d.names (first (rest words))) ≡ None
second_fault d n k [] words e fit fault = absurd (let f : false ≡ true = e in cc)
second_fault d n k (s ∷ []) words e fit fault = absurd (let f : false ≡ true = e in cc)
second_fault d n k (s ∷ Declares j ∷ spots) [] e fit fault = absurd (let f : false ≡ true = fit in cc)
second_fault d n k (s ∷ Declares j ∷ spots) (w ∷ []) e fit fault = absurd (let f : false ≡ true = (both (stands s w) false fit).1 in cc)
second_fault d n k (s ∷ Declares j ∷ spots) (w ∷ v ∷ words) e fit fault =
    let a = none_first (name_fault d n s w) (place_faults (name_fault d n) (Declares j ∷ spots) (v ∷ words)) fault in
    (none_first (name_fault d n (Declares j) v) (place_faults (name_fault d n) spots words) a.1).0
second_fault d n k (s ∷ other ∷ spots) words e fit fault = absurd (let f : false ≡ true = e in cc)

-- the name that a line declares is new
abbrev IsNew : List Entry → Option NameKind → List (List ℕ) → Type 0
IsNew es None words = Unit {0}
IsNew es (Some k) words = entry_of es (first (rest words)) ≡ None

new_case : (found : Option Entry) (d : Declared) (n line : ℕ) (ss : List Said) (word : List ℕ) → entry_of d.names word ≡ found → AllBefore n d.names → n ≤ line
    → duplicate line (entry_of (declared_from d ss).names word) ≡ None → entry_of d.names word ≡ None
new_case None d n line ss word is all h fault = is
new_case (Some e) d n line ss word is all h fault =
    let later : entry_of (declared_from d ss).names word ≡ Some e = stays d ss word e is in
    let one = is_before_line n d.names word e all is in
    let less : nat_lt e.line line ≡ true = (let f : e.line < line = omega arith in search rules) in
    absurd (let f : Some DuplicateName ≡ None = rw (later, less) at fault in cc)

is_new : (d : Declared) (n line : ℕ) (ss : List Said) (k : Option NameKind) (spots : List Spot) (words : List (List ℕ)) → by_kind k spots ≡ true → fits spots words ≡ true → AllBefore n d.names → n ≤ line
    → place_faults (name_fault (declared_from d ss) line) spots words ≡ [] → IsNew d.names k words
is_new d n line ss None spots words e fit all h fault = tt
is_new d n line ss (Some k) spots words e fit all h fault =
    new_case (entry_of d.names (first (rest words))) d n line ss (first (rest words)) refl all h (second_fault (declared_from d ss) line k spots words e fit fault)

abbrev count_with : Counts → Option NameKind → Counts
count_with c None = c
count_with c (Some k) = counted c k

abbrev HasRoom : Counts → Option NameKind → Type 0
HasRoom c None = Unit {0}
HasRoom c (Some k) = is_over 256 (counted c k) k ≡ false

entered_counts : (t : Tally) (c : Closer) → (entered t c).counts ≡ t.counts
entered_counts t closer.End = refl
entered_counts t closer.Pop = refl

left_counts : (t : Tally) (c : Closer) → (left t c).counts ≡ t.counts
left_counts t closer.End = refl
left_counts t closer.Pop = refl

tallied_counts : (t : Tally) (f : Form) → (tallied t f).counts ≡ count_with t.counts (declared_kind f)
tallied_counts t form.Quantum = refl
tallied_counts t (form.Object f) = refl
tallied_counts t (form.Action f) = refl
tallied_counts t (form.Body f) = refl
tallied_counts t (form.Step f) = refl
tallied_counts t (form.Call f) = refl
tallied_counts t (form.Block f) = entered_counts t (closer_of f)
tallied_counts t (form.Close f) = left_counts t (closed_by f)

has_room : (t : Tally) (f : Form) → t.most ≤ 256 → is_too_many (tallied t f) f ≡ false → HasRoom t.counts (declared_kind f)
has_room t form.Quantum few e = tt
has_room t (form.Object f) few e = over_wider t.most 256 (counted t.counts (object_kind f)) (object_kind f) few e
has_room t (form.Action f) few e = tt
has_room t (form.Body f) few e = over_wider t.most 256 (counted t.counts (body_kind f)) (body_kind f) few e
has_room t (form.Step f) few e = tt
has_room t (form.Call f) few e = tt
has_room t (form.Block f) few e = tt
has_room t (form.Close f) few e = tt

-- what is known of the names so far: of their numbers, of how many they are, and of the names of what is built
pub record Known (es : List Entry) (c : Counts) (n : ℕ) (so_far : NameKind → List (List ℕ)) : Type 0 where
  pub numbered : AreNumbered no_counts es
  pub counts : c ≡ counts_from no_counts es
  pub few : AreFew c
  pub names : (wanted : NameKind) → so_far wanted ≡ names_in wanted es
  pub before : AllBefore n es

known_more : (es : List Entry) (c : Counts) (n line : ℕ) (so_far : NameKind → List (List ℕ)) (k : Option NameKind) (words : List (List ℕ)) → Known es c n so_far → IsNew es k words → HasRoom c k → n ≤ line
    → Known (names_after es line k words) (count_with c k) (line + 1) (λ wanted. so_far wanted ++ kind_names wanted k words)
known_more es c n line so_far None words known new room h =
    record {
      numbered = known.numbered;
      counts = known.counts;
      few = known.few;
      names = λ wanted. append-nil (so_far wanted) ∙ known.names wanted;
      before = before_later n (line + 1) es (omega (arith, h)) known.before;
    }
known_more es c n line so_far (Some k) words known new room h =
    let word : List ℕ = first (rest words) in
    let e : Entry = record { name = word; kind = k; line = line; number = count_of (counts_from no_counts es) k } in
    let grown : with_name es line k word ≡ es ++ e ∷ [] = rw new refl in
    subst (λ xs. Known xs (counted c k) (line + 1) (λ wanted. so_far wanted ++ kind_names wanted (Some k) words)) (sym grown)
    (record {
      numbered = numbered_more no_counts es e known.numbered refl;
      counts = ap (λ x. counted x k) known.counts ∙ sym (counts_more no_counts es e);
      few = few_more c k known.few room;
      names = λ wanted. ap (λ x. x ++ kind_names wanted (Some k) words) (known.names wanted) ∙ sym (names_more wanted es e);
      before = before_more (line + 1) es e (before_later n (line + 1) es (omega (arith, h)) known.before) (omega arith);
    })

known_as : (es xs : List Entry) (c x : Counts) (n : ℕ) (so_far names : NameKind → List (List ℕ)) → xs ≡ es → x ≡ c → ((wanted : NameKind) → names wanted ≡ so_far wanted) → Known es c n so_far → Known xs x n names
known_as es xs c x n so_far names p q r known =
    let one : Known es c n names = record { numbered = known.numbered; counts = known.counts; few = known.few; names = λ wanted. r wanted ∙ known.names wanted; before = known.before } in
    subst (λ y. Known y x n names) (sym p) (subst (λ y. Known es y n names) (sym q) one)

nothing_gives : AllGive [] []
nothing_gives word e found = absurd (let f : None ≡ Some e = found in cc)

no_faults : (n : ℕ) (spots : List Spot) (words : List (List ℕ)) → no_uses spots ≡ true → place_faults (name_fault nothing_declared n) spots words ≡ []
no_faults n [] words e = refl
no_faults n (spot ∷ spots) [] e = refl
no_faults n (Keyword k ∷ spots) (w ∷ words) e = no_faults n spots words e
no_faults n (Answer ∷ spots) (w ∷ words) e = no_faults n spots words e
no_faults n (Number low high ∷ spots) (w ∷ words) e = no_faults n spots words e
no_faults n (Operand ∷ spots) (w ∷ words) e = no_faults n spots words e
no_faults n (Declares k ∷ spots) (w ∷ words) e = no_faults n spots words e
no_faults n (Uses k ∷ spots) (w ∷ words) e = absurd (let f : false ≡ true = e in cc)
no_faults n (Signal ∷ spots) (w ∷ words) e = no_faults n spots words e
no_faults n (Acts ∷ spots) (w ∷ words) e = no_faults n spots words e
no_faults n (Signals ∷ spots) (w ∷ words) e = no_faults n spots words e

uses_none : (k : NameKind) (spots : List Spot) → by_kind (Some k) spots ≡ true → no_uses spots ≡ true
uses_none k [] e = absurd (let f : false ≡ true = e in cc)
uses_none k (s ∷ []) e = absurd (let f : false ≡ true = e in cc)
uses_none k (s ∷ Declares j ∷ spots) e =
    let a = both (same_kind j k) _ e in
    let b = both _ _ a.1 in
    (both _ (no_uses (s ∷ Declares j ∷ spots)) b.1).1
uses_none k (s ∷ other ∷ spots) e = absurd (let f : false ≡ true = e in cc)

told_nothing : (f : Form) (k : NameKind) (words : List (List ℕ)) → by_kind (Some k) (places_of f) ≡ true → Sound f words → server_faults f words ≡ [] → Told [] [] f words
told_nothing f k words e sound server =
    record {
      shown = all_shown nothing_declared [] nothing_gives 0 (places_of f) words sound.fit sound.clean (no_faults 0 (places_of f) words (uses_none k (places_of f) e));
      fit = sound.fit;
      server = server;
    }

named : (f : Form) (words : List (List ℕ)) → by_kind (declared_kind f) (places_of f) ≡ true → Sound f words → server_faults f words ≡ [] → Naming f words
named (form.Object f) words e sound server = told_nothing (form.Object f) _ words e sound server
named (form.Body f) words e sound server = told_nothing (form.Body f) _ words e sound server
named other words e sound server = tt

not_many : (b : Bool) → when b TooMany ≡ [] → b ≡ false
not_many true e = absurd (let f : (TooMany ∷ []) ≡ [] = e in cc)
not_many false e = refl

-- what a statement without faults has
record Limited (t : Tally) (s : Said) : Type 0 where
  server : server_faults s.row.form s.words ≡ []
  room : is_too_many (tallied t s.row.form) s.row.form ≡ false

limited : (t : Tally) (s : Said) → range_faults (tallied t s.row.form) s ≡ [] → Limited t s
limited t s e =
    let a = both_none (place_faults range_fault s.row.places s.words) (server_faults s.row.form s.words ++ when (is_too_many (tallied t s.row.form) s.row.form) TooMany) e in
    let b = both_none (server_faults s.row.form s.words) (when (is_too_many (tallied t s.row.form) s.row.form) TooMany) a.1 in
    record { server = b.0; room = not_many (is_too_many (tallied t s.row.form) s.row.form) b.1 }

fits_row : (s : Said) → SoundSaid s → fits s.row.places s.words ≡ true
fits_row s sound = subst (λ places. fits places s.words ≡ true) (sym sound.places) sound.sound.fit

-- what is known of the names of all lines, and of what is built of them
pub record AllKnown (es : List Entry) (ds : List Decl) : Type 0 where
  pub numbered : AreNumbered no_counts es
  pub few : (kind : NameKind) → count_of (counts_from no_counts es) kind ≤ most_of kind
  pub names : (kind : NameKind) → names_of kind ds ≡ names_in kind es

pub known_names : (es : List Entry) (ss : List Said) (d : Declared) (t : Tally) (b : Built) (n m : ℕ) → Known d.names t.counts n (λ wanted. names_so_far wanted b)
    → t.most ≤ 256 → AllSound ss → phase_two (declared_from d ss) ss ≡ [] → phase_three m t ss ≡ [] → Rises n ss → Stack Naming b.blocks → Placed (openings_of b.blocks) ss
    → AllKnown (declared_from d ss).names (built_from es b ss).decls
known_names es [] d t b n m known few sound names limits rises stack placed =
    let none = at_end Naming b.blocks stack placed in
    let all : (kind : NameKind) → names_of kind b.decls ≡ names_in kind d.names =
    λ kind. sym (append-nil (names_of kind b.decls)) ∙ (ap (λ bs. names_of kind b.decls ++ open_names kind bs) (sym none) ∙ known.names kind) in
    record {
      numbered = known.numbered;
      few = λ kind. subst (λ c. count_of c kind ≤ most_of kind) known.counts (known.few kind);
      names = all;
    }
known_names es (s ∷ ss) d t b n m known few sound names limits rises stack placed =
    let f : Form = s.row.form in
    let k : Option NameKind = declared_kind f in
    let next : Declared = declared_at d s.line s.row.places s.words in
    let own = both_none (faults_at 2 s.line (name_faults (declared_from d (s ∷ ss)) s)) (phase_two (declared_from d (s ∷ ss)) ss) names in
    let fault = alike.no_kinds s.line (name_faults (declared_from d (s ∷ ss)) s) own.0 in
    let ranges = both_none (faults_at 3 s.line (range_faults (tallied t f) s)) (phase_three m (tallied t f) ss) limits in
    let limit = limited t s (bounds.no_kinds s.line (range_faults (tallied t f) s) ranges.0) in
    let fit = fits_row s sound.0 in
    let declares = sound.0.declares in
    let kind_places : by_kind k (places_of f) ≡ true = subst (λ places. by_kind k places ≡ true) sound.0.places declares in
    let told = named f s.words kind_places sound.0.sound limit.server in
    let goes = after_goes Naming es b f s.row.bar s.words told stack placed.0 in
    let new = is_new d n s.line (s ∷ ss) k s.row.places s.words declares fit known.before rises.0 fault in
    let more = known_more d.names t.counts n s.line (λ wanted. names_so_far wanted b) k s.words known new (has_room t f few limit.room) rises.0 in
    let after_known = known_as (names_after d.names s.line k s.words) next.names (count_with t.counts k) (tallied t f).counts (s.line + 1) (λ wanted. names_so_far wanted b ++ kind_names wanted k s.words) (λ wanted. names_so_far wanted (after es b s))
    (declared_names d s.line k s.row.places s.words declares fit) (tallied_counts t f) (λ wanted. after_names wanted es b f s.row.bar s.words told stack placed.0) more in
    known_names es ss next (tallied t f) (after es b s) (s.line + 1) m after_known (subst (λ k. k ≤ 256) (sym (most_kept t f)) few) sound.1 own.1 ranges.1 rises.1 goes.stack (subst (λ os. Placed os ss) (sym goes.openings) placed.1)

-- the numbers of all names give the names back
pub give_names : (es : List Entry) (ds : List Decl) → AllKnown es ds → AllGive es ds
give_names es ds known word e found =
    let below = number_below no_counts es word e known.numbered found in
    let few = known.few e.kind in
    let small = most_of-small e.kind in
    record { small = omega (arith, below, few, small); name = gives_name es ds known.numbered known.names word e found }

pub nothing_known : Known [] no_counts 0 (λ wanted. names_so_far wanted nothing_built)
nothing_known = record { numbered = tt; counts = refl; few = none_few; names = λ wanted. refl; before = tt } where
  none_few : AreFew no_counts
  none_few kind.Thread = omega arith
  none_few kind.Mutex = omega arith
  none_few kind.Cond = omega arith
  none_few kind.Sem = omega arith
  none_few kind.Queue = omega arith
  none_few kind.Timer = omega arith
  none_few kind.Handler = omega arith
  none_few kind.Cleanup = omega arith

told_one : (d : Declared) (ds : List Decl) → AllGive d.names ds → (s : Said) → SoundSaid s → name_faults d s ≡ [] → server_faults s.row.form s.words ≡ [] → Told d.names ds s.row.form s.words
told_one d ds give s sound fault server =
    record {
      shown = all_shown d ds give s.line (places_of s.row.form) s.words sound.sound.fit sound.sound.clean (subst (λ places. place_faults (name_fault d s.line) places s.words ≡ []) sound.places fault);
      fit = sound.sound.fit;
      server = server;
    }

-- each statement says what is written as its canonical words
pub all_told : (d : Declared) (ds : List Decl) → AllGive d.names ds → (ss : List Said) (t : Tally) (m : ℕ) → AllSound ss → phase_two d ss ≡ [] → phase_three m t ss ≡ [] → AllTold d.names ds ss
all_told d ds give [] t m sound names limits = tt
all_told d ds give (s ∷ ss) t m sound names limits =
    let own = both_none (faults_at 2 s.line (name_faults d s)) (phase_two d ss) names in
    let ranges = both_none (faults_at 3 s.line (range_faults (tallied t s.row.form) s)) (phase_three m (tallied t s.row.form) ss) limits in
    let limit = limited t s (bounds.no_kinds s.line (range_faults (tallied t s.row.form) s) ranges.0) in
    (told_one d ds give s sound.0 (alike.no_kinds s.line (name_faults d s) own.0) limit.server, all_told d ds give ss (tallied t s.row.form) m sound.1 own.1 ranges.1)
