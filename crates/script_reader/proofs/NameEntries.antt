-- Looking a name up among the entries of a map.
use Rattle.std.proofs.Common.{◌≡◌, ℕ, List, [], ◌∷◌, ◌++◌, Bool, true, false, subst, Option, None, Some, refl, sym, ◌∙◌, ap, map, rules}
use Rattle.std.specs.Prelude.{cond, is_some}
use Rattle.std.specs.Option.{option_map}
use Rattle.std.specs.Borrow.{Bor}
use Rattle.std.specs.Str.{bytes_eq}
use Rattle.std.specs.Map.{lookup}
use Rattle.std.proofs.lemmas.Slice.Eq.{bytes_eq-Decides}
use Rattle.script_table.specs.Names.{Entry, entry_of, with_name, counts_from, counted, count_of, no_counts, Counts}
use Rattle.words_script.specs.declared.name_kind.NameKind.{NameKind}
use Rattle.std.proofs.lemmas.List.{map-append}
use Rattle.script_reader.specs.declared.names.Declaration.{Declaration}
use Rattle.script_reader.specs.NameMap.{entry_named, entry_of_pair}

abbrev Pairs : Type 0
Pairs = List (Bor (List ℕ) × Declaration)

same_bytes : (a b : List ℕ) → bytes_eq a b ≡ true → a ≡ b
same_bytes a b e = search (rules, bytes_eq-Decides)

found_first : (q name : List ℕ) (d : Declaration) (b : Bool) (o : Option Declaration) (p : Option Entry) → bytes_eq q name ≡ b → option_map (entry_named q) o ≡ p →
    option_map (entry_named q) (cond b (Some d) o) ≡ cond b (Some (entry_named name d)) p
found_first q name d true o p e h = ap (λ n. Some (entry_named n d)) (same_bytes q name e)
found_first q name d false o p e h = h

pub found : (q : List ℕ) (es : Pairs) → option_map (entry_named q) (lookup (λ k. bytes_eq q k.now) es) ≡ entry_of (map entry_of_pair es) q
found q [] = refl
found q (p ∷ es) = found_first q p.0.now p.1 (bytes_eq q p.0.now) _ _ refl (found q es)

pub counts_more : (c : Counts) (es : List Entry) (e : Entry) → counts_from c (es ++ e ∷ []) ≡ counted (counts_from c es) e.kind
counts_more c [] e = refl
counts_more c (x ∷ es) e = counts_more (counted c x.kind) es e

no_entry : (q : List ℕ) (o : Option Declaration) → option_map (entry_named q) o ≡ None → o ≡ None
no_entry q None e = refl
no_entry q (Some d) e = cc

-- a name that is no entry is no key of the map
pub absent : (q : List ℕ) (es : Pairs) → None ≡ entry_of (map entry_of_pair es) q → lookup (λ k. bytes_eq q k.now) es ≡ None
absent q es none = no_entry q (lookup (λ k. bytes_eq q k.now) es) (found q es ∙ sym none)

-- a new key goes last
pub added : (es new : Pairs) (k : Bor (List ℕ)) (d : Declaration) → new ≡ es ++ (k, d) ∷ [] → map entry_of_pair new ≡ map entry_of_pair es ++ entry_named k.now d ∷ []
added es new k d is = ap (map entry_of_pair) is ∙ map-append entry_of_pair es ((k, d) ∷ [])

-- with a new name
pub taken_in : (es new : List Entry) (n : ℕ) (kind : NameKind) (name : List ℕ) (number : ℕ) → None ≡ entry_of es name → number ≡ count_of (counts_from no_counts es) kind →
    new ≡ es ++ record { name = name; kind = kind; line = n; number = number } ∷ [] → new ≡ with_name es n kind name
taken_in es new n kind name number none is_number is =
    let same : new ≡ es ++ record { name = name; kind = kind; line = n; number = count_of (counts_from no_counts es) kind } ∷ [] =
    subst (λ (k : ℕ). new ≡ es ++ record { name = name; kind = kind; line = n; number = k } ∷ []) is_number is in
    same ∙ ap (λ (o : Option Entry). cond (is_some o) es (es ++ record { name = name; kind = kind; line = n; number = count_of (counts_from no_counts es) kind } ∷ [])) none
