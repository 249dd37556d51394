use Rattle.std.proofs.Common.{◌≡◌, ℕ, ◌<◌, ◌^◌, ◌++◌, ◌∷◌, [], List, None, map, length, subst, sym, ◌∙◌, ap}
use Rattle.std.proofs.lemmas.List.{length-map}
use Rattle.std.specs.Borrow.{Bor}
use Rattle.std.specs.Str.{bytes_eq}
use Rattle.indexmap.proofs.CallerLemmas.{insert_entry-new}
use Rattle.script_table.specs.Names.{Entry, Counts, entry_of, with_name, counts_from, counted, count_of, no_counts}
use Rattle.script_reader.specs.declared.names.Declaration.{Declaration}
use Rattle.script_reader.specs.NameMap.{entry_named, entry_of_pair}
use Rattle.script_reader.proofs.Bounded.{count_fits}
use Rattle.script_reader.proofs.NameEntries.{absent, added, taken_in, counts_more}
use Rattle.script_reader.proofs.names.NameIndex.add.Goals as goal
use Rattle.script_reader.proofs.names.NameIndex.add.Goals.{In_ok-insert}

pub add-requires : goal.add-requires
add-requires c =
    let few : length (map entry_of_pair c.self.inside.index.entries) < 2 ^ 63 =
    subst (λ n. n < 2 ^ 63) (c.len.ensures.len ∙ sym (length-map c.self.inside.index.entries entry_of_pair)) c.len.ensures.small in
    count_fits (map entry_of_pair c.self.inside.index.entries) c.args.kind c.self.inside.counts (2 ^ 63) c.self.invariant few

-- the entries once the name is in
grown : (c : In_ok-insert) → map entry_of_pair c.insert.new.self.entries ≡
    map entry_of_pair c.self.inside.index.entries ++ entry_named c.args.name.now (record { kind = c.args.kind; line = c.args.line; number = c.of-number.result }) ∷ []
grown c =
    let d : Declaration = record { kind = c.args.kind; line = c.args.line; number = c.of-number.result } in
    let none : None ≡ entry_of (map entry_of_pair c.self.inside.index.entries) c.args.name.now = subst (λ es. None ≡ entry_of es c.args.name.now) (sym c.self.view_is) c.in_default.ensures in
    added c.self.inside.index.entries c.insert.new.self.entries c.args.name d
    (c.in_ok-insert.ensures.entries ∙ insert_entry-new (λ (a b : Bor (List ℕ)). bytes_eq a.now b.now) c.self.inside.index c.args.name d (absent c.args.name.now c.self.inside.index.entries none))

pub invariant_of-self-2 : goal.invariant_of-self-2
invariant_of-self-2 c =
    let e : Entry = entry_named c.args.name.now (record { kind = c.args.kind; line = c.args.line; number = c.of-number.result }) in
    let es : List Entry = map entry_of_pair c.self.inside.index.entries in
    c.add.ensures ∙ (ap (λ (k : Counts). counted k c.args.kind) c.self.invariant ∙ (sym (counts_more no_counts es e) ∙ ap (counts_from no_counts) (sym (grown (goal.at.invariant_of-self-2 c).In_ok-insert))))

pub returns : goal.returns
returns c =
    let es : List Entry = map entry_of_pair c.self.inside.index.entries in
    let none : None ≡ entry_of es c.args.name.now = subst (λ es. None ≡ entry_of es c.args.name.now) (sym c.self.view_is) c.in_default.ensures in
    let number : c.of-number.result ≡ count_of (counts_from no_counts es) c.args.kind = c.of-number.ensures ∙ ap (λ (k : Counts). count_of k c.args.kind) c.self.invariant in
    taken_in es (map entry_of_pair c.insert.new.self.entries) c.args.line c.args.kind c.args.name.now c.of-number.result none number (grown (goal.at.returns c).In_ok-insert)
    ∙ ap (λ (es : List Entry). with_name es c.args.line c.args.kind c.args.name.now) c.self.view_is
