-- How long the text of a fact is, by the members that it tells of. This project's own.
use Rattle.std.specs.Prelude.{List, length, ℕ, ◌+◌, ◌*◌, ◌<◌}
use Rattle.std.specs.List.{AllByRecursion}
use Rattle.words_script.specs.declared.decl.Decl.{Decl}
use Rattle.rules_facts.specs.Fact.{Fact}
use Rattle.kernel_texts.specs.Lines.{fact_text}
use Rattle.kernel_texts.specs.Modest.{NamesAreShort, members_in}

-- More bytes than the text of such a fact has: a member takes at most three words, of which the longest are a number of 21 bytes with
-- its blank, and a name of 33.
abbrev pub longest_text : ℕ → ℕ
longest_text most = 71 * most + 400

-- where names are short, the text of a fact is shorter than the longest of so many members
pub record HasShortText (decls : List Decl) (f : Fact) : Type 0 where
  pub short : NamesAreShort decls → length (fact_text decls f) < longest_text (members_in f)

abbrev pub HaveShortTexts : List Decl → List Fact → Type 0
HaveShortTexts decls facts = AllByRecursion (HasShortText decls) facts
