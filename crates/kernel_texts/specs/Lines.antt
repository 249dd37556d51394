-- The lines of facts, as they come about piece by piece. The form is this project's own.
use Rattle.std.specs.Prelude.{Bool, List, [], flat_map, suc, zero, ℕ, ◌∷◌, ◌++◌, if◌then◌else◌}
use Rattle.words_script.specs.declared.decl.Decl.{Decl}
use Rattle.script_lex.specs.Joined.{after_blanks, joined_words}
use Rattle.script_writer.specs.Canon.{Words}
use Rattle.script_writer.specs.Line.{line_text}
use Rattle.script_writer.specs.Words.{is_nil}
use Rattle.rules_facts.specs.Fact.{Fact, Number}
use Rattle.rules_facts.specs.Spelled.{body_name, number_words, subject, told}
use Rattle.rules_machine.specs.State.{Frame}
use Rattle.rules_machine.specs.Threads.{is_main}

-- a line where anything is told of a subject, and else nothing
abbrev pub told_text : Words → Words → List ℕ
told_text about words = if is_nil words then [] else line_text (about ++ words)

-- the text of a fact, which is not told where it is empty
abbrev pub fact_text : List Decl → Fact → List ℕ
fact_text decls f = told_text (subject decls f) (told decls f)

abbrev pub facts_text : List Decl → List Fact → List ℕ
facts_text decls facts = flat_map (fact_text decls) facts

-- the text of a number
abbrev pub number_text : List Decl → Number → List ℕ
number_text decls n = line_text (number_words decls n)

-- ---- a line that is not ended

-- the subject and what is told so far, where anything is
abbrev pub begun : Words → Words → List ℕ
begun about words = if is_nil words then [] else joined_words (about ++ words)

-- more words, behind the subject where nothing was told before
abbrev pub more_text : Bool → Words → Words → List ℕ
more_text is_begun about more = if is_begun then after_blanks more else joined_words (about ++ more)

-- the end of a line that was begun
abbrev pub end_text : Bool → List ℕ
end_text is_begun = if is_begun then 10 ∷ [] else []

-- the word of a frame above the main one
abbrev pub frame_words : {P : Type 0} → List Decl → Frame P → Words
frame_words decls f = if is_main f.kind then [] else body_name decls f.body ∷ []

-- more words, of which there may be none
abbrev pub more_if_any : Bool → Words → Words → List ℕ
more_if_any is_begun about more = if is_nil more then [] else more_text is_begun about more

-- ---- one text for each number below a limit

abbrev pub texts_below : (ℕ → List ℕ) → ℕ → List ℕ
texts_below text zero = []
texts_below text (suc n) = texts_below text n ++ text n
