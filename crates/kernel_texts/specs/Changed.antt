-- The lines of the facts that change, from the texts that were told and those that are told now. The form is this project's own.
use Rattle.std.specs.Prelude.{List, [], decimal, drop, length, map, take, ℕ, ◌+◌, ◌-◌, ◌∷◌, ◌++◌, ◌≡◌, if◌then◌else◌}
use Rattle.std.specs.Str.{bytes_eq}
use Rattle.words_script.specs.declared.decl.Decl.{Decl}
use Rattle.script_lex.specs.Joined.{joined_words}
use Rattle.rules_facts.specs.Fact.{Fact}
use Rattle.rules_facts.specs.Spelled.{subject}

-- what stands behind the subject in the line of a fact, without the end of the line; nothing where there is no line
abbrev pub behind_subject : List ℕ → List ℕ → List ℕ
behind_subject about line = take (length line - length about - 2) (drop (length about + 1) line)

-- the subject alone, where there is no line
abbrev pub line_or_subject : List ℕ → List ℕ → List ℕ
line_or_subject about [] = about ++ 10 ∷ []
line_or_subject about (c ∷ line) = c ∷ line

-- of a fact with this subject: its line at an instant, where it tells something else than it told before
abbrev pub changed_line : ℕ → List ℕ → List ℕ → List ℕ → List ℕ
changed_line now about before line =
    if bytes_eq (behind_subject about before) (behind_subject about line) then [] else decimal now ++ (32 ∷ line_or_subject about line)

abbrev pub changed_lines : ℕ → List (List ℕ) → List (List ℕ) → List (List ℕ) → List ℕ
changed_lines now [] before lines = []
changed_lines now (about ∷ abouts) [] lines = []
changed_lines now (about ∷ abouts) (b ∷ before) [] = []
changed_lines now (about ∷ abouts) (b ∷ before) (line ∷ lines) = changed_line now about b line ++ changed_lines now abouts before lines

-- the subject of a fact as a text
abbrev pub subject_text : List Decl → Fact → List ℕ
subject_text decls f = joined_words (subject decls f)

-- Two lists of facts tell of the same subjects in the same order.
abbrev pub HaveSameSubjects : List Decl → List Fact → List Fact → Type 0
HaveSameSubjects decls before after = map (subject decls) before ≡ map (subject decls) after
