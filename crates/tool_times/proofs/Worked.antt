-- Texts and what is answered to them, computed by the definitions.
use Rattle.std.proofs.Common.{◌≡◌, ℕ, List, refl}
use Rattle.std.specs.Prelude.{codes, map, ◌==◌, if◌then◌else◌}
use Rattle.std.specs.Fmt.{digits}
use Rattle.script_lex.specs.Lines.{lines_of}
use Rattle.script_lex.specs.Words.{words_of}
use Rattle.tool_times.specs.Answer.{answer}

-- a text, with `;` for each line end
abbrev text : List ℕ → List ℕ
text cs = map (λ c. if c == 59 then 10 else c) cs

three : answer 12 (text (codes "task a 3 1 4 0;task b 2 2 6 0;task c 1 3 12 0")) ≡ text (codes "task a response 1;task b response 3;task c response 10;")
unfolding lines_of words_of digits
three = refl

third_is_late : answer 9 (text (codes "task a 3 1 4 0;task b 2 2 6 0;task c 1 3 12 0")) ≡ text (codes "task a response 1;task b response 3;task c none;")
unfolding lines_of words_of digits
third_is_late = refl

starves : answer 50 (text (codes "task x 2 1 1 0;task y 1 1 1 0")) ≡ text (codes "task x response 1;task y none;")
unfolding lines_of words_of digits
starves = refl

blocked : answer 50 (text (codes "task a 3 1 4 2")) ≡ text (codes "task a response 3;")
unfolding lines_of words_of digits
blocked = refl

same_priority : answer 5 (text (codes "task a 3 1 4 0;task b 3 1 4 0")) ≡ text (codes "refused 2 17 SamePriority;")
unfolding lines_of words_of digits
same_priority = refl

no_task : answer 5 (text (codes "")) ≡ text (codes "refused 1 18 NoTask;")
unfolding lines_of words_of digits
no_task = refl

comments_alone : answer 5 (text (codes "# none;;")) ≡ text (codes "refused 3 18 NoTask;")
unfolding lines_of words_of digits
comments_alone = refl

name_twice : answer 5 (text (codes "task a 3 0 4 0;task a 3 1 4 0")) ≡ text (codes "refused 2 7 DuplicateName;")
unfolding lines_of words_of digits
name_twice = refl

range_before_priority : answer 5 (text (codes "task a 256 1 4 0;task b 256 1 4 0")) ≡ text (codes "refused 1 5 NumberRange;")
unfolding lines_of words_of digits
range_before_priority = refl

number_before_name : answer 5 (text (codes "task A 3 x 4 0")) ≡ text (codes "refused 1 4 BadNumber;")
unfolding lines_of words_of digits
number_before_name = refl

later_line_of_an_earlier_phase : answer 5 (text (codes "task a 256 1 4 0;task b 3 1 4")) ≡ text (codes "refused 2 3 WordCount;")
unfolding lines_of words_of digits
later_line_of_an_earlier_phase = refl
