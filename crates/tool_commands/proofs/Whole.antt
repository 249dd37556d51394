-- The answer to what a command read, and to all that its source told.
use Rattle.std.proofs.Common.{◌≡◌, ◌≤◌, ◌<◌, ◌+◌, ℕ, List, ◌++◌, length, length-append, ◌∙◌, refl, sym, ap, arith, rules, append-nil, Bool, true, false, Option, None, Some}
use Rattle.std.specs.Prelude.{◌&&◌, if◌then◌else◌, nat_lt}
use Rattle.std.specs.Io.KnownBytes.{Consumes, IsAtEnd}
use Rattle.parts_io.specs.declared.whole.ReadEnd.TheVariants as read_end
use Rattle.tool_answers.specs.declared.command.Command.{Command}
use Rattle.tool_answers.specs.declared.command.Command.TheVariants.{Run, Show, Detail, Check, Audit, Upgrade, ResponseTimes, Gen, Soak}
use Rattle.tool_answers.specs.Command.{limit_of, reads}
use Rattle.tool_answers.specs.Answer.{command_answer, text_answer}
use Rattle.tool_commands.specs.Ended.{end_answer}

not_above : (limit n : ℕ) → n ≤ limit → nat_lt limit n ≡ false
not_above limit n h = search rules

above : (limit n : ℕ) → limit < n → nat_lt limit n ≡ true
above limit n h = search rules

and_false : {A : Type 0} (b : Bool) (x y : A) → (if b && false then x else y) ≡ y
and_false true x y = refl
and_false false x y = refl

-- what was taken is no more than the limit
pub answer_of_taken : (c : Command) (bytes : List ℕ) → length bytes ≤ limit_of c → command_answer (Some c) bytes ≡ text_answer c bytes
answer_of_taken c bytes short = rw (not_above (limit_of c) (length bytes) short) (and_false (reads c) _ _)

-- it is all that the source told
pub all_taken : (before now : Option (List ℕ)) (taken bytes : List ℕ) → Consumes before now taken → IsAtEnd now → before ≡ Some bytes → taken ≡ bytes
all_taken None now taken bytes moved end is = absurd (cc)
all_taken (Some b) None taken bytes moved end is = absurd moved
all_taken (Some b) (Some rest) taken bytes moved end is =
    let same : b ≡ bytes = cc in
    sym (moved ∙ (ap (λ (r : List ℕ). taken ++ r) end ∙ append-nil taken)) ∙ same

-- a command that reads nothing answers alike to all bytes
same_text : (c : Command) (bytes others : List ℕ) → reads c ≡ false → text_answer c bytes ≡ text_answer c others
same_text (Run n) bytes others e = absurd (let f : true ≡ false = e in cc)
same_text (Show n) bytes others e = absurd (let f : true ≡ false = e in cc)
same_text (Detail n) bytes others e = absurd (let f : true ≡ false = e in cc)
same_text (Check n) bytes others e = absurd (let f : true ≡ false = e in cc)
same_text Audit bytes others e = absurd (let f : true ≡ false = e in cc)
same_text Upgrade bytes others e = absurd (let f : true ≡ false = e in cc)
same_text (ResponseTimes n) bytes others e = absurd (let f : true ≡ false = e in cc)
same_text (Gen seed) bytes others e = refl
same_text (Soak seed n) bytes others e = refl

pub answer_of_all : (c : Command) (before now : Option (List ℕ)) (taken bytes : List ℕ) → length taken ≤ limit_of c → Consumes before now taken
    → (reads c ≡ true → IsAtEnd now) → before ≡ Some bytes → command_answer (Some c) bytes ≡ text_answer c taken
answer_of_all c before now taken bytes short moved end is = by_test (reads c) refl
  where
    by_test : (b : Bool) → reads c ≡ b → command_answer (Some c) bytes ≡ text_answer c taken
    by_test true r = ap (command_answer (Some c)) (sym (all_taken before now taken bytes moved (end r) is)) ∙ answer_of_taken c taken short
    by_test false r = rw r (same_text c bytes taken r)

-- more bytes than the limit are too long
pub answer_long : (c : Command) (bytes : List ℕ) → reads c ≡ true → limit_of c < length bytes → command_answer (Some c) bytes ≡ end_answer read_end.TooLong
answer_long c bytes is more = rw (is, above (limit_of c) (length bytes) more) refl

-- and so are all that the source told, where so many were taken
pub more_taken : (c : Command) (before now : Option (List ℕ)) (taken bytes : List ℕ) → length taken ≡ limit_of c + 1 → Consumes before now taken → before ≡ Some bytes
    → limit_of c < length bytes
more_taken c None now taken bytes count moved is = absurd (cc)
more_taken c (Some b) None taken bytes count moved is = absurd moved
more_taken c (Some b) (Some rest) taken bytes count moved is =
    let same : b ≡ bytes = cc in
    let all : length bytes ≡ length taken + length rest = ap length (sym same ∙ moved) ∙ length-append taken rest in
    omega arith
