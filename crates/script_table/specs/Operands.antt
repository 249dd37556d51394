-- What the word at a place says, where it says what the place wants. This project's own.
use Rattle.std.specs.Prelude.{ℕ, ◌&&◌, nat_lt, nat_le, if◌then◌else◌, List, Option, None, Some}
use Rattle.std.specs.Option.{option_map}
use Rattle.words_numbers.specs.Parameters.{Parameters}
use Rattle.words_numbers.specs.declared.res.Res.{Res}
use Rattle.words_script.specs.Names.{is_name}
use Rattle.words_script.specs.declared.policy.Policy.{Policy}
use Rattle.words_script.specs.declared.policy.Policy.TheVariants.{Fifo, Rr, Sporadic, Strict}
use Rattle.words_script.specs.declared.call.Moment.{Moment}
use Rattle.words_script.specs.declared.call.Moment.TheVariants.{Monotonic, Realtime}
use Rattle.words_script.specs.declared.call.Operand.{Operand}
use Rattle.words_script.specs.declared.call.Operand.TheVariants.{Num, Reg}
use Rattle.words_script.specs.declared.name_kind.NameKind.{NameKind}
use Rattle.script_table.specs.Words.{value_of, is_register, signal_of, set_of, answer_of}
use Rattle.words_script.specs.Kinds.{same_kind}
use Rattle.script_table.specs.Patterns.{greatest}
use Rattle.script_table.specs.Names.{Entry, entry_of}
use Rattle.script_table.specs.Ranges.{word, is_within}

-- a function of values that may be there
abbrev pub map_two : {A B C : Type 0} → (A → B → C) → Option A → Option B → Option C
map_two f None b = None
map_two f (Some a) None = None
map_two f (Some a) (Some b) = Some (f a b)

abbrev pub map_three : {A B C D : Type 0} → (A → B → C → D) → Option A → Option B → Option C → Option D
map_three f None b c = None
map_three f (Some a) b c = map_two (f a) b c

abbrev pub map_four : {A B C D E : Type 0} → (A → B → C → D → E) → Option A → Option B → Option C → Option D → Option E
map_four f None b c d = None
map_four f (Some a) b c d = map_three (f a) b c d

abbrev pub map_five : {A B C D E F : Type 0} → (A → B → C → D → E → F) → Option A → Option B → Option C → Option D → Option E → Option F
map_five f None b c d e = None
map_five f (Some a) b c d e = map_four (f a) b c d e

-- a number in a range
abbrev pub number_in : ℕ → ℕ → ℕ → List (List ℕ) → Option ℕ
number_in low high k words = if is_within low high (word k words) then Some (value_of (word k words)) else None

-- a number without a range of its own
abbrev pub amount_at : ℕ → List (List ℕ) → Option ℕ
amount_at k words = number_in 0 greatest k words

abbrev pub priority_at : ℕ → List (List ℕ) → Option ℕ
priority_at k words = number_in 1 255 k words

-- a number or the register
abbrev pub operand_at : ℕ → List (List ℕ) → Option Operand
operand_at k words = if is_register (word k words) then Some Reg else option_map Num (amount_at k words)

-- an absolute time on CLOCK_MONOTONIC
abbrev pub moment_at : ℕ → List (List ℕ) → Option Moment
moment_at k words = option_map Monotonic (operand_at k words)

-- and on CLOCK_REALTIME
abbrev pub real_at : ℕ → List (List ℕ) → Option Moment
real_at k words = option_map Realtime (operand_at k words)

abbrev pub signal_at : ℕ → List (List ℕ) → Option ℕ
signal_at k words = signal_of (word k words)

abbrev pub signals_at : ℕ → List (List ℕ) → Option ℕ
signals_at k words = set_of (word k words)

abbrev pub answer_at : ℕ → List (List ℕ) → Option Res
answer_at k words = answer_of (word k words)

abbrev pub name_at : ℕ → List (List ℕ) → Option (List ℕ)
name_at k words = if is_name (word k words) then Some (word k words) else None

-- the number of a thing of this kind
abbrev pub number_of_kind : NameKind → Option Entry → Option ℕ
number_of_kind kind None = None
number_of_kind kind (Some e) = if same_kind e.kind kind && nat_lt e.number 256 then Some e.number else None

abbrev pub named_at : NameKind → List Entry → ℕ → List (List ℕ) → Option ℕ
named_at kind es k words = number_of_kind kind (entry_of es (word k words))

-- the parameters of a server, where they fit one another
abbrev pub server_of : ℕ → ℕ → ℕ → ℕ → ℕ → Option Parameters
server_of high low period budget max =
    if nat_lt low high && (nat_le 1 budget && nat_le budget period)
    then Some (record { high = high; low = low; period = period; budget = budget; max = max })
    else None

abbrev pub joined : {A : Type 0} → Option (Option A) → Option A
joined None = None
joined (Some a) = a

-- at the words 3 to 7
abbrev pub server_at : List (List ℕ) → Option Parameters
server_at words = joined (map_five server_of (priority_at 3 words) (priority_at 4 words) (amount_at 5 words) (amount_at 6 words) (number_in 1 16 7 words))

-- policies, from the word behind their keyword on
abbrev pub fifo_at : ℕ → List (List ℕ) → Option Policy
fifo_at k words = option_map Fifo (priority_at k words)

abbrev pub rr_at : ℕ → List (List ℕ) → Option Policy
rr_at k words = option_map Rr (priority_at k words)

abbrev pub sporadic_at : List (List ℕ) → Option Policy
sporadic_at words = option_map Sporadic (server_at words)

abbrev pub strict_at : List (List ℕ) → Option Policy
strict_at words = option_map Strict (server_at words)
