-- What a single word says: numbers, signals, sets of signals, answers of calls. Their spelling is this project's own.
use Rattle.std.specs.Prelude.{ℕ, ◌+◌, ◌-◌, ◌*◌, ◌==◌, ◌&&◌, nat_le, not, Bool, if◌then◌else◌, List, [], ◌∷◌, length, fold, Option, None, Some, codes}
use Rattle.std.specs.List.{list_all}
use Rattle.std.specs.Str.{bytes_eq}
use Rattle.words_numbers.specs.declared.res.Res.{Res}
use Rattle.words_numbers.specs.declared.res.Res.TheVariants as res
use Rattle.words_numbers.specs.Words.{res_text}
use Rattle.words_numbers.specs.Signals.{every_signal, with_signal}
use Rattle.words_script.specs.Names.{is_digit}

-- one digit or more
abbrev pub is_number : List ℕ → Bool
is_number word = not (length word == 0) && list_all is_digit word

-- the value of digits, leading zeros or none
abbrev pub value_of : List ℕ → ℕ
value_of word = fold (λ v d. v * 10 + (d - 48)) 0 word

-- 0 to 31, without a leading zero
abbrev pub signal_number : List ℕ → Option ℕ
signal_number [] = None
signal_number (d ∷ []) = if is_digit d then Some (d - 48) else None
signal_number (t ∷ d ∷ []) = if (nat_le 49 t && (nat_le t 51 && is_digit d)) && nat_le ((t - 48) * 10 + (d - 48)) 31 then Some ((t - 48) * 10 + (d - 48)) else None
signal_number (t ∷ d ∷ e ∷ more) = None

-- rt0 to rt31
abbrev pub signal_of : List ℕ → Option ℕ
signal_of [] = None
signal_of (r ∷ []) = None
signal_of (r ∷ t ∷ digits) = if r == 114 && t == 116 then signal_number digits else None

-- a byte before the first part
abbrev pub onto_part : ℕ → List (List ℕ) → List (List ℕ)
onto_part c [] = (c ∷ []) ∷ []
onto_part c (p ∷ ps) = (c ∷ p) ∷ ps

-- the parts of a word between its commas
abbrev pub parts_of : List ℕ → List (List ℕ)
parts_of [] = [] ∷ []
parts_of (c ∷ cs) = if c == 44 then [] ∷ parts_of cs else onto_part c (parts_of cs)

-- the parts of what is ahead, where something is
abbrev pub parts_ahead : Option (List ℕ) → List (List ℕ)
parts_ahead None = []
parts_ahead (Some word) = parts_of word

-- the signal, and then those of the parts that follow; none where a part is no signal
abbrev pub with_part : ℕ → Option ℕ → (ℕ → Option ℕ) → Option ℕ
with_part set None rest = None
with_part set (Some sig) rest = rest (with_signal set sig)

abbrev pub with_parts : ℕ → List (List ℕ) → Option ℕ
with_parts set [] = Some set
with_parts set (p ∷ ps) = with_part set (signal_of p) (λ more. with_parts more ps)

-- all signals, none of them, or those that are named
abbrev pub set_of : List ℕ → Option ℕ
set_of word =
    if bytes_eq word (codes "all") then Some every_signal
    else if bytes_eq word (codes "none") then Some 0
    else with_parts 0 (parts_of word)

-- the answer of a call by its text
abbrev pub answer_of : List ℕ → Option Res
answer_of word =
    if bytes_eq word (res_text res.Zero) then Some res.Zero
    else if bytes_eq word (res_text res.Again) then Some res.Again
    else if bytes_eq word (res_text res.Busy) then Some res.Busy
    else if bytes_eq word (res_text res.Deadlk) then Some res.Deadlk
    else if bytes_eq word (res_text res.Intr) then Some res.Intr
    else if bytes_eq word (res_text res.Inval) then Some res.Inval
    else if bytes_eq word (res_text res.Msgsize) then Some res.Msgsize
    else if bytes_eq word (res_text res.Overflow) then Some res.Overflow
    else if bytes_eq word (res_text res.Perm) then Some res.Perm
    else if bytes_eq word (res_text res.Srch) then Some res.Srch
    else if bytes_eq word (res_text res.Timedout) then Some res.Timedout
    else None

-- the first of some answers whose text it is
abbrev pub answer_among : List Res → List ℕ → Option Res
answer_among [] word = None
answer_among (r ∷ rs) word = if bytes_eq word (res_text r) then Some r else answer_among rs word

-- the value of a frame's register
abbrev pub is_register : List ℕ → Bool
is_register word = bytes_eq word (codes "reg")
