-- No number that is read of a line is above the greatest of a trace.
use Rattle.std.proofs.Common.{Bool, List, None, Option, Some, [], false, true, zero, suc, ℕ, ◌∷◌, ◌++◌, ◌≡◌, ◌≤◌, arith, refl, subst, sym}
use Rattle.std.specs.Prelude.{if◌then◌else◌, codes, is_some, nat_le, ◌==◌, ◌&&◌, ◌+◌, ◌-◌, ◌*◌, IfSome}
use Rattle.std.specs.Option.{option_map}
use Rattle.std.specs.Str.{bytes_eq}
use Rattle.words_script.specs.Names.{is_digit, is_name}
use Rattle.script_table.specs.Words.{is_number, signal_number, signal_of, answer_of, value_of}
use Rattle.tool_check.specs.declared.form.Form.{Form}
use Rattle.tool_check.specs.declared.form.Form.TheVariants as form
use Rattle.tool_check.specs.declared.form.Part.{Part}
use Rattle.tool_check.specs.declared.form.Part.TheVariants as part
use Rattle.tool_check.specs.declared.lines.TraceLine.{TraceLine}
use Rattle.tool_check.specs.Form.{parts}
use Rattle.tool_check.specs.Words.{greatest, is_call, is_code, is_plain, number_of, trace_words}
use Rattle.tool_check.specs.Lines.{Reading, and_read, begun, closing_reading, kept, numbered, of_form, or_read, reading, seen, timed_form, timed_reading, with_word, with_words, words_reading}
use Rattle.tool_check.specs.Small.{AreSmall, IsSmallLine}

abbrev pub IfRead : Option Reading → Type 0
IfRead None = Unit {0}
IfRead (Some r) = IsSmallLine r

-- a number that is read is small
abbrev IfNumber : Option ℕ → Type 0
IfNumber None = Unit {0}
IfNumber (Some n) = n ≤ greatest

number_so : (w : List ℕ) → IfNumber (number_of w)
number_so w = by_test (is_number w && is_plain w) (nat_le (value_of w) greatest) (λ h. grind arith)
  where
    by_test : (a b : Bool) → (b ≡ true → value_of w ≤ greatest) → IfNumber (if a && b then Some (value_of w) else None)
    by_test true true h = h refl
    by_test true false h = tt
    by_test false b h = tt

more_small : (nums : List ℕ) (n : ℕ) → AreSmall nums → n ≤ greatest → AreSmall (nums ++ n ∷ [])
more_small [] n h small zero = small
more_small [] n h small (suc k) = omega arith
more_small (x ∷ nums) n h small zero = h zero
more_small (x ∷ nums) n h small (suc k) = more_small nums n (λ j. h (suc j)) small k

if_number : (b : Bool) (n : ℕ) → (b ≡ true → n ≤ greatest) → IfNumber (if b then Some n else None)
if_number true n h = h refl
if_number false n h = tt

digit_small : (d : ℕ) → is_digit d ≡ true → d - 48 ≤ greatest
digit_small d h = grind arith

pair_small : (a : Bool) (n : ℕ) → (a && nat_le n 31) ≡ true → n ≤ greatest
pair_small true n h = grind arith
pair_small false n h = absurd (grind arith)

signal_number_so : (w : List ℕ) → IfNumber (signal_number w)
signal_number_so [] = tt
signal_number_so (d ∷ []) = if_number (is_digit d) (d - 48) (digit_small d)
signal_number_so (t ∷ d ∷ []) = if_number _ ((t - 48) * 10 + (d - 48)) (pair_small (nat_le 49 t && (nat_le t 51 && is_digit d)) ((t - 48) * 10 + (d - 48)))
signal_number_so (t ∷ d ∷ e ∷ more) = tt

signal_so : (w : List ℕ) → IfNumber (signal_of w)
signal_so [] = tt
signal_so (r ∷ []) = tt
signal_so (r ∷ t ∷ digits) = by_test (r == 114 && t == 116)
  where
    by_test : (b : Bool) → IfNumber (if b then signal_number digits else None)
    by_test true = signal_number_so digits
    by_test false = tt

kept_so : (b : Bool) (r : Reading) → IsSmallLine r → IfRead (kept b r)
kept_so true r h = h
kept_so false r h = tt

named_so : (b : Bool) (word : List ℕ) (r : Reading) → IsSmallLine r → IfRead (if b then Some (record { form = r.form; time = r.time; name = word; nums = r.nums }) else None)
named_so true word r h = record { time = h.time; nums = h.nums }
named_so false word r h = tt

numbered_so : (o : Option ℕ) (r : Reading) → IfNumber o → IsSmallLine r → IfRead (numbered o r)
numbered_so None r s h = tt
numbered_so (Some n) r s h = record { time = h.time; nums = more_small r.nums n h.nums s }

word_so : (p : Part) (w : List ℕ) (r : Reading) → IsSmallLine r → IfRead (with_word p w r)
word_so part.Name w r h = named_so (is_name w) w r h
word_so part.Number w r h = numbered_so (number_of w) r (number_so w) h
word_so part.Signal w r h = numbered_so (signal_of w) r (signal_so w) h
word_so part.Call w r h = kept_so (is_call w) r h
word_so part.Answer w r h = kept_so (is_some (answer_of w)) r h
word_so part.Code w r h = kept_so (is_code w) r h
word_so part.Ticks w r h = kept_so (bytes_eq w (codes "ticks")) r h
word_so part.High w r h = kept_so (bytes_eq w (codes "high")) r h
word_so part.Init w r h = kept_so (bytes_eq w (codes "init")) r h
word_so part.Refilled w r h = kept_so (bytes_eq w (codes "refilled")) r h
word_so part.Capacity w r h = kept_so (bytes_eq w (codes "capacity")) r h

words_so : (ps : List Part) (ws : List (List ℕ)) (r : Reading) → IsSmallLine r → IfRead (with_words ps ws r)
words_so [] [] r h = h
words_so [] (w ∷ ws) r h = tt
words_so (p ∷ ps) [] r h = tt
words_so (p ∷ ps) (w ∷ ws) r h = then_so (with_word p w r) (word_so p w r h) (λ x k. words_so ps ws x k)
  where
    then_so : (o : Option Reading) → IfRead o → ((x : Reading) → IsSmallLine x → IfRead (with_words ps ws x)) → IfRead (and_read o (with_words ps ws))
    then_so None h k = tt
    then_so (Some x) h k = k x h

begun_so : (f : Form) (time : ℕ) → time ≤ greatest → IsSmallLine (begun f time)
begun_so f time h = record { time = h; nums = none }
  where
    none : AreSmall []
    none k = omega arith

form_so : (o : Option Form) (time : ℕ) (ws : List (List ℕ)) → time ≤ greatest → IfRead (of_form o time ws)
form_so None time ws h = tt
form_so (Some f) time ws h = words_so (parts f) ws (begun f time) (begun_so f time h)

timed_so : (o : Option ℕ) (ws : List (List ℕ)) → IfNumber o → IfRead (timed_reading o ws)
timed_so None ws h = tt
timed_so (Some time) [] h = tt
timed_so (Some time) (w ∷ ws) h = form_so (timed_form w) time ws h

or_so : (o p : Option Reading) → IfRead o → IfRead p → IfRead (or_read o p)
or_so None p h k = k
or_so (Some r) p h k = h

all_so : (ws : List (List ℕ)) → IfRead (words_reading ws)
all_so [] = tt
all_so (w ∷ ws) = by_word (bytes_eq w (codes "thread"))
  where
    by_word : (b : Bool) → IfRead (if b then closing_reading ws else timed_reading (number_of w) ws)
    by_word true = or_so (of_form (Some form.Thread) 0 ws) (of_form (Some form.Budget) 0 ws) (form_so (Some form.Thread) 0 ws (omega arith)) (form_so (Some form.Budget) 0 ws (omega arith))
    by_word false = timed_so (number_of w) ws (number_so w)

-- what is read of a line
pub read_small : (line : List ℕ) → IfRead (reading line)
read_small line = all_so (trace_words line)

-- as the code has it
pub small_where_read : (line : List ℕ) (o : Option TraceLine) → option_map (λ (l : TraceLine). seen l) o ≡ reading line → IfSome o (λ l. IsSmallLine (seen l))
small_where_read line None e = tt
small_where_read line (Some l) e = subst IfRead (sym e) (read_small line)
