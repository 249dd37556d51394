-- A closing line is read with the time 0.
use Rattle.std.proofs.Common.{Bool, List, None, Option, Some, [], false, refl, true, ℕ, ◌∷◌, ◌≡◌, arith}
use Rattle.std.specs.Prelude.{find, if◌then◌else◌, codes, is_some}
use Rattle.std.specs.Str.{bytes_eq}
use Rattle.words_script.specs.Names.{is_name}
use Rattle.script_table.specs.Words.{signal_of, answer_of}
use Rattle.tool_check.specs.declared.form.Form.{Form}
use Rattle.tool_check.specs.declared.form.Form.TheVariants as form
use Rattle.tool_check.specs.declared.form.Part.{Part}
use Rattle.tool_check.specs.declared.form.Part.TheVariants as part
use Rattle.tool_check.specs.Form.{form_word, parts}
use Rattle.tool_check.specs.Words.{number_of, trace_words, is_call, is_code}
use Rattle.tool_check.specs.Lines.{Reading, and_read, begun, closing_reading, kept, numbered, of_form, or_read, reading, timed_form, timed_forms, timed_reading, with_word, with_words, words_reading}

-- whether a form is that of a closing line
abbrev pub closes : Form → Bool
closes form.Thread = true
closes form.Budget = true
closes f = false

abbrev pub AtZero : Reading → Type 0
AtZero r = closes r.form ≡ true → r.time ≡ 0

abbrev pub IfRead : Option Reading → Type 0
IfRead None = Unit {0}
IfRead (Some r) = AtZero r

kept_so : (b : Bool) (r : Reading) → AtZero r → IfRead (kept b r)
kept_so true r h = h
kept_so false r h = tt

named_so : (b : Bool) (word : List ℕ) (r : Reading) → AtZero r → IfRead (if b then Some (record { form = r.form; time = r.time; name = word; nums = r.nums }) else None)
named_so true word r h = h
named_so false word r h = tt

numbered_so : (o : Option ℕ) (r : Reading) → AtZero r → IfRead (numbered o r)
numbered_so None r h = tt
numbered_so (Some n) r h = h

word_so : (p : Part) (w : List ℕ) (r : Reading) → AtZero r → IfRead (with_word p w r)
word_so part.Name w r h = named_so (is_name w) w r h
word_so part.Number w r h = numbered_so (number_of w) r h
word_so part.Signal w r h = numbered_so (signal_of w) r h
word_so part.Call w r h = kept_so (is_call w) r h
word_so part.Answer w r h = kept_so (is_some (answer_of w)) r h
word_so part.Code w r h = kept_so (is_code w) r h
word_so part.Ticks w r h = kept_so (bytes_eq w (codes "ticks")) r h
word_so part.High w r h = kept_so (bytes_eq w (codes "high")) r h
word_so part.Init w r h = kept_so (bytes_eq w (codes "init")) r h
word_so part.Refilled w r h = kept_so (bytes_eq w (codes "refilled")) r h
word_so part.Capacity w r h = kept_so (bytes_eq w (codes "capacity")) r h

words_so : (ps : List Part) (ws : List (List ℕ)) (r : Reading) → AtZero r → IfRead (with_words ps ws r)
words_so [] [] r h = h
words_so [] (w ∷ ws) r h = tt
words_so (p ∷ ps) [] r h = tt
words_so (p ∷ ps) (w ∷ ws) r h = then_so (with_word p w r) (word_so p w r h) (λ x k. words_so ps ws x k)
  where
    then_so : (o : Option Reading) → IfRead o → ((x : Reading) → AtZero x → IfRead (with_words ps ws x)) → IfRead (and_read o (with_words ps ws))
    then_so None h k = tt
    then_so (Some x) h k = k x h

-- the forms that begin with a time close nothing
abbrev NoneCloses : List Form → Type 0
NoneCloses [] = Unit {0}
NoneCloses (f ∷ fs) = (closes f ≡ false) × NoneCloses fs

abbrev IfForm : Option Form → Type 0
IfForm None = Unit {0}
IfForm (Some f) = closes f ≡ false

found_so : (p : Form → Bool) (fs : List Form) → NoneCloses fs → IfForm (find p fs)
found_so p [] h = tt
found_so p (f ∷ fs) h = by_first (p f) refl (found_so p fs h.1)
  where
    by_first : (b : Bool) → p f ≡ b → IfForm (find p fs) → IfForm (find p (f ∷ fs))
    by_first true e rest = rw e h.0
    by_first false e rest = rw e rest

timed_so : (o : Option Form) (time : ℕ) (ws : List (List ℕ)) → IfForm o → IfRead (of_form o time ws)
timed_so None time ws h = tt
timed_so (Some f) time ws h = words_so (parts f) ws (begun f time) (λ c. absurd (both c h))
  where
    both : {b : Bool} → b ≡ true → b ≡ false → ⊥
    both p q = grind arith

after_time : (o : Option ℕ) (ws : List (List ℕ)) → IfRead (timed_reading o ws)
after_time None ws = tt
after_time (Some time) [] = tt
after_time (Some time) (w ∷ ws) = timed_so (timed_form w) time ws (found_so (λ f. bytes_eq w (form_word f)) timed_forms (refl, (refl, (refl, (refl, (refl, (refl, (refl, (refl, (refl, (refl, (refl, (refl, (refl, tt))))))))))))))

closing_so : (f : Form) (ws : List (List ℕ)) → IfRead (of_form (Some f) 0 ws)
closing_so f ws = words_so (parts f) ws (begun f 0) (λ c. refl)

or_so : (o p : Option Reading) → IfRead o → IfRead p → IfRead (or_read o p)
or_so None p h k = k
or_so (Some r) p h k = h

all_so : (ws : List (List ℕ)) → IfRead (words_reading ws)
all_so [] = tt
all_so (w ∷ ws) = by_word (bytes_eq w (codes "thread"))
  where
    by_word : (b : Bool) → IfRead (if b then closing_reading ws else timed_reading (number_of w) ws)
    by_word true = or_so (of_form (Some form.Thread) 0 ws) (of_form (Some form.Budget) 0 ws) (closing_so form.Thread ws) (closing_so form.Budget ws)
    by_word false = after_time (number_of w) ws

-- what is read of a line
pub read_at_zero : (line : List ℕ) → IfRead (reading line)
read_at_zero line = all_so (trace_words line)
