-- The words that a tracer prints: none has a blank, and each is known again.
use Rattle.std.proofs.Common.{◌≡◌, ◌<◌, ◌^◌, ℕ, zero, suc, ◌+◌, List, [], ◌∷◌, ◌++◌, length, get_or, refl, ◌∙◌, ap, subst, Bool, true, false, not, arith, rules, Option, None, Some, eqb-true}
use Rattle.std.specs.Prelude.{◌==◌, ◌&&◌, decimal, codes, is_some}
use Rattle.std.specs.Fmt.{digits}
use Rattle.std.specs.List.{list_all, range_with_len, join_with_byte}
use Rattle.std.specs.Str.{bytes_eq}
use Rattle.std.proofs.lemmas.List.FromFn.{get_or-range_with_len, length-range_with_len}
use Rattle.words_script.specs.Names.{is_name, is_name_byte, is_digit, begins_with_letter}
use Rattle.script_table.specs.Words.{signal_of, answer_of}
use Rattle.words_numbers.specs.Words.{res_text, sig_code_text, signal_word}
use Rattle.words_numbers.specs.declared.res.Res.{Res}
use Rattle.words_numbers.specs.declared.res.Res.TheVariants as res
use Rattle.words_numbers.specs.declared.sig_code.SigCode.{SigCode}
use Rattle.words_numbers.specs.declared.sig_code.SigCode.TheVariants as code
use Rattle.words_trace.specs.declared.event.CallName.{CallName}
use Rattle.words_trace.specs.declared.event.CallName.TheVariants as call
use Rattle.words_trace.specs.Calls.{call_word}
use Rattle.tool_check.specs.Words.{trace_words, is_call, is_code}
use Rattle.tool_check.proofs.Numbers.{both, are_digits}

abbrev is_no_blank : ℕ → Bool
is_no_blank c = not (c == 32)

-- a word without a blank
abbrev pub IsWord : List ℕ → Type 0
IsWord w = list_all is_no_blank w ≡ true

all_more : (p q : ℕ → Bool) → ((c : ℕ) → p c ≡ true → q c ≡ true) → (w : List ℕ) → list_all p w ≡ true → list_all q w ≡ true
all_more p q step [] e = refl
all_more p q step (c ∷ cs) e = let h = both (p c) (list_all p cs) e in rw (step c h.0) (all_more p q step cs h.1)

digit_no_blank : (c : ℕ) → is_digit c ≡ true → is_no_blank c ≡ true
digit_no_blank c e = search rules

name_no_blank : (c : ℕ) → is_name_byte c ≡ true → is_no_blank c ≡ true
name_no_blank c e = search rules

pub number_is_word : (n : ℕ) → n < 2 ^ 64 → IsWord (decimal n)
number_is_word n h = all_more is_digit is_no_blank digit_no_blank (decimal n) (are_digits n h)

pub name_is_word : (w : List ℕ) → is_name w ≡ true → IsWord w
name_is_word w e =
    let h = both (begins_with_letter w) _ e in
    all_more is_name_byte is_no_blank name_no_blank w (both (list_all is_name_byte w) _ h.1).0

no_t : (c : ℕ) → is_digit c ≡ true → (c == 116) ≡ false
no_t c e = search rules

pub digits_no_thread : (w : List ℕ) → list_all is_digit w ≡ true → bytes_eq w (codes "thread") ≡ false
digits_no_thread [] e = refl
digits_no_thread (c ∷ cs) e = let h = both (is_digit c) (list_all is_digit cs) e in rw (no_t c h.0) refl

-- signals, each by its number
abbrev is_it : ℕ → Option ℕ → Bool
is_it k None = false
is_it k (Some j) = j == k

abbrev reads : ℕ → Bool
reads k = is_it k (signal_of (signal_word k)) && list_all is_no_blank (signal_word k)

each_reads : list_all reads (range_with_len 0 32) ≡ true
unfolding digits
each_reads = refl

all_at : (p : ℕ → Bool) (xs : List ℕ) (i d : ℕ) → i < length xs → list_all p xs ≡ true → p (get_or xs i d) ≡ true
all_at p [] i d h e = absurd (omega arith)
all_at p (x ∷ xs) zero d h e = (both (p x) (list_all p xs) e).0
all_at p (x ∷ xs) (suc i) d h e = all_at p xs i d (omega arith) (both (p x) (list_all p xs) e).1

reads_at : (k : ℕ) → k < 32 → reads k ≡ true
reads_at k h =
    let same : get_or (range_with_len 0 32) k 0 ≡ 0 + k = get_or-range_with_len 0 32 k 0 h in
    let number : 0 + k ≡ k = omega arith in
    let room : k < length (range_with_len 0 32) = omega (arith, length-range_with_len 0 32) in
    subst (λ j. reads j ≡ true) (same ∙ number) (all_at reads (range_with_len 0 32) k 0 room each_reads)

it_is : (k : ℕ) (found : Option ℕ) → is_it k found ≡ true → found ≡ Some k
it_is k None e = absurd (let f : false ≡ true = e in cc)
it_is k (Some j) e = ap Some (eqb-true j k e)

pub signal_of-name : (k : ℕ) → k < 32 → signal_of (signal_word k) ≡ Some k
signal_of-name k h = it_is k (signal_of (signal_word k)) (both (is_it k (signal_of (signal_word k))) (list_all is_no_blank (signal_word k)) (reads_at k h)).0

pub signal_is_word : (k : ℕ) → k < 32 → IsWord (signal_word k)
signal_is_word k h = (both (is_it k (signal_of (signal_word k))) (list_all is_no_blank (signal_word k)) (reads_at k h)).1

-- the answers and the codes
pub record IsAnswer (w : List ℕ) : Type 0 where
  pub known : is_some (answer_of w) ≡ true
  pub word : IsWord w

pub answer_known : (r : Res) → IsAnswer (res_text r)
answer_known res.Zero = record { known = refl; word = refl }
answer_known res.Again = record { known = refl; word = refl }
answer_known res.Busy = record { known = refl; word = refl }
answer_known res.Deadlk = record { known = refl; word = refl }
answer_known res.Intr = record { known = refl; word = refl }
answer_known res.Inval = record { known = refl; word = refl }
answer_known res.Msgsize = record { known = refl; word = refl }
answer_known res.Overflow = record { known = refl; word = refl }
answer_known res.Perm = record { known = refl; word = refl }
answer_known res.Srch = record { known = refl; word = refl }
answer_known res.Timedout = record { known = refl; word = refl }

pub record IsCode (w : List ℕ) : Type 0 where
  pub known : is_code w ≡ true
  pub word : IsWord w

pub code_known : (c : SigCode) → IsCode (sig_code_text c)
code_known code.User = record { known = refl; word = refl }
code_known code.Queue = record { known = refl; word = refl }
code_known code.Timer = record { known = refl; word = refl }
code_known code.Mesgq = record { known = refl; word = refl }

pub record IsCall (w : List ℕ) : Type 0 where
  pub known : is_call w ≡ true
  pub word : IsWord w

pub call_known : (c : CallName) → IsCall (call_word c)
call_known call.Yield = record { known = refl; word = refl }
call_known call.Create = record { known = refl; word = refl }
call_known call.Join = record { known = refl; word = refl }
call_known call.Cancel = record { known = refl; word = refl }
call_known call.Testcancel = record { known = refl; word = refl }
call_known call.Setcancel = record { known = refl; word = refl }
call_known call.Push = record { known = refl; word = refl }
call_known call.Pop = record { known = refl; word = refl }
call_known call.Exit = record { known = refl; word = refl }
call_known call.Setprio = record { known = refl; word = refl }
call_known call.Setsched = record { known = refl; word = refl }
call_known call.Lock = record { known = refl; word = refl }
call_known call.Timedlock = record { known = refl; word = refl }
call_known call.Trylock = record { known = refl; word = refl }
call_known call.Unlock = record { known = refl; word = refl }
call_known call.Wait = record { known = refl; word = refl }
call_known call.Timedwait = record { known = refl; word = refl }
call_known call.Signal = record { known = refl; word = refl }
call_known call.Broadcast = record { known = refl; word = refl }
call_known call.SemWait = record { known = refl; word = refl }
call_known call.SemTimedwait = record { known = refl; word = refl }
call_known call.SemTrywait = record { known = refl; word = refl }
call_known call.SemGetvalue = record { known = refl; word = refl }
call_known call.SemPost = record { known = refl; word = refl }
call_known call.Nanosleep = record { known = refl; word = refl }
call_known call.ClockNanosleep = record { known = refl; word = refl }
call_known call.Gettime = record { known = refl; word = refl }
call_known call.RealGettime = record { known = refl; word = refl }
call_known call.ClockSettime = record { known = refl; word = refl }
call_known call.TimerSettime = record { known = refl; word = refl }
call_known call.TimerGettime = record { known = refl; word = refl }
call_known call.TimerGetoverrun = record { known = refl; word = refl }
call_known call.Kill = record { known = refl; word = refl }
call_known call.Tkill = record { known = refl; word = refl }
call_known call.Sigqueue = record { known = refl; word = refl }
call_known call.Sigmask = record { known = refl; word = refl }
call_known call.Sigwaitinfo = record { known = refl; word = refl }
call_known call.Sigtimedwait = record { known = refl; word = refl }
call_known call.MqSend = record { known = refl; word = refl }
call_known call.MqTimedsend = record { known = refl; word = refl }
call_known call.MqReceive = record { known = refl; word = refl }
call_known call.MqTimedreceive = record { known = refl; word = refl }
call_known call.MqNotify = record { known = refl; word = refl }

-- words with one blank between them are split again
abbrev pub AreWords : List (List ℕ) → Type 0
AreWords [] = Unit {0}
AreWords (w ∷ ws) = IsWord w × AreWords ws

no_blank : (c : ℕ) → is_no_blank c ≡ true → (c == 32) ≡ false
no_blank c e = search rules

split_alone : (w : List ℕ) → IsWord w → trace_words w ≡ w ∷ []
split_alone [] e = refl
split_alone (c ∷ cs) e =
    let h = both (is_no_blank c) (list_all is_no_blank cs) e in
    rw (no_blank c h.0, split_alone cs h.1) refl

split_first : (w rest : List ℕ) → IsWord w → trace_words (w ++ 32 ∷ rest) ≡ w ∷ trace_words rest
split_first [] rest e = refl
split_first (c ∷ cs) rest e =
    let h = both (is_no_blank c) (list_all is_no_blank cs) e in
    rw (no_blank c h.0, split_first cs rest h.1) refl

pub split_joined : (w : List ℕ) (ws : List (List ℕ)) → IsWord w → AreWords ws → trace_words (join_with_byte 32 (w ∷ ws)) ≡ w ∷ ws
split_joined w [] first rest = split_alone w first
split_joined w (v ∷ ws) first rest =
    split_first w (join_with_byte 32 (v ∷ ws)) first ∙ ap (λ more. w ∷ more) (split_joined v ws rest.0 rest.1)
