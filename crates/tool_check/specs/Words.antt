-- The words of a trace line. The trace format is this project's own.
use Rattle.std.specs.Prelude.{ℕ, ◌==◌, ◌&&◌, ◌*◌, ◌^◌, nat_le, not, Bool, true, false, if◌then◌else◌, List, [], ◌∷◌, Option, None, Some}
use Rattle.std.specs.List.{slice_split, list_any}
use Rattle.std.specs.Str.{bytes_eq}
use Rattle.words_numbers.specs.Words.{sig_code_text}
use Rattle.words_numbers.specs.declared.sig_code.SigCode.{SigCode}
use Rattle.words_numbers.specs.declared.sig_code.SigCode.TheVariants as code
use Rattle.script_table.specs.Words.{is_number, value_of}
use Rattle.words_trace.specs.declared.event.CallName.{CallName}
use Rattle.words_trace.specs.declared.event.CallName.TheVariants as call
use Rattle.words_trace.specs.Calls.{call_word}

-- what stands between blanks; two blanks in a row have an empty word between them
abbrev pub trace_words : List ℕ → List (List ℕ)
trace_words line = slice_split (λ c. c == 32) line

-- the words that are ahead, where some are
abbrev pub words_ahead : Option (List ℕ) → List (List ℕ)
words_ahead None = []
words_ahead (Some bytes) = trace_words bytes

-- the greatest number of a trace
abbrev pub greatest : ℕ
greatest = 3 * 10 ^ 18

-- `0`, or digits of which the first is not 0
abbrev pub is_plain : List ℕ → Bool
is_plain [] = false
is_plain (c ∷ []) = true
is_plain (c ∷ d ∷ ds) = not (c == 48)

-- the value of digits without leading zeros, at most the greatest
abbrev pub number_of : List ℕ → Option ℕ
number_of word = if (is_number word && is_plain word) && nat_le (value_of word) greatest then Some (value_of word) else None

abbrev pub every_call : List CallName
every_call =
    call.Yield ∷ call.Create ∷ call.Join ∷ call.Cancel ∷ call.Testcancel ∷ call.Setcancel ∷ call.Push ∷ call.Pop ∷ call.Exit ∷ call.Setprio
    ∷ call.Setsched ∷ call.Lock ∷ call.Timedlock ∷ call.Trylock ∷ call.Unlock ∷ call.Wait ∷ call.Timedwait ∷ call.Signal ∷ call.Broadcast
    ∷ call.SemWait ∷ call.SemTimedwait ∷ call.SemTrywait ∷ call.SemGetvalue ∷ call.SemPost ∷ call.Nanosleep ∷ call.ClockNanosleep
    ∷ call.Gettime ∷ call.RealGettime ∷ call.ClockSettime ∷ call.TimerSettime ∷ call.TimerGettime ∷ call.TimerGetoverrun ∷ call.Kill ∷ call.Tkill ∷ call.Sigqueue ∷ call.Sigmask
    ∷ call.Sigwaitinfo ∷ call.Sigtimedwait ∷ call.MqSend ∷ call.MqTimedsend ∷ call.MqReceive ∷ call.MqTimedreceive ∷ call.MqNotify ∷ []

-- the first word of a call
abbrev pub is_call : List ℕ → Bool
is_call word = list_any (λ c. bytes_eq word (call_word c)) every_call

abbrev pub every_code : List SigCode
every_code = code.User ∷ code.Queue ∷ code.Timer ∷ code.Mesgq ∷ []

-- the code of a signal
abbrev pub is_code : List ℕ → Bool
is_code word = list_any (λ c. bytes_eq word (sig_code_text c)) every_code
