-- The text of a trace, line by line: each line is read as what it says.
use Rattle.std.proofs.Common.{◌≡◌, ◌≤◌, ◌<◌, ◌^◌, ℕ, zero, suc, ◌+◌, List, [], ◌∷◌, ◌++◌, length, get_or, refl, ◌∙◌, sym, ap, subst, append_assoc, Bool, true, false, not, arith, rules, Option, None, Some, inl, inr}
use Rattle.std.specs.Prelude.{◌==◌, decimal, codes, map}
use Rattle.std.specs.Fmt.{digits}
use Rattle.std.specs.List.{list_all, range_with_len, join_with_byte}
use Rattle.std.proofs.lemmas.List.FromFn.{get_or-range_with_len, length-range_with_len}
use Rattle.words_numbers.specs.Words.{res_text, sig_code_text, signal_word}
use Rattle.words_numbers.specs.declared.res.Res.{Res}
use Rattle.words_numbers.specs.declared.res.Res.TheVariants as res
use Rattle.words_numbers.specs.declared.sig_code.SigCode.{SigCode}
use Rattle.words_numbers.specs.declared.sig_code.SigCode.TheVariants as code
use Rattle.words_script.specs.declared.decl.Script.{Script}
use Rattle.words_script.specs.Names.{is_name, is_name_byte, is_digit, begins_with_letter}
use Rattle.script_lex.specs.Lines.{lines_of}
use Rattle.script_lex.specs.Words.{onto_first}
use Rattle.script_lex.proofs.Split.{no_lines}
use Rattle.words_trace.specs.declared.event.CallName.{CallName}
use Rattle.words_trace.specs.declared.event.CallName.TheVariants as call
use Rattle.words_trace.specs.declared.event.Event.{Event}
use Rattle.words_trace.specs.declared.event.Event.TheVariants as event
use Rattle.words_trace.specs.declared.report.BudgetView.{BudgetView}
use Rattle.words_trace.specs.Calls.{call_word}
use Rattle.words_trace.specs.Text.{Entry, budget_words, event_words, line, lines, name_at, report_words}
use Rattle.tool_check.specs.Words.{greatest}
use Rattle.tool_check.specs.Laws.{IsBudgetSpelled, IsSpelled, said, said_of_report}
use Rattle.tool_check.specs.Lines.{Reading, reading}
use Rattle.tool_check.proofs.Numbers.{are_digits, both}
use Rattle.tool_check.proofs.Printed.{printed_is_read}
use Rattle.rules_machine.specs.State.{Thread}
use Rattle.rules_machine.specs.Machine.{closing, events, machine, names_of, report_of, reports, trace}
use Rattle.laws_audit.specs.Traces.{AllSpelled, ReportsSpelled, TraceIsSpelled, event_readings, report_readings, trace_readings}

-- ---- words without a line end

abbrev is_inner : ℕ → Bool
is_inner c = not (c == 10)

abbrev IsInner : List ℕ → Type 0
IsInner w = list_all is_inner w ≡ true

abbrev AreInner : List (List ℕ) → Type 0
AreInner [] = Unit {0}
AreInner (w ∷ ws) = IsInner w × AreInner ws

all_more : (p q : ℕ → Bool) → ((c : ℕ) → p c ≡ true → q c ≡ true) → (w : List ℕ) → list_all p w ≡ true → list_all q w ≡ true
all_more p q step [] e = refl
all_more p q step (c ∷ cs) e = let h = both (p c) (list_all p cs) e in rw (step c h.0) (all_more p q step cs h.1)

digit_inner : (c : ℕ) → is_digit c ≡ true → is_inner c ≡ true
digit_inner c e = search rules

byte_inner : (c : ℕ) → is_name_byte c ≡ true → is_inner c ≡ true
byte_inner c e = search rules

small : (n : ℕ) → n ≤ greatest → n < 2 ^ 64
small n h = omega arith

number_inner : (n : ℕ) → n ≤ greatest → IsInner (decimal n)
number_inner n h = all_more is_digit is_inner digit_inner (decimal n) (are_digits n (small n h))

name_inner : (w : List ℕ) → is_name w ≡ true → IsInner w
name_inner w e = let h = both (begins_with_letter w) _ e in all_more is_name_byte is_inner byte_inner w (both (list_all is_name_byte w) _ h.1).0

each_signal : list_all (λ k. list_all is_inner (signal_word k)) (range_with_len 0 32) ≡ true
unfolding digits
each_signal = refl

all_at : (p : ℕ → Bool) (xs : List ℕ) (i d : ℕ) → i < length xs → list_all p xs ≡ true → p (get_or xs i d) ≡ true
all_at p [] i d h e = absurd (omega arith)
all_at p (x ∷ xs) zero d h e = (both (p x) (list_all p xs) e).0
all_at p (x ∷ xs) (suc i) d h e = all_at p xs i d (omega arith) (both (p x) (list_all p xs) e).1

signal_inner : (k : ℕ) → k < 32 → IsInner (signal_word k)
signal_inner k h =
    let same : get_or (range_with_len 0 32) k 0 ≡ 0 + k = get_or-range_with_len 0 32 k 0 h in
    let number : 0 + k ≡ k = omega arith in
    let room : k < length (range_with_len 0 32) = omega (arith, length-range_with_len 0 32) in
    subst (λ j. list_all is_inner (signal_word j) ≡ true) (same ∙ number) (all_at (λ j. list_all is_inner (signal_word j)) (range_with_len 0 32) k 0 room each_signal)

answer_inner : (r : Res) → IsInner (res_text r)
answer_inner res.Zero = refl
answer_inner res.Again = refl
answer_inner res.Busy = refl
answer_inner res.Deadlk = refl
answer_inner res.Intr = refl
answer_inner res.Inval = refl
answer_inner res.Msgsize = refl
answer_inner res.Overflow = refl
answer_inner res.Perm = refl
answer_inner res.Srch = refl
answer_inner res.Timedout = refl

code_inner : (c : SigCode) → IsInner (sig_code_text c)
code_inner code.User = refl
code_inner code.Queue = refl
code_inner code.Timer = refl
code_inner code.Mesgq = refl

call_inner : (c : CallName) → IsInner (call_word c)
call_inner call.Yield = refl
call_inner call.Create = refl
call_inner call.Join = refl
call_inner call.Cancel = refl
call_inner call.Testcancel = refl
call_inner call.Setcancel = refl
call_inner call.Push = refl
call_inner call.Pop = refl
call_inner call.Exit = refl
call_inner call.Setprio = refl
call_inner call.Setsched = refl
call_inner call.Lock = refl
call_inner call.Timedlock = refl
call_inner call.Trylock = refl
call_inner call.Unlock = refl
call_inner call.Wait = refl
call_inner call.Timedwait = refl
call_inner call.Signal = refl
call_inner call.Broadcast = refl
call_inner call.SemWait = refl
call_inner call.SemTimedwait = refl
call_inner call.SemTrywait = refl
call_inner call.SemGetvalue = refl
call_inner call.SemPost = refl
call_inner call.Nanosleep = refl
call_inner call.ClockNanosleep = refl
call_inner call.Gettime = refl
call_inner call.RealGettime = refl
call_inner call.ClockSettime = refl
call_inner call.TimerSettime = refl
call_inner call.TimerGettime = refl
call_inner call.TimerGetoverrun = refl
call_inner call.Kill = refl
call_inner call.Tkill = refl
call_inner call.Sigqueue = refl
call_inner call.Sigmask = refl
call_inner call.Sigwaitinfo = refl
call_inner call.Sigtimedwait = refl
call_inner call.MqSend = refl
call_inner call.MqTimedsend = refl
call_inner call.MqReceive = refl
call_inner call.MqTimedreceive = refl
call_inner call.MqNotify = refl

words_inner : (names : List (List ℕ)) (e : Event) → IsSpelled names e → AreInner (event_words names e)
words_inner names (event.Dispatch t prio) (h, p) = (refl, (name_inner (name_at names t) h, (number_inner prio p, tt)))
words_inner names event.Idle h = (refl, tt)
words_inner names (event.Start t) h = (refl, (name_inner (name_at names t) h, tt))
words_inner names (event.Return t call res value) (h, v) = (refl, (name_inner (name_at names t) h, (call_inner call, (answer_inner res, (number_inner value v, tt)))))
words_inner names (event.Deliver t sig code value) (h, s, v) = (refl, (name_inner (name_at names t) h, (signal_inner sig s, (code_inner code, (number_inner value v, tt)))))
words_inner names (event.Activate t capacity) (h, c) = (refl, (name_inner (name_at names t) h, (number_inner capacity c, tt)))
words_inner names (event.Exhaust t) h = (refl, (name_inner (name_at names t) h, tt))
words_inner names (event.Plan t amount due) (h, a, d) = (refl, (name_inner (name_at names t) h, (number_inner amount a, (number_inner due d, tt))))
words_inner names (event.Refill t amount capacity) (h, a, c) = (refl, (name_inner (name_at names t) h, (number_inner amount a, (number_inner capacity c, tt))))
words_inner names (event.Cancel t) h = (refl, (name_inner (name_at names t) h, tt))
words_inner names (event.Exit t) h = (refl, (name_inner (name_at names t) h, tt))
words_inner names (event.Killed sig) s = (refl, (signal_inner sig s, tt))
words_inner names event.End h = (refl, tt)

budget_inner : (b : Option BudgetView) → IsBudgetSpelled b → AreInner (budget_words b)
budget_inner None h = tt
budget_inner (Some b) (high, init, refilled, capacity) =
    (refl, (number_inner b.high high, (refl, (number_inner b.init init, (refl, (number_inner b.refilled refilled, (refl, (number_inner b.capacity capacity, tt))))))))

both_inner : (xs ys : List ℕ) → IsInner xs → IsInner ys → IsInner (xs ++ ys)
both_inner [] ys h k = k
both_inner (x ∷ xs) ys h k = let p = both (is_inner x) (list_all is_inner xs) h in rw p.0 (both_inner xs ys p.1 k)

joined_inner : (ws : List (List ℕ)) → AreInner ws → IsInner (join_with_byte 32 ws)
joined_inner [] h = refl
joined_inner (w ∷ []) h = h.0
joined_inner (w ∷ v ∷ ws) h = both_inner w (32 ∷ join_with_byte 32 (v ∷ ws)) h.0 (joined_inner (v ∷ ws) h.1)

-- ---- lines

at_end : (b : Bool) → not b ≡ true → b ≡ false
at_end true e = absurd (let f : false ≡ true = e in cc)
at_end false e = refl

line_then : (l rest : List ℕ) → IsInner l → lines_of (l ++ 10 ∷ rest) ≡ l ∷ lines_of rest
unfolding lines_of
line_then [] rest h = refl
line_then (c ∷ l) rest h =
    let e = both (is_inner c) (list_all is_inner l) h in
    let no : (c == 10) ≡ false = at_end (c == 10) e.0 in
    rw no (ap (onto_first c) (line_then l rest e.1))

-- the first line of a text, and the rest
first_line : (ws : List (List ℕ)) (rest : List ℕ) → AreInner ws → lines_of ((join_with_byte 32 ws ++ 10 ∷ []) ++ rest) ≡ join_with_byte 32 ws ∷ lines_of rest
first_line ws rest h = ap lines_of (append_assoc (join_with_byte 32 ws) (10 ∷ []) rest) ∙ line_then (join_with_byte 32 ws) rest (joined_inner ws h)

module _ (names : List (List ℕ)) where
  lines_read : (es : List Entry) (rest : List ℕ) → AllSpelled names es → map reading (lines_of (lines names es ++ rest)) ≡ map Some (event_readings names es) ++ map reading (lines_of rest)
  lines_read [] rest h = refl
  lines_read (e ∷ es) rest h =
      let ws = decimal e.time ∷ event_words names e.event in
      let inner : AreInner (decimal e.time ∷ event_words names e.event) = (number_inner e.time h.0, words_inner names e.event h.1) in
      let read : reading (join_with_byte 32 (decimal e.time ∷ event_words names e.event)) ≡ Some (said names e.time e.event) =
      printed_is_read (join_with_byte 32 (decimal e.time ∷ event_words names e.event)) (said names e.time e.event) (inl (record { names = names; time = e.time; event = e.event; printed = refl; early = h.0; spelled = h.1; says = refl })) in
      ap (λ (text : List ℕ). map reading (lines_of text)) (append_assoc (line names e.time e.event) (lines names es) rest)
      ∙ ap (map reading) (first_line (decimal e.time ∷ event_words names e.event) (lines names es ++ rest) inner)
      ∙ ap (λ (o : Option Reading). o ∷ map reading (lines_of (lines names es ++ rest))) read
      ∙ ap (λ (os : List (Option Reading)). Some (said names e.time e.event) ∷ os) (lines_read es rest h.2)

  reports_read : {P : Type 0} (t : ℕ) (ths : List (Thread P)) → ReportsSpelled names t ths → map reading (lines_of (reports names t ths)) ≡ map Some (report_readings names t ths)
  reports_read t [] h = ap (map reading) no_lines
  reports_read t (th ∷ ths) h =
      let inner : AreInner (report_words names t (report_of th)) = (refl, (name_inner (name_at names t) h.0, (refl, (number_inner th.ticks h.1, budget_inner (report_of th).budget h.2)))) in
      let read : reading (join_with_byte 32 (report_words names t (report_of th))) ≡ Some (said_of_report names t (report_of th)) =
      printed_is_read (join_with_byte 32 (report_words names t (report_of th))) (said_of_report names t (report_of th)) (inr (record { names = names; thread = t; report = report_of th; printed = refl; named = h.0; ticks = h.1; budget = h.2; says = refl })) in
      ap (map reading) (first_line (report_words names t (report_of th)) (reports names (t + 1) ths) inner)
      ∙ ap (λ (o : Option Reading). o ∷ map reading (lines_of (reports names (t + 1) ths))) read
      ∙ ap (λ (os : List (Option Reading)). Some (said_of_report names t (report_of th)) ∷ os) (reports_read (t + 1) ths h.3)

map_more : {X Y : Type 0} (f : X → Y) (xs ys : List X) → map f (xs ++ ys) ≡ map f xs ++ map f ys
map_more f [] ys = refl
map_more f (x ∷ xs) ys = ap (λ zs. f x ∷ zs) (map_more f xs ys)

-- the lines of a trace that is spelled so are read as what its events and its end say
pub trace_is_read : (script : Script) (n : ℕ) → TraceIsSpelled script n → map reading (lines_of (trace script n)) ≡ map Some (trace_readings script n)
trace_is_read script n h =
    let closed : map reading (lines_of (closing (names_of script) (machine script n))) ≡ Some (said (names_of script) (machine script n).now event.End) ∷ map Some (report_readings (names_of script) 0 (machine script n).threads) =
    ends_read (names_of script) (machine script n).now (reports (names_of script) 0 (machine script n).threads) h.early ∙ ap (λ (os : List (Option Reading)). Some (said (names_of script) (machine script n).now event.End) ∷ os) (reports_read (names_of script) 0 (machine script n).threads h.reports) in
    lines_read (names_of script) (events script n) (closing (names_of script) (machine script n)) h.events
    ∙ ap (λ (os : List (Option Reading)). map Some (event_readings (names_of script) (events script n)) ++ os) closed
    ∙ sym (map_more Some (event_readings (names_of script) (events script n)) (said (names_of script) (machine script n).now event.End ∷ report_readings (names_of script) 0 (machine script n).threads))
  where
    ends_read : (names : List (List ℕ)) (now : ℕ) (rest : List ℕ) → now ≤ greatest → map reading (lines_of (line names now event.End ++ rest)) ≡ Some (said names now event.End) ∷ map reading (lines_of rest)
    ends_read names now rest early =
        ap (map reading) (first_line (decimal now ∷ codes "end" ∷ []) rest (number_inner now early, (refl, tt)))
        ∙ ap (λ (o : Option Reading). o ∷ map reading (lines_of rest)) (printed_is_read (join_with_byte 32 (decimal now ∷ codes "end" ∷ [])) (said names now event.End) (inl (record { names = names; time = now; event = event.End; printed = refl; early = early; spelled = tt; says = refl })))
