-- Each line that the tracer prints is read as what it says.
use Rattle.std.proofs.Common.{◌≡◌, ◌≤◌, ◌<◌, ◌^◌, ℕ, List, [], ◌∷◌, ◌++◌, refl, sym, ◌∙◌, ap, subst, true, arith, Option, None, Some, inl, inr}
use Rattle.std.specs.Prelude.{decimal, codes}
use Rattle.std.specs.List.{join_with_byte}
use Rattle.std.proofs.lemmas.List.{append_cancel_right}
use Rattle.words_trace.specs.declared.event.Event.{Event}
use Rattle.words_trace.specs.declared.event.Event.TheVariants as event
use Rattle.words_trace.specs.declared.report.BudgetView.{BudgetView}
use Rattle.words_trace.specs.Text.{name_at, event_words, budget_words}
use Rattle.tool_check.specs.Words.{greatest}
use Rattle.tool_check.specs.Lines.{Reading, timed_reading, closing_reading, words_reading, reading}
use Rattle.words_script.specs.Names.{is_name}
use Rattle.tool_check.specs.Laws.{said, form_of_report, nums_of_budget, IsSpelled, IsBudgetSpelled, IsEventLine, IsReportLine, IsTraceLine}
use Rattle.tool_check.proofs.Numbers.{are_digits, number_of-decimal}
use Rattle.tool_check.proofs.Spelling.{IsWord, AreWords, number_is_word, name_is_word, digits_no_thread, signal_of-name, signal_is_word, answer_known, code_known, call_known, split_joined}

small : (n : ℕ) → n ≤ greatest → n < 2 ^ 64
small n h = omega arith

number_word : (n : ℕ) → n ≤ greatest → IsWord (decimal n)
number_word n h = number_is_word n (small n h)

-- the words of an event have no blanks
event_apart : (names : List (List ℕ)) (e : Event) → IsSpelled names e → AreWords (event_words names e)
event_apart names (event.Dispatch t prio) (h, p) = (refl, (name_is_word (name_at names t) h, (number_word prio p, tt)))
event_apart names event.Idle h = (refl, tt)
event_apart names (event.Start t) h = (refl, (name_is_word (name_at names t) h, tt))
event_apart names (event.Return t call res value) (h, v) = (refl, (name_is_word (name_at names t) h, ((call_known call).word, ((answer_known res).word, (number_word value v, tt)))))
event_apart names (event.Deliver t sig code value) (h, s, v) = (refl, (name_is_word (name_at names t) h, (signal_is_word sig s, ((code_known code).word, (number_word value v, tt)))))
event_apart names (event.Activate t capacity) (h, c) = (refl, (name_is_word (name_at names t) h, (number_word capacity c, tt)))
event_apart names (event.Exhaust t) h = (refl, (name_is_word (name_at names t) h, tt))
event_apart names (event.Plan t amount due) (h, a, d) = (refl, (name_is_word (name_at names t) h, (number_word amount a, (number_word due d, tt))))
event_apart names (event.Refill t amount capacity) (h, a, c) = (refl, (name_is_word (name_at names t) h, (number_word amount a, (number_word capacity c, tt))))
event_apart names (event.Cancel t) h = (refl, (name_is_word (name_at names t) h, tt))
event_apart names (event.Exit t) h = (refl, (name_is_word (name_at names t) h, tt))
event_apart names (event.Killed sig) s = (refl, (signal_is_word sig s, tt))
event_apart names event.End h = (refl, tt)

-- behind the time
event_says : (names : List (List ℕ)) (time : ℕ) (e : Event) → IsSpelled names e → timed_reading (Some time) (event_words names e) ≡ Some (said names time e)
event_says names time (event.Dispatch t prio) (h, p) = rw (h, number_of-decimal prio p) refl
event_says names time event.Idle h = refl
event_says names time (event.Start t) h = rw h refl
event_says names time (event.Return t call res value) (h, v) = rw (h, (call_known call).known, (answer_known res).known, number_of-decimal value v) refl
event_says names time (event.Deliver t sig code value) (h, s, v) = rw (h, signal_of-name sig s, (code_known code).known, number_of-decimal value v) refl
event_says names time (event.Activate t capacity) (h, c) = rw (h, number_of-decimal capacity c) refl
event_says names time (event.Exhaust t) h = rw h refl
event_says names time (event.Plan t amount due) (h, a, d) = rw (h, number_of-decimal amount a, number_of-decimal due d) refl
event_says names time (event.Refill t amount capacity) (h, a, c) = rw (h, number_of-decimal amount a, number_of-decimal capacity c) refl
event_says names time (event.Cancel t) h = rw h refl
event_says names time (event.Exit t) h = rw h refl
event_says names time (event.Killed sig) s = rw (signal_of-name sig s) refl
event_says names time event.End h = refl

begins : (time : ℕ) (ws : List (List ℕ)) → time ≤ greatest → words_reading (decimal time ∷ ws) ≡ timed_reading (Some time) ws
begins time ws h = rw (digits_no_thread (decimal time) (are_digits time (small time h)), number_of-decimal time h) refl

joined_says : (w : List ℕ) (ws : List (List ℕ)) (text : List ℕ) → IsWord w → AreWords ws → join_with_byte 32 (w ∷ ws) ++ 10 ∷ [] ≡ text ++ 10 ∷ [] → reading text ≡ words_reading (w ∷ ws)
joined_says w ws text first rest printed =
    let same : join_with_byte 32 (w ∷ ws) ≡ text = append_cancel_right (join_with_byte 32 (w ∷ ws)) text (10 ∷ []) printed in
    subst (λ t. reading t ≡ words_reading (w ∷ ws)) same (ap words_reading (split_joined w ws first rest))

event_read : (text : List ℕ) (r : Reading) → IsEventLine text r → reading text ≡ Some r
event_read text r h =
    joined_says (decimal h.time) (event_words h.names h.event) text (number_word h.time h.early) (event_apart h.names h.event h.spelled) h.printed
    ∙ (begins h.time (event_words h.names h.event) h.early ∙ (event_says h.names h.time h.event h.spelled ∙ ap Some (sym h.says)))

budget_apart : (b : Option BudgetView) → IsBudgetSpelled b → AreWords (budget_words b)
budget_apart None h = tt
budget_apart (Some b) (high, init, refilled, capacity) =
    (refl, (number_word b.high high, (refl, (number_word b.init init, (refl, (number_word b.refilled refilled, (refl, (number_word b.capacity capacity, tt))))))))

-- behind the word `thread`
closing_says : (name : List ℕ) (ticks : ℕ) (b : Option BudgetView) → is_name name ≡ true → ticks ≤ greatest → IsBudgetSpelled b
    → closing_reading (name ∷ codes "ticks" ∷ decimal ticks ∷ budget_words b) ≡ Some (record { form = form_of_report b; time = 0; name = name; nums = ticks ∷ nums_of_budget b })
closing_says name ticks None h t b = rw (h, number_of-decimal ticks t) refl
closing_says name ticks (Some b) h t (high, init, refilled, capacity) =
    rw (h, number_of-decimal ticks t, number_of-decimal b.high high, number_of-decimal b.init init, number_of-decimal b.refilled refilled, number_of-decimal b.capacity capacity) refl

report_read : (text : List ℕ) (r : Reading) → IsReportLine text r → reading text ≡ Some r
report_read text r h =
    let name = name_at h.names h.thread in
    joined_says (codes "thread") (name ∷ codes "ticks" ∷ decimal h.report.ticks ∷ budget_words h.report.budget) text refl
    (name_is_word name h.named, (refl, (number_word h.report.ticks h.ticks, budget_apart h.report.budget h.budget))) h.printed
    ∙ (closing_says name h.report.ticks h.report.budget h.named h.ticks h.budget ∙ ap Some (sym h.says))

-- a line of a trace is read as what it says
pub printed_is_read : (text : List ℕ) (r : Reading) → IsTraceLine text r → reading text ≡ Some r
printed_is_read text r (inl h) = event_read text r h
printed_is_read text r (inr h) = report_read text r h
