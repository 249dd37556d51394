-- Worked examples, from the words and the bytes in to the text out, by computing.
use Rattle.std.proofs.Common.{◌≡◌, ℕ, List, [], ◌∷◌, ◌++◌, refl}
use Rattle.std.specs.Prelude.{codes}
use Rattle.std.specs.Fmt.{digits}
use Rattle.script_lex.specs.Lines.{lines_of}
use Rattle.script_lex.specs.Words.{words_of}
use Rattle.script_table.specs.Table.{patterns, declaration_patterns, step_patterns, call_patterns}
use Rattle.script_table.specs.Structure.{said_from, phase_one}
use Rattle.script_table.specs.Heading.{heading}
use Rattle.script_table.specs.Read.{read, read_in}
use Rattle.rules_machine.specs.Priorities.{exec_in}
use Rattle.tool_answers.specs.declared.status.Status.TheVariants.{Done, Usage, Refused, Differs, NoTrace}
use Rattle.tool_answers.specs.Answer.{Answer, answer, usage_line}

-- a text from its lines
abbrev text : List (List ℕ) → List ℕ
text [] = []
text (l ∷ ls) = l ++ 10 ∷ text ls

abbrev done : List (List ℕ) → Answer
done ls = record { status = Done; text = text ls }

one_thread_runs : answer (codes "run" ∷ codes "10" ∷ []) (text (codes "thread a fifo 5 at 0" ∷ codes "run 3" ∷ codes "end" ∷ [])) ≡
    done (codes "0 start a" ∷ codes "0 dispatch a 5" ∷ codes "4 exit a" ∷ codes "4 idle" ∷ codes "10 end" ∷ codes "thread a ticks 4" ∷ [])
unfolding read heading read_in patterns declaration_patterns step_patterns call_patterns said_from phase_one lines_of words_of digits exec_in
one_thread_runs = refl

no_tick_at_all : answer (codes "run" ∷ codes "0" ∷ []) (text (codes "thread a fifo 5 at 0" ∷ codes "run 3" ∷ codes "end" ∷ [])) ≡
    done (codes "0 end" ∷ codes "thread a ticks 0" ∷ [])
unfolding read heading read_in patterns declaration_patterns step_patterns call_patterns said_from phase_one lines_of words_of digits exec_in
no_tick_at_all = refl

one_thread_is_shown : answer (codes "show" ∷ codes "2" ∷ []) (text (codes "thread a fifo 5 at 0" ∷ codes "run 3" ∷ codes "end" ∷ [])) ≡
    done (codes "2 state" ∷ codes "list 5 a" ∷ codes "thread a ready 5 5" ∷ codes "now a 2 0 0 0" ∷ codes "left a 1" ∷ [])
unfolding read heading read_in patterns declaration_patterns step_patterns call_patterns said_from phase_one lines_of words_of digits exec_in
one_thread_is_shown = refl

one_thread_is_told_in_detail : answer (codes "detail" ∷ codes "5" ∷ []) (text (codes "thread a fifo 5 at 0" ∷ codes "run 3" ∷ codes "end" ∷ [])) ≡
    done (codes "0 start a" ∷ codes "0 dispatch a 5" ∷ codes "0 list 5 a" ∷ codes "0 thread a ready 5 5" ∷
    codes "4 exit a" ∷ codes "4 idle" ∷ codes "4 list 5" ∷ codes "4 thread a ended" ∷ codes "5 end" ∷ codes "thread a ticks 4" ∷ [])
unfolding read heading read_in patterns declaration_patterns step_patterns call_patterns said_from phase_one lines_of words_of digits exec_in
one_thread_is_told_in_detail = refl

preempted_thread_resumes_at_the_head : answer (codes "run" ∷ codes "12" ∷ [])
    (text (codes "thread a fifo 5 at 0" ∷ codes "run 4" ∷ codes "end" ∷ codes "thread b fifo 5 at 0" ∷ codes "run 1" ∷ codes "end" ∷
    codes "thread c fifo 9 at 2" ∷ codes "run 1" ∷ codes "end" ∷ [])) ≡
    done (codes "0 start a" ∷ codes "0 start b" ∷ codes "0 dispatch a 5" ∷ codes "2 start c" ∷ codes "2 dispatch c 9" ∷ codes "4 exit c" ∷
    codes "4 dispatch a 5" ∷ codes "7 exit a" ∷ codes "7 dispatch b 5" ∷ codes "9 exit b" ∷ codes "9 idle" ∷ codes "12 end" ∷
    codes "thread a ticks 5" ∷ codes "thread b ticks 2" ∷ codes "thread c ticks 2" ∷ [])
unfolding read heading read_in patterns declaration_patterns step_patterns call_patterns said_from phase_one lines_of words_of digits exec_in
preempted_thread_resumes_at_the_head = refl

no_thread_is_refused : answer (codes "run" ∷ codes "10" ∷ []) [] ≡ record { status = Refused; text = codes "refused 1 14 NoThread\n" }
unfolding read heading read_in patterns declaration_patterns step_patterns call_patterns said_from phase_one lines_of words_of digits
no_thread_is_refused = refl

no_thread_is_not_shown : answer (codes "show" ∷ codes "10" ∷ []) [] ≡ record { status = Refused; text = codes "refused 1 14 NoThread\n" }
unfolding read heading read_in patterns declaration_patterns step_patterns call_patterns said_from phase_one lines_of words_of digits
no_thread_is_not_shown = refl

no_thread_has_no_detail : answer (codes "detail" ∷ codes "10" ∷ []) [] ≡ record { status = Refused; text = codes "refused 1 14 NoThread\n" }
unfolding read heading read_in patterns declaration_patterns step_patterns call_patterns said_from phase_one lines_of words_of digits
no_thread_has_no_detail = refl

one_word_is_no_command : answer (codes "run" ∷ []) [] ≡ record { status = Usage; text = usage_line }
one_word_is_no_command = refl

tasks_have_responses : answer (codes "rta" ∷ codes "12" ∷ [])
    (text (codes "task a 3 1 4 0" ∷ codes "task b 2 2 6 0" ∷ codes "task c 1 3 12 0" ∷ [])) ≡
    done (codes "task a response 1" ∷ codes "task b response 3" ∷ codes "task c response 10" ∷ [])
unfolding lines_of words_of digits
tasks_have_responses = refl

third_is_late : answer (codes "rta" ∷ codes "9" ∷ [])
    (text (codes "task a 3 1 4 0" ∷ codes "task b 2 2 6 0" ∷ codes "task c 1 3 12 0" ∷ [])) ≡
    done (codes "task a response 1" ∷ codes "task b response 3" ∷ codes "task c none" ∷ [])
unfolding lines_of words_of digits
third_is_late = refl

same_priority_is_refused : answer (codes "rta" ∷ codes "5" ∷ []) (text (codes "task a 3 1 4 0" ∷ codes "task b 3 1 4 0" ∷ [])) ≡
    record { status = Refused; text = codes "refused 2 17 SamePriority\n" }
unfolding lines_of words_of digits
same_priority_is_refused = refl

no_task_is_refused : answer (codes "rta" ∷ codes "5" ∷ []) [] ≡ record { status = Refused; text = codes "refused 1 18 NoTask\n" }
unfolding lines_of words_of digits
no_task_is_refused = refl

bound_above_the_limit : answer (codes "rta" ∷ codes "100000001" ∷ []) [] ≡ record { status = Usage; text = usage_line }
bound_above_the_limit = refl

-- a thread that runs for three ticks, a divider, and a trace
abbrev beside : List (List ℕ) → List ℕ
beside trace = text (codes "thread a fifo 5 at 0" ∷ codes "run 3" ∷ codes "end" ∷ codes "%%" ∷ trace)

trace_is_the_scripts : answer (codes "check" ∷ codes "10" ∷ [])
    (beside (codes "0 start a" ∷ codes "0 dispatch a 5" ∷ codes "4 exit a" ∷ codes "4 idle" ∷ codes "10 end" ∷ codes "thread a ticks 4" ∷ [])) ≡
    done (codes "same" ∷ [])
unfolding read heading read_in patterns declaration_patterns step_patterns call_patterns said_from phase_one lines_of words_of digits exec_in
trace_is_the_scripts = refl

fourth_line_differs : answer (codes "check" ∷ codes "10" ∷ [])
    (beside (codes "0 start a" ∷ codes "0 dispatch a 5" ∷ codes "4 exit a" ∷ codes "4 dispatch a 5" ∷ codes "10 end" ∷ codes "thread a ticks 4" ∷ [])) ≡
    record { status = Differs; text = text (codes "differs 4" ∷ codes "want 4 idle" ∷ codes "have dispatch" ∷ []) }
unfolding read heading read_in patterns declaration_patterns step_patterns call_patterns said_from phase_one lines_of words_of digits exec_in
fourth_line_differs = refl

last_line_is_missing : answer (codes "check" ∷ codes "10" ∷ [])
    (beside (codes "0 start a" ∷ codes "0 dispatch a 5" ∷ codes "4 exit a" ∷ codes "4 idle" ∷ codes "10 end" ∷ [])) ≡
    record { status = Differs; text = text (codes "differs 6" ∷ codes "want thread a ticks 4" ∷ codes "have nothing" ∷ []) }
unfolding read heading read_in patterns declaration_patterns step_patterns call_patterns said_from phase_one lines_of words_of digits exec_in
last_line_is_missing = refl

nothing_is_divided : answer (codes "check" ∷ codes "10" ∷ []) (text (codes "thread a fifo 5 at 0" ∷ codes "run 3" ∷ codes "end" ∷ [])) ≡
    record { status = NoTrace; text = codes "no trace\n" }
unfolding lines_of digits
nothing_is_divided = refl

script_0_is_written : answer (codes "gen" ∷ codes "0" ∷ []) [] ≡
    done (codes "quantum 3" ∷ codes "mutex m0 inherit" ∷ codes "mutex m1 protect 255" ∷ codes "sem s0 0" ∷ codes "queue q0 8 64 nonblock" ∷
    codes "thread t0 sporadic 54 1 50 1 10 at 9" ∷ codes "forever" ∷ codes "run 2" ∷ codes "lock m0" ∷ codes "run 5" ∷ codes "unlock m0" ∷
    codes "nanosleep 451" ∷ codes "end" ∷ codes "end" ∷ [])
unfolding digits
script_0_is_written = refl

script_0_is_soaked : answer (codes "soak" ∷ codes "0" ∷ codes "20" ∷ []) [] ≡ done (codes "20 end" ∷ codes "thread t0 ticks 10 high 1 init 1 refilled 0 capacity 0" ∷ [])
unfolding digits exec_in
script_0_is_soaked = refl

two_numbers_generate_nothing : answer (codes "gen" ∷ codes "0" ∷ codes "0" ∷ []) [] ≡ record { status = Usage; text = usage_line }
two_numbers_generate_nothing = refl
