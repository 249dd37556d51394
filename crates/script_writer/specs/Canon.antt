-- The canonical text of a script: its lines, each as its words. The script language is this project's own.
use Rattle.std.specs.Prelude.{ℕ, ◌==◌, if◌then◌else◌, Bool, true, false, List, [], ◌∷◌, ◌++◌, map, Option, None, Some, codes, decimal}
use Rattle.words_numbers.specs.declared.res.Res.{Res}
use Rattle.words_numbers.specs.Words.{res_text, signal_word}
use Rattle.words_script.specs.declared.call.Call.{Call}
use Rattle.words_script.specs.declared.call.Call.TheVariants as call
use Rattle.words_script.specs.declared.policy.Policy.{Policy}
use Rattle.words_script.specs.declared.policy.Policy.TheVariants as policy
use Rattle.words_script.specs.declared.policy.Protocol.{Protocol}
use Rattle.words_script.specs.declared.policy.Protocol.TheVariants as protocol
use Rattle.words_script.specs.declared.decl.Decl.{Decl}
use Rattle.words_script.specs.declared.decl.Decl.TheVariants.{Named, Action}
use Rattle.words_script.specs.declared.decl.Kind.{Kind}
use Rattle.words_script.specs.declared.decl.Kind.TheVariants as kind
use Rattle.words_script.specs.declared.decl.Script.{Script}
use Rattle.words_script.specs.Block.{Block, Nothing, Running, Making, Setting, Adding, Taking, Testing, Looping, Guarding}
use Rattle.script_lex.specs.Joined.{joined_words, joined_lines}
use Rattle.words_script.specs.declared.name_kind.NameKind.TheVariants as name_kind
use Rattle.script_writer.specs.Names.{name_of}
use Rattle.script_writer.specs.Words.{moment_words, operand_word, set_word}

-- a line, as its words
abbrev pub Words : Type 0
Words = List (List ℕ)

abbrev pub policy_words : Policy → Words
policy_words (policy.Fifo prio) = codes "fifo" ∷ decimal prio ∷ []
policy_words (policy.Rr prio) = codes "rr" ∷ decimal prio ∷ []
policy_words (policy.Sporadic p) = codes "sporadic" ∷ decimal p.high ∷ decimal p.low ∷ decimal p.period ∷ decimal p.budget ∷ decimal p.max ∷ []
policy_words (policy.Strict p) = codes "strict" ∷ decimal p.high ∷ decimal p.low ∷ decimal p.period ∷ decimal p.budget ∷ decimal p.max ∷ []

-- when a thread starts by itself
abbrev pub start_words : Option ℕ → Words
start_words (Some at) = codes "at" ∷ decimal at ∷ []
start_words None = codes "dormant" ∷ []

-- a call: its word, and its operands in their order
abbrev pub call_words : List Decl → Call → Words
call_words decls call.Yield = codes "yield" ∷ []
call_words decls (call.Create t) = codes "create" ∷ name_of decls name_kind.Thread t ∷ []
call_words decls (call.Join t) = codes "join" ∷ name_of decls name_kind.Thread t ∷ []
call_words decls (call.Cancel t) = codes "cancel" ∷ name_of decls name_kind.Thread t ∷ []
call_words decls call.Testcancel = codes "testcancel" ∷ []
call_words decls (call.Setcancel true) = codes "setcancel" ∷ codes "enable" ∷ []
call_words decls (call.Setcancel false) = codes "setcancel" ∷ codes "disable" ∷ []
call_words decls (call.Push u) = codes "push" ∷ name_of decls name_kind.Cleanup u ∷ []
call_words decls (call.Pop true) = codes "pop" ∷ codes "1" ∷ []
call_words decls (call.Pop false) = codes "pop" ∷ codes "0" ∷ []
call_words decls (call.Exit v) = codes "exit" ∷ operand_word v ∷ []
call_words decls (call.Setprio t p) = codes "setprio" ∷ name_of decls name_kind.Thread t ∷ decimal p ∷ []
call_words decls (call.Setsched t p) = codes "setsched" ∷ name_of decls name_kind.Thread t ∷ policy_words p
call_words decls (call.Lock m) = codes "lock" ∷ name_of decls name_kind.Mutex m ∷ []
call_words decls (call.Timedlock m at) = codes "timedlock" ∷ name_of decls name_kind.Mutex m ∷ moment_words at
call_words decls (call.Trylock m) = codes "trylock" ∷ name_of decls name_kind.Mutex m ∷ []
call_words decls (call.Unlock m) = codes "unlock" ∷ name_of decls name_kind.Mutex m ∷ []
call_words decls (call.Wait c m) = codes "wait" ∷ name_of decls name_kind.Cond c ∷ name_of decls name_kind.Mutex m ∷ []
call_words decls (call.Timedwait c m at) = codes "timedwait" ∷ name_of decls name_kind.Cond c ∷ name_of decls name_kind.Mutex m ∷ moment_words at
call_words decls (call.Signal c) = codes "signal" ∷ name_of decls name_kind.Cond c ∷ []
call_words decls (call.Broadcast c) = codes "broadcast" ∷ name_of decls name_kind.Cond c ∷ []
call_words decls (call.SemWait s) = codes "sem_wait" ∷ name_of decls name_kind.Sem s ∷ []
call_words decls (call.SemTimedwait s at) = codes "sem_timedwait" ∷ name_of decls name_kind.Sem s ∷ moment_words at
call_words decls (call.SemTrywait s) = codes "sem_trywait" ∷ name_of decls name_kind.Sem s ∷ []
call_words decls (call.SemGetvalue s) = codes "sem_getvalue" ∷ name_of decls name_kind.Sem s ∷ []
call_words decls (call.SemPost s) = codes "sem_post" ∷ name_of decls name_kind.Sem s ∷ []
call_words decls (call.Nanosleep n) = codes "nanosleep" ∷ decimal n ∷ []
call_words decls (call.ClockNanosleep at) = codes "clock_nanosleep" ∷ moment_words at
call_words decls call.Gettime = codes "gettime" ∷ []
call_words decls call.RealGettime = codes "real_gettime" ∷ []
call_words decls (call.ClockSettime at) = codes "clock_settime" ∷ operand_word at ∷ []
call_words decls (call.TimerSettimeRel k first every) = codes "timer_settime" ∷ name_of decls name_kind.Timer k ∷ codes "rel" ∷ decimal first ∷ decimal every ∷ []
call_words decls (call.TimerSettimeAbs k at every) = codes "timer_settime" ∷ name_of decls name_kind.Timer k ∷ codes "abs" ∷ operand_word at ∷ decimal every ∷ []
call_words decls (call.TimerGettime k) = codes "timer_gettime" ∷ name_of decls name_kind.Timer k ∷ []
call_words decls (call.TimerGetoverrun k) = codes "timer_getoverrun" ∷ name_of decls name_kind.Timer k ∷ []
call_words decls (call.Kill sig) = codes "kill" ∷ signal_word sig ∷ []
call_words decls (call.Tkill t sig) = codes "tkill" ∷ name_of decls name_kind.Thread t ∷ signal_word sig ∷ []
call_words decls (call.Sigqueue sig v) = codes "sigqueue" ∷ signal_word sig ∷ operand_word v ∷ []
call_words decls (call.SigmaskBlock set) = codes "sigmask" ∷ codes "block" ∷ set_word set ∷ []
call_words decls (call.SigmaskUnblock set) = codes "sigmask" ∷ codes "unblock" ∷ set_word set ∷ []
call_words decls (call.SigmaskSet set) = codes "sigmask" ∷ codes "set" ∷ set_word set ∷ []
call_words decls (call.Sigwaitinfo set) = codes "sigwaitinfo" ∷ set_word set ∷ []
call_words decls (call.Sigtimedwait set n) = codes "sigtimedwait" ∷ set_word set ∷ decimal n ∷ []
call_words decls (call.MqSend q len prio v) = codes "mq_send" ∷ name_of decls name_kind.Queue q ∷ decimal len ∷ decimal prio ∷ operand_word v ∷ []
call_words decls (call.MqTimedsend q len prio v at) = codes "mq_timedsend" ∷ name_of decls name_kind.Queue q ∷ decimal len ∷ decimal prio ∷ operand_word v ∷ moment_words at
call_words decls (call.MqReceive q) = codes "mq_receive" ∷ name_of decls name_kind.Queue q ∷ []
call_words decls (call.MqTimedreceive q at) = codes "mq_timedreceive" ∷ name_of decls name_kind.Queue q ∷ moment_words at
call_words decls (call.MqNotify q sig v) = codes "mq_notify" ∷ name_of decls name_kind.Queue q ∷ signal_word sig ∷ operand_word v ∷ []

-- the lines of steps that have no block
abbrev pub run_words : ℕ → Words
run_words n = codes "run" ∷ decimal n ∷ []

abbrev pub set_words : ℕ → Words
set_words n = codes "set" ∷ decimal n ∷ []

abbrev pub add_words : ℕ → Words
add_words n = codes "add" ∷ decimal n ∷ []

abbrev pub take_words : Words
take_words = codes "take" ∷ []

-- the line that opens a test
abbrev pub test_words : Res → Bool → Words
test_words res true = codes "if" ∷ res_text res ∷ []
test_words res false = codes "unless" ∷ res_text res ∷ []

-- the line that opens a loop
abbrev pub loop_words : Option ℕ → Words
loop_words (Some n) = codes "loop" ∷ decimal n ∷ []
loop_words None = codes "forever" ∷ []

-- the lines that open and close a guarded block
abbrev pub push_words : List Decl → ℕ → Words
push_words decls u = codes "push" ∷ name_of decls name_kind.Cleanup u ∷ []

abbrev pub pop_words : Bool → Words
pop_words true = codes "pop" ∷ codes "1" ∷ []
pop_words false = codes "pop" ∷ codes "0" ∷ []

abbrev pub end_words : Words
end_words = codes "end" ∷ []

-- the lines of a body's steps
abbrev pub block_lines : List Decl → Block → List Words
block_lines decls Nothing = []
block_lines decls (Running n rest) = run_words n ∷ block_lines decls rest
block_lines decls (Making call rest) = call_words decls call ∷ block_lines decls rest
block_lines decls (Setting n rest) = set_words n ∷ block_lines decls rest
block_lines decls (Adding n rest) = add_words n ∷ block_lines decls rest
block_lines decls (Taking rest) = take_words ∷ block_lines decls rest
block_lines decls (Testing res equal body rest) = test_words res equal ∷ (block_lines decls body ++ (end_words ∷ block_lines decls rest))
block_lines decls (Looping times body rest) = loop_words times ∷ (block_lines decls body ++ (end_words ∷ block_lines decls rest))
block_lines decls (Guarding u run body rest) = push_words decls u ∷ (block_lines decls body ++ (pop_words run ∷ block_lines decls rest))

abbrev pub protocol_words : Protocol → Words
protocol_words protocol.Plain = codes "none" ∷ []
protocol_words protocol.Inherit = codes "inherit" ∷ []
protocol_words (protocol.Protect ceiling) = codes "protect" ∷ decimal ceiling ∷ []

-- a last word, where it is wanted
abbrev pub flag_words : List ℕ → Bool → Words
flag_words word true = word ∷ []
flag_words word false = []

-- the lines of a named declaration
abbrev pub kind_lines : List Decl → List ℕ → Kind → List Words
kind_lines decls name (kind.Thread policy start body) = (codes "thread" ∷ name ∷ (policy_words policy ++ start_words start)) ∷ (block_lines decls body ++ end_words ∷ [])
kind_lines decls name (kind.Handler body) = (codes "handler" ∷ name ∷ []) ∷ (block_lines decls body ++ end_words ∷ [])
kind_lines decls name (kind.Cleanup body) = (codes "cleanup" ∷ name ∷ []) ∷ (block_lines decls body ++ end_words ∷ [])
kind_lines decls name (kind.Mutex protocol recursive) = (codes "mutex" ∷ name ∷ (protocol_words protocol ++ flag_words (codes "recursive") recursive)) ∷ []
kind_lines decls name kind.Cond = (codes "cond" ∷ name ∷ []) ∷ []
kind_lines decls name (kind.Sem value) = (codes "sem" ∷ name ∷ decimal value ∷ []) ∷ []
kind_lines decls name (kind.Queue depth max_len nonblock) = (codes "queue" ∷ name ∷ decimal depth ∷ decimal max_len ∷ flag_words (codes "nonblock") nonblock) ∷ []
kind_lines decls name (kind.Timer sig value real) = (codes "timer" ∷ name ∷ signal_word sig ∷ decimal value ∷ flag_words (codes "real") real) ∷ []

-- what a signal does
abbrev pub action_words : List Decl → ℕ → Option ℕ → Words
action_words decls sig None = codes "action" ∷ signal_word sig ∷ codes "ignore" ∷ []
action_words decls sig (Some h) = codes "action" ∷ signal_word sig ∷ codes "run" ∷ name_of decls name_kind.Handler h ∷ []

-- the lines of a declaration, where decls are all declarations of the script
abbrev pub decl_lines : List Decl → Decl → List Words
decl_lines decls (Named name kind) = kind_lines decls name kind
decl_lines decls (Action sig handler) = action_words decls sig handler ∷ []

abbrev pub decls_lines : List Decl → List Decl → List Words
decls_lines decls [] = []
decls_lines decls (d ∷ ds) = decl_lines decls d ++ decls_lines decls ds

abbrev pub quantum_words : ℕ → Words
quantum_words quantum = codes "quantum" ∷ decimal quantum ∷ []

abbrev pub version_words : Words
version_words = codes "version" ∷ codes "2" ∷ []

-- version 2 has a line, and version 1 none
abbrev pub version_lines : ℕ → List Words
version_lines version = if version == 2 then version_words ∷ [] else []

-- the lines of the quantum and of the declarations, in order
abbrev pub body_lines : Script → List Words
body_lines script = quantum_words script.quantum ∷ decls_lines script.decls script.decls

-- the lines of a script
abbrev pub script_lines : Script → List Words
script_lines script = version_lines script.version ++ body_lines script

-- the text of lines: one blank between words, and an end behind each line
abbrev pub text_of : List Words → List ℕ
text_of lines = joined_lines (map joined_words lines)

-- the canonical text of a script
abbrev pub canon : Script → List ℕ
canon script = text_of (script_lines script)
