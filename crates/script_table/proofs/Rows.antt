-- Worked texts: what is read of them is computed.
use Rattle.std.proofs.Common.{◌≡◌, ℕ, List, [], ◌∷◌, ◌++◌, refl, None, Some}
use Rattle.std.specs.Prelude.{Ok, Err, codes, true, false}
use Rattle.words_script.specs.Block.{Nothing, Running, Making}
use Rattle.words_script.specs.declared.call.Call.TheVariants.{Lock, MqSend, SigmaskBlock, Setsched}
use Rattle.words_script.specs.declared.call.Operand.TheVariants.{Reg}
use Rattle.words_script.specs.declared.decl.Decl.TheVariants.{Named, Action}
use Rattle.words_script.specs.declared.decl.Kind.TheVariants.{Thread, Mutex, Queue, Handler}
use Rattle.words_script.specs.declared.policy.Policy.TheVariants.{Fifo, Strict}
use Rattle.words_script.specs.declared.policy.Protocol.TheVariants.{Plain, Inherit}
use Rattle.script_table.specs.declared.faults.FaultKind.TheVariants.{BadByte, DuplicateName, NumberRange, BadName, UnknownName, UnknownWord, NoThread, Unclosed, WrongKind, ServerRange, StrayClose, NotHere, BadVersion}
use Rattle.script_table.specs.Faults.{fault}
use Rattle.script_table.specs.Table.{patterns, declaration_patterns, step_patterns, call_patterns, strict_declarations, strict_calls}
use Rattle.script_table.specs.Structure.{said_from, phase_one}
use Rattle.script_lex.specs.Lines.{lines_of}
use Rattle.script_lex.specs.Words.{words_of}
use Rattle.script_table.specs.Heading.{heading}
use Rattle.script_table.specs.Read.{read, read_in}

-- a text from its lines
abbrev text : List (List ℕ) → List ℕ
text [] = []
text (l ∷ ls) = l ++ 10 ∷ text ls

-- a text without lines
empty : read patterns (text ([])) ≡ Err (fault 3 1 NoThread)
unfolding read read_in heading patterns declaration_patterns step_patterns call_patterns strict_declarations strict_calls said_from phase_one lines_of words_of
empty = refl

-- comments, blanks and leading zeros say nothing
one_thread : read patterns (text (codes "# c" ∷ codes "thread a fifo 007 at 0 # x" ∷ codes " run 01" ∷ codes "end" ∷ [])) ≡ Ok (record { version = 1; quantum = 10; decls = Named (codes "a") (Thread (Fifo 7) (Some 0) (Running 1 Nothing)) ∷ [] })
unfolding read read_in heading patterns declaration_patterns step_patterns call_patterns strict_declarations strict_calls said_from phase_one lines_of words_of
one_thread = refl

-- a body that is open at the end
unclosed : read patterns (text (codes "thread a fifo 5 at 0" ∷ [])) ≡ Err (fault 1 2 Unclosed)
unfolding read read_in heading patterns declaration_patterns step_patterns call_patterns strict_declarations strict_calls said_from phase_one lines_of words_of
unclosed = refl

-- names come before ranges
duplicate : read patterns (text (codes "thread a fifo 5 at 0" ∷ codes "loop 0" ∷ codes "end" ∷ codes "end" ∷ codes "thread a fifo 5 at 0" ∷ codes "end" ∷ [])) ≡ Err (fault 2 5 DuplicateName)
unfolding read read_in heading patterns declaration_patterns step_patterns call_patterns strict_declarations strict_calls said_from phase_one lines_of words_of
duplicate = refl

-- the same text without the second thread
range : read patterns (text (codes "thread a fifo 5 at 0" ∷ codes "loop 0" ∷ codes "end" ∷ codes "end" ∷ [])) ≡ Err (fault 3 2 NumberRange)
unfolding read read_in heading patterns declaration_patterns step_patterns call_patterns strict_declarations strict_calls said_from phase_one lines_of words_of
range = refl

-- words come before names
unknown_word : read patterns (text (codes "thread a fifo 5 at 0" ∷ codes "lock nope" ∷ codes "end" ∷ codes "thread b fifo 5 at 0" ∷ codes "run 1" ∷ codes "end" ∷ codes "thread c fifo 5 at 0" ∷ codes "run 1" ∷ codes "frob" ∷ codes "end" ∷ [])) ≡ Err (fault 1 9 UnknownWord)
unfolding read read_in heading patterns declaration_patterns step_patterns call_patterns strict_declarations strict_calls said_from phase_one lines_of words_of
unknown_word = refl

-- the same text without the misspelled word
unknown_name : read patterns (text (codes "thread a fifo 5 at 0" ∷ codes "lock nope" ∷ codes "end" ∷ codes "thread b fifo 5 at 0" ∷ codes "run 1" ∷ codes "end" ∷ codes "thread c fifo 5 at 0" ∷ codes "run 1" ∷ codes "end" ∷ [])) ≡ Err (fault 2 2 UnknownName)
unfolding read read_in heading patterns declaration_patterns step_patterns call_patterns strict_declarations strict_calls said_from phase_one lines_of words_of
unknown_name = refl

-- a cleanup handler is no thread
wrong_kind : read patterns (text (codes "cleanup u" ∷ codes "end" ∷ codes "thread a fifo 5 at 0" ∷ codes "create u" ∷ codes "end" ∷ [])) ≡ Err (fault 2 4 WrongKind)
unfolding read read_in heading patterns declaration_patterns step_patterns call_patterns strict_declarations strict_calls said_from phase_one lines_of words_of
wrong_kind = refl

-- low is not below high
server : read patterns (text (codes "thread s sporadic 5 5 10 3 4 at 0" ∷ codes "end" ∷ [])) ≡ Err (fault 3 1 ServerRange)
unfolding read read_in heading patterns declaration_patterns step_patterns call_patterns strict_declarations strict_calls said_from phase_one lines_of words_of
server = refl

-- a number past its range comes first
server_number : read patterns (text (codes "thread s sporadic 5 5 1000000000000000001 3 4 at 0" ∷ codes "end" ∷ [])) ≡ Err (fault 3 1 NumberRange)
unfolding read read_in heading patterns declaration_patterns step_patterns call_patterns strict_declarations strict_calls said_from phase_one lines_of words_of
server_number = refl

-- a handler may not lock, and a stray pop is no step
barred : read patterns (text (codes "handler h" ∷ codes "pop 0" ∷ codes "end" ∷ codes "thread a fifo 5 at 0" ∷ codes "end" ∷ [])) ≡ Err (fault 1 2 StrayClose)
unfolding read read_in heading patterns declaration_patterns step_patterns call_patterns strict_declarations strict_calls said_from phase_one lines_of words_of
barred = refl

-- a call that is barred from cleanup handlers
barred_call : read patterns (text (codes "mutex m none" ∷ codes "cleanup u" ∷ codes "lock m" ∷ codes "end" ∷ codes "thread a fifo 5 at 0" ∷ codes "end" ∷ [])) ≡ Err (fault 1 3 NotHere)
unfolding read read_in heading patterns declaration_patterns step_patterns call_patterns strict_declarations strict_calls said_from phase_one lines_of words_of
barred_call = refl

-- a second action for a signal
second_action : read patterns (text (codes "action rt3 ignore" ∷ codes "action rt4 ignore" ∷ codes "action rt3 ignore" ∷ codes "thread a fifo 5 at 0" ∷ codes "end" ∷ [])) ≡ Err (fault 2 3 DuplicateName)
unfolding read read_in heading patterns declaration_patterns step_patterns call_patterns strict_declarations strict_calls said_from phase_one lines_of words_of
second_action = refl

-- a signal has one spelling
signal_name : read patterns (text (codes "thread a fifo 5 at 0" ∷ codes "kill rt01" ∷ codes "end" ∷ [])) ≡ Err (fault 1 2 BadName)
unfolding read read_in heading patterns declaration_patterns step_patterns call_patterns strict_declarations strict_calls said_from phase_one lines_of words_of
signal_name = refl

-- names are used before they are declared, and things are numbered by kind
calls : read patterns (text (codes "thread a fifo 5 dormant" ∷ codes "sigmask block rt0,rt2" ∷ codes "lock m" ∷ codes "mq_send q 4 1 reg" ∷ codes "end" ∷ codes "mutex l none" ∷ codes "mutex m inherit recursive" ∷ codes "queue q 4 16" ∷ codes "action rt5 run h" ∷ codes "handler h" ∷ codes "end" ∷ [])) ≡ Ok (record { version = 1; quantum = 10; decls = Named (codes "a") (Thread (Fifo 5) None (Making (SigmaskBlock 5) (Making (Lock 1) (Making (MqSend 0 4 1 Reg) Nothing)))) ∷ Named (codes "l") (Mutex Plain false) ∷ Named (codes "m") (Mutex Inherit true) ∷ Named (codes "q") (Queue 4 16 false) ∷ Action 5 (Some 0) ∷ Named (codes "h") (Handler Nothing) ∷ [] })
unfolding read read_in heading patterns declaration_patterns step_patterns call_patterns strict_declarations strict_calls said_from phase_one lines_of words_of
calls = refl

-- version 2 has strict servers
strict_thread : read patterns (text (codes "# c" ∷ codes "  version 2 # c" ∷ codes "thread a strict 8 2 10 4 1 at 0" ∷ codes "setsched a strict 9 1 7 2 3" ∷ codes "end" ∷ [])) ≡ Ok (record { version = 2; quantum = 10; decls = Named (codes "a") (Thread (Strict (record { high = 8; low = 2; period = 10; budget = 4; max = 1 })) (Some 0) (Making (Setsched 0 (Strict (record { high = 9; low = 1; period = 7; budget = 2; max = 3 }))) Nothing)) ∷ [] })
unfolding read read_in heading patterns declaration_patterns step_patterns call_patterns strict_declarations strict_calls said_from phase_one lines_of words_of
strict_thread = refl

-- a strict server has the ranges of a sporadic one
strict_range : read patterns (text (codes "version 2" ∷ codes "thread a strict 8 8 10 4 1 at 0" ∷ codes "end" ∷ [])) ≡ Err (fault 3 2 ServerRange)
unfolding read read_in heading patterns declaration_patterns step_patterns call_patterns strict_declarations strict_calls said_from phase_one lines_of words_of
strict_range = refl

-- in version 1 `strict` is no policy
strict_before : read patterns (text (codes "thread a strict 8 2 10 4 1 at 0" ∷ codes "end" ∷ [])) ≡ Err (fault 1 1 UnknownWord)
unfolding read read_in heading patterns declaration_patterns step_patterns call_patterns strict_declarations strict_calls said_from phase_one lines_of words_of
strict_before = refl

-- the one other version is 2
other_version : read patterns (text (codes "" ∷ codes "version 3" ∷ codes "frob" ∷ [])) ≡ Err (fault 1 2 BadVersion)
unfolding read read_in heading patterns declaration_patterns step_patterns call_patterns strict_declarations strict_calls said_from phase_one lines_of words_of
other_version = refl

-- no word more, and none less
version_alone : read patterns (text (codes "version" ∷ [])) ≡ Err (fault 1 1 BadVersion)
unfolding read read_in heading patterns declaration_patterns step_patterns call_patterns strict_declarations strict_calls said_from phase_one lines_of words_of
version_alone = refl

-- a leading zero is another word
version_zero : read patterns (text (codes "version 02" ∷ codes "thread a fifo 5 at 0" ∷ codes "end" ∷ [])) ≡ Err (fault 1 1 BadVersion)
unfolding read read_in heading patterns declaration_patterns step_patterns call_patterns strict_declarations strict_calls said_from phase_one lines_of words_of
version_zero = refl

-- behind another line `version` is a word without a pattern
later_version : read patterns (text (codes "quantum 5" ∷ codes "version 2" ∷ codes "thread a fifo 5 at 0" ∷ codes "end" ∷ [])) ≡ Err (fault 1 2 UnknownWord)
unfolding read read_in heading patterns declaration_patterns step_patterns call_patterns strict_declarations strict_calls said_from phase_one lines_of words_of
later_version = refl

-- and so it is behind the line of the version
second_version : read patterns (text (codes "version 2" ∷ codes "version 2" ∷ codes "thread a fifo 5 at 0" ∷ codes "end" ∷ [])) ≡ Err (fault 1 2 UnknownWord)
unfolding read read_in heading patterns declaration_patterns step_patterns call_patterns strict_declarations strict_calls said_from phase_one lines_of words_of
second_version = refl

-- a line of another version has no other fault
bad_version : read patterns (codes "version 3" ++ 1 ∷ 10 ∷ []) ≡ Err (fault 1 1 BadVersion)
unfolding read read_in heading patterns declaration_patterns step_patterns call_patterns strict_declarations strict_calls said_from phase_one lines_of words_of
bad_version = refl

-- a bad byte is in no word: this is version 2
bad_byte_behind : read patterns (codes "version 2" ++ 1 ∷ 10 ∷ []) ≡ Err (fault 1 1 BadByte)
unfolding read read_in heading patterns declaration_patterns step_patterns call_patterns strict_declarations strict_calls said_from phase_one lines_of words_of
bad_byte_behind = refl

-- and so is this
bad_byte_between : read patterns (codes "version" ++ 1 ∷ 50 ∷ 10 ∷ []) ≡ Err (fault 1 1 BadByte)
unfolding read read_in heading patterns declaration_patterns step_patterns call_patterns strict_declarations strict_calls said_from phase_one lines_of words_of
bad_byte_between = refl

-- a bad byte in an earlier line comes first
bad_byte_before : read patterns (1 ∷ 10 ∷ codes "version 3") ≡ Err (fault 1 1 BadByte)
unfolding read read_in heading patterns declaration_patterns step_patterns call_patterns strict_declarations strict_calls said_from phase_one lines_of words_of
bad_byte_before = refl
