-- Inputs and what is answered to them, computed by the definitions.
use Rattle.std.proofs.Common.{◌≡◌, ℕ, List, ◌++◌, refl}
use Rattle.std.specs.Prelude.{codes, map, ◌==◌, if◌then◌else◌}
use Rattle.std.specs.Fmt.{digits}
use Rattle.script_lex.specs.Lines.{lines_of}
use Rattle.script_lex.specs.Words.{words_of}
use Rattle.tool_audit.specs.Answer.{audit}

-- a text, with `;` for each line end
abbrev text : List ℕ → List ℕ
text cs = map (λ c. if c == 59 then 10 else c) cs

abbrev input : List ℕ → List ℕ → List ℕ
input head trace = text (head ++ codes ";%%;" ++ trace)

before : List ℕ
before = codes "0 start h;0 dispatch h 9;2 start s;2 activate s 3;9 exit h;9 dispatch s 8;12 exhaust s;"

behind : List ℕ
behind = codes "12 refill s 3 3;12 activate s 3;15 exhaust s;15 plan s 3 22;17 end;thread s ticks 8 high 6 init 3 refilled 3 capacity 0;thread h ticks 9;"

holds : audit (input (codes "server s 10 3 4") (codes "0 start h;0 dispatch h 9;2 start s;2 activate s 3;9 exit h;9 dispatch s 8;12 exhaust s;12 plan s 3 12;12 refill s 3 3;12 activate s 3;15 exhaust s;15 plan s 3 22;17 end;thread s ticks 8 high 6 init 3 refilled 3 capacity 0;thread h ticks 9;")) ≡ text (codes "budgets hold;")
unfolding lines_of words_of digits
holds = refl

late : audit (input (codes "server s 10 3 4") (codes "0 start h;0 dispatch h 9;2 start s;2 activate s 3;9 exit h;9 dispatch s 8;12 exhaust s;12 plan s 3 13;12 refill s 3 3;12 activate s 3;15 exhaust s;15 plan s 3 22;17 end;thread s ticks 8 high 6 init 3 refilled 3 capacity 0;thread h ticks 9;")) ≡ text (codes "breach 8 2;")
unfolding lines_of words_of digits
late = refl

refused : audit (input (codes "server s 2 3 4") (codes "0 idle;")) ≡ text (codes "refused 1 15 ServerRange;")
unfolding lines_of words_of digits
refused = refl

no_trace : audit (text (codes "server s 10 3 4;")) ≡ text (codes "no trace;")
unfolding lines_of words_of digits
no_trace = refl
