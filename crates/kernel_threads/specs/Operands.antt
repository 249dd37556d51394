-- What an operand stands for in a thread.
use Rattle.std.specs.Prelude.{ℕ, List}
use Rattle.words_script.specs.declared.call.Operand.{Operand}
use Rattle.words_script.specs.declared.call.Operand.TheVariants as operand
use Rattle.rules_machine.specs.State.{Frame}
use Rattle.rules_machine.specs.Threads.{top_register}

-- itself, or what the register of the top frame holds
abbrev pub number_in : {P : Type 0} → Operand → List (Frame P) → ℕ
number_in (operand.Num n) frames = n
number_in operand.Reg frames = top_register frames
