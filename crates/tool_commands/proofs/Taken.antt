-- Where no step is taken there are few.
use Rattle.std.proofs.Common.{◌≡◌, ◌≤◌, ◌+◌, ℕ, List, arith}
use Rattle.rules_machine.specs.Promises.{busy_between}
use Rattle.script_generator.specs.Generated.{script_of}
use Rattle.tool_answers.specs.Few.{DoubleStepsAreFew, RoundsAreFew, StepsAreFew}

pub few_steps : (n : ℕ) (bytes : List ℕ) (before now : ℕ) → now ≡ before → StepsAreFew n bytes before now
few_steps n bytes before now idle script is = omega arith

pub few_doubled : (n : ℕ) (bytes : List ℕ) (before now : ℕ) → now ≡ before → DoubleStepsAreFew n bytes before now
few_doubled n bytes before now idle script is = omega arith

pub few_rounds : (n : ℕ) (bytes : List ℕ) (before now : ℕ) → now ≡ before → RoundsAreFew n bytes before now
few_rounds n bytes before now idle tasks is = omega arith

pub few_soaked : (seed n before now : ℕ) → now ≡ before → now ≤ before + busy_between (script_of seed) 0 n + 1
few_soaked seed n before now idle = omega arith
