-- The run of every well formed script, over the trees of its bodies.
use Rattle.words_script.specs.declared.decl.Script.{Script}
use Rattle.rules_machine.specs.Machine.{bodies_of}
use Rattle.rules_machine.specs.Promises.{RunKeepsBudgets, RunStaysGood, guards_in}
use Rattle.rules_machine.specs.Runs.{opening}
use Rattle.rules_machine.specs.Throughout.{HoldsThroughout}
use Rattle.rules_machine.specs.WellFormed.{IsWellFormed}
use Rattle.laws_machine.specs.Rest.{RunsAreLatest, ServersRest}
use Rattle.laws_machine.proofs.Servers.Latest.{latest_throughout}
use Rattle.laws_machine.proofs.Servers.Rest.{rest_throughout}
use Rattle.rules_moves.proofs.Runs.Units.{bodies_fit}
use Rattle.laws_machine.proofs.Cleanups.Blocks.{bodies_guarded}
use Rattle.laws_machine.proofs.Good.{good_throughout}
use Rattle.laws_machine.proofs.Budgets.Kept.{run_budgets}

module _ (script : Script) (fits : IsWellFormed script) where
  pub stays_good : RunStaysGood script
  stays_good = good_throughout (bodies_of script) (bodies_fit script fits.priorities) script fits (guards_in script) (bodies_guarded script fits.guards)

  pub keeps_budgets : RunKeepsBudgets script
  keeps_budgets = record { each = run_budgets (bodies_of script) (bodies_fit script fits.priorities) script fits }

  pub rests : HoldsThroughout (bodies_of script) (opening script) ServersRest
  rests = rest_throughout (bodies_of script) (bodies_fit script fits.priorities) script fits

  pub latest : HoldsThroughout (bodies_of script) (opening script) RunsAreLatest
  latest = latest_throughout (bodies_of script) (bodies_fit script fits.priorities) script fits
