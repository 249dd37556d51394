-- What a call that prints does to a sink. This project's own.
use Rattle.std.specs.Prelude.{◌≡◌, ℕ, ◌≤◌, List, Bool, true, false, Option}
use Rattle.std.specs.Io.KnownBytes.{Appends}
use Rattle.parts_io.specs.Causes.{Rose}
use Rattle.parts_io.specs.Bytes.{AppendsPart}
use Rattle.parts_tracer.specs.ShortLines.{HasShortLines}

-- whether a write of the tracer has failed, the text of its sink, where the sink tells it, and the sink's count of faults
pub record Outlet : Type 0 where
  pub failed : Bool
  pub text : Option (List ℕ)
  pub faults : ℕ

-- The text due was written, or a part of it and then a write failed. After a failure nothing is written. Short lines get no long line behind them.
pub record Printed (old new : Outlet) (due : List ℕ) : Type 0 where
  pub silent : old.failed ≡ true → new ≡ old
  pub whole : new.failed ≡ false → Appends old.text new.text due
  pub part : AppendsPart old.text new.text due
  pub no_fault : new.failed ≡ false → new.faults ≡ old.faults
  pub fault : old.failed ≡ false → new.failed ≡ true → Rose old.faults new.faults
  pub later : old.faults ≤ new.faults
  pub short : HasShortLines old.failed old.text → HasShortLines new.failed new.text

-- what is seen of a tracer, by the meanings `text` and `faults` of its kind of sink
abbrev pub outlet : {K : Type 0} → (K → Option (List ℕ)) → (K → ℕ) → Bool → K → Outlet
outlet text faults failed sink = record { failed = failed; text = text sink; faults = faults sink }
