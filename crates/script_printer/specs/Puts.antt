-- What a call that prints does to its printer. This project's own.
use Rattle.std.specs.Prelude.{◌≡◌, ◌≤◌, ℕ, Bool, List, Option, false, true}
use Rattle.std.specs.Io.KnownBytes.{Appends}
use Rattle.parts_io.specs.Bytes.{AppendsPart}
use Rattle.parts_io.specs.Causes.{Rose}
use Rattle.script_printer.specs.declared.printer.Printer.{Printer}

-- what is seen of a printer: whether a write has failed, the text of its sink, where the sink tells it, and the sink's count of faults
pub record Outlet : Type 0 where
  pub failed : Bool
  pub text : Option (List ℕ)
  pub faults : ℕ

abbrev pub outlet : {K : Type 0} → (K → Option (List ℕ)) → (K → ℕ) → Bool → K → Outlet
outlet text faults failed sink = record { failed = failed; text = text sink; faults = faults sink }

-- The text due was written, or a part of it and then a write failed. After a failure nothing is written.
pub record Put (old new : Outlet) (due : List ℕ) : Type 0 where
  pub silent : old.failed ≡ true → new ≡ old
  pub whole : new.failed ≡ false → Appends old.text new.text due
  pub part : AppendsPart old.text new.text due
  pub no_fault : new.failed ≡ false → new.faults ≡ old.faults
  pub fault : old.failed ≡ false → new.failed ≡ true → Rose old.faults new.faults
  pub later : old.faults ≤ new.faults

-- the printer has the same sink, and the text due was printed to it
pub record Puts {K : Type 0} (text : K → Option (List ℕ)) (faults : K → ℕ) (old new : Printer K) (due : List ℕ) : Type 0 where
  pub same_sink : new.sink.ghost_name ≡ old.sink.ghost_name
  pub put : Put (outlet text faults old.failed old.sink.now) (outlet text faults new.failed new.sink.now) due
