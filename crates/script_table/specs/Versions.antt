-- The versions of the language. This project's own.
use Rattle.std.specs.Prelude.{ℕ}
use Rattle.script_table.specs.declared.version.Version.{Version}
use Rattle.script_table.specs.declared.version.Version.TheVariants.{One, Two}

abbrev pub version_number : Version → ℕ
version_number One = 1
version_number Two = 2

-- how many threads there may be, and mutexes, conditions and semaphores of each
abbrev pub most_of : Version → ℕ
most_of One = 64
most_of Two = 256
