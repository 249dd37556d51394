-- Patterns of lines: keywords and operand places. The script language is this project's own.
use Rattle.std.specs.Prelude.{ℕ, ◌^◌, Bool, true, false, List, ◌∷◌, ◌++◌, map}
use Rattle.words_script.specs.Kinds.{same_kind}
use Rattle.words_script.specs.declared.name_kind.NameKind.{NameKind}
use Rattle.words_script.specs.declared.name_kind.NameKind.TheVariants as kind
use Rattle.script_table.specs.declared.pattern.Closer.{Closer}
use Rattle.script_table.specs.declared.pattern.Closer.TheVariants as closer
use Rattle.script_table.specs.declared.pattern.Bar.{Bar}
use Rattle.script_table.specs.declared.pattern.Bar.TheVariants as bar
use Rattle.script_table.specs.declared.pattern.Place.{Place}
use Rattle.script_table.specs.declared.pattern.Place.TheVariants as place
use Rattle.script_table.specs.declared.pattern.Pattern.{Pattern}
use Rattle.script_table.specs.declared.pattern.Table.{Table}
use Rattle.script_table.specs.declared.form.Form.{Form}

-- what stands at a place
pub data Spot : Type 0 where
  Keyword : List ℕ → Spot
  Answer : Spot
  Number : ℕ → ℕ → Spot
  Operand : Spot
  Declares : NameKind → Spot
  Uses : NameKind → Spot
  Signal : Spot
  Acts : Spot
  Signals : Spot

-- a pattern, and the bodies that it is barred from
pub record Row : Type 0 where
  pub form : Form
  pub bar : Bar
  pub places : List Spot

abbrev pub spot_of : Place → Spot
spot_of (place.Keyword k) = Keyword k.now
spot_of place.Answer = Answer
spot_of (place.Number low high) = Number low high
spot_of place.Operand = Operand
spot_of (place.Declares kind) = Declares kind
spot_of (place.Uses kind) = Uses kind
spot_of place.Signal = Signal
spot_of place.Acts = Acts
spot_of place.Signals = Signals

abbrev pub row_of : Pattern → Row
row_of p = record { form = p.form; bar = p.bar; places = Keyword p.keyword.now ∷ map spot_of p.places.now }

-- the rows of a table, part by part
abbrev pub rows_of : Table → List Row
rows_of t = map row_of t.declarations.now ++ (map row_of t.steps.now ++ map row_of t.calls.now)

-- the greatest number of a script
abbrev pub greatest : ℕ
greatest = 10 ^ 18

abbrev pub same_closer : Closer → Closer → Bool
same_closer closer.End closer.End = true
same_closer closer.Pop closer.Pop = true
same_closer closer.End closer.Pop = false
same_closer closer.Pop closer.End = false

-- a step with this bar may not stand in the body of a thing of this kind
abbrev pub is_barred : Bar → NameKind → Bool
is_barred bar.Nowhere home = false
is_barred bar.Handlers home = same_kind home kind.Handler
is_barred bar.HandlersAndCleanups kind.Handler = true
is_barred bar.HandlersAndCleanups kind.Cleanup = true
is_barred bar.HandlersAndCleanups other = false
