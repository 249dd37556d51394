use Rattle.std.proofs.Common.{◌≡◌, drop, map}
use Rattle.script_table.specs.Faults.{lesser_first, least_kind}
use Rattle.script_table.specs.Patterns.{spot_of}
use Rattle.script_table.specs.LineFaults.{fits, place_faults, spelling}
use Rattle.script_table.specs.Ranges.{range_fault}
use Rattle.script_table.proofs.line_faults.fits_each.Given as goal

abbrev pub invariant-loop-place : goal.invariant-loop-place
invariant-loop-place l = record {
  fit : fits (map spot_of (drop l.place-index l.places)) l.ahead.words ≡ fits (map spot_of l.places) l.words.words;
  spelled : lesser_first l.found.spelling (least_kind (place_faults spelling (map spot_of (drop l.place-index l.places)) l.ahead.words)) ≡ least_kind (place_faults spelling (map spot_of l.places) l.words.words);
  ranged : lesser_first l.found.range (least_kind (place_faults range_fault (map spot_of (drop l.place-index l.places)) l.ahead.words)) ≡ least_kind (place_faults range_fault (map spot_of l.places) l.words.words);
}
