use Rattle.std.proofs.Common.{◌≡◌, ◌<◌, take, true}
use Rattle.std.specs.List.{list_all}
use Rattle.words_script.specs.Names.{is_digit}
use Rattle.script_table.specs.Words.{value_of}
use Rattle.script_table.proofs.words.short_number.Given as goal

abbrev pub invariant-loop-c : goal.invariant-loop-c
invariant-loop-c l = record {
  value : l.value ≡ value_of (take l.c-index l.word);
  digits : list_all is_digit (take l.c-index l.word) ≡ true;
  bound : l.value < 1000000000000000000;
}
