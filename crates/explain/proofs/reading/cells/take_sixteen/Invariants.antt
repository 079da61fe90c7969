use Rattle.std.proofs.Common.{◌≡◌, ◌++◌, length, map, take}
use Rattle.std.specs.Fmt.{signed_decimal}
use Rattle.std.specs.List.{AllWithin}
use Rattle.wa_base.specs.Numbers.{IsFix}
use Rattle.explain.specs.LineReading.{words_left}
use Rattle.explain.proofs.reading.cells.take_sixteen.Given as goal

abbrev pub invariant-loop-cell : goal.invariant-loop-cell
invariant-loop-cell l = record {
  read : map signed_decimal (take l.cell-index l.cell-items) ++ words_left l.words ≡ words_left l.initial.words;
  sixteen : length l.cell-items ≡ 16;
  fix : AllWithin IsFix l.cell-items 0 l.cell-index;
}
