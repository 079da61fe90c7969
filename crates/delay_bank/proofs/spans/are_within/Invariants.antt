use Rattle.std.proofs.Common.{◌≡◌, take}
use Rattle.std.specs.List.{list_all}
use Rattle.delay_bank.specs.Kept.{between}
use Rattle.delay_bank.proofs.spans.are_within.Given as goal

abbrev pub invariant-loop-span : goal.invariant-loop-span
invariant-loop-span l = l.within ≡ list_all (between l.least l.most) (take l.span-index l.spans)
