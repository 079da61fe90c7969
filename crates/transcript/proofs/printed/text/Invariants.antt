use Rattle.std.proofs.Common.{◌≡◌, take}
use Rattle.transcript.specs.Text as spec
use Rattle.transcript.proofs.printed.text.Given as goal

abbrev pub invariant-loop-line : goal.invariant-loop-line
invariant-loop-line l = l.out.items ≡ spec.lines_text (take l.line-index l.line-items)
