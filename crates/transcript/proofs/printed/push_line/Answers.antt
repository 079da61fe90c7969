use Rattle.std.proofs.Common.{arith}
use Rattle.transcript.proofs.LineTexts.{append-line_text-Ended}
use Rattle.transcript.proofs.printed.push_line.Goals as goal

pub returns-in_ok-extend_from_slice-in-Ended-2 : goal.returns-in_ok-extend_from_slice-in-Ended-2
returns-in_ok-extend_from_slice-in-Ended-2 c =
    grind (arith, append-line_text-Ended c.args.out.now.items c.in-Ended.node c.in-Ended.name)
