use Rattle.std.proofs.Common.{rules}
use Rattle.script_fields.proofs.Programs.{code_of_none, code_of_next}
use Rattle.script_fields.proofs.members.instrs_of.Goals as goal

pub loop-item-init : goal.loop-item-init
loop-item-init c = let none = code_of_none in search rules

pub loop-item-preserved : goal.loop-item-preserved
loop-item-preserved c =
    let next = code_of_next c.args.list.now c.loop-item.item-index c.item-item.result c.loop-item-test.true c.item-item.is in
    search rules
