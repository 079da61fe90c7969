use Rattle.std.proofs.Common.{rules}
use Rattle.script_fields.proofs.ListLaws.{fixes_of_none, fixes_of_next}
use Rattle.script_fields.proofs.members.fixes_of.Goals as goal

pub loop-item-init : goal.loop-item-init
loop-item-init c = let none = fixes_of_none in search rules

pub loop-item-preserved : goal.loop-item-preserved
loop-item-preserved c =
    let next = fixes_of_next c.args.list.now c.loop-item.item-index c.item-item.result c.loop-item-test.true c.item-item.is in
    search rules
