use Rattle.std.proofs.Common.{sym}
use Rattle.prune_script.proofs.Naming.{free_name}
use Rattle.prune_script.proofs.deeds.give_name.Goals as goal

pub bind-requires : goal.bind-requires
bind-requires c = free_name c.args.call.now.op c.in-Some.name.now c.requires (sym c.in-Some.ensures)
