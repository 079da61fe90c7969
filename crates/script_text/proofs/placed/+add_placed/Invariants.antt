use Rattle.std.proofs.Common.{length}
use Rattle.script_text.proofs.placed.+add_placed.Given as goal

abbrev pub decreases-add_placed : goal.decreases-add_placed
decreases-add_placed l = length l.members.now
