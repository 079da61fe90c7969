use Rattle.std.proofs.Common.{◌≡◌, ◌+◌, ◌*◌, List, length}
use Rattle.wa_base.specs.Contexts.{quantum_of}
use Rattle.meaning.specs.declared.world.World.{World}
use Rattle.quantum_render.specs.Stands.{Shows}
use Rattle.session.specs.Frames.{WritesBelow}
use Rattle.session.proofs.render_side.copy_out.Given as goal

abbrev pub invariant-loop-channel : goal.invariant-loop-channel
invariant-loop-channel l =
    (tape : List World) → Shows l.renderer tape → l.first + quantum_of l.spec ≡ quantum_of l.spec * length tape → WritesBelow l.initial.samples l.samples l.spec tape l.first (l.first + quantum_of l.spec) l.channel
