use Rattle.std.proofs.Common.{◌+◌, ◌*◌, [], ◌∷◌, ap, sym, ◌∙◌, arith}
use Rattle.node_table.specs.Curves.{shaper_value}
use Rattle.node_table.specs.Frames.{item}
use Rattle.node_table.proofs.Lists.{newest-heard}
use Rattle.shaper_iir.specs.Waves.{Wave}
use Rattle.shaper_iir.proofs.Parts.{part_room}
use Rattle.shaper_iir.proofs.Waving.{shaper_newest}
use Rattle.shaper_iir.proofs.shaper.ShaperCausal.block.Goals as goal

pub returns-clause-output : goal.returns-clause-output
returns-clause-output c = λ channel k frames there lt stands.
    let x = c.args.x.now in
    let start = channel * c.args._frames in
    let room = part_room channel c.args.self.now.channels c.args._frames there in
    let long = c.requires.x in
    c.shape_all.ensures.values (start + k) (omega arith)
    ∙ ap (λ (v : Wave). shaper_value v.curve (item x (start + k) ∷ [])) c.self.view_is
    ∙ shaper_newest c.args.self.now.curve _ _ (sym (newest-heard x start k frames))
