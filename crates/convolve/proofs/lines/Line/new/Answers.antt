use Rattle.convolve.proofs.Fronts.{silent_frames}
use Rattle.convolve.proofs.lines.Line.new.Goals as goal

pub returns : goal.returns
returns c = silent_frames c.max-spare.result c.args.kept c.in_ok-vec.field-0.items (c.in_ok-vec.ensures.items_if_clones_equal (λ y e. e))
