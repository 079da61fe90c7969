use Rattle.std.proofs.Common.{Some, ap, sym, ◌∙◌}
use Rattle.io_edge.proofs.FileMaps.{contents_of, paths_of-file_map}
use Rattle.io_edge.proofs.sure.SureFiles.get.Goals as goal

pub returns-in-Some : goal.returns-in-Some
returns-in-Some c =
    let held = paths_of-file_map c.self.inside.entries c.args.path.now in
    rw (← c.self.view_is) (ap Some c.as_slice.ensures.value ∙ ap contents_of c.in-Some.ensures.value ∙ sym held)

pub returns-in-None : goal.returns-in-None
returns-in-None c =
    let held = paths_of-file_map c.self.inside.entries c.args.path.now in
    rw (← c.self.view_is) (ap contents_of c.in-None.ensures.value ∙ sym held)
