use Rattle.std.proofs.Common.{rules, [], Some, is_some, unwrap_or, ap, sym, ◌∙◌}
use Rattle.std.proofs.lemmas.Result.{err_from_is_err_and}
use Rattle.io_edge.proofs.FileMaps.{contents_of, paths_of-file_map, Sets-from_update, same_files-set}
use Rattle.io_edge.proofs.sure.SureFiles.extend.Goals as goal

pub returns-in_default-clause-found : goal.returns-in_default-clause-found
returns-in_default-clause-found c =
    let held = paths_of-file_map c.self.inside.entries c.args.path.now ∙ ap contents_of (sym c.in_default.ensures.value) in
    rw (← c.self.view_is) (ap is_some (sym held))

pub returns-clause-found : goal.returns-clause-found
returns-clause-found c =
    let held = paths_of-file_map c.self.inside.entries c.args.path.now ∙ ap contents_of (sym c.in-Some.ensures.value) in
    rw (← c.self.view_is) (ap is_some (sym held))

pub returns-clause-added : goal.returns-clause-added
returns-clause-added c = λ _.
    let held = paths_of-file_map c.self.inside.entries c.args.path.now ∙ ap contents_of (sym c.in-Some.ensures.value) in
    let updates = (c.get_mut.follows.holds c.extend_from_slice.new.self).3 (search rules) in
    let sets = Sets-from_update c.self.inside.entries (c.get_mut.follows.lender c.extend_from_slice.new.self) c.args.path.now c.extend_from_slice.new.self updates in
    rw (← c.self.view_is, ap (λ o. unwrap_or o []) held, ← c.in_ok-extend_from_slice.ensures.items) sets

-- the file was written back as it was
pub returns-in_err-extend_from_slice-clause-err : goal.returns-in_err-extend_from_slice-clause-err
returns-in_err-extend_from_slice-clause-err c =
    let held = paths_of-file_map c.self.inside.entries c.args.path.now ∙ ap contents_of (sym c.in-Some.ensures.value) in
    let updates = (c.get_mut.follows.holds c.extend_from_slice.new.self).3 (search rules) in
    let sets = Sets-from_update c.self.inside.entries (c.get_mut.follows.lender c.extend_from_slice.new.self) c.args.path.now c.extend_from_slice.new.self updates in
    let same = same_files-set _ _ c.args.path.now c.extend_from_slice.new.self.items sets (held ∙ ap Some (sym c.in_err-extend_from_slice.ensures.items)) in
    let returned = err_from_is_err_and c.from_residual.result c.from_residual.ensures.1 in
    rw (returned.1, ← c.self.view_is) same
