use Rattle.std.proofs.Common.{◌≡◌, string_bytes}
use Rattle.std.proofs.lemmas.Result.{IfOk-at_ok}
use Rattle.io_edge.proofs.FileMaps.{Sets-from_update}
use Rattle.io_edge.proofs.sure.SureFiles.set.Goals as goal

-- the key has the path's bytes
pub returns-clause-ok : goal.returns-clause-ok
returns-clause-ok c =
    let key_is_path = IfOk-at_ok (λ s. string_bytes s ≡ c.args.path.now) c.in_ok-key.was c.from_str.ensures.ok in
    let sets = Sets-from_update c.self.inside.entries c.insert.new.self (string_bytes c.in_ok-key.key) c.args.contents c.in_ok-insert.ensures.updates in
    rw (key_is_path, c.self.view_is) at sets
