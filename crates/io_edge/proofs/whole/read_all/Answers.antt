use Rattle.std.proofs.Common.{◌≡◌, ◌++◌, ◌<◌, take, length, arith, length-append}
use Rattle.std.specs.Prelude.{unwrap_or, []}
use Rattle.std.proofs.KnownBytes.{Consumes-trans}
use Rattle.std.proofs.lemmas.Grind.{common_steps}
use Rattle.io_edge.proofs.Pieces.{told_with_rest}
use Rattle.io_edge.proofs.whole.read_all.Goals as goal

pub returns-then-len-limit-clause-too_long : goal.returns-then-len-limit-clause-too_long
returns-then-len-limit-clause-too_long g c = λ _.
    let first = c.loop.bytes.items in
    let second = take c.in-Ok.n c.read.new.buf in
    let bytes = c.extend_from_slice.new.self.items in
    let rest = unwrap_or (g.S.Source.left c.read.new.self) [] in
    let read = Consumes-trans _ _ _ first second c.loop.invariant.read c.in-Ok.ensures.bytes.0 in
    let joined : bytes ≡ first ++ second = grind (arith, common_steps) in
    let long : c.args.limit < length bytes = grind (arith, common_steps) in
    (bytes ++ rest, rw joined (told_with_rest _ _ (first ++ second) read), omega (arith, length-append bytes rest))
