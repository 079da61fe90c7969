use Rattle.std.proofs.Common.{false, sym, ◌∙◌, arith}
use Rattle.std.proofs.lemmas.List.{get_or_default}
use Rattle.derivations.proofs.Marked.{writer_loud, muted_low, reader_marked}
use Rattle.derivations.proofs.tape.Stretch.is_muted.Goals as goal

pub returns-then-end : goal.returns-then-end
returns-then-end c = sym (writer_loud c.args.self.now.piece.world.graph.value c.args.self.now.marks c.requires.marks c.args.end c.requires.end c.if-end.true)

pub index-requires : goal.index-requires
index-requires c =
    let low = muted_low c.args.self.now.piece.world.graph.value c.args.self.now.marks c.requires.marks c.args.end c.requires.end in
    let number = c.args.self.now.marks.muted.ok.0 in
    omega (arith, low, number)

pub returns : goal.returns
returns c =
    let g = c.args.self.now.piece.world.graph.value in
    let marks = c.args.self.now.marks in
    c.index.ensures
    ∙ get_or_default marks.muted.items c.args.end.node.0 c.index.result.now false (muted_low g marks c.requires.marks c.args.end c.requires.end)
    ∙ reader_marked g marks c.requires.marks c.args.end c.requires.end c.if-end.false
