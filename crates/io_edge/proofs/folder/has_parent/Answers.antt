use Rattle.std.proofs.Common.{rules, lit<}
use borrow.Author.Tests.{tests}
use Rattle.std.proofs.lemmas.Iterator.Search.{any_from_yields_List}
use Rattle.std.proofs.lemmas.Iterator.Splits.{YieldsList-from_str_split}
use Rattle.std.specs.Prelude.{codes}
use Rattle.std.specs.Str.{bytes_eq}
use Rattle.io_edge.proofs.folder.has_parent.Goals as goal

pub returns : goal.returns
returns c =
    let pieces = YieldsList-from_str_split 47 c.args.path.now (lit< tt) c.split.ensures.text c.split.ensures.has_more c.split.ensures.pattern in
    any_from_yields_List (λ part. bytes_eq part (codes "..")) _ _ c.any.result c.any.ensures.ran pieces (λ x b q k. search (rules, tests))
