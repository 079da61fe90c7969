use Rattle.std.proofs.Common.{ap, ◌∙◌}
use Rattle.std.proofs.lemmas.Result.{IfOk-at_ok}
use Rattle.name_book.specs.Rooms.{bindings_of}
use Rattle.name_book.proofs.Maps.{bindings_after_insert}
use Rattle.name_book.proofs.book.bind_key.Goals as goal

pub returns : goal.returns
returns c =
    ap bindings_of (IfOk-at_ok _ c.unwrap.ensures c.insert.ensures.entries)
    ∙ bindings_after_insert c.args.objects.now.entries c.args.key c.args.object
