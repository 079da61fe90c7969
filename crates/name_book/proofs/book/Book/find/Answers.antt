use Rattle.std.proofs.Common.{◌≡◌, false, bytes_eq, sym, ◌∙◌}
use Rattle.name_book.specs.Book.{destination, object_of}
use Rattle.name_book.proofs.Laws.{object_of-IsBound}
use Rattle.name_book.proofs.Maps.{look_up_of_bindings}
use Rattle.name_book.proofs.book.Book.find.Goals as goal

pub returns : goal.returns
returns c =
    let other : bytes_eq c.args.name.now destination ≡ false = sym c.is_destination.ensures ∙ c.if-is_destination.false in
    let found = rw c.as_slice.ensures at c.get.ensures.value in
    let object : c.copied.result ≡ object_of c.args.self.now.bindings c.args.name.now =
    rw (← c.self.view_is, other)
    (c.copied.ensures ∙ found ∙ look_up_of_bindings c.self.inside.objects.entries c.args.name.now) in
    record { object = object; bound = rw object (object_of-IsBound c.args.self.now.bindings c.args.name.now) }
