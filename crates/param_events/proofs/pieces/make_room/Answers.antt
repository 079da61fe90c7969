use Rattle.std.proofs.Common.{ap, sym, subst, ◌∙◌, ◌≡◌, ◌+◌, set, rules}
use Rattle.std.specs.List.{insert}
use Rattle.param_events.specs.Pieces.{IsIn, all}
use Rattle.param_events.proofs.Pieced.{pieced_parted}
use Rattle.param_events.proofs.pieces.make_room.Goals as goal

pub returns-in_ok-rest : goal.returns-in_ok-rest
returns-in_ok-rest c =
    let ps = c.reserve.new.self.items in
    let k = c.find-k.result.0 in
    let is = subst (λ ps. IsIn ps c.args.i c.find-k.result.0 c.find-k.result.1) (c.as_slice.ensures.value ∙ sym c.in_ok-reserve.ensures.items) c.find-k.ensures in
    let parted : c.insert-parted.new.self.items ≡ insert (set ps k c.split_off.new.self) (k + 1) c.in_ok-rest.rest = search rules in
    ap all parted ∙ pieced_parted ps k 1024 c.index_mut.result.now c.split_off.new.self c.in_ok-rest.rest is.piece c.index_mut.ensures.value c.in_ok-rest.ensures.items c.in_ok-rest.ensures.tail
    ∙ ap all c.in_ok-reserve.ensures.items
