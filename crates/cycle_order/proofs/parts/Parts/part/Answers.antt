use Rattle.std.proofs.Common.{rules, ◌≡◌, ◌<◌, ◌+◌, ◌-◌, [], suc, length, take, drop, get_or, sym, ◌∙◌, ap, ap₂, arith}
use Rattle.std.proofs.lemmas.List.{get_or_read}
use Rattle.cycle_order.proofs.Bounds.{length-parts, part_at, below_end, none_falls}
use Rattle.cycle_order.proofs.parts.Parts.part.Goals as goal

pub index-requires : goal.index-requires
index-requires g c =
    let bounds = c.self.inside.bounds in
    let number = length-parts bounds.items c.self.inside.items.items in
    let seen = ap length c.self.view_is in
    let asked = c.requires in
    let same = bounds.ok.0 in
    omega arith

pub overflow_add-number : goal.overflow_add-number
overflow_add-number g c =
    let bounds = c.self.inside.bounds in
    let number = length-parts bounds.items c.self.inside.items.items in
    let seen = ap length c.self.view_is in
    let asked = c.requires in
    let same = bounds.ok.0 in
    let below : c.args.number + 1 < length bounds.items = omega arith in
    search rules

pub index-requires-2 : goal.index-requires-2
index-requires-2 g c =
    let bounds = c.self.inside.bounds in
    let number = length-parts bounds.items c.self.inside.items.items in
    let seen = ap length c.self.view_is in
    let asked = c.requires in
    let same = bounds.ok.0 in
    omega arith

pub between-requires-clause-order : goal.between-requires-clause-order
between-requires-clause-order g c =
    let bounds = c.self.inside.bounds in
    let i = c.args.number in
    let number = length-parts bounds.items c.self.inside.items.items in
    let seen = ap length c.self.view_is in
    let asked = c.requires in
    let below : suc i < length bounds.items = omega arith in
    let next : i + 1 ≡ suc i = omega arith in
    let start : c.index.result.now ≡ get_or bounds.items i 0 = get_or_read bounds.items i c.index.result.now (omega arith) c.index.ensures 0 in
    let end : c.index-2.result.now ≡ get_or bounds.items (suc i) 0 = get_or_read bounds.items (i + 1) c.index-2.result.now (omega arith) c.index-2.ensures 0 ∙ ap (λ n. get_or bounds.items n 0) next in
    let rises = none_falls bounds.items (length c.self.inside.items.items) i c.self.invariant.rising below in
    omega arith

pub between-requires-clause-within : goal.between-requires-clause-within
between-requires-clause-within g c =
    let bounds = c.self.inside.bounds in
    let i = c.args.number in
    let number = length-parts bounds.items c.self.inside.items.items in
    let seen = ap length c.self.view_is in
    let asked = c.requires in
    let below : i + 1 < length bounds.items = omega arith in
    let end : c.index-2.result.now ≡ get_or bounds.items (i + 1) 0 = get_or_read bounds.items (i + 1) c.index-2.result.now below c.index-2.ensures 0 in
    let inside = below_end bounds.items (length c.self.inside.items.items) (i + 1) c.self.invariant.rising below in
    let whole = ap length c.as_slice.ensures.value in
    omega arith

pub returns : goal.returns
returns g c =
    let bounds = c.self.inside.bounds in
    let items = c.self.inside.items.items in
    let i = c.args.number in
    let number = length-parts bounds.items items in
    let seen = ap length c.self.view_is in
    let asked = c.requires in
    let below : suc i < length bounds.items = omega arith in
    let next : i + 1 ≡ suc i = omega arith in
    let start : c.index.result.now ≡ get_or bounds.items i 0 = get_or_read bounds.items i c.index.result.now (omega arith) c.index.ensures 0 in
    let end : c.index-2.result.now ≡ get_or bounds.items (suc i) 0 = get_or_read bounds.items (i + 1) c.index-2.result.now (omega arith) c.index-2.ensures 0 ∙ ap (λ n. get_or bounds.items n 0) next in
    c.between.ensures
    ∙ ap (λ xs. take (c.index-2.result.now - c.index.result.now) (drop c.index.result.now xs)) c.as_slice.ensures.value
    ∙ ap₂ (λ s e. take (e - s) (drop s items)) start end
    ∙ sym (part_at bounds.items items i below)
    ∙ ap (λ ps. get_or ps i []) c.self.view_is
