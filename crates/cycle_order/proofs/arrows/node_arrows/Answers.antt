use Rattle.std.proofs.Common.{ℕ, ◌≡◌, ◌<◌, ◌≤◌, ◌+◌, ◌++◌, ◌∷◌, [], length, map, drop, get_or, sym, ◌∙◌, ap, subst, arith}
use Rattle.std.proofs.lemmas.List.{append-nil, append_assoc, drop_more, drop_all}
use Rattle.cycle_order.specs.Arrows.{node_targets}
use Rattle.cycle_order.specs.Parts.{parts_of, AreBounds}
use Rattle.cycle_order.proofs.Bounds.{no_bounds, bounds_closed, parts_closed}
use Rattle.cycle_order.proofs.arrows.node_arrows.Goals as goal

pub loop-node-init : goal.loop-node-init
loop-node-init c =
    let bounds = c.reserve-2.ensures.items ∙ c.in_ok-bounds.ensures.items in
    record {
      bounds = subst (λ n. AreBounds c.reserve-2.new.self.items n) (sym (ap length (c.reserve.ensures.items ∙ c.new-targets.ensures.items))) (no_bounds c.reserve-2.new.self.items bounds);
      arrows = ap (λ bs. parts_of bs c.reserve.new.self.items ++ map node_targets c.args.lists.now) bounds;
    }

-- the arrows of one node more
pub loop-node-preserved : goal.loop-node-preserved
loop-node-preserved c =
    let lists = c.args.lists.now in
    let i : ℕ = c.loop-node.node in
    let bounds = c.loop-node.bounds.items in
    let targets = c.loop-node.targets.items in
    let l : i < length lists = subst (λ n. i < n) c.len-node-end.ensures c.loop-node-test.true in
    let part = node_targets (get_or lists i []) in
    let grown = c.in_ok-append_node_targets.ensures ∙ ap (λ es. targets ++ node_targets es) c.part.ensures in
    let end : c.len-in-loop-node.result ≡ length c.append_node_targets.new.targets.items = let own = c.len-in-loop-node.ensures in let same = c.append_node_targets.new.targets.ok.0 in omega arith in
    let closed = c.in_ok-push.ensures.items ∙ ap (λ n. bounds ++ n ∷ []) end in
    record {
      bounds = bounds_closed bounds targets part _ _ grown closed c.loop-node.invariant.bounds;
      arrows =
          ap (λ xs. xs ++ map node_targets (drop (i + 1) lists)) (parts_closed bounds targets part _ _ grown closed c.loop-node.invariant.bounds)
          ∙ append_assoc (parts_of bounds targets) (part ∷ []) (map node_targets (drop (i + 1) lists))
          ∙ ap (λ xs. parts_of bounds targets ++ map node_targets xs) (sym (drop_more lists i [] l))
          ∙ c.loop-node.invariant.arrows;
    }

pub returns : goal.returns
returns c =
    let lists = c.args.lists.now in
    let i : ℕ = c.loop-node.node in
    let arrows = parts_of c.loop-node.bounds.items c.loop-node.targets.items in
    let past : length lists ≤ i = subst (λ n. n ≤ i) c.len-node-end.ensures c.loop-node-test.false in
    c.between.ensures ∙ sym (append-nil arrows) ∙ ap (λ xs. arrows ++ map node_targets xs) (sym (drop_all i lists past)) ∙ c.loop-node.invariant.arrows
