use Rattle.std.proofs.Common.{◌≡◌, ◌<◌, ◌≤◌, ◌+◌, ◌-◌, ◌++◌, ◌∷◌, [], List, ℕ, length, get_or, refl, ◌∙◌, ap, sym, subst, arith}
use Rattle.std.specs.List.{flat_map, range_with_len}
use Rattle.std.proofs.lemmas.List.{append-nil, append_assoc}
use Rattle.law_base.specs.Members.{IsIn}
use Rattle.law_base.proofs.Members.{IsIn-filter}
use Rattle.conn_graph.specs.Graph.{Connections}
use Rattle.cycle_order.specs.Arrows.{edges_from, writer_targets, reader_targets, targets_of_node, end_arrows}
use Rattle.cycle_order.specs.Parts.{parts_of, AreBounds}
use Rattle.cycle_order.proofs.Bounds.{no_bounds, bounds_closed, parts_closed}
use Rattle.cycle_order.proofs.Lists.{range_rest}
use Rattle.cycle_order.proofs.NodeArrows.{length-edge_lists, get_or-edge_lists}
use Rattle.cycle_order.proofs.arrows.end_arrows.Goals as goal

-- the arrows of one node more
two_more : (g : Connections) (i : ℕ) (arrows : List (List ℕ)) (w r : List ℕ) (more : List (List ℕ)) → i < length g.nodes → more ≡ (arrows ++ w ∷ []) ++ r ∷ []
    → w ≡ writer_targets g i → r ≡ reader_targets g (edges_from g i)
    → arrows ++ flat_map (targets_of_node g) (range_with_len i (length g.nodes - i)) ≡ flat_map (targets_of_node g) (range_with_len 0 (length g.nodes))
    → more ++ flat_map (targets_of_node g) (range_with_len (i + 1) (length g.nodes - (i + 1))) ≡ flat_map (targets_of_node g) (range_with_len 0 (length g.nodes))
two_more g i arrows w r more l is first second before =
    let rest = flat_map (targets_of_node g) (range_with_len (i + 1) (length g.nodes - (i + 1))) in
    ap (λ xs. xs ++ rest) is
    ∙ append_assoc (arrows ++ w ∷ []) (r ∷ []) rest
    ∙ append_assoc arrows (w ∷ []) (r ∷ rest)
    ∙ ap (λ x. arrows ++ x ∷ r ∷ rest) first
    ∙ ap (λ x. arrows ++ writer_targets g i ∷ x ∷ rest) second
    ∙ ap (λ is. arrows ++ flat_map (targets_of_node g) is) (sym (range_rest i (length g.nodes) l))
    ∙ before

pub loop-i-init : goal.loop-i-init
loop-i-init c =
    let g : Connections = c.args.graph.now.value in
    let all = λ (n : ℕ). flat_map (targets_of_node g) (range_with_len 0 n) in
    let bounds = c.reserve-2.ensures.items ∙ c.in_ok-bounds.ensures.items in
    record {
      bounds = subst (λ n. AreBounds c.reserve-2.new.self.items n) (sym (ap length (c.reserve.ensures.items ∙ c.new-targets.ensures.items))) (no_bounds c.reserve-2.new.self.items bounds);
      arrows = ap (λ bs. parts_of bs c.reserve.new.self.items ++ all (length g.nodes - 0)) bounds ∙ ap all (let e : length g.nodes - 0 ≡ length g.nodes = omega arith in e);
    }

pub part-requires : goal.part-requires
part-requires c =
    let g : Connections = c.args.graph.now.value in
    let l : c.loop-i.i < length g.nodes = subst (λ n. c.loop-i.i < n) c.len-i-end.ensures.number c.loop-i-test.true in
    subst (λ n. c.loop-i.i < n) (sym (ap length c.requires.lists ∙ length-edge_lists g)) l

pub append_reader_targets-requires : goal.append_reader_targets-requires
append_reader_targets-requires c e h =
    let g : Connections = c.args.graph.now.value in
    let l : c.loop-i.i < length g.nodes = subst (λ n. c.loop-i.i < n) c.len-i-end.ensures.number c.loop-i-test.true in
    let listed = c.part.ensures ∙ ap (λ ls. get_or ls c.loop-i.i []) c.requires.lists ∙ get_or-edge_lists g c.loop-i.i [] l in
    (c.requires.whole.places e (IsIn-filter _ g.edges e (subst (λ es. IsIn e es) listed h)).0).to

pub loop-i-preserved : goal.loop-i-preserved
loop-i-preserved c =
    let g : Connections = c.args.graph.now.value in
    let i = c.loop-i.i in
    let bounds = c.loop-i.bounds.items in
    let targets = c.loop-i.targets.items in
    let l : i < length g.nodes = subst (λ n. i < n) c.len-i-end.ensures.number c.loop-i-test.true in
    let listed = c.part.ensures ∙ ap (λ ls. get_or ls i []) c.requires.lists ∙ get_or-edge_lists g i [] l in
    let first = writer_targets g i in
    let second = reader_targets g (edges_from g i) in
    let grown = c.in_ok-append_writer_targets.ensures in
    let end : c.len-in-loop-i.result ≡ length c.append_writer_targets.new.targets.items = let own = c.len-in-loop-i.ensures in let same = c.append_writer_targets.new.targets.ok.0 in omega arith in
    let closed = c.in_ok-push.ensures.items ∙ ap (λ n. bounds ++ n ∷ []) end in
    let between_ = bounds_closed bounds targets first _ _ grown closed c.loop-i.invariant.bounds in
    let grown_2 = c.in_ok-append_reader_targets.ensures ∙ ap (λ es. c.append_writer_targets.new.targets.items ++ reader_targets g es) listed in
    let end_2 : c.len-in-loop-i-2.result ≡ length c.append_reader_targets.new.targets.items = let own = c.len-in-loop-i-2.ensures in let same = c.append_reader_targets.new.targets.ok.0 in omega arith in
    let closed_2 = c.in_ok-push-2.ensures.items ∙ ap (λ n. c.push.new.self.items ++ n ∷ []) end_2 in
    record {
      bounds = bounds_closed c.push.new.self.items c.append_writer_targets.new.targets.items second _ _ grown_2 closed_2 between_;
      arrows =
          two_more g i (parts_of bounds targets) first second _ l
          (parts_closed c.push.new.self.items c.append_writer_targets.new.targets.items second _ _ grown_2 closed_2 between_
          ∙ ap (λ ps. ps ++ second ∷ []) (parts_closed bounds targets first _ _ grown closed c.loop-i.invariant.bounds))
          refl refl c.loop-i.invariant.arrows;
    }

pub returns : goal.returns
unfolding end_arrows
returns c =
    let g : Connections = c.args.graph.now.value in
    let i = c.loop-i.i in
    let arrows = parts_of c.loop-i.bounds.items c.loop-i.targets.items in
    let past : length g.nodes ≤ i = subst (λ n. n ≤ i) c.len-i-end.ensures.number c.loop-i-test.false in
    let none : length g.nodes - i ≡ 0 = omega arith in
    c.between.ensures ∙ sym (append-nil arrows) ∙ ap (λ n. arrows ++ flat_map (targets_of_node g) (range_with_len i n)) (sym none) ∙ c.loop-i.invariant.arrows
