use Rattle.std.proofs.Common.{◌≡◌, ◌&&◌, ◌+◌, ◌++◌, ◌∷◌, [], suc, get_or, take, drop, sym, ◌∙◌, ap, arith}
use Rattle.std.proofs.Math.Seq.{take-suc}
use Rattle.std.specs.List.{list_all}
use Rattle.std.proofs.lemmas.List.{drop_more, drop_all, take_all}
use Rattle.wa_base.specs.declared.graph_names.End.{End}
use Rattle.conn_graph.specs.Ends.{reader_of, ends}
use Rattle.conn_graph.specs.Graph.{Connections}
use Rattle.cycle_order.specs.Legality.{is_settled, is_legal_from}
use Rattle.cycle_order.proofs.LegalityLaws.{legal_test}
use Rattle.cycle_order.proofs.Looks.{left, looks_fit, most_looks}
use Rattle.cycle_order.proofs.legality.is_legal.Goals as goal

pub returns-then-not-can_follow-clause-legal : goal.returns-then-not-can_follow-clause-legal
returns-then-not-can_follow-clause-legal g c =
    let graph : Connections = c.args.graph.now.value in
    let es = c.args.ends.now in
    let i = c.loop-i.i in
    let muted = c.args.marks.now.muted in
    let e : End = get_or es i (reader_of 0) in
    legal_test graph c.can_follow.ensures.whole es _
    (ap (λ b. b && is_legal_from graph muted (take i es ++ e ∷ []) (drop (i + 1) es)) (sym c.if-not-can_follow.true ∙ c.can_follow.ensures.follows)
    ∙ ap (is_legal_from graph muted (take i es)) (sym (drop_more es i (reader_of 0) c.loop-i-test.true))
    ∙ c.loop-i.invariant.legal
    ∙ ap (λ ms. is_legal_from graph ms [] es) c.requires.muted)

pub returns-clause-legal : goal.returns-clause-legal
returns-clause-legal g c =
    let graph : Connections = c.args.graph.now.value in
    let es = c.args.ends.now in
    let i = c.loop-i.i in
    let muted = c.args.marks.now.muted in
    legal_test graph c.are_settled.ensures.whole es _
    (c.are_settled.ensures.settled
    ∙ ap (λ ms. list_all (is_settled ms es) (ends graph)) c.as_slice.ensures
    ∙ ap (λ ps. list_all (is_settled muted ps) (ends graph)) (sym (take_all i es c.loop-i-test.false))
    ∙ ap (is_legal_from graph muted (take i es)) (sym (drop_all i es c.loop-i-test.false))
    ∙ c.loop-i.invariant.legal
    ∙ ap (λ ms. is_legal_from graph ms [] es) c.requires.muted)

-- one end more is placed
pub loop-i-preserved : goal.loop-i-preserved
loop-i-preserved g c =
    let graph : Connections = c.args.graph.now.value in
    let es = c.args.ends.now in
    let i = c.loop-i.i in
    let muted = c.args.marks.now.muted in
    let e : End = get_or es i (reader_of 0) in
    let more : take (i + 1) es ≡ take i es ++ e ∷ [] = ap (λ n. take n es) (let n : i + 1 ≡ suc i = omega arith in n) ∙ take-suc es i (reader_of 0) c.loop-i-test.true in
    record {
      legal =
          ap (λ ps. is_legal_from graph muted ps (drop (i + 1) es)) more
          ∙ ap (λ b. b && is_legal_from graph muted (take i es ++ e ∷ []) (drop (i + 1) es)) (sym c.if-not-can_follow.false ∙ c.can_follow.ensures.follows)
          ∙ ap (is_legal_from graph muted (take i es)) (sym (drop_more es i (reader_of 0) c.loop-i-test.true))
          ∙ c.loop-i.invariant.legal;
      cost =
          let before = c.loop-i.invariant.cost in
          let here = c.can_follow.ensures.cost in
          let fit = looks_fit graph c.can_follow.ensures.whole muted (take i es) e in
          let same = ap (λ ps. left graph ps (ends graph)) more in
          omega arith;
    }

-- or refused
pub returns-then-not-can_follow-clause-cost : goal.returns-then-not-can_follow-clause-cost
returns-then-not-can_follow-clause-cost g c =
    let graph : Connections = c.args.graph.now.value in
    let es = c.args.ends.now in
    let before = c.loop-i.invariant.cost in
    let here = c.can_follow.ensures.cost in
    let fit = looks_fit graph c.can_follow.ensures.whole c.args.marks.now.muted (take c.loop-i.i es) (get_or es c.loop-i.i (reader_of 0)) in
    let most = most_looks graph in
    omega arith

pub returns-clause-cost : goal.returns-clause-cost
returns-clause-cost g c =
    let before = c.loop-i.invariant.cost in
    let most = most_looks c.args.graph.now.value in
    omega arith
