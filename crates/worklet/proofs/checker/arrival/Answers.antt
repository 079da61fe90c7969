use Rattle.std.proofs.Common.{ℕ, ◌≡◌, ◌<◌, ◌+◌, Option, subst, sym, arith, rules}
use Rattle.std.proofs.lemmas.Bool.{iff_false}
use Rattle.node_table.specs.Instructions.{GoesOn, left}
use Rattle.worklet.specs.Arrivals.{Arrives, Agrees}
use Rattle.worklet.proofs.Arriving.{goes_from, goes_back, arrives_past, arrives_more, uneven_here}
use Rattle.worklet.proofs.checker.arrival.Goals as goal
use Rattle.worklet.proofs.checker.arrival.Goals.{then-may_pass+else-not-agrees, else-may_pass}

pub returns-then-not-agrees-clause-error : goal.returns-then-not-agrees-clause-error
returns-then-not-agrees-clause-error c =
    let code = c.args.code.now in
    let place = c.args.place in
    let i = c.loop-i.i in
    let lt : i < place = omega arith in
    let goes : GoesOn code i place = goes_from code i place lt (c.may_pass.ensures.0 c.if-may_pass.true) in
    let is : left code c.args.heights.now i ≡ c.left-height.result = search rules in
    record {
      long = c.requires.long;
      there = c.requires.there;
      heights = c.args.heights.now;
      before = c.requires.before;
      fault = uneven_here code c.args.heights.now place i c.loop-i.found c.left-height.result c.loop-i.invariant lt goes (iff_false c.agrees.ensures c.if-not-agrees.true) is;
    }

pub loop-i-preserved : goal.loop-i-preserved
loop-i-preserved c =
    let code = c.args.code.now in
    let heights = c.args.heights.now in
    let place = c.args.place in
    let i = c.loop-i.i in
    let lt : i < place = omega arith in
    elim c.if-may_pass.branch [
      | then-may_pass+else-not-agrees w ↦
          let goes : GoesOn code i place = goes_from code i place lt (c.may_pass.ensures.0 w.if-may_pass.true) in
          let is : left code heights i ≡ w.left-height.result = search rules in
          let agree : Agrees c.loop-i.found w.left-height.result = w.agrees.ensures.0 (search rules) in
          subst (λ (v : Option ℕ). Arrives code heights place (i + 1) v) (sym w.found-is)
          (arrives_more code heights place i c.loop-i.found w.left-height.result c.loop-i.invariant goes agree is)
      | else-may_pass w ↦
          subst (λ (v : Option ℕ). Arrives code heights place (i + 1) v) (sym w.found-is)
          (arrives_past code heights place i c.loop-i.found c.loop-i.invariant (λ goes. iff_false c.may_pass.ensures w.if-may_pass.false (goes_back code i place lt goes)))
    ]
