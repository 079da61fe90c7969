use Rattle.std.proofs.Common.{ℕ, IsTrue, ◌≡◌, [], ◌++◌, take, drop, ◌∙◌, sym, subst, rules, arith, length-drop, append-nil}
use Rattle.std.proofs.lemmas.List.{take_rest, take_all, take-append-drop}
use Rattle.std.proofs.lemmas.Result.{err_from_is_err_and}
use Rattle.std.proofs.Math.Seq.{take-add}
use Rattle.io_edge.proofs.Pieces.{none_added, all_added, AppendsWhole-trans, AppendsPart-after}
use Rattle.io_edge.proofs.whole.append_all.Goals as goal

pub loop-at-init : goal.loop-at-init
loop-at-init g c = record {
  reads = search rules;
  later = omega arith;
  tells = search rules;
  within = omega arith;
  added = λ told. none_added _ _;
}

pub loop-at-preserved : goal.loop-at-preserved
loop-at-preserved g c =
    let rest = take_rest c.args.bytes.now c.loop-at.at in
    let within = rw rest at c.in_ok-at.ensures.within in
    record {
      reads = c.append.ensures.reads ∙ c.loop-at.invariant.reads;
      later = omega (arith, c.append.ensures.later);
      tells = c.append.ensures.tells ∙ c.loop-at.invariant.tells;
      within = omega (arith, within, length-drop {A = ℕ} c.loop-at.at c.args.bytes.now);
      added = λ told. rw (take-add c.loop-at.at c.in_ok-at.field-0 c.args.bytes.now) (AppendsWhole-trans _ _ _ _ (take c.loop-at.at c.args.bytes.now) (take c.in_ok-at.field-0 (drop c.loop-at.at c.args.bytes.now))
          (c.loop-at.invariant.added told) (all_added _ _ _ _ (rw rest at (c.in_ok-at.ensures.added (subst IsTrue (sym c.loop-at.invariant.tells) told)))));
    }

pub returns-in_err-at-clause-part : goal.returns-in_err-at-clause-part
returns-in_err-at-clause-part g c =
    let failed = err_from_is_err_and c.from_residual.result c.from_residual.ensures.1 in
    let rest = take_rest c.args.bytes.now c.loop-at.at in
    let whole = append-nil (take c.loop-at.at c.args.bytes.now ++ drop c.loop-at.at c.args.bytes.now) ∙ take-append-drop c.loop-at.at c.args.bytes.now in
    rw failed.1 (λ told. AppendsPart-after _ _ _ _ (take c.loop-at.at c.args.bytes.now) (drop c.loop-at.at c.args.bytes.now) [] c.args.bytes.now (c.loop-at.invariant.added told)
    (rw rest at (c.in_err-at.ensures.err (subst IsTrue (sym c.loop-at.invariant.tells) told))) whole)

pub returns-clause-all : goal.returns-clause-all
returns-clause-all g c = λ told.
    let done : take c.loop-at.at c.args.bytes.now ≡ c.args.bytes.now = take_all c.loop-at.at c.args.bytes.now c.loop-at-test.false in
    rw done at (c.loop-at.invariant.added told)
