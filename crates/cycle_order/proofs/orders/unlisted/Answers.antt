use Rattle.std.proofs.Common.{◌<◌, length, sym, ◌∙◌}
use Rattle.wa_base.specs.declared.graph_names.End.{End}
use Rattle.conn_graph.specs.Ends.{reader_of}
use Rattle.cycle_order.proofs.Merging.{is_next, is_other, fails_on, fails_more}
use Rattle.cycle_order.proofs.orders.unlisted.Goals.{then-has_at, else-has_at+in_ok-push}
use Rattle.cycle_order.proofs.orders.unlisted.Goals as goal

pub loop-end-preserved : goal.loop-end-preserved
loop-end-preserved c = λ test listed.
    let es = c.args.ends.now in
    let i = c.loop-end.end-index in
    let d : End = reader_of 0 in
    let inv = c.loop-end.invariant test listed in
    let l : i < length es = c.loop-end-test.true in
    elim c.if-has_at.branch [
      | then-has_at w ↦
          let next = is_next test es c.args.listed.now d i c.loop-end.place l inv.0 (c.has_at.ensures.0 w.if-has_at.true) in
          rw (w.rest-is, w.place-is) (next.1, fails_on test es c.args.listed.now d i c.loop-end.rest.items l next.0 inv.1)
      | else-has_at+in_ok-push w ↦
          let other = is_other test es c.args.listed.now d i c.loop-end.place l inv.0 (λ at. let t = c.has_at.ensures.1 at in absurd (let no = sym t ∙ w.if-has_at.false in cc)) in
          rw (w.rest-is, w.place-is, w.in_ok-push.ensures.items) (other.1, fails_more test es c.args.listed.now d i c.loop-end.rest.items l other.0 inv.1)
    ]
