use Rattle.script_text.proofs.CallSteps.{alone_step, after_none, begin_alone}
use Rattle.script_text.specs.Text.{held_calls}
use Rattle.script_text.proofs.calls.push_alone.Goals as goal

pub returns : goal.returns
returns c = record {
  text = alone_step c.args.rate (held_calls c.args.rate c.args.call.now.ordinal c.args.after.now) c.args.call.now.op _ _ c.requires.alone c.in_ok-push_op.ensures;
  after = after_none c.args.call.now.ordinal c.args.after.now;
  below = begin_alone c.args.call.now c.args.after.now c.requires.in_order c.requires.alone;
}
