use Rattle.std.proofs.Common.{◌≡◌, [], ◌∷◌, ◌++◌, true, rules}
use Rattle.serde_json.specs.Written.{members_text}
use Rattle.script_ast.specs.declared.fields.Field.TheVariants as field
use Rattle.script_text.specs.Writing.{members_given}
use Rattle.script_text.specs.declared.members.Given.TheVariants as given
use Rattle.script_text.proofs.CallSteps.{suspend_step, start_step, begin_after, list_step, list_end, then_step, then_none}
use Rattle.script_text.specs.Order.{BeginBelow}
use Rattle.script_text.specs.Text.{held_calls}
use Rattle.script_text.proofs.calls.+calls.Goals as goal

pub push_call-returns-in_ok-push_time_end-in-Suspend-clause-text : goal.push_call-returns-in_ok-push_time_end-in-Suspend-clause-text
push_call-returns-in_ok-push_time_end-in-Suspend-clause-text t c =
    let last : c.push_time_end.new.out.items ≡ c.push_then.new.out.items ++ members_text true (members_given c.args.rate ((field.Time, given.Time c.in-Suspend.time) ∷ [])) = search rules in
    suspend_step c.args.rate (held_calls c.args.rate c.args.call.now.ordinal c.args.after.now) c.args.call.now.op c.in-Suspend.time _ _ _ _
    c.in-Suspend.is c.in_ok-push_opened-in-Suspend.ensures c.in_ok-rest-in-Suspend.ensures.text last

pub push_call-returns-in_ok-push_time_end-in-Suspend-clause-below : goal.push_call-returns-in_ok-push_time_end-in-Suspend-clause-below
push_call-returns-in_ok-push_time_end-in-Suspend-clause-below t c =
    begin_after c.args.call.now c.args.after.now c.in_ok-rest-in-Suspend.rest.now c.requires.in_order c.in_ok-rest-in-Suspend.ensures.after c.in_ok-rest-in-Suspend.ensures.below

pub push_call-returns-in_ok-push_members-in-StartRendering-clause-text : goal.push_call-returns-in_ok-push_members-in-StartRendering-clause-text
push_call-returns-in_ok-push_members-in-StartRendering-clause-text t c =
    start_step c.args.rate (held_calls c.args.rate c.args.call.now.ordinal c.args.after.now) c.args.call.now.op _ _ _ _
    c.in-StartRendering.is c.in_ok-push_opened-in-StartRendering.ensures c.in_ok-rest-in-StartRendering.ensures.text c.in_ok-push_members-in-StartRendering.ensures

pub push_call-returns-in_ok-push_members-in-StartRendering-clause-below : goal.push_call-returns-in_ok-push_members-in-StartRendering-clause-below
push_call-returns-in_ok-push_members-in-StartRendering-clause-below t c =
    begin_after c.args.call.now c.args.after.now c.in_ok-rest-in-StartRendering.rest.now c.requires.in_order c.in_ok-rest-in-StartRendering.ensures.after c.in_ok-rest-in-StartRendering.ensures.below

pub push_list-loop-call-preserved : goal.push_list-loop-call-preserved
push_list-loop-call-preserved t c =
    let parts : c.loop-call.rest.now ≡ c.in-Some.call.now ∷ c.in-Some.after.now = c.in-Some.ensures.cases.0 in
    let same : c.in-Some.call.now.holder ≡ c.args.holder = c.if-call-holder.false in
    list_step c.args.rate c.args.holder c.args.calls.now c.loop-call.rest.now c.in-Some.after.now c.in_ok-rest.rest.now c.in-Some.call.now c.loop-call.later _ _ _ _
    c.loop-call.invariant parts same c.in_ok-push_comma.ensures c.in_ok-rest.ensures.text c.in_ok-rest.ensures.after c.in_ok-rest.ensures.below

pub push_list-returns-clause-text : goal.push_list-returns-clause-text
push_list-returns-clause-text t c =
    let below : BeginBelow c.args.holder c.loop-call.rest.now = search rules in
    list_end c.args.rate c.args.holder c.args.calls.now c.loop-call.rest.now c.loop-call.later _ _ _ c.loop-call.invariant below c.in_ok-push.ensures.items

pub push_then-returns-in_default-clause-text : goal.push_then-returns-in_default-clause-text
push_then-returns-in_default-clause-text t c =
    let below : BeginBelow c.args.ordinal c.args.calls.now = search rules in
    then_none c.args.rate c.args.ordinal c.args.calls.now c.args.out.now.items c.requires.first below

pub push_then-returns-in_ok-rest-in-Some-clause-text : goal.push_then-returns-in_ok-rest-in-Some-clause-text
push_then-returns-in_ok-rest-in-Some-clause-text t c =
    then_step c.args.rate c.args.ordinal c.args.calls.now _ c.in-Some.call.now c.args.out.now.items _ _ _
    c.in-Some.ensures.cases.0 c.if-call-ordinal.true c.in_ok-push_key-in-Some.ensures c.in_ok-push-in-Some.ensures.items c.in_ok-rest-in-Some.ensures.text
