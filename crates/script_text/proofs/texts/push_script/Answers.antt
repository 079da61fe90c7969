use Rattle.script_text.proofs.ScriptTexts.{script_step}
use Rattle.script_text.proofs.texts.push_script.Goals as goal

pub returns : goal.returns
returns c = script_step c.args.script.now c.as_slice.result.now c.args.out.now.items _ _ _ _ _ _ _
    c.as_slice.ensures c.in_ok-push.ensures.items c.in_ok-push_key.ensures c.in_ok-push-2.ensures.items c.in_ok-push_list.ensures.text
    c.in_ok-push_key-2.ensures c.in_ok-push_context.ensures c.in_ok-push_members.ensures
