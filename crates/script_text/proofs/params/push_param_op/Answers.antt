use Rattle.std.proofs.Common.{◌≡◌, ◌++◌, OnOk, true, append_assoc, subst}
use Rattle.serde_json.specs.Data.{object}
use Rattle.serde_json.specs.Written.{compact_text, members_text}
use Rattle.script_text.specs.Writing.{members_given, param_members}
use Rattle.script_text.proofs.params.push_param_op.Goals as goal

pub returns : goal.returns
returns c =
    let others = c.args.others.now in
    let written : c.push_string-3.new.out.items ++ members_text true (members_given c.args.rate others)
    ≡ c.args.out.now.items ++ compact_text (object (param_members c.args.rate c.args.name c.args.node.now c.args.param.now others)) =
    rw (
      c.in_ok-push_string-3.ensures,
      c.as_slice-2.ensures,
      c.in_ok-push_key-3.ensures,
      c.in_ok-push_string-2.ensures,
      c.as_bytes.ensures.value,
      c.word.ensures.word,
      c.in_ok-push_key-2.ensures,
      c.in_ok-push_string.ensures,
      c.as_slice.ensures,
      c.in_ok-push_key.ensures,
      c.in_ok-push.ensures.items,
    ) (simp append_assoc) in
    subst (λ text. OnOk c.push_members.result (c.push_members.new.out.items ≡ text)) written c.push_members.ensures
