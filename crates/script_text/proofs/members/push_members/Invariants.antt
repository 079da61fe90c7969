use Rattle.std.proofs.Common.{◌≡◌, ◌++◌, drop}
use Rattle.serde_json.specs.Written.{members_text}
use Rattle.script_text.specs.Writing.{members_given}
use Rattle.script_text.proofs.members.push_members.Given as goal

abbrev pub invariant-loop-member : goal.invariant-loop-member
invariant-loop-member l = l.initial.out.items ++ members_text l.initial.later (members_given l.rate l.members) ≡ l.out.items ++ members_text l.later (members_given l.rate (drop l.member-index l.members))
