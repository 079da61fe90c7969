use Rattle.std.proofs.Common.{sym, ◌∙◌, rules}
use Rattle.script_json.proofs.CallSteps.{held_list-named}
use Rattle.script_json.proofs.calls.held_list.Goals as goal

pub returns-in-Some : goal.returns-in-Some
returns-in-Some c = c.list-list.ensures ∙ sym (held_list-named _ c.in-Some.name (search rules) (search rules))
