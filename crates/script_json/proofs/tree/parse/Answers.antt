use Rattle.std.proofs.Common.{Err, refl, ap}
use Rattle.script_json.proofs.Trees.{json_of-text, json_of-none}
use Rattle.script_json.proofs.tree.parse.Goals as goal

pub returns-in-Ok-clause-ok : goal.returns-in-Ok-clause-ok
returns-in-Ok-clause-ok c = json_of-text _ _ c.in-Ok.ensures.ok.0 c.in-Ok.ensures.ok.1

pub returns-in-Err-BadJson-clause-bad_json : goal.returns-in-Err-BadJson-clause-bad_json
returns-in-Err-BadJson-clause-bad_json c = λ _. (refl, json_of-none _ (c.in-Err-BadJson.ensures.bad_json (ap Err c.in-Err-BadJson.field-0-is)))
