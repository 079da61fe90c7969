use Rattle.std.proofs.Common.{rules, ◌≤◌, ◌≢◌, ◌∙◌, length, get_or}
use Rattle.explain_top.proofs.Numbers.{number_parsed}
use Rattle.explain_top.proofs.words.number_in.Goals as goal

pub returns-else-starts_with : goal.returns-else-starts_with
returns-else-starts_with c =
    let short : length c.args.text.now ≤ 10 = search rules in
    let plain : get_or c.args.text.now 0 0 ≢ 43 = search rules in
    c.ok.ensures.value ∙ number_parsed c.args.text.now c.parse.result c.parse.ensures.value.0 short plain
