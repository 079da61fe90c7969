use Rattle.std.proofs.Common.{rules, ◌≡◌, ◌≤◌, ◌≢◌, ◌∙◌, length, get_or}
use Rattle.command_line.specs.Values.{number_in}
use Rattle.command_line.proofs.Numbers.{number_parsed, number_most}
use Rattle.command_line.proofs.values.number_in.Goals as goal

-- what was parsed is the number that the text writes
is_number_in : (c : goal.After-ok) → c.ok.result ≡ number_in c.args.text.now
is_number_in c =
    let short : length c.args.text.now ≤ 4 = search rules in
    let plain : get_or c.args.text.now 0 0 ≢ 43 = search rules in
    c.ok.ensures.value ∙ number_parsed c.args.text.now c.parse.result c.parse.ensures.value.0 short plain

pub returns-else-starts_with-clause-value : goal.returns-else-starts_with-clause-value
returns-else-starts_with-clause-value c = is_number_in c

pub returns-else-starts_with-clause-most : goal.returns-else-starts_with-clause-most
returns-else-starts_with-clause-most c = rw (is_number_in c) (number_most c.args.text.now)
