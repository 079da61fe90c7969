use Rattle.std.proofs.Common.{rules, ◌≡◌, ◌≤◌, ◌≢◌, ◌∙◌, length, get_or}
use Rattle.std.specs.Prelude.{Some, None, if◌then◌else◌}
use Rattle.std.specs.Str.Parse.{digits_value}
use Rattle.script_fields.specs.Seconds.{are_digits}
use Rattle.script_fields.proofs.Digits.{number_parsed, some_if}
use Rattle.script_fields.proofs.seconds.digits_in.Goals as goal

-- what was parsed is the number that the digits spell
is_digits_in : (c : goal.After-ok) → c.ok.result ≡ (if are_digits c.args.most c.args.text.now then Some (digits_value 10 c.args.text.now) else None)
is_digits_in c =
    let short : length c.args.text.now ≤ c.args.most = search rules in
    let plain : get_or c.args.text.now 0 0 ≢ 43 = search rules in
    c.ok.ensures.value ∙ number_parsed c.args.most c.args.text.now c.parse.result c.parse.ensures.value.0 short c.requires plain

pub returns-else-starts_with-clause-value : goal.returns-else-starts_with-clause-value
returns-else-starts_with-clause-value c = is_digits_in c

pub returns-else-starts_with-clause-digits : goal.returns-else-starts_with-clause-digits
returns-else-starts_with-clause-digits c = some_if c.ok.result _ _ (is_digits_in c)
