use Rattle.std.proofs.Common.{rules, append_assoc, ◌-◌, ◌/◌, ◌%◌, ◌+◌, ◌∷◌, []}
use Rattle.script_text.specs.Seconds.{last_digits}
use Rattle.script_text.proofs.Digits.{no_digits, more_digits}
use Rattle.script_text.proofs.seconds.+push_last_digits.Goals as goal

pub returns-then-count-eq0 : goal.returns-then-count-eq0
returns-then-count-eq0 t c =
    let none = no_digits c.args.count c.args.number c.if-count-eq0.true in
    search rules

pub returns : goal.returns
returns t c =
    let more = more_digits c.args.count c.args.number c.if-count-eq0.false in
    rw (more, c.in_ok-push.ensures.items, c.in_ok-push_last_digits.ensures)
    (append_assoc c.args.out.now.items (last_digits (c.args.count - 1) (c.args.number / 10)) ((48 + c.args.number % 10) ∷ []))
