use Rattle.std.proofs.Common.{◌≢◌, ◌∷◌, List, ℕ, None, arith}
use Rattle.std.proofs.lemmas.Str.Pattern.{strip_prefix_char}
use Rattle.explain.proofs.reading.numbers.is_plain_signed.Goals as goal

pub returns-in-None : goal.returns-in-None
returns-in-None c =
    let none : (digits : List ℕ) → c.args.word.now ≢ 45 ∷ digits = strip_prefix_char 45 c.args.word.now None c.in-None.ensures.cases (omega arith) in
    let plain = c.is_plain-in-None.ensures in
    (λ is. record { plain = plain.0 is; behind = λ digits e. absurd (none digits e) }, λ h. plain.1 h.plain)
