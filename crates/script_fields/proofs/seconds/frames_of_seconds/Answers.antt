use Rattle.std.proofs.Common.{◌≡◌, ◌≢◌, ◌∷◌, ◌∙◌, List, ℕ, None, rules, pos, FitsSigned, ap, sym, arith}
use Rattle.std.specs.Int.{w128}
use Rattle.std.proofs.lemmas.Int.{to_z-of_z}
use Rattle.std.proofs.lemmas.Str.Pattern.{strip_prefix_char}
use Rattle.script_fields.specs.Seconds.{frames_at}
use Rattle.script_fields.proofs.Times.{no_seconds, some_seconds}
use Rattle.script_fields.proofs.seconds.frames_of_seconds.Goals as goal

pub returns-in_err-seconds-in-None : goal.returns-in_err-seconds-in-None
returns-in_err-seconds-in-None c =
    let plain : (rest : List ℕ) → c.args.text.now ≢ 45 ∷ rest = strip_prefix_char 45 c.args.text.now None c.in-None.ensures.cases (omega arith) in
    let value = no_seconds c.args.rate c.args.text.now plain c.in_err-seconds-in-None.ensures.value in
    search rules

pub returns-in_ok-seconds-in-None : goal.returns-in_ok-seconds-in-None
returns-in_ok-seconds-in-None c =
    let plain : (rest : List ℕ) → c.args.text.now ≢ 45 ∷ rest = strip_prefix_char 45 c.args.text.now None c.in-None.ensures.cases (omega arith) in
    let units : FitsSigned w128 c.from-in-None.result = search rules in
    let answer : FitsSigned w128 c.frames_at-in-None.result = search rules in
    let value = simp (to_z-of_z _ _ units) at c.frames_at-in-None.ensures in
    simp (to_z-of_z _ _ answer)
    (some_seconds c.args.rate c.args.text.now c.in_ok-seconds-in-None.seconds c.frames_at-in-None.result plain c.in_ok-seconds-in-None.ensures.value
    (value ∙ ap (λ u. frames_at c.args.rate u c.in_ok-seconds-in-None.seconds.places) c.from-in-None.ensures))
