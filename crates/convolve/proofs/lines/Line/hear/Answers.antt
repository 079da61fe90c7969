use Rattle.std.proofs.Common.{ℤ, List, length, ap, subst, sym, ◌∙◌, arith}
use Rattle.convolve.specs.LineInside.{frames_of}
use Rattle.convolve.specs.Lines.{IsQuiet}
use Rattle.convolve.proofs.Fronts.{frames_long, length_front, quiet_less, quiet_output}
use Rattle.convolve.proofs.lines.Line.hear.Goals as goal

pub returns-then-self-clause-output : goal.returns-then-self-clause-output
returns-then-self-clause-output c =
    let inside = c.self.inside in
    let there = frames_long inside.samples.items inside.start inside.kept c.self.invariant.there in
    let long = ap length c.push.ensures ∙ length_front _ _ ∙ c.requires.kept in
    let all = quiet_less (length (frames_of inside)) inside.quiet (frames_of inside) (omega (arith, there, c.if-self.true)) c.self.invariant.zeros in
    quiet_output c.args.response.now c.push.new.self (sym long) (subst (λ (v : List ℤ). IsQuiet (length v) v) c.self.view_is all)
