use Rattle.std.proofs.Common.{rules, ◌≡◌, ◌+◌, ℕ, ℤ, List, ap, sym, ◌∙◌}
use Rattle.worklet.specs.Processor.{ProcessorView, after_silence}
use Rattle.worklet.proofs.Hearing.{silence_all}
use Rattle.worklet.proofs.processor.Processor.hear_nothing.Goals as goal

pub returns-in-Some : goal.returns-in-Some
returns-in-Some c =
    let program = c.self.inside.program in
    let channels = c.self.inside.channels.items in
    let others = c.self.inside.others in
    let sum : c.in-Some.owed ≡ c.self.inside.owed + c.args.frames = search rules in
    ap (λ (n : ℕ). record { code = program; channels = channels; others = after_silence program others n }) sum
    ∙ ap (λ (v : List ℤ). record { code = program; channels = channels; others = v }) (sym (silence_all program others c.self.inside.owed c.args.frames))
    ∙ ap (λ (v : ProcessorView). record { code = v.code; channels = v.channels; others = after_silence v.code v.others c.args.frames }) c.self.view_is
