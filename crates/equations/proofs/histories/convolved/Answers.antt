use Rattle.std.proofs.Common.{rules, FitsSigned, ◌≡◌, ◌+◌, length, ◌∙◌, ap, arith}
use Rattle.std.specs.Prelude.{min}
use Rattle.std.specs.Int.{w32}
use Rattle.std.proofs.lemmas.Int.{to_z-of_z}
use Rattle.node_table.specs.Convolutions.{convolution}
use Rattle.explain.specs.Needs.{hears}
use Rattle.equations.proofs.Recalling.{below, heard_at, convolver_is}
use Rattle.equations.proofs.histories.convolved.Goals as goal

pub frames_taken-requires-clause-each : goal.frames_taken-requires-clause-each
frames_taken-requires-clause-each c =
    let many = c.min.ensures in
    let more = c.saturating_add.ensures in
    let long = c.len.ensures in
    λ ago l. heard_at c.args.context c.requires.given c.args.heard c.args.age c.requires.recalled ago (omega (arith, many, more, l))
    (ap (λ k. hears k ago) c.requires.kind ∙ below ago (length c.args.response.now) (omega (arith, many, long, l)))

pub returns : goal.returns
returns c =
    let narrow : FitsSigned w32 c.convolver_output.result = search rules in
    let first = c.min.ensures in
    let more = c.saturating_add.ensures in
    let long = c.len.ensures in
    let low = c.len.type_inv in
    let many : c.min.result ≡ min (c.args.age + 1) (length c.args.response.now) = omega (arith, first, more, long, low) in
    to_z-of_z _ _ narrow ∙ c.convolver_output.ensures
    ∙ ap (λ xs. convolution xs c.as_slice-2.result.now) c.as_slice.ensures
    ∙ convolver_is c.args.context c.requires.given c.args.heard c.args.age c.requires.recalled c.args.response.now c.as_slice-2.result.now c.min.result many (c.as_slice-2.ensures.value ∙ c.in_ok-inputs.ensures)
