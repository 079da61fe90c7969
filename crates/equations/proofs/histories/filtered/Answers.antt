use Rattle.std.proofs.Common.{rules, FitsSigned, ◌≡◌, ◌+◌, ◌-◌, length, sym, ◌∙◌, ap, ap₂, subst, arith}
use Rattle.std.specs.Prelude.{◌&&◌, min}
use Rattle.std.specs.Int.{w32}
use Rattle.std.proofs.lemmas.Int.{to_z-of_z}
use Rattle.node_table.specs.Filters.{IsFilter, next_output}
use Rattle.explain.specs.Needs.{hears, feeds_back}
use Rattle.equations.proofs.Limits.{filter_of}
use Rattle.equations.proofs.Recalling.{below, at_least, heard_at, result_known, filter_is}
use Rattle.equations.proofs.histories.filtered.Goals as goal

pub frames_taken-requires-clause-each : goal.frames_taken-requires-clause-each
frames_taken-requires-clause-each c =
    let many = c.min.ensures in
    let more = c.saturating_add.ensures in
    let long = c.len.ensures in
    λ ago l. heard_at c.args.context c.requires.given c.args.heard c.args.age c.requires.recalled ago (omega (arith, many, more, l))
    (ap (λ k. hears k ago) c.requires.kind ∙ below ago (length c.args.forward.now) (omega (arith, many, long, l)))

pub results_before-requires-clause-each : goal.results_before-requires-clause-each
results_before-requires-clause-each c =
    let many = c.min-2.ensures in
    let long = c.len-2.ensures in
    λ ago l. result_known c.args.context c.requires.given c.args.heard c.args.age c.requires.recalled (ago + 1) (omega (arith, many, l))
    (ap (λ k. feeds_back k (ago + 1)) c.requires.kind
    ∙ ap₂ (λ s t. s && t) (at_least 1 (ago + 1) (omega arith)) (below (ago + 1) (length c.args.back.now) (omega (arith, many, long, l))))

pub filter_output-requires : goal.filter_output-requires
filter_output-requires c =
    subst (λ xs. IsFilter xs c.as_slice-2.result.now) (sym c.as_slice.ensures)
    (subst (λ xs. IsFilter c.args.forward.now xs) (sym c.as_slice-2.ensures)
    (filter_of c.args.context c.requires.given c.args.heard.frame c.args.heard.node.0 c.requires.recalled.past.there c.args.forward.now c.args.back.now c.requires.kind))

pub returns : goal.returns
returns c =
    let narrow : FitsSigned w32 c.filter_output.result = search rules in
    let first = c.min.ensures in
    let more = c.saturating_add.ensures in
    let long = c.len.ensures in
    let low = c.len.type_inv in
    let many : c.min.result ≡ min (c.args.age + 1) (length c.args.forward.now) = omega (arith, first, more, long, low) in
    let second = c.min-2.ensures in
    let last = c.len-2.ensures in
    let few : c.min-2.result ≡ min c.args.age (length c.args.back.now - 1) = omega (arith, second, last) in
    to_z-of_z _ _ narrow ∙ c.filter_output.ensures
    ∙ ap₂ (λ xs ys. next_output xs ys c.as_slice-3.result.now c.as_slice-4.result.now) c.as_slice.ensures c.as_slice-2.ensures
    ∙ filter_is c.args.context c.requires.given c.args.heard c.args.age c.requires.recalled c.args.forward.now c.args.back.now c.as_slice-3.result.now c.as_slice-4.result.now c.min.result c.min-2.result c.requires.kind many few
    (c.as_slice-3.ensures.value ∙ c.in_ok-inputs.ensures) (c.as_slice-4.ensures.value ∙ c.in_ok-outputs.ensures)
