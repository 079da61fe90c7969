use Rattle.std.proofs.Common.{rules, FitsSigned, ◌≡◌, ◌/◌, ◌≤◌, ◌<◌, true, false, sym, ◌∙◌, ap, subst}
use Rattle.std.specs.Int.{w64}
use Rattle.std.proofs.lemmas.Int.{to_z-of_z}
use Rattle.conn_graph.specs.Ends.{muted}
use Rattle.explain.specs.declared.facts.Key.TheVariants.{Count}
use Rattle.derivations.specs.Contexts.{tape_in, world_of, StandsIn}
use Rattle.derivations.proofs.Counted.{end_there}
use Rattle.equations.specs.Given.{meaning_of}
use Rattle.equations.proofs.Ending.{muted_here}
use Rattle.equations.proofs.Present.{muted_is, absent_is, present_is, count_known, kind_known}
use Rattle.equations.proofs.outputs.output_value.Goals as goal

pub is_muted-requires-clause-end : goal.is_muted-requires-clause-end
is_muted-requires-clause-end c =
    end_there c.args.context.quantum (tape_in c.args.context) c.requires.given.ready.regular (c.args.sample.frame / c.args.context.quantum) c.args.sample.end c.piece_at-stretch.result.now c.piece_at-stretch.ensures c.requires.output.end

pub returns-then-is_muted : goal.returns-then-is_muted
returns-then-is_muted c =
    muted_is c.args.context c.args.sample.frame c.args.sample.end c.args.sample.output c.args.sample.channel
    (muted_here c.args.context c.requires.given (c.args.sample.frame / c.args.context.quantum) c.piece_at-stretch.result.now c.piece_at-stretch.ensures c.args.sample.end c.requires.output.end c.is_muted.result true c.is_muted.ensures c.if-is_muted.true)

pub count_of-requires-clause-known : goal.count_of-requires-clause-known
count_of-requires-clause-known c =
    let loud : muted (world_of c.args.context c.args.sample.frame).graph.value c.args.sample.end ≡ false =
    muted_here c.args.context c.requires.given (c.args.sample.frame / c.args.context.quantum) c.piece_at-stretch.result.now c.piece_at-stretch.ensures c.args.sample.end c.requires.output.end c.is_muted.result false c.is_muted.ensures c.if-is_muted.false in
    subst (λ q. StandsIn c.args.context (Count (c.args.sample.frame / q) c.args.sample.end c.args.sample.output)) (sym c.from.ensures) (count_known c.args.context c.args.sample.frame c.args.sample.end c.args.sample.output c.args.sample.channel c.requires.known loud)

pub returns-then-sample-count_of : goal.returns-then-sample-count_of
returns-then-sample-count_of c =
    let loud : muted (world_of c.args.context c.args.sample.frame).graph.value c.args.sample.end ≡ false =
    muted_here c.args.context c.requires.given (c.args.sample.frame / c.args.context.quantum) c.piece_at-stretch.result.now c.piece_at-stretch.ensures c.args.sample.end c.requires.output.end c.is_muted.result false c.is_muted.ensures c.if-is_muted.false in
    let many : c.count_of.result ≡ (meaning_of c.args.context).counts (c.args.sample.frame / c.args.context.quantum) c.args.sample.end =
    c.count_of.ensures.value ∙ ap (λ q. (meaning_of c.args.context).counts (c.args.sample.frame / q) c.args.sample.end) c.from.ensures in
    absent_is c.args.context c.args.sample.frame c.args.sample.end c.args.sample.output c.args.sample.channel loud c.requires.output.output (subst (λ k. k ≤ c.args.sample.channel) many c.if-sample-count_of.true)

pub present_value-requires-clause-present : goal.present_value-requires-clause-present
present_value-requires-clause-present c =
    let loud : muted (world_of c.args.context c.args.sample.frame).graph.value c.args.sample.end ≡ false =
    muted_here c.args.context c.requires.given (c.args.sample.frame / c.args.context.quantum) c.piece_at-stretch.result.now c.piece_at-stretch.ensures c.args.sample.end c.requires.output.end c.is_muted.result false c.is_muted.ensures c.if-is_muted.false in
    let many : c.count_of.result ≡ (meaning_of c.args.context).counts (c.args.sample.frame / c.args.context.quantum) c.args.sample.end =
    c.count_of.ensures.value ∙ ap (λ q. (meaning_of c.args.context).counts (c.args.sample.frame / q) c.args.sample.end) c.from.ensures in
    record {
      there = c.requires.there;
      output = c.requires.output;
      loud = loud;
      counted = count_known c.args.context c.args.sample.frame c.args.sample.end c.args.sample.output c.args.sample.channel c.requires.known loud;
      channel = subst (λ k. c.args.sample.channel < k) many c.if-sample-count_of.false;
    }

pub present_value-requires-clause-known : goal.present_value-requires-clause-known
present_value-requires-clause-known c =
    let loud : muted (world_of c.args.context c.args.sample.frame).graph.value c.args.sample.end ≡ false =
    muted_here c.args.context c.requires.given (c.args.sample.frame / c.args.context.quantum) c.piece_at-stretch.result.now c.piece_at-stretch.ensures c.args.sample.end c.requires.output.end c.is_muted.result false c.is_muted.ensures c.if-is_muted.false in
    let many : c.count_of.result ≡ (meaning_of c.args.context).counts (c.args.sample.frame / c.args.context.quantum) c.args.sample.end =
    c.count_of.ensures.value ∙ ap (λ q. (meaning_of c.args.context).counts (c.args.sample.frame / q) c.args.sample.end) c.from.ensures in
    kind_known c.args.context c.args.sample.frame c.args.sample.end c.args.sample.output c.args.sample.channel c.requires.known loud (subst (λ k. c.args.sample.channel < k) many c.if-sample-count_of.false)

pub returns : goal.returns
returns c =
    let loud : muted (world_of c.args.context c.args.sample.frame).graph.value c.args.sample.end ≡ false =
    muted_here c.args.context c.requires.given (c.args.sample.frame / c.args.context.quantum) c.piece_at-stretch.result.now c.piece_at-stretch.ensures c.args.sample.end c.requires.output.end c.is_muted.result false c.is_muted.ensures c.if-is_muted.false in
    let many : c.count_of.result ≡ (meaning_of c.args.context).counts (c.args.sample.frame / c.args.context.quantum) c.args.sample.end =
    c.count_of.ensures.value ∙ ap (λ q. (meaning_of c.args.context).counts (c.args.sample.frame / q) c.args.sample.end) c.from.ensures in
    let fits : FitsSigned w64 c.present_value.result = search rules in
    to_z-of_z _ _ fits ∙ c.present_value.ensures ∙ present_is c.args.context c.args.sample.frame c.args.sample.end c.args.sample.output c.args.sample.channel loud c.requires.output.output (subst (λ k. c.args.sample.channel < k) many c.if-sample-count_of.false)
