use Rattle.std.proofs.Common.{ℕ, List}
use Rattle.meaning.specs.declared.world.World.{World}
use Rattle.explain.specs.declared.facts.Key.{Key}
use Rattle.explain.specs.declared.facts.Fact.{Fact}
use Rattle.explain.specs.Accounts.{Account}
use Rattle.derivations.specs.Contexts.{tape_in}
use Rattle.derivations.specs.Groups.{input_keys, result_keys}
use Rattle.derivations.proofs.Answering.{none_as, some_as}
use Rattle.derivations.proofs.Remembering.{both_known, first_missing, second_missing}
use Rattle.derivations.proofs.histories.missing_ago.Goals as goal

pub returns-in-Some : goal.returns-in-Some
returns-in-Some c =
    let q : ℕ = c.args.context.quantum in
    let tape : List World = tape_in c.args.context in
    let facts : List Fact = c.args.context.known.now in
    let inputs : Account → List Key = λ a. input_keys q tape a c.args.heard.frame c.args.heard.node.0 c.args.heard.channel c.args.kind.now c.args.ago in
    let results : Account → List Key = λ a. result_keys c.args.heard.frame c.args.heard.node.0 c.args.heard.channel c.args.kind.now c.args.ago in
    record { none = tt; some = first_missing q tape facts inputs results c.in-Some.key c.in-Some.ensures.some }

pub returns-in-None : goal.returns-in-None
returns-in-None c =
    let q : ℕ = c.args.context.quantum in
    let tape : List World = tape_in c.args.context in
    let facts : List Fact = c.args.context.known.now in
    let inputs : Account → List Key = λ a. input_keys q tape a c.args.heard.frame c.args.heard.node.0 c.args.heard.channel c.args.kind.now c.args.ago in
    let results : Account → List Key = λ a. result_keys c.args.heard.frame c.args.heard.node.0 c.args.heard.channel c.args.kind.now c.args.ago in
    record {
      none = none_as c.missing_result.result (both_known q tape facts inputs results c.in-None.ensures.none) c.missing_result.ensures.none;
      some = some_as c.missing_result.result (second_missing q tape facts inputs results) c.missing_result.ensures.some;
    }
