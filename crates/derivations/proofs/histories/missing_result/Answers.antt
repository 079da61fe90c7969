use Rattle.std.proofs.Common.{ℕ, List, [], ◌∷◌, sym, ◌∙◌, ap}
use Rattle.std.specs.Prelude.{if◌then◌else◌}
use Rattle.meaning.specs.declared.world.World.{World}
use Rattle.explain.specs.declared.facts.Key.{Key}
use Rattle.explain.specs.declared.facts.Key.TheVariants.{Hist}
use Rattle.explain.specs.declared.facts.Fact.{Fact}
use Rattle.explain.specs.Accounts.{Account}
use Rattle.explain.specs.Facts.{IsKeyOf}
use Rattle.derivations.specs.Contexts.{tape_in}
use Rattle.derivations.specs.Groups.{result_keys}
use Rattle.derivations.proofs.Heard.{IsAnswer, single_answer}
use Rattle.derivations.proofs.Leading.{known_as, nothing_known}
use Rattle.derivations.proofs.histories.missing_result.Goals as goal

pub returns-then-feeds_back : goal.returns-then-feeds_back
returns-then-feeds_back c =
    let q : ℕ = c.args.context.quantum in
    let tape : List World = tape_in c.args.context in
    let facts : List Fact = c.args.context.known.now in
    let key : Key = Hist c.args.heard.frame c.args.heard.node c.args.heard.channel in
    let keys : Account → List Key = λ a. result_keys c.args.heard.frame c.args.heard.node.0 c.args.heard.channel c.args.kind.now c.args.ago in
    let there : IsKeyOf q tape key = record { quantum = c.requires.there; place = (c.requires.node, c.requires.history, c.requires.channel) } in
    let answer : IsAnswer q tape facts keys c.missing.result =
    single_answer q tape facts keys key (λ a. sym (ap (λ b. if b then key ∷ [] else []) (sym c.feeds_back.ensures ∙ c.if-feeds_back.true))) there c.missing.result c.missing.ensures.none c.missing.ensures.some in
    record { none = answer.none; some = answer.some }

pub returns-else-feeds_back : goal.returns-else-feeds_back
returns-else-feeds_back c =
    let q : ℕ = c.args.context.quantum in
    let tape : List World = tape_in c.args.context in
    let facts : List Fact = c.args.context.known.now in
    let key : Key = Hist c.args.heard.frame c.args.heard.node c.args.heard.channel in
    let keys : Account → List Key = λ a. result_keys c.args.heard.frame c.args.heard.node.0 c.args.heard.channel c.args.kind.now c.args.ago in
    record { none = known_as q tape facts (λ a. []) keys (λ a. sym (ap (λ b. if b then key ∷ [] else []) (sym c.feeds_back.ensures ∙ c.if-feeds_back.false))) (nothing_known q tape facts); some = tt }
