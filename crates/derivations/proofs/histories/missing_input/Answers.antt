use Rattle.std.proofs.Common.{ℕ, ◌≡◌, List, [], sym, ◌∙◌, ap}
use Rattle.std.specs.Prelude.{if◌then◌else◌}
use Rattle.meaning.specs.declared.world.World.{World}
use Rattle.explain.specs.declared.facts.Key.{Key}
use Rattle.explain.specs.declared.facts.Fact.{Fact}
use Rattle.explain.specs.Accounts.{Account}
use Rattle.explain.specs.Needs.{heard_needs}
use Rattle.derivations.specs.Contexts.{tape_in}
use Rattle.derivations.specs.Groups.{input_keys}
use Rattle.derivations.proofs.Answering.{none_as, some_as}
use Rattle.derivations.proofs.Leading.{known_as, missing_as, nothing_known}
use Rattle.derivations.proofs.histories.missing_input.Goals as goal

pub returns-then-hears : goal.returns-then-hears
returns-then-hears c =
    let q : ℕ = c.args.context.quantum in
    let tape : List World = tape_in c.args.context in
    let facts : List Fact = c.args.context.known.now in
    let keys : Account → List Key = λ a. heard_needs q tape a c.args.heard.frame c.args.heard.node.0 c.args.heard.channel in
    let keys' : Account → List Key = λ a. input_keys q tape a c.args.heard.frame c.args.heard.node.0 c.args.heard.channel c.args.kind.now c.args.ago in
    let same : (a : Account) → keys a ≡ keys' a = λ a. sym (ap (λ b. if b then keys a else []) (sym c.hears.ensures ∙ c.if-hears.true)) in
    record {
      none = none_as c.missing_heard.result (known_as q tape facts keys keys' same) c.missing_heard.ensures.none;
      some = some_as c.missing_heard.result (missing_as q tape facts keys keys' same) c.missing_heard.ensures.some;
    }

pub returns-else-hears : goal.returns-else-hears
returns-else-hears c =
    let q : ℕ = c.args.context.quantum in
    let tape : List World = tape_in c.args.context in
    let facts : List Fact = c.args.context.known.now in
    let keys : Account → List Key = λ a. heard_needs q tape a c.args.heard.frame c.args.heard.node.0 c.args.heard.channel in
    let keys' : Account → List Key = λ a. input_keys q tape a c.args.heard.frame c.args.heard.node.0 c.args.heard.channel c.args.kind.now c.args.ago in
    record { none = known_as q tape facts (λ a. []) keys' (λ a. sym (ap (λ b. if b then keys a else []) (sym c.hears.ensures ∙ c.if-hears.false))) (nothing_known q tape facts); some = tt }
