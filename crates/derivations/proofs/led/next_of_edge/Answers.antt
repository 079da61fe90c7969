use Rattle.std.proofs.Common.{ℕ, ◌≡◌, List, [], take, sym, ◌∙◌, ap}
use Rattle.std.specs.Prelude.{if◌then◌else◌}
use Rattle.meaning.specs.declared.world.World.{World}
use Rattle.explain.specs.declared.facts.Key.{Key}
use Rattle.explain.specs.declared.facts.Fact.{Fact}
use Rattle.explain.specs.Accounts.{Account}
use Rattle.derivations.specs.Contexts.{tape_in}
use Rattle.derivations.specs.Groups.{led, source_keys}
use Rattle.derivations.proofs.Answering.{none_as, some_as, on_some_as}
use Rattle.derivations.proofs.Leading.{known_as, missing_as, nothing_known}
use Rattle.derivations.proofs.led.next_of_edge.Goals as goal

pub next_carried-requires : goal.next_carried-requires
next_carried-requires c =
    let q : ℕ = c.args.context.quantum in
    let tape : List World = tape_in c.args.context in
    let facts : List Fact = c.args.context.known.now in
    let keys : Account → List Key = λ a. source_keys q tape a c.args.frame c.args.edge in
    let same : (a : Account) → led c.args.target (source_keys q tape a c.args.frame) c.args.edge ≡ keys a = λ a. ap (λ b. if b then keys a else []) (sym c.is_same.ensures ∙ c.if-is_same.true) in
    record {
      ready = c.requires.ready;
      there = c.requires.there;
      output = c.requires.source;
      before = known_as q tape facts (λ a. take c.args.item.now (led c.args.target (source_keys q tape a c.args.frame) c.args.edge)) (λ a. take c.args.item.now (keys a)) (λ a. ap (take c.args.item.now) (same a)) c.requires.before;
    }

pub returns-then-is_same : goal.returns-then-is_same
returns-then-is_same c =
    let q : ℕ = c.args.context.quantum in
    let tape : List World = tape_in c.args.context in
    let facts : List Fact = c.args.context.known.now in
    let more : ℕ = c.next_carried.new.item in
    let keys : Account → List Key = λ a. source_keys q tape a c.args.frame c.args.edge in
    let keys' : Account → List Key = λ a. led c.args.target (source_keys q tape a c.args.frame) c.args.edge in
    let same : (a : Account) → keys a ≡ keys' a = λ a. sym (ap (λ b. if b then keys a else []) (sym c.is_same.ensures ∙ c.if-is_same.true)) in
    record {
      none = none_as c.next_carried.result (known_as q tape facts keys keys' same) c.next_carried.ensures.none;
      some = some_as c.next_carried.result (missing_as q tape facts keys keys' same) c.next_carried.ensures.some;
      after = on_some_as c.next_carried.result (known_as q tape facts (λ a. take more (keys a)) (λ a. take more (keys' a)) (λ a. ap (take more) (same a))) c.next_carried.ensures.after;
    }

pub returns-else-is_same : goal.returns-else-is_same
returns-else-is_same c =
    let q : ℕ = c.args.context.quantum in
    let tape : List World = tape_in c.args.context in
    let facts : List Fact = c.args.context.known.now in
    let keys : Account → List Key = λ a. source_keys q tape a c.args.frame c.args.edge in
    let keys' : Account → List Key = λ a. led c.args.target (source_keys q tape a c.args.frame) c.args.edge in
    record {
      none = known_as q tape facts (λ a. []) keys' (λ a. sym (ap (λ b. if b then keys a else []) (sym c.is_same.ensures ∙ c.if-is_same.false))) (nothing_known q tape facts);
      some = tt;
      after = tt;
    }
