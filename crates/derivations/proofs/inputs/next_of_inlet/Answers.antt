use Rattle.std.proofs.Common.{ℕ, ◌≡◌, List, sym}
use Rattle.meaning.specs.declared.world.World.{World}
use Rattle.explain.specs.declared.facts.Key.{Key}
use Rattle.explain.specs.declared.facts.Fact.{Fact}
use Rattle.explain.specs.Accounts.{Account}
use Rattle.derivations.specs.Contexts.{tape_in}
use Rattle.derivations.specs.Groups.{input_of, edge_group, source_keys, inlet_group}
use Rattle.derivations.proofs.Answering.{none_as, some_as, on_some_as}
use Rattle.derivations.proofs.Inlets.{sources_in, inlet_groups}
use Rattle.derivations.proofs.Leading.{past_as, all_as, missing_in_as}
use Rattle.derivations.proofs.inputs.next_of_inlet.Goals as goal

pub next_led-requires-clause-sources : goal.next_led-requires-clause-sources
next_led-requires-clause-sources c =
    sources_in c.args.context.quantum (tape_in c.args.context) c.requires.ready.regular.valid c.args.frame c.args.node.0 c.piece_at-stretch.result.now c.piece_at-stretch.ensures c.requires.node c.part-edges.result.now c.part-edges.ensures

pub next_led-requires-clause-before : goal.next_led-requires-clause-before
next_led-requires-clause-before c =
    let q : ℕ = c.args.context.quantum in
    let tape : List World = tape_in c.args.context in
    let facts : List Fact = c.args.context.known.now in
    past_as q tape facts
    (λ a. inlet_group q tape a c.args.frame c.args.node.0 c.args.input)
    (λ a. edge_group (input_of c.args.node.0 c.args.input) (source_keys q tape a c.args.frame) c.part-edges.result.now)
    (inlet_groups q tape c.requires.ready.regular.valid c.args.frame c.args.node.0 c.piece_at-stretch.result.now c.piece_at-stretch.ensures c.requires.node c.part-edges.result.now c.part-edges.ensures c.args.input)
    c.args.place.now c.requires.before

pub returns : goal.returns
returns c =
    let q : ℕ = c.args.context.quantum in
    let tape : List World = tape_in c.args.context in
    let facts : List Fact = c.args.context.known.now in
    let groups : Account → ℕ → List Key = λ a. inlet_group q tape a c.args.frame c.args.node.0 c.args.input in
    let groups' : Account → ℕ → List Key = λ a. edge_group (input_of c.args.node.0 c.args.input) (source_keys q tape a c.args.frame) c.part-edges.result.now in
    let same : (a : Account) (g : ℕ) → groups' a g ≡ groups a g =
    λ a g. sym (inlet_groups q tape c.requires.ready.regular.valid c.args.frame c.args.node.0 c.piece_at-stretch.result.now c.piece_at-stretch.ensures c.requires.node c.part-edges.result.now c.part-edges.ensures c.args.input a g) in
    record {
      none = none_as c.next_led.result (all_as q tape facts groups' groups same) c.next_led.ensures.none;
      some = some_as c.next_led.result (missing_in_as q tape facts groups' groups same) c.next_led.ensures.some;
      after = on_some_as c.next_led.result (past_as q tape facts groups' groups same c.next_led.new.place) c.next_led.ensures.after;
    }
