use Rattle.std.proofs.Common.{ℕ, ◌<◌, ◌≤◌, length, List, slice_index_or, refl, sym, arith}
use Rattle.conn_graph.specs.declared.edges.Edge.{Edge}
use Rattle.conn_graph.specs.Ends.{reader_of}
use Rattle.meaning.specs.declared.world.World.{World}
use Rattle.explain.specs.declared.facts.Key.{Key}
use Rattle.explain.specs.declared.facts.Key.TheVariants.{Count}
use Rattle.explain.specs.declared.facts.Fact.{Fact}
use Rattle.derivations.specs.Contexts.{tape_in}
use Rattle.derivations.specs.Groups.{led, edge_group, input_of, one}
use Rattle.derivations.proofs.Filing.{no_edge, IsIn-get_or}
use Rattle.derivations.proofs.Leading.{next_past, all_past, missing_in, known_as, missing_as, edge_group_at, edge_group_past}
use Rattle.derivations.proofs.counts.next_input_count.Goals as goal

pub loop-group-init : goal.loop-group-init
loop-group-init c = record { here = refl; past = c.requires.before }

pub missing_count-requires : goal.missing_count-requires
missing_count-requires c =
    let edges : List Edge = c.args.edges.now in
    let g : ℕ = c.loop-group.group in
    let low : g < length edges = omega arith in
    record { there = c.requires.there; source = c.requires.sources (slice_index_or edges g no_edge) (IsIn-get_or edges g no_edge low) }

pub loop-group-preserved : goal.loop-group-preserved
loop-group-preserved c =
    let q : ℕ = c.args.context.quantum in
    let tape : List World = tape_in c.args.context in
    let facts : List Fact = c.args.context.known.now in
    let edges : List Edge = c.args.edges.now in
    let g : ℕ = c.loop-group.group in
    let low : g < length edges = omega arith in
    let key : Edge → List Key = λ x. one (Count c.args.quantum (reader_of x.from.0) x.output) in
    let target = input_of c.args.node.0 0 in
    record {
      here = omega arith;
      past = next_past q tape facts (λ a. edge_group target key edges) c.loop-group.place g c.loop-group.invariant.here c.loop-group.invariant.past
          (known_as q tape facts (λ a. led target key (slice_index_or edges g no_edge)) (λ a. edge_group target key edges g) (λ a. sym (edge_group_at target key edges g no_edge low)) c.in-None.ensures.none);
    }

pub returns-in-Some : goal.returns-in-Some
returns-in-Some c =
    let q : ℕ = c.args.context.quantum in
    let tape : List World = tape_in c.args.context in
    let facts : List Fact = c.args.context.known.now in
    let edges : List Edge = c.args.edges.now in
    let g : ℕ = c.loop-group.group in
    let low : g < length edges = omega arith in
    let key : Edge → List Key = λ x. one (Count c.args.quantum (reader_of x.from.0) x.output) in
    let target = input_of c.args.node.0 0 in
    record {
      none = tt;
      some = missing_in q tape facts (λ a. edge_group target key edges) g c.in-Some.key
          (missing_as q tape facts (λ a. led target key (slice_index_or edges g no_edge)) (λ a. edge_group target key edges g) (λ a. sym (edge_group_at target key edges g no_edge low)) c.in-Some.key c.in-Some.ensures.some);
      after = c.loop-group.invariant.past;
    }

pub returns : goal.returns
returns c =
    let q : ℕ = c.args.context.quantum in
    let tape : List World = tape_in c.args.context in
    let facts : List Fact = c.args.context.known.now in
    let edges : List Edge = c.args.edges.now in
    let key : Edge → List Key = λ x. one (Count c.args.quantum (reader_of x.from.0) x.output) in
    let target = input_of c.args.node.0 0 in
    let here = c.loop-group.invariant.here in
    let past_end : length edges ≤ c.loop-group.place.group = omega arith in
    record {
      none = all_past q tape facts (λ a. edge_group target key edges) c.loop-group.place (length edges) past_end (λ a g l. edge_group_past target key edges g l) c.loop-group.invariant.past;
      some = tt;
      after = tt;
    }
