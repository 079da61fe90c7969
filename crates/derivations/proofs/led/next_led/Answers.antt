use Rattle.std.proofs.Common.{ℕ, ◌≡◌, ◌<◌, ◌≤◌, length, List, take, slice_index_or, refl, sym, ◌∙◌, ap, arith}
use Rattle.conn_graph.specs.declared.edges.Edge.{Edge}
use Rattle.meaning.specs.declared.world.World.{World}
use Rattle.explain.specs.declared.facts.Key.{Key}
use Rattle.explain.specs.declared.facts.Fact.{Fact}
use Rattle.explain.specs.Accounts.{Account}
use Rattle.derivations.specs.Contexts.{tape_in}
use Rattle.derivations.specs.Groups.{led, edge_group, source_keys}
use Rattle.derivations.proofs.Filing.{no_edge, IsIn-get_or}
use Rattle.derivations.proofs.Leading.{next_past, item_past, all_past, missing_in, known_as, missing_as, edge_group_at, edge_group_past}
use Rattle.derivations.proofs.led.next_led.Goals as goal

pub loop-group-init : goal.loop-group-init
loop-group-init c = record { here = refl; past = c.requires.before }

pub next_of_edge-requires : goal.next_of_edge-requires
next_of_edge-requires c =
    let q : ℕ = c.args.context.quantum in
    let tape : List World = tape_in c.args.context in
    let facts : List Fact = c.args.context.known.now in
    let edges : List Edge = c.args.edges.now in
    let g : ℕ = c.loop-group.group in
    let e : Edge = slice_index_or edges g no_edge in
    let low : g < length edges = omega arith in
    let groups : Account → ℕ → List Key = λ a. edge_group c.args.target (source_keys q tape a c.args.frame) edges in
    let item : ℕ = c.loop-group.place.item in
    let here : (a : Account) → groups a c.loop-group.place.group ≡ led c.args.target (source_keys q tape a c.args.frame) e =
    λ a. ap (groups a) c.loop-group.invariant.here ∙ edge_group_at c.args.target (source_keys q tape a c.args.frame) edges g no_edge low in
    record {
      ready = c.requires.ready;
      there = c.requires.there;
      source = c.requires.sources e (IsIn-get_or edges g no_edge low);
      before = known_as q tape facts (λ a. take item (groups a c.loop-group.place.group)) (λ a. take item (led c.args.target (source_keys q tape a c.args.frame) e)) (λ a. ap (take item) (here a)) c.loop-group.invariant.past.part;
    }

pub loop-group-preserved : goal.loop-group-preserved
loop-group-preserved c =
    let q : ℕ = c.args.context.quantum in
    let tape : List World = tape_in c.args.context in
    let facts : List Fact = c.args.context.known.now in
    let edges : List Edge = c.args.edges.now in
    let g : ℕ = c.loop-group.group in
    let e : Edge = slice_index_or edges g no_edge in
    let low : g < length edges = omega arith in
    let groups : Account → ℕ → List Key = λ a. edge_group c.args.target (source_keys q tape a c.args.frame) edges in
    record {
      here = omega arith;
      past = next_past q tape facts groups c.loop-group.place g c.loop-group.invariant.here c.loop-group.invariant.past
          (known_as q tape facts (λ a. led c.args.target (source_keys q tape a c.args.frame) e) (λ a. groups a g) (λ a. sym (edge_group_at c.args.target (source_keys q tape a c.args.frame) edges g no_edge low)) c.in-None.ensures.none);
    }

pub returns-in-Some : goal.returns-in-Some
returns-in-Some c =
    let q : ℕ = c.args.context.quantum in
    let tape : List World = tape_in c.args.context in
    let facts : List Fact = c.args.context.known.now in
    let edges : List Edge = c.args.edges.now in
    let g : ℕ = c.loop-group.group in
    let e : Edge = slice_index_or edges g no_edge in
    let low : g < length edges = omega arith in
    let groups : Account → ℕ → List Key = λ a. edge_group c.args.target (source_keys q tape a c.args.frame) edges in
    let keys : Account → List Key = λ a. led c.args.target (source_keys q tape a c.args.frame) e in
    let at : (a : Account) → keys a ≡ groups a g = λ a. sym (edge_group_at c.args.target (source_keys q tape a c.args.frame) edges g no_edge low) in
    let more : ℕ = c.next_of_edge.new.item in
    let group : ℕ = c.loop-group.place.group in
    record {
      none = tt;
      some = missing_in q tape facts groups g c.in-Some.key (missing_as q tape facts keys (λ a. groups a g) at c.in-Some.key c.in-Some.ensures.some);
      after = item_past q tape facts groups group c.loop-group.place.item more c.loop-group.invariant.past
          (known_as q tape facts (λ a. take more (keys a)) (λ a. take more (groups a group)) (λ a. ap (take more) (at a ∙ sym (ap (groups a) c.loop-group.invariant.here))) c.in-Some.ensures.after);
    }

pub returns : goal.returns
returns c =
    let q : ℕ = c.args.context.quantum in
    let tape : List World = tape_in c.args.context in
    let facts : List Fact = c.args.context.known.now in
    let edges : List Edge = c.args.edges.now in
    let here = c.loop-group.invariant.here in
    let past_end : length edges ≤ c.loop-group.place.group = omega arith in
    record {
      none = all_past q tape facts (λ a. edge_group c.args.target (source_keys q tape a c.args.frame) edges) c.loop-group.place (length edges) past_end
          (λ a g l. edge_group_past c.args.target (source_keys q tape a c.args.frame) edges g l) c.loop-group.invariant.past;
      some = tt;
      after = tt;
    }
