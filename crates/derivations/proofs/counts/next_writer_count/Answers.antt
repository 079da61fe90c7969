use Rattle.std.proofs.Common.{ℕ, ◌≡◌, ◌<◌, ◌≤◌, ◌+◌, ◌-◌, ◌/◌, List, refl, sym, ap, ap₂, subst, arith}
use Rattle.std.specs.Prelude.{if◌then◌else◌}
use Rattle.node_table.specs.declared.nodes.Attrs.{Attrs}
use Rattle.conn_graph.specs.Ends.{writer_of, in_cycle}
use Rattle.meaning.specs.declared.world.World.{World}
use Rattle.meaning.specs.World.{node_at}
use Rattle.explain.specs.declared.facts.Key.{Key}
use Rattle.explain.specs.declared.facts.Key.TheVariants.{Count}
use Rattle.explain.specs.declared.facts.Fact.{Fact}
use Rattle.explain.specs.Accounts.{Account}
use Rattle.derivations.specs.Contexts.{tape_in}
use Rattle.derivations.specs.Groups.{writer_count_group}
use Rattle.derivations.specs.Searches.{IsMissingIn}
use Rattle.derivations.proofs.Counting.{writer_group_past}
use Rattle.derivations.proofs.Leading.{next_past, all_past, missing_in}
use Rattle.derivations.proofs.Worlds.{world_is}
use Rattle.derivations.proofs.Writers.{attrs_are, node_low, delay_there, writer_known, writer_missing}
use Rattle.derivations.proofs.counts.next_writer_count.Goals as goal

pub counted_until-end-requires-clause-node : goal.counted_until-end-requires-clause-node
counted_until-end-requires-clause-node c =
    node_low c.args.context.quantum c.requires.ready.some (tape_in c.args.context) c.requires.ready.regular c.args.context.known.now c.args.quantum c.args.node.0 c.args.stretch.now c.requires.piece c.requires.node c.requires.delay

pub counted_until-end-requires-clause-delay : goal.counted_until-end-requires-clause-delay
counted_until-end-requires-clause-delay c =
    delay_there c.args.context.quantum c.requires.ready.some (tape_in c.args.context) c.requires.ready.regular c.args.context.known.now c.args.quantum c.args.node.0 c.args.stretch.now c.requires.piece c.requires.node c.requires.delay

pub loop-group-init : goal.loop-group-init
loop-group-init c = record { here = refl; past = c.requires.before }

pub loop-group-preserved : goal.loop-group-preserved
loop-group-preserved c =
    let q : ℕ = c.args.context.quantum in
    let tape : List World = tape_in c.args.context in
    let facts : List Fact = c.args.context.known.now in
    let j : ℕ = c.args.quantum in
    let n : ℕ = c.args.node.0 in
    let w : World = c.args.stretch.now.piece.world in
    let first : ℕ = c.attrs.result.birth / c.from.result in
    let end : ℕ = c.counted_until-end.result in
    let birth : first ≡ (node_at w n).attrs.birth / q = ap₂ (λ (a b : ℕ). a / b) (ap (λ (x : Attrs). x.birth) (sym (attrs_are w.nodes n c.attrs.result c.attrs.ensures.value))) c.from.ensures in
    let groups : Account → ℕ → List Key = λ a. writer_count_group q tape a j n in
    let until : end ≡ (if in_cycle w.graph.value n then j else j + 1) = c.counted_until-end.ensures in
    let left = c.saturating_sub-group-end.ensures in
    let g : ℕ = c.loop-group.group in
    let low : g < end - first = omega (arith, left) in
    record {
      here = omega arith;
      past = next_past q tape facts groups c.loop-group.place g c.loop-group.invariant.here c.loop-group.invariant.past (writer_known c.args.context.quantum c.requires.ready.some (tape_in c.args.context) c.requires.ready.regular c.args.context.known.now c.args.quantum c.args.node.0 c.args.stretch.now c.requires.piece c.requires.node c.requires.delay first end birth until g low c.in-None.ensures.none);
    }

pub returns-in-Some : goal.returns-in-Some
returns-in-Some c =
    let q : ℕ = c.args.context.quantum in
    let tape : List World = tape_in c.args.context in
    let facts : List Fact = c.args.context.known.now in
    let j : ℕ = c.args.quantum in
    let n : ℕ = c.args.node.0 in
    let w : World = c.args.stretch.now.piece.world in
    let first : ℕ = c.attrs.result.birth / c.from.result in
    let end : ℕ = c.counted_until-end.result in
    let birth : first ≡ (node_at w n).attrs.birth / q = ap₂ (λ (a b : ℕ). a / b) (ap (λ (x : Attrs). x.birth) (sym (attrs_are w.nodes n c.attrs.result c.attrs.ensures.value))) c.from.ensures in
    let groups : Account → ℕ → List Key = λ a. writer_count_group q tape a j n in
    let until : end ≡ (if in_cycle w.graph.value n then j else j + 1) = c.counted_until-end.ensures in
    let left = c.saturating_sub-group-end.ensures in
    let g : ℕ = c.loop-group.group in
    let low : g < end - first = omega (arith, left) in
    record {
      none = tt;
      some = subst (IsMissingIn q tape facts groups) (sym c.in-Some.ensures.some.0) (missing_in q tape facts groups g (Count (first + g) (writer_of n) 0) (writer_missing c.args.context.quantum c.requires.ready.some (tape_in c.args.context) c.requires.ready.regular c.args.context.known.now c.args.quantum c.args.node.0 c.args.stretch.now c.requires.piece c.requires.node c.requires.delay first end birth until g low c.in-Some.ensures.some.1));
      after = c.loop-group.invariant.past;
    }

pub returns : goal.returns
returns c =
    let q : ℕ = c.args.context.quantum in
    let tape : List World = tape_in c.args.context in
    let facts : List Fact = c.args.context.known.now in
    let j : ℕ = c.args.quantum in
    let n : ℕ = c.args.node.0 in
    let w : World = c.args.stretch.now.piece.world in
    let first : ℕ = c.attrs.result.birth / c.from.result in
    let end : ℕ = c.counted_until-end.result in
    let birth : first ≡ (node_at w n).attrs.birth / q = ap₂ (λ (a b : ℕ). a / b) (ap (λ (x : Attrs). x.birth) (sym (attrs_are w.nodes n c.attrs.result c.attrs.ensures.value))) c.from.ensures in
    let groups : Account → ℕ → List Key = λ a. writer_count_group q tape a j n in
    let until : end ≡ (if in_cycle w.graph.value n then j else j + 1) = c.counted_until-end.ensures in
    let left = c.saturating_sub-group-end.ensures in
    let here = c.loop-group.invariant.here in
    let past_end : end - first ≤ c.loop-group.place.group = omega (arith, left) in
    record {
      none = all_past q tape facts groups c.loop-group.place (end - first) past_end (λ a g l. writer_group_past q tape a j w (world_is tape j w c.requires.piece.there) n g first end birth until l) c.loop-group.invariant.past;
      some = tt;
      after = tt;
    }
