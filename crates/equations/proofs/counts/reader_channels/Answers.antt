use Rattle.std.proofs.Common.{rules, ℕ, suc, ◌≡◌, ◌+◌, ◌-◌, ◌/◌, ◌<◌, ◌≤◌, sym, ◌∙◌, ap, ap₂, subst, arith}
use Rattle.std.specs.Prelude.{if◌then◌else◌, max}
use Rattle.mix_rules.specs.Counts.{greatest}
use Rattle.node_table.specs.declared.nodes.Attrs.{Attrs}
use Rattle.conn_graph.specs.Ends.{writer_of, in_cycle}
use Rattle.meaning.specs.declared.world.World.{World}
use Rattle.meaning.specs.Lists.{since}
use Rattle.meaning.specs.World.{node_at}
use Rattle.meaning.specs.Counts.{world_in}
use Rattle.derivations.specs.declared.places.Context.{Context}
use Rattle.derivations.specs.declared.tape.Stretch.{Stretch}
use Rattle.derivations.specs.Contexts.{tape_in}
use Rattle.equations.specs.Given.{meaning_of}
use Rattle.equations.proofs.Adding.{greatest_since}
use Rattle.equations.proofs.Counting.{writer_known, reader_is}
use Rattle.equations.proofs.InForce.{is, attrs}
use Rattle.equations.proofs.counts.reader_channels.Goals as goal

pub count_of-requires-clause-known : goal.count_of-requires-clause-known
count_of-requires-clause-known c =
    let x : Context = c.args.context in
    let j : ℕ = c.args.quantum in
    let n : ℕ = c.args.node.0 in
    let s : Stretch = c.piece-stretch.result.now in
    let first : ℕ = c.attrs.result.birth / c.from.result in
    let first_is : first ≡ (node_at (world_in (tape_in x) j) n).attrs.birth / x.quantum =
    ap₂ (λ b q. b / q) (sym (ap (λ (a : Attrs). a.birth) (attrs x c.requires.given j s c.piece-stretch.ensures.piece n c.attrs.result c.requires.node c.attrs.ensures.value))) c.from.ensures in
    let until : c.counted_until-earlier-end.result ≡ (if in_cycle (world_in (tape_in x) j).graph.value n then j else j + 1) =
    c.counted_until-earlier-end.ensures ∙ ap (λ (y : World). if in_cycle y.graph.value n then j else j + 1) (sym (is x c.requires.given j s c.piece-stretch.ensures.piece)) in
    writer_known x j n c.requires.known c.loop-earlier.earlier (subst (λ k. k ≤ c.loop-earlier.earlier) first_is c.loop-earlier.auto.earlier) (subst (λ k. c.loop-earlier.earlier < k) until c.loop-earlier-test.true)

pub loop-earlier-preserved : goal.loop-earlier-preserved
loop-earlier-preserved c =
    let first : ℕ = c.attrs.result.birth / c.from.result in
    let earlier : ℕ = c.loop-earlier.earlier in
    let at : ℕ → ℕ = λ k. (meaning_of c.args.context).counts k (writer_of c.args.node.0) in
    let low = c.loop-earlier.auto.earlier in
    let below = c.loop-earlier-test.true in
    let greater : c.max-most.result ≡ max c.loop-earlier.most c.count_of.result = search rules in
    let long : earlier + 1 - first ≡ suc (earlier - first) = omega (arith, low) in
    let place : first + (earlier - first) ≡ earlier = omega (arith, low) in
    record {
      value =
          greater ∙ ap₂ (λ (a b : ℕ). max a b) c.loop-earlier.invariant.value c.count_of.ensures.value
          ∙ sym (ap (λ m. greatest (since at first m)) long ∙ greatest_since at first (earlier - first) ∙ ap (λ k. max (greatest (since at first (earlier - first))) (at k)) place);
      here = omega (arith, below);
    }

pub returns : goal.returns
returns c =
    let x : Context = c.args.context in
    let j : ℕ = c.args.quantum in
    let n : ℕ = c.args.node.0 in
    let s : Stretch = c.piece-stretch.result.now in
    let first : ℕ = c.attrs.result.birth / c.from.result in
    let first_is : first ≡ (node_at (world_in (tape_in x) j) n).attrs.birth / x.quantum =
    ap₂ (λ b q. b / q) (sym (ap (λ (a : Attrs). a.birth) (attrs x c.requires.given j s c.piece-stretch.ensures.piece n c.attrs.result c.requires.node c.attrs.ensures.value))) c.from.ensures in
    let until : c.counted_until-earlier-end.result ≡ (if in_cycle (world_in (tape_in x) j).graph.value n then j else j + 1) =
    c.counted_until-earlier-end.ensures ∙ ap (λ (y : World). if in_cycle y.graph.value n then j else j + 1) (sym (is x c.requires.given j s c.piece-stretch.ensures.piece)) in
    let at : ℕ → ℕ = λ k. (meaning_of c.args.context).counts k (writer_of c.args.node.0) in
    let low = c.loop-earlier.auto.earlier in
    let past = c.loop-earlier-test.false in
    let here = c.loop-earlier.invariant.here in
    let all : c.loop-earlier.earlier - first ≡ c.counted_until-earlier-end.result - first = omega (arith, low, past, here) in
    c.loop-earlier.invariant.value ∙ ap (λ m. greatest (since at first m)) all ∙ ap₂ (λ a b. greatest (since at a (b - a))) first_is until ∙ reader_is x j n
