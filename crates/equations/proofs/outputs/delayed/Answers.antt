use Rattle.std.proofs.Common.{rules, ℕ, ◌≡◌, ◌+◌, ◌-◌, ◌/◌, ◌<◌, ◌≤◌, length, FitsSigned, true, sym, ◌∙◌, ap, subst, arith}
use Rattle.std.specs.Int.{w32, w64, w128}
use Rattle.std.proofs.lemmas.Int.{to_z-of_z}
use Rattle.wa_base.specs.Numbers.{sat}
use Rattle.lane_kern.specs.Blocks.{at}
use Rattle.node_table.specs.Kinds.{is_delay_kind}
use Rattle.conn_graph.specs.Ends.{writer_of}
use Rattle.meaning.specs.declared.world.World.{World}
use Rattle.meaning.specs.World.{node_at, kind_of}
use Rattle.explain.specs.Needs.{carried}
use Rattle.derivations.specs.Contexts.{tape_in, world_of}
use Rattle.derivations.proofs.Writers.{node_low, delay_there}
use Rattle.equations.specs.Given.{meaning_of, AllKnown}
use Rattle.equations.proofs.Aging.{birth_is, born_low}
use Rattle.equations.proofs.Delaying.{d, lasts, carried_known, young}
use Rattle.equations.proofs.Ending.{node_in}
use Rattle.equations.proofs.InForce.{is, attrs}
use Rattle.equations.proofs.InForce.{node_low as node_here}
use Rattle.equations.proofs.Later.{given_later}
use Rattle.equations.proofs.outputs.delayed.Goals as goal

pub delay_frames-frames-requires-clause-node : goal.delay_frames-frames-requires-clause-node
delay_frames-frames-requires-clause-node c =
    let f : ℕ = c.args.sample.frame in
    let n : ℕ = c.args.sample.end.node.0 in
    let j : ℕ = f / c.args.context.quantum in
    let there : n < length (world_of c.args.context f).nodes = node_in c.args.context c.requires.given j c.args.stretch.now c.requires.piece c.args.sample.end c.requires.present.output.end in
    node_low c.args.context.quantum c.requires.given.ready.some (tape_in c.args.context) c.requires.given.ready.regular c.args.context.known.now j n c.args.stretch.now c.requires.piece
    (node_here c.args.context c.requires.given j c.args.stretch.now c.requires.piece n there)
    (subst (λ (y : World). is_delay_kind (kind_of y n) ≡ true) (is c.args.context c.requires.given j c.args.stretch.now c.requires.piece) c.requires.delay)

pub delay_frames-frames-requires-clause-delay : goal.delay_frames-frames-requires-clause-delay
delay_frames-frames-requires-clause-delay c =
    let f : ℕ = c.args.sample.frame in
    let n : ℕ = c.args.sample.end.node.0 in
    let j : ℕ = f / c.args.context.quantum in
    let there : n < length (world_of c.args.context f).nodes = node_in c.args.context c.requires.given j c.args.stretch.now c.requires.piece c.args.sample.end c.requires.present.output.end in
    delay_there c.args.context.quantum c.requires.given.ready.some (tape_in c.args.context) c.requires.given.ready.regular c.args.context.known.now j n c.args.stretch.now c.requires.piece
    (node_here c.args.context c.requires.given j c.args.stretch.now c.requires.piece n there)
    (subst (λ (y : World). is_delay_kind (kind_of y n) ≡ true) (is c.args.context c.requires.given j c.args.stretch.now c.requires.piece) c.requires.delay)

pub attrs-attrs-requires : goal.attrs-attrs-requires
attrs-attrs-requires c =
    let f : ℕ = c.args.sample.frame in
    let n : ℕ = c.args.sample.end.node.0 in
    let j : ℕ = f / c.args.context.quantum in
    let there : n < length (world_of c.args.context f).nodes = node_in c.args.context c.requires.given j c.args.stretch.now c.requires.piece c.args.sample.end c.requires.present.output.end in
    node_here c.args.context c.requires.given j c.args.stretch.now c.requires.piece n there

pub overflow_sub-sample : goal.overflow_sub-sample
overflow_sub-sample c =
    let f : ℕ = c.args.sample.frame in
    let n : ℕ = c.args.sample.end.node.0 in
    let j : ℕ = f / c.args.context.quantum in
    let there : n < length (world_of c.args.context f).nodes = node_in c.args.context c.requires.given j c.args.stretch.now c.requires.piece c.args.sample.end c.requires.present.output.end in
    born_low c.args.context c.requires.given f n c.requires.present.there there c.args.stretch.now c.requires.piece c.attrs-attrs.result c.attrs-attrs.ensures.value

pub returns-then-sample-attrs : goal.returns-then-sample-attrs
returns-then-sample-attrs c =
    let f : ℕ = c.args.sample.frame in
    let n : ℕ = c.args.sample.end.node.0 in
    let j : ℕ = f / c.args.context.quantum in
    let there : n < length (world_of c.args.context f).nodes = node_in c.args.context c.requires.given j c.args.stretch.now c.requires.piece c.args.sample.end c.requires.present.output.end in
    let time : FitsSigned w32 c.param_of-time.result = search rules in
    let long : c.delay_frames-frames.result ≡ d c.args.context c.requires.given f n =
    lasts c.args.context c.requires.given f n c.args.stretch.now c.requires.piece _ c.delay_frames-frames.result (to_z-of_z _ _ time ∙ c.param_of-time.ensures) c.delay_frames-frames.ensures in
    let birth = birth_is c.args.context c.requires.given f n c.requires.present.there there c.args.stretch.now c.requires.piece c.attrs-attrs.result c.attrs-attrs.ensures.value in
    let low = born_low c.args.context c.requires.given f n c.requires.present.there there c.args.stretch.now c.requires.piece c.attrs-attrs.result c.attrs-attrs.ensures.value in
    let early = c.if-sample-attrs.true in
    young c.args.context c.requires.given f n c.args.sample.channel (omega (arith, early, long, birth, low))

pub carried_by-carried-requires-clause-known : goal.carried_by-carried-requires-clause-known
carried_by-carried-requires-clause-known c =
    let f : ℕ = c.args.sample.frame in
    let n : ℕ = c.args.sample.end.node.0 in
    let j : ℕ = f / c.args.context.quantum in
    let there : n < length (world_of c.args.context f).nodes = node_in c.args.context c.requires.given j c.args.stretch.now c.requires.piece c.args.sample.end c.requires.present.output.end in
    let time : FitsSigned w32 c.param_of-time.result = search rules in
    let long : c.delay_frames-frames.result ≡ d c.args.context c.requires.given f n =
    lasts c.args.context c.requires.given f n c.args.stretch.now c.requires.piece _ c.delay_frames-frames.result (to_z-of_z _ _ time ∙ c.param_of-time.ensures) c.delay_frames-frames.ensures in
    let birth = birth_is c.args.context c.requires.given f n c.requires.present.there there c.args.stretch.now c.requires.piece c.attrs-attrs.result c.attrs-attrs.ensures.value in
    let low = born_low c.args.context c.requires.given f n c.requires.present.there there c.args.stretch.now c.requires.piece c.attrs-attrs.result c.attrs-attrs.ensures.value in
    let later = c.if-sample-attrs.false in
    let aged : (node_at (world_of c.args.context f) n).attrs.birth + d c.args.context c.requires.given f n ≤ f = omega (arith, later, long, birth, low) in
    subst (λ k. AllKnown c.args.context (carried c.args.context.quantum (tape_in c.args.context) (meaning_of c.args.context) (f - k) (writer_of n) 0)) (sym long) (carried_known c.args.context c.requires.given f n c.requires.known aged)

pub returns : goal.returns
returns c =
    let f : ℕ = c.args.sample.frame in
    let n : ℕ = c.args.sample.end.node.0 in
    let j : ℕ = f / c.args.context.quantum in
    let there : n < length (world_of c.args.context f).nodes = node_in c.args.context c.requires.given j c.args.stretch.now c.requires.piece c.args.sample.end c.requires.present.output.end in
    let time : FitsSigned w32 c.param_of-time.result = search rules in
    let long : c.delay_frames-frames.result ≡ d c.args.context c.requires.given f n =
    lasts c.args.context c.requires.given f n c.args.stretch.now c.requires.piece _ c.delay_frames-frames.result (to_z-of_z _ _ time ∙ c.param_of-time.ensures) c.delay_frames-frames.ensures in
    let birth = birth_is c.args.context c.requires.given f n c.requires.present.there there c.args.stretch.now c.requires.piece c.attrs-attrs.result c.attrs-attrs.ensures.value in
    let low = born_low c.args.context c.requires.given f n c.requires.present.there there c.args.stretch.now c.requires.piece c.attrs-attrs.result c.attrs-attrs.ensures.value in
    let later = c.if-sample-attrs.false in
    let aged : (node_at (world_of c.args.context f) n).attrs.birth + d c.args.context c.requires.given f n ≤ f = omega (arith, later, long, birth, low) in
    let wide : FitsSigned w64 c.from-2.result = search rules in
    let narrow : FitsSigned w32 c.nearest.result = search rules in
    let exact : FitsSigned w128 c.mix.result = search rules in
    let channels : c.count_of-channels.result ≡ (meaning_of c.args.context).counts j c.args.sample.end =
    c.count_of-channels.ensures.value ∙ ap (λ q. (meaning_of c.args.context).counts (f / q) c.args.sample.end) c.from.ensures in
    to_z-of_z _ _ wide ∙ c.from-2.ensures ∙ to_z-of_z _ _ narrow ∙ c.nearest.ensures ∙ ap sat (to_z-of_z _ _ exact)
    ∙ given_later c.args.context c.requires.given f c.args.sample.end c.args.sample.channel c.requires.present.there there c.requires.delay c.requires.reader c.requires.present.loud c.delay_frames-frames.result long aged
    c.attrs-attrs.result c.carried_by-carried.result.count c.count_of-channels.result (at c.carried_by-carried.result.samples) c.mix.result
    (attrs c.args.context c.requires.given j c.args.stretch.now c.requires.piece n c.attrs-attrs.result there c.attrs-attrs.ensures.value)
    c.carried_by-carried.ensures.count channels c.carried_by-carried.ensures.samples c.mix.ensures.value
