use Rattle.std.proofs.Common.{rules, FitsSigned, ℕ, ◌≡◌, ◌/◌, ◌<◌, length, true, false, sym, ◌∙◌, ap}
use Rattle.std.specs.Int.{w32, w64}
use Rattle.std.proofs.lemmas.Int.{to_z-of_z}
use Rattle.wa_base.specs.declared.graph_names.End.{End}
use Rattle.node_table.specs.Kinds.{is_delay_kind}
use Rattle.node_table.specs.declared.kinds.Kind.TheVariants.{Constant, Buffer, Delay}
use Rattle.meaning.specs.declared.world.World.{World}
use Rattle.meaning.specs.World.{kind_of, sounds_at, played_at}
use Rattle.explain.specs.Facts.{has_history}
use Rattle.derivations.specs.Contexts.{world_of}
use Rattle.derivations.proofs.Effects.{is_effect}
use Rattle.equations.proofs.ByKind.{value_as, known_as, sounding_known, writer_known, reader_known, value_sounding, value_silent, value_writer, value_reader, hears_all, history_known}
use Rattle.equations.proofs.Ending.{node_in}
use Rattle.equations.proofs.InForce.{is, kind, valid, node_low}
use Rattle.equations.proofs.outputs.present_value.Goals as goal

pub kind-requires : goal.kind-requires
kind-requires c =
    let f : ℕ = c.args.sample.frame in
    let e : End = c.args.sample.end in
    let o : ℕ = c.args.sample.output in
    let d : ℕ = c.args.sample.channel in
    let j : ℕ = f / c.args.context.quantum in
    let there : e.node.0 < length (world_of c.args.context f).nodes = node_in c.args.context c.requires.given j c.args.stretch.now c.requires.piece e c.requires.present.output.end in
    node_low c.args.context c.requires.given j c.args.stretch.now c.requires.piece e.node.0 there

pub param-requires-clause-known : goal.param-requires-clause-known
param-requires-clause-known c =
    let f : ℕ = c.args.sample.frame in
    let e : End = c.args.sample.end in
    let o : ℕ = c.args.sample.output in
    let d : ℕ = c.args.sample.channel in
    let j : ℕ = f / c.args.context.quantum in
    let there : e.node.0 < length (world_of c.args.context f).nodes = node_in c.args.context c.requires.given j c.args.stretch.now c.requires.piece e c.requires.present.output.end in
    let same : kind_of (world_of c.args.context f) e.node.0 ≡ Constant c.in-Constant.offset = kind c.args.context c.requires.given j c.args.stretch.now c.requires.piece e.node.0 c.kind.result.now there c.kind.ensures.value ∙ c.in-Constant.is in
    let on : sounds_at (world_of c.args.context f) e.node.0 f ≡ true = ap (λ (y : World). sounds_at y e.node.0 f) (is c.args.context c.requires.given j c.args.stretch.now c.requires.piece) ∙ sym c.sounds.ensures ∙ c.if-sounds.true in
    sounding_known c.args.context f e o d c.in-Constant.offset same on c.requires.known

pub played_at-requires-clause-valid : goal.played_at-requires-clause-valid
played_at-requires-clause-valid c =
    let f : ℕ = c.args.sample.frame in
    let e : End = c.args.sample.end in
    let o : ℕ = c.args.sample.output in
    let d : ℕ = c.args.sample.channel in
    let j : ℕ = f / c.args.context.quantum in
    let there : e.node.0 < length (world_of c.args.context f).nodes = node_in c.args.context c.requires.given j c.args.stretch.now c.requires.piece e c.requires.present.output.end in
    valid c.args.context c.requires.given j c.args.stretch.now c.requires.piece

pub inlet-requires-clause-known : goal.inlet-requires-clause-known
inlet-requires-clause-known c =
    let f : ℕ = c.args.sample.frame in
    let e : End = c.args.sample.end in
    let o : ℕ = c.args.sample.output in
    let d : ℕ = c.args.sample.channel in
    let j : ℕ = f / c.args.context.quantum in
    let there : e.node.0 < length (world_of c.args.context f).nodes = node_in c.args.context c.requires.given j c.args.stretch.now c.requires.piece e c.requires.present.output.end in
    let same : kind_of (world_of c.args.context f) e.node.0 ≡ Delay c.in-Delay.longest c.in-Delay.time c.in-Delay.capacity = kind c.args.context c.requires.given j c.args.stretch.now c.requires.piece e.node.0 c.kind.result.now there c.kind.ensures.value ∙ c.in-Delay.is in
    writer_known c.args.context f e o d c.in-Delay.longest c.in-Delay.time c.in-Delay.capacity same c.if-sample.true c.requires.known

pub delayed-requires-clause-delay : goal.delayed-requires-clause-delay
delayed-requires-clause-delay c =
    let f : ℕ = c.args.sample.frame in
    let e : End = c.args.sample.end in
    let o : ℕ = c.args.sample.output in
    let d : ℕ = c.args.sample.channel in
    let j : ℕ = f / c.args.context.quantum in
    let there : e.node.0 < length (world_of c.args.context f).nodes = node_in c.args.context c.requires.given j c.args.stretch.now c.requires.piece e c.requires.present.output.end in
    let same : kind_of (world_of c.args.context f) e.node.0 ≡ Delay c.in-Delay.longest c.in-Delay.time c.in-Delay.capacity = kind c.args.context c.requires.given j c.args.stretch.now c.requires.piece e.node.0 c.kind.result.now there c.kind.ensures.value ∙ c.in-Delay.is in
    ap is_delay_kind same

pub delayed-requires-clause-known : goal.delayed-requires-clause-known
delayed-requires-clause-known c =
    let f : ℕ = c.args.sample.frame in
    let e : End = c.args.sample.end in
    let o : ℕ = c.args.sample.output in
    let d : ℕ = c.args.sample.channel in
    let j : ℕ = f / c.args.context.quantum in
    let there : e.node.0 < length (world_of c.args.context f).nodes = node_in c.args.context c.requires.given j c.args.stretch.now c.requires.piece e c.requires.present.output.end in
    let same : kind_of (world_of c.args.context f) e.node.0 ≡ Delay c.in-Delay.longest c.in-Delay.time c.in-Delay.capacity = kind c.args.context c.requires.given j c.args.stretch.now c.requires.piece e.node.0 c.kind.result.now there c.kind.ensures.value ∙ c.in-Delay.is in
    reader_known c.args.context f e o d c.in-Delay.longest c.in-Delay.time c.in-Delay.capacity same c.if-sample.false c.requires.known

pub history-requires-clause-history : goal.history-requires-clause-history
history-requires-clause-history c =
    let f : ℕ = c.args.sample.frame in
    let e : End = c.args.sample.end in
    let o : ℕ = c.args.sample.output in
    let d : ℕ = c.args.sample.channel in
    let j : ℕ = f / c.args.context.quantum in
    let there : e.node.0 < length (world_of c.args.context f).nodes = node_in c.args.context c.requires.given j c.args.stretch.now c.requires.piece e c.requires.present.output.end in
    ap has_history (kind c.args.context c.requires.given j c.args.stretch.now c.requires.piece e.node.0 c.kind.result.now there c.kind.ensures.value) ∙ hears_all c.kind.result.now c.in-Shaper.is

pub history-requires-clause-known : goal.history-requires-clause-known
history-requires-clause-known c =
    let f : ℕ = c.args.sample.frame in
    let e : End = c.args.sample.end in
    let o : ℕ = c.args.sample.output in
    let d : ℕ = c.args.sample.channel in
    let j : ℕ = f / c.args.context.quantum in
    let there : e.node.0 < length (world_of c.args.context f).nodes = node_in c.args.context c.requires.given j c.args.stretch.now c.requires.piece e c.requires.present.output.end in
    history_known c.args.context f e o d c.kind.result.now (kind c.args.context c.requires.given j c.args.stretch.now c.requires.piece e.node.0 c.kind.result.now there c.kind.ensures.value) c.in-Shaper.is c.requires.known

pub returns-then-sounds : goal.returns-then-sounds
returns-then-sounds c =
    let f : ℕ = c.args.sample.frame in
    let e : End = c.args.sample.end in
    let o : ℕ = c.args.sample.output in
    let d : ℕ = c.args.sample.channel in
    let j : ℕ = f / c.args.context.quantum in
    let there : e.node.0 < length (world_of c.args.context f).nodes = node_in c.args.context c.requires.given j c.args.stretch.now c.requires.piece e c.requires.present.output.end in
    let same : kind_of (world_of c.args.context f) e.node.0 ≡ Constant c.in-Constant.offset = kind c.args.context c.requires.given j c.args.stretch.now c.requires.piece e.node.0 c.kind.result.now there c.kind.ensures.value ∙ c.in-Constant.is in
    let on : sounds_at (world_of c.args.context f) e.node.0 f ≡ true = ap (λ (y : World). sounds_at y e.node.0 f) (is c.args.context c.requires.given j c.args.stretch.now c.requires.piece) ∙ sym c.sounds.ensures ∙ c.if-sounds.true in
    let wide : FitsSigned w64 c.param.result = search rules in
    value_sounding c.args.context f e o d c.in-Constant.offset same on _ (to_z-of_z _ _ wide ∙ c.param.ensures)

pub returns-else-sounds : goal.returns-else-sounds
returns-else-sounds c =
    let f : ℕ = c.args.sample.frame in
    let e : End = c.args.sample.end in
    let o : ℕ = c.args.sample.output in
    let d : ℕ = c.args.sample.channel in
    let j : ℕ = f / c.args.context.quantum in
    let there : e.node.0 < length (world_of c.args.context f).nodes = node_in c.args.context c.requires.given j c.args.stretch.now c.requires.piece e c.requires.present.output.end in
    let same : kind_of (world_of c.args.context f) e.node.0 ≡ Constant c.in-Constant.offset = kind c.args.context c.requires.given j c.args.stretch.now c.requires.piece e.node.0 c.kind.result.now there c.kind.ensures.value ∙ c.in-Constant.is in
    let on : sounds_at (world_of c.args.context f) e.node.0 f ≡ false = ap (λ (y : World). sounds_at y e.node.0 f) (is c.args.context c.requires.given j c.args.stretch.now c.requires.piece) ∙ sym c.sounds.ensures ∙ c.if-sounds.false in
    value_silent c.args.context f e o d c.in-Constant.offset same on

pub returns-in-Buffer : goal.returns-in-Buffer
returns-in-Buffer c =
    let f : ℕ = c.args.sample.frame in
    let e : End = c.args.sample.end in
    let o : ℕ = c.args.sample.output in
    let d : ℕ = c.args.sample.channel in
    let j : ℕ = f / c.args.context.quantum in
    let there : e.node.0 < length (world_of c.args.context f).nodes = node_in c.args.context c.requires.given j c.args.stretch.now c.requires.piece e c.requires.present.output.end in
    let same : kind_of (world_of c.args.context f) e.node.0 ≡ Buffer c.in-Buffer.rate = kind c.args.context c.requires.given j c.args.stretch.now c.requires.piece e.node.0 c.kind.result.now there c.kind.ensures.value ∙ c.in-Buffer.is in
    let wide : FitsSigned w64 c.from.result = search rules in
    let narrow : FitsSigned w32 c.played_at.result = search rules in
    value_as c.args.context f e o d (Buffer c.in-Buffer.rate) same _
    (to_z-of_z _ _ wide ∙ c.from.ensures ∙ to_z-of_z _ _ narrow ∙ c.played_at.ensures ∙ ap (λ (y : World). played_at y e.node.0 d f) (sym (is c.args.context c.requires.given j c.args.stretch.now c.requires.piece)))

pub returns-then-sample : goal.returns-then-sample
returns-then-sample c =
    let f : ℕ = c.args.sample.frame in
    let e : End = c.args.sample.end in
    let o : ℕ = c.args.sample.output in
    let d : ℕ = c.args.sample.channel in
    let j : ℕ = f / c.args.context.quantum in
    let there : e.node.0 < length (world_of c.args.context f).nodes = node_in c.args.context c.requires.given j c.args.stretch.now c.requires.piece e c.requires.present.output.end in
    let same : kind_of (world_of c.args.context f) e.node.0 ≡ Delay c.in-Delay.longest c.in-Delay.time c.in-Delay.capacity = kind c.args.context c.requires.given j c.args.stretch.now c.requires.piece e.node.0 c.kind.result.now there c.kind.ensures.value ∙ c.in-Delay.is in
    let wide : FitsSigned w64 c.inlet.result = search rules in
    value_writer c.args.context f e o d c.in-Delay.longest c.in-Delay.time c.in-Delay.capacity same c.if-sample.true _ (to_z-of_z _ _ wide ∙ c.inlet.ensures)

pub returns-else-sample : goal.returns-else-sample
returns-else-sample c =
    let f : ℕ = c.args.sample.frame in
    let e : End = c.args.sample.end in
    let o : ℕ = c.args.sample.output in
    let d : ℕ = c.args.sample.channel in
    let j : ℕ = f / c.args.context.quantum in
    let there : e.node.0 < length (world_of c.args.context f).nodes = node_in c.args.context c.requires.given j c.args.stretch.now c.requires.piece e c.requires.present.output.end in
    let same : kind_of (world_of c.args.context f) e.node.0 ≡ Delay c.in-Delay.longest c.in-Delay.time c.in-Delay.capacity = kind c.args.context c.requires.given j c.args.stretch.now c.requires.piece e.node.0 c.kind.result.now there c.kind.ensures.value ∙ c.in-Delay.is in
    let wide : FitsSigned w64 c.delayed.result = search rules in
    value_reader c.args.context f e o d c.in-Delay.longest c.in-Delay.time c.in-Delay.capacity same c.if-sample.false _ (to_z-of_z _ _ wide ∙ c.delayed.ensures)

pub effect-requires-clause-effect : goal.effect-requires-clause-effect
effect-requires-clause-effect c = is_effect c.kind.result.now c.in_default.not-Constant c.in_default.not-Buffer c.in_default.not-Delay c.in_default.not-Shaper c.in_default.not-Causal

pub effect-requires-clause-known : goal.effect-requires-clause-known
effect-requires-clause-known c =
    let f : ℕ = c.args.sample.frame in
    let e : End = c.args.sample.end in
    let o : ℕ = c.args.sample.output in
    let d : ℕ = c.args.sample.channel in
    let j : ℕ = f / c.args.context.quantum in
    let there : e.node.0 < length (world_of c.args.context f).nodes = node_in c.args.context c.requires.given j c.args.stretch.now c.requires.piece e c.requires.present.output.end in
    known_as c.args.context f e o d c.kind.result.now (kind c.args.context c.requires.given j c.args.stretch.now c.requires.piece e.node.0 c.kind.result.now there c.kind.ensures.value) c.requires.known

pub returns-in_default : goal.returns-in_default
returns-in_default c =
    let f : ℕ = c.args.sample.frame in
    let e : End = c.args.sample.end in
    let o : ℕ = c.args.sample.output in
    let d : ℕ = c.args.sample.channel in
    let j : ℕ = f / c.args.context.quantum in
    let there : e.node.0 < length (world_of c.args.context f).nodes = node_in c.args.context c.requires.given j c.args.stretch.now c.requires.piece e c.requires.present.output.end in
    let wide : FitsSigned w64 c.effect.result = search rules in
    value_as c.args.context f e o d c.kind.result.now (kind c.args.context c.requires.given j c.args.stretch.now c.requires.piece e.node.0 c.kind.result.now there c.kind.ensures.value) _ (to_z-of_z _ _ wide ∙ c.effect.ensures)
