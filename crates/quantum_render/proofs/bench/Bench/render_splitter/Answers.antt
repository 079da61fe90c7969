use Rattle.std.proofs.Common.{slice_index_or, ℕ, ◌≡◌, ◌+◌, ◌*◌, ◌<◌, sym, ◌∙◌, ap, ap₂, arith, subst}
use Rattle.node_table.proofs.NodeLists.{ports_allowed}
use Rattle.node_table.specs.declared.kinds.Kind.TheVariants.{Splitter}
use Rattle.node_table.specs.Kinds.{row, outputs, IsInLimits}
use Rattle.meaning.specs.World.{kind_of}
use Rattle.quantum_blocks.specs.Blocks.{BlockView, at, counts_in}
use Rattle.quantum_render.specs.Sites.{SiteView, IsSite}
use Rattle.quantum_blocks.proofs.Sources.{end_low}
use Rattle.quantum_render.specs.Benches.{BenchView}
use Rattle.quantum_render.specs.Renders.{Renders}
use Rattle.quantum_render.proofs.Ports.{splitter_channels}
use Rattle.quantum_render.proofs.Rendering.{mono_own, room_for}
use Rattle.quantum_render.proofs.bench.Bench.render_splitter.Goals as goal

pub take_input-requires-clause-low : goal.take_input-requires-clause-low
take_input-requires-clause-low c =
    let ports = ports_allowed _ (subst IsInLimits c.requires.kind.1 c.outputs.ensures.ports) in
    let are : c.outputs.result ≡ c.requires.kind.0 = c.outputs.ensures.count ∙ ap outputs c.requires.kind.1 in
    rw are ports.0

pub take_input-requires-clause-high : goal.take_input-requires-clause-high
take_input-requires-clause-high c =
    let ports = ports_allowed _ (subst IsInLimits c.requires.kind.1 c.outputs.ensures.ports) in
    let are : c.outputs.result ≡ c.requires.kind.0 = c.outputs.ensures.count ∙ ap outputs c.requires.kind.1 in
    rw are ports.1

-- a lane for each output
all_lanes : (s : SiteView) → IsSite s.world s.end s.into s.counts s.levels s.first → (ports lanes : ℕ) → kind_of s.world s.end.node.0 ≡ Splitter ports → lanes ≡ outputs (kind_of s.world s.end.node.0)
    → outputs (kind_of s.world s.end.node.0) * counts_in s.counts s.end ≡ lanes
all_lanes s site ports lanes kind are = ap₂ (λ m n. m * n) (sym are) (mono_own s site (ap (λ k. (row k).channels) kind)) ∙ omega arith

pub copy-requires-clause-frames : goal.copy-requires-clause-frames
copy-requires-clause-frames c =
    let own = c.place-place.ensures.own c.args.blocks.now c.requires.fit in
    c.self.invariant.heard_frames ∙ ap (λ (b : BenchView). b.frames) c.self.view_is ∙ c.take_input.ensures.frames ∙ c.requires.frames ∙ sym (own.frames c.index-blocks-place.result)

pub copy-requires-clause-room : goal.copy-requires-clause-room
copy-requires-clause-room c =
    let own = c.place-place.ensures.own c.args.blocks.now c.requires.fit in
    let heard : c.self.inside.heard ≡ c.take_input.new.self.heard = ap (λ (b : BenchView). b.heard) c.self.view_is in
    room_for (slice_index_or c.args.blocks.now c.place-place.result c.index-blocks-place.result) _ (ap (λ (b : BlockView). b.lanes) heard ∙ c.take_input.ensures.lanes ∙ sym (own.lanes c.index-blocks-place.result ∙ all_lanes c.args.site.now c.outputs.ensures.site _ _ c.requires.kind.1 c.outputs.ensures.count))

-- lane o of what the input carries is its channel o
pub returns-clause-draws : goal.returns-clause-draws
returns-clause-draws c =
    let own = c.place-place.ensures.own c.args.blocks.now c.requires.fit in
    let s : SiteView = c.args.site.now in
    let kind = c.requires.kind.1 in
    let site = c.outputs.ensures.site in
    let heard : c.self.inside.heard ≡ c.take_input.new.self.heard = ap (λ (b : BenchView). b.heard) c.self.view_is in
    let lanes : c.self.inside.heard.lanes ≡ c.outputs.result = ap (λ (b : BlockView). b.lanes) heard ∙ c.take_input.ensures.lanes in
    let are : c.outputs.result ≡ c.requires.kind.0 = c.outputs.ensures.count ∙ ap outputs kind in
    own.draws c.copy.new.self (subst (Renders s c.args.blocks.now c.copy.new.self) (sym kind) (record {
      lanes = c.copy.ensures.lanes ∙ lanes ∙ sym (all_lanes s site _ _ kind c.outputs.ensures.count);
      frames = c.copy.ensures.frames ∙ own.frames c.index-blocks-place.result;
      values = λ j earlier begins counted before output channel m low below now.
          let first : channel < 1 = subst (λ n. channel < n) counted below in
          let lane : output * counts_in s.counts s.end + channel ≡ output = ap (λ n. output * n + channel) counted ∙ omega arith in
          let there : output < c.outputs.result = omega (arith, are) in
          ap (λ k. at c.copy.new.self k m) lane
          ∙ c.copy.ensures.values output m (omega (arith, lanes)) (subst (λ n. m < n) (sym (own.frames c.index-blocks-place.result)) now)
          ∙ ap (λ (b : BlockView). at b output m) heard
          ∙ c.take_input.ensures.input (are ∙ sym (splitter_channels s.world site.quantum.valid s.end.node.0 (end_low s.world site.quantum.valid s.end site.there) (counts_in s.counts) c.requires.kind.0 kind)) output m there now;
    }))
