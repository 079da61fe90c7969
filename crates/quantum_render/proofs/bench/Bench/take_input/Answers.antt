use Rattle.std.proofs.Common.{◌≡◌, ◌+◌, ◌*◌, ◌<◌, ◌≤◌, ◌∷◌, [], List, length, map, filter, slice_index_or, true, Some, refl, sym, ◌∙◌, ap, arith, subst}
use Rattle.std.proofs.lemmas.List.{get_or_default}
use Rattle.wa_base.specs.Contexts.{quantum_of}
use Rattle.wa_base.specs.Numbers.{sat}
use Rattle.mix_rules.specs.Mixing.{total}
use Rattle.node_table.specs.declared.nodes.Attrs.{Attrs}
use Rattle.node_table.specs.Nodes.{attrs_at}
use Rattle.conn_graph.specs.declared.edges.Edge.{Edge}
use Rattle.conn_graph.specs.declared.edges.Target.TheVariants.{Input}
use Rattle.conn_graph.specs.Ends.{reader_of}
use Rattle.meaning.specs.Values.{part}
use Rattle.meaning.specs.World.{sounding}
use Rattle.quantum_blocks.specs.Blocks.{BlockView, no_block, slot, block_of, carried, frame_of}
use Rattle.quantum_blocks.specs.Connections.{into, leads_to, no_edge}
use Rattle.quantum_blocks.specs.Fits.{AreFit, IsSource, AreSources}
use Rattle.quantum_render.specs.Benches.{BenchView}
use Rattle.quantum_render.specs.Sites.{SiteView, IsSite, IsLone}
use Rattle.law_base.proofs.Rows.{rows_up}
use Rattle.quantum_blocks.proofs.Sources.{end_low}
use Rattle.quantum_render.proofs.SiteLaws.{source_is, site_few}
use Rattle.meaning.proofs.NodeKinds.{attrs_are}
use Rattle.quantum_render.proofs.InputLaws.{input_is, lone_input}
use Rattle.quantum_render.proofs.Rendering.{site_is}
use Rattle.quantum_render.proofs.bench.Bench.take_input.Goals as goal

pub attrs-requires : goal.attrs-requires
attrs-requires c = end_low c.site.inside.quantum.now.world.now c.site.invariant.0.quantum.valid c.site.inside.end c.site.invariant.0.there

-- the lone connection is the first of the site
source_of : (s : SiteView) → IsSite s.world s.end s.into s.counts s.levels s.first → (blocks : List BlockView) → AreFit s.world s.counts blocks → (e : Edge) → into s.world.graph.value s.end.node.0 ≡ e ∷ [] → IsSource (quantum_of s.world.spec) s.counts blocks e
source_of s site blocks fit e only =
    let one : s.into ≡ e ∷ [] = site.into ∙ only in
    subst (λ (es : List Edge). IsSource (quantum_of s.world.spec) s.counts blocks (slice_index_or es 0 no_edge)) one
    (source_is s.world s.end s.into s.counts s.levels s.first blocks site fit 0 no_edge (rw one (omega arith)))

pub bounds-blocks-slot : goal.bounds-blocks-slot
bounds-blocks-slot c =
    let site = site_is c.args.site.now _ _ _ _ _ _ c.site.invariant.0 c.site.view_is in
    let source = source_of c.args.site.now site c.args.blocks.now c.requires.fit c.in-Some.edge c.in-Some.ensures.only in
    subst (λ k. k < length c.args.blocks.now) (sym (c.slot.ensures ∙ ap slot c.reader.ensures)) source.block

pub copy_output-requires-clause-output : goal.copy_output-requires-clause-output
copy_output-requires-clause-output c =
    let site = site_is c.args.site.now _ _ _ _ _ _ c.site.invariant.0 c.site.view_is in
    let source = source_of c.args.site.now site c.args.blocks.now c.requires.fit c.in-Some.edge c.in-Some.ensures.only in
    let place = c.slot.ensures ∙ ap slot c.reader.ensures in
    let block = c.index-blocks-slot.is ∙ get_or_default c.args.blocks.now c.slot.result c.index-blocks-slot.result no_block (rw place source.block) ∙ ap (λ k. slice_index_or c.args.blocks.now k no_block) place in
    subst (λ (b : BlockView). c.in-Some.edge.output * c.args.channels + c.args.channels ≤ b.lanes) (sym block)
    (subst (λ n. c.in-Some.edge.output * n + n ≤ (block_of c.args.blocks.now (reader_of c.in-Some.edge.from.0)).lanes) c.in-Some.ensures.count source.lanes)

pub copy_output-requires-clause-frames : goal.copy_output-requires-clause-frames
copy_output-requires-clause-frames c =
    let site = site_is c.args.site.now _ _ _ _ _ _ c.site.invariant.0 c.site.view_is in
    let source = source_of c.args.site.now site c.args.blocks.now c.requires.fit c.in-Some.edge c.in-Some.ensures.only in
    let place = c.slot.ensures ∙ ap slot c.reader.ensures in
    let block = c.index-blocks-slot.is ∙ get_or_default c.args.blocks.now c.slot.result c.index-blocks-slot.result no_block (rw place source.block) ∙ ap (λ k. slice_index_or c.args.blocks.now k no_block) place in
    ap (λ (b : BlockView). b.frames) block ∙ source.frames ∙ sym (c.self.invariant.heard_frames ∙ ap (λ (b : BenchView). b.frames) c.self.view_is ∙ c.requires.frames)

-- there is room for all channels
pub copy_output-requires-clause-room : goal.copy_output-requires-clause-room
copy_output-requires-clause-room c =
    let up = rows_up c.self.inside.heard.frames c.args.channels 32 c.requires.high in
    omega (arith, up, c.self.invariant.heard, c.self.invariant.heard_frames)

pub hear-requires-clause-room : goal.hear-requires-clause-room
hear-requires-clause-room c =
    let up = rows_up c.self.inside.heard.frames c.args.channels 32 c.requires.high in
    omega (arith, up, c.self.invariant.heard, c.self.invariant.heard_frames)

pub hear-requires-clause-frames : goal.hear-requires-clause-frames
hear-requires-clause-frames c = c.self.invariant.summed ∙ sym c.self.invariant.heard_frames

pub hear-requires-clause-few : goal.hear-requires-clause-few
hear-requires-clause-few c = site_few _ _ _ _ _ _ c.site.invariant.0

pub hear-requires-clause-sources : goal.hear-requires-clause-sources
hear-requires-clause-sources c =
    subst (λ n. AreSources n c.site.inside.quantum.now.counts.now c.args.blocks.now c.site.inside.into.now) (ap (λ (x : SiteView). quantum_of x.world.spec) c.site.view_is ∙ sym (c.self.invariant.heard_frames ∙ ap (λ (b : BenchView). b.frames) c.self.view_is ∙ c.requires.frames))
    (source_is _ _ _ _ _ _ c.args.blocks.now c.site.invariant.0 (subst (λ (x : SiteView). AreFit x.world x.counts c.args.blocks.now) (sym c.site.view_is) c.requires.fit))

pub returns-in-Some-clause-input : goal.returns-in-Some-clause-input
returns-in-Some-clause-input c channels channel m low now =
    let s : SiteView = c.args.site.now in
    let site = site_is s _ _ _ _ _ _ c.site.invariant.0 c.site.view_is in
    let e : Edge = c.in-Some.edge in
    let lone : IsLone s _ e = c.in-Some.ensures in
    let source = source_of s site c.args.blocks.now c.requires.fit e lone.only in
    let place = c.slot.ensures ∙ ap slot c.reader.ensures in
    let block = c.index-blocks-slot.is ∙ get_or_default c.args.blocks.now c.slot.result c.index-blocks-slot.result no_block (rw place source.block) ∙ ap (λ k. slice_index_or c.args.blocks.now k no_block) place in
    let now' : m < c.self.inside.heard.frames = subst (λ n. m < n) (sym (c.self.invariant.heard_frames ∙ ap (λ (b : BenchView). b.frames) c.self.view_is ∙ c.requires.frames)) now in
    c.copy_output.ensures.values channel m low now'
    ∙ lone_input s.world c.args.blocks.now s.counts s.end.node.0 c.args.input channel m c.args.channels low s.into site.into channels e (carried c.index-blocks-slot.result c.args.channels e.output m channel)
    (site.into ∙ lone.only) (subst (λ (x : SiteView). leads_to (Input (record { 0 = x.end.node.0 }) c.args.input) e ≡ true) c.site.view_is lone.leads) lone.count
    (c.copy_output.ensures.fit channel m low now') (ap (λ (b : BlockView). carried b c.args.channels e.output m channel) block)

pub returns-clause-input : goal.returns-clause-input
returns-clause-input c channels channel m low now =
    let s : SiteView = c.args.site.now in
    let site = site_is s _ _ _ _ _ _ c.site.invariant.0 c.site.view_is in
    let blocks : List BlockView = c.args.blocks.now in
    let frames = ap (λ (b : BenchView). b.frames) c.self.view_is ∙ c.requires.frames in
    let sum = λ (x : SiteView). total (map (part (frame_of (sounding s.world) blocks x.counts m) c.attrs.result.interp c.args.channels channel) (filter (leads_to (Input (record { 0 = x.end.node.0 }) c.args.input)) x.into)) in
    c.hear.ensures.values (sounding s.world) channel m low (subst (λ n. m < n) (sym (c.self.invariant.heard_frames ∙ frames)) now)
    ∙ ap (λ (x : SiteView). sat (sum x)) c.site.view_is
    ∙ input_is s.world blocks s.counts s.end.node.0 c.args.input channel m c.args.channels low s.into site.into channels c.attrs.result.interp (sum s)
    (ap (λ (a : Attrs). a.interp) (attrs_are s.world s.end.node.0 c.attrs.result (end_low s.world site.quantum.valid s.end site.there) (subst (λ (x : SiteView). attrs_at x.world.nodes x.end.node.0 ≡ Some c.attrs.result) c.site.view_is c.attrs.ensures.value)))
    refl
