use Rattle.std.proofs.Common.{slice_index_or, ℕ, ◌≡◌, ◌+◌, ◌<◌, Bool, true, false, Some, refl, sym, ◌∙◌, ap, arith, subst}
use Rattle.std.specs.Prelude.{if◌then◌else◌, max}
use Rattle.wa_base.specs.Contexts.{quantum_of}
use Rattle.wa_base.specs.declared.graph_names.ParamName.TheVariants.{DelayTime}
use Rattle.delay_line.specs.Spans.{delay_at as frames_back}
use Rattle.node_table.specs.Delays.{frames_of}
use Rattle.node_table.specs.Kinds.{param_name, is_delay_kind}
use Rattle.conn_graph.specs.Ends.{in_cycle}
use Rattle.meaning.specs.World.{node_at, param_id}
use Rattle.meaning.specs.Values.{Frame, computed_value, delay_frames}
use Rattle.quantum_render.specs.Renders.{past_of, here_of}
use Rattle.meaning.proofs.Joined.{joined}
use Rattle.delay_bank.specs.Kept.{DelayView}
use Rattle.delay_bank.specs.Banks.{BankView as DelayBank, delay_at}
use Rattle.quantum_render.specs.Sites.{SiteView}
use Rattle.quantum_render.specs.Listening.{writer_in}
use Rattle.quantum_render.proofs.Feeding.{is_asked, are_few, gives}
use Rattle.quantum_render.proofs.Rendering.{site_is, lanes_own, renders_with_own}
use Rattle.quantum_render.proofs.bench.Bench.render_reader.Goals as goal

pub take_levels-requires-clause-there : goal.take_levels-requires-clause-there
take_levels-requires-clause-there c = ap param_name c.requires.kind.3

-- the block has as many lanes as the reader has channels
pub read_delay-requires : goal.read_delay-requires
read_delay-requires c =
    let own = c.place-place.ensures.own c.args.blocks.now c.requires.fit in
    record {
      frames = c.take_spans.ensures.frames ∙ c.take_levels.ensures.frames ∙ c.requires.frames;
      delay_frames = c.requires.delay_frames;
      block_frames = own.frames c.index-blocks-place.result;
      lanes = lanes_own c.args.site.now _ c.requires.kind.3 refl (slice_index_or c.args.blocks.now c.place-place.result c.index-blocks-place.result) (own.lanes c.index-blocks-place.result);
    }

-- the delay of each frame is that of the equations
spans_are : (c : goal.After-read_delay) (before : ℕ → Frame) (k : ℕ) → k < quantum_of c.args.site.now.world.spec → frames_back c.take_spans.new.self.spans k ≡ delay_frames (quantum_of c.args.site.now.world.spec) (c.args.site.now.first + k) (past_of c.args.site.now c.args.blocks.now before) (here_of c.args.site.now c.args.blocks.now k) c.args.site.now.end.node.0
spans_are c before k now =
    let s : SiteView = c.args.site.now in
    let site = site_is s _ _ _ _ _ _ c.site.invariant.0 c.site.view_is in
    let q : ℕ = quantum_of s.world.spec in
    let frames : ℕ = frames_of (computed_value q (s.first + k) (past_of s c.args.blocks.now before) (here_of s c.args.blocks.now k) (param_id s.end.node.0 DelayTime)) s.world.spec.rate in
    let least : c.least_delay.result ≡ (if in_cycle s.world.graph.value s.end.node.0 then q else 0) = c.least_delay.ensures ((joined s.world site.quantum.valid).delays s.end.node.0 ∙ ap is_delay_kind c.requires.kind.3) in
    c.take_spans.ensures.spans k (subst (λ n. k < n) (sym (c.take_levels.ensures.frames ∙ c.requires.frames)) now)
    ∙ ap (λ x. max c.least_delay.result (frames_of x c.site.inside.quantum.now.world.now.spec.rate)) (c.take_levels.ensures.levels before k now)
    ∙ ap (λ (x : SiteView). max c.least_delay.result (frames_of (computed_value q (s.first + k) (past_of s c.args.blocks.now before) (here_of s c.args.blocks.now k) (param_id s.end.node.0 DelayTime)) x.world.spec.rate)) c.site.view_is
    ∙ ap (λ n. max n frames) least
    ∙ by_cycle q frames (in_cycle s.world.graph.value s.end.node.0)
  where
    by_cycle : (q frames : ℕ) (b : Bool) → max (if b then q else 0) frames ≡ (if b then max q frames else frames)
    by_cycle q frames true = refl
    by_cycle q frames false = omega arith

pub returns-clause-draws : goal.returns-clause-draws
returns-clause-draws c memory same =
    let own = c.place-place.ensures.own c.args.blocks.now c.requires.fit in
    let s : SiteView = c.args.site.now in
    let kind = c.requires.kind.3 in
    let count = lanes_own s _ kind refl (slice_index_or c.args.blocks.now c.place-place.result c.index-blocks-place.result) (own.lanes c.index-blocks-place.result) in
    own.draws_with memory c.read_delay.new.block (renders_with_own s _ kind refl c.args.blocks.now c.read_delay.new.block (c.read_delay.ensures.lanes ∙ count) (c.read_delay.ensures.block_frames ∙ own.frames c.index-blocks-place.result) memory (λ j earlier begins counted before ready channel m low now.
    let longest = c.requires.kind.0 in
    let time = c.requires.kind.1 in
    let capacity = c.requires.kind.2 in
    let fed = ready.fed longest time capacity kind in
    let d : DelayView = fed.kept.delay in
    let there : delay_at c.args.delays.now s.end.node.0 ≡ Some d = ap (λ (b : DelayBank). delay_at b s.end.node.0) (sym same) ∙ fed.kept.there in
    let spans = spans_are c before in
    c.read_delay.ensures.values d capacity (node_at s.world s.end.node.0).attrs.birth fed.now (writer_in (quantum_of s.world.spec) before s.end.node.0) there fed.kept.has
    (is_asked s memory.delays c.args.blocks.now before longest time capacity kind c.requires.reader fed c.take_spans.new.self.spans spans)
    (are_few s memory.delays c.args.blocks.now before longest time capacity kind c.requires.reader fed c.take_spans.new.self.spans spans _ count) fed.born channel m (subst (λ n. channel < n) (sym count) low) now
    ∙ gives s memory.delays c.args.blocks.now before longest time capacity kind c.requires.reader fed c.take_spans.new.self.spans spans _ count m 0 channel now))
