use Rattle.std.proofs.Common.{◌≡◌, ◌+◌, ◌*◌, ◌/◌, ◌<◌, Some, sym, ◌∙◌, ap, subst}
use Rattle.delay_line.specs.Spans.{delay_at as frames_back}
use Rattle.wa_base.specs.Contexts.{quantum_of}
use Rattle.node_table.specs.declared.nodes.Attrs.{Attrs}
use Rattle.meaning.specs.World.{node_at}
use Rattle.meaning.proofs.NodeKinds.{attrs_are}
use Rattle.delay_bank.specs.Kept.{HasKept, IsAsked, AreFew, read_back}
use Rattle.delay_bank.specs.Banks.{delay_at}
use Rattle.quantum_blocks.proofs.Sources.{end_low}
use Rattle.quantum_render.specs.Benches.{BenchView}
use Rattle.quantum_render.specs.Sites.{SiteView}
use Rattle.quantum_render.proofs.bench.Bench.read_delay.Goals as goal

pub attrs-requires : goal.attrs-requires
attrs-requires c = end_low c.site.inside.quantum.now.world.now c.site.invariant.0.quantum.valid c.site.inside.end c.site.invariant.0.there

pub returns-clause-values : goal.returns-clause-values
returns-clause-values c d longest born now writer there has asked few whole channel m low here =
    let attrs = attrs_are c.site.inside.quantum.now.world.now c.site.inside.end.node.0 c.attrs.result (end_low c.site.inside.quantum.now.world.now c.site.invariant.0.quantum.valid c.site.inside.end c.site.invariant.0.there) c.attrs.ensures.value in
    let own_spans = c.self.inside.spans in
    let spans : own_spans ≡ c.args.self.now.spans = ap (λ (b : BenchView). b.spans) c.self.view_is in
    let q = quantum_of c.args.site.now.world.spec in
    let own = sym c.requires.delay_frames in
    c.read_block.ensures.values d longest born now writer (subst (λ (x : SiteView). delay_at c.args.delays.now x.end.node.0 ≡ Some d) (sym c.site.view_is) there) (subst (λ n. HasKept n d longest born now writer) own has)
    (subst (λ n. IsAsked n c.site.inside.quantum.now.first now longest own_spans) own
    (subst (λ xs. IsAsked q c.site.inside.quantum.now.first now longest xs) (sym spans) (subst (λ (x : SiteView). IsAsked q x.first now longest c.args.self.now.spans) (sym c.site.view_is) asked)))
    (subst (λ n. AreFew n born writer c.args.block.now.lanes c.site.inside.quantum.now.first own_spans) own
    (subst (λ xs. AreFew q born writer c.args.block.now.lanes c.site.inside.quantum.now.first xs) (sym spans) (subst (λ (x : SiteView). AreFew q born writer c.args.block.now.lanes x.first c.args.self.now.spans) (sym c.site.view_is) few)))
    (subst (λ n. n * (born / n) ≡ born) own whole) channel m low (subst (λ n. m < n) own here)
    ∙ ap (λ n. read_back n born writer c.attrs.result.interp c.args.block.now.lanes (c.site.inside.quantum.now.first + m) (frames_back own_spans m) channel) (sym own)
    ∙ ap (λ xs. read_back q born writer c.attrs.result.interp c.args.block.now.lanes (c.site.inside.quantum.now.first + m) (frames_back xs m) channel) spans
    ∙ ap (λ (a : Attrs). read_back q born writer a.interp c.args.block.now.lanes (c.site.inside.quantum.now.first + m) (frames_back c.args.self.now.spans m) channel) (sym attrs)
    ∙ ap (λ (x : SiteView). read_back q born writer (node_at x.world x.end.node.0).attrs.interp c.args.block.now.lanes (x.first + m) (frames_back c.args.self.now.spans m) channel) c.site.view_is
