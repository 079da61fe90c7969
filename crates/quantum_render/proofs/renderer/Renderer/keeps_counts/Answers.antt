use Rattle.std.proofs.Common.{ℕ, Bool, List, [], ◌≡◌, ◌+◌, sym, ◌∙◌, ap, subst}
use Rattle.std.specs.Prelude.{if◌then◌else◌, nat_le}
use Rattle.wa_base.specs.Contexts.{quantum_of}
use Rattle.wa_base.specs.declared.graph_names.End.{End}
use Rattle.law_base.specs.Members.{IsIn}
use Rattle.conn_graph.specs.Ends.{ends}
use Rattle.meaning.specs.declared.world.World.{World}
use Rattle.quantum_render.specs.Idle.{AreIdle}
use Rattle.quantum_render.proofs.Idling.{idle_now}
use Rattle.quantum_render.specs.Plans.{AsCounted}
use Rattle.quantum_render.specs.Stands.{RendererView}
use Rattle.quantum_render.proofs.renderer.Renderer.keeps_counts.Goals as goal

pub are_counted-requires-clause-there : goal.are_counted-requires-clause-there
are_counted-requires-clause-there c d is =
    let there = subst (λ (x : RendererView). (e : End) → IsIn e x.timed → IsIn e (ends c.args.world.now.graph.value)) (sym c.self.view_is) c.requires.settled.steady.there in
    there d (subst (IsIn d) c.timed.ensures is)

pub returns : goal.returns
returns c same =
    let counted : (d : End) → IsIn d c.self.inside.plan.timed → AsCounted c.self.inside.memory.delays c.args.world.now c.args.first c.self.inside.counts.items d =
    subst (λ (ts : List End). (d : End) → IsIn d ts → AsCounted c.self.inside.memory.delays c.args.world.now c.args.first c.self.inside.counts.items d) c.timed.ensures
    (subst (λ (ns : List ℕ). (d : End) → IsIn d c.timed.result.now → AsCounted c.self.inside.memory.delays c.args.world.now c.args.first ns d) c.as_slice.ensures.value (c.are_counted.ensures same)) in
    subst (λ (x : RendererView). (d : End) → IsIn d x.timed → AsCounted x.memory.delays c.args.world.now c.args.first x.counts d) c.self.view_is counted

pub are_counted-requires-clause-idle : goal.are_counted-requires-clause-idle
are_counted-requires-clause-idle c =
    let w : World = c.args.world.now in
    let r : RendererView = c.args.self.now in
    let next : c.args.first + c.from.result ≡ c.args.first + quantum_of r.spec = ap (λ n. c.args.first + n) (c.from.ensures ∙ ap (λ (x : RendererView). quantum_of x.spec) c.self.view_is) in
    let marks = c.marks-idle.ensures ∙ ap (λ (x : RendererView). if nat_le (c.args.first + c.from.result) x.rest.until then x.rest.marks else []) c.self.view_is
    ∙ ap (λ f. if nat_le f r.rest.until then r.rest.marks else []) next in
    let counts : c.as_slice.result.now ≡ r.counts = c.as_slice.ensures.value ∙ ap (λ (x : RendererView). x.counts) c.self.view_is in (
      r.blocks,
      subst (λ (ms : List Bool). AreIdle w c.as_slice.result.now c.args.first (c.args.first + quantum_of w.spec) ms r.blocks) (sym marks)
          (subst (λ ns. AreIdle w ns c.args.first (c.args.first + quantum_of w.spec) (if nat_le (c.args.first + quantum_of r.spec) r.rest.until then r.rest.marks else []) r.blocks) (sym counts)
          (idle_now r w c.requires.valid (sym c.requires.spec) c.requires.rests c.args.first c.requires.first)),
    )
