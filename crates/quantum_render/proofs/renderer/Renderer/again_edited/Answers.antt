use Rattle.std.proofs.Common.{List, ◌≡◌, ◌*◌, refl, sym, ◌∙◌, ap, subst}
use Rattle.wa_base.specs.Contexts.{quantum_of}
use Rattle.wa_base.specs.declared.graph_names.End.{End}
use Rattle.law_base.specs.Members.{IsIn}
use Rattle.meaning.specs.declared.params.Param.{Param}
use Rattle.meaning.specs.declared.world.World.{World}
use Rattle.automation.specs.Ready.{AreOfNodes, IsReady}
use Rattle.quantum_render.specs.Stands.{RendererView, StandsFor, IsGrown, IsSettled}
use Rattle.quantum_render.specs.Plans.{AsCounted}
use Rattle.quantum_render.proofs.Automated.{of_nodes}
use Rattle.quantum_render.proofs.Following.{stands_like}
use Rattle.quantum_render.proofs.Idling.{wakes}
use Rattle.quantum_render.proofs.Settled.{again_grown, settled_with}
use Rattle.quantum_render.proofs.renderer.Renderer.again_edited.Goals as goal

pub prepare-requires : goal.prepare-requires
prepare-requires g c =
    subst (λ (ps : List Param). AreOfNodes c.len-nodes.result ps) (sym c.as_slice.ensures)
    (subst (λ n. AreOfNodes n c.args.world.now.params.items) (sym c.len-nodes.ensures.value) (of_nodes c.args.world.now c.requires.valid))

pub keeps_counts-same-requires-clause-settled : goal.keeps_counts-same-requires-clause-settled
keeps_counts-same-requires-clause-settled g c =
    subst (λ (x : RendererView). IsSettled (record x { rest = c.wake.new.self }) c.args.world.now) (sym c.self.view_is) (settled_with c.args.self.now c.wake.new.self c.args.world.now c.requires.settled)

pub returns-clause-grown : goal.returns-clause-grown
returns-clause-grown g c same =
    let w : World = c.args.world.now in
    let r : RendererView = c.args.self.now in
    let quantum : r.memory.delays.quantum ≡ quantum_of r.spec = subst (λ (x : RendererView). x.memory.delays.quantum ≡ quantum_of x.spec) c.self.view_is c.self.invariant.delays in
    let ready = subst (λ (x : RendererView). IsReady w.params.items (quantum_of x.spec * x.quanta) c.prepare.new.self) c.self.view_is
    (subst (λ (ps : List Param). IsReady ps (quantum_of c.self.inside.spec * c.self.inside.quanta) c.prepare.new.self) c.as_slice.ensures
    (subst (λ f. IsReady c.as_slice.result.now f c.prepare.new.self) (c.requires.first ∙ ap (λ (x : RendererView). quantum_of x.spec * x.quanta) (sym c.self.view_is)) c.in_ok-prepare.ensures.ready)) in
    subst (λ (x : RendererView). IsGrown (record x { automation = c.prepare.new.self; rest = c.wake.new.self }) w) (sym c.self.view_is)
    (again_grown r w c.requires.valid (sym c.requires.spec) c.args.first c.requires.first quantum c.requires.settled
    (subst (λ (x : RendererView). (d : End) → IsIn d x.timed → AsCounted x.memory.delays w c.args.first x.counts d) c.self.view_is (c.keeps_counts-same.ensures same)) c.prepare.new.self ready c.wake.new.self (wakes (record r { rest = c.wake.new.self }) w c.requires.valid (sym c.requires.spec) c.wake.ensures))

pub returns-clause-stands : goal.returns-clause-stands
returns-clause-stands g c tape = (
  λ stands. stands_like _ _ refl refl refl c.self.inside.memory.causal.known c.self.inside.memory.delays.known refl refl refl refl refl refl tape (subst (λ (r : RendererView). StandsFor r tape) (sym c.self.view_is) stands),
  λ stands. subst (λ (r : RendererView). StandsFor r tape) c.self.view_is (stands_like _ _ refl refl refl c.self.inside.memory.causal.known c.self.inside.memory.delays.known refl refl refl refl refl refl tape stands),
)

pub returns-in_err-prepare-clause-stands : goal.returns-in_err-prepare-clause-stands
returns-in_err-prepare-clause-stands g c tape = (
  λ stands. stands_like _ _ refl refl refl c.self.inside.memory.causal.known c.self.inside.memory.delays.known refl refl refl refl refl refl tape (subst (λ (r : RendererView). StandsFor r tape) (sym c.self.view_is) stands),
  λ stands. subst (λ (r : RendererView). StandsFor r tape) c.self.view_is (stands_like _ _ refl refl refl c.self.inside.memory.causal.known c.self.inside.memory.delays.known refl refl refl refl refl refl tape stands),
)
