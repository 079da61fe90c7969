use Rattle.std.proofs.Common.{List, ◌≡◌, ◌*◌, refl, sym, ◌∙◌, ap, subst}
use Rattle.wa_base.specs.Contexts.{quantum_of}
use Rattle.meaning.specs.declared.params.Param.{Param}
use Rattle.meaning.specs.declared.world.World.{World}
use Rattle.automation.specs.Ready.{IsReady, IsHeld}
use Rattle.quantum_render.specs.Stands.{RendererView, StandsFor, IsGrown}
use Rattle.quantum_render.proofs.Following.{stands_like}
use Rattle.quantum_render.proofs.Settled.{again_grown}
use Rattle.quantum_render.proofs.renderer.Renderer.again.Goals as goal

pub again-requires : goal.again-requires
again-requires g c =
    let held = subst (λ (x : RendererView). IsHeld c.args.world.now.params.items (quantum_of x.spec * x.quanta) x.automation) (sym c.self.view_is)
    (subst (λ (x : RendererView). IsHeld c.args.world.now.params.items (quantum_of x.spec * x.quanta) x.automation) (sym c.look.ensures.kept) c.requires.held) in
    subst (λ (ps : List Param). IsHeld ps c.args.first c.self.inside.automation) (sym c.as_slice.ensures)
    (subst (λ f. IsHeld c.args.world.now.params.items f c.self.inside.automation) (sym (c.requires.first ∙ ap (λ (x : RendererView). quantum_of x.spec * x.quanta) (sym (c.self.view_is ∙ c.look.ensures.kept)))) held)

pub returns-clause-grown : goal.returns-clause-grown
returns-clause-grown g c same =
    let w : World = c.args.world.now in
    let r : RendererView = c.look.new.self in
    let quantum : r.memory.delays.quantum ≡ quantum_of r.spec = subst (λ (x : RendererView). x.memory.delays.quantum ≡ quantum_of x.spec) c.self.view_is c.self.invariant.delays in
    let ready = subst (λ (x : RendererView). IsReady w.params.items (quantum_of x.spec * x.quanta) c.again.new.self) c.self.view_is
    (subst (λ (ps : List Param). IsReady ps (quantum_of c.self.inside.spec * c.self.inside.quanta) c.again.new.self) c.as_slice.ensures
    (subst (λ f. IsReady c.as_slice.result.now f c.again.new.self) (c.requires.first ∙ ap (λ (x : RendererView). quantum_of x.spec * x.quanta) (sym (c.self.view_is ∙ c.look.ensures.kept))) c.again.ensures.ready)) in
    subst (λ (x : RendererView). IsGrown (record x { automation = c.again.new.self }) w) (sym c.self.view_is)
    (again_grown r w c.requires.valid (ap (λ (x : RendererView). x.spec) c.look.ensures.kept ∙ sym c.requires.spec) c.args.first
    (c.requires.first ∙ ap (λ (x : RendererView). quantum_of x.spec * x.quanta) (sym c.look.ensures.kept)) quantum c.look.ensures.settled
    (c.keeps_counts-same.ensures same) c.again.new.self ready r.rest c.look.ensures.rests)

pub returns-clause-stands : goal.returns-clause-stands
returns-clause-stands g c tape = (
  λ stands. stands_like _ _ refl refl refl c.self.inside.memory.causal.known c.self.inside.memory.delays.known refl refl refl refl refl refl tape (subst (λ (r : RendererView). StandsFor r tape) (sym c.self.view_is) ((c.look.ensures.stands tape).0 stands)),
  λ stands. (c.look.ensures.stands tape).1 (subst (λ (r : RendererView). StandsFor r tape) c.self.view_is (stands_like _ _ refl refl refl c.self.inside.memory.causal.known c.self.inside.memory.delays.known refl refl refl refl refl refl tape stands)),
)
