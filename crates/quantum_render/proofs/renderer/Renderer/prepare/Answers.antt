use Rattle.std.proofs.Common.{rules, List, length, max, ◌*◌, refl, sym, ◌∙◌, ap, subst}
use Rattle.std.proofs.Math.Nat.{mul_comm}
use Rattle.wa_base.specs.Contexts.{quantum_of}
use Rattle.meaning.specs.declared.params.Param.{Param}
use Rattle.automation.specs.Ready.{AreOfNodes, IsReady}
use Rattle.quantum_render.specs.Stands.{RendererView, StandsFor}
use Rattle.quantum_render.proofs.Automated.{of_nodes}
use Rattle.quantum_render.proofs.Following.{stands_like}
use Rattle.quantum_render.proofs.renderer.Renderer.prepare.Goals as goal

pub prepare-requires : goal.prepare-requires
prepare-requires g c =
    subst (λ (ps : List Param). AreOfNodes c.len-nodes.result ps) (sym c.as_slice.ensures)
    (subst (λ n. AreOfNodes n c.args.world.now.params.items) (sym c.len-nodes.ensures.value) (of_nodes c.args.world.now c.requires.valid))

pub returns-clause-ok : goal.returns-clause-ok
returns-clause-ok g c = record {
  memory = record {
    causal_count = c.in_ok-follow.ensures.count ∙ ap (λ k. max k (length c.args.world.now.nodes)) (sym c.follow.ensures.known);
    delay_count = c.in_ok-follow-2.ensures.count ∙ ap (λ k. max k (length c.args.world.now.nodes)) (sym c.follow-2.ensures.known);
    fresh_causal = c.in_ok-follow.ensures.fresh;
    fresh_delays = c.in_ok-follow-2.ensures.fresh;
  };
  plan = c.in_ok-follow-3.ensures.plan.plan;
  cycles = c.in_ok-follow-3.ensures.plan.cycles;
  places = search rules;
  automation = subst (λ (ps : List Param). IsReady ps (quantum_of c.self.inside.spec * c.self.inside.quanta) c.prepare.new.self) c.as_slice.ensures
      (subst (λ f. IsReady c.as_slice.result.now f c.prepare.new.self) (ap (λ n. c.self.inside.quanta * n) c.from.ensures ∙ mul_comm c.self.inside.quanta (quantum_of c.self.inside.spec)) c.in_ok-prepare.ensures.ready);
}

pub returns-in_err-follow-clause-stands : goal.returns-in_err-follow-clause-stands
returns-in_err-follow-clause-stands g c tape = (
  λ stands. stands_like _ _ refl refl refl c.self.inside.memory.causal.known c.self.inside.memory.delays.known refl c.follow.ensures.known c.follow.ensures.kept refl refl refl tape (subst (λ (r : RendererView). StandsFor r tape) (sym c.self.view_is) stands),
  λ stands. subst (λ (r : RendererView). StandsFor r tape) c.self.view_is (stands_like _ _ refl refl refl c.self.inside.memory.causal.known c.self.inside.memory.delays.known c.follow.ensures.known refl (sym c.follow.ensures.kept) refl refl (sym refl) tape stands),
)

pub returns-in_err-follow-2-clause-stands : goal.returns-in_err-follow-2-clause-stands
returns-in_err-follow-2-clause-stands g c tape = (
  λ stands. stands_like _ _ refl refl c.follow-2.ensures.quantum c.self.inside.memory.causal.known c.self.inside.memory.delays.known refl c.follow.ensures.known c.follow.ensures.kept refl c.follow-2.ensures.known c.follow-2.ensures.kept tape (subst (λ (r : RendererView). StandsFor r tape) (sym c.self.view_is) stands),
  λ stands. subst (λ (r : RendererView). StandsFor r tape) c.self.view_is (stands_like _ _ refl refl (sym c.follow-2.ensures.quantum) c.self.inside.memory.causal.known c.self.inside.memory.delays.known c.follow.ensures.known refl (sym c.follow.ensures.kept) c.follow-2.ensures.known refl (sym c.follow-2.ensures.kept) tape stands),
)

pub returns-in_err-resize-clause-stands : goal.returns-in_err-resize-clause-stands
returns-in_err-resize-clause-stands g c tape = (
  λ stands. stands_like _ _ refl refl c.follow-2.ensures.quantum c.self.inside.memory.causal.known c.self.inside.memory.delays.known refl c.follow.ensures.known c.follow.ensures.kept refl c.follow-2.ensures.known c.follow-2.ensures.kept tape (subst (λ (r : RendererView). StandsFor r tape) (sym c.self.view_is) stands),
  λ stands. subst (λ (r : RendererView). StandsFor r tape) c.self.view_is (stands_like _ _ refl refl (sym c.follow-2.ensures.quantum) c.self.inside.memory.causal.known c.self.inside.memory.delays.known c.follow.ensures.known refl (sym c.follow.ensures.kept) c.follow-2.ensures.known refl (sym c.follow-2.ensures.kept) tape stands),
)

pub returns-in_err-prepare-clause-stands : goal.returns-in_err-prepare-clause-stands
returns-in_err-prepare-clause-stands g c tape = (
  λ stands. stands_like _ _ refl refl c.follow-2.ensures.quantum c.self.inside.memory.causal.known c.self.inside.memory.delays.known refl c.follow.ensures.known c.follow.ensures.kept refl c.follow-2.ensures.known c.follow-2.ensures.kept tape (subst (λ (r : RendererView). StandsFor r tape) (sym c.self.view_is) stands),
  λ stands. subst (λ (r : RendererView). StandsFor r tape) c.self.view_is (stands_like _ _ refl refl (sym c.follow-2.ensures.quantum) c.self.inside.memory.causal.known c.self.inside.memory.delays.known c.follow.ensures.known refl (sym c.follow.ensures.kept) c.follow-2.ensures.known refl (sym c.follow-2.ensures.kept) tape stands),
)

pub returns-clause-stands : goal.returns-clause-stands
returns-clause-stands g c tape = (
  λ stands. stands_like _ _ refl refl c.follow-2.ensures.quantum c.self.inside.memory.causal.known c.self.inside.memory.delays.known refl c.follow.ensures.known c.follow.ensures.kept refl c.follow-2.ensures.known c.follow-2.ensures.kept tape (subst (λ (r : RendererView). StandsFor r tape) (sym c.self.view_is) stands),
  λ stands. subst (λ (r : RendererView). StandsFor r tape) c.self.view_is (stands_like _ _ refl refl (sym c.follow-2.ensures.quantum) c.self.inside.memory.causal.known c.self.inside.memory.delays.known c.follow.ensures.known refl (sym c.follow.ensures.kept) c.follow-2.ensures.known refl (sym c.follow-2.ensures.kept) tape stands),
)

pub returns-in_err-follow-3-clause-stands : goal.returns-in_err-follow-3-clause-stands
returns-in_err-follow-3-clause-stands g c tape = (
  λ stands. stands_like _ _ refl refl c.follow-2.ensures.quantum c.self.inside.memory.causal.known c.self.inside.memory.delays.known refl c.follow.ensures.known c.follow.ensures.kept refl c.follow-2.ensures.known c.follow-2.ensures.kept tape (subst (λ (r : RendererView). StandsFor r tape) (sym c.self.view_is) stands),
  λ stands. subst (λ (r : RendererView). StandsFor r tape) c.self.view_is (stands_like _ _ refl refl (sym c.follow-2.ensures.quantum) c.self.inside.memory.causal.known c.self.inside.memory.delays.known c.follow.ensures.known refl (sym c.follow.ensures.kept) c.follow-2.ensures.known refl (sym c.follow-2.ensures.kept) tape stands),
)
