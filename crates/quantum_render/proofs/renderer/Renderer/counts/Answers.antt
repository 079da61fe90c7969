use Rattle.std.proofs.Common.{◌≡◌, ◌*◌, refl, sym, ◌∙◌, ap, subst}
use Rattle.wa_base.specs.Contexts.{quantum_of}
use Rattle.wa_base.specs.declared.contexts.ContextSpec.{ContextSpec}
use Rattle.meaning.specs.declared.world.World.{World}
use Rattle.automation.specs.Ready.{IsReady}
use Rattle.law_base.proofs.Places.{rewritten}
use Rattle.quantum_blocks.specs.Fits.{AreInRange}
use Rattle.quantum_render.specs.Plans.{IsPlan, AreCycles, AreCounted}
use Rattle.quantum_render.specs.Stands.{RendererView, StandsFor, HasMemory}
use Rattle.quantum_render.proofs.Following.{stands_like}
use Rattle.quantum_render.proofs.Standing.{begins_now, kept_now}
use Rattle.quantum_render.proofs.renderer.Renderer.counts.Goals as goal

pub returns-clause-counted : goal.returns-clause-counted
returns-clause-counted g c =
    let w : World = c.args.world.now in
    let has = subst (λ (r : RendererView). HasMemory r w) (sym c.self.view_is) c.requires.prepared.memory in
    let kept = rewritten _ c.count_channels.new.counts _ (c.count_channels.auto.counts ∙ c.as_mut_slice.ensures.len) in
    let spec : c.self.inside.spec ≡ w.spec = ap (λ (r : RendererView). r.spec) c.self.view_is ∙ sym c.requires.spec in
    let time : c.args.first ≡ quantum_of c.self.inside.spec * c.self.inside.quanta = c.requires.first ∙ ap (λ (r : RendererView). quantum_of r.spec * r.quanta) (sym c.self.view_is) in
    record {
      plan = subst (λ (r : RendererView). IsPlan w r.order r.muted r.into) (sym c.self.view_is) c.requires.prepared.plan;
      cycles = subst (λ (r : RendererView). AreCycles w.graph.value r.cycles) (sym c.self.view_is) c.requires.prepared.cycles;
      range = subst (AreInRange w) (sym kept) c.count_channels.ensures.range;
      automation = subst (λ (r : RendererView). IsReady w.params.items (quantum_of r.spec * r.quanta) r.automation) (sym c.self.view_is) c.requires.prepared.automation;
      memory = record { causal_count = has.causal_count; delay_count = has.delay_count; fresh_causal = has.fresh_causal; fresh_delays = has.fresh_delays };
      counted = λ tape stands regular.
          let begins = begins_now _ w c.requires.valid spec tape stands regular c.args.first time c.self.invariant.delays in
          let delays = kept_now _ w c.requires.valid spec tape stands regular c.args.first time c.self.invariant.delays has.fresh_delays in
          subst (λ ns. AreCounted (quantum_of c.self.inside.spec) w ns tape) (sym kept)
          (subst (λ (s : ContextSpec). AreCounted (quantum_of s) w c.count_channels.new.counts tape) (sym spec) (c.count_channels.ensures.counted tape begins delays));
    }

pub returns-clause-stands : goal.returns-clause-stands
returns-clause-stands g c tape = (
  λ stands. stands_like _ _ refl refl refl c.self.inside.memory.causal.known c.self.inside.memory.delays.known refl refl refl refl refl refl tape (subst (λ (r : RendererView). StandsFor r tape) (sym c.self.view_is) stands),
  λ stands. subst (λ (r : RendererView). StandsFor r tape) c.self.view_is (stands_like _ _ refl refl refl c.self.inside.memory.causal.known c.self.inside.memory.delays.known refl refl refl refl refl refl tape stands),
)
