-- A renderer that goes on in a world in which it is settled.
use Rattle.std.proofs.Common.{ℕ, ◌≡◌, ◌*◌, ◌≤◌, max, length, sym, ◌∙◌, ap, arith, subst}
use Rattle.std.specs.Prelude.{List, ◌↔◌}
use Rattle.wa_base.specs.Contexts.{quantum_of}
use Rattle.wa_base.specs.declared.contexts.ContextSpec.{ContextSpec}
use Rattle.wa_base.specs.declared.graph_names.End.{End}
use Rattle.law_base.specs.Members.{IsIn}
use Rattle.automation.specs.Ready.{AutomationView, IsReady}
use Rattle.meaning.specs.declared.world.World.{World}
use Rattle.meaning.specs.Validity.{IsValid}
use Rattle.quantum_render.specs.Plans.{AreCounted, AsCounted}
use Rattle.quantum_render.specs.Stands.{RendererView, StandsFor, HasMemory, IsGrown, IsSettled, Rests}
use Rattle.quantum_render.specs.Idle.{RestView}
use Rattle.quantum_render.proofs.Standing.{begins_now, kept_now}
use Rattle.quantum_render.proofs.Steady.{steady_all_counted}

-- where no node is new, nothing new is remembered
no_more : (a b n : ℕ) → a ≡ b → n ≤ b → a ≡ max b n
no_more a b n same few = grind arith

module _ (r : RendererView) (w : World) (valid : IsValid w) (spec : r.spec ≡ w.spec) (first : ℕ) (is : first ≡ quantum_of r.spec * r.quanta) (quantum : r.memory.delays.quantum ≡ quantum_of r.spec) (settled : IsSettled r w) where
  size : quantum_of r.spec ≡ quantum_of w.spec
  size = ap (λ (s : ContextSpec). quantum_of s) spec

  has_memory : HasMemory r w
  has_memory = record {
    causal_count = no_more _ _ _ (sym settled.fitted.causal_known) (subst (λ k. length w.nodes ≤ k) (sym settled.fitted.causal_known) settled.fitted.causal_all);
    delay_count = no_more _ _ _ (sym settled.fitted.delays_known) (subst (λ k. length w.nodes ≤ k) (sym settled.fitted.delays_known) settled.fitted.delays_all);
    fresh_causal = λ n equation high low kind. let known = settled.fitted.causal_known in let all = settled.fitted.causal_all in absurd (omega (arith, high, low, known, all));
    fresh_delays = λ n longest time capacity high low kind writer. let known = settled.fitted.delays_known in let all = settled.fitted.delays_all in absurd (omega (arith, high, low, known, all));
  }

  pub again_grown : ((d : End) → IsIn d r.timed → AsCounted r.memory.delays w first r.counts d) → (automated : AutomationView) → IsReady w.params.items (quantum_of r.spec * r.quanta) automated → (rest : RestView) → Rests (record r { rest = rest }) w
      → IsGrown (record r { automation = automated; rest = rest }) w
  again_grown each automated ready rest rests = record {
    counted = record {
      plan = settled.fitted.plan;
      cycles = settled.fitted.cycles;
      range = settled.fitted.range;
      automation = ready;
      memory = record { causal_count = has_memory.causal_count; delay_count = has_memory.delay_count; fresh_causal = has_memory.fresh_causal; fresh_delays = has_memory.fresh_delays };
      counted = λ tape stands regular.
          let stood : StandsFor r tape = record { quanta = stands.quanta; nodes = stands.nodes; causal = stands.causal; delays = stands.delays } in
          let begins = begins_now r w valid spec tape stood regular first is quantum in
          let kept = kept_now r w valid spec tape stood regular first is quantum has_memory.fresh_delays in
          subst (λ (s : ContextSpec). AreCounted (quantum_of s) w r.counts tape) (sym spec)
          (steady_all_counted w valid r.memory.delays first (quantum ∙ size) r.order r.muted r.timed r.into settled.fitted.plan r.counts settled.fitted.range settled.steady each tape begins kept);
    };
    blocks = settled.fitted.blocks;
    causal_rooms = settled.fitted.causal_rooms;
    delay_rooms = settled.fitted.delay_rooms;
    rests = rests;
  }

-- ---- what a renderer knows of idle ends has no part in it

pub settled_with : (r : RendererView) (rest : RestView) (w : World) → IsSettled r w → IsSettled (record r { rest = rest }) w
settled_with r rest w is = record {
  fitted = record {
    plan = is.fitted.plan;
    cycles = is.fitted.cycles;
    range = is.fitted.range;
    blocks = is.fitted.blocks;
    causal_rooms = is.fitted.causal_rooms;
    delay_rooms = is.fitted.delay_rooms;
    causal_known = is.fitted.causal_known;
    delays_known = is.fitted.delays_known;
    causal_all = is.fitted.causal_all;
    delays_all = is.fitted.delays_all;
  };
  steady = is.steady;
}

pub stands_with : (r : RendererView) (rest : RestView) (tape : List World) → StandsFor r tape ↔ StandsFor (record r { rest = rest }) tape
stands_with r rest tape = (
  λ is. record { quanta = is.quanta; nodes = is.nodes; causal = is.causal; delays = is.delays },
  λ is. record { quanta = is.quanta; nodes = is.nodes; causal = is.causal; delays = is.delays },
)
