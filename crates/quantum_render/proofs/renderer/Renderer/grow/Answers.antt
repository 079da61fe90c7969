use Rattle.std.proofs.Common.{ℕ, List, ◌≡◌, ◌≤◌, ◌*◌, length, max, refl, sym, ◌∙◌, ap, subst}
use Rattle.wa_base.specs.Contexts.{quantum_of}
use Rattle.delay_line.specs.Delays.{Writer}
use Rattle.meaning.specs.declared.world.World.{World}
use Rattle.meaning.specs.World.{node_at}
use Rattle.meaning.specs.Pasts.{last_world, past}
use Rattle.filter_bank.specs.Banks.{HaveRoom, AreSame}
use Rattle.delay_bank.specs.Kept.{IsKept}
use Rattle.delay_bank.specs.Banks.{BankView as DelayBank, delay_at, AreKept, AreNew, HaveRoom as HaveDelayRoom, AreSame as AreSameDelays}
use Rattle.quantum_render.specs.declared.memory.Memory.{Memory}
use Rattle.law_base.proofs.Places.{on_ok}
use Rattle.filter_bank.proofs.Same.{still_heard, was_heard, still_new}
use Rattle.delay_bank.proofs.Same.{same_refl}
use Rattle.quantum_blocks.specs.Blocks.{BlockView}
use Rattle.quantum_blocks.specs.Fits.{AreFit}
use Rattle.quantum_render.specs.Idle.{RestView}
use Rattle.quantum_render.specs.Stands.{RendererView, past_writer, StandsFor, IsCounted, IsGrown, Rests}
use Rattle.quantum_render.proofs.Idling.{wakes}
use Rattle.quantum_render.proofs.renderer.Renderer.grow.Goals as goal

-- a renderer with other blocks, which knows nothing of idle ends, and with a memory that is as it was but for its room
abbrev grown : Memory → List BlockView → RestView → RendererView → RendererView
grown memory blocks rest r = record r { memory = memory; blocks = blocks; rest = rest }

-- delays that are as they were keep what they kept
still_kept : (old new : DelayBank) → AreSameDelays old new → (w : World) (now : ℕ) (writers : ℕ → Writer) → AreKept old w now writers → AreKept new w now writers
still_kept old new same w now writers are n longest time capacity low is =
    subst (λ q. IsKept q (delay_at new n) capacity (node_at w n).attrs.birth now (writers n)) (sym same.quantum)
    ((same.still n capacity (node_at w n).attrs.birth now (writers n)).0 (are n longest time capacity low is))

was_kept : (old new : DelayBank) → AreSameDelays old new → (w : World) (now : ℕ) (writers : ℕ → Writer) → AreKept new w now writers → AreKept old w now writers
was_kept old new same w now writers are n longest time capacity low is =
    (same.still n capacity (node_at w n).attrs.birth now (writers n)).1
    (subst (λ q. IsKept q (delay_at new n) capacity (node_at w n).attrs.birth now (writers n)) same.quantum (are n longest time capacity low is))

new_delays : (old new : DelayBank) → AreSameDelays old new → (w : World) → AreNew old w → AreNew new w
new_delays old new same w are n longest time capacity high low is writer =
    subst (λ q. IsKept q (delay_at new n) capacity (node_at w n).attrs.birth (node_at w n).attrs.birth writer) (sym same.quantum)
    ((same.still n capacity (node_at w n).attrs.birth (node_at w n).attrs.birth writer).0 (are n longest time capacity (subst (λ k. k ≤ n) same.known high) low is writer))

module _ (memory : Memory) (blocks : List BlockView) (rest : RestView) (r : RendererView) (causal : AreSame r.memory.causal memory.causal) (delays : AreSameDelays r.memory.delays memory.delays) where
  still_stands : (tape : List World) → StandsFor r tape → StandsFor (grown memory blocks rest r) tape
  still_stands tape stands = record {
    quanta = stands.quanta;
    nodes = (causal.known ∙ stands.nodes.0, delays.known ∙ stands.nodes.1);
    causal = still_heard r.memory.causal memory.causal causal (last_world tape) _ _ stands.causal;
    delays = still_kept r.memory.delays memory.delays delays (last_world tape) (quantum_of r.spec * r.quanta) (past_writer (past (quantum_of r.spec) tape)) stands.delays;
  }

  stood : (tape : List World) → StandsFor (grown memory blocks rest r) tape → StandsFor r tape
  stood tape stands = record {
    quanta = stands.quanta;
    nodes = (sym causal.known ∙ stands.nodes.0, sym delays.known ∙ stands.nodes.1);
    causal = was_heard r.memory.causal memory.causal causal (last_world tape) _ _ stands.causal;
    delays = was_kept r.memory.delays memory.delays delays (last_world tape) (quantum_of r.spec * r.quanta) (past_writer (past (quantum_of r.spec) tape)) stands.delays;
  }

  is_grown : (w : World) → IsCounted r w → Rests (grown memory blocks rest r) w → AreFit w r.counts blocks → HaveRoom memory.causal r.counts → HaveDelayRoom memory.delays r.counts → IsGrown (grown memory blocks rest r) w
  is_grown w are rests fit causal_rooms delay_rooms = record {
    counted = record {
      plan = are.plan;
      cycles = are.cycles;
      range = are.range;
      automation = are.automation;
      memory = record {
        causal_count = causal.count ∙ are.memory.causal_count ∙ ap (λ k. max k (length w.nodes)) (sym causal.known);
        delay_count = delays.count ∙ are.memory.delay_count ∙ ap (λ k. max k (length w.nodes)) (sym delays.known);
        fresh_causal = still_new r.memory.causal memory.causal causal w are.memory.fresh_causal;
        fresh_delays = new_delays r.memory.delays memory.delays delays w are.memory.fresh_delays;
      };
      counted = λ tape stands regular. are.counted tape (stood tape stands) regular;
    };
    blocks = fit;
    causal_rooms = causal_rooms;
    delay_rooms = delay_rooms;
    rests = rests;
  }

causal_now : (c : goal.After-grow-2) → AreSame c.args.self.now.memory.causal c.grow.new.self
causal_now c = subst (λ (r : RendererView). AreSame r.memory.causal c.grow.new.self) c.self.view_is c.grow.ensures.same

delays_now : (c : goal.After-grow-2) → AreSameDelays c.args.self.now.memory.delays c.grow-2.new.self
delays_now c = subst (λ (r : RendererView). AreSameDelays r.memory.delays c.grow-2.new.self) c.self.view_is c.grow-2.ensures.same

pub returns-clause-ok : goal.returns-clause-ok
returns-clause-ok c =
    let counts : c.as_slice-counts.result.now ≡ c.args.self.now.counts = c.as_slice-counts.ensures.value ∙ ap (λ (r : RendererView). r.counts) c.self.view_is in
    let memory : Memory = record { causal = c.grow.new.self; delays = c.grow-2.new.self } in
    on_ok c.grow-2.result (λ rooms.
    subst (λ (r : RendererView). IsGrown (grown memory c.fit_blocks.new.blocks.items c.make_room.new.self r) c.args.world.now) (sym c.self.view_is)
    (is_grown memory c.fit_blocks.new.blocks.items c.make_room.new.self c.args.self.now (causal_now c) (delays_now c) c.args.world.now c.requires.counted (wakes (grown memory c.fit_blocks.new.blocks.items c.make_room.new.self c.args.self.now) c.args.world.now c.requires.valid (sym c.requires.spec) c.make_room.ensures)
    (subst (λ ns. AreFit c.args.world.now ns c.fit_blocks.new.blocks.items) counts c.in_ok-fit_blocks.ensures) (subst (HaveRoom c.grow.new.self) counts c.in_ok-grow.ensures.ok) (subst (HaveDelayRoom c.grow-2.new.self) counts rooms)))
    c.grow-2.ensures.ok

pub returns-clause-stands : goal.returns-clause-stands
returns-clause-stands c tape =
    let memory : Memory = record { causal = c.grow.new.self; delays = c.grow-2.new.self } in (
      λ stands. subst (λ (r : RendererView). StandsFor (grown memory c.fit_blocks.new.blocks.items c.make_room.new.self r) tape) (sym c.self.view_is) (still_stands memory c.fit_blocks.new.blocks.items c.make_room.new.self c.args.self.now (causal_now c) (delays_now c) tape stands),
      λ stands. stood memory c.fit_blocks.new.blocks.items c.make_room.new.self c.args.self.now (causal_now c) (delays_now c) tape (subst (λ (r : RendererView). StandsFor (grown memory c.fit_blocks.new.blocks.items c.make_room.new.self r) tape) c.self.view_is stands),
    )

pub returns-in_err-grow-clause-stands : goal.returns-in_err-grow-clause-stands
returns-in_err-grow-clause-stands c tape =
    let memory : Memory = record { causal = c.grow.new.self; delays = c.args.self.now.memory.delays } in
    let same : AreSameDelays c.args.self.now.memory.delays c.args.self.now.memory.delays = record { quantum = refl; known = refl; count = refl; still = λ n. same_refl _ _ } in (
      λ stands. subst (λ (r : RendererView). StandsFor (grown (record { causal = c.grow.new.self; delays = r.memory.delays }) c.fit_blocks.new.blocks.items c.make_room.new.self r) tape) (sym c.self.view_is) (still_stands memory c.fit_blocks.new.blocks.items c.make_room.new.self c.args.self.now (subst (λ (r : RendererView). AreSame r.memory.causal c.grow.new.self) c.self.view_is c.grow.ensures.same) same tape stands),
      λ stands. stood memory c.fit_blocks.new.blocks.items c.make_room.new.self c.args.self.now (subst (λ (r : RendererView). AreSame r.memory.causal c.grow.new.self) c.self.view_is c.grow.ensures.same) same tape (subst (λ (r : RendererView). StandsFor (grown (record { causal = c.grow.new.self; delays = r.memory.delays }) c.fit_blocks.new.blocks.items c.make_room.new.self r) tape) c.self.view_is stands),
    )

pub returns-in_err-fit_blocks-clause-stands : goal.returns-in_err-fit_blocks-clause-stands
returns-in_err-fit_blocks-clause-stands c tape = (
  λ stands. subst (λ (r : RendererView). StandsFor (record r { blocks = c.fit_blocks.new.blocks.items; rest = c.make_room.new.self }) tape) (sym c.self.view_is) (record { quanta = stands.quanta; nodes = stands.nodes; causal = stands.causal; delays = stands.delays }),
  λ stands.
      let was = subst (λ (r : RendererView). StandsFor (record r { blocks = c.fit_blocks.new.blocks.items; rest = c.make_room.new.self }) tape) c.self.view_is stands in
      record { quanta = was.quanta; nodes = was.nodes; causal = was.causal; delays = was.delays },
)

pub returns-in_err-make_room-clause-stands : goal.returns-in_err-make_room-clause-stands
returns-in_err-make_room-clause-stands c tape = (
  λ stands. subst (λ (r : RendererView). StandsFor (record r { rest = c.make_room.new.self }) tape) (sym c.self.view_is) (record { quanta = stands.quanta; nodes = stands.nodes; causal = stands.causal; delays = stands.delays }),
  λ stands.
      let was = subst (λ (r : RendererView). StandsFor (record r { rest = c.make_room.new.self }) tape) c.self.view_is stands in
      record { quanta = was.quanta; nodes = was.nodes; causal = was.causal; delays = was.delays },
)
