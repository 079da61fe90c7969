use Rattle.std.proofs.Common.{◌≡◌, ◌≤◌, length, Bool, true, false, refl, ap, sym, ◌∙◌, subst, ℤ, ℕ}
use Rattle.node_table.specs.declared.kinds.Kind.{Kind}
use Rattle.node_table.specs.declared.kinds.Kind.TheVariants.{Delay}
use Rattle.node_table.specs.Kinds.{is_delay_kind}
use Rattle.node_table.proofs.Lasting.{the_delay}
use Rattle.filter_bank.specs.Banks.{BankView, heard_at, HaveRoom}
use Rattle.delay_bank.specs.Banks.{BankView as DelayBank, HaveRoom as HaveDelayRoom}
use Rattle.quantum_blocks.specs.Blocks.{block_of}
use Rattle.quantum_render.specs.Renders.{Stores}
use Rattle.quantum_render.proofs.Drawing.{draws_anyway}
use Rattle.quantum_render.proofs.Rendering.{unstored}
use Rattle.quantum_render.proofs.bench.Bench.render.Goals as goal

pub render_causal-requires-clause-kind : goal.render_causal-requires-clause-kind
render_causal-requires-clause-kind c = (c.in-Causal.equation, sym c.kind.ensures.value ∙ c.in-Causal.is)

pub render_delay-requires-clause-kind : goal.render_delay-requires-clause-kind
render_delay-requires-clause-kind c = (c.in-Delay.longest, c.in-Delay.time, c.in-Delay.capacity, sym c.kind.ensures.value ∙ c.in-Delay.is)

-- ---- what a node that remembers nothing renders, and leaves

pub returns-in_default-clause-draws : goal.returns-in_default-clause-draws
returns-in_default-clause-draws c = draws_anyway c.args.site.now c.args.memory.now c.args.blocks.now c.render_plain.new.blocks c.render_plain.ensures.draws

no_delay : (kind : Kind) → ((longest time : ℤ) (capacity : ℕ) → kind ≡ Delay longest time capacity → ⊥) → is_delay_kind kind ≡ false
no_delay kind not = by_test (is_delay_kind kind) refl
  where
    by_test : (b : Bool) → is_delay_kind kind ≡ b → b ≡ false
    by_test true is = let delay = the_delay kind is in absurd (not delay.longest delay.time delay.capacity delay.is)
    by_test false is = refl

pub returns-in_default-clause-stores : goal.returns-in_default-clause-stores
returns-in_default-clause-stores c =
    unstored c.args.site.now c.kind.ensures.site (subst (λ k. is_delay_kind k ≡ false) c.kind.ensures.value (no_delay c.kind.result.now c.in_default.not-Delay)) (block_of c.render_plain.new.blocks c.args.site.now.end) c.args.memory.now.delays

pub returns-in_default-clause-listens : goal.returns-in_default-clause-listens
returns-in_default-clause-listens c = record {
  known = refl;
  count = refl;
  others = λ n apart. refl;
  own = λ equation is j earlier begins counted before ready. absurd (c.in_default.not-Causal equation (c.kind.ensures.value ∙ is));
}

-- ---- what the others leave

pub returns-in-Causal-clause-stores : goal.returns-in-Causal-clause-stores
returns-in-Causal-clause-stores c =
    subst (Stores c.args.site.now (block_of c.render_causal.new.blocks c.args.site.now.end) c.args.memory.now.delays) (sym c.render_causal.ensures.delays)
    (unstored c.args.site.now c.kind.ensures.site (ap is_delay_kind (sym c.kind.ensures.value ∙ c.in-Causal.is)) (block_of c.render_causal.new.blocks c.args.site.now.end) c.args.memory.now.delays)

pub returns-in-Causal-clause-rooms : goal.returns-in-Causal-clause-rooms
returns-in-Causal-clause-rooms c =
    let rooms = c.requires.rooms in
    record {
      causal = subst (λ n. length c.args.site.now.world.nodes ≤ n) (sym c.render_causal.ensures.listens.count) rooms.causal;
      delays = subst (λ (b : DelayBank). length c.args.site.now.world.nodes ≤ length b.delays) (sym c.render_causal.ensures.delays) rooms.delays;
      causal_rooms = c.render_causal.ensures.room;
      delay_rooms = subst (λ (b : DelayBank). HaveDelayRoom b c.args.site.now.counts) (sym c.render_causal.ensures.delays) rooms.delay_rooms;
      causal_quantum = c.render_causal.ensures.quantum ∙ rooms.causal_quantum;
      delay_quantum = ap (λ (b : DelayBank). b.quantum) c.render_causal.ensures.delays ∙ rooms.delay_quantum;
    }

pub returns-in-Delay-clause-rooms : goal.returns-in-Delay-clause-rooms
returns-in-Delay-clause-rooms c =
    let rooms = c.requires.rooms in
    record {
      causal = subst (λ (b : BankView). length c.args.site.now.world.nodes ≤ length b.nodes) (sym c.render_delay.ensures.causal) rooms.causal;
      delays = subst (λ n. length c.args.site.now.world.nodes ≤ n) (sym c.render_delay.ensures.stores.count) rooms.delays;
      causal_rooms = subst (λ (b : BankView). HaveRoom b c.args.site.now.counts) (sym c.render_delay.ensures.causal) rooms.causal_rooms;
      delay_rooms = c.render_delay.ensures.room;
      causal_quantum = ap (λ (b : BankView). b.quantum) c.render_delay.ensures.causal ∙ rooms.causal_quantum;
      delay_quantum = c.render_delay.ensures.quantum ∙ rooms.delay_quantum;
    }

pub returns-in-Delay-clause-listens : goal.returns-in-Delay-clause-listens
returns-in-Delay-clause-listens c =
    let same = c.render_delay.ensures.causal in
    let kind = sym c.kind.ensures.value ∙ c.in-Delay.is in
    record {
      known = ap (λ (b : BankView). b.known) same;
      count = ap (λ (b : BankView). length b.nodes) same;
      others = λ n apart. ap (λ (b : BankView). heard_at b n) same;
      own = λ equation is j earlier begins counted before ready. absurd (let no = sym kind ∙ is in cc);
    }
