use Rattle.std.proofs.Common.{ℕ, ◌≡◌, ◌+◌, ◌<◌, ◌≤◌, List, false, arith, length, slice_index_or, Option, None, refl, sym, ◌∙◌, ap, subst}
use Rattle.wa_base.specs.Contexts.{quantum_of}
use Rattle.wa_base.specs.declared.graph_names.End.{End}
use Rattle.law_base.specs.Members.{IsIn}
use Rattle.conn_graph.specs.Ends.{ends}
use Rattle.meaning.proofs.Joined.{joined}
use Rattle.filter_bank.specs.Banks.{heard_at, IsRestedIfThere}
use Rattle.delay_bank.specs.Kept.{DelayView}
use Rattle.quantum_blocks.specs.Blocks.{BlockView, block_of, slot, IsSilent, Writes}
use Rattle.quantum_blocks.specs.Connections.{into}
use Rattle.quantum_blocks.specs.Fits.{AreFit}
use Rattle.quantum_render.specs.declared.site.Quantum.{Quantum}
use Rattle.quantum_render.specs.Sites.{SiteView, IsSite, site_in}
use Rattle.quantum_render.specs.Benches.{BenchView}
use Rattle.quantum_render.specs.Idle.{IsMarked}
use Rattle.quantum_render.specs.declared.memory.Memory.{Memory}
use Rattle.quantum_render.specs.Listening.{HasRooms}
use Rattle.quantum_render.specs.Renders.{IsRendered}
use Rattle.quantum_blocks.proofs.Orders.{no_end}
use Rattle.quantum_render.proofs.Idling.{block_kept, idle_later, idle_rendered}
use Rattle.quantum_render.proofs.Passing.{Passing, still_fit, passing_begins, next, passing_rendered, passing_ends, all_remembered, rested_rooms, mute_there}
use Rattle.quantum_render.proofs.Ports.{some_frames}
use Rattle.quantum_render.proofs.pass.render_quantum.Goals as goal
use Rattle.quantum_render.proofs.pass.render_quantum.Goals.{Joined-not-is_marked, then-not-is_marked, else-not-is_marked}

pub hush-requires : goal.hush-requires
hush-requires c =
    let q : Quantum = c.args.quantum.now in
    let valid = c.requires.quantum.valid in
    subst (λ (ms : List End). (i : ℕ) (d : End) → i < length ms → slot (slice_index_or ms i d) < length c.args.blocks.now) (sym c.muted.ensures)
    (mute_there q.world.now valid c.args.plan.now.order c.args.plan.now.muted c.args.plan.now.into c.requires.plan q.counts.now c.args.blocks.now c.requires.fit)

pub loop-end-init : goal.loop-end-init
loop-end-init c = record {
  frames = refl;
  kept = λ d in_d marked.
      let q : Quantum = c.args.quantum.now in
      c.hush.ensures.others d (λ mute.
      let no = (c.requires.idle d in_d marked).unmuted in
      let on = (c.requires.plan.only d (subst (λ (ms : List End). IsIn d ms) c.muted.ensures mute)).1 in
      absurd cc);
  passing =
      let q : Quantum = c.args.quantum.now in
      let valid = c.requires.quantum.valid in
      passing_begins q.world.now (some_frames q.world.now valid) (joined q.world.now valid) c.args.plan.now.order c.args.plan.now.muted c.args.plan.now.into c.requires.plan
      q.counts.now q.first c.args.memory.now c.requires.rooms c.hush.new.blocks (still_fit q.world.now q.counts.now c.args.blocks.now c.hush.new.blocks c.hush.ensures.lanes c.hush.ensures.frames c.requires.fit)
      (subst (λ (ms : List End). (i : ℕ) (d : End) → i < length ms → IsSilent c.hush.new.blocks (slice_index_or ms i d)) c.muted.ensures c.hush.ensures.silent);
}

pub site-site-requires-clause-there : goal.site-site-requires-clause-there
site-site-requires-clause-there c =
    let q : Quantum = c.args.quantum.now in
    let valid = c.requires.quantum.valid in
    subst (λ (order : List End). IsIn (slice_index_or order c.loop-end.end-index no_end) (ends q.world.now.graph.value)) (sym c.order-end-items.ensures)
    (next q.world.now valid c.args.plan.now.order c.loop-end.end-index q.counts.now q.first c.args.memory.now c.loop-end.memory c.loop-end.blocks c.loop-end.invariant.passing
    (subst (λ (order : List End). c.loop-end.end-index < length order) c.order-end-items.ensures c.loop-end-test.true)).0

pub render-requires : goal.render-requires
render-requires c =
    let passing = c.loop-end.invariant.passing in
    subst (λ (x : SiteView). record {
      frames : c.loop-end.bench.frames ≡ quantum_of x.world.spec;
      fit : AreFit x.world x.counts c.loop-end.blocks;
      rooms : HasRooms c.loop-end.memory x.world x.counts;
    })
    (sym c.site-site.ensures)
    (record { frames = c.loop-end.invariant.frames ∙ c.requires.frames; fit = passing.fit; rooms = passing.rooms })

-- an end was rendered, or is idle
module _ (c : Joined-not-is_marked) where
  abbrev q : Quantum
  q = c.args.quantum.now

  abbrev x : End
  x = slice_index_or c.args.plan.now.order c.loop-end.end-index no_end

  within : c.loop-end.end-index < length c.args.plan.now.order
  within = subst (λ (order : List End). c.loop-end.end-index < length order) c.order-end-items.ensures c.loop-end-test.true

  mark : c.is_marked.result ≡ slice_index_or q.idle.now (slot x) false
  mark = c.is_marked.ensures ∙ ap (λ (order : List End). slice_index_or q.idle.now (slot (slice_index_or order c.loop-end.end-index no_end)) false) c.order-end-items.ensures

  site : IsSite q.world.now x (into q.world.now.graph.value x.node.0) q.counts.now q.levels.now q.first
  site = record {
    quantum = c.requires.quantum;
    there = (next q.world.now c.requires.quantum.valid c.args.plan.now.order c.loop-end.end-index q.counts.now q.first c.args.memory.now c.loop-end.memory c.loop-end.blocks c.loop-end.invariant.passing within).0;
    into = refl;
  }

  goes_on : (memory : Memory) (blocks : List BlockView) → IsRendered (site_in q x) c.loop-end.blocks blocks c.loop-end.memory memory
      → Passing q.world.now c.args.plan.now.order (c.loop-end.end-index + 1) q.counts.now q.first c.args.memory.now memory blocks
  goes_on memory blocks is =
      passing_rendered q.world.now c.requires.quantum.valid c.args.plan.now.order c.loop-end.end-index q.counts.now q.first c.args.memory.now c.loop-end.memory memory c.loop-end.blocks blocks c.loop-end.invariant.passing within _ q.levels.now is

  stays : IsMarked q.idle.now x → IsRendered (site_in q x) c.loop-end.blocks c.loop-end.blocks c.loop-end.memory c.loop-end.memory
  stays marked =
      let until : ℕ = q.first + quantum_of q.world.now.spec in
      idle_rendered q.world.now x (into q.world.now.graph.value x.node.0) q.counts.now q.levels.now q.first site c.loop-end.blocks c.loop-end.invariant.passing.fit q.idle.now
      (idle_later q.world.now c.requires.quantum.valid q.counts.now q.first q.first until until (omega arith) (omega arith) q.idle.now c.args.blocks.now c.loop-end.blocks c.requires.idle c.loop-end.invariant.kept)
      marked c.loop-end.memory c.loop-end.invariant.passing.rooms

  both : (memory : Memory) (blocks : List BlockView) (memory' : Memory) (blocks' : List BlockView) → memory ≡ memory' → blocks ≡ blocks'
      → Passing q.world.now c.args.plan.now.order (c.loop-end.end-index + 1) q.counts.now q.first c.args.memory.now memory' blocks' → Passing q.world.now c.args.plan.now.order (c.loop-end.end-index + 1) q.counts.now q.first c.args.memory.now memory blocks
  both memory blocks memory' blocks' same_memory same_blocks is =
      subst (λ (m : Memory). Passing q.world.now c.args.plan.now.order (c.loop-end.end-index + 1) q.counts.now q.first c.args.memory.now m blocks) (sym same_memory)
      (subst (Passing q.world.now c.args.plan.now.order (c.loop-end.end-index + 1) q.counts.now q.first c.args.memory.now memory') (sym same_blocks) is)

pub loop-end-preserved : goal.loop-end-preserved
loop-end-preserved c = record {
  frames = elim c.if-not-is_marked.branch [
    | then-not-is_marked b ↦ ap (λ (x : BenchView). x.frames) b.bench-is ∙ b.render.ensures.frames ∙ c.loop-end.invariant.frames
    | else-not-is_marked b ↦ ap (λ (x : BenchView). x.frames) b.bench-is ∙ c.loop-end.invariant.frames
  ];
  kept = elim c.if-not-is_marked.branch [
    | then-not-is_marked b ↦ λ d in_d marked.
        let here = b.site-site.ensures ∙ ap (λ (order : List End). site_in c.args.quantum.now (slice_index_or order c.loop-end.end-index no_end)) c.order-end-items.ensures in
        let writes = subst (λ (s : SiteView). Writes c.loop-end.blocks b.render.new.blocks s.end) here b.render.ensures.draws.writes in
        ap (λ (bs : List BlockView). block_of bs d) b.blocks-is
        ∙ block_kept c.loop-end.blocks b.render.new.blocks c.args.quantum.now.idle.now (slice_index_or c.args.plan.now.order c.loop-end.end-index no_end) d writes (sym (mark c) ∙ b.if-not-is_marked.true) marked
        ∙ c.loop-end.invariant.kept d in_d marked
    | else-not-is_marked b ↦ λ d in_d marked. ap (λ (bs : List BlockView). block_of bs d) b.blocks-is ∙ c.loop-end.invariant.kept d in_d marked
  ];
  passing = elim c.if-not-is_marked.branch [
    | then-not-is_marked b ↦
        let here = b.site-site.ensures ∙ ap (λ (order : List End). site_in c.args.quantum.now (slice_index_or order c.loop-end.end-index no_end)) c.order-end-items.ensures in
        let own = subst (λ (s : SiteView). IsRendered s c.loop-end.blocks b.render.new.blocks c.loop-end.memory b.render.new.memory) here
        (record { draws = b.render.ensures.draws; listens = b.render.ensures.listens; stores = b.render.ensures.stores; rooms = b.render.ensures.rooms }) in
        both c c.if-not-is_marked.memory c.if-not-is_marked.blocks b.render.new.memory b.render.new.blocks b.memory-is b.blocks-is (goes_on c b.render.new.memory b.render.new.blocks own)
    | else-not-is_marked b ↦
        both c c.if-not-is_marked.memory c.if-not-is_marked.blocks c.loop-end.memory c.loop-end.blocks b.memory-is b.blocks-is (goes_on c c.loop-end.memory c.loop-end.blocks (stays c (sym (mark c) ∙ b.if-not-is_marked.false)))
  ];
}

pub returns : goal.returns
returns c =
    let q : Quantum = c.args.quantum.now in
    let valid = c.requires.quantum.valid in
    let past = subst (λ (order : List End). length order ≤ c.loop-end.end-index) c.order-end-items.ensures c.loop-end-test.false in
    let rooms = c.loop-end.invariant.passing.rooms in
    record {
      frames = c.loop-end.invariant.frames;
      quanta = (c.rest.ensures.quantum ∙ rooms.causal_quantum ∙ sym c.requires.rooms.causal_quantum, c.end_quantum.ensures.quantum ∙ rooms.delay_quantum ∙ sym c.requires.rooms.delay_quantum);
      fit = c.loop-end.invariant.passing.fit;
      kept = c.loop-end.invariant.kept;
      values = passing_ends q.world.now valid c.args.plan.now.order c.loop-end.end-index q.counts.now q.first c.args.memory.now c.loop-end.memory c.loop-end.blocks c.loop-end.invariant.passing past;
      memory = λ tape begins counted timely ready. all_remembered q.world.now valid c.args.plan.now.order c.loop-end.end-index q.counts.now q.first c.args.memory.now c.loop-end.memory c.loop-end.blocks c.loop-end.invariant.passing past
          tape begins counted timely ready (record { causal = c.rest.new.self; delays = c.end_quantum.new.self })
          (subst (λ k. (n : ℕ) → IsRestedIfThere k q.first (heard_at c.loop-end.memory.causal n) (heard_at c.rest.new.self n)) rooms.causal_quantum
          c.rest.ensures.each)
          c.end_quantum.ensures.delays c.end_quantum.ensures.quantum;
      rooms = record {
        causal = subst (λ n. length q.world.now.nodes ≤ n) (sym c.rest.ensures.count) rooms.causal;
        delays = subst (λ (ds : List (Option DelayView)). length q.world.now.nodes ≤ length ds) (sym c.end_quantum.ensures.delays) rooms.delays;
        causal_rooms = rested_rooms c.loop-end.memory.causal.quantum q.first c.loop-end.memory.causal c.rest.new.self c.rest.ensures.each q.counts.now rooms.causal_rooms;
        delay_rooms = λ n d there low. rooms.delay_rooms n d (ap (λ (ds : List (Option DelayView)). slice_index_or ds n None) (sym c.end_quantum.ensures.delays) ∙ there) low;
        causal_quantum = c.rest.ensures.quantum ∙ rooms.causal_quantum;
        delay_quantum = c.end_quantum.ensures.quantum ∙ rooms.delay_quantum;
      };
      all = (c.rest.ensures.known ∙ sym c.rest.ensures.count, c.end_quantum.ensures.known ∙ ap length (sym c.end_quantum.ensures.delays));
      known = (c.rest.ensures.known ∙ c.loop-end.invariant.passing.causal, c.end_quantum.ensures.known ∙ c.loop-end.invariant.passing.delays);
    }
