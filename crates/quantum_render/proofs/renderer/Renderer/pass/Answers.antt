use Rattle.std.proofs.Common.{rules, ℕ, Bool, slice_index_or, List, ◌≡◌, ◌+◌, ◌-◌, ◌*◌, ◌<◌, ◌≤◌, ◌++◌, ◌∷◌, [], length, sym, ◌∙◌, ap, arith, subst, length-append}
use Rattle.std.specs.Prelude.{if◌then◌else◌, nat_le}
use Rattle.std.proofs.lemmas.List.{get_or_default}
use Rattle.wa_base.specs.Contexts.{quantum_of}
use Rattle.wa_base.specs.declared.contexts.ContextSpec.{ContextSpec}
use Rattle.mix_rules.specs.Blocks.{sample as channel_sample}
use Rattle.conn_graph.specs.Ends.{reader_of}
use Rattle.meaning.specs.declared.world.World.{World}
use Rattle.meaning.specs.Rendered.{sample}
use Rattle.meaning.specs.Validity.{IsValid}
use Rattle.law_base.proofs.Rows.{rows_up, next_quantum}
use Rattle.quantum_blocks.specs.Blocks.{BlockView, no_block, shown, slot, block_of}
use Rattle.quantum_blocks.specs.Fits.{AreInRange, AreFit}
use Rattle.quantum_render.specs.Plans.{AreCounted}
use Rattle.filter_bank.specs.Banks.{HaveRoom}
use Rattle.delay_bank.specs.Banks.{HaveRoom as HaveDelayRoom}
use Rattle.quantum_render.specs.Stands.{RendererView, StandsFor, IsGrown}
use Rattle.meaning.specs.declared.params.Param.{Param}
use Rattle.automation.specs.Ready.{AreOfNodes, IsHeld}
use Rattle.automation.specs.Levels.{LevelView, AreLevels}
use Rattle.quantum_render.proofs.Automated.{of_nodes, held_later}
use Rattle.quantum_render.specs.Listening.{IsMemory, HasRooms}
use Rattle.quantum_render.specs.Idle.{AreIdle, KeepBlocks}
use Rattle.quantum_render.proofs.Idling.{idle_now, idle_after}
use Rattle.quantum_render.proofs.Kept.{whole, timely}
use Rattle.quantum_render.proofs.Ports.{some_frames}
use Rattle.quantum_render.proofs.Standing.{begins_now, regular_now, memory_now, causal_nodes, delay_nodes, stands_on}
use Rattle.law_base.proofs.Places.{rewritten}
use Rattle.quantum_render.proofs.OutLaws.{destination_lanes, destination_frames, out_is}
use Rattle.quantum_render.proofs.renderer.Renderer.pass.Goals as goal

-- what stands at the place of the destination's end is its block
at_destination : (w : World) → IsValid w → (blocks : List BlockView) (counts : List ℕ) → AreFit w counts blocks → (k : ℕ) → k ≡ slot (reader_of 0) → (b : BlockView) → b ≡ slice_index_or blocks k b → b ≡ block_of blocks (reader_of 0)
at_destination w valid blocks counts fit k place b is =
    let some = valid.nodes.some in
    let long = fit.places in
    is ∙ get_or_default blocks k b no_block (omega (arith, place, some, long)) ∙ ap (λ j. slice_index_or blocks j no_block) place

pub take-requires-clause-nodes : goal.take-requires-clause-nodes
take-requires-clause-nodes g c = (length c.args.world.now.nodes, subst (λ (ps : List Param). AreOfNodes (length c.args.world.now.nodes) ps) (sym c.as_slice.ensures) (of_nodes c.args.world.now c.requires.valid))

pub render_quantum-requires-clause-quantum : goal.render_quantum-requires-clause-quantum
render_quantum-requires-clause-quantum g c =
    let w : World = c.args.world.now in
    let size : quantum_of c.self.inside.spec ≡ quantum_of w.spec = ap (λ (r : RendererView). quantum_of r.spec) c.self.view_is ∙ ap (λ (s : ContextSpec). quantum_of s) (sym c.requires.spec) in
    let kept : c.as_slice-2.result.now ≡ c.args.self.now.counts = c.as_slice-2.ensures.value ∙ ap (λ (r : RendererView). r.counts) c.self.view_is in
    record {
      valid = c.requires.valid;
      range = subst (AreInRange w) (sym kept) c.requires.grown.counted.range;
      begun = record {
        whole = whole (quantum_of w.spec) (some_frames w c.requires.valid) c.args.first c.args.self.now.quanta (c.requires.first ∙ ap (λ (s : ContextSpec). quantum_of s * c.args.self.now.quanta) (sym c.requires.spec));
        time = c.requires.time;
      };
      levels = subst (λ (ls : List LevelView). AreLevels (quantum_of w.spec) w.params.items c.args.first ls) (sym c.levels.ensures)
          (subst (λ (ps : List Param). AreLevels (quantum_of w.spec) ps c.args.first c.take.new.self.levels) c.as_slice.ensures
          (subst (λ k. AreLevels k c.as_slice.result.now c.args.first c.take.new.self.levels) (c.self.invariant.automation ∙ size) c.take.ensures.levels));
    }

pub render_quantum-requires-clause-rooms : goal.render_quantum-requires-clause-rooms
render_quantum-requires-clause-rooms g c =
    let size : quantum_of c.self.inside.spec ≡ quantum_of c.args.world.now.spec = ap (λ (r : RendererView). quantum_of r.spec) c.self.view_is ∙ ap (λ (s : ContextSpec). quantum_of s) (sym c.requires.spec) in
    subst (λ ns. HasRooms c.self.inside.memory c.args.world.now ns) (sym c.as_slice-2.ensures.value)
    (subst (λ (r : RendererView). HasRooms r.memory c.args.world.now r.counts) (sym c.self.view_is) (record {
      causal = let e = c.requires.grown.counted.memory.causal_count in grind arith;
      delays = let e = c.requires.grown.counted.memory.delay_count in grind arith;
      causal_rooms = c.requires.grown.causal_rooms;
      delay_rooms = c.requires.grown.delay_rooms;
      causal_quantum = subst (λ (r : RendererView). r.memory.causal.quantum ≡ quantum_of c.args.world.now.spec) c.self.view_is (c.self.invariant.causal ∙ size);
      delay_quantum = subst (λ (r : RendererView). r.memory.delays.quantum ≡ quantum_of c.args.world.now.spec) c.self.view_is (c.self.invariant.delays ∙ size);
    }))

pub copy_out-requires-clause-room : goal.copy_out-requires-clause-room
copy_out-requires-clause-room g c =
    let w : World = c.args.world.now in
    let fit = c.render_quantum.ensures.fit in
    let block = at_destination w c.requires.valid c.render_quantum.new.blocks c.as_slice-2.result.now fit c.slot.result (c.slot.ensures ∙ ap slot c.reader.ensures) c.index-blocks-slot.result c.index-blocks-slot.is in
    let frames : c.index-blocks-slot.result.frames ≡ quantum_of w.spec = ap (λ (b : BlockView). b.frames) block ∙ destination_frames w c.requires.valid c.render_quantum.new.blocks c.as_slice-2.result.now fit in
    let size : quantum_of c.self.inside.spec ≡ quantum_of w.spec = ap (λ (r : RendererView). quantum_of r.spec) c.self.view_is ∙ ap (λ (s : ContextSpec). quantum_of s) (sym c.requires.spec) in
    let out : length c.as_mut_slice.result.now ≡ 32 * quantum_of w.spec = ap length c.as_mut_slice.ensures.value ∙ c.self.invariant.out ∙ ap (λ k. 32 * k) size in
    let rows = rows_up (quantum_of w.spec) c.max-channels.result 32 (search rules) in
    subst (λ k. c.max-channels.result * k ≤ length c.as_mut_slice.result.now) (sym frames) (subst (λ k. c.max-channels.result * quantum_of w.spec ≤ k) (sym out) rows)

pub returns-clause-shows : goal.returns-clause-shows
returns-clause-shows g c tape stands regular channel m few now =
    let w : World = c.args.world.now in
    let r : RendererView = c.args.self.now in
    let q : ℕ = quantum_of w.spec in
    let counts : List ℕ = c.as_slice-2.result.now in
    let spec : r.spec ≡ w.spec = sym c.requires.spec in
    let size : quantum_of c.self.inside.spec ≡ q = ap (λ (x : RendererView). quantum_of x.spec) c.self.view_is ∙ ap (λ (s : ContextSpec). quantum_of s) spec in
    let quantum : r.memory.delays.quantum ≡ quantum_of r.spec = subst (λ (x : RendererView). x.memory.delays.quantum ≡ quantum_of x.spec) c.self.view_is c.self.invariant.delays in
    let kept : counts ≡ r.counts = c.as_slice-2.ensures.value ∙ ap (λ (x : RendererView). x.counts) c.self.view_is in
    let counted : AreCounted q w counts tape = subst (λ cs. AreCounted q w cs tape) (sym kept) (subst (λ (s : ContextSpec). AreCounted (quantum_of s) w r.counts tape) spec (c.requires.grown.counted.counted tape stands regular)) in
    let begins = begins_now r w c.requires.valid spec tape stands regular c.args.first c.requires.first quantum in
    let usual = regular_now r w c.requires.valid spec tape stands regular c.args.first c.requires.first quantum in
    let before = subst (λ (x : RendererView). IsMemory x.memory w tape c.args.first) (sym c.self.view_is) (memory_now r w c.requires.valid spec tape stands regular c.args.first c.requires.first quantum c.requires.grown.counted.memory) in
    let fit = c.render_quantum.ensures.fit in
    let block = at_destination w c.requires.valid c.render_quantum.new.blocks counts fit c.slot.result (c.slot.ensures ∙ ap slot c.reader.ensures) c.index-blocks-slot.result c.index-blocks-slot.is in
    let frames : c.index-blocks-slot.result.frames ≡ q = ap (λ (b : BlockView). b.frames) block ∙ destination_frames w c.requires.valid c.render_quantum.new.blocks counts fit in
    let longer : length (tape ++ w ∷ []) ≡ length tape + 1 = length-append tape (w ∷ []) in
    let within : (k : ℕ) → k < c.self.inside.spec.channels → k < c.max-channels.result = λ k low. let most = c.max-channels.ensures in grind arith in
    ap (λ xs. channel_sample (quantum_of c.self.inside.spec) xs channel m) (rewritten _ c.copy_out.new.out _ (c.copy_out.ensures.length ∙ c.as_mut_slice.ensures.len))
    ∙ subst (λ n. m < n → channel_sample n c.copy_out.new.out channel m ≡ sample n (tape ++ w ∷ []) (n * (length (tape ++ w ∷ []) - 1) + m) channel) (sym size) (λ short.
    out_is w c.requires.valid tape c.render_quantum.new.blocks counts c.copy_out.new.out channel m counted (c.render_quantum.ensures.values tape begins counted (timely w (some_frames w c.requires.valid) tape usual) before)
    (λ k l low early. subst (λ n. l < n → channel_sample n c.copy_out.new.out k l ≡ shown c.index-blocks-slot.result l k) frames
    (c.copy_out.ensures.values k l (within k (subst (λ (s : ContextSpec). k < s.channels) (c.requires.spec ∙ sym (ap (λ (x : RendererView). x.spec) c.self.view_is)) low))) early ∙ ap (λ (b : BlockView). shown b l k) block)
    (destination_lanes w c.requires.valid c.render_quantum.new.blocks counts fit)
    (subst (λ (s : ContextSpec). channel < s.channels) (ap (λ (x : RendererView). x.spec) c.self.view_is ∙ sym c.requires.spec) few) short
    ∙ ap (λ k. sample q (tape ++ w ∷ []) (q * k + m) channel) (let e : length tape ≡ length (tape ++ w ∷ []) - 1 = omega arith in e)) now

pub returns-clause-stands : goal.returns-clause-stands
returns-clause-stands g c tape stands regular =
    let w : World = c.args.world.now in
    let r : RendererView = c.args.self.now in
    let counts : List ℕ = c.as_slice-2.result.now in
    let spec : r.spec ≡ w.spec = sym c.requires.spec in
    let quantum : r.memory.delays.quantum ≡ quantum_of r.spec = subst (λ (x : RendererView). x.memory.delays.quantum ≡ quantum_of x.spec) c.self.view_is c.self.invariant.delays in
    let has = c.requires.grown.counted.memory in
    let kept : counts ≡ r.counts = c.as_slice-2.ensures.value ∙ ap (λ (x : RendererView). x.counts) c.self.view_is in
    let counted : AreCounted (quantum_of w.spec) w counts tape = subst (λ cs. AreCounted (quantum_of w.spec) w cs tape) (sym kept) (subst (λ (s : ContextSpec). AreCounted (quantum_of s) w r.counts tape) spec (c.requires.grown.counted.counted tape stands regular)) in
    let begins = begins_now r w c.requires.valid spec tape stands regular c.args.first c.requires.first quantum in
    let usual = regular_now r w c.requires.valid spec tape stands regular c.args.first c.requires.first quantum in
    let before = subst (λ (x : RendererView). IsMemory x.memory w tape c.args.first) (sym c.self.view_is) (memory_now r w c.requires.valid spec tape stands regular c.args.first c.requires.first quantum has) in
    let after = c.render_quantum.ensures.memory tape begins counted (timely w (some_frames w c.requires.valid) tape usual) before in
    let causal = c.render_quantum.ensures.known.0 ∙ ap (λ (x : RendererView). length x.memory.causal.nodes) c.self.view_is ∙ causal_nodes r w c.requires.valid spec tape stands regular c.args.first c.requires.first quantum has in
    let delays = c.render_quantum.ensures.known.1 ∙ ap (λ (x : RendererView). length x.memory.delays.delays) c.self.view_is ∙ delay_nodes r w c.requires.valid spec tape stands regular c.args.first c.requires.first quantum has in
    let on = subst (λ (x : RendererView). StandsFor (record x { quanta = x.quanta + 1; memory = c.render_quantum.new.memory }) (tape ++ w ∷ [])) (sym c.self.view_is)
    (stands_on r w c.requires.valid spec tape stands regular c.args.first c.requires.first quantum c.render_quantum.new.memory
    (c.render_quantum.ensures.quanta.1 ∙ c.self.invariant.delays ∙ ap (λ (x : RendererView). quantum_of x.spec) c.self.view_is) causal delays after) in
    record { quanta = on.quanta; nodes = on.nodes; causal = on.causal; delays = on.delays }

pub returns-clause-fitted : goal.returns-clause-fitted
returns-clause-fitted g c =
    let w : World = c.args.world.now in
    let counts : c.as_slice-2.result.now ≡ c.self.inside.counts.items = c.as_slice-2.ensures.value in
    let grown = subst (λ (r : RendererView). IsGrown r w) (sym c.self.view_is) c.requires.grown in
    let rooms = c.render_quantum.ensures.rooms in
    record {
      plan = grown.counted.plan;
      cycles = grown.counted.cycles;
      range = grown.counted.range;
      blocks = subst (AreFit w c.self.inside.counts.items) (sym (rewritten _ c.render_quantum.new.blocks _ (c.render_quantum.auto.blocks ∙ c.as_mut_slice-blocks.ensures.len)))
          (subst (λ (ns : List ℕ). AreFit w ns c.render_quantum.new.blocks) counts c.render_quantum.ensures.fit);
      causal_rooms = subst (λ (ns : List ℕ). HaveRoom c.render_quantum.new.memory.causal ns) counts rooms.causal_rooms;
      delay_rooms = subst (λ (ns : List ℕ). HaveDelayRoom c.render_quantum.new.memory.delays ns) counts rooms.delay_rooms;
      causal_known = c.render_quantum.ensures.all.0;
      delays_known = c.render_quantum.ensures.all.1;
      causal_all = rooms.causal;
      delays_all = rooms.delays;
    }

pub returns-clause-held : goal.returns-clause-held
returns-clause-held g c =
    let q = quantum_of c.self.inside.spec in
    let begun : c.args.first ≡ q * c.self.inside.quanta = c.requires.first ∙ ap (λ (x : RendererView). quantum_of x.spec * x.quanta) (sym c.self.view_is) in
    held_later c.args.world.now.params.items c.args.first (q * (c.self.inside.quanta + 1)) c.take.new.self (omega (arith, begun, next_quantum q c.self.inside.quanta))
    (subst (λ (ps : List Param). IsHeld ps c.args.first c.take.new.self) c.as_slice.ensures c.take.ensures.held)

-- ---- idle ends

pub render_quantum-requires-clause-idle : goal.render_quantum-requires-clause-idle
render_quantum-requires-clause-idle g c =
    let w : World = c.args.world.now in
    let r : RendererView = c.args.self.now in
    let next : c.args.first + c.from.result ≡ c.args.first + quantum_of r.spec = ap (λ n. c.args.first + n) (c.from.ensures ∙ ap (λ (x : RendererView). quantum_of x.spec) c.self.view_is) in
    let marks = c.marks.ensures ∙ ap (λ (x : RendererView). if nat_le (c.args.first + c.from.result) x.rest.until then x.rest.marks else []) c.self.view_is
    ∙ ap (λ f. if nat_le f r.rest.until then r.rest.marks else []) next in
    let counts : c.as_slice-2.result.now ≡ r.counts = c.as_slice-2.ensures.value ∙ ap (λ (x : RendererView). x.counts) c.self.view_is in
    let blocks : c.as_mut_slice-blocks.result.now ≡ r.blocks = c.as_mut_slice-blocks.ensures.value ∙ ap (λ (x : RendererView). x.blocks) c.self.view_is in
    subst (λ (ms : List Bool). AreIdle w c.as_slice-2.result.now c.args.first (c.args.first + quantum_of w.spec) ms c.as_mut_slice-blocks.result.now) (sym marks)
    (subst (λ ns. AreIdle w ns c.args.first (c.args.first + quantum_of w.spec) (if nat_le (c.args.first + quantum_of r.spec) r.rest.until then r.rest.marks else []) c.as_mut_slice-blocks.result.now) (sym counts)
    (subst (λ (bs : List BlockView). AreIdle w r.counts c.args.first (c.args.first + quantum_of w.spec) (if nat_le (c.args.first + quantum_of r.spec) r.rest.until then r.rest.marks else []) bs) (sym blocks)
    (idle_now r w c.requires.valid (sym c.requires.spec) c.requires.grown.rests c.args.first c.requires.first)))

pub returns-clause-rests : goal.returns-clause-rests
returns-clause-rests g c known =
    let w : World = c.args.world.now in
    let r : RendererView = c.args.self.now in
    let next : c.args.first + c.from.result ≡ c.args.first + quantum_of r.spec = ap (λ n. c.args.first + n) (c.from.ensures ∙ ap (λ (x : RendererView). quantum_of x.spec) c.self.view_is) in
    let marks = c.marks.ensures ∙ ap (λ (x : RendererView). if nat_le (c.args.first + c.from.result) x.rest.until then x.rest.marks else []) c.self.view_is
    ∙ ap (λ f. if nat_le f r.rest.until then r.rest.marks else []) next in
    let later : quantum_of r.spec * (r.quanta + 1 + 1) ≤ r.rest.until = subst (λ (x : RendererView). quantum_of x.spec * (x.quanta + 1 + 1) ≤ x.rest.until) c.self.view_is known in
    subst (λ (bs : List BlockView). AreIdle w c.self.inside.counts.items (quantum_of c.self.inside.spec * (c.self.inside.quanta + 1)) c.self.inside.rest.until c.self.inside.rest.marks bs)
    (sym (rewritten _ c.render_quantum.new.blocks _ (c.render_quantum.auto.blocks ∙ c.as_mut_slice-blocks.ensures.len)))
    (subst (λ (x : RendererView). AreIdle w x.counts (quantum_of x.spec * (x.quanta + 1)) x.rest.until x.rest.marks c.render_quantum.new.blocks) (sym c.self.view_is)
    (idle_after r w c.requires.valid (sym c.requires.spec) c.requires.grown.rests c.args.first c.requires.first c.marks.result.now marks c.render_quantum.new.blocks (subst (λ (bs : List BlockView). KeepBlocks w c.marks.result.now bs c.render_quantum.new.blocks) (c.as_mut_slice-blocks.ensures.value ∙ ap (λ (x : RendererView). x.blocks) c.self.view_is) c.render_quantum.ensures.kept) later))
