use Rattle.std.proofs.Common.{ℕ, List, ℤ, pos, ◌≡◌, ◌+◌, ◌*◌, ◌<◌, ◌≤◌, length, Bool, true, Some, slice_index_or, inl, inr, refl, sym, ◌∙◌, ap, arith, subst}
use Rattle.std.specs.Prelude.{if◌then◌else◌, nat_lt, not}
use Rattle.std.proofs.lemmas.Bool.Decides.{nat_tests}
use Rattle.wa_base.specs.Contexts.{quantum_of}
use Rattle.mix_rules.specs.Blocks.{sample}
use Rattle.delay_bank.specs.Kept.{room_of as delay_room, IsKept, Brings}
use Rattle.meaning.specs.World.{sounding}
use Rattle.meaning.specs.Counts.{input_channels, reader_channels}
use Rattle.meaning.specs.Values.{input_value, delayed}
use Rattle.delay_bank.specs.Banks.{delay_at, Writes}
use Rattle.quantum_blocks.specs.Blocks.{BlockView, at, shown, slot, counts_in}
use Rattle.quantum_render.specs.Benches.{BenchView}
use Rattle.quantum_render.specs.Sites.{SiteView}
use Rattle.quantum_render.specs.Renders.{past_of, here_of}
use Rattle.law_base.proofs.Places.{this_or_other}
use Rattle.quantum_blocks.proofs.Sources.{end_low}
use Rattle.quantum_render.proofs.SiteLaws.{site_slot}
use Rattle.quantum_render.proofs.Rendering.{site_is, own_room, renders_own}
use Rattle.quantum_render.proofs.bench.Bench.render_writer.Goals as goal

pub copy-requires-clause-frames : goal.copy-requires-clause-frames
copy-requires-clause-frames c =
    let own = c.place-place.ensures.own c.args.blocks.now c.requires.fit in
    c.self.invariant.heard_frames ∙ ap (λ (b : BenchView). b.frames) c.self.view_is ∙ c.write_heard.ensures.frames ∙ c.take_input.ensures.frames ∙ c.requires.frames ∙ sym (own.frames c.index-blocks-place.result)

pub copy-requires-clause-room : goal.copy-requires-clause-room
copy-requires-clause-room c =
    let own = c.place-place.ensures.own c.args.blocks.now c.requires.fit in
    let heard : c.self.inside.heard ≡ c.take_input.new.self.heard = ap (λ (b : BenchView). b.heard) c.self.view_is ∙ c.write_heard.ensures.heard in
    own_room c.args.site.now _ c.requires.kind.3 refl (slice_index_or c.args.blocks.now c.place-place.result c.index-blocks-place.result) (own.lanes c.index-blocks-place.result) _ (ap (λ (b : BlockView). b.lanes) heard ∙ c.take_input.ensures.lanes ∙ c.channels.ensures.count)

-- the writer's place is the first of its node's two
own_slot : (s : SiteView) → s.end.writer ≡ true → slot s.end ≡ 2 * s.end.node.0
own_slot s writer = ap (λ (b : Bool). 2 * s.end.node.0 + (if b then 0 else 1)) writer ∙ omega arith

pub write_heard-requires-clause-room : goal.write_heard-requires-clause-room
write_heard-requires-clause-room c d is =
    let s : SiteView = c.args.site.now in
    let site = site_is s _ _ _ _ _ _ c.site.invariant.0 c.site.view_is in
    let here = own_slot s c.requires.writer in
    let place : 2 * s.end.node.0 < length s.counts = subst (λ k. k < length s.counts) here (site_slot s.world s.end s.into s.counts s.levels s.first site) in
    let fits = c.requires.room s.end.node.0 d (subst (λ k. delay_at c.args.delays.now k ≡ Some d) (ap (λ (x : SiteView). x.end.node.0) c.site.view_is) is) place in
    subst (λ n. n ≤ delay_room d) (sym (c.take_input.ensures.lanes ∙ c.channels.ensures.count ∙ ap (λ k. slice_index_or s.counts k 1) here)) fits

pub write_heard-requires-clause-there : goal.write_heard-requires-clause-there
write_heard-requires-clause-there c =
    let low = end_low c.site.inside.quantum.now.world.now c.site.invariant.0.quantum.valid c.site.inside.end c.site.invariant.0.there in
    let count = subst (λ (x : SiteView). length x.world.nodes ≤ length c.args.delays.now.delays) (sym c.site.view_is) c.requires.count in
    omega arith

pub returns-clause-draws : goal.returns-clause-draws
returns-clause-draws c =
    let own = c.place-place.ensures.own c.args.blocks.now c.requires.fit in
    let s : SiteView = c.args.site.now in
    let heard : c.self.inside.heard ≡ c.take_input.new.self.heard = ap (λ (b : BenchView). b.heard) c.self.view_is ∙ c.write_heard.ensures.heard in
    let channels : c.channels.result ≡ counts_in s.counts s.end = c.channels.ensures.count in
    let lanes : c.self.inside.heard.lanes ≡ c.channels.result = ap (λ (b : BlockView). b.lanes) heard ∙ c.take_input.ensures.lanes in
    own.draws c.copy.new.self (renders_own s _ c.requires.kind.3 refl c.args.blocks.now c.copy.new.self (c.copy.ensures.lanes ∙ lanes ∙ channels) (c.copy.ensures.frames ∙ own.frames c.index-blocks-place.result) (λ j earlier begins counted before channel m low now.
    let heard_by = counted ∙ ap (λ b. if not b then reader_channels (quantum_of s.world.spec) (sounding s.world) j earlier (counts_in s.counts) s.end.node.0 else input_channels (sounding s.world) (counts_in s.counts) s.end.node.0 0) c.requires.writer in
    let low' : channel < c.channels.result = subst (λ n. channel < n) (sym channels) low in
    c.copy.ensures.values channel m (subst (λ n. channel < n) (sym lanes) low') (subst (λ n. m < n) (sym (own.frames c.index-blocks-place.result)) now)
    ∙ ap (λ (b : BlockView). at b channel m) heard
    ∙ c.take_input.ensures.input (channels ∙ heard_by) channel m low' now
    ∙ ap (λ b. if b then input_value (here_of s c.args.blocks.now m) s.end.node.0 0 channel else delayed (quantum_of s.world.spec) (s.first + m) (past_of s c.args.blocks.now before) (here_of s c.args.blocks.now m) s.end.node.0 channel) (sym c.requires.writer)))

-- the lanes of the input, which are written
abbrev input_of : goal.After-copy → List ℤ
input_of c = c.write_heard.ensures.writes.0

writes_it : (c : goal.After-copy) → Writes c.args.delays.now c.write_heard.new.delays c.args.site.now.end.node.0 c.args.site.now.first c.channels.result (input_of c)
writes_it c =
    subst (λ n. Writes c.args.delays.now c.write_heard.new.delays c.args.site.now.end.node.0 c.args.site.now.first n (input_of c)) c.take_input.ensures.lanes
    (subst (λ (x : SiteView). Writes c.args.delays.now c.write_heard.new.delays x.end.node.0 x.first c.take_input.new.self.heard.lanes (input_of c)) c.site.view_is c.write_heard.ensures.writes.2)

pub returns-clause-stores : goal.returns-clause-stores
returns-clause-stores c =
    let own = c.place-place.ensures.own c.args.blocks.now c.requires.fit in
    let s : SiteView = c.args.site.now in
    let site = site_is s _ _ _ _ _ _ c.site.invariant.0 c.site.view_is in
    let heard : c.self.inside.heard ≡ c.take_input.new.self.heard = ap (λ (b : BenchView). b.heard) c.self.view_is ∙ c.write_heard.ensures.heard in
    let channels : c.channels.result ≡ counts_in s.counts s.end = c.channels.ensures.count in
    let lanes : c.self.inside.heard.lanes ≡ c.channels.result = ap (λ (b : BlockView). b.lanes) heard ∙ c.take_input.ensures.lanes in
    let wrote = writes_it c in
    let q : ℕ = quantum_of s.world.spec in
    let frames : c.take_input.new.self.heard.frames ≡ q = c.take_input.ensures.heard_frames ∙ c.requires.frames in
    let same : c.args.delays.now.quantum ≡ q = c.requires.delay_frames in
    record {
      known = wrote.known;
      count = wrote.count;
      others = wrote.others;
      read = λ reader. absurd (let no = sym c.requires.writer ∙ reader in cc);
      own = λ writer longest born by kept is.
          let brings : Brings q s.first c.channels.result (input_of c) by = record {
            count = is.count ∙ sym channels;
            frames = λ k m low now.
                is.frames k m (subst (λ n. k < n) channels low) now
                ∙ ap (λ (b : BlockView). at b k m) (own.written c.copy.new.self)
                ∙ c.copy.ensures.values k m (subst (λ n. k < n) (sym lanes) low) (subst (λ n. m < n) (sym (own.frames c.index-blocks-place.result)) now)
                ∙ ap (λ b. if b then at c.self.inside.heard k m else pos 0) (let within : k < c.self.inside.heard.lanes = subst (λ n. k < n) (sym lanes) low in let is_within : true ≡ nat_lt k c.self.inside.heard.lanes = grind (arith, nat_tests) in is_within)
                ∙ ap (λ (b : BlockView). shown b m k) heard
                ∙ sym (c.write_heard.ensures.writes.1.values k m (let e = c.take_input.ensures.lanes in let own = subst (λ n. k < n) channels low in omega arith) (subst (λ n. m < n) (sym frames) now))
                ∙ ap (λ n. sample n (input_of c) k m) frames;
          } in
          subst (λ n. IsKept n (delay_at c.write_heard.new.delays s.end.node.0) longest born (s.first + n) by) same
          (wrote.own longest born by (subst (λ n. IsKept n (delay_at c.args.delays.now s.end.node.0) longest born s.first by) (sym same) kept) (subst (λ n. Brings n s.first c.channels.result (input_of c) by) (sym same) brings));
    }

pub returns-clause-room : goal.returns-clause-room
returns-clause-room c n d is low = elim (this_or_other n c.args.site.now.end.node.0) [
  | inl here ↦
      let old = (writes_it c).rooms d (subst (λ k. delay_at c.write_heard.new.delays k ≡ Some d) here is) in
      let fits = c.requires.room c.args.site.now.end.node.0 old.0 old.1 (subst (λ k. 2 * k < length c.args.site.now.counts) here low) in
      subst (λ k. slice_index_or c.args.site.now.counts (2 * k) 1 ≤ delay_room d) (sym here) (subst (λ m. slice_index_or c.args.site.now.counts (2 * c.args.site.now.end.node.0) 1 ≤ m) (sym old.2) fits)
  | inr apart ↦ c.requires.room n d (sym ((writes_it c).others n apart) ∙ is) low
]
