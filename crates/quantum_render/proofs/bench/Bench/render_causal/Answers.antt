use Rattle.std.proofs.Common.{ℕ, ℤ, ◌≡◌, ◌<◌, ◌≤◌, ◌+◌, ◌*◌, length, List, Some, slice_index_or, inl, inr, refl, sym, ◌∙◌, ap, arith, subst}
use Rattle.wa_base.specs.Contexts.{quantum_of}
use Rattle.node_table.specs.Frames.{item}
use Rattle.node_table.specs.declared.equation.Equation.{Equation}
use Rattle.node_table.specs.declared.kinds.Kind.TheVariants.{Causal}
use Rattle.meaning.specs.World.{sounding, kind_of}
use Rattle.meaning.specs.Counts.{input_channels}
use Rattle.meaning.specs.Values.{Frame}
use Rattle.filter_bank.specs.Heard.{Brings, room_of as causal_room}
use Rattle.filter_bank.specs.Banks.{BankView, heard_at, Hears}
use Rattle.quantum_blocks.specs.Blocks.{counts_in}
use Rattle.quantum_render.specs.Sites.{SiteView}
use Rattle.quantum_render.specs.Renders.{IsReadyFor}
use Rattle.quantum_render.proofs.CausalLaws.{lanes_are, takes, has_heard, brings, puts_out, hears_on}
use Rattle.law_base.proofs.Places.{this_or_other}
use Rattle.quantum_render.proofs.Rendering.{site_is, lanes_own, renders_with_own}
use Rattle.quantum_render.proofs.bench.Bench.render_causal.Goals as goal

pub causal_heard-requires-clause-wide : goal.causal_heard-requires-clause-wide
causal_heard-requires-clause-wide c f is =
    let s : SiteView = c.args.site.now in
    let site = site_is s _ _ _ _ _ _ c.site.invariant.0 c.site.view_is in
    lanes_are s site c.requires.kind.0 c.requires.kind.1 c.args.memory.now.causal c.requires.rooms.causal_rooms f (subst (λ k. heard_at c.args.memory.now.causal k ≡ Some f) (ap (λ (x : SiteView). x.end.node.0) c.site.view_is) is)
    c.room.result c.channels-channels.result c.max-room.result (c.room.ensures.room f is) c.channels-channels.ensures.count c.max-room.ensures

pub causal_heard-requires-clause-own : goal.causal_heard-requires-clause-own
causal_heard-requires-clause-own c =
    let own = c.place-place.ensures.own c.args.blocks.now c.requires.fit in
    let own = lanes_own c.args.site.now _ c.requires.kind.1 refl (slice_index_or c.args.blocks.now c.place-place.result c.index-blocks-place.result) (own.lanes c.index-blocks-place.result) in
    let channels = c.channels-channels.ensures.count in
    let most = c.max-room.ensures in
    grind arith

-- the input with silent lanes behind it, which the node hears
abbrev input_of : goal.After-causal_heard → List ℤ
input_of c = c.causal_heard.ensures.hears.0

-- and what it puts out for that
abbrev output_of : goal.After-causal_heard → List ℤ
output_of c = c.causal_heard.ensures.hears.1

heard_frames : (c : goal.After-causal_heard) → c.take_input.new.self.heard.frames ≡ quantum_of c.args.site.now.world.spec
heard_frames c = c.take_input.ensures.heard_frames ∙ c.requires.frames

-- what is heard is what the input carries
heard_brings : (c : goal.After-causal_heard) (equation : Equation) → (is : kind_of c.args.site.now.world c.args.site.now.end.node.0 ≡ Causal equation) → (before : ℕ → Frame) → (ready : IsReadyFor c.args.site.now c.args.memory.now c.args.blocks.now before)
    → counts_in c.args.site.now.counts c.args.site.now.end ≡ input_channels (sounding c.args.site.now.world) (counts_in c.args.site.now.counts) c.args.site.now.end.node.0 0
    → Brings (quantum_of c.args.site.now.world.spec) c.args.site.now.first (input_of c) (takes c.args.site.now (site_is c.args.site.now _ _ _ _ _ _ c.site.invariant.0 c.site.view_is) c.args.memory.now c.args.blocks.now equation is before ready)
heard_brings c equation is before ready counted =
    let s : SiteView = c.args.site.now in
    let site = site_is s _ _ _ _ _ _ c.site.invariant.0 c.site.view_is in
    let channels : c.channels-channels.result ≡ counts_in s.counts s.end = c.channels-channels.ensures.count in
    brings s site c.args.memory.now c.args.blocks.now equation is before ready c.channels-channels.result c.max-room.result (input_of c) c.take_input.new.self.heard
    c.causal_heard.ensures.hears.2 c.take_input.ensures.lanes (within c) (channels ∙ counted) (heard_frames c)
    (λ k m low now. c.take_input.ensures.input (channels ∙ counted) k m low now)
  where
    within : (c : goal.After-causal_heard) → c.channels-channels.result ≤ c.max-room.result
    within c = let most = c.max-room.ensures in grind arith

hears_own : (c : goal.After-causal_heard) → Hears c.args.memory.now.causal c.causal_heard.new.causal c.args.site.now.end.node.0 (input_of c) (output_of c)
hears_own c = subst (λ k. Hears c.args.memory.now.causal c.causal_heard.new.causal k (input_of c) (output_of c)) (ap (λ (x : SiteView). x.end.node.0) c.site.view_is) c.causal_heard.ensures.hears.4

pub returns-clause-draws : goal.returns-clause-draws
returns-clause-draws c =
    let own = c.place-place.ensures.own c.args.blocks.now c.requires.fit in
    let equation = c.requires.kind.0 in
    let is = c.requires.kind.1 in
    let s : SiteView = c.args.site.now in
    let site = site_is s _ _ _ _ _ _ c.site.invariant.0 c.site.view_is in
    let causal : BankView = c.args.memory.now.causal in
    let channels : c.channels-channels.result ≡ counts_in s.counts s.end = c.channels-channels.ensures.count in
    own.draws_with c.args.memory.now c.causal_heard.new.block (renders_with_own s _ is refl c.args.blocks.now c.causal_heard.new.block (c.causal_heard.ensures.lanes ∙ lanes_own s _ is refl (slice_index_or c.args.blocks.now c.place-place.result c.index-blocks-place.result) (own.lanes c.index-blocks-place.result)) (c.causal_heard.ensures.block_frames ∙ own.frames c.index-blocks-place.result) c.args.memory.now (λ j earlier begins counted before ready channel m low now.
    let before_now = has_heard s site c.args.memory.now c.args.blocks.now equation is before ready in
    let there : heard_at causal c.site.inside.end.node.0 ≡ Some before_now.causal = subst (λ k. heard_at causal k ≡ Some before_now.causal) (sym (ap (λ (x : SiteView). x.end.node.0) c.site.view_is)) before_now.there in
    let lanes : c.max-room.result ≡ causal_room before_now.causal = lanes_are s site equation is causal c.requires.rooms.causal_rooms before_now.causal before_now.there c.room.result c.channels-channels.result c.max-room.result (c.room.ensures.room before_now.causal there) channels c.max-room.ensures in
    let low' : channel < c.channels-channels.result = subst (λ k. channel < k) (sym channels) low in
    let frames = c.causal_heard.ensures.block_frames ∙ own.frames c.index-blocks-place.result in
    c.causal_heard.ensures.hears.3 channel m (subst (λ k. channel < k) (sym (c.causal_heard.ensures.lanes ∙ lanes_own s _ is refl (slice_index_or c.args.blocks.now c.place-place.result c.index-blocks-place.result) (own.lanes c.index-blocks-place.result))) low) (subst (λ k. m < k) (sym frames) now)
    ∙ ap (λ k. item (output_of c) (channel * k + m)) frames
    ∙ puts_out s site c.args.memory.now c.args.blocks.now equation is before ready (input_of c) (output_of c) c.causal_heard.new.causal (hears_own c) c.requires.rooms.causal_quantum (heard_brings c equation is before ready counted) site.quantum.begun.time channel m
    (subst (λ k. channel < k) lanes (lower c channel low')) now))
  where
    lower : (c : goal.After-causal_heard) → (k : ℕ) → k < c.channels-channels.result → k < c.max-room.result
    lower c k low = let most = c.max-room.ensures in grind arith

pub returns-clause-listens : goal.returns-clause-listens
returns-clause-listens c = record {
  known = (hears_own c).known;
  count = (hears_own c).count;
  others = (hears_own c).others;
  own = λ equation is j earlier begins counted before ready.
      let s : SiteView = c.args.site.now in
      let site = site_is s _ _ _ _ _ _ c.site.invariant.0 c.site.view_is in
      hears_on s site c.args.memory.now c.args.blocks.now equation is before ready (input_of c) (output_of c) c.causal_heard.new.causal (hears_own c) c.requires.rooms.causal_quantum (heard_brings c equation is before ready counted) site.quantum.begun.time;
}

pub returns-clause-room : goal.returns-clause-room
returns-clause-room c n g is low = elim (this_or_other n c.args.site.now.end.node.0) [
  | inl here ↦
      let old = (hears_own c).rooms g (subst (λ k. heard_at c.causal_heard.new.causal k ≡ Some g) here is) in
      let fits = c.requires.rooms.causal_rooms c.args.site.now.end.node.0 old.0 old.1 (subst (λ k. 2 * k + 1 < length c.args.site.now.counts) here low) in
      subst (λ k. (slice_index_or c.args.site.now.counts (2 * k + 1) 1 ≤ causal_room g) × (causal_room g ≤ 32)) (sym here) (rw old.2 fits)
  | inr apart ↦ c.requires.rooms.causal_rooms n g (sym ((hears_own c).others n apart) ∙ is) low
]
