use Rattle.std.proofs.Common.{ℕ, pos, ◌≡◌, ◌<◌, length, slice_index_or, sym, ◌∙◌, ap, subst}
use Rattle.std.specs.Prelude.{All}
use Rattle.std.proofs.lemmas.List.{get_or_default}
use Rattle.meaning.specs.declared.world.World.{World}
use Rattle.quantum_blocks.specs.Blocks.{BlockView, no_block, at, slot, block_of}
use Rattle.quantum_blocks.proofs.Slots.{slot_low}
use Rattle.quantum_blocks.proofs.Sources.{end_low}
use Rattle.quantum_render.specs.Idle.{BringsSilence}
use Rattle.quantum_render.proofs.SiteLaws.{sources_fit}
use Rattle.quantum_render.proofs.rest.stays_silent.Goals as goal

pub hears_silence-requires : goal.hears_silence-requires
hears_silence-requires c i d l =
    let w : World = c.args.ahead.now.census.now.world.now in
    (sources_fit w c.requires.ahead.valid c.args.end.node.0 c.args.into.now c.requires.into c.args.ahead.now.counts.now c.requires.ahead.range c.args.ahead.now.blocks.now c.requires.ahead.fit i d l).block

pub returns-then-hears_silence : goal.returns-then-hears_silence
returns-then-hears_silence c quiet =
    let w : World = c.args.ahead.now.census.now.world.now in
    let all = c.args.ahead.now.blocks.now in
    let low = slot_low c.args.end (length w.nodes) (end_low w c.requires.ahead.valid c.args.end c.requires.there) in
    let placed : slot c.args.end < length all = subst (λ k. slot c.args.end < k) (sym c.requires.ahead.fit.places) low in
    let own : c.index-ahead-slot.result ≡ block_of all c.args.end =
    c.index-ahead-slot.is ∙ ap (λ k. slice_index_or all k c.index-ahead-slot.result) c.slot.ensures ∙ get_or_default all (slot c.args.end) c.index-ahead-slot.result no_block placed in
    record {
      quiet = c.is_quiet.ensures quiet;
      heard = subst (All (BringsSilence c.args.marks.now all)) c.requires.into (c.hears_silence.ensures c.if-hears_silence.true);
      silent = subst (λ (b : BlockView). (lane m : ℕ) → lane < b.lanes → m < b.frames → at b lane m ≡ pos 0) (sym c.index-ahead-slot.is ∙ own) (λ lane m l n. c.is_silent.ensures c.if-not-is_silent.false lane m l n);
    }
