use Rattle.std.proofs.Common.{ℕ, ◌≡◌, ◌<◌, length, List, [], ◌∷◌, slice_index_or, true, refl, sym, ◌∙◌, ap, arith, subst}
use Rattle.std.specs.Prelude.{◌==◌}
use Rattle.std.proofs.lemmas.Bool.Decides.{nat_tests}
use Rattle.conn_graph.specs.declared.edges.Edge.{Edge}
use Rattle.std.specs.Int.{w32}
use Rattle.std.proofs.lemmas.Int.{to_z-of_z}
use Rattle.std.proofs.lemmas.List.{get_or_default}
use Rattle.meaning.specs.declared.world.World.{World}
use Rattle.quantum_blocks.specs.Blocks.{BlockView, no_block, at, slot, block_of}
use Rattle.quantum_blocks.proofs.Slots.{slot_low}
use Rattle.quantum_blocks.proofs.Sources.{end_low}
use Rattle.quantum_render.proofs.rest.is_still_source.Goals as goal

none_left : (xs : List Edge) → (length xs == 0) ≡ true → xs ≡ []
none_left [] is = refl
none_left (x ∷ xs) is = absurd (let none : length (x ∷ xs) ≡ 0 = grind (arith, nat_tests) in omega (arith, none))

pub returns-in-Some : goal.returns-in-Some
returns-in-Some c holds =
    let w : World = c.args.ahead.now.census.now.world.now in
    let blocks = c.args.ahead.now.blocks.now in
    let low = end_low w c.requires.ahead.valid c.args.end c.requires.there in
    let placed : slot c.args.end < length blocks = subst (λ k. slot c.args.end < k) (sym c.requires.ahead.fit.places) (slot_low c.args.end (length w.nodes) low) in
    let own : c.index-ahead-slot.result ≡ block_of blocks c.args.end =
    c.index-ahead-slot.is ∙ ap (λ k. slice_index_or blocks k c.index-ahead-slot.result) c.slot.ensures ∙ get_or_default blocks (slot c.args.end) c.index-ahead-slot.result no_block placed in
    record {
      value = c.in-Some.offset;
      fits = c.in-Some.ensures.fits;
      sounds = c.sounds_throughout.ensures c.if-not-sounds_throughout.false;
      alone = sym c.requires.into ∙ none_left c.args.into.now (sym c.is_empty.ensures ∙ c.if-not-is_empty.false);
      level = c.in-Some.ensures.level;
      held = subst (λ (b : BlockView). (lane m : ℕ) → lane < b.lanes → m < b.frames → at b lane m ≡ c.in-Some.offset) (sym c.index-ahead-slot.is ∙ own) (λ lane m l n. c.holds.ensures holds lane m l n ∙ to_z-of_z w32 c.in-Some.offset c.in-Some.ensures.fits);
    }
