use Rattle.std.proofs.Common.{ℕ, ◌<◌, length, slice_index_or, sym, ◌∙◌, ap, subst}
use Rattle.std.specs.Prelude.{◌==◌, slice_get, option_and_then}
use Rattle.meaning.specs.declared.scheds.Play.{Play}
use Rattle.meaning.proofs.FirstItems.{play_position}
use Rattle.quantum_blocks.proofs.places.play_place.Goals as goal

pub returns-then-is_play-clause-item : goal.returns-then-is_play-clause-item
returns-then-is_play-clause-item c =
    let plays = c.args.world.now.scheds.items in
    let place : ℕ = c.args.near in
    let there : place < length plays = subst (λ xs. place < length xs) c.as_slice-plays.ensures c.if-near-plays.true in
    let found = c.index-plays-near.is ∙ ap (λ xs. slice_index_or xs place c.index-plays-near.result) c.as_slice-plays.ensures in
    let has = ap (λ (p : Play). p.id.0 == c.args.node.0) (sym found) ∙ sym c.is_play.ensures ∙ c.if-is_play.true in
    sym (ap (option_and_then (slice_get plays)) (play_position c.args.world.now c.requires c.args.node.0 place c.index-plays-near.result there has))
