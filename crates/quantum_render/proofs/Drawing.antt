-- An end's block is written in its place.
use Rattle.std.proofs.Common.{ℕ, suc, ℤ, pos, negsuc, neg_ℤ, ◌≡◌, ◌<◌, ◌*◌, ◌^◌, List, length, slice_index_or, slice_set, sym, ◌∙◌, ap, arith, subst}
use Rattle.std.proofs.lemmas.List.{get_or_default}
use Rattle.wa_base.specs.Contexts.{quantum_of}
use Rattle.wa_base.specs.Numbers.{sat, rnd, scale}
use Rattle.meaning.specs.World.{kind_of}
use Rattle.quantum_blocks.specs.Blocks.{BlockView, no_block, slot, block_of, Writes}
use Rattle.quantum_blocks.specs.Fits.{AreFit}
use Rattle.quantum_render.specs.Sites.{SiteView, IsSite}
use Rattle.quantum_blocks.proofs.Connections.{writes_one, written}
use Rattle.quantum_render.specs.declared.memory.Memory.{Memory}
use Rattle.quantum_render.specs.Renders.{HasLanes, Renders, RendersWith, Draws, DrawsWith, IsPlace}
use Rattle.quantum_render.proofs.Listening.{with_memory}
use Rattle.quantum_render.proofs.Rendering.{own_within}

-- the place of an end's block
pub is_place : (s : SiteView) → IsSite s.world s.end s.into s.counts s.levels s.first → (old : List BlockView) → AreFit s.world s.counts old → (k : ℕ) → k ≡ slot s.end → IsPlace s old k
is_place s site old fit k here = record {
  within = within;
  lanes = λ d. ap (λ (b : BlockView). b.lanes) (own d) ∙ fit.lanes s.end site.there;
  frames = λ d. ap (λ (b : BlockView). b.frames) (own d) ∙ fit.frames s.end site.there;
  written = there;
  draws = λ block renders. record {
    writes = writes block renders.lanes renders.frames;
    renders = subst (λ (b : BlockView). Renders s old b (kind_of s.world s.end.node.0)) (sym (there block)) renders;
  };
  draws_with = λ memory block renders. record {
    writes = writes block renders.lanes renders.frames;
    renders = subst (λ (b : BlockView). RendersWith s memory old b (kind_of s.world s.end.node.0)) (sym (there block)) renders;
  };
}
  where
    within : k < length old
    within = own_within s site old fit k here

    own : (d : BlockView) → slice_index_or old k d ≡ block_of old s.end
    own d = get_or_default old k d no_block within ∙ ap (λ j. slice_index_or old j no_block) here

    there : (block : BlockView) → block_of (slice_set old k block) s.end ≡ block
    there block = written old s.end k block here (subst (λ j. j < length old) here within)

    writes : (block : BlockView) → HasLanes s block → block.frames ≡ quantum_of s.world.spec → Writes old (slice_set old k block) s.end
    writes block lanes frames = writes_one old s.end k block here (lanes ∙ sym (fit.lanes s.end site.there)) (frames ∙ sym (fit.frames s.end site.there))

-- what needs no memory is drawn whatever that is
pub draws_anyway : (s : SiteView) (memory : Memory) (old new : List BlockView) → Draws s old new → DrawsWith s memory old new
draws_anyway s memory old new draws = record { writes = draws.writes; renders = with_memory s memory old (block_of new s.end) (kind_of s.world s.end.node.0) draws.renders }

-- a gain makes nothing of silence
pub silence_scaled : (gain : ℤ) → pos 0 ≡ scale (pos 0) gain
silence_scaled (pos n) = let none : 0 ≡ 0 * n = omega arith in ap (λ k. sat (rnd (pos k) (pos (2 ^ 24)))) none
silence_scaled (negsuc n) = let none : 0 ≡ 0 * suc n = omega arith in ap (λ k. sat (rnd (neg_ℤ (pos k)) (pos (2 ^ 24)))) none
