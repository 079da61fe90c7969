-- What the destination carries is what is rendered.
use Rattle.std.proofs.Common.{ℕ, ℤ, pos, ◌≡◌, ◌+◌, ◌*◌, ◌<◌, length, List, [], ◌∷◌, ◌++◌, Bool, true, false, refl, sym, ◌∙◌, ap, arith, subst}
use Rattle.std.specs.Prelude.{if◌then◌else◌, nat_lt}
use Rattle.wa_base.specs.Contexts.{quantum_of}
use Rattle.wa_base.specs.declared.graph_names.End.{End}
use Rattle.law_base.specs.Members.{IsIn}
use Rattle.mix_rules.specs.Blocks.{sample as channel_sample}
use Rattle.node_table.specs.Kinds.{outputs}
use Rattle.conn_graph.specs.Ends.{reader_of, ends}
use Rattle.conn_graph.proofs.EndLaws.{has_end}
use Rattle.meaning.specs.declared.world.World.{World}
use Rattle.meaning.specs.Rendered.{sample}
use Rattle.meaning.specs.Validity.{IsValid}
use Rattle.meaning.specs.Values.{value}
use Rattle.quantum_blocks.specs.Blocks.{BlockView, at, shown, block_of, counts_in, drafts_of}
use Rattle.quantum_blocks.specs.Fits.{AreFit}
use Rattle.quantum_render.specs.Plans.{AreCounted}
use Rattle.quantum_blocks.proofs.Sources.{same_nodes}

destination_is : (w : World) → IsValid w → IsIn (reader_of 0) (ends w.graph.value)
destination_is w valid = has_end w.graph.value 0 (let a = same_nodes w valid in let b = valid.nodes.some in omega arith)

-- the destination has one output
pub destination_lanes : (w : World) → IsValid w → (blocks : List BlockView) (counts : List ℕ) → AreFit w counts blocks → (block_of blocks (reader_of 0)).lanes ≡ counts_in counts (reader_of 0)
destination_lanes w valid blocks counts fit =
    fit.lanes (reader_of 0) (destination_is w valid)
    ∙ ap (λ k. outputs k * counts_in counts (reader_of 0)) valid.nodes.first.kind
    ∙ (let n : ℕ = counts_in counts (reader_of 0) in let e : 1 * n ≡ n = omega arith in e)

-- it has the frames of the world's quanta
pub destination_frames : (w : World) → IsValid w → (blocks : List BlockView) (counts : List ℕ) → AreFit w counts blocks → (block_of blocks (reader_of 0)).frames ≡ quantum_of w.spec
destination_frames w valid blocks counts fit = fit.frames (reader_of 0) (destination_is w valid)

pub out_is : (w : World) → IsValid w → (tape : List World) (blocks : List BlockView) (counts : List ℕ) (out : List ℤ) (c m : ℕ) → AreCounted (quantum_of w.spec) w counts tape
    → ((m : ℕ) (d : End) → m < quantum_of w.spec → IsIn d (ends w.graph.value) → drafts_of blocks counts m d ≡ value (quantum_of w.spec) (tape ++ w ∷ []) (quantum_of w.spec * length tape + m) d)
    → ((c m : ℕ) → c < w.spec.channels → m < quantum_of w.spec → channel_sample (quantum_of w.spec) out c m ≡ shown (block_of blocks (reader_of 0)) m c)
    → (block_of blocks (reader_of 0)).lanes ≡ counts_in counts (reader_of 0)
    → c < w.spec.channels → m < quantum_of w.spec → channel_sample (quantum_of w.spec) out c m ≡ sample (quantum_of w.spec) (tape ++ w ∷ []) (quantum_of w.spec * length tape + m) c
out_is w valid tape blocks counts out c m counted values copied lanes few now =
    copied c m few now
    ∙ by_tests (nat_lt c (counts_in counts (reader_of 0))) refl
    ∙ ap (λ (v : ℕ → ℕ → ℤ). v 0 c) (values m (reader_of 0) now (destination_is w valid))
  where
    by_tests : (b : Bool) → nat_lt c (counts_in counts (reader_of 0)) ≡ b
        → shown (block_of blocks (reader_of 0)) m c ≡ (if b then shown (block_of blocks (reader_of 0)) m (0 * counts_in counts (reader_of 0) + c) else pos 0)
    by_tests true t = subst (λ lane. shown (block_of blocks (reader_of 0)) m c ≡ shown (block_of blocks (reader_of 0)) m lane) (let e : c ≡ 0 * counts_in counts (reader_of 0) + c = omega arith in e) refl
    by_tests false t = ap (λ k. if k then at (block_of blocks (reader_of 0)) c m else pos 0) (subst (λ n. nat_lt c n ≡ false) (sym lanes) t)
