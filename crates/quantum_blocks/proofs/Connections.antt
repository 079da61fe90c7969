-- What a connection adds to sums, and what the connections to a target add up to.
use Rattle.std.proofs.Common.{ℕ, ℤ, pos, zero, suc, ◌≡◌, ◌+◌, ◌<◌, ◌≤◌, ◌*◌, ◌+ℤ◌, length, List, [], ◌∷◌, map, drop, filter, slice_index_or, Bool, true, false, cond, slice_set, refl, sym, ◌∙◌, ap, arith, subst, inl, inr}
use Rattle.std.specs.Prelude.{if◌then◌else◌}
use Rattle.std.proofs.lemmas.Bool.{cases_lt}
use Rattle.std.proofs.lemmas.List.{get_or-set_same, get_or-set_other, length-set}
use Rattle.std.proofs.lemmas.Int.{ints}
use Rattle.std.proofs.Math.IntN.{+ℤ_idr}
use Rattle.std.proofs.Math.Seq.{drop-cons}
use Rattle.wa_base.specs.declared.graph_names.End.{End}
use Rattle.mix_rules.specs.Mixing.{total}
use Rattle.conn_graph.specs.declared.edges.Edge.{Edge}
use Rattle.conn_graph.specs.declared.edges.Target.{Target}
use Rattle.quantum_blocks.specs.Blocks.{BlockView, no_block, slot, block_of, lanes_of, frames_of, Writes}
use Rattle.quantum_blocks.specs.Connections.{leads_to}
use Rattle.quantum_blocks.proofs.Slots.{slot_apart}

-- the number of lanes at a place
pub lanes_at : (blocks : List BlockView) (k : ℕ) → slice_index_or (lanes_of blocks) k 0 ≡ (slice_index_or blocks k no_block).lanes
lanes_at [] k = refl
lanes_at (b ∷ bs) zero = refl
lanes_at (b ∷ bs) (suc k) = lanes_at bs k

-- where the numbers of lanes stay, each end keeps its own
pub lanes_kept : (old new : List BlockView) → lanes_of new ≡ lanes_of old → (e : End) → (block_of new e).lanes ≡ (block_of old e).lanes
lanes_kept old new same e = sym (lanes_at new (slot e)) ∙ ap (λ ns. slice_index_or ns (slot e) 0) same ∙ lanes_at old (slot e)

-- the frames at a place
pub frames_at : (blocks : List BlockView) (k : ℕ) → slice_index_or (frames_of blocks) k 0 ≡ (slice_index_or blocks k no_block).frames
frames_at [] k = refl
frames_at (b ∷ bs) zero = refl
frames_at (b ∷ bs) (suc k) = frames_at bs k

-- where the frames stay, each end keeps its own
pub frames_kept : (old new : List BlockView) → frames_of new ≡ frames_of old → (e : End) → (block_of new e).frames ≡ (block_of old e).frames
frames_kept old new same e = sym (frames_at new (slot e)) ∙ ap (λ ns. slice_index_or ns (slot e) 0) same ∙ frames_at old (slot e)

-- the sum over the connections from a place on, by the one at that place
pub total_step : (target : Target) (f : Edge → ℤ) (es : List Edge) (i : ℕ) (d : Edge) → i < length es
    → total (map f (filter (leads_to target) (drop i es)))
    ≡ (if leads_to target (slice_index_or es i d) then f (slice_index_or es i d) else pos 0) +ℤ total (map f (filter (leads_to target) (drop (i + 1) es)))
total_step target f es i d l =
    ap (λ xs. total (map f (filter (leads_to target) xs))) (drop-cons es i d l)
    ∙ ap (λ k. total (map f (filter (leads_to target) (slice_index_or es i d ∷ drop k es)))) (let next : suc i ≡ i + 1 = omega arith in next)
    ∙ by_test (leads_to target (slice_index_or es i d))
  where
    by_test : (b : Bool) → total (map f (cond b (slice_index_or es i d ∷ filter (leads_to target) (drop (i + 1) es)) (filter (leads_to target) (drop (i + 1) es))))
        ≡ (if b then f (slice_index_or es i d) else pos 0) +ℤ total (map f (filter (leads_to target) (drop (i + 1) es)))
    by_test true = refl
    by_test false = let x : ℤ = total (map f (filter (leads_to target) (drop (i + 1) es))) in omega (arith, ints)

-- a list of one item
pub one_item : {X : Type 0} (xs : List X) (d : X) → 1 ≤ length xs → length xs < 2 → xs ≡ slice_index_or xs 0 d ∷ []
one_item [] d low high = absurd (omega arith)
one_item (x ∷ []) d low high = refl
one_item (x ∷ y ∷ ys) d low high = absurd (omega arith)

-- a list of two items
pub two_items : {X : Type 0} (xs : List X) (d : X) → 2 ≤ length xs → length xs < 3 → xs ≡ slice_index_or xs 0 d ∷ (slice_index_or xs 1 d ∷ [])
two_items [] d low high = absurd (omega arith)
two_items (x ∷ []) d low high = absurd (omega arith)
two_items (x ∷ y ∷ []) d low high = refl
two_items (x ∷ y ∷ z ∷ zs) d low high = absurd (omega arith)

-- two connections that both lead to a target
pub total_of_two : (target : Target) (f : Edge → ℤ) (one other : Edge) → leads_to target one ≡ true → leads_to target other ≡ true
    → f one +ℤ f other ≡ total (map f (filter (leads_to target) (one ∷ (other ∷ []))))
total_of_two target f one other leads leads' =
    ap (λ x. f one +ℤ x) (sym (+ℤ_idr (f other)))
    ∙ sym (ap (λ b. total (map f (cond b (one ∷ cond (leads_to target other) (other ∷ []) []) (cond (leads_to target other) (other ∷ []) [])))) leads
    ∙ ap (λ b. f one +ℤ total (map f (cond b (other ∷ []) []))) leads')

-- two blocks are written, those of a node's two places
pub two_set : (P : ℕ → BlockView → Type 0) (bs : List BlockView) (n : ℕ) (a b : BlockView) → 2 * n + 1 < length bs → ((k : ℕ) → k < 2 * n → P k (slice_index_or bs k no_block)) → P (2 * n) a → P (2 * n + 1) b
    → (k : ℕ) → k < 2 * (n + 1) → P k (slice_index_or (slice_set (slice_set bs (2 * n) a) (2 * n + 1) b) k no_block)
two_set P bs n a b there each own own' k low =
    let once = slice_set bs (2 * n) a in
    let twice = slice_set once (2 * n + 1) b in
    let long : length once ≡ length bs = length-set bs (2 * n) a in
    elim (cases_lt k (2 * n)) [
      | inl below ↦
          subst (P k) (sym (get_or-set_other once (2 * n + 1) k b no_block (λ e. absurd (omega arith)) ∙ get_or-set_other bs (2 * n) k a no_block (λ e. absurd (omega arith)))) (each k below)
      | inr high ↦ elim (cases_lt k (2 * n + 1)) [
        | inl first ↦
            let e : k ≡ 2 * n = omega arith in
            subst (λ j. P j (slice_index_or twice j no_block)) (sym e)
            (subst (P (2 * n)) (sym (get_or-set_other once (2 * n + 1) (2 * n) b no_block (λ e. absurd (omega arith)) ∙ get_or-set_same bs (2 * n) a no_block (omega arith))) own)
        | inr second ↦
            let e : k ≡ 2 * n + 1 = omega arith in
            subst (λ j. P j (slice_index_or twice j no_block)) (sym e)
            (subst (P (2 * n + 1)) (sym (get_or-set_same once (2 * n + 1) b no_block (omega arith))) own')
      ]
    ]

-- ---- writing one end's block

same_lanes : (old : List BlockView) (k : ℕ) (b : BlockView) → b.lanes ≡ (slice_index_or old k no_block).lanes → lanes_of (slice_set old k b) ≡ lanes_of old
same_lanes [] k b e = refl
same_lanes (x ∷ xs) zero b e = ap (λ (n : ℕ). n ∷ lanes_of xs) e
same_lanes (x ∷ xs) (suc k) b e = ap (λ ns. x.lanes ∷ ns) (same_lanes xs k b e)

same_frames : (old : List BlockView) (k : ℕ) (b : BlockView) → b.frames ≡ (slice_index_or old k no_block).frames → frames_of (slice_set old k b) ≡ frames_of old
same_frames [] k b e = refl
same_frames (x ∷ xs) zero b e = ap (λ (n : ℕ). n ∷ frames_of xs) e
same_frames (x ∷ xs) (suc k) b e = ap (λ ns. x.frames ∷ ns) (same_frames xs k b e)

pub writes_one : (old : List BlockView) (e : End) (k : ℕ) (b : BlockView) → k ≡ slot e → b.lanes ≡ (block_of old e).lanes → b.frames ≡ (block_of old e).frames → Writes old (slice_set old k b) e
writes_one old e k b here lanes frames = record {
  lanes = same_lanes old k b (lanes ∙ ap (λ j. (slice_index_or old j no_block).lanes) (sym here));
  frames = same_frames old k b (frames ∙ ap (λ j. (slice_index_or old j no_block).frames) (sym here));
  others = λ d apart. get_or-set_other old k (slot d) b no_block (λ same. slot_apart d e apart (same ∙ here));
}

-- its values are those that were written
pub written : (old : List BlockView) (e : End) (k : ℕ) (b : BlockView) → k ≡ slot e → slot e < length old → block_of (slice_set old k b) e ≡ b
written old e k b here there = ap (λ j. slice_index_or (slice_set old k b) j no_block) (sym here) ∙ get_or-set_same old k b no_block (subst (λ j. j < length old) (sym here) there)
