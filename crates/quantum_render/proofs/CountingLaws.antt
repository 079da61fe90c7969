-- The computed number of channels, from the greatest of the connections.
use Rattle.std.proofs.Common.{ℕ, suc, ◌≡◌, ◌+◌, ◌<◌, ◌≤◌, length, List, [], ◌∷◌, map, drop, filter, max, min, slice_index_or, Bool, true, false, cond, refl, ◌∙◌, ap, arith}
use Rattle.std.specs.Prelude.{if◌then◌else◌}
use Rattle.std.proofs.Math.Seq.{drop-cons}
use Rattle.wa_base.specs.declared.graph_names.Mode.{Mode}
use Rattle.wa_base.specs.declared.graph_names.Mode.TheVariants.{Max, ClampedMax, Explicit}
use Rattle.mix_rules.specs.Counts.{greatest, input_count}
use Rattle.conn_graph.specs.declared.edges.Edge.{Edge}
use Rattle.conn_graph.specs.declared.edges.Target.{Target}
use Rattle.quantum_blocks.specs.Connections.{leads_to}

pub greatest_low : (xs : List ℕ) → 1 ≤ greatest xs
greatest_low [] = omega arith
greatest_low (x ∷ xs) = let l = greatest_low xs in omega arith

pub greatest_step : (target : Target) (f : Edge → ℕ) (es : List Edge) (i : ℕ) (d : Edge) → i < length es
    → greatest (map f (filter (leads_to target) (drop i es)))
    ≡ max (if leads_to target (slice_index_or es i d) then f (slice_index_or es i d) else 1) (greatest (map f (filter (leads_to target) (drop (i + 1) es))))
greatest_step target f es i d l =
    ap (λ xs. greatest (map f (filter (leads_to target) xs))) (drop-cons es i d l)
    ∙ ap (λ k. greatest (map f (filter (leads_to target) (slice_index_or es i d ∷ drop k es)))) (let next : suc i ≡ i + 1 = omega arith in next)
    ∙ by_test (leads_to target (slice_index_or es i d))
  where
    by_test : (b : Bool) → greatest (map f (cond b (slice_index_or es i d ∷ filter (leads_to target) (drop (i + 1) es)) (filter (leads_to target) (drop (i + 1) es))))
        ≡ max (if b then f (slice_index_or es i d) else 1) (greatest (map f (filter (leads_to target) (drop (i + 1) es))))
    by_test true = refl
    by_test false = let low = greatest_low (map f (filter (leads_to target) (drop (i + 1) es))) in omega arith

-- one connection with the greatest number counts as all of them
pub count_of_greatest : (mode : Mode) (channel_count : ℕ) (xs : List ℕ) → input_count mode channel_count (greatest xs ∷ []) ≡ input_count mode channel_count xs
count_of_greatest Max channel_count xs = let low = greatest_low xs in omega arith
count_of_greatest ClampedMax channel_count xs = ap (λ n. min n channel_count) (let low = greatest_low xs in let same : max (greatest xs) 1 ≡ greatest xs = omega arith in same)
count_of_greatest Explicit channel_count xs = refl
