-- What mono connections carry is mixed once.
use Rattle.std.proofs.Common.{ℕ, suc, ℤ, ◌≡◌, ◌<◌, ◌+ℤ◌, length, List, [], ◌∷◌, map, filter, cond, slice_index_or, Bool, true, false, sym, ◌∙◌, ap, ap₂, arith}
use Rattle.wa_base.specs.declared.graph_names.Interp.{Interp}
use Rattle.mix_rules.specs.Mixing.{mix, total}
use Rattle.mix_rules.proofs.Laws.{mix_same}
use Rattle.channel_mix.proofs.Mono.{mono_first, mono_none, mono_sum}
use Rattle.conn_graph.specs.declared.edges.Edge.{Edge}
use Rattle.conn_graph.specs.declared.edges.Target.{Target}
use Rattle.conn_graph.specs.Ends.{reader_of}
use Rattle.meaning.specs.Values.{Frame, part}
use Rattle.quantum_blocks.specs.Connections.{leads_to}

-- what a mono connection carries is mixed as its one channel
pub part_mono : (x : Frame) (interp : Interp) (n c : ℕ) (e : Edge) → x.counts (reader_of e.from.0) ≡ 1 → part x interp n c e ≡ mix interp 1 n (λ i. part x interp 1 0 e) c
part_mono x interp n c e one =
    let v : ℕ → ℤ = x.values (reader_of e.from.0) e.output in
    ap (λ (k : ℕ). mix interp k n v c) one
    ∙ mono_first interp n c v
    ∙ ap (λ (z : ℤ). mix interp 1 n (λ i. z) c) (sym (mix_same interp 1 v 0 (omega arith)) ∙ ap (λ (k : ℕ). mix interp k 1 v 0) (sym one))

-- the sum is mixed as each of them is
pub total_mixed : (interp : Interp) (n c : ℕ) (target : Target) (f g : Edge → ℤ) (es : List Edge)
    → ((i : ℕ) (d : Edge) → i < length es → g (slice_index_or es i d) ≡ mix interp 1 n (λ k. f (slice_index_or es i d)) c)
    → mix interp 1 n (λ k. total (map f (filter (leads_to target) es))) c ≡ total (map g (filter (leads_to target) es))
total_mixed interp n c target f g [] each = mono_none interp n c
total_mixed interp n c target f g (e ∷ es) each = by_test (leads_to target e) (total_mixed interp n c target f g es (λ i d l. each (suc i) d (omega arith)))
  where
    by_test : (b : Bool) → mix interp 1 n (λ k. total (map f (filter (leads_to target) es))) c ≡ total (map g (filter (leads_to target) es))
        → mix interp 1 n (λ k. total (map f (cond b (e ∷ filter (leads_to target) es) (filter (leads_to target) es)))) c
        ≡ total (map g (cond b (e ∷ filter (leads_to target) es) (filter (leads_to target) es)))
    by_test true rest = mono_sum interp n c (f e) (total (map f (filter (leads_to target) es))) ∙ ap₂ (λ (x y : ℤ). x +ℤ y) (sym (each 0 e (omega arith))) rest
    by_test false rest = rest
