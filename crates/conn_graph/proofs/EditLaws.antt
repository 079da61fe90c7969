-- Edits that are counted, one after another.
use Rattle.std.proofs.Common.{ℕ, suc, ◌≡◌, ◌<◌, ◌≤◌, ◌-◌, ◌^◌, Bool, true, false, not, refl, sym, ◌∙◌, ap, arith, subst}
use Rattle.std.specs.Prelude.{nat_lt, if◌then◌else◌}
use Rattle.std.proofs.lemmas.Bool.Decides.{nat_tests}
use Rattle.conn_graph.specs.declared.edges.Edge.{Edge}
use Rattle.conn_graph.specs.Graph.{has_edge, connected}
use Rattle.conn_graph.specs.Walks.{GraphView, LeavesGraph, CountsEdits, one_more}

pub counts_none : (old new : GraphView) → new ≡ old → CountsEdits old new
counts_none old new same = record {
  low = subst (λ (g : GraphView). old.edits ≤ g.edits) (sym same) (omega arith);
  same = λ edits few. ap (λ (g : GraphView). g.value) same;
}

pub counts_left : (old new : GraphView) → LeavesGraph old new → CountsEdits old new
counts_left old new left = record {
  low = let edits = left.edits in omega arith;
  same = λ edits few. left.value;
}

-- the number rises, or it was the greatest one
rises : (edits : ℕ) → (edits ≤ one_more edits) × (edits < 2 ^ 64 - 1 → one_more edits ≡ suc edits)
rises edits = by_test (nat_lt edits (2 ^ 64 - 1)) refl
  where
    by_test : (b : Bool) → nat_lt edits (2 ^ 64 - 1) ≡ b → (edits ≤ (if b then suc edits else edits)) × (edits < 2 ^ 64 - 1 → (if b then suc edits else edits) ≡ suc edits)
    by_test true is = (omega arith, λ few. refl)
    by_test false is = (omega arith, λ few. absurd (grind (arith, nat_tests)))

pub counts_one : (old new : GraphView) → new.edits ≡ one_more old.edits → CountsEdits old new
counts_one old new one =
    let up = rises old.edits in
    record {
      low = let low = up.0 in omega (arith, one);
      same = λ edits few. let more = up.1 few in absurd (omega (arith, one, edits));
    }

-- one edit after another
pub counts_on : (a b c : GraphView) → CountsEdits a b → CountsEdits b c → CountsEdits a c
counts_on a b c first next = record {
  low = let low = first.low in let more = next.low in omega arith;
  same = λ edits few.
      let low = first.low in
      let more = next.low in
      let between : b.edits ≡ a.edits = omega (arith, edits) in
      next.same (edits ∙ sym between) (subst (λ n. n < 2 ^ 64 - 1) (sym between) few) ∙ first.same between few;
}

-- a connection that is made counts, and one that was there changes nothing
pub counts_connect : (old new : GraphView) (e : Edge) (is_new : Bool) → is_new ≡ not (has_edge old.value e) → new.value ≡ connected old.value e → new.edits ≡ (if is_new then one_more old.edits else old.edits)
    → CountsEdits old new
counts_connect old new e true fresh value edits = counts_one old new edits
counts_connect old new e false fresh value edits = record {
  low = omega (arith, edits);
  same = λ same few. value ∙ kept (has_edge old.value e) refl fresh;
}
  where
    kept : (b : Bool) → has_edge old.value e ≡ b → false ≡ not b → connected old.value e ≡ old.value
    kept true there is = rw there refl
    kept false there is = absurd cc
