use Rattle.std.proofs.Common.{rules, ℕ, ◌≡◌, ◌≤◌, length, List, leb, sym, ◌∙◌, ap, subst, arith}
use Rattle.std.specs.Prelude.{slice_index_or}
use Rattle.std.proofs.lemmas.List.Sorted.{IsPartitionPoint-from_clause, IsPartitionedBy-leb}
use Rattle.derivations.specs.Tapes.{worlds}
use Rattle.derivations.specs.declared.tape.Piece.{Piece}
use Rattle.derivations.specs.declared.tape.Stretch.{Stretch}
use Rattle.derivations.specs.Stretches.{AreStretches, IsInForce, pieces_of}
use Rattle.derivations.proofs.Stretching.{end_of, quanta_are, ends_rise, at_found, at_past}
use Rattle.derivations.proofs.tape.Tape.at.Goals as goal

pub returns-then-place-len-clause-few : goal.returns-then-place-len-clause-few
returns-then-place-len-clause-few c =
    let all = quanta_are 0 c.self.inside.stretches.items c.self.inside.quanta c.self.invariant.0 in
    let view = ap (λ (ps : List Piece). length (worlds ps)) c.self.view_is in
    let most = c.self.invariant.1 in
    omega (arith, all, view, most)

pub returns-else-place-len-clause-few : goal.returns-else-place-len-clause-few
returns-else-place-len-clause-few c =
    let all = quanta_are 0 c.self.inside.stretches.items c.self.inside.quanta c.self.invariant.0 in
    let view = ap (λ (ps : List Piece). length (worlds ps)) c.self.view_is in
    let most = c.self.invariant.1 in
    omega (arith, all, view, most)

pub returns-then-place-len-clause-found : goal.returns-then-place-len-clause-found
returns-then-place-len-clause-found c =
    let ss : List Stretch = c.deref.result.now in
    let seen : ss ≡ c.self.inside.stretches.items = c.deref.ensures.value in
    let quanta : ℕ = c.self.inside.quanta in
    let are = subst (λ (xs : List Stretch). AreStretches 0 xs quanta) (sym seen) c.self.invariant.0 in
    let parted = IsPartitionedBy-leb end_of ss c.args.quantum (ends_rise 0 ss quanta are) in
    let point = IsPartitionPoint-from_clause (λ (s : Stretch). leb (end_of s) c.args.quantum) _ _ c.partition_point-place.ensures.partitioned parted (λ a r q k. search rules) in
    let here = at_found ss quanta c.args.quantum c.partition_point-place.result are point.0 point.1 c.index.result.now
    (let n = ap length seen in let l = c.self.inside.stretches.ok.0 in omega (arith, n, l)) in
    let whole : c.index.result.now ≡ slice_index_or ss c.partition_point-place.result c.index.result.now =
    c.index.ensures ∙ ap (λ (xs : List Stretch). slice_index_or xs c.partition_point-place.result c.index.result.now) (sym seen) in
    subst (λ (s : Stretch). IsInForce (worlds c.args.self.now) c.args.quantum s) (sym whole)
    (subst (λ (ps : List Piece). IsInForce (worlds ps) c.args.quantum (slice_index_or ss c.partition_point-place.result c.index.result.now)) (ap pieces_of seen ∙ c.self.view_is) here)

pub returns-else-place-len-clause-past : goal.returns-else-place-len-clause-past
returns-else-place-len-clause-past c =
    let ss : List Stretch = c.deref.result.now in
    let seen : ss ≡ c.self.inside.stretches.items = c.deref.ensures.value in
    let quanta : ℕ = c.self.inside.quanta in
    let are = subst (λ (xs : List Stretch). AreStretches 0 xs quanta) (sym seen) c.self.invariant.0 in
    let parted = IsPartitionedBy-leb end_of ss c.args.quantum (ends_rise 0 ss quanta are) in
    let point = IsPartitionPoint-from_clause (λ (s : Stretch). leb (end_of s) c.args.quantum) _ _ c.partition_point-place.ensures.partitioned parted (λ a r q k. search rules) in
    let past = at_past ss quanta c.args.quantum c.partition_point-place.result are point.0 point.1
    (let n = ap length seen in let l = c.self.inside.stretches.ok.0 in omega (arith, n, l)) in
    subst (λ (ps : List Piece). length (worlds ps) ≤ c.args.quantum) (ap pieces_of seen ∙ c.self.view_is) past
