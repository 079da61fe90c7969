use Rattle.std.proofs.Common.{ℕ, ℤ, List, pos, ◌≡◌, ◌+◌, ◌-◌, ◌*◌, ◌<◌, length, take, slice_index_or, sym, ◌∙◌, ap, arith, subst}
use Rattle.std.proofs.lemmas.List.{get_or-take, length-take-le}
use Rattle.law_base.proofs.Rows.{place_in}
use Rattle.mix_rules.specs.Blocks.{sample}
use Rattle.quantum_blocks.specs.Blocks.{BlockView, at, lanes_from, lane_at}
use Rattle.quantum_blocks.proofs.Holding.{steady_at, moving_at}
use Rattle.quantum_blocks.proofs.Lanes.{at_least_rows}
use Rattle.quantum_blocks.proofs.block.Block.held.Goals as goal

pub returns-then-self : goal.returns-then-self
returns-then-self c =
    let n : ℕ = c.self.inside.lanes in
    let q : ℕ = c.self.inside.frames in
    let items : List ℤ = c.self.inside.values.items in
    let room = c.self.invariant.room in
    let begun : 0 < q = let size = c.self.invariant.size.low in omega (arith, size) in
    let least = at_least_rows q n begun in (
      ap (λ (xs : List ℤ). length (take (n - 0) xs)) c.deref.ensures.value ∙ length-take-le (n - 0) items (omega arith) ∙ (let e : n - 0 ≡ n = omega arith in e) ∙ ap (λ (b : BlockView). b.lanes) c.self.view_is,
      λ channel m low now.
          let low' : channel < n = subst (λ (b : BlockView). channel < b.lanes) (sym c.self.view_is) low in
          let now' : m < q = subst (λ (b : BlockView). m < b.frames) (sym c.self.view_is) now in
          ap (λ (b : BlockView). at b channel m) (sym c.self.view_is)
          ∙ ap (λ s. lane_at (lanes_from q s n items) channel m) c.if-self.true
          ∙ steady_at q n items channel m low' now'
          ∙ sym (get_or-take (n - 0) items channel (pos 0) (omega arith))
          ∙ ap (λ (xs : List ℤ). slice_index_or (take (n - 0) xs) channel (pos 0)) (sym c.deref.ensures.value),
    )

pub returns-else-self : goal.returns-else-self
returns-else-self c =
    let n : ℕ = c.self.inside.lanes in
    let q : ℕ = c.self.inside.frames in
    let items : List ℤ = c.self.inside.values.items in
    let all : n * q - 0 ≡ n * q = omega arith in
    let room = c.self.invariant.room in
    let begun : 0 < q = let size = c.self.invariant.size.low in omega (arith, size) in
    let least = at_least_rows q n begun in (
      ap (λ (xs : List ℤ). length (take (n * q - 0) xs)) c.deref-else-self.ensures.value ∙ length-take-le (n * q - 0) items (omega arith) ∙ all ∙ ap (λ (b : BlockView). b.lanes * b.frames) c.self.view_is,
      λ channel m low now.
          let low' : channel < n = subst (λ (b : BlockView). channel < b.lanes) (sym c.self.view_is) low in
          let now' : m < q = subst (λ (b : BlockView). m < b.frames) (sym c.self.view_is) now in
          ap (λ (b : BlockView). at b channel m) (sym c.self.view_is)
          ∙ ap (λ s. lane_at (lanes_from q s n items) channel m) c.if-self.false
          ∙ moving_at q n items channel m low' now'
          ∙ sym (get_or-take (n * q - 0) items (channel * q + m) (pos 0) (let place = place_in q channel n m low' now' in omega (arith, place)))
          ∙ ap (λ (xs : List ℤ). sample q (take (n * q - 0) xs) channel m) (sym c.deref-else-self.ensures.value)
          ∙ ap (λ (b : BlockView). sample b.frames (take (n * q - 0) c.deref-else-self.result.now) channel m) c.self.view_is,
    )
