use Rattle.std.proofs.Common.{ℕ, ℤ, List, pos, ◌≡◌, ◌+◌, ◌-◌, ◌*◌, ◌<◌, length, take, true, sym, ◌∙◌, ap, arith, subst}
use Rattle.std.specs.Prelude.{if◌then◌else◌, nat_lt}
use Rattle.std.proofs.lemmas.List.{get_or-take, length-take-le}
use Rattle.std.proofs.lemmas.Bool.Decides.{nat_tests}
use Rattle.law_base.proofs.Rows.{place_in}
use Rattle.mix_rules.specs.Blocks.{sample}
use Rattle.quantum_blocks.specs.Blocks.{BlockView, lanes_from, lane_at, at}
use Rattle.quantum_blocks.proofs.Holding.{moving_at}
use Rattle.quantum_blocks.proofs.block.Block.plain.Goals as goal

pub returns : goal.returns
returns c =
    let n : ℕ = c.self.inside.lanes in
    let q : ℕ = c.self.inside.frames in
    let frames : q ≡ c.args.self.now.frames = ap (λ (b : BlockView). b.frames) c.self.view_is in
    let items : List ℤ = c.self.inside.values.items in
    let same : n ≡ c.args.lanes = grind (arith, c.if-self-lanes.false) in
    let rows : n * q ≡ c.args.lanes * q = ap (λ k. k * q) same in
    let all : n * q - 0 ≡ c.args.lanes * c.args.self.now.frames = (let e : n * q - 0 ≡ c.args.lanes * q = omega (arith, rows) in e) ∙ ap (λ k. c.args.lanes * k) frames in
    let room = c.self.invariant.room in
    record {
      length = ap (λ (xs : List ℤ). length (take (n * q - 0) xs)) c.deref.ensures.value ∙ length-take-le (n * q - 0) items (omega arith) ∙ all;
      values = λ k m low now.
          let low' : k < n = omega (arith, same) in
          let now' : m < q = subst (λ k. m < k) (sym frames) now in
          let place = place_in q k n m low' now' in
          let there : k < c.args.self.now.lanes = subst (λ (b : BlockView). k < b.lanes) c.self.view_is low' in
          ap (λ (xs : List ℤ). sample c.args.self.now.frames (take (n * q - 0) xs) k m) c.deref.ensures.value
          ∙ ap (λ (f : ℕ). sample f (take (n * q - 0) items) k m) (sym frames)
          ∙ get_or-take (n * q - 0) items (k * q + m) (pos 0) (omega (arith, place))
          ∙ sym (moving_at q n items k m low' now')
          ∙ sym (ap (λ s. lane_at (lanes_from q s n items) k m) c.if-self.false)
          ∙ ap (λ (b : BlockView). at b k m) c.self.view_is
          ∙ ap (λ t. if t then at c.args.self.now k m else pos 0) (let yes : true ≡ nat_lt k c.args.self.now.lanes = grind (arith, nat_tests) in yes);
    }
