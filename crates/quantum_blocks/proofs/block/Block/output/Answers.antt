use Rattle.std.proofs.Common.{ℕ, ℤ, List, rules, pos, ◌+◌, ◌*◌, ◌≤◌, length, slice_index_or, sym, ◌∙◌, ap, arith, ◌<◌, ◌≡◌, subst, ◌-◌, take, drop}
use Rattle.law_base.proofs.Rows.{rows_up}
use Rattle.mix_rules.specs.Blocks.{sample, frame_at}
use Rattle.quantum_blocks.specs.Blocks.{BlockView, at, lanes_from, lane_at}
use Rattle.quantum_blocks.proofs.Holding.{steady_at, moving_at, steady_carried, moving_carried, part_length, wide_length, part_moving}
use Rattle.channel_mix.proofs.Rows.{part_steady}
use Rattle.quantum_blocks.proofs.Lanes.{at_least_rows}
use Rattle.quantum_blocks.proofs.block.Block.output.Goals as goal

pub overflow_mul-first : goal.overflow_mul-first
overflow_mul-first c =
    let within = rw (← c.self.view_is) at c.requires in
    let high = c.self.invariant.high in
    let low : c.args.output * c.args.channels ≤ 32 = omega arith in
    search rules

pub overflow_add-end : goal.overflow_add-end
overflow_add-end c =
    let within = rw (← c.self.view_is) at c.requires in
    let high = c.self.invariant.high in
    let low : c.args.output * c.args.channels + c.args.channels ≤ 32 = omega arith in
    search rules

pub returns-then-self : goal.returns-then-self
returns-then-self c =
    let n : ℕ = c.args.channels in
    let q : ℕ = c.self.inside.frames in
    let first : ℕ = c.args.output * n in
    let items : List ℤ = c.self.inside.values.items in
    let within = rw (← c.self.view_is) at c.requires in
    let room = c.self.invariant.room in
    let begun : 0 < q = let size = c.self.invariant.size.low in omega (arith, size) in
    let least = at_least_rows q c.self.inside.lanes begun in
    let whole = c.as_slice-values.ensures.value in
    let long = part_length first n c.as_slice-values.result.now (omega (arith, ap length whole, least, room, within)) in (
      long,
      λ m now. steady_carried c.args.self.now c.args.output n m _ c.requires long (λ channel low.
          ap (λ (b : BlockView). at b (first + channel) m) (sym c.self.view_is)
          ∙ ap (λ s. lane_at (lanes_from q s c.self.inside.lanes items) (first + channel) m) c.if-self.true
          ∙ steady_at q c.self.inside.lanes items (first + channel) m (omega (arith, low, within)) (subst (λ (b : BlockView). m < b.frames) (sym c.self.view_is) now)
          ∙ ap (λ (xs : List ℤ). slice_index_or xs (first + channel) (pos 0)) (sym whole)
          ∙ sym (part_steady first n c.as_slice-values.result.now channel low)),
    )

pub returns-else-self : goal.returns-else-self
returns-else-self c =
    let n : ℕ = c.args.channels in
    let q : ℕ = c.self.inside.frames in
    let first : ℕ = c.args.output * n in
    let items : List ℤ = c.self.inside.values.items in
    let within = rw (← c.self.view_is) at c.requires in
    let room = c.self.invariant.room in
    let whole = c.as_slice-values.ensures.value in
    let frames : q ≡ c.args.self.now.frames = ap (λ (b : BlockView). b.frames) c.self.view_is in
    let now_inside : (m : ℕ) → m < c.args.self.now.frames → m < q = λ m now. subst (λ (k : ℕ). m < k) (sym frames) now in
    let part : List ℤ = take ((first + n) * q - first * q) (drop (first * q) c.as_slice-values.result.now) in
    let long : length part ≡ n * q = wide_length q first n c.as_slice-values.result.now (let rows = rows_up q (first + n) c.self.inside.lanes within in omega (arith, ap length whole, rows, room)) in (
      long ∙ ap (λ k. n * k) frames,
      λ m now. ap (λ k. frame_at k part m) (sym frames) ∙ moving_carried q c.args.self.now c.args.output n m part (now_inside m now) c.requires long (λ channel low.
          ap (λ (b : BlockView). at b (first + channel) m) (sym c.self.view_is)
          ∙ ap (λ s. lane_at (lanes_from q s c.self.inside.lanes items) (first + channel) m) c.if-self.false
          ∙ moving_at q c.self.inside.lanes items (first + channel) m (omega (arith, low, within)) (now_inside m now)
          ∙ ap (λ (xs : List ℤ). sample q xs (first + channel) m) (sym whole)
          ∙ sym (part_moving q first n c.as_slice-values.result.now channel m low (now_inside m now))),
    )
