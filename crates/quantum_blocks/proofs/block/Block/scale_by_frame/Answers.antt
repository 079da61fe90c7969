use Rattle.std.proofs.Common.{sym, ◌∙◌, ap, arith, pos, slice_index_or, ◌≡◌, ◌<◌, ◌*◌, length, subst}
use Rattle.wa_base.specs.Numbers.{scale}
use Rattle.mix_rules.specs.Blocks.{sample}
use Rattle.quantum_blocks.specs.declared.block.Block.TheInside.{Inside}
use Rattle.quantum_blocks.specs.contracts.block.Block.{the_view}
use Rattle.quantum_blocks.specs.Blocks.{BlockView, at}
use Rattle.quantum_blocks.proofs.Holding.{moving_is}
use Rattle.quantum_blocks.proofs.block.Block.scale_by_frame.Goals.{in-Steady, in-Moving}
use Rattle.quantum_blocks.proofs.block.Block.scale_by_frame.Goals as goal

pub returns-clause-values : goal.returns-clause-values
returns-clause-values c channel m low now = elim c.match-held.branch [
  | in-Steady w ↦
      let room = c.self.invariant.room in
      let fits = rw (← c.self.view_is) at c.requires.room in
      let same = c.lanes-self-inside.ensures.lanes in
      let rows : c.lanes-self-inside.result * c.self.inside.frames ≡ c.args.other.now.lanes * c.self.inside.frames = ap (λ k. k * c.self.inside.frames) same in
      let gains : length c.args.gains.now ≡ c.self.inside.frames = c.requires.gains ∙ ap (λ (b : BlockView). b.frames) (sym c.self.view_is) in
      let now' : m < c.self.inside.frames = subst (λ (b : BlockView). m < b.frames) (sym c.self.view_is) now in
      let played : m < length c.args.gains.now = subst (λ k. m < k) (sym gains) now' in
      let heard : m < c.args.other.now.frames = subst (λ k. m < k) (sym c.requires.frames) now in
      let held = w.in-Steady.ensures in
      let long = held.0 in
      let made = w.scale_steady.ensures.length in
      ap (λ (b : Inside). at (the_view b) channel m) w.self-inside-is
      ∙ moving_is c.self.inside.frames c.lanes-self-inside.result _ w.scale_steady.new.block _ _ channel m (omega arith) now' (omega (arith, made, rows, fits, room)) (omega (arith, rows, fits, room))
      ∙ ap (λ k. sample k w.scale_steady.new.block channel m) (sym gains)
      ∙ w.scale_steady.ensures.values channel m (omega arith) played
      ∙ ap (λ x. scale x (slice_index_or c.args.gains.now m (pos 0))) (sym (held.1 channel m low heard))
  | in-Moving w ↦
      let room = c.self.invariant.room in
      let fits = rw (← c.self.view_is) at c.requires.room in
      let same = c.lanes-self-inside.ensures.lanes in
      let rows : c.lanes-self-inside.result * c.self.inside.frames ≡ c.args.other.now.lanes * c.self.inside.frames = ap (λ k. k * c.self.inside.frames) same in
      let gains : length c.args.gains.now ≡ c.self.inside.frames = c.requires.gains ∙ ap (λ (b : BlockView). b.frames) (sym c.self.view_is) in
      let now' : m < c.self.inside.frames = subst (λ (b : BlockView). m < b.frames) (sym c.self.view_is) now in
      let played : m < length c.args.gains.now = subst (λ k. m < k) (sym gains) now' in
      let heard : m < c.args.other.now.frames = subst (λ k. m < k) (sym c.requires.frames) now in
      let frames : c.args.other.now.frames ≡ c.self.inside.frames = c.requires.frames ∙ ap (λ (b : BlockView). b.frames) (sym c.self.view_is) in
      let held = w.in-Moving.ensures in
      let made = w.scale_channels.ensures.length in
      ap (λ (b : Inside). at (the_view b) channel m) w.self-inside-is
      ∙ moving_is c.self.inside.frames c.lanes-self-inside.result _ w.scale_channels.new.block _ _ channel m (omega arith) now' (omega (arith, made, rows, fits, room)) (omega (arith, rows, fits, room))
      ∙ ap (λ k. sample k w.scale_channels.new.block channel m) (sym gains)
      ∙ w.scale_channels.ensures.values channel m (omega arith) played
      ∙ ap (λ x. scale x (slice_index_or c.args.gains.now m (pos 0))) (ap (λ k. sample k w.in-Moving.heard.now channel m) (gains ∙ sym frames) ∙ sym (held.1 channel m low heard))
]
