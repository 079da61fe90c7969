use Rattle.std.proofs.Common.{pos, ◌≡◌, ◌+◌, ◌*◌, ◌<◌, sym, ◌∙◌, subst}
use Rattle.std.proofs.lemmas.List.{get_or-take}
use Rattle.node_table.specs.Frames.{item}
use Rattle.quantum_blocks.specs.Blocks.{at}
use Rattle.law_base.proofs.Rows.{place_in}
use Rattle.quantum_render.proofs.bench.causal_block.Goals as goal

pub returns-clause-hears : goal.returns-clause-hears
returns-clause-hears c = (
  c.hear.new.y,
  λ k m low now.
      let lanes = c.lanes-lanes.result in
      let frames = c.args.block.now.frames in
      let same : c.copy_moving.new.self.frames ≡ frames = c.copy_moving.ensures.frames in
      let low' : k < lanes = subst (λ n. k < n) c.copy_moving.ensures.lanes low in
      let now' : m < frames = subst (λ n. m < n) same now in
      subst (λ q. at c.copy_moving.new.self k m ≡ item c.hear.new.y (k * q + m)) (sym same)
      (c.copy_moving.ensures.values k m low' now' ∙ get_or-take (lanes * c.frames.result) c.hear.new.y (k * frames + m) (pos 0)
      (subst (λ q. k * frames + m < lanes * q) (sym c.frames.ensures.value) (place_in frames k lanes m low' now'))),
  c.hear.ensures.hears,
)
