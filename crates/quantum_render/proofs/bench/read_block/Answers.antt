use Rattle.std.proofs.Common.{◌+◌, ◌<◌, sym, ◌∙◌, ap, subst}
use Rattle.mix_rules.specs.Blocks.{sample}
use Rattle.delay_line.specs.Spans.{delay_at as frames_back}
use Rattle.delay_bank.specs.Kept.{AreFew, read_back}
use Rattle.quantum_render.proofs.bench.read_block.Goals as goal

pub returns-clause-values : goal.returns-clause-values
returns-clause-values c d longest born now writer there has asked few whole channel m low here =
    let same = c.requires.lanes in
    let frames = c.requires.frames in
    c.copy_moving.ensures.values channel m (subst (λ n. channel < n) (sym c.lanes-lanes.ensures.lanes) low) (subst (λ q. m < q) (sym frames) here)
    ∙ ap (λ q. sample q c.read.new.out channel m) frames
    ∙ c.read.ensures.values d longest born now writer there has asked (subst (λ n. AreFew c.args.delays.now.quantum born writer n c.args.asked.first c.args.asked.delays.now) (sym same) few) whole channel m (subst (λ n. channel < n) (sym same) low) here
    ∙ ap (λ n. read_back c.args.delays.now.quantum born writer c.args.asked.interp n (c.args.asked.first + m) (frames_back c.args.asked.delays.now m) channel) same
