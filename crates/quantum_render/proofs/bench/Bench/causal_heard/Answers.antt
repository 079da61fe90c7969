use Rattle.std.proofs.Common.{List, ℤ, ◌≡◌, ◌*◌, ◌≤◌, length, take, ◌∙◌, ap, arith, subst}
use Rattle.mix_rules.specs.Blocks.{sample}
use Rattle.quantum_blocks.specs.Blocks.{BlockView}
use Rattle.quantum_render.specs.Benches.{BenchView}
use Rattle.quantum_blocks.specs.Held.{IsWidened}
use Rattle.quantum_render.proofs.CausalLaws.{widened_front}
use Rattle.law_base.proofs.Places.{rewritten}
use Rattle.law_base.proofs.Rows.{rows_up}
use Rattle.quantum_render.proofs.bench.Bench.causal_heard.Goals as goal

pub returns-in-None-clause-hears : goal.returns-in-None-clause-hears
returns-in-None-clause-hears c =
    let heard : c.self.inside.heard ≡ c.args.self.now.heard = ap (λ (b : BenchView). b.heard) c.self.view_is in
    let written = c.deref.ensures.value ∙ rewritten _ c.copy_out.new.out _ (c.copy_out.ensures.length ∙ c.as_mut_slice-in-None.ensures.len) in
    let wide : List ℤ = c.deref.result.now in
    let frames = c.self.invariant.heard_frames in
    let up = rows_up c.self.inside.heard.frames c.args.lanes 32 c.requires.few in
    let room : c.args.lanes * c.self.inside.heard.frames ≤ length wide =
    omega (arith, ap length written, c.copy_out.ensures.length, c.as_mut_slice-in-None.ensures.len, ap length c.as_mut_slice-in-None.ensures.value, c.self.invariant.wide, frames, up) in
    let front = widened_front wide c.self.inside.heard c.args.lanes room (λ k m low now. ap (λ xs. sample c.self.inside.heard.frames xs k m) written ∙ c.copy_out.ensures.values k m low now) in
    let written_part : List ℤ = take (c.args.lanes * c.frames.result) wide in
    let whole : IsWidened c.self.inside.heard c.args.lanes written_part =
    subst (λ q. IsWidened c.self.inside.heard c.args.lanes (take (c.args.lanes * q) wide)) (omega (arith, frames, c.frames.ensures)) front in
    let hears = c.causal_block-in-None.ensures.hears in (
      written_part,
      hears.0,
      subst (λ (b : BlockView). IsWidened b c.args.lanes written_part) heard whole,
      hears.1,
      hears.2,
    )
