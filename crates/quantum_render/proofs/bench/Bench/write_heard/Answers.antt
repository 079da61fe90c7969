use Rattle.std.proofs.Common.{List, ℤ, ◌≡◌, ◌*◌, ◌≤◌, length, take, ◌∙◌, ap, arith, subst}
use Rattle.mix_rules.specs.Blocks.{sample}
use Rattle.delay_bank.specs.Banks.{Writes}
use Rattle.quantum_blocks.specs.Blocks.{BlockView}
use Rattle.quantum_render.specs.Benches.{BenchView}
use Rattle.quantum_blocks.specs.Held.{IsWidened}
use Rattle.quantum_render.proofs.CausalLaws.{widened_front}
use Rattle.law_base.proofs.Places.{rewritten}
use Rattle.law_base.proofs.Rows.{rows_up}
use Rattle.quantum_render.proofs.bench.Bench.write_heard.Goals as goal

pub returns-in-None-clause-writes : goal.returns-in-None-clause-writes
returns-in-None-clause-writes c =
    let heard : c.self.inside.heard ≡ c.args.self.now.heard = ap (λ (b : BenchView). b.heard) c.self.view_is in
    let own : c.lanes-lanes.result ≡ c.self.inside.heard.lanes = c.lanes-lanes.ensures.lanes in
    let lanes : c.lanes-lanes.result ≡ c.args.self.now.heard.lanes = own ∙ ap (λ (b : BlockView). b.lanes) heard in
    let written = c.deref.ensures.value ∙ rewritten _ c.copy_out.new.out _ (c.copy_out.ensures.length ∙ c.as_mut_slice.ensures.len) in
    let wide : List ℤ = c.deref.result.now in
    let frames = c.self.invariant.heard_frames in
    let up = rows_up c.self.inside.heard.frames c.lanes-lanes.result 32 c.lanes-lanes.ensures.high in
    let room : c.lanes-lanes.result * c.self.inside.heard.frames ≤ length wide =
    omega (arith, ap length written, c.copy_out.ensures.length, c.as_mut_slice.ensures.len, ap length c.as_mut_slice.ensures.value, c.self.invariant.wide, frames, up) in
    let front = widened_front wide c.self.inside.heard c.lanes-lanes.result room (λ k m low now. ap (λ xs. sample c.self.inside.heard.frames xs k m) written ∙ c.copy_out.ensures.values k m low now) in
    let written_part : List ℤ = take (c.lanes-lanes.result * c.frames.result) wide in
    let whole : IsWidened c.self.inside.heard c.lanes-lanes.result written_part =
    subst (λ q. IsWidened c.self.inside.heard c.lanes-lanes.result (take (c.lanes-lanes.result * q) wide)) (omega (arith, frames, c.frames.ensures)) front in (
      written_part,
      subst (λ (b : BlockView). IsWidened b b.lanes written_part) heard (subst (λ n. IsWidened c.self.inside.heard n written_part) own whole),
      subst (λ n. Writes c.args.delays.now c.write-in-None.new.self c.args.node.0 c.args.first n written_part) lanes c.write-in-None.ensures,
    )
