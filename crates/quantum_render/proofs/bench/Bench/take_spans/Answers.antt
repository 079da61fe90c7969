use Rattle.std.proofs.Common.{rules, pos, ◌≡◌, ◌+◌, ◌*◌, slice_index_or, sym, ◌∙◌, ap, arith, FitsSigned}
use Rattle.std.specs.Prelude.{max}
use Rattle.std.specs.Int.{w32}
use Rattle.std.proofs.lemmas.Int.{to_z-of_z}
use Rattle.node_table.specs.Delays.{frames_of}
use Rattle.quantum_blocks.specs.Blocks.{at}
use Rattle.quantum_render.specs.Benches.{BenchView}
use Rattle.quantum_render.proofs.bench.Bench.take_spans.Goals as goal

pub returns-in-Steady-clause-spans : goal.returns-in-Steady-clause-spans
returns-in-Steady-clause-spans c m now =
    let held = c.in-Steady.ensures in
    let mono = c.self.invariant.mono in
    let seen = ap (λ (b : BenchView). b.frames) c.self.view_is in
    let own = c.self.invariant.levels_frames in
    let level : FitsSigned w32 (slice_index_or c.in-Steady.held.now 0 (pos 0)) = search rules in
    c.hold.ensures.spans m (omega (arith, seen, now))
    ∙ ap (λ x. max c.args.least (frames_of x c.args.rate)) (to_z-of_z _ _ level ∙ sym (held.1 0 m (omega (arith, mono)) (omega (arith, own, seen, now))) ∙ ap (λ (b : BenchView). at b.levels 0 m) c.self.view_is)

pub returns-in-Moving-clause-spans : goal.returns-in-Moving-clause-spans
returns-in-Moving-clause-spans c m now =
    let held = c.in-Moving.ensures in
    let mono = c.self.invariant.mono in
    let seen = ap (λ (b : BenchView). b.frames) c.self.view_is in
    let own = c.self.invariant.levels_frames in
    c.follow.ensures.spans m (omega (arith, seen, now))
    ∙ ap (λ x. max c.args.least (frames_of x c.args.rate))
    (ap (λ k. slice_index_or c.in-Moving.levels.now k (pos 0)) (let e : m ≡ 0 * c.self.inside.levels.frames + m = omega arith in e) ∙ sym (held.1 0 m (omega (arith, mono)) (omega (arith, own, seen, now))) ∙ ap (λ (b : BenchView). at b.levels 0 m) c.self.view_is)
