use Rattle.std.proofs.Common.{◌≡◌, ◌<◌, length, inl, inr, sym, ◌∙◌, ap, arith, subst}
use Rattle.std.proofs.lemmas.Bool.{cases_lt}
use Rattle.wa_base.specs.Contexts.{quantum_of}
use Rattle.meaning.specs.Values.{input_value}
use Rattle.law_base.proofs.Rows.{rows_up}
use Rattle.quantum_blocks.specs.Blocks.{BlockView, at}
use Rattle.quantum_render.specs.Benches.{BenchView}
use Rattle.quantum_render.specs.Renders.{here_of}
use Rattle.quantum_render.proofs.bench.Bench.take_inputs.Goals as goal

pub loop-input-init : goal.loop-input-init
loop-input-init c = record {
  frames = ap (λ (b : BenchView). b.frames) c.self.view_is ∙ c.requires.frames;
  lanes = c.begin.ensures.lanes;
  so_far = λ channels i m low now. absurd (omega arith);
}

-- there is room for all inputs
pub begin-requires-clause-room : goal.begin-requires-clause-room
begin-requires-clause-room c =
    let up = rows_up c.self.inside.merged.frames c.args.inputs 32 c.requires.few in
    omega (arith, up, c.self.invariant.merged, c.self.invariant.merged_frames)

-- the lanes of what was made before stay while an input is heard
lanes_are : (c : goal.After-set_lane-arg-in-loop-input-1) → c.self-in-loop-input.inside.merged.lanes ≡ c.args.inputs
lanes_are c = ap (λ (b : BenchView). b.merged.lanes) c.self-in-loop-input.view_is ∙ ap (λ (b : BlockView). b.lanes) c.take_input.ensures.merged ∙ c.loop-input.invariant.lanes

pub set_lane-requires-clause-lane : goal.set_lane-requires-clause-lane
set_lane-requires-clause-lane c = subst (λ n. c.loop-input.input < n) (sym (lanes_are c)) c.loop-input-test.true

pub loop-input-preserved : goal.loop-input-preserved
loop-input-preserved c =
    let lanes : c.self-in-loop-input.inside.merged.lanes ≡ c.args.inputs =
    ap (λ (b : BenchView). b.merged.lanes) c.self-in-loop-input.view_is ∙ ap (λ (b : BlockView). b.lanes) c.take_input.ensures.merged ∙ c.loop-input.invariant.lanes in
    let frames : length c.self-in-loop-input.inside.spans ≡ quantum_of c.args.site.now.world.spec =
    ap (λ (b : BenchView). b.frames) c.self-in-loop-input.view_is ∙ c.take_input.ensures.frames ∙ c.loop-input.invariant.frames in
    let there = c.loop-input-test.true in
    record {
      frames = frames;
      lanes = c.set_lane.ensures.lanes ∙ lanes;
      so_far = λ channels i m low now. let now' : m < c.self-in-loop-input.inside.merged.frames = subst (λ n. m < n) (sym (c.self-in-loop-input.invariant.merged_frames ∙ frames)) now in elim (cases_lt i c.loop-input.input) [
        | inl before ↦
            c.set_lane.ensures.others i m (omega (arith, lanes)) (λ same. absurd (omega arith)) now'
            ∙ ap (λ (b : BenchView). at b.merged i m) c.self-in-loop-input.view_is
            ∙ ap (λ (b : BlockView). at b i m) c.take_input.ensures.merged
            ∙ c.loop-input.invariant.so_far channels i m before now
        | inr not_before ↦
            let own : i ≡ c.loop-input.input = omega arith in
            subst (λ j. at c.set_lane.new.self j m ≡ input_value (here_of c.args.site.now c.args.blocks.now m) c.args.site.now.end.node.0 j 0) (sym own)
            (c.set_lane.ensures.own m now'
            ∙ ap (λ (b : BenchView). at b.heard 0 m) c.self-in-loop-input.view_is
            ∙ c.take_input.ensures.input (channels c.loop-input.input there) 0 m (omega arith) now)
      ];
    }

pub returns-clause-lanes : goal.returns-clause-lanes
returns-clause-lanes c = c.loop-input.invariant.lanes

pub returns-clause-inputs : goal.returns-clause-inputs
returns-clause-inputs c channels i m low now = let end = c.loop-input-test.false in c.loop-input.invariant.so_far channels i m (omega arith) now
