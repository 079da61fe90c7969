-- A sample that is rendered has a key on the tape.
use Rattle.std.proofs.Common.{ℕ, ◌/◌, ◌<◌, List, length, sym, ap, subst, arith}
use Rattle.std.proofs.lemmas.List.{length-map}
use Rattle.std.proofs.Math.Nat.{div-lt_iff_lt-mul, mul_comm}
use Rattle.wa_base.specs.Contexts.{quantum_of}
use Rattle.wa_base.specs.declared.contexts.ContextSpec.{ContextSpec}
use Rattle.node_table.specs.Kinds.{outputs}
use Rattle.node_table.specs.declared.kinds.Kind.{Kind}
use Rattle.conn_graph.specs.Ends.{reader_of}
use Rattle.conn_graph.proofs.EndLaws.{has_end}
use Rattle.meaning.specs.declared.world.World.{World}
use Rattle.meaning.specs.World.{no_world}
use Rattle.meaning.specs.Counts.{world_in}
use Rattle.meaning.specs.Validity.{IsValid, ports_of}
use Rattle.meaning.proofs.Sounding.{sounding_valid}
use Rattle.explain.specs.Facts.{HasOutput, IsKeyOf}
use Rattle.explain_top.specs.Answer.{sample}
use Rattle.explain_top.specs.Tapes.{IsAskable}

-- the destination has an output
has_destination : (w : World) → IsValid w → HasOutput w (reader_of 0) 0
has_destination w valid = record {
  end = has_end w.graph.value 0 (
      let ports = ap length valid.ports in
      let long = length-map w.nodes ports_of in
      let some = valid.nodes.some in
      omega (arith, ports, long, some)
      );
  output = subst (λ (k : Kind). 0 < outputs k) (sym valid.nodes.first.kind) (omega arith);
}

in_tape : (spec : ContextSpec) (tape : List World) (frame : ℕ) → IsAskable spec tape → frame < spec.length → frame / quantum_of spec < length tape
in_tape spec tape frame askable in_frames =
    let low = askable.supported.quantum.low in
    let whole = askable.whole in
    (div-lt_iff_lt-mul {k = quantum_of spec} {x = frame} {y = length tape} (omega (arith, low))).1 (subst (λ n. frame < n) (mul_comm (quantum_of spec) (length tape)) (omega (arith, in_frames, whole)))

pub sample_key : (spec : ContextSpec) (tape : List World) (frame channel : ℕ) → IsAskable spec tape → frame < spec.length → channel < spec.channels → IsKeyOf (quantum_of spec) tape (sample frame channel)
sample_key spec tape frame channel askable in_frames in_channels =
    let inside = in_tape spec tape frame askable in_frames in
    record {
      quantum = inside;
      place = (
        has_destination (world_in tape (frame / quantum_of spec)) (sounding_valid _ (askable.regular.valid (frame / quantum_of spec) no_world inside)),
        (let most = askable.supported.channels_high in omega (arith, in_channels, most)),
      );
    }
