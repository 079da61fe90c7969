use Rattle.std.proofs.Common.{rules, ◌≡◌, ◌≤◌, ◌/◌, FitsSigned, length, map, filter, List, sym, ◌∙◌, ap, subst}
use Rattle.std.specs.Int.{w32, w128}
use Rattle.std.proofs.lemmas.Int.{to_z-of_z}
use Rattle.wa_base.specs.Numbers.{sat}
use Rattle.law_base.specs.Members.{IsIn}
use Rattle.mix_rules.specs.Mixing.{total}
use Rattle.conn_graph.specs.declared.edges.Edge.{Edge}
use Rattle.conn_graph.specs.Cells.{enters}
use Rattle.conn_graph.specs.Graph.{edges_to_input}
use Rattle.conn_graph.specs.Ends.{reader_of}
use Rattle.meaning.specs.Counts.{world_in, input_channels}
use Rattle.explain.specs.declared.facts.Key.TheVariants.{Count}
use Rattle.derivations.specs.Contexts.{tape_in, world_of, StandsIn}
use Rattle.derivations.specs.Groups.{input_of, source_keys}
use Rattle.equations.specs.Given.{meaning_of, frame_of}
use Rattle.equations.specs.Sums.{led_part}
use Rattle.equations.proofs.InForce.{node_low, into_low, into_is, edges_few, attrs}
use Rattle.equations.proofs.TakingIn.{filter_short, led_known, carried_known, counts_known, absent_input, present_input}
use Rattle.equations.proofs.inputs.input_value.Goals as goal

pub input_channels-channels-requires-clause-known : goal.input_channels-channels-requires-clause-known
input_channels-channels-requires-clause-known c =
    let quantum : c.args.frame / c.from.result ≡ c.args.frame / c.args.context.quantum = ap (λ n. c.args.frame / n) c.from.ensures in
    subst (λ j. (e : Edge) → IsIn e (edges_to_input (world_in (tape_in c.args.context) j).graph.value c.args.node.0 c.args.input) → StandsIn c.args.context (Count j (reader_of e.from.0) e.output)) (sym quantum)
    (counts_known c.args.context c.args.frame (edges_to_input (world_of c.args.context c.args.frame).graph.value c.args.node.0 c.args.input) c.requires.known)

pub returns-then-channel-channels : goal.returns-then-channel-channels
returns-then-channel-channels c =
    let quantum : c.args.frame / c.from.result ≡ c.args.frame / c.args.context.quantum = ap (λ n. c.args.frame / n) c.from.ensures in
    let many : c.input_channels-channels.result ≡ input_channels (world_of c.args.context c.args.frame) ((meaning_of c.args.context).counts (c.args.frame / c.args.context.quantum)) c.args.node.0 c.args.input =
    c.input_channels-channels.ensures.value ∙ ap (λ j. input_channels (world_in (tape_in c.args.context) j) ((meaning_of c.args.context).counts j) c.args.node.0 c.args.input) quantum in
    absent_input (frame_of c.args.context c.args.frame) c.args.node.0 c.args.input c.args.channel c.input_channels-channels.result many c.if-channel-channels.true

pub part-edges-requires : goal.part-edges-requires
part-edges-requires c = into_low c.args.context c.requires.given (c.args.frame / c.args.context.quantum) c.piece_at-stretch.result.now c.piece_at-stretch.ensures c.args.node.0 c.requires.node

pub attrs-requires : goal.attrs-requires
attrs-requires c = node_low c.args.context c.requires.given (c.args.frame / c.args.context.quantum) c.piece_at-stretch.result.now c.piece_at-stretch.ensures c.args.node.0 c.requires.node

pub total_led-requires-clause-few : goal.total_led-requires-clause-few
total_led-requires-clause-few c =
    let are : c.part-edges.result.now ≡ filter (enters c.args.node.0) (world_of c.args.context c.args.frame).graph.value.edges =
    c.part-edges.ensures ∙ into_is c.args.context c.requires.given (c.args.frame / c.args.context.quantum) c.piece_at-stretch.result.now c.piece_at-stretch.ensures c.args.node.0 c.requires.node in
    subst (λ (es : List Edge). length es ≤ 8192) (sym are)
    (filter_short (enters c.args.node.0) _ 8192 (edges_few c.args.context c.requires.given (c.args.frame / c.args.context.quantum) c.piece_at-stretch.result.now c.piece_at-stretch.ensures))

pub total_led-requires-clause-known : goal.total_led-requires-clause-known
total_led-requires-clause-known c =
    let are : c.part-edges.result.now ≡ filter (enters c.args.node.0) (world_of c.args.context c.args.frame).graph.value.edges =
    c.part-edges.ensures ∙ into_is c.args.context c.requires.given (c.args.frame / c.args.context.quantum) c.piece_at-stretch.result.now c.piece_at-stretch.ensures c.args.node.0 c.requires.node in
    λ x is. led_known c.args.context (input_of c.args.node.0 c.args.input) (source_keys c.args.context.quantum (tape_in c.args.context) (meaning_of c.args.context) c.args.frame) (world_of c.args.context c.args.frame).graph.value.edges
    (λ e h. carried_known c.args.context c.args.frame (edges_to_input (world_of c.args.context c.args.frame).graph.value c.args.node.0 c.args.input) c.requires.known e h) x (subst (IsIn x) are is)

pub returns : goal.returns
returns c =
    let quantum : c.args.frame / c.from.result ≡ c.args.frame / c.args.context.quantum = ap (λ n. c.args.frame / n) c.from.ensures in
    let many : c.input_channels-channels.result ≡ input_channels (world_of c.args.context c.args.frame) ((meaning_of c.args.context).counts (c.args.frame / c.args.context.quantum)) c.args.node.0 c.args.input =
    c.input_channels-channels.ensures.value ∙ ap (λ j. input_channels (world_in (tape_in c.args.context) j) ((meaning_of c.args.context).counts j) c.args.node.0 c.args.input) quantum in
    let are : c.part-edges.result.now ≡ filter (enters c.args.node.0) (world_of c.args.context c.args.frame).graph.value.edges =
    c.part-edges.ensures ∙ into_is c.args.context c.requires.given (c.args.frame / c.args.context.quantum) c.piece_at-stretch.result.now c.piece_at-stretch.ensures c.args.node.0 c.requires.node in
    let answer : FitsSigned w32 c.nearest.result = search rules in
    let sum : FitsSigned w128 c.total_led.result = search rules in
    to_z-of_z _ _ answer ∙ c.nearest.ensures ∙ ap sat (to_z-of_z _ _ sum)
    ∙ present_input (frame_of c.args.context c.args.frame) c.args.node.0 c.args.input c.args.channel c.input_channels-channels.result many c.total_led.result c.attrs.result c.if-channel-channels.false
    (attrs c.args.context c.requires.given (c.args.frame / c.args.context.quantum) c.piece_at-stretch.result.now c.piece_at-stretch.ensures c.args.node.0 c.attrs.result c.requires.node c.attrs.ensures.value)
    (c.total_led.ensures ∙ ap (λ es. total (map (led_part (input_of c.args.node.0 c.args.input) (frame_of c.args.context c.args.frame) (record { interp = c.attrs.result.interp; channels = c.input_channels-channels.result; channel = c.args.channel })) es)) are)
