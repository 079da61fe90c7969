use Rattle.std.proofs.Common.{◌≡◌, map, filter, ◌∙◌, ap, subst}
use Rattle.law_base.specs.Members.{IsIn}
use Rattle.mix_rules.specs.Counts.{greatest}
use Rattle.conn_graph.specs.Cells.{enters}
use Rattle.conn_graph.specs.Ends.{reader_of}
use Rattle.meaning.specs.Counts.{world_in}
use Rattle.explain.specs.declared.facts.Key.TheVariants.{Count}
use Rattle.derivations.specs.Contexts.{tape_in}
use Rattle.derivations.specs.Groups.{one, input_of}
use Rattle.equations.specs.Given.{meaning_of}
use Rattle.equations.specs.Sums.{led_count}
use Rattle.equations.proofs.InForce.{node_low, into_low, into_is, attrs}
use Rattle.equations.proofs.TakingIn.{led_known, one_known, channels_are}
use Rattle.equations.proofs.inputs.input_channels.Goals as goal

pub part-edges-requires : goal.part-edges-requires
part-edges-requires c = into_low c.args.context c.requires.given c.args.quantum c.piece-stretch.result.now c.piece-stretch.ensures.piece c.args.node.0 c.requires.node

pub attrs-attrs-requires : goal.attrs-attrs-requires
attrs-attrs-requires c = node_low c.args.context c.requires.given c.args.quantum c.piece-stretch.result.now c.piece-stretch.ensures.piece c.args.node.0 c.requires.node

pub most_led-most-requires-clause-known : goal.most_led-most-requires-clause-known
most_led-most-requires-clause-known c =
    let edges = (world_in (tape_in c.args.context) c.args.quantum).graph.value.edges in
    let are : c.part-edges.result.now ≡ filter (enters c.args.node.0) edges =
    c.part-edges.ensures ∙ into_is c.args.context c.requires.given c.args.quantum c.piece-stretch.result.now c.piece-stretch.ensures.piece c.args.node.0 c.requires.node in
    λ x is. led_known c.args.context (input_of c.args.node.0 c.args.input) (λ e. one (Count c.args.quantum (reader_of e.from.0) e.output)) edges
    (λ e h. one_known c.args.context (Count c.args.quantum (reader_of e.from.0) e.output) (c.requires.known e h)) x (subst (IsIn x) are is)

pub returns-clause-value : goal.returns-clause-value
returns-clause-value c =
    let edges = (world_in (tape_in c.args.context) c.args.quantum).graph.value.edges in
    let counts = (meaning_of c.args.context).counts c.args.quantum in
    let are : c.part-edges.result.now ≡ filter (enters c.args.node.0) edges =
    c.part-edges.ensures ∙ into_is c.args.context c.requires.given c.args.quantum c.piece-stretch.result.now c.piece-stretch.ensures.piece c.args.node.0 c.requires.node in
    c.count.ensures
    ∙ channels_are (world_in (tape_in c.args.context) c.args.quantum) counts c.args.node.0 c.args.input c.most_led-most.result c.attrs-attrs.result
    (attrs c.args.context c.requires.given c.args.quantum c.piece-stretch.result.now c.piece-stretch.ensures.piece c.args.node.0 c.attrs-attrs.result c.requires.node c.attrs-attrs.ensures.value)
    (c.most_led-most.ensures.value ∙ ap (λ es. greatest (map (led_count (input_of c.args.node.0 c.args.input) counts) es)) are)
