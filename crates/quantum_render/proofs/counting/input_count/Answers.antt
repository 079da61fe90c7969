use Rattle.std.proofs.Common.{List, [], ◌∷◌, map, filter, sym, ◌∙◌, ap}
use Rattle.mix_rules.specs.Counts.{input_count}
use Rattle.node_table.specs.declared.nodes.Attrs.{Attrs}
use Rattle.conn_graph.specs.declared.edges.Edge.{Edge}
use Rattle.conn_graph.specs.declared.edges.Target.TheVariants.{Input}
use Rattle.conn_graph.specs.Ends.{reader_of}
use Rattle.quantum_blocks.specs.Blocks.{counts_in}
use Rattle.quantum_blocks.specs.Connections.{leads_to}
use Rattle.quantum_render.proofs.CountingLaws.{count_of_greatest}
use Rattle.meaning.proofs.NodeKinds.{attrs_are}
use Rattle.quantum_blocks.proofs.Sources.{input_sources, into_slots}
use Rattle.quantum_render.proofs.counting.input_count.Goals as goal

pub returns-clause-value : goal.returns-clause-value
returns-clause-value c =
    let attrs = attrs_are c.args.world.now c.args.node.0 c.attrs-attrs.result c.requires.node c.attrs-attrs.ensures.value in
    let counts = λ (es : List Edge). map (λ (e : Edge). counts_in c.args.counts.now (reader_of e.from.0)) es in
    c.count.ensures
    ∙ ap (λ g. input_count c.attrs-attrs.result.mode c.attrs-attrs.result.count (g ∷ [])) c.greatest_count-greatest.ensures.value
    ∙ count_of_greatest c.attrs-attrs.result.mode c.attrs-attrs.result.count (counts (filter (leads_to (Input c.args.node 0)) c.args.into.now))
    ∙ ap (λ es. input_count c.attrs-attrs.result.mode c.attrs-attrs.result.count (counts es)) (ap (λ es. filter (leads_to (Input c.args.node 0)) es) c.requires.into ∙ input_sources c.args.world.now.graph.value c.args.node.0 0)
    ∙ ap (λ (a : Attrs). input_count a.mode a.count (counts (filter (λ e. leads_to (Input c.args.node 0) e) c.args.world.now.graph.value.edges))) (sym attrs)

pub greatest_count-greatest-requires-clause-sources : goal.greatest_count-greatest-requires-clause-sources
greatest_count-greatest-requires-clause-sources c k d l =
    into_slots c.args.world.now c.requires.valid c.args.node.0 c.args.counts.now c.requires.range.places c.args.into.now c.requires.into k d l
