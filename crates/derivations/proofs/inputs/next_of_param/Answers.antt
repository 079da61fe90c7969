use Rattle.std.proofs.Common.{ℕ, ◌≡◌, ◌<◌, ◌/◌, length, List, sym, ◌∙◌, ap, subst}
use Rattle.conn_graph.specs.declared.edges.Target.TheVariants as to
use Rattle.conn_graph.specs.Ends.{reader_of}
use Rattle.meaning.specs.declared.world.World.{World}
use Rattle.meaning.specs.World.{param_id}
use Rattle.meaning.specs.Counts.{world_in}
use Rattle.explain.specs.declared.facts.Key.{Key}
use Rattle.explain.specs.declared.facts.Fact.{Fact}
use Rattle.explain.specs.Accounts.{Account}
use Rattle.explain.specs.Facts.{HasOutput}
use Rattle.derivations.specs.Contexts.{tape_in}
use Rattle.derivations.specs.Groups.{edge_group, source_keys, param_frame, param_group}
use Rattle.derivations.proofs.Answering.{none_as, some_as, on_some_as}
use Rattle.derivations.proofs.Inlets.{sources_in, taken_is, param_groups, quantum_of_taken}
use Rattle.derivations.proofs.Leading.{past_as, all_as, missing_in_as}
use Rattle.derivations.proofs.inputs.next_of_param.Goals as goal

pub next_led-requires-clause-there : goal.next_led-requires-clause-there
next_led-requires-clause-there c =
    let q : ℕ = c.args.context.quantum in
    let tape : List World = tape_in c.args.context in
    let taken : c.param_frame-taken.result ≡ param_frame q tape c.args.frame c.args.id.node.0 c.args.id.name =
    taken_is q tape c.requires.ready.regular.valid c.args.frame c.args.id.node.0 c.piece_at-stretch.result.now c.piece_at-stretch.ensures c.requires.node c.part-edges.result.now c.part-edges.ensures c.args.id.name c.param_frame-taken.result c.param_frame-taken.ensures in
    let quantum : c.param_frame-taken.result / q ≡ c.args.frame / q = ap (λ t. t / q) taken ∙ quantum_of_taken q tape c.args.frame c.args.id.node.0 c.args.id.name c.requires.ready.some in
    subst (λ j. j < length tape) (sym quantum) c.requires.there

pub next_led-requires-clause-sources : goal.next_led-requires-clause-sources
next_led-requires-clause-sources c = λ x is.
    let q : ℕ = c.args.context.quantum in
    let tape : List World = tape_in c.args.context in
    let taken : c.param_frame-taken.result ≡ param_frame q tape c.args.frame c.args.id.node.0 c.args.id.name =
    taken_is q tape c.requires.ready.regular.valid c.args.frame c.args.id.node.0 c.piece_at-stretch.result.now c.piece_at-stretch.ensures c.requires.node c.part-edges.result.now c.part-edges.ensures c.args.id.name c.param_frame-taken.result c.param_frame-taken.ensures in
    let quantum : c.param_frame-taken.result / q ≡ c.args.frame / q = ap (λ t. t / q) taken ∙ quantum_of_taken q tape c.args.frame c.args.id.node.0 c.args.id.name c.requires.ready.some in
    subst (λ j. HasOutput (world_in tape j) (reader_of x.from.0) x.output) (sym quantum)
    (sources_in q tape c.requires.ready.regular.valid c.args.frame c.args.id.node.0 c.piece_at-stretch.result.now c.piece_at-stretch.ensures c.requires.node c.part-edges.result.now c.part-edges.ensures x is)

pub next_led-requires-clause-before : goal.next_led-requires-clause-before
next_led-requires-clause-before c =
    let q : ℕ = c.args.context.quantum in
    let tape : List World = tape_in c.args.context in
    let facts : List Fact = c.args.context.known.now in
    let taken : c.param_frame-taken.result ≡ param_frame q tape c.args.frame c.args.id.node.0 c.args.id.name =
    taken_is q tape c.requires.ready.regular.valid c.args.frame c.args.id.node.0 c.piece_at-stretch.result.now c.piece_at-stretch.ensures c.requires.node c.part-edges.result.now c.part-edges.ensures c.args.id.name c.param_frame-taken.result c.param_frame-taken.ensures in
    past_as q tape facts
    (λ a. param_group q tape a c.args.frame c.args.id.node.0 c.args.id.name)
    (λ a. edge_group (to.Param (param_id c.args.id.node.0 c.args.id.name)) (source_keys q tape a c.param_frame-taken.result) c.part-edges.result.now)
    (param_groups q tape c.requires.ready.regular.valid c.args.frame c.args.id.node.0 c.piece_at-stretch.result.now c.piece_at-stretch.ensures c.requires.node c.part-edges.result.now c.part-edges.ensures c.args.id.name c.param_frame-taken.result taken)
    c.args.place.now c.requires.before

pub returns : goal.returns
returns c =
    let q : ℕ = c.args.context.quantum in
    let tape : List World = tape_in c.args.context in
    let facts : List Fact = c.args.context.known.now in
    let groups : Account → ℕ → List Key = λ a. param_group q tape a c.args.frame c.args.id.node.0 c.args.id.name in
    let groups' : Account → ℕ → List Key = λ a. edge_group (to.Param (param_id c.args.id.node.0 c.args.id.name)) (source_keys q tape a c.param_frame-taken.result) c.part-edges.result.now in
    let frame : c.param_frame-taken.result ≡ param_frame q tape c.args.frame c.args.id.node.0 c.args.id.name =
    taken_is q tape c.requires.ready.regular.valid c.args.frame c.args.id.node.0 c.piece_at-stretch.result.now c.piece_at-stretch.ensures c.requires.node c.part-edges.result.now c.part-edges.ensures c.args.id.name c.param_frame-taken.result c.param_frame-taken.ensures in
    let same : (a : Account) (g : ℕ) → groups' a g ≡ groups a g =
    λ a g. sym (param_groups q tape c.requires.ready.regular.valid c.args.frame c.args.id.node.0 c.piece_at-stretch.result.now c.piece_at-stretch.ensures c.requires.node c.part-edges.result.now c.part-edges.ensures c.args.id.name c.param_frame-taken.result frame a g) in
    record {
      none = none_as c.next_led.result (all_as q tape facts groups' groups same) c.next_led.ensures.none;
      some = some_as c.next_led.result (missing_in_as q tape facts groups' groups same) c.next_led.ensures.some;
      after = on_some_as c.next_led.result (past_as q tape facts groups' groups same c.next_led.new.place) c.next_led.ensures.after;
    }
