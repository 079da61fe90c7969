use Rattle.std.proofs.Common.{ℕ, ◌≡◌, List, true, false, sym, ◌∙◌}
use Rattle.std.specs.Prelude.{◌&&◌, not}
use Rattle.node_table.specs.Kinds.{is_delay_kind}
use Rattle.node_table.specs.declared.rows.Channels.TheVariants.{Always, OfInput, OfBuffer}
use Rattle.conn_graph.specs.Ends.{reader_of, muted}
use Rattle.meaning.specs.declared.world.World.{World}
use Rattle.meaning.specs.World.{kind_of}
use Rattle.explain.specs.declared.facts.Key.{Key}
use Rattle.explain.specs.declared.facts.Key.TheVariants.{Count}
use Rattle.explain.specs.declared.facts.Fact.{Fact}
use Rattle.explain.specs.Accounts.{Account}
use Rattle.derivations.specs.Contexts.{tape_in}
use Rattle.derivations.specs.Groups.{one, edge_group, input_of, writer_count_group, count_group}
use Rattle.derivations.proofs.Answering.{none_as, some_as, on_some_as}
use Rattle.derivations.proofs.Counted.{delay_is, channels_are, plain_writer, plain_other, node_there, connections_low, sources, writer_groups, input_groups}
use Rattle.derivations.proofs.Counting.{row_group}
use Rattle.derivations.proofs.Leading.{past_as, all_as, missing_in_as, none_needed}
use Rattle.derivations.proofs.Worlds.{world_is}
use Rattle.derivations.proofs.Writers.{kind_is}
use Rattle.derivations.proofs.counts.next_of_count.Goals as goal
use Rattle.derivations.proofs.counts.next_of_count.Goals.{else-is_written-via-then-is_written+else-not-end, else-is_written-via-else-is_written}

pub kind-requires : goal.kind-requires
kind-requires c =
    node_there c.args.context.quantum (tape_in c.args.context) c.requires.ready.regular c.args.quantum c.args.end c.piece-stretch.result.now c.piece-stretch.ensures.piece c.requires.end

pub next_writer_count-requires-clause-node : goal.next_writer_count-requires-clause-node
next_writer_count-requires-clause-node c =
    node_there c.args.context.quantum (tape_in c.args.context) c.requires.ready.regular c.args.quantum c.args.end c.piece-stretch.result.now c.piece-stretch.ensures.piece c.requires.end

pub next_writer_count-requires-clause-delay : goal.next_writer_count-requires-clause-delay
next_writer_count-requires-clause-delay c =
    let w : World = c.piece-stretch.result.now.piece.world in
    let n : ℕ = c.args.end.node.0 in
    delay_is (kind_of w n) c.kind.result.now c.row-row.result c.is_written.result true (kind_is w.nodes n c.kind.result.now c.kind.ensures.value) c.row-row.ensures c.is_written.ensures c.if-is_written.true

pub next_writer_count-requires-clause-before : goal.next_writer_count-requires-clause-before
next_writer_count-requires-clause-before c =
    let q : ℕ = c.args.context.quantum in
    let tape : List World = tape_in c.args.context in
    let facts : List Fact = c.args.context.known.now in
    let w : World = c.piece-stretch.result.now.piece.world in
    let n : ℕ = c.args.end.node.0 in
    let loud : muted w.graph.value c.args.end ≡ false = sym c.is_muted.ensures ∙ c.if-is_muted.false in
    let kind : kind_of w n ≡ c.kind.result.now = kind_is w.nodes n c.kind.result.now c.kind.ensures.value in
    let groups : Account → ℕ → List Key = λ a. count_group q tape a c.args.quantum c.args.end in
    let groups' : Account → ℕ → List Key = λ a. writer_count_group q tape a c.args.quantum n in
    let delay : is_delay_kind (kind_of w n) ≡ true = delay_is (kind_of w n) c.kind.result.now c.row-row.result c.is_written.result true kind c.row-row.ensures c.is_written.ensures c.if-is_written.true in
    past_as q tape facts groups groups' (writer_groups c.args.context.quantum (tape_in c.args.context) c.requires.ready.regular c.args.quantum c.args.end c.piece-stretch.result.now c.piece-stretch.ensures.piece c.requires.end loud delay c.if-not-end.true) c.args.place.now c.requires.before

pub returns-then-not-end-clause-none : goal.returns-then-not-end-clause-none
returns-then-not-end-clause-none c =
    let q : ℕ = c.args.context.quantum in
    let tape : List World = tape_in c.args.context in
    let facts : List Fact = c.args.context.known.now in
    let w : World = c.piece-stretch.result.now.piece.world in
    let n : ℕ = c.args.end.node.0 in
    let loud : muted w.graph.value c.args.end ≡ false = sym c.is_muted.ensures ∙ c.if-is_muted.false in
    let kind : kind_of w n ≡ c.kind.result.now = kind_is w.nodes n c.kind.result.now c.kind.ensures.value in
    let groups : Account → ℕ → List Key = λ a. count_group q tape a c.args.quantum c.args.end in
    let groups' : Account → ℕ → List Key = λ a. writer_count_group q tape a c.args.quantum n in
    let delay : is_delay_kind (kind_of w n) ≡ true = delay_is (kind_of w n) c.kind.result.now c.row-row.result c.is_written.result true kind c.row-row.ensures c.is_written.ensures c.if-is_written.true in
    let same : (a : Account) (g : ℕ) → groups' a g ≡ groups a g = λ a g. sym (writer_groups c.args.context.quantum (tape_in c.args.context) c.requires.ready.regular c.args.quantum c.args.end c.piece-stretch.result.now c.piece-stretch.ensures.piece c.requires.end loud delay c.if-not-end.true a g) in
    none_as c.next_writer_count.result (all_as q tape facts groups' groups same) c.next_writer_count.ensures.none

pub returns-then-not-end-clause-some : goal.returns-then-not-end-clause-some
returns-then-not-end-clause-some c =
    let q : ℕ = c.args.context.quantum in
    let tape : List World = tape_in c.args.context in
    let facts : List Fact = c.args.context.known.now in
    let w : World = c.piece-stretch.result.now.piece.world in
    let n : ℕ = c.args.end.node.0 in
    let loud : muted w.graph.value c.args.end ≡ false = sym c.is_muted.ensures ∙ c.if-is_muted.false in
    let kind : kind_of w n ≡ c.kind.result.now = kind_is w.nodes n c.kind.result.now c.kind.ensures.value in
    let groups : Account → ℕ → List Key = λ a. count_group q tape a c.args.quantum c.args.end in
    let groups' : Account → ℕ → List Key = λ a. writer_count_group q tape a c.args.quantum n in
    let delay : is_delay_kind (kind_of w n) ≡ true = delay_is (kind_of w n) c.kind.result.now c.row-row.result c.is_written.result true kind c.row-row.ensures c.is_written.ensures c.if-is_written.true in
    let same : (a : Account) (g : ℕ) → groups' a g ≡ groups a g = λ a g. sym (writer_groups c.args.context.quantum (tape_in c.args.context) c.requires.ready.regular c.args.quantum c.args.end c.piece-stretch.result.now c.piece-stretch.ensures.piece c.requires.end loud delay c.if-not-end.true a g) in
    some_as c.next_writer_count.result (missing_in_as q tape facts groups' groups same) c.next_writer_count.ensures.some

pub returns-then-not-end-clause-after : goal.returns-then-not-end-clause-after
returns-then-not-end-clause-after c =
    let q : ℕ = c.args.context.quantum in
    let tape : List World = tape_in c.args.context in
    let facts : List Fact = c.args.context.known.now in
    let w : World = c.piece-stretch.result.now.piece.world in
    let n : ℕ = c.args.end.node.0 in
    let loud : muted w.graph.value c.args.end ≡ false = sym c.is_muted.ensures ∙ c.if-is_muted.false in
    let kind : kind_of w n ≡ c.kind.result.now = kind_is w.nodes n c.kind.result.now c.kind.ensures.value in
    let groups : Account → ℕ → List Key = λ a. count_group q tape a c.args.quantum c.args.end in
    let groups' : Account → ℕ → List Key = λ a. writer_count_group q tape a c.args.quantum n in
    let delay : is_delay_kind (kind_of w n) ≡ true = delay_is (kind_of w n) c.kind.result.now c.row-row.result c.is_written.result true kind c.row-row.ensures c.is_written.ensures c.if-is_written.true in
    let same : (a : Account) (g : ℕ) → groups' a g ≡ groups a g = λ a g. sym (writer_groups c.args.context.quantum (tape_in c.args.context) c.requires.ready.regular c.args.quantum c.args.end c.piece-stretch.result.now c.piece-stretch.ensures.piece c.requires.end loud delay c.if-not-end.true a g) in
    on_some_as c.next_writer_count.result (past_as q tape facts groups' groups same c.next_writer_count.new.place) c.next_writer_count.ensures.after

pub part-edges-requires : goal.part-edges-requires
part-edges-requires c =
    connections_low c.args.context.quantum (tape_in c.args.context) c.requires.ready.regular c.args.quantum c.args.end c.piece-stretch.result.now c.piece-stretch.ensures.piece c.requires.end

pub next_input_count-requires-clause-sources : goal.next_input_count-requires-clause-sources
next_input_count-requires-clause-sources c =
    sources c.args.context.quantum (tape_in c.args.context) c.requires.ready.regular c.args.quantum c.args.end c.piece-stretch.result.now c.piece-stretch.ensures.piece c.requires.end c.part-edges.result.now c.part-edges.ensures

pub next_input_count-requires-clause-before : goal.next_input_count-requires-clause-before
next_input_count-requires-clause-before c =
    let q : ℕ = c.args.context.quantum in
    let tape : List World = tape_in c.args.context in
    let facts : List Fact = c.args.context.known.now in
    let w : World = c.piece-stretch.result.now.piece.world in
    let n : ℕ = c.args.end.node.0 in
    let loud : muted w.graph.value c.args.end ≡ false = sym c.is_muted.ensures ∙ c.if-is_muted.false in
    let kind : kind_of w n ≡ c.kind.result.now = kind_is w.nodes n c.kind.result.now c.kind.ensures.value in
    let groups : Account → ℕ → List Key = λ a. count_group q tape a c.args.quantum c.args.end in
    let plain : (is_delay_kind (kind_of w n) && not c.args.end.writer) ≡ false =
    elim c.else-is_written.branch [
      | else-is_written-via-then-is_written+else-not-end v ↦ plain_writer (is_delay_kind (kind_of w n)) c.args.end.writer v.if-not-end.false
      | else-is_written-via-else-is_written v ↦
          plain_other (is_delay_kind (kind_of w n)) c.args.end.writer
          (delay_is (kind_of w n) c.kind.result.now c.row-row.result c.is_written.result false kind c.row-row.ensures c.is_written.ensures v.if-is_written.false)
    ] in
    let groups' : Account → ℕ → List Key = λ a. edge_group (input_of n 0) (λ x. one (Count c.args.quantum (reader_of x.from.0) x.output)) c.part-edges.result.now in
    let channels = channels_are (kind_of w n) c.kind.result.now c.row-row.result OfInput kind c.row-row.ensures c.in-OfInput.is in
    let same : (a : Account) (g : ℕ) → groups a g ≡ groups' a g = input_groups c.args.context.quantum (tape_in c.args.context) c.requires.ready.regular c.args.quantum c.args.end c.piece-stretch.result.now c.piece-stretch.ensures.piece c.requires.end loud plain channels c.part-edges.result.now c.part-edges.ensures in
    past_as q tape facts groups groups' same c.args.place.now c.requires.before

pub returns-in-OfInput-clause-none : goal.returns-in-OfInput-clause-none
returns-in-OfInput-clause-none c =
    let q : ℕ = c.args.context.quantum in
    let tape : List World = tape_in c.args.context in
    let facts : List Fact = c.args.context.known.now in
    let w : World = c.piece-stretch.result.now.piece.world in
    let n : ℕ = c.args.end.node.0 in
    let loud : muted w.graph.value c.args.end ≡ false = sym c.is_muted.ensures ∙ c.if-is_muted.false in
    let kind : kind_of w n ≡ c.kind.result.now = kind_is w.nodes n c.kind.result.now c.kind.ensures.value in
    let groups : Account → ℕ → List Key = λ a. count_group q tape a c.args.quantum c.args.end in
    let plain : (is_delay_kind (kind_of w n) && not c.args.end.writer) ≡ false =
    elim c.else-is_written.branch [
      | else-is_written-via-then-is_written+else-not-end v ↦ plain_writer (is_delay_kind (kind_of w n)) c.args.end.writer v.if-not-end.false
      | else-is_written-via-else-is_written v ↦
          plain_other (is_delay_kind (kind_of w n)) c.args.end.writer
          (delay_is (kind_of w n) c.kind.result.now c.row-row.result c.is_written.result false kind c.row-row.ensures c.is_written.ensures v.if-is_written.false)
    ] in
    let groups' : Account → ℕ → List Key = λ a. edge_group (input_of n 0) (λ x. one (Count c.args.quantum (reader_of x.from.0) x.output)) c.part-edges.result.now in
    let channels = channels_are (kind_of w n) c.kind.result.now c.row-row.result OfInput kind c.row-row.ensures c.in-OfInput.is in
    let same : (a : Account) (g : ℕ) → groups a g ≡ groups' a g = input_groups c.args.context.quantum (tape_in c.args.context) c.requires.ready.regular c.args.quantum c.args.end c.piece-stretch.result.now c.piece-stretch.ensures.piece c.requires.end loud plain channels c.part-edges.result.now c.part-edges.ensures in
    let back : (a : Account) (g : ℕ) → groups' a g ≡ groups a g = λ a g. sym (same a g) in
    none_as c.next_input_count.result (all_as q tape facts groups' groups back) c.next_input_count.ensures.none

pub returns-in-OfInput-clause-some : goal.returns-in-OfInput-clause-some
returns-in-OfInput-clause-some c =
    let q : ℕ = c.args.context.quantum in
    let tape : List World = tape_in c.args.context in
    let facts : List Fact = c.args.context.known.now in
    let w : World = c.piece-stretch.result.now.piece.world in
    let n : ℕ = c.args.end.node.0 in
    let loud : muted w.graph.value c.args.end ≡ false = sym c.is_muted.ensures ∙ c.if-is_muted.false in
    let kind : kind_of w n ≡ c.kind.result.now = kind_is w.nodes n c.kind.result.now c.kind.ensures.value in
    let groups : Account → ℕ → List Key = λ a. count_group q tape a c.args.quantum c.args.end in
    let plain : (is_delay_kind (kind_of w n) && not c.args.end.writer) ≡ false =
    elim c.else-is_written.branch [
      | else-is_written-via-then-is_written+else-not-end v ↦ plain_writer (is_delay_kind (kind_of w n)) c.args.end.writer v.if-not-end.false
      | else-is_written-via-else-is_written v ↦
          plain_other (is_delay_kind (kind_of w n)) c.args.end.writer
          (delay_is (kind_of w n) c.kind.result.now c.row-row.result c.is_written.result false kind c.row-row.ensures c.is_written.ensures v.if-is_written.false)
    ] in
    let groups' : Account → ℕ → List Key = λ a. edge_group (input_of n 0) (λ x. one (Count c.args.quantum (reader_of x.from.0) x.output)) c.part-edges.result.now in
    let channels = channels_are (kind_of w n) c.kind.result.now c.row-row.result OfInput kind c.row-row.ensures c.in-OfInput.is in
    let same : (a : Account) (g : ℕ) → groups a g ≡ groups' a g = input_groups c.args.context.quantum (tape_in c.args.context) c.requires.ready.regular c.args.quantum c.args.end c.piece-stretch.result.now c.piece-stretch.ensures.piece c.requires.end loud plain channels c.part-edges.result.now c.part-edges.ensures in
    let back : (a : Account) (g : ℕ) → groups' a g ≡ groups a g = λ a g. sym (same a g) in
    some_as c.next_input_count.result (missing_in_as q tape facts groups' groups back) c.next_input_count.ensures.some

pub returns-in-OfInput-clause-after : goal.returns-in-OfInput-clause-after
returns-in-OfInput-clause-after c =
    let q : ℕ = c.args.context.quantum in
    let tape : List World = tape_in c.args.context in
    let facts : List Fact = c.args.context.known.now in
    let w : World = c.piece-stretch.result.now.piece.world in
    let n : ℕ = c.args.end.node.0 in
    let loud : muted w.graph.value c.args.end ≡ false = sym c.is_muted.ensures ∙ c.if-is_muted.false in
    let kind : kind_of w n ≡ c.kind.result.now = kind_is w.nodes n c.kind.result.now c.kind.ensures.value in
    let groups : Account → ℕ → List Key = λ a. count_group q tape a c.args.quantum c.args.end in
    let plain : (is_delay_kind (kind_of w n) && not c.args.end.writer) ≡ false =
    elim c.else-is_written.branch [
      | else-is_written-via-then-is_written+else-not-end v ↦ plain_writer (is_delay_kind (kind_of w n)) c.args.end.writer v.if-not-end.false
      | else-is_written-via-else-is_written v ↦
          plain_other (is_delay_kind (kind_of w n)) c.args.end.writer
          (delay_is (kind_of w n) c.kind.result.now c.row-row.result c.is_written.result false kind c.row-row.ensures c.is_written.ensures v.if-is_written.false)
    ] in
    let groups' : Account → ℕ → List Key = λ a. edge_group (input_of n 0) (λ x. one (Count c.args.quantum (reader_of x.from.0) x.output)) c.part-edges.result.now in
    let channels = channels_are (kind_of w n) c.kind.result.now c.row-row.result OfInput kind c.row-row.ensures c.in-OfInput.is in
    let same : (a : Account) (g : ℕ) → groups a g ≡ groups' a g = input_groups c.args.context.quantum (tape_in c.args.context) c.requires.ready.regular c.args.quantum c.args.end c.piece-stretch.result.now c.piece-stretch.ensures.piece c.requires.end loud plain channels c.part-edges.result.now c.part-edges.ensures in
    let back : (a : Account) (g : ℕ) → groups' a g ≡ groups a g = λ a g. sym (same a g) in
    on_some_as c.next_input_count.result (past_as q tape facts groups' groups back c.next_input_count.new.place) c.next_input_count.ensures.after

pub returns-in-Always-clause-none : goal.returns-in-Always-clause-none
returns-in-Always-clause-none c =
    let q : ℕ = c.args.context.quantum in
    let tape : List World = tape_in c.args.context in
    let facts : List Fact = c.args.context.known.now in
    let w : World = c.piece-stretch.result.now.piece.world in
    let n : ℕ = c.args.end.node.0 in
    let loud : muted w.graph.value c.args.end ≡ false = sym c.is_muted.ensures ∙ c.if-is_muted.false in
    let kind : kind_of w n ≡ c.kind.result.now = kind_is w.nodes n c.kind.result.now c.kind.ensures.value in
    let groups : Account → ℕ → List Key = λ a. count_group q tape a c.args.quantum c.args.end in
    let plain : (is_delay_kind (kind_of w n) && not c.args.end.writer) ≡ false =
    elim c.else-is_written.branch [
      | else-is_written-via-then-is_written+else-not-end v ↦ plain_writer (is_delay_kind (kind_of w n)) c.args.end.writer v.if-not-end.false
      | else-is_written-via-else-is_written v ↦
          plain_other (is_delay_kind (kind_of w n)) c.args.end.writer
          (delay_is (kind_of w n) c.kind.result.now c.row-row.result c.is_written.result false kind c.row-row.ensures c.is_written.ensures v.if-is_written.false)
    ] in
    let channels = channels_are (kind_of w n) c.kind.result.now c.row-row.result (Always c.in-Always.field-0) kind c.row-row.ensures c.in-Always.is in
    none_needed q tape facts groups (λ a g. row_group q tape a c.args.quantum w (world_is tape c.args.quantum w c.piece-stretch.ensures.piece.there) c.args.end g (Always c.in-Always.field-0) loud plain channels)

pub returns-in-OfBuffer-clause-none : goal.returns-in-OfBuffer-clause-none
returns-in-OfBuffer-clause-none c =
    let q : ℕ = c.args.context.quantum in
    let tape : List World = tape_in c.args.context in
    let facts : List Fact = c.args.context.known.now in
    let w : World = c.piece-stretch.result.now.piece.world in
    let n : ℕ = c.args.end.node.0 in
    let loud : muted w.graph.value c.args.end ≡ false = sym c.is_muted.ensures ∙ c.if-is_muted.false in
    let kind : kind_of w n ≡ c.kind.result.now = kind_is w.nodes n c.kind.result.now c.kind.ensures.value in
    let groups : Account → ℕ → List Key = λ a. count_group q tape a c.args.quantum c.args.end in
    let plain : (is_delay_kind (kind_of w n) && not c.args.end.writer) ≡ false =
    elim c.else-is_written.branch [
      | else-is_written-via-then-is_written+else-not-end v ↦ plain_writer (is_delay_kind (kind_of w n)) c.args.end.writer v.if-not-end.false
      | else-is_written-via-else-is_written v ↦
          plain_other (is_delay_kind (kind_of w n)) c.args.end.writer
          (delay_is (kind_of w n) c.kind.result.now c.row-row.result c.is_written.result false kind c.row-row.ensures c.is_written.ensures v.if-is_written.false)
    ] in
    let channels = channels_are (kind_of w n) c.kind.result.now c.row-row.result OfBuffer kind c.row-row.ensures c.in-OfBuffer.is in
    none_needed q tape facts groups (λ a g. row_group q tape a c.args.quantum w (world_is tape c.args.quantum w c.piece-stretch.ensures.piece.there) c.args.end g OfBuffer loud plain channels)
