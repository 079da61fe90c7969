use Rattle.std.proofs.Common.{◌≡◌, ◌*◌, true, false, refl, sym, ◌∙◌, ap}
use Rattle.std.specs.Prelude.{◌&&◌, not}
use Rattle.node_table.specs.Kinds.{row, is_delay_kind}
use Rattle.node_table.specs.declared.rows.Channels.TheVariants.{Always, OfInput, OfBuffer}
use Rattle.conn_graph.specs.Ends.{muted}
use Rattle.meaning.specs.declared.world.World.{World}
use Rattle.meaning.specs.World.{kind_of, played_channels}
use Rattle.meaning.specs.Counts.{world_in}
use Rattle.derivations.specs.Contexts.{tape_in}
use Rattle.derivations.proofs.Counted.{node_there, end_there, plain_writer, plain_other}
use Rattle.equations.proofs.Counting.{muted_is, end_is, end_known, connected_known}
use Rattle.equations.proofs.Ending.{both_are, node_in, muted_here, delay_here, channels_here}
use Rattle.equations.proofs.InForce.{is, valid}
use Rattle.equations.proofs.counts.end_channels.Goals as goal
use Rattle.equations.proofs.counts.end_channels.Goals.{else-is_written-via-then-is_written+else-not-end, else-is_written-via-else-is_written}

pub is_muted-requires-clause-end : goal.is_muted-requires-clause-end
is_muted-requires-clause-end c =
    end_there c.args.context.quantum (tape_in c.args.context) c.requires.given.ready.regular c.args.quantum c.args.end c.piece-stretch.result.now c.piece-stretch.ensures.piece c.requires.end

pub kind-requires : goal.kind-requires
kind-requires c =
    node_there c.args.context.quantum (tape_in c.args.context) c.requires.given.ready.regular c.args.quantum c.args.end c.piece-stretch.result.now c.piece-stretch.ensures.piece c.requires.end

pub returns-then-is_muted : goal.returns-then-is_muted
returns-then-is_muted c =
    muted_is c.args.context c.args.quantum c.args.end
    (muted_here c.args.context c.requires.given c.args.quantum c.piece-stretch.result.now c.piece-stretch.ensures.piece c.args.end c.requires.end c.is_muted.result true c.is_muted.ensures c.if-is_muted.true)

pub reader_channels-requires-clause-node : goal.reader_channels-requires-clause-node
reader_channels-requires-clause-node c =
    node_in c.args.context c.requires.given c.args.quantum c.piece-stretch.result.now c.piece-stretch.ensures.piece c.args.end c.requires.end

pub reader_channels-requires-clause-delay : goal.reader_channels-requires-clause-delay
reader_channels-requires-clause-delay c =
    let delay : is_delay_kind (kind_of (world_in (tape_in c.args.context) c.args.quantum) c.args.end.node.0) ≡ true = delay_here c.args.context c.requires.given c.args.quantum c.piece-stretch.result.now c.piece-stretch.ensures.piece c.args.end c.requires.end c.kind.result.now c.kind.ensures.value c.row-row.result c.is_written.result true c.row-row.ensures c.is_written.ensures c.if-is_written.true in
    let reader : (is_delay_kind (kind_of (world_in (tape_in c.args.context) c.args.quantum) c.args.end.node.0) && not c.args.end.writer) ≡ true = both_are _ c.args.end.writer delay c.if-not-end.true in
    delay

pub reader_channels-requires-clause-known : goal.reader_channels-requires-clause-known
reader_channels-requires-clause-known c =
    let loud : muted (world_in (tape_in c.args.context) c.args.quantum).graph.value c.args.end ≡ false = muted_here c.args.context c.requires.given c.args.quantum c.piece-stretch.result.now c.piece-stretch.ensures.piece c.args.end c.requires.end c.is_muted.result false c.is_muted.ensures c.if-is_muted.false in
    let delay : is_delay_kind (kind_of (world_in (tape_in c.args.context) c.args.quantum) c.args.end.node.0) ≡ true = delay_here c.args.context c.requires.given c.args.quantum c.piece-stretch.result.now c.piece-stretch.ensures.piece c.args.end c.requires.end c.kind.result.now c.kind.ensures.value c.row-row.result c.is_written.result true c.row-row.ensures c.is_written.ensures c.if-is_written.true in
    let reader : (is_delay_kind (kind_of (world_in (tape_in c.args.context) c.args.quantum) c.args.end.node.0) && not c.args.end.writer) ≡ true = both_are _ c.args.end.writer delay c.if-not-end.true in
    let channels : (row (kind_of (world_in (tape_in c.args.context) c.args.quantum) c.args.end.node.0)).channels ≡ c.row-row.result.channels = channels_here c.args.context c.requires.given c.args.quantum c.piece-stretch.result.now c.piece-stretch.ensures.piece c.args.end c.requires.end c.kind.result.now c.kind.ensures.value c.row-row.result (c.row-row.result.channels) c.row-row.ensures refl in
    end_known c.args.context c.args.quantum c.args.end loud true reader c.row-row.result.channels channels c.requires.known

pub returns-then-not-end : goal.returns-then-not-end
returns-then-not-end c =
    let loud : muted (world_in (tape_in c.args.context) c.args.quantum).graph.value c.args.end ≡ false = muted_here c.args.context c.requires.given c.args.quantum c.piece-stretch.result.now c.piece-stretch.ensures.piece c.args.end c.requires.end c.is_muted.result false c.is_muted.ensures c.if-is_muted.false in
    let delay : is_delay_kind (kind_of (world_in (tape_in c.args.context) c.args.quantum) c.args.end.node.0) ≡ true = delay_here c.args.context c.requires.given c.args.quantum c.piece-stretch.result.now c.piece-stretch.ensures.piece c.args.end c.requires.end c.kind.result.now c.kind.ensures.value c.row-row.result c.is_written.result true c.row-row.ensures c.is_written.ensures c.if-is_written.true in
    let reader : (is_delay_kind (kind_of (world_in (tape_in c.args.context) c.args.quantum) c.args.end.node.0) && not c.args.end.writer) ≡ true = both_are _ c.args.end.writer delay c.if-not-end.true in
    let channels : (row (kind_of (world_in (tape_in c.args.context) c.args.quantum) c.args.end.node.0)).channels ≡ c.row-row.result.channels = channels_here c.args.context c.requires.given c.args.quantum c.piece-stretch.result.now c.piece-stretch.ensures.piece c.args.end c.requires.end c.kind.result.now c.kind.ensures.value c.row-row.result (c.row-row.result.channels) c.row-row.ensures refl in
    c.reader_channels.ensures ∙ end_is c.args.context c.args.quantum c.args.end loud true reader c.row-row.result.channels channels

pub returns-in-Always : goal.returns-in-Always
returns-in-Always c =
    let loud : muted (world_in (tape_in c.args.context) c.args.quantum).graph.value c.args.end ≡ false = muted_here c.args.context c.requires.given c.args.quantum c.piece-stretch.result.now c.piece-stretch.ensures.piece c.args.end c.requires.end c.is_muted.result false c.is_muted.ensures c.if-is_muted.false in
    let plain : (is_delay_kind (kind_of (world_in (tape_in c.args.context) c.args.quantum) c.args.end.node.0) && not c.args.end.writer) ≡ false =
    elim c.else-is_written.branch [
      | else-is_written-via-then-is_written+else-not-end v ↦ plain_writer (is_delay_kind (kind_of (world_in (tape_in c.args.context) c.args.quantum) c.args.end.node.0)) c.args.end.writer v.if-not-end.false
      | else-is_written-via-else-is_written v ↦
          plain_other (is_delay_kind (kind_of (world_in (tape_in c.args.context) c.args.quantum) c.args.end.node.0)) c.args.end.writer
          (delay_here c.args.context c.requires.given c.args.quantum c.piece-stretch.result.now c.piece-stretch.ensures.piece c.args.end c.requires.end c.kind.result.now c.kind.ensures.value c.row-row.result c.is_written.result false c.row-row.ensures c.is_written.ensures v.if-is_written.false)
    ] in
    let channels : (row (kind_of (world_in (tape_in c.args.context) c.args.quantum) c.args.end.node.0)).channels ≡ Always c.in-Always.channels = channels_here c.args.context c.requires.given c.args.quantum c.piece-stretch.result.now c.piece-stretch.ensures.piece c.args.end c.requires.end c.kind.result.now c.kind.ensures.value c.row-row.result (Always c.in-Always.channels) c.row-row.ensures c.in-Always.is in
    end_is c.args.context c.args.quantum c.args.end loud false plain (Always c.in-Always.channels) channels

pub input_channels-requires-clause-node : goal.input_channels-requires-clause-node
input_channels-requires-clause-node c =
    node_in c.args.context c.requires.given c.args.quantum c.piece-stretch.result.now c.piece-stretch.ensures.piece c.args.end c.requires.end

pub input_channels-requires-clause-known : goal.input_channels-requires-clause-known
input_channels-requires-clause-known c =
    let loud : muted (world_in (tape_in c.args.context) c.args.quantum).graph.value c.args.end ≡ false = muted_here c.args.context c.requires.given c.args.quantum c.piece-stretch.result.now c.piece-stretch.ensures.piece c.args.end c.requires.end c.is_muted.result false c.is_muted.ensures c.if-is_muted.false in
    let plain : (is_delay_kind (kind_of (world_in (tape_in c.args.context) c.args.quantum) c.args.end.node.0) && not c.args.end.writer) ≡ false =
    elim c.else-is_written.branch [
      | else-is_written-via-then-is_written+else-not-end v ↦ plain_writer (is_delay_kind (kind_of (world_in (tape_in c.args.context) c.args.quantum) c.args.end.node.0)) c.args.end.writer v.if-not-end.false
      | else-is_written-via-else-is_written v ↦
          plain_other (is_delay_kind (kind_of (world_in (tape_in c.args.context) c.args.quantum) c.args.end.node.0)) c.args.end.writer
          (delay_here c.args.context c.requires.given c.args.quantum c.piece-stretch.result.now c.piece-stretch.ensures.piece c.args.end c.requires.end c.kind.result.now c.kind.ensures.value c.row-row.result c.is_written.result false c.row-row.ensures c.is_written.ensures v.if-is_written.false)
    ] in
    let channels : (row (kind_of (world_in (tape_in c.args.context) c.args.quantum) c.args.end.node.0)).channels ≡ OfInput = channels_here c.args.context c.requires.given c.args.quantum c.piece-stretch.result.now c.piece-stretch.ensures.piece c.args.end c.requires.end c.kind.result.now c.kind.ensures.value c.row-row.result (OfInput) c.row-row.ensures c.in-OfInput.is in
    connected_known c.args.context c.args.quantum c.args.end (end_known c.args.context c.args.quantum c.args.end loud false plain OfInput channels c.requires.known)

pub played_channels-requires-clause-valid : goal.played_channels-requires-clause-valid
played_channels-requires-clause-valid c =
    valid c.args.context c.requires.given c.args.quantum c.piece-stretch.result.now c.piece-stretch.ensures.piece

pub returns-in-OfInput : goal.returns-in-OfInput
returns-in-OfInput c =
    let loud : muted (world_in (tape_in c.args.context) c.args.quantum).graph.value c.args.end ≡ false = muted_here c.args.context c.requires.given c.args.quantum c.piece-stretch.result.now c.piece-stretch.ensures.piece c.args.end c.requires.end c.is_muted.result false c.is_muted.ensures c.if-is_muted.false in
    let plain : (is_delay_kind (kind_of (world_in (tape_in c.args.context) c.args.quantum) c.args.end.node.0) && not c.args.end.writer) ≡ false =
    elim c.else-is_written.branch [
      | else-is_written-via-then-is_written+else-not-end v ↦ plain_writer (is_delay_kind (kind_of (world_in (tape_in c.args.context) c.args.quantum) c.args.end.node.0)) c.args.end.writer v.if-not-end.false
      | else-is_written-via-else-is_written v ↦
          plain_other (is_delay_kind (kind_of (world_in (tape_in c.args.context) c.args.quantum) c.args.end.node.0)) c.args.end.writer
          (delay_here c.args.context c.requires.given c.args.quantum c.piece-stretch.result.now c.piece-stretch.ensures.piece c.args.end c.requires.end c.kind.result.now c.kind.ensures.value c.row-row.result c.is_written.result false c.row-row.ensures c.is_written.ensures v.if-is_written.false)
    ] in
    let channels : (row (kind_of (world_in (tape_in c.args.context) c.args.quantum) c.args.end.node.0)).channels ≡ OfInput = channels_here c.args.context c.requires.given c.args.quantum c.piece-stretch.result.now c.piece-stretch.ensures.piece c.args.end c.requires.end c.kind.result.now c.kind.ensures.value c.row-row.result (OfInput) c.row-row.ensures c.in-OfInput.is in
    c.input_channels.ensures.value ∙ end_is c.args.context c.args.quantum c.args.end loud false plain OfInput channels

pub returns-in-OfBuffer : goal.returns-in-OfBuffer
returns-in-OfBuffer c =
    let loud : muted (world_in (tape_in c.args.context) c.args.quantum).graph.value c.args.end ≡ false = muted_here c.args.context c.requires.given c.args.quantum c.piece-stretch.result.now c.piece-stretch.ensures.piece c.args.end c.requires.end c.is_muted.result false c.is_muted.ensures c.if-is_muted.false in
    let plain : (is_delay_kind (kind_of (world_in (tape_in c.args.context) c.args.quantum) c.args.end.node.0) && not c.args.end.writer) ≡ false =
    elim c.else-is_written.branch [
      | else-is_written-via-then-is_written+else-not-end v ↦ plain_writer (is_delay_kind (kind_of (world_in (tape_in c.args.context) c.args.quantum) c.args.end.node.0)) c.args.end.writer v.if-not-end.false
      | else-is_written-via-else-is_written v ↦
          plain_other (is_delay_kind (kind_of (world_in (tape_in c.args.context) c.args.quantum) c.args.end.node.0)) c.args.end.writer
          (delay_here c.args.context c.requires.given c.args.quantum c.piece-stretch.result.now c.piece-stretch.ensures.piece c.args.end c.requires.end c.kind.result.now c.kind.ensures.value c.row-row.result c.is_written.result false c.row-row.ensures c.is_written.ensures v.if-is_written.false)
    ] in
    let channels : (row (kind_of (world_in (tape_in c.args.context) c.args.quantum) c.args.end.node.0)).channels ≡ OfBuffer = channels_here c.args.context c.requires.given c.args.quantum c.piece-stretch.result.now c.piece-stretch.ensures.piece c.args.end c.requires.end c.kind.result.now c.kind.ensures.value c.row-row.result (OfBuffer) c.row-row.ensures c.in-OfBuffer.is in
    c.played_channels.ensures
    ∙ ap (λ (y : World). played_channels y c.args.end.node.0 c.args.context.quantum (c.from.result * c.args.quantum)) (sym (is c.args.context c.requires.given c.args.quantum c.piece-stretch.result.now c.piece-stretch.ensures.piece))
    ∙ ap (λ q. played_channels (world_in (tape_in c.args.context) c.args.quantum) c.args.end.node.0 c.args.context.quantum (q * c.args.quantum)) c.from.ensures
    ∙ end_is c.args.context c.args.quantum c.args.end loud false plain OfBuffer channels
