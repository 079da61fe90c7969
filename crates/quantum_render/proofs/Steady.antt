-- Counts that hold from quantum to quantum.
use Rattle.std.proofs.Common.{ℕ, zero, suc, ◌≡◌, ◌+◌, ◌*◌, ◌<◌, ◌≤◌, length, List, [], slice_index_or, inl, inr, sym, ◌∙◌, subst, arith, false}
use Rattle.wa_base.specs.Contexts.{quantum_of}
use Rattle.wa_base.specs.declared.graph_names.End.{End}
use Rattle.law_base.specs.Members.{IsIn}
use Rattle.node_table.specs.declared.rows.Channels.{Channels}
use Rattle.node_table.specs.declared.rows.Channels.TheVariants.{Always, OfInput, OfBuffer}
use Rattle.node_table.specs.Kinds.{row}
use Rattle.conn_graph.specs.declared.edges.Edge.{Edge}
use Rattle.conn_graph.specs.Ends.{ends, muted}
use Rattle.conn_graph.specs.Graph.{Connections}
use Rattle.conn_graph.specs.Orders.{IsLegalOrder}
use Rattle.conn_graph.proofs.OrderLaws.{legal_order_is}
use Rattle.meaning.specs.declared.world.World.{World}
use Rattle.meaning.specs.World.{sounding, kind_of}
use Rattle.meaning.specs.Validity.{IsValid}
use Rattle.meaning.specs.Counts.{count_by_kind}
use Rattle.meaning.proofs.Joined.{joined}
use Rattle.meaning.proofs.QuantumLaws.{muted_one}
use Rattle.delay_bank.specs.Banks.{BankView as DelayBank}
use Rattle.quantum_blocks.specs.Blocks.{counts_in}
use Rattle.quantum_blocks.specs.Fits.{AreInRange}
use Rattle.quantum_blocks.proofs.Orders.{no_end}
use Rattle.quantum_blocks.proofs.Sources.{IsIn-get_or}
use Rattle.quantum_render.specs.Listening.{HasKept}
use Rattle.quantum_render.specs.Plans.{IsPlan, AreCounted, AsCounted, HasChannels, IsSteady, AreSteady}
use Rattle.quantum_render.proofs.CountPass.{Counting, counting_holds, counting_ends}
use Rattle.quantum_render.proofs.Ports.{some_frames}
use Rattle.quantum_render.proofs.RowCounts.{counted_by_row}

-- each end of a plan's order is one of the graph's
pub order_there : (g : Connections) (order : List End) → IsLegalOrder g order → (i : ℕ) → i < length order → IsIn (slice_index_or order i no_end) (ends g)
order_there g order legal i l =
    let ordered = (legal_order_is g order).0 legal in
    ((ordered.all (slice_index_or order i no_end)).0 (IsIn-get_or order i no_end l)).0

-- and is not muted
pub order_unmuted : (g : Connections) (order : List End) → IsLegalOrder g order → (i : ℕ) → i < length order → muted g (slice_index_or order i no_end) ≡ false
order_unmuted g order legal i l =
    let ordered = (legal_order_is g order).0 legal in
    ((ordered.all (slice_index_or order i no_end)).0 (IsIn-get_or order i no_end l)).1

-- a steady end has the channels that its kind asks for in every quantum
pub steady_counted : (bank : DelayBank) (w : World) (first : ℕ) (counts : List ℕ) (d : End) → IsSteady w counts d → AsCounted bank w first counts d
steady_counted bank w first counts d is j earlier begins most = by_channels is.channels is.row is.counted
  where
    by_channels : (c : Channels) → (row (kind_of w d.node.0)).channels ≡ c → HasChannels w counts c d
        → counts_in counts d ≡ count_by_kind (quantum_of w.spec) (sounding w) j earlier (counts_in counts) (kind_of w d.node.0) d
    by_channels (Always channels) own has = has ∙ counted_by_row (quantum_of w.spec) (sounding w) w j earlier (counts_in counts) d (Always channels) own is.plain
    by_channels OfInput own has = has ∙ counted_by_row (quantum_of w.spec) (sounding w) w j earlier (counts_in counts) d OfInput own is.plain
    by_channels OfBuffer own has = absurd has

-- counts that each unmuted end has by its kind are those of the quantum after a tape
pub all_counted : (w : World) → IsValid w → (bank : DelayBank) (first : ℕ) → bank.quantum ≡ quantum_of w.spec → (order mute : List End) (sources : List (List Edge)) → IsPlan w order mute sources → (counts : List ℕ) → AreInRange w counts
    → ((d : End) → IsIn d mute → counts_in counts d ≡ 1) → ((d : End) → IsIn d order → AsCounted bank w first counts d)
    → (tape : List World) → first ≡ quantum_of w.spec * length tape → HasKept bank w tape first → AreCounted (quantum_of w.spec) w counts tape
all_counted w valid bank first same order mute sources plan counts range one each = counting_ends w bank first order (length order) counts (along (length order) (omega arith)) (omega arith)
  where
    along : (i : ℕ) → i ≤ length order → Counting w bank first order i counts
    along zero l = record {
      done = [];
      legal = plan.legal;
      range = range;
      known = λ tape time kept d in_d known. elim known [
        | inl m ↦ one d (plan.all d in_d m) ∙ sym (muted_one (quantum_of w.spec) (some_frames w valid) w (joined w valid) tape d in_d m)
        | inr none ↦ absurd none
      ];
    }
    along (suc i) l =
        let low : i < length order = omega arith in
        subst (λ k. Counting w bank first order k counts) (let e : i + 1 ≡ suc i = omega arith in e)
        (counting_holds w valid bank first order i counts (along i (omega arith)) low same (each (slice_index_or order i no_end) (IsIn-get_or order i no_end low)))

-- so it is where the ends are steady, but for some that have them too
pub steady_all_counted : (w : World) → IsValid w → (bank : DelayBank) (first : ℕ) → bank.quantum ≡ quantum_of w.spec → (order mute timed : List End) (sources : List (List Edge)) → IsPlan w order mute sources → (counts : List ℕ) → AreInRange w counts
    → AreSteady w order mute timed counts → ((d : End) → IsIn d timed → AsCounted bank w first counts d)
    → (tape : List World) → first ≡ quantum_of w.spec * length tape → HasKept bank w tape first → AreCounted (quantum_of w.spec) w counts tape
steady_all_counted w valid bank first same order mute timed sources plan counts range steady each = all_counted w valid bank first same order mute sources plan counts range steady.one (λ d is. elim (steady.steady d is) [
  | inl hangs ↦ each d hangs
  | inr own ↦ steady_counted bank w first counts d own
])
