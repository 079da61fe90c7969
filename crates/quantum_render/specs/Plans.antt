-- What a world is rendered by: an order of its ends, the connections to each node, and the channels of each end.
use Rattle.std.specs.Prelude.{ℕ, ℤ, ◌-◌, ◌*◌, ◌/◌, ◌^◌, ◌≤◌, Option, Some, Bool, false, not, ◌&&◌, ◌⊎◌, ◌≡◌, ◌<◌, List, [], ◌∷◌, ◌++◌, length, slice_index_or, true}
use Rattle.wa_base.specs.Contexts.{quantum_of}
use Rattle.wa_base.specs.declared.graph_names.End.{End}
use Rattle.wa_base.specs.declared.graph_names.Tie.{Tie}
use Rattle.law_base.specs.Members.{IsIn}
use Rattle.conn_graph.specs.declared.edges.Edge.{Edge}
use Rattle.mix_rules.specs.Counts.{greatest}
use Rattle.node_table.specs.declared.kinds.Kind.TheVariants.{Delay}
use Rattle.node_table.specs.declared.rows.Channels.{Channels}
use Rattle.node_table.specs.declared.rows.Channels.TheVariants.{Always, OfInput, OfBuffer}
use Rattle.node_table.specs.Kinds.{row as row_of, is_delay_kind}
use Rattle.conn_graph.specs.Ends.{writer_of, ends, is_delay, in_cycle, muted as is_muted}
use Rattle.conn_graph.specs.Graph.{Connections}
use Rattle.conn_graph.specs.Orders.{IsLegalOrder}
use Rattle.conn_graph.specs.Walks.{GraphView}
use Rattle.cycle_order.specs.Choices.{chosen_order}
use Rattle.meaning.specs.declared.world.World.{World}
use Rattle.meaning.specs.Lists.{since}
use Rattle.meaning.specs.World.{sounding, node_at, kind_of}
use Rattle.meaning.specs.Counts.{Counts, input_channels, count_by_kind, count}
use Rattle.delay_bank.specs.Kept.{DelayView}
use Rattle.delay_bank.specs.Banks.{BankView as DelayBank, delay_at}
use Rattle.quantum_blocks.specs.Blocks.{counts_in}
use Rattle.quantum_blocks.specs.Connections.{into as leads_into}

-- an order of the unmuted ends, the muted ends, and for each node the connections that lead to it
pub record IsPlanOf (g : Connections) (order : List End) (mute : List End) (sources : List (List Edge)) : Type 0 where
  pub legal : IsLegalOrder g order
  pub all : (d : End) → IsIn d (ends g) → is_muted g d ≡ true → IsIn d mute
  pub only : (d : End) → IsIn d mute → IsIn d (ends g) × (is_muted g d ≡ true)
  pub nodes : length sources ≡ length g.nodes
  pub each : (n : ℕ) → n < length sources → slice_index_or sources n [] ≡ leads_into g n

-- For each node there is a mark, which a delay has where it is in a cycle, and nothing else has.
pub record AreCycles (g : Connections) (marks : List Bool) : Type 0 where
  pub count : length marks ≡ length g.nodes
  pub marked : (n : ℕ) → n < length g.nodes → slice_index_or marks n false ≡ (is_delay g n && in_cycle g n)

-- what contracts see of a plan: of the graph with how many edits it was made, if of any, and what it says of that graph
pub record PlanView : Type 0 where
  pub planned : Option ℕ
  pub tie : Tie
  pub order : List End
  pub muted : List End
  pub into : List (List Edge)
  pub cycles : List Bool
  -- the ends whose channels seem to hang on the time: nothing is promised of them, and each use looks whether the others are steady
  pub timed : List End

-- the plan of a graph, by the plan's tie
pub record IsPlanned (g : Connections) (kept : PlanView) : Type 0 where
  pub plan : IsPlanOf g kept.order kept.muted kept.into
  pub cycles : AreCycles g kept.cycles
  pub order : kept.order ≡ chosen_order g kept.tie

-- A graph is unedited since a plan was made where it has as many edits as the plan's graph had, and can count more.
abbrev pub IsUnedited : Option ℕ → GraphView → Type 0
IsUnedited planned g = (planned ≡ Some g.edits) × (g.edits < 2 ^ 64 - 1)

-- the plan of a world is that of its graph
abbrev pub IsPlan : World → List End → List End → List (List Edge) → Type 0
IsPlan w order mute sources = IsPlanOf w.graph.value order mute sources

-- the most channels that something had in a quantum of q frames from a birth up to quantum j, where its counts are given
pub record HasMost (q : ℕ) (found : Option DelayView) (birth j : ℕ) (at : ℕ → ℕ) : Type 0 where
  pub delay : DelayView
  pub there : found ≡ Some delay
  pub lived : birth / q ≤ j
  pub most : delay.most ≡ greatest (since at (birth / q) (j - birth / q))

-- so it is of the writer of each delay
abbrev pub AreMost : DelayBank → World → ℕ → (ℕ → Counts) → Type 0
AreMost bank w j earlier = (n : ℕ) (longest time : ℤ) (capacity : ℕ) → n < length w.nodes → kind_of w n ≡ Delay longest time capacity → HasMost (quantum_of w.spec) (delay_at bank n) (node_at w n).attrs.birth j (λ k. earlier k (writer_of n))

-- the channels of each end are those of the quantum after a tape
abbrev pub AreCounted : ℕ → World → List ℕ → List World → Type 0
AreCounted q w counts tape = (d : End) → IsIn d (ends w.graph.value) → counts_in counts d ≡ count q (tape ++ w ∷ []) (length tape) d

-- ---- counts that hold from quantum to quantum

-- an end has the channels that its kind asks for in the quantum that begins at a frame
abbrev pub AsCounted : DelayBank → World → ℕ → List ℕ → End → Type 0
AsCounted bank w first counts d = (j : ℕ) (earlier : ℕ → Counts) → first ≡ quantum_of w.spec * j → AreMost bank w j earlier → counts_in counts d ≡ count_by_kind (quantum_of w.spec) (sounding w) j earlier (counts_in counts) (kind_of w d.node.0) d

-- an end has the channels that its row says, where they hang on this quantum alone
abbrev pub HasChannels : World → List ℕ → Channels → End → Type 0
HasChannels w counts (Always channels) d = counts_in counts d ≡ channels
HasChannels w counts OfInput d = counts_in counts d ≡ input_channels w (counts_in counts) d.node.0 0
HasChannels w counts OfBuffer d = ⊥

-- so it is of an end that is no reader of a delay and plays no buffer
pub record IsSteady (w : World) (counts : List ℕ) (d : End) : Type 0 where
  pub plain : (not d.writer ≡ false) ⊎ (is_delay_kind (kind_of w d.node.0) ≡ false)
  pub channels : Channels
  pub row : (row_of (kind_of w d.node.0)).channels ≡ channels
  pub counted : HasChannels w counts channels d

-- Of a plan's ends the muted ones have one channel, and each of the others is steady or one of those whose channels hang on the time.
pub record AreSteady (w : World) (order mute timed : List End) (counts : List ℕ) : Type 0 where
  pub one : (d : End) → IsIn d mute → counts_in counts d ≡ 1
  pub there : (d : End) → IsIn d timed → IsIn d (ends w.graph.value)
  pub steady : (d : End) → IsIn d order → IsIn d timed ⊎ IsSteady w counts d
