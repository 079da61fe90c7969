-- The nodes of a graph, in order of creation.
use Rattle.std.specs.Prelude.{ℕ, ℤ, zero, suc, ◌+◌, ◌≡◌, ◌≤◌, ◌==◌, ◌&&◌, not, nat_le, List, [], ◌∷◌, length, drop, slice_get, nat_lt, All, Bool, true, false, if◌then◌else◌, Option, Some, None, IfSome, option_map, option_and_then}
use Rattle.std.specs.List.{sum_by}
use Rattle.std.specs.Option.{option_or}
use Rattle.wa_base.specs.declared.contexts.ContextSpec.{ContextSpec}
use Rattle.wa_base.specs.declared.exceptions.Exc.{Exc}
use Rattle.wa_base.specs.declared.exceptions.Exc.TheVariants.{NotSupported, InvalidState}
use Rattle.wa_base.specs.declared.features.Feature.TheVariants.{NodeLimit, DelayLimit}
use Rattle.wa_base.specs.declared.graph_names.Mode.{Mode}
use Rattle.wa_base.specs.declared.graph_names.Mode.TheVariants.{Max, Explicit}
use Rattle.wa_base.specs.declared.graph_names.Interp.{Interp}
use Rattle.wa_base.specs.declared.graph_names.Interp.TheVariants.{Speakers}
use Rattle.node_table.specs.declared.kinds.Kind.{Kind}
use Rattle.node_table.specs.declared.kinds.Kind.TheVariants.{Destination}
use Rattle.node_table.specs.declared.nodes.Attrs.{Attrs}
use Rattle.node_table.specs.declared.nodes.Node.{Node}
use Rattle.node_table.specs.Rows.{most_channels}
use Rattle.node_table.specs.Kinds.{row, is_destination, same_mode, same_interp, capacity_of, range_refusal, IsInLimits, with_curve, set_curve_refusal}

-- the destination of a context
abbrev pub destination_of : ContextSpec → Node
destination_of spec = record { kind = Destination; attrs = record { count = spec.channels; mode = Explicit; interp = Speakers; birth = 0 } }

-- the attributes with which a node of a kind is created at a frame
abbrev pub first_attrs : Kind → ℕ → Attrs
first_attrs kind birth = record { count = (row kind).count; mode = (row kind).mode; interp = (row kind).interp; birth = birth }

-- a node that is created at a frame
abbrev pub node_of : Kind → ℕ → Node
node_of kind birth = record { kind = kind; attrs = first_attrs kind birth }

-- a graph has at most 1,024 nodes, the destination among them
abbrev pub has_room : List Node → Bool
has_room nodes = nat_lt (length nodes) 1024

abbrev pub node_limit_refusal : List Node → Option Exc
node_limit_refusal nodes = if has_room nodes then None else Some (NotSupported (Some NodeLimit))

-- how many frames the delays of a graph keep together
abbrev pub capacities : List Node → ℕ
capacities nodes = sum_by (λ node. capacity_of node.kind) nodes

-- with those of another node they keep at most 4,194,304
abbrev pub delay_limit_refusal : List Node → ℕ → Option Exc
delay_limit_refusal nodes frames = if nat_le (capacities nodes + frames) 4194304 then None else Some (NotSupported (Some DelayLimit))

-- why a graph has no room for a node that keeps so many frames of what it wrote
abbrev pub limit_refusal : List Node → ℕ → Option Exc
limit_refusal nodes frames = option_or (node_limit_refusal nodes) (delay_limit_refusal nodes frames)

-- the exception with which the creation of a node is refused, if it is: what it would be created with comes first, and then the limits of the graph
abbrev pub creation_refusal : List Node → Kind → Option Exc
creation_refusal nodes kind = option_or (range_refusal kind) (limit_refusal nodes (capacity_of kind))

-- what a node is, if it is there
abbrev pub kind_at : List Node → ℕ → Option Kind
kind_at nodes node = option_map (λ n. n.kind) (slice_get nodes node)

-- the attributes of a node, if it is there
abbrev pub attrs_at : List Node → ℕ → Option Attrs
attrs_at nodes node = option_map (λ n. n.attrs) (slice_get nodes node)

-- ---- attributes that are set

-- a node with another channelCount, another channelCountMode, another channelInterpretation
abbrev pub with_count : ℕ → Node → Node
with_count count node = record node { attrs = record node.attrs { count = count } }

abbrev pub with_mode : Mode → Node → Node
with_mode mode node = record node { attrs = record node.attrs { mode = mode } }

abbrev pub with_interp : Interp → Node → Node
with_interp interp node = record node { attrs = record node.attrs { interp = interp } }

-- a change of what is fixed is refused; what is there already may be set
abbrev pub fixed_refusal : Bool → Bool → Option Exc
fixed_refusal is_fixed is_same = if is_fixed && not is_same then Some InvalidState else None

-- why a channelCount is refused: it is not from 1 to the most that the node may have, or that of the node is fixed
abbrev pub count_refusal : ℕ → Node → Option Exc
count_refusal count node =
    if not (nat_le 1 count && nat_le count (most_channels (row node.kind))) then Some (NotSupported None) else fixed_refusal (row node.kind).fixed.count (node.attrs.count == count)

-- why a channelCountMode is refused: it is `max`, and the node has at most two channels, or that of the node is fixed
abbrev pub mode_refusal : Mode → Node → Option Exc
mode_refusal mode node =
    if (row node.kind).at_most_stereo && same_mode mode Max then Some (NotSupported None) else fixed_refusal (row node.kind).fixed.mode (same_mode node.attrs.mode mode)

abbrev pub interp_refusal : Interp → Node → Option Exc
interp_refusal interp node = fixed_refusal (row node.kind).fixed.interp (same_interp node.attrs.interp interp)

-- a shaper with another curve, and why it is refused
abbrev pub node_with_curve : Option (List ℤ) → Node → Node
node_with_curve curve node = record node { kind = with_curve curve node.kind }

abbrev pub curve_refusal : Option (List ℤ) → Node → Option Exc
curve_refusal curve node = set_curve_refusal curve node.kind

-- the list with one node changed, which is there
abbrev pub changed_at : ℕ → (Node → Node) → List Node → List Node
changed_at node change [] = []
changed_at zero change (n ∷ ns) = change n ∷ ns
changed_at (suc node) change (n ∷ ns) = n ∷ changed_at node change ns

-- what is refused of a node of the list
abbrev pub refusal_at : List Node → ℕ → (Node → Option Exc) → Option Exc
refusal_at nodes node others = option_and_then others (slice_get nodes node)

-- ---- what holds of every list of nodes

-- a node has these attributes, as far as those of its kind are fixed
pub record KeepsFixed (first : Attrs) (node : Node) : Type 0 where
  pub count : (row node.kind).fixed.count ≡ true → node.attrs.count ≡ first.count
  pub mode : (row node.kind).fixed.mode ≡ true → node.attrs.mode ≡ first.mode
  pub interp : (row node.kind).fixed.interp ≡ true → node.attrs.interp ≡ first.interp

-- the destination of some context
pub record IsFirst (node : Node) : Type 0 where
  pub kind : node.kind ≡ Destination
  pub count_low : 1 ≤ node.attrs.count
  pub count_high : node.attrs.count ≤ 32
  pub mode : node.attrs.mode ≡ Explicit
  pub birth : node.attrs.birth ≡ 0

-- a node that was created: what it was created with is not refused, and what is fixed is as it was then
pub record IsCreated (node : Node) : Type 0 where
  pub kind : is_destination node.kind ≡ false
  pub limits : IsInLimits node.kind
  pub count_low : 1 ≤ node.attrs.count
  pub count_high : node.attrs.count ≤ 32
  pub fixed : KeepsFixed (first_attrs node.kind node.attrs.birth) node

-- the destination, and then the nodes that were created
pub record AreNodes (nodes : List Node) : Type 0 where
  pub some : 1 ≤ length nodes
  pub few : length nodes ≤ 1024
  pub kept : capacities nodes ≤ 4194304
  pub first : IfSome (slice_get nodes 0) IsFirst
  pub others : All IsCreated (drop 1 nodes)
