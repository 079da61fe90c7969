-- The parameters that names stand for, and what the operations on them come to.
use Rattle.std.specs.Option.{option_map_or}
use Rattle.std.specs.Prelude.{ℕ, List, [], ◌∷◌, ◌==◌, ◌&&◌, Bool, true, false, if◌then◌else◌, bytes_eq, find, is_some, Option, Some, None, option_map}
use Rattle.wa_base.specs.GraphNames.{param_word}
use Rattle.wa_base.specs.declared.exceptions.Exc.{Exc}
use Rattle.wa_base.specs.declared.exceptions.Exc.TheVariants.{NotSupported, WrongType}
use Rattle.wa_base.specs.declared.features.Feature.{Feature}
use Rattle.wa_base.specs.declared.features.Feature.TheVariants as feature
use Rattle.wa_base.specs.declared.graph_names.NodeId.{NodeId}
use Rattle.wa_base.specs.declared.graph_names.ParamId.{ParamId}
use Rattle.wa_base.specs.declared.graph_names.ParamName.{ParamName}
use Rattle.wa_base.specs.declared.graph_names.ParamName.TheVariants.{Offset, Gain, DelayTime, PlaybackRate, Detune}
use Rattle.node_table.specs.Kinds.{row}
use Rattle.node_table.specs.declared.kinds.Kind.{Kind}
use Rattle.node_table.specs.declared.rows.Plays.{Plays}
use Rattle.node_table.specs.declared.rows.Plays.TheVariants as plays
use Rattle.conn_graph.specs.Edges.{same_name}
use Rattle.conn_graph.specs.declared.edges.Edge.{Edge}
use Rattle.conn_graph.specs.declared.edges.Form.{Form}
use Rattle.conn_graph.specs.declared.edges.Form.TheVariants as form
use Rattle.conn_graph.specs.declared.edges.Target.TheVariants.{Param}
use Rattle.meaning.specs.World.{kind_of, param_id}
use Rattle.meaning.specs.declared.automation.ParamEdit.{ParamEdit}
use Rattle.meaning.specs.declared.change.Edit.TheVariants as edit
use Rattle.control_side.specs.declared.decide.Decided.{Decided}
use Rattle.control_side.specs.Deciding.{refused, edits, node_named}
use Rattle.control_side.specs.Machine.{Machine}

-- ---- the parameters of a kind

-- the feature for which a parameter is left out of the profile
abbrev pub left_out : ParamName → Option Feature
left_out PlaybackRate = Some feature.PlaybackRateAutomation
left_out Detune = Some feature.Detune
left_out other = None

abbrev pub plays_buffer : Option Plays → Bool
plays_buffer None = false
plays_buffer (Some plays.Value) = false
plays_buffer (Some (plays.Content rate)) = true

-- whether a kind has a parameter: those of a buffer source are left out
abbrev pub has_param : Kind → ParamName → Bool
has_param kind name = option_map_or (λ p. same_name p.name name) (row kind).param (plays_buffer (row kind).plays && is_some (left_out name))

abbrev pub param_names : List ParamName
param_names = Offset ∷ Gain ∷ DelayTime ∷ PlaybackRate ∷ Detune ∷ []

-- the first of these parameters that a text names
abbrev pub first_param : List ℕ → List ParamName → Option ParamName
first_param word names = find (λ name. bytes_eq (param_word name) word) names

-- the parameter that a text names
unfoldable pub param_named : List ℕ → Option ParamName
param_named word = first_param word param_names

-- and where a kind has it
abbrev pub param_of_kind : Kind → Option ParamName → Option ParamName
param_of_kind of None = None
param_of_kind of (Some name) = if has_param of name then Some name else None

-- ---- what names stand for

-- the parameter of a node that a text names
abbrev pub param_at : Machine → Option NodeId → List ℕ → Option ParamId
param_at machine None word = None
param_at machine (Some node) word = option_map (param_id node.0) (param_of_kind (kind_of machine.world node.0) (param_named word))

-- why no operation is done on a parameter with a name
abbrev pub name_refusal : ParamName → Option Exc
name_refusal name = option_map (λ f. NotSupported (Some f)) (left_out name)

-- why nothing leads from a node to a parameter: from the destination nothing leads
abbrev pub lead_refusal : NodeId → ParamId → Option Exc
lead_refusal from to = if from.0 == 0 then Some (NotSupported (Some feature.DestinationOutput)) else name_refusal to.name

-- ---- what an operation comes to

abbrev pub unless_refused : Option Exc → Decided → Decided
unless_refused None decided = decided
unless_refused (Some exception) decided = refused exception

-- what is done on a parameter, which is to be there
abbrev pub on_param : Option ParamId → (ParamId → Decided) → Decided
on_param None what = refused WrongType
on_param (Some id) what = unless_refused (name_refusal id.name) (what id)

-- it edits a parameter
abbrev pub edits_param : Machine → List ℕ → List ℕ → ParamEdit → Decided
edits_param machine node word e = on_param (param_at machine (node_named machine node) word) (λ id. edits machine (edit.Param id e))

-- something leads from a node to a parameter, which both are to be there
abbrev pub leads : Option NodeId → Option ParamId → (NodeId → ParamId → Decided) → Decided
leads None to what = refused WrongType
leads (Some from) None what = refused WrongType
leads (Some from) (Some to) what = unless_refused (lead_refusal from to) (what from to)

abbrev pub edge_to_param : ℕ → NodeId → ParamId → Edge
edge_to_param output from to = record { from = from; output = output; to = Param to }

-- the form of a disconnect from a parameter
abbrev pub form_of_param : Option ℕ → ParamId → Form
form_of_param None to = form.Param to
form_of_param (Some output) to = form.ParamOutput to output
