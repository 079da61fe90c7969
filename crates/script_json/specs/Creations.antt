-- The creations of nodes by their numbers alone: which kind a call makes, and which numbers a kind has.
use Rattle.std.specs.Prelude.{List, [], ◌∷◌}
use Rattle.serde_json.specs.Data.{Data}
use Rattle.node_table.specs.declared.equation.Equation.TheVariants.{Filter}
use Rattle.node_table.specs.declared.kinds.Kind.{Kind}
use Rattle.node_table.specs.declared.kinds.Kind.TheVariants as node
use Rattle.script_ast.specs.Entries as entry
use Rattle.script_ast.specs.declared.entries.Creation.{Creation}
use Rattle.script_ast.specs.declared.entries.Creation.TheVariants as creation
use Rattle.script_ast.specs.declared.fields.Field.{Field}
use Rattle.script_ast.specs.declared.fields.Field.TheVariants as field
use Rattle.script_fields.specs.Fields.{fix_in, count_in, fixes_in}
use Rattle.script_json.specs.Numbers.{Number}
use Rattle.script_json.specs.Numbers as number

-- the kind of the node that a call makes
abbrev pub kind_in : Creation → Data → Kind
kind_in creation.ConstantSource d = node.Constant (fix_in entry.create_constant_source field.Offset d)
kind_in creation.Gain d = node.Gain (fix_in entry.create_gain field.Gain d)
kind_in creation.ChannelSplitter d = node.Splitter (count_in entry.create_channel_splitter field.NumberOfOutputs d)
kind_in creation.ChannelMerger d = node.Merger (count_in entry.create_channel_merger field.NumberOfInputs d)
kind_in creation.IIRFilter d = node.Causal (Filter (fixes_in field.Feedforward d) (fixes_in field.Feedback d))

-- the numbers of a kind that is made so, with their fields in the order in which these are read; none of the other kinds
abbrev pub numbers_of : Kind → List (Field × Number)
numbers_of (node.Constant offset) = (field.Offset, number.fix offset) ∷ []
numbers_of (node.Gain gain) = (field.Gain, number.fix gain) ∷ []
numbers_of (node.Splitter outputs) = (field.NumberOfOutputs, number.count outputs) ∷ []
numbers_of (node.Merger inputs) = (field.NumberOfInputs, number.count inputs) ∷ []
numbers_of (node.Causal (Filter forward back)) = (field.Feedforward, number.fixes forward) ∷ (field.Feedback, number.fixes back) ∷ []
numbers_of other = []
