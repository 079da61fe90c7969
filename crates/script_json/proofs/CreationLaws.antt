-- The creations of nodes by their numbers alone: that what is read is a kind in its range, and that a kind is read again from its numbers.
use Rattle.std.proofs.Common.{◌≡◌, ◌∷◌, map, true, false, Some, refl}
use Rattle.std.specs.Prelude.{IsTrue, nat_lt}
use Rattle.std.specs.List.{list_all}
use Rattle.serde_json.specs.Data.{Data}
use Rattle.node_table.specs.Kinds.{IsCreatable, IsOf32Bits}
use Rattle.node_table.specs.declared.equation.Equation.TheVariants.{Filter, Convolution, Processor}
use Rattle.node_table.specs.declared.kinds.Kind.{Kind}
use Rattle.node_table.specs.declared.kinds.Kind.TheVariants as node
use Rattle.script_ast.specs.Entries.{row, creation_word, creation_of, creation_fields, op_named, has_calls}
use Rattle.script_ast.specs.Operations.{is_told_by_kind}
use Rattle.script_ast.specs.declared.entries.Creation.{Creation}
use Rattle.script_ast.specs.declared.entries.Creation.TheVariants as creation
use Rattle.script_ast.specs.declared.entries.Fallback.TheVariants.{Needed}
use Rattle.script_ast.specs.declared.entries.Kind.TheVariants as kind
use Rattle.script_ast.specs.declared.entries.OpName.TheVariants.{Create}
use Rattle.script_ast.specs.declared.fields.Field.TheVariants as field
use Rattle.script_json.proofs.FieldRanges.{fix_in-range, count_in-range, fixes_in-range}
use Rattle.script_json.proofs.NumberRows.{number_rows, AreNumbers, AreRowsOf, AreReadAs, are_apart}
use Rattle.script_json.specs.Creations.{kind_in, numbers_of}

-- ---- reading

-- a creation has a new name and then its numbers, and what it makes is in its range
pub record IsRead (name : Creation) (d : Data) : Type 0 where
  pub alone : has_calls (Create name) ≡ false
  pub entry : creation_fields name ≡ row field.As kind.NewName Needed ∷ number_rows name
  pub makes : creation_of (kind_in name d) ≡ Some name
  pub creatable : IsCreatable (kind_in name d)
  pub range : IsOf32Bits (kind_in name d)

pub is_read : (name : Creation) (d : Data) → IsRead name d
is_read creation.ConstantSource d = record { alone = refl; entry = refl; makes = refl; creatable = (refl, refl); range = fix_in-range _ _ d }
is_read creation.Gain d = record { alone = refl; entry = refl; makes = refl; creatable = (refl, refl); range = fix_in-range _ _ d }
is_read creation.ChannelSplitter d = record { alone = refl; entry = refl; makes = refl; creatable = (refl, refl); range = count_in-range _ _ d }
is_read creation.ChannelMerger d = record { alone = refl; entry = refl; makes = refl; creatable = (refl, refl); range = count_in-range _ _ d }
is_read creation.IIRFilter d = record { alone = refl; entry = refl; makes = refl; creatable = (refl, refl); range = (fixes_in-range field.Feedforward d, fixes_in-range field.Feedback d) }

-- ---- reading again

-- a creation makes the kind, and a call with its name and the kind's numbers is read as the kind
pub record IsWritten (kind : Kind) : Type 0 where
  pub name : Creation
  pub makes : creation_of kind ≡ Some name
  pub named : op_named (creation_word name) ≡ Some (Create name)
  pub ascii : list_all (λ c. nat_lt c 128) (creation_word name) ≡ true
  pub rows : AreRowsOf (number_rows name) (numbers_of kind)
  pub apart : are_apart (field.Op ∷ field.As ∷ map (λ given. given.0) (numbers_of kind)) ≡ true
  pub range : AreNumbers (numbers_of kind)
  pub back : (d : Data) → AreReadAs (creation_fields name) d (numbers_of kind) → kind_in name d ≡ kind

pub is_written : (kind : Kind) → IsTrue (is_told_by_kind kind) → IsOf32Bits kind → IsWritten kind
unfolding op_named
is_written node.Destination told h = cc told
is_written (node.Buffer rate) told h = cc told
is_written (node.Delay longest time capacity) told h = cc told
is_written (node.Shaper curve was_set) told h = cc told
is_written (node.Causal (Convolution response)) told h = cc told
is_written (node.Causal (Processor program)) told h = cc told
is_written (node.Constant offset) told h =
    record { name = creation.ConstantSource; makes = refl; named = refl; ascii = refl; rows = (refl, tt); apart = refl; range = (h, tt); back = λ d is t. node.Constant (is.0 t) }
is_written (node.Gain gain) told h = record { name = creation.Gain; makes = refl; named = refl; ascii = refl; rows = (refl, tt); apart = refl; range = (h, tt); back = λ d is t. node.Gain (is.0 t) }
is_written (node.Splitter outputs) told h =
    record { name = creation.ChannelSplitter; makes = refl; named = refl; ascii = refl; rows = (refl, tt); apart = refl; range = (h, tt); back = λ d is t. node.Splitter (is.0 t) }
is_written (node.Merger inputs) told h =
    record { name = creation.ChannelMerger; makes = refl; named = refl; ascii = refl; rows = (refl, tt); apart = refl; range = (h, tt); back = λ d is t. node.Merger (is.0 t) }
is_written (node.Causal (Filter forward back)) told h = record {
  name = creation.IIRFilter;
  makes = refl;
  named = refl;
  ascii = refl;
  rows = (refl, (refl, tt));
  apart = refl;
  range = (h.0, (h.1, tt));
  back = λ d is t. node.Causal (Filter (is.0 t) (is.1.0 t));
}
