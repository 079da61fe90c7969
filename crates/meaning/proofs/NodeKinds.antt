-- What the table of nodes says of a world's nodes.
use Rattle.std.proofs.Common.{ℕ, zero, suc, ◌≡◌, ◌<◌, length, List, Some, inl, inr, refl, sym, ◌∙◌, ap, arith, subst}
use Rattle.std.specs.Prelude.{option_map, unwrap_or, slice_get, slice_index_or}
use Rattle.std.proofs.lemmas.Bool.{cases_lt}
use Rattle.std.proofs.lemmas.List.{get_or_past}
use Rattle.std.proofs.lemmas.Option.{slice_get-get_or}
use Rattle.node_table.specs.Kinds.{row, IsInLimits}
use Rattle.node_table.proofs.NodeLists.{IsRow, is_row}
use Rattle.node_table.specs.Nodes.{attrs_at, kind_at}
use Rattle.node_table.specs.declared.kinds.Kind.{Kind}
use Rattle.node_table.specs.declared.nodes.Attrs.{Attrs}
use Rattle.node_table.specs.declared.nodes.Node.{Node}
use Rattle.meaning.specs.declared.world.World.{World}
use Rattle.meaning.specs.World.{no_node, node_at, kind_of}
use Rattle.meaning.specs.Validity.{IsValid}

mapped_at : {X Y : Type 0} (f : X → Y) (xs : List X) (i : ℕ) (d : X) (y : Y) → i < length xs → option_map f (slice_get xs i) ≡ Some y → f (slice_index_or xs i d) ≡ y
mapped_at f xs i d y l e =
    let found : Some (f (slice_index_or xs i d)) ≡ Some y = sym (ap (option_map f) (slice_get-get_or xs i d l)) ∙ e in
    ap (λ o. unwrap_or o y) found

-- the attributes and the kind that the table of nodes gives are the world's
pub attrs_are : (w : World) (i : ℕ) (attrs : Attrs) → i < length w.nodes → attrs_at w.nodes i ≡ Some attrs → (node_at w i).attrs ≡ attrs
attrs_are w i attrs l e = mapped_at (λ (n : Node). n.attrs) w.nodes i no_node attrs l e

pub kind_is : (w : World) (i : ℕ) (kind : Kind) → i < length w.nodes → kind_at w.nodes i ≡ Some kind → kind_of w i ≡ kind
kind_is w i kind l e = mapped_at (λ (n : Node). n.kind) w.nodes i no_node kind l e

-- what a node was created with is not refused
pub limits_there : (w : World) → IsValid w → (i : ℕ) → IsInLimits (kind_of w i)
limits_there w valid zero = subst IsInLimits (sym valid.nodes.first.kind) refl
limits_there w valid (suc i) = elim (cases_lt (suc i) (length w.nodes)) [
  | inl there ↦ (valid.nodes.others (suc i) (omega arith) there).limits
  | inr past ↦ subst (λ (n : Node). IsInLimits n.kind) (sym (get_or_past w.nodes (suc i) no_node past)) refl
]

-- and so its row has what a row has
pub row_there : (w : World) → IsValid w → (i : ℕ) → IsRow (row (kind_of w i))
row_there w valid i = is_row (kind_of w i) (limits_there w valid i)
