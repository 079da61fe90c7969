-- The kind that the table of nodes gives is the world's.
use Rattle.std.proofs.Common.{ℕ, ◌≡◌, ◌<◌, length, Some, sym, ◌∙◌, ap, slice_index_or}
use Rattle.std.specs.Prelude.{option_map, unwrap_or}
use Rattle.std.proofs.lemmas.Option.{slice_get-get_or}
use Rattle.node_table.specs.Nodes.{kind_at}
use Rattle.node_table.specs.declared.kinds.Kind.{Kind}
use Rattle.node_table.specs.declared.nodes.Node.{Node}
use Rattle.meaning.specs.declared.world.World.{World}
use Rattle.meaning.specs.World.{no_node, kind_of}

pub kind_is : (w : World) (i : ℕ) (kind : Kind) → i < length w.nodes → kind_at w.nodes i ≡ Some kind → kind_of w i ≡ kind
kind_is w i kind l e =
    let found : Some (slice_index_or w.nodes i no_node).kind ≡ Some kind = sym (ap (option_map (λ (n : Node). n.kind)) (slice_get-get_or w.nodes i no_node l)) ∙ e in
    ap (λ o. unwrap_or o kind) found
