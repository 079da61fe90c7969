-- What holds of the ports of every node, and how the inputs of splitters and mergers are mixed.
use Rattle.std.proofs.Common.{ℕ, zero, suc, ◌≡◌, ◌<◌, ◌≤◌, length, List, true, false, refl, ◌∙◌, ap, arith}
use Rattle.wa_base.specs.Contexts.{quantum_of}
use Rattle.wa_base.specs.declared.graph_names.Mode.{Mode}
use Rattle.wa_base.specs.declared.graph_names.Mode.TheVariants.{Explicit}
use Rattle.mix_rules.specs.Counts.{input_count}
use Rattle.node_table.specs.Kinds.{row, outputs, is_destination}
use Rattle.node_table.specs.Nodes.{IsCreated}
use Rattle.node_table.specs.declared.kinds.Kind.{Kind}
use Rattle.node_table.specs.declared.kinds.Kind.TheVariants.{Splitter, Merger}
use Rattle.meaning.specs.declared.world.World.{World}
use Rattle.meaning.specs.World.{sounding, node_at, kind_of}
use Rattle.meaning.specs.Validity.{IsValid}
use Rattle.meaning.specs.Counts.{Counts, input_channels}
use Rattle.meaning.proofs.NodeKinds.{row_there}

-- a quantum has frames
pub some_frames : (w : World) → IsValid w → 0 < quantum_of w.spec
some_frames w valid = let low = valid.spec.quantum.low in omega (arith, low)

-- no node has more than 32 outputs
pub outputs_few : (w : World) → IsValid w → (i : ℕ) → outputs (kind_of w i) ≤ 32
outputs_few w valid i = (row_there w valid i).outputs

-- a node whose count and mode are fixed, and which is no destination
created_at : (w : World) → IsValid w → (i : ℕ) → i < length w.nodes → is_destination (kind_of w i) ≡ false → IsCreated (node_at w i)
created_at w valid zero there other = let one : is_destination (kind_of w 0) ≡ true = ap is_destination valid.nodes.first.kind in absurd cc
created_at w valid (suc i) there other = valid.nodes.others (suc i) (omega arith) there

explicit_count : (mode : Mode) (count first : ℕ) (counts : List ℕ) → mode ≡ Explicit → count ≡ first → input_count mode count counts ≡ first
explicit_count mode count first counts explicit same = rw explicit same

module _ (w : World) (valid : IsValid w) (i : ℕ) (there : i < length w.nodes) (counts : Counts) (ports : ℕ) where
  -- each input has the count of the node's creation
  fixed_channels : (kind : Kind) → kind_of w i ≡ kind → is_destination kind ≡ false → (row kind).fixed.count ≡ true → (row kind).fixed.mode ≡ true → (row kind).mode ≡ Explicit
      → (input : ℕ) → input_channels (sounding w) counts i input ≡ (row kind).count
  fixed_channels kind is other count mode explicit input =
      let node : IsCreated (node_at w i) = created_at w valid i there (ap is_destination is ∙ other) in
      explicit_count (node_at w i).attrs.mode (node_at w i).attrs.count (row kind).count _
      (node.fixed.mode (ap (λ k. (row k).fixed.mode) is ∙ mode) ∙ ap (λ k. (row k).mode) is ∙ explicit)
      (node.fixed.count (ap (λ k. (row k).fixed.count) is ∙ count) ∙ ap (λ k. (row k).count) is)

  pub splitter_channels : kind_of w i ≡ Splitter ports → input_channels (sounding w) counts i 0 ≡ ports
  splitter_channels is = fixed_channels (Splitter ports) is refl refl refl refl 0

  pub merger_channels : kind_of w i ≡ Merger ports → (input : ℕ) → input_channels (sounding w) counts i input ≡ 1
  merger_channels is input = fixed_channels (Merger ports) is refl refl refl refl input
