-- What a world and the one without the nodes that are not kept have in common.
use Rattle.std.proofs.Common.{ℕ, ◌≡◌, true, length, List, [], ◌∷◌, ◌++◌, slice_index_or, pos, Option, Some, None, option_map, refl, sym, ◌∙◌, ap, subst}
use Rattle.std.specs.Option.{option_map_or}
use Rattle.std.specs.Prelude.{◌&&◌, ◌==◌, find}
use Rattle.wa_base.specs.declared.contexts.ContextSpec.{ContextSpec}
use Rattle.wa_base.specs.declared.graph_names.BufId.{BufId}
use Rattle.wa_base.specs.declared.graph_names.ParamId.{ParamId}
use Rattle.law_base.proofs.Tests.{and_parts}
use Rattle.buffer_store.specs.Buffers.{channel_of}
use Rattle.node_table.specs.declared.nodes.Node.{Node}
use Rattle.node_table.specs.Nodes.{destination_of}
use Rattle.conn_graph.specs.Edges.{same_param, same_name}
use Rattle.conn_graph.specs.Walks.{GraphView}
use Rattle.conn_graph.proofs.EndLaws.{nat_same}
use Rattle.meaning.specs.declared.world.World.{World}
use Rattle.meaning.specs.declared.params.Param.{Param}
use Rattle.meaning.specs.declared.scheds.Play.{Play}
use Rattle.meaning.specs.Lists.{Listed}
use Rattle.meaning.specs.World.{no_node, bare, node_at, kind_of, find_param, find_play, slot_of, frames_in, channels_in, samples_in}
use Rattle.meaning.specs.Validity.{ports_of}
use Rattle.meaning.specs.Worlds.{first_world}
use Rattle.prune.proofs.Flags.{Flags, is_kept, part_number, same_part}
use Rattle.prune.proofs.Filtered.{kept_of, length-kept_of, kept_of_kept, at_part, at_first, find_named}
use Rattle.prune.proofs.Without.{part_param, is_kept_param, is_kept_play, renumbered_param, renumbered_play, connections_without, world_without, IsWithout}
use Rattle.prune.proofs.Thawing.{as_many, same_of_buffer}

-- ---- the first world

kept_of_none : {X : Type 0} (fs : Flags) → kept_of {X = X} fs [] ≡ []
kept_of_none [] = refl
kept_of_none (f ∷ fs) = refl

kept_alone : {X : Type 0} (fs : Flags) (x : X) → is_kept fs 0 ≡ true → kept_of fs (x ∷ []) ≡ x ∷ []
kept_alone fs x kept = kept_of_kept fs [] x kept ∙ ap (λ xs. xs ++ x ∷ []) (kept_of_none fs)

-- the world of a context before its first call
pub first_without : (fs : Flags) (spec : ContextSpec) → is_kept fs 0 ≡ true → IsWithout fs (first_world spec) (first_world spec)
first_without fs spec kept = record {
  first = kept;
  spec = refl;
  nodes = sym (kept_alone fs (destination_of spec) kept);
  graph = ap (λ ps. bare (record { nodes = ps; edges = [] })) (sym (kept_alone fs (ports_of (destination_of spec)) kept));
  params = refl;
  scheds = refl;
  store = tt;
  closed = λ e is. absurd is;
}

-- ---- all that the part has

pub without_is : (fs : Flags) (part whole : World) → IsWithout fs part whole → part ≡ record (world_without fs whole) { store = part.store }
without_is fs part whole is =
    let made : ContextSpec → List Node → GraphView → Listed Param → Listed Play → World = λ spec nodes graph params scheds. record { spec = spec; nodes = nodes; graph = graph; params = params; scheds = scheds; store = part.store } in
    ap (λ x. made x part.nodes part.graph part.params part.scheds) is.spec
    ∙ ap (λ x. made whole.spec x part.graph part.params part.scheds) is.nodes
    ∙ ap (λ x. made whole.spec (kept_of fs whole.nodes) x part.params part.scheds) is.graph
    ∙ ap (λ x. made whole.spec (kept_of fs whole.nodes) (bare (connections_without fs whole.graph.value)) x part.scheds) is.params
    ∙ ap (λ x. made whole.spec (kept_of fs whole.nodes) (bare (connections_without fs whole.graph.value)) (world_without fs whole).params x) is.scheds

-- ---- nodes

pub nodes_count : (fs : Flags) (part whole : World) → IsWithout fs part whole → length part.nodes ≡ part_number fs (length whole.nodes)
nodes_count fs part whole is = ap length is.nodes ∙ length-kept_of fs whole.nodes

pub node_kept : (fs : Flags) (part whole : World) (n : ℕ) → IsWithout fs part whole → is_kept fs n ≡ true → node_at part (part_number fs n) ≡ node_at whole n
node_kept fs part whole n is kept = ap (λ (ns : List Node). slice_index_or ns (part_number fs n) no_node) is.nodes ∙ at_part fs whole.nodes n no_node kept

pub kind_kept : (fs : Flags) (part whole : World) (n : ℕ) → IsWithout fs part whole → is_kept fs n ≡ true → kind_of part (part_number fs n) ≡ kind_of whole n
kind_kept fs part whole n is kept = ap (λ (x : Node). x.kind) (node_kept fs part whole n is kept)

-- ---- parameters

module _ (fs : Flags) (id : ParamId) (kept : is_kept fs id.node.0 ≡ true) where
  -- a kept parameter, and one that is this parameter
  pub same_named_param : (other : ParamId) → is_kept fs other.node.0 ≡ true → same_param (part_param fs other) (part_param fs id) ≡ same_param other id
  same_named_param other too = ap (λ b. b && same_name other.name id.name) (same_part fs other.node.0 id.node.0 too kept)

  pub its_param_kept : (other : ParamId) → same_param other id ≡ true → is_kept fs other.node.0 ≡ true
  its_param_kept other same = subst (λ n. is_kept fs n ≡ true) (sym (nat_same other.node.0 id.node.0 (and_parts (other.node.0 == id.node.0) (same_name other.name id.name) same).0)) kept

pub param_found : (fs : Flags) (part whole : World) (id : ParamId) → IsWithout fs part whole → is_kept fs id.node.0 ≡ true
    → find_param part.params.items (part_param fs id) ≡ option_map (renumbered_param fs) (find_param whole.params.items id)
param_found fs part whole id is kept =
    at_first (λ p. same_param p.id (part_param fs id)) part.params.items
    ∙ ap (λ (l : Listed Param). find (λ p. same_param p.id (part_param fs id)) l.items) is.params
    ∙ find_named (is_kept_param fs) (renumbered_param fs) (λ p. same_param p.id (part_param fs id)) (λ p. same_param p.id id) whole.params.items
    (λ p k. same_named_param fs id kept p.id k) (λ p t. its_param_kept fs id kept p.id t)
    ∙ ap (option_map (renumbered_param fs)) (sym (at_first (λ p. same_param p.id id) whole.params.items))

-- what a call reads of a parameter
pub slot_kept : (fs : Flags) (part whole : World) (id : ParamId) → IsWithout fs part whole → is_kept fs id.node.0 ≡ true → slot_of part (part_param fs id) ≡ slot_of whole id
slot_kept fs part whole id is kept = ap (λ (o : Option Param). option_map_or (λ p. p.line.slot) o (pos 0)) (param_found fs part whole id is kept) ∙ by_param (find_param whole.params.items id)
  where
    by_param : (o : Option Param) → option_map_or (λ p. p.line.slot) (option_map (renumbered_param fs) o) (pos 0) ≡ option_map_or (λ p. p.line.slot) o (pos 0)
    by_param None = refl
    by_param (Some p) = refl

-- ---- sources

module _ (fs : Flags) (n : ℕ) (kept : is_kept fs n ≡ true) where
  pub its_play_kept : (k : ℕ) → (k == n) ≡ true → is_kept fs k ≡ true
  its_play_kept k same = subst (λ m. is_kept fs m ≡ true) (sym (nat_same k n same)) kept

pub play_found : (fs : Flags) (part whole : World) (n : ℕ) → IsWithout fs part whole → is_kept fs n ≡ true
    → find_play part.scheds.items (part_number fs n) ≡ option_map (renumbered_play fs) (find_play whole.scheds.items n)
play_found fs part whole n is kept =
    at_first (λ (p : Play). p.id.0 == part_number fs n) part.scheds.items
    ∙ ap (λ (l : Listed Play). find (λ (p : Play). p.id.0 == part_number fs n) l.items) is.scheds
    ∙ find_named (is_kept_play fs) (renumbered_play fs) (λ p. p.id.0 == part_number fs n) (λ p. p.id.0 == n) whole.scheds.items
    (λ p k. same_part fs p.id.0 n k kept) (λ p t. its_play_kept fs n kept p.id.0 t)
    ∙ ap (option_map (renumbered_play fs)) (sym (at_first (λ (p : Play). p.id.0 == n) whole.scheds.items))

-- ---- buffers

pub buffers_count : (fs : Flags) (part whole : World) → IsWithout fs part whole → length part.store ≡ length whole.store
buffers_count fs part whole is = as_many part.store whole.store is.store

module _ (fs : Flags) (part whole : World) (is : IsWithout fs part whole) (buffer : Option BufId) where
  pub frames_kept : frames_in part.store buffer ≡ frames_in whole.store buffer
  frames_kept = same_of_buffer (λ b. b.shape.frames) 0 (λ b. refl) part.store whole.store buffer is.store

  pub channels_kept : channels_in part.store buffer ≡ channels_in whole.store buffer
  channels_kept = same_of_buffer (λ b. b.shape.channels) 1 (λ b. refl) part.store whole.store buffer is.store

  pub samples_kept : (channel : ℕ) → samples_in part.store buffer channel ≡ samples_in whole.store buffer channel
  samples_kept channel = same_of_buffer (λ b. channel_of b channel) [] (λ b. refl) part.store whole.store buffer is.store
