-- The parameters that names stand for are there.
use Rattle.std.proofs.Common.{ℕ, List, ◌≡◌, ◌<◌, length, Bool, true, false, None, Some, refl, sym, ◌∙◌, ap, subst}
use Rattle.std.specs.Option.{option_map_or}
use Rattle.std.specs.Prelude.{Option, option_map, is_some, unwrap_or, if◌then◌else◌, ◌==◌, ◌&&◌}
use Rattle.wa_base.specs.declared.exceptions.Exc.TheVariants.{NotSupported}
use Rattle.wa_base.specs.declared.features.Feature.{Feature}
use Rattle.wa_base.specs.declared.features.Feature.TheVariants.{DestinationOutput}
use Rattle.wa_base.specs.declared.graph_names.NodeId.{NodeId}
use Rattle.wa_base.specs.declared.graph_names.ParamId.{ParamId}
use Rattle.wa_base.specs.declared.graph_names.ParamName.{ParamName}
use Rattle.law_base.specs.Members.{IsIn}
use Rattle.node_table.specs.declared.rows.ParamRow.{ParamRow}
use Rattle.node_table.specs.Kinds.{row, param_name}
use Rattle.conn_graph.specs.Edges.{same_name}
use Rattle.meaning.proofs.FirstItems.{same_name_is}
use Rattle.node_table.specs.declared.kinds.Kind.{Kind}
use Rattle.meaning.specs.World.{kind_of, param_id}
use Rattle.meaning.specs.Validity.{param_ids}
use Rattle.control_side.specs.Machine.{Machine}
use Rattle.control_side.specs.Params.{left_out, plays_buffer, has_param, param_named, param_of_kind, param_at, name_refusal, lead_refusal}
use Rattle.control_side.specs.Steady.{IsSteady}

-- what is not left out is the parameter that can be automated
pub kept_name : (k : Kind) (name : ParamName) → has_param k name ≡ true → name_refusal name ≡ None → param_name k ≡ Some name
kept_name k name has kept = by_param (row k).param (plays_buffer (row k).plays) (left_out name) has kept
  where
    by_param : (p : Option ParamRow) (buffer : Bool) (f : Option Feature) → option_map_or (λ (x : ParamRow). same_name x.name name) p (buffer && is_some f) ≡ true → option_map (λ x. NotSupported (Some x)) f ≡ None
        → option_map (λ (x : ParamRow). x.name) p ≡ Some name
    by_param (Some p) buffer f has kept = ap Some (same_name_is p.name name has)
    by_param None false f has kept = absurd cc
    by_param None true None has kept = absurd cc
    by_param None true (Some feature) has kept = absurd cc

-- a parameter that is found is one that the kind has
record Found (k : Kind) (node : ℕ) (id : ParamId) : Type 0 where
  is : id ≡ param_id node id.name
  has : has_param k id.name ≡ true

found_of : (k : Kind) (node : ℕ) (named : Option ParamName) (id : ParamId) → option_map (param_id node) (param_of_kind k named) ≡ Some id → Found k node id
found_of k node None id is = absurd cc
found_of k node (Some name) id is = by_test (has_param k name) refl is
  where
    by_test : (b : Bool) → has_param k name ≡ b → option_map (param_id node) (if b then Some name else None) ≡ Some id → Found k node id
    by_test true t e =
        let same : param_id node name ≡ id = ap (λ (o : Option ParamId). unwrap_or o id) e in
        record {
          is = sym same ∙ ap (λ (i : ParamId). param_id node i.name) same;
          has = subst (λ (i : ParamId). has_param k i.name ≡ true) same t;
        }
    by_test false t e = absurd cc

pub param_there : (m : Machine) → IsSteady m → (node : Option NodeId) (word : List ℕ) → ((n : NodeId) → node ≡ Some n → n.0 < length m.world.nodes) → (id : ParamId)
    → param_at m node word ≡ Some id → name_refusal id.name ≡ None → IsIn id (param_ids m.world)
param_there m steady None word low id is kept = absurd cc
param_there m steady (Some n) word low id is kept =
    let found = found_of (kind_of m.world n.0) n.0 (param_named word) id is in
    subst (λ (i : ParamId). IsIn i (param_ids m.world)) (sym found.is) ((steady.valid.params.each n.0 id.name (low n refl)).1 (kept_name (kind_of m.world n.0) id.name found.has kept))

pub param_low : (m : Machine) (node : Option NodeId) (word : List ℕ) → ((n : NodeId) → node ≡ Some n → n.0 < length m.world.nodes) → (id : ParamId)
    → param_at m node word ≡ Some id → id.node.0 < length m.world.nodes
param_low m None word low id is = absurd cc
param_low m (Some n) word low id is =
    let found = found_of (kind_of m.world n.0) n.0 (param_named word) id is in
    subst (λ (i : ParamId). i.node.0 < length m.world.nodes) (sym found.is) (low n refl)

-- what leads to a parameter leads to one that is not left out
pub lead_kept : (from : NodeId) (to : ParamId) → lead_refusal from to ≡ None → name_refusal to.name ≡ None
lead_kept from to kept = by_test (from.0 == 0) kept
  where
    by_test : (b : Bool) → (if b then Some (NotSupported (Some DestinationOutput)) else name_refusal to.name) ≡ None → name_refusal to.name ≡ None
    by_test true k = absurd cc
    by_test false k = k
