-- A world and a part of it: a constant source that plays, of whose two connections one leads to a gain that reaches nothing.
use Rattle.std.proofs.Common.{ℕ, zero, suc, ◌≡◌, ◌<◌, ◌↔◌, pos, length, List, [], ◌∷◌, map, true, option_map, inl, inr, refl, ap, arith}
use Rattle.wa_base.specs.declared.graph_names.Rate.TheVariants.{A}
use Rattle.wa_base.specs.declared.graph_names.ParamName.{ParamName}
use Rattle.wa_base.specs.declared.graph_names.ParamName.TheVariants as param
use Rattle.sched_source.specs.Schedule.{constant}
use Rattle.node_table.specs.Nodes.{destination_of, node_of}
use Rattle.node_table.specs.declared.kinds.Kind.TheVariants.{Constant, Gain}
use Rattle.node_table.specs.declared.nodes.Node.{Node}
use Rattle.conn_graph.specs.declared.edges.Edge.{Edge}
use Rattle.conn_graph.specs.declared.edges.Target.TheVariants.{Input}
use Rattle.conn_graph.specs.Edges.{target_node}
use Rattle.meaning.specs.declared.world.World.{World}
use Rattle.meaning.specs.declared.params.Param.{Param}
use Rattle.meaning.specs.declared.scheds.Play.{Play}
use Rattle.meaning.specs.Lists.{listed}
use Rattle.meaning.specs.World.{no_world, bare, node_at, param_id, find_param, not_started}
use Rattle.meaning.specs.Validity.{ports_of}
use Rattle.law_base.specs.Members.{IsIn}
use Rattle.prune.specs.Parts.{Numbering, is_kept, performance, IsPartOf}
use Rattle.prune.proofs.Numbers.{IsRising}

-- node 1 of the whole is left out
abbrev numbering : Numbering
numbering zero = 0
numbering (suc i) = suc (suc i)

rising : IsRising numbering
rising zero zero l = absurd (omega arith)
rising zero (suc k) l = omega arith
rising (suc i) zero l = absurd (omega arith)
rising (suc i) (suc k) l = omega arith

abbrev to_input : ℕ → ℕ → Edge
to_input a b = record { from = record { 0 = a }; output = 0; to = Input (record { 0 = b }) 0 }

abbrev source : Node
source = node_of (Constant (pos 16777216)) 0

abbrev gain : Node
gain = node_of (Gain (pos 16777216)) 0

abbrev line_of : ℕ → ParamName → Param
line_of node name = record { id = param_id node name; line = record { base = pos 16777216; slot = pos 0; events = [] }; rate = A }

abbrev world_of : List Node → List Edge → List Param → List Play → World
world_of nodes edges params plays = record no_world {
  nodes = nodes;
  graph = bare (record { nodes = map ports_of nodes; edges = edges });
  params = listed params;
  scheds = listed plays;
}

abbrev whole : World
whole = world_of (destination_of no_world.spec ∷ gain ∷ source ∷ []) (to_input 2 0 ∷ to_input 2 1 ∷ []) (line_of 1 param.Gain ∷ line_of 2 param.Offset ∷ []) (not_started 2 constant ∷ [])

abbrev part : World
part = world_of (destination_of no_world.spec ∷ source ∷ []) (to_input 1 0 ∷ []) (line_of 1 param.Offset ∷ []) (not_started 1 constant ∷ [])

is_part : IsPartOf numbering part whole
is_part = record {
  spec = refl;
  there = there;
  nodes = nodes;
  closed = closed;
  edges = refl;
  lines = lines;
  rates = rates;
  plays = plays;
}
  where
    there : (i : ℕ) → i < length part.nodes ↔ numbering i < length whole.nodes
    there zero = ((λ l. omega arith), (λ l. omega arith))
    there (suc i) = ((λ l. omega (arith, l)), (λ l. omega (arith, l)))

    nodes : (i : ℕ) → i < length part.nodes → node_at part i ≡ node_at whole (numbering i)
    nodes zero l = refl
    nodes (suc zero) l = refl
    nodes (suc (suc i)) l = absurd (omega (arith, l))

    closed : (e : Edge) → IsIn e whole.graph.value.edges → is_kept numbering 2 (target_node e.to) ≡ true → is_kept numbering 2 e.from.0 ≡ true
    closed e (inl same) kept = ap (λ (x : Edge). is_kept numbering 2 x.from.0) same
    closed e (inr (inl same)) kept = ap (λ (x : Edge). is_kept numbering 2 x.from.0) same
    closed e (inr (inr none)) kept = absurd none

    lines : (i : ℕ) (name : ParamName) → i < length part.nodes
        → option_map (λ (p : Param). p.line) (find_param part.params.items (param_id i name)) ≡ option_map (λ (p : Param). p.line) (find_param whole.params.items (param_id (numbering i) name))
    lines zero name l = refl
    lines (suc zero) param.Offset l = refl
    lines (suc zero) param.Gain l = refl
    lines (suc zero) param.DelayTime l = refl
    lines (suc zero) param.PlaybackRate l = refl
    lines (suc zero) param.Detune l = refl
    lines (suc (suc i)) name l = absurd (omega (arith, l))

    rates : (i : ℕ) (name : ParamName) → i < length part.nodes
        → option_map (λ (p : Param). p.rate) (find_param part.params.items (param_id i name)) ≡ option_map (λ (p : Param). p.rate) (find_param whole.params.items (param_id (numbering i) name))
    rates zero name l = refl
    rates (suc zero) param.Offset l = refl
    rates (suc zero) param.Gain l = refl
    rates (suc zero) param.DelayTime l = refl
    rates (suc zero) param.PlaybackRate l = refl
    rates (suc zero) param.Detune l = refl
    rates (suc (suc i)) name l = absurd (omega (arith, l))

    plays : (i : ℕ) → i < length part.nodes → performance part i ≡ performance whole (numbering i)
    plays zero l = refl
    plays (suc zero) l = refl
    plays (suc (suc i)) l = absurd (omega (arith, l))
