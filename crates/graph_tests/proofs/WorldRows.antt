-- What no timeline is, what a gain's parameter keeps to, and when a tape is regular, on small lists and worlds, in quanta of 2 frames.
use Rattle.std.proofs.Common.{ℕ, zero, suc, ◌+◌, ◌*◌, ℤ, pos, negsuc, neg_ℤ, ◌≡◌, ◌<◌, ◌≤◌, List, [], ◌∷◌, length, map, Some, inl, inr, refl, arith}
use Rattle.std.proofs.lemmas.List.Elements.{All-cons}
use Rattle.wa_base.specs.declared.contexts.ContextSpec.{ContextSpec}
use Rattle.wa_base.specs.declared.graph_names.ParamName.{ParamName}
use Rattle.wa_base.specs.declared.graph_names.ParamName.TheVariants as param
use Rattle.wa_base.specs.declared.graph_names.Rate.TheVariants.{A}
use Rattle.law_base.specs.Heights.{at_height, before, at_moment, state}
use Rattle.law_base.specs.Reaching.{reaches}
use Rattle.mix_rules.specs.Mixing.{form, mix}
use Rattle.param_events.specs.Timeline.{IsTimeline}
use Rattle.param_events.specs.Values.{value_at as intrinsic_at}
use Rattle.param_events.specs.declared.events.Event.TheVariants.{Set, Ramp, Curve}
use Rattle.sched_source.specs.Schedule.{constant as unstarted}
use Rattle.node_table.specs.Nodes.{destination_of, node_of}
use Rattle.node_table.specs.declared.kinds.Kind.TheVariants.{Constant, Gain}
use Rattle.node_table.specs.declared.nodes.Node.{Node}
use Rattle.conn_graph.specs.declared.edges.Edge.{Edge}
use Rattle.conn_graph.specs.declared.edges.Target.TheVariants.{Input, Param as Parameter}
use Rattle.conn_graph.specs.Ends.{ends, in_cycle, arrow, height, muted}
use Rattle.meaning.specs.declared.world.World.{World}
use Rattle.meaning.specs.declared.params.Param.{Param}
use Rattle.meaning.specs.declared.scheds.Play.{Play}
use Rattle.meaning.specs.Lists.{listed}
use Rattle.meaning.specs.World.{no_world, not_started, bare, param_id, node_at}
use Rattle.meaning.specs.Validity.{ports_of, IsValid}
use Rattle.meaning.specs.Counts.{world_in, count_rule, count_at, count}
use Rattle.meaning.specs.Values.{input_value, computed_value, equation, value_at, value}
use Rattle.meaning.specs.Rendered.{sample}
use Rattle.meaning.specs.Worlds.{IsRegular, Stays, IsNewIn, HasCapacity}

-- ---- timelines

-- a ramp needs an event to begin at
ramp_is_not_first : IsTimeline (Ramp 5 (pos 0) ∷ []) → ⊥
ramp_is_not_first kept = kept.begun

-- a curve does not last beyond its duration
curve_is_no_longer : IsTimeline (Curve 3 8 12 (pos 0 ∷ pos 1 ∷ []) ∷ []) → ⊥
curve_is_no_longer kept = let late : 12 ≤ 3 + 8 = kept.ordered.1.ends in omega arith

-- and has more than one point
curve_has_two_points : IsTimeline (Curve 3 8 11 (pos 0 ∷ []) ∷ []) → ⊥
curve_has_two_points kept = let many : 2 ≤ 1 = kept.ordered.1.has_points in omega arith

-- no event is before the one that stands before it
events_are_in_order : IsTimeline (Set 5 (pos 0) ∷ Set 4 (pos 1) ∷ []) → ⊥
events_are_in_order kept = let late : 5 ≤ 4 = kept.ordered.2.0 in omega arith

-- ---- worlds

context : ContextSpec
context = record { channels = 1; length = 4; rate = 48000; quantum = 128 }

-- the destination, and then the nodes
world : List Node → List Edge → List Param → List Play → World
world nodes edges params plays = record no_world {
  spec = context;
  nodes = destination_of context ∷ nodes;
  graph = bare (record { nodes = map ports_of (destination_of context ∷ nodes); edges = edges });
  params = listed params;
  scheds = listed plays;
}

to_input : ℕ → ℕ → Edge
to_input a b = record { from = record { 0 = a }; output = 0; to = Input (record { 0 = b }) 0 }

to_gain : ℕ → ℕ → Edge
to_gain a b = record { from = record { 0 = a }; output = 0; to = Parameter (param_id b param.Gain) }

line : ℕ → ParamName → ℤ → Param
line n name base = record { id = param_id n name; line = record { base = base; slot = base; events = [] }; rate = A }

started : ℕ → Play
started n = not_started n (record unstarted { start = Some 0 })

-- ---- a gain whose parameter is fed with what it has already keeps to the range of a value: half of it is heard

fed : ℤ → World
fed extreme = world (node_of (Constant (pos 8388608)) 0 ∷ node_of (Constant extreme) 0 ∷ node_of (Gain extreme) 0 ∷ [])
    (to_input 1 3 ∷ to_gain 2 3 ∷ to_input 3 0 ∷ [])
    (line 1 param.Offset (pos 8388608) ∷ line 2 param.Offset extreme ∷ line 3 param.Gain extreme ∷ [])
    (started 1 ∷ started 2 ∷ [])

greatest_gain : sample 2 (fed (pos 2147483647) ∷ []) 0 0 ≡ pos 1073741824
unfolding context world to_input to_gain line started at_height before at_moment state reaches form mix intrinsic_at ends in_cycle arrow height muted count_rule count_at count input_value computed_value equation value_at value fed
greatest_gain = refl

least_gain : sample 2 (fed (negsuc 2147483647) ∷ []) 0 0 ≡ neg_ℤ (pos 1073741824)
unfolding context world to_input to_gain line started at_height before at_moment state reaches form mix intrinsic_at ends in_cycle arrow height muted count_rule count_at count input_value computed_value equation value_at value fed
least_gain = refl

-- ---- tapes of two worlds, of which the second has one node more

alone : World
alone = world [] [] [] []

joined : ℕ → World
joined birth = world (node_of (Gain (pos 16777216)) birth ∷ []) [] (line 1 param.Gain (pos 16777216) ∷ []) []

-- the new node was born at the first frame of the second quantum
born_in_time : (birth : ℕ) → IsRegular 2 (alone ∷ joined birth ∷ []) → birth ≡ 2
unfolding alone joined world
born_in_time birth regular = regular.born 1 1 (omega arith) (omega arith, inr (omega arith))

grown : List World
grown = alone ∷ joined 2 ∷ []

one_context : (j : ℕ) → j < 2 → (world_in grown j).spec ≡ context
unfolding grown alone joined world
one_context zero l = refl
one_context (suc zero) l = refl
one_context (suc (suc j)) l = absurd (omega arith)

nodes_stay : (j i : ℕ) → suc j < 2 → i < length (world_in grown j).nodes → Stays i (world_in grown j) (world_in grown (suc j))
unfolding grown alone joined world
nodes_stay zero zero l below = record { there = omega arith; kind = refl; birth = refl }
nodes_stay zero (suc i) l below = absurd (omega arith)
nodes_stay (suc j) i l below = absurd (omega arith)

births : (j i : ℕ) → j < 2 → IsNewIn grown j i → (node_at (world_in grown j) i).attrs.birth ≡ 2 * j
unfolding grown alone joined world
births zero zero l new = refl
births zero (suc i) l new = let below = new.0 in absurd (omega arith)
births (suc zero) zero l new = elim new.1 [ inl e ↦ absurd (omega arith) | inr e ↦ absurd (omega arith) ]
births (suc zero) (suc zero) l new = refl
births (suc zero) (suc (suc i)) l new = let below = new.0 in absurd (omega arith)
births (suc (suc j)) i l new = absurd (omega arith)

-- no node keeps anything
kept : (j i : ℕ) → j < 2 → HasCapacity 2 (world_in grown j).spec (node_at (world_in grown j) i).kind
unfolding grown alone joined world
kept zero zero l = tt
kept zero (suc i) l = tt
kept (suc zero) zero l = tt
kept (suc zero) (suc zero) l = tt
kept (suc zero) (suc (suc i)) l = tt
kept (suc (suc j)) i l = absurd (omega arith)

-- and where it was, the tape is regular, of valid worlds
in_time : IsValid alone → IsValid (joined 2) → IsRegular 2 grown
unfolding grown alone context world
in_time first second = record {
  valid = All-cons IsValid alone (joined 2 ∷ []) first (All-cons IsValid (joined 2) [] second (λ k d l. absurd (omega arith)));
  capacity = kept;
  spec = one_context;
  stays = nodes_stay;
  born = births;
}
