-- Splitters and mergers in small worlds, in quanta of 2 frames: what the definitions give.
use Rattle.std.proofs.Common.{ℕ, zero, suc, ◌+◌, ◌*◌, ℤ, pos, ◌≡◌, List, [], ◌∷◌, length, map, Some, None, refl}
use Rattle.wa_base.specs.declared.contexts.ContextSpec.{ContextSpec}
use Rattle.wa_base.specs.declared.graph_names.Interp.{Interp}
use Rattle.wa_base.specs.declared.graph_names.Interp.TheVariants.{Speakers, Discrete}
use Rattle.wa_base.specs.declared.graph_names.Mode.{Mode}
use Rattle.wa_base.specs.declared.graph_names.Mode.TheVariants.{Max, ClampedMax, Explicit}
use Rattle.wa_base.specs.declared.graph_names.ParamName.{ParamName}
use Rattle.wa_base.specs.declared.graph_names.ParamName.TheVariants as param
use Rattle.wa_base.specs.declared.graph_names.Rate.TheVariants.{A}
use Rattle.law_base.specs.Heights.{at_height, before, at_moment, state}
use Rattle.law_base.specs.Reaching.{reaches}
use Rattle.mix_rules.specs.Mixing.{form, mix}
use Rattle.param_events.specs.Values.{value_at as intrinsic_at}
use Rattle.sched_source.specs.Schedule.{constant as unstarted}
use Rattle.node_table.specs.Nodes.{destination_of, node_of, with_interp}
use Rattle.node_table.specs.declared.kinds.Kind.TheVariants.{Constant, Gain, Splitter, Merger}
use Rattle.node_table.specs.declared.nodes.Node.{Node}
use Rattle.conn_graph.specs.declared.edges.Edge.{Edge}
use Rattle.conn_graph.specs.declared.edges.Target.TheVariants.{Input}
use Rattle.conn_graph.specs.Ends.{ends, reader_of, in_cycle, arrow, height, muted}
use Rattle.meaning.specs.declared.world.World.{World}
use Rattle.meaning.specs.declared.params.Param.{Param}
use Rattle.meaning.specs.declared.scheds.Play.{Play}
use Rattle.meaning.specs.Lists.{listed}
use Rattle.meaning.specs.World.{no_world, not_started, bare, param_id}
use Rattle.meaning.specs.Validity.{ports_of}
use Rattle.meaning.specs.Counts.{count_rule, count_at, count}
use Rattle.meaning.specs.Values.{input_value, computed_value, equation, value_at, value}
use Rattle.meaning.specs.Rendered.{rows}

context : ℕ → ContextSpec
context channels = record { channels = channels; length = 1; rate = 48000; quantum = 128 }

-- a destination of so many channels with an interpretation, and then the nodes; the first so many nodes are sources that start at once
world : ℕ → Interp → List Node → List Edge → List Param → List Play → World
world channels interp nodes edges params plays = record no_world {
  spec = context channels;
  nodes = with_interp interp (destination_of (context channels)) ∷ nodes;
  graph = bare (record { nodes = map ports_of (destination_of (context channels) ∷ nodes); edges = edges });
  params = listed params;
  scheds = listed plays;
}

-- from an output to an input
join : ℕ → ℕ → ℕ → ℕ → Edge
join a output b input = record { from = record { 0 = a }; output = output; to = Input (record { 0 = b }) input }

constant : ℤ → Node
constant offset = node_of (Constant offset) 0

splitter : ℕ → Node
splitter outputs = node_of (Splitter outputs) 0

merger : ℕ → Node
merger inputs = node_of (Merger inputs) 0

-- a gain of 1 with a channelCount and a channelCountMode
through : ℕ → Mode → Node
through count mode = record { kind = Gain (pos 16777216); attrs = record { count = count; mode = mode; interp = Speakers; birth = 0 } }

line : ℕ → ParamName → ℤ → Param
line n name base = record { id = param_id n name; line = record { base = base; slot = base; events = [] }; rate = A }

started : ℕ → Play
started n = not_started n (record unstarted { start = Some 0 })

-- ---- constants of 2 and 4, merged, and then crossed by a splitter and a second merger
crossed : World
crossed = world 2 Speakers (constant (pos 2) ∷ constant (pos 4) ∷ merger 2 ∷ splitter 2 ∷ merger 2 ∷ [])
    (join 1 0 3 0 ∷ join 2 0 3 1 ∷ join 3 0 4 0 ∷ join 4 0 5 1 ∷ join 4 1 5 0 ∷ join 5 0 0 0 ∷ [])
    (line 1 param.Offset (pos 2) ∷ line 2 param.Offset (pos 4) ∷ []) (started 1 ∷ started 2 ∷ [])

crossed-rows : rows 2 (crossed ∷ []) (context 2) ≡ (pos 4 ∷ pos 2 ∷ []) ∷ []
unfolding context world join constant splitter merger line started at_height before at_moment state reaches form mix intrinsic_at ends in_cycle arrow height muted count_rule count_at count input_value computed_value equation value_at value rows crossed
crossed-rows = refl

crossed-counts : map (λ n. count 2 (crossed ∷ []) 0 (reader_of n)) (0 ∷ 3 ∷ 4 ∷ 5 ∷ []) ≡ 2 ∷ 2 ∷ 1 ∷ 2 ∷ []
unfolding context world join constant splitter merger line started at_height before at_moment state reaches form mix intrinsic_at ends in_cycle arrow height muted count_rule count_at count input_value computed_value equation value_at value crossed
crossed-counts = refl

-- ---- they are merged into a destination of so many channels with an interpretation
merged : ℕ → Interp → World
merged channels interp = world channels interp (constant (pos 2) ∷ constant (pos 4) ∷ merger 2 ∷ [])
    (join 1 0 3 0 ∷ join 2 0 3 1 ∷ join 3 0 0 0 ∷ [])
    (line 1 param.Offset (pos 2) ∷ line 2 param.Offset (pos 4) ∷ []) (started 1 ∷ started 2 ∷ [])

merged-stereo : map (λ interp. rows 2 (merged 2 interp ∷ []) (context 2)) (Speakers ∷ Discrete ∷ [])
    ≡ ((pos 2 ∷ pos 4 ∷ []) ∷ []) ∷ ((pos 2 ∷ pos 4 ∷ []) ∷ []) ∷ []
unfolding context world join constant splitter merger line started at_height before at_moment state reaches form mix intrinsic_at ends in_cycle arrow height muted count_rule count_at count input_value computed_value equation value_at value rows merged
merged-stereo = refl

merged-mono : map (λ interp. rows 2 (merged 1 interp ∷ []) (context 1)) (Speakers ∷ Discrete ∷ [])
    ≡ ((pos 3 ∷ []) ∷ []) ∷ ((pos 2 ∷ []) ∷ []) ∷ []
unfolding context world join constant splitter merger line started at_height before at_moment state reaches form mix intrinsic_at ends in_cycle arrow height muted count_rule count_at count input_value computed_value equation value_at value rows merged
merged-mono = refl

-- ---- a gain of clamped-max at three channels between a merger of five inputs and a destination of six: three channels come through, and stay in order
clamped : World
clamped = world 6 Speakers (constant (pos 7) ∷ merger 5 ∷ through 3 ClampedMax ∷ [])
    (join 1 0 2 0 ∷ join 1 0 2 2 ∷ join 1 0 2 4 ∷ join 2 0 3 0 ∷ join 3 0 0 0 ∷ [])
    (line 1 param.Offset (pos 7) ∷ line 3 param.Gain (pos 16777216) ∷ []) (started 1 ∷ [])

clamped-counts : map (λ n. count 2 (clamped ∷ []) 0 (reader_of n)) (1 ∷ 2 ∷ 3 ∷ 0 ∷ []) ≡ 1 ∷ 5 ∷ 3 ∷ 6 ∷ []
unfolding context world join constant splitter merger through line started at_height before at_moment state reaches form mix intrinsic_at ends in_cycle arrow height muted count_rule count_at count input_value computed_value equation value_at value clamped
clamped-counts = refl

clamped-rows : rows 2 (clamped ∷ []) (context 6)
    ≡ (pos 7 ∷ pos 0 ∷ pos 7 ∷ pos 0 ∷ pos 0 ∷ pos 0 ∷ []) ∷ []
unfolding context world join constant splitter merger through line started at_height before at_moment state reaches form mix intrinsic_at ends in_cycle arrow height muted count_rule count_at count input_value computed_value equation value_at value rows clamped
clamped-rows = refl

-- ---- the outputs of a splitter that lie past its input's channels are silent, and have one channel each
past_the_input : World
past_the_input = world 2 Speakers (constant (pos 9) ∷ splitter 3 ∷ [])
    (join 1 0 2 0 ∷ join 2 0 0 0 ∷ join 2 2 0 0 ∷ [])
    (line 1 param.Offset (pos 9) ∷ []) (started 1 ∷ [])

past_the_input-values : map (λ o. value 2 (past_the_input ∷ []) 0 (reader_of 2) o 0) (0 ∷ 1 ∷ 2 ∷ 3 ∷ []) ≡ pos 9 ∷ pos 0 ∷ pos 0 ∷ pos 0 ∷ []
unfolding context world join constant splitter merger line started at_height before at_moment state reaches form mix intrinsic_at ends in_cycle arrow height muted count_rule count_at count input_value computed_value equation value_at value past_the_input
past_the_input-values = refl

past_the_input-rows : rows 2 (past_the_input ∷ []) (context 2) ≡ (pos 9 ∷ pos 9 ∷ []) ∷ []
unfolding context world join constant splitter merger line started at_height before at_moment state reaches form mix intrinsic_at ends in_cycle arrow height muted count_rule count_at count input_value computed_value equation value_at value rows past_the_input
past_the_input-rows = refl

-- ---- a mode that changes between two quanta: a merger of two inputs, heard through a gain of two channels at most, and then of one
through_mode : Mode → World
through_mode mode = world 2 Speakers (constant (pos 2) ∷ constant (pos 4) ∷ merger 2 ∷ through 1 mode ∷ [])
    (join 1 0 3 0 ∷ join 2 0 3 1 ∷ join 3 0 4 0 ∷ join 4 0 0 0 ∷ [])
    (line 1 param.Offset (pos 2) ∷ line 2 param.Offset (pos 4) ∷ line 4 param.Gain (pos 16777216) ∷ []) (started 1 ∷ started 2 ∷ [])

changed_mode : rows 2 (through_mode Max ∷ through_mode ClampedMax ∷ []) (record { channels = 2; length = 3; rate = 48000; quantum = 128 })
    ≡ (pos 2 ∷ pos 4 ∷ []) ∷ (pos 2 ∷ pos 4 ∷ []) ∷ (pos 3 ∷ pos 3 ∷ []) ∷ []
unfolding context world join constant splitter merger through line started at_height before at_moment state reaches form mix intrinsic_at ends in_cycle arrow height muted count_rule count_at count input_value computed_value equation value_at value rows through_mode
changed_mode = refl
