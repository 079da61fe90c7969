-- Small worlds whose values antt computes, in quanta of 2 frames.
use Rattle.std.proofs.Common.{Option, ℕ, ℤ, pos, neg_ℤ, ◌≡◌, List, [], ◌∷◌, map, true, None, Some, refl}
use Rattle.wa_base.specs.declared.contexts.ContextSpec.{ContextSpec}
use Rattle.wa_base.specs.declared.graph_names.Interp.{Interp}
use Rattle.wa_base.specs.declared.graph_names.Interp.TheVariants.{Speakers, Discrete}
use Rattle.wa_base.specs.declared.graph_names.Mode.TheVariants.{Explicit}
use Rattle.wa_base.specs.declared.graph_names.ParamName.{ParamName}
use Rattle.wa_base.specs.declared.graph_names.ParamName.TheVariants as param
use Rattle.wa_base.specs.declared.graph_names.Rate.{Rate}
use Rattle.wa_base.specs.declared.graph_names.Rate.TheVariants.{A, K}
use Rattle.law_base.specs.Heights.{at_height, before, at_moment, state}
use Rattle.law_base.specs.Reaching.{reaches}
use Rattle.mix_rules.specs.Mixing.{form, mix}
use Rattle.param_events.specs.Values.{value_at as intrinsic_at}
use Rattle.sched_source.specs.Schedule.{constant as unstarted}
use Rattle.param_events.specs.declared.events.Event.TheVariants.{Set, Ramp}
use Rattle.node_table.specs.declared.kinds.Kind.TheVariants.{Constant, Gain}
use Rattle.node_table.specs.declared.nodes.Node.{Node}
use Rattle.node_table.specs.Nodes.{destination_of, node_of}
use Rattle.conn_graph.specs.declared.edges.Edge.{Edge}
use Rattle.conn_graph.specs.declared.edges.Target.TheVariants.{Input, Param as Parameter}
use Rattle.conn_graph.specs.Ends.{reader_of, ends, in_cycle, arrow, height, muted}
use Rattle.meaning.specs.declared.world.World.{World}
use Rattle.meaning.specs.declared.params.Param.{Param}
use Rattle.meaning.specs.declared.scheds.Play.{Play}
use Rattle.meaning.specs.Lists.{listed}
use Rattle.meaning.specs.World.{no_world, not_started, bare, param_id}
use Rattle.meaning.specs.Validity.{ports_of}
use Rattle.meaning.specs.Counts.{count_rule, count_at, count}
use Rattle.meaning.specs.Values.{input_value, computed_value, equation, value_at, value}
use Rattle.meaning.specs.Rendered.{sample, rows}

-- ---- how the worlds are written

unfoldable pub context : ℕ → ContextSpec
context channels = record { channels = channels; length = 4; rate = 48000; quantum = 128 }

unfoldable pub constant : ℤ → Node
constant offset = node_of (Constant offset) 0

unfoldable pub gain : ℤ → Node
gain g = node_of (Gain g) 0

-- a gain of 1 with two channels
unfoldable pub wide : Interp → Node
wide interp = record { kind = Gain (pos 16777216); attrs = record { count = 2; mode = Explicit; interp = interp; birth = 0 } }

unfoldable pub to_input : ℕ → ℕ → Edge
to_input a b = record { from = record { 0 = a }; output = 0; to = Input (record { 0 = b }) 0 }

unfoldable pub to_gain : ℕ → ℕ → Edge
to_gain a b = record { from = record { 0 = a }; output = 0; to = Parameter (param_id b param.Gain) }

unfoldable pub line : ℕ → ParamName → ℤ → Param
line n name base = record { id = param_id n name; line = record { base = base; slot = base; events = [] }; rate = A }

-- a source with a start and a stop
abbrev begun : ℕ → Option ℕ → Option ℕ → Play
begun n start stop = not_started n (record unstarted { start = start; stop = stop })

-- a source that starts, and one that stops too
unfoldable pub started : ℕ → ℕ → Play
started n start = begun n (Some start) None

unfoldable pub stopped : ℕ → ℕ → ℕ → Play
stopped n start stop = begun n (Some start) (Some stop)

-- a destination of so many channels, and then the nodes
unfoldable pub world : ℕ → List Node → List Edge → List Param → List Play → World
world channels nodes edges params plays = record no_world {
  spec = context channels;
  nodes = destination_of (context channels) ∷ nodes;
  graph = bare (record { nodes = map ports_of (destination_of (context channels) ∷ nodes); edges = edges });
  params = listed params;
  scheds = listed plays;
}

-- ---- four constants into one gain: their sum is saturated once, though it leaves the range on its way from either side
fan_in_once : World
fan_in_once = world 1 (constant (pos 1677721600) ∷ constant (pos 1677721600) ∷ constant (neg_ℤ (pos 1207959552)) ∷ constant (neg_ℤ (pos 1207959552)) ∷ gain (pos 65536) ∷ [])
    (to_input 1 5 ∷ to_input 2 5 ∷ to_input 3 5 ∷ to_input 4 5 ∷ to_input 5 0 ∷ [])
    (line 1 param.Offset (pos 1677721600) ∷ line 2 param.Offset (pos 1677721600) ∷ line 3 param.Offset (neg_ℤ (pos 1207959552)) ∷ line 4 param.Offset (neg_ℤ (pos 1207959552)) ∷ line 5 param.Gain (pos 65536) ∷ [])
    (started 1 0 ∷ started 2 0 ∷ started 3 0 ∷ started 4 0 ∷ [])

fan_in_once-0 : sample 2 (fan_in_once ∷ []) 0 0 ≡ pos 3670016
unfolding context constant gain to_input to_gain line started stopped world at_height before at_moment state reaches form mix intrinsic_at ends in_cycle arrow height muted count_rule count_at count input_value computed_value equation value_at value fan_in_once
fan_in_once-0 = refl

-- ---- a cycle of gains is silent, and a constant beside it is heard
ring : World
ring = world 1 (constant (pos 4194304) ∷ gain (pos 16777216) ∷ gain (pos 16777216) ∷ [])
    (to_input 1 0 ∷ to_input 1 2 ∷ to_input 2 0 ∷ to_input 2 3 ∷ to_input 3 2 ∷ [])
    (line 1 param.Offset (pos 4194304) ∷ line 2 param.Gain (pos 16777216) ∷ line 3 param.Gain (pos 16777216) ∷ [])
    (started 1 0 ∷ [])

ring-muted : muted ring.graph.value (reader_of 2) ≡ true
unfolding context constant gain to_input to_gain line started stopped world at_height before at_moment state reaches form mix intrinsic_at ends in_cycle arrow height muted count_rule count_at count input_value computed_value equation value_at value ring
ring-muted = refl

ring-1 : sample 2 (ring ∷ []) 1 0 ≡ pos 4194304
unfolding context constant gain to_input to_gain line started stopped world at_height before at_moment state reaches form mix intrinsic_at ends in_cycle arrow height muted count_rule count_at count input_value computed_value equation value_at value ring
ring-1 = refl

-- ---- a muted end has one channel, whatever its node asks for, and so has what is behind it
wide_ring : World
wide_ring = world 1 (constant (pos 4194304) ∷ wide Speakers ∷ gain (pos 16777216) ∷ gain (pos 16777216) ∷ [])
    (to_input 1 2 ∷ to_input 2 3 ∷ to_input 2 4 ∷ to_input 3 2 ∷ to_input 4 0 ∷ [])
    (line 1 param.Offset (pos 4194304) ∷ line 2 param.Gain (pos 16777216) ∷ line 3 param.Gain (pos 16777216) ∷ line 4 param.Gain (pos 16777216) ∷ [])
    (started 1 0 ∷ [])

wide_ring-counts : map (count 2 (wide_ring ∷ []) 0) (ends wide_ring.graph.value) ≡ 1 ∷ 1 ∷ 1 ∷ 1 ∷ 1 ∷ []
unfolding context constant gain to_input wide to_gain line started stopped world at_height before at_moment state reaches form mix intrinsic_at ends in_cycle arrow height muted count_rule count_at count input_value computed_value equation value_at value wide_ring
wide_ring-counts = refl

-- ---- a gain of one quarter behind a gain of one half, of a source that sounds at frames 1 and 2
chain : World
chain = world 1 (constant (pos 16777216) ∷ gain (pos 8388608) ∷ gain (pos 4194304) ∷ [])
    (to_input 1 2 ∷ to_input 2 3 ∷ to_input 3 0 ∷ [])
    (line 1 param.Offset (pos 16777216) ∷ line 2 param.Gain (pos 8388608) ∷ line 3 param.Gain (pos 4194304) ∷ [])
    (stopped 1 1 3 ∷ [])

chain-rows : rows 2 (chain ∷ chain ∷ []) (context 1) ≡ (pos 0 ∷ []) ∷ (pos 2097152 ∷ []) ∷ (pos 2097152 ∷ []) ∷ (pos 0 ∷ []) ∷ []
unfolding context constant gain to_input to_gain line started stopped world at_height before at_moment state reaches form mix intrinsic_at ends in_cycle arrow height muted count_rule count_at count input_value computed_value equation value_at value rows chain
chain-rows = refl

-- at each height from 0 on, what the source carries at frame 1, and what the destination does
chain-source : map (λ h. value_at 2 (chain ∷ []) 1 h (reader_of 1) 0 0) (0 ∷ 1 ∷ 2 ∷ []) ≡ pos 0 ∷ pos 16777216 ∷ pos 16777216 ∷ []
unfolding context constant gain to_input to_gain line started stopped world at_height before at_moment state reaches form mix intrinsic_at ends in_cycle arrow height muted count_rule count_at count input_value computed_value equation value_at value chain
chain-source = refl

chain-destination : map (λ h. value_at 2 (chain ∷ []) 1 h (reader_of 0) 0 0) (0 ∷ 1 ∷ 2 ∷ 3 ∷ 4 ∷ 5 ∷ []) ≡ pos 0 ∷ pos 0 ∷ pos 0 ∷ pos 0 ∷ pos 2097152 ∷ pos 2097152 ∷ []
unfolding context constant gain to_input to_gain line started stopped world at_height before at_moment state reaches form mix intrinsic_at ends in_cycle arrow height muted count_rule count_at count input_value computed_value equation value_at value chain
chain-destination = refl

-- ---- a gain of one quarter whose parameter is fed one half at frame 0: three quarters, and then one quarter
fed : Rate → World
fed rate = world 1 (constant (pos 16777216) ∷ constant (pos 8388608) ∷ gain (pos 4194304) ∷ [])
    (to_input 1 3 ∷ to_gain 2 3 ∷ to_input 3 0 ∷ [])
    (line 1 param.Offset (pos 16777216) ∷ line 2 param.Offset (pos 8388608) ∷ record (line 3 param.Gain (pos 4194304)) { rate = rate } ∷ [])
    (started 1 0 ∷ stopped 2 0 1 ∷ [])

fed-0 : sample 2 (fed A ∷ []) 0 0 ≡ pos 12582912
unfolding context constant gain to_input to_gain line started stopped world at_height before at_moment state reaches form mix intrinsic_at ends in_cycle arrow height muted count_rule count_at count input_value computed_value equation value_at value fed
fed-0 = refl

fed-1 : sample 2 (fed A ∷ []) 1 0 ≡ pos 4194304
unfolding context constant gain to_input to_gain line started stopped world at_height before at_moment state reaches form mix intrinsic_at ends in_cycle arrow height muted count_rule count_at count input_value computed_value equation value_at value fed
fed-1 = refl

-- at k-rate the parameter keeps what the first frame of the quantum gave
fed_k-1 : sample 2 (fed K ∷ fed K ∷ []) 1 0 ≡ pos 12582912
unfolding context constant gain to_input to_gain line started stopped world at_height before at_moment state reaches form mix intrinsic_at ends in_cycle arrow height muted count_rule count_at count input_value computed_value equation value_at value fed
fed_k-1 = refl

fed_k-2 : sample 2 (fed K ∷ fed K ∷ []) 2 0 ≡ pos 4194304
unfolding context constant gain to_input to_gain line started stopped world at_height before at_moment state reaches form mix intrinsic_at ends in_cycle arrow height muted count_rule count_at count input_value computed_value equation value_at value fed
fed_k-2 = refl

-- ---- a ramp of the offset from 0 to 1 over 3 frames, at k-rate and at a-rate
ramp : Rate → World
ramp rate = world 1 (constant (pos 0) ∷ []) (to_input 1 0 ∷ [])
    (record { id = param_id 1 param.Offset; line = record { base = pos 0; slot = pos 0; events = Set 0 (pos 0) ∷ Ramp 3 (pos 16777216) ∷ [] }; rate = rate } ∷ [])
    (started 1 0 ∷ [])

ramp-1 : sample 2 (ramp A ∷ ramp A ∷ []) 1 0 ≡ pos 5592405
unfolding context constant gain to_input to_gain line started stopped world at_height before at_moment state reaches form mix intrinsic_at ends in_cycle arrow height muted count_rule count_at count input_value computed_value equation value_at value ramp
ramp-1 = refl

ramp_k-3 : sample 2 (ramp K ∷ ramp K ∷ []) 3 0 ≡ pos 11184811
unfolding context constant gain to_input to_gain line started stopped world at_height before at_moment state reaches form mix intrinsic_at ends in_cycle arrow height muted count_rule count_at count input_value computed_value equation value_at value ramp
ramp_k-3 = refl

-- ---- a world that changes between two quanta: the gain is disconnected
cut : World
cut = world 1 (constant (pos 16777216) ∷ gain (pos 8388608) ∷ []) (to_input 1 2 ∷ [])
    (line 1 param.Offset (pos 16777216) ∷ line 2 param.Gain (pos 8388608) ∷ []) (started 1 0 ∷ [])

whole : World
whole = world 1 (constant (pos 16777216) ∷ gain (pos 8388608) ∷ []) (to_input 1 2 ∷ to_input 2 0 ∷ [])
    (line 1 param.Offset (pos 16777216) ∷ line 2 param.Gain (pos 8388608) ∷ []) (started 1 0 ∷ [])

whole-1 : sample 2 (whole ∷ cut ∷ []) 1 0 ≡ pos 8388608
unfolding context constant gain to_input to_gain line started stopped world at_height before at_moment state reaches form mix intrinsic_at ends in_cycle arrow height muted count_rule count_at count input_value computed_value equation value_at value whole cut
whole-1 = refl

cut-2 : sample 2 (whole ∷ cut ∷ []) 2 0 ≡ pos 0
unfolding context constant gain to_input to_gain line started stopped world at_height before at_moment state reaches form mix intrinsic_at ends in_cycle arrow height muted count_rule count_at count input_value computed_value equation value_at value whole cut
cut-2 = refl

-- ---- one channel into six goes to the centre
centre : World
centre = world 6 (constant (pos 5) ∷ []) (to_input 1 0 ∷ []) (line 1 param.Offset (pos 5) ∷ []) (started 1 0 ∷ [])

centre-count : count 2 (centre ∷ []) 0 (reader_of 0) ≡ 6
unfolding context constant gain to_input to_gain line started stopped world at_height before at_moment state reaches form mix intrinsic_at ends in_cycle arrow height muted count_rule count_at count input_value computed_value equation value_at value centre
centre-count = refl

centre-left : sample 2 (centre ∷ []) 0 0 ≡ pos 0
unfolding context constant gain to_input to_gain line started stopped world at_height before at_moment state reaches form mix intrinsic_at ends in_cycle arrow height muted count_rule count_at count input_value computed_value equation value_at value centre
centre-left = refl

centre-centre : sample 2 (centre ∷ []) 0 2 ≡ pos 5
unfolding context constant gain to_input to_gain line started stopped world at_height before at_moment state reaches form mix intrinsic_at ends in_cycle arrow height muted count_rule count_at count input_value computed_value equation value_at value centre
centre-centre = refl

-- a channel that the source does not have is silent
centre-source : map (value 2 (centre ∷ []) 0 (reader_of 1) 0) (0 ∷ 1 ∷ []) ≡ pos 5 ∷ pos 0 ∷ []
unfolding context constant gain to_input to_gain line started stopped world at_height before at_moment state reaches form mix intrinsic_at ends in_cycle arrow height muted count_rule count_at count input_value computed_value equation value_at value centre
centre-source = refl

-- and so is an output that it does not have
centre-output : map (λ o. value 2 (centre ∷ []) 0 (reader_of 1) o 0) (0 ∷ 1 ∷ []) ≡ pos 5 ∷ pos 0 ∷ []
unfolding context constant gain to_input to_gain line started stopped world at_height before at_moment state reaches form mix intrinsic_at ends in_cycle arrow height muted count_rule count_at count input_value computed_value equation value_at value centre
centre-output = refl

-- ---- the gain is mono in the first quantum, and in the second it is stereo with a silent right channel
stereo : Node → World
stereo node = world 2 (constant (pos 16777216) ∷ node ∷ []) (to_input 1 2 ∷ to_input 2 0 ∷ [])
    (line 1 param.Offset (pos 16777216) ∷ line 2 param.Gain (pos 16777216) ∷ []) (started 1 0 ∷ [])

stereo-counts : map (λ j. count 2 (stereo (gain (pos 16777216)) ∷ stereo (wide Discrete) ∷ []) j (reader_of 2)) (0 ∷ 1 ∷ []) ≡ 1 ∷ 2 ∷ []
unfolding context constant gain to_input wide to_gain line started stopped world at_height before at_moment state reaches form mix intrinsic_at ends in_cycle arrow height muted count_rule count_at count input_value computed_value equation value_at value stereo
stereo-counts = refl

stereo-left : map (λ f. sample 2 (stereo (gain (pos 16777216)) ∷ stereo (wide Discrete) ∷ []) f 0) (0 ∷ 1 ∷ 2 ∷ 3 ∷ []) ≡ pos 16777216 ∷ pos 16777216 ∷ pos 16777216 ∷ pos 16777216 ∷ []
unfolding context constant gain to_input wide to_gain line started stopped world at_height before at_moment state reaches form mix intrinsic_at ends in_cycle arrow height muted count_rule count_at count input_value computed_value equation value_at value stereo
stereo-left = refl

stereo-right : map (λ f. sample 2 (stereo (gain (pos 16777216)) ∷ stereo (wide Discrete) ∷ []) f 1) (0 ∷ 1 ∷ 2 ∷ 3 ∷ []) ≡ pos 16777216 ∷ pos 16777216 ∷ pos 0 ∷ pos 0 ∷ []
unfolding context constant gain to_input wide to_gain line started stopped world at_height before at_moment state reaches form mix intrinsic_at ends in_cycle arrow height muted count_rule count_at count input_value computed_value equation value_at value stereo
stereo-right = refl

-- ---- two channels, 1 and 0, into a parameter: as speakers they are one half
fed_wide : World
fed_wide = world 1 (constant (pos 16777216) ∷ wide Discrete ∷ gain (pos 0) ∷ [])
    (to_input 1 2 ∷ to_input 1 3 ∷ to_gain 2 3 ∷ to_input 3 0 ∷ [])
    (line 1 param.Offset (pos 16777216) ∷ line 2 param.Gain (pos 16777216) ∷ line 3 param.Gain (pos 0) ∷ [])
    (started 1 0 ∷ [])

fed_wide-0 : sample 2 (fed_wide ∷ []) 0 0 ≡ pos 8388608
unfolding context constant gain to_input wide to_gain line started stopped world at_height before at_moment state reaches form mix intrinsic_at ends in_cycle arrow height muted count_rule count_at count input_value computed_value equation value_at value fed_wide
fed_wide-0 = refl
