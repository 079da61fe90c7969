-- Small worlds with delays whose values antt computes, in quanta of 2 frames. At their rate a frame lasts 1,024 units.
use Rattle.std.proofs.Common.{ℕ, ◌*◌, ℤ, pos, neg_ℤ, ◌≡◌, List, [], ◌∷◌, map, true, false, refl}
use Rattle.wa_base.specs.declared.graph_names.Interp.{Interp}
use Rattle.wa_base.specs.declared.graph_names.Interp.TheVariants.{Speakers, Discrete}
use Rattle.wa_base.specs.declared.graph_names.Mode.TheVariants.{Max}
use Rattle.wa_base.specs.declared.graph_names.ParamName.TheVariants as param
use Rattle.wa_base.specs.declared.graph_names.Rate.TheVariants.{A}
use Rattle.law_base.specs.Heights.{at_height, before, at_moment, state}
use Rattle.law_base.specs.Reaching.{reaches}
use Rattle.mix_rules.specs.Mixing.{form, mix}
use Rattle.param_events.specs.Values.{value_at as intrinsic_at}
use Rattle.param_events.specs.declared.events.Event.TheVariants.{Set, Ramp}
use Rattle.node_table.specs.declared.kinds.Kind.TheVariants.{Delay}
use Rattle.node_table.specs.declared.nodes.Node.{Node}
use Rattle.node_table.specs.Nodes.{node_of}
use Rattle.conn_graph.specs.declared.edges.Edge.{Edge}
use Rattle.conn_graph.specs.declared.edges.Target.TheVariants.{Param as Parameter}
use Rattle.conn_graph.specs.Ends.{reader_of, writer_of, ends, in_cycle, arrow, height, muted}
use Rattle.meaning.specs.declared.world.World.{World}
use Rattle.meaning.specs.World.{param_id}
use Rattle.meaning.specs.Counts.{count_rule, count_at, count}
use Rattle.meaning.specs.Values.{input_value, computed_value, equation, value_at, value}
use Rattle.meaning.specs.Rendered.{sample}
use Rattle.meaning.proofs.Rows.{context, constant, gain, wide, to_input, to_gain, line, started, stopped, world}

-- a delay of at most 8 frames that is created at a frame with a delayTime of so many frames
delay : ℕ → ℕ → Node
delay birth frames = node_of (Delay (pos 8192) (pos (frames * 1024)) 8) birth

to_time : ℕ → ℕ → Edge
to_time a b = record { from = record { 0 = a }; output = 0; to = Parameter (param_id b param.DelayTime) }

at_rate : World → World
at_rate w = record w { spec = record w.spec { rate = 16384 } }

-- ---- an echo of one frame of an impulse
echo : World
echo = at_rate (world 1 (constant (pos 16777216) ∷ delay 0 1 ∷ []) (to_input 1 2 ∷ to_input 2 0 ∷ [])
    (line 1 param.Offset (pos 16777216) ∷ line 2 param.DelayTime (pos 1024) ∷ []) (stopped 1 0 1 ∷ []))

echo-frames : map (λ f. sample 2 (echo ∷ echo ∷ []) f 0) (0 ∷ 1 ∷ 2 ∷ 3 ∷ []) ≡ pos 0 ∷ pos 16777216 ∷ pos 0 ∷ pos 0 ∷ []
unfolding context constant gain to_input wide to_gain to_time line started stopped world delay at_rate at_height before at_moment state reaches form mix intrinsic_at ends in_cycle arrow height muted count_rule count_at count input_value computed_value equation value_at value echo
echo-frames = refl

-- ---- an impulse that comes back by half through a delay in a cycle, which lasts a quantum although its delayTime is 0
feedback : World
feedback = at_rate (world 1 (constant (pos 16777216) ∷ delay 0 0 ∷ gain (pos 8388608) ∷ [])
    (to_input 1 0 ∷ to_input 1 2 ∷ to_input 2 3 ∷ to_input 3 0 ∷ to_input 3 2 ∷ [])
    (line 1 param.Offset (pos 16777216) ∷ line 2 param.DelayTime (pos 0) ∷ line 3 param.Gain (pos 8388608) ∷ []) (stopped 1 0 1 ∷ []))

feedback-frames : map (λ f. sample 2 (feedback ∷ feedback ∷ feedback ∷ []) f 0) (0 ∷ 1 ∷ 2 ∷ 3 ∷ 4 ∷ 5 ∷ []) ≡ pos 16777216 ∷ pos 0 ∷ pos 8388608 ∷ pos 0 ∷ pos 4194304 ∷ pos 0 ∷ []
unfolding context constant gain to_input wide to_gain to_time line started stopped world delay at_rate at_height before at_moment state reaches form mix intrinsic_at ends in_cycle arrow height muted count_rule count_at count input_value computed_value equation value_at value feedback
feedback-frames = refl

-- ---- what was mono when it was written is heard on both channels through a stereo present, and what was stereo stays so through a mono one
through : Node → World
through node = at_rate (world 2 (constant (pos 16777216) ∷ node ∷ delay 0 2 ∷ []) (to_input 1 2 ∷ to_input 2 3 ∷ to_input 3 0 ∷ [])
    (line 1 param.Offset (pos 16777216) ∷ line 2 param.Gain (pos 16777216) ∷ line 3 param.DelayTime (pos 2048) ∷ []) (started 1 0 ∷ []))

abbrev mono_first : List World
mono_first = through (gain (pos 16777216)) ∷ through (wide Discrete) ∷ through (wide Discrete) ∷ []

abbrev stereo_first : List World
stereo_first = through (wide Discrete) ∷ through (gain (pos 16777216)) ∷ through (gain (pos 16777216)) ∷ []

mono_first-counts : map (λ j. count 2 mono_first j (reader_of 3)) (0 ∷ 1 ∷ 2 ∷ []) ≡ 1 ∷ 2 ∷ 2 ∷ []
unfolding context constant gain to_input wide to_gain to_time line started stopped world delay at_rate at_height before at_moment state reaches form mix intrinsic_at ends in_cycle arrow height muted count_rule count_at count input_value computed_value equation value_at value through
mono_first-counts = refl

mono_first-left : map (λ f. sample 2 (mono_first) f 0) (0 ∷ 1 ∷ 2 ∷ 3 ∷ 4 ∷ 5 ∷ []) ≡ pos 0 ∷ pos 0 ∷ pos 16777216 ∷ pos 16777216 ∷ pos 16777216 ∷ pos 16777216 ∷ []
unfolding context constant gain to_input wide to_gain to_time line started stopped world delay at_rate at_height before at_moment state reaches form mix intrinsic_at ends in_cycle arrow height muted count_rule count_at count input_value computed_value equation value_at value through
mono_first-left = refl

mono_first-right : map (λ f. sample 2 (mono_first) f 1) (0 ∷ 1 ∷ 2 ∷ 3 ∷ 4 ∷ 5 ∷ []) ≡ pos 0 ∷ pos 0 ∷ pos 16777216 ∷ pos 16777216 ∷ pos 0 ∷ pos 0 ∷ []
unfolding context constant gain to_input wide to_gain to_time line started stopped world delay at_rate at_height before at_moment state reaches form mix intrinsic_at ends in_cycle arrow height muted count_rule count_at count input_value computed_value equation value_at value through
mono_first-right = refl

-- the reader keeps the most channels that its writer ever had
stereo_first-counts : map (λ j. count 2 stereo_first j (reader_of 3)) (0 ∷ 1 ∷ 2 ∷ []) ≡ 2 ∷ 2 ∷ 2 ∷ []
unfolding context constant gain to_input wide to_gain to_time line started stopped world delay at_rate at_height before at_moment state reaches form mix intrinsic_at ends in_cycle arrow height muted count_rule count_at count input_value computed_value equation value_at value through
stereo_first-counts = refl

stereo_first-right : map (λ f. sample 2 (stereo_first) f 1) (0 ∷ 1 ∷ 2 ∷ 3 ∷ 4 ∷ 5 ∷ []) ≡ pos 0 ∷ pos 0 ∷ pos 0 ∷ pos 0 ∷ pos 16777216 ∷ pos 16777216 ∷ []
unfolding context constant gain to_input wide to_gain to_time line started stopped world delay at_rate at_height before at_moment state reaches form mix intrinsic_at ends in_cycle arrow height muted count_rule count_at count input_value computed_value equation value_at value through
stereo_first-right = refl

-- a mono past is mixed up by the interpretation in force when it is heard
turned : Interp → World
turned interp = at_rate (world 2 (constant (pos 16777216) ∷ wide Discrete ∷ record (delay 0 2) { attrs = record { count = 2; mode = Max; interp = interp; birth = 0 } } ∷ [])
    (to_input 1 3 ∷ to_input 3 0 ∷ [])
    (line 1 param.Offset (pos 16777216) ∷ line 2 param.Gain (pos 16777216) ∷ line 3 param.DelayTime (pos 2048) ∷ []) (started 1 0 ∷ []))

widened : Interp → World
widened interp = at_rate (world 2 (constant (pos 16777216) ∷ wide Discrete ∷ record (delay 0 2) { attrs = record { count = 2; mode = Max; interp = interp; birth = 0 } } ∷ [])
    (to_input 1 2 ∷ to_input 2 3 ∷ to_input 3 0 ∷ [])
    (line 1 param.Offset (pos 16777216) ∷ line 2 param.Gain (pos 16777216) ∷ line 3 param.DelayTime (pos 2048) ∷ []) (started 1 0 ∷ []))

turned-discrete : sample 2 (turned Speakers ∷ widened Discrete ∷ []) 2 1 ≡ pos 0
unfolding context constant gain to_input wide to_gain to_time line started stopped world delay at_rate at_height before at_moment state reaches form mix intrinsic_at ends in_cycle arrow height muted count_rule count_at count input_value computed_value equation value_at value turned widened
turned-discrete = refl

turned-speakers : sample 2 (turned Discrete ∷ widened Speakers ∷ []) 2 1 ≡ pos 16777216
unfolding context constant gain to_input wide to_gain to_time line started stopped world delay at_rate at_height before at_moment state reaches form mix intrinsic_at ends in_cycle arrow height muted count_rule count_at count input_value computed_value equation value_at value turned widened
turned-speakers = refl

-- ---- in a cycle the reader has the channels that its writer had in the quanta before
looped : World
looped = at_rate (world 1 (constant (pos 16777216) ∷ wide Discrete ∷ delay 0 0 ∷ gain (pos 8388608) ∷ [])
    (to_input 1 2 ∷ to_input 2 3 ∷ to_input 3 0 ∷ to_input 3 4 ∷ to_input 4 3 ∷ [])
    (line 1 param.Offset (pos 16777216) ∷ line 2 param.Gain (pos 16777216) ∷ line 3 param.DelayTime (pos 0) ∷ line 4 param.Gain (pos 8388608) ∷ []) (started 1 0 ∷ []))

looped-counts : map (λ j. count 2 (looped ∷ looped ∷ []) j (reader_of 3)) (0 ∷ 1 ∷ []) ≡ 1 ∷ 2 ∷ []
unfolding context constant gain to_input wide to_gain to_time line started stopped world delay at_rate at_height before at_moment state reaches form mix intrinsic_at ends in_cycle arrow height muted count_rule count_at count input_value computed_value equation value_at value looped
looped-counts = refl

looped-writer : map (λ j. count 2 (looped ∷ looped ∷ []) j (writer_of 3)) (0 ∷ 1 ∷ []) ≡ 2 ∷ 2 ∷ []
unfolding context constant gain to_input wide to_gain to_time line started stopped world delay at_rate at_height before at_moment state reaches form mix intrinsic_at ends in_cycle arrow height muted count_rule count_at count input_value computed_value equation value_at value looped
looped-writer = refl

-- ---- a delay of one frame that is born in the third quantum hears nothing of before
alone : World
alone = at_rate (world 1 (constant (pos 16777216) ∷ []) [] (line 1 param.Offset (pos 16777216) ∷ []) (started 1 0 ∷ []))

late : World
late = at_rate (world 1 (constant (pos 16777216) ∷ delay 4 1 ∷ []) (to_input 1 2 ∷ to_input 2 0 ∷ [])
    (line 1 param.Offset (pos 16777216) ∷ line 2 param.DelayTime (pos 1024) ∷ []) (started 1 0 ∷ []))

late-frames : map (λ f. sample 2 (alone ∷ alone ∷ late ∷ []) f 0) (0 ∷ 1 ∷ 2 ∷ 3 ∷ 4 ∷ 5 ∷ []) ≡ pos 0 ∷ pos 0 ∷ pos 0 ∷ pos 0 ∷ pos 0 ∷ pos 16777216 ∷ []
unfolding context constant gain to_input wide to_gain to_time line started stopped world delay at_rate at_height before at_moment state reaches form mix intrinsic_at ends in_cycle arrow height muted count_rule count_at count input_value computed_value equation value_at value alone late
late-frames = refl

-- ---- a delayTime that grows by a frame in each frame hears the first frame again and again
ramped : World
ramped = at_rate (world 1 (constant (pos 16777216) ∷ delay 0 0 ∷ []) (to_input 1 2 ∷ to_input 2 0 ∷ [])
    (line 1 param.Offset (pos 16777216) ∷ record { id = param_id 2 param.DelayTime; line = record { base = pos 0; slot = pos 0; events = Set 0 (pos 0) ∷ Ramp 4 (pos 4096) ∷ [] }; rate = A } ∷ [])
    (stopped 1 0 1 ∷ []))

ramped-frames : map (λ f. sample 2 (ramped ∷ ramped ∷ []) f 0) (0 ∷ 1 ∷ 2 ∷ 3 ∷ []) ≡ pos 16777216 ∷ pos 16777216 ∷ pos 16777216 ∷ pos 16777216 ∷ []
unfolding context constant gain to_input wide to_gain to_time line started stopped world delay at_rate at_height before at_moment state reaches form mix intrinsic_at ends in_cycle arrow height muted count_rule count_at count input_value computed_value equation value_at value ramped
ramped-frames = refl

-- ---- a delayTime beyond the longest delay is that of the longest one, of 8 frames, and one below 0 is none
beyond : ℤ → World
beyond time = at_rate (world 1 (constant (pos 16777216) ∷ delay 0 0 ∷ []) (to_input 1 2 ∷ to_input 2 0 ∷ [])
    (line 1 param.Offset (pos 16777216) ∷ line 2 param.DelayTime time ∷ []) (stopped 1 0 1 ∷ []))

beyond-8 : sample 2 (beyond (pos 99999) ∷ beyond (pos 99999) ∷ beyond (pos 99999) ∷ beyond (pos 99999) ∷ beyond (pos 99999) ∷ []) 8 0 ≡ pos 16777216
unfolding context constant gain to_input wide to_gain to_time line started stopped world delay at_rate at_height before at_moment state reaches form mix intrinsic_at ends in_cycle arrow height muted count_rule count_at count input_value computed_value equation value_at value beyond
beyond-8 = refl

beyond-0 : sample 2 (beyond (neg_ℤ (pos 2048)) ∷ []) 0 0 ≡ pos 16777216
unfolding context constant gain to_input wide to_gain to_time line started stopped world delay at_rate at_height before at_moment state reaches form mix intrinsic_at ends in_cycle arrow height muted count_rule count_at count input_value computed_value equation value_at value beyond
beyond-0 = refl

-- half a frame is a whole one
half-0 : map (λ f. sample 2 (beyond (pos 512) ∷ []) f 0) (0 ∷ 1 ∷ []) ≡ pos 0 ∷ pos 16777216 ∷ []
unfolding context constant gain to_input wide to_gain to_time line started stopped world delay at_rate at_height before at_moment state reaches form mix intrinsic_at ends in_cycle arrow height muted count_rule count_at count input_value computed_value equation value_at value beyond
half-0 = refl

half-1 : map (λ f. sample 2 (beyond (pos 511) ∷ []) f 0) (0 ∷ 1 ∷ []) ≡ pos 16777216 ∷ pos 0 ∷ []
unfolding context constant gain to_input wide to_gain to_time line started stopped world delay at_rate at_height before at_moment state reaches form mix intrinsic_at ends in_cycle arrow height muted count_rule count_at count input_value computed_value equation value_at value beyond
half-1 = refl

-- ---- two delays in one cycle last a quantum each
two : World
two = at_rate (world 1 (constant (pos 16777216) ∷ delay 0 0 ∷ delay 0 0 ∷ []) (to_input 1 2 ∷ to_input 2 0 ∷ to_input 2 3 ∷ to_input 3 2 ∷ [])
    (line 1 param.Offset (pos 16777216) ∷ line 2 param.DelayTime (pos 0) ∷ line 3 param.DelayTime (pos 0) ∷ []) (stopped 1 0 1 ∷ []))

two-frames : map (λ f. sample 2 (two ∷ two ∷ two ∷ two ∷ []) f 0) (0 ∷ 2 ∷ 4 ∷ 6 ∷ []) ≡ pos 0 ∷ pos 16777216 ∷ pos 0 ∷ pos 16777216 ∷ []
unfolding context constant gain to_input wide to_gain to_time line started stopped world delay at_rate at_height before at_moment state reaches form mix intrinsic_at ends in_cycle arrow height muted count_rule count_at count input_value computed_value equation value_at value two
two-frames = refl

-- ---- a cycle that is closed at the second quantum and cut at the fourth
opened : World
opened = at_rate (world 1 (constant (pos 4194304) ∷ delay 0 0 ∷ gain (pos 8388608) ∷ []) (to_input 1 2 ∷ to_input 2 0 ∷ [])
    (line 1 param.Offset (pos 4194304) ∷ line 2 param.DelayTime (pos 0) ∷ line 3 param.Gain (pos 8388608) ∷ []) (started 1 0 ∷ []))

closed : World
closed = at_rate (world 1 (constant (pos 4194304) ∷ delay 0 0 ∷ gain (pos 8388608) ∷ []) (to_input 1 2 ∷ to_input 2 0 ∷ to_input 2 3 ∷ to_input 3 2 ∷ [])
    (line 1 param.Offset (pos 4194304) ∷ line 2 param.DelayTime (pos 0) ∷ line 3 param.Gain (pos 8388608) ∷ []) (started 1 0 ∷ []))

closed-frames : map (λ f. sample 2 (opened ∷ closed ∷ closed ∷ opened ∷ []) f 0) (0 ∷ 1 ∷ 2 ∷ 3 ∷ 4 ∷ 5 ∷ 6 ∷ 7 ∷ []) ≡ pos 4194304 ∷ pos 4194304 ∷ pos 4194304 ∷ pos 4194304 ∷ pos 6291456 ∷ pos 6291456 ∷ pos 4194304 ∷ pos 4194304 ∷ []
unfolding context constant gain to_input wide to_gain to_time line started stopped world delay at_rate at_height before at_moment state reaches form mix intrinsic_at ends in_cycle arrow height muted count_rule count_at count input_value computed_value equation value_at value opened closed
closed-frames = refl

-- ---- a reader that is muted by its own delayTime is silent, and its writer writes on: what it wrote is heard once the reader is not
fed : World
fed = at_rate (world 1 (constant (pos 16777216) ∷ delay 0 2 ∷ []) (to_input 1 2 ∷ to_input 2 0 ∷ to_time 2 2 ∷ [])
    (line 1 param.Offset (pos 16777216) ∷ line 2 param.DelayTime (pos 2048) ∷ []) (stopped 1 1 2 ∷ []))

free : World
free = at_rate (world 1 (constant (pos 16777216) ∷ delay 0 2 ∷ []) (to_input 1 2 ∷ to_input 2 0 ∷ [])
    (line 1 param.Offset (pos 16777216) ∷ line 2 param.DelayTime (pos 2048) ∷ []) (stopped 1 1 2 ∷ []))

fed-muted : map (muted fed.graph.value) (writer_of 2 ∷ reader_of 2 ∷ []) ≡ false ∷ true ∷ []
unfolding context constant gain to_input wide to_gain to_time line started stopped world delay at_rate at_height before at_moment state reaches form mix intrinsic_at ends in_cycle arrow height muted count_rule count_at count input_value computed_value equation value_at value fed
fed-muted = refl

fed-frames : map (λ f. sample 2 (fed ∷ free ∷ []) f 0) (0 ∷ 1 ∷ 2 ∷ 3 ∷ []) ≡ pos 0 ∷ pos 0 ∷ pos 0 ∷ pos 16777216 ∷ []
unfolding context constant gain to_input wide to_gain to_time line started stopped world delay at_rate at_height before at_moment state reaches form mix intrinsic_at ends in_cycle arrow height muted count_rule count_at count input_value computed_value equation value_at value fed free
fed-frames = refl
