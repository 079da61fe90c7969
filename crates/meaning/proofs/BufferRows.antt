-- A small world with a buffer source, whose counts and values antt computes, in quanta of 2 frames.
use Rattle.std.proofs.Common.{pos, ◌≡◌, List, [], ◌∷◌, map, true, None, Some, refl}
use Rattle.wa_base.specs.declared.contexts.ContextSpec.{ContextSpec}
use Rattle.law_base.specs.Heights.{at_height, before, at_moment, state}
use Rattle.law_base.specs.Reaching.{reaches}
use Rattle.buffer_store.specs.declared.buffers.Buffer.{Buffer as AudioBuffer}
use Rattle.mix_rules.specs.Mixing.{form, mix}
use Rattle.sched_source.specs.Playback.{has_points, loop_start, loop_end, position}
use Rattle.sched_source.specs.Schedule.{buffer, plays_in, started}
use Rattle.node_table.specs.declared.kinds.Kind.TheVariants.{Buffer}
use Rattle.node_table.specs.Nodes.{destination_of, node_of}
use Rattle.conn_graph.specs.declared.edges.Target.TheVariants.{Input}
use Rattle.conn_graph.specs.Ends.{reader_of, ends, in_cycle, arrow, height, muted}
use Rattle.meaning.specs.declared.world.World.{World}
use Rattle.meaning.specs.declared.scheds.Play.{Play}
use Rattle.meaning.specs.Lists.{listed}
use Rattle.meaning.specs.World.{no_world, no_loop, bare}
use Rattle.meaning.specs.Validity.{ports_of}
use Rattle.meaning.specs.Counts.{count_rule, count_at, count}
use Rattle.meaning.specs.Values.{input_value, computed_value, equation, value_at, value}
use Rattle.meaning.specs.Rendered.{sample}

context : ContextSpec
context = record { channels = 2; length = 6; rate = 48000; quantum = 128 }

-- two channels of three frames
stereo : AudioBuffer
stereo = record { shape = record { channels = 2; frames = 3; rate = 48000; frozen = true }; samples = pos 1 ∷ pos 2 ∷ pos 3 ∷ pos 10 ∷ pos 20 ∷ pos 30 ∷ [] }

-- started at frame 1
play : Play
play = record { id = record { 0 = 1 }; sched = started (buffer 1 no_loop) 0 (pos 1) (pos 0) None 3; buffer = Some (record { 0 = 0 }); was_set = true }

one_shot : World
one_shot = record no_world {
  spec = context;
  nodes = destination_of context ∷ node_of (Buffer 1) 0 ∷ [];
  graph = bare (record { nodes = map ports_of (destination_of context ∷ node_of (Buffer 1) 0 ∷ []); edges = record { from = record { 0 = 1 }; output = 0; to = Input (record { 0 = 0 }) 0 } ∷ [] });
  scheds = listed (play ∷ []);
  store = stereo ∷ [];
}

tape : List World
tape = one_shot ∷ one_shot ∷ one_shot ∷ []

-- it has its buffer's channels in each quantum in which it sounds, and one in the last
one_shot-counts : map (λ j. count 2 tape j (reader_of 1)) (0 ∷ 1 ∷ 2 ∷ []) ≡ 2 ∷ 2 ∷ 1 ∷ []
unfolding context stereo play one_shot tape at_height before at_moment state reaches plays_in has_points loop_start loop_end position ends in_cycle arrow height muted count_rule count_at count
one_shot-counts = refl

-- each channel is heard on its own side, from frame 1 to frame 3
one_shot-left : map (λ f. sample 2 tape f 0) (0 ∷ 1 ∷ 2 ∷ 3 ∷ 4 ∷ 5 ∷ []) ≡ pos 0 ∷ pos 1 ∷ pos 2 ∷ pos 3 ∷ pos 0 ∷ pos 0 ∷ []
unfolding context stereo play one_shot tape at_height before at_moment state reaches form mix plays_in has_points loop_start loop_end position ends in_cycle arrow height muted count_rule count_at count input_value computed_value equation value_at value
one_shot-left = refl

one_shot-right : map (λ f. sample 2 tape f 1) (0 ∷ 1 ∷ 2 ∷ 3 ∷ 4 ∷ 5 ∷ []) ≡ pos 0 ∷ pos 10 ∷ pos 20 ∷ pos 30 ∷ pos 0 ∷ pos 0 ∷ []
unfolding context stereo play one_shot tape at_height before at_moment state reaches form mix plays_in has_points loop_start loop_end position ends in_cycle arrow height muted count_rule count_at count input_value computed_value equation value_at value
one_shot-right = refl
