-- What is heard of filters and shapers in a graph with a cycle (Rendering an Audio Graph, muted nodes), in quanta of 2 frames.
use Rattle.std.specs.Prelude.{negsuc}
use Rattle.law_base.specs.Heights.{at_height, before, at_moment, state}
use Rattle.law_base.specs.Reaching.{reaches}
use Rattle.mix_rules.specs.Mixing.{form, mix}
use Rattle.param_events.specs.Values.{value_at as intrinsic_at}
use Rattle.node_table.specs.declared.equation.Equation.TheVariants.{Filter}
use Rattle.conn_graph.specs.Ends.{ends, in_cycle, arrow, height, muted}
use Rattle.node_table.specs.declared.kinds.Kind.TheVariants as kind
use Rattle.script_ast.specs.declared.operations.Op.TheVariants as op
use Rattle.script_ast.specs.declared.operations.Oversample.TheVariants.{Off}
use Rattle.meaning.specs.declared.world.World.{World}
use Rattle.meaning.specs.Counts.{count_rule, count_at, count}
use Rattle.meaning.specs.Values.{input_value, computed_value, equation, value_at, value}
use Rattle.meaning.specs.Rendered.{sample}
use Rattle.definition_rows.proofs.Machines.{ℕ, ℤ, pos, ◌≡◌, List, [], ◌∷◌, ◌++◌, map, codes, None, Some, true, refl, Op, first_machine, stepped, after, one, context, dest, c, w, b}

-- a constant 1 into a node n, and that to the destination
abbrev heard : Op → List Op
heard creation =
    op.Create c (kind.Constant one) ∷ creation ∷ op.Connect c 0 (codes "n") 0 ∷ op.Connect (codes "n") 0 dest 0 ∷ op.Start c (pos 0) (pos 0) None ∷ []

-- the node is led back to itself
abbrev ring : List Op
ring = op.Connect (codes "n") 0 (codes "n") 0 ∷ []

abbrev world : List Op → World
world calls = (after (first_machine (context 48000)) calls).world

-- the node is heard for a quantum, is in a cycle for one, and is heard again
abbrev played : Op → List ℤ
played creation = map (λ frame. sample 2 (world (heard creation) ∷ world (heard creation ++ ring) ∷ world (heard creation) ∷ []) frame 0) (0 ∷ 1 ∷ 2 ∷ 3 ∷ 4 ∷ 5 ∷ [])

-- y[n] = x[n] + y[n - 1] / 2: while it is muted it hears silence, and what it remembers fades
filter_heard : played (op.Create (codes "n") (kind.Causal (Filter (one ∷ []) (one ∷ negsuc 8388607 ∷ [])))) ≡ one ∷ pos 25165824 ∷ pos 0 ∷ pos 0 ∷ pos 19922944 ∷ pos 26738688 ∷ []
unfolding stepped after at_height before at_moment state reaches form mix intrinsic_at ends in_cycle arrow height muted count_rule count_at count input_value computed_value equation value_at value
filter_heard = refl

-- a response of 1 and then 1/2: y[n] = x[n] + x[n - 1] / 2, where what was muted is silence to it
abbrev echoed : List Op
echoed = op.CreateBuffer b 1 2 48000 ∷ op.CopyToChannel b 0 (one ∷ pos 8388608 ∷ []) 0 ∷ heard (op.CreateConvolver (codes "n") (Some b) true)

convolver_heard : map (λ frame. sample 2 (world echoed ∷ world (echoed ++ ring) ∷ world echoed ∷ []) frame 0) (0 ∷ 1 ∷ 2 ∷ 3 ∷ 4 ∷ 5 ∷ []) ≡ one ∷ pos 25165824 ∷ pos 0 ∷ pos 0 ∷ one ∷ pos 25165824 ∷ []
unfolding stepped after at_height before at_moment state reaches form mix intrinsic_at ends in_cycle arrow height muted count_rule count_at count input_value computed_value equation value_at value
convolver_heard = refl

-- a curve from 1/4 over 1/2 to 3/4 gives 1/2 for silence, but a muted shaper is silent itself
abbrev shaper : List ℕ → Op
shaper name = op.CreateWaveShaper name (Some (pos 4194304 ∷ pos 8388608 ∷ pos 12582912 ∷ [])) Off

shaper_heard : played (shaper (codes "n")) ≡ pos 12582912 ∷ pos 12582912 ∷ pos 0 ∷ pos 0 ∷ pos 12582912 ∷ pos 12582912 ∷ []
unfolding stepped after at_height before at_moment state reaches form mix intrinsic_at ends in_cycle arrow height muted count_rule count_at count input_value computed_value equation value_at value
shaper_heard = refl

-- behind a muted node a shaper hears silence, and gives what its curve has for that
abbrev behind : List Op
behind = shaper w ∷ op.Disconnect (codes "n") None (Some dest) None ∷ op.Connect (codes "n") 0 w 0 ∷ op.Connect w 0 dest 0 ∷ []

abbrev gained : List Op
gained = heard (op.Create (codes "n") (kind.Gain one))

behind_heard : map (λ frame. sample 2 (world (gained ++ behind) ∷ world (gained ++ ring ++ behind) ∷ []) frame 0) (0 ∷ 1 ∷ 2 ∷ 3 ∷ []) ≡ pos 12582912 ∷ pos 12582912 ∷ pos 8388608 ∷ pos 8388608 ∷ []
unfolding stepped after at_height before at_moment state reaches form mix intrinsic_at ends in_cycle arrow height muted count_rule count_at count input_value computed_value equation value_at value
behind_heard = refl
