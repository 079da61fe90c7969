-- Connections between nodes and to parameters (AudioNode): what is refused, and in which order.
use Rattle.wa_base.specs.declared.features.Feature.TheVariants as feature
use Rattle.wa_base.specs.declared.graph_names.ParamName.TheVariants as param
use Rattle.conn_graph.specs.declared.edges.Edge.{Edge}
use Rattle.conn_graph.specs.declared.edges.Target.TheVariants.{Input, Param}
use Rattle.script_ast.specs.declared.operations.Op.TheVariants as op
use Rattle.transcript.specs.declared.lines.Answer.TheVariants.{Ok}
use Rattle.meaning.specs.World.{bare, param_id}
use Rattle.definition_rows.proofs.Machines.{ℕ, ◌≡◌, List, [], ◌∷◌, replicate, codes, Option, None, Some, refl, InvalidAccess, IndexSize, WrongType, Op, Machine, stepped, after, ◌gives◌, Answers, throw, profile, studio, dest, c, g, s, d, p, m, b, nobody, offset, gain, delay_time, playback_rate, detune}

-- ---- connect: both nodes, then no output of the destination, then the output, then the input
abbrev connect : List ℕ → ℕ → List ℕ → ℕ → Op
connect from output to input = op.Connect from output to input

connects : Answers studio (
    connect nobody 0 g 0 gives throw WrongType ∷ connect b 0 g 0 gives throw WrongType ∷ connect c 0 nobody 0 gives throw WrongType ∷ connect c 9 b 9 gives throw WrongType ∷ connect dest 0 nobody 0 gives throw WrongType
    ∷ connect dest 0 g 0 gives profile feature.DestinationOutput ∷ connect dest 1 g 1 gives profile feature.DestinationOutput ∷ connect c 0 g 0 gives Ok ∷ connect c 1 g 0 gives throw IndexSize ∷ connect c 0 g 1 gives throw IndexSize
    ∷ connect c 0 s 0 gives throw IndexSize ∷ connect p 2 m 2 gives Ok ∷ connect p 3 m 2 gives throw IndexSize ∷ connect p 2 m 3 gives throw IndexSize ∷ connect g 0 dest 0 gives Ok ∷ connect g 0 g 0 gives Ok ∷ [])
unfolding stepped after studio
connects = refl

-- ---- connectParam: both nodes and the parameter, then no output of the destination, then a parameter of the profile, then the output
abbrev feed : List ℕ → ℕ → List ℕ → List ℕ → Op
feed from output to param = op.ConnectParam from output to param

feeds : Answers studio (
    feed nobody 0 g gain gives throw WrongType ∷ feed dest 0 nobody gain gives throw WrongType ∷ feed dest 0 g (codes "volume") gives throw WrongType ∷ feed dest 0 g offset gives throw WrongType
    ∷ feed dest 0 g detune gives throw WrongType ∷ feed dest 1 s playback_rate gives profile feature.DestinationOutput ∷ feed dest 1 s detune gives profile feature.DestinationOutput
    ∷ feed dest 1 g gain gives profile feature.DestinationOutput ∷ feed c 1 s playback_rate gives profile feature.PlaybackRateAutomation ∷ feed c 1 s detune gives profile feature.Detune ∷ feed c 1 g gain gives throw IndexSize
    ∷ feed c 1 g [] gives throw WrongType ∷ feed c 0 g gain gives Ok ∷ feed c 0 c offset gives Ok ∷ feed p 2 d delay_time gives Ok ∷ feed p 3 d delay_time gives throw IndexSize ∷ [])
unfolding stepped after studio
feeds = refl

-- ---- the limit: 8,192 connections. One that is there already is accepted again.
abbrev edge : ℕ → ℕ → Edge
edge from to = record { from = record { 0 = from }; output = 0; to = Input (record { 0 = to }) 0 }

-- so many connections from the source to the merger
abbrev with_connections : ℕ → Machine
with_connections count =
    record studio { world = record studio.world { graph = bare (record studio.world.graph.value { edges = replicate count (edge 1 7) }) } }

limit : Answers (with_connections 8191) (connect c 0 g 0 gives Ok ∷ feed c 0 g gain gives Ok ∷ [])
    × Answers (with_connections 8192) (
    connect dest 0 g 0 gives profile feature.DestinationOutput ∷ connect c 1 g 0 gives throw IndexSize ∷ connect c 0 g 1 gives throw IndexSize ∷ connect c 0 g 0 gives profile feature.ConnectionLimit ∷ connect c 0 m 0 gives Ok
    ∷ feed c 1 g gain gives throw IndexSize ∷ feed c 0 s detune gives profile feature.Detune ∷ feed c 0 g gain gives profile feature.ConnectionLimit ∷ [])
unfolding stepped after studio
limit = (refl, refl)

-- ---- disconnect: both nodes, then no output of the destination, then the output, then the input, then a connection that the form means where it has a node

-- c to g and to its gain, the splitter's second output to the merger's third input, and the last call once more
wired : Machine
wired = after studio (connect c 0 g 0 ∷ feed c 0 g gain ∷ connect p 1 m 2 ∷ connect p 1 m 2 ∷ [])

abbrev cut : List ℕ → Option ℕ → Option (List ℕ) → Option ℕ → Op
cut from output to input = op.Disconnect from output to input

cuts : Answers wired (
    cut nobody None None None gives throw WrongType ∷ cut b (Some 9) None None gives throw WrongType ∷ cut dest (Some 9) (Some nobody) None gives throw WrongType ∷ cut c (Some 9) (Some b) (Some 9) gives throw WrongType
    ∷ cut dest None None None gives profile feature.DestinationOutput ∷ cut dest (Some 9) (Some g) (Some 9) gives profile feature.DestinationOutput ∷ cut m None None None gives Ok ∷ cut m (Some 0) None None gives Ok
    ∷ cut m (Some 1) None None gives throw IndexSize ∷ cut c None (Some g) None gives Ok ∷ cut c None (Some m) None gives throw InvalidAccess ∷ cut p (Some 1) (Some m) None gives Ok
    ∷ cut p (Some 0) (Some m) None gives throw InvalidAccess ∷ cut p (Some 3) (Some g) None gives throw IndexSize ∷ cut p (Some 1) (Some m) (Some 2) gives Ok ∷ cut p (Some 1) (Some m) (Some 1) gives throw InvalidAccess
    ∷ cut p (Some 0) (Some m) (Some 3) gives throw IndexSize ∷ cut p (Some 3) (Some m) (Some 2) gives throw IndexSize ∷ [])
unfolding stepped after studio wired
cuts = refl

-- a form with a node leaves what leads to the node's parameters, and is refused the second time
abbrev to_gain : Edge
to_gain = record { from = record { 0 = 1 }; output = 0; to = Param (param_id 2 param.Gain) }

edges : (wired.world.graph.value.edges ≡ edge 1 2 ∷ to_gain ∷ record { from = record { 0 = 6 }; output = 1; to = Input (record { 0 = 7 }) 2 } ∷ [])
    × ((after wired (cut c None (Some g) None ∷ cut p None None None ∷ [])).world.graph.value.edges ≡ to_gain ∷ [])
    × Answers (after wired (cut c None (Some g) None ∷ [])) (cut c None (Some g) None gives throw InvalidAccess ∷ [])
unfolding stepped after studio wired
edges = (refl, refl, refl)

-- ---- disconnectParam: as connectParam, and then a connection
abbrev starve : List ℕ → List ℕ → List ℕ → Option ℕ → Op
starve from to param output = op.DisconnectParam from to param output

starves : Answers wired (
    starve nobody g gain None gives throw WrongType ∷ starve dest nobody gain None gives throw WrongType ∷ starve dest g (codes "volume") None gives throw WrongType ∷ starve dest g playback_rate None gives throw WrongType
    ∷ starve dest s playback_rate (Some 9) gives profile feature.DestinationOutput ∷ starve dest s detune None gives profile feature.DestinationOutput ∷ starve dest g gain (Some 9) gives profile feature.DestinationOutput
    ∷ starve c s playback_rate (Some 1) gives profile feature.PlaybackRateAutomation ∷ starve c s detune (Some 1) gives profile feature.Detune ∷ starve c d delay_time (Some 1) gives throw IndexSize
    ∷ starve c d delay_time (Some 0) gives throw InvalidAccess ∷ starve c d delay_time None gives throw InvalidAccess ∷ starve c g gain None gives Ok ∷ starve c g gain (Some 0) gives Ok ∷ starve c g gain (Some 1) gives throw IndexSize
    ∷ starve p g gain (Some 2) gives throw InvalidAccess ∷ [])
unfolding stepped after studio wired
starves = refl
