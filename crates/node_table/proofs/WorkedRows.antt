-- What nodes of each kind have, and what they are created with, as the definitions compute it.
use Rattle.std.specs.Prelude.{neg_ℤ, is_some, option_map}
use Rattle.std.proofs.Common.{ℤ, pos, ◌≡◌, List, [], ◌∷◌, ◌++◌, None, Some, map, true, false, refl}
use Rattle.wa_base.specs.declared.contexts.ContextSpec.{ContextSpec}
use Rattle.wa_base.specs.declared.exceptions.Exc.TheVariants.{NotSupported, InvalidState, IndexSize, WrongType}
use Rattle.wa_base.specs.declared.features.Feature.TheVariants.{PlaybackRate, LongDelay, DelayLimit, LoudResponse}
use Rattle.wa_base.specs.declared.graph_names.Interp.TheVariants.{Speakers, Discrete}
use Rattle.wa_base.specs.declared.graph_names.Mode.TheVariants.{Max, ClampedMax, Explicit}
use Rattle.wa_base.specs.declared.graph_names.ParamName.TheVariants as param
use Rattle.node_table.specs.declared.code.Instr.TheVariants.{Input, Load, Store, Add, Div, Dup}
use Rattle.node_table.specs.declared.equation.Equation.TheVariants.{Filter, Convolution, Processor}
use Rattle.node_table.specs.declared.kinds.Kind.{Kind}
use Rattle.node_table.specs.declared.kinds.Kind.TheVariants.{Destination, Constant, Buffer, Gain, Delay, Splitter, Merger, Shaper, Causal}
use Rattle.node_table.specs.Kinds.{row, is_destination, inputs, outputs, is_delay_kind, param_name, lasting, remembers, with_curve, set_curve_refusal}
use Rattle.node_table.specs.Nodes.{destination_of, node_of, creation_refusal, count_refusal, mode_refusal, kind_at, attrs_at}

-- a node with the equation of a filter
abbrev filter : (forward back : List ℤ) → Kind
filter forward back = Causal (Filter forward back)

abbrev kinds : List Kind
kinds = Destination ∷ Constant (pos 5) ∷ Buffer 2 ∷ Gain (pos 7) ∷ Delay (pos 16777216) (pos 9) 48000 ∷ Splitter 3 ∷ Merger 4 ∷ Shaper None false ∷ filter (pos 1 ∷ []) (pos 2 ∷ []) ∷ []

-- the ports of each kind
inputs-kinds : map inputs kinds ≡ 1 ∷ 0 ∷ 0 ∷ 1 ∷ 1 ∷ 1 ∷ 4 ∷ 1 ∷ 1 ∷ []
inputs-kinds = refl

outputs-kinds : map outputs kinds ≡ 1 ∷ 1 ∷ 1 ∷ 1 ∷ 1 ∷ 3 ∷ 1 ∷ 1 ∷ 1 ∷ []
outputs-kinds = refl

is_destination-kinds : map is_destination kinds ≡ true ∷ false ∷ false ∷ false ∷ false ∷ false ∷ false ∷ false ∷ false ∷ []
is_destination-kinds = refl

is_delay_kind-kinds : map is_delay_kind kinds ≡ false ∷ false ∷ false ∷ false ∷ true ∷ false ∷ false ∷ false ∷ false ∷ []
is_delay_kind-kinds = refl

-- the parameters of each kind, with the values that they are created with
names-kinds : map param_name kinds ≡ None ∷ Some param.Offset ∷ None ∷ Some param.Gain ∷ Some param.DelayTime ∷ None ∷ None ∷ None ∷ None ∷ []
names-kinds = refl

values-kinds : map (λ kind. option_map (λ p. p.value) (row kind).param) kinds ≡ None ∷ Some (pos 5) ∷ None ∷ Some (pos 7) ∷ Some (pos 9) ∷ None ∷ None ∷ None ∷ None ∷ []
values-kinds = refl

-- the attributes of the destination of a context with six channels, and of a node that is created at frame 1,280
abbrev context : ContextSpec
context = record { channels = 6; length = 4; rate = 48000; quantum = 128 }

attrs-destination : attrs_at (destination_of context ∷ []) 0 ≡ Some (record { count = 6; mode = Explicit; interp = Speakers; birth = 0 })
attrs-destination = refl

kind-destination : kind_at (destination_of context ∷ []) 0 ≡ Some Destination
kind-destination = refl

attrs-created : map (attrs_at (destination_of context ∷ node_of (Gain (pos 7)) 1280 ∷ [])) (1 ∷ 2 ∷ [])
    ≡ Some (record { count = 2; mode = Max; interp = Speakers; birth = 1280 }) ∷ None ∷ []
attrs-created = refl

-- a source and a gain may get another count and another mode; of the destination, a splitter and a merger both are fixed, and of a splitter the interpretation too
fixed : map (λ kind. (row kind).fixed.count) kinds ≡ true ∷ false ∷ false ∷ false ∷ false ∷ true ∷ true ∷ false ∷ false ∷ []
fixed = refl

fixed_modes : map (λ kind. (row kind).fixed.mode) kinds ≡ true ∷ false ∷ false ∷ false ∷ false ∷ true ∷ true ∷ false ∷ false ∷ []
fixed_modes = refl

fixed_interps : map (λ kind. (row kind).fixed.interp) kinds ≡ false ∷ false ∷ false ∷ false ∷ false ∷ true ∷ false ∷ false ∷ false ∷ []
fixed_interps = refl

kind-created : map (kind_at (destination_of context ∷ node_of (Gain (pos 7)) 1280 ∷ [])) (1 ∷ 2 ∷ []) ≡ Some (Gain (pos 7)) ∷ None ∷ []
kind-created = refl

-- a splitter of three outputs, a merger of four inputs and a shaper at their creation
attrs-ports : map (λ kind. (node_of kind 0).attrs) (Splitter 3 ∷ Merger 4 ∷ Shaper None false ∷ [])
    ≡ record { count = 3; mode = Explicit; interp = Discrete; birth = 0 } ∷ record { count = 1; mode = Explicit; interp = Speakers; birth = 0 } ∷ record { count = 2; mode = Max; interp = Speakers; birth = 0 } ∷ []
attrs-ports = refl

-- 0 and 33 ports are refused, before there is too little room
refused-ports : map (creation_refusal (destination_of context ∷ [])) (Splitter 0 ∷ Splitter 33 ∷ Merger 0 ∷ Merger 33 ∷ Splitter 1 ∷ Merger 32 ∷ [])
    ≡ Some IndexSize ∷ Some IndexSize ∷ Some IndexSize ∷ Some IndexSize ∷ None ∷ None ∷ []
refused-ports = refl

-- a rate of 0 is refused; no other is
refused-rates : map (creation_refusal (destination_of context ∷ [])) (Buffer 0 ∷ Buffer 1 ∷ Buffer 127 ∷ []) ≡ Some (NotSupported (Some PlaybackRate)) ∷ None ∷ None ∷ []
refused-rates = refl

-- of a splitter with three outputs the count 3 may be set, and no other; 0 and 33 are no counts at all
refused-counts : map (λ count. count_refusal count (node_of (Splitter 3) 0)) (3 ∷ 2 ∷ 0 ∷ 33 ∷ []) ≡ None ∷ Some InvalidState ∷ Some (NotSupported None) ∷ Some (NotSupported None) ∷ []
refused-counts = refl

-- ---- shapers

abbrev line : List ℤ
line = neg_ℤ (pos 8388608) ∷ pos 0 ∷ pos 8388608 ∷ []

-- a curve of one point is refused at the creation; none, and one of two points, are not
refused-curves : map (λ curve. creation_refusal (destination_of context ∷ []) (Shaper curve (is_some curve))) (Some (pos 5 ∷ []) ∷ Some [] ∷ None ∷ Some (pos 5 ∷ pos 7 ∷ []) ∷ [])
    ≡ Some InvalidState ∷ Some InvalidState ∷ None ∷ None ∷ []
refused-curves = refl

-- A second curve is refused, also after the first was taken away. None never is.
refused-second : map (λ kind. set_curve_refusal (Some line) kind) (Shaper None false ∷ Shaper (Some line) true ∷ Shaper None true ∷ Gain (pos 7) ∷ [])
    ≡ None ∷ Some InvalidState ∷ Some InvalidState ∷ Some WrongType ∷ []
refused-second = refl

refused-none : map (λ kind. set_curve_refusal None kind) (Shaper None false ∷ Shaper (Some line) true ∷ Shaper None true ∷ Destination ∷ []) ≡ None ∷ None ∷ None ∷ Some WrongType ∷ []
refused-none = refl

-- that a curve was set is remembered
curve-taken : with_curve None (with_curve (Some line) (Shaper None false)) ≡ Shaper None true
curve-taken = refl

-- a shaper lasts, whatever its curve
lasting-shaper : lasting (Shaper (Some line) true) ≡ lasting (Shaper None false)
lasting-shaper = refl

-- ---- filters

-- A list of no coefficient, feedforward coefficients that are all 0, and feedback[0] that is 0 are refused, in this order.
refused-filters : map (λ kind. creation_refusal (destination_of context ∷ []) kind) (filter [] (pos 1 ∷ []) ∷ filter (pos 0 ∷ []) [] ∷ filter (pos 0 ∷ []) (pos 0 ∷ []) ∷ filter (pos 1 ∷ []) (pos 0 ∷ pos 1 ∷ []) ∷ filter (pos 0 ∷ pos 1 ∷ []) (pos 1 ∷ []) ∷ [])
    ≡ Some (NotSupported None) ∷ Some (NotSupported None) ∷ Some InvalidState ∷ Some InvalidState ∷ None ∷ []
refused-filters = refl

-- ---- convolvers

abbrev convolver : List ℤ → Kind
convolver response = Causal (Convolution response)

-- a convolver takes in one or two channels at its creation
attrs-convolver : (node_of (convolver []) 128).attrs ≡ record { count = 2; mode = ClampedMax; interp = Speakers; birth = 128 }
attrs-convolver = refl

-- of a convolver 1 and 2 may be set, of a filter 32 too
convolver-counts : map (λ count. count_refusal count (node_of (convolver []) 0)) (0 ∷ 1 ∷ 2 ∷ 3 ∷ 32 ∷ 33 ∷ [])
    ≡ Some (NotSupported None) ∷ None ∷ None ∷ Some (NotSupported None) ∷ Some (NotSupported None) ∷ Some (NotSupported None) ∷ []
convolver-counts = refl

filter-counts : map (λ count. count_refusal count (node_of (filter (pos 1 ∷ []) (pos 1 ∷ [])) 0)) (0 ∷ 3 ∷ 32 ∷ 33 ∷ []) ≡ Some (NotSupported None) ∷ None ∷ None ∷ Some (NotSupported None) ∷ []
filter-counts = refl

-- of a convolver every mode but the first may be set, of a filter that one too
convolver-modes : map (λ mode. mode_refusal mode (node_of (convolver []) 0)) (Max ∷ ClampedMax ∷ Explicit ∷ []) ≡ Some (NotSupported None) ∷ None ∷ None ∷ []
convolver-modes = refl

filter-modes : map (λ mode. mode_refusal mode (node_of (filter (pos 1 ∷ []) (pos 1 ∷ [])) 0)) (Max ∷ ClampedMax ∷ Explicit ∷ []) ≡ None ∷ None ∷ None ∷ []
filter-modes = refl

-- a sample of 2.0 is not too loud, and one further from 0 is
refused-responses : map (λ sample. creation_refusal (destination_of context ∷ []) (convolver (pos 1 ∷ sample ∷ []))) (pos 33554432 ∷ neg_ℤ (pos 33554432) ∷ pos 33554433 ∷ neg_ℤ (pos 33554433) ∷ [])
    ≡ None ∷ None ∷ Some (NotSupported (Some LoudResponse)) ∷ Some (NotSupported (Some LoudResponse)) ∷ []
refused-responses = refl

-- ---- processors

-- half of the sum of the input and the last output
abbrev average : Kind
average = Causal (Processor (Load 0 ∷ Input ∷ Add ∷ Div 2 ∷ Dup ∷ Store 0 ∷ []))

-- a processor has one input and one output, no parameter, and takes in one or two channels at its creation
ports-processor : map inputs (average ∷ []) ++ map outputs (average ∷ []) ≡ 1 ∷ 1 ∷ []
ports-processor = refl

name-processor : param_name average ≡ None
name-processor = refl

attrs-processor : (node_of average 128).attrs ≡ record { count = 2; mode = Max; interp = Speakers; birth = 128 }
attrs-processor = refl

-- it may have up to 32 channels, and any mode
processor-counts : map (λ count. count_refusal count (node_of average 0)) (0 ∷ 1 ∷ 32 ∷ 33 ∷ []) ≡ Some (NotSupported None) ∷ None ∷ None ∷ Some (NotSupported None) ∷ []
processor-counts = refl

processor-modes : map (λ mode. mode_refusal mode (node_of average 0)) (Max ∷ ClampedMax ∷ Explicit ∷ []) ≡ None ∷ None ∷ None ∷ []
processor-modes = refl

-- it is never refused by what it is created with, and remembers all that it took in
created-processor : creation_refusal (destination_of context ∷ []) average ≡ None
created-processor = refl

remembering-processor : remembers average ≡ true
remembering-processor = refl

-- of those kinds filters alone remember all that they took in
remembering : map remembers kinds ≡ false ∷ false ∷ false ∷ false ∷ false ∷ false ∷ false ∷ false ∷ true ∷ []
remembering = refl

-- ---- delays

-- A longest delay of 0 or less is refused, and one above 16 seconds by its feature; whether the value of delayTime is longer, or below 0, is no matter.
refused-delays : map (λ longest. creation_refusal (destination_of context ∷ []) (Delay longest (pos 536870912) 128)) (pos 0 ∷ neg_ℤ (pos 1) ∷ pos 1 ∷ pos 268435456 ∷ pos 268435457 ∷ [])
    ≡ Some (NotSupported None) ∷ Some (NotSupported None) ∷ None ∷ None ∷ Some (NotSupported (Some LongDelay)) ∷ []
refused-delays = refl

-- beside two delays of 1,536,000 frames there is room for 1,122,304 frames and no more; other nodes need none
abbrev long_delay : Kind
long_delay = Delay (pos 268435456) (pos 0) 1536000

refused-capacities : map (creation_refusal (destination_of context ∷ node_of long_delay 0 ∷ node_of (Gain (pos 7)) 0 ∷ node_of long_delay 0 ∷ [])) (Delay (pos 1) (pos 0) 1122304 ∷ Delay (pos 1) (pos 0) 1122305 ∷ long_delay ∷ Gain (pos 7) ∷ [])
    ≡ None ∷ Some (NotSupported (Some DelayLimit)) ∷ Some (NotSupported (Some DelayLimit)) ∷ None ∷ []
refused-capacities = refl
