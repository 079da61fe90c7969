-- The numbers of a key.
use Rattle.std.specs.Prelude.{ℕ}
use Rattle.wa_base.specs.declared.graph_names.End.{End}
use Rattle.wa_base.specs.declared.graph_names.ParamName.{ParamName}
use Rattle.wa_base.specs.declared.graph_names.ParamName.TheVariants.{Offset, Gain, DelayTime, PlaybackRate, Detune}
use Rattle.conn_graph.specs.Ends.{reader_of}
use Rattle.explain.specs.declared.facts.Key.{Key}
use Rattle.explain.specs.declared.facts.Key.TheVariants.{Count, Inlet, Par, Hist, Out}
use Rattle.derivations.specs.declared.known.Name.{Name}

abbrev pub number_of : ParamName → ℕ
number_of Offset = 0
number_of Gain = 1
number_of DelayTime = 2
number_of PlaybackRate = 3
number_of Detune = 4

abbrev pub name_at : ℕ → ℕ → End → ℕ → ℕ → Name
name_at form moment end port channel = record { form = form; moment = moment; node = end.node.0; writer = end.writer; port = port; channel = channel }

abbrev pub name_of : Key → Name
name_of (Count j e o) = name_at 0 j e o 0
name_of (Inlet f e i c) = name_at 1 f e i c
name_of (Par f node name) = name_at 2 f (reader_of node.0) (number_of name) 0
name_of (Hist f node c) = name_at 3 f (reader_of node.0) 0 c
name_of (Out f e o c) = name_at 4 f e o c
