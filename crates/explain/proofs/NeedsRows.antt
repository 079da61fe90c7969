-- What facts need in small worlds, in their order, in quanta of 2 frames.
use Rattle.std.proofs.Common.{ℕ, pos, ◌≡◌, List, [], ◌∷◌, refl}
use Rattle.wa_base.specs.declared.graph_names.ParamName.TheVariants as param
use Rattle.wa_base.specs.declared.graph_names.Rate.TheVariants.{K}
use Rattle.law_base.specs.Reaching.{reaches}
use Rattle.param_events.specs.Values.{value_at as intrinsic_at}
use Rattle.node_table.specs.Nodes.{node_of}
use Rattle.node_table.specs.declared.equation.Equation.{Equation}
use Rattle.node_table.specs.declared.equation.Equation.TheVariants.{Filter, Convolution, Processor}
use Rattle.node_table.specs.declared.kinds.Kind.TheVariants.{Delay, Causal}
use Rattle.conn_graph.specs.Ends.{writer_of, reader_of, ends, in_cycle, arrow, height, muted}
use Rattle.meaning.specs.declared.world.World.{World}
use Rattle.meaning.specs.Values.{computed_value}
use Rattle.meaning.proofs.Rows.{context, constant, gain, to_input, to_gain, line, started, world}
use Rattle.explain.specs.declared.facts.Key.{Key}
use Rattle.explain.specs.declared.facts.Key.TheVariants.{Count, Inlet, Par, Hist, Out}
use Rattle.explain.specs.Accounts.{Account}
use Rattle.explain.specs.Needs.{needs}

-- each end has one channel
mono : Account
mono = record { counts = λ j e. 1; values = λ f e o c. pos 0 }

-- a source, a node that hears it from frame 2 on, and the destination
heard_by : Equation → List World
heard_by equation =
    let w = world 1 (constant (pos 16777216) ∷ node_of (Causal equation) 2 ∷ []) (to_input 1 2 ∷ to_input 2 0 ∷ []) (line 1 param.Offset (pos 16777216) ∷ []) (started 1 0 ∷ []) in
    w ∷ w ∷ w ∷ w ∷ []

hist : ℕ → Key
hist f = Hist f (record { 0 = 2 }) 0

count : ℕ → Key
count j = Count j (reader_of 2) 0

input : ℕ → Key
input f = Inlet f (reader_of 2) 0 0

-- a filter of two feedforward and three feedback coefficients reads two inputs and two results, and none of before its birth
filter-needs : needs 2 (heard_by (Filter (pos 1 ∷ pos 0 ∷ []) (pos 1 ∷ pos 0 ∷ pos 0 ∷ []))) mono (hist 5) ≡ count 2 ∷ input 5 ∷ count 2 ∷ input 4 ∷ hist 4 ∷ hist 3 ∷ []
unfolding context constant to_input line started world reaches ends in_cycle arrow height muted needs mono heard_by hist count input
filter-needs = refl

filter-young : needs 2 (heard_by (Filter (pos 1 ∷ pos 0 ∷ []) (pos 1 ∷ pos 0 ∷ pos 0 ∷ []))) mono (hist 2) ≡ count 1 ∷ input 2 ∷ []
unfolding context constant to_input line started world reaches ends in_cycle arrow height muted needs mono heard_by hist count input
filter-young = refl

-- a convolver reads an input for each sample of its response, and without one nothing
convolver-needs : needs 2 (heard_by (Convolution (pos 1 ∷ pos 0 ∷ pos 2 ∷ []))) mono (hist 6) ≡ count 3 ∷ input 6 ∷ count 2 ∷ input 5 ∷ count 2 ∷ input 4 ∷ []
unfolding context constant to_input line started world reaches ends in_cycle arrow height muted needs mono heard_by hist count input
convolver-needs = refl

convolver-none : needs 2 (heard_by (Convolution [])) mono (hist 6) ≡ []
unfolding context constant to_input line started world reaches ends in_cycle arrow height muted needs mono heard_by hist count input
convolver-none = refl

-- a processor reads its input, and what it left at the frame before
processor-needs : needs 2 (heard_by (Processor [])) mono (hist 4) ≡ count 2 ∷ input 4 ∷ hist 3 ∷ []
unfolding context constant to_input line started world reaches ends in_cycle arrow height muted needs mono heard_by hist count input
processor-needs = refl

-- its output needs its channels and its history
processor-output : needs 2 (heard_by (Processor [])) mono (Out 4 (reader_of 2) 0 0) ≡ count 2 ∷ hist 4 ∷ []
unfolding context constant to_input line started world reaches ends in_cycle arrow height muted needs mono heard_by hist count input
processor-output = refl

-- an absent channel needs the number of channels alone, and its history no input
absent-output : needs 2 (heard_by (Processor [])) mono (Out 4 (reader_of 2) 0 1) ≡ count 2 ∷ []
unfolding context constant to_input line started world reaches ends in_cycle arrow height muted needs mono heard_by hist count input
absent-output = refl

absent-history : needs 2 (heard_by (Processor [])) mono (Hist 4 (record { 0 = 2 }) 1) ≡ count 2 ∷ Hist 3 (record { 0 = 2 }) 1 ∷ []
unfolding context constant to_input line started world reaches ends in_cycle arrow height muted needs mono heard_by hist count input
absent-history = refl

-- a gain whose parameter is driven by a source, at k-rate
driven : List World
driven =
    let w = world 1 (constant (pos 16777216) ∷ gain (pos 0) ∷ []) (to_input 1 2 ∷ to_gain 1 2 ∷ to_input 2 0 ∷ [])
    (line 1 param.Offset (pos 16777216) ∷ record (line 2 param.Gain (pos 0)) { rate = K } ∷ []) (started 1 0 ∷ []) in
    w ∷ w ∷ []

gain-output : needs 2 driven mono (Out 3 (reader_of 2) 0 0) ≡ count 1 ∷ Par 3 (record { 0 = 2 }) param.Gain ∷ input 3 ∷ []
unfolding context constant gain to_input to_gain line started world reaches ends in_cycle arrow height muted needs mono driven count input
gain-output = refl

gain-param : needs 2 driven mono (Par 3 (record { 0 = 2 }) param.Gain) ≡ Count 1 (reader_of 1) 0 ∷ Out 2 (reader_of 1) 0 0 ∷ []
unfolding context constant gain to_input to_gain line started world reaches ends in_cycle arrow height muted needs mono driven count input
gain-param = refl

-- a delay of one frame: its reader needs the delayTime and what its writer took in a frame before, and as channels those of its writer so far
echo : List World
echo =
    let w = world 1 (constant (pos 16777216) ∷ node_of (Delay (pos 8192) (pos 350) 8) 0 ∷ []) (to_input 1 2 ∷ to_input 2 0 ∷ [])
    (line 1 param.Offset (pos 16777216) ∷ line 2 param.DelayTime (pos 350) ∷ []) (started 1 0 ∷ []) in
    w ∷ w ∷ []

echo-output : needs 2 echo mono (Out 2 (reader_of 2) 0 0) ≡ count 1 ∷ Par 2 (record { 0 = 2 }) param.DelayTime ∷ Count 0 (writer_of 2) 0 ∷ Out 1 (writer_of 2) 0 0 ∷ []
unfolding context constant to_input line started world reaches ends in_cycle arrow height muted computed_value intrinsic_at needs mono echo count
echo-output = refl

echo-first : needs 2 echo mono (Out 0 (reader_of 2) 0 0) ≡ count 0 ∷ Par 0 (record { 0 = 2 }) param.DelayTime ∷ []
unfolding context constant to_input line started world reaches ends in_cycle arrow height muted computed_value intrinsic_at needs mono echo count
echo-first = refl

echo-count : needs 2 echo mono (Count 1 (reader_of 2) 0) ≡ Count 0 (writer_of 2) 0 ∷ Count 1 (writer_of 2) 0 ∷ []
unfolding context constant to_input line started world reaches ends in_cycle arrow height muted needs mono echo
echo-count = refl

writer-output : needs 2 echo mono (Out 1 (writer_of 2) 0 0) ≡ Count 0 (writer_of 2) 0 ∷ Inlet 1 (writer_of 2) 0 0 ∷ []
unfolding context constant to_input line started world reaches ends in_cycle arrow height muted needs mono echo
writer-output = refl
