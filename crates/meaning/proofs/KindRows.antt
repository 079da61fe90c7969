-- What channel c of output o of an end carries, kind by kind.
use Rattle.std.proofs.Common.{ℕ, ℤ, pos, ◌≡◌, List, [], ◌∷◌, Bool, Option, refl}
use Rattle.std.specs.Prelude.{if◌then◌else◌}
use Rattle.wa_base.specs.Numbers.{scale}
use Rattle.wa_base.specs.declared.graph_names.End.{End}
use Rattle.wa_base.specs.declared.graph_names.ParamId.{ParamId}
use Rattle.wa_base.specs.declared.graph_names.ParamName.TheVariants as param
use Rattle.node_table.specs.Curves.{shaper_value}
use Rattle.node_table.specs.Equations.{equation_value}
use Rattle.node_table.specs.declared.equation.Equation.{Equation}
use Rattle.node_table.specs.declared.kinds.Kind.{Kind}
use Rattle.node_table.specs.declared.kinds.Kind.TheVariants.{Destination, Constant, Buffer, Gain, Delay, Splitter, Merger, Shaper, Causal}
use Rattle.meaning.specs.World.{param_id, sounds_at, played_at}
use Rattle.meaning.specs.Values.{Frame, input_value, frames_heard, computed_value, delayed, value_by_kind}

module _ (q f : ℕ) (past : ℕ → Frame) (here : Frame) (e : End) (o c : ℕ) where
  abbrev carried : Kind → ℤ
  carried kind = value_by_kind q f past here kind e o c

  abbrev level : ParamId → ℤ
  level = computed_value q f past here

  destination : carried Destination ≡ input_value here e.node.0 0 c
  destination = refl

  constant : (offset : ℤ) → carried (Constant offset) ≡ (if sounds_at here.world e.node.0 f then level (param_id e.node.0 param.Offset) else pos 0)
  constant offset = refl

  buffer : (rate : ℕ) → carried (Buffer rate) ≡ played_at here.world e.node.0 c f
  buffer rate = refl

  gain : (first : ℤ) → carried (Gain first) ≡ scale (input_value here e.node.0 0 c) (level (param_id e.node.0 param.Gain))
  gain first = refl

  delay : (longest time : ℤ) (capacity : ℕ) → carried (Delay longest time capacity) ≡ (if e.writer then input_value here e.node.0 0 c else delayed q f past here e.node.0 c)
  delay longest time capacity = refl

  splitter : (ports : ℕ) → carried (Splitter ports) ≡ input_value here e.node.0 0 o
  splitter ports = refl

  merger : (ports : ℕ) → carried (Merger ports) ≡ input_value here e.node.0 c 0
  merger ports = refl

  shaper : (curve : Option (List ℤ)) (was_set : Bool) → carried (Shaper curve was_set) ≡ shaper_value curve (input_value here e.node.0 0 c ∷ [])
  shaper curve was_set = refl

  causal : (heard : Equation) → carried (Causal heard) ≡ equation_value heard (frames_heard f past here e.node.0 c)
  causal heard = refl
