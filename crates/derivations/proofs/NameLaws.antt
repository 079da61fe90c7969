-- No two keys have the same numbers.
use Rattle.std.proofs.Common.{ℕ, zero, suc, ◌≡◌, refl, sym, ◌∙◌, ap}
use Rattle.wa_base.specs.declared.graph_names.End.{End}
use Rattle.wa_base.specs.declared.graph_names.ParamName.{ParamName}
use Rattle.wa_base.specs.declared.graph_names.ParamName.TheVariants.{Offset, Gain, DelayTime, PlaybackRate, Detune}
use Rattle.explain.specs.declared.facts.Key.{Key}
use Rattle.explain.specs.declared.facts.Key.TheVariants.{Count, Inlet, Par, Hist, Out}
use Rattle.derivations.specs.declared.known.Name.{Name}
use Rattle.derivations.specs.Names.{number_of, name_of}

-- the parameter with a number, and the key with a name
param_at : ℕ → ParamName
param_at zero = Offset
param_at (suc zero) = Gain
param_at (suc (suc zero)) = DelayTime
param_at (suc (suc (suc zero))) = PlaybackRate
param_at (suc (suc (suc (suc n)))) = Detune

param_is : (name : ParamName) → param_at (number_of name) ≡ name
unfolding param_at
param_is Offset = refl
param_is Gain = refl
param_is DelayTime = refl
param_is PlaybackRate = refl
param_is Detune = refl

end_in : Name → End
end_in x = record { node = record { 0 = x.node }; writer = x.writer }

key_by : ℕ → Name → Key
key_by zero x = Count x.moment (end_in x) x.port
key_by (suc zero) x = Inlet x.moment (end_in x) x.port x.channel
key_by (suc (suc zero)) x = Par x.moment (end_in x).node (param_at x.port)
key_by (suc (suc (suc zero))) x = Hist x.moment (end_in x).node x.channel
key_by (suc (suc (suc (suc n)))) x = Out x.moment (end_in x) x.port x.channel

key_at : Name → Key
key_at x = key_by x.form x

key_is : (key : Key) → key_at (name_of key) ≡ key
unfolding key_at key_by end_in
key_is (Count j e o) = refl
key_is (Inlet f e i c) = refl
key_is (Par f node name) = ap (Par f node) (param_is name)
key_is (Hist f node c) = refl
key_is (Out f e o c) = refl

pub name_once : (a b : Key) → name_of a ≡ name_of b → a ≡ b
name_once a b same = sym (key_is a) ∙ ap key_at same ∙ key_is b
