use Rattle.std.proofs.Common.{◌≡◌, ◌≤◌, ℕ, ℤ, pos, inl, inr, refl, sym, ap, ◌∙◌, arith}
use Rattle.std.proofs.lemmas.Int.{ints}
use Rattle.wa_base.specs.declared.graph_names.Interp.{Interp}
use Rattle.channel_mix.specs.declared.outputs.Output.{Output}
use Rattle.channel_mix.specs.declared.outputs.Output.TheVariants.{Silence, Channel, HalfOfTwo, QuarterOfFour, AllSpeakers, SideSpeakers, FrontSpeakers}
use Rattle.channel_mix.specs.Outputs.{form_of, needed}
use Rattle.mix_rules.specs.Mixing.{Form, form, mix}
use Rattle.channel_mix.proofs.OutputForms.{value_of-mix}
use Rattle.channel_mix.proofs.Mono.{mono_form}
use Rattle.channel_mix.proofs.mixing.takes_mono.Goals as goal

-- of one channel no half of two is made
silent_is : (interp : Interp) (to c : ℕ) (output : Output) (frame : ℕ → ℤ) → ((i : ℕ) → output ≡ Channel i → ⊥) → form_of 1 output ≡ form interp 1 to c → needed output ≤ 1
    → mix interp 1 to frame c ≡ pos 0
silent_is interp to c Silence frame other same there = sym (value_of-mix interp 1 to c Silence frame same there)
silent_is interp to c (Channel i) frame other same there = absurd (other i refl)
silent_is interp to c (HalfOfTwo i j) frame other same there = elim (mono_form interp to c) [
  | inl is ↦ absurd (let e : pos 2 ≡ pos 1 = ap (λ (f : Form). f.divisor) (same ∙ is) in omega (arith, ints, e))
  | inr is ↦ absurd (let e : pos 2 ≡ pos 1 = ap (λ (f : Form). f.divisor) (same ∙ is) in omega (arith, ints, e))
]
silent_is interp to c QuarterOfFour frame other same there = absurd (omega arith)
silent_is interp to c AllSpeakers frame other same there = absurd (omega arith)
silent_is interp to c (SideSpeakers i j) frame other same there = absurd (omega arith)
silent_is interp to c (FrontSpeakers i) frame other same there = absurd (omega arith)

pub returns-in-Channel : goal.returns-in-Channel
returns-in-Channel c frame =
    let i : ℕ = c.in-Channel.field-0 in
    let needs = c.in-Channel.ensures.needed in
    let first : i ≡ 0 = omega arith in
    sym (value_of-mix c.args.interp 1 c.args.to c.args.channel (Channel i) frame c.in-Channel.ensures.form needs) ∙ ap frame first

pub returns-in_default : goal.returns-in_default
returns-in_default c frame =
    silent_is c.args.interp c.args.to c.args.channel c.new.result frame (λ i is. c.in_default.not-Channel i is) c.new.ensures.form c.new.ensures.needed
