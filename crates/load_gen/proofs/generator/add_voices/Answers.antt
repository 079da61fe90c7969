use Rattle.std.proofs.Common.{◌≡◌, ◌+◌, suc, length, ap, subst, ◌∙◌, arith}
use Rattle.load_gen.specs.Generator.{Adds}
use Rattle.load_gen.specs.Voices.{Voice, voice, next_voice, voice_ops, ops_of_voices, state_after}
use Rattle.load_gen.proofs.Listing.{adds_length, adds_then}
use Rattle.load_gen.proofs.Drawing.{next_four, voices_length}
use Rattle.load_gen.proofs.generator.add_voices.Goals as goal

pub add_voice-requires : goal.add_voice-requires
add_voice-requires c =
    let place = c.loop-place.place in
    let long = adds_length 0 (ops_of_voices c.args.number place) c.args.calls.now c.loop-place.calls c.loop-place.invariant.calls in
    omega (arith, long, voices_length c.args.number place, c.loop-place-test.true, ap length c.requires)

pub loop-place-preserved : goal.loop-place-preserved
loop-place-preserved c =
    let place = c.loop-place.place in
    let number = c.args.number in
    let inv = c.loop-place.invariant in
    let next : suc place ≡ place + 1 = omega arith in
    let drawn : c.draw-voice.result ≡ voice number place = c.draw-voice.ensures.voice ∙ ap (λ state. next_voice state place) inv.state in
    let added = subst (λ (v : Voice). Adds 0 (voice_ops v) c.loop-place.calls c.add_voice.new.calls) drawn c.in_ok-add_voice.ensures in
    let all = adds_then 0 (ops_of_voices number place) (voice_ops (voice number place)) c.args.calls.now c.loop-place.calls c.add_voice.new.calls inv.calls added in
    record {
      state = c.draw-voice.ensures.state ∙ ap (state_after 4) inv.state ∙ next_four place number;
      calls = subst (λ n. Adds 0 (ops_of_voices number n) c.args.calls.now c.add_voice.new.calls) next all;
    }

pub returns : goal.returns
returns c =
    let end : c.loop-place.place ≡ 200 = omega (arith, c.loop-place-test.false, c.loop-place.auto.place-end) in
    subst (λ n. Adds 0 (ops_of_voices c.args.number n) c.args.calls.now c.loop-place.calls) end c.loop-place.invariant.calls
