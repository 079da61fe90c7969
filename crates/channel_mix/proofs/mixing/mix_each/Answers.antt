use Rattle.std.proofs.Common.{◌≡◌, ◌<◌, ◌≤◌, ◌+◌, ◌-◌, ◌*◌, ◌/◌, ◌+ℤ◌, ℕ, ℤ, length, take, drop, rules, ap, sym, ◌∙◌, arith}
use Rattle.std.proofs.Math.Nat.{mul-div_cancel_left, mul-div-le}
use Rattle.std.proofs.lemmas.List.{places}
use Rattle.std.proofs.lemmas.Nat.{mul-le}
use Rattle.mix_rules.specs.Blocks.{frame_at, sample}
use Rattle.channel_mix.specs.Outputs.{value_of}
use Rattle.channel_mix.proofs.OutputForms.{value_of-mix}
use Rattle.channel_mix.proofs.Mixed.{mixed_at, mixed_at_sample}
use Rattle.channel_mix.proofs.Growing.{adds_part, adds_room}
use Rattle.channel_mix.proofs.mixing.mix_each.Goals as goal

pub loop-channel-preserved : goal.loop-channel-preserved
loop-channel-preserved c =
    let channel = c.loop-channel.channel in
    let frames = length c.args.acc.now / c.args.to in
    let i = channel * frames in
    let next : (channel + 1) * frames ≡ i + frames = omega arith in
    let below : (channel + 1) * frames ≤ c.args.to * frames = mul-le _ _ _ _ (omega arith) (omega arith) in
    let all = mul-div-le (length c.args.acc.now) c.args.to in
    let room : i + frames ≤ length c.args.acc.now = omega arith in
    let m = i + frames - i in
    let same : m ≡ frames = omega arith in
    let part = take m (drop i c.loop-channel.acc) in
    let long : length part ≡ frames = search (rules, places) in
    let there : length c.add_output.new.sums ≡ frames = c.add_output.auto.sums ∙ long in
    let output = c.new-output.result in
    rw next (adds_part (mixed_at c.args.interp c.args.from c.args.to frames c.args.src.now) (λ k. value_of output (frame_at (length part) c.args.src.now k))
    i frames m c.args.acc.now c.loop-channel.acc c.add_output.new.sums c.loop-channel.auto.acc room same there c.loop-channel.invariant c.add_output.ensures
    (λ k h. ap (λ (n : ℕ). value_of output (frame_at n c.args.src.now k)) long
    ∙ value_of-mix c.args.interp c.args.from c.args.to channel output (frame_at frames c.args.src.now k) c.new-output.ensures.form c.new-output.ensures.needed
    ∙ sym (mixed_at_sample c.args.interp c.args.from c.args.to frames c.args.src.now channel k h)))

-- the number of frames in each channel
frames_are : (to samples frames : ℕ) → 1 ≤ to → samples ≡ to * frames → samples / to ≡ frames
frames_are to samples frames some is = rw is (mul-div_cancel_left frames some)

pub returns-clause-sums : goal.returns-clause-sums
returns-clause-sums c = λ frames channel k is lt within.
    let all = frames_are c.args.to (length c.args.acc.now) frames c.requires.to is in
    let so_far = rw all at c.loop-channel.invariant in
    let next : (channel + 1) * frames ≤ c.loop-channel.channel * frames = mul-le _ _ _ _ (omega arith) (omega arith) in
    let place : channel * frames + k < c.loop-channel.channel * frames = omega arith in
    so_far.sums (channel * frames + k) place
    ∙ ap (λ (v : ℤ). sample frames c.args.acc.now channel k +ℤ v) (mixed_at_sample c.args.interp c.args.from c.args.to frames c.args.src.now channel k within)

pub returns-clause-room : goal.returns-clause-room
returns-clause-room c = λ bound within.
    let frames = length c.args.acc.now / c.args.to in
    let all = frames_are c.args.to (length c.args.acc.now) c.requires.lengths.0 c.requires.to c.requires.lengths.1 in
    let below : c.args.to * frames ≤ c.loop-channel.channel * frames = mul-le _ _ _ _ c.loop-channel-test.false (omega arith) in
    let whole = c.requires.lengths.1 ∙ ap (λ (n : ℕ). c.args.to * n) (sym all) in
    let end : length c.args.acc.now ≤ c.loop-channel.channel * frames = omega arith in
    adds_room (mixed_at c.args.interp c.args.from c.args.to frames c.args.src.now) (c.loop-channel.channel * frames) bound c.args.acc.now c.loop-channel.acc
    c.loop-channel.auto.acc end c.loop-channel.invariant within
