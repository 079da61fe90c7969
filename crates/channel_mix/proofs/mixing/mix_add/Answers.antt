use Rattle.std.proofs.Common.{◌≡◌, ◌≤◌, ◌+◌, ◌*◌, ◌+ℤ◌, ℤ, length, ap, sym, ◌∙◌, arith}
use Rattle.std.proofs.lemmas.Nat.{mul-le}
use Rattle.lane_kern.specs.Blocks.{at}
use Rattle.mix_rules.specs.Blocks.{frame_at, sample}
use Rattle.mix_rules.specs.Mixing.{mix}
use Rattle.mix_rules.proofs.Laws.{mix_same}
use Rattle.channel_mix.proofs.Growing.{adds_whole, adds_room}
use Rattle.channel_mix.proofs.mixing.mix_add.Goals as goal

pub add_channel-requires-clause-samples : goal.add_channel-requires-clause-samples
add_channel-requires-clause-samples c =
    let same : c.args.from ≡ c.args.to = c.if-from-to.true in
    c.requires.lengths.2 ∙ ap (λ n. n * c.requires.lengths.0) same ∙ sym c.requires.lengths.1

pub add_channel-requires-clause-room : goal.add_channel-requires-clause-room
add_channel-requires-clause-room c = λ i d l. let within = c.requires.room i d l in omega arith

pub returns-then-from-to-clause-sums : goal.returns-then-from-to-clause-sums
returns-then-from-to-clause-sums c = λ frames channel k is lt within.
    let same : c.args.from ≡ c.args.to = c.if-from-to.true in
    let below : (channel + 1) * frames ≤ c.args.to * frames = mul-le _ _ _ _ (omega arith) (omega arith) in
    c.add_channel.ensures.sums (channel * frames + k) (omega arith)
    ∙ ap (λ (v : ℤ). sample frames c.args.acc.now channel k +ℤ v)
    (sym (mix_same c.args.interp c.args.to (frame_at frames c.args.src.now k) channel lt)
    ∙ ap (λ n. mix c.args.interp n c.args.to (frame_at frames c.args.src.now k) channel) (sym same))

pub returns-then-from-to-clause-room : goal.returns-then-from-to-clause-room
returns-then-from-to-clause-room c = λ bound within.
    adds_room (at c.args.src.now) (length c.args.acc.now) bound c.args.acc.now c.add_channel.new.sums c.add_channel.auto.sums (omega arith)
    (adds_whole (at c.args.src.now) c.args.acc.now c.add_channel.new.sums c.add_channel.auto.sums c.add_channel.ensures) within
