use Rattle.std.proofs.Common.{◌≡◌, ◌+◌, ◌*◌, ◌/◌, length, rules, arith, refl, ap, ◌∙◌}
use Rattle.session.proofs.Interleaving.{samples_within, none_held, channel_held, one_interleaved, all_interleaved}
use Rattle.session.proofs.rendered.Rendered.interleave.Goals as goal

pub slice_bounds-place_channel-end : goal.slice_bounds-place_channel-end
slice_bounds-place_channel-end c =
    let within = samples_within c.args.self.now.spec.channels c.args.self.now.spec.length c.loop-channel.channel c.args.first (length c.args.piece.now) c.loop-channel-test.true c.requires.whole c.requires.within in
    let long : length c.as_slice-samples.result.now ≡ c.args.self.now.spec.channels * c.args.self.now.spec.length = ap length c.as_slice-samples.ensures ∙ c.requires.long in
    search rules

pub loop-channel-init : goal.loop-channel-init
loop-channel-init c = none_held _ _ _ _ _

pub loop-channel-preserved : goal.loop-channel-preserved
loop-channel-preserved c =
    let within = samples_within c.args.self.now.spec.channels c.args.self.now.spec.length c.loop-channel.channel c.args.first (length c.args.piece.now) c.loop-channel-test.true c.requires.whole c.requires.within in
    channel_held c.args.self.now.samples c.as_slice-samples.result.now c.args.self.now.spec c.args.first (length c.args.piece.now / c.args.self.now.spec.channels) c.loop-channel.channel
    (c.loop-channel.channel * c.args.self.now.spec.length + c.args.first) _ c.loop-channel.piece c.place_channel.new.piece c.loop-channel-test.true
    c.as_slice-samples.ensures refl (omega arith) (omega (arith, within, c.requires.long)) c.loop-channel.invariant c.place_channel.ensures.written c.place_channel.ensures.kept

pub returns-then-channels-eq1 : goal.returns-then-channels-eq1
returns-then-channels-eq1 c =
    one_interleaved c.args.self.now.samples c.as_slice-samples.result.now c.args.self.now.spec c.args.first (length c.args.piece.now) _ c.copy_from_slice.new.self c.if-channels-eq1.true c.as_slice-samples.ensures c.requires.long (omega arith) c.copy_from_slice.ensures.after

pub returns : goal.returns
returns c = all_interleaved c.args.self.now.samples c.args.self.now.spec c.args.first c.loop-channel.channel (length c.args.piece.now) c.loop-channel.piece c.requires.channels c.loop-channel-test.false c.loop-channel.auto.piece c.requires.whole c.requires.within c.loop-channel.invariant
