use Rattle.std.proofs.Common.{ℕ, suc, ◌≡◌, ◌-◌, refl, arith}
use Rattle.law_base.proofs.Rows.{row_in}
use Rattle.channel_mix.proofs.Spreading.{spread_more}
use Rattle.channel_mix.proofs.widening.widen.Goals as goal

pub loop-channel-init : goal.loop-channel-init
loop-channel-init c = record {
  within = omega arith;
  length = refl;
  kept = λ k low. refl;
  done = λ k m from low here. absurd (omega arith);
}

pub widen_one-requires-clause-room : goal.widen_one-requires-clause-room
widen_one-requires-clause-room c =
    let k : ℕ = c.loop-channel.channel - 1 in
    let some = c.loop-channel-test.true in
    let within = c.loop-channel.invariant.within in
    let row = row_in c.args.frames k c.args.count (omega arith) in
    let same = c.loop-channel.invariant.length in
    let room = c.requires.length in
    omega (arith, row, same, room)

pub loop-channel-preserved : goal.loop-channel-preserved
loop-channel-preserved c =
    let some = c.loop-channel-test.true in
    let next : suc (c.loop-channel.channel - 1) ≡ c.loop-channel.channel = omega arith in
    spread_more c.args.interp c.args.frames c.args.count c.loop-channel.channel (c.loop-channel.channel - 1) c.takes_mono-takes.result c.args.sums.now c.loop-channel.sums c.widen_one.new.sums next c.loop-channel.invariant c.widen_one.ensures.length
    c.takes_mono-takes.ensures c.widen_one.ensures.own c.widen_one.ensures.before c.widen_one.ensures.after

pub returns-clause-sums : goal.returns-clause-sums
returns-clause-sums c k m low now = c.loop-channel.invariant.done k m (omega (arith, c.loop-channel-test.false)) low now
