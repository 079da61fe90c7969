use Rattle.std.proofs.Common.{rules, ◌≡◌, ◌<◌, ◌≤◌, ◌+◌, ◌-◌, ◌*◌, length, take, drop, arith}
use Rattle.std.proofs.lemmas.List.{places, get_or_default}
use Rattle.worklet.proofs.Hearing.{channel_more, part_room}
use Rattle.worklet.proofs.processor.hear_all.Goals as goal

pub loop-c-preserved : goal.loop-c-preserved
loop-c-preserved c =
    let n = c.args.frames in
    let start = c.loop-c.c * n in
    let m = start + n - start in
    let now = c.loop-c.channels in
    let same_m : m ≡ n = omega arith in
    let there : c.loop-c.c < length now = search rules in
    let long_y : length c.loop-c.y ≡ length c.args.channels.now * n = search rules in
    let room : start + n ≤ length c.args.channels.now * n = part_room c.loop-c.c (length c.args.channels.now) n (search rules) in
    let same_n : length (take m (drop start c.args.x.now)) ≡ n = search (rules, places, room) in
    let long : length c.hear_channel.new.y ≡ n = search (rules, places, room) in
    channel_more c.args.program.now _ now _ c.loop-c.y _ _ _ n c.loop-c.c m _ there (λ other. get_or_default now c.loop-c.c _ other there) (omega arith) same_m same_n long
    c.loop-c.invariant c.hear_channel.ensures.heard c.hear_channel.ensures.outputs
