use Rattle.std.proofs.Common.{rules, ◌≡◌, ◌<◌, ◌≤◌, ◌+◌, ◌-◌, ◌*◌, length, take, drop, arith}
use Rattle.std.proofs.lemmas.List.{places}
use Rattle.shaper_iir.proofs.Parts.{hearing_more, same_default, part_room}
use Rattle.shaper_iir.proofs.iir.filter_all.Goals as goal

pub loop-c-preserved : goal.loop-c-preserved
loop-c-preserved c =
    let n = c.args.frames in
    let start = c.loop-c.c * n in
    let m = start + n - start in
    let now = c.loop-c.channels in
    let same_m : m ≡ n = omega arith in
    let there : c.loop-c.c < length now = search rules in
    let long_y : length c.loop-c.y ≡ length c.args.channels.now * n = search rules in
    let room : start + n ≤ length c.args.channels.now * n = part_room c.loop-c.c (length c.args.channels.now) n (search rules) in
    let same_n : length (take m (drop start c.args.x.now)) ≡ n = search (rules, places, room) in
    let long : length c.filter_channel.new.y ≡ n = search (rules, places, room) in
    hearing_more _ _ _ now _ c.loop-c.y _ _ _ n c.loop-c.c m _ there (same_default now c.loop-c.c _ _ there) (omega arith) same_m same_n long c.loop-c.invariant
    c.filter_channel.ensures.history c.filter_channel.ensures.outputs
