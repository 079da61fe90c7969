use Rattle.std.proofs.Common.{List, ℤ, ◌≡◌, ◌≤◌, ◌+◌, length, take, drop, sym, subst, ap, ◌∙◌, arith}
use Rattle.std.proofs.lemmas.List.{length-take}
use Rattle.wa_base.specs.Channels.{standing_at, IsWithin}
use Rattle.wa_base.proofs.Paging.{part_of_part}
use Rattle.wa_base.proofs.channel.Channel.read.Goals as goal

pub returns-in-Paged : goal.returns-in-Paged
returns-in-Paged c =
    let all : List ℤ = c.in-Paged.samples.now in
    let view : take c.in-Paged.frames (drop c.in-Paged.first all) ≡ c.args.self.now = sym (ap standing_at c.in-Paged.is) ∙ c.self.view_is in
    let within = subst IsWithin c.in-Paged.is c.self.invariant in
    let inside : c.in-Paged.first + c.in-Paged.frames ≤ length all = within.0 in
    let size = length-take c.in-Paged.frames (drop c.in-Paged.first all) in
    let room : c.args.at + length c.args.out.now ≤ c.in-Paged.frames = omega (arith, size, ap length view, c.requires.inside) in
    c.read.ensures
    ∙ part_of_part all c.in-Paged.first c.in-Paged.frames c.args.at (length c.args.out.now) inside room
    ∙ ap (λ l. take (length c.args.out.now) (drop c.args.at l)) view
