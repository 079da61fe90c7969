use Rattle.std.proofs.Common.{ℕ, List, ℤ, ◌≡◌, ◌≤◌, ◌<◌, ◌+◌, ◌-◌, length, take, drop, sym, ap, ◌∙◌, arith}
use borrow.Rule.Slice.PartMut.{same_len_mid}
use Rattle.std.proofs.lemmas.List.{length-take-le, length-drop}
use Rattle.wa_base.specs.Paging.{origin_of, pages_of}
use Rattle.wa_base.proofs.Paging.{read_all, read_more, value_of, count_of, some_long}
use Rattle.wa_base.proofs.paged.PagedSamples.read.Goals as goal

length-part : (out : List ℤ) (done count : ℕ) → done + count ≤ length out → length (take (done + count - done) (drop done out)) ≡ count
length-part out done count room =
    let rest = length-drop done out in
    length-take-le (done + count - done) (drop done out) (omega (arith, rest)) ∙ omega arith

pub read_part-requires-clause-origin : goal.read_part-requires-clause-origin
read_part-requires-clause-origin c =
    let count : ℕ = c.min-count.result in
    let least = c.min-count.ensures in
    let more : c.loop-done.done < length c.loop-done.out = c.loop-done-test.true in
    let room : c.loop-done.done + count ≤ length c.loop-done.out = omega (arith, least) in
    some_long c.self.inside.origin c.self.inside.count _
    (omega (arith, length-part c.loop-done.out c.loop-done.done count room, c.loop-done.invariant.0, c.requires.inside, count_of (origin_of c.self.inside.origin) (pages_of c.self.inside.pages) c.self.inside.count c.args.self.now c.self.view_is))
    c.self.invariant.origin_long

pub loop-done-preserved : goal.loop-done-preserved
loop-done-preserved c =
    let done : ℕ = c.loop-done.done in
    let count : ℕ = c.min-count.result in
    let least = c.min-count.ensures in
    let more : done < length c.loop-done.out = c.loop-done-test.true in
    let room : done + count ≤ length c.loop-done.out = omega (arith, least) in
    let part : length c.read_part.new.out ≡ count = c.read_part.ensures.length ∙ length-part c.loop-done.out done count room in
    let long = same_len_mid done (done + count - done) c.loop-done.out c.read_part.new.out c.read_part.ensures.length in
    let same = c.loop-done.invariant.0 in
    let inside = c.requires.inside in (
      long ∙ same,
      (
        omega (arith, long, room),
        λ k low. read_more c.loop-done.out c.read_part.new.out c.args.self.now c.args.at done count k part room c.loop-done.invariant.1.1
            (λ j few. c.read_part.ensures.value j few ∙ sym (value_of (origin_of c.self.inside.origin) (pages_of c.self.inside.pages) c.self.inside.count c.args.self.now c.self.view_is (c.args.at + done + j) (omega (arith, part, room, same, inside))))
            low,
      ),
    )

pub returns : goal.returns
returns c =
    let over : length c.loop-done.out ≤ c.loop-done.done = c.loop-done-test.false in
    let same = c.loop-done.invariant.0 in
    read_all c.loop-done.out c.args.self.now c.args.at (omega (arith, same, c.requires.inside)) (λ k low. c.loop-done.invariant.1.1 k (omega arith))
    ∙ ap (λ n. take n (drop c.args.at c.args.self.now)) same
