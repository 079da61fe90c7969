use Rattle.std.proofs.Common.{ℕ, List, ℤ, [], ◌≡◌, ◌<◌, ◌≤◌, ◌+◌, ◌-◌, ◌/◌, ◌%◌, ◌++◌, drop, length, slice_index_or, take, subst, ◌∙◌, arith}
use Rattle.std.specs.Int.{div_ceil}
use Rattle.std.proofs.lemmas.List.{take_all, get_or_default}
use Rattle.wa_base.specs.Paging.{IsWrittenOver}
use Rattle.wa_base.proofs.Paging.{written_more, same_length, pages_more, long_more}
use Rattle.wa_base.proofs.pages.write_over.Goals as goal

pub loop-done-preserved : goal.loop-done-preserved
loop-done-preserved c =
    let pages : List (List ℤ) = c.loop-done.pages.items in
    let samples : List ℤ = c.args.samples.now in
    let start : ℕ = c.args.start in
    let done : ℕ = c.loop-done.done in
    let count : ℕ = c.min-count.result in
    let more : done < length samples = c.loop-done-test.true in
    let least = c.min-count.ensures in
    let all : length pages ≡ length c.args.pages.now.items = c.loop-done.invariant.1.1.1.0 in
    let there : (start + done) / 128 < length pages = omega (arith, all, c.requires.room) in
    let low : start / 128 ≤ (start + done) / 128 = omega arith in
    let high : (start + done) / 128 < div_ceil (start + length samples) 128 = omega arith in
    let long : length (slice_index_or pages ((start + done) / 128) []) ≡ 128 = c.loop-done.invariant.1.1.0 ((start + done) / 128) low high in
    let room : (start + done) % 128 + count ≤ 128 = omega (arith, least) in
    let few : done + count ≤ length samples = omega (arith, least) in
    let page : c.index_mut.result.now ≡ slice_index_or pages ((start + done) / 128) [] = c.index_mut.ensures.value ∙ get_or_default pages ((start + done) / 128) c.index_mut.result.now [] there in
    let is =
    subst (λ (p : List ℤ). c.write_page.new.page
    ≡ take ((start + done) % 128) p ++ (take (done + count - done) (drop done samples) ++ drop ((start + done) % 128 + length (take (done + count - done) (drop done samples))) p))
    page c.write_page.ensures in (
      λ list. written_more list pages samples c.write_page.new.page start done count there long room few is c.args.pages.now.items (c.loop-done.invariant.0 list),
      (
        few,
        (
          λ i from to. long_more [] pages samples c.write_page.new.page start done count there long room few is i (c.loop-done.invariant.1.1.0 i from to),
          (
            same_length [] pages samples c.write_page.new.page start done count there long room few is ∙ all,
            pages_more [] pages samples c.write_page.new.page start done count there long room few is c.loop-done.invariant.1.1.1.1,
          ),
        ),
      ),
    )

pub returns-clause-value : goal.returns-clause-value
returns-clause-value c list =
    let over : length c.args.samples.now ≤ c.loop-done.done = c.loop-done-test.false in
    subst (IsWrittenOver list c.args.pages.now.items c.loop-done.pages.items c.args.start) (take_all c.loop-done.done c.args.samples.now over) (c.loop-done.invariant.0 list)
