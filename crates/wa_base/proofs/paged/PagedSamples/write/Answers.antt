use Rattle.std.proofs.Common.{ℕ, List, ℤ, ◌≡◌, ◌≤◌, ◌*◌, length, sym, subst, ap, ◌∙◌, arith}
use Rattle.std.specs.Prelude.{IfSome}
use Rattle.wa_base.specs.Paging.{origin_of, pages_of, value_at, laid_over}
use Rattle.wa_base.proofs.Paging.{write_is, laid_same, count_of, on_ok, on_err}
use Rattle.wa_base.proofs.paged.PagedSamples.write.Goals.{in-Some+in_default-get_mut, in_default}
use Rattle.wa_base.proofs.paged.PagedSamples.write.Goals as goal

pub write-requires-clause-inside : goal.write-requires-clause-inside
write-requires-clause-inside c =
    let long = subst (λ o. IfSome o (λ pages. c.self.inside.count ≤ 128 * length pages.value)) c.in-Some.is c.self.invariant.pages_long in
    omega (arith, long, ap length c.in-Some-get_mut.ensures.value, c.requires.inside, count_of (origin_of c.self.inside.origin) (pages_of c.self.inside.pages) c.self.inside.count c.args.self.now c.self.view_is)

pub returns-in-Some-get_mut-clause-ok : goal.returns-in-Some-get_mut-clause-ok
returns-in-Some-get_mut-clause-ok c =
    let list : List ℤ = origin_of c.self.inside.origin in
    let pages : List (List ℤ) = pages_of c.self.inside.pages in
    let same : c.in-Some-get_mut.own.now ≡ pages = c.in-Some-get_mut.ensures.value ∙ sym (ap pages_of c.in-Some.is) in
    on_ok c.write.result
    (write_is list c.origin_slice-below.result.now pages c.in-Some-get_mut.own.now c.write.new.self c.self.inside.count c.args.start c.args.samples.now c.args.self.now
    c.origin_slice-below.ensures (λ i. ap (λ (p : List (List ℤ)). value_at list p i) same) c.self.view_is c.requires.inside)
    c.write.ensures.ok

pub returns-in-Some-get_mut-clause-err : goal.returns-in-Some-get_mut-clause-err
returns-in-Some-get_mut-clause-err c =
    let list : List ℤ = origin_of c.self.inside.origin in
    let pages : List (List ℤ) = pages_of c.self.inside.pages in
    let same : c.in-Some-get_mut.own.now ≡ pages = c.in-Some-get_mut.ensures.value ∙ sym (ap pages_of c.in-Some.is) in
    on_err c.write.result
    (λ (kept : (i : ℕ) → value_at c.origin_slice-below.result.now c.write.new.self i ≡ value_at c.origin_slice-below.result.now c.in-Some-get_mut.own.now i).
    laid_same list pages c.write.new.self c.self.inside.count (λ i.
    ap (λ (l : List ℤ). value_at l c.write.new.self i) (sym c.origin_slice-below.ensures) ∙ kept i ∙ ap (λ (l : List ℤ). value_at l c.in-Some-get_mut.own.now i) c.origin_slice-below.ensures ∙ ap (λ (p : List (List ℤ)). value_at list p i) same)
    ∙ c.self.view_is)
    c.write.ensures.err

pub write-requires-2-clause-inside : goal.write-requires-2-clause-inside
write-requires-2-clause-inside c =
    let room : c.self.inside.count ≤ 128 * length c.in_ok-own.own = c.in_ok-own.ensures.room in
    omega (arith, room, c.requires.inside, count_of (origin_of c.self.inside.origin) (pages_of c.self.inside.pages) c.self.inside.count c.args.self.now c.self.view_is)

pub returns-clause-ok : goal.returns-clause-ok
returns-clause-ok c =
    let list : List ℤ = origin_of c.self.inside.origin in
    let pages : List (List ℤ) = pages_of c.self.inside.pages in
    -- the pages are as they were before it was seen who else has them
    let same : pages_of c.match-self.self-inside.1.1.1.0 ≡ pages = elim c.match-self.branch [
      | in-Some+in_default-get_mut w ↦ ap (λ s. pages_of s.1.1.1.0) w.self-inside-is ∙ sym (ap pages_of w.in-Some.is)
      | in_default w ↦ ap (λ s. pages_of s.1.1.1.0) w.self-inside-is
    ] in
    ap (λ (p : List (List ℤ)). laid_over list p c.self.inside.count) c.in_ok-new.ensures.ok
    ∙ write_is list c.origin_slice-below.result.now pages c.in_ok-own.own c.write-2.new.self c.self.inside.count c.args.start c.args.samples.now c.args.self.now
    c.origin_slice-below.ensures (λ i. c.in_ok-own.ensures.value list i ∙ ap (λ (p : List (List ℤ)). value_at list p i) same) c.self.view_is c.requires.inside
    c.in_ok-write.ensures.ok
