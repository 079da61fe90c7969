use Rattle.std.proofs.Common.{ℕ, List, ℤ, Global, ap₂, ◌≡◌, length, take, drop, sym, subst, ap, ◌∙◌, arith}
use Rattle.std.specs.Prelude.{Option, Some, None, IfSome}
use Rattle.std.specs.declared.rc.Rc.{Rc}
use Rattle.wa_base.specs.Paging.{origin_of, pages_of, laid_over}
use Rattle.wa_base.proofs.Paging.{laid_none}
use Rattle.wa_base.proofs.paged.PagedSamples.channel.Goals as goal

-- samples that were never written over are those that they began as
began : (list : List ℤ) (origin : Option (List ℤ)) (pages : Option (Rc (List (List ℤ)) Global)) (count : ℕ) → origin ≡ Some list → pages ≡ None → length list ≡ count
    → list ≡ laid_over (origin_of origin) (pages_of pages) count
began list origin pages count is none long =
    sym (ap₂ (λ o p. laid_over (origin_of o) (pages_of p) count) is none ∙ laid_none list count long)

same : (c : goal.In-Some-None) → c.in-Some-None.origin ≡ c.args.self.now
same c =
    let long = subst (λ o. IfSome o (λ samples. length samples ≡ c.self.inside.count)) c.in-Some-None.is-0 c.self.invariant.origin_long in
    began c.in-Some-None.origin c.self.inside.origin c.self.inside.pages c.self.inside.count c.in-Some-None.is-0 c.in-Some-None.is-1 long ∙ c.self.view_is

pub part_of-requires-clause-memory : goal.part_of-requires-clause-memory
part_of-requires-clause-memory c = omega (arith, ap length (same c), c.requires.memory)

pub part_of-requires-clause-room : goal.part_of-requires-clause-room
part_of-requires-clause-room c = omega (arith, ap length (same c), c.requires.room)

pub returns-in-Some-None : goal.returns-in-Some-None
returns-in-Some-None c =
    let long = subst (λ o. IfSome o (λ samples. length samples ≡ c.self.inside.count)) c.in-Some-None.is-0 c.self.invariant.origin_long in
    c.part_of.ensures
    ∙ ap (λ list. take c.args.frames (drop c.args.first list)) (began c.in-Some-None.origin c.self.inside.origin c.self.inside.pages c.self.inside.count c.in-Some-None.is-0 c.in-Some-None.is-1 long ∙ c.self.view_is)
