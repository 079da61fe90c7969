use Rattle.std.proofs.Common.{◌≡◌, ◌+◌, ◌-◌, ◌<◌, ◌≤◌, length, inl, inr, sym, ◌∙◌, ap, arith, subst}
use Rattle.delay_line.specs.Spans.{IsReached, delay_at}
use Rattle.delay_bank.specs.Kept.{DelayView, IsNearest}
use Rattle.delay_bank.proofs.Keeping.{is_reached, each_between, all_between}
use Rattle.delay_bank.proofs.delay.NodeDelay.has.Goals as goal

-- what the line keeps at most, is what the delay does
capacity : (c : goal.After-are_within) → c.args.self.now.line.capacity ≡ c.self.inside.capacity
capacity c = ap (λ (d : DelayView). d.line.capacity) (sym c.self.view_is) ∙ c.self.invariant.capacity

-- and so are the frames of a quantum
frames : (c : goal.After-are_within) → c.args.self.now.line.block ≡ c.self.inside.quantum
frames c = ap (λ (d : DelayView). d.line.block) (sym c.self.view_is) ∙ c.self.invariant.block

pub returns-clause-reached : goal.returns-clause-reached
returns-clause-reached c is k now =
    let line = c.self.inside.line in
    let q = c.self.inside.quantum in
    let lived : c.self.inside.birth ≤ c.args.first = let l = c.if-self-first.false in grind arith in
    let near = subst (λ t. IsNearest q c.args.first t c.in-Some.least) (ap (λ (d : DelayView). d.time) (sym c.self.view_is) ∙ c.self.invariant.time) (subst (λ b. IsNearest b c.args.first c.args.self.now.time c.in-Some.least) (frames c) c.in-Some.ensures) in
    let there : k < length c.args.delays.now = let long = c.requires.delays in omega arith in
    let within = each_between c.in-Some.least c.self.inside.capacity c.args.delays.now (sym c.are_within.ensures ∙ is) k there in
    subst (λ (d : DelayView). IsReached d.line (c.args.first - d.birth + k) (delay_at c.args.delays.now k)) c.self.view_is
    (is_reached q line c.self.invariant.block c.self.inside.birth c.args.first c.in-Some.least lived near
    (delay_at c.args.delays.now k) k (subst (λ b. k < b) (frames c) now) within.0 (subst (λ n. delay_at c.args.delays.now k ≤ n) (sym c.self.invariant.capacity) within.1))

pub returns-clause-asked : goal.returns-clause-asked
returns-clause-asked c asked lived =
    c.are_within.ensures
    ∙ all_between c.in-Some.least c.self.inside.capacity c.args.delays.now (λ k there.
    let now : k < c.args.self.now.line.block = let long = c.requires.delays in omega arith in
    let low : c.in-Some.least ≤ delay_at c.args.delays.now k = elim c.in-Some.ensures [
      | inl here ↦ let none = here.1 in omega (arith, none)
      | inr here ↦ let one = here.1 in let least = asked.earlier here.0 k now in omega (arith, one, least)
    ] in
    (low, subst (λ n. delay_at c.args.delays.now k ≤ n) (capacity c) (asked.kept k now)))
