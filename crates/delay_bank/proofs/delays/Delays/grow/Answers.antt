use Rattle.std.proofs.Common.{ℕ, ◌≡◌, length, slice_index_or, Some, None, sym, ◌∙◌, ap, arith, subst}
use Rattle.law_base.proofs.Places.{on_ok, rewritten}
use Rattle.delay_bank.specs.Kept.{IsGrown}
use Rattle.delay_bank.specs.Banks.{IsBank}
use Rattle.delay_bank.proofs.delays.Delays.grow.Goals as goal

pub returns-clause-ok : goal.returns-clause-ok
returns-clause-ok c =
    let long = c.grow_each.ensures.count ∙ c.as_mut_slice.ensures.len in
    on_ok c.grow_each.result (λ each n d is low. each n d (subst (λ xs. slice_index_or xs n None ≡ Some d) (rewritten _ c.grow_each.new.delays _ long) is) low) c.grow_each.ensures.ok

pub invariant_of-self : goal.invariant_of-self
invariant_of-self c =
    let old = c.self.inside.delays.items in
    let long = c.grow_each.ensures.count ∙ c.as_mut_slice.ensures.len in
    let each : (n : ℕ) → IsGrown (slice_index_or old n None) (slice_index_or c.grow_each.new.delays n None) = subst (λ xs. (n : ℕ) → IsGrown (slice_index_or xs n None) (slice_index_or c.grow_each.new.delays n None)) c.as_mut_slice.ensures.value c.grow_each.ensures.each in
    subst (IsBank c.self.inside.quantum c.self.inside.known) (sym (rewritten _ c.grow_each.new.delays _ long)) (record {
      size = c.self.invariant.size;
      within = let within = c.self.invariant.within in let count = c.grow_each.ensures.count in let all = ap length c.as_mut_slice.ensures.value in omega (arith, within, count, all);
      each = λ n. (each n).block c.self.inside.quantum (c.self.invariant.each n);
    })
