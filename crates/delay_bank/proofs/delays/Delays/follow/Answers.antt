use Rattle.std.proofs.Common.{ℕ, ◌≡◌, ◌≤◌, length, sym, ◌∙◌, ap, arith, subst}
use Rattle.std.proofs.lemmas.List.{length-take, length-take-le}
use Rattle.meaning.specs.World.{node_at}
use Rattle.law_base.proofs.Places.{on_ok}
use Rattle.delay_bank.specs.Kept.{first_delay}
use Rattle.delay_bank.specs.Banks.{AreOf}
use Rattle.delay_bank.proofs.Fresh.{fresh_kept}
use Rattle.delay_bank.proofs.Quanta.{first_of}
use Rattle.delay_bank.proofs.delays.Delays.follow.Goals as goal

short : (c : goal.After-add_delays) → (n : ℕ) → c.self.inside.known ≤ n → length c.truncate.new.self.items ≤ n
short c n new =
    let cut : length c.truncate.new.self.items ≡ c.self.inside.known = ap length c.truncate.ensures.items ∙ length-take-le c.self.inside.known c.self.inside.delays.items c.self.invariant.within in
    omega arith

pub returns-clause-fresh : goal.returns-clause-fresh
returns-clause-fresh c = on_ok c.add_delays.result (λ fresh n longest time capacity new there is writer.
    fresh_kept c.self.inside.quantum _ longest time capacity (node_at c.args.world.now n).attrs.birth (fresh n (short c n new) there ∙ ap (λ k. first_delay c.self.inside.quantum k (node_at c.args.world.now n).attrs.birth) is) writer) c.add_delays.ensures.fresh

pub invariant_of-self : goal.invariant_of-self
invariant_of-self c = record {
  size = c.self.invariant.size;
  within =
      let cut = ap length c.truncate.ensures.items ∙ length-take-le c.self.inside.known c.self.inside.delays.items c.self.invariant.within in
      let kept = ap length c.add_delays.ensures.kept in
      let front = length-take (length c.truncate.new.self.items) c.add_delays.new.delays.items in
      omega (arith, cut, kept, front);
  each = c.add_delays.ensures.each (subst (AreOf c.self.inside.quantum) (sym c.truncate.ensures.items) (first_of c.self.inside.quantum c.self.inside.known c.self.inside.delays.items c.self.invariant.each));
}
