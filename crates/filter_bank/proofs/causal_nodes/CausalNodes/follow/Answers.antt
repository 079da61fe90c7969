use Rattle.std.proofs.Common.{ℕ, ◌≡◌, ◌≤◌, length, ◌∙◌, ap, arith}
use Rattle.std.proofs.lemmas.List.{length-take-le}
use Rattle.meaning.specs.World.{node_at}
use Rattle.filter_bank.specs.Heard.{first_heard}
use Rattle.filter_bank.proofs.Fresh.{fresh_heard}
use Rattle.law_base.proofs.Places.{on_ok}
use Rattle.filter_bank.proofs.causal_nodes.CausalNodes.follow.Goals as goal

short : (c : goal.After-add_nodes) → (n : ℕ) → c.self.inside.known ≤ n → length c.truncate.new.self.items ≤ n
short c n new =
    let cut : length c.truncate.new.self.items ≡ c.self.inside.known = ap length c.truncate.ensures.items ∙ length-take-le c.self.inside.known c.self.inside.nodes.items c.self.invariant.within in
    omega arith

pub returns-clause-fresh : goal.returns-clause-fresh
returns-clause-fresh c = on_ok c.add_nodes.result (λ fresh n equation new there is.
    fresh_heard _ equation (node_at c.args.world.now n).attrs.birth (λ g k. _) (fresh n (short c n new) there ∙ ap (λ k. first_heard k (node_at c.args.world.now n).attrs.birth) is)) c.add_nodes.ensures.fresh
