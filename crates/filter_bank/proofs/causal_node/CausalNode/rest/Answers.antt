use Rattle.std.proofs.Common.{ℕ, ℤ, pos, ◌≡◌, ◌+◌, ◌*◌, ◌≤◌, ◌^◌, List, take, slice_index_or, refl, sym, ◌∙◌, ap, arith, subst, inl, inr}
use Rattle.std.proofs.lemmas.Bool.{cases_lt}
use Rattle.std.proofs.lemmas.List.{get_or-take, get_or_past, length-take}
use Rattle.node_table.specs.Frames.{item}
use Rattle.filter_bank.specs.Heard.{HeardView}
use Rattle.filter_bank.proofs.causal_node.CausalNode.rest.Goals as goal

-- a part of zeros has nothing else
zeros_part : (n : ℕ) (zeros : List ℤ) → ((k : ℕ) → slice_index_or zeros k (pos 0) ≡ pos 0) → (k : ℕ) → item (take n zeros) k ≡ pos 0
zeros_part n zeros silent k = elim (cases_lt k n) [
  | inl low ↦ get_or-take n zeros k (pos 0) low ∙ silent k
  | inr past ↦ get_or_past (take n zeros) k (pos 0) (let short = length-take n zeros in omega (arith, short, past))
]

pub returns-clause-rested : goal.returns-clause-rested
returns-clause-rested c =
    let early : c.args.self.now.time ≡ c.args.first → c.args.self.now.time ≤ 2 ^ 62 = λ here. subst (λ n. n ≤ 2 ^ 62) (sym here) c.requires.time in
    record {
      room = c.hear.ensures.room;
      heard = λ here at heard silent. record {
        causal = c.hear.new.self;
        there = refl;
        outputs = c.hear.ensures.outputs;
        birth = c.hear.ensures.birth;
        time = c.hear.ensures.time (early here) ∙ ap (λ n. n + c.args.frames) here;
        heard = c.hear.ensures.heard (early here) at heard (λ channel k now.
            ap (λ g. at (g + k) channel) here
            ∙ silent channel k now
            ∙ sym (zeros_part (c.room.result * c.args.frames) c.args.zeros.now c.requires.silent (channel * c.args.frames + k)));
      };
      kept = λ other. absurd (other (ap (λ (f : HeardView). f.time) (sym c.self.view_is) ∙ c.if-self-first.false));
    }
