-- CausalNodes that are as they were have heard what they had heard.
use Rattle.std.proofs.Common.{ℕ, ℤ, ◌≡◌, ◌-◌, ◌<◌, ◌≤◌, take, slice_index_or, Option, Some, None, refl, sym, ◌∙◌, ap, subst}
use Rattle.std.specs.Prelude.{unwrap_or}
use Rattle.std.proofs.lemmas.List.{get_or-take}
use Rattle.node_table.specs.declared.equation.Equation.{Equation}
use Rattle.node_table.specs.Equations.{equation_value}
use Rattle.filter_bank.specs.States.{stands, equation_of}
use Rattle.meaning.specs.declared.world.World.{World}
use Rattle.meaning.specs.Lists.{since}
use Rattle.filter_bank.specs.Heard.{HeardView, IsHeard, IsSame}
use Rattle.filter_bank.specs.Banks.{BankView, heard_at, AreHeard, AreNew, AreSame, IsSameIfThere}

same_back : (old new : HeardView) → IsSame old new → IsSame new old
same_back old new same = record { birth = sym same.birth; time = sym same.time; outputs = λ frames. sym (same.outputs frames); stands_on = same.stood; stood = same.stands_on }

one_heard : (f g : HeardView) (equation : Equation) (born now : ℕ) (at : ℕ → ℕ → ℤ) → IsSame f g → IsHeard (Some f) equation born now at → IsHeard (Some g) equation born now at
one_heard f g equation born now at same is = record {
  causal = g;
  there = refl;
  outputs = λ frames. same.outputs frames ∙ ap (λ (x : HeardView). equation_value (equation_of x.state) frames) own ∙ is.outputs frames;
  birth = same.birth ∙ ap (λ (x : HeardView). x.birth) own ∙ is.birth;
  time = same.time ∙ ap (λ (x : HeardView). x.time) own ∙ is.time;
  heard = λ c.
      let base : stands f.state c (since (λ k. at k c) f.birth (f.time - f.birth)) = subst (λ (x : HeardView). stands x.state c (since (λ k. at k c) x.birth (x.time - x.birth))) (sym own) (is.heard c) in
      let by_birth = subst (λ b. stands g.state c (since (λ k. at k c) b (f.time - b))) (sym same.birth) (same.stands_on c _ base) in
      subst (λ t. stands g.state c (since (λ k. at k c) g.birth (t - g.birth))) (sym same.time) by_birth;
}
  where
    own : f ≡ is.causal
    own = ap (λ o. unwrap_or o f) is.there

same_heard : (old new : Option HeardView) (equation : Equation) (born now : ℕ) (at : ℕ → ℕ → ℤ) → IsSameIfThere old new → IsHeard old equation born now at → IsHeard new equation born now at
same_heard None None equation born now at same is = is
same_heard None (Some new) equation born now at same is = absurd same
same_heard (Some old) None equation born now at same is = absurd same
same_heard (Some old) (Some new) equation born now at same is = one_heard old new equation born now at same is

same_back_if : (old new : Option HeardView) → IsSameIfThere old new → IsSameIfThere new old
same_back_if None None same = tt
same_back_if None (Some new) same = absurd same
same_back_if (Some old) None same = absurd same
same_back_if (Some old) (Some new) same = same_back old new same

pub still_heard : (old new : BankView) → AreSame old new → (w : World) (now : ℕ) (at : ℕ → ℕ → ℕ → ℤ) → AreHeard old w now at → AreHeard new w now at
still_heard old new same w now at are n equation low is = same_heard (heard_at old n) (heard_at new n) equation _ now (at n) (same.each n) (are n equation low is)

pub was_heard : (old new : BankView) → AreSame old new → (w : World) (now : ℕ) (at : ℕ → ℕ → ℕ → ℤ) → AreHeard new w now at → AreHeard old w now at
was_heard old new same w now at are n equation low is = same_heard (heard_at new n) (heard_at old n) equation _ now (at n) (same_back_if (heard_at old n) (heard_at new n) (same.each n)) (are n equation low is)

pub still_new : (old new : BankView) → AreSame old new → (w : World) → AreNew old w → AreNew new w
still_new old new same w are n equation high low is =
    same_heard (heard_at old n) (heard_at new n) equation _ _ _ (same.each n) (are n equation (subst (λ k. k ≤ n) same.known high) low is)

-- causal nodes of which so many are as they were
pub kept_heard : (old new : BankView) (k : ℕ) → take k new.nodes ≡ take k old.nodes → (n : ℕ) → n < k → heard_at new n ≡ heard_at old n
kept_heard old new k same n low = sym (get_or-take k new.nodes n None low) ∙ ap (λ xs. slice_index_or xs n None) same ∙ get_or-take k old.nodes n None low
