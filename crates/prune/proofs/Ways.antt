-- Ways in a graph and in a part of it that has all arrows to its ends.
use Rattle.std.proofs.Common.{ℕ, zero, suc, ◌≡◌, length, List, Bool, true, inl, inr, sym, subst}
use Rattle.law_base.specs.Members.{IsIn}
use Rattle.law_base.specs.Reaching.{reaches}
use Rattle.law_base.proofs.Reaching.{direct, further, first_arrow, enough, no_way}
use Rattle.prune.proofs.Members.{same_truth}

-- each arrow of the part is one of the whole, and each arrow of the whole to an end of the part comes from an end of the part
pub record IsClosed {A B : Type 0} (to : A → B) (inner : List A) (outer : List B) (arrow : A → A → Bool) (arrow' : B → B → Bool) : Type 0 where
  pub ends : (a : A) → IsIn a inner → IsIn (to a) outer
  pub there : (a b : A) → arrow a b ≡ true → arrow' (to a) (to b) ≡ true
  pub back : (x : B) (b : A) → IsIn b inner → arrow' x (to b) ≡ true → (a : A) × IsIn a inner × (x ≡ to a) × (arrow a b ≡ true)
  pub once : (a b : A) → to a ≡ to b → a ≡ b

module _ {A B : Type 0} (to : A → B) (inner : List A) (outer : List B) (arrow : A → A → Bool) (arrow' : B → B → Bool) (closed : IsClosed to inner outer arrow arrow') where
  way_there : (n : ℕ) (a c : A) → reaches arrow inner n a c ≡ true → reaches arrow' outer n (to a) (to c) ≡ true
  way_there zero a c r = absurd (no_way arrow inner a c r)
  way_there (suc n) a c r = elim (first_arrow arrow inner n a c r) [
    | inl h ↦ direct arrow' outer n (to a) (to c) (closed.there a c h)
    | inr (b, in_b, h, rest) ↦ further arrow' outer n (to a) (to b) (to c) (closed.ends b in_b) (closed.there a b h) (way_there n b c rest)
  ]

  way_back : (n : ℕ) (x : B) (c : A) → IsIn c inner → reaches arrow' outer n x (to c) ≡ true → (a : A) × IsIn a inner × (x ≡ to a) × (reaches arrow inner n a c ≡ true)
  way_back zero x c in_c r = absurd (no_way arrow' outer x (to c) r)
  way_back (suc n) x c in_c r = elim (first_arrow arrow' outer n x (to c) r) [
    | inl h ↦ let k = closed.back x c in_c h in (k.0, k.1, k.2, direct arrow inner n k.0 c k.3)
    | inr (y, in_y, h, rest) ↦
        let below = way_back n y c in_c rest in
        let k = closed.back x below.0 below.1 (subst (λ z. arrow' x z ≡ true) below.2 h) in
        (k.0, k.1, k.2, further arrow inner n k.0 below.0 c below.1 k.3 below.3)
  ]

  -- An end of the part reaches itself in the part exactly where it does so in the whole.
  pub same_cycles : (n m : ℕ) → n ≡ length inner → m ≡ length outer → (a : A) → IsIn a inner → reaches arrow inner n a a ≡ reaches arrow' outer m (to a) (to a)
  same_cycles n m is is' a in_a = same_truth (reaches arrow inner n a a) (reaches arrow' outer m (to a) (to a))
      (λ r. subst (λ k. reaches arrow' outer k (to a) (to a) ≡ true) (sym is') (enough arrow' outer n (to a) (to a) (closed.ends a in_a) (way_there n a a r)))
      (λ r. let k = way_back m (to a) a in_a r in
      subst (λ i. reaches arrow inner i a a ≡ true) (sym is)
      (enough arrow inner m a a in_a (subst (λ b. reaches arrow inner m b a ≡ true) (sym (closed.once a k.0 k.2)) k.3)))
