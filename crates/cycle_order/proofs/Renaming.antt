-- A graph whose ends are named by vertices of another one has the same cycles.
use Rattle.std.proofs.Common.{ℕ, zero, suc, ◌≡◌, ◌<◌, length, List, Bool, true, false, inl, inr, refl, sym, arith, subst}
use Rattle.std.proofs.lemmas.List.FromFn.{length-range_with_len}
use Rattle.law_base.specs.Members.{IsIn}
use Rattle.law_base.specs.Reaching.{reaches}
use Rattle.law_base.proofs.Reaching.{direct, further, first_arrow, enough, no_way}
use Rattle.law_base.proofs.Tests.{not_true}
use Rattle.cycle_order.specs.Reach.{leads, vertices, reaches_vertex, reaches_itself}
use Rattle.cycle_order.proofs.Lists.{IsIn-range}

pub same_tests : (a b : Bool) → (a ≡ true → b ≡ true) → (b ≡ true → a ≡ true) → a ≡ b
same_tests true b forth back = sym (forth refl)
same_tests false b forth back = sym (not_true b (λ t. let f = back t in absurd cc))

-- Arrows between ends are arrows between their vertices, and no other arrow leads from the vertex of an end.
pub record IsNaming {E : Type 0} (arrow : E → E → Bool) (ends : List E) (name : E → ℕ) (arrows : List (List ℕ)) : Type 0 where
  pub into : (a b : E) → IsIn a ends → IsIn b ends → arrow a b ≡ true → leads arrows (name a) (name b) ≡ true
  pub back : (a : E) (v : ℕ) → IsIn a ends → leads arrows (name a) v ≡ true → (b : E) × IsIn b ends × (name b ≡ v) × (arrow a b ≡ true)
  pub there : (a : E) → IsIn a ends → name a < length arrows
  pub apart : (a b : E) → IsIn a ends → IsIn b ends → name a ≡ name b → a ≡ b

module _ {E : Type 0} (arrow : E → E → Bool) (ends : List E) (name : E → ℕ) (arrows : List (List ℕ)) (naming : IsNaming arrow ends name arrows) where
  vertex_in : (a : E) → IsIn a ends → IsIn (name a) (vertices arrows)
  vertex_in a h = let l = naming.there a h in IsIn-range 0 (length arrows) (name a) (omega arith) (omega arith)

  forth : (n : ℕ) (a b : E) → IsIn a ends → IsIn b ends → reaches arrow ends n a b ≡ true → reaches (leads arrows) (vertices arrows) n (name a) (name b) ≡ true
  forth zero a b in_a in_b r = absurd (no_way arrow ends a b r)
  forth (suc n) a b in_a in_b r = elim (first_arrow arrow ends n a b r) [
    | inl h ↦ direct (leads arrows) (vertices arrows) n (name a) (name b) (naming.into a b in_a in_b h)
    | inr (c, in_c, h, rest) ↦ further (leads arrows) (vertices arrows) n (name a) (name c) (name b) (vertex_in c in_c) (naming.into a c in_a in_c h) (forth n c b in_c in_b rest)
  ]

  home : (n : ℕ) (a : E) (v : ℕ) → IsIn a ends → reaches (leads arrows) (vertices arrows) n (name a) v ≡ true → (b : E) × IsIn b ends × (name b ≡ v) × (reaches arrow ends n a b ≡ true)
  home zero a v in_a r = absurd (no_way (leads arrows) (vertices arrows) (name a) v r)
  home (suc n) a v in_a r = elim (first_arrow (leads arrows) (vertices arrows) n (name a) v r) [
    | inl h ↦ let k = naming.back a v in_a h in (k.0, k.1, k.2, direct arrow ends n a k.0 k.3)
    | inr (u, in_u, h, rest) ↦
        let k = naming.back a u in_a h in
        let r = home n k.0 v k.1 (subst (λ x. reaches (leads arrows) (vertices arrows) n x v ≡ true) (sym k.2) rest) in
        (r.0, r.1, r.2, further arrow ends n a k.0 r.0 k.1 k.3 r.3)
  ]

  pub same_cycles : (a : E) → IsIn a ends → reaches arrow ends (length ends) a a ≡ reaches_itself arrows (name a)
  unfolding reaches_vertex
  same_cycles a in_a = same_tests _ _
      (λ r. subst (λ n. reaches (leads arrows) (vertices arrows) n (name a) (name a) ≡ true) (length-range_with_len 0 (length arrows))
      (enough (leads arrows) (vertices arrows) (length ends) (name a) (name a) (vertex_in a in_a) (forth (length ends) a a in_a in_a r)))
      (λ r. let k = home (length arrows) a (name a) in_a r in
      enough arrow ends (length arrows) a a in_a (subst (λ b. reaches arrow ends (length arrows) a b ≡ true) (naming.apart k.0 a k.1 in_a k.2) k.3))
