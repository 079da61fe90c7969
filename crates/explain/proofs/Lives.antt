-- A node of a regular tape stays what it is from its birth on.
use Rattle.std.proofs.Common.{ℕ, zero, suc, ◌≡◌, ◌-◌, ◌*◌, ◌/◌, ◌<◌, ◌≤◌, ◌⊎◌, inl, inr, length, List, refl, sym, ◌∙◌, ap, subst, arith}
use Rattle.node_table.specs.Kinds.{lasting}
use Rattle.node_table.proofs.Lasting.{lasting_equation}
use Rattle.node_table.specs.declared.equation.Equation.{Equation}
use Rattle.node_table.specs.declared.kinds.Kind.{Kind}
use Rattle.node_table.specs.declared.kinds.Kind.TheVariants.{Causal}
use Rattle.meaning.specs.declared.world.World.{World}
use Rattle.meaning.specs.World.{node_at}
use Rattle.meaning.specs.Counts.{world_in}
use Rattle.meaning.specs.Worlds.{Stays, IsRegular}

-- a node is in two worlds the same, but for what of its kind does not last
pub record IsOne (n : ℕ) (w w' : World) : Type 0 where
  pub there : n < length w.nodes
  pub kind : lasting (node_at w' n).kind ≡ lasting (node_at w n).kind
  pub birth : (node_at w' n).attrs.birth ≡ (node_at w n).attrs.birth

below_or_past : (i n : ℕ) → (i < n) ⊎ (n ≤ i)
below_or_past i n = grind arith

last_or_before : (k j : ℕ) → k ≤ suc j → (k ≡ suc j) ⊎ (k ≤ j)
last_or_before k j l = grind arith

quantum_of_first : (q j : ℕ) → 0 < q → q * j / q ≡ j
quantum_of_first q j some = grind (arith, some)

module _ (q : ℕ) (some : 0 < q) (tape : List World) (regular : IsRegular q tape) (n : ℕ) where
  abbrev birth_in : ℕ → ℕ
  birth_in j = (node_at (world_in tape j) n).attrs.birth

  -- a node of quantum j was born by then, and was there in each quantum since
  pub record Lives (j : ℕ) : Type 0 where
    pub born : birth_in j ≤ q * j
    pub since : (k : ℕ) → k ≤ j → birth_in j / q ≤ k → IsOne n (world_in tape k) (world_in tape j)

  pub lives : (j : ℕ) → j < length tape → n < length (world_in tape j).nodes → Lives j
  lives zero short there = record {
    born = let e = regular.born 0 n short (there, inl refl) in omega (arith, e);
    since = λ k low old. let e : k ≡ 0 = omega arith in subst (λ i. IsOne n (world_in tape i) (world_in tape 0)) (sym e) (record { there = there; kind = refl; birth = refl });
  }
  lives (suc j) short there = elim (below_or_past n (length (world_in tape j).nodes)) [
    | inl l ↦ by_stay l (regular.stays j n short l) (lives j (omega arith) l)
    | inr l ↦ by_birth (regular.born (suc j) n short (there, inr (subst (λ i. length (world_in tape i).nodes ≤ n) (let e : j ≡ suc j - 1 = omega arith in e) l)))
  ]
    where
      here : IsOne n (world_in tape (suc j)) (world_in tape (suc j))
      here = record { there = there; kind = refl; birth = refl }

      by_stay : n < length (world_in tape j).nodes → Stays n (world_in tape j) (world_in tape (suc j)) → Lives j → Lives (suc j)
      by_stay l stays before = record {
        born = let b = stays.birth in let o = before.born in grind (arith, b, o);
        since = λ k low old. elim (last_or_before k j low) [
          | inl e ↦ subst (λ i. IsOne n (world_in tape i) (world_in tape (suc j))) (sym e) here
          | inr l ↦ let one = before.since k l (subst (λ b. b / q ≤ k) stays.birth old) in record { there = one.there; kind = stays.kind ∙ one.kind; birth = stays.birth ∙ one.birth }
        ];
      }

      by_birth : birth_in (suc j) ≡ q * suc j → Lives (suc j)
      by_birth e = record {
        born = omega (arith, e);
        since = λ k low old.
            let first : suc j ≤ k = subst (λ i. i ≤ k) (ap (λ b. b / q) e ∙ quantum_of_first q (suc j) some) old in
            let same : k ≡ suc j = omega (arith, first) in
            subst (λ i. IsOne n (world_in tape i) (world_in tape (suc j))) (sym same) here;
      }

-- an equation lasts
pub causal_lasts : (k k' : Kind) (equation : Equation) → lasting k' ≡ lasting k → k' ≡ Causal equation → k ≡ Causal equation
causal_lasts k k' equation same is = lasting_equation k equation (sym same ∙ ap lasting is)
