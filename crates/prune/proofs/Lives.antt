-- A node of a regular tape is there from its birth on, and stays a delay if it is one.
use Rattle.std.proofs.Common.{ℕ, zero, suc, ◌≡◌, ◌-◌, ◌*◌, ◌/◌, ◌<◌, ◌≤◌, ◌⊎◌, inl, inr, length, List, refl, sym, ◌∙◌, ap, subst, arith}
use Rattle.std.proofs.lemmas.Bool.{cases_lt}
use Rattle.std.proofs.lemmas.List.{get_or_past}
use Rattle.law_base.proofs.Rows.{quantum_from}
use Rattle.node_table.specs.Kinds.{is_delay_kind}
use Rattle.meaning.specs.declared.world.World.{World}
use Rattle.meaning.specs.World.{sounding, no_world, node_at, kind_of}
use Rattle.meaning.specs.Counts.{world_in}
use Rattle.meaning.specs.Worlds.{Stays, IsRegular}
use Rattle.meaning.proofs.Successors.{delay_lasts}

-- past the end of a tape there is nothing
pub past_end : (tape : List World) (j : ℕ) → length tape ≤ j → world_in tape j ≡ sounding no_world
past_end tape j l = ap sounding (get_or_past tape j no_world l)

-- where a node is, there is a quantum
pub quantum_there : (tape : List World) (j n : ℕ) → n < length (world_in tape j).nodes → j < length tape
quantum_there tape j n l = elim (cases_lt j (length tape)) [
  | inl there ↦ there
  | inr past ↦ absurd (let none = subst (λ (w : World). n < length w.nodes) (past_end tape j past) l in omega (arith, none))
]

module _ (q : ℕ) (some : 0 < q) (tape : List World) (regular : IsRegular q tape) (n : ℕ) where
  -- node n is in both worlds, and in both a delay or in none
  pub record IsAlive (j k : ℕ) : Type 0 where
    pub there : n < length (world_in tape k).nodes
    pub delay : is_delay_kind (kind_of (world_in tape j) n) ≡ is_delay_kind (kind_of (world_in tape k) n)

  last_or_before : (k j : ℕ) → k ≤ suc j → (k ≡ suc j) ⊎ (k ≤ j)
  last_or_before k j l = grind arith

  pub alive : (j k : ℕ) → j < length tape → n < length (world_in tape j).nodes → k ≤ j → (node_at (world_in tape j) n).attrs.birth / q ≤ k → IsAlive j k
  alive zero k short there low born =
      let first : 0 ≡ k = omega (arith, low) in
      subst (IsAlive 0) first (record { there = there; delay = refl })
  alive (suc j) k short there low born = elim (last_or_before k j low) [
    | inl now ↦ subst (IsAlive (suc j)) (sym now) (record { there = there; delay = refl })
    | inr before ↦ elim (cases_lt n (length (world_in tape j).nodes)) [
      | inl l ↦ by_stay before (regular.stays j n short l) (λ old. alive j k (omega arith) l before old)
      | inr l ↦
          let new : (node_at (world_in tape (suc j)) n).attrs.birth ≡ q * suc j =
          regular.born (suc j) n short (there, inr (subst (λ i. length (world_in tape i).nodes ≤ n) (let e : j ≡ suc j - 1 = omega arith in e) l)) in
          let late : suc j ≤ k = subst (λ i. i ≤ k) (ap (λ b. b / q) new ∙ quantum_from q (suc j) some) born in
          absurd (omega (arith, late, before))
    ]
  ]
    where
      by_stay : k ≤ j → Stays n (world_in tape j) (world_in tape (suc j)) → ((node_at (world_in tape j) n).attrs.birth / q ≤ k → IsAlive j k) → IsAlive (suc j) k
      by_stay before stays earlier =
          let life = earlier (subst (λ b. b / q ≤ k) stays.birth born) in
          record { there = life.there; delay = delay_lasts (kind_of (world_in tape (suc j)) n) (kind_of (world_in tape j) n) stays.kind ∙ life.delay }
