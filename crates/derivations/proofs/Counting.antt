-- The groups of a count, by the world of its quantum.
use Rattle.std.proofs.Common.{ℕ, ◌≡◌, ◌+◌, ◌-◌, ◌/◌, ◌<◌, ◌≤◌, length, List, [], Bool, true, false, inl, inr, refl, sym, ◌∙◌, ap, subst, arith}
use Rattle.std.specs.Prelude.{if◌then◌else◌, nat_lt, ◌&&◌, not}
use Rattle.std.proofs.lemmas.Bool.Decides.{nat_tests}
use Rattle.wa_base.specs.declared.graph_names.End.{End}
use Rattle.node_table.specs.Kinds.{row, is_delay_kind}
use Rattle.node_table.specs.declared.rows.Channels.{Channels}
use Rattle.conn_graph.specs.declared.edges.Edge.{Edge}
use Rattle.conn_graph.specs.declared.edges.Target.{Target}
use Rattle.conn_graph.specs.Ends.{writer_of, in_cycle, muted}
use Rattle.meaning.specs.declared.world.World.{World}
use Rattle.meaning.specs.World.{sounding, node_at, kind_of}
use Rattle.meaning.specs.Counts.{world_in}
use Rattle.explain.specs.declared.facts.Key.{Key}
use Rattle.explain.specs.declared.facts.Key.TheVariants.{Count}
use Rattle.explain.specs.declared.facts.Fact.{Fact}
use Rattle.explain.specs.Accounts.{Account}
use Rattle.explain.specs.Facts.{HasOutput}
use Rattle.explain.specs.Checked.{Stands}
use Rattle.derivations.specs.Groups.{one, writer_count_group, row_count_group, kind_count_group, count_group}
use Rattle.derivations.specs.Searches.{AreKnown, IsMissing}

-- a single key stands, or it is missing
pub one_known : (q : ℕ) (tape : List World) (facts : List Fact) (key : Key) → Stands key facts → AreKnown q tape facts (λ a. one key)
one_known q tape facts key stands a all k (inl same) = subst (λ x. Stands x facts) (sym same) stands
one_known q tape facts key stands a all k (inr h) = absurd h

pub one_missing : (q : ℕ) (tape : List World) (facts : List Fact) (j : ℕ) (e : End) (o : ℕ) → j < length tape → HasOutput (world_in tape j) e o → (Stands (Count j e o) facts → ⊥) → IsMissing q tape facts (λ a. one (Count j e o)) (Count j e o)
one_missing q tape facts j e o short has absent = record { needed = λ a all. inl refl; absent = absent; key = record { quantum = short; place = has } }

-- where a connection leads to the target, its keys are those of its source
pub led_there : (target : Target) (keys : Edge → List Key) (x : Edge) (same : Target → Bool) (t : Bool) → same x.to ≡ t → (if same x.to then keys x else []) ≡ (if t then keys x else [])
led_there target keys x same t is = ap (λ b. if b then keys x else []) is

module _ (q : ℕ) (tape : List World) (a : Account) (j : ℕ) (w : World) (is : world_in tape j ≡ sounding w) where
  -- the writer's count in a quantum, by the world
  abbrev by_world : World → ℕ → ℕ → List Key
  by_world x n g =
      let birth = (node_at x n).attrs.birth / q in
      if nat_lt g ((if in_cycle x.graph.value n then j else j + 1) - birth) then one (Count (birth + g) (writer_of n) 0) else []

  pub writer_group : (n g first end : ℕ) → first ≡ (node_at w n).attrs.birth / q → end ≡ (if in_cycle w.graph.value n then j else j + 1) → g < end - first
      → writer_count_group q tape a j n g ≡ one (Count (first + g) (writer_of n) 0)
  writer_group n g first end birth until low =
      ap (λ x. by_world x n g) is ∙ by_test (nat_lt g ((if in_cycle w.graph.value n then j else j + 1) - (node_at w n).attrs.birth / q)) refl
    where
      by_test : (b : Bool) → nat_lt g ((if in_cycle w.graph.value n then j else j + 1) - (node_at w n).attrs.birth / q) ≡ b
          → (if b then one (Count ((node_at w n).attrs.birth / q + g) (writer_of n) 0) else []) ≡ one (Count (first + g) (writer_of n) 0)
      by_test true t = ap (λ k. one (Count (k + g) (writer_of n) 0)) (sym birth)
      by_test false t =
          let same : end - first ≡ (if in_cycle w.graph.value n then j else j + 1) - (node_at w n).attrs.birth / q = ap (λ k. k - first) until ∙ ap (λ k. (if in_cycle w.graph.value n then j else j + 1) - k) birth in
          let here : nat_lt g (end - first) ≡ true = grind (arith, nat_tests) in
          let e : false ≡ true = sym t ∙ ap (nat_lt g) (sym same) ∙ here in
          absurd cc

  pub writer_group_past : (n g first end : ℕ) → first ≡ (node_at w n).attrs.birth / q → end ≡ (if in_cycle w.graph.value n then j else j + 1) → end - first ≤ g → writer_count_group q tape a j n g ≡ []
  writer_group_past n g first end birth until high =
      ap (λ x. by_world x n g) is ∙ by_test (nat_lt g ((if in_cycle w.graph.value n then j else j + 1) - (node_at w n).attrs.birth / q)) refl
    where
      by_test : (b : Bool) → nat_lt g ((if in_cycle w.graph.value n then j else j + 1) - (node_at w n).attrs.birth / q) ≡ b
          → (if b then one (Count ((node_at w n).attrs.birth / q + g) (writer_of n) 0) else []) ≡ []
      by_test false t = refl
      by_test true t =
          let same : end - first ≡ (if in_cycle w.graph.value n then j else j + 1) - (node_at w n).attrs.birth / q = ap (λ k. k - first) until ∙ ap (λ k. (if in_cycle w.graph.value n then j else j + 1) - k) birth in
          let past : nat_lt g (end - first) ≡ false = grind (arith, nat_tests) in
          let e : true ≡ false = sym t ∙ ap (nat_lt g) (sym same) ∙ past in
          absurd cc

  -- the groups of an end that is muted, of the reader of a delay, and of another end
  abbrev by_end : World → End → ℕ → List Key
  by_end x e g = if muted x.graph.value e then [] else kind_count_group q tape a j e (kind_of x e.node.0) g

  pub muted_group : (e : End) (g : ℕ) → muted w.graph.value e ≡ true → count_group q tape a j e g ≡ []
  muted_group e g quiet = ap (λ x. by_end x e g) is ∙ ap (λ b. if b then [] else kind_count_group q tape a j e (kind_of w e.node.0) g) quiet

  pub delay_group : (e : End) (g : ℕ) → muted w.graph.value e ≡ false → is_delay_kind (kind_of w e.node.0) ≡ true → e.writer ≡ false → count_group q tape a j e g ≡ writer_count_group q tape a j e.node.0 g
  delay_group e g loud delay reader =
      ap (λ x. by_end x e g) is
      ∙ ap (λ b. if b then [] else kind_count_group q tape a j e (kind_of w e.node.0) g) loud
      ∙ ap (λ b. if b && not e.writer then writer_count_group q tape a j e.node.0 g else row_count_group q tape a j e.node.0 (row (kind_of w e.node.0)).channels g) delay
      ∙ ap (λ b. if not b then writer_count_group q tape a j e.node.0 g else row_count_group q tape a j e.node.0 (row (kind_of w e.node.0)).channels g) reader

  pub row_group : (e : End) (g : ℕ) (c : Channels) → muted w.graph.value e ≡ false → (is_delay_kind (kind_of w e.node.0) && not e.writer) ≡ false → (row (kind_of w e.node.0)).channels ≡ c → count_group q tape a j e g ≡ row_count_group q tape a j e.node.0 c g
  row_group e g c loud plain channels =
      ap (λ x. by_end x e g) is
      ∙ ap (λ b. if b then [] else kind_count_group q tape a j e (kind_of w e.node.0) g) loud
      ∙ ap (λ b. if b then writer_count_group q tape a j e.node.0 g else row_count_group q tape a j e.node.0 (row (kind_of w e.node.0)).channels g) plain
      ∙ ap (λ x. row_count_group q tape a j e.node.0 x g) channels
