-- A numbering that rises gives each node a number of its own.
use Rattle.std.proofs.Common.{ℕ, ◌≡◌, ◌<◌, Bool, true, false, inl, inr, refl, sym, ◌∙◌, ap, subst, arith}
use Rattle.std.specs.Prelude.{◌==◌, ◌&&◌}
use Rattle.std.specs.List.{range_with_len}
use Rattle.std.proofs.lemmas.Bool.{cases_lt}
use Rattle.wa_base.specs.declared.graph_names.End.{End}
use Rattle.wa_base.specs.declared.graph_names.ParamId.{ParamId}
use Rattle.law_base.proofs.Members.{list_any-IsIn, IsIn-list_any}
use Rattle.conn_graph.specs.declared.edges.Target.{Target}
use Rattle.conn_graph.specs.declared.edges.Target.TheVariants.{Input, Param}
use Rattle.conn_graph.specs.Edges.{target_node, is_input, is_param, same_name}
use Rattle.conn_graph.proofs.EndLaws.{nat_same, same_nat}
use Rattle.prune.specs.Parts.{Numbering, whole_end, whole_param, whole_target, is_kept}
use Rattle.prune.proofs.Members.{IsIn-range, range-IsIn, same_truth}

abbrev pub IsRising : Numbering → Type 0
IsRising r = (i k : ℕ) → i < k → r i < r k

-- ---- what is kept

pub kept_there : (r : Numbering) (nodes i : ℕ) → i < nodes → is_kept r nodes (r i) ≡ true
kept_there r nodes i l = list_any-IsIn _ (range_with_len 0 nodes) i (IsIn-range 0 nodes i (omega arith) (omega arith)) (same_nat (r i))

pub kept_is : (r : Numbering) (nodes n : ℕ) → is_kept r nodes n ≡ true → (i : ℕ) × (i < nodes) × (n ≡ r i)
kept_is r nodes n h =
    let found = IsIn-list_any (λ i. r i == n) (range_with_len 0 nodes) h in
    (found.0, let l = range-IsIn 0 nodes found.0 found.1 in omega (arith, l), sym (nat_same (r found.0) n found.2))

-- ---- one number is one node

module _ (r : Numbering) (rising : IsRising r) where
  pub one_number : (i k : ℕ) → r i ≡ r k → i ≡ k
  one_number i k e = elim (cases_lt i k) [
    | inl l ↦ absurd (let up = rising i k l in omega (arith, up, e))
    | inr high ↦ elim (cases_lt k i) [
      | inl l ↦ absurd (let up = rising k i l in omega (arith, up, e))
      | inr low ↦ omega (arith, high, low)
    ]
  ]

  pub same_number : (i k : ℕ) → (r i == r k) ≡ (i == k)
  same_number i k = same_truth (r i == r k) (i == k)
      (λ h. subst (λ n. (i == n) ≡ true) (one_number i k (nat_same (r i) (r k) h)) (same_nat i))
      (λ h. subst (λ n. (r i == r n) ≡ true) (nat_same i k h) (same_nat (r i)))

  pub one_end : (a b : End) → whole_end r a ≡ whole_end r b → a ≡ b
  one_end a b e =
      let node : a.node.0 ≡ b.node.0 = one_number a.node.0 b.node.0 (ap (λ (x : End). x.node.0) e) in
      let writer : a.writer ≡ b.writer = ap (λ (x : End). x.writer) e in
      ap (λ n. let x : End = record { node = record { 0 = n }; writer = a.writer } in x) node ∙ ap (λ t. let x : End = record { node = b.node; writer = t } in x) writer

  -- ---- where a connection leads

  pub same_input : (n i : ℕ) (t : Target) → is_input (r n) i (whole_target r t) ≡ is_input n i t
  same_input n i (Input node input) = ap (λ b. b && input == i) (same_number node.0 n)
  same_input n i (Param param) = refl

  pub same_param : (id : ParamId) (t : Target) → is_param (whole_param r id) (whole_target r t) ≡ is_param id t
  same_param id (Input node input) = refl
  same_param id (Param param) = ap (λ b. b && same_name param.name id.name) (same_number param.node.0 id.node.0)

pub target_of : (r : Numbering) (t : Target) → target_node (whole_target r t) ≡ r (target_node t)
target_of r (Input node input) = refl
target_of r (Param param) = refl

-- what leads to an input, or to a parameter, leads to its node
pub input_node : (n i : ℕ) (t : Target) → is_input n i t ≡ true → target_node t ≡ n
input_node n i (Input node input) h = nat_same node.0 n (first_of_two (node.0 == n) (input == i) h)
  where
    first_of_two : (a b : Bool) → (a && b) ≡ true → a ≡ true
    first_of_two true b h = refl
    first_of_two false b h = absurd cc
input_node n i (Param param) h = absurd cc

pub param_node : (id : ParamId) (t : Target) → is_param id t ≡ true → target_node t ≡ id.node.0
param_node id (Input node input) h = absurd cc
param_node id (Param param) h = nat_same param.node.0 id.node.0 (first_of_two (param.node.0 == id.node.0) (same_name param.name id.name) h)
  where
    first_of_two : (a b : Bool) → (a && b) ≡ true → a ≡ true
    first_of_two true b h = refl
    first_of_two false b h = absurd cc
