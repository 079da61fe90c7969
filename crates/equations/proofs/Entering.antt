-- The connections to a target, among those to its node.
use Rattle.std.proofs.Common.{ℕ, ℤ, pos, ◌≡◌, ◌+ℤ◌, List, [], ◌∷◌, map, filter, Bool, true, false, refl, sym, ◌∙◌, ap, ap₂, arith}
use Rattle.std.specs.Prelude.{if◌then◌else◌, max, ◌==◌, ◌&&◌}
use Rattle.std.proofs.lemmas.Int.{ints}
use Rattle.law_base.specs.Members.{IsIn}
use Rattle.law_base.proofs.Members.{IsIn-filter, IsIn-filter_from}
use Rattle.mix_rules.specs.Counts.{greatest}
use Rattle.mix_rules.specs.Mixing.{total}
use Rattle.conn_graph.specs.declared.edges.Edge.{Edge}
use Rattle.conn_graph.specs.declared.edges.Target.{Target}
use Rattle.conn_graph.specs.declared.edges.Target.TheVariants.{Input, Param}
use Rattle.conn_graph.specs.Cells.{enters}
use Rattle.conn_graph.specs.Edges.{target_node, is_input, is_param, same_target}
use Rattle.conn_graph.specs.Ends.{reader_of}
use Rattle.meaning.specs.Counts.{Counts}
use Rattle.meaning.specs.Values.{Frame, part}
use Rattle.equations.specs.declared.sums.Lane.{Lane}
use Rattle.equations.specs.Sums.{led_part, led_count}
use Rattle.equations.proofs.Adding.{greatest_low}

zero_plus : (z : ℤ) → pos 0 +ℤ z ≡ z
zero_plus z = omega (arith, ints)

both_true : (a b : Bool) → (a && b) ≡ true → a ≡ true
both_true true b h = refl
both_true false b h = absurd cc

enters_target : (t : Target) (e : Edge) → same_target t e.to ≡ true → enters (target_node t) e ≡ true
enters_target (Input node i) e h = by_input e.to h
  where
    by_input : (u : Target) → is_input node.0 i u ≡ true → (target_node u == node.0) ≡ true
    by_input (Input other k) h = both_true (other.0 == node.0) (k == i) h
    by_input (Param id) h = absurd cc
enters_target (Param id) e h = by_param e.to h
  where
    by_param : (u : Target) → is_param id u ≡ true → (target_node u == id.node.0) ≡ true
    by_param (Input other k) h = absurd cc
    by_param (Param other) h = both_true (other.node.0 == id.node.0) _ h

module _ (t : Target) where
  abbrev pub leads : Edge → Bool
  leads e = same_target t e.to

  abbrev pub arrives : Edge → Bool
  arrives = enters (target_node t)

  -- a connection to the node that leads to the target is one to the target
  pub led_in : (edges : List Edge) (x : Edge) → IsIn x (filter arrives edges) → leads x ≡ true → IsIn x (filter leads edges)
  led_in edges x is here = IsIn-filter_from leads edges x (IsIn-filter arrives edges x is).0 here

  module _ (counts : Counts) where
    abbrev own : Edge → ℕ
    own e = counts (reader_of e.from.0)

    pub greatest_led : (edges : List Edge) → greatest (map (led_count t counts) (filter arrives edges)) ≡ greatest (map own (filter leads edges))
    greatest_led [] = refl
    greatest_led (e ∷ es) = by_test (greatest_led es) (arrives e) (leads e) refl refl
      where
        by_test : greatest (map (led_count t counts) (filter arrives es)) ≡ greatest (map own (filter leads es)) → (a b : Bool) → arrives e ≡ a → leads e ≡ b
            → greatest (map (led_count t counts) (if a then e ∷ filter arrives es else filter arrives es)) ≡ greatest (map own (if b then e ∷ filter leads es else filter leads es))
        by_test before true true is there = ap₂ max (ap (λ k. if k then own e else 1) there) before
        by_test before true false is none =
            let one : led_count t counts e ≡ 1 = ap (λ k. if k then own e else 1) none in
            let low = greatest_low (map (led_count t counts) (filter arrives es)) in
            let same : max (led_count t counts e) (greatest (map (led_count t counts) (filter arrives es))) ≡ greatest (map (led_count t counts) (filter arrives es)) = omega (arith, one, low) in
            same ∙ before
        by_test before false true is there = let other : true ≡ false = sym (enters_target t e there) ∙ is in absurd cc
        by_test before false false is none = before

  module _ (x : Frame) (lane : Lane) where
    abbrev mixed : Edge → ℤ
    mixed = part x lane.interp lane.channels lane.channel

    pub total_led : (edges : List Edge) → total (map (led_part t x lane) (filter arrives edges)) ≡ total (map mixed (filter leads edges))
    total_led [] = refl
    total_led (e ∷ es) = by_test (total_led es) (arrives e) (leads e) refl refl
      where
        by_test : total (map (led_part t x lane) (filter arrives es)) ≡ total (map mixed (filter leads es)) → (a b : Bool) → arrives e ≡ a → leads e ≡ b
            → total (map (led_part t x lane) (if a then e ∷ filter arrives es else filter arrives es)) ≡ total (map mixed (if b then e ∷ filter leads es else filter leads es))
        by_test before true true is there = ap₂ (λ y z. y +ℤ z) (ap (λ k. if k then mixed e else pos 0) there) before
        by_test before true false is none =
            let nothing : led_part t x lane e ≡ pos 0 = ap (λ k. if k then mixed e else pos 0) none in
            ap (λ y. y +ℤ total (map (led_part t x lane) (filter arrives es))) nothing
            ∙ zero_plus (total (map (led_part t x lane) (filter arrives es)))
            ∙ before
        by_test before false true is there = let other : true ≡ false = sym (enters_target t e there) ∙ is in absurd cc
        by_test before false false is none = before
