-- What a node with a history was created with.
use Rattle.std.proofs.Common.{ℕ, ℤ, ◌≡◌, ◌/◌, ◌≤◌, length, List, Bool, true, false, Option, None, Some, refl, subst, arith}
use Rattle.std.specs.Prelude.{if◌then◌else◌, ◌&&◌, not, nat_le}
use Rattle.std.proofs.lemmas.Bool.Decides.{nat_tests}
use Rattle.wa_base.specs.declared.exceptions.Exc.TheVariants.{NotSupported, InvalidState}
use Rattle.law_base.proofs.Tests.{and_parts}
use Rattle.node_table.specs.Curves.{IsCurve}
use Rattle.node_table.specs.Filters.{is_order, is_zero, all_zero, filter_refusal, IsFilter}
use Rattle.node_table.specs.Frames.{item}
use Rattle.node_table.specs.Kinds.{IsInLimits}
use Rattle.node_table.specs.declared.equation.Equation.TheVariants.{Filter}
use Rattle.node_table.specs.declared.kinds.Kind.TheVariants.{Shaper, Causal}
use Rattle.node_table.proofs.NodeLists.{curve_allowed}
use Rattle.meaning.specs.World.{no_world, kind_of}
use Rattle.meaning.proofs.NodeKinds.{limits_there}
use Rattle.derivations.specs.declared.places.Context.{Context}
use Rattle.derivations.specs.Contexts.{world_of, HasFrame}
use Rattle.equations.specs.Given.{IsGiven}

order_is : (xs : List ℤ) → is_order xs ≡ true → (1 ≤ length xs) × (length xs ≤ 20)
order_is xs is =
    let both = and_parts (nat_le 1 (length xs)) (nat_le (length xs) 20) is in
    let low : nat_le 1 (length xs) ≡ true = both.0 in
    let high : nat_le (length xs) 20 ≡ true = both.1 in
    (grind (arith, nat_tests), grind (arith, nat_tests))

filter_allowed : (forward back : List ℤ) → filter_refusal forward back ≡ None → IsFilter forward back
filter_allowed forward back fine = by_order (is_order forward && is_order back) (all_zero forward) (is_zero (item back 0)) refl refl fine
  where
    by_order : (a b z : Bool) → (is_order forward && is_order back) ≡ a → is_zero (item back 0) ≡ z
        → (if not a then Some (NotSupported None) else if b then Some InvalidState else if z then Some InvalidState else None) ≡ None → IsFilter forward back
    by_order false b z is zero h = absurd cc
    by_order true true z is zero h = absurd cc
    by_order true false true is zero h = absurd cc
    by_order true false false is zero h =
        let both = and_parts (is_order forward) (is_order back) is in
        let first = order_is forward both.0 in
        let second = order_is back both.1 in
        record { forward_some = first.0; forward_most = first.1; back_some = second.0; back_most = second.1; divisor = zero }

module _ (x : Context) (given : IsGiven x) (f n : ℕ) (short : HasFrame x f) where
  limits : IsInLimits (kind_of (world_of x f) n)
  limits = limits_there _ (given.ready.regular.valid (f / x.quantum) no_world short) n

  pub curve_of : (curve : Option (List ℤ)) (was_set : Bool) → kind_of (world_of x f) n ≡ Shaper curve was_set → IsCurve curve
  curve_of curve was_set is = curve_allowed curve false (subst IsInLimits is limits)

  pub filter_of : (forward back : List ℤ) → kind_of (world_of x f) n ≡ Causal (Filter forward back) → IsFilter forward back
  filter_of forward back is = filter_allowed forward back (subst IsInLimits is limits)
