-- What an input takes in, and the value of a parameter, is a Fix.
use Rattle.std.proofs.Common.{ℕ, pos, negsuc, ℤ, ◌≡◌, ◌/◌, ◌≤◌, ◌^◌, ◌+ℤ◌, ap₂, ◌∙◌, Bool, true, false, Option, Some, None, arith, FitsSigned, to_z, of_z}
use Rattle.std.proofs.lemmas.Int.{ints, to_z-of_z}
use Rattle.std.specs.Prelude.{if◌then◌else◌, nat_lt, IfSome, unsigned_abs}
use Rattle.std.specs.Int.{w32, w64}
use Rattle.std.specs.Option.{option_map_or}
use Rattle.wa_base.specs.Numbers.{IsFix, sat}
use Rattle.wa_base.specs.declared.graph_names.ParamName.{ParamName}
use Rattle.wa_base.specs.declared.graph_names.NodeId.{NodeId}
use Rattle.node_table.specs.Kinds.{row}
use Rattle.node_table.specs.declared.kinds.Kind.{Kind}
use Rattle.node_table.specs.declared.rows.ParamRow.{ParamRow}
use Rattle.node_table.specs.declared.rows.Range.{Range}
use Rattle.node_table.specs.declared.rows.Range.TheVariants.{Any, UpTo}
use Rattle.node_table.proofs.NodeLists.{IsRange, IsRow}
use Rattle.meaning.specs.World.{no_world, up_to, in_range, nominal}
use Rattle.meaning.specs.Counts.{input_channels}
use Rattle.meaning.specs.Values.{Frame, input_value, computed_value}
use Rattle.meaning.proofs.NodeKinds.{row_there}
use Rattle.explain.specs.Accounts.{value_in}
use Rattle.explain.specs.declared.facts.Key.TheVariants.{Par}
use Rattle.derivations.specs.declared.places.Context.{Context}
use Rattle.derivations.specs.Contexts.{tape_in, StandsIn}
use Rattle.equations.specs.Given.{IsGiven, meaning_of}
use Rattle.equations.proofs.Bounds.{abs_of_32_bits}
use Rattle.equations.proofs.Saying.{key_of}

sat_fix : (x : ℤ) → IsFix (sat x)
sat_fix (pos n) = omega (arith, ints)
sat_fix (negsuc n) = omega (arith, ints)

pub zero_fix : IsFix (pos 0)
zero_fix = omega arith

pub input_fix : (y : Frame) (n i c : ℕ) → IsFix (input_value y n i c)
unfolding input_value
input_fix y n i c = by_test (nat_lt c (input_channels y.world y.counts n i)) _ (sat_fix _)
  where
    by_test : (b : Bool) (z : ℤ) → IsFix z → IsFix (if b then z else pos 0)
    by_test true z is = is
    by_test false z is = zero_fix

up_to_fix : (most x : ℤ) → IsFix most → IsFix (up_to most x)
up_to_fix (pos most) (pos x) is = omega (arith, ints)
up_to_fix (pos most) (negsuc x) is = zero_fix
up_to_fix (negsuc most) x is = zero_fix

nominal_fix : (kind : Kind) (x : ℤ) → IsRow (row kind) → IsFix (nominal kind x)
nominal_fix kind x fine = by_param (row kind).param fine.range
  where
    by_range : (range : Range) → IsRange range → IsFix (in_range range x)
    by_range Any is = sat_fix x
    by_range (UpTo most) is = up_to_fix most x is

    by_param : (param : Option ParamRow) → IfSome param (λ p. IsRange p.range) → IsFix (option_map_or (λ p. in_range p.range x) param (pos 0))
    by_param None is = zero_fix
    by_param (Some p) is = by_range p.range is

pub param_fix : (x : Context) (given : IsGiven x) (f : ℕ) (node : NodeId) (name : ParamName) → StandsIn x (Par f node name) → IsFix (value_in x.quantum (tape_in x) (meaning_of x) (Par f node name))
unfolding computed_value
param_fix x given f node name stands =
    let key = key_of x given (Par f node name) stands in
    nominal_fix _ _ (row_there _ (given.ready.regular.valid (f / x.quantum) no_world key.quantum) node.0)

-- the code's reading of a value that is a Fix
pub cast_fix : (z v : ℤ) → z ≡ v → IsFix v → FitsSigned w32 (to_z w64 (of_z w64 z))
cast_fix z (pos n) same is = let high = is.1 in rw same (record { sfits = omega (arith, ints) })
cast_fix z (negsuc n) same is = let low = is.0 in rw same (record { sfits = omega (arith, ints) })

pub read_fix : (z v : ℤ) → z ≡ v → IsFix v → to_z w32 (of_z w32 (to_z w64 (of_z w64 z))) ≡ v
read_fix z (pos n) same is = let high = is.1 in rw same (omega (arith, ints))
read_fix z (negsuc n) same is = let low = is.0 in rw same (omega (arith, ints))

-- the sum of two Fixes, as the code reads them
sum_of_two : (a b : ℤ) → unsigned_abs a ≤ 2 ^ 31 → unsigned_abs b ≤ 2 ^ 31 → to_z w64 (of_z w64 (to_z w64 (of_z w64 a) +ℤ to_z w64 (of_z w64 b))) ≡ a +ℤ b
sum_of_two a b small_a small_b = omega (arith, ints)

pub wide_sum : (a b x y : ℤ) → a ≡ to_z w32 (of_z w32 x) → b ≡ to_z w32 (of_z w32 y) → FitsSigned w32 x → FitsSigned w32 y → to_z w64 (of_z w64 (to_z w64 (of_z w64 a) +ℤ to_z w64 (of_z w64 b))) ≡ x +ℤ y
wide_sum a b x y left right fits_x fits_y =
    ap₂ (λ v w. to_z w64 (of_z w64 (to_z w64 (of_z w64 v) +ℤ to_z w64 (of_z w64 w)))) (left ∙ to_z-of_z _ _ fits_x) (right ∙ to_z-of_z _ _ fits_y)
    ∙ sum_of_two x y (abs_of_32_bits x fits_x) (abs_of_32_bits y fits_y)
