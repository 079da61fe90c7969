-- What holds of every list of nodes.
use Rattle.std.proofs.Common.{◌≡◌, ◌<◌, ◌≤◌, ◌+◌, ◌*◌, ◌++◌, ◌∷◌, [], ℕ, ℤ, Bool, true, false, Option, Some, None, List, length, refl, ◌∙◌, ap, arith}
use Rattle.std.specs.Prelude.{if◌then◌else◌, ◌&&◌, nat_le, nat_lt, pos, negsuc, IfSome}
use Rattle.std.specs.Option.{option_or}
use Rattle.std.proofs.lemmas.Bool.Decides.{nat_tests}
use Rattle.std.proofs.lemmas.List.{length-append}
use Rattle.std.proofs.lemmas.List.Sums.{sum_by-cons, sum_by-append}
use Rattle.std.proofs.lemmas.List.Elements.{All-append, All-cons, All-nil}
use Rattle.wa_base.specs.declared.exceptions.Exc.{Exc}
use Rattle.wa_base.specs.declared.exceptions.Exc.TheVariants.{NotSupported, IndexSize, InvalidState}
use Rattle.wa_base.specs.declared.features.Feature.TheVariants.{NodeLimit, DelayLimit, PlaybackRate, LongDelay}
use Rattle.node_table.specs.Curves.{IsCurve, curve_refusal}
use Rattle.node_table.specs.declared.kinds.Kind.{Kind}
use Rattle.node_table.specs.declared.kinds.Kind.TheVariants.{Constant, Buffer, Delay, Splitter, Merger}
use Rattle.node_table.specs.declared.nodes.Node.{Node}
use Rattle.node_table.specs.declared.rows.Channels.{Channels}
use Rattle.node_table.specs.declared.rows.Channels.TheVariants.{Always, OfInput, OfBuffer}
use Rattle.node_table.specs.declared.rows.Row.{Row}
use Rattle.node_table.specs.declared.rows.Range.{Range}
use Rattle.node_table.specs.declared.rows.Range.TheVariants.{Any, UpTo}
use Rattle.node_table.specs.declared.rows.Plays.{Plays}
use Rattle.node_table.specs.declared.rows.Plays.TheVariants.{Value, Content}
use Rattle.wa_base.specs.Numbers.{IsFix}
use Rattle.std.proofs.lemmas.Int.{ints}
use Rattle.node_table.specs.Kinds.{row, is_destination, port_refusal, rate_refusal, delay_refusal, capacity_of, range_refusal, IsInLimits}
use Rattle.node_table.specs.Nodes.{node_limit_refusal, capacities, delay_limit_refusal, creation_refusal, AreNodes, IsCreated, KeepsFixed, first_attrs, node_of}

-- a node has at its creation what is fixed
keeps_fixed : (kind : Kind) (birth : ℕ) → KeepsFixed (first_attrs kind birth) (node_of kind birth)
keeps_fixed kind birth = record { count = λ fixed. refl; mode = λ fixed. refl; interp = λ fixed. refl }

pub ports_allowed : (ports : ℕ) → port_refusal ports ≡ None → (1 ≤ ports) × (ports ≤ 32)
ports_allowed ports fine = by_range (nat_le 1 ports && nat_le ports 32) refl fine
  where
    by_range : (b : Bool) → (nat_le 1 ports && nat_le ports 32) ≡ b → (if b then None else Some IndexSize) ≡ None → (1 ≤ ports) × (ports ≤ 32)
    by_range true is h = (grind (arith, nat_tests), grind (arith, nat_tests))
    by_range false is h = absurd cc

pub rate_allowed : (rate : ℕ) → rate_refusal rate ≡ None → 1 ≤ rate
rate_allowed rate fine = by_low (nat_le 1 rate) refl fine
  where
    by_low : (b : Bool) → nat_le 1 rate ≡ b → (if b then None else Some (NotSupported (Some PlaybackRate))) ≡ None → 1 ≤ rate
    by_low true is h = grind (arith, nat_tests)
    by_low false is h = absurd cc

pub curve_allowed : (curve : Option (List ℤ)) (was_set : Bool) → curve_refusal curve was_set ≡ None → IsCurve curve
curve_allowed None was_set fine = tt
curve_allowed (Some points) was_set fine = by_points (nat_lt (length points) 2) was_set refl fine
  where
    by_points : (short set : Bool) → nat_lt (length points) 2 ≡ short → (if short then Some InvalidState else if set then Some InvalidState else None) ≡ None → 2 ≤ length points
    by_points true set is h = absurd cc
    by_points false set is h = grind (arith, nat_tests)

-- a longest delay that is not refused is a Fix
pub longest_allowed : (longest : ℤ) → delay_refusal longest ≡ None → IsFix longest
longest_allowed (pos n) fine = by_test (nat_le n 0) (nat_lt 268435456 n) refl fine
  where
    by_test : (low high : Bool) → nat_lt 268435456 n ≡ high → (if low then Some (NotSupported None) else if high then Some (NotSupported (Some LongDelay)) else None) ≡ None → IsFix (pos n)
    by_test true high is h = absurd cc
    by_test false true is h = absurd cc
    by_test false false is h = let few : n ≤ 268435456 = grind (arith, nat_tests) in omega (arith, ints)
longest_allowed (negsuc n) fine = absurd cc

-- ---- what the row of a node that is not refused has

-- each output has as many channels as the row says, and all together have at most 32
abbrev pub HasLanes : Channels → ℕ → Type 0
HasLanes (Always n) outputs = (1 ≤ n) × (n ≤ 32) × (outputs * n ≤ 32)
HasLanes OfInput outputs = outputs ≡ 1
HasLanes OfBuffer outputs = outputs ≡ 1

-- a nominal range ends at a Fix
abbrev pub IsRange : Range → Type 0
IsRange Any = Unit {0}
IsRange (UpTo most) = IsFix most

-- a source moves on by one or more frames of its buffer
abbrev pub HasRate : Plays → Type 0
HasRate Value = Unit {0}
HasRate (Content rate) = 1 ≤ rate

pub record IsRow (row : Row) : Type 0 where
  pub count_low : 1 ≤ row.count
  pub count_high : row.count ≤ 32
  pub outputs : row.outputs ≤ 32
  pub lanes : HasLanes row.channels row.outputs
  pub range : IfSome row.param (λ p. IsRange p.range)
  pub rate : IfSome row.plays HasRate

pub is_row : (kind : Kind) → IsInLimits kind → IsRow (row kind)
is_row (Constant offset) fine =
    record { count_low = omega arith; count_high = omega arith; outputs = omega arith; lanes = (omega arith, omega arith, omega arith); range = tt; rate = tt }
is_row (Buffer rate) fine = record { count_low = omega arith; count_high = omega arith; outputs = omega arith; lanes = refl; range = tt; rate = rate_allowed rate fine }
is_row (Delay longest time capacity) fine =
    record { count_low = omega arith; count_high = omega arith; outputs = omega arith; lanes = refl; range = longest_allowed longest fine; rate = tt }
is_row (Splitter ports) fine =
    let few = ports_allowed ports fine in
    record { count_low = few.0; count_high = few.1; outputs = few.1; lanes = (omega arith, omega arith, let high = few.1 in omega (arith, high)); range = tt; rate = tt }
is_row (Merger ports) fine =
    let few = ports_allowed ports fine in
    record { count_low = omega arith; count_high = omega arith; outputs = omega arith; lanes = (few.0, few.1, let high = few.1 in omega (arith, high)); range = tt; rate = tt }
is_row other fine = record { count_low = omega arith; count_high = omega arith; outputs = omega arith; lanes = refl; range = tt; rate = tt }

pub created_node : (kind : Kind) (birth : ℕ) → is_destination kind ≡ false → IsInLimits kind → IsCreated (node_of kind birth)
created_node kind birth other fine =
    let is = is_row kind fine in
    record { kind = other; limits = fine; count_low = is.count_low; count_high = is.count_high; fixed = keeps_fixed kind birth }

-- neither of two causes
first_none : (a b : Option Exc) → option_or a b ≡ None → a ≡ None
first_none None b fine = refl
first_none (Some exc) b fine = absurd cc

pub second_none : (a b : Option Exc) → option_or a b ≡ None → b ≡ None
second_none None b fine = fine
second_none (Some exc) b fine = absurd cc

-- a node that is not refused has its ports, and finds room
pub ports_of_accepted : (nodes : List Node) (kind : Kind) → creation_refusal nodes kind ≡ None → IsInLimits kind
ports_of_accepted nodes kind accepted = first_none _ _ accepted

pub room_left : (nodes : List Node) (kind : Kind) → creation_refusal nodes kind ≡ None → length nodes < 1024
room_left nodes kind accepted = by_room (nat_lt (length nodes) 1024) refl (first_none (node_limit_refusal nodes) _ (second_none (range_refusal kind) _ accepted))
  where
    by_room : (b : Bool) → nat_lt (length nodes) 1024 ≡ b → (if b then None else Some (NotSupported (Some NodeLimit))) ≡ None → length nodes < 1024
    by_room true is h = grind (arith, nat_tests)
    by_room false is h = absurd cc

-- ---- what the delays keep

kept_by : (nodes : List Node) (kind : Kind) → delay_limit_refusal nodes (capacity_of kind) ≡ None → capacities nodes + capacity_of kind ≤ 4194304
kept_by nodes kind fine = by_room (nat_le (capacities nodes + capacity_of kind) 4194304) refl fine
  where
    by_room : (b : Bool) → nat_le (capacities nodes + capacity_of kind) 4194304 ≡ b → (if b then None else Some (NotSupported (Some DelayLimit))) ≡ None → capacities nodes + capacity_of kind ≤ 4194304
    by_room true is h = grind (arith, nat_tests)
    by_room false is h = absurd cc

pub capacities-cons : (node : Node) (nodes : List Node) → capacities (node ∷ nodes) ≡ capacity_of node.kind + capacities nodes
capacities-cons node nodes = sum_by-cons (λ (n : Node). capacity_of n.kind) node nodes

-- those of the nodes that there are, and that of a new one
pub capacities_with : (nodes : List Node) (kind : Kind) (birth : ℕ) → capacities (nodes ++ node_of kind birth ∷ []) ≡ capacities nodes + capacity_of kind
capacities_with nodes kind birth =
    sum_by-append (λ (n : Node). capacity_of n.kind) nodes (node_of kind birth ∷ [])
    ∙ ap (λ k. capacities nodes + k) (capacities-cons (node_of kind birth) [] ∙ omega arith)

pub kept_with : (nodes : List Node) (kind : Kind) → creation_refusal nodes kind ≡ None → capacities nodes + capacity_of kind ≤ 4194304
kept_with nodes kind accepted = kept_by nodes kind (second_none (node_limit_refusal nodes) _ (second_none (range_refusal kind) _ accepted))

-- it holds after a node is created
pub are_nodes_with_another : (nodes : List Node) (kind : Kind) (birth : ℕ) → AreNodes nodes → creation_refusal nodes kind ≡ None → is_destination kind ≡ false
    → AreNodes (nodes ++ node_of kind birth ∷ [])
are_nodes_with_another [] kind birth are accepted other = let none = are.some in absurd (omega arith)
are_nodes_with_another (first ∷ others) kind birth are accepted other = record {
  some = omega arith;
  few = let few = room_left (first ∷ others) kind accepted in grind (arith, length-append);
  kept = let kept = kept_with (first ∷ others) kind accepted in omega (arith, capacities_with (first ∷ others) kind birth);
  first = are.first;
  others = All-append IsCreated others (node_of kind birth ∷ []) are.others
      (All-cons IsCreated (node_of kind birth) [] (created_node kind birth other (ports_of_accepted (first ∷ others) kind accepted)) (All-nil IsCreated));
}
