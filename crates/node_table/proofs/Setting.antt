-- What holds of a list of nodes holds after an attribute of one of them is set.
use Rattle.std.proofs.Common.{◌≡◌, ◌≤◌, ◌==◌, ◌&&◌, [], ◌∷◌, ◌+◌, ℕ, zero, suc, Bool, true, false, not, Option, Some, None, List, length, slice_index_or, All, refl, sym, ◌∙◌, ap, subst, arith}
use Rattle.std.specs.Prelude.{slice_get, slice_set, nat_le, if◌then◌else◌}
use Rattle.std.proofs.lemmas.Bool.Decides.{nat_tests}
use Rattle.std.proofs.lemmas.List.Elements.{All-cons, All-head, All-tail}
use Rattle.wa_base.specs.declared.exceptions.Exc.{Exc}
use Rattle.wa_base.specs.declared.exceptions.Exc.TheVariants.{NotSupported}
use Rattle.wa_base.specs.declared.graph_names.Mode.{Mode}
use Rattle.wa_base.specs.declared.graph_names.Mode.TheVariants.{Max, ClampedMax, Explicit}
use Rattle.wa_base.specs.declared.graph_names.Interp.{Interp}
use Rattle.wa_base.specs.declared.graph_names.Interp.TheVariants.{Speakers, Discrete}
use Rattle.node_table.specs.declared.nodes.Node.{Node}
use Rattle.node_table.specs.declared.rows.Row.{Row}
use Rattle.node_table.specs.Rows.{most_channels}
use Rattle.node_table.specs.Kinds.{row, capacity_of, same_mode, same_interp}
use Rattle.node_table.proofs.NodeLists.{capacities-cons}
use Rattle.node_table.specs.Nodes.{with_count, with_mode, with_interp, fixed_refusal, count_refusal, mode_refusal, interp_refusal, changed_at, refusal_at, capacities, AreNodes, IsFirst, IsCreated}

-- a node that stays first, or created, by a change that is not refused
pub record Keeps (refusal : Node → Option Exc) (change : Node → Node) : Type 0 where
  pub first : (n : Node) → refusal n ≡ None → IsFirst n → IsFirst (change n)
  pub created : (n : Node) → refusal n ≡ None → IsCreated n → IsCreated (change n)
  pub capacity : (n : Node) → capacity_of (change n).kind ≡ capacity_of n.kind

All-changed : (P : Node → Type 0) (change : Node → Node) (i : ℕ) (ns : List Node) → ((n : Node) → slice_get ns i ≡ Some n → P n → P (change n)) → All P ns → All P (changed_at i change ns)
All-changed P change i [] kept each = each
All-changed P change zero (n ∷ ns) kept each = All-cons P (change n) ns (kept n refl (All-head P n ns each)) (All-tail P n ns each)
All-changed P change (suc i) (n ∷ ns) kept each = All-cons P n (changed_at i change ns) (All-head P n ns each) (All-changed P change i ns kept (All-tail P n ns each))

pub length-changed : (i : ℕ) (change : Node → Node) (ns : List Node) → length (changed_at i change ns) ≡ length ns
length-changed i change [] = refl
length-changed zero change (n ∷ ns) = refl
length-changed (suc i) change (n ∷ ns) = ap suc (length-changed i change ns)

-- writing over a node is changing it
pub set_is_changed : (i : ℕ) (change : Node → Node) (ns : List Node) (n : Node) → n ≡ slice_index_or ns i n → slice_set ns i (change n) ≡ changed_at i change ns
set_is_changed i change [] n is = refl
set_is_changed zero change (m ∷ ns) n is = ap (λ x. change x ∷ ns) is
set_is_changed (suc i) change (m ∷ ns) n is = ap (λ xs. m ∷ xs) (set_is_changed i change ns n is)

unrefused : (ns : List Node) (i : ℕ) (refusal : Node → Option Exc) (n : Node) → refusal_at ns i refusal ≡ None → slice_get ns i ≡ Some n → refusal n ≡ None
unrefused ns i refusal n fine is = rw is at fine

-- the delays keep as much as before
pub capacities-changed : (change : Node → Node) → ((n : Node) → capacity_of (change n).kind ≡ capacity_of n.kind) → (i : ℕ) (ns : List Node) → capacities (changed_at i change ns) ≡ capacities ns
capacities-changed change same i [] = refl
capacities-changed change same zero (n ∷ ns) = capacities-cons (change n) ns ∙ ap (λ k. k + capacities ns) (same n) ∙ sym (capacities-cons n ns)
capacities-changed change same (suc i) (n ∷ ns) = capacities-cons n (changed_at i change ns) ∙ ap (λ k. capacity_of n.kind + k) (capacities-changed change same i ns) ∙ sym (capacities-cons n ns)

kept_changed : (change : Node → Node) → ((n : Node) → capacity_of (change n).kind ≡ capacity_of n.kind) → (i : ℕ) (ns : List Node) → capacities ns ≤ 4194304 → capacities (changed_at i change ns) ≤ 4194304
kept_changed change same i ns few = subst (λ k. k ≤ 4194304) (sym (capacities-changed change same i ns)) few

are_nodes_changed : (refusal : Node → Option Exc) (change : Node → Node) → Keeps refusal change → (i : ℕ) (ns : List Node) → refusal_at ns i refusal ≡ None → AreNodes ns → AreNodes (changed_at i change ns)
are_nodes_changed refusal change keeps i [] fine are = are
are_nodes_changed refusal change keeps zero (n ∷ ns) fine are = record {
  some = are.some;
  few = are.few;
  kept = kept_changed change keeps.capacity zero (n ∷ ns) are.kept;
  first = keeps.first n fine are.first;
  others = are.others;
}
are_nodes_changed refusal change keeps (suc i) (n ∷ ns) fine are = record {
  some = omega arith;
  few = let few = are.few in let same = length-changed i change ns in omega arith;
  kept = kept_changed change keeps.capacity (suc i) (n ∷ ns) are.kept;
  first = are.first;
  others = All-changed IsCreated change i ns (λ m is created. keeps.created m (unrefused ns i refusal m fine is) created) are.others;
}

-- what is known of a table of nodes stays
pub table_changed : (refusal : Node → Option Exc) (change : Node → Node) → Keeps refusal change → (i : ℕ) (ns ms : List Node) (frames : ℕ) → ms ≡ changed_at i change ns
    → refusal_at ns i refusal ≡ None → AreNodes ns × (frames ≡ capacities ns) → AreNodes ms × (frames ≡ capacities ms)
table_changed refusal change keeps i ns ms frames is fine has = (
  subst AreNodes (sym is) (are_nodes_changed refusal change keeps i ns fine has.0),
  has.1 ∙ sym (ap capacities is ∙ capacities-changed change keeps.capacity i ns),
)

-- ---- a value that is not refused takes the place of no other fixed one

kept_if_fixed : (is_fixed is_same : Bool) → fixed_refusal is_fixed is_same ≡ None → is_fixed ≡ true → is_same ≡ true
kept_if_fixed true true fine is = refl
kept_if_fixed true false fine is = absurd cc
kept_if_fixed false is_same fine is = absurd cc

same_mode_is : (a b : Mode) → same_mode a b ≡ true → a ≡ b
same_mode_is Max Max is = refl
same_mode_is ClampedMax ClampedMax is = refl
same_mode_is Explicit Explicit is = refl
same_mode_is Max ClampedMax is = absurd cc
same_mode_is Max Explicit is = absurd cc
same_mode_is ClampedMax Max is = absurd cc
same_mode_is ClampedMax Explicit is = absurd cc
same_mode_is Explicit Max is = absurd cc
same_mode_is Explicit ClampedMax is = absurd cc

same_interp_is : (a b : Interp) → same_interp a b ≡ true → a ≡ b
same_interp_is Speakers Speakers is = refl
same_interp_is Discrete Discrete is = refl
same_interp_is Speakers Discrete is = absurd cc
same_interp_is Discrete Speakers is = absurd cc

pub record CountIsFree (count : ℕ) (n : Node) : Type 0 where
  pub low : 1 ≤ count
  pub high : count ≤ 32
  pub kept : (row n.kind).fixed.count ≡ true → count ≡ n.attrs.count

most_few : (r : Row) → most_channels r ≤ 32
most_few r = by_most r.at_most_stereo
  where
    by_most : (b : Bool) → (if b then 2 else 32) ≤ 32
    by_most true = omega arith
    by_most false = omega arith

pub count_free : (count : ℕ) (n : Node) → count_refusal count n ≡ None → CountIsFree count n
count_free count n fine = by_range (nat_le 1 count && nat_le count (most_channels (row n.kind))) refl fine
  where
    by_range : (b : Bool) → (nat_le 1 count && nat_le count (most_channels (row n.kind))) ≡ b → (if not b then Some (NotSupported None) else fixed_refusal (row n.kind).fixed.count (n.attrs.count == count)) ≡ None → CountIsFree count n
    by_range true is h = record {
      low = grind (arith, nat_tests);
      high = let most = most_few (row n.kind) in grind (arith, nat_tests);
      kept = λ fixed. let same = kept_if_fixed (row n.kind).fixed.count (n.attrs.count == count) h fixed in grind (arith, nat_tests);
    }
    by_range false is h = absurd cc

pub keeps_count : (count : ℕ) → Keeps (count_refusal count) (with_count count)
keeps_count count = record {
  capacity = λ n. refl;
  first = λ n fine is.
      let free = count_free count n fine in
      record { kind = is.kind; count_low = free.low; count_high = free.high; mode = is.mode; birth = is.birth };
  created = λ n fine is.
      let free = count_free count n fine in
      record {
        kind = is.kind;
        limits = is.limits;
        count_low = free.low;
        count_high = free.high;
        fixed = record { count = λ fixed. free.kept fixed ∙ is.fixed.count fixed; mode = is.fixed.mode; interp = is.fixed.interp };
      };
}

pub mode_kept : (mode : Mode) (n : Node) → mode_refusal mode n ≡ None → (row n.kind).fixed.mode ≡ true → n.attrs.mode ≡ mode
mode_kept mode n fine fixed = same_mode_is n.attrs.mode mode (kept_if_fixed (row n.kind).fixed.mode (same_mode n.attrs.mode mode) (not_max _ _ fine) fixed)
  where
    not_max : (b : Bool) (others : Option Exc) → (if b then Some (NotSupported None) else others) ≡ None → others ≡ None
    not_max true others h = absurd cc
    not_max false others h = h

pub keeps_mode : (mode : Mode) → Keeps (mode_refusal mode) (with_mode mode)
keeps_mode mode = record {
  capacity = λ n. refl;
  first = λ n fine is.
      let same = mode_kept mode n fine (rw is.kind refl) in
      record { kind = is.kind; count_low = is.count_low; count_high = is.count_high; mode = sym same ∙ is.mode; birth = is.birth };
  created = λ n fine is. record {
    kind = is.kind;
    limits = is.limits;
    count_low = is.count_low;
    count_high = is.count_high;
    fixed = record {
      count = is.fixed.count;
      mode = λ fixed. sym (mode_kept mode n fine fixed) ∙ is.fixed.mode fixed;
      interp = is.fixed.interp;
    };
  };
}

pub keeps_interp : (interp : Interp) → Keeps (interp_refusal interp) (with_interp interp)
keeps_interp interp = record {
  capacity = λ n. refl;
  first = λ n fine is. record { kind = is.kind; count_low = is.count_low; count_high = is.count_high; mode = is.mode; birth = is.birth };
  created = λ n fine is. record {
    kind = is.kind;
    limits = is.limits;
    count_low = is.count_low;
    count_high = is.count_high;
    fixed = record {
      count = is.fixed.count;
      mode = is.fixed.mode;
      interp = λ fixed. sym (same_interp_is n.attrs.interp interp (kept_if_fixed (row n.kind).fixed.interp (same_interp n.attrs.interp interp) fine fixed)) ∙ is.fixed.interp fixed;
    };
  };
}
