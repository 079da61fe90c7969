-- What holds of a list of nodes holds after a curve is set.
use Rattle.std.proofs.Common.{◌≡◌, ℤ, Bool, true, false, length, Option, Some, None, List, inl, inr, refl, sym, subst}
use Rattle.std.specs.Prelude.{if◌then◌else◌, nat_lt}
use Rattle.wa_base.specs.declared.exceptions.Exc.TheVariants.{InvalidState}
use Rattle.node_table.specs.Curves as curves
use Rattle.node_table.specs.declared.kinds.Kind.{Kind}
use Rattle.node_table.specs.declared.kinds.Kind.TheVariants.{Shaper}
use Rattle.node_table.specs.declared.nodes.Attrs.{Attrs}
use Rattle.node_table.specs.declared.nodes.Node.{Node}
use Rattle.node_table.specs.Kinds.{capacity_of, with_curve, set_curve_refusal}
use Rattle.node_table.specs.Nodes.{node_with_curve, curve_refusal, IsFirst, IsCreated}
use Rattle.node_table.proofs.Lasting.{lasts, same_by_lasting, with_curve_lasts}
use Rattle.node_table.proofs.Setting.{Keeps}

-- a node by its parts
abbrev node_by : Kind → Attrs → Node
node_by kind attrs = record { kind = kind; attrs = attrs }

-- a curve that may be set may be one at the creation
still_allowed : (curve : Option (List ℤ)) (was_set : Bool) → curves.curve_refusal curve was_set ≡ None → curves.curve_refusal curve false ≡ None
still_allowed None was_set fine = refl
still_allowed (Some points) false fine = fine
still_allowed (Some points) true fine = absurd (never (nat_lt (length points) 2) fine)
  where
    never : (short : Bool) → (if short then Some InvalidState else Some InvalidState) ≡ None → ⊥
    never true h = cc
    never false h = cc

shaper_keeps : (curve old : Option (List ℤ)) (was_set : Bool) (attrs : Attrs) → curves.curve_refusal curve was_set ≡ None → IsCreated (node_by (Shaper old was_set) attrs)
    → IsCreated (node_by (with_curve curve (Shaper old was_set)) attrs)
shaper_keeps curve old was_set attrs fine is = record {
  kind = refl;
  limits = still_allowed curve was_set fine;
  count_low = is.count_low;
  count_high = is.count_high;
  fixed = record { count = λ fixed. absurd cc; mode = λ fixed. absurd cc; interp = λ fixed. absurd cc };
}

-- of an accepted curve only a shaper is changed
created_keeps : (curve : Option (List ℤ)) (kind : Kind) (attrs : Attrs) → set_curve_refusal curve kind ≡ None → IsCreated (node_by kind attrs) → IsCreated (node_by (with_curve curve kind) attrs)
created_keeps curve kind attrs fine is = elim (lasts kind) [
  | inl other ↦ subst (λ k. IsCreated (node_by k attrs)) (sym (other.uncurved curve)) is
  | inr shaper ↦ subst (λ k. IsCreated (node_by (with_curve curve k) attrs)) (sym shaper.is)
      (shaper_keeps curve shaper.curve shaper.was_set attrs (subst (λ k. set_curve_refusal curve k ≡ None) shaper.is fine) (subst (λ k. IsCreated (node_by k attrs)) shaper.is is))
]

-- the destination has no curve
first_keeps : (curve : Option (List ℤ)) (n : Node) → IsFirst n → IsFirst (node_with_curve curve n)
first_keeps curve n is = record {
  kind = rw is.kind refl;
  count_low = is.count_low;
  count_high = is.count_high;
  mode = is.mode;
  birth = is.birth;
}

pub keeps_curve : (curve : Option (List ℤ)) → Keeps (curve_refusal curve) (node_with_curve curve)
keeps_curve curve = record {
  capacity = λ n. same_by_lasting capacity_of (λ old was_set. refl) (with_curve curve n.kind) n.kind (with_curve_lasts curve n.kind);
  first = λ n fine is. first_keeps curve n is;
  created = λ n fine is. created_keeps curve n.kind n.attrs fine is;
}
