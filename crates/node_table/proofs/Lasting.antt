-- What stays as long as a node is there.
use Rattle.std.proofs.Common.{◌≡◌, ℕ, ℤ, Bool, true, false, Option, None, List, ◌⊎◌, inl, inr, refl, sym, ◌∙◌, ap, subst}
use Rattle.node_table.specs.declared.equation.Equation.{Equation}
use Rattle.node_table.specs.declared.kinds.Kind.{Kind}
use Rattle.node_table.specs.declared.kinds.Kind.TheVariants.{Delay, Shaper, Causal}
use Rattle.node_table.specs.Kinds.{is_delay_kind, lasting, with_curve}

pub record IsShaper (kind : Kind) : Type 0 where
  pub curve : Option (List ℤ)
  pub was_set : Bool
  pub is : kind ≡ Shaper curve was_set

-- another kind lasts as it is, and no curve is set
pub record IsOther (kind : Kind) : Type 0 where
  pub same : lasting kind ≡ kind
  pub uncurved : (curve : Option (List ℤ)) → with_curve curve kind ≡ kind

-- what a delay was created with
pub record IsDelay (kind : Kind) : Type 0 where
  pub longest : ℤ
  pub time : ℤ
  pub capacity : ℕ
  pub is : kind ≡ Delay longest time capacity

pub the_delay : (kind : Kind) → is_delay_kind kind ≡ true → IsDelay kind
the_delay (Delay longest time capacity) is = record { longest = longest; time = time; capacity = capacity; is = refl }
the_delay other is = absurd cc

-- all of a kind lasts, but for a shaper's curve
pub lasts : (kind : Kind) → IsOther kind ⊎ IsShaper kind
lasts (Shaper curve was_set) = inr (record { curve = curve; was_set = was_set; is = refl })
lasts other = inl (record { same = refl; uncurved = λ curve. refl })

-- setting a curve changes nothing that lasts
pub with_curve_lasts : (curve : Option (List ℤ)) (kind : Kind) → lasting (with_curve curve kind) ≡ lasting kind
with_curve_lasts curve kind = elim (lasts kind) [
  | inl other ↦ ap lasting (other.uncurved curve)
  | inr shaper ↦ rw shaper.is refl
]

-- an equation lasts as it is
pub lasting_equation : (kind : Kind) (equation : Equation) → lasting kind ≡ Causal equation → kind ≡ Causal equation
lasting_equation kind equation is = elim (lasts kind) [
  | inl other ↦ sym other.same ∙ is
  | inr shaper ↦ let other : lasting (Shaper shaper.curve shaper.was_set) ≡ Causal equation = subst (λ k. lasting k ≡ Causal equation) shaper.is is in absurd cc
]

-- what is the same for every shaper, whatever its curve
module _ {A : Type 0} (f : Kind → A) (shapers : (curve : Option (List ℤ)) (was_set : Bool) → f (Shaper None false) ≡ f (Shaper curve was_set)) where
  of_lasting : (kind : Kind) → f (lasting kind) ≡ f kind
  of_lasting kind = elim (lasts kind) [
    | inl other ↦ ap f other.same
    | inr shaper ↦ ap (λ k. f (lasting k)) shaper.is ∙ shapers shaper.curve shaper.was_set ∙ sym (ap f shaper.is)
  ]

  -- lasts
  pub same_by_lasting : (a b : Kind) → lasting a ≡ lasting b → f a ≡ f b
  same_by_lasting a b same = sym (of_lasting a) ∙ ap f same ∙ of_lasting b

-- what holds of one shaper as of another
module _ (P : Kind → Type 0) (shapers : (curve curve' : Option (List ℤ)) (was_set was_set' : Bool) → P (Shaper curve was_set) → P (Shaper curve' was_set')) where
  to_lasting : (kind : Kind) → P kind → P (lasting kind)
  to_lasting kind holds = elim (lasts kind) [
    | inl other ↦ subst P (sym other.same) holds
    | inr shaper ↦ subst (λ k. P (lasting k)) (sym shaper.is) (shapers shaper.curve None shaper.was_set false (subst P shaper.is holds))
  ]

  from_lasting : (kind : Kind) → P (lasting kind) → P kind
  from_lasting kind holds = elim (lasts kind) [
    | inl other ↦ subst P other.same holds
    | inr shaper ↦ subst P (sym shaper.is) (shapers None shaper.curve false shaper.was_set (subst (λ k. P (lasting k)) shaper.is holds))
  ]

  -- goes on to hold
  pub holds_by_lasting : (a b : Kind) → lasting a ≡ lasting b → P a → P b
  holds_by_lasting a b same holds = from_lasting b (subst P same (to_lasting a holds))
