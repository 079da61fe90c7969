-- Words that begin with those of no key.
use Rattle.std.proofs.Common.{ℕ, ◌≢◌, ◌<◌, ◌^◌, List, ◌∷◌, ap, arith, codes, decimal, drop}
use Rattle.wa_base.specs.GraphNames.{param_word}
use Rattle.wa_base.specs.declared.graph_names.End.{End}
use Rattle.wa_base.specs.declared.graph_names.ParamName.{ParamName}
use Rattle.explain.specs.declared.facts.Key.{Key}
use Rattle.explain.specs.declared.facts.Key.TheVariants.{Count, Inlet, Par, Hist, Out}
use Rattle.explain.specs.Texts.{IsSizedKey, end_text, key_words}
use Rattle.explain.proofs.TextLaws.{letter}

abbrev pub IsNoKey : List (List ℕ) → Type 0
IsNoKey given = (k : Key) (more : List (List ℕ)) → IsSizedKey k → key_words k more ≢ given

module _ (s : List (List ℕ)) where
  pub no_inlet : ((f : ℕ) (e : End) (i c : ℕ) (more : List (List ℕ)) → i < 2 ^ 32 → c < 2 ^ 32 → decimal f ∷ end_text e ∷ decimal i ∷ decimal c ∷ more ≢ s) → IsNoKey (codes "in" ∷ s)
  no_inlet none (Count j e o) more sized same = omega (arith, ap letter same)
  no_inlet none (Inlet f e i c) more sized same = none f e i c more sized.2 sized.3 (ap (drop 1) same)
  no_inlet none (Par f node name) more sized same = omega (arith, ap letter same)
  no_inlet none (Hist f node c) more sized same = omega (arith, ap letter same)
  no_inlet none (Out f e o c) more sized same = omega (arith, ap letter same)

  pub no_par : ((f n : ℕ) (name : ParamName) (more : List (List ℕ)) → n < 2 ^ 32 → decimal f ∷ decimal n ∷ param_word name ∷ more ≢ s) → IsNoKey (codes "par" ∷ s)
  no_par none (Count j e o) more sized same = omega (arith, ap letter same)
  no_par none (Inlet f e i c) more sized same = omega (arith, ap letter same)
  no_par none (Par f node name) more sized same = none f node.0 name more sized.1 (ap (drop 1) same)
  no_par none (Hist f node c) more sized same = omega (arith, ap letter same)
  no_par none (Out f e o c) more sized same = omega (arith, ap letter same)

  pub no_hist : ((f n c : ℕ) (more : List (List ℕ)) → n < 2 ^ 32 → c < 2 ^ 32 → decimal f ∷ decimal n ∷ decimal c ∷ more ≢ s) → IsNoKey (codes "hist" ∷ s)
  no_hist none (Count j e o) more sized same = omega (arith, ap letter same)
  no_hist none (Inlet f e i c) more sized same = omega (arith, ap letter same)
  no_hist none (Par f node name) more sized same = omega (arith, ap letter same)
  no_hist none (Hist f node c) more sized same = none f node.0 c more sized.1 sized.2 (ap (drop 1) same)
  no_hist none (Out f e o c) more sized same = omega (arith, ap letter same)

  pub no_out : ((f : ℕ) (e : End) (o c : ℕ) (more : List (List ℕ)) → o < 2 ^ 32 → c < 2 ^ 32 → decimal f ∷ end_text e ∷ decimal o ∷ decimal c ∷ more ≢ s) → IsNoKey (codes "out" ∷ s)
  no_out none (Count j e o) more sized same = omega (arith, ap letter same)
  no_out none (Inlet f e i c) more sized same = omega (arith, ap letter same)
  no_out none (Par f node name) more sized same = omega (arith, ap letter same)
  no_out none (Hist f node c) more sized same = omega (arith, ap letter same)
  no_out none (Out f e o c) more sized same = none f e o c more sized.2 sized.3 (ap (drop 1) same)
