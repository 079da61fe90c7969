-- A text at fault is not checked.
use Rattle.std.proofs.Common.{ℕ, ◌≡◌, ◌<◌, ◌≤◌, length, List, [], ◌∷◌, ◌++◌, refl, sym, ◌∙◌, ap, subst, inl, inr, arith}
use Rattle.std.specs.Prelude.{◌≢◌}
use Rattle.std.proofs.lemmas.List.{append_assoc, length-append}
use Rattle.law_base.specs.Members.{IsIn}
use Rattle.meaning.specs.declared.world.World.{World}
use Rattle.meaning.specs.Worlds.{IsRegular}
use Rattle.explain.specs.declared.facts.Fact.{Fact}
use Rattle.explain.specs.Checked.{Passes}
use Rattle.explain.specs.Texts.{IsSized, IsCheckedText, fact_text, facts_text}
use Rattle.explain.proofs.LineCuts.{text_without}
use Rattle.explain.proofs.Checkers.{checker}
use Rattle.explain_top.specs.declared.checking.CheckErr.{CheckErr}
use Rattle.explain_top.specs.declared.checking.CheckErr.TheVariants.{Empty, BadLine, Missing, Wrong, NoMemory}
use Rattle.explain_top.specs.Faults.{line_of, IsBehind, BeginsWith, IsFault}
use Rattle.explain_top.proofs.Cuts.{same_cut, not_in, behind_line, same_one}

abbrev AreSized : List Fact → Type 0
AreSized facts = (x : Fact) → IsIn x facts → IsSized x

no_text : (x : Fact) (more : List ℕ) → line_of x ++ more ≡ [] → ⊥
no_text x more e =
    let a = ap (λ t. length t) e in
    let b = length-append (line_of x) more in
    let c = length-append (fact_text x) (10 ∷ []) in
    omega (arith, a, b, c)

-- where two texts begin with the lines of these facts, the first of them are the same
same_first : (x y : Fact) (u v : List ℕ) → IsSized x → IsSized y → line_of x ++ u ≡ line_of y ++ v → (x ≡ y) × (u ≡ v)
same_first x y u v a b e =
    let k = same_cut 10 (fact_text x) (fact_text y) u v (not_in 10 (fact_text x) (text_without x a)) (not_in 10 (fact_text y) (text_without y b)) (sym (behind_line x u) ∙ e ∙ behind_line y v) in
    (same_one x y a b k.0, k.1)

same_lines : (before facts : List Fact) (rest : List ℕ) → AreSized before → AreSized facts → facts_text before ++ rest ≡ facts_text facts → (after : List Fact) × (facts ≡ before ++ after) × (rest ≡ facts_text after)
same_lines [] facts rest a b e = (facts, refl, e)
same_lines (x ∷ xs) [] rest a b e = absurd (no_text x (facts_text xs ++ rest) (sym (append_assoc (line_of x) (facts_text xs) rest) ∙ e))
same_lines (x ∷ xs) (y ∷ ys) rest a b e =
    let k = same_first x y (facts_text xs ++ rest) (facts_text ys) (a x (inl refl)) (b y (inl refl)) (sym (append_assoc (line_of x) (facts_text xs) rest) ∙ e) in
    let more = same_lines xs ys rest (λ z h. a z (inr h)) (λ z h. b z (inr h)) k.1 in
    (more.0, joined x y ys (xs ++ more.0) k.0 more.1, more.2)
  where
    joined : (u v : Fact) (us vs : List Fact) → u ≡ v → us ≡ vs → v ∷ us ≡ u ∷ vs
    joined u v us vs s t = cc

module _ (q : ℕ) (some : 0 < q) (tape : List World) (regular : IsRegular q tape) (text : List ℕ) (facts : List Fact) (sized : AreSized facts) (is : IsCheckedText q tape text facts) where
  -- the facts behind the first ones, whose lines the rest is
  rest_of : (before : List Fact) (rest : List ℕ) → IsBehind q tape text before rest → (after : List Fact) × (facts ≡ before ++ after) × (rest ≡ facts_text after)
  rest_of before rest behind = same_lines before facts rest behind.sized sized (behind.whole ∙ sym is.lines)

  passes : (before : List Fact) (y : Fact) (ys : List Fact) → facts ≡ before ++ y ∷ ys → Passes q tape before y
  passes before y ys e = (checker q some tape regular facts).0 is.checked before y ys e

  in_facts : (before : List Fact) (y : Fact) (ys : List Fact) → IsIn y (before ++ y ∷ ys)
  in_facts [] y ys = inl refl
  in_facts (b ∷ bs) y ys = inr (in_facts bs y ys)

  sized_one : (before : List Fact) (y : Fact) (ys : List Fact) → facts ≡ before ++ y ∷ ys → IsSized y
  sized_one before y ys e = sized y (subst (λ zs. IsIn y zs) (sym e) (in_facts before y ys))

  -- the fact with which the rest begins passes
  this_passes : (before : List Fact) (rest : List ℕ) (x : Fact) → BeginsWith q tape rest x → (after : List Fact) → facts ≡ before ++ after → rest ≡ facts_text after → Passes q tape before x
  this_passes before rest x begins [] e same = absurd (no_text x begins.0 (begins.1.text ∙ same))
  this_passes before rest x begins (y ∷ ys) e same =
      subst (Passes q tape before) (sym (same_first x y begins.0 (facts_text ys) begins.1.sized (sized_one before y ys e) (begins.1.text ∙ same)).0) (passes before y ys e)

  no_fact : (before : List Fact) (rest : List ℕ) → (rest ≢ []) → ((x : Fact) → BeginsWith q tape rest x → ⊥) → (after : List Fact) → facts ≡ before ++ after → rest ≡ facts_text after → ⊥
  no_fact before rest there none [] e same = there same
  no_fact before rest there none (y ∷ ys) e same = none y (facts_text ys, record { sized = sized_one before y ys e; fact = (passes before y ys e).form; text = sym same })

  not_empty : (xs : List Fact) → 1 ≤ length xs → facts_text xs ≡ [] → ⊥
  not_empty [] l e = omega (arith, l)
  not_empty (x ∷ xs) l e = no_text x (facts_text xs) e

  pub not_checked : (error : CheckErr) → error ≢ NoMemory → IsFault q tape text error → ⊥
  not_checked Empty other e = not_empty facts is.some (is.lines ∙ e)
  not_checked (BadLine n) other (before, rest, behind, there, fault) = let r = rest_of before rest behind in no_fact before rest there fault.1 r.0 r.1 r.2
  not_checked (Missing n) other (before, rest, behind, there, fault) =
      let r = rest_of before rest behind in
      let x = fault.1 in
      x.2.2 ((this_passes before rest x.0 x.1 r.0 r.1 r.2).needed x.2.0 x.2.1)
  not_checked (Wrong n) other (before, rest, behind, there, fault) =
      let r = rest_of before rest behind in
      let x = fault.1 in
      x.3 (this_passes before rest x.0 x.1 r.0 r.1 r.2).given
  not_checked NoMemory other e = other refl
