-- Texts that begin with the line of a fact.
use Rattle.std.proofs.Common.{ℕ, ◌≡◌, ◌+◌, ◌<◌, ◌≤◌, length, List, [], ◌∷◌, ◌++◌, zero, suc, ℤ, Option, ◌==◌, ◌-◌, take, true, refl, sym, ◌∙◌, ap, ap₂, subst, inl, inr, arith, get_or, drop}
use Rattle.std.specs.Prelude.{slice_index}
use Rattle.std.proofs.lemmas.List.{append_assoc, append-nil, length-append, take_all}
use Rattle.memchr.specs.Find.{Nowhere, Passes as Matches, is_byte}
use Rattle.conn_graph.proofs.EndLaws.{nat_same, same_nat}
use Rattle.law_base.specs.Members.{IsIn}
use Rattle.law_base.proofs.Members.{IsIn-append}
use Rattle.meaning.specs.declared.world.World.{World}
use Rattle.meaning.specs.Worlds.{IsRegular}
use Rattle.explain.specs.declared.facts.Key.{Key}
use Rattle.explain.specs.declared.facts.Fact.{Fact}
use Rattle.explain.specs.Accounts.{meant, derived}
use Rattle.explain.specs.Needs.{needs}
use Rattle.derivations.specs.Searches.{IsMissing, AreKnown}
use Rattle.explain.specs.Checked.{AllHold, IsChecked}
use Rattle.explain.specs.Facts.{IsFactOf}
use Rattle.explain.specs.Texts.{IsSized, fact_text, facts_text}
use Rattle.explain.proofs.LineCuts.{Without, text_without}
use Rattle.explain.proofs.TextLaws.{same_facts}
use Rattle.explain.proofs.Soundness.{all_hold}
use Rattle.explain.proofs.Checkers.{next_fact}
use Rattle.explain_top.specs.Faults.{line_of, IsBehind, IsDerivationOf, IsFault, IsFaultNext, IsFirst, BeginsWith, LacksNeed, HasNeeds}
use Rattle.explain_top.specs.declared.checking.CheckErr.{CheckErr}
use Rattle.explain_top.specs.declared.checking.CheckErr.TheVariants.{Empty, BadLine, Missing, Wrong, NoMemory}
use Rattle.explain_top.specs.Steps.{IsNext}

-- Two texts with no end of a line, and one behind each, are the same where both go on to the same text, and so is what is behind.
pub same_cut : (mark : ℕ) (xs ys u v : List ℕ) → (IsIn mark xs → ⊥) → (IsIn mark ys → ⊥) → xs ++ mark ∷ u ≡ ys ++ mark ∷ v → (xs ≡ ys) × (u ≡ v)
same_cut mark [] [] u v a b e = (refl, ap (drop 1) e)
same_cut mark [] (y ∷ ys) u v a b e = absurd (b (inl (ap (λ ws. get_or ws 0 0) e)))
same_cut mark (x ∷ xs) [] u v a b e = absurd (a (inl (sym (ap (λ ws. get_or ws 0 0) e))))
same_cut mark (x ∷ xs) (y ∷ ys) u v a b e =
    let k = same_cut mark xs ys u v (λ h. a (inr h)) (λ h. b (inr h)) (ap (drop 1) e) in
    (ap₂ (λ c cs. c ∷ cs) (ap (λ ws. get_or ws 0 0) e) k.0, k.1)

pub not_in : (mark : ℕ) (xs : List ℕ) → Without mark xs → IsIn mark xs → ⊥
not_in mark [] w h = absurd h
not_in mark (x ∷ xs) w (inl same) = w.0 (sym same)
not_in mark (x ∷ xs) w (inr h) = not_in mark xs w.1 h

is_behind : (mark : ℕ) (xs ys : List ℕ) → IsIn mark (xs ++ mark ∷ ys)
is_behind mark [] ys = inl refl
is_behind mark (x ∷ xs) ys = inr (is_behind mark xs ys)

at_place : (mark : ℕ) (xs : List ℕ) → IsIn mark xs → (k : ℕ) × (k < length xs) × (slice_index xs k ≡ mark)
at_place mark [] h = absurd h
at_place mark (x ∷ xs) (inl same) = (0, omega arith, sym same)
at_place mark (x ∷ xs) (inr h) = let p = at_place mark xs h in let l = p.1 in (suc p.0, omega (arith, l), p.2)

in_front : (mark : ℕ) (xs : List ℕ) (k : ℕ) → IsIn mark (take k xs) → (j : ℕ) × (j < k) × (slice_index xs j ≡ mark)
in_front mark xs zero h = absurd h
in_front mark [] (suc k) h = absurd h
in_front mark (x ∷ xs) (suc k) (inl same) = (0, omega arith, sym same)
in_front mark (x ∷ xs) (suc k) (inr h) = let p = in_front mark xs k h in let l = p.1 in (suc p.0, omega (arith, l), p.2)

matches : (mark b : ℕ) → b ≡ mark → is_byte mark b ≡ true
matches mark b e = subst (λ c. (c == mark) ≡ true) (sym e) (same_nat mark)

-- a byte that is found at no place is not there
pub nowhere_in : (mark : ℕ) (xs : List ℕ) → Nowhere (Matches (is_byte mark) xs) 0 (length xs) → IsIn mark xs → ⊥
nowhere_in mark xs none h = let p = at_place mark xs h in none p.0 (omega arith) p.1 (matches mark (slice_index xs p.0) p.2)

-- before the first place there is none
pub none_before : (mark : ℕ) (xs : List ℕ) (k : ℕ) → Nowhere (Matches (is_byte mark) xs) 0 k → IsIn mark (take k xs) → ⊥
none_before mark xs k none h = let p = in_front mark xs k h in none p.0 (omega arith) p.1 (matches mark (slice_index xs p.0) p.2)

cut_there : (xs : List ℕ) (k m : ℕ) → k < length xs → slice_index xs k ≡ m → take k xs ++ m ∷ drop (suc k) xs ≡ xs
cut_there [] k m l e = absurd (omega (arith, l))
cut_there (x ∷ xs) zero m l e = ap (λ c. c ∷ xs) (sym e)
cut_there (x ∷ xs) (suc k) m l e = ap (λ t. x ∷ t) (cut_there xs k m (omega (arith, l)) e)

length_dropped : (xs : List ℕ) (k : ℕ) → length (drop k xs) ≤ length xs - k
length_dropped xs zero = omega arith
length_dropped [] (suc k) = omega arith
length_dropped (x ∷ xs) (suc k) = let l = length_dropped xs k in omega (arith, l)

-- the text is what stands before that place, the byte there, and what stands behind it
pub cut_at_mark : (mark : ℕ) (xs : List ℕ) (k : ℕ) → k < length xs → Matches (is_byte mark) xs k → take k xs ++ mark ∷ take (length xs - (k + 1)) (drop (k + 1) xs) ≡ xs
cut_at_mark mark xs k l found =
    ap (λ t. take k xs ++ mark ∷ t) (take_all (length xs - (k + 1)) (drop (k + 1) xs) (length_dropped xs (k + 1)))
    ∙ ap (λ n. take k xs ++ mark ∷ drop n xs) (let e : k + 1 ≡ suc k = omega arith in e)
    ∙ cut_there xs k mark l (nat_same (slice_index xs k) mark found)

pub behind_line : (x : Fact) (more : List ℕ) → line_of x ++ more ≡ fact_text x ++ 10 ∷ more
behind_line x more = append_assoc (fact_text x) (10 ∷ []) more

pub same_one : (x y : Fact) → IsSized x → IsSized y → fact_text x ≡ fact_text y → x ≡ y
same_one x y a b same =
    ap (λ zs. get_or zs 0 x)
    (same_facts (x ∷ []) (y ∷ []) (λ z h. of_one x a z h) (λ z h. of_one y b z h) (ap (λ t. (t ++ 10 ∷ []) ++ []) same))
  where
    of_one : (u : Fact) → IsSized u → (z : Fact) → IsIn z (u ∷ []) → IsSized z
    of_one u is z (inl e) = subst IsSized (sym e) is
    of_one u is z (inr none) = absurd none

-- a text without an end of a line begins with the line of no fact
pub no_line : (q : ℕ) (tape : List World) (text : List ℕ) → (IsIn 10 text → ⊥) → (x : Fact) → BeginsWith q tape text x → ⊥
no_line q tape text none x begins = none (subst (λ t. IsIn 10 t) (sym (behind_line x begins.0) ∙ begins.1.text) (is_behind 10 (fact_text x) begins.0))

-- the first line of a text is that of the fact that it begins with
pub this_line : (q : ℕ) (tape : List World) (line more text : List ℕ) → (IsIn 10 line → ⊥) → line ++ 10 ∷ more ≡ text → (x : Fact) → BeginsWith q tape text x → fact_text x ≡ line
this_line q tape line more text none is x begins =
    (same_cut 10 (fact_text x) line begins.0 more (not_in 10 (fact_text x) (text_without x begins.1.sized)) none (sym (behind_line x begins.0) ∙ begins.1.text ∙ sym is)).0

pub first_is : (q : ℕ) (tape : List World) (line more text : List ℕ) (x : Fact) → line ++ 10 ∷ more ≡ text → IsSized x → fact_text x ≡ line → IsFactOf q tape x → IsFirst q tape text x more
first_is q tape line more text x is sized printed fact =
    record { sized = sized; fact = fact; text = behind_line x more ∙ ap (λ t. t ++ 10 ∷ more) printed ∙ is }

-- where the line is that of no fact, or of one that is not of the tape
pub no_reading : (q : ℕ) (tape : List World) (line more text : List ℕ) → (line ++ 10 ∷ more ≡ text) × (IsIn 10 line → ⊥) → ((x : Fact) → IsSized x → fact_text x ≡ line → ⊥) → (x : Fact) → BeginsWith q tape text x → ⊥
no_reading q tape line more text is none x begins = none x begins.1.sized (this_line q tape line more text is.1 is.0 x begins)

pub no_fact_there : (q : ℕ) (tape : List World) (line more text : List ℕ) (y : Fact) → (line ++ 10 ∷ more ≡ text) × (IsIn 10 line → ⊥) → IsSized y × (fact_text y ≡ line) → (IsFactOf q tape y → ⊥)
    → (x : Fact) → BeginsWith q tape text x → ⊥
no_fact_there q tape line more text y is read none x begins =
    none (subst (IsFactOf q tape) (same_one x y begins.1.sized read.0 (this_line q tape line more text is.1 is.0 x begins ∙ sym read.1)) begins.1.fact)

-- ---- one line

pub same_parts : (x y : Fact) → x.key ≡ y.key → x.value ≡ y.value → x.cells ≡ y.cells → x ≡ y
same_parts x y k v c = joined x.key y.key x.value y.value x.cells y.cells k v c
  where
    joined : (k l : Key) (v w : ℤ) (c d : Option (List ℤ)) → k ≡ l → v ≡ w → c ≡ d → let x : Fact = record { key = k; value = v; cells = c } in let y : Fact = record { key = l; value = w; cells = d } in x ≡ y
    joined k l v w c d e f g = cc

module _ (q : ℕ) (tape : List World) (known : List Fact) (rest : List ℕ) (x : Fact) (more : List ℕ) (first : IsFirst q tape rest x more) (k : Key) (same : k ≡ x.key) where
  pub begins_with : BeginsWith q tape rest x
  begins_with = (more, first)

  pub lacks_need : AllHold q tape (meant q tape) known → (n : Key) → IsMissing q tape known (λ a. needs q tape a k) n → LacksNeed q tape known x
  lacks_need hold n missing = (n, subst (λ l. IsIn n (needs q tape (meant q tape) l)) same (missing.needed (meant q tape) hold), missing.absent)

  pub all_known : AreKnown q tape known (λ a. needs q tape a k) → AreKnown q tape known (λ a. needs q tape a x.key)
  all_known stand = subst (λ l. AreKnown q tape known (λ a. needs q tape a l)) same stand

  pub has_needs : AllHold q tape (meant q tape) known → AreKnown q tape known (λ a. needs q tape a k) → HasNeeds q tape known x
  has_needs hold stand = all_known stand (meant q tape) hold

  pub next_is : AllHold q tape (meant q tape) known → AreKnown q tape known (λ a. needs q tape a k) → derived q tape (meant q tape) x.key ≡ x → IsNext q tape known rest x more
  next_is hold stand given = record { sized = first.sized; passes = record { form = first.fact; needed = has_needs hold stand; given = given }; text = first.text }

-- ---- what stands while lines are checked

pub record IsChecking (q : ℕ) (tape : List World) (text : List ℕ) (known : List Fact) (rest : List ℕ) : Type 0 where
  pub behind : IsBehind q tape text known rest
  pub room : length known + length rest ≤ length text

pub checking_starts : (q : ℕ) (tape : List World) (text : List ℕ) → IsChecking q tape text [] text
checking_starts q tape text = record { behind = record { checked = tt; sized = λ x h. absurd h; whole = refl }; room = omega arith }

one_more : (known : List Fact) (x : Fact) (more : List ℕ) → facts_text (known ++ x ∷ []) ++ more ≡ facts_text known ++ (line_of x ++ more)
one_more [] x more = ap (λ t. t ++ more) (append-nil (line_of x))
one_more (y ∷ ys) x more =
    append_assoc (line_of y) (facts_text (ys ++ x ∷ [])) more
    ∙ ap (λ t. line_of y ++ t) (one_more ys x more)
    ∙ sym (append_assoc (line_of y) (facts_text ys) (line_of x ++ more))

pub checking_goes_on : (q : ℕ) (some : 0 < q) (tape : List World) (regular : IsRegular q tape) (text : List ℕ) (known : List Fact) (rest : List ℕ) (x : Fact) (more : List ℕ)
    → IsChecking q tape text known rest → IsNext q tape known rest x more → IsChecking q tape text (known ++ x ∷ []) more
checking_goes_on q some tape regular text known rest x more is next = record {
  behind = record {
    checked = (next_fact q some tape regular known x).1 (is.behind.checked, next.passes);
    sized = λ y h. elim (IsIn-append known (x ∷ []) y h) [ inl old ↦ is.behind.sized y old | inr new ↦ new_one new ];
    whole = one_more known x more ∙ ap (λ t. facts_text known ++ t) next.text ∙ is.behind.whole;
  };
  room =
      let a = is.room in
      let b = length-append known (x ∷ []) in
      let c = length-append (line_of x) more in
      let d = length-append (fact_text x) (10 ∷ []) in
      let e = ap (λ t. length t) next.text in
      omega (arith, a, b, c, d, e);
}
  where
    new_one : {y : Fact} → IsIn y (x ∷ []) → IsSized y
    new_one (inl same) = subst IsSized (sym same) next.sized
    new_one (inr none) = absurd none

-- checked facts hold in the meaning
pub held : (q : ℕ) (some : 0 < q) (tape : List World) → IsRegular q tape → (facts : List Fact) → IsChecked q tape facts → AllHold q tape (meant q tape) facts
held q some tape regular facts checked = all_hold q some tape regular [] facts (λ y none. absurd none) checked

-- a fault of the line that comes next is one of the text
pub fault_there : (q : ℕ) (tape : List World) (text : List ℕ) (known : List Fact) (rest : List ℕ) → IsChecking q tape text known rest → (rest ≡ [] → ⊥) → (error : CheckErr)
    → IsFaultNext q tape known rest error → IsFault q tape text error
fault_there q tape text known rest is there Empty fault = absurd fault
fault_there q tape text known rest is there (BadLine n) fault = (known, rest, is.behind, there, fault)
fault_there q tape text known rest is there (Missing n) fault = (known, rest, is.behind, there, fault)
fault_there q tape text known rest is there (Wrong n) fault = (known, rest, is.behind, there, fault)
fault_there q tape text known rest is there NoMemory fault = tt

-- and behind the last line the text is a derivation of the last fact
pub derivation_is : (q : ℕ) (tape : List World) (text : List ℕ) (known before : List Fact) (x : Fact) → IsChecking q tape text known [] → known ≡ before ++ x ∷ [] → IsDerivationOf q tape text x
derivation_is q tape text known before x is same = (
  before,
  record {
    some = (let l = length-append before (x ∷ []) in omega (arith, l));
    lines = ap facts_text (sym same) ∙ sym (append-nil (facts_text known)) ∙ is.behind.whole;
    checked = subst (IsChecked q tape) same is.behind.checked;
  },
)
