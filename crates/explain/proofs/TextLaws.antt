-- A text is that of at most one list of facts whose numbers fit their types.
use Rattle.std.proofs.Common.{ℕ, ℤ, ◌≡◌, ◌<◌, ◌^◌, ◌==◌, length, List, [], ◌∷◌, ◌++◌, map, Bool, true, false, Option, Some, None, IfSome, inl, inr, refl, sym, ◌∙◌, ap, ap₂, subst, arith, decimal, codes, drop, get_or, if◌then◌else◌, append_assoc, append-nil}
use Rattle.std.specs.Fmt.{signed_decimal}
use Rattle.std.proofs.lemmas.Fmt.{decimal_is_IsNumeral, decimal_injective, signed_decimal_injective}
use Rattle.std.proofs.lemmas.List.{length-map}
use Rattle.wa_base.specs.Numbers.{IsFix}
use Rattle.wa_base.specs.GraphNames.{param_word}
use Rattle.wa_base.specs.declared.graph_names.End.{End}
use Rattle.wa_base.specs.declared.graph_names.NodeId.{NodeId}
use Rattle.wa_base.specs.declared.graph_names.ParamName.{ParamName}
use Rattle.wa_base.specs.declared.graph_names.ParamName.TheVariants.{Offset, Gain, DelayTime, PlaybackRate, Detune}
use Rattle.law_base.specs.Members.{IsIn}
use Rattle.explain.specs.declared.facts.Key.{Key}
use Rattle.explain.specs.declared.facts.Key.TheVariants.{Count, Inlet, Par, Hist, Out}
use Rattle.explain.specs.declared.facts.Fact.{Fact}
use Rattle.explain.specs.Texts.{IsSizedKey, AreCells, IsSized, end_text, key_words, value_words, cell_words, fact_words, fact_text, facts_text}
use Rattle.explain.specs.LineReading.{words}
use Rattle.explain.proofs.LineCuts.{Without, has_mark, digits_below, fix_small, cuts, cut_first, words_of_fact, text_without}

-- ---- ends and names

pub end_front : (m n : List ℕ) → m ++ codes "w" ≡ n ++ codes "w" → m ≡ n
end_front [] [] same = refl
end_front [] (y ∷ []) same = absurd (omega (arith, ap (λ ws. length ws) same))
end_front [] (y ∷ z ∷ ys) same = absurd (omega (arith, ap (λ ws. length ws) same))
end_front (x ∷ []) [] same = absurd (omega (arith, ap (λ ws. length ws) same))
end_front (x ∷ z ∷ xs) [] same = absurd (omega (arith, ap (λ ws. length ws) same))
end_front (x ∷ xs) (y ∷ ys) same = ap₂ (λ c cs. c ∷ cs) (ap (λ ws. get_or ws 0 0) same) (end_front xs ys (ap (drop 1) same))

pub same_end : (d e : End) → d.node.0 < 2 ^ 32 → e.node.0 < 2 ^ 32 → end_text d ≡ end_text e → d ≡ e
same_end d e small small' same =
    let k = by_ends d.node.0 e.node.0 d.writer e.writer (omega arith) (omega arith) same in
    ap₂ (λ n w. let x : End = record { node = record { 0 = n }; writer = w } in x) k.0 k.1
  where
    none : (n : ℕ) → n < 2 ^ 64 → Without 119 (decimal n)
    none n small = digits_below 119 (decimal n) (omega arith) (decimal_is_IsNumeral n small).0.1

    by_ends : (m n : ℕ) (v w : Bool) → m < 2 ^ 64 → n < 2 ^ 64 → decimal m ++ (if v then codes "w" else []) ≡ decimal n ++ (if w then codes "w" else []) → (m ≡ n) × (v ≡ w)
    by_ends m n true true small small' same = (decimal_injective m n small small' (end_front (decimal m) (decimal n) same), refl)
    by_ends m n false false small small' same = (decimal_injective m n small small' (sym (append-nil (decimal m)) ∙ same ∙ append-nil (decimal n)), refl)
    by_ends m n true false small small' same = absurd (has_mark 119 (decimal m) [] (subst (Without 119) (sym (append-nil (decimal n)) ∙ sym same) (none n small')))
    by_ends m n false true small small' same = absurd (has_mark 119 (decimal n) [] (subst (Without 119) (sym (append-nil (decimal m)) ∙ same) (none m small)))

-- the name of a parameter by the third letter of its word
name_by : ℕ → ParamName
name_by c = if c == 102 then Offset else if c == 105 then Gain else if c == 108 then DelayTime else if c == 97 then PlaybackRate else Detune

name_is : (n : ParamName) → name_by (get_or (param_word n) 2 0) ≡ n
unfolding name_by
name_is Offset = refl
name_is Gain = refl
name_is DelayTime = refl
name_is PlaybackRate = refl
name_is Detune = refl

pub same_name : (m n : ParamName) → param_word m ≡ param_word n → m ≡ n
same_name m n same = sym (name_is m) ∙ ap (λ w. name_by (get_or w 2 0)) same ∙ name_is n

-- ---- keys

-- the first letter of the first word
abbrev pub letter : List (List ℕ) → ℕ
letter [] = 0
letter ([] ∷ ws) = 0
letter ((c ∷ w) ∷ ws) = c

module _ (u v : List (List ℕ)) where
  same_number : (m n : ℕ) → m < 2 ^ 64 → n < 2 ^ 64 → decimal m ≡ decimal n → m ≡ n
  same_number m n small small' same = decimal_injective m n small small' same

  same_node : (m n : NodeId) → m.0 < 2 ^ 32 → n.0 < 2 ^ 32 → decimal m.0 ≡ decimal n.0 → m ≡ n
  same_node m n small small' same = ap (λ i. let x : NodeId = record { 0 = i } in x) (same_number m.0 n.0 (omega arith) (omega arith) same)

  pub same_key : (k l : Key) → IsSizedKey k → IsSizedKey l → key_words k u ≡ key_words l v → (k ≡ l) × (u ≡ v)
  same_key (Count j e o) (Count j' e' o') a b same =
      let first = same_number j j' a.0 b.0 (ap (λ ws. get_or ws 1 []) same) in
      let second = same_end e e' a.1 b.1 (ap (λ ws. get_or ws 2 []) same) in
      let third = same_number o o' (omega (arith, a.2)) (omega (arith, b.2)) (ap (λ ws. get_or ws 3 []) same) in
      (cc, ap (drop 4) same)
  same_key (Inlet f e i c) (Inlet f' e' i' c') a b same =
      let first = same_number f f' a.0 b.0 (ap (λ ws. get_or ws 1 []) same) in
      let second = same_end e e' a.1 b.1 (ap (λ ws. get_or ws 2 []) same) in
      let third = same_number i i' (omega (arith, a.2)) (omega (arith, b.2)) (ap (λ ws. get_or ws 3 []) same) in
      let fourth = same_number c c' (omega (arith, a.3)) (omega (arith, b.3)) (ap (λ ws. get_or ws 4 []) same) in
      (cc, ap (drop 5) same)
  same_key (Par f node name) (Par f' node' name') a b same =
      let first = same_number f f' a.0 b.0 (ap (λ ws. get_or ws 1 []) same) in
      let second = same_node node node' a.1 b.1 (ap (λ ws. get_or ws 2 []) same) in
      let third = same_name name name' (ap (λ ws. get_or ws 3 []) same) in
      (cc, ap (drop 4) same)
  same_key (Hist f node c) (Hist f' node' c') a b same =
      let first = same_number f f' a.0 b.0 (ap (λ ws. get_or ws 1 []) same) in
      let second = same_node node node' a.1 b.1 (ap (λ ws. get_or ws 2 []) same) in
      let third = same_number c c' (omega (arith, a.2)) (omega (arith, b.2)) (ap (λ ws. get_or ws 3 []) same) in
      (cc, ap (drop 4) same)
  same_key (Out f e o c) (Out f' e' o' c') a b same =
      let first = same_number f f' a.0 b.0 (ap (λ ws. get_or ws 1 []) same) in
      let second = same_end e e' a.1 b.1 (ap (λ ws. get_or ws 2 []) same) in
      let third = same_number o o' (omega (arith, a.2)) (omega (arith, b.2)) (ap (λ ws. get_or ws 3 []) same) in
      let fourth = same_number c c' (omega (arith, a.3)) (omega (arith, b.3)) (ap (λ ws. get_or ws 4 []) same) in
      (cc, ap (drop 5) same)
  same_key (Count j e o) (Inlet f' e' i' c') a b same = absurd (omega (arith, ap letter same))
  same_key (Count j e o) (Par f' node' name') a b same = absurd (omega (arith, ap letter same))
  same_key (Count j e o) (Hist f' node' c') a b same = absurd (omega (arith, ap letter same))
  same_key (Count j e o) (Out f' e' o' c') a b same = absurd (omega (arith, ap letter same))
  same_key (Inlet f e i c) (Count j' e' o') a b same = absurd (omega (arith, ap letter same))
  same_key (Inlet f e i c) (Par f' node' name') a b same = absurd (omega (arith, ap letter same))
  same_key (Inlet f e i c) (Hist f' node' c') a b same = absurd (omega (arith, ap letter same))
  same_key (Inlet f e i c) (Out f' e' o' c') a b same = absurd (omega (arith, ap letter same))
  same_key (Par f node name) (Count j' e' o') a b same = absurd (omega (arith, ap letter same))
  same_key (Par f node name) (Inlet f' e' i' c') a b same = absurd (omega (arith, ap letter same))
  same_key (Par f node name) (Hist f' node' c') a b same = absurd (omega (arith, ap letter same))
  same_key (Par f node name) (Out f' e' o' c') a b same = absurd (omega (arith, ap letter same))
  same_key (Hist f node c) (Count j' e' o') a b same = absurd (omega (arith, ap letter same))
  same_key (Hist f node c) (Inlet f' e' i' c') a b same = absurd (omega (arith, ap letter same))
  same_key (Hist f node c) (Par f' node' name') a b same = absurd (omega (arith, ap letter same))
  same_key (Hist f node c) (Out f' e' o' c') a b same = absurd (omega (arith, ap letter same))
  same_key (Out f e o c) (Count j' e' o') a b same = absurd (omega (arith, ap letter same))
  same_key (Out f e o c) (Inlet f' e' i' c') a b same = absurd (omega (arith, ap letter same))
  same_key (Out f e o c) (Par f' node' name') a b same = absurd (omega (arith, ap letter same))
  same_key (Out f e o c) (Hist f' node' c') a b same = absurd (omega (arith, ap letter same))

-- ---- facts

same_cells : (xs ys : List ℤ) → ((x : ℤ) → IsIn x xs → IsFix x) → ((y : ℤ) → IsIn y ys → IsFix y) → map signed_decimal xs ≡ map signed_decimal ys → xs ≡ ys
same_cells [] [] a b same = refl
same_cells [] (y ∷ ys) a b same = absurd (omega (arith, ap (λ ws. length ws) same))
same_cells (x ∷ xs) [] a b same = absurd (omega (arith, ap (λ ws. length ws) same))
same_cells (x ∷ xs) (y ∷ ys) a b same =
    ap₂ (λ c cs. c ∷ cs) (signed_decimal_injective x y (fix_small x (a x (inl refl))) (fix_small y (b y (inl refl))) (ap (λ ws. get_or ws 0 []) same))
    (same_cells xs ys (λ z h. a z (inr h)) (λ z h. b z (inr h)) (ap (drop 1) same))

same_some : (c d : Option (List ℤ)) → IfSome c AreCells → IfSome d AreCells → cell_words c ≡ cell_words d → c ≡ d
same_some None None a b same = refl
same_some None (Some ds) a b same = let e = length-map ds signed_decimal in absurd (omega (arith, b.sixteen, e, ap (λ ws. length ws) same))
same_some (Some cs) None a b same = let e = length-map cs signed_decimal in absurd (omega (arith, a.sixteen, e, ap (λ ws. length ws) same))
same_some (Some cs) (Some ds) a b same = ap (λ xs. Some xs) (same_cells cs ds a.fix b.fix same)

same_fact : (x y : Fact) → IsSized x → IsSized y → fact_text x ≡ fact_text y → x ≡ y
same_fact x y a b same =
    let cut : fact_words x ≡ fact_words y = sym (words_of_fact x a) ∙ ap words same ∙ words_of_fact y b in
    let k = same_key (value_words x.value (cell_words x.cells)) (value_words y.value (cell_words y.cells)) x.key y.key a.key b.key cut in
    let value : x.value ≡ y.value = signed_decimal_injective x.value y.value a.value.sfits b.value.sfits (ap (λ ws. get_or ws 1 []) k.1) in
    let cells : x.cells ≡ y.cells = same_some x.cells y.cells a.cells b.cells (ap (drop 2) k.1) in
    joined x.key y.key x.value y.value x.cells y.cells k.0 value cells
  where
    joined : (k l : Key) (v w : ℤ) (c d : Option (List ℤ)) → k ≡ l → v ≡ w → c ≡ d → let x : Fact = record { key = k; value = v; cells = c } in let y : Fact = record { key = l; value = w; cells = d } in x ≡ y
    joined k l v w c d e f g = cc

-- ---- lines

facts_cut : (xs : List Fact) → ((x : Fact) → IsIn x xs → IsSized x) → cuts 10 (facts_text xs) ≡ map fact_text xs ++ [] ∷ []
facts_cut [] a = refl
facts_cut (x ∷ xs) a =
    ap (cuts 10) (append_assoc (fact_text x) (10 ∷ []) (facts_text xs)) ∙ cut_first 10 (fact_text x) (facts_text xs) (text_without x (a x (inl refl)))
    ∙ ap (λ ls. fact_text x ∷ ls) (facts_cut xs (λ z h. a z (inr h)))

same_each : (xs ys : List Fact) → ((x : Fact) → IsIn x xs → IsSized x) → ((y : Fact) → IsIn y ys → IsSized y) → map fact_text xs ++ [] ∷ [] ≡ map fact_text ys ++ [] ∷ [] → xs ≡ ys
same_each [] [] a b same = refl
same_each [] (y ∷ ys) a b same = absurd (behind (map fact_text ys) (ap (λ ls. length (drop 1 ls)) same))
  where
    behind : (ls : List (List ℕ)) → 0 ≡ length (ls ++ [] ∷ []) → ⊥
    behind [] e = omega (arith, e)
    behind (l ∷ ls) e = omega (arith, e)
same_each (x ∷ xs) [] a b same = absurd (behind (map fact_text xs) (ap (λ ls. length (drop 1 ls)) (sym same)))
  where
    behind : (ls : List (List ℕ)) → 0 ≡ length (ls ++ [] ∷ []) → ⊥
    behind [] e = omega (arith, e)
    behind (l ∷ ls) e = omega (arith, e)
same_each (x ∷ xs) (y ∷ ys) a b same =
    ap₂ (λ z zs. z ∷ zs) (same_fact x y (a x (inl refl)) (b y (inl refl)) (ap (λ ws. get_or ws 0 []) same))
    (same_each xs ys (λ z h. a z (inr h)) (λ z h. b z (inr h)) (ap (drop 1) same))

pub same_facts : (xs ys : List Fact) → ((x : Fact) → IsIn x xs → IsSized x) → ((y : Fact) → IsIn y ys → IsSized y) → facts_text xs ≡ facts_text ys → xs ≡ ys
same_facts xs ys a b same = same_each xs ys a b (sym (facts_cut xs a) ∙ ap (cuts 10) same ∙ facts_cut ys b)
