-- Items counted from the end of a list.
use Rattle.std.proofs.Common.{ℕ, zero, suc, ◌≡◌, ◌+◌, ◌-◌, ◌<◌, ◌≤◌, List, [], ◌∷◌, ◌++◌, ◌⊎◌, length, get_or, refl, ap, sym, ◌∙◌, arith, inl, inr, length-append, length-drop}
use Rattle.std.proofs.lemmas.Bool.{lt-ltb, le-ltb}
use Rattle.std.proofs.lemmas.List.{get_or_append_left, get_or-append_right, get_or-drop}
use Rattle.circular_buffer.specs.Buffer.{keep_last}
use Rattle.delay_line.specs.Lines.{from_end}

-- which of two numbers is at least the other
pub order : (a b : ℕ) → (a ≤ b) ⊎ (b < a)
order a b = grind arith

module _ {X : Type 0} where
  pub from_end_there : (items : List X) (i : ℕ) (d : X) → i < length items → from_end items i d ≡ get_or items (length items - i - 1) d
  from_end_there items i d there = rw (lt-ltb i (length items) there) refl

  pub from_end_past : (items : List X) (i : ℕ) (d : X) → length items ≤ i → from_end items i d ≡ d
  from_end_past items i d past = rw (le-ltb i (length items) past) refl

  pub from_end_new : (old new : List X) (i : ℕ) (d : X) → i < length new → from_end (old ++ new) i d ≡ from_end new i d
  from_end_new old new i d there =
      let long = length-append old new in
      let place : length (old ++ new) - i - 1 - length old ≡ length new - i - 1 = omega (arith, long) in
      from_end_there (old ++ new) i d (omega (arith, long))
      ∙ get_or-append_right old new (length old) (length (old ++ new) - i - 1) d refl (omega (arith, long))
      ∙ ap (λ k. get_or new k d) place ∙ sym (from_end_there new i d there)

  pub from_end_old : (old new : List X) (i : ℕ) (d : X) → length new ≤ i → from_end (old ++ new) i d ≡ from_end old (i - length new) d
  from_end_old old new i d past =
      let long = length-append old new in
      elim (order (length (old ++ new)) i) [
        | inl none ↦ from_end_past (old ++ new) i d none ∙ sym (from_end_past old (i - length new) d (omega (arith, long)))
        | inr there ↦
            let place : length (old ++ new) - i - 1 ≡ length old - (i - length new) - 1 = omega (arith, long) in
            let within : length old - (i - length new) - 1 < length old = omega (arith, long) in
            from_end_there (old ++ new) i d there ∙ ap (λ k. get_or (old ++ new) k d) place
            ∙ get_or_append_left old new d (length old - (i - length new) - 1) within
            ∙ sym (from_end_there old (i - length new) d (omega (arith, long)))
      ]

  pub from_end_kept : (n : ℕ) (items : List X) (i : ℕ) (d : X) → i < n → from_end (keep_last n items) i d ≡ from_end items i d
  from_end_kept n items i d within =
      let long = length-drop (length items - n) items in
      elim (order (length items) i) [
        | inl none ↦ from_end_past (keep_last n items) i d (omega (arith, long)) ∙ sym (from_end_past items i d none)
        | inr there ↦
            let place : length items - n + (length (keep_last n items) - i - 1) ≡ length items - i - 1 = omega (arith, long) in
            from_end_there (keep_last n items) i d (omega (arith, long))
            ∙ get_or-drop (length items - n) items (length (keep_last n items) - i - 1) d
            ∙ ap (λ k. get_or items k d) place ∙ sym (from_end_there items i d there)
      ]

  -- the newest item, and those before it
  pub pushed_newest : (n : ℕ) (items : List X) (x d : X) → 0 < n → from_end (keep_last n (items ++ x ∷ [])) 0 d ≡ x
  pushed_newest n items x d some = from_end_kept n (items ++ x ∷ []) 0 d some ∙ from_end_new items (x ∷ []) 0 d (omega arith)

  pub pushed_older : (n : ℕ) (items : List X) (x d : X) (i : ℕ) → i + 1 < n → from_end (keep_last n (items ++ x ∷ [])) (i + 1) d ≡ from_end items i d
  pushed_older n items x d i within =
      let place : i + 1 - 1 ≡ i = omega arith in
      from_end_kept n (items ++ x ∷ []) (i + 1) d within ∙ from_end_old items (x ∷ []) (i + 1) d (omega arith) ∙ ap (λ k. from_end items k d) place

-- one more of the same at the end
pub alike_more : (n : ℕ) (items : List ℕ) (x alike more : ℕ) → ((i : ℕ) → i < alike → i < length items → from_end items i 0 ≡ x) → more ≤ alike + 1 → more ≤ n
    → (i : ℕ) → i < more → i < length (keep_last n (items ++ x ∷ [])) → from_end (keep_last n (items ++ x ∷ [])) i 0 ≡ x
alike_more n items x alike more before few fits zero low there = pushed_newest n items x 0 (omega arith)
alike_more n items x alike more before few fits (suc i) low there =
    let long = length-append items (x ∷ []) in
    let kept = length-drop (length (items ++ x ∷ []) - n) (items ++ x ∷ []) in
    let next : suc i ≡ i + 1 = omega arith in
    ap (λ k. from_end (keep_last n (items ++ x ∷ [])) k 0) next ∙ pushed_older n items x 0 i (omega arith) ∙ before i (omega arith) (omega (arith, long, kept, there))
