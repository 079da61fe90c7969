-- What the rings have once a block is written.
use Rattle.std.proofs.Common.{ℕ, ℤ, pos, ◌≡◌, ◌+◌, ◌-◌, ◌*◌, ◌<◌, ◌≤◌, List, [], ◌∷◌, ◌++◌, length, map, get_or, replicate, ap, refl, sym, subst, ◌∙◌, arith, inl, inr}
use Rattle.std.proofs.Math.ListN.{get_or-map}
use Rattle.std.proofs.lemmas.List.{get_or_past, get_or_append_left, get_or-append_right, get_or-replicate, length-replicate}
use Rattle.circular_buffer.specs.Buffer.{Buffer, buffer, keep_last}
use Rattle.delay_line.specs.Lines.{from_end}
use Rattle.delay_line.specs.Rings.{IsExtended}
use Rattle.delay_line.proofs.Ends.{order, from_end_past, pushed_newest, pushed_older}
use Rattle.delay_line.proofs.Keeping.{IsWritten, channel_of}
use Rattle.delay_line.proofs.Places.{below_times}

abbrev pub items_of : List (Buffer ℤ) → List (List ℤ)
items_of rings = map (λ (ring : Buffer ℤ). ring.items) rings

abbrev pub none : Buffer ℤ
none = buffer [] 0

-- the items of a ring; there are none where there is no ring
pub channel_is : (rings : List (Buffer ℤ)) (c : ℕ) → channel_of (items_of rings) c ≡ (get_or rings c none).items
channel_is rings c = get_or-map (λ (ring : Buffer ℤ). ring.items) rings c none

replicated : (more capacity i : ℕ) → (get_or (replicate more (buffer [] capacity)) i none).items ≡ []
replicated more capacity i = elim (order more i) [
  | inl past ↦ ap (λ (r : Buffer ℤ). r.items) (get_or_past (replicate more (buffer [] capacity)) i none (let long = length-replicate more (buffer {X = ℤ} [] capacity) in omega (arith, long, past)))
  | inr there ↦ ap (λ (r : Buffer ℤ). r.items) (get_or-replicate more i (buffer [] capacity) none there)
]

-- empty rings at the end
pub channel_grown : (rings : List (Buffer ℤ)) (more capacity c : ℕ) → channel_of (items_of (rings ++ replicate more (buffer [] capacity))) c ≡ channel_of (items_of rings) c
channel_grown rings more capacity c =
    let empty = replicate more (buffer [] capacity) in
    channel_is (rings ++ empty) c ∙ elim (order (length rings) c) [
      | inl new ↦
          let i = c - length rings in
          ap (λ (r : Buffer ℤ). r.items) (get_or-append_right rings empty (length rings) c none refl new) ∙ replicated more capacity i
          ∙ sym (channel_is rings c ∙ ap (λ (r : Buffer ℤ). r.items) (get_or_past rings c none new))
      | inr there ↦ ap (λ (r : Buffer ℤ). r.items) (get_or_append_left rings empty none c there) ∙ sym (channel_is rings c)
    ]

pub rings_written : (capacity block most count : ℕ) (counts : List ℕ) (rings rings' : List (Buffer ℤ)) (samples : List ℤ)
    → 0 < block → capacity + block ≤ most * block → length rings' ≡ length rings → count ≤ length rings
    → ((c : ℕ) (ring : Buffer ℤ) → c < length rings → (get_or rings c ring).capacity ≡ capacity + block)
    → ((c : ℕ) (ring : Buffer ℤ) → c < length rings → IsExtended (get_or rings c ring) (get_or rings' c ring) samples count block c)
    → IsWritten capacity block counts (keep_last most (counts ++ count ∷ [])) (items_of rings) (items_of rings') count samples
rings_written capacity block most count counts rings rings' samples some reach long room wide extended = record {
  latest = pushed_newest most counts count 0 (below_times 0 most block (omega (arith, reach, some)));
  earlier = λ i near. pushed_older most counts count 0 i (below_times (i + 1) most block (omega (arith, near, reach)));
  newest = λ c k less few.
      ap (λ items. from_end items (block - k - 1) (pos 0)) (channel_is rings' c) ∙ (extended c none (omega (arith, less, room))).newest k less few;
  older = λ c i near. elim (order (length rings) c) [
    | inl past ↦
        let e = channel_is rings' c ∙ ap (λ (r : Buffer ℤ). r.items) (get_or_past rings' c none (omega (arith, long, past))) in
        let e' = channel_is rings c ∙ ap (λ (r : Buffer ℤ). r.items) (get_or_past rings c none past) in
        ap (λ items. from_end items (block + i) (pos 0)) e ∙ from_end_past [] (block + i) (pos 0) (omega arith)
        ∙ sym (ap (λ items. from_end items i (pos 0)) e' ∙ from_end_past [] i (pos 0) (omega arith))
    | inr there ↦
        ap (λ items. from_end items (block + i) (pos 0)) (channel_is rings' c)
        ∙ (extended c none there).older i (subst (λ n. block + i < n) (sym (wide c none there)) near)
        ∙ sym (ap (λ items. from_end items i (pos 0)) (channel_is rings c))
  ];
}
