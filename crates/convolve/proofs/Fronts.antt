-- What is kept, with one more frame in front.
use Rattle.std.proofs.Common.{ℕ, ℤ, pos, zero, suc, ◌≡◌, ◌+◌, ◌-◌, ◌<◌, ◌≤◌, List, [], ◌∷◌, length, take, drop, set, get_or, ap, sym, refl, ◌∙◌, arith, inl, inr}
use Rattle.std.specs.List.{CopiedTo}
use Rattle.std.proofs.lemmas.Bool.{cases_lt}
use Rattle.std.proofs.lemmas.List.{get_or-take, get_or-drop, length-take, length-drop, take-take, drop-set, get_or-replicate, get_or_past, length-replicate, same_lists, drop-replicate, take-replicate}
use Rattle.node_table.specs.Frames.{item}
use Rattle.node_table.proofs.Sums.{dot_same, dot_zero}
use Rattle.wa_base.specs.Numbers.{rnd, sat}
use Rattle.node_table.specs.Convolutions.{convolution}
use Rattle.convolve.specs.Lines.{Recalls, in_front, silence, IsQuiet}

pub frames_long : (xs : List ℤ) (start kept : ℕ) → start + kept ≤ length xs → length (take kept (drop start xs)) ≡ kept
frames_long xs start kept room =
    let d = length-drop start xs in
    let t = length-take kept (drop start xs) in
    omega (arith, d, t)

pub length_front : (x : ℤ) (kept : List ℤ) → length (in_front x kept) ≡ length kept
length_front x kept = let l = length-take (length kept) (x ∷ kept) in omega (arith, l)

take_twice : (k : ℕ) (x : ℤ) (xs : List ℤ) → take k (x ∷ xs) ≡ take k (x ∷ take k xs)
take_twice zero x xs = refl
take_twice (suc k) x xs = ap (λ ys. x ∷ ys) (sym (take-take k (suc k) xs (omega arith)))

-- a frame is written in front of what lies from `there` on
pub written_in_front : (xs : List ℤ) (there k : ℕ) (x : ℤ) → 1 ≤ there → there + k ≤ length xs
    → take k (drop (there - 1) (set xs (there - 1) x)) ≡ in_front x (take k (drop there xs))
written_in_front xs there k x some room =
    let next : there - 1 + 1 ≡ there = omega arith in
    let d = length-drop there xs in
    let t = length-take k (drop there xs) in
    let long : k ≡ length (take k (drop there xs)) = omega (arith, d, t) in
    ap (take k) (drop-set xs (there - 1) x (omega arith) ∙ ap (λ n. x ∷ drop n xs) next)
    ∙ take_twice k x (drop there xs)
    ∙ ap (λ n. take n (x ∷ take k (drop there xs))) long

-- the same, in a list that was lent and came back
pub pushed : (old lent room items : List ℤ) (start there kept : ℕ) (x : ℤ) → lent ≡ old → items ≡ room → length room ≡ length old → 1 ≤ there → there + kept ≤ length old
    → take kept (drop there room) ≡ take kept (drop start lent) → take kept (drop (there - 1) (set items (there - 1) x)) ≡ in_front x (take kept (drop start old))
pushed old lent room items start there kept x lent_is items_is long some space same =
    ap (λ (v : List ℤ). take kept (drop (there - 1) (set v (there - 1) x))) items_is
    ∙ written_in_front room there kept x some (omega (arith, long))
    ∙ ap (in_front x) (same ∙ ap (λ (v : List ℤ). take kept (drop start v)) lent_is)

-- the newest frames are moved from the beginning to the end
pub moved : (old new : List ℤ) (start end kept m : ℕ) → start ≤ 0 → m ≡ kept → length new ≡ length old → end + kept ≤ length old → CopiedTo old new 0 end m
    → take kept (drop end new) ≡ take kept (drop start old)
moved old new start end kept m none same_m same room copied =
    let first : start ≡ 0 = omega arith in
    let d = length-drop end new in
    let long_new = length-take kept (drop end new) in
    let long_old = length-take kept old in
    same_lists (take kept (drop end new)) (take kept old) (omega (arith, d, long_new, long_old))
    (λ k other l.
    let lt : k < kept = omega (arith, long_new) in
    let place : 0 + (end + k - end) ≡ k = omega arith in
    get_or-take kept (drop end new) k other lt ∙ get_or-drop end new k other
    ∙ copied (end + k) other (omega arith) (omega arith) ∙ ap (λ p. get_or old p other) place
    ∙ sym (get_or-take kept old k other lt))
    ∙ ap (λ s. take kept (drop s old)) (sym first)

-- ---- silence

pub quiet_more : (n : ℕ) (x : ℤ) (kept : List ℤ) → x ≡ pos 0 → IsQuiet n kept → IsQuiet (n + 1) (in_front x kept)
quiet_more n x kept none quiet zero l = elim (cases_lt 0 (length kept)) [
  | inl some ↦ get_or-take (length kept) (x ∷ kept) 0 (pos 0) some ∙ none
  | inr empty ↦ get_or_past (in_front x kept) 0 (pos 0) (let e = length_front x kept in omega (arith, e))
]
quiet_more n x kept none quiet (suc i) l = elim (cases_lt (suc i) (length kept)) [
  | inl some ↦ get_or-take (length kept) (x ∷ kept) (suc i) (pos 0) some ∙ quiet i (omega arith)
  | inr past ↦ get_or_past (in_front x kept) (suc i) (pos 0) (let e = length_front x kept in omega (arith, e))
]

pub quiet_less : (m n : ℕ) (kept : List ℤ) → m ≤ n → IsQuiet n kept → IsQuiet m kept
quiet_less m n kept l quiet i h = quiet i (omega arith)

-- where all that is kept is 0, so is the output
pub quiet_output : (response kept : List ℤ) → length response ≡ length kept → IsQuiet (length kept) kept → pos 0 ≡ convolution response kept
quiet_output response kept long quiet =
    sym (ap (λ z. sat (rnd z (pos 16777216))) (dot_zero response kept (λ i l. quiet i (omega arith))))

-- ---- all that was heard

-- what is kept recalls what was heard
pub recalls_more : (kept frames : List ℤ) (x : ℤ) → Recalls kept frames → Recalls (in_front x kept) (x ∷ frames)
recalls_more kept frames x recalls zero l = get_or-take (length kept) (x ∷ kept) 0 (pos 0) (let e = length_front x kept in omega (arith, e))
recalls_more kept frames x recalls (suc i) l =
    let e = length_front x kept in
    get_or-take (length kept) (x ∷ kept) (suc i) (pos 0) (omega (arith, e)) ∙ recalls i (omega (arith, e))

pub recalled_output : (response kept frames : List ℤ) → length response ≡ length kept → Recalls kept frames → convolution response kept ≡ convolution response frames
recalled_output response kept frames long recalls =
    ap (λ z. sat (rnd z (pos 16777216))) (dot_same response kept frames (λ i l. recalls i (omega arith)))

-- what lies behind in silence
pub silent_frames : (start kept : ℕ) (samples : List ℤ) → samples ≡ silence (start + kept) → take kept (drop start samples) ≡ silence kept
silent_frames start kept samples is =
    let left : start + kept - start ≡ kept = omega arith in
    ap (λ (v : List ℤ). take kept (drop start v)) is
    ∙ ap (take kept) (drop-replicate start (start + kept) (pos 0) ∙ ap silence left)
    ∙ take-replicate kept kept (pos 0) (omega arith)

silent_item : (n i : ℕ) → item (silence n) i ≡ pos 0
silent_item n i = elim (cases_lt i n) [
  | inl there ↦ get_or-replicate n i (pos 0) (pos 0) there
  | inr past ↦ get_or_past (silence n) i (pos 0) (let e = length-replicate n (pos 0) in omega (arith, e))
]

pub born_recalls : (n : ℕ) → Recalls (silence n) []
born_recalls n i l = silent_item n i

pub silent_recalls : (n : ℕ) (x : ℤ) (frames : List ℤ) → x ≡ pos 0 → Recalls (silence n) frames → Recalls (silence n) (x ∷ frames)
silent_recalls n x frames none recalls zero l = silent_item n 0 ∙ sym none
silent_recalls n x frames none recalls (suc i) l = silent_item n (suc i) ∙ sym (silent_item n i) ∙ recalls i (omega arith)
