-- Blocks that are heard.
use Rattle.std.proofs.Common.{◌≡◌, ◌≢◌, ◌<◌, ◌≤◌, ◌+◌, ◌*◌, ℕ, zero, suc, ℤ, pos, List, ◌∷◌, length, take, drop, set, get_or, ap, ap₂, subst, sym, refl, ◌∙◌, rules, arith, add-one, below_more, get_or-set_same, get_or-set_other, inl, inr}
use borrow.Rule.Slice.PartMut.{put_mid}
use Rattle.std.proofs.lemmas.Bool.{cases_lt}
use Rattle.std.proofs.lemmas.List.{places, get_or_past}
use Rattle.std.proofs.lemmas.Nat.{mul-le}
use Rattle.node_table.specs.Frames.{item, heard}
use Rattle.node_table.specs.Convolutions.{convolution}
use Rattle.convolve.specs.Lines.{Recalls, HasHeard, in_front, silence}
use Rattle.convolve.proofs.Fronts.{length_front, recalls_more, recalled_output, silent_recalls}

-- ---- frame by frame

heard_one : (block : List ℤ) (start k : ℕ) (frames : List ℤ) → heard block start (k + 1) frames ≡ item block (start + k) ∷ heard block start k frames
heard_one block start k frames = ap (λ n. heard block start n frames) (add-one k)

pub hears_none : (kept block : List ℤ) (start : ℕ) → HasHeard kept kept block start 0
hears_none kept block start = record { long = refl; recalls = λ frames recalls. recalls }

hears_more : (old now block : List ℤ) (start k : ℕ) → HasHeard old now block start k → HasHeard old (in_front (item block (start + k)) now) block start (k + 1)
hears_more old now block start k so_far = record {
  long = length_front (item block (start + k)) now ∙ so_far.long;
  recalls = λ frames recalls.
      subst (λ (v : List ℤ). Recalls (in_front (item block (start + k)) now) v) (sym (heard_one block start k frames))
      (recalls_more now (heard block start k frames) (item block (start + k)) (so_far.recalls frames recalls));
}

-- a channel has heard so many frames, and their outputs are written
pub record Hearing (response old now x y : List ℤ) (k : ℕ) : Type 0 where
  pub hears : HasHeard old now x 0 k
  pub outputs : (i : ℕ) (frames : List ℤ) → i < k → Recalls old frames → item y i ≡ convolution response (heard x 0 (i + 1) frames)

pub hearing_more : (response old now new x y : List ℤ) (k : ℕ) (value : ℤ) → k < length y → length old ≡ length response → Hearing response old now x y k
    → new ≡ in_front (item x k) now → value ≡ convolution response new → Hearing response old new x (set y k value) (k + 1)
hearing_more response old now new x y k value there long so_far is value_is =
    let place : 0 + k ≡ k = omega arith in
    let is_here : new ≡ in_front (item x (0 + k)) now = is ∙ ap (λ p. in_front (item x p) now) (sym place) in
    let have : HasHeard old new x 0 (k + 1) = subst (λ (v : List ℤ). HasHeard old v x 0 (k + 1)) (sym is_here) (hears_more old now x 0 k so_far.hears) in
    let long_new : length response ≡ length new = sym (have.long ∙ long) in
    let P : ℕ → Type 0 = λ i. (frames : List ℤ) → Recalls old frames → item (set y k value) i ≡ convolution response (heard x 0 (i + 1) frames) in
    record {
      hears = have;
      outputs = λ i frames l recalls. below_more P k
          (λ j lt ys r. let ne : j ≢ k = omega arith in get_or-set_other y k j value (pos 0) ne ∙ so_far.outputs j ys lt r)
          (λ ys r. get_or-set_same y k value (pos 0) there ∙ value_is ∙ recalled_output response new (heard x 0 (k + 1) ys) long_new (have.recalls ys r))
          i l frames recalls;
    }

-- ---- channel by channel

written_before : (i m : ℕ) (xs ys : List ℤ) (k : ℕ) → k < i → i ≤ length xs → get_or (put_mid i m xs ys) k (pos 0) ≡ get_or xs k (pos 0)
written_before i m xs ys k h there = search (rules, places)

written_here : (i m : ℕ) (xs ys : List ℤ) (k : ℕ) → k < length ys → i ≤ length xs → get_or (put_mid i m xs ys) (i + k) (pos 0) ≡ get_or ys k (pos 0)
written_here i m xs ys k h there = search (rules, places)

part_at : (i m : ℕ) (xs : List ℤ) (k : ℕ) → k < m → get_or (take m (drop i xs)) k (pos 0) ≡ get_or xs (i + k) (pos 0)
part_at i m xs k h = search (rules, places)

-- what stands in an earlier channel is before this one
earlier : (k c i frames : ℕ) → k < c → i < frames → k * frames + i < c * frames
earlier k c i frames l m = let all = mul-le (k + 1) frames c frames (omega arith) (omega arith) in omega arith

-- a channel's part of a block is in the block
pub part_room : (c count frames : ℕ) → c < count → c * frames + frames ≤ count * frames
part_room c count frames l = let all = mul-le (c + 1) frames count frames (omega arith) (omega arith) in omega arith

-- to hear a part of a block is to hear the block from there on
heard_part : (block : List ℤ) (start m n : ℕ) (frames : List ℤ) → n ≤ m → heard (take m (drop start block)) 0 n frames ≡ heard block start n frames
heard_part block start m zero frames l = refl
heard_part block start m (suc n) frames l =
    let place : 0 + n ≡ n = omega arith in
    ap₂ (λ (x : ℤ) (xs : List ℤ). x ∷ xs) (ap (item (take m (drop start block))) place ∙ part_at start m block n (omega arith)) (heard_part block start m n frames (omega arith))

-- the channels below c have heard their frames, and the others are as they were
pub record HearingAll (response : List ℤ) (old now : List (List ℤ)) (x y : List ℤ) (frames c : ℕ) : Type 0 where
  pub hear : (k : ℕ) (other : List ℤ) → k < c → HasHeard (get_or old k other) (get_or now k other) x (k * frames) frames
  pub outputs : (k i : ℕ) (other xs : List ℤ) → k < c → i < frames → Recalls (get_or old k other) xs → item y (k * frames + i) ≡ convolution response (heard x (k * frames) (i + 1) xs)
  pub others : (k : ℕ) (other : List ℤ) → c ≤ k → get_or now k other ≡ get_or old k other

part_heard : (before new x : List ℤ) (start m n frames : ℕ) → m ≡ frames → n ≡ frames → HasHeard before new (take m (drop start x)) 0 n → HasHeard before new x start frames
part_heard before new x start m n frames same_m same_n part = record {
  long = part.long;
  recalls = λ xs recalls.
      subst (λ (v : List ℤ). Recalls new v) (heard_part x start m n xs (omega arith) ∙ ap (λ k. heard x start k xs) same_n) (part.recalls xs recalls);
}

pub channel_more : (response : List ℤ) (old now : List (List ℤ)) (x y part before new : List ℤ) (frames c m n : ℕ)
    → c < length now → ((other : List ℤ) → before ≡ get_or now c other) → c * frames + frames ≤ length y → m ≡ frames → n ≡ frames → length part ≡ frames
    → HearingAll response old now x y frames c
    → HasHeard before new (take m (drop (c * frames) x)) 0 n
    → ((i : ℕ) (xs : List ℤ) → i < n → Recalls before xs → item part i ≡ convolution response (heard (take m (drop (c * frames) x)) 0 (i + 1) xs))
    → HearingAll response old (set now c new) x (put_mid (c * frames) m y part) frames (c + 1)
channel_more response old now x y part before new frames c m n there was room same_m same_n long so_far here written =
    let start = c * frames in
    let base : (other : List ℤ) → before ≡ get_or old c other = λ other. was other ∙ so_far.others c other (omega arith) in
    let whole : HasHeard before new x start frames = part_heard before new x start m n frames same_m same_n here in
    record {
      hear = λ k other l. below_more (λ i. HasHeard (get_or old i other) (get_or (set now c new) i other) x (i * frames) frames) c
          (λ i lt. let ne : i ≢ c = omega arith in
          subst (λ (v : List ℤ). HasHeard (get_or old i other) v x (i * frames) frames) (sym (get_or-set_other now c i new other ne)) (so_far.hear i other lt))
          (subst (λ (v : List ℤ). HasHeard (get_or old c other) v x start frames) (sym (get_or-set_same now c new other there))
          (subst (λ (v : List ℤ). HasHeard v new x start frames) (base other) whole))
          k l;
      outputs = λ k i other xs l lt recalls. below_more (λ j. Recalls (get_or old j other) xs → item (put_mid start m y part) (j * frames + i) ≡ convolution response (heard x (j * frames) (i + 1) xs)) c
          (λ j h r. written_before start m y part (j * frames + i) (earlier j c i frames h lt) (omega arith) ∙ so_far.outputs j i other xs h lt r)
          (λ r. written_here start m y part i (omega arith) (omega arith)
          ∙ written i xs (omega arith) (subst (λ (v : List ℤ). Recalls v xs) (sym (base other)) r)
          ∙ ap (convolution response) (heard_part x start m (i + 1) xs (omega arith)))
          k l recalls;
      others = λ k other l. let ne : k ≢ c = omega arith in get_or-set_other now c k new other ne ∙ so_far.others k other (omega arith);
    }

-- ---- a state that has heard a block

abbrev pub HaveHeard : (old now : List (List ℤ)) (x : List ℤ) (frames : ℕ) → Type 0
HaveHeard old now x frames = (c : ℕ) (other : List ℤ) → c < length old → HasHeard (get_or old c other) (get_or now c other) x (c * frames) frames

past_block : (c count frames k : ℕ) → count ≤ c → count * frames ≤ c * frames + k
past_block c count frames k l = let all = mul-le count frames c frames l (omega arith) in omega arith

silent_block : (n : ℕ) (block : List ℤ) (start k : ℕ) (frames : List ℤ) → ((i : ℕ) → item block (start + i) ≡ pos 0)
    → Recalls (silence n) frames → Recalls (silence n) (heard block start k frames)
silent_block n block start zero frames none recalls = recalls
silent_block n block start (suc k) frames none recalls =
    silent_recalls n (item block (start + k)) (heard block start k frames) (none k) (silent_block n block start k frames none recalls)

pub block_stands : (n : ℕ) (old now : List (List ℤ)) (x : List ℤ) (frames : ℕ) → length x ≡ length old * frames → length now ≡ length old → HaveHeard old now x frames
    → (c : ℕ) (xs : List ℤ) → Recalls (get_or old c (silence n)) xs → Recalls (get_or now c (silence n)) (heard x (c * frames) frames xs)
block_stands n old now x frames long same have c xs stands = elim (cases_lt c (length old)) [
  | inl there ↦ (have c (silence n) there).recalls xs stands
  | inr past ↦
      let before : get_or old c (silence n) ≡ silence n = get_or_past old c (silence n) past in
      let later : get_or now c (silence n) ≡ silence n = get_or_past now c (silence n) (omega arith) in
      subst (λ (v : List ℤ). Recalls v (heard x (c * frames) frames xs)) (sym later)
      (silent_block n x (c * frames) frames xs
      (λ k. get_or_past x (c * frames + k) (pos 0) (let p = past_block c (length old) frames k past in omega (arith, long)))
      (subst (λ (v : List ℤ). Recalls v xs) before stands))
]
