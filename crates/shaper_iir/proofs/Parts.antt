-- Blocks that are heard and written channel by channel.
use Rattle.std.proofs.Common.{◌≡◌, ◌≢◌, ◌<◌, ◌≤◌, ◌+◌, ◌*◌, ℕ, zero, suc, ℤ, pos, List, length, take, drop, set, get_or, ap, ap₂, refl, ◌∙◌, [], ◌∷◌, rules, arith, below_more, get_or-set_same, get_or-set_other}
use borrow.Rule.Slice.PartMut.{put_mid}
use Rattle.std.proofs.lemmas.List.{places}
use Rattle.std.proofs.lemmas.Nat.{mul-le}
use Rattle.node_table.specs.Frames.{item, newest}
use Rattle.shaper_iir.specs.declared.histories.History.{History}
use Rattle.shaper_iir.specs.Histories.{after, next_history, silent}

pub written_before : (i m : ℕ) (xs ys : List ℤ) (k : ℕ) → k < i → i ≤ length xs → get_or (put_mid i m xs ys) k (pos 0) ≡ get_or xs k (pos 0)
written_before i m xs ys k h there = search (rules, places)

pub written_here : (i m : ℕ) (xs ys : List ℤ) (k : ℕ) → k < length ys → i ≤ length xs → get_or (put_mid i m xs ys) (i + k) (pos 0) ≡ get_or ys k (pos 0)
written_here i m xs ys k h there = search (rules, places)

pub part_at : (i m : ℕ) (xs : List ℤ) (k : ℕ) → k < m → get_or (take m (drop i xs)) k (pos 0) ≡ get_or xs (i + k) (pos 0)
part_at i m xs k h = search (rules, places)

-- what stands in an earlier channel is before this one
pub earlier : (k c i frames : ℕ) → k < c → i < frames → k * frames + i < c * frames
earlier k c i frames l m = let all = mul-le (k + 1) frames c frames (omega arith) (omega arith) in omega arith

-- to hear a part of a block is to hear the block from there on
pub after_part : (forward back : List ℤ) (history : History) (block : List ℤ) (start m n : ℕ) → n ≤ m
    → after forward back history (take m (drop start block)) 0 n ≡ after forward back history block start n
after_part forward back history block start m zero l = refl
after_part forward back history block start m (suc n) l =
    let place : 0 + n ≡ n = omega arith in
    ap₂ (next_history forward back) (after_part forward back history block start m n (omega arith))
    (ap (item (take m (drop start block))) place ∙ part_at start m block n (omega arith))

-- the channels below c have heard their frames, and the others are as they were
pub record HearingAll (forward back : List ℤ) (old now : List History) (x y : List ℤ) (frames c : ℕ) : Type 0 where
  pub histories : (k : ℕ) → k < c → get_or now k silent ≡ after forward back (get_or old k silent) x (k * frames) frames
  pub outputs : (k i : ℕ) → k < c → i < frames → item y (k * frames + i) ≡ newest (after forward back (get_or old k silent) x (k * frames) (i + 1)).outputs
  pub others : (k : ℕ) → c ≤ k → get_or now k silent ≡ get_or old k silent

-- an item that is there does not rest on the default
pub same_default : {A : Type 0} → (xs : List A) (i : ℕ) (d e : A) → i < length xs → get_or xs i d ≡ get_or xs i e
same_default [] i d e l = absurd (omega arith)
same_default (x ∷ xs) zero d e l = refl
same_default (x ∷ xs) (suc i) d e l = same_default xs i d e (omega arith)

-- a channel more
pub hearing_more : (forward back : List ℤ) (old now : List History) (x y part : List ℤ) (before history : History) (frames c m n : ℕ)
    → c < length now → before ≡ get_or now c silent → c * frames + frames ≤ length y → m ≡ frames → n ≡ frames → length part ≡ frames
    → HearingAll forward back old now x y frames c
    → history ≡ after forward back before (take m (drop (c * frames) x)) 0 n
    → ((i : ℕ) → i < n → item part i ≡ newest (after forward back before (take m (drop (c * frames) x)) 0 (i + 1)).outputs)
    → HearingAll forward back old (set now c history) x (put_mid (c * frames) m y part) frames (c + 1)
hearing_more forward back old now x y part before history frames c m n there was room same_m same_n long so_far heard written =
    let start = c * frames in
    let base : before ≡ get_or old c silent = was ∙ so_far.others c (omega arith) in
    let same : (i : ℕ) → i ≤ frames → after forward back before (take m (drop start x)) 0 i ≡ after forward back (get_or old c silent) x start i =
    λ i l. after_part forward back before x start m i (omega arith) ∙ ap (λ h. after forward back h x start i) base in
    let whole : history ≡ after forward back (get_or old c silent) x start frames =
    heard ∙ ap (after forward back before (take m (drop start x)) 0) same_n ∙ same frames (omega arith) in
    let here : (i : ℕ) → i < frames → item (put_mid start m y part) (start + i) ≡ newest (after forward back (get_or old c silent) x start (i + 1)).outputs =
    λ i l. written_here start m y part i (omega arith) (omega arith) ∙ written i (omega arith) ∙ ap (λ (h : History). newest h.outputs) (same (i + 1) (omega arith)) in
    record {
      histories = below_more _ _ (λ k l. let ne : k ≢ c = omega arith in get_or-set_other now c k history silent ne ∙ so_far.histories k l) (get_or-set_same now c history silent there ∙ whole);
      outputs = λ k i l lt. below_more (λ k. (i : ℕ) → i < frames → item (put_mid start m y part) (k * frames + i) ≡ newest (after forward back (get_or old k silent) x (k * frames) (i + 1)).outputs) c
          (λ k l i lt. written_before start m y part (k * frames + i) (earlier k c i frames l lt) (omega arith) ∙ so_far.outputs k i l lt) here k l i lt;
      others = λ k l. let ne : k ≢ c = omega arith in get_or-set_other now c k history silent ne ∙ so_far.others k (omega arith);
    }

-- a channel's part of a block is in the block
pub part_room : (c count frames : ℕ) → c < count → c * frames + frames ≤ count * frames
part_room c count frames l = let all = mul-le (c + 1) frames count frames (omega arith) (omega arith) in omega arith
