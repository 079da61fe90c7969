-- Blocks that are heard.
use Rattle.std.proofs.Common.{◌≡◌, ◌≢◌, ◌<◌, ◌≤◌, ◌+◌, ◌-◌, ◌*◌, ℕ, zero, suc, ℤ, pos, List, ◌∷◌, Option, Some, length, take, drop, set, get_or, ap, ap₂, subst, sym, refl, ◌∙◌, rules, arith, add-one, below_more, get_or-set_same, get_or-set_other, inl, inr}
use borrow.Rule.Slice.PartMut.{put_mid}
use Rattle.std.specs.Prelude.{unwrap_or}
use Rattle.std.proofs.lemmas.Bool.{cases_lt}
use Rattle.std.proofs.lemmas.List.{places, get_or_past, get_or_default}
use Rattle.std.proofs.lemmas.Nat.{mul-le}
use Rattle.node_table.specs.Frames.{item, heard}
use Rattle.node_table.specs.declared.code.Instr.{Instr}
use Rattle.node_table.specs.Machine.{Frame, frame_of, played, cells_after, program_value}
use Rattle.worklet.specs.Processor.{HasHeard, after_silence}

-- ---- frame by frame

heard_one : (block : List ℤ) (start k : ℕ) (frames : List ℤ) → heard block start (k + 1) frames ≡ item block (start + k) ∷ heard block start k frames
heard_one block start k frames = ap (λ n. heard block start n frames) (add-one k)

played_is : (code : List Instr) (cells new : List ℤ) (x y : ℤ) → frame_of code cells x ≡ Some (record { output = y; cells = new }) → played code cells x ≡ record { output = y; cells = new }
played_is code cells new x y is = ap (λ (o : Option Frame). unwrap_or o (record { output = pos 0; cells = cells })) is

-- the cells and the output after one more frame
cells_more : (code : List Instr) (cells new frames : List ℤ) (x y : ℤ) → frame_of code cells x ≡ Some (record { output = y; cells = new }) → cells ≡ cells_after code frames
    → new ≡ cells_after code (x ∷ frames)
cells_more code cells new frames x y is stands =
    sym (ap (λ (f : Frame). f.cells) (played_is code cells new x y is)) ∙ ap (λ (v : List ℤ). (played code v x).cells) stands

value_more : (code : List Instr) (cells new frames : List ℤ) (x y : ℤ) → frame_of code cells x ≡ Some (record { output = y; cells = new }) → cells ≡ cells_after code frames
    → y ≡ program_value code (x ∷ frames)
value_more code cells new frames x y is stands =
    sym (ap (λ (f : Frame). f.output) (played_is code cells new x y is)) ∙ ap (λ (v : List ℤ). (played code v x).output) stands

pub hears_none : (code : List Instr) (cells block : List ℤ) (start : ℕ) → HasHeard code cells cells block start 0
hears_none code cells block start = λ frames stands. stands

hears_more : (code : List Instr) (old now new block : List ℤ) (start k : ℕ) (x y : ℤ) → HasHeard code old now block start k → x ≡ item block (start + k)
    → frame_of code now x ≡ Some (record { output = y; cells = new }) → HasHeard code old new block start (k + 1)
hears_more code old now new block start k x y so_far here is = λ frames stands.
    cells_more code now new (heard block start k frames) x y is (so_far frames stands)
    ∙ ap (λ (v : ℤ). cells_after code (v ∷ heard block start k frames)) here
    ∙ ap (cells_after code) (sym (heard_one block start k frames))

-- a channel has heard so many frames, and their outputs are written
pub record Hearing (code : List Instr) (old now x y : List ℤ) (k : ℕ) : Type 0 where
  pub hears : HasHeard code old now x 0 k
  pub outputs : (i : ℕ) (frames : List ℤ) → i < k → old ≡ cells_after code frames → item y i ≡ program_value code (heard x 0 (i + 1) frames)

pub hearing_more : (code : List Instr) (old now new x y : List ℤ) (k : ℕ) (value : ℤ) → k < length y → Hearing code old now x y k
    → frame_of code now (item x k) ≡ Some (record { output = value; cells = new }) → Hearing code old new x (set y k value) (k + 1)
hearing_more code old now new x y k value there so_far is =
    let here : item x k ≡ item x (0 + k) = let place : k ≡ 0 + k = omega arith in ap (item x) place in
    let P : ℕ → Type 0 = λ i. (frames : List ℤ) → old ≡ cells_after code frames → item (set y k value) i ≡ program_value code (heard x 0 (i + 1) frames) in
    record {
      hears = hears_more code old now new x 0 k (item x k) value so_far.hears here is;
      outputs = λ i frames l stands. below_more P k
          (λ j lt ys r. let ne : j ≢ k = omega arith in get_or-set_other y k j value (pos 0) ne ∙ so_far.outputs j ys lt r)
          (λ ys r.
          get_or-set_same y k value (pos 0) there ∙ value_more code now new (heard x 0 k ys) (item x k) value is (so_far.hears ys r)
          ∙ ap (λ (v : ℤ). program_value code (v ∷ heard x 0 k ys)) here ∙ ap (program_value code) (sym (heard_one x 0 k ys)))
          i l frames stands;
    }

-- ---- frames that are 0

abbrev made : ℤ → List ℤ → Option Frame
made y cells = Some (record { output = y; cells = cells })

pub silence_more : (code : List Instr) (old now new : List ℤ) (k : ℕ) (y : ℤ) → now ≡ after_silence code old k → frame_of code now (pos 0) ≡ made y new
    → new ≡ after_silence code old (k + 1)
silence_more code old now new k y so_far is =
    sym (ap (λ (f : Frame). f.cells) (played_is code now new (pos 0) y is))
    ∙ ap (λ (v : List ℤ). (played code v (pos 0)).cells) so_far
    ∙ ap (after_silence code old) (sym (add-one k))

-- a frame that leaves the cells as they were is followed by frames that do the same
silence_rest : (code : List Instr) (old now : List ℤ) (k : ℕ) (y : ℤ) → now ≡ after_silence code old k → frame_of code now (pos 0) ≡ made y now
    → (m : ℕ) → now ≡ after_silence code old (k + m)
silence_rest code old now k y so_far is zero = let same : k ≡ k + 0 = omega arith in so_far ∙ ap (after_silence code old) same
silence_rest code old now k y so_far is (suc m) =
    let same : k + m + 1 ≡ k + suc m = omega arith in
    silence_more code old now now (k + m) y (silence_rest code old now k y so_far is m) is ∙ ap (after_silence code old) same

pub silence_stays : (code : List Instr) (old now new : List ℤ) (k n : ℕ) (y : ℤ) → new ≡ now → k ≤ n → now ≡ after_silence code old k → frame_of code now (pos 0) ≡ made y new
    → new ≡ after_silence code old n
silence_stays code old now new k n y same l so_far is =
    let rest : k + (n - k) ≡ n = omega (arith, l) in
    same ∙ silence_rest code old now k y so_far (is ∙ ap (made y) same) (n - k) ∙ ap (after_silence code old) rest

-- so many frames, and then so many more
pub silence_all : (code : List Instr) (cells : List ℤ) (m n : ℕ) → after_silence code (after_silence code cells m) n ≡ after_silence code cells (m + n)
silence_all code cells m zero = let same : m ≡ m + 0 = omega arith in ap (after_silence code cells) same
silence_all code cells m (suc n) =
    let same : suc (m + n) ≡ m + suc n = omega arith in
    ap (λ (v : List ℤ). (played code v (pos 0)).cells) (silence_all code cells m n) ∙ ap (after_silence code cells) same

-- silence is heard where a block has nothing but 0
silence_heard : (code : List Instr) (cells block frames : List ℤ) (start n : ℕ) → ((k : ℕ) → item block (start + k) ≡ pos 0) → cells ≡ cells_after code frames
    → after_silence code cells n ≡ cells_after code (heard block start n frames)
silence_heard code cells block frames start zero none stands = stands
silence_heard code cells block frames start (suc n) none stands =
    ap₂ (λ (v : List ℤ) (x : ℤ). (played code v x).cells) (silence_heard code cells block frames start n none stands) (sym (none n))

-- ---- channel by channel

written_before : (i m : ℕ) (xs ys : List ℤ) (k : ℕ) → k < i → i ≤ length xs → get_or (put_mid i m xs ys) k (pos 0) ≡ get_or xs k (pos 0)
written_before i m xs ys k h there = search (rules, places)

written_here : (i m : ℕ) (xs ys : List ℤ) (k : ℕ) → k < length ys → i ≤ length xs → get_or (put_mid i m xs ys) (i + k) (pos 0) ≡ get_or ys k (pos 0)
written_here i m xs ys k h there = search (rules, places)

part_at : (i m : ℕ) (xs : List ℤ) (k : ℕ) → k < m → get_or (take m (drop i xs)) k (pos 0) ≡ get_or xs (i + k) (pos 0)
part_at i m xs k h = search (rules, places)

-- what stands in an earlier channel is before this one
earlier : (k c i frames : ℕ) → k < c → i < frames → k * frames + i < c * frames
earlier k c i frames l m = let all = mul-le (k + 1) frames c frames (omega arith) (omega arith) in omega arith

-- a channel's part of a block is in the block
pub part_room : (c count frames : ℕ) → c < count → c * frames + frames ≤ count * frames
part_room c count frames l = let all = mul-le (c + 1) frames count frames (omega arith) (omega arith) in omega arith

-- to hear a part of a block is to hear the block from there on
heard_part : (block : List ℤ) (start m n : ℕ) (frames : List ℤ) → n ≤ m → heard (take m (drop start block)) 0 n frames ≡ heard block start n frames
heard_part block start m zero frames l = refl
heard_part block start m (suc n) frames l =
    let place : 0 + n ≡ n = omega arith in
    ap₂ (λ (x : ℤ) (xs : List ℤ). x ∷ xs) (ap (item (take m (drop start block))) place ∙ part_at start m block n (omega arith)) (heard_part block start m n frames (omega arith))

-- the channels below c have heard their frames, and the others are as they were
pub record HearingAll (code : List Instr) (old now : List (List ℤ)) (x y : List ℤ) (frames c : ℕ) : Type 0 where
  pub hear : (k : ℕ) (other : List ℤ) → k < c → HasHeard code (get_or old k other) (get_or now k other) x (k * frames) frames
  pub outputs : (k i : ℕ) (other xs : List ℤ) → k < c → i < frames → get_or old k other ≡ cells_after code xs → item y (k * frames + i) ≡ program_value code (heard x (k * frames) (i + 1) xs)
  pub rest : (k : ℕ) (other : List ℤ) → c ≤ k → get_or now k other ≡ get_or old k other

part_heard : (code : List Instr) (before new x : List ℤ) (start m n frames : ℕ) → m ≡ frames → n ≡ frames → HasHeard code before new (take m (drop start x)) 0 n → HasHeard code before new x start frames
part_heard code before new x start m n frames same_m same_n part = λ xs stands.
    part xs stands ∙ ap (cells_after code) (heard_part x start m n xs (omega arith) ∙ ap (λ k. heard x start k xs) same_n)

pub channel_more : (code : List Instr) (old now : List (List ℤ)) (x y part before new : List ℤ) (frames c m n : ℕ)
    → c < length now → ((other : List ℤ) → before ≡ get_or now c other) → c * frames + frames ≤ length y → m ≡ frames → n ≡ frames → length part ≡ frames
    → HearingAll code old now x y frames c
    → HasHeard code before new (take m (drop (c * frames) x)) 0 n
    → ((i : ℕ) (xs : List ℤ) → i < n → before ≡ cells_after code xs → item part i ≡ program_value code (heard (take m (drop (c * frames) x)) 0 (i + 1) xs))
    → HearingAll code old (set now c new) x (put_mid (c * frames) m y part) frames (c + 1)
channel_more code old now x y part before new frames c m n there was room same_m same_n long so_far here written =
    let start = c * frames in
    let base : (other : List ℤ) → before ≡ get_or old c other = λ other. was other ∙ so_far.rest c other (omega arith) in
    let whole : HasHeard code before new x start frames = part_heard code before new x start m n frames same_m same_n here in
    record {
      hear = λ k other l. below_more (λ i. HasHeard code (get_or old i other) (get_or (set now c new) i other) x (i * frames) frames) c
          (λ i lt. let ne : i ≢ c = omega arith in
          subst (λ (v : List ℤ). HasHeard code (get_or old i other) v x (i * frames) frames) (sym (get_or-set_other now c i new other ne)) (so_far.hear i other lt))
          (subst (λ (v : List ℤ). HasHeard code (get_or old c other) v x start frames) (sym (get_or-set_same now c new other there))
          (subst (λ (v : List ℤ). HasHeard code v new x start frames) (base other) whole))
          k l;
      outputs = λ k i other xs l lt stands. below_more (λ j. get_or old j other ≡ cells_after code xs → item (put_mid start m y part) (j * frames + i) ≡ program_value code (heard x (j * frames) (i + 1) xs)) c
          (λ j h r. written_before start m y part (j * frames + i) (earlier j c i frames h lt) (omega arith) ∙ so_far.outputs j i other xs h lt r)
          (λ r. written_here start m y part i (omega arith) (omega arith)
          ∙ written i xs (omega arith) (base other ∙ r)
          ∙ ap (program_value code) (heard_part x start m (i + 1) xs (omega arith)))
          k l stands;
      rest = λ k other l. let ne : k ≢ c = omega arith in get_or-set_other now c k new other ne ∙ so_far.rest k other (omega arith);
    }

-- ---- a state that has heard a block

abbrev pub HaveHeard : (code : List Instr) (old now : List (List ℤ)) (x : List ℤ) (frames : ℕ) → Type 0
HaveHeard code old now x frames = (c : ℕ) (other : List ℤ) → c < length old → HasHeard code (get_or old c other) (get_or now c other) x (c * frames) frames

past_block : (c count frames k : ℕ) → count ≤ c → count * frames ≤ c * frames + k
past_block c count frames k l = let all = mul-le count frames c frames l (omega arith) in omega arith

pub block_stands : (code : List Instr) (old now : List (List ℤ)) (others new x : List ℤ) (frames : ℕ) → length x ≡ length old * frames → length now ≡ length old
    → HaveHeard code old now x frames → new ≡ after_silence code others frames
    → (c : ℕ) (xs : List ℤ) → get_or old c others ≡ cells_after code xs → get_or now c new ≡ cells_after code (heard x (c * frames) frames xs)
block_stands code old now others new x frames long same have nothing c xs stands = elim (cases_lt c (length old)) [
  | inl there ↦ get_or_default now c new others (omega arith) ∙ have c others there xs stands
  | inr past ↦
      get_or_past now c new (omega arith) ∙ nothing
      ∙ silence_heard code others x xs (c * frames) frames
      (λ k. get_or_past x (c * frames + k) (pos 0) (let p = past_block c (length old) frames k past in omega (arith, long)))
      (sym (get_or_past old c others past) ∙ stands)
]
