-- One lane of a block is written, and the others stay.
use Rattle.std.proofs.Common.{ℕ, ℤ, pos, ◌≡◌, ◌+◌, ◌-◌, ◌*◌, ◌<◌, ◌≤◌, length, List, ◌++◌, take, drop, slice_index_or, slice_set, Bool, true, false, refl, inl, inr, suc, sym, ◌∙◌, ap, arith, subst}
use borrow.Rule.Slice.PartMut.{put_mid}
use Rattle.std.proofs.lemmas.Bool.{cases_lt}
use Rattle.std.proofs.lemmas.Nat.{mul-le}
use Rattle.std.proofs.lemmas.List.{length-drop, length-take-le, get_or-take, get_or-set_same, get_or-set_other, get_or_append_left}
use Rattle.mix_rules.specs.Blocks.{sample}
use Rattle.law_base.proofs.Rows.{row_in, place_in}
use Rattle.lane_kern.proofs.Written.{written_before, written_here, written_after}
use Rattle.quantum_blocks.specs.Blocks.{lanes_from, lane_at}
use Rattle.channel_mix.proofs.Rows.{written_length}
use Rattle.quantum_blocks.proofs.Holding.{steady_at, moving_at}

-- so many rows of at least one place have so many places at least
pub at_least_rows : (q n : ℕ) → 0 < q → n ≤ n * q
at_least_rows q n some = let more = mul-le n 1 n q (omega arith) some in omega (arith, more)

module _ (q n : ℕ) (items : List ℤ) (lane : ℕ) (some : 0 < q) (low : lane < n) (room : n * q ≤ length items) where
  lane_there : lane < length items
  lane_there = let place = place_in q lane n 0 low some in let least = at_least_rows q lane some in omega (arith, place, least, room)

  -- where each lane has one value
  pub steady_own : (v : ℤ) (m : ℕ) → m < q → lane_at (lanes_from q true n (slice_set items lane v)) lane m ≡ v
  steady_own v m now = steady_at q n (slice_set items lane v) lane m low now ∙ get_or-set_same items lane v (pos 0) lane_there

  pub steady_others : (v : ℤ) (l m : ℕ) → l < n → (l ≡ lane → ⊥) → m < q → lane_at (lanes_from q true n (slice_set items lane v)) l m ≡ lane_at (lanes_from q true n items) l m
  steady_others v l m there other now =
      steady_at q n (slice_set items lane v) l m there now
      ∙ get_or-set_other items lane l v (pos 0) other
      ∙ sym (steady_at q n items l m there now)

-- how many values there are from one lane to the next
lane_wide : (q lane : ℕ) → (lane + 1) * q - lane * q ≡ q
lane_wide q lane = omega arith

lane_before : (q lane l m : ℕ) → lane < l → lane * q + ((lane + 1) * q - lane * q) ≤ l * q + m
lane_before q lane l m after = let row = row_in q lane l after in let wide = lane_wide q lane in omega (arith, row, wide)

-- the front of a list that was written over
pub front_written : (m : ℕ) (xs ys : List ℤ) (k : ℕ) → k < length ys → slice_index_or (put_mid 0 m xs ys) k (pos 0) ≡ slice_index_or ys k (pos 0)
front_written m xs ys k there = ap (λ j. slice_index_or (put_mid 0 m xs ys) j (pos 0)) (let e : k ≡ 0 + k = omega arith in e) ∙ written_here 0 m xs ys k there (omega arith)

-- a lane that ends where the next begins is q values long, also in a longer list
pub next_lane_length : (q lanes lane : ℕ) (xs : List ℤ) → lanes * q ≤ length xs → lane < lanes → length (take ((lane + 1) * q - lane * q) (drop (lane * q) xs)) ≡ q
next_lane_length q lanes lane xs room low =
    let row = row_in q lane lanes low in
    ap (λ n. length (take n (drop (lane * q) xs))) (lane_wide q lane) ∙ length-take-le q (drop (lane * q) xs) (let rest = length-drop (lane * q) xs in omega (arith, rest, row, room))

-- writing it leaves as many values
pub next_lane_kept : (q lanes lane : ℕ) (xs ys : List ℤ) → lanes * q ≤ length xs → lane < lanes → length ys ≡ q → length (put_mid (lane * q) ((lane + 1) * q - lane * q) xs ys) ≡ length xs
next_lane_kept q lanes lane xs ys room low long =
    let row = row_in q lane lanes low in
    written_length (lane * q) ((lane + 1) * q - lane * q) xs ys (long ∙ sym (lane_wide q lane)) (let wide = lane_wide q lane in omega (arith, row, wide, room))

-- where each has one for each frame, in the front of a longer list
module _ (q n len : ℕ) (items : List ℤ) (lane : ℕ) (low : lane < n) (room : n * q ≤ length items) (all : n * q ≤ len) (ys rest : List ℤ) (m : ℕ) (now : m < q) (long : length ys ≡ q) where
  abbrev lane_written : List ℤ
  lane_written = put_mid (lane * q) ((lane + 1) * q - lane * q) items ys

  kept_length : length lane_written ≡ length items
  kept_length = next_lane_kept q n lane items ys room low long

  lane_begins : lane * q ≤ length items
  lane_begins = let row = row_in q lane n low in omega (arith, row, room)

  in_front : (k : ℕ) → k < n * q → slice_index_or (take len (lane_written ++ rest)) k (pos 0) ≡ slice_index_or lane_written k (pos 0)
  in_front k below =
      get_or-take len (lane_written ++ rest) k (pos 0) (omega (arith, all))
      ∙ get_or_append_left lane_written rest (pos 0) k (omega (arith, kept_length, room))

  pub moving_own : lane_at (lanes_from q false n (take len (lane_written ++ rest))) lane m ≡ slice_index_or ys m (pos 0)
  moving_own = moving_at q n (take len (lane_written ++ rest)) lane m low now ∙ in_front (lane * q + m) (place_in q lane n m low now)
      ∙ written_here (lane * q) ((lane + 1) * q - lane * q) items ys m (omega arith) lane_begins

  pub moving_others : (l : ℕ) → l < n → (l ≡ lane → ⊥) → lane_at (lanes_from q false n (take len (lane_written ++ rest))) l m ≡ sample q items l m
  moving_others l there other =
      moving_at q n (take len (lane_written ++ rest)) l m there now
      ∙ in_front (l * q + m) (place_in q l n m there now)
      ∙ elim (cases_lt l lane) [
        | inl before ↦ written_before (lane * q) ((lane + 1) * q - lane * q) items ys (l * q + m) (place_in q l lane m before now) lane_begins
        | inr not_before ↦ elim (cases_lt lane l) [
          | inl after ↦ written_after (lane * q) ((lane + 1) * q - lane * q) items ys (l * q + m) (long ∙ sym (lane_wide q lane)) (lane_before q lane l m after) lane_begins
          | inr same ↦ absurd (other (omega arith))
        ]
      ]

-- ---- lanes of one value get one for each frame, the last lane first

-- the lanes from this one on are done, and the values of those before it are as they were
pub record IsUnfolded (q lanes lane : ℕ) (old new : List ℤ) : Type 0 where
  pub within : lane ≤ lanes
  pub length : length new ≡ length old
  pub kept : (k : ℕ) → k < lane → slice_index_or new k (pos 0) ≡ slice_index_or old k (pos 0)
  pub done : (l m : ℕ) → lane ≤ l → l < lanes → m < q → sample q new l m ≡ slice_index_or old l (pos 0)

pub unfolded_more : (q lanes lane k : ℕ) (old now ys : List ℤ) (v : ℤ) → 0 < q → length old ≡ lanes * q → suc k ≡ lane → IsUnfolded q lanes lane old now → length (put_mid (k * q) ((k + 1) * q - k * q) now ys) ≡ length old
    → length ys ≡ q → v ≡ slice_index_or now k (pos 0) → ((m : ℕ) → m < q → slice_index_or ys m (pos 0) ≡ v) → IsUnfolded q lanes k old (put_mid (k * q) ((k + 1) * q - k * q) now ys)
unfolded_more q lanes lane k old now ys v some room next so_far same long is each =
    let within = so_far.within in
    let before = so_far.length in
    let row = row_in q k lanes (omega (arith, next, within)) in
    let least = at_least_rows q k some in
    let begins : k * q ≤ length now = omega (arith, row, before, room) in
    record {
      within = omega (arith, next, within);
      length = same;
      kept = λ j low. written_before (k * q) ((k + 1) * q - k * q) now ys j (omega (arith, least, low)) begins ∙ so_far.kept j (omega (arith, next, low));
      done = λ l m from low here. elim (cases_lt k l) [
        | inl after ↦ written_after (k * q) ((k + 1) * q - k * q) now ys (l * q + m) (long ∙ sym (lane_wide q k)) (lane_before q k l m after) begins ∙ so_far.done l m (omega (arith, next, after)) low here
        | inr not_after ↦
            let own : l ≡ k = omega arith in
            subst (λ j. sample q (put_mid (k * q) ((k + 1) * q - k * q) now ys) j m ≡ slice_index_or old j (pos 0)) (sym own)
            (written_here (k * q) ((k + 1) * q - k * q) now ys m (omega (arith, long, here)) begins ∙ each m here ∙ is ∙ so_far.kept k (omega (arith, next)))
      ];
    }

-- where they had one value each; else they stay
pub unfolded_or_not : (q : ℕ) (steady : Bool) (n : ℕ) (items old new : List ℤ) → 0 < q → old ≡ take (n * q) items → n * q ≤ length items → (steady ≡ false → new ≡ old)
    → (steady ≡ true → (l m : ℕ) → l < n → m < q → sample q new l m ≡ slice_index_or old l (pos 0)) → (l m : ℕ) → l < n → m < q
    → sample q new l m ≡ lane_at (lanes_from q steady n items) l m
unfolded_or_not q true n items old new some is room stay spread l m low now =
    spread refl l m low now
    ∙ ap (λ (xs : List ℤ). slice_index_or xs l (pos 0)) is
    ∙ get_or-take (n * q) items l (pos 0) (let least = at_least_rows q n some in omega (arith, least, low))
    ∙ sym (steady_at q n items l m low now)
unfolded_or_not q false n items old new some is room stay spread l m low now =
    ap (λ (xs : List ℤ). sample q xs l m) (stay refl ∙ is)
    ∙ get_or-take (n * q) items (l * q + m) (pos 0) (place_in q l n m low now)
    ∙ sym (moving_at q n items l m low now)
