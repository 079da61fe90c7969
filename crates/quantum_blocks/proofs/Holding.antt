-- How blocks and sums hold their values.
use Rattle.std.proofs.Common.{ℕ, ℤ, zero, suc, pos, ◌≡◌, ◌+◌, ◌-◌, ◌*◌, ◌<◌, ◌≤◌, ◌++◌, length, List, [], map, take, drop, slice_index_or, Bool, true, false, refl, sym, ◌∙◌, ap, arith}
use mathlib.Core.Path.{fun_ext}
use Rattle.std.specs.Prelude.{if◌then◌else◌, nat_lt}
use Rattle.std.specs.List.{range_with_len}
use Rattle.std.proofs.lemmas.List.{get_or-take, get_or-drop, length-drop, length-take-le, get_or_past}
use Rattle.std.proofs.lemmas.Bool.Decides.{nat_tests}
use Rattle.law_base.proofs.Rows.{rows_up, place_in}
use Rattle.mix_rules.specs.Blocks.{sample, frame_at}
use Rattle.quantum_blocks.specs.Blocks.{BlockView, lane_of, lanes_from, lane_at, at, shown, carried}
use Rattle.channel_mix.proofs.Made.{front_of}

-- ---- the lanes of a list that holds one value for each, or one for each frame of each

at_range : {X : Type 0} (f : ℕ → X) (n a i : ℕ) (d : X) → i < n → slice_index_or (map f (range_with_len a n)) i d ≡ f (a + i)
at_range f zero a i d l = absurd (omega arith)
at_range f (suc n) a zero d l = ap f (let e : a ≡ a + 0 = omega arith in e)
at_range f (suc n) a (suc i) d l = at_range f n (a + 1) i d (omega arith) ∙ ap f (let e : a + 1 + i ≡ a + suc i = omega arith in e)

lane_is : (q : ℕ) (steady : Bool) (n : ℕ) (held : List ℤ) (c m : ℕ) → c < n → lane_at (lanes_from q steady n held) c m ≡ slice_index_or (lane_of q steady held c) m (pos 0)
lane_is q steady n held c m low = ap (λ (xs : List ℤ). slice_index_or xs m (pos 0)) (at_range (lane_of q steady held) n 0 c [] low) ∙ ap (λ k. slice_index_or (lane_of q steady held k) m (pos 0)) (let e : 0 + c ≡ c = omega arith in e)

-- a lane that holds one value has it at all frames
pub steady_at : (q n : ℕ) (held : List ℤ) (c m : ℕ) → c < n → m < q → lane_at (lanes_from q true n held) c m ≡ slice_index_or held c (pos 0)
steady_at q n held c m low now = lane_is q true n held c m low ∙ at_range (λ k. slice_index_or held c (pos 0)) q 0 m (pos 0) now

pub moving_at : (q n : ℕ) (held : List ℤ) (c m : ℕ) → c < n → m < q → lane_at (lanes_from q false n held) c m ≡ sample q held c m
moving_at q n held c m low now =
    lane_is q false n held c m low
    ∙ get_or-take q (drop (c * q) held) m (pos 0) now
    ∙ get_or-drop (c * q) held m (pos 0)

-- also where the front of a longer list was written over
pub steady_is : (q n len : ℕ) (xs mid rest : List ℤ) (c m : ℕ) → c < n → m < q → length xs ≡ n → n ≤ len → lane_at (lanes_from q true n (take len ((xs ++ mid) ++ rest))) c m ≡ slice_index_or xs c (pos 0)
steady_is q n len xs mid rest c m low now long within =
    steady_at q n (take len ((xs ++ mid) ++ rest)) c m low now ∙ front_of len xs mid rest c (omega arith) (omega arith)

pub moving_is : (q n len : ℕ) (xs mid rest : List ℤ) (c m : ℕ) → c < n → m < q → length xs ≡ n * q → n * q ≤ len
    → lane_at (lanes_from q false n (take len ((xs ++ mid) ++ rest))) c m ≡ sample q xs c m
moving_is q n len xs mid rest c m low now long within =
    let place = place_in q c n m low now in
    moving_at q n (take len ((xs ++ mid) ++ rest)) c m low now ∙ front_of len xs mid rest (c * q + m) (omega (arith, place, long)) (omega (arith, place, within))

-- of one lane, what was written
pub first_is : (q n len : ℕ) (xs mid rest : List ℤ) (m : ℕ) → n ≡ 1 → m < q → length xs ≡ q → q ≤ len → lane_at (lanes_from q false n (take len ((xs ++ mid) ++ rest))) 0 m ≡ slice_index_or xs m (pos 0)
first_is q n len xs mid rest m one now long within =
    let rows : n * q ≡ q = ap (λ k. k * q) one ∙ omega arith in
    moving_is q n len xs mid rest 0 m (omega arith) now (long ∙ sym rows) (omega (arith, rows, within)) ∙ ap (λ k. slice_index_or xs k (pos 0)) (let e : 0 * q + m ≡ m = omega arith in e)

-- the value of the first frame of the first lane
pub first_value : (q : ℕ) (steady : Bool) (n : ℕ) (held : List ℤ) → 0 < q → 0 < n → lane_at (lanes_from q steady n held) 0 0 ≡ slice_index_or held 0 (pos 0)
first_value q true n held begun some = steady_at q n held 0 0 some begun
first_value q false n held begun some = moving_at q n held 0 0 some begun ∙ ap (λ k. slice_index_or held k (pos 0)) (let e : 0 * q + 0 ≡ 0 = omega arith in e)

-- a part of a list
pub part_length : (first n : ℕ) (items : List ℤ) → first + n ≤ length items → length (take (first + n - first) (drop first items)) ≡ n
part_length first n items l = length-take-le (first + n - first) (drop first items) (omega (arith, length-drop {A = ℤ})) ∙ omega arith

-- and of one with q values for each
pub wide_length : (q first n : ℕ) (items : List ℤ) → (first + n) * q ≤ length items → length (take ((first + n) * q - first * q) (drop (first * q) items)) ≡ n * q
wide_length q first n items l =
    length-take-le ((first + n) * q - first * q) (drop (first * q) items) (omega (arith, length-drop {A = ℤ})) ∙ omega arith

pub part_moving : (q first n : ℕ) (items : List ℤ) (c m : ℕ) → c < n → m < q → sample q (take ((first + n) * q - first * q) (drop (first * q) items)) c m ≡ sample q items (first + c) m
part_moving q first n items c m low now =
    let place = place_in q c n m low now in
    get_or-take ((first + n) * q - first * q) (drop (first * q) items) (c * q + m) (pos 0) (omega (arith, place))
    ∙ get_or-drop (first * q) items (c * q + m) (pos 0)
    ∙ ap (λ k. slice_index_or items k (pos 0)) (let e : first * q + (c * q + m) ≡ (first + c) * q + m = omega arith in e)

-- what an output carries has nothing past its channels
pub steady_carried : (b : BlockView) (o n m : ℕ) (held : List ℤ) → o * n + n ≤ b.lanes → length held ≡ n → ((c : ℕ) → c < n → at b (o * n + c) m ≡ slice_index_or held c (pos 0))
    → (λ c. slice_index_or held c (pos 0)) ≡ carried b n o m
steady_carried b o n m held within long each = fun_ext (λ c. by_test c (nat_lt c n) refl)
  where
    by_test : (c : ℕ) (t : Bool) → nat_lt c n ≡ t → slice_index_or held c (pos 0) ≡ (if t then shown b m (o * n + c) else pos 0)
    by_test c true t =
        let low : c < n = grind (arith, nat_tests) in
        let inside : nat_lt (o * n + c) b.lanes ≡ true = grind (arith, nat_tests) in
        sym (each c low) ∙ ap (λ k. if k then at b (o * n + c) m else pos 0) (sym inside)
    by_test c false t = let high : n ≤ c = grind (arith, nat_tests) in get_or_past held c (pos 0) (omega arith)

pub moving_carried : (q : ℕ) (b : BlockView) (o n m : ℕ) (values : List ℤ) → m < q → o * n + n ≤ b.lanes → length values ≡ n * q → ((c : ℕ) → c < n → at b (o * n + c) m ≡ sample q values c m)
    → frame_at q values m ≡ carried b n o m
moving_carried q b o n m values now within long each = fun_ext (λ c. by_test c (nat_lt c n) refl)
  where
    by_test : (c : ℕ) (t : Bool) → nat_lt c n ≡ t → sample q values c m ≡ (if t then shown b m (o * n + c) else pos 0)
    by_test c true t =
        let low : c < n = grind (arith, nat_tests) in
        let inside : nat_lt (o * n + c) b.lanes ≡ true = grind (arith, nat_tests) in
        sym (each c low) ∙ ap (λ k. if k then at b (o * n + c) m else pos 0) (sym inside)
    by_test c false t = let high : n ≤ c = grind (arith, nat_tests) in let rows = rows_up q n c high in get_or_past values (c * q + m) (pos 0) (omega (arith, long, rows))

-- the values of one channel that moves on
pub moved : (q : ℕ) (steady : Bool) (count : ℕ) (items old new : List ℤ) → count ≡ 1 → old ≡ take q items → length old ≡ q → (steady ≡ false → new ≡ old)
    → (steady ≡ true → (k : ℕ) → k < length old → slice_index_or new k (pos 0) ≡ slice_index_or old 0 (pos 0)) → (m : ℕ) → m < q
    → slice_index_or new m (pos 0) ≡ lane_at (lanes_from q steady count items) 0 m
moved q true count items old new one is long stay spread m now =
    spread refl m (omega arith)
    ∙ ap (λ xs. slice_index_or xs 0 (pos 0)) is
    ∙ get_or-take q items 0 (pos 0) (omega arith)
    ∙ sym (steady_at q count items 0 m (omega arith) now)
moved q false count items old new one is long stay spread m now =
    ap (λ xs. slice_index_or xs m (pos 0)) (stay refl ∙ is)
    ∙ get_or-take q items m (pos 0) now
    ∙ ap (λ k. slice_index_or items k (pos 0)) (let e : m ≡ 0 * q + m = omega arith in e)
    ∙ sym (moving_at q count items 0 m (omega arith) now)
