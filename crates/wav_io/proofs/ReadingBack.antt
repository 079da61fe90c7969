-- The samples of a file that was written with 24 bits.
use Rattle.std.proofs.Common.{◌≡◌, ℕ, zero, suc, ◌+◌, ◌*◌, ◌<◌, ◌≤◌, ℤ, pos, negsuc, ◌*ℤ◌, List, [], ◌∷◌, ◌++◌, length, take, drop, get_or, map, refl, sym, ap, ap₂, ◌∙◌, arith}
use Rattle.std.specs.Prelude.{slice_index_or, min}
use Rattle.std.specs.Int.{w64, saturate_to_bits}
use Rattle.std.specs.List.{All, flat_map, range_with_len}
use Rattle.std.proofs.lemmas.List.{get_or_append_left, get_or-append-add, get_or-map, length-map}
use Rattle.std.proofs.lemmas.List.FromFn.{fill_by_all}
use Rattle.std.proofs.lemmas.Bool.Decides.{nat_tests}
use Rattle.byteorder.specs.Endian.{low_bytes, twos_complement}
use Rattle.byteorder.specs.Numbers.{little_number-reads_back}
use Rattle.wav_io.specs.WavText.{sample_of, sample_bytes, samples_bytes}
use Rattle.wa_base.specs.Numbers.{rnd}
use Rattle.wav_io.specs.WavGrammar.{value_of, fix_of}
use Rattle.wav_io.specs.WavLaw.{read_back}
use Rattle.std.proofs.Math.Nat.{mul-le-mul_right}
use Rattle.wav_io.proofs.WavLemmas.{length-rows}
use Rattle.wav_io.proofs.Widths.{value_of-24}

-- a sample of 24 bits is worth two steps
fix_24 : (s : ℤ) → fix_of 24 s ≡ pos 2 *ℤ s
fix_24 s = grind arith

low_24 : (m : ℕ) → m ≤ 8388607 → twos_complement 3 (low_bytes w64 3 (pos m)) ≡ pos m
low_24 m small = grind (arith, nat_tests)

low_24_negative : (m : ℕ) → m ≤ 8388607 → twos_complement 3 (low_bytes w64 3 (negsuc m)) ≡ negsuc m
low_24_negative m small = grind (arith, nat_tests)

fits_24 : (z : ℤ) → twos_complement 3 (low_bytes w64 3 (saturate_to_bits 23 z)) ≡ saturate_to_bits 23 z
fits_24 (pos n) = low_24 (min n 8388607) (omega arith)
fits_24 (negsuc n) = low_24_negative (min n 8388607) (omega arith)

pub value_of-sample_bytes : (v : ℤ) → value_of 24 (sample_bytes 24 v) ≡ pos 2 *ℤ sample_of 24 v
value_of-sample_bytes v =
    value_of-24 24 (sample_bytes 24 v) refl
    ∙ ap (λ n. fix_of 24 (twos_complement 3 n)) (little_number-reads_back 3 (low_bytes w64 3 (sample_of 24 v)) [] (omega arith))
    ∙ ap (fix_of 24) (fits_24 (rnd v (pos 2)))
    ∙ fix_24 (sample_of 24 v)

-- the bytes of the k-th sample
pub sample_at : (vs : List ℤ) (k : ℕ) (more : List ℕ) → k < length vs → take 3 (drop (k * 3) (samples_bytes 24 vs ++ more)) ≡ sample_bytes 24 (get_or vs k (pos 0))
sample_at [] k more within = absurd (omega arith)
sample_at (v ∷ vs) zero more within = refl
sample_at (v ∷ vs) (suc k) more within =
    ap (λ n. take 3 (drop n (samples_bytes 24 (v ∷ vs) ++ more))) (let e : suc k * 3 ≡ suc (suc (suc (k * 3))) = omega arith in e)
    ∙ sample_at vs k more (omega arith)

-- the values of rows, one after another
pub row_at : (channels : ℕ) (rows : List (List ℤ)) (i j : ℕ) → All (λ row. length row ≡ channels) rows → i < length rows → j < channels
    → get_or (flat_map (λ row. row) rows) (i * channels + j) (pos 0) ≡ get_or (get_or rows i []) j (pos 0)
row_at channels [] i j even in_rows in_row = refl
row_at channels (row ∷ rows) zero j even in_rows in_row =
    let first : length row ≡ channels = even 0 row (omega arith) in
    ap (λ n. get_or (row ++ flat_map (λ r. r) rows) n (pos 0)) (let e : 0 * channels + j ≡ j = omega arith in e)
    ∙ get_or_append_left row (flat_map (λ r. r) rows) (pos 0) j (omega arith)
row_at channels (row ∷ rows) (suc i) j even in_rows in_row =
    let first : length row ≡ channels = even 0 row (omega arith) in
    ap (λ n. get_or (row ++ flat_map (λ r. r) rows) n (pos 0)) (let e : suc i * channels + j ≡ length row + (i * channels + j) = omega arith in e)
    ∙ get_or-append-add row (flat_map (λ r. r) rows) (i * channels + j) (pos 0)
    ∙ row_at channels rows i j (λ k d within. even (suc k) d (omega arith)) (omega arith) in_row

-- lists that are made alike
pub flat_map-range_same : (f g : ℕ → List ℤ) (a n : ℕ) → ((k : ℕ) → k < a + n → f k ≡ g k) → flat_map f (range_with_len a n) ≡ flat_map g (range_with_len a n)
flat_map-range_same f g a zero same = refl
flat_map-range_same f g a (suc n) same =
    ap₂ (λ xs ys. xs ++ ys) (same a (omega arith)) (flat_map-range_same f g (a + 1) n (λ k within. same k (omega arith)))

-- a channel, frame by frame
pub channel_back : (channels : ℕ) (rows : List (List ℤ)) (more : List ℕ) (channel : ℕ) → All (λ row. length row ≡ channels) rows → channel < channels
    → map (λ frame. value_of 24 (take 3 (drop ((frame * channels + channel) * 3) (samples_bytes 24 (flat_map (λ row. row) rows) ++ more))))
    (range_with_len 0 (length rows))
    ≡ read_back rows channel
channel_back channels rows more channel even within =
    sym (
    fill_by_all
    (λ frame. value_of 24 (take 3 (drop ((frame * channels + channel) * 3) (samples_bytes 24 (flat_map (λ row. row) rows) ++ more))))
    (read_back rows channel) (length rows) (pos 0) (length-map rows _)
    (λ frame in_rows.
    get_or-map (λ (row : List ℤ). pos 2 *ℤ sample_of 24 (slice_index_or row channel (pos 0))) rows frame [] (pos 0) in_rows
    ∙ ap (λ v. pos 2 *ℤ sample_of 24 v) (sym (row_at channels rows frame channel even in_rows within))
    ∙ sym (value_of-sample_bytes (get_or (flat_map (λ row. row) rows) (frame * channels + channel) (pos 0)))
    ∙ ap (value_of 24) (sym (sample_at (flat_map (λ row. row) rows) (frame * channels + channel) more (omega (arith, length-rows channels rows even, mul-le-mul_right channels (let h : frame + 1 ≤ length rows = omega arith in h))))))
    )
