-- How many bytes the parts of a file take, and samples that are written in pieces.
use Rattle.std.proofs.Common.{◌≡◌, ℕ, ◌+◌, ◌*◌, ◌/◌, ◌%◌, ◌<◌, ◌⊎◌, suc, ℤ, List, [], ◌∷◌, ◌++◌, length, take, drop, sym, ap, ◌∙◌, arith, length-append, refl, inl, inr}
use Rattle.std.proofs.lemmas.Grind.{flat_map-append}
use Rattle.std.proofs.lemmas.List.{append-nil, length-replicate, take-append-drop, take_more}
use Rattle.std.specs.List.{All, flat_map}
use Rattle.std.specs.Prelude.{get_or, pos}
use Rattle.byteorder.specs.Numbers.{length-bytes_low_first}
use Rattle.wav_io.specs.WavText.{data_size, padding, header_bytes, sample_bytes, samples_bytes, wav_bytes}

pub length-header_bytes : (rate channels bits frames : ℕ) → length (header_bytes rate channels bits frames) ≡ 44
unfolding header_bytes
length-header_bytes rate channels bits frames = refl

pub length-padding : (size : ℕ) → length (padding size) ≡ size % 2
length-padding size = length-replicate (size % 2) 0

pub padding-odd : (size : ℕ) → size % 2 ≡ 1 → padding size ≡ 0 ∷ []
padding-odd size odd = rw odd refl

pub padding-even : (size : ℕ) → size % 2 ≡ 0 → padding size ≡ []
padding-even size even = rw even refl

pub length-sample_bytes : (bits : ℕ) (v : ℤ) → length (sample_bytes bits v) ≡ bits / 8
length-sample_bytes bits v = length-bytes_low_first 0 (bits / 8) _

pub length-samples_bytes : (bits : ℕ) (vs : List ℤ) → length (samples_bytes bits vs) ≡ length vs * (bits / 8)
length-samples_bytes bits [] = omega arith
length-samples_bytes bits (v ∷ vs) =
    let first = length-sample_bytes bits v in
    let rest = length-samples_bytes bits vs in
    length-append (sample_bytes bits v) (samples_bytes bits vs) ∙ rw (first, rest) (omega arith)

pub samples_bytes-append : (bits : ℕ) (xs ys : List ℤ) → samples_bytes bits (xs ++ ys) ≡ samples_bytes bits xs ++ samples_bytes bits ys
samples_bytes-append bits xs ys = flat_map-append (sample_bytes bits) xs ys

-- the samples of the first n values, and then those of the rest
pub samples_bytes-take_drop : (bits n : ℕ) (vs : List ℤ)
    → samples_bytes bits (take n vs) ++ samples_bytes bits (drop n vs) ≡ samples_bytes bits vs
samples_bytes-take_drop bits n vs =
    sym (samples_bytes-append bits (take n vs) (drop n vs)) ∙ ap (samples_bytes bits) (take-append-drop n vs)

-- one value more
pub samples_bytes-take_more : (bits i : ℕ) (vs : List ℤ) → i < length vs
    → samples_bytes bits (take (i + 1) vs) ≡ samples_bytes bits (take i vs) ++ sample_bytes bits (get_or vs i (pos 0))
samples_bytes-take_more bits i vs within =
    ap (samples_bytes bits) (take_more vs i (pos 0) within)
    ∙ samples_bytes-append bits (take i vs) (get_or vs i (pos 0) ∷ [])
    ∙ rw append-nil refl

-- the samples of so many frames take what the header says
pub length-samples_of_frames : (channels bits frames : ℕ) (vs : List ℤ) → (bits ≡ 16) ⊎ (bits ≡ 24) → length vs ≡ frames * channels
    → length (samples_bytes bits vs) ≡ data_size channels bits frames
length-samples_of_frames channels bits frames vs (inl short) all = length-samples_bytes bits vs ∙ rw (short, all) (omega arith)
length-samples_of_frames channels bits frames vs (inr long) all = length-samples_bytes bits vs ∙ rw (long, all) (omega arith)

-- where each row has so many values, all have so many times more
pub length-rows : (channels : ℕ) (rows : List (List ℤ)) → All (λ row. length row ≡ channels) rows
    → length (flat_map (λ row. row) rows) ≡ length rows * channels
length-rows channels [] even = omega arith
length-rows channels (row ∷ rows) even =
    let first : length row ≡ channels = even 0 row (omega arith) in
    let rest = length-rows channels rows (λ k d within. even (suc k) d (omega arith)) in
    length-append row (flat_map (λ (r : List ℤ). r) rows) ∙ rw (first, rest) (omega arith)

-- a whole file has its header, its samples and the zero byte
pub length-wav_bytes : (rate channels bits : ℕ) (rows : List (List ℤ)) → (bits ≡ 16) ⊎ (bits ≡ 24)
    → All (λ row. length row ≡ channels) rows
    → length (wav_bytes rate channels bits rows) ≡ 44 + data_size channels bits (length rows) + data_size channels bits (length rows) % 2
length-wav_bytes rate channels bits rows known even =
    let values : List ℤ = flat_map (λ row. row) rows in
    let size : ℕ = data_size channels bits (length rows) in
    let samples = length-samples_of_frames channels bits (length rows) values known (length-rows channels rows even) in
    length-append (header_bytes rate channels bits (length rows) ++ samples_bytes bits values) (padding size)
    ∙ rw (length-append (header_bytes rate channels bits (length rows)) (samples_bytes bits values), length-header_bytes, samples, length-padding size) refl
