-- Lists made from the numbers of a range.
use Rattle.std.proofs.Common.{◌≡◌, ℕ, ◌+◌, ◌*◌, ◌/◌, length, length-append, zero, suc, ℤ, List, [], ◌∷◌, ◌++◌, map, sym, ap, ap₂, ◌∙◌, append_assoc, arith}
use Rattle.std.specs.List.{flat_map, range_with_len}
use Rattle.std.proofs.lemmas.List.{append-nil}
use Rattle.std.proofs.lemmas.List.FromFn.{length-map-range_with_len, map-range_with_len_more}
use Rattle.wav_io.specs.declared.format_chunk.Format.{Format}
use Rattle.wav_io.specs.WavGrammar.{value_of, bytes_at, channel_values, values_in}

pub flat_map-range_more : (f : ℕ → List ℤ) (a n j : ℕ) → a + n ≡ j → flat_map f (range_with_len a (n + 1)) ≡ flat_map f (range_with_len a n) ++ f j
flat_map-range_more f a zero j is = append-nil (f a) ∙ ap f (let e : a ≡ j = omega arith in e)
flat_map-range_more f a (suc n) j is =
    ap (λ m. flat_map f (range_with_len a m)) (let e : suc n + 1 ≡ suc (n + 1) = omega arith in e)
    ∙ ap (λ ys. f a ++ ys) (flat_map-range_more f (a + 1) n j (omega arith))
    ∙ sym (append_assoc (f a) (flat_map f (range_with_len (a + 1) n)) (f j))

length-flat_map-range : (f : ℕ → List ℤ) (m a n : ℕ) → ((k : ℕ) → length (f k) ≡ m) → length (flat_map f (range_with_len a n)) ≡ n * m
length-flat_map-range f m a zero each = omega arith
length-flat_map-range f m a (suc n) each =
    length-append (f a) (flat_map f (range_with_len (a + 1) n)) ∙ omega (arith, each a, length-flat_map-range f m (a + 1) n each)

-- there is a value for each channel and frame
pub length-values_in : (bytes : List ℕ) (format : Format) (start frames : ℕ) → length (values_in bytes format start frames) ≡ format.channels * frames
length-values_in bytes format start frames =
    length-flat_map-range (channel_values bytes format start frames) frames 0 format.channels
    (λ channel. length-map-range_with_len (λ frame. value_of format.bits (bytes_at (format.bits / 8) bytes (start + (frame * format.channels + channel) * (format.bits / 8)))) 0 frames)

-- one value more of a function of the numbers, behind what was there before
pub values_more : (before old new : List ℤ) (f : ℕ → ℤ) (n : ℕ) (x : ℤ) → old ≡ before ++ map f (range_with_len 0 n) → x ≡ f n → new ≡ old ++ x ∷ []
    → new ≡ before ++ map f (range_with_len 0 (n + 1))
values_more before old new f n x was is more =
    more
    ∙ ap₂ (λ xs y. xs ++ y ∷ []) was is
    ∙ append_assoc before (map f (range_with_len 0 n)) (f n ∷ [])
    ∙ ap (λ xs. before ++ xs) (sym (map-range_with_len_more f 0 n n (omega arith)))
