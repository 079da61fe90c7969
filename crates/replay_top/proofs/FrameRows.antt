-- Rows of frames, one after another, are the samples frame after frame.
use Rattle.std.proofs.Common.{ℕ, ℤ, zero, suc, ◌≡◌, ◌+◌, ◌*◌, ◌/◌, ◌%◌, ◌≤◌, ◌++◌, List, [], ◌∷◌, map, length, refl, sym, ◌∙◌, ap, ap₂, arith}
use Rattle.std.specs.List.{flat_map, range_with_len}
use Rattle.std.proofs.Math.Nat.{mul_comm}
use Rattle.std.proofs.lemmas.Nat.{div-mul-add, mod-mul-add}
use Rattle.std.proofs.lemmas.List.{map-append}
use Rattle.std.proofs.lemmas.List.FromFn.{length-map-range_with_len}
use Rattle.wa_base.specs.Contexts.{quantum_of}
use Rattle.wa_base.specs.declared.contexts.ContextSpec.{ContextSpec}
use Rattle.wav_io.specs.WavText.{header_bytes, samples_bytes, padding, data_size, wav_bytes}
use Rattle.meaning.specs.declared.world.World.{World}
use Rattle.meaning.specs.Rendered.{sample, rows}
use Rattle.session.specs.Rows.{frame_sample_in, frames_of}
use Rattle.replay_top.specs.WavFile.{wav_of}

range-add : (a m n : ℕ) → range_with_len a (m + n) ≡ range_with_len a m ++ range_with_len (a + m) n
range-add a zero n = ap (λ k. range_with_len a k) (let e : 0 + n ≡ n = omega arith in e) ∙ ap (λ k. range_with_len k n) (let e : a ≡ a + 0 = omega arith in e)
range-add a (suc m) n =
    ap (λ k. range_with_len a k) (let e : suc m + n ≡ suc (m + n) = omega arith in e)
    ∙ ap (λ xs. a ∷ xs) (range-add (a + 1) m n ∙ ap (λ k. range_with_len (a + 1) m ++ range_with_len k n) (let e : a + 1 + m ≡ a + suc m = omega arith in e))

flat_map-map : (f : ℕ → List ℤ) (xs : List ℕ) → flat_map (λ row. row) (map f xs) ≡ flat_map f xs
flat_map-map f [] = refl
flat_map-map f (x ∷ xs) = ap (λ ys. f x ++ ys) (flat_map-map f xs)

module _ (g : ℕ → ℕ → ℤ) (c : ℕ) where
  -- the places of one frame, from channel k on
  one_row : (a k m : ℕ) → k + m ≤ c → map (λ p. g (p / c) (p % c)) (range_with_len (a * c + k) m) ≡ map (g a) (range_with_len k m)
  one_row a k zero l = refl
  one_row a k (suc m) l =
      ap₂ (λ (x : ℤ) xs. x ∷ xs)
      (ap₂ (λ i j. g i j) (div-mul-add a c k (omega arith)) (mod-mul-add a c k (omega arith)))
      (ap (λ p. map (λ p. g (p / c) (p % c)) (range_with_len p m)) (let e : a * c + k + 1 ≡ a * c + (k + 1) = omega arith in e) ∙ one_row a (k + 1) m (omega arith))

  pub all_rows : (a n : ℕ) → flat_map (λ f. map (g f) (range_with_len 0 c)) (range_with_len a n) ≡ map (λ p. g (p / c) (p % c)) (range_with_len (a * c) (n * c))
  all_rows a zero = ap (λ k. map (λ p. g (p / c) (p % c)) (range_with_len (a * c) k)) (let e : 0 ≡ 0 * c = omega arith in e)
  all_rows a (suc n) =
      ap₂ (λ xs ys. xs ++ ys)
      (sym (one_row a 0 c (omega arith)) ∙ ap (λ k. map (λ p. g (p / c) (p % c)) (range_with_len k c)) (let e : a * c + 0 ≡ a * c = omega arith in e))
      (all_rows (a + 1) n ∙ ap (λ k. map (λ p. g (p / c) (p % c)) (range_with_len k (n * c))) (let e : (a + 1) * c ≡ a * c + c = omega arith in e))
      ∙ sym (map-append (λ p. g (p / c) (p % c)) (range_with_len (a * c) c) (range_with_len (a * c + c) (n * c)))
      ∙ ap (map (λ p. g (p / c) (p % c))) (sym (range-add (a * c) c (n * c)))
      ∙ ap (λ k. map (λ p. g (p / c) (p % c)) (range_with_len (a * c) k)) (let e : c + n * c ≡ suc n * c = omega arith in e)

pub flat_rows : (tape : List World) (spec : ContextSpec) → flat_map (λ row. row) (rows (quantum_of spec) tape spec) ≡ frames_of tape spec
unfolding rows frames_of
flat_rows tape spec =
    flat_map-map (λ f. map (sample (quantum_of spec) tape f) (range_with_len 0 spec.channels)) (range_with_len 0 spec.length)
    ∙ all_rows (sample (quantum_of spec) tape) spec.channels 0 spec.length
    ∙ ap (λ k. map (frame_sample_in tape spec) (range_with_len k (spec.length * spec.channels))) (let e : 0 * spec.channels ≡ 0 = omega arith in e)
    ∙ ap (λ k. map (frame_sample_in tape spec) (range_with_len 0 k)) (mul_comm spec.length spec.channels)

length-rows : (tape : List World) (spec : ContextSpec) → length (rows (quantum_of spec) tape spec) ≡ spec.length
unfolding rows
length-rows tape spec = length-map-range_with_len (λ f. map (sample (quantum_of spec) tape f) (range_with_len 0 spec.channels)) 0 spec.length

-- the file of all samples, frame after frame, is that of the rows
pub wav-rows : (bits : ℕ) (tape : List World) (spec : ContextSpec) → wav_of bits spec (frames_of tape spec) ≡ wav_bytes spec.rate spec.channels bits (rows (quantum_of spec) tape spec)
unfolding wav_of
wav-rows bits tape spec =
    ap (λ xs. header_bytes spec.rate spec.channels bits spec.length ++ samples_bytes bits xs ++ padding (data_size spec.channels bits spec.length)) (sym (flat_rows tape spec))
    ∙ ap (λ n. header_bytes spec.rate spec.channels bits n ++ samples_bytes bits (flat_map (λ row. row) (rows (quantum_of spec) tape spec)) ++ padding (data_size spec.channels bits n)) (sym (length-rows tape spec))
