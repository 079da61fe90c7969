-- Worlds stay valid, whatever becomes of their buffers.
use Rattle.std.proofs.Common.{ℕ, zero, suc, ℤ, ◌≡◌, ◌<◌, ◌≤◌, ◌+◌, ◌*◌, List, [], ◌∷◌, length, Bool, true, false, Option, Some, None, refl, sym, ap, subst, arith}
use Rattle.std.specs.Prelude.{if◌then◌else◌, ◌&&◌, not, nat_le, slice_get, unwrap_or, option_map}
use Rattle.std.proofs.lemmas.Bool.Decides.{nat_tests}
use Rattle.std.proofs.lemmas.List.{length-replicate}
use Rattle.std.proofs.lemmas.List.Sums.{sum_by-cons}
use Rattle.std.proofs.lemmas.Option.{get_or_from_slice_get}
use Rattle.std.proofs.Math.Nat.{mul-le-mul_right}
use Rattle.wa_base.specs.declared.exceptions.Exc.TheVariants.{NotSupported}
use Rattle.wa_base.specs.declared.features.Feature.TheVariants.{BufferLimit}
use Rattle.law_base.proofs.Tests.{and_parts}
use Rattle.buffer_store.specs.Recordings.{IsRecording}
use Rattle.buffer_store.specs.declared.wav.Wav.{Wav}
use Rattle.buffer_store.specs.declared.buffers.Buffer.{Buffer as AudioBuffer}
use Rattle.buffer_store.specs.declared.buffers.Shape.{Shape}
use Rattle.buffer_store.specs.Buffers.{silence, recorded, with_written, is_supported, limit_refusal, creation_refusal, total_of, shape_at, IsBuffer, AreBuffers}
use Rattle.buffer_store.proofs.BufferLists.{are_buffers_with_another, are_buffers_changed}
use Rattle.buffer_store.proofs.Writing.{keeps_accepted}
use Rattle.meaning.specs.declared.buffers.BufferEdit.{BufferEdit}
use Rattle.meaning.specs.declared.buffers.BufferEdit.TheVariants as edit
use Rattle.meaning.specs.declared.world.World.{World}
use Rattle.meaning.specs.Validity.{IsValid}
use Rattle.meaning.specs.Sources.{with_store, buffers_edited, buffers_refusal, IsEditOf}
use Rattle.meaning.proofs.Sourcing.{with_store_valid, keeps_more, keeps_changed}

-- a buffer has no more frames than all buffers have samples
below : (buffers : List AudioBuffer) (i : ℕ) (b : AudioBuffer) → slice_get buffers i ≡ Some b → i < length buffers
below [] i b is = absurd cc
below (x ∷ xs) zero b is = omega arith
below (x ∷ xs) (suc i) b is = let l = below xs i b is in omega arith

one_of_total : (buffers : List AudioBuffer) (i : ℕ) (b : AudioBuffer) → slice_get buffers i ≡ Some b → length b.samples ≤ total_of buffers
one_of_total [] i b is = absurd cc
one_of_total (x ∷ xs) zero b is =
    let same : length b.samples ≡ length x.samples = sym (ap (λ o. length (unwrap_or o b).samples) is) in
    omega (arith, sum_by-cons (λ (y : AudioBuffer). length y.samples) x xs)
one_of_total (x ∷ xs) (suc i) b is = omega (arith, sum_by-cons (λ (y : AudioBuffer). length y.samples) x xs, one_of_total xs i b is)

pub frames_small : (buffers : List AudioBuffer) (i : ℕ) (shape : Shape) → AreBuffers buffers → shape_at buffers i ≡ Some shape → shape.frames ≤ 134217728
frames_small buffers i shape are is = by_found (slice_get buffers i) refl is
  where
    by_found : (o : Option AudioBuffer) → slice_get buffers i ≡ o → option_map (λ (b : AudioBuffer). b.shape) o ≡ Some shape → shape.frames ≤ 134217728
    by_found None found is = absurd cc
    by_found (Some b) found is =
        let same : shape ≡ b.shape = sym (ap (λ o. unwrap_or o shape) is) in
        let own : IsBuffer b = subst IsBuffer (get_or_from_slice_get buffers i b b found) (are.each i b (below buffers i b found)) in
        let few = one_of_total buffers i b found in
        let long = own.samples in
        let some = own.channels_low in
        let all = mul-le-mul_right b.shape.frames some in
        rw same (omega (arith, are.limit))

-- what is not refused for want of room has it
has_room : (buffers : List AudioBuffer) (channels frames : ℕ) → limit_refusal buffers channels frames ≡ None → total_of buffers + channels * frames ≤ 134217728
has_room buffers channels frames fine = by_test (nat_le (total_of buffers + channels * frames) 134217728) refl fine
  where
    by_test : (b : Bool) → nat_le (total_of buffers + channels * frames) 134217728 ≡ b → (if b then None else Some (NotSupported (Some BufferLimit))) ≡ None → total_of buffers + channels * frames ≤ 134217728
    by_test true is h = grind (arith, nat_tests)
    by_test false is h = absurd cc

supported : (buffers : List AudioBuffer) (channels frames rate : ℕ) → creation_refusal buffers channels frames rate ≡ None
    → (is_supported channels frames rate ≡ true) × (limit_refusal buffers channels frames ≡ None)
supported buffers channels frames rate fine = by_test (is_supported channels frames rate) refl fine
  where
    by_test : (b : Bool) → is_supported channels frames rate ≡ b → (if not b then Some (NotSupported None) else limit_refusal buffers channels frames) ≡ None
        → (is_supported channels frames rate ≡ true) × (limit_refusal buffers channels frames ≡ None)
    by_test true is h = (is, h)
    by_test false is h = absurd cc

silence_is : (channels frames rate : ℕ) → is_supported channels frames rate ≡ true → IsBuffer (silence channels frames rate)
silence_is channels frames rate is =
    let fast = and_parts (nat_le 1 channels && nat_le channels 32 && nat_le 1 frames && nat_le 8000 rate) (nat_le rate 96000) is in
    let slow = and_parts (nat_le 1 channels && nat_le channels 32 && nat_le 1 frames) (nat_le 8000 rate) fast.0 in
    let some = and_parts (nat_le 1 channels && nat_le channels 32) (nat_le 1 frames) slow.0 in
    let both = and_parts (nat_le 1 channels) (nat_le channels 32) some.0 in
    record {
      channels_low = let t : nat_le 1 channels ≡ true = both.0 in grind (arith, nat_tests);
      channels_high = let t : nat_le channels 32 ≡ true = both.1 in grind (arith, nat_tests);
      frames = let t : nat_le 1 frames ≡ true = some.1 in grind (arith, nat_tests);
      samples = length-replicate (channels * frames) _;
    }

recorded_is : (wav : Wav) → IsRecording wav → IsBuffer (recorded wav)
recorded_is wav is = record { channels_low = is.channels_low; channels_high = is.channels_high; frames = is.frames; samples = is.samples }

same_shape : (channel : ℕ) (samples : List ℤ) (first : ℕ) (b : AudioBuffer) → (with_written channel samples first b).shape.frames ≡ b.shape.frames
unfolding with_written
same_shape channel samples first b = refl

pub buffers_edited_valid : (w : World) (e : BufferEdit) → IsEditOf w.store e → buffers_refusal w.store e ≡ None → IsValid w → IsValid (with_store w (buffers_edited w.store e))
buffers_edited_valid w (edit.Create channels frames rate) named fine valid =
    let fits = supported w.store channels frames rate fine in
    let buffer = silence_is channels frames rate fits.0 in
    with_store_valid w _ (keeps_more w.store (silence channels frames rate))
    (are_buffers_with_another w.store (silence channels frames rate) valid.store buffer (let room = has_room w.store channels frames fits.1 in let long = buffer.samples in omega arith))
    valid
buffers_edited_valid w (edit.Adopt wav) named fine valid =
    with_store_valid w _ (keeps_more w.store (recorded wav))
    (are_buffers_with_another w.store (recorded wav) valid.store (recorded_is wav named) (let room = has_room w.store wav.channels wav.frames fine in let long = named.samples in omega arith))
    valid
buffers_edited_valid w (edit.Write buffer channel samples first) named fine valid =
    with_store_valid w _ (keeps_changed w.store buffer.0 (with_written channel samples first) (same_shape channel samples first))
    (are_buffers_changed buffer.0 (with_written channel samples first) w.store (keeps_accepted channel samples first buffer.0 w.store fine) valid.store)
    valid

-- no buffer goes
pub buffers_stay : (store : List AudioBuffer) (e : BufferEdit) → length store ≤ length (buffers_edited store e)
buffers_stay store (edit.Create channels frames rate) = (keeps_more store (silence channels frames rate)).long
buffers_stay store (edit.Adopt wav) = (keeps_more store (recorded wav)).long
buffers_stay store (edit.Write buffer channel samples first) = (keeps_changed store buffer.0 (with_written channel samples first) (same_shape channel samples first)).long
