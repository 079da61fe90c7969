-- What holds of every list of buffers.
use Rattle.std.proofs.Common.{◌≡◌, ◌≤◌, ◌+◌, ◌∷◌, ◌++◌, [], ℕ, zero, suc, List, length, slice_index_or, All, refl, ap, arith}
use Rattle.std.specs.Prelude.{slice_get, slice_set, Option, Some, None, Bool, true, false, not, if◌then◌else◌}
use Rattle.std.proofs.lemmas.List.Sums.{sum_by-cons, sum_by-append}
use Rattle.std.proofs.Math.Nat.{mul-le-mul_left}
use Rattle.std.proofs.lemmas.List.Elements.{All-append, All-cons, All-nil, All-head, All-tail}
use Rattle.buffer_store.specs.declared.buffers.Buffer.{Buffer}
use Rattle.wa_base.specs.declared.exceptions.Exc.{Exc}
use Rattle.wa_base.specs.declared.exceptions.Exc.TheVariants.{NotSupported}
use Rattle.buffer_store.specs.Buffers.{total_of, changed_at, IsBuffer, AreBuffers, is_supported, limit_refusal, creation_refusal}

-- a buffer has at least one sample
some_samples : (buffer : Buffer) → IsBuffer buffer → 1 ≤ length buffer.samples
some_samples buffer is =
    let channels = is.channels_low in
    let frames = is.frames in
    omega (arith, is.samples, mul-le-mul_left buffer.shape.channels is.frames)

total_of-cons : (b : Buffer) (bs : List Buffer) → total_of (b ∷ bs) ≡ length b.samples + total_of bs
total_of-cons b bs = sum_by-cons (λ (buffer : Buffer). length buffer.samples) b bs

few : (buffers : List Buffer) → All IsBuffer buffers → length buffers ≤ total_of buffers
few [] each = omega arith
few (b ∷ bs) each = omega (arith, total_of-cons b bs, some_samples b (All-head IsBuffer b bs each), few bs (All-tail IsBuffer b bs each))

-- there are no more buffers than samples
pub few_buffers : (buffers : List Buffer) → AreBuffers buffers → length buffers ≤ 134217728
few_buffers buffers are = omega (arith, few buffers are.each, are.limit)

pub total_of-append : (buffers : List Buffer) (buffer : Buffer) → total_of (buffers ++ buffer ∷ []) ≡ total_of buffers + length buffer.samples
total_of-append buffers buffer = omega (arith, sum_by-append (λ (b : Buffer). length b.samples) buffers (buffer ∷ []))

pub are_buffers_with_another : (buffers : List Buffer) (buffer : Buffer) → AreBuffers buffers → IsBuffer buffer
    → total_of buffers + length buffer.samples ≤ 134217728 → AreBuffers (buffers ++ buffer ∷ [])
are_buffers_with_another buffers buffer are is room = record {
  each = All-append IsBuffer buffers (buffer ∷ []) are.each (All-cons IsBuffer buffer [] is (All-nil IsBuffer));
  limit = omega (arith, total_of-append buffers buffer);
}

-- ---- a buffer that is changed in its place

-- a change after which a buffer is a buffer with as many samples
pub record Keeps (change : Buffer → Buffer) (buffer : Buffer) : Type 0 where
  pub is : IsBuffer buffer → IsBuffer (change buffer)
  pub samples : IsBuffer buffer → length (change buffer).samples ≡ length buffer.samples

pub set_is_changed : (i : ℕ) (change : Buffer → Buffer) (bs : List Buffer) (b : Buffer) → b ≡ slice_index_or bs i b → slice_set bs i (change b) ≡ changed_at i change bs
set_is_changed i change [] b is = refl
set_is_changed zero change (m ∷ bs) b is = ap (λ x. change x ∷ bs) is
set_is_changed (suc i) change (m ∷ bs) b is = ap (λ xs. m ∷ xs) (set_is_changed i change bs b is)

-- a buffer that is put back as it was
pub set_same : (i : ℕ) (bs : List Buffer) (b : Buffer) → b ≡ slice_index_or bs i b → slice_set bs i b ≡ bs
set_same i [] b is = refl
set_same zero (m ∷ bs) b is = ap (λ x. x ∷ bs) is
set_same (suc i) (m ∷ bs) b is = ap (λ xs. m ∷ xs) (set_same i bs b is)

total_changed : (i : ℕ) (change : Buffer → Buffer) (bs : List Buffer) → ((b : Buffer) → slice_get bs i ≡ Some b → Keeps change b) → All IsBuffer bs
    → total_of (changed_at i change bs) ≡ total_of bs
total_changed i change [] keeps each = refl
total_changed zero change (b ∷ bs) keeps each =
    omega (arith, total_of-cons b bs, total_of-cons (change b) bs, (keeps b refl).samples (All-head IsBuffer b bs each))
total_changed (suc i) change (b ∷ bs) keeps each =
    omega (arith, total_of-cons b bs, total_of-cons b (changed_at i change bs), total_changed i change bs keeps (All-tail IsBuffer b bs each))

each_changed : (i : ℕ) (change : Buffer → Buffer) (bs : List Buffer) → ((b : Buffer) → slice_get bs i ≡ Some b → Keeps change b) → All IsBuffer bs
    → All IsBuffer (changed_at i change bs)
each_changed i change [] keeps each = each
each_changed zero change (b ∷ bs) keeps each = All-cons IsBuffer (change b) bs ((keeps b refl).is (All-head IsBuffer b bs each)) (All-tail IsBuffer b bs each)
each_changed (suc i) change (b ∷ bs) keeps each =
    All-cons IsBuffer b (changed_at i change bs) (All-head IsBuffer b bs each) (each_changed i change bs keeps (All-tail IsBuffer b bs each))

pub same_total : (i : ℕ) (change : Buffer → Buffer) (bs : List Buffer) → ((b : Buffer) → slice_get bs i ≡ Some b → Keeps change b) → AreBuffers bs
    → total_of (changed_at i change bs) ≡ total_of bs
same_total i change bs keeps are = total_changed i change bs keeps are.each

pub are_buffers_changed : (i : ℕ) (change : Buffer → Buffer) (bs : List Buffer) → ((b : Buffer) → slice_get bs i ≡ Some b → Keeps change b) → AreBuffers bs
    → AreBuffers (changed_at i change bs)
are_buffers_changed i change bs keeps are = record {
  each = each_changed i change bs keeps are.each;
  limit = omega (arith, same_total i change bs keeps are, are.limit);
}

-- ---- what may be created

-- where a buffer may be created it has room
pub has_room : (buffers : List Buffer) (channels frames rate : ℕ) → creation_refusal buffers channels frames rate ≡ None → limit_refusal buffers channels frames ≡ None
has_room buffers channels frames rate accepted = by_support (is_supported channels frames rate) accepted
  where
    by_support : (b : Bool) → (if not b then Some (NotSupported None) else limit_refusal buffers channels frames) ≡ None → limit_refusal buffers channels frames ≡ None
    by_support true is = is
    by_support false is = absurd cc

pub not_both : (refusal : Option Exc) (exc : Exc) → refusal ≡ None → refusal ≡ Some exc → ⊥
not_both None exc is other = absurd cc
not_both (Some e) exc is other = absurd cc
