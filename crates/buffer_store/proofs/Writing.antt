-- A channel that is written over in the list of all samples.
use Rattle.std.proofs.Common.{◌≢◌, suc, inl, inr, ◌≡◌, ◌≤◌, ◌<◌, ◌+◌, ◌-◌, ◌*◌, ◌++◌, ℕ, ℤ, List, length, take, drop, refl, sym, ◌∙◌, ap, ap₂, arith, append_assoc, append-nil, length-append}
use Rattle.std.specs.Prelude.{min, Bool, true, false, not, nat_lt, if◌then◌else◌, Some, None, slice_get}
use Rattle.std.proofs.lemmas.Bool.Decides.{leb_tells, nat_tests}
use Rattle.wa_base.specs.declared.exceptions.Exc.TheVariants.{NotSupported, IndexSize}
use Rattle.wa_base.specs.declared.features.Feature.TheVariants.{BufferAcquired}
use Rattle.std.proofs.Math.Nat.{mul-le-mul_right}
use Rattle.std.proofs.Math.Seq.{take-append-add, drop-append-add, drop-append_seam}
use Rattle.std.proofs.lemmas.List.{take-append-drop, take-append-le, drop-append-le, take_all, drop_all, drop_min, take_min, length-take, length-take-le, length-drop}
use Rattle.buffer_store.specs.declared.buffers.Buffer.{Buffer}
use Rattle.buffer_store.specs.Buffers.{written, channel_of, with_written, write_refusal, refusal_at, frozen, IsBuffer}
use Rattle.buffer_store.proofs.BufferLists.{Keeps}

-- what begins past the end writes nothing
written_past : (old new : List ℤ) (at : ℕ) → length old ≤ at → written old at new ≡ old
written_past old new at late =
    let none : length old - at ≡ 0 = omega arith in
    ap₂ (λ xs ys. xs ++ ys) (take_all at old late) (ap₂ (λ n ys. take n new ++ ys) none (drop_all (at + length new) old (omega arith)))
    ∙ append-nil old

length-written : (old new : List ℤ) (at : ℕ) → length (written old at new) ≡ length old
length-written old new at =
    length-append (take at old) (take (length old - at) new ++ drop (at + length new) old)
    ∙ omega (arith, length-append (take (length old - at) new) (drop (at + length new) old), length-take at old, length-take (length old - at) new, length-drop (at + length new) old)

-- three parts, of which the second is written over
module _ (front old rest new : List ℤ) (at : ℕ) (early : at < length old) where
  same_drop : drop (at + min (length new) (length old - at)) old ≡ drop (at + length new) old
  same_drop =
      ap (λ n. drop n old) (let e : at + min (length new) (length old - at) ≡ min (at + length new) (length old) = omega arith in e)
      ∙ drop_min (at + length new) old

  pub second : take (length front + at) (front ++ (old ++ rest)) ++ (take (length old - at) new ++ drop (length front + at + min (length new) (length old - at)) (front ++ (old ++ rest)))
      ≡ front ++ (written old at new ++ rest)
  second =
      ap₂ (λ xs ys. xs ++ (take (length old - at) new ++ ys))
      (take-append-add front (old ++ rest) at ∙ ap (λ xs. front ++ xs) (take-append-le at old rest (omega arith)))
      (ap (λ n. drop n (front ++ (old ++ rest))) (let e : length front + at + min (length new) (length old - at) ≡ length front + (at + min (length new) (length old - at)) = omega arith in e)
      ∙ drop-append-add front (old ++ rest) (at + min (length new) (length old - at))
      ∙ drop-append-le (at + min (length new) (length old - at)) old rest (omega arith)
      ∙ ap (λ xs. xs ++ rest) same_drop)
      ∙ append_assoc front (take at old) (take (length old - at) new ++ (drop (at + length new) old ++ rest))
      ∙ ap (λ xs. front ++ xs)
      (ap (λ xs. take at old ++ xs) (sym (append_assoc (take (length old - at) new) (drop (at + length new) old) rest))
      ∙ sym (append_assoc (take at old) (take (length old - at) new ++ drop (at + length new) old) rest))

-- a channel that a buffer has is in its samples
module _ (buffer : Buffer) (channel : ℕ) (is : IsBuffer buffer) (has : channel < buffer.shape.channels) where
  pub within : channel * buffer.shape.frames + buffer.shape.frames ≤ length buffer.samples
  within = omega (arith, is.samples, mul-le-mul_right buffer.shape.frames (let h : channel + 1 ≤ buffer.shape.channels = omega arith in h))

  length-front : length (take (channel * buffer.shape.frames) buffer.samples) ≡ channel * buffer.shape.frames
  length-front = let inside = within in length-take-le (channel * buffer.shape.frames) buffer.samples (omega arith)

  length-channel_of : length (channel_of buffer channel) ≡ buffer.shape.frames
  length-channel_of =
      let inside = within in
      length-take-le buffer.shape.frames (drop (channel * buffer.shape.frames) buffer.samples)
      (omega (arith, length-drop (channel * buffer.shape.frames) buffer.samples))

  after : drop buffer.shape.frames (drop (channel * buffer.shape.frames) buffer.samples)
      ≡ drop (channel * buffer.shape.frames + buffer.shape.frames) buffer.samples
  after =
      sym (drop-append-add (take (channel * buffer.shape.frames) buffer.samples) (drop (channel * buffer.shape.frames) buffer.samples) buffer.shape.frames)
      ∙ ap₂ (λ n xs. drop (n + buffer.shape.frames) xs) length-front (take-append-drop (channel * buffer.shape.frames) buffer.samples)

  -- the samples before the channel, those of the channel, and those after it
  parts : buffer.samples
      ≡ take (channel * buffer.shape.frames) buffer.samples
      ++ (channel_of buffer channel ++ drop (channel * buffer.shape.frames + buffer.shape.frames) buffer.samples)
  parts =
      sym (
      ap (λ xs. take (channel * buffer.shape.frames) buffer.samples ++ (channel_of buffer channel ++ xs)) (sym after)
      ∙ ap (λ xs. take (channel * buffer.shape.frames) buffer.samples ++ xs)
      (take-append-drop buffer.shape.frames (drop (channel * buffer.shape.frames) buffer.samples))
      ∙ take-append-drop (channel * buffer.shape.frames) buffer.samples
      )

  pub nothing_written : (new : List ℤ) (at : ℕ) → buffer.shape.frames ≤ at → buffer ≡ with_written channel new at buffer
  unfolding with_written
  nothing_written new at late =
      ap (λ samples. record buffer { samples = samples })
      (parts
      ∙ ap (λ xs. take (channel * buffer.shape.frames) buffer.samples ++ (xs ++ drop (channel * buffer.shape.frames + buffer.shape.frames) buffer.samples))
      (sym (written_past (channel_of buffer channel) new at (omega (arith, length-channel_of)))))

  pub samples_written : (new : List ℤ) (at : ℕ) → at < buffer.shape.frames
      → take (channel * buffer.shape.frames + at) buffer.samples
      ++ (take (buffer.shape.frames - at) new
      ++ drop (channel * buffer.shape.frames + at + min (length new) (buffer.shape.frames - at)) buffer.samples)
      ≡ (with_written channel new at buffer).samples
  unfolding with_written
  samples_written new at early =
      let front : List ℤ = take (channel * buffer.shape.frames) buffer.samples in
      let old : List ℤ = channel_of buffer channel in
      let rest : List ℤ = drop (channel * buffer.shape.frames + buffer.shape.frames) buffer.samples in
      ap (λ xs. take (channel * buffer.shape.frames + at) xs ++ (take (buffer.shape.frames - at) new
      ++ drop (channel * buffer.shape.frames + at + min (length new) (buffer.shape.frames - at)) xs)) parts
      ∙ ap₂ (λ p n. take (p + at) (front ++ (old ++ rest)) ++ (take (n - at) new ++ drop (p + at + min (length new) (n - at)) (front ++ (old ++ rest))))
      (sym length-front) (sym length-channel_of)
      ∙ second front old rest new at (omega (arith, length-channel_of))

  pub length-with_written : (new : List ℤ) (at : ℕ) → length (with_written channel new at buffer).samples ≡ length buffer.samples
  unfolding with_written
  length-with_written new at =
      let front : List ℤ = take (channel * buffer.shape.frames) buffer.samples in
      let old : List ℤ = channel_of buffer channel in
      let rest : List ℤ = drop (channel * buffer.shape.frames + buffer.shape.frames) buffer.samples in
      length-append front (written old at new ++ rest)
      ∙ ap (λ n. length front + n) (length-append (written old at new) rest ∙ ap (λ n. n + length rest) (length-written old new at) ∙ sym (length-append old rest))
      ∙ sym (length-append front (old ++ rest))
      ∙ ap length (sym parts)

  -- what a write over the samples leaves
  pub write_is : (new out : List ℤ) (at count : ℕ) → at < buffer.shape.frames → count ≡ min (length new) (buffer.shape.frames - at)
      → out ≡ take (channel * buffer.shape.frames + at) buffer.samples
      ++ (take count new ++ drop (channel * buffer.shape.frames + at + length (take count new)) buffer.samples)
      → out ≡ (with_written channel new at buffer).samples
  write_is new out at count early few wrote =
      let room : ℕ = buffer.shape.frames - at in
      let part : take count new ≡ take room new = ap (λ n. take n new) (let e : count ≡ min room (length new) = omega arith in e) ∙ take_min room new in
      let size : length (take count new) ≡ min (length new) room = length-take count new ∙ omega arith in
      wrote
      ∙ ap₂ (λ xs n. take (channel * buffer.shape.frames + at) buffer.samples ++ (xs ++ drop (channel * buffer.shape.frames + at + n) buffer.samples)) part size
      ∙ samples_written new at early

  -- the channel that is written
  pub this_channel : (new : List ℤ) (at : ℕ) → channel_of (with_written channel new at buffer) channel ≡ written (channel_of buffer channel) at new
  unfolding with_written
  this_channel new at =
      let front : List ℤ = take (channel * buffer.shape.frames) buffer.samples in
      let rest : List ℤ = drop (channel * buffer.shape.frames + buffer.shape.frames) buffer.samples in
      let over : List ℤ = written (channel_of buffer channel) at new in
      let size : length over ≡ buffer.shape.frames = length-written (channel_of buffer channel) new at ∙ length-channel_of in
      ap (λ n. take buffer.shape.frames (drop n (front ++ (over ++ rest)))) (sym length-front)
      ∙ ap (take buffer.shape.frames) (drop-append_seam front (over ++ rest))
      ∙ take-append-le buffer.shape.frames over rest (omega arith)
      ∙ take_all buffer.shape.frames over (omega arith)

  -- a channel before it
  pub earlier_channel : (new : List ℤ) (at other : ℕ) → other < channel → channel_of (with_written channel new at buffer) other ≡ channel_of buffer other
  unfolding with_written
  earlier_channel new at other early =
      let front : List ℤ = take (channel * buffer.shape.frames) buffer.samples in
      let rest : List ℤ = drop (channel * buffer.shape.frames + buffer.shape.frames) buffer.samples in
      let old : List ℤ = channel_of buffer channel in
      let before = mul-le-mul_right buffer.shape.frames (let h : other + 1 ≤ channel = omega arith in h) in
      let size = length-front in
      in_front other front (written old at new ++ rest) (omega arith)
      ∙ sym (in_front other front (old ++ rest) (omega arith))
      ∙ ap (λ xs. take buffer.shape.frames (drop (other * buffer.shape.frames) xs)) (sym parts)
    where
      in_front : (other : ℕ) (xs ys : List ℤ) → other * buffer.shape.frames + buffer.shape.frames ≤ length xs
          → take buffer.shape.frames (drop (other * buffer.shape.frames) (xs ++ ys)) ≡ take buffer.shape.frames (drop (other * buffer.shape.frames) xs)
      in_front other xs ys room =
          ap (take buffer.shape.frames) (drop-append-le (other * buffer.shape.frames) xs ys (omega arith))
          ∙ take-append-le buffer.shape.frames (drop (other * buffer.shape.frames) xs) ys (omega (arith, length-drop (other * buffer.shape.frames) xs))

  -- a channel after it
  pub later_channel : (new : List ℤ) (at other : ℕ) → channel < other → channel_of (with_written channel new at buffer) other ≡ channel_of buffer other
  unfolding with_written
  later_channel new at other late =
      let front : List ℤ = take (channel * buffer.shape.frames) buffer.samples in
      let rest : List ℤ = drop (channel * buffer.shape.frames + buffer.shape.frames) buffer.samples in
      let old : List ℤ = channel_of buffer channel in
      let past = mul-le-mul_right buffer.shape.frames (let h : channel + 1 ≤ other = omega arith in h) in
      let size : length (front ++ written old at new) ≡ length (front ++ old) =
      length-append front (written old at new) ∙ ap (λ n. length front + n) (length-written old new at) ∙ sym (length-append front old) in
      let all : length (front ++ old) ≤ other * buffer.shape.frames = omega (arith, length-append front old, length-front, length-channel_of) in
      ap (take buffer.shape.frames)
      (ap (drop (other * buffer.shape.frames)) (sym (append_assoc front (written old at new) rest))
      ∙ behind (front ++ written old at new) rest (other * buffer.shape.frames) (omega arith)
      ∙ ap (λ n. drop (other * buffer.shape.frames - n) rest) size
      ∙ sym (behind (front ++ old) rest (other * buffer.shape.frames) all)
      ∙ ap (drop (other * buffer.shape.frames)) (append_assoc front old rest ∙ sym parts))
    where
      behind : (xs ys : List ℤ) (n : ℕ) → length xs ≤ n → drop n (xs ++ ys) ≡ drop (n - length xs) ys
      behind xs ys n le = ap (λ m. drop m (xs ++ ys)) (let e : n ≡ length xs + (n - length xs) = omega arith in e) ∙ drop-append-add xs ys (n - length xs)

pub other_channel : (buffer : Buffer) (channel : ℕ) (is : IsBuffer buffer) (has : channel < buffer.shape.channels) (new : List ℤ) (at other : ℕ) → other ≢ channel
    → channel_of (with_written channel new at buffer) other ≡ channel_of buffer other
other_channel buffer channel is has new at other differs =
    elim (leb_tells (suc other) channel) [
      | inl early ↦ earlier_channel buffer channel is has new at other early.1
      | inr late ↦ later_channel buffer channel is has new at other (let after = late.1 in omega arith)
    ]

-- a buffer stays one with as many samples where a channel that it has is written over, and where it is frozen
pub keeps_written : (channel : ℕ) (new : List ℤ) (at : ℕ) (buffer : Buffer) → channel < buffer.shape.channels → Keeps (with_written channel new at) buffer
unfolding with_written
keeps_written channel new at buffer has = record {
  is = λ is. record {
    channels_low = is.channels_low;
    channels_high = is.channels_high;
    frames = is.frames;
    samples = length-with_written buffer channel is has new at ∙ is.samples;
  };
  samples = λ is. length-with_written buffer channel is has new at;
}

pub keeps_frozen : (buffer : Buffer) → Keeps frozen buffer
keeps_frozen buffer = record {
  is = λ is. record { channels_low = is.channels_low; channels_high = is.channels_high; frames = is.frames; samples = is.samples };
  samples = λ is. refl;
}

-- a channel whose writing is not refused is there
has_channel : (channel : ℕ) (buffer : Buffer) → write_refusal channel buffer ≡ None → channel < buffer.shape.channels
has_channel channel buffer accepted = by_test (nat_lt channel buffer.shape.channels) refl accepted
  where
    by_test : (b : Bool) → nat_lt channel buffer.shape.channels ≡ b
        → (if not b then Some IndexSize else if buffer.shape.frozen then Some (NotSupported (Some BufferAcquired)) else None) ≡ None
        → channel < buffer.shape.channels
    by_test true is h = grind (arith, nat_tests)
    by_test false is h = absurd cc

pub keeps_accepted : (channel : ℕ) (new : List ℤ) (at i : ℕ) (buffers : List Buffer) → refusal_at buffers i (write_refusal channel) ≡ None
    → (buffer : Buffer) → slice_get buffers i ≡ Some buffer → Keeps (with_written channel new at) buffer
keeps_accepted channel new at i buffers accepted buffer there =
    let none : write_refusal channel buffer ≡ None = rw there at accepted in
    keeps_written channel new at buffer (has_channel channel buffer none)
