-- Frames that stand one after another, from samples that stand channel after channel.
use Rattle.std.proofs.Common.{◌≡◌, ◌≢◌, ◌<◌, ◌≤◌, ◌+◌, ◌*◌, ◌/◌, ◌%◌, ℕ, ℤ, pos, List, length, take, drop, slice_index_or, slice_set, refl, sym, ap, ◌∙◌, inl, inr, arith, get_or-take, get_or-drop, ext_get_or, length-take, length-drop}
use Rattle.std.proofs.Math.Nat.{mul-le-mul_right, le_of_mul-le-mul_right, mul-add-mod_self_right, mul-add-div_right}
use Rattle.std.proofs.lemmas.Bool.{cases_eq}
use Rattle.std.proofs.lemmas.List.{get_or-set_same, get_or-set_other}
use Rattle.std.proofs.lemmas.List.FromFn.{fill_by_all, length-map-range_with_len, get_or-map-range_with_len}
use Rattle.std.proofs.lemmas.Nat.{div-mul-add, mod-mul-add, mul-add-lt, div-add-mod', row_below_turned}
use Rattle.wa_base.specs.declared.contexts.ContextSpec.{ContextSpec}
use Rattle.meaning.specs.declared.world.World.{World}
use Rattle.session.specs.Rows.{sample_in, samples_of, frame_sample_in, frames_of, interleaved_sample, interleaved}

-- ---- one channel of a piece

-- the place of a channel in a frame is within the frames
pub place_within : (channels channel frame frames size : ℕ) → channel < channels → frame < frames → size ≡ frames * channels → frame * channels + channel < size
place_within channels channel frame frames size is_channel within whole = let below = mul-add-lt frame channels channel frames within is_channel in omega (arith, below)

-- the next place of the channel is not far past the frames
pub next_place_near : (channels channel frame frames size : ℕ) → channel < channels → frame < frames → size ≡ frames * channels → frame * channels + channel + channels ≤ 2 * size
next_place_near channels channel frame frames size is_channel within whole =
    let here = mul-add-lt frame channels channel frames within is_channel in
    let one : 1 * channels ≤ frames * channels = mul-le-mul_right channels (omega arith) in
    omega (arith, here, one)

-- two frames have their places of a channel apart
places_apart : (channels channel frame other : ℕ) → channel < channels → frame ≢ other → frame * channels + channel ≢ other * channels + channel
places_apart channels channel frame other is_channel differs = λ same. differs (sym (div-mul-add frame channels channel is_channel) ∙ (ap (λ n. n / channels) same ∙ div-mul-add other channels channel is_channel))

-- one sample more of the channel
pub sample_placed : (channels channel frame place : ℕ) (samples piece : List ℤ) → channel < channels → place ≡ frame * channels + channel → place < length piece
    → ((k : ℕ) → k < frame → slice_index_or piece (k * channels + channel) (pos 0) ≡ slice_index_or samples k (pos 0))
    → (k : ℕ) → k < frame + 1 → slice_index_or (slice_set piece place (slice_index_or samples frame (pos 0))) (k * channels + channel) (pos 0) ≡ slice_index_or samples k (pos 0)
sample_placed channels channel frame place samples piece is_channel place_is within before = λ k below.
    elim (cases_eq k frame) [
      | inl here ↦ rw (here, sym place_is) (get_or-set_same piece place (slice_index_or samples frame (pos 0)) (pos 0) within)
      | inr differs ↦ get_or-set_other piece place (k * channels + channel) (slice_index_or samples frame (pos 0)) (pos 0) (λ same. places_apart channels channel k frame is_channel differs (same ∙ place_is)) ∙ before k (omega arith)
    ]

-- the places of the other channels hold what they held
pub others_kept : (channels channel frame place : ℕ) (value : ℤ) (old piece : List ℤ) → channel < channels → place ≡ frame * channels + channel
    → ((other : ℕ) → other % channels ≢ channel → slice_index_or piece other (pos 0) ≡ slice_index_or old other (pos 0))
    → (other : ℕ) → other % channels ≢ channel → slice_index_or (slice_set piece place value) other (pos 0) ≡ slice_index_or old other (pos 0)
others_kept channels channel frame place value old piece is_channel place_is before = λ other apart.
    get_or-set_other piece place other value (pos 0) (λ same. apart (ap (λ n. n % channels) (same ∙ place_is) ∙ mod-mul-add frame channels channel is_channel)) ∙ before other apart

-- ---- the ranges of a piece

-- the whole frames of a piece
frames_whole : (size channels : ℕ) → size % channels ≡ 0 → size ≡ size / channels * channels
frames_whole size channels whole = let both = div-add-mod' size channels in omega (arith, both)

-- a channel's samples of the piece are among its samples
pub samples_within : (channels length channel first size : ℕ) → channel < channels → size % channels ≡ 0 → first * channels + size ≤ channels * length → channel * length + first + size / channels ≤ channels * length
samples_within channels length channel first size is_channel whole within =
    let frames = size / channels in
    let size_is = frames_whole size channels whole in
    let all : (first + frames) * channels ≤ length * channels = omega (arith, size_is) in
    let some : first + frames ≤ length = le_of_mul-le-mul_right {m = first + frames} {n = length} {k = channels} all (omega arith) in
    let row : (channel + 1) * length ≤ channels * length = mul-le-mul_right length (omega arith) in
    omega (arith, some, row)

-- ---- all channels of a piece

-- the channels before `below` have their samples from frame `first` on in the piece's frames
unfoldable pub HoldsChannels : List ℤ → ContextSpec → ℕ → ℕ → ℕ → List ℤ → Type 0
HoldsChannels samples spec first frames below piece =
    (channel frame : ℕ) → channel < below → frame < frames → slice_index_or piece (frame * spec.channels + channel) (pos 0) ≡ slice_index_or samples (channel * spec.length + first + frame) (pos 0)

pub none_held : (samples : List ℤ) (spec : ContextSpec) (first frames : ℕ) (piece : List ℤ) → HoldsChannels samples spec first frames 0 piece
unfolding HoldsChannels
none_held samples spec first frames piece = λ channel frame below within. absurd (omega arith)

-- one channel more
pub channel_held : (samples slice : List ℤ) (spec : ContextSpec) (first frames channel start count : ℕ) (old new : List ℤ) → channel < spec.channels
    → slice ≡ samples → start ≡ channel * spec.length + first → count ≡ frames → start + frames ≤ length samples
    → HoldsChannels samples spec first frames channel old
    → ((frame : ℕ) → frame < length (take count (drop start slice)) → slice_index_or new (frame * spec.channels + channel) (pos 0) ≡ slice_index_or (take count (drop start slice)) frame (pos 0))
    → ((place : ℕ) → place % spec.channels ≢ channel → slice_index_or new place (pos 0) ≡ slice_index_or old place (pos 0))
    → HoldsChannels samples spec first frames (channel + 1) new
unfolding HoldsChannels
channel_held samples slice spec first frames channel start count old new is_channel slice_is start_is count_is room before written kept = λ other frame below within.
    elim (cases_eq other channel) [
      | inl here ↦
          let long : length slice ≡ length samples = ap length slice_is in
          let part : frame < length (take count (drop start slice)) = omega (arith, length-take count (drop start slice), length-drop start slice, long) in
          let counted : frame < count = omega arith in
          let read : slice_index_or (take count (drop start slice)) frame (pos 0) ≡ slice_index_or slice (start + frame) (pos 0) = get_or-take count (drop start slice) frame (pos 0) counted ∙ get_or-drop start slice frame (pos 0) in
          let same : slice_index_or slice (start + frame) (pos 0) ≡ slice_index_or samples (channel * spec.length + first + frame) (pos 0) = rw (slice_is, start_is) refl in
          rw here (written frame part ∙ (read ∙ same))
      | inr differs ↦
          let column = mod-mul-add frame spec.channels other (omega arith) in
          kept (frame * spec.channels + other) (λ same. differs (sym column ∙ same)) ∙ before other frame (omega arith) within
    ]

-- with all its channels, the piece is the interleaved samples from its first frame on
interleaved_at : (samples : List ℤ) (spec : ContextSpec) (first below size place : ℕ) (piece : List ℤ) → 1 ≤ spec.channels → spec.channels ≤ below
    → size % spec.channels ≡ 0 → HoldsChannels samples spec first (size / spec.channels) below piece → place < size
    → slice_index_or piece place (pos 0) ≡ interleaved_sample spec samples (first * spec.channels + place)
unfolding HoldsChannels
interleaved_at samples spec first below size place piece some all whole held within =
    let channels = spec.channels in
    let size_is = frames_whole size channels whole in
    let frame : place / channels < size / channels = (row_below_turned place channels (size / channels) channels (omega (arith, size_is)) (omega arith)).1 in
    let channel : place % channels < below = omega arith in
    let told : slice_index_or piece place (pos 0) ≡ slice_index_or samples (place % channels * spec.length + first + place / channels) (pos 0) =
    ap (λ n. slice_index_or piece n (pos 0)) (sym (div-add-mod' place channels)) ∙ held (place % channels) (place / channels) channel frame in
    let column : (first * channels + place) % channels ≡ place % channels = mul-add-mod_self_right first channels place in
    let row : (first * channels + place) / channels ≡ first + place / channels = mul-add-div_right (omega arith) first place in
    let turned : place % channels * spec.length + first + place / channels ≡ place % channels * spec.length + (first + place / channels) = omega arith in
    rw (column, row) (told ∙ ap (λ n. slice_index_or samples n (pos 0)) turned)

pub all_interleaved : (samples : List ℤ) (spec : ContextSpec) (first below size : ℕ) (piece : List ℤ) → 1 ≤ spec.channels → spec.channels ≤ below → length piece ≡ size
    → size % spec.channels ≡ 0 → first * spec.channels + size ≤ spec.channels * spec.length
    → HoldsChannels samples spec first (size / spec.channels) below piece
    → piece ≡ take size (drop (first * spec.channels) (interleaved spec samples))
unfolding interleaved
all_interleaved samples spec first below size piece some all long whole within held =
    let start = first * spec.channels in
    let total = spec.channels * spec.length in
    let frames = interleaved spec samples in
    let frames_long : length frames ≡ total = length-map-range_with_len (interleaved_sample spec samples) 0 total in
    let same_length : length piece ≡ length (take size (drop start frames)) = omega (arith, length-take size (drop start frames), length-drop start frames, frames_long) in
    ext_get_or (pos 0) piece (take size (drop start frames)) same_length
    (λ place in_piece.
    let in_size : place < size = omega arith in
    let in_frames : start + place < total = omega arith in
    interleaved_at samples spec first below size place piece some all whole held in_size
    ∙ sym
    (get_or-take size (drop start frames) place (pos 0) in_size
    ∙ (get_or-drop start frames place (pos 0) ∙ get_or-map-range_with_len (interleaved_sample spec samples) 0 total (start + place) (start + place) (pos 0) in_frames (omega arith))))

-- ---- one channel alone

-- the samples of a single channel stand as they are
interleaved_one : (samples : List ℤ) (spec : ContextSpec) → spec.channels ≡ 1 → length samples ≡ spec.channels * spec.length → samples ≡ interleaved spec samples
unfolding interleaved
interleaved_one samples spec one long =
    fill_by_all (interleaved_sample spec samples) samples (spec.channels * spec.length) (pos 0) long
    (λ place within.
    let none : place % 1 ≡ 0 = omega arith in
    let place_is : place ≡ place % 1 * spec.length + place / 1 = rw none (omega arith) in
    rw one (ap (λ n. slice_index_or samples n (pos 0)) place_is))

pub one_interleaved : (samples slice : List ℤ) (spec : ContextSpec) (first size count : ℕ) (piece : List ℤ) → spec.channels ≡ 1 → slice ≡ samples → length samples ≡ spec.channels * spec.length → count ≡ size
    → piece ≡ take count (drop first slice) → piece ≡ take size (drop (first * spec.channels) (interleaved spec samples))
one_interleaved samples slice spec first size count piece one slice_is long count_is piece_is =
    let start : first ≡ first * spec.channels = rw one (omega arith) in
    let whole = slice_is ∙ interleaved_one samples spec one long in
    rw (count_is, whole, start) at piece_is

-- ---- a whole rendering

-- interleaved, the samples that a tape gives channel after channel are those that it gives frame after frame
pub interleaved_rendered : (tape : List World) (spec : ContextSpec) → 1 ≤ spec.channels → 1 ≤ spec.length → interleaved spec (samples_of tape spec) ≡ frames_of tape spec
unfolding interleaved samples_of frames_of
interleaved_rendered tape spec some_channels some_frames =
    let channels = spec.channels in
    let total = channels * spec.length in
    let samples = samples_of tape spec in
    fill_by_all (frame_sample_in tape spec) (interleaved spec samples) total (pos 0) (length-map-range_with_len (interleaved_sample spec samples) 0 total)
    (λ place within.
    let channel : place % channels < channels = omega arith in
    let frame : place / channels < spec.length = (row_below_turned place channels spec.length channels (omega arith) (omega arith)).1 in
    let from = place % channels * spec.length + place / channels in
    let fits = mul-add-lt (place % channels) spec.length (place / channels) channels channel frame in
    let in_samples : from < total = omega (arith, fits) in
    let read : slice_index_or samples from (pos 0) ≡ sample_in tape spec from = get_or-map-range_with_len (sample_in tape spec) 0 total from from (pos 0) in_samples (omega arith) in
    let row = div-mul-add (place % channels) spec.length (place / channels) frame in
    let column = mod-mul-add (place % channels) spec.length (place / channels) frame in
    get_or-map-range_with_len (interleaved_sample spec samples) 0 total place place (pos 0) within (omega arith) ∙ rw (row, column) at read)
