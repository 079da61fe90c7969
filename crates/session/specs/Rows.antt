-- The samples that a session renders.
use Rattle.std.specs.Prelude.{ℕ, ◌*◌, ◌/◌, ◌%◌, ℤ, pos, List, map, slice_index_or, ◌+◌}
use Rattle.std.specs.List.{range_with_len}
use Rattle.wa_base.specs.Contexts.{quantum_of}
use Rattle.wa_base.specs.declared.contexts.ContextSpec.{ContextSpec}
use Rattle.meaning.specs.declared.world.World.{World}
use Rattle.meaning.specs.Rendered.{sample}

-- channel after channel: the sample at a place is that of channel place / length at frame place mod length
abbrev pub sample_in : List World → ContextSpec → ℕ → ℤ
sample_in tape spec place = sample (quantum_of spec) tape (place % spec.length) (place / spec.length)

unfoldable pub samples_of : List World → ContextSpec → List ℤ
samples_of tape spec = map (sample_in tape spec) (range_with_len 0 (spec.channels * spec.length))

-- frame after frame: the sample at a place is that of channel place mod channels at frame place / channels
abbrev pub frame_sample_in : List World → ContextSpec → ℕ → ℤ
frame_sample_in tape spec place = sample (quantum_of spec) tape (place / spec.channels) (place % spec.channels)

unfoldable pub frames_of : List World → ContextSpec → List ℤ
frames_of tape spec = map (frame_sample_in tape spec) (range_with_len 0 (spec.channels * spec.length))

-- samples that stand channel after channel, frame after frame
abbrev pub interleaved_sample : ContextSpec → List ℤ → ℕ → ℤ
interleaved_sample spec samples place = slice_index_or samples (place % spec.channels * spec.length + place / spec.channels) (pos 0)

unfoldable pub interleaved : ContextSpec → List ℤ → List ℤ
interleaved spec samples = map (interleaved_sample spec samples) (range_with_len 0 (spec.channels * spec.length))
