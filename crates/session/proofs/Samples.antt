-- The samples of a tape, and of a tape with one world more.
use Rattle.std.proofs.Common.{◌≡◌, ◌<◌, ◌≤◌, ◌+◌, ◌*◌, ◌/◌, ◌%◌, ℕ, zero, suc, ℤ, pos, List, [], ◌∷◌, ◌++◌, length, map, replicate, slice_index_or, true, false, nat_lt, refl, sym, ap, ◌∙◌, inl, inr, arith, length-append, mul_comm}
use Rattle.std.specs.Prelude.{nat_le}
use Rattle.std.specs.List.{range_with_len}
use Rattle.std.proofs.lemmas.Bool.{cases_lt}
use Rattle.std.proofs.lemmas.Bool.Decides.{nat_tests}
use Rattle.std.proofs.lemmas.List.{get_or_past}
use Rattle.std.proofs.lemmas.List.FromFn.{fill_by_all, get_or-map-range_with_len}
use Rattle.std.proofs.lemmas.Nat.{le-div, row_below_turned}
use Rattle.std.proofs.Math.Nat.{div-lt_iff_lt-mul}
use Rattle.law_base.proofs.SchemeLaws.{moment-zero}
use Rattle.wa_base.specs.Contexts.{quantum_of}
use Rattle.wa_base.specs.declared.contexts.ContextSpec.{ContextSpec}
use Rattle.conn_graph.specs.Ends.{reader_of, ends, height}
use Rattle.meaning.specs.declared.world.World.{World}
use Rattle.meaning.specs.World.{sounding, no_world}
use Rattle.meaning.specs.Counts.{world_in}
use Rattle.meaning.specs.Values.{Values, silence, value_scheme, known_at, value_at, value}
use Rattle.meaning.specs.Rendered.{sample}
use Rattle.meaning.proofs.Alike.{world_alike}
use Rattle.meaning.proofs.TapeLaws.{value_same, world_before}
use Rattle.session.specs.Frames.{WritesBelow}
use Rattle.session.specs.Rows.{sample_in, samples_of}

-- ---- one sample

-- tapes that agree up to the frame's quantum have the same samples
sample_same : (q : ℕ) → 0 < q → (tape other : List World) (frame channel : ℕ) → ((k : ℕ) → k ≤ frame / q → world_in tape k ≡ world_in other k) → sample q tape frame channel ≡ sample q other frame channel
sample_same q some tape other frame channel same = ap (λ (v : Values). v (reader_of 0) 0 channel) (value_same q some tape other frame same)

-- and so have tapes that sound alike
sample_alike : (q : ℕ) → 0 < q → (tape other : List World) → map sounding tape ≡ map sounding other → (frame channel : ℕ) → sample q tape frame channel ≡ sample q other frame channel
sample_alike q some tape other same frame channel = sample_same q some tape other frame channel (λ k l. world_alike q tape other same k)

sample_kept : (q : ℕ) → 0 < q → (tape : List World) (w : World) (frame channel : ℕ) → frame / q < length tape → sample q (tape ++ w ∷ []) frame channel ≡ sample q tape frame channel
sample_kept q some tape w frame channel before = sample_same q some (tape ++ w ∷ []) tape frame channel (λ k l. world_before tape w k (omega arith))

height_none : height no_world.graph.value ≡ 0
unfolding height ends
height_none = refl

value_none : (q : ℕ) (tape : List World) (frame : ℕ) → length tape ≤ frame / q → value q tape frame ≡ silence
unfolding value value_at
value_none q tape frame past =
    let world : world_in tape (frame / q) ≡ no_world = ap sounding (get_or_past tape (frame / q) no_world past) in
    ap (λ (w : World). value_at q tape frame (height w.graph.value)) world
    ∙ ap (λ h. value_at q tape frame h) height_none
    ∙ moment-zero (value_scheme q) (known_at q tape) frame

-- past the end of the tape there is silence
sample_none : (q : ℕ) (tape : List World) (frame channel : ℕ) → length tape ≤ frame / q → sample q tape frame channel ≡ pos 0
sample_none q tape frame channel past = ap (λ (v : Values). v (reader_of 0) 0 channel) (value_none q tape frame past)

-- ---- all samples

map_same : (f g : ℕ → ℤ) (xs : List ℕ) → ((x : ℕ) → f x ≡ g x) → map f xs ≡ map g xs
map_same f g [] same = refl
map_same f g (x ∷ xs) same = let here = same x in let rest = map_same f g xs same in cc

pub samples_of-alike : (tape other : List World) → map sounding tape ≡ map sounding other → (spec : ContextSpec) → 0 < quantum_of spec → samples_of tape spec ≡ samples_of other spec
unfolding samples_of
samples_of-alike tape other same spec some =
    map_same (sample_in tape spec) (sample_in other spec) (range_with_len 0 (spec.channels * spec.length)) (λ place. sample_alike (quantum_of spec) some tape other same (place % spec.length) (place / spec.length))

zeros : (spec : ContextSpec) (a n : ℕ) → map (sample_in [] spec) (range_with_len a n) ≡ replicate n (pos 0)
zeros spec a zero = refl
zeros spec a (suc n) =
    let here : sample_in [] spec a ≡ pos 0 = sample_none (quantum_of spec) [] (a % spec.length) (a / spec.length) (omega arith) in
    let rest = zeros spec (a + 1) n in
    cc

-- nothing is rendered yet: zeros
pub samples_of-empty : (spec : ContextSpec) → samples_of [] spec ≡ replicate (spec.channels * spec.length) (pos 0)
unfolding samples_of
samples_of-empty spec = zeros spec 0 (spec.channels * spec.length)

-- ---- a quantum

place_written : (tape : List World) (w : World) (spec : ContextSpec) (old new : List ℤ) (first place : ℕ) → first ≡ quantum_of spec * length tape → old ≡ samples_of tape spec
    → WritesBelow old new spec (tape ++ w ∷ []) first (first + quantum_of spec) spec.channels → 1 ≤ spec.length → 0 < quantum_of spec → place < length old → length old ≡ spec.channels * spec.length
    → slice_index_or new place (pos 0) ≡ sample_in (tape ++ w ∷ []) spec place
unfolding samples_of
place_written tape w spec old new first place first_is old_is writes some size within room =
    let q = quantum_of spec in
    let frame = place % spec.length in
    let channel = place / spec.length in
    let turned : q * length tape ≡ length tape * q = mul_comm q (length tape) in
    let in_channels : channel < spec.channels = (row_below_turned place spec.length spec.channels spec.length (omega arith) (omega arith)).1 in
    let is_channel : nat_lt channel spec.channels ≡ true = grind (arith, nat_tests) in
    let before : slice_index_or old place (pos 0) ≡ sample_in tape spec place =
    ap (λ samples. slice_index_or samples place (pos 0)) old_is ∙ get_or-map-range_with_len (sample_in tape spec) 0 (spec.channels * spec.length) place place (pos 0) (omega arith) (omega arith) in
    elim (cases_lt frame first) [
      | inl early ↦
          let fails : nat_le first frame ≡ false = grind (arith, nat_tests) in
          let kept : frame / q < length tape = (div-lt_iff_lt-mul size).1 (omega (arith, early, first_is, turned)) in
          (rw (is_channel, fails) at (writes place within)) ∙ before ∙ sym (sample_kept q size tape w frame channel kept)
      | inr late ↦ elim (cases_lt frame (first + q)) [
        | inl here ↦
            let low : nat_le first frame ≡ true = grind (arith, nat_tests) in
            let high : nat_lt frame (first + q) ≡ true = grind (arith, nat_tests) in
            rw (is_channel, low, high) at (writes place within)
        | inr past ↦
            let low : nat_le first frame ≡ true = grind (arith, nat_tests) in
            let fails : nat_lt frame (first + q) ≡ false = grind (arith, nat_tests) in
            let long = length-append tape (w ∷ []) in
            let more : length tape + 1 ≤ frame / q = le-div (length tape + 1) frame q size (omega (arith, past, first_is, turned)) in
            let none : length tape ≤ frame / q = omega (arith, more) in
            let none_more : length (tape ++ w ∷ []) ≤ frame / q = omega (arith, long, more) in
            (rw (is_channel, low, fails) at (writes place within)) ∙ before ∙ sample_none q tape frame channel none ∙ sym (sample_none q (tape ++ w ∷ []) frame channel none_more)
      ]
    ]

-- with the quantum's frames written, the samples are those of the longer tape
pub quantum_written : (tape : List World) (w : World) (spec : ContextSpec) (old new : List ℤ) (first : ℕ) → first ≡ quantum_of spec * length tape → old ≡ samples_of tape spec
    → WritesBelow old new spec (tape ++ w ∷ []) first (first + quantum_of spec) spec.channels → 1 ≤ spec.length → 0 < quantum_of spec → length new ≡ length old → length old ≡ spec.channels * spec.length
    → new ≡ samples_of (tape ++ w ∷ []) spec
unfolding samples_of
quantum_written tape w spec old new first first_is old_is writes some size same room =
    fill_by_all (sample_in (tape ++ w ∷ []) spec) new (spec.channels * spec.length) (pos 0) (same ∙ room)
    (λ place within. place_written tape w spec old new first place first_is old_is writes some size (omega arith) room)
