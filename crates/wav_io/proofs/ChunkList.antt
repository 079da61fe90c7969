-- The list of chunks, one chunk after another.
use Rattle.std.proofs.Common.{◌≡◌, ℕ, ◌+◌, ◌<◌, ◌≤◌, zero, suc, inl, inr, Bool, true, false, cond, List, [], ◌∷◌, length, refl, sym, ap, ◌∙◌, arith}
use Rattle.std.specs.Prelude.{if◌then◌else◌, nat_le, nat_lt, Option, Some, None, Ok, Err}
use Rattle.std.specs.List.{find}
use Rattle.std.proofs.lemmas.Bool.Decides.{leb_tells, nat_tests}
use Rattle.wav_io.specs.declared.chunk_walk.Chunk.{Chunk}
use Rattle.wav_io.specs.declared.chunk_walk.Kind.{Kind}
use Rattle.wav_io.specs.declared.chunk_walk.Kind.TheVariants.{FormatChunk, DataChunk, Other}
use Rattle.wav_io.specs.declared.wav.WavErr.TheVariants.{DataFirst}
use Rattle.wav_io.specs.WavGrammar.{walk, chunks_from, chunk_at, next_place, body_end, is_cut, end_of, is_format_kind, is_data_kind, first_format, first_data, format_chunk_of}

pub place_of : (bytes : List ℕ) (place : ℕ) → (chunk_at bytes place).place ≡ place
unfolding chunk_at
place_of bytes place = refl

no_step : (n : ℕ) (bytes : List ℕ) (place : ℕ) → length bytes < place + 8 → walk n bytes place ≡ []
no_step zero bytes place short = refl
no_step (suc n) bytes place short =
    let no : nat_le (place + 8) (length bytes) ≡ false = grind (arith, nat_tests) in
    rw no refl

one_step : (n : ℕ) (bytes : List ℕ) (place : ℕ) → place + 8 ≤ length bytes
    → walk (suc n) bytes place ≡ chunk_at bytes place ∷ walk n bytes (next_place (chunk_at bytes place))
one_step n bytes place room =
    let yes : nat_le (place + 8) (length bytes) ≡ true = grind (arith, nat_tests) in
    rw yes refl

-- where there are as many steps as bytes left, more do not matter
enough : (n m : ℕ) (bytes : List ℕ) (place : ℕ) → length bytes ≤ place + n → length bytes ≤ place + m → walk n bytes place ≡ walk m bytes place
enough zero m bytes place few more = sym (no_step m bytes place (omega arith))
enough (suc n) zero bytes place few more = no_step (suc n) bytes place (omega arith)
enough (suc n) (suc m) bytes place few more =
    let here = place_of bytes place in
    elim (leb_tells (place + 8) (length bytes)) [
      | inl fits ↦
          one_step n bytes place fits.1
          ∙ ap (λ cs. chunk_at bytes place ∷ cs) (enough n m bytes (next_place (chunk_at bytes place)) (omega arith) (omega arith))
          ∙ sym (one_step m bytes place fits.1)
      | inr ends ↦ no_step (suc n) bytes place ends.1 ∙ sym (no_step (suc m) bytes place ends.1)
    ]

pub no_more : (bytes : List ℕ) (place : ℕ) → length bytes < place + 8 → chunks_from bytes place ≡ []
unfolding chunks_from
no_more bytes place short = no_step (length bytes) bytes place short

pub one_more : (bytes : List ℕ) (place : ℕ) → place + 8 ≤ length bytes
    → chunks_from bytes place ≡ chunk_at bytes place ∷ chunks_from bytes (next_place (chunk_at bytes place))
unfolding chunks_from
one_more bytes place room =
    let here = place_of bytes place in
    enough (length bytes) (suc (length bytes)) bytes place (omega arith) (omega arith)
    ∙ one_step (length bytes) bytes place room

pub list_of_chunks : (bytes : List ℕ) (place : ℕ) → chunks_from bytes place
    ≡ (if nat_le (place + 8) (length bytes) then chunk_at bytes place ∷ chunks_from bytes (next_place (chunk_at bytes place)) else [])
list_of_chunks bytes place =
    elim (leb_tells (place + 8) (length bytes)) [
      | inl fits ↦ one_more bytes place fits.1 ∙ sym (ap (λ b. if b then chunk_at bytes place ∷ chunks_from bytes (next_place (chunk_at bytes place)) else []) fits.0)
      | inr ends ↦ no_more bytes place ends.1 ∙ sym (ap (λ b. if b then chunk_at bytes place ∷ chunks_from bytes (next_place (chunk_at bytes place)) else []) ends.0)
    ]

-- a chunk that is found from a place on is not before it
place_or : ℕ → Option Chunk → ℕ
place_or n None = n
place_or n (Some chunk) = chunk.place

-- found in nothing is no chunk
nothing : {A : Type 0} (chunk : Chunk) → None ≡ Some chunk → A
unfolding place_or
nothing chunk found = absurd (omega (arith, ap (place_or 0) found, ap (place_or 1) found))

found_after : (test : Chunk → Bool) (n : ℕ) (bytes : List ℕ) (place : ℕ) (chunk : Chunk) → find test (walk n bytes place) ≡ Some chunk → place ≤ chunk.place
unfolding place_or
found_after test zero bytes place chunk found = nothing chunk found
found_after test (suc n) bytes place chunk found =
    elim (leb_tells (place + 8) (length bytes)) [
      | inl fits ↦
          by_test (test (chunk_at bytes place)) (found_after test n bytes (next_place (chunk_at bytes place)) chunk)
          (ap (find test) (sym (one_step n bytes place fits.1)) ∙ found)
      | inr ends ↦ nothing chunk (ap (find test) (sym (no_step (suc n) bytes place ends.1)) ∙ found)
    ] where
      by_test : (b : Bool) → (find test (walk n bytes (next_place (chunk_at bytes place))) ≡ Some chunk → next_place (chunk_at bytes place) ≤ chunk.place)
          → cond b (Some (chunk_at bytes place)) (find test (walk n bytes (next_place (chunk_at bytes place)))) ≡ Some chunk → place ≤ chunk.place
      by_test true after this = omega (arith, place_of bytes place, ap (place_or 0) this)
      by_test false after later = omega (arith, place_of bytes place, after later)

not_both : (kind : Kind) → is_format_kind kind ≡ true → is_data_kind kind ≡ false
not_both FormatChunk is = refl
not_both DataChunk is = sym is
not_both Other is = refl

not_format : (kind : Kind) → is_data_kind kind ≡ true → is_format_kind kind ≡ false
not_format FormatChunk is = sym is
not_format DataChunk is = refl
not_format Other is = refl

-- what was told of a chunk is so of the chunk that it equals
pub kind_here : (test : Kind → Bool) (chunk here : Chunk) (r b : Bool) → chunk ≡ here → r ≡ test chunk.kind → r ≡ b → test here.kind ≡ b
kind_here test chunk here r b there told is = ap (λ (x : Chunk). test x.kind) (sym there) ∙ sym told ∙ is

pub cut_here : (bytes : List ℕ) (chunk here : Chunk) (r b : Bool) → chunk ≡ here → r ≡ is_cut bytes chunk → r ≡ b → is_cut bytes here ≡ b
cut_here bytes chunk here r b there told is = ap (is_cut bytes) (sym there) ∙ sym told ∙ is

pub near_end : (bytes : List ℕ) (chunk : Chunk) → is_cut bytes chunk ≡ false → next_place chunk ≤ length bytes + 1
near_end bytes chunk whole =
    let within : body_end chunk ≤ length bytes = grind (arith, nat_tests) in
    omega arith

-- the chunk at a place, and the chunks after it
module _ (bytes : List ℕ) (place : ℕ) (room : place + 8 ≤ length bytes) where
  pub skipped_format : is_format_kind (chunk_at bytes place).kind ≡ false
      → first_format (chunks_from bytes place) ≡ first_format (chunks_from bytes (next_place (chunk_at bytes place)))
  skipped_format other = ap first_format (one_more bytes place room) ∙ rw other refl

  pub skipped_data : is_data_kind (chunk_at bytes place).kind ≡ false
      → first_data (chunks_from bytes place) ≡ first_data (chunks_from bytes (next_place (chunk_at bytes place)))
  skipped_data other = ap first_data (one_more bytes place room) ∙ rw other refl

  pub same_end : is_cut bytes (chunk_at bytes place) ≡ false
      → end_of bytes place (chunks_from bytes place)
      ≡ end_of bytes (next_place (chunk_at bytes place)) (chunks_from bytes (next_place (chunk_at bytes place)))
  same_end whole = ap (end_of bytes place) (one_more bytes place room) ∙ rw whole refl

  pub here_format : is_format_kind (chunk_at bytes place).kind ≡ true → first_format (chunks_from bytes place) ≡ Some (chunk_at bytes place)
  here_format is = ap first_format (one_more bytes place room) ∙ rw is refl

  pub here_data : is_data_kind (chunk_at bytes place).kind ≡ true → first_data (chunks_from bytes place) ≡ Some (chunk_at bytes place)
  here_data is = ap first_data (one_more bytes place room) ∙ rw is refl

  -- after a chunk that is cut there is none
  none_after : is_cut bytes (chunk_at bytes place) ≡ true → chunks_from bytes (next_place (chunk_at bytes place)) ≡ []
  none_after cut =
      let past : length bytes < body_end (chunk_at bytes place) = grind (arith, nat_tests) in
      no_more bytes (next_place (chunk_at bytes place)) (omega arith)

  pub cut_format : is_format_kind (chunk_at bytes place).kind ≡ false → is_cut bytes (chunk_at bytes place) ≡ true
      → first_format (chunks_from bytes place) ≡ None
  cut_format other cut = skipped_format other ∙ ap first_format (none_after cut)

  pub cut_data : is_data_kind (chunk_at bytes place).kind ≡ false → is_cut bytes (chunk_at bytes place) ≡ true
      → first_data (chunks_from bytes place) ≡ None
  cut_data other cut = skipped_data other ∙ ap first_data (none_after cut)

  pub cut_end : is_cut bytes (chunk_at bytes place) ≡ true → end_of bytes place (chunks_from bytes place) ≡ place
  cut_end cut = ap (end_of bytes place) (one_more bytes place room) ∙ rw cut (place_of bytes place)

  pub here_only_format : is_format_kind (chunk_at bytes place).kind ≡ true
      → first_data (chunks_from bytes place) ≡ first_data (chunks_from bytes (next_place (chunk_at bytes place)))
  here_only_format is = skipped_data (not_both _ is)

  -- no data comes before a format that is here, and no format before data
  pub format_found : (end : ℕ) → is_format_kind (chunk_at bytes place).kind ≡ true
      → format_chunk_of (first_format (chunks_from bytes place)) (first_data (chunks_from bytes place)) end ≡ Ok (chunk_at bytes place)
  unfolding chunks_from
  format_found end is =
      ap (λ f. format_chunk_of f (first_data (chunks_from bytes place)) end) (here_format is)
      ∙ by_data (first_data (chunks_from bytes place)) (sym (here_only_format is)) where
        by_data : (data_chunk : Option Chunk) → first_data (chunks_from bytes (next_place (chunk_at bytes place))) ≡ data_chunk
            → format_chunk_of (Some (chunk_at bytes place)) data_chunk end ≡ Ok (chunk_at bytes place)
        by_data None found = refl
        by_data (Some chunk) found =
            let later = found_after (λ chunk. is_data_kind chunk.kind) (length bytes) bytes (next_place (chunk_at bytes place)) chunk found in
            let no : nat_lt chunk.place (chunk_at bytes place).place ≡ false = grind (arith, nat_tests) in
            rw no refl

  pub data_found : (end : ℕ) → is_data_kind (chunk_at bytes place).kind ≡ true
      → format_chunk_of (first_format (chunks_from bytes place)) (first_data (chunks_from bytes place)) end ≡ Err (DataFirst place)
  unfolding chunks_from
  data_found end is =
      ap (λ d. format_chunk_of (first_format (chunks_from bytes place)) d end) (here_data is)
      ∙ by_format (first_format (chunks_from bytes place)) (sym (skipped_format (not_format _ is)))
      ∙ ap (λ p. Err (DataFirst p)) (place_of bytes place) where
        by_format : (format_chunk : Option Chunk) → first_format (chunks_from bytes (next_place (chunk_at bytes place))) ≡ format_chunk
            → format_chunk_of format_chunk (Some (chunk_at bytes place)) end ≡ Err (DataFirst (chunk_at bytes place).place)
        by_format None found = refl
        by_format (Some chunk) found =
            let later = found_after (λ chunk. is_format_kind chunk.kind) (length bytes) bytes (next_place (chunk_at bytes place)) chunk found in
            let before : nat_lt (chunk_at bytes place).place chunk.place ≡ true = grind (arith, nat_tests) in
            rw before refl
