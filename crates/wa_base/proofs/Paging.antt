-- A list with pages over it, sample by sample.
use Rattle.std.proofs.Common.{ℕ, suc, length-append, Option, Some, None, Result, Ok, Err, true, false, ℤ, pos, List, [], ◌∷◌, ◌++◌, ◌≡◌, ◌≢◌, ◌⊎◌, inl, inr, ◌<◌, ◌≤◌, ◌+◌, ◌-◌, ◌*◌, ◌/◌, ◌%◌, length, take, drop, replicate, slice_index_or, set, get_or-set_same, get_or-set_other, length-set, refl, sym, subst, ap, ◌∙◌, arith}
use Rattle.std.proofs.lemmas.List.{ext_get_or, get_or-replicate, get_or_append_left, get_or-append_right, length-replicate, get_or-take, get_or-drop, length-take-le, length-drop}
use Rattle.std.proofs.lemmas.List.FromFn.{length-map-range_with_len, get_or-map-range_with_len}
use Rattle.std.specs.Prelude.{◌==◌, IfSome, OnOk, OnErr}
use borrow.Rule.Slice.PartMut.{put_mid, post_of}
use Rattle.std.proofs.lemmas.Bool.Decides.{leb_tells, nat_tests}
use Rattle.wa_base.specs.Paging.{over, value_at, laid_over, IsPage, ArePages, IsWrittenOver}

module _ (list : List ℤ) (pages : List (List ℤ)) where
  pub length-laid : (count : ℕ) → length (laid_over list pages count) ≡ count
  length-laid count = length-map-range_with_len (value_at list pages) 0 count

  pub at-laid : (count i : ℕ) → i < count → slice_index_or (laid_over list pages count) i (pos 0) ≡ value_at list pages i
  at-laid count i inside = get_or-map-range_with_len (value_at list pages) 0 count i i (pos 0) inside (omega arith)

  -- a list with these samples
  pub laid_is : (count : ℕ) (other : List ℤ) → length other ≡ count → ((i : ℕ) → i < count → value_at list pages i ≡ slice_index_or other i (pos 0)) → laid_over list pages count ≡ other
  laid_is count other long same =
      ext_get_or (pos 0) (laid_over list pages count) other (length-laid count ∙ sym long)
      (λ i inside. let within : i < count = omega (arith, length-laid count) in at-laid count i within ∙ same i within)

pub laid_none : (list : List ℤ) (count : ℕ) → length list ≡ count → laid_over list [] count ≡ list
laid_none list count long = laid_is list [] count list long (λ i inside. refl)

pub laid_silence : (count : ℕ) → laid_over [] [] count ≡ replicate count (pos 0)
laid_silence count = laid_is [] [] count (replicate count (pos 0)) (length-replicate count (pos 0)) (λ i inside. sym (get_or-replicate count i (pos 0) (pos 0) inside))

-- ---- pages

-- a page that was written stands for what is below it
pub over_written : (page : List ℤ) (place : ℕ) (below : ℤ) → length page ≡ 128 → over page place below ≡ slice_index_or page place (pos 0)
over_written [] place below long = absurd (omega (arith, long))
over_written (x ∷ xs) place below long = refl

equal_or_not : (m n : ℕ) → (m ≡ n) ⊎ (m ≢ n)
equal_or_not m n = grind (arith)

-- the place of a sample: its page, and the place in it
module _ (i : ℕ) where
  pub place_is : i / 128 * 128 + i % 128 ≡ i
  place_is = omega arith

  pub place_in : i % 128 < 128
  place_in = omega arith

module _ (list : List ℤ) (pages : List (List ℤ)) (place : ℕ) (page : List ℤ) (there : place < length pages) where
  -- a page that is put into its place
  pub page_there : (i : ℕ) → i / 128 ≡ place → value_at list (set pages place page) i ≡ over page (i % 128) (slice_index_or list i (pos 0))
  page_there i is =
      ap (λ p. over p (i % 128) (slice_index_or list i (pos 0)))
      (ap (λ n. slice_index_or (set pages place page) n []) is ∙ get_or-set_same pages place page [] there)

  pub page_elsewhere : (i : ℕ) → i / 128 ≢ place → value_at list (set pages place page) i ≡ value_at list pages i
  page_elsewhere i other = ap (λ p. over p (i % 128) (slice_index_or list i (pos 0))) (get_or-set_other pages place (i / 128) page [] other)

  pub pages_with : length page ≡ 128 → ArePages pages → ArePages (set pages place page)
  pages_with long are i = elim (equal_or_not i place) [
    | inl same ↦ subst IsPage (sym (ap (λ n. slice_index_or (set pages place page) n []) same ∙ get_or-set_same pages place page [] there)) (inr long)
    | inr other ↦ subst IsPage (sym (get_or-set_other pages place i page [] other)) (are i)
  ]

  -- a page that takes the place of an empty one with what is below it
  pub filled_in : slice_index_or pages place [] ≡ [] → length page ≡ 128 → ((k : ℕ) → k < 128 → slice_index_or page k (pos 0) ≡ slice_index_or list (place * 128 + k) (pos 0))
      → (i : ℕ) → value_at list (set pages place page) i ≡ value_at list pages i
  filled_in empty long same i = elim (equal_or_not (i / 128) place) [
    | inl is ↦
        page_there i is
        ∙ over_written page (i % 128) (slice_index_or list i (pos 0)) long
        ∙ same (i % 128) (place_in i)
        ∙ ap (λ n. slice_index_or list n (pos 0)) (ap (λ p. p * 128 + i % 128) (sym is) ∙ place_is i)
        ∙ sym (ap (λ p. over p (i % 128) (slice_index_or list i (pos 0))) (ap (λ n. slice_index_or pages n []) is ∙ empty))
    | inr other ↦ page_elsewhere i other
  ]

-- a list that is written over from a place on, sample by sample
module _ (old new samples : List ℤ) (start : ℕ) (is : new ≡ take start old ++ (samples ++ drop (start + length samples) old)) (inside : start + length samples ≤ length old) where
  front : length (take start old) ≡ start
  front = length-take-le start old (omega arith)

  pub spliced_inside : (k : ℕ) → k < length samples → slice_index_or new (start + k) (pos 0) ≡ slice_index_or samples k (pos 0)
  spliced_inside k few =
      let here : start + k - start ≡ k = omega arith in
      ap (λ l. slice_index_or l (start + k) (pos 0)) is
      ∙ get_or-append_right (take start old) (samples ++ drop (start + length samples) old) start (start + k) (pos 0) front (omega arith)
      ∙ ap (λ n. slice_index_or (samples ++ drop (start + length samples) old) n (pos 0)) here
      ∙ get_or_append_left samples (drop (start + length samples) old) (pos 0) k few

  pub spliced_before : (i : ℕ) → i < start → slice_index_or new i (pos 0) ≡ slice_index_or old i (pos 0)
  spliced_before i early =
      let within : i < length (take start old) = omega (arith, front) in
      ap (λ l. slice_index_or l i (pos 0)) is
      ∙ get_or_append_left (take start old) (samples ++ drop (start + length samples) old) (pos 0) i within
      ∙ get_or-take start old i (pos 0) early

  pub spliced_after : (i : ℕ) → start + length samples ≤ i → slice_index_or new i (pos 0) ≡ slice_index_or old i (pos 0)
  spliced_after i late =
      let past : start ≤ i = omega arith in
      let further : length samples ≤ i - start = omega arith in
      let there : start + length samples + (i - start - length samples) ≡ i = omega arith in
      ap (λ l. slice_index_or l i (pos 0)) is
      ∙ get_or-append_right (take start old) (samples ++ drop (start + length samples) old) start i (pos 0) front past
      ∙ get_or-append_right samples (drop (start + length samples) old) (length samples) (i - start) (pos 0) refl further
      ∙ get_or-drop (start + length samples) old (i - start - length samples) (pos 0)
      ∙ ap (λ n. slice_index_or old n (pos 0)) there

-- pages of which one is written over in part, with the samples from `done` to before `done + count` of those that are written from `start` on
module _ (list : List ℤ) (pages : List (List ℤ)) (samples page : List ℤ) (start done count : ℕ)
    (there : (start + done) / 128 < length pages)
    (long : length (slice_index_or pages ((start + done) / 128) []) ≡ 128)
    (room : (start + done) % 128 + count ≤ 128)
    (few : done + count ≤ length samples)
    (is : page ≡ take ((start + done) % 128) (slice_index_or pages ((start + done) / 128) [])
    ++ (take (done + count - done) (drop done samples) ++ drop ((start + done) % 128 + length (take (done + count - done) (drop done samples))) (slice_index_or pages ((start + done) / 128) []))) where
  abbrev pub at : ℕ
  at = start + done

  abbrev pub old : List ℤ
  old = slice_index_or pages (at / 128) []

  abbrev pub piece : List ℤ
  piece = take (done + count - done) (drop done samples)

  length-piece : length piece ≡ count
  length-piece =
      let rest = length-drop done samples in
      length-take-le (done + count - done) (drop done samples) (omega (arith, rest)) ∙ omega arith

  fits : at % 128 + length piece ≤ length old
  fits = omega (arith, length-piece, long, room)

  length-page : length page ≡ 128
  length-page =
      let front = length-take-le (at % 128) old (omega (arith, long)) in
      let back = length-drop (at % 128 + length piece) old in
      ap length is ∙ omega (arith, length-append (take (at % 128) old) (piece ++ drop (at % 128 + length piece) old), length-append piece (drop (at % 128 + length piece) old), front, back, fits, long)

  same_place : (i : ℕ) → i / 128 ≡ at / 128 → (i < at) ⊎ (at + count ≤ i) → slice_index_or page (i % 128) (pos 0) ≡ slice_index_or old (i % 128) (pos 0)
  same_place i here (inl early) = let low : i % 128 < at % 128 = omega arith in spliced_before old page piece (at % 128) is fits (i % 128) low
  same_place i here (inr late) =
      let high : at % 128 + length piece ≤ i % 128 = omega (arith, length-piece) in
      spliced_after old page piece (at % 128) is fits (i % 128) high

  outside : (i : ℕ) → (i < at) ⊎ (at + count ≤ i) → value_at list (set pages (at / 128) page) i ≡ value_at list pages i
  outside i apart = elim (equal_or_not (i / 128) (at / 128)) [
    | inl here ↦
        page_there list pages (at / 128) page there i here
        ∙ over_written page (i % 128) (slice_index_or list i (pos 0)) length-page
        ∙ same_place i here apart
        ∙ sym (over_written old (i % 128) (slice_index_or list i (pos 0)) long)
        ∙ ap (λ n. over (slice_index_or pages n []) (i % 128) (slice_index_or list i (pos 0))) (sym here)
    | inr other ↦ page_elsewhere list pages (at / 128) page there i other
  ]

  within : (j : ℕ) → j < count → value_at list (set pages (at / 128) page) (at + j) ≡ slice_index_or samples (done + j) (pos 0)
  within j low =
      let here : (at + j) / 128 ≡ at / 128 = omega arith in
      let place : (at + j) % 128 ≡ at % 128 + j = omega arith in
      let few_of : j < length piece = omega (arith, length-piece) in
      let short : j < done + count - done = omega arith in
      page_there list pages (at / 128) page there (at + j) here
      ∙ over_written page ((at + j) % 128) (slice_index_or list (at + j) (pos 0)) length-page
      ∙ ap (λ n. slice_index_or page n (pos 0)) place
      ∙ spliced_inside old page piece (at % 128) is fits j few_of
      ∙ get_or-take (done + count - done) (drop done samples) j (pos 0) short
      ∙ get_or-drop done samples j (pos 0)

  length-taken : (n : ℕ) → n ≤ done + count → length (take n samples) ≡ n
  length-taken n le = length-take-le n samples (omega arith)

  pub written_more : (before : List (List ℤ)) → IsWrittenOver list before pages start (take done samples) → IsWrittenOver list before (set pages (at / 128) page) start (take (done + count) samples)
  written_more before h = record {
    inside = λ k low.
        let all : k < done + count = omega (arith, length-taken (done + count) (omega arith)) in
        elim (leb_tells (suc k) done) [
          | inl early ↦
              let first : k < done = early.1 in
              outside (start + k) (inl (omega arith))
              ∙ h.inside k (omega (arith, length-taken done (omega arith)))
              ∙ get_or-take done samples k (pos 0) first
              ∙ sym (get_or-take (done + count) samples k (pos 0) all)
          | inr late ↦
              let from : done ≤ k = (let l = late.1 in omega arith) in
              let here : start + k ≡ at + (k - done) = omega arith in
              let same : done + (k - done) ≡ k = omega arith in
              ap (λ n. value_at list (set pages (at / 128) page) n) here
              ∙ within (k - done) (omega arith)
              ∙ ap (λ n. slice_index_or samples n (pos 0)) same
              ∙ sym (get_or-take (done + count) samples k (pos 0) all)
        ];
    before = λ i early. outside i (inl (omega arith)) ∙ h.before i early;
    after = λ i late.
        let past : at + count ≤ i = omega (arith, length-taken (done + count) (omega arith)) in
        outside i (inr past) ∙ h.after i (omega (arith, length-taken done (omega arith)));
  }

  pub same_length : length (set pages (at / 128) page) ≡ length pages
  same_length = length-set pages (at / 128) page

  pub pages_more : ArePages pages → ArePages (set pages (at / 128) page)
  pages_more = pages_with list pages (at / 128) page there length-page

  pub long_more : (i : ℕ) → length (slice_index_or pages i []) ≡ 128 → length (slice_index_or (set pages (at / 128) page) i []) ≡ 128
  long_more i long_before = elim (equal_or_not i (at / 128)) [
    | inl here ↦ ap length (ap (λ n. slice_index_or (set pages (at / 128) page) n []) here ∙ get_or-set_same pages (at / 128) page [] there) ∙ length-page
    | inr other ↦ ap length (get_or-set_other pages (at / 128) i page [] other) ∙ long_before
  ]

-- ---- all samples

-- what is written over the samples
pub laid_written : (list : List ℤ) (old new : List (List ℤ)) (count start : ℕ) (samples : List ℤ) → start + length samples ≤ count → IsWrittenOver list old new start samples
    → laid_over list new count ≡ take start (laid_over list old count) ++ (samples ++ drop (start + length samples) (laid_over list old count))
laid_written list old new count start samples inside h =
    let all : List ℤ = laid_over list old count in
    let size : length all ≡ count = length-laid list old count in
    let fits : start + length samples ≤ length all = omega (arith, size) in
    let long : length (take start all ++ (samples ++ drop (start + length samples) all)) ≡ count =
    omega (arith, length-append (take start all) (samples ++ drop (start + length samples) all), length-append samples (drop (start + length samples) all), length-take-le start all (omega arith), length-drop (start + length samples) all, size) in
    laid_is list new count (take start all ++ (samples ++ drop (start + length samples) all)) long
    (λ i low. elim (leb_tells (suc i) start) [
      | inl early ↦ let e : i < start = early.1 in h.before i e ∙ sym (spliced_before all _ samples start refl fits i e ∙ at-laid list old count i low)
      | inr late ↦ let from : start ≤ i = (let l = late.1 in omega arith) in elim (leb_tells (suc i) (start + length samples)) [
        | inl within ↦
            let k : i - start < length samples = (let w = within.1 in omega arith) in
            let here : start + (i - start) ≡ i = omega arith in
            ap (value_at list new) (sym here) ∙ h.inside (i - start) k ∙ sym (spliced_inside all _ samples start refl fits (i - start) k)
            ∙ ap (λ n. slice_index_or (take start all ++ (samples ++ drop (start + length samples) all)) n (pos 0)) here
        | inr past ↦ let e : start + length samples ≤ i = (let p = past.1 in omega arith) in h.after i e ∙ sym (spliced_after all _ samples start refl fits i e ∙ at-laid list old count i low)
      ]
    ])

pub laid_same : (list : List ℤ) (old new : List (List ℤ)) (count : ℕ) → ((i : ℕ) → value_at list new i ≡ value_at list old i) → laid_over list new count ≡ laid_over list old count
laid_same list old new count same = laid_is list new count (laid_over list old count) (length-laid list old count) (λ i low. same i ∙ sym (at-laid list old count i low))

-- samples that were read one after another
pub read_all : (out all : List ℤ) (at : ℕ) → at + length out ≤ length all → ((k : ℕ) → k < length out → slice_index_or out k (pos 0) ≡ slice_index_or all (at + k) (pos 0)) → out ≡ take (length out) (drop at all)
read_all out all at inside same =
    let rest = length-drop at all in
    let long = length-take-le (length out) (drop at all) (omega (arith, rest)) in
    ext_get_or (pos 0) out (take (length out) (drop at all)) (sym long)
    (λ k low. same k low ∙ sym (get_or-take (length out) (drop at all) k (pos 0) low ∙ get_or-drop at all k (pos 0)))

-- a sample of all
pub value_of : (list : List ℤ) (pages : List (List ℤ)) (count : ℕ) (all : List ℤ) → laid_over list pages count ≡ all → (i : ℕ) → i < length all → slice_index_or all i (pos 0) ≡ value_at list pages i
value_of list pages count all is i low =
    ap (λ l. slice_index_or l i (pos 0)) (sym is) ∙ at-laid list pages count i (omega (arith, ap length is, length-laid list pages count))

pub count_of : (list : List ℤ) (pages : List (List ℤ)) (count : ℕ) (all : List ℤ) → laid_over list pages count ≡ all → length all ≡ count
count_of list pages count all is = ap length (sym is) ∙ length-laid list pages count

-- a page that is not empty has all its samples
pub whole_page : (page : List ℤ) → IsPage page → false ≡ (length page == 0) → length page ≡ 128
whole_page page (inl none) some = let e : false ≡ true = some ∙ ap (λ l. length l == 0) none in absurd cc
whole_page page (inr long) some = long

no_page : (page : List ℤ) → true ≡ (length page == 0) → page ≡ []
no_page [] none = refl
no_page (x ∷ xs) none = grind (arith, nat_tests)

module _ (list : List ℤ) (pages : List (List ℤ)) (count : ℕ) (all : List ℤ) (is : laid_over list pages count ≡ all) (i : ℕ) (low : i < length all) (page : List ℤ) (here : page ≡ slice_index_or pages (i / 128) []) where
  pub from_page : length page ≡ 128 → slice_index_or page (i % 128) (pos 0) ≡ slice_index_or all i (pos 0)
  from_page long =
      sym (over_written page (i % 128) (slice_index_or list i (pos 0)) long)
      ∙ ap (λ p. over p (i % 128) (slice_index_or list i (pos 0))) here
      ∙ sym (value_of list pages count all is i low)

  pub from_below : true ≡ (length page == 0) → slice_index_or list i (pos 0) ≡ slice_index_or all i (pos 0)
  from_below none =
      ap (λ p. over p (i % 128) (slice_index_or list i (pos 0))) (sym (no_page page none) ∙ here)
      ∙ sym (value_of list pages count all is i low)

-- samples that are written over, where what was below and what was written before are given in other words
pub write_is : (list below : List ℤ) (pages old new : List (List ℤ)) (count start : ℕ) (samples all : List ℤ) → below ≡ list → ((i : ℕ) → value_at list old i ≡ value_at list pages i)
    → laid_over list pages count ≡ all → start + length samples ≤ length all → IsWrittenOver below old new start samples
    → laid_over list new count ≡ take start all ++ (samples ++ drop (start + length samples) all)
write_is list below pages old new count start samples all under same is inside h =
    laid_written list old new count start samples (omega (arith, count_of list pages count all is)) (subst (λ l. IsWrittenOver l old new start samples) under h)
    ∙ ap (λ l. take start l ++ (samples ++ drop (start + length samples) l)) (laid_same list pages old count same ∙ is)

-- parts that are read one after another
pub read_more : (out part all : List ℤ) (at done count k : ℕ) → length part ≡ count → done + count ≤ length out
    → ((j : ℕ) → j < done → slice_index_or out j (pos 0) ≡ slice_index_or all (at + j) (pos 0))
    → ((j : ℕ) → j < length part → slice_index_or part j (pos 0) ≡ slice_index_or all (at + done + j) (pos 0))
    → k < done + count → slice_index_or (put_mid done (done + count - done) out part) k (pos 0) ≡ slice_index_or all (at + k) (pos 0)
read_more out part all at done count k long room before here low =
    let front : length (take done out) ≡ done = length-take-le done out (omega arith) in
    elim (leb_tells (suc k) done) [
      | inl early ↦
          let e : k < done = early.1 in
          get_or_append_left (take done out) (part ++ post_of done (done + count - done) out) (pos 0) k (omega (arith, front))
          ∙ get_or-take done out k (pos 0) e ∙ before k e
      | inr late ↦
          let from : done ≤ k = (let l = late.1 in omega arith) in
          let few : k - done < length part = omega (arith, long) in
          let same : at + done + (k - done) ≡ at + k = omega arith in
          get_or-append_right (take done out) (part ++ post_of done (done + count - done) out) done k (pos 0) front from
          ∙ get_or_append_left part (post_of done (done + count - done) out) (pos 0) (k - done) few
          ∙ here (k - done) few ∙ ap (λ n. slice_index_or all n (pos 0)) same
    ]

pub some_long : (origin : Option (List ℤ)) (count n : ℕ) → n ≤ count → IfSome origin (λ samples. length samples ≡ count) → IfSome origin (λ samples. n ≤ length samples)
some_long None count n le is = is
some_long (Some samples) count n le is = omega (arith, is)

-- what may go wrong
pub on_ok : {T E : Type 0} {P Q : Type 0} (r : Result T E) → (P → Q) → OnOk r P → OnOk r Q
on_ok (Ok v) f h = f h
on_ok (Err e) f h = h

pub on_err : {T E : Type 0} {P Q : Type 0} (r : Result T E) → (P → Q) → OnErr r P → OnErr r Q
on_err (Ok v) f h = h
on_err (Err e) f h = f h

-- a part of a part
pub part_of_part : (all : List ℤ) (first frames at count : ℕ) → first + frames ≤ length all → at + count ≤ frames → take count (drop (first + at) all) ≡ take count (drop at (take frames (drop first all)))
part_of_part all first frames at count inside within =
    let rest = length-drop first all in
    let part : length (take frames (drop first all)) ≡ frames = length-take-le frames (drop first all) (omega (arith, rest)) in
    let tail = length-drop (first + at) all in
    let back = length-drop at (take frames (drop first all)) in
    let long : length (take count (drop (first + at) all)) ≡ count = length-take-le count (drop (first + at) all) (omega (arith, tail)) in
    let other : length (take count (drop at (take frames (drop first all)))) ≡ count = length-take-le count (drop at (take frames (drop first all))) (omega (arith, back, part)) in
    ext_get_or (pos 0) (take count (drop (first + at) all)) (take count (drop at (take frames (drop first all)))) (long ∙ sym other)
    (λ k low.
    let few : k < count = omega (arith, long) in
    let inner : at + k < frames = omega arith in
    let same : first + at + k ≡ first + (at + k) = omega arith in
    get_or-take count (drop (first + at) all) k (pos 0) few ∙ get_or-drop (first + at) all k (pos 0) ∙ ap (λ n. slice_index_or all n (pos 0)) same
    ∙ sym (get_or-take count (drop at (take frames (drop first all))) k (pos 0) few ∙ get_or-drop at (take frames (drop first all)) k (pos 0)
    ∙ get_or-take frames (drop first all) (at + k) (pos 0) inner ∙ get_or-drop first all (at + k) (pos 0)))
