-- One channel of sums becomes so many, as a mono input is mixed to them.
use Rattle.std.proofs.Common.{ℕ, suc, ℤ, pos, ◌≡◌, ◌+◌, ◌-◌, ◌*◌, ◌/◌, ◌<◌, ◌≤◌, length, List, ◌++◌, take, slice_index_or, Bool, true, false, inl, inr, refl, sym, ◌∙◌, ap, arith, subst}
use Rattle.std.specs.Prelude.{if◌then◌else◌, All}
use Rattle.std.proofs.lemmas.Bool.{cases_lt}
use Rattle.std.proofs.lemmas.List.{get_or-take, length-take-le}
use Rattle.std.proofs.lemmas.List.Elements.{All-from_get_or}
use Rattle.law_base.proofs.Rows.{row_in, rows_up, place_in, quantum_low, quantum_high}
use Rattle.lane_kern.specs.Blocks.{IsWithin}
use Rattle.wa_base.specs.declared.graph_names.Interp.{Interp}
use Rattle.mix_rules.specs.Blocks.{sample}
use Rattle.mix_rules.specs.Mixing.{mix}
use Rattle.channel_mix.proofs.Mono.{mono_none, mono_within}
use Rattle.channel_mix.specs.Sums.{moving_sums}
use Rattle.channel_mix.proofs.Made.{front_is}

-- the channels from this one on are done, and those before it are as they were
pub record IsSpread (interp : Interp) (q n channel : ℕ) (old new : List ℤ) : Type 0 where
  pub within : channel ≤ n
  pub length : length new ≡ length old
  pub kept : (k : ℕ) → k < channel * q → slice_index_or new k (pos 0) ≡ slice_index_or old k (pos 0)
  pub done : (c m : ℕ) → channel ≤ c → c < n → m < q → sample q new c m ≡ mix interp 1 n (λ i. sample q old 0 m) c

pub spread_more : (interp : Interp) (q n channel k : ℕ) (takes : Bool) (old now new : List ℤ) → suc k ≡ channel → IsSpread interp q n channel old now → length new ≡ length now
    → ((frame : ℕ → ℤ) → mix interp 1 n frame k ≡ (if takes then frame 0 else pos 0))
    → ((m : ℕ) → m < q → sample q new k m ≡ (if takes then sample q now 0 m else pos 0))
    → ((j : ℕ) → j < k * q → slice_index_or new j (pos 0) ≡ slice_index_or now j (pos 0))
    → ((j : ℕ) → k * q + q ≤ j → slice_index_or new j (pos 0) ≡ slice_index_or now j (pos 0)) → IsSpread interp q n k old new
spread_more interp q n channel k takes old now new next so_far long mixes own before after =
    let within = so_far.within in
    let up = rows_up q k channel (omega (arith, next)) in
    record {
      within = omega (arith, next, within);
      length = long ∙ so_far.length;
      kept = λ j low. before j low ∙ so_far.kept j (omega (arith, up, low));
      done = λ c m from low here. elim (cases_lt k c) [
        | inl later ↦
            let row = row_in q k c later in
            after (c * q + m) (omega (arith, row)) ∙ so_far.done c m (omega (arith, next, later)) low here
        | inr not_later ↦
            let same : c ≡ k = omega arith in
            let first : 0 * q + m < channel * q = place_in q 0 channel m (omega (arith, next)) here in
            subst (λ (j : ℕ). sample q new j m ≡ mix interp 1 n (λ i. sample q old 0 m) j) (sym same)
            (own m here ∙ ap (λ (x : ℤ). if takes then x else pos 0) (so_far.kept (0 * q + m) first) ∙ sym (mixes (λ i. sample q old 0 m)))
      ];
    }

-- no channel goes further than the first did
pub spread_within : (bound : ℕ) (interp : Interp) (q n : ℕ) (old new : List ℤ) → 0 < q → length new ≡ n * q → ((m : ℕ) → m < q → IsWithin bound (sample q old 0 m))
    → ((c m : ℕ) → c < n → m < q → sample q new c m ≡ mix interp 1 n (λ i. sample q old 0 m) c) → All (IsWithin bound) new
spread_within bound interp q n old new some long small each = All-from_get_or (IsWithin bound) new (pos 0) (λ i there.
    let low = quantum_low q i in
    let high = quantum_high q i some in
    let c : ℕ = i / q in
    let turned : q * c ≡ c * q = omega arith in
    let m : ℕ = i - c * q in
    let now : m < q = omega (arith, low, high, turned) in
    let in_range : c < n = elim (cases_lt c n) [
      | inl less ↦ less
      | inr most ↦ absurd (let up = rows_up q n c most in omega (arith, up, low, turned, there, long))
    ] in
    let place : c * q + m ≡ i = omega (arith, low, turned) in
    subst (λ (j : ℕ). IsWithin bound (slice_index_or new j (pos 0))) place
    (subst (IsWithin bound) (sym (each c m in_range now)) (mono_within bound interp n c (sample q old 0 m) (small m now))))

-- the first channel of a longer front of a list is that of a shorter one
pub first_same : (q a b m : ℕ) (items old : List ℤ) → old ≡ take b items → q ≤ a → q ≤ b → m < q → sample q old 0 m ≡ sample q (take a items) 0 m
first_same q a b m items old is short long now =
    let low : 0 * q + m < a = omega arith in
    let high : 0 * q + m < b = omega arith in
    ap (λ (xs : List ℤ). sample q xs 0 m) is ∙ get_or-take b items (0 * q + m) (pos 0) high ∙ sym (get_or-take a items (0 * q + m) (pos 0) low)

pub first_small : (bound q a b : ℕ) (items old : List ℤ) → old ≡ take b items → q ≤ a → q ≤ b → a ≤ length items → All (IsWithin bound) (take a items) → (m : ℕ) → m < q → IsWithin bound (sample q old 0 m)
first_small bound q a b items old is short long there small m now =
    let whole = length-take-le a items there in
    let low : 0 * q + m < length (take a items) = omega (arith, whole) in
    subst (IsWithin bound) (sym (first_same q a b m items old is short long now)) (small (0 * q + m) (pos 0) low)

-- sums that move, where there are any
module _ (interp : Interp) (q count n len : ℕ) (items old new mid rest : List ℤ) (one : count ≡ 1) (low : 1 ≤ n) (is : old ≡ take (n * q) items) (long : length new ≡ n * q) (fits : n * q ≤ len) where
  row : q ≤ count * q
  row = let up = rows_up q 1 count (omega arith) in omega (arith, up)

  rows : q ≤ n * q
  rows = let up = rows_up q 1 n low in omega (arith, up)

  pub widened_small : (bound : ℕ) (moves : Bool) → 0 < q → count * q ≤ length items → All (IsWithin bound) (moving_sums q moves count items)
      → (moves ≡ true → (c m : ℕ) → c < n → m < q → sample q new c m ≡ mix interp 1 n (λ i. sample q old 0 m) c) → All (IsWithin bound) (moving_sums q moves n (take len ((new ++ mid) ++ rest)))
  widened_small bound true some there small sums =
      subst (All (IsWithin bound)) (sym (front_is (n * q) len new mid rest long fits))
      (spread_within bound interp q n old new some long (first_small bound q (count * q) (n * q) items old is row rows there small) (sums refl))
  widened_small bound false some there small sums = λ i d l. absurd (omega arith)

  pub widened_at : (moves : Bool) (c m : ℕ) → c < n → m < q → (moves ≡ true → (c m : ℕ) → c < n → m < q → sample q new c m ≡ mix interp 1 n (λ i. sample q old 0 m) c)
      → sample q (moving_sums q moves n (take len ((new ++ mid) ++ rest))) c m ≡ mix interp 1 n (λ i. sample q (moving_sums q moves count items) 0 m) c
  widened_at true c m there now sums =
      ap (λ (xs : List ℤ). sample q xs c m) (front_is (n * q) len new mid rest long fits)
      ∙ sums refl c m there now
      ∙ ap (λ (x : ℤ). mix interp 1 n (λ i. x) c) (first_same q (count * q) (n * q) m items old is row rows now)
  widened_at false c m there now sums = sym (mono_none interp n c)
