-- The world of a supported context before its first call is valid.
use Rattle.std.proofs.Common.{ℕ, ◌≡◌, ◌*◌, ◌≤◌, Bool, true, false, ◌&&◌, ◌||◌, Some, inl, inr, refl, sym, ◌∙◌, ap, arith}
use Rattle.std.specs.Prelude.{nat_le, nat_eq}
use Rattle.std.proofs.lemmas.Bool.Decides.{nat_tests}
use Rattle.law_base.proofs.Tests.{and_parts, or_cases}
use Rattle.wa_base.specs.Contexts.{is_supported, IsSupported, IsQuantumSize, has_channels, has_length, has_rate, has_quantum}
use Rattle.wa_base.specs.declared.contexts.ContextSpec.{ContextSpec}
use Rattle.wa_base.specs.declared.graph_names.ParamName.{ParamName}
use Rattle.node_table.specs.Kinds.{param_name}
use Rattle.meaning.specs.Validity.{IsValid}
use Rattle.meaning.specs.World.{kind_of, is_source}
use Rattle.meaning.specs.Worlds.{first_world}

-- ---- the ranges of a context

-- one of some sizes, or one more size
one_more : (n a : ℕ) (others : Bool) → 32 ≤ a → a ≤ 1024 → (others ≡ true → IsQuantumSize n) → (others || nat_eq n a) ≡ true → IsQuantumSize n
one_more n a others low high before is = elim (or_cases others (nat_eq n a) is) [
  | inl other ↦ before other
  | inr same ↦ let at : n ≡ a = grind (arith, nat_tests) in record { low = omega arith; high = omega arith }
]

size_is : (n : ℕ) → (false || nat_eq n 32 || nat_eq n 64 || nat_eq n 128 || nat_eq n 256 || nat_eq n 512 || nat_eq n 1024) ≡ true → IsQuantumSize n
size_is n =
    one_more n 1024 (false || nat_eq n 32 || nat_eq n 64 || nat_eq n 128 || nat_eq n 256 || nat_eq n 512) (omega arith) (omega arith)
    (one_more n 512 (false || nat_eq n 32 || nat_eq n 64 || nat_eq n 128 || nat_eq n 256) (omega arith) (omega arith)
    (one_more n 256 (false || nat_eq n 32 || nat_eq n 64 || nat_eq n 128) (omega arith) (omega arith)
    (one_more n 128 (false || nat_eq n 32 || nat_eq n 64) (omega arith) (omega arith)
    (one_more n 64 (false || nat_eq n 32) (omega arith) (omega arith)
    (one_more n 32 false (omega arith) (omega arith) (λ none. absurd cc))))))

both_within : (a n b : ℕ) → (nat_le a n && nat_le n b) ≡ true → (a ≤ n) × (n ≤ b)
both_within a n b is =
    let both = and_parts (nat_le a n) (nat_le n b) is in
    (let t : nat_le a n ≡ true = both.0 in grind (arith, nat_tests), let t : nat_le n b ≡ true = both.1 in grind (arith, nat_tests))

pub is_in_ranges : (spec : ContextSpec) → is_supported spec ≡ true → IsSupported spec
unfolding is_supported
is_in_ranges spec is =
    let fourth = and_parts (has_channels spec && has_length spec && has_rate spec && nat_le (spec.channels * spec.length) 67108864) (has_quantum spec) is in
    let third = and_parts (has_channels spec && has_length spec && has_rate spec) (nat_le (spec.channels * spec.length) 67108864) fourth.0 in
    let second = and_parts (has_channels spec && has_length spec) (has_rate spec) third.0 in
    let first = and_parts (has_channels spec) (has_length spec) second.0 in
    let channels = both_within 1 spec.channels 32 first.0 in
    let frames = both_within 1 spec.length 33554432 first.1 in
    let rate = both_within 8000 spec.rate 96000 second.1 in
    record {
      channels_low = channels.0;
      channels_high = channels.1;
      length_low = frames.0;
      length_high = frames.1;
      rate_low = rate.0;
      rate_high = rate.1;
      samples_high = let t : nat_le (spec.channels * spec.length) 67108864 ≡ true = third.1 in grind (arith, nat_tests);
      quantum = size_is spec.quantum fourth.1;
    }

-- ---- the first world

pub first_valid : (spec : ContextSpec) → IsSupported spec → IsValid (first_world spec)
first_valid spec supported = record {
  spec = supported;
  nodes = record {
    some = omega arith;
    few = omega arith;
    kept = omega arith;
    first = record { kind = refl; count = refl; mode = refl };
    others = λ i low high. absurd (omega arith);
  };
  graph = record { nodes = omega arith; places = λ e is. absurd is; ordered = tt; once = tt; few = omega arith };
  ports = refl;
  params = record {
    each = λ i name below. let first : i ≡ 0 = omega arith in ((λ is. absurd is), (λ is. absurd (no_param i name first is)));
    there = λ id is. absurd is;
    order = λ k l. absurd (omega arith);
    lines = λ p is. absurd is;
    targets = λ e id is to. absurd is;
  };
  scheds = record {
    each = λ i. ((λ is. absurd is), (λ is. absurd (no_source i (omega (arith, is.0)) is.1)));
    order = λ k l. absurd (omega arith);
    kinds = λ p is. absurd is;
  };
  store = record { each = λ k d l. absurd (omega arith); limit = omega arith };
}
  where
    no_param : (i : ℕ) (name : ParamName) → i ≡ 0 → param_name (kind_of (first_world spec) i) ≡ Some name → ⊥
    no_param i name first is = let at : param_name (kind_of (first_world spec) 0) ≡ Some name = ap (λ k. param_name (kind_of (first_world spec) k)) (sym first) ∙ is in cc

    no_source : (i : ℕ) → i ≡ 0 → is_source (kind_of (first_world spec) i) ≡ true → ⊥
    no_source i first is = let at : is_source (kind_of (first_world spec) 0) ≡ true = ap (λ k. is_source (kind_of (first_world spec) k)) (sym first) ∙ is in cc
