-- What an output carries: which of its keys stand, and which is missing.
use Rattle.std.proofs.Common.{ℕ, zero, suc, ◌≡◌, ◌+◌, ◌-◌, ◌/◌, ◌<◌, ◌≤◌, min, length, List, map, take, ◌⊎◌, inl, inr, refl, sym, ap, subst, arith}
use Rattle.std.specs.List.{range_with_len}
use Rattle.wa_base.specs.declared.graph_names.End.{End}
use Rattle.law_base.specs.Members.{IsIn}
use Rattle.meaning.specs.declared.world.World.{World}
use Rattle.meaning.specs.Values.{world_at}
use Rattle.explain.specs.declared.facts.Key.{Key}
use Rattle.explain.specs.declared.facts.Key.TheVariants.{Count, Out}
use Rattle.explain.specs.declared.facts.Fact.{Fact}
use Rattle.explain.specs.Accounts.{Account, meant}
use Rattle.explain.specs.Facts.{HasOutput}
use Rattle.explain.specs.Needs.{carried}
use Rattle.explain.specs.Checked.{AllHold, Stands}
use Rattle.derivations.specs.Searches.{IsReady, AreKnown, IsMissing}
use Rattle.derivations.proofs.Knowing.{in_meaning}

-- ---- the first of a list that is made of numbers one after the other

-- a number of them
record IsOne {Y : Type 0} (f : ℕ → Y) (first end : ℕ) (y : Y) : Type 0 where
  number : ℕ
  low : first ≤ number
  high : number < end
  is : y ≡ f number

take_in : {Y : Type 0} (f : ℕ → Y) (m first n : ℕ) (y : Y) → IsIn y (take m (map f (range_with_len first n))) → IsOne f first (first + min m n) y
take_in f zero first n y h = absurd h
take_in f (suc m) first zero y h = absurd h
take_in f (suc m) first (suc n) y (inl same) = record { number = first; low = omega arith; high = omega arith; is = same }
take_in f (suc m) first (suc n) y (inr h) =
    let r = take_in f m (first + 1) n y h in
    record { number = r.number; low = let l = r.low in omega arith; high = let l = r.high in omega arith; is = r.is }

first_or : (v first : ℕ) → first ≤ v → (v ≡ first) ⊎ (first + 1 ≤ v)
first_or v first low = grind arith

in_take : {Y : Type 0} (f : ℕ → Y) (m first n v : ℕ) → first ≤ v → v < first + m → v < first + n → IsIn (f v) (take m (map f (range_with_len first n)))
in_take f zero first n v low high within = absurd (omega arith)
in_take f (suc m) first zero v low high within = absurd (omega arith)
in_take f (suc m) first (suc n) v low high within = elim (first_or v first low) [
  | inl same ↦ inl (ap f same)
  | inr later ↦ inr (in_take f m (first + 1) n v later (omega arith) (omega arith))
]

all_in : {Y : Type 0} (f : ℕ → Y) (first n : ℕ) (y : Y) → IsIn y (map f (range_with_len first n)) → IsOne f first (first + n) y
all_in f first zero y h = absurd h
all_in f first (suc n) y (inl same) = record { number = first; low = omega arith; high = omega arith; is = same }
all_in f first (suc n) y (inr h) =
    let r = all_in f (first + 1) n y h in
    record { number = r.number; low = let l = r.low in omega arith; high = let l = r.high in omega arith; is = r.is }

in_all : {Y : Type 0} (f : ℕ → Y) (first n v : ℕ) → first ≤ v → v < first + n → IsIn (f v) (map f (range_with_len first n))
in_all f first zero v low high = absurd (omega arith)
in_all f first (suc n) v low high = elim (first_or v first low) [
  | inl same ↦ inl (ap f same)
  | inr later ↦ inr (in_all f (first + 1) n v later (omega arith))
]

-- ---- what an output carries at frame f

module _ (q : ℕ) (tape : List World) (facts : List Fact) (ready : IsReady q tape facts) (f : ℕ) (e : End) (o : ℕ) where
  abbrev counted : Key
  counted = Count (f / q) e o

  abbrev channel : ℕ → Key
  channel c = Out f e o c

  abbrev pub CountIs : ℕ → Type 0
  CountIs count = (a : Account) → AllHold q tape a facts → a.counts (f / q) e ≡ count

  abbrev keys : Account → List Key
  keys a = carried q tape a f e o

  -- channels before the place of a search
  pub channels_before : (item count : ℕ) → AreKnown q tape facts (λ a. take item (keys a)) → CountIs count → (c : ℕ) → c < min (item - 1) count → Stands (channel c) facts
  channels_before zero count known is c low = absurd (omega arith)
  channels_before (suc m) count known is c low =
      let all = in_meaning q tape facts ready in
      let many : (meant q tape).counts (f / q) e ≡ count = is (meant q tape) all in
      known (meant q tape) all (channel c) (inr (in_take channel m 0 ((meant q tape).counts (f / q) e) c (omega arith) (omega arith) (omega (arith, many))))

  -- all of them stand
  pub carried_known : (count : ℕ) → Stands counted facts → CountIs count → ((c : ℕ) → c < count → Stands (channel c) facts) → AreKnown q tape facts keys
  carried_known count stands is each a all k (inl same) = subst (λ x. Stands x facts) (sym same) stands
  carried_known count stands is each a all k (inr h) =
      let r = all_in channel 0 (a.counts (f / q) e) k h in
      let many = is a all in
      subst (λ x. Stands x facts) (sym r.is) (each r.number (let l = r.high in omega (arith, l, many)))

  -- those before a channel
  pub before_channel : (count c item : ℕ) → item ≡ c + 1 → Stands counted facts → ((d : ℕ) → d < c → Stands (channel d) facts) → AreKnown q tape facts (λ a. take item (keys a))
  before_channel count c item place stands each a all k h = go (subst (λ n. IsIn k (take n (keys a))) (let s : item ≡ suc c = omega (arith, place) in s) h)
    where
      go : IsIn k (take (suc c) (keys a)) → Stands k facts
      go (inl same) = subst (λ x. Stands x facts) (sym same) stands
      go (inr h) =
          let r = take_in channel c 0 (a.counts (f / q) e) k h in
          subst (λ x. Stands x facts) (sym r.is) (each r.number (let l = r.high in omega (arith, l)))

  -- the number of channels is missing, or one of them
  pub count_missing : f / q < length tape → HasOutput (world_at q tape f) e o → (Stands counted facts → ⊥) → IsMissing q tape facts keys counted
  count_missing short has absent = record { needed = λ a all. inl refl; absent = absent; key = record { quantum = short; place = has } }

  pub channel_missing : f / q < length tape → HasOutput (world_at q tape f) e o → (count c : ℕ) → CountIs count → count ≤ 32 → c < count → (Stands (channel c) facts → ⊥) → IsMissing q tape facts keys (channel c)
  channel_missing short has count c is few low absent = record {
    needed = λ a all. let many = is a all in inr (in_all channel 0 (a.counts (f / q) e) c (omega arith) (omega (arith, many)));
    absent = absent;
    key = record { quantum = short; place = (has, omega arith) };
  }
