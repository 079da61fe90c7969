-- Samples that are written one after another.
use Rattle.std.proofs.Common.{ℕ, ℤ, pos, ◌≡◌, ◌≢◌, ◌+◌, ◌-◌, ◌<◌, ◌≤◌, max, true, List, ◌++◌, length, take, drop, get_or, set, get_or-set_other, get_or-set_same, ap, refl, sym, subst, ◌∙◌, arith, inl, inr, Option, Some, None}
use Rattle.std.proofs.lemmas.Bool.Decides.{nat_tests}
use Rattle.std.proofs.lemmas.List.{get_or_append_left, get_or-append_right, get_or-take, get_or-drop, length-take-le, length-drop, drop-drop}
use borrow.Rule.Slice.PartMut.{put_mid}
use Rattle.sched_source.specs.Drawing.{IsDrawn, index_of, end_index}
use Rattle.sched_source.specs.Schedule.{is_between}
use Rattle.sched_source.proofs.Rounds.{order}

pub drawn_none : (old : List ℤ) (from to : ℕ) (value : ℕ → ℤ) → to ≤ from → IsDrawn old old from to value
drawn_none old from to value none = record {
  drawn = λ m low high. absurd (omega arith);
  before = λ m low. refl;
  after = λ m high. refl;
}

-- one more
pub drawn_more : (old now : List ℤ) (from m : ℕ) (value : ℕ → ℤ) (v : ℤ) → IsDrawn old now from m value → from ≤ m → m < length now → v ≡ value m → IsDrawn old (set now m v) from (m + 1) value
drawn_more old now from m value v h l inside e = record {
  drawn = λ k low high. elim (order m k) [
    | inl up ↦ let same : m ≡ k = omega arith in subst (λ j. get_or (set now m v) j (pos 0) ≡ value j) same (get_or-set_same now m v (pos 0) inside ∙ e)
    | inr below ↦ let other : k ≢ m = omega arith in get_or-set_other now m k v (pos 0) other ∙ h.drawn k low below
  ];
  before = λ k low. let other : k ≢ m = omega arith in get_or-set_other now m k v (pos 0) other ∙ h.before k low;
  after = λ k high. let other : k ≢ m = omega arith in get_or-set_other now m k v (pos 0) other ∙ h.after k (omega arith);
}

pub drawn_same : (old new : List ℤ) (from to : ℕ) (v w : ℕ → ℤ) → IsDrawn old new from to v → ((m : ℕ) → from ≤ m → m < to → v m ≡ w m) → IsDrawn old new from to w
drawn_same old new from to v w h e = record {
  drawn = λ m low high. h.drawn m low high ∙ e m low high;
  before = h.before;
  after = h.after;
}

pub drawn_joined : (a b c : List ℤ) (from middle to : ℕ) (v : ℕ → ℤ) → IsDrawn a b from middle v → IsDrawn b c middle to v → from ≤ middle → middle ≤ to → IsDrawn a c from to v
drawn_joined a b c from middle to v h k l u = record {
  drawn = λ m low high. elim (order middle m) [
    | inl up ↦ k.drawn m up high
    | inr below ↦ k.before m below ∙ h.drawn m low below
  ];
  before = λ m low. let below : m < middle = omega arith in k.before m below ∙ h.before m low;
  after = λ m high. let past : middle ≤ m = omega arith in k.after m high ∙ h.after m past;
}

-- samples that are copied to an index
pub drawn_copy : (old new samples : List ℤ) (from to : ℕ) (value : ℕ → ℤ) → new ≡ take from old ++ (samples ++ drop (from + length samples) old)
    → from + length samples ≡ to → to ≤ length old → ((k : ℕ) → k < length samples → get_or samples k (pos 0) ≡ value (from + k)) → IsDrawn old new from to value
drawn_copy old new samples from to value is ends fits e =
    let count = length samples in
    let rest = samples ++ drop (from + count) old in
    let front : length (take from old) ≡ from = length-take-le from old (omega arith) in
    subst (λ list. IsDrawn old list from to value) (sym is) (record {
      drawn = λ m low high.
          let here : from + (m - from) ≡ m = omega arith in
          let below : m - from < count = omega arith in
          get_or-append_right (take from old) rest from m (pos 0) front low
          ∙ get_or_append_left samples (drop (from + count) old) (pos 0) (m - from) below
          ∙ e (m - from) below ∙ ap value here;
      before = λ m low.
          let within : m < length (take from old) = omega (arith, front) in
          get_or_append_left (take from old) rest (pos 0) m within ∙ get_or-take from old m (pos 0) low;
      after = λ m high.
          let past : from ≤ m = omega arith in
          let further : count ≤ m - from = omega arith in
          let there : from + count + (m - from - count) ≡ m = omega arith in
          get_or-append_right (take from old) rest from m (pos 0) front past
          ∙ get_or-append_right samples (drop (from + count) old) count (m - from) (pos 0) refl further
          ∙ get_or-drop (from + count) old (m - from - count) (pos 0) ∙ ap (λ j. get_or old j (pos 0)) there;
    })

-- the samples of a part of a list
pub part_at : (list : List ℤ) (low count k : ℕ) → k < count → get_or (take count (drop low list)) k (pos 0) ≡ get_or list (low + k) (pos 0)
part_at list low count k within = get_or-take count (drop low list) k (pos 0) within ∙ get_or-drop low list k (pos 0)

-- a part of a channel that is read to an index
pub drawn_read : (old part channel : List ℤ) (from to count low : ℕ) (value : ℕ → ℤ) → part ≡ take (length (take count (drop from old))) (drop low channel)
    → from + count ≡ to → to ≤ length old → low + count ≤ length channel → ((k : ℕ) → k < count → get_or channel (low + k) (pos 0) ≡ value (from + k))
    → IsDrawn old (put_mid from count old part) from to value
drawn_read old part channel from to count low value is ends fits inside e =
    let rest : length (drop from old) ≡ length old - from = length-drop from old in
    let size : length (take count (drop from old)) ≡ count = length-take-le count (drop from old) (omega (arith, rest)) in
    let all : length (drop low channel) ≡ length channel - low = length-drop low channel in
    let same : part ≡ take count (drop low channel) = is ∙ ap (λ n. take n (drop low channel)) size in
    let long : length part ≡ count = ap length same ∙ length-take-le count (drop low channel) (omega (arith, all)) in
    drawn_copy old (put_mid from count old part) part from to value (ap (λ xs. take from old ++ (part ++ xs)) (drop-drop count from old ∙ ap (λ n. drop (from + n) old) (sym long))) (omega (arith, long)) fits
    (λ k l.
    let few : k < count = omega (arith, long) in
    ap (λ xs. get_or xs k (pos 0)) same ∙ part_at channel low count k few ∙ e k few)

-- ---- where a source sounds

heard : (start : ℕ) (end : Option ℕ) (first count from m : ℕ) → from ≡ index_of start first count → from ≤ m → m < max (end_index end first count) from → m < count
    → is_between (Some start) end (first + m) ≡ true
heard start None first count from m begin low high within = let begun : start ≤ first + m = omega arith in grind (arith, nat_tests)
heard start (Some end) first count from m begin low high within =
    let begun : start ≤ first + m = omega arith in
    let under : first + m < end = omega arith in
    grind (arith, nat_tests)

pub starts_by : (start : ℕ) (end : Option ℕ) (first count from to : ℕ) → from ≡ index_of start first count → to ≡ max (end_index end first count) from → to ≤ count → from < to
    → start ≤ first + from
starts_by start end first count from to begin ends within some = omega arith

pub sounds : (start : ℕ) (end : Option ℕ) (first count from to m : ℕ) → from ≡ index_of start first count → to ≡ max (end_index end first count) from → to ≤ count → from ≤ m → m < to
    → is_between (Some start) end (first + m) ≡ true
sounds start end first count from to m begin ends within low high =
    heard start end first count from m begin low (subst (λ k. m < k) ends high) (omega arith)

pub index_within : (end : Option ℕ) (first count : ℕ) → end_index end first count ≤ count
index_within None first count = omega arith
index_within (Some end) first count = omega arith
