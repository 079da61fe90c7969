-- What the reader of a delay asks for.
use Rattle.std.proofs.Common.{ℕ, zero, suc, ℤ, pos, negsuc, ◌≡◌, ◌<◌, ◌≤◌, ◌≤ℤ◌, ◌+◌, ◌-◌, ◌*◌, ◌/◌, ◌==◌, ◌⊎◌, inl, inr, length, List, Bool, true, false, cond, refl, sym, ◌∙◌, ap, arith, subst}
use Rattle.std.specs.Prelude.{if◌then◌else◌, nat_lt, max, min, unsigned_abs, ◌&&◌}
use Rattle.std.specs.Int.{int_max}
use Rattle.std.proofs.lemmas.Bool.Decides.{nat_tests}
use Rattle.std.proofs.lemmas.Int.{ints}
use Rattle.wa_base.specs.Numbers.{rnd}
use Rattle.wa_base.specs.declared.graph_names.ParamName.TheVariants as param
use Rattle.law_base.specs.Members.{IsIn}
use Rattle.mix_rules.specs.Counts.{greatest}
use Rattle.param_events.proofs.Rounding.{rnd_order}
use Rattle.node_table.specs.Delays.{frames_of, delay_capacity}
use Rattle.node_table.specs.Kinds.{row, is_delay_kind, capacity_of}
use Rattle.node_table.specs.declared.kinds.Kind.{Kind}
use Rattle.node_table.specs.declared.kinds.Kind.TheVariants.{Delay}
use Rattle.node_table.proofs.Lasting.{IsDelay, the_delay}
use Rattle.conn_graph.specs.Ends.{writer_of, reader_of, ends, in_cycle, muted}
use Rattle.conn_graph.proofs.EndLaws.{delay_below, has_end}
use Rattle.meaning.specs.declared.world.World.{World}
use Rattle.meaning.specs.Lists.{since}
use Rattle.meaning.specs.World.{node_at, kind_of, param_id, up_to, nominal}
use Rattle.meaning.specs.Validity.{IsJoined}
use Rattle.meaning.specs.Counts.{world_in, seen_counts, reader_channels, output_channels, count_by_kind, count_rule, count, counts_before}
use Rattle.meaning.specs.Values.{Frame, computed_value, delay_frames, world_at, frame, frames_before}
use Rattle.meaning.specs.Worlds.{HasCapacity, IsRegular}
use Rattle.meaning.specs.Laws.{IsAsked}
use Rattle.meaning.proofs.CountLaws.{count_gives}
use Rattle.meaning.proofs.Joined.{joined_in}
use Rattle.meaning.proofs.Successors.{div-le-div}
use Rattle.meaning.proofs.TapeLaws.{quantum_below}

-- ---- how far back it asks

frames_from_0 : (x : ℤ) → pos 0 ≤ℤ x → unsigned_abs (int_max x (pos 0)) ≡ unsigned_abs x
frames_from_0 (pos n) low = by_test (nat_lt 0 n) refl
  where
    by_test : (b : Bool) → nat_lt 0 n ≡ b → unsigned_abs (cond b (pos n) (pos 0)) ≡ n
    by_test true is = refl
    by_test false is = grind (arith, nat_tests)
frames_from_0 (negsuc n) low = absurd (omega (arith, ints))

size_order : (x y : ℤ) → pos 0 ≤ℤ x → x ≤ℤ y → unsigned_abs (int_max x (pos 0)) ≤ unsigned_abs (int_max y (pos 0))
size_order (pos m) (pos n) low l = let a = frames_from_0 (pos m) low in let b = frames_from_0 (pos n) (omega (arith, ints)) in omega (arith, ints, a, b)
size_order (pos m) (negsuc n) low l = absurd (omega (arith, ints))
size_order (negsuc m) y low l = absurd (omega (arith, ints))

-- a longer time has no fewer frames
frames_order : (a b rate : ℕ) → a ≤ b → frames_of (pos a) rate ≤ frames_of (pos b) rate
frames_order a b rate l =
    let low : pos 0 ≤ℤ rnd (pos (a * rate)) (pos 16777216) = rnd_order (pos 0) (pos (a * rate)) 16777216 (omega arith) (omega (arith, ints)) in
    let high : rnd (pos (a * rate)) (pos 16777216) ≤ℤ rnd (pos (b * rate)) (pos 16777216) = rnd_order (pos (a * rate)) (pos (b * rate)) 16777216 (omega arith) (let more : a * rate ≤ b * rate = grind (arith, l) in omega (arith, ints)) in
    size_order _ _ low high

-- a value in the nominal range has no more frames than the longest delay
frames_within : (longest x : ℤ) (rate : ℕ) → frames_of (up_to longest x) rate ≤ frames_of longest rate
frames_within (pos most) (pos x) rate = frames_order (min x most) most rate (omega arith)
frames_within (pos most) (negsuc x) rate = frames_order 0 most rate (omega arith)
frames_within (negsuc most) x rate =
    let none : frames_of (pos 0) rate ≡ 0 = ap (λ k. unsigned_abs (int_max (rnd (pos k) (pos 16777216)) (pos 0))) (let zero_times : 0 * rate ≡ 0 = omega arith in zero_times) in
    omega (arith, none)

nominal_within : (kind : Kind) (longest time x : ℤ) (capacity rate : ℕ) → kind ≡ Delay longest time capacity → frames_of (nominal kind x) rate ≤ frames_of longest rate
nominal_within kind longest time x capacity rate is = subst (λ k. frames_of (nominal k x) rate ≤ frames_of longest rate) (sym is) (frames_within longest x rate)

computed_within : (q f : ℕ) (past : ℕ → Frame) (here : Frame) (n rate : ℕ) (longest time : ℤ) (capacity : ℕ) → kind_of here.world n ≡ Delay longest time capacity
    → frames_of (computed_value q f past here (param_id n param.DelayTime)) rate ≤ frames_of longest rate
unfolding computed_value
computed_within q f past here n rate longest time capacity is = nominal_within (kind_of here.world n) longest time _ capacity rate is

-- A delay is never longer than what it keeps, and in a cycle never shorter than a quantum.
pub delay_within : (q f : ℕ) (past : ℕ → Frame) (here : Frame) (n : ℕ) (longest time : ℤ) (capacity : ℕ) → kind_of here.world n ≡ Delay longest time capacity
    → capacity ≡ delay_capacity q longest here.world.spec.rate → delay_frames q f past here n ≤ capacity
delay_within q f past here n longest time capacity is room = by_cycle (in_cycle here.world.graph.value n)
  where
    frames : ℕ
    frames = frames_of (computed_value q f past here (param_id n param.DelayTime)) here.world.spec.rate

    few : frames ≤ frames_of longest here.world.spec.rate
    few = computed_within q f past here n here.world.spec.rate longest time capacity is

    by_cycle : (b : Bool) → (if b then max q frames else frames) ≤ capacity
    by_cycle true = let l : frames ≤ frames_of longest here.world.spec.rate = few in omega (arith, room)
    by_cycle false = let l : frames ≤ frames_of longest here.world.spec.rate = few in omega (arith, room)

pub delay_long : (q f : ℕ) (past : ℕ → Frame) (here : Frame) (n : ℕ) → in_cycle here.world.graph.value n ≡ true → q ≤ delay_frames q f past here n
delay_long q f past here n is = by_cycle (in_cycle here.world.graph.value n) is
  where
    frames : ℕ
    frames = frames_of (computed_value q f past here (param_id n param.DelayTime)) here.world.spec.rate

    by_cycle : (b : Bool) → b ≡ true → q ≤ (if b then max q frames else frames)
    by_cycle true cycle = omega arith
    by_cycle false cycle = absurd cc

-- ---- with how many channels that was written

greatest_at : (at : ℕ → ℕ) (first n k : ℕ) → first ≤ k → k < first + n → at k ≤ greatest (since at first n)
greatest_at at first zero k low high = absurd (omega arith)
greatest_at at first (suc n) k low high = elim (last_or_not k n low high) [
  | inl here ↦ let most : at k ≡ at (first + n) = ap at here in omega arith
  | inr before ↦ let rest = greatest_at at first n k low before in omega arith
]
  where
    last_or_not : (k n : ℕ) → first ≤ k → k < first + suc n → (k ≡ first + n) ⊎ (k < first + n)
    last_or_not k n low high = grind arith

module _ (q : ℕ) (some : 0 < q) (tape : List World) (f : ℕ) (joined : IsJoined (world_at q tape f)) where
  abbrev j : ℕ
  j = f / q

  abbrev w : World
  w = world_in tape j

  abbrev at : ℕ → ℕ → ℕ
  at n k = seen_counts j (counts_before q tape j) (count q tape j) k (writer_of n)

  at_is : (n k : ℕ) → k ≤ j → at n k ≡ count q tape k (writer_of n)
  at_is n k l = by_test (k == j) refl
    where
      by_test : (b : Bool) → (k == j) ≡ b → (if b then count q tape j else counts_before q tape j k) (writer_of n) ≡ count q tape k (writer_of n)
      by_test true here = let same : k ≡ j = grind (arith, nat_tests) in ap (λ (i : ℕ). count q tape i (writer_of n)) (sym same)
      by_test false other = let before : nat_lt k j ≡ true = grind (arith, nat_tests) in ap (λ b. (if b then count q tape k else λ e. 1) (writer_of n)) before

  -- the reader has as many channels as its writer had in each quantum that counts
  reader_count : (n : ℕ) → is_delay_kind (kind_of w n) ≡ true → muted w.graph.value (reader_of n) ≡ false → count q tape j (reader_of n) ≡ reader_channels q w j (counts_before q tape j) (count q tape j) n
  unfolding count_rule
  reader_count n delay heard =
      let there : IsIn (reader_of n) (ends w.graph.value) = has_end w.graph.value n (delay_below w.graph.value n (joined.delays n ∙ delay)) in
      sym (count_gives q tape j joined (counts_before q tape j) (λ i k is low high. refl) (count q tape j) (reader_of n) there (λ e in_e a. refl))
      ∙ ap (λ b. if b then 1 else count_by_kind q w j (counts_before q tape j) (count q tape j) (kind_of w n) (reader_of n)) heard
      ∙ ap (λ b. if b && true then reader_channels q w j (counts_before q tape j) (count q tape j) n else output_channels q w j (count q tape j) (row (kind_of w n)).channels n) delay

  pub asked_count : (n d : ℕ) → is_delay_kind (kind_of w n) ≡ true → muted w.graph.value (reader_of n) ≡ false → (in_cycle w.graph.value n ≡ true → q ≤ d) → (node_at w n).attrs.birth + d ≤ f
      → count q tape ((f - d) / q) (writer_of n) ≤ count q tape j (reader_of n)
  asked_count n d delay heard long born = subst (λ most. count q tape k (writer_of n) ≤ most) (sym (reader_count n delay heard)) (by_cycle (in_cycle w.graph.value n) refl)
    where
      k : ℕ
      k = (f - d) / q

      birth : ℕ
      birth = (node_at w n).attrs.birth / q

      low : birth ≤ k
      low = div-le-div (node_at w n).attrs.birth (f - d) q some (omega arith)

      high : k ≤ j
      high = div-le-div (f - d) f q some (omega arith)

      before : q ≤ d → k < j
      before l = let top : f < q * (f / q) + q = omega arith in quantum_below q (f - d) j some (omega arith)

      by_cycle : (b : Bool) → in_cycle w.graph.value n ≡ b → count q tape k (writer_of n) ≤ greatest (since (at n) birth ((if b then j else j + 1) - birth))
      by_cycle true cycle = subst (λ c. c ≤ greatest (since (at n) birth (j - birth))) (at_is n k high) (greatest_at (at n) birth (j - birth) k low (let l = before (long cycle) in let born_by : birth ≤ k = low in omega arith))
      by_cycle false none = subst (λ c. c ≤ greatest (since (at n) birth (j + 1 - birth))) (at_is n k high) (greatest_at (at n) birth (j + 1 - birth) k low (let last : k ≤ j = high in let born_by : birth ≤ k = low in omega arith))

-- What is asked for is kept, and was written with no more channels than the reader has.
pub reached : (q : ℕ) → 0 < q → (tape : List World) → IsRegular q tape → (f n : ℕ) → f / q < length tape → is_delay_kind (kind_of (world_at q tape f) n) ≡ true → IsAsked q tape f n
reached q some tape regular f n there delay = record {
  kept = let top : f < q * (f / q) + q = omega arith in let few : d ≤ capacity_of (kind_of (world_at q tape f) n) = within in omega (arith, few);
  earlier = λ cycle born. let l = long cycle in let top : f < q * (f / q) + q = omega arith in omega arith;
  channels = λ heard born. asked_count q some tape f (joined_in tape regular.valid (f / q)) n d delay heard long born;
}
  where
    is : IsDelay (kind_of (world_at q tape f) n)
    is = the_delay (kind_of (world_at q tape f) n) delay

    d : ℕ
    d = delay_frames q f (frames_before q tape f) (frame q tape f) n

    long : in_cycle (world_at q tape f).graph.value n ≡ true → q ≤ d
    long = delay_long q f (frames_before q tape f) (frame q tape f) n

    within : d ≤ capacity_of (kind_of (world_at q tape f) n)
    within =
        let room : is.capacity ≡ delay_capacity q is.longest (world_at q tape f).spec.rate = subst (HasCapacity q (world_at q tape f).spec) is.is (regular.capacity (f / q) n there) in
        let few : d ≤ is.capacity = delay_within q f (frames_before q tape f) (frame q tape f) n is.longest is.time is.capacity is.is room in
        subst (λ k. d ≤ capacity_of k) (sym is.is) few
