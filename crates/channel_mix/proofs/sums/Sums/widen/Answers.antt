use Rattle.std.proofs.Common.{pos, ◌≡◌, ◌<◌, ◌+◌, ◌-◌, ◌*◌, ◌^◌, ◌+ℤ◌, ℕ, ℤ, List, length, take, slice_index_or, sym, ◌∙◌, ap, ap₂, arith, subst, length-append}
use Rattle.std.specs.Prelude.{All}
use Rattle.std.proofs.lemmas.List.{length-take, length-drop, length-take-le}
use Rattle.law_base.proofs.Rows.{rows_up}
use Rattle.lane_kern.specs.Blocks.{IsWithin}
use Rattle.mix_rules.specs.Blocks.{sample}
use Rattle.mix_rules.specs.Mixing.{mix}
use Rattle.channel_mix.proofs.Mono.{mono_sum}
use Rattle.channel_mix.specs.Sums.{SumsView, sum_at, moving_sums}
use Rattle.channel_mix.proofs.Made.{front_is, front_at}
use Rattle.channel_mix.proofs.Spreading.{spread_within, first_same, first_small, widened_small, widened_at}
use Rattle.channel_mix.proofs.sums.Sums.widen.Goals as goal

pub invariant_of-self : goal.invariant_of-self
invariant_of-self c =
    let q : ℕ = c.self.inside.frames in
    let n : ℕ = c.args.count in
    let bound : ℕ = c.self.inside.added * 2 ^ 34 in
    let one : c.self.inside.count ≡ 1 = ap (λ (s : SumsView). s.count) c.self.view_is ∙ c.requires.mono in
    let low = c.requires.low in
    let high = c.requires.high in
    let held_whole = c.self.invariant.held_length in
    let moving_whole = c.self.invariant.moving_length in
    let most = rows_up q n 32 high in
    let first = rows_up q c.self.inside.count 32 c.self.invariant.high in
    let begun : 0 < q = let size = c.self.invariant.size.low in omega (arith, size) in
    let held_old : List ℤ = take (n - 0) c.deref_mut.result.now in
    let held_is : held_old ≡ take n c.self.inside.held.items = ap (λ (xs : List ℤ). take (n - 0) xs) c.deref_mut.ensures.value ∙ ap (λ k. take k c.self.inside.held.items) (let e : n - 0 ≡ n = omega arith in e) in
    let held_long : length c.widen.new.sums ≡ n = c.widen.ensures.length ∙ ap length held_is ∙ length-take-le n c.self.inside.held.items (omega (arith, high, held_whole)) in
    let moving_old : List ℤ = take (n * q - 0) c.deref_mut-2.result.now in
    let moving_is : moving_old ≡ take (n * q) c.self.inside.moving.items = ap (λ (xs : List ℤ). take (n * q - 0) xs) c.deref_mut-2.ensures.value ∙ ap (λ k. take k c.self.inside.moving.items) (let e : n * q - 0 ≡ n * q = omega arith in e) in
    let moving_long : length c.widen_if.new.sums ≡ n * q = c.widen_if.ensures.length ∙ ap length moving_is ∙ length-take-le (n * q) c.self.inside.moving.items (omega (arith, most, moving_whole)) in
    record {
      size = c.self.invariant.size;
      low = c.requires.low;
      high = c.requires.high;
      few = c.self.invariant.few;
      held_length = omega (arith, length-take {A = ℤ}, length-append {A = ℤ}, length-drop {A = ℤ});
      moving_length = omega (arith, length-take {A = ℤ}, length-append {A = ℤ}, length-drop {A = ℤ});
      held_small =
          subst (All (IsWithin bound)) (sym (front_is n c.self.inside.held.len c.widen.new.sums _ _ held_long (omega arith)))
          (spread_within bound c.args.interp 1 n held_old c.widen.new.sums (omega arith) (held_long ∙ (let e : n ≡ n * 1 = omega arith in e))
          (first_small bound 1 c.self.inside.count n c.self.inside.held.items held_old held_is (omega (arith, one)) low (omega (arith, one, held_whole)) c.self.invariant.held_small) c.widen.ensures.sums);
      moving_small =
          widened_small c.args.interp q c.self.inside.count n c.self.inside.moving.len c.self.inside.moving.items moving_old c.widen_if.new.sums _ _ one low moving_is moving_long (omega (arith, most, moving_whole))
          bound c.self.inside.moves begun (omega (arith, first, moving_whole)) c.self.invariant.moving_small c.widen_if.ensures.sums;
    }

pub returns-clause-sums : goal.returns-clause-sums
returns-clause-sums c channel m there now =
    let q : ℕ = c.self.inside.frames in
    let n : ℕ = c.args.count in
    let one : c.self.inside.count ≡ 1 = ap (λ (s : SumsView). s.count) c.self.view_is ∙ c.requires.mono in
    let low = c.requires.low in
    let high = c.requires.high in
    let held_whole = c.self.invariant.held_length in
    let moving_whole = c.self.invariant.moving_length in
    let most = rows_up q n 32 high in
    let now' : m < q = subst (λ (s : SumsView). m < s.frames) (sym c.self.view_is) now in
    let held_old : List ℤ = take (n - 0) c.deref_mut.result.now in
    let held_is : held_old ≡ take n c.self.inside.held.items = ap (λ (xs : List ℤ). take (n - 0) xs) c.deref_mut.ensures.value ∙ ap (λ k. take k c.self.inside.held.items) (let e : n - 0 ≡ n = omega arith in e) in
    let held_long : length c.widen.new.sums ≡ n = c.widen.ensures.length ∙ ap length held_is ∙ length-take-le n c.self.inside.held.items (omega (arith, high, held_whole)) in
    let moving_old : List ℤ = take (n * q - 0) c.deref_mut-2.result.now in
    let moving_is : moving_old ≡ take (n * q) c.self.inside.moving.items = ap (λ (xs : List ℤ). take (n * q - 0) xs) c.deref_mut-2.ensures.value ∙ ap (λ k. take k c.self.inside.moving.items) (let e : n * q - 0 ≡ n * q = omega arith in e) in
    let moving_long : length c.widen_if.new.sums ≡ n * q = c.widen_if.ensures.length ∙ ap length moving_is ∙ length-take-le (n * q) c.self.inside.moving.items (omega (arith, most, moving_whole)) in
    let held : ℤ = slice_index_or (take c.self.inside.count c.self.inside.held.items) 0 (pos 0) in
    let moving : ℤ = sample q (moving_sums q c.self.inside.moves c.self.inside.count c.self.inside.moving.items) 0 m in
    ap₂ (λ (x y : ℤ). x +ℤ y)
    (front_at n c.self.inside.held.len c.widen.new.sums _ _ channel held_long (omega arith)
    ∙ ap (λ k. slice_index_or c.widen.new.sums k (pos 0)) (let e : channel ≡ channel * 1 + 0 = omega arith in e)
    ∙ c.widen.ensures.sums channel 0 there (omega arith)
    ∙ ap (λ (x : ℤ). mix c.args.interp 1 n (λ i. x) channel) (first_same 1 c.self.inside.count n 0 c.self.inside.held.items held_old held_is (omega (arith, one)) low (omega arith)))
    (widened_at c.args.interp q c.self.inside.count n c.self.inside.moving.len c.self.inside.moving.items moving_old c.widen_if.new.sums _ _ one low moving_is moving_long (omega (arith, most, moving_whole))
    c.self.inside.moves channel m there now' c.widen_if.ensures.sums)
    ∙ sym (mono_sum c.args.interp n channel held moving)
    ∙ ap (λ (s : SumsView). mix c.args.interp 1 n (λ i. sum_at s 0 m) channel) c.self.view_is
