use Rattle.std.proofs.Common.{rules, pos, ◌≡◌, ◌<◌, ◌+◌, ◌-◌, ◌*◌, ◌^◌, ◌+ℤ◌, ℕ, ℤ, length, take, slice_index_or, sym, ◌∙◌, ap, arith, subst, length-append}
use mathlib.Core.Path.{fun_ext}
use Rattle.std.specs.Prelude.{All}
use Rattle.std.proofs.lemmas.List.{length-take, length-drop, length-take-le}
use Rattle.lane_kern.specs.Blocks.{IsWithin}
use Rattle.mix_rules.specs.Blocks.{sample, frame_at}
use Rattle.mix_rules.specs.Mixing.{mix}
use Rattle.channel_mix.specs.Sums.{SumsView, sum_at, moving_sums}
use Rattle.channel_mix.proofs.Made.{front_is, front_at}
use Rattle.channel_mix.proofs.Holding.{all_more, held_grows}
use Rattle.channel_mix.proofs.sums.Sums.add_steady.Goals as goal

pub invariant_of-self : goal.invariant_of-self
invariant_of-self c =
    let n : ℕ = c.self.inside.count in
    let all : n ≡ n - 0 = omega arith in
    let whole = c.self.invariant.held_length in
    let high = c.self.invariant.high in
    let long : length c.mix_add.new.acc ≡ n = search rules in
    let few = rw (← c.self.view_is) at c.requires in
    record {
      size = c.self.invariant.size;
      low = c.self.invariant.low;
      high = c.self.invariant.high;
      few = omega arith;
      held_length = omega (arith, length-take {A = ℤ}, length-append {A = ℤ}, length-drop {A = ℤ});
      moving_length = c.self.invariant.moving_length;
      held_small =
          subst (All (IsWithin ((c.self.inside.added + 1) * 2 ^ 34))) (sym (front_is n c.self.inside.held.len c.mix_add.new.acc _ _ long (omega arith)))
          (subst (λ b. All (IsWithin b) c.mix_add.new.acc) (omega arith) (c.mix_add.ensures.room (c.self.inside.added * 2 ^ 34)
          (subst (λ xs. All (IsWithin (c.self.inside.added * 2 ^ 34)) (take (n - 0) xs)) (sym c.deref_mut.ensures.value)
          (subst (λ k. All (IsWithin (c.self.inside.added * 2 ^ 34)) (take k c.self.inside.held.items)) all c.self.invariant.held_small))));
      moving_small = all_more (c.self.inside.added * 2 ^ 34) ((c.self.inside.added + 1) * 2 ^ 34) _ (omega arith) c.self.invariant.moving_small;
    }

pub returns-clause-sums : goal.returns-clause-sums
returns-clause-sums c channel m low now =
    let n : ℕ = c.self.inside.count in
    let all : n ≡ n - 0 = omega arith in
    let whole = c.self.invariant.held_length in
    let high = c.self.invariant.high in
    let long : length c.mix_add.new.acc ≡ n = search rules in
    let low' : channel < n = subst (λ (s : SumsView). channel < s.count) (sym c.self.view_is) low in
    let here : channel ≡ channel * 1 + 0 = omega arith in
    held_grows _ (slice_index_or (take n c.self.inside.held.items) channel (pos 0)) (sample c.self.inside.frames (moving_sums c.self.inside.frames c.self.inside.moves n c.self.inside.moving.items) channel m)
    (mix c.args.interp (length c.args.held.now) n (λ i. slice_index_or c.args.held.now i (pos 0)) channel)
    (front_at n c.self.inside.held.len c.mix_add.new.acc _ _ channel long (omega arith)
    ∙ ap (λ k. slice_index_or c.mix_add.new.acc k (pos 0)) here
    ∙ c.mix_add.ensures.sums 1 channel 0 (length-take-le (n - 0) c.deref_mut.result.now (omega (arith, ap length c.deref_mut.ensures.value)) ∙ (let e : n - 0 ≡ n * 1 = omega arith in e)) low' (omega arith)
    ∙ ap (λ x. x +ℤ mix c.args.interp (length c.args.held.now) n (frame_at 1 c.args.held.now 0) channel) (old n here)
    ∙ ap (λ (f : ℕ → ℤ). slice_index_or (take n c.self.inside.held.items) channel (pos 0) +ℤ mix c.args.interp (length c.args.held.now) n f channel)
    (fun_ext (λ i. ap (λ k. slice_index_or c.args.held.now k (pos 0)) (let e : i * 1 + 0 ≡ i = omega arith in e))))
    ∙ ap (λ (s : SumsView). sum_at s channel m +ℤ mix c.args.interp (length c.args.held.now) s.count (λ i. slice_index_or c.args.held.now i (pos 0)) channel) c.self.view_is
  where
    old : (n : ℕ) → channel ≡ channel * 1 + 0 → slice_index_or (take (c.self.inside.count - 0) c.deref_mut.result.now) (channel * 1 + 0) (pos 0) ≡ slice_index_or (take c.self.inside.count c.self.inside.held.items) channel (pos 0)
    old n here =
        ap (λ k. slice_index_or (take (c.self.inside.count - 0) c.deref_mut.result.now) k (pos 0)) (sym here)
        ∙ ap (λ xs. slice_index_or (take (c.self.inside.count - 0) xs) channel (pos 0)) c.deref_mut.ensures.value
        ∙ ap (λ k. slice_index_or (take k c.self.inside.held.items) channel (pos 0)) (let same : c.self.inside.count - 0 ≡ c.self.inside.count = omega arith in same)
