use Rattle.std.proofs.Common.{pos, ◌≡◌, ◌<◌, ◌+◌, ◌-◌, ◌*◌, ◌^◌, ◌+ℤ◌, ℕ, ℤ, List, length, take, slice_index_or, sym, ◌∙◌, ap, arith, subst, length-append}
use Rattle.std.specs.Prelude.{All}
use Rattle.std.proofs.lemmas.List.{length-take, length-drop, length-take-le}
use Rattle.law_base.proofs.Rows.{rows_up, place_in}
use Rattle.lane_kern.specs.Blocks.{IsWithin}
use Rattle.mix_rules.specs.Blocks.{sample}
use Rattle.channel_mix.specs.Sums.{SumsView, sum_at, moving_sums, four_at}
use Rattle.channel_mix.proofs.Made.{front_is}
use Rattle.channel_mix.proofs.Growing.{adds_whole, adds_room}
use Rattle.channel_mix.proofs.Holding.{all_more, cleared, cleared_small, moving_grows}
use Rattle.channel_mix.proofs.sums.Sums.add_four.Goals as goal

pub invariant_of-self : goal.invariant_of-self
invariant_of-self c =
    let q : ℕ = c.self.inside.frames in
    let n : ℕ = c.self.inside.count * q in
    let all : n - 0 ≡ n = omega arith in
    let whole = c.self.invariant.moving_length in
    let most = rows_up q c.self.inside.count 32 c.self.invariant.high in
    let few = rw (← c.self.view_is) at c.requires.added in
    let old : List ℤ = take (n - 0) c.deref_mut.result.now in
    let is : old ≡ take n c.self.inside.moving.items = ap (λ (xs : List ℤ). take (n - 0) xs) c.deref_mut.ensures.value ∙ ap (λ k. take k c.self.inside.moving.items) all in
    let old_long : length old ≡ n = ap length is ∙ length-take-le n c.self.inside.moving.items (omega (arith, most, whole)) in
    let long : length c.add_four.new.sums ≡ n = omega (arith, c.add_four.auto.sums, c.clear_unless.ensures.length, old_long) in
    record {
      size = c.self.invariant.size;
      low = c.self.invariant.low;
      high = c.self.invariant.high;
      few = omega arith;
      held_length = c.self.invariant.held_length;
      moving_length = omega (arith, length-take {A = ℤ}, length-append {A = ℤ}, length-drop {A = ℤ});
      held_small = all_more (c.self.inside.added * 2 ^ 34) ((c.self.inside.added + 1) * 2 ^ 34) _ (omega arith) c.self.invariant.held_small;
      moving_small =
          subst (All (IsWithin ((c.self.inside.added + 1) * 2 ^ 34))) (sym (front_is n c.self.inside.moving.len c.add_four.new.sums _ _ long (omega (arith, most, whole))))
          (subst (λ b. All (IsWithin b) c.add_four.new.sums) (omega arith) (adds_room (four_at c.args.four) (length c.clear_unless.new.sums) (c.self.inside.added * 2 ^ 34) c.clear_unless.new.sums c.add_four.new.sums c.add_four.auto.sums (omega arith) (adds_whole (four_at c.args.four) c.clear_unless.new.sums c.add_four.new.sums c.add_four.auto.sums c.add_four.ensures)
          (cleared_small q c.self.inside.moves (c.self.inside.added * 2 ^ 34) c.self.inside.count c.self.inside.moving.items old c.clear_unless.new.sums is c.clear_unless.ensures.length c.clear_unless.ensures.stay c.clear_unless.ensures.clear c.self.invariant.moving_small)));
    }

pub returns-clause-sums : goal.returns-clause-sums
returns-clause-sums c channel m low now =
    let q : ℕ = c.self.inside.frames in
    let n : ℕ = c.self.inside.count * q in
    let all : n - 0 ≡ n = omega arith in
    let whole = c.self.invariant.moving_length in
    let most = rows_up q c.self.inside.count 32 c.self.invariant.high in
    let low' : channel < c.self.inside.count = subst (λ (s : SumsView). channel < s.count) (sym c.self.view_is) low in
    let old : List ℤ = take (n - 0) c.deref_mut.result.now in
    let is : old ≡ take n c.self.inside.moving.items = ap (λ (xs : List ℤ). take (n - 0) xs) c.deref_mut.ensures.value ∙ ap (λ k. take k c.self.inside.moving.items) all in
    let old_long : length old ≡ n = ap length is ∙ length-take-le n c.self.inside.moving.items (omega (arith, most, whole)) in
    let long : length c.add_four.new.sums ≡ n = omega (arith, c.add_four.auto.sums, c.clear_unless.ensures.length, old_long) in
    let now' : m < q = subst (λ (s : SumsView). m < s.frames) (sym c.self.view_is) now in
    moving_grows _ (slice_index_or (take c.self.inside.count c.self.inside.held.items) channel (pos 0)) (sample q (moving_sums q c.self.inside.moves c.self.inside.count c.self.inside.moving.items) channel m)
    (four_at c.args.four (channel * q + m))
    (ap (λ xs. sample q xs channel m) (front_is n c.self.inside.moving.len c.add_four.new.sums _ _ long (omega (arith, most, whole)))
    ∙ c.add_four.ensures.sums (channel * q + m) (let place = place_in q channel c.self.inside.count m low' now' in omega (arith, c.clear_unless.ensures.length, old_long, place))
    ∙ ap (λ x. x +ℤ four_at c.args.four (channel * q + m))
    (cleared q c.self.inside.moves c.self.inside.count c.self.inside.moving.items old c.clear_unless.new.sums is old_long c.clear_unless.ensures.stay c.clear_unless.ensures.clear (channel * q + m) (place_in q channel c.self.inside.count m low' now')))
    ∙ ap (λ (s : SumsView). sum_at s channel m +ℤ four_at c.args.four (channel * s.frames + m)) c.self.view_is
