use Rattle.std.proofs.Common.{rules, ℕ, ℤ, List, pos, ◌<◌, ◌*◌, ◌+ℤ◌, take, slice_index_or, sym, ◌∙◌, ap, ap₂, arith, subst, FitsSigned}
use Rattle.std.specs.Int.{w64}
use Rattle.std.proofs.lemmas.Int.{to_z-of_z}
use Rattle.std.proofs.lemmas.List.{get_or_default, get_or-take}
use Rattle.wa_base.specs.Numbers.{sat}
use Rattle.mix_rules.specs.Blocks.{sample}
use Rattle.channel_mix.specs.Sums.{SumsView, sum_at, moving_sums}
use Rattle.channel_mix.proofs.Rows.{row_at}
use Rattle.channel_mix.proofs.sums.Sums.settle_channel.Goals as goal

pub returns-then-self-clause-values : goal.returns-then-self-clause-values
returns-then-self-clause-values c m low =
    let q : ℕ = c.self.inside.frames in
    let n : ℕ = c.self.inside.count in
    let channel : ℕ = c.args.channel in
    let here : channel < n = subst (λ (s : SumsView). channel < s.count) (sym c.self.view_is) c.requires.channel in
    let now : m < q = subst (λ (s : SumsView). m < s.frames) (sym c.self.view_is) (subst (λ k. m < k) c.requires.length low) in
    let fits : FitsSigned w64 c.index-held.result.now = search rules in
    let high = c.self.invariant.high in
    let whole = c.self.invariant.held_length in
    c.settle.ensures.values m low
    ∙ ap₂ (λ x y. sat (x +ℤ y))
    (to_z-of_z _ _ fits
    ∙ c.index-held.ensures
    ∙ sym (get_or_default c.self.inside.held.items channel (pos 0) c.index-held.result.now (omega (arith, here, high, whole)))
    ∙ sym (get_or-take n c.self.inside.held.items channel (pos 0) here))
    (row_at q n channel m c.deref.result.now here now ∙ ap (λ (xs : List ℤ). sample q (take (n * q) xs) channel m) c.deref.ensures.value)
    ∙ ap (λ moves. sat (slice_index_or (take n c.self.inside.held.items) channel (pos 0) +ℤ sample q (moving_sums q moves n c.self.inside.moving.items) channel m)) (sym c.if-self.true)
    ∙ ap (λ (s : SumsView). sat (sum_at s channel m)) c.self.view_is
