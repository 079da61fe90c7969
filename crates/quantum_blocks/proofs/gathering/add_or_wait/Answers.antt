use Rattle.std.proofs.Common.{ℕ, ℤ, pos, ◌≡◌, ◌<◌, ◌+◌, ◌*◌, ◌+ℤ◌, slice_index_or, sym, ◌∙◌, ap, arith, subst}
use Rattle.std.proofs.lemmas.Int.{ints}
use Rattle.std.proofs.lemmas.Bool.Decides.{nat_tests}
use Rattle.mix_rules.specs.Blocks.{frame_at}
use Rattle.mix_rules.specs.Mixing.{mix}
use Rattle.channel_mix.specs.Sums.{sum_at}
use Rattle.quantum_blocks.specs.Waiting.{waiting_at}
use Rattle.quantum_blocks.specs.declared.gathering.Waiting.{Waiting}
use Rattle.quantum_blocks.proofs.Added.{first_one, then_one, last_one, as_it_is}
use Rattle.quantum_blocks.proofs.gathering.add_or_wait.Goals as goal

pub returns-then-channels-inlet-clause-sums : goal.returns-then-channels-inlet-clause-sums
returns-then-channels-inlet-clause-sums c channel m in_range now =
    let added = c.add_moving.ensures.sums channel m (subst (λ n. channel < n) (sym c.requires.count) in_range) now
    ∙ ap (λ n. sum_at c.args.sums.now channel m +ℤ mix c.args.inlet.interp c.args.channels n (frame_at c.args.sums.now.frames c.args.values.now m) channel) c.requires.count in
    omega (arith, ints, added)

pub returns-in-None-clause-sums : goal.returns-in-None-clause-sums
returns-in-None-clause-sums c channel m in_range now =
    let q : ℕ = c.args.sums.now.frames in
    let k : ℕ = channel * q + m in
    let old : ℤ = sum_at c.args.sums.now channel m in
    let tested = c.if-channels-inlet.false in
    let equal : c.args.channels ≡ c.args.inlet.count = grind (arith, nat_tests) in
    let heard : ℤ = mix c.args.inlet.interp c.args.channels c.args.inlet.count (frame_at q c.args.values.now m) channel in
    let same = as_it_is c.args.inlet.interp c.args.channels c.args.inlet.count q c.args.values.now channel m equal in_range in
    first_one old (slice_index_or c.args.values.now k (pos 0)) heard same ∙ ap (λ (x : Waiting). (old +ℤ waiting_at x k) +ℤ heard) (sym c.in-None.is)

pub returns-in-One-clause-sums : goal.returns-in-One-clause-sums
returns-in-One-clause-sums c channel m in_range now =
    let q : ℕ = c.args.sums.now.frames in
    let k : ℕ = channel * q + m in
    let old : ℤ = sum_at c.args.sums.now channel m in
    let tested = c.if-channels-inlet.false in
    let equal : c.args.channels ≡ c.args.inlet.count = grind (arith, nat_tests) in
    let heard : ℤ = mix c.args.inlet.interp c.args.channels c.args.inlet.count (frame_at q c.args.values.now m) channel in
    let same = as_it_is c.args.inlet.interp c.args.channels c.args.inlet.count q c.args.values.now channel m equal in_range in
    then_one old (slice_index_or c.in-One.first.now k (pos 0)) (slice_index_or c.args.values.now k (pos 0)) heard same ∙ ap (λ (x : Waiting). (old +ℤ waiting_at x k) +ℤ heard) (sym c.in-One.is)

pub returns-in-Two-clause-sums : goal.returns-in-Two-clause-sums
returns-in-Two-clause-sums c channel m in_range now =
    let q : ℕ = c.args.sums.now.frames in
    let k : ℕ = channel * q + m in
    let old : ℤ = sum_at c.args.sums.now channel m in
    let tested = c.if-channels-inlet.false in
    let equal : c.args.channels ≡ c.args.inlet.count = grind (arith, nat_tests) in
    let heard : ℤ = mix c.args.inlet.interp c.args.channels c.args.inlet.count (frame_at q c.args.values.now m) channel in
    let same = as_it_is c.args.inlet.interp c.args.channels c.args.inlet.count q c.args.values.now channel m equal in_range in
    then_one old (slice_index_or c.in-Two.first.now k (pos 0) +ℤ slice_index_or c.in-Two.second.now k (pos 0)) (slice_index_or c.args.values.now k (pos 0)) heard same ∙ ap (λ (x : Waiting). (old +ℤ waiting_at x k) +ℤ heard) (sym c.in-Two.is)

pub returns-in-Three-clause-sums : goal.returns-in-Three-clause-sums
returns-in-Three-clause-sums c channel m in_range now =
    let q : ℕ = c.args.sums.now.frames in
    let k : ℕ = channel * q + m in
    let old : ℤ = sum_at c.args.sums.now channel m in
    let tested = c.if-channels-inlet.false in
    let equal : c.args.channels ≡ c.args.inlet.count = grind (arith, nat_tests) in
    let heard : ℤ = mix c.args.inlet.interp c.args.channels c.args.inlet.count (frame_at q c.args.values.now m) channel in
    let same = as_it_is c.args.inlet.interp c.args.channels c.args.inlet.count q c.args.values.now channel m equal in_range in
    let all = c.add_four.ensures.sums channel m (subst (λ n. channel < n) (sym c.requires.count) in_range) now in
    last_one old _ (slice_index_or c.in-Three.first.now k (pos 0)) (slice_index_or c.in-Three.second.now k (pos 0)) (slice_index_or c.in-Three.third.now k (pos 0)) (slice_index_or c.args.values.now k (pos 0)) heard all same
    ∙ ap (λ (x : Waiting). (old +ℤ waiting_at x k) +ℤ heard) (sym c.in-Three.is)
