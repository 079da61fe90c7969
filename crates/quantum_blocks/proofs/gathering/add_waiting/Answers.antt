use Rattle.std.proofs.Common.{ℕ, ◌+◌, ◌*◌, ◌+ℤ◌, sym, refl, ◌∙◌, ap, arith}
use Rattle.std.proofs.lemmas.Int.{ints}
use Rattle.channel_mix.specs.Sums.{sum_at}
use Rattle.quantum_blocks.specs.Waiting.{waiting_at}
use Rattle.quantum_blocks.specs.declared.gathering.Waiting.{Waiting}
use Rattle.quantum_blocks.proofs.Added.{one_more}
use Rattle.quantum_blocks.proofs.gathering.add_waiting.Goals as goal

pub returns-in-One-clause-sums : goal.returns-in-One-clause-sums
returns-in-One-clause-sums c channel m low now =
    let q : ℕ = c.args.sums.now.frames in
    one_more c.args.inlet.interp c.args.inlet.count q c.args.sums.now c.add_moving.new.self c.in-One.first.now refl c.requires.count c.add_moving.ensures.sums channel m low now
    ∙ ap (λ (x : Waiting). sum_at c.args.sums.now channel m +ℤ waiting_at x (channel * q + m)) (sym c.in-One.is)

pub returns-in-Two-clause-sums : goal.returns-in-Two-clause-sums
returns-in-Two-clause-sums c channel m low now =
    let q : ℕ = c.args.sums.now.frames in
    let n : ℕ = c.args.inlet.count in
    let first = one_more c.args.inlet.interp n q c.args.sums.now c.add_moving-in-Two.new.self c.in-Two.first.now refl c.requires.count c.add_moving-in-Two.ensures.sums channel m low now in
    let second = one_more c.args.inlet.interp n q c.add_moving-in-Two.new.self c.add_moving-in-Two-2.new.self c.in-Two.second.now c.add_moving-in-Two.ensures.frames (c.add_moving-in-Two.ensures.count ∙ c.requires.count) c.add_moving-in-Two-2.ensures.sums channel m low now in
    let is = ap (λ (x : Waiting). waiting_at x (channel * q + m)) c.in-Two.is in
    omega (arith, ints, first, second, is)

pub returns-in-Three-clause-sums : goal.returns-in-Three-clause-sums
returns-in-Three-clause-sums c channel m low now =
    let q : ℕ = c.args.sums.now.frames in
    let n : ℕ = c.args.inlet.count in
    let first = one_more c.args.inlet.interp n q c.args.sums.now c.add_moving-in-Three.new.self c.in-Three.first.now refl c.requires.count c.add_moving-in-Three.ensures.sums channel m low now in
    let second = one_more c.args.inlet.interp n q c.add_moving-in-Three.new.self c.add_moving-in-Three-2.new.self c.in-Three.second.now c.add_moving-in-Three.ensures.frames (c.add_moving-in-Three.ensures.count ∙ c.requires.count) c.add_moving-in-Three-2.ensures.sums channel m low now in
    let third = one_more c.args.inlet.interp n q c.add_moving-in-Three-2.new.self c.add_moving-in-Three-3.new.self c.in-Three.third.now (c.add_moving-in-Three-2.ensures.frames ∙ c.add_moving-in-Three.ensures.frames) (c.add_moving-in-Three-2.ensures.count ∙ c.add_moving-in-Three.ensures.count ∙ c.requires.count) c.add_moving-in-Three-3.ensures.sums channel m low now in
    let is = ap (λ (x : Waiting). waiting_at x (channel * q + m)) c.in-Three.is in
    omega (arith, ints, first, second, third, is)
