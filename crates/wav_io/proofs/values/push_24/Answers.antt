use Rattle.std.proofs.Common.{rules, ℕ, ℤ, ◌+◌, ◌*◌, arith}
use Rattle.std.proofs.lemmas.Iterator.{YieldsList-from_map, YieldsList-from_range}
use Rattle.std.proofs.lemmas.Iterator.Adapters.{items_from_extend}
use Rattle.wav_io.specs.WavGrammar.{value_of, bytes_at}
use Rattle.wav_io.proofs.values.push_24.Goals as goal

pub returns : goal.returns
returns c =
    let value : ℕ → ℤ = λ k. value_of 24 (bytes_at 3 c.args.bytes.now (c.args.places.first + k * c.args.places.step)) in
    let h =
    items_from_extend c.extend.result c.extend.ensures.ran
    (YieldsList-from_map _ value (YieldsList-from_range 0 c.args.places.count c.args.places.count c.map.ensures.source (omega arith)) c.map.ensures.closure (λ x r q k. search rules)) in
    search rules
