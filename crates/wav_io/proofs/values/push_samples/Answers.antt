use Rattle.std.proofs.Common.{◌≡◌, ◌≤◌, ◌+◌, ◌*◌, ◌/◌, ◌++◌, length, map, sym, subst, arith}
use Rattle.std.specs.Prelude.{OnOk}
use Rattle.std.specs.List.{range_with_len}
use Rattle.wav_io.specs.WavGrammar.{value_of, bytes_at}
use Rattle.wav_io.proofs.Widths.{width_cases}
use Rattle.wav_io.proofs.values.push_samples.Goals as goal

pub push_32-requires : goal.push_32-requires
push_32-requires c k low =
    let cases = width_cases c.args.bits c.requires.width in
    let is : c.args.bits ≡ 32 = grind arith in
    subst (λ bits. c.args.places.first + k * c.args.places.step + bits / 8 ≤ length c.args.bytes.now) is (c.requires.room k low)

pub returns-else-bits-eq24 : goal.returns-else-bits-eq24
returns-else-bits-eq24 c =
    let cases = width_cases c.args.bits c.requires.width in
    let is : c.args.bits ≡ 32 = grind arith in
    subst (λ bits. OnOk c.push_32.result (c.push_32.new.values.items ≡ c.args.values.now.items ++ map (λ k. value_of bits (bytes_at (bits / 8) c.args.bytes.now (c.args.places.first + k * c.args.places.step))) (range_with_len 0 c.args.places.count))) (sym is) c.push_32.ensures
