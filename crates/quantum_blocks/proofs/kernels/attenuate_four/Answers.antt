use Rattle.std.proofs.Common.{◌∙◌, pos, rules, slice_index_or, FitsSigned}
use Rattle.std.specs.Int.{w32}
use Rattle.std.proofs.lemmas.Simd.{get_or-put_chunk_above}
use Rattle.quantum_blocks.proofs.Attenuating.{written, four_stored}
use Rattle.quantum_blocks.proofs.kernels.attenuate_four.Goals as goal

pub returns-clause-front : goal.returns-clause-front
returns-clause-front c k low =
    let fits_0 : FitsSigned w32 (slice_index_or c.args.heard.now 0 (pos 0)) = search rules in
    let fits_1 : FitsSigned w32 (slice_index_or c.args.heard.now 1 (pos 0)) = search rules in
    let fits_2 : FitsSigned w32 (slice_index_or c.args.heard.now 2 (pos 0)) = search rules in
    let fits_3 : FitsSigned w32 (slice_index_or c.args.heard.now 3 (pos 0)) = search rules in
    rw c.attenuated_four.ensures (written c.args.block.now _ k low c.requires.block ∙ four_stored c.args.heard.now c.args.gain c.ranges.gain fits_0 fits_1 fits_2 fits_3 k low)

pub returns-clause-behind : goal.returns-clause-behind
returns-clause-behind c k low = rw c.attenuated_four.ensures (get_or-put_chunk_above 0 c.args.block.now _ k (pos 0) low)
