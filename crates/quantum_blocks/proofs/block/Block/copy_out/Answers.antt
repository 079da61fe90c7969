use Rattle.std.proofs.Common.{ℕ, ℤ, List, Bool, pos, ◌≡◌, ◌<◌, ◌≤◌, ◌+◌, ◌*◌, ◌-◌, slice_index_or, true, false, refl, sym, ◌∙◌, ap, arith, subst}
use Rattle.std.specs.Prelude.{if◌then◌else◌, nat_lt}
use Rattle.std.proofs.lemmas.Bool.Decides.{nat_tests}
use Rattle.law_base.proofs.Rows.{rows_up, place_in}
use Rattle.mix_rules.specs.Blocks.{sample}
use Rattle.quantum_blocks.specs.Blocks.{BlockView, at}
use Rattle.quantum_blocks.proofs.Lanes.{front_written}
use Rattle.quantum_blocks.proofs.block.Block.copy_out.Goals.{in-Steady, in-Moving}
use Rattle.quantum_blocks.proofs.block.Block.copy_out.Goals as goal

pub returns-clause-values : goal.returns-clause-values
returns-clause-values c lane m low now = by_test (nat_lt lane c.args.self.now.lanes) refl
  where
    by_test : (t : Bool) → nat_lt lane c.args.self.now.lanes ≡ t → sample c.args.self.now.frames c.silence.new.levels lane m ≡ (if t then at c.args.self.now lane m else pos 0)
    by_test true t =
        let q : ℕ = c.self.inside.frames in
        let frames : q ≡ c.args.self.now.frames = ap (λ (b : BlockView). b.frames) c.self.view_is in
        let now' : m < q = subst (λ k. m < k) (sym frames) now in
        let there : lane < c.args.self.now.lanes = grind (arith, nat_tests) in
        let same = c.lanes.ensures.lanes in
        let rows : c.lanes.result * q ≡ c.args.self.now.lanes * q = ap (λ k. k * q) same in
        let few = rows_up q c.args.self.now.lanes c.args.lanes c.requires.within in
        let wide : c.args.lanes * q ≡ c.args.lanes * c.args.self.now.frames = ap (λ k. c.args.lanes * k) frames in
        let room = c.requires.room in
        let place = place_in q lane c.args.self.now.lanes m there now' in
        ap (λ f. sample f c.silence.new.levels lane m) (sym frames)
        ∙ c.silence.ensures.before (lane * q + m) (omega (arith, place, rows))
        ∙ elim c.match-held.branch [
          | in-Steady w ↦
              let held = w.in-Steady.ensures in
              let long = w.spread.ensures.length in
              ap (λ (xs : List ℤ). slice_index_or xs (lane * q + m) (pos 0)) w.out-is
              ∙ front_written (c.lanes.result * q - 0) c.args.out.now w.spread.new.out (lane * q + m) (omega (arith, place, rows, few, wide, room, long))
              ∙ w.spread.ensures.values lane m (subst (λ k. lane < k) (sym held.0) there) now'
              ∙ sym (held.1 lane m there now)
          | in-Moving w ↦
              let held = w.in-Moving.ensures in
              let long = w.copy_values.ensures.length in
              ap (λ (xs : List ℤ). slice_index_or xs (lane * q + m) (pos 0)) w.out-is
              ∙ front_written (c.lanes.result * q - 0) c.args.out.now w.copy_values.new.block (lane * q + m) (omega (arith, place, rows, few, wide, room, long))
              ∙ w.copy_values.ensures.values (lane * q + m) (omega (arith, place, rows, few, wide, room, long))
              ∙ ap (λ f. sample f w.in-Moving.values.now lane m) frames
              ∙ sym (held.1 lane m there now)
        ]
    by_test false t =
        let q : ℕ = c.self.inside.frames in
        let frames : q ≡ c.args.self.now.frames = ap (λ (b : BlockView). b.frames) c.self.view_is in
        let now' : m < q = subst (λ k. m < k) (sym frames) now in
        let high : c.args.self.now.lanes ≤ lane = grind (arith, nat_tests) in
        let same = c.lanes.ensures.lanes in
        let rows : c.lanes.result * q ≡ c.args.self.now.lanes * q = ap (λ k. k * q) same in
        let past = rows_up q c.args.self.now.lanes lane high in
        let place = place_in q lane c.args.lanes m low now' in
        ap (λ f. sample f c.silence.new.levels lane m) (sym frames) ∙ c.silence.ensures.within (lane * q + m) (omega (arith, past, rows)) place
