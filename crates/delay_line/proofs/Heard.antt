-- What is read of a line is what its writer wrote.
use Rattle.std.proofs.Common.{ℕ, ℤ, pos, ◌≡◌, ◌+◌, ◌-◌, ◌*◌, ◌/◌, ◌<◌, ◌≤◌, length, min, cond, refl, ap, sym, subst, ◌∙◌, arith, inl, inr, Option, Some, None}
use Rattle.std.proofs.Math.Nat.{div-mul-le_self}
use Rattle.std.proofs.lemmas.Bool.{lt-ltb, le-ltb}
use Rattle.std.proofs.lemmas.Nat.{le-div}
use Rattle.wa_base.specs.declared.graph_names.Interp.{Interp}
use Rattle.mix_rules.specs.Mixing.{mix}
use Rattle.delay_line.specs.declared.counts.Stretch.{Stretch}
use Rattle.delay_line.specs.Delays.{Writer, delayed}
use Rattle.delay_line.specs.Lines.{Line, written, from_end, count_at, frame_at, Keeps}
use Rattle.delay_line.specs.Sources.{picked, needed}
use Rattle.delay_line.specs.Spans.{IsStretch, IsBetween, IsReached, heard_count}
use Rattle.delay_line.proofs.Ends.{order}
use Rattle.delay_line.proofs.Places.{block_back, below_times}

pub born_count : (line : Line) (f d : ℕ) → d ≤ f → heard_count line f d ≡ count_at line ((f - d) / line.block)
born_count line f d born = ap (λ b. cond b 0 (count_at line ((f - d) / line.block))) (le-ltb f d born)

pub unborn_count : (line : Line) (f d : ℕ) → f < d → heard_count line f d ≡ 0
unborn_count line f d unborn = ap (λ b. cond b 0 (count_at line ((f - d) / line.block))) (lt-ltb f d unborn)

-- a frame within a stretch of blocks has its count
pub heard_in : (line : Line) (most f d i : ℕ) (s : Stretch) → 0 < line.block → length line.counts ≡ min line.blocks most → line.capacity + line.block ≤ most * line.block
    → IsStretch line.counts i s → IsReached line f d → IsBetween (written line) f d (s.first * line.block) (s.end * line.block) → heard_count line f d ≡ s.count
heard_in line most f d i s some counted reach stretch reached between =
    let g = f - d in
    let kept = reached between.born in
    let back = written line - g - 1 in
    let j = back / line.block in
    let is : j ≡ line.blocks - g / line.block - 1 = block_back g line.blocks line.block some kept.0 in
    let part : j * line.block ≤ back = div-mul-le_self back line.block in
    let low : s.first ≤ j = le-div s.first back line.block some between.low in
    let high : j < s.end = below_times j s.end line.block (omega (arith, part, between.high)) in
    let few : back < line.capacity + line.block = omega (arith, kept.0, kept.1) in
    let within : j < most = below_times j most line.block (omega (arith, part, few, reach)) in
    let whole : back < line.blocks * line.block = omega (arith, kept.0) in
    let old : j < line.blocks = below_times j line.blocks line.block (omega (arith, part, whole)) in
    born_count line f d between.born ∙ ap (λ k. from_end line.counts k 0) (sym is) ∙ stretch.alike j low high (omega (arith, counted, within, old))

picked_same : (frame frame' : ℕ → ℤ) (source : Option ℕ) (from : ℕ) → needed source ≤ from → ((c : ℕ) → c < from → frame c ≡ frame' c) → picked frame source ≡ picked frame' source
picked_same frame frame' None from there same = refl
picked_same frame frame' (Some i) from there same = same i (omega arith)

picked_nothing : (frame : ℕ → ℤ) (source : Option ℕ) → needed source ≤ 0 → picked frame source ≡ pos 0
picked_nothing frame None there = refl
picked_nothing frame (Some i) there = absurd (omega arith)

-- the reader's equation, where its channel repeats one of the writer's
pub picked_delayed : (line : Line) (writer : Writer) (interp : Interp) (from to f d c : ℕ) (source : Option ℕ) → Keeps line writer → IsReached line f d → heard_count line f d ≡ from
    → ((frame : ℕ → ℤ) → mix interp from to frame c ≡ picked frame source) → needed source ≤ from
    → picked (frame_at line (f - d)) source ≡ delayed line.block writer interp to f d c
picked_delayed line writer interp from to f d c source keeps reached is value there = elim (order d f) [
  | inl born ↦
      let g = f - d in
      let kept = reached born in
      let count : from ≡ writer.counts (g / line.block) = sym is ∙ born_count line f d born ∙ keeps.counts g kept in
      let mixed = mix interp (writer.counts (g / line.block)) to (writer.frames g) c in
      picked_same (frame_at line g) (writer.frames g) source from there (λ i less. keeps.frames g i kept (subst (λ n. i < n) count less))
      ∙ sym (value (writer.frames g)) ∙ ap (λ n. mix interp n to (writer.frames g) c) count
      ∙ ap (λ b. cond b (pos 0) mixed) (sym (le-ltb f d born))
  | inr unborn ↦
      let none : needed source ≤ 0 = subst (λ n. needed source ≤ n) (sym is ∙ unborn_count line f d unborn) there in
      let g = f - d in
      let mixed = mix interp (writer.counts (g / line.block)) to (writer.frames g) c in
      picked_nothing (frame_at line g) source none ∙ ap (λ b. cond b (pos 0) mixed) (sym (lt-ltb f d unborn))
]
