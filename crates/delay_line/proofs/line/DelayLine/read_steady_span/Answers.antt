use Rattle.std.proofs.Common.{rules, ℕ, suc, ℤ, ◌≡◌, ◌+◌, ◌-◌, ◌*◌, ◌<◌, ◌≤◌, length, take, drop, ap, sym, ◌∙◌, arith, subst, inl, inr, Option, Some}
use Rattle.std.proofs.lemmas.List.{places}
use Rattle.std.proofs.lemmas.Nat.{mul-le}
use Rattle.lane_kern.specs.Blocks.{at}
use Rattle.mix_rules.specs.Blocks.{sample}
use Rattle.mix_rules.specs.Mixing.{mix}
use Rattle.delay_line.specs.Delays.{delayed}
use Rattle.delay_line.specs.Lines.{Line, IsKept, frame_at}
use Rattle.delay_line.specs.Sources.{picked, needed}
use Rattle.delay_line.proofs.Channels.{put, put_here, put_below, put_before}
use Rattle.delay_line.proofs.Ends.{order}
use Rattle.delay_line.proofs.Heard.{unborn_count, picked_delayed}
use Rattle.delay_line.proofs.line.DelayLine.read_steady_span.Goals as goal

-- a frame of which a channel is heard is born
born : (c : goal.After-part-1) (i : ℕ) → c.source_of-source.result ≡ Some i → c.args.delay ≤ c.args.request.first + c.args.span.start
born c i is = elim (order c.args.delay (c.args.request.first + c.args.span.start)) [
  | inl here ↦ here
  | inr unborn ↦
      let span = c.requires.span in
      let some : suc i ≤ c.min-count.result = subst (λ (s : Option ℕ). needed s ≤ c.min-count.result) is c.source_of-source.ensures.needed in
      let fewest = c.min-count.ensures in
      let begins = span.some in
      let none = sym (unborn_count c.args.self.now (c.args.request.first + c.args.span.start) c.args.delay unborn) ∙ span.alike c.args.span.start (omega arith) begins in
      absurd (omega (arith, some, fewest, none))
]

pub copy_channel-requires-clause-born : goal.copy_channel-requires-clause-born
copy_channel-requires-clause-born c = born c

pub copy_channel-requires-clause-kept : goal.copy_channel-requires-clause-kept
copy_channel-requires-clause-kept c i k is few =
    let line = c.args.self.now in
    let block = c.self.inside.block in
    let whole : block ≡ line.block = ap (λ (l : Line). l.block) c.self.view_is in
    let span = c.requires.span in
    let start = c.args.span.start in
    let end = c.args.span.end in
    let i = c.loop-c.c * block + start in
    let m = c.loop-c.c * block + end - i in
    let within : end ≤ block = omega (arith, span.within, whole) in
    let next : (c.loop-c.c + 1) * block ≤ c.args.request.channels * block = mul-le _ _ _ _ (let more : c.loop-c.c + 1 ≤ c.args.request.channels = omega (arith, c.loop-c-test.true) in more) (omega arith) in
    let all : length c.loop-c.out ≡ c.args.request.channels * block = c.loop-c.auto.out ∙ c.requires.out ∙ ap (λ n. c.args.request.channels * n) (sym whole) in
    let fits : i + m ≤ length c.loop-c.out = omega (arith, next, all, within, span.some) in
    let taken : length (take m (drop i c.loop-c.out)) ≡ m = search (rules, places) in
    let there : start + k < line.block = omega (arith, few, taken, within, whole, span.some) in
    let early = born c _ is in
    let place : c.args.request.first + (start + k) ≡ c.args.request.first + start + k = omega arith in
    subst (λ f. IsKept line (f - c.args.delay)) place (c.requires.frames (start + k) there (omega (arith, early)))

pub loop-c-preserved : goal.loop-c-preserved
loop-c-preserved c =
    let line = c.args.self.now in
    let block = c.self.inside.block in
    let is : block ≡ line.block = ap (λ (l : Line). l.block) c.self.view_is in
    let this = c.loop-c.c in
    let start = c.args.span.start in
    let end = c.args.span.end in
    let old = c.loop-c.out in
    let part = c.copy_channel.new.out in
    let span = c.requires.span in
    let inv = c.loop-c.invariant in
    let d = c.args.delay in
    let within : end ≤ block = omega (arith, span.within, is) in
    let next : (this + 1) * block ≤ c.args.request.channels * block = mul-le _ _ _ _ (let more : this + 1 ≤ c.args.request.channels = omega (arith, c.loop-c-test.true) in more) (omega arith) in
    let all : length old ≡ c.args.request.channels * block = c.loop-c.auto.out ∙ c.requires.out ∙ ap (λ n. c.args.request.channels * n) (sym is) in
    let there : this * block + start ≤ length old = omega (arith, next, all, within, span.some) in
    let i = this * block + start in
    let m = this * block + end - i in
    let size : m ≡ end - start = omega arith in
    let fits : i + m ≤ length old = omega (arith, next, all, within, span.some) in
    let taken : length (take m (drop i old)) ≡ m = search (rules, places) in
    let long : length part ≡ end - start = c.copy_channel.auto.out ∙ taken ∙ size in
    let first = c.args.request.first in
    let source = c.source_of-source.result in
    let read : (k : ℕ) → start ≤ k → k < end → at part (k - start) ≡ picked (frame_at line (first + k - d)) source = λ k low high.
    let few : k - start < length (take m (drop i old)) = omega (arith, taken, size, low, high) in
    let place : first + start + (k - start) ≡ first + k = omega (arith, low) in
    c.copy_channel.ensures (k - start) few ∙ ap (λ f. picked (frame_at line (f - d)) source) place in
    record {
      done = λ writer b k keeps less low high up.
          let inside : k < block = omega (arith, high, within) in
          ap (λ n. sample n (put block this start end old part) b k) (sym is) ∙ elim (order this b) [
            | inl here ↦
                let e : b ≡ this = omega (arith, here, less) in
                let to = c.args.request.channels in
                let count : c.min-count.result ≡ c.args.span.count = let fewest = c.min-count.ensures in let here = span.alike k low high in omega (arith, fewest, here, up) in
                let reached = c.requires.frames k (omega (arith, inside, is)) in
                ap (λ n. sample block (put block this start end old part) n k) e ∙ put_here block this start end old part k low high long there ∙ read k low high
                ∙ picked_delayed line writer c.args.request.interp c.args.span.count to (first + k) d this source keeps reached (span.alike k low high)
                (subst (λ (n : ℕ). (frame : ℕ → ℤ) → mix c.args.request.interp n to frame this ≡ picked frame source) count c.source_of-source.ensures.value) (subst (λ (n : ℕ). needed source ≤ n) count c.source_of-source.ensures.needed)
                ∙ ap (λ n. delayed line.block writer c.args.request.interp to (first + k) d n) (sym e)
            | inr below ↦
                put_below block this start end old part b k below inside there ∙ ap (λ n. sample n old b k) is ∙ inv.done writer b k keeps below low high up
          ];
      before = λ b k less early.
          ap (λ n. sample n (put block this start end old part) b k) (sym is)
          ∙ put_before block this start end old part b k early (omega (arith, span.some)) within long there
          ∙ ap (λ n. sample n old b k) is ∙ inv.before b k less early;
    }
