-- The parts of a processor, lent for a block, and what becomes of them.
use Rattle.std.proofs.Common.{◌≡◌, ◌<◌, ◌+◌, ◌*◌, ℕ, ℤ, List, ◌∷◌, length, get_or, ap, subst, sym, ◌∙◌, arith}
use Rattle.node_table.specs.Frames.{item, heard}
use Rattle.node_table.specs.declared.code.Instr.{Instr}
use Rattle.node_table.specs.Machine.{cells_after, program_value}
use Rattle.worklet.specs.Processor.{ProcessorView, ProcessorStands, after_silence}
use Rattle.worklet.proofs.Hearing.{HaveHeard, block_stands}

-- what is lent is what the processor has
pub record IsLent (s : ProcessorView) (code : List Instr) (old lent : List (List ℤ)) (others : List ℤ) : Type 0 where
  pub view : record { code = code; channels = old; others = others } ≡ s
  pub channels : lent ≡ old

abbrev WritesOutputs : (code : List Instr) (old : List (List ℤ)) (x y : List ℤ) (frames : ℕ) → Type 0
WritesOutputs code old x y frames =
    (c k : ℕ) (other xs : List ℤ) → c < length old → k < frames → get_or old c other ≡ cells_after code xs → item y (c * frames + k) ≡ program_value code (heard x (c * frames) (k + 1) xs)

count_is : (s : ProcessorView) (code : List Instr) (old lent : List (List ℤ)) (others : List ℤ) → IsLent s code old lent others → length s.channels ≡ length old
count_is s code old lent others is = sym (ap (λ (v : ProcessorView). length v.channels) is.view)

-- ---- a block

pub processor_stands : (s : ProcessorView) (code : List Instr) (old lent now : List (List ℤ)) (others new x : List ℤ) (frames : ℕ) → IsLent s code old lent others
    → length x ≡ length s.channels * frames → length now ≡ length old → HaveHeard code lent now x frames → new ≡ after_silence code others frames
    → (c : ℕ) (xs : List ℤ) → ProcessorStands s c xs → get_or now c new ≡ cells_after code (heard x (c * frames) frames xs)
processor_stands s code old lent now others new x frames is long same have nothing c xs stands =
    let all = subst (λ (v : List (List ℤ)). HaveHeard code v now x frames) is.channels have in
    let before : ProcessorStands (record { code = code; channels = old; others = others }) c xs = subst (λ (v : ProcessorView). ProcessorStands v c xs) (sym is.view) stands in
    block_stands code old now others new x frames (long ∙ ap (λ n. n * frames) (count_is s code old lent others is)) same all nothing c xs before

pub processor_output : (s : ProcessorView) (code : List Instr) (old lent : List (List ℤ)) (others x y : List ℤ) (frames : ℕ) → IsLent s code old lent others
    → WritesOutputs code lent x y frames
    → (c k : ℕ) (xs : List ℤ) → c < length s.channels → k < frames → ProcessorStands s c xs → item y (c * frames + k) ≡ program_value s.code (heard x (c * frames) (k + 1) xs)
processor_output s code old lent others x y frames is written c k xs there lt stands =
    let w = subst (λ (v : List (List ℤ)). WritesOutputs code v x y frames) is.channels written in
    let before : ProcessorStands (record { code = code; channels = old; others = others }) c xs = subst (λ (v : ProcessorView). ProcessorStands v c xs) (sym is.view) stands in
    let count = count_is s code old lent others is in
    w c k others xs (omega arith) lt before
    ∙ ap (λ (v : ProcessorView). program_value v.code (heard x (c * frames) (k + 1) xs)) is.view

-- ---- one frame is a block of one

pub step_stands : (s : ProcessorView) (code : List Instr) (old lent now : List (List ℤ)) (others new x : List ℤ) → IsLent s code old lent others
    → length x ≡ length s.channels → length now ≡ length old → HaveHeard code lent now x 1 → new ≡ after_silence code others 1
    → (c : ℕ) (xs : List ℤ) → ProcessorStands s c xs → get_or now c new ≡ cells_after code (item x c ∷ xs)
step_stands s code old lent now others new x is long same have nothing c xs stands =
    let place : c * 1 + 0 ≡ c = omega arith in
    subst (λ p. get_or now c new ≡ cells_after code (item x p ∷ xs)) place
    (processor_stands s code old lent now others new x 1 is (omega arith) same have nothing c xs stands)

pub step_output : (s : ProcessorView) (code : List Instr) (old lent : List (List ℤ)) (others x y : List ℤ) → IsLent s code old lent others → WritesOutputs code lent x y 1
    → (c : ℕ) (xs : List ℤ) → c < length s.channels → ProcessorStands s c xs → item y c ≡ program_value s.code (item x c ∷ xs)
step_output s code old lent others x y is written c xs there stands =
    let place : c * 1 + 0 ≡ c = omega arith in
    subst (λ p. item y p ≡ program_value s.code (item x p ∷ xs)) place
    (processor_output s code old lent others x y 1 is written c 0 xs there (omega arith) stands)
