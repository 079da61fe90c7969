-- The fields that hold one of a list of words: what each word stands for. And the words of a processor's instructions.
use Rattle.std.specs.Prelude.{ℕ, List, [], ◌∷◌, ◌++◌, codes, decimal, bytes_eq, find, Option}
use Rattle.std.specs.Fmt.{signed_decimal}
use Rattle.node_table.specs.declared.code.Instr.{Instr}
use Rattle.node_table.specs.declared.code.Instr.TheVariants as instr
use Rattle.wa_base.specs.GraphNames.{mode_word, interp_word, rate_word}
use Rattle.wa_base.specs.declared.graph_names.Mode.{Mode}
use Rattle.wa_base.specs.declared.graph_names.Mode.TheVariants.{Max, ClampedMax, Explicit}
use Rattle.wa_base.specs.declared.graph_names.Interp.{Interp}
use Rattle.wa_base.specs.declared.graph_names.Interp.TheVariants.{Speakers, Discrete}
use Rattle.wa_base.specs.declared.graph_names.Rate.{Rate}
use Rattle.wa_base.specs.declared.graph_names.Rate.TheVariants.{A, K}
use Rattle.script_ast.specs.declared.operations.Oversample.{Oversample}
use Rattle.script_ast.specs.declared.operations.Oversample.TheVariants.{Off, Two, Four}

-- every ChannelCountMode
abbrev pub modes : List Mode
modes = Max ∷ ClampedMax ∷ Explicit ∷ []

-- the first of these modes that the text names
abbrev pub first_mode : List ℕ → List Mode → Option Mode
first_mode word listed = find (λ mode. bytes_eq (mode_word mode) word) listed

-- the ChannelCountMode that a text names
unfoldable pub mode_named : List ℕ → Option Mode
mode_named word = first_mode word modes

-- every ChannelInterpretation
abbrev pub interps : List Interp
interps = Speakers ∷ Discrete ∷ []

-- the first of these interpretations that the text names
abbrev pub first_interp : List ℕ → List Interp → Option Interp
first_interp word listed = find (λ interp. bytes_eq (interp_word interp) word) listed

-- the ChannelInterpretation that a text names
unfoldable pub interp_named : List ℕ → Option Interp
interp_named word = first_interp word interps

-- every AutomationRate
abbrev pub rates : List Rate
rates = A ∷ K ∷ []

-- the first of these rates that the text names
abbrev pub first_rate : List ℕ → List Rate → Option Rate
first_rate word listed = find (λ rate. bytes_eq (rate_word rate) word) listed

-- the AutomationRate that a text names
unfoldable pub rate_named : List ℕ → Option Rate
rate_named word = first_rate word rates

-- the word of an OverSampleType
abbrev pub oversample_word : Oversample → List ℕ
oversample_word Off = codes "none"
oversample_word Two = codes "2x"
oversample_word Four = codes "4x"

-- every OverSampleType
abbrev pub oversamples : List Oversample
oversamples = Off ∷ Two ∷ Four ∷ []

-- the first of these that the text names
abbrev pub first_oversample : List ℕ → List Oversample → Option Oversample
first_oversample word listed = find (λ oversample. bytes_eq (oversample_word oversample) word) listed

-- the OverSampleType that a text names
unfoldable pub oversample_named : List ℕ → Option Oversample
oversample_named word = first_oversample word oversamples

-- the word of an instruction
abbrev pub instr_word : Instr → List ℕ
instr_word instr.Input = codes "in"
instr_word (instr.Push v) = codes "push"
instr_word (instr.Load k) = codes "load"
instr_word (instr.Store k) = codes "store"
instr_word instr.Add = codes "add"
instr_word instr.Sub = codes "sub"
instr_word instr.Min = codes "min"
instr_word instr.Max = codes "max"
instr_word instr.Mul = codes "mul"
instr_word instr.Neg = codes "neg"
instr_word (instr.Div d) = codes "div"
instr_word instr.Dup = codes "dup"
instr_word instr.Swap = codes "swap"
instr_word instr.Discard = codes "drop"
instr_word (instr.Skip k) = codes "skip"
instr_word (instr.Skipz k) = codes "skipz"

-- what stands behind the word: one space and the instruction's number without leading zeros, where it has one
abbrev pub operand_text : Instr → List ℕ
operand_text (instr.Push v) = codes " " ++ signed_decimal v
operand_text (instr.Load k) = codes " " ++ decimal k
operand_text (instr.Store k) = codes " " ++ decimal k
operand_text (instr.Div d) = codes " " ++ decimal d
operand_text (instr.Skip k) = codes " " ++ decimal k
operand_text (instr.Skipz k) = codes " " ++ decimal k
operand_text other = []

-- an instruction as it is written
abbrev pub instr_text : Instr → List ℕ
instr_text i = instr_word i ++ operand_text i
