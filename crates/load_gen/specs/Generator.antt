-- The script of a number.
use Rattle.std.specs.Prelude.{ℕ, zero, suc, ◌≡◌, ◌+◌, ◌*◌, pos, List, [], ◌∷◌, ◌++◌, length, codes}
use Rattle.wa_base.specs.declared.contexts.ContextSpec.{ContextSpec}
use Rattle.script_ast.specs.declared.call_list.Call.{Call}
use Rattle.script_ast.specs.declared.call_list.Script.{Script}
use Rattle.script_ast.specs.declared.operations.Op.{Op}
use Rattle.script_ast.specs.declared.operations.Op.TheVariants as op
use Rattle.load_gen.specs.Voices.{gain, ops_of_voices}

-- the operations as calls of one list, whose ordinals go on from this one
abbrev pub in_list : ℕ → ℕ → List Op → List Call
in_list first holder [] = []
in_list first holder (op ∷ ops) = record { ordinal = first; holder = holder; op = op } ∷ in_list (suc first) holder ops

-- the calls have these operations behind what they had, in the list of a holder
abbrev pub Adds : ℕ → List Op → List Call → List Call → Type 0
Adds holder ops old new = new ≡ old ++ in_list (length old + 1) holder ops

-- the gain of each fifth voice to 0
abbrev pub muting_ops : ℕ → List Op
muting_ops zero = []
muting_ops (suc voices) = muting_ops voices ++ op.SetValue (gain (5 * voices)) (codes "gain") (pos 0) ∷ []

-- 200 voices, and a suspension in the middle
abbrev pub ops_before : ℕ → List Op
ops_before seed = ops_of_voices seed 200 ++ op.Suspend (pos 240000) ∷ []

-- what is done in the suspension
abbrev pub held_ops : List Op
held_ops = muting_ops 40 ++ op.Resume ∷ []

-- the calls: those of the main list up to the suspension, those that it holds, and the start of the rendering
unfoldable pub calls : ℕ → List Call
calls seed =
    let before = ops_before seed in
    let suspension = length before in
    in_list 1 0 before
    ++ in_list (suspension + 1) suspension held_ops
    ++ in_list (suspension + length held_ops + 1) 0 (op.StartRendering ∷ [])

-- two channels, ten seconds at 48,000 Hz
abbrev pub context : ContextSpec
context = record { channels = 2; length = 480000; rate = 48000; quantum = 128 }

-- the script of a number
abbrev pub script : ℕ → Script
script number = record { context = context; calls = calls number }
