-- The text of a line, as its parts are appended.
use Rattle.std.proofs.Common.{◌≡◌, ℕ, List, ◌++◌, codes, append_assoc}
use Rattle.std.specs.Fmt.{decimal}
use Rattle.wa_base.specs.declared.graph_names.NodeId.{NodeId}
use Rattle.transcript.specs.declared.lines.Answer.{Answer}
use Rattle.transcript.specs.declared.lines.Line.TheVariants.{Call, Ended}
use Rattle.transcript.specs.Text.{answer_text, line_text}

pub line_text_of_a_call : (ordinal : ℕ) (answer : Answer) → line_text (Call ordinal answer) ≡ decimal ordinal ++ (codes " " ++ (answer_text answer ++ codes "\n"))
unfolding line_text
line_text_of_a_call ordinal answer = simp append_assoc

pub append-line_text-Ended : (out : List ℕ) (node : NodeId) (name : List ℕ)
    → ((out ++ (codes "ended " ++ (decimal node.0 ++ codes " "))) ++ name) ++ codes "\n" ≡ out ++ line_text (Ended node name)
unfolding line_text
append-line_text-Ended out node name = simp append_assoc
