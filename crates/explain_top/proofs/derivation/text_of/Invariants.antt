use Rattle.std.proofs.Common.{◌≡◌, ◌≤◌, ◌^◌, length, take}
use Rattle.explain.specs.Texts.{facts_text}
use Rattle.explain_top.proofs.derivation.text_of.Given as goal

abbrev pub invariant-loop-fact : goal.invariant-loop-fact
invariant-loop-fact l = (l.text.items ≡ facts_text (take l.fact-index l.facts)) × (length l.text.items ≤ 2 ^ 26)
