use Rattle.explain.proofs.TextLaws.{same_facts}
use Rattle.explain.proofs.text_law.Goals as goal

pub returns : goal.returns
returns c xs ys a b same = same_facts xs ys a b same
