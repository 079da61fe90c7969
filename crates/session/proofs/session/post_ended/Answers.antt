use Rattle.session.proofs.Turning.{marks_sent, marks_none}
use Rattle.session.proofs.session.post_ended.Goals as goal

pub returns-then-any : goal.returns-then-any
returns-then-any c = marks_sent _ _ _ c.post.ensures

pub returns-else-any : goal.returns-else-any
returns-else-any c = marks_none _ _ (c.requires.none c.if-any.false)
