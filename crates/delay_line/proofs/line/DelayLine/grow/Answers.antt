use Rattle.std.proofs.Common.{ℕ, ◌≡◌, ◌+◌, ap, sym, subst, ◌∙◌}
use Rattle.delay_line.specs.Lines.{Line, Keeps}
use Rattle.delay_line.proofs.Keeping.{keeps_grown, channel_of}
use Rattle.delay_line.proofs.Writing.{items_of, channel_grown}
use Rattle.delay_line.proofs.line.DelayLine.grow.Goals as goal

pub returns-clause-keeps : goal.returns-clause-keeps
returns-clause-keeps c writer =
    let inside = c.self.inside in
    let grown = c.grow_rings.ensures.grown in
    let same : (k : ℕ) → channel_of (items_of c.grow_rings.new.rings.items) k ≡ channel_of (items_of inside.rings.items) k = λ k. ap (λ rings. channel_of (items_of rings) k) grown.1 ∙ channel_grown inside.rings.items grown.0 (inside.capacity + inside.block) k in (
      λ keeps. keeps_grown inside.capacity inside.block inside.blocks inside.counts.items (items_of inside.rings.items) (items_of c.grow_rings.new.rings.items) same writer
          (subst (λ (line : Line). Keeps line writer) (sym c.self.view_is) keeps),
      λ keeps. subst (λ (line : Line). Keeps line writer) c.self.view_is
          (keeps_grown inside.capacity inside.block inside.blocks inside.counts.items (items_of c.grow_rings.new.rings.items) (items_of inside.rings.items) (λ k. sym (same k)) writer keeps),
    )
