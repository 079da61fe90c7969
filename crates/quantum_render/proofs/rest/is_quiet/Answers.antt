use Rattle.std.proofs.Common.{ℕ, ℤ, List, ◌≡◌, ◌⊎◌, inl, inr, sym, ◌∙◌, subst}
use Rattle.wa_base.specs.declared.graph_names.End.{End}
use Rattle.node_table.specs.declared.kinds.Kind.{Kind}
use Rattle.node_table.specs.declared.kinds.Kind.TheVariants.{Destination, Gain, Splitter, Merger}
use Rattle.meaning.specs.declared.world.World.{World}
use Rattle.meaning.proofs.NodeKinds.{kind_is}
use Rattle.quantum_render.specs.Idle.{IsQuiet}
use Rattle.quantum_render.proofs.rest.is_quiet.Goals as goal

effect : (w : World) (counts : List ℕ) (from until : ℕ) (e : End) (kind : Kind) → (kind ≡ Destination) ⊎ (((gain : ℤ) × (kind ≡ Gain gain)) ⊎ (((ports : ℕ) × (kind ≡ Splitter ports)) ⊎ ((ports : ℕ) × (kind ≡ Merger ports))))
    → IsQuiet w counts from until e kind
effect w counts from until e kind (inl is) = subst (IsQuiet w counts from until e) (sym is) tt
effect w counts from until e kind (inr (inl is)) = subst (IsQuiet w counts from until e) (sym is.1) tt
effect w counts from until e kind (inr (inr (inl is))) = subst (IsQuiet w counts from until e) (sym is.1) tt
effect w counts from until e kind (inr (inr (inr is))) = subst (IsQuiet w counts from until e) (sym is.1) tt

pub returns-then-is_unheard : goal.returns-then-is_unheard
returns-then-is_unheard c one =
    let w : World = c.args.ahead.now.census.now.world.now in
    subst (IsQuiet w c.args.ahead.now.counts.now c.args.ahead.now.census.now.first c.args.ahead.now.until c.args.end) (sym (kind_is w c.args.end.node.0 c.kind.result.now c.requires.there c.kind.ensures.value ∙ c.in-Buffer.is))
    (c.is_unheard-in-Buffer.ensures c.if-is_unheard.true, c.has_count.ensures one)

pub returns-in-Destination-2 : goal.returns-in-Destination-2
returns-in-Destination-2 c is =
    let w : World = c.args.ahead.now.census.now.world.now in
    subst (IsQuiet w c.args.ahead.now.counts.now c.args.ahead.now.census.now.first c.args.ahead.now.until c.args.end) (sym (kind_is w c.args.end.node.0 c.kind.result.now c.requires.there c.kind.ensures.value))
    (effect w c.args.ahead.now.counts.now c.args.ahead.now.census.now.first c.args.ahead.now.until c.args.end c.kind.result.now c.in-Destination.is)

pub returns-in-Destination-3 : goal.returns-in-Destination-3
returns-in-Destination-3 c is =
    let w : World = c.args.ahead.now.census.now.world.now in
    subst (IsQuiet w c.args.ahead.now.counts.now c.args.ahead.now.census.now.first c.args.ahead.now.until c.args.end) (sym (kind_is w c.args.end.node.0 c.kind.result.now c.requires.there c.kind.ensures.value))
    (effect w c.args.ahead.now.counts.now c.args.ahead.now.census.now.first c.args.ahead.now.until c.args.end c.kind.result.now c.in-Destination.is)

pub returns-in-Destination-4 : goal.returns-in-Destination-4
returns-in-Destination-4 c is =
    let w : World = c.args.ahead.now.census.now.world.now in
    subst (IsQuiet w c.args.ahead.now.counts.now c.args.ahead.now.census.now.first c.args.ahead.now.until c.args.end) (sym (kind_is w c.args.end.node.0 c.kind.result.now c.requires.there c.kind.ensures.value))
    (effect w c.args.ahead.now.counts.now c.args.ahead.now.census.now.first c.args.ahead.now.until c.args.end c.kind.result.now c.in-Destination.is)
