use Rattle.std.proofs.Common.{rules, ℕ, ◌≡◌, ◌<◌, length, get_or, set, true, false, sym, ◌∙◌, ap, subst, arith}
use Rattle.std.proofs.lemmas.List.{length-set, length-replicate}
use Rattle.prune_script.specs.Deeds.{DeedView, IsBelow, is_heard}
use Rattle.prune_script.specs.Live.{is_marked}
use Rattle.prune_script.proofs.Hearing.{tells_none, tells_unheard, tells_heard, tells_all}
use Rattle.prune_script.proofs.live.marked_heard.Goals as goal
use Rattle.prune_script.proofs.live.marked_heard.Goals.{then-is_heard, else-is_heard}

pub loop-deed-init : goal.loop-deed-init
loop-deed-init c = record {
  same = ap length (c.in_ok-heard.ensures.items_if_clones_equal (λ y e. e)) ∙ length-replicate (length c.args.live.now) false;
  tells = tells_none (is_marked c.args.live.now) (length c.args.live.now) c.in_ok-heard.heard.items (c.in_ok-heard.ensures.items_if_clones_equal (λ y e. e));
}

pub index_mut-requires : goal.index_mut-requires
index_mut-requires c =
    let same : c.deed.inside.ordinal ≡ c.deed-item.result.ordinal = ap (λ (d : DeedView). d.ordinal) c.deed.view_is in
    let below : IsBelow (length c.args.live.now) (get_or c.args.deeds.now c.loop-deed.deed-index c.deed-item.result) = c.requires c.loop-deed.deed-index c.deed-item.result c.loop-deed-test.true in
    let low : c.deed-item.result.ordinal < length c.args.live.now = subst (λ (d : DeedView). d.ordinal < length c.args.live.now) (sym c.deed-item.is) below.ordinal in
    let within : c.deed.inside.ordinal < length c.loop-deed.heard.items = let e = c.loop-deed.invariant.same in omega arith in
    search rules

pub loop-deed-preserved : goal.loop-deed-preserved
loop-deed-preserved c =
    let none = c.deed-item.result in
    let i : ℕ = c.loop-deed.deed-index in
    let live = is_marked c.args.live.now in
    let same : c.deed.inside.ordinal ≡ c.deed-item.result.ordinal = ap (λ (d : DeedView). d.ordinal) c.deed.view_is in
    let at : c.deed.inside.ordinal ≡ (get_or c.args.deeds.now i none).ordinal = same ∙ ap (λ (d : DeedView). d.ordinal) c.deed-item.is in
    let below : IsBelow (length c.args.live.now) (get_or c.args.deeds.now i none) = c.requires i none c.loop-deed-test.true in
    let given : c.is_heard.result ≡ is_heard live (get_or c.args.deeds.now i none) = c.is_heard.ensures ∙ ap (is_heard live) c.deed-item.is in
    elim c.if-is_heard.branch [
      | then-is_heard w ↦ record {
        same = ap (λ v. length v.items) w.heard-is ∙ length-set c.loop-deed.heard.items c.deed.inside.ordinal true ∙ c.loop-deed.invariant.same;
        tells = tells_heard live c.args.deeds.now i none c.loop-deed-test.true c.loop-deed.heard.items c.if-is_heard.heard.items c.loop-deed.invariant.tells
            (sym given ∙ w.if-is_heard.true) (subst (λ n. (get_or c.args.deeds.now i none).ordinal < n) (sym c.loop-deed.invariant.same) below.ordinal)
            (ap (λ v. v.items) w.heard-is ∙ ap (λ n. set c.loop-deed.heard.items n true) at);
      }
      | else-is_heard w ↦ record {
        same = ap (λ v. length v.items) w.heard-is ∙ c.loop-deed.invariant.same;
        tells = tells_unheard live c.args.deeds.now i none c.loop-deed-test.true c.loop-deed.heard.items c.if-is_heard.heard.items c.loop-deed.invariant.tells
            (sym given ∙ w.if-is_heard.false) (ap (λ v. v.items) w.heard-is);
      }
    ]

pub returns-clause-each : goal.returns-clause-each
returns-clause-each c = tells_all (is_marked c.args.live.now) c.args.deeds.now c.loop-deed.deed-index c.loop-deed.heard.items c.loop-deed-test.false c.loop-deed.invariant.tells
