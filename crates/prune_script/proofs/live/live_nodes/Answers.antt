use Rattle.std.proofs.Common.{ℕ, List, rules, ◌≡◌, ◌<◌, ◌∷◌, [], length, filter, not, sym, ◌∙◌, ap, subst, refl, arith}
use Rattle.std.proofs.lemmas.List.{get_or_read, with_items_is, length_push}
use Rattle.law_base.specs.Members.{IsIn}
use Rattle.prune_script.specs.Live.{sources_at, IsMarking}
use Rattle.prune_script.proofs.Marking.{IsSpreading, start_at, waiting_within, spread_step, spread_done}
use Rattle.prune_script.proofs.live.live_nodes.Goals as goal

pub loop-node-init : goal.loop-node-init
loop-node-init c = start_at c.args.sources.now (length c.args.sources.now) c.in_ok-live.live.items c.in_ok-waiting.waiting.items c.requires.some refl (c.in_ok-live.ensures.items_if_clones_equal (λ y e. e)) c.in_ok-waiting.ensures.items

pub bounds-sources-node : goal.bounds-sources-node
bounds-sources-node c = waiting_within c.args.sources.now c.loop-node.live.items c.loop-node.waiting.items c.pop.new.self.items c.in-Some.node c.loop-node.invariant c.in-Some.ensures.items

pub mark-requires : goal.mark-requires
mark-requires c node h =
    let within = waiting_within c.args.sources.now c.loop-node.live.items c.loop-node.waiting.items c.pop.new.self.items c.in-Some.node c.loop-node.invariant c.in-Some.ensures.items in
    let same : c.as_slice.result.now ≡ sources_at c.args.sources.now c.in-Some.node =
    c.as_slice.ensures ∙ get_or_read c.args.sources.now c.in-Some.node c.index-sources-node.result within c.index-sources-node.is [] in
    let low = c.requires.within c.in-Some.node node (subst (λ xs. IsIn node xs) same h) in
    subst (λ n. node < n) (sym (ap length c.deref_mut.ensures.value ∙ c.loop-node.invariant.same)) low

pub loop-node-smaller : goal.loop-node-smaller
loop-node-smaller c =
    let r = c.in_ok-mark.ensures in
    let live = with_items_is c.loop-node.live c.mark.new.marks (r.same ∙ c.deref_mut.ensures.len) in
    let unmarked = ap (λ ms. length (filter not ms)) live in
    let before = ap (λ ms. length (filter not ms)) c.deref_mut.ensures.value in
    let waiting = ap length c.in-Some.ensures.items ∙ length_push c.pop.new.self.items c.in-Some.node in
    let number = r.number in
    omega arith

pub loop-node-preserved : goal.loop-node-preserved
loop-node-preserved c =
    let within = waiting_within c.args.sources.now c.loop-node.live.items c.loop-node.waiting.items c.pop.new.self.items c.in-Some.node c.loop-node.invariant c.in-Some.ensures.items in
    let same : c.as_slice.result.now ≡ sources_at c.args.sources.now c.in-Some.node =
    c.as_slice.ensures ∙ get_or_read c.args.sources.now c.in-Some.node c.index-sources-node.result within c.index-sources-node.is [] in
    let r = c.in_ok-mark.ensures in
    subst (λ ms. IsSpreading c.args.sources.now ms c.mark.new.waiting.items) (sym (with_items_is c.loop-node.live c.mark.new.marks (r.same ∙ c.deref_mut.ensures.len)))
    (spread_step c.args.sources.now c.in-Some.node c.loop-node.live.items c.pop.new.self.items c.mark.new.marks c.mark.new.waiting.items
    (subst (λ ws. IsSpreading c.args.sources.now c.loop-node.live.items ws) c.in-Some.ensures.items c.loop-node.invariant)
    (subst (λ ns. IsMarking ns c.loop-node.live.items c.pop.new.self.items c.mark.new.marks c.mark.new.waiting.items) same
    (subst (λ ms. IsMarking c.as_slice.result.now ms c.pop.new.self.items c.mark.new.marks c.mark.new.waiting.items) c.deref_mut.ensures.value r)))

pub returns : goal.returns
returns c = spread_done c.args.sources.now c.loop-node.live.items
    (subst (λ ws. IsSpreading c.args.sources.now c.loop-node.live.items ws) (let l : length c.loop-node.waiting.items ≡ 0 = search rules in no_items c.loop-node.waiting.items l) c.loop-node.invariant)
  where
    no_items : (xs : List ℕ) → length xs ≡ 0 → xs ≡ []
    no_items [] l = refl
    no_items (x ∷ xs) l = absurd (omega arith)
