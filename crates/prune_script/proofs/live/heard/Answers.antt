use Rattle.std.specs.Prelude.{IfOk}
use Rattle.std.proofs.Common.{ℕ, Bool, ◌≡◌, ◌<◌, length, sym, ◌∙◌, ap, subst}
use Rattle.law_base.specs.Members.{IsIn}
use Rattle.prune_script.specs.Deeds.{links, heard_of}
use Rattle.prune_script.specs.Keeping.{TellsHeard}
use Rattle.prune_script.specs.Live.{sources_at, is_marked, AreLed}
use Rattle.prune_script.specs.Pruned.{is_live}
use Rattle.prune_script.proofs.Liveness.{marks_are}
use Rattle.prune_script.proofs.Sources.{sources_below}
use Rattle.prune_script.proofs.live.heard.Goals as goal

pub live_nodes-requires-clause-within : goal.live_nodes-requires-clause-within
live_nodes-requires-clause-within c node source h =
    let same : sources_at c.as_slice.result.now node ≡ sources_at c.in_ok-sources.sources.items node = ap (λ xs. sources_at xs node) c.as_slice.ensures.value in
    let low = sources_below c.args.count c.args.deeds.now c.requires.below source node (subst (λ xs. IsIn source xs) (same ∙ c.in_ok-sources.ensures.each node) h) in
    subst (λ n. source < n) (sym (ap length c.as_slice.ensures.value ∙ c.in_ok-sources.ensures.length)) low

pub returns-clause-each : goal.returns-clause-each
returns-clause-each c =
    let sources = c.in_ok-sources.sources.items in
    let live = c.in_ok-live.live.items in
    let are : AreLed sources live = subst (λ xs. AreLed xs live) c.as_slice.ensures.value c.in_ok-live.ensures in
    let marks : is_marked live ≡ is_live (links c.args.deeds.now) = marks_are (links c.args.deeds.now) sources c.in_ok-sources.ensures.each live are in
    subst (λ (test : ℕ → Bool). IfOk c.marked_heard.result (λ heard. TellsHeard (heard_of test c.args.deeds.now) heard.items)) (ap is_marked c.as_slice-2.ensures.value ∙ marks) c.marked_heard.ensures.each
