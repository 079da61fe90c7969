use Rattle.std.proofs.Common.{rules, FitsSigned, subst, ◌≡◌, ◌/◌, ◌∷◌, [], sym, ◌∙◌, ap}
use Rattle.std.specs.Prelude.{IfOk}
use Rattle.std.specs.Int.{w32}
use Rattle.std.proofs.lemmas.Int.{to_z-of_z}
use Rattle.node_table.specs.Curves.{shaper_value}
use Rattle.node_table.specs.declared.kinds.Kind.TheVariants.{Shaper, Causal}
use Rattle.meaning.specs.World.{kind_of}
use Rattle.explain.specs.Accounts.{result_of, cells_of}
use Rattle.explain.specs.Facts.{has_history}
use Rattle.explain.specs.Needs.{hears}
use Rattle.derivations.specs.Contexts.{world_of}
use Rattle.equations.specs.declared.histories.History.{History}
use Rattle.equations.specs.Histories.{all_heard}
use Rattle.equations.proofs.Aging.{born_low, no_other, kind_now, recalled_now}
use Rattle.equations.proofs.InForce.{node_low}
use Rattle.equations.proofs.Limits.{curve_of}
use Rattle.equations.proofs.Recalling.{shaper_is, now_heard}
use Rattle.equations.proofs.histories.history_of.Goals as goal

pub overflow_sub-age : goal.overflow_sub-age
overflow_sub-age c =
    born_low c.args.context c.requires.given c.args.heard.frame c.args.heard.node.0 c.requires.past.there c.requires.past.node c.piece_at.result.now c.piece_at.ensures c.attrs.result c.attrs.ensures.value

pub kind-requires : goal.kind-requires
kind-requires c = node_low c.args.context c.requires.given (c.args.heard.frame / c.args.context.quantum) c.piece_at.result.now c.piece_at.ensures c.args.heard.node.0 c.requires.past.node

pub taken-requires-clause-heard : goal.taken-requires-clause-heard
taken-requires-clause-heard c =
    let same : kind_of (world_of c.args.context c.args.heard.frame) c.args.heard.node.0 ≡ Shaper c.in-Shaper.curve c.in-Shaper.was_set = kind_now c.args.context c.requires.given c.args.heard c.requires.past c.piece_at.result.now c.piece_at.ensures c.kind.result.now c.kind.ensures.value ∙ c.in-Shaper.is in
    let recalled = recalled_now c.args.context c.requires.given c.args.heard c.requires.past c.piece_at.result.now c.piece_at.ensures c.requires.known c.attrs.result c.attrs.ensures.value in
    now_heard c.args.context c.requires.given c.args.heard _ recalled (ap (λ k. hears k 0) same)

pub shaped-value-requires : goal.shaped-value-requires
shaped-value-requires c =
    let same : kind_of (world_of c.args.context c.args.heard.frame) c.args.heard.node.0 ≡ Shaper c.in-Shaper.curve c.in-Shaper.was_set = kind_now c.args.context c.requires.given c.args.heard c.requires.past c.piece_at.result.now c.piece_at.ensures c.kind.result.now c.kind.ensures.value ∙ c.in-Shaper.is in
    curve_of c.args.context c.requires.given c.args.heard.frame c.args.heard.node.0 c.requires.past.there c.in-Shaper.curve c.in-Shaper.was_set same

pub caused-requires-clause-recalled : goal.caused-requires-clause-recalled
caused-requires-clause-recalled c =
    recalled_now c.args.context c.requires.given c.args.heard c.requires.past c.piece_at.result.now c.piece_at.ensures c.requires.known c.attrs.result c.attrs.ensures.value

pub caused-requires-clause-kind : goal.caused-requires-clause-kind
caused-requires-clause-kind c =
    kind_now c.args.context c.requires.given c.args.heard c.requires.past c.piece_at.result.now c.piece_at.ensures c.kind.result.now c.kind.ensures.value ∙ c.in-Causal.is

pub unreachable-requires : goal.unreachable-requires
unreachable-requires c =
    no_other c.kind.result.now c.in_default.not-Shaper c.in_default.not-Causal (sym (ap has_history (kind_now c.args.context c.requires.given c.args.heard c.requires.past c.piece_at.result.now c.piece_at.ensures c.kind.result.now c.kind.ensures.value)) ∙ c.requires.past.history)

pub returns-in-Shaper-clause-value : goal.returns-in-Shaper-clause-value
returns-in-Shaper-clause-value c =
    let same : kind_of (world_of c.args.context c.args.heard.frame) c.args.heard.node.0 ≡ Shaper c.in-Shaper.curve c.in-Shaper.was_set = kind_now c.args.context c.requires.given c.args.heard c.requires.past c.piece_at.result.now c.piece_at.ensures c.kind.result.now c.kind.ensures.value ∙ c.in-Shaper.is in
    let recalled = recalled_now c.args.context c.requires.given c.args.heard c.requires.past c.piece_at.result.now c.piece_at.ensures c.requires.known c.attrs.result c.attrs.ensures.value in
    let narrow : FitsSigned w32 c.shaped-value.result = search rules in
    let input : FitsSigned w32 c.taken.result = search rules in
    ap (λ (h : History). h.value) c.without_cells.ensures ∙ to_z-of_z _ _ narrow ∙ c.shaped-value.ensures ∙ ap (λ v. shaper_value c.in-Shaper.curve (v ∷ [])) (to_z-of_z _ _ input ∙ c.taken.ensures)
    ∙ shaper_is c.args.context c.requires.given c.args.heard _ recalled c.in-Shaper.curve c.in-Shaper.was_set
    ∙ sym (ap (λ k. result_of k (all_heard c.args.context c.args.heard)) same)

pub returns-in-Shaper-clause-cells : goal.returns-in-Shaper-clause-cells
returns-in-Shaper-clause-cells c =
    let same : kind_of (world_of c.args.context c.args.heard.frame) c.args.heard.node.0 ≡ Shaper c.in-Shaper.curve c.in-Shaper.was_set = kind_now c.args.context c.requires.given c.args.heard c.requires.past c.piece_at.result.now c.piece_at.ensures c.kind.result.now c.kind.ensures.value ∙ c.in-Shaper.is in
    ap (λ (h : History). h.cells) c.without_cells.ensures ∙ sym (ap (λ k. cells_of k (all_heard c.args.context c.args.heard)) same)

pub returns-in-Causal-clause-value : goal.returns-in-Causal-clause-value
returns-in-Causal-clause-value c =
    let same : kind_of (world_of c.args.context c.args.heard.frame) c.args.heard.node.0 ≡ Causal c.in-Causal.equation = kind_now c.args.context c.requires.given c.args.heard c.requires.past c.piece_at.result.now c.piece_at.ensures c.kind.result.now c.kind.ensures.value ∙ c.in-Causal.is in
    subst (λ k. IfOk c.caused.result (λ h. h.value ≡ result_of k (all_heard c.args.context c.args.heard))) (sym same) c.caused.ensures.value

pub returns-in-Causal-clause-cells : goal.returns-in-Causal-clause-cells
returns-in-Causal-clause-cells c =
    let same : kind_of (world_of c.args.context c.args.heard.frame) c.args.heard.node.0 ≡ Causal c.in-Causal.equation = kind_now c.args.context c.requires.given c.args.heard c.requires.past c.piece_at.result.now c.piece_at.ensures c.kind.result.now c.kind.ensures.value ∙ c.in-Causal.is in
    subst (λ k. IfOk c.caused.result (λ h. h.cells ≡ cells_of k (all_heard c.args.context c.args.heard))) (sym same) c.caused.ensures.cells
