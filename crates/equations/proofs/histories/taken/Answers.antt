use Rattle.std.proofs.Common.{rules, FitsSigned, ◌≡◌, ◌/◌, ◌≤◌, ◌<◌, true, false, ◌∙◌, ap, subst}
use Rattle.std.specs.Int.{w32}
use Rattle.std.proofs.lemmas.Int.{to_z-of_z}
use Rattle.conn_graph.specs.Ends.{reader_of, muted}
use Rattle.derivations.specs.Contexts.{tape_in, world_of}
use Rattle.derivations.specs.Stretches.{IsInForce}
use Rattle.equations.specs.Given.{meaning_of}
use Rattle.equations.proofs.Taken.{end_there, muted_now, inlet_known, muted_taken, loud_taken, absent_taken}
use Rattle.equations.proofs.histories.taken.Goals as goal

pub is_muted-requires-clause-end : goal.is_muted-requires-clause-end
is_muted-requires-clause-end c =
    let force : IsInForce (tape_in c.args.context) (c.args.heard.frame / c.args.context.quantum) c.piece.result.now = subst (λ q. IsInForce (tape_in c.args.context) (c.args.heard.frame / q) c.piece.result.now) c.from.ensures c.piece.ensures.piece in
    end_there c.args.context c.requires.given c.args.heard c.requires.heard c.piece.result.now force

pub returns-then-is_muted : goal.returns-then-is_muted
returns-then-is_muted c =
    let force : IsInForce (tape_in c.args.context) (c.args.heard.frame / c.args.context.quantum) c.piece.result.now = subst (λ q. IsInForce (tape_in c.args.context) (c.args.heard.frame / q) c.piece.result.now) c.from.ensures c.piece.ensures.piece in
    muted_taken c.args.context c.requires.given c.args.heard c.requires.heard
    (muted_now c.args.context c.requires.given c.args.heard c.requires.heard c.piece.result.now force c.is_muted.result true c.is_muted.ensures c.if-is_muted.true)

pub returns-then-heard-count_of : goal.returns-then-heard-count_of
returns-then-heard-count_of c =
    let force : IsInForce (tape_in c.args.context) (c.args.heard.frame / c.args.context.quantum) c.piece.result.now = subst (λ q. IsInForce (tape_in c.args.context) (c.args.heard.frame / q) c.piece.result.now) c.from.ensures c.piece.ensures.piece in
    let loud : muted (world_of c.args.context c.args.heard.frame).graph.value (reader_of c.args.heard.node.0) ≡ false =
    muted_now c.args.context c.requires.given c.args.heard c.requires.heard c.piece.result.now force c.is_muted.result false c.is_muted.ensures c.if-is_muted.false in
    let many : c.count_of.result ≡ (meaning_of c.args.context).counts (c.args.heard.frame / c.args.context.quantum) (reader_of c.args.heard.node.0) =
    c.count_of.ensures.value ∙ ap (λ q. (meaning_of c.args.context).counts (c.args.heard.frame / q) (reader_of c.args.heard.node.0)) c.from.ensures in
    absent_taken c.args.context c.requires.given c.args.heard c.requires.heard loud (subst (λ k. k ≤ c.args.heard.channel) many c.if-heard-count_of.true)

pub inlet_of-requires-clause-known : goal.inlet_of-requires-clause-known
inlet_of-requires-clause-known c =
    let force : IsInForce (tape_in c.args.context) (c.args.heard.frame / c.args.context.quantum) c.piece.result.now = subst (λ q. IsInForce (tape_in c.args.context) (c.args.heard.frame / q) c.piece.result.now) c.from.ensures c.piece.ensures.piece in
    let loud : muted (world_of c.args.context c.args.heard.frame).graph.value (reader_of c.args.heard.node.0) ≡ false =
    muted_now c.args.context c.requires.given c.args.heard c.requires.heard c.piece.result.now force c.is_muted.result false c.is_muted.ensures c.if-is_muted.false in
    let many : c.count_of.result ≡ (meaning_of c.args.context).counts (c.args.heard.frame / c.args.context.quantum) (reader_of c.args.heard.node.0) =
    c.count_of.ensures.value ∙ ap (λ q. (meaning_of c.args.context).counts (c.args.heard.frame / q) (reader_of c.args.heard.node.0)) c.from.ensures in
    inlet_known c.args.context c.requires.given c.args.heard c.requires.heard loud (subst (λ k. c.args.heard.channel < k) many c.if-heard-count_of.false)

pub returns : goal.returns
returns c =
    let force : IsInForce (tape_in c.args.context) (c.args.heard.frame / c.args.context.quantum) c.piece.result.now = subst (λ q. IsInForce (tape_in c.args.context) (c.args.heard.frame / q) c.piece.result.now) c.from.ensures c.piece.ensures.piece in
    let loud : muted (world_of c.args.context c.args.heard.frame).graph.value (reader_of c.args.heard.node.0) ≡ false =
    muted_now c.args.context c.requires.given c.args.heard c.requires.heard c.piece.result.now force c.is_muted.result false c.is_muted.ensures c.if-is_muted.false in
    let fits : FitsSigned w32 c.inlet_of.result = search rules in
    to_z-of_z _ _ fits ∙ c.inlet_of.ensures ∙ loud_taken c.args.context c.requires.given c.args.heard c.requires.heard loud
