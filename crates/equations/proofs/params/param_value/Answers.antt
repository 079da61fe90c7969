use Rattle.std.proofs.Common.{rules, FitsSigned, ℕ, ◌≡◌, ◌*◌, ◌/◌, ◌≤◌, ◌+ℤ◌, length, List, filter, map, sym, ◌∙◌, ap, subst, arith}
use Rattle.std.specs.Prelude.{if◌then◌else◌}
use Rattle.std.specs.Int.{w32, w128}
use Rattle.std.proofs.lemmas.Int.{to_z-of_z}
use Rattle.wa_base.specs.declared.graph_names.Interp.TheVariants.{Speakers}
use Rattle.law_base.specs.Members.{IsIn}
use Rattle.mix_rules.specs.Mixing.{total}
use Rattle.conn_graph.specs.declared.edges.Edge.{Edge}
use Rattle.conn_graph.specs.declared.edges.Target.TheVariants.{Param}
use Rattle.conn_graph.specs.Cells.{enters}
use Rattle.conn_graph.specs.Graph.{edges_to_param}
use Rattle.meaning.specs.declared.world.World.{World}
use Rattle.meaning.specs.World.{intrinsic_value, is_k_rate, nominal}
use Rattle.explain.specs.Needs.{connections_needs}
use Rattle.derivations.specs.Contexts.{tape_in, world_of}
use Rattle.derivations.specs.Groups.{source_keys}
use Rattle.equations.specs.Given.{meaning_of, AllKnown, frame_of}
use Rattle.equations.specs.Sums.{led_part}
use Rattle.equations.proofs.Driving.{frame_low, taken, early, param_is}
use Rattle.equations.proofs.InForce.{valid, is, kind, node_low, into_is, edges_few}
use Rattle.equations.proofs.Ranging.{wide_sum}
use Rattle.equations.proofs.TakingIn.{filter_short, led_known, carried_known}
use Rattle.equations.proofs.params.param_value.Goals as goal

pub total_led-requires-clause-few : goal.total_led-requires-clause-few
total_led-requires-clause-few c =
    let are : c.part-edges.result.now ≡ filter (enters c.args.id.node.0) (world_of c.args.context c.args.frame).graph.value.edges =
    c.part-edges.ensures ∙ into_is c.args.context c.requires.given (c.args.frame / c.args.context.quantum) c.piece_at-stretch.result.now c.piece_at-stretch.ensures c.args.id.node.0 c.requires.node in
    subst (λ (es : List Edge). length es ≤ 8192) (sym are)
    (filter_short (enters c.args.id.node.0) _ 8192 (edges_few c.args.context c.requires.given (c.args.frame / c.args.context.quantum) c.piece_at-stretch.result.now c.piece_at-stretch.ensures))

pub total_led-requires-clause-known : goal.total_led-requires-clause-known
total_led-requires-clause-known c =
    let w : World = world_of c.args.context c.args.frame in
    let are : c.part-edges.result.now ≡ filter (enters c.args.id.node.0) w.graph.value.edges =
    c.part-edges.ensures ∙ into_is c.args.context c.requires.given (c.args.frame / c.args.context.quantum) c.piece_at-stretch.result.now c.piece_at-stretch.ensures c.args.id.node.0 c.requires.node in
    let at : c.param_frame-taken.result ≡ taken c.args.context c.requires.given c.args.frame c.args.id =
    c.param_frame-taken.ensures
    ∙ ap (λ (y : World). if is_k_rate y c.args.id then c.args.context.quantum * (c.args.frame / c.args.context.quantum) else c.args.frame) (sym (is c.args.context c.requires.given (c.args.frame / c.args.context.quantum) c.piece_at-stretch.result.now c.piece_at-stretch.ensures)) in
    let known : AllKnown c.args.context (connections_needs c.args.context.quantum (tape_in c.args.context) (meaning_of c.args.context) c.param_frame-taken.result (edges_to_param w.graph.value c.args.id)) =
    subst (λ g. AllKnown c.args.context (connections_needs c.args.context.quantum (tape_in c.args.context) (meaning_of c.args.context) g (edges_to_param w.graph.value c.args.id))) (sym at) c.requires.known in
    λ x h. led_known c.args.context (Param c.args.id) (source_keys c.args.context.quantum (tape_in c.args.context) (meaning_of c.args.context) c.param_frame-taken.result) w.graph.value.edges
    (λ e g. carried_known c.args.context c.param_frame-taken.result (edges_to_param w.graph.value c.args.id) known e g) x (subst (IsIn x) are h)

pub intrinsic_value-own-requires-clause-valid : goal.intrinsic_value-own-requires-clause-valid
intrinsic_value-own-requires-clause-valid c = valid c.args.context c.requires.given (c.args.frame / c.args.context.quantum) c.piece_at-stretch.result.now c.piece_at-stretch.ensures

pub intrinsic_value-own-requires-clause-time : goal.intrinsic_value-own-requires-clause-time
intrinsic_value-own-requires-clause-time c =
    let at : c.param_frame-taken.result ≡ taken c.args.context c.requires.given c.args.frame c.args.id =
    c.param_frame-taken.ensures
    ∙ ap (λ (y : World). if is_k_rate y c.args.id then c.args.context.quantum * (c.args.frame / c.args.context.quantum) else c.args.frame) (sym (is c.args.context c.requires.given (c.args.frame / c.args.context.quantum) c.piece_at-stretch.result.now c.piece_at-stretch.ensures)) in
    let before = early c.args.context c.requires.given c.args.frame c.args.id in
    let low = frame_low c.args.context.quantum c.args.frame (length (tape_in c.args.context)) c.requires.given.ready.some c.requires.there c.requires.given.short in
    omega (arith, at, before, low)

pub kind-requires : goal.kind-requires
kind-requires c = node_low c.args.context c.requires.given (c.args.frame / c.args.context.quantum) c.piece_at-stretch.result.now c.piece_at-stretch.ensures c.args.id.node.0 c.requires.node

pub returns : goal.returns
returns c =
    let w : World = world_of c.args.context c.args.frame in
    let j : ℕ = c.args.frame / c.args.context.quantum in
    let n : ℕ = c.args.id.node.0 in
    let g : ℕ = c.param_frame-taken.result in
    let are : c.part-edges.result.now ≡ filter (enters n) w.graph.value.edges =
    c.part-edges.ensures ∙ into_is c.args.context c.requires.given j c.piece_at-stretch.result.now c.piece_at-stretch.ensures n c.requires.node in
    let at : c.param_frame-taken.result ≡ taken c.args.context c.requires.given c.args.frame c.args.id =
    c.param_frame-taken.ensures
    ∙ ap (λ (y : World). if is_k_rate y c.args.id then c.args.context.quantum * (c.args.frame / c.args.context.quantum) else c.args.frame) (sym (is c.args.context c.requires.given (c.args.frame / c.args.context.quantum) c.piece_at-stretch.result.now c.piece_at-stretch.ensures)) in
    let exact : FitsSigned w128 c.total_led.result = search rules in
    let narrow : FitsSigned w32 c.nominal.result = search rules in
    let own : FitsSigned w32 c.intrinsic_value-own.result = search rules in
    let driven : FitsSigned w32 c.nearest-driven.result = search rules in
    to_z-of_z _ _ narrow ∙ c.nominal.ensures
    ∙ ap (nominal c.kind.result.now) (wide_sum c.from.result c.from-2.result c.intrinsic_value-own.result c.nearest-driven.result c.from.ensures c.from-2.ensures own driven)
    ∙ ap (λ v. nominal c.kind.result.now (c.intrinsic_value-own.result +ℤ v)) c.nearest-driven.ensures
    ∙ param_is c.args.context c.requires.given c.args.frame c.args.id g _ c.intrinsic_value-own.result c.kind.result.now at
    (kind c.args.context c.requires.given j c.piece_at-stretch.result.now c.piece_at-stretch.ensures n c.kind.result.now c.requires.node c.kind.ensures.value)
    (to_z-of_z _ _ exact ∙ c.total_led.ensures ∙ ap (λ es. total (map (led_part (Param c.args.id) (frame_of c.args.context g) (record { interp = Speakers; channels = 1; channel = 0 })) es)) are)
    (c.intrinsic_value-own.ensures ∙ ap (λ (y : World). intrinsic_value y c.args.id g) (sym (is c.args.context c.requires.given j c.piece_at-stretch.result.now c.piece_at-stretch.ensures)))
