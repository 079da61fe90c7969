use Rattle.std.proofs.Common.{rules, FitsSigned, ◌≡◌, sym, ◌∙◌, ap, arith}
use Rattle.std.specs.Int.{w32, w64}
use Rattle.std.proofs.lemmas.Int.{to_z-of_z}
use Rattle.node_table.specs.Machine.{cells_after}
use Rattle.meaning.specs.Lists.{since}
use Rattle.explain.specs.Facts.{is_processor}
use Rattle.explain.specs.Needs.{hears, feeds_back}
use Rattle.explain.proofs.Hearing.{taken, birth_at}
use Rattle.derivations.specs.Contexts.{tape_in}
use Rattle.equations.specs.Given.{meaning_of}
use Rattle.equations.proofs.Recalling.{result_known, first_cells, cells_before, was_processor, past_before, processor_is, processor_leaves, now_heard}
use Rattle.equations.proofs.histories.processed.Goals as goal
use Rattle.equations.proofs.histories.processed.Goals.{in-0, in_default}

pub cells_before-cells-requires-clause-past : goal.cells_before-cells-requires-clause-past
cells_before-cells-requires-clause-past c = past_before c.args.context c.requires.given c.args.heard c.args.age c.requires.recalled (omega arith)

pub cells_before-cells-requires-clause-processor : goal.cells_before-cells-requires-clause-processor
cells_before-cells-requires-clause-processor c = ap is_processor (was_processor c.args.context c.requires.given c.args.heard c.args.age c.requires.recalled c.args.program.now c.requires.kind (omega arith))

pub cells_before-cells-requires-clause-known : goal.cells_before-cells-requires-clause-known
cells_before-cells-requires-clause-known c = result_known c.args.context c.requires.given c.args.heard c.args.age c.requires.recalled 1 (omega arith) (ap (λ k. feeds_back k 1) c.requires.kind)

pub taken-requires-clause-heard : goal.taken-requires-clause-heard
taken-requires-clause-heard c = now_heard c.args.context c.requires.given c.args.heard c.args.age c.requires.recalled (ap (λ k. hears k 0) c.requires.kind)

pub returns-clause-value : goal.returns-clause-value
returns-clause-value c =
    let before : c.match-age.cells ≡ cells_after c.args.program.now (since (taken c.args.context.quantum (tape_in c.args.context) (meaning_of c.args.context) c.args.heard.node.0 c.args.heard.channel) (birth_at c.args.context.quantum (tape_in c.args.context) c.args.heard.frame c.args.heard.node.0) c.args.age) =
    elim c.match-age.branch [
      | in-0 w ↦ w.cells-is ∙ sym (first_cells c.args.context c.requires.given c.args.heard c.args.age c.requires.recalled c.args.program.now (omega arith))
      | in_default w ↦ w.cells-is ∙ cells_before c.args.context c.requires.given c.args.heard c.args.age c.requires.recalled c.args.program.now w.cells_before-cells.result c.requires.kind (omega arith) w.cells_before-cells.ensures
    ] in
    let input : FitsSigned w32 c.taken.result = search rules in
    let took = to_z-of_z _ _ input ∙ c.taken.ensures in
    let wide : FitsSigned w64 c.from.result = search rules in
    let narrow : FitsSigned w32 c.frame-value.result = search rules in
    to_z-of_z _ _ wide ∙ c.from.ensures ∙ to_z-of_z _ _ narrow
    ∙ processor_is c.args.context c.requires.given c.args.heard c.args.age c.requires.recalled c.args.program.now c.match-age.cells c.frame-value.new.cells _ c.frame-value.result before took c.frame-value.ensures

pub returns-clause-cells : goal.returns-clause-cells
returns-clause-cells c =
    let before : c.match-age.cells ≡ cells_after c.args.program.now (since (taken c.args.context.quantum (tape_in c.args.context) (meaning_of c.args.context) c.args.heard.node.0 c.args.heard.channel) (birth_at c.args.context.quantum (tape_in c.args.context) c.args.heard.frame c.args.heard.node.0) c.args.age) =
    elim c.match-age.branch [
      | in-0 w ↦ w.cells-is ∙ sym (first_cells c.args.context c.requires.given c.args.heard c.args.age c.requires.recalled c.args.program.now (omega arith))
      | in_default w ↦ w.cells-is ∙ cells_before c.args.context c.requires.given c.args.heard c.args.age c.requires.recalled c.args.program.now w.cells_before-cells.result c.requires.kind (omega arith) w.cells_before-cells.ensures
    ] in
    let input : FitsSigned w32 c.taken.result = search rules in
    let took = to_z-of_z _ _ input ∙ c.taken.ensures in
    processor_leaves c.args.context c.requires.given c.args.heard c.args.age c.requires.recalled c.args.program.now c.match-age.cells c.frame-value.new.cells _ c.frame-value.result before took c.frame-value.ensures
