use Rattle.std.proofs.Common.{rules, tests, sym, ◌∙◌}
use Rattle.std.proofs.lemmas.Iterator.{YieldsList-from_slice}
use Rattle.std.proofs.lemmas.Iterator.Search.{all_from_yields_List}
use Rattle.std.specs.Prelude.{option_and_then}
use Rattle.serde_json.specs.Find.{as_str}
use Rattle.json_tree.specs.View.{view}
use Rattle.script_fields.proofs.Programs.{list_all_instrs}
use Rattle.script_fields.specs.Instructions.{instr_of, is_instr}
use Rattle.script_fields.proofs.instructions.are_in_range.Goals as goal

pub returns : goal.returns
returns c = all_from_yields_List (λ v. is_instr (option_and_then instr_of (as_str (view v)))) _ _ _ c.all.ensures.ran (YieldsList-from_slice c.args.list.now cc) (λ x b q k. search (rules, tests))
    ∙ sym (list_all_instrs is_instr c.args.list.now)
