use Rattle.std.proofs.Common.{rules, tests, sym, ◌∙◌}
use Rattle.std.proofs.lemmas.Iterator.{YieldsList-from_slice}
use Rattle.std.proofs.lemmas.Iterator.Search.{all_from_yields_List}
use Rattle.json_tree.specs.View.{view}
use Rattle.script_fields.proofs.ListLaws.{list_all_wholes}
use Rattle.script_fields.specs.Values.{whole, is_fix}
use Rattle.script_fields.proofs.values.are_fixes.Goals as goal

pub returns : goal.returns
returns c = all_from_yields_List (λ v. is_fix (whole (view v))) _ _ _ c.all.ensures.ran (YieldsList-from_slice c.args.list.now cc) (λ x b q k. search (rules, tests))
    ∙ sym (list_all_wholes is_fix c.args.list.now)
