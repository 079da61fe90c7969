-- Which scripts are read again from their text.
use Rattle.std.specs.Prelude.{◌≤◌}
use Rattle.serde_json.specs.Data.{depth}
use Rattle.script_ast.specs.WellFormed.{IsWellFormed}
use Rattle.script_ast.specs.declared.call_list.Script.{Script}
use Rattle.script_text.specs.Text.{data_of}

-- a script is as every script that is read, its rate is that of a context that can be rendered, and the arrays and objects of its text nest at most 127 deep
pub record IsTextable (script : Script) : Type 0 where
  pub well_formed : IsWellFormed script
  pub rate_low : 8000 ≤ script.context.rate
  pub rate_high : script.context.rate ≤ 96000
  pub nesting : depth (data_of script) ≤ 127
