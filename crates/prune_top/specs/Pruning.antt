-- What pruning gives for a script.
use Rattle.std.specs.Prelude.{◌≡◌, length, true}
use Rattle.wa_base.specs.Contexts.{IsSupported}
use Rattle.script_ast.specs.declared.call_list.Script.{Script}
use Rattle.session.specs.Rendering.{completes}
use Rattle.session.specs.Session.{Played}
use Rattle.prune_script.specs.Pruned.{pruned}
use Rattle.prune_top.specs.declared.pruning.Pruned.{Pruned}

-- A session of the script completed, and by its lines this is what is left of the script, with the numbers of calls of both. Its context is in its ranges.
pub record IsPrunedOf (script : Script) (session : Played) (part : Pruned) : Type 0 where
  pub completed : completes session.end ≡ true
  pub script_is : part.script ≡ pruned script session.lines
  pub kept_is : part.kept ≡ length part.script.calls
  pub of_is : part.of ≡ length script.calls
  pub supported : IsSupported part.script.context
