-- What pruning gives, by the lines of a session that completed.
use Rattle.std.proofs.Common.{◌≡◌, length, List, true, sym, ◌∙◌, ap, subst}
use Rattle.wa_base.specs.Contexts.{IsSupported}
use Rattle.wa_base.specs.declared.contexts.ContextSpec.{ContextSpec}
use Rattle.script_ast.specs.WellFormed.{IsWellFormed}
use Rattle.script_ast.specs.declared.call_list.Script.{Script}
use Rattle.transcript.specs.declared.lines.Line.{Line}
use Rattle.prune_script.specs.Pruned.{pruned}
use Rattle.session.specs.Folders.{Folder}
use Rattle.session.specs.Rendering.{completes}
use Rattle.session.specs.Session.{session_of}
use Rattle.session.proofs.Taping.{session_taped}
use Rattle.prune_top.specs.declared.pruning.Pruned.{Pruned}
use Rattle.prune_top.specs.Pruning.{IsPrunedOf}
use Rattle.prune_top.proofs.Sounding.{pruned_context}

pub pruned_of : (folder : Folder) (script : Script) (lines : List Line) (part : Pruned) → IsWellFormed script → completes (session_of folder script).end ≡ true → lines ≡ (session_of folder script).lines
    → part.script ≡ pruned script lines → part.kept ≡ length part.script.calls → part.of ≡ length script.calls → IsPrunedOf script (session_of folder script) part
pruned_of folder script lines part formed completed told is kept all = record {
  completed = completed;
  script_is = is ∙ ap (pruned script) told;
  kept_is = kept;
  of_is = all;
  supported = subst IsSupported (sym (ap (λ (s : Script). s.context) is ∙ pruned_context script lines)) ((session_taped folder script formed.calls).supported completed);
}
