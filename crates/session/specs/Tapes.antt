-- What holds of the tape of a session.
use Rattle.std.specs.Prelude.{◌≡◌, ◌≤◌, ◌*◌, length, true}
use Rattle.wa_base.specs.Contexts.{quantum_of, IsSupported}
use Rattle.wa_base.specs.declared.contexts.ContextSpec.{ContextSpec}
use Rattle.meaning.specs.Worlds.{IsRegular}
use Rattle.script_ast.specs.WellFormed.{AreCallsAfter}
use Rattle.script_ast.specs.declared.call_list.Script.{Script}
use Rattle.session.specs.Folders.{Folder}
use Rattle.session.specs.Rendering.{completes}
use Rattle.session.specs.Session.{Played, session_of}

-- The worlds of a session of a context are valid and follow one another, and their quanta have no more frames than there can be. Where the session completed, each frame of the context is in one of them, and the context is in its ranges.
pub record HasTape (spec : ContextSpec) (played : Played) : Type 0 where
  pub regular : IsRegular (quantum_of spec) played.tape
  pub short : quantum_of spec * length played.tape ≤ 33555456
  pub whole : completes played.end ≡ true → spec.length ≤ quantum_of spec * length played.tape
  pub supported : completes played.end ≡ true → IsSupported spec

-- This holds of the session of every script whose fields are in range, over every folder, whether or not a program ran it.
abbrev pub TapeLaw : Type 0
TapeLaw = (folder : Folder) (script : Script) → AreCallsAfter 0 script.calls → HasTape script.context (session_of folder script)
