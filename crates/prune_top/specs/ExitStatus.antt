-- The exit status of the program.
use Rattle.std.specs.Prelude.{ℕ}
use Rattle.prune_top.specs.declared.status.Status.{Status}
use Rattle.prune_top.specs.declared.status.Status.TheVariants.{Done, BadWords, NotCompleted, BadScript, ScriptTooLong, ScriptFault, AssetFault, TranscriptFault, WavFault, NoMemory}

-- the number that the process ends with; 1 is never one of them
abbrev pub exit_status : Status → ℕ
exit_status Done = 0
exit_status BadWords = 2
exit_status NotCompleted = 3
exit_status BadScript = 4
exit_status ScriptTooLong = 5
exit_status ScriptFault = 6
exit_status AssetFault = 7
exit_status TranscriptFault = 8
exit_status WavFault = 9
exit_status NoMemory = 10
