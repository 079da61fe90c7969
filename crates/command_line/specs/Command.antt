-- The texts of a command line as clap reads them: the command, and what clap's definitions make of words at it.
use Rattle.std.specs.Prelude.{List, [], ◌∷◌, Bool, true, false, Option, Some, None, if◌then◌else◌, codes}
use Rattle.clap.specs.Walk.{Rule, first_of}
use Rattle.clap.specs.Simple.{App, new_app, new_rule, with_rule, on_top, matches_of}
use Rattle.clap.specs.Kinds.{Kinds}
use Rattle.clap.specs.Faults.{fault_of}
use Rattle.command_line.specs.Texts.{Text, Given}

-- an option `--name`, which takes one text
abbrev pub option_rule : Text → Rule
option_rule name = record (new_rule name) { long = Some name }

-- the word that is no option, which has to be there
abbrev pub out_rule : Rule
out_rule = record (new_rule (codes "out")) { required = true }

-- a command without options, also without `-h`, `--help`, `-V` and `--version`; its words are those after the program's name
abbrev pub bare_command : App
bare_command = on_top (λ s. record s { no_binary_name = true; disable_help_flag = true; disable_version_flag = true })
    (new_app (codes "waplay"))

-- waplay [--bits TEXT] [--order TEXT] [--mode TEXT] [--gen TEXT] OUT
abbrev pub waplay_command : App
waplay_command =
    with_rule (with_rule (with_rule (with_rule (with_rule bare_command
    (option_rule (codes "bits"))) (option_rule (codes "order"))) (option_rule (codes "mode"))) (option_rule (codes "gen")))
    out_rule

-- whether there is no fault
abbrev pub is_faultless : Kinds → Bool
is_faultless [] = true
is_faultless (kind ∷ kinds) = false

-- whether words have the form of the command: each option at most once, with a text; and one word besides
abbrev pub has_form : List Text → Bool
has_form words = is_faultless (fault_of waplay_command words)

-- the text that words give to an option, by its name, or to OUT, as `out`
abbrev pub given : Text → List Text → Option Text
given name words = first_of name (matches_of waplay_command words)

-- the texts that words give
abbrev pub given_by : List Text → Given
given_by words = record {
  bits = given (codes "bits") words;
  order = given (codes "order") words;
  mode = given (codes "mode") words;
  generated = given (codes "gen") words;
  out = given (codes "out") words;
}

-- the same, where the words have the form of the command
abbrev pub texts_in : List Text → Option Given
texts_in words = if has_form words then Some (given_by words) else None
