-- The words of a command line, and what they ask for.
use Rattle.std.specs.Prelude.{ℕ, List, Bool, true, false, Option, Some, None, option_map, option_and_then, codes}
use Rattle.wa_base.specs.declared.graph_names.Tie.{Tie}
use Rattle.wa_base.specs.declared.graph_names.Tie.TheVariants.{Up}
use Rattle.command_line.specs.Command.{texts_in}
use Rattle.command_line.specs.Texts.{Text, Given}
use Rattle.command_line.specs.Values.{bits_in, order_in, mode_in, number_in, out_in, value_or}
use Rattle.command_line.specs.WordByWord.{texts_by_word}
use Rattle.command_line.specs.declared.reading.Mode.{Mode}
use Rattle.command_line.specs.declared.reading.Mode.TheVariants.{Render, Check, Migrate}

-- the answer to words without a reading
abbrev pub usage : List ℕ
usage = codes "words: waplay [--bits 16|24] [--order up|down] [--mode render|check|migrate] [--gen N] OUT\n"

-- what words ask for: the path OUT, the bits of a sample in the file, which of two nodes goes first, what is done with the script, and the number of a script that is generated
pub record Reading : Type 0 where
  pub out : List ℕ
  pub bits : ℕ
  pub order : Tie
  pub mode : Mode
  pub generated : Option ℕ

-- whether samples are rendered
abbrev pub renders : Mode → Bool
renders Render = true
renders Check = false
renders Migrate = false

-- whether the script is written, as one of version 2
abbrev pub migrates : Mode → Bool
migrates Render = false
migrates Check = false
migrates Migrate = true

-- a script is generated where a number is given, and else none is
abbrev pub generated_in : Text → Option (Option ℕ)
generated_in text = option_map (λ number. Some number) (number_in text)

-- all parts of a reading, or none where one is missing
abbrev pub with_parts : Option Text → Option ℕ → Option Tie → Option Mode → Option (Option ℕ) → Option Reading
with_parts (Some out) (Some bits) (Some order) (Some mode) (Some generated) =
    Some (record { out = out; bits = bits; order = order; mode = mode; generated = generated })
with_parts _ _ _ _ _ = None

-- what texts ask for, where each of them stands for something; without an option 24 bits, the node that was created earlier first, samples, and the source's script
abbrev pub reading_in : Given → Option Reading
reading_in texts = with_parts
    (option_and_then out_in texts.out)
    (value_or bits_in 24 texts.bits)
    (value_or order_in Up texts.order)
    (value_or mode_in Render texts.mode)
    (value_or generated_in None texts.generated)

-- the reading of the words after the program's name, where they have one: they have the form of the command, and each text stands for something
abbrev pub reading : List Text → Option Reading
reading words = option_and_then reading_in (texts_in words)

-- the same without clap: the words are read one by one
abbrev pub reading_by_word : List Text → Option Reading
reading_by_word words = option_and_then reading_in (texts_by_word words)
