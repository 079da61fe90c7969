-- The texts that a command line gives.
use Rattle.std.specs.Prelude.{ℕ, List, Option, option_map}
use Rattle.command_line.specs.declared.command.Texts.{Texts}

-- a text is its bytes
abbrev pub Text : Type 0
Text = List ℕ

-- the texts of `--bits TEXT`, `--order TEXT`, `--mode TEXT`, `--gen TEXT` and OUT, each where it is given
pub record Given : Type 0 where
  pub bits : Option Text
  pub order : Option Text
  pub mode : Option Text
  pub generated : Option Text
  pub out : Option Text

-- the texts that the code has references to
abbrev pub shown : Texts → Given
shown texts = record {
  bits = option_map (λ text. text.now) texts.bits;
  order = option_map (λ text. text.now) texts.order;
  mode = option_map (λ text. text.now) texts.mode;
  generated = option_map (λ text. text.now) texts.generated;
  out = option_map (λ text. text.now) texts.out;
}
