-- Command lines that are written out, with their readings computed. Each has its words in its comment, where an empty word is written ''.
use Rattle.std.specs.Prelude.{◌≡◌, ℕ, List, [], ◌∷◌, Option, Some, None, codes, refl}
use Rattle.clap.proofs.OnLiterals.{clap_on_literals}
use Rattle.wa_base.specs.declared.graph_names.Tie.{Tie}
use Rattle.wa_base.specs.declared.graph_names.Tie.TheVariants.{Up, Down}
use Rattle.command_line.specs.Words.{Reading, reading}
use Rattle.command_line.specs.declared.reading.Mode.{Mode}
use Rattle.command_line.specs.declared.reading.Mode.TheVariants.{Render, Check, Migrate}

-- OUT, the bits of a sample, which node goes first, what is done with the script, and the number of a script that is generated
abbrev asks : List ℕ → ℕ → Tie → Mode → Option ℕ → Option Reading
asks out bits order mode generated = Some (record { out = out; bits = bits; order = order; mode = mode; generated = generated })

-- no words
no_words : reading [] ≡ None
unfolding clap_on_literals
no_words = refl

-- out.wav
out_alone : reading (codes "out.wav" ∷ []) ≡ asks (codes "out.wav") 24 Up Render None
unfolding clap_on_literals
out_alone = refl

-- a b
two_outs : reading (codes "a" ∷ codes "b" ∷ []) ≡ None
unfolding clap_on_literals
two_outs = refl

-- ''
empty_out : reading ([] ∷ []) ≡ None
unfolding clap_on_literals
empty_out = refl

-- -- ''
empty_out_after_dashes : reading (codes "--" ∷ [] ∷ []) ≡ None
unfolding clap_on_literals
empty_out_after_dashes = refl

-- -
dash : reading (codes "-" ∷ []) ≡ None
unfolding clap_on_literals
dash = refl

-- -- -
dash_after_dashes : reading (codes "--" ∷ codes "-" ∷ []) ≡ None
unfolding clap_on_literals
dash_after_dashes = refl

-- a-b
dash_within : reading (codes "a-b" ∷ []) ≡ asks (codes "a-b") 24 Up Render None
unfolding clap_on_literals
dash_within = refl

-- help
help_is_out : reading (codes "help" ∷ []) ≡ asks (codes "help") 24 Up Render None
unfolding clap_on_literals
help_is_out = refl

-- é
two_bytes : reading ((195 ∷ 169 ∷ []) ∷ []) ≡ asks (195 ∷ 169 ∷ []) 24 Up Render None
unfolding clap_on_literals
two_bytes = refl

-- --bits 16 o
apart : reading (codes "--bits" ∷ codes "16" ∷ codes "o" ∷ []) ≡ asks (codes "o") 16 Up Render None
unfolding clap_on_literals
apart = refl

-- --bits=16 -- out.wav
attached : reading (codes "--bits=16" ∷ codes "--" ∷ codes "out.wav" ∷ []) ≡ asks (codes "out.wav") 16 Up Render None
unfolding clap_on_literals
attached = refl

-- --bits 24 --order up --mode render o
said_as_the_default : reading (codes "--bits" ∷ codes "24" ∷ codes "--order" ∷ codes "up" ∷ codes "--mode" ∷ codes "render" ∷ codes "o" ∷ []) ≡ asks (codes "o") 24 Up Render None
unfolding clap_on_literals
said_as_the_default = refl

-- o --order down
behind_out : reading (codes "o" ∷ codes "--order" ∷ codes "down" ∷ []) ≡ asks (codes "o") 24 Down Render None
unfolding clap_on_literals
behind_out = refl

-- --mode check o
checked : reading (codes "--mode" ∷ codes "check" ∷ codes "o" ∷ []) ≡ asks (codes "o") 24 Up Check None
unfolding clap_on_literals
checked = refl

-- --mode migrate o
migrated : reading (codes "--mode" ∷ codes "migrate" ∷ codes "o" ∷ []) ≡ asks (codes "o") 24 Up Migrate None
unfolding clap_on_literals
migrated = refl

-- --gen=7 o --mode=check --bits 16 --order=down
all_options : reading (codes "--gen=7" ∷ codes "o" ∷ codes "--mode=check" ∷ codes "--bits" ∷ codes "16" ∷ codes "--order=down" ∷ []) ≡ asks (codes "o") 16 Down Check (Some 7)
unfolding clap_on_literals
all_options = refl

-- --gen 0012 o
zeros_in_front : reading (codes "--gen" ∷ codes "0012" ∷ codes "o" ∷ []) ≡ asks (codes "o") 24 Up Render (Some 12)
unfolding clap_on_literals
zeros_in_front = refl

-- --gen 9999 o
greatest_number : reading (codes "--gen" ∷ codes "9999" ∷ codes "o" ∷ []) ≡ asks (codes "o") 24 Up Render (Some 9999)
unfolding clap_on_literals
greatest_number = refl

-- --gen 0 --mode check o
zero : reading (codes "--gen" ∷ codes "0" ∷ codes "--mode" ∷ codes "check" ∷ codes "o" ∷ []) ≡ asks (codes "o") 24 Up Check (Some 0)
unfolding clap_on_literals
zero = refl

-- --gen 12345 o
five_digits : reading (codes "--gen" ∷ codes "12345" ∷ codes "o" ∷ []) ≡ None
unfolding clap_on_literals
five_digits = refl

-- --gen 00000 o
five_zeros : reading (codes "--gen" ∷ codes "00000" ∷ codes "o" ∷ []) ≡ None
unfolding clap_on_literals
five_zeros = refl

-- --gen= o
no_digits : reading (codes "--gen=" ∷ codes "o" ∷ []) ≡ None
unfolding clap_on_literals
no_digits = refl

-- --gen +1 o
plus : reading (codes "--gen" ∷ codes "+1" ∷ codes "o" ∷ []) ≡ None
unfolding clap_on_literals
plus = refl

-- --gen=-1 o
minus : reading (codes "--gen=-1" ∷ codes "o" ∷ []) ≡ None
unfolding clap_on_literals
minus = refl

-- --gen 1.0 o
fraction : reading (codes "--gen" ∷ codes "1.0" ∷ codes "o" ∷ []) ≡ None
unfolding clap_on_literals
fraction = refl

-- --gen=７ o
digits_of_another_script : reading ((45 ∷ 45 ∷ 103 ∷ 101 ∷ 110 ∷ 61 ∷ 239 ∷ 188 ∷ 151 ∷ []) ∷ codes "o" ∷ []) ≡ None
unfolding clap_on_literals
digits_of_another_script = refl

-- --gen 12
number_without_out : reading (codes "--gen" ∷ codes "12" ∷ []) ≡ None
unfolding clap_on_literals
number_without_out = refl

-- --bits 16 --order up
options_without_out : reading (codes "--bits" ∷ codes "16" ∷ codes "--order" ∷ codes "up" ∷ []) ≡ None
unfolding clap_on_literals
options_without_out = refl

-- --bits 8 out.wav
other_bits : reading (codes "--bits" ∷ codes "8" ∷ codes "out.wav" ∷ []) ≡ None
unfolding clap_on_literals
other_bits = refl

-- --order sideways o
other_order : reading (codes "--order" ∷ codes "sideways" ∷ codes "o" ∷ []) ≡ None
unfolding clap_on_literals
other_order = refl

-- --order Up o
other_case : reading (codes "--order" ∷ codes "Up" ∷ codes "o" ∷ []) ≡ None
unfolding clap_on_literals
other_case = refl

-- --mode convert o
other_mode : reading (codes "--mode" ∷ codes "convert" ∷ codes "o" ∷ []) ≡ None
unfolding clap_on_literals
other_mode = refl

-- --bits= o
empty_value : reading (codes "--bits=" ∷ codes "o" ∷ []) ≡ None
unfolding clap_on_literals
empty_value = refl

-- --bits '' o
empty_word_as_value : reading (codes "--bits" ∷ [] ∷ codes "o" ∷ []) ≡ None
unfolding clap_on_literals
empty_word_as_value = refl

-- o --bits
no_value : reading (codes "o" ∷ codes "--bits" ∷ []) ≡ None
unfolding clap_on_literals
no_value = refl

-- --bits -- o
dashes_as_value : reading (codes "--bits" ∷ codes "--" ∷ codes "o" ∷ []) ≡ None
unfolding clap_on_literals
dashes_as_value = refl

-- --bits -- 16 o
dashes_within_an_option : reading (codes "--bits" ∷ codes "--" ∷ codes "16" ∷ codes "o" ∷ []) ≡ None
unfolding clap_on_literals
dashes_within_an_option = refl

-- --bits --order up o
option_as_value : reading (codes "--bits" ∷ codes "--order" ∷ codes "up" ∷ codes "o" ∷ []) ≡ None
unfolding clap_on_literals
option_as_value = refl

-- --bits==16 o
attached_twice : reading (codes "--bits==16" ∷ codes "o" ∷ []) ≡ None
unfolding clap_on_literals
attached_twice = refl

-- --bit 16 o
shortened : reading (codes "--bit" ∷ codes "16" ∷ codes "o" ∷ []) ≡ None
unfolding clap_on_literals
shortened = refl

-- --bit=16 o
shortened_and_attached : reading (codes "--bit=16" ∷ codes "o" ∷ []) ≡ None
unfolding clap_on_literals
shortened_and_attached = refl

-- -b 16 o
one_letter : reading (codes "-b" ∷ codes "16" ∷ codes "o" ∷ []) ≡ None
unfolding clap_on_literals
one_letter = refl

-- -bits 16 o
one_dash : reading (codes "-bits" ∷ codes "16" ∷ codes "o" ∷ []) ≡ None
unfolding clap_on_literals
one_dash = refl

-- ---bits 16 o
three_dashes : reading (codes "---bits" ∷ codes "16" ∷ codes "o" ∷ []) ≡ None
unfolding clap_on_literals
three_dashes = refl

-- --=16 o
no_name : reading (codes "--=16" ∷ codes "o" ∷ []) ≡ None
unfolding clap_on_literals
no_name = refl

-- --BITS 16 o
other_name_case : reading (codes "--BITS" ∷ codes "16" ∷ codes "o" ∷ []) ≡ None
unfolding clap_on_literals
other_name_case = refl

-- '--bits ' 16 o
blank_in_a_name : reading (codes "--bits " ∷ codes "16" ∷ codes "o" ∷ []) ≡ None
unfolding clap_on_literals
blank_in_a_name = refl

-- --bits 16 --bits 16 o
repeated : reading (codes "--bits" ∷ codes "16" ∷ codes "--bits" ∷ codes "16" ∷ codes "o" ∷ []) ≡ None
unfolding clap_on_literals
repeated = refl

-- --bits=16 o --bits 24
repeated_in_two_forms : reading (codes "--bits=16" ∷ codes "o" ∷ codes "--bits" ∷ codes "24" ∷ []) ≡ None
unfolding clap_on_literals
repeated_in_two_forms = refl

-- --gen 1 --gen=1 o
repeated_number : reading (codes "--gen" ∷ codes "1" ∷ codes "--gen=1" ∷ codes "o" ∷ []) ≡ None
unfolding clap_on_literals
repeated_number = refl

-- --
dashes_alone : reading (codes "--" ∷ []) ≡ None
unfolding clap_on_literals
dashes_alone = refl

-- -- --
dashes_are_out : reading (codes "--" ∷ codes "--" ∷ []) ≡ asks (codes "--") 24 Up Render None
unfolding clap_on_literals
dashes_are_out = refl

-- -- --bits=16
option_is_out : reading (codes "--" ∷ codes "--bits=16" ∷ []) ≡ asks (codes "--bits=16") 24 Up Render None
unfolding clap_on_literals
option_is_out = refl

-- o -- --bits=16
option_behind_dashes : reading (codes "o" ∷ codes "--" ∷ codes "--bits=16" ∷ []) ≡ None
unfolding clap_on_literals
option_behind_dashes = refl

-- o --
dashes_behind_out : reading (codes "o" ∷ codes "--" ∷ []) ≡ asks (codes "o") 24 Up Render None
unfolding clap_on_literals
dashes_behind_out = refl

-- -- o
dashes_before_out : reading (codes "--" ∷ codes "o" ∷ []) ≡ asks (codes "o") 24 Up Render None
unfolding clap_on_literals
dashes_before_out = refl

-- -- a b
two_words_after_dashes : reading (codes "--" ∷ codes "a" ∷ codes "b" ∷ []) ≡ None
unfolding clap_on_literals
two_words_after_dashes = refl

-- -- --bits 16
value_after_dashes : reading (codes "--" ∷ codes "--bits" ∷ codes "16" ∷ []) ≡ None
unfolding clap_on_literals
value_after_dashes = refl

-- --help o
help : reading (codes "--help" ∷ codes "o" ∷ []) ≡ None
unfolding clap_on_literals
help = refl

-- -h
short_help : reading (codes "-h" ∷ []) ≡ None
unfolding clap_on_literals
short_help = refl

-- --version o
version : reading (codes "--version" ∷ codes "o" ∷ []) ≡ None
unfolding clap_on_literals
version = refl

-- -V o
short_version : reading (codes "-V" ∷ codes "o" ∷ []) ≡ None
unfolding clap_on_literals
short_version = refl

-- -5
negative : reading (codes "-5" ∷ []) ≡ None
unfolding clap_on_literals
negative = refl

-- -é o
dash_and_two_bytes : reading ((45 ∷ 195 ∷ 169 ∷ []) ∷ codes "o" ∷ []) ≡ None
unfolding clap_on_literals
dash_and_two_bytes = refl
