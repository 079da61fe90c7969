-- What clap makes of one word: whether it is a fault, and where clap's walk stands after it.
use Rattle.std.proofs.Common.{◌≡◌, ◌∙◌, ℕ, Bool, true, false, refl, ap, ap₂, codes, List, [], ◌∷◌, Option, Some, None, bytes_eq}
use Rattle.std.specs.Str.{chars}
use Rattle.clap.specs.Lexer.{long_of, short_of}
use Rattle.clap.specs.Kinds.{or_else}
use Rattle.clap.specs.Faults.{flags_fault, step_fault, settle_fault, turn_fault, use_fault, long_fault}
use Rattle.clap.specs.Walk.{Held, Rule, Text, Waiting, after_step, arg_by_long, idle, is_pending, long_word, positional, pushed, reacted, settled, subcommand_met, takes_values, walked}
use Rattle.clap.specs.Walk.{option as waits, value}
use Rattle.command_line.specs.Command.{is_faultless}
use Rattle.command_line.specs.WordByWord.{Part, bits, order, mode, generated, out, Parts}
use Rattle.command_line.proofs.PartRows.{shape, rules, id_of, rule_at, and_false, or_false}
use Rattle.command_line.proofs.Dashes.{dashes, IsOption, IsPlain}
use Rattle.command_line.proofs.WalkEnds.{held_at, walk_at, or_else_fails}

-- the command has no subcommand
no_subcommand : (waiting : Waiting) (word : Text) → subcommand_met [] waiting word ≡ None
no_subcommand idle word = refl
no_subcommand (waits id) word = refl
no_subcommand positional word = refl

-- `--`
pub dashes_pass : (held : Held) (waiting : Waiting) (position : ℕ) (word : Text) → bytes_eq word dashes ≡ true
    → turn_fault shape [] (walk_at held waiting position false) word ≡ []
dashes_pass held waiting position word is = rw (no_subcommand waiting word, is) refl

pub dashes_to : (held : Held) (waiting : Waiting) (position : ℕ) (word : Text) → bytes_eq word dashes ≡ true
    → walked rules [] (walk_at held waiting position false) word ≡ walk_at held waiting position true
unfolding walked
dashes_to held waiting position word is = rw (no_subcommand waiting word, is) refl

-- ---- an option

option_turn : (held : Held) (waiting : Waiting) (position : ℕ) (word : Text) (long : Text × Option Text) → IsOption word long
    → turn_fault shape [] (walk_at held waiting position false) word
    ≡ (let met = long_word rules waiting word long.0 long.1 held in or_else (long_fault rules false (arg_by_long rules long.0) long.1 held) (step_fault shape position met.0 met.1))
option_turn held waiting position word long is = rw (no_subcommand waiting word, is.other, is.is) refl

option_walk : (held : Held) (waiting : Waiting) (position : ℕ) (word : Text) (long : Text × Option Text) → IsOption word long
    → walked rules [] (walk_at held waiting position false) word
    ≡ (let met = long_word rules waiting word long.0 long.1 held in after_step rules word (walk_at held waiting position false) met.0 met.1)
unfolding walked
option_walk held waiting position word long is = rw (no_subcommand waiting word, is.other, is.is) refl

takes : (part : Part) → takes_values (rule_at part) ≡ true
takes bits = refl
takes order = refl
takes mode = refl
takes generated = refl
takes out = refl

named : (part : Part) → (rule_at part).id ≡ id_of part
named bits = refl
named order = refl
named mode = refl
named generated = refl
named out = refl

-- an option with another name
pub unknown_fails : (held : Held) (waiting : Waiting) (position : ℕ) (word : Text) (long : Text × Option Text) → IsOption word long → arg_by_long rules long.0 ≡ None
    → is_faultless (turn_fault shape [] (walk_at held waiting position false) word) ≡ false
unknown_fails held waiting position word long is unknown =
    let met = long_word rules waiting word long.0 long.1 held in
    ap is_faultless (option_turn held waiting position word long is)
    ∙ ap (λ (rule : Option Rule). is_faultless (or_else (long_fault rules false rule long.1 held) (step_fault shape position met.0 met.1))) unknown

-- an option with its text
pub attached_turn : (held : Held) (position : ℕ) (word name given : Text) (part : Part) → IsOption word (name, Some given) → arg_by_long rules name ≡ Some (rule_at part)
    → turn_fault shape [] (walk_at held idle position false) word
    ≡ or_else (or_else (settle_fault rules false held) (use_fault false (rule_at part) (given ∷ []) (settled rules held).rows)) []
attached_turn held position word name given part is found = option_turn held idle position word (name, Some given) is ∙ rw (found, takes part) refl

pub attached_walk : (held : Held) (position : ℕ) (word name given : Text) (part : Part) → IsOption word (name, Some given) → arg_by_long rules name ≡ Some (rule_at part)
    → walked rules [] (walk_at held idle position false) word ≡ walk_at (reacted rules (rule_at part) (given ∷ []) held) idle position false
attached_walk held position word name given part is found = option_walk held idle position word (name, Some given) is ∙ rw (found, takes part) refl

-- an option whose text is the next word
pub apart_turn : (held : Held) (position : ℕ) (word name : Text) (part : Part) → IsOption word (name, None) → arg_by_long rules name ≡ Some (rule_at part)
    → turn_fault shape [] (walk_at held idle position false) word ≡ or_else (settle_fault rules false held) []
apart_turn held position word name part is found = option_turn held idle position word (name, None) is ∙ rw (found, takes part) refl

pub apart_walk : (held : Held) (position : ℕ) (word name : Text) (part : Part) → IsOption word (name, None) → arg_by_long rules name ≡ Some (rule_at part)
    → walked rules [] (walk_at held idle position false) word
    ≡ walk_at (record (settled rules held) { pending = Some (id_of part, []) }) (waits (id_of part)) position false
apart_walk held position word name part is found = option_walk held idle position word (name, None) is ∙ rw (found, takes part, named part) refl

-- an option where another one waits for its text
pub waiting_fails : (held : Held) (id : Text) (position : ℕ) (word name : Text) (attached : Option Text) (part : Part) → IsOption word (name, attached)
    → arg_by_long rules name ≡ Some (rule_at part) → is_faultless (settle_fault rules false held) ≡ false
    → is_faultless (turn_fault shape [] (walk_at held (waits id) position false) word) ≡ false
waiting_fails held id position word name None part is found fails =
    let met = long_word rules (waits id) word name None held in
    ap is_faultless (option_turn held (waits id) position word (name, None) is)
    ∙ or_else_fails (long_fault rules false (arg_by_long rules name) None held) (step_fault shape position met.0 met.1) (rw (found, takes part) fails)
waiting_fails held id position word name (Some given) part is found fails =
    let met = long_word rules (waits id) word name (Some given) held in
    let settled_first = or_else_fails (settle_fault rules false held) (use_fault false (rule_at part) (given ∷ []) (settled rules held).rows) fails in
    ap is_faultless (option_turn held (waits id) position word (name, Some given) is)
    ∙ or_else_fails (long_fault rules false (arg_by_long rules name) (Some given) held) (step_fault shape position met.0 met.1) (rw (found, takes part) settled_first)

-- ---- another word

-- a dash and letters
pub letters_fail : (held : Held) (waiting : Waiting) (position : ℕ) (word : Text) (x : ℕ) (rest : Text) (c : ℕ) (cs : List ℕ) → bytes_eq word dashes ≡ false → long_of word ≡ None
    → short_of word ≡ Some (x ∷ rest) → chars (x ∷ rest) ≡ c ∷ cs → held.skip ≡ 0
    → is_faultless (turn_fault shape [] (walk_at held waiting position false) word) ≡ false
unfolding flags_fault
letters_fail held waiting position word x rest c cs other no_long is begins none = rw (no_subcommand waiting word, other, no_long, is, none, begins) refl

-- a word that is given to OUT
pub plain_turn : (held : Held) (position : ℕ) (word : Text) → IsPlain word → turn_fault shape [] (walk_at held idle position false) word ≡ step_fault shape position held value
plain_turn held position word is = rw (is.other, is.no_long, is.no_short) refl

pub plain_walk : (held : Held) (position : ℕ) (word : Text) → IsPlain word
    → walked rules [] (walk_at held idle position false) word ≡ after_step rules word (walk_at held idle position false) held value
unfolding walked
plain_walk held position word is = rw (is.other, is.no_long, is.no_short) refl

pub behind_turn : (held : Held) (waiting : Waiting) (position : ℕ) (word : Text) → turn_fault shape [] (walk_at held waiting position true) word ≡ step_fault shape position held value
behind_turn held waiting position word = refl

pub behind_walk : (held : Held) (waiting : Waiting) (position : ℕ) (word : Text)
    → walked rules [] (walk_at held waiting position true) word ≡ after_step rules word (walk_at held waiting position true) held value
unfolding walked
behind_walk held waiting position word = refl

-- OUT is not given yet
pub first_out_turn : (held : Held) → step_fault shape 1 held value ≡ settle_fault rules false held
first_out_turn held = and_false (is_pending (rule_at out) held.pending) [] (settle_fault rules false held)

pub first_out_walk : (held : Held) (waiting : Waiting) (word : Text) (trailing : Bool)
    → after_step rules word (walk_at held waiting 1 trailing) held value
    ≡ walk_at (record (settled rules held) { pending = Some (codes "out", word ∷ []) }) idle 2 trailing
first_out_walk held waiting word trailing =
    let now = and_false (is_pending (rule_at out) held.pending) held (settled rules held) in
    ap₂ (λ (h : Held) (b : Bool). walk_at (pushed (codes "out") word h) idle 2 b) now (or_false trailing)

-- OUT is given already
pub second_out_fails : (held : Held) → is_faultless (step_fault shape 2 held value) ≡ false
second_out_fails held = refl

-- the text of an option that waits for it
pub text_turn : (held : Held) (id : Text) (position : ℕ) (word : Text) → IsPlain word → turn_fault shape [] (walk_at held (waits id) position false) word ≡ []
text_turn held id position word is = rw (is.other, is.no_long, is.no_short) refl

pub text_walk : (parts : Parts) (part : Part) (position : ℕ) (word : Text) → IsPlain word
    → walked rules [] (walk_at (held_at parts (Some (part, []))) (waits (id_of part)) position false) word
    ≡ walk_at (held_at parts (Some (part, word ∷ []))) idle position false
unfolding walked
text_walk parts bits position word is = rw (is.other, is.no_long, is.no_short) refl
text_walk parts order position word is = rw (is.other, is.no_long, is.no_short) refl
text_walk parts mode position word is = rw (is.other, is.no_long, is.no_short) refl
text_walk parts generated position word is = rw (is.other, is.no_long, is.no_short) refl
text_walk parts out position word is = rw (is.other, is.no_long, is.no_short) refl
