-- What clap finds in words is what is found in them word by word.
use Rattle.std.proofs.Common.{◌≡◌, ◌∙◌, ℕ, ◌&&◌, ◌||◌, Bool, cond, true, false, not, refl, sym, ap, ap₂, codes, List, [], ◌∷◌, ◌++◌, map, Option, Some, None, is_some, bytes_eq, inl, inr}
use Rattle.std.specs.List.{AllByRecursion}
use Rattle.std.specs.Prelude.{option_and_then}
use Rattle.std.proofs.Common.{String, Global, string_bytes}
use Rattle.std.proofs.lemmas.Str.{IsUtf8-string_bytes}
use Rattle.command_line.specs.Words.{reading, reading_in, reading_by_word}
use Rattle.std.specs.Str.{chars, IsUtf8}
use Rattle.std.proofs.lemmas.Bool.{cases_Bool}
use Rattle.clap.specs.Lexer.{long_of, short_of}
use Rattle.clap.specs.Kinds.{or_else}
use Rattle.clap.specs.Faults.{step_fault, settle_fault, turn_fault, use_fault}
use Rattle.clap.specs.Walk.{Held, Row, Text, Waiting, Walk, after_step, arg_by_long, idle, settled, used, walked}
use Rattle.clap.specs.Walk.{option as waits, value}
use Rattle.command_line.specs.Texts.{Given}
use Rattle.command_line.specs.Command.{is_faultless, given, texts_in}
use Rattle.command_line.specs.WordByWord.{Part, bits, order, mode, generated, out, same, option_named, Parts, Next, any, text, last, is_dashed, after_option, after_option_or_word, after, scanned, has, are_distinct, texts_by_word}
use Rattle.command_line.proofs.PartRows.{shape, rules, id_of, rule_for, long_found, rows_for, has_row_for, rule_at, known, use_passes, use_fails, used_new, and_none, or_true, or_false, has_push, distinct_push}
use Rattle.command_line.proofs.Dashes.{dashes, IsOption, IsPlain, no_text, first_letter, dashed_is}
use Rattle.command_line.proofs.WalkEnds.{Pending, with_pending, held_at, ready, walk_at, settles, settles_to, settles_not, wants, found_from, found_first, or_else_fails, found_not, found_next, ends, ends_waiting, found_in, pushed_twice, twice_stays}
use Rattle.command_line.proofs.WordTurns.{dashes_pass, dashes_to, unknown_fails, attached_turn, attached_walk, apart_turn, apart_walk, waiting_fails, letters_fail, plain_turn, plain_walk, behind_turn, behind_walk, first_out_turn, first_out_walk, second_out_fails, text_turn, text_walk}

-- ---- all words

-- the place of OUT: 2 once it is given
abbrev position_for : Parts → ℕ
position_for parts = cond (has out parts) 2 1

option_is_not_out : (name : Text) (part : Part) → option_named name ≡ Some part → same part out ≡ false
option_is_not_out name part is = go (bytes_eq (codes "bits") name) (bytes_eq (codes "order") name) (bytes_eq (codes "mode") name) (bytes_eq (codes "gen") name) is
  where
    by : (one : Part) → same one out ≡ false → ◌≡◌ {A = Option Part} (Some one) (Some part) → same part out ≡ false
    by one not_out same_part = let is_one : one ≡ part = cc in rw (sym is_one) not_out

    go : (a b c d : Bool) → ◌≡◌ {A = Option Part} (cond a (Some bits) (cond b (Some order) (cond c (Some mode) (cond d (Some generated) None)))) (Some part) → same part out ≡ false
    go true b c d is = by bits refl is
    go false true c d is = by order refl is
    go false false true d is = by mode refl is
    go false false false true is = by generated refl is
    go false false false false is = absurd (no_text part is)

-- clap's walk and the reading word by word find the same in these words, wherever both stand
record Agrees (words : List Text) : Type 0 where
  anywhere : (parts : Parts) (pending : Pending) → are_distinct parts ≡ true
      → found_from (walk_at (held_at parts (ready pending)) idle (position_for (with_pending parts pending)) false) words ≡ found_in (scanned words any (with_pending parts pending))
  behind : (parts : Parts) (pending : Pending) → are_distinct parts ≡ true
      → found_from (walk_at (held_at parts (ready pending)) idle (position_for (with_pending parts pending)) true) words ≡ found_in (scanned words last (with_pending parts pending))
  waiting : (parts : Parts) (part : Part) → are_distinct parts ≡ true → same part out ≡ false
      → found_from (walk_at (held_at parts (Some (part, []))) (waits (id_of part)) (position_for parts) false) words ≡ found_in (scanned words (text part) parts)

agree_at_end : Agrees []
agree_at_end = record {
  anywhere = λ parts pending once. ends parts pending idle (position_for (with_pending parts pending)) false once;
  behind = λ parts pending once. ends parts pending idle (position_for (with_pending parts pending)) true once;
  waiting = λ parts part once not_out. ends_waiting parts part (waits (id_of part)) (position_for parts) false;
}

-- OUT, or a word behind `--`
out_given : (parts : Parts) (pending : Pending) (waiting : Waiting) (trailing : Bool) (next : Next) (word : Text) (words : List Text) → are_distinct parts ≡ true
    → (w : Walk) → turn_fault shape [] w word ≡ step_fault shape (position_for (with_pending parts pending)) (held_at parts (ready pending)) value
    → walked rules [] w word ≡ after_step rules word (walk_at (held_at parts (ready pending)) waiting (position_for (with_pending parts pending)) trailing) (held_at parts (ready pending)) value
    → ((parts : Parts) (pending : Pending) → are_distinct parts ≡ true
    → found_from (walk_at (held_at parts (ready pending)) idle (position_for (with_pending parts pending)) trailing) words ≡ found_in (scanned words next (with_pending parts pending)))
    → found_from w (word ∷ words) ≡ found_in (scanned words next (with_pending parts pending ++ (out, word) ∷ []))
out_given parts pending waiting trailing next word words once w turn walk rest =
    elim (cases_Bool (has out total)) [
      | inl again ↦
          found_not w word words (ap is_faultless turn ∙ ap (λ b. is_faultless (step_fault shape (cond b 2 1) held value)) again)
          ∙ sym (twice_stays words next pushed_parts (distinct_push out word total ∙ ap (λ b. are_distinct total && not b) again ∙ and_none (are_distinct total)))
      | inr first ↦
          let turned : turn_fault shape [] w word ≡ settle_fault rules false held =
          turn ∙ ap (λ b. step_fault shape (cond b 2 1) held value) first ∙ first_out_turn held in
          elim (cases_Bool (are_distinct total)) [
            | inl all ↦
                let walks : walked rules [] w word ≡ walk_at (held_at total (ready (Some (out, word)))) idle 2 trailing =
                walk ∙ ap (λ b. after_step rules word (walk_at held waiting (cond b 2 1) trailing) held value) first ∙ first_out_walk held waiting word trailing
                ∙ ap (λ (h : Held). walk_at (record h { pending = Some (codes "out", word ∷ []) }) idle 2 trailing) (settles_to parts pending all) in
                let place_is : position_for pushed_parts ≡ 2 = ap (λ b. cond b 2 1) (has_push out out word total ∙ or_true (has out total)) in
                found_next w _ word words (turned ∙ settles parts pending all) walks
                ∙ ap (λ n. found_from (walk_at (held_at total (ready (Some (out, word)))) idle n trailing) words) (sym place_is)
                ∙ rest total (Some (out, word)) all
            | inr twice ↦
                found_not w word words (ap is_faultless turned ∙ settles_not parts pending once twice)
                ∙ sym (twice_stays words next pushed_parts (pushed_twice out word total twice))
          ]
    ]
  where
    total : Parts
    total = with_pending parts pending

    held : Held
    held = held_at parts (ready pending)

    pushed_parts : Parts
    pushed_parts = total ++ (out, word) ∷ []

-- what is found after a word
abbrev found_after : List Text → Option (Next × Parts) → Option Given
found_after words now = found_in (option_and_then (λ (n : Next × Parts). scanned words n.0 n.1) now)

-- what is found after a word that may be dashed
abbrev found_unless : List Text → Part → Text → Parts → Bool → Option Given
found_unless words part word parts dashed = found_after words (cond dashed None (Some (any, parts ++ (part, word) ∷ [])))

abbrev after_any : Text → Parts → Bool → Option (Text × Option Text) → Option (Next × Parts)
after_any word parts is_dashes long = cond is_dashes (Some (last, parts)) (after_option_or_word word long parts)

after_long : (word : Text) (parts : Parts) (long : Text × Option Text) → IsOption word long → after word any parts ≡ after_option (option_named long.0) long.1 parts
after_long word parts long is = ap₂ (after_any word parts) is.other is.is

-- whether a word is dashed that is neither `--` nor an option
dashed_letters : (word : Text) → bytes_eq word dashes ≡ false → long_of word ≡ None → is_dashed word ≡ is_some (short_of word)
dashed_letters word other no_long =
    dashed_is word ∙ ap₂ (λ b (o : Option (Text × Option Text)). b || (is_some o || is_some (short_of word))) other no_long

found_other : (words : List Text) (word : Text) (parts : Parts) → bytes_eq word dashes ≡ false → long_of word ≡ None
    → found_unless words out word parts (is_some (short_of word)) ≡ found_after words (after word any parts)
found_other words word parts other no_long =
    sym (ap (found_after words) (ap₂ (after_any word parts) other no_long) ∙ ap (found_unless words out word parts) (dashed_letters word other no_long))

found_of_name : (name : Text) (part : Part) → option_named name ≡ Some part → arg_by_long rules name ≡ Some (rule_at part)
found_of_name name part is = long_found name ∙ ap (option_and_then rule_for) is ∙ known part

not_found : (name : Text) → option_named name ≡ None → arg_by_long rules name ≡ None
not_found name unknown = long_found name ∙ ap (option_and_then rule_for) unknown

-- a dash and letters
dashed_fails : (held : Held) (waiting : Waiting) (position : ℕ) (word flags : Text) → IsUtf8 word → bytes_eq word dashes ≡ false → long_of word ≡ None → short_of word ≡ Some flags
    → held.skip ≡ 0 → is_faultless (turn_fault shape [] (walk_at held waiting position false) word) ≡ false
dashed_fails held waiting position word flags utf8 other no_long is none =
    let letter = first_letter word flags utf8 is in
    letters_fail held waiting position word letter.0 letter.1 letter.2 letter.3 other no_long
    (is ∙ ap (λ (f : Text). Some f) letter.4) (ap chars (sym letter.4) ∙ letter.5) none

same_place : (parts : Parts) (part : Part) (word : Text) → same part out ≡ false → position_for (parts ++ (part, word) ∷ []) ≡ position_for parts
same_place parts part word not_out =
    ap (λ b. cond b 2 1) (has_push out part word parts ∙ ap (λ b. has out parts || b) not_out ∙ or_false (has out parts))

-- an option with its text
attached_given : (word name given : Text) (part : Part) (words : List Text) → IsOption word (name, Some given) → option_named name ≡ Some part → Agrees words
    → (parts : Parts) (pending : Pending) → are_distinct parts ≡ true
    → found_from (walk_at (held_at parts (ready pending)) idle (position_for (with_pending parts pending)) false) (word ∷ words) ≡ found_in (scanned words any (with_pending parts pending ++ (part, given) ∷ []))
attached_given word name given part words is is_named rest parts pending once =
    elim (cases_Bool (are_distinct total)) [
      | inr twice ↦
          let fails = or_else_fails (settle_fault rules false held) (use_fault false (rule_at part) (given ∷ []) (settled rules held).rows) (settles_not parts pending once twice) in
          found_not w word words (ap is_faultless turn ∙ or_else_fails _ [] fails) ∙ sym (twice_stays words any pushed_parts (pushed_twice part given total twice))
      | inl all ↦
          let rows : (settled rules held).rows ≡ rows_for total = ap (λ (h : Held). h.rows) (settles_to parts pending all) in
          let turned : turn_fault shape [] w word ≡ or_else (use_fault false (rule_at part) (given ∷ []) (rows_for total)) [] =
          turn ∙ ap₂ (λ a (r : List Row). or_else (or_else a (use_fault false (rule_at part) (given ∷ []) r)) []) (settles parts pending all) rows in
          elim (cases_Bool (has part total)) [
            | inl again ↦
                found_not w word words (ap is_faultless turned ∙ or_else_fails _ [] (use_fails part given (rows_for total) (has_row_for part total ∙ again)))
                ∙ sym (twice_stays words any pushed_parts (distinct_push part given total ∙ ap (λ b. are_distinct total && not b) again ∙ and_none (are_distinct total)))
            | inr new ↦
                let walks : walked rules [] w word ≡ walk_at (held_at pushed_parts None) idle (position_for total) false =
                attached_walk held (position_for total) word name given part is (found_of_name name part is_named)
                ∙ ap (λ (r : List Row). walk_at (record { rows = r; pending = None; skip = 0 }) idle (position_for total) false) (ap (used (rule_at part) (given ∷ [])) rows ∙ used_new part given total new) in
                let passes = ap (λ a. or_else a []) (use_passes part given (rows_for total) (has_row_for part total ∙ new)) in
                let all_new : are_distinct pushed_parts ≡ true = distinct_push part given total ∙ ap₂ (λ a b. a && not b) all new in
                found_next w (walk_at (held_at pushed_parts None) idle (position_for total) false) word words (turned ∙ passes) walks
                ∙ ap (λ n. found_from (walk_at (held_at pushed_parts None) idle n false) words) (sym (same_place total part given (option_is_not_out name part is_named)))
                ∙ rest.anywhere pushed_parts None all_new
          ]
    ]
  where
    total : Parts
    total = with_pending parts pending

    held : Held
    held = held_at parts (ready pending)

    w : Walk
    w = walk_at held idle (position_for total) false

    pushed_parts : Parts
    pushed_parts = total ++ (part, given) ∷ []

    turn : turn_fault shape [] w word ≡ or_else (or_else (settle_fault rules false held) (use_fault false (rule_at part) (given ∷ []) (settled rules held).rows)) []
    turn = attached_turn held (position_for total) word name given part is (found_of_name name part is_named)

-- an option whose text is the next word
apart_given : (word name : Text) (part : Part) (words : List Text) → IsOption word (name, None) → option_named name ≡ Some part → Agrees words
    → (parts : Parts) (pending : Pending) → are_distinct parts ≡ true
    → found_from (walk_at (held_at parts (ready pending)) idle (position_for (with_pending parts pending)) false) (word ∷ words) ≡ found_in (scanned words (text part) (with_pending parts pending))
apart_given word name part words is is_named rest parts pending once =
    elim (cases_Bool (are_distinct total)) [
      | inr twice ↦
          found_not w word words (ap is_faultless turn ∙ or_else_fails (settle_fault rules false held) [] (settles_not parts pending once twice))
          ∙ sym (twice_stays words (text part) total twice)
      | inl all ↦
          found_next w (walk_at (held_at total (Some (part, []))) (waits (id_of part)) (position_for total) false) word words
          (turn ∙ ap (λ a. or_else a []) (settles parts pending all))
          (apart_walk held (position_for total) word name part is (found_of_name name part is_named)
          ∙ ap (λ (h : Held). walk_at (record h { pending = Some (id_of part, []) }) (waits (id_of part)) (position_for total) false) (settles_to parts pending all))
          ∙ rest.waiting total part all (option_is_not_out name part is_named)
    ]
  where
    total : Parts
    total = with_pending parts pending

    held : Held
    held = held_at parts (ready pending)

    w : Walk
    w = walk_at held idle (position_for total) false

    turn : turn_fault shape [] w word ≡ or_else (settle_fault rules false held) []
    turn = apart_turn held (position_for total) word name part is (found_of_name name part is_named)

-- a word where anything may stand
goes_on : (word : Text) (words : List Text) → IsUtf8 word → Agrees words → (parts : Parts) (pending : Pending) → are_distinct parts ≡ true
    → found_from (walk_at (held_at parts (ready pending)) idle (position_for (with_pending parts pending)) false) (word ∷ words)
    ≡ found_after words (after word any (with_pending parts pending))
goes_on word words utf8 rest parts pending once = elim (cases_Bool (bytes_eq word dashes)) [
  | inl is ↦
      found_next w (walk_at held idle position true) word words (dashes_pass held idle position word is) (dashes_to held idle position word is)
      ∙ rest.behind parts pending once ∙ ap (λ b. found_after words (after_any word total b (long_of word))) (sym is)
  | inr other ↦ by_long other (long_of word) refl
]
  where
    total : Parts
    total = with_pending parts pending

    held : Held
    held = held_at parts (ready pending)

    position : ℕ
    position = position_for total

    w : Walk
    w = walk_at held idle position false

    by_name : (name : Text) (attached : Option Text) → IsOption word (name, attached) → (part : Option Part) → option_named name ≡ part
        → found_from w (word ∷ words) ≡ found_after words (after_option part attached total)
    by_name name attached is None unknown = found_not w word words (unknown_fails held idle position word (name, attached) is (not_found name unknown))
    by_name name (Some given) is (Some part) named_so = attached_given word name given part words is named_so rest parts pending once
    by_name name None is (Some part) named_so = apart_given word name part words is named_so rest parts pending once

    by_short : bytes_eq word dashes ≡ false → long_of word ≡ None → (short : Option Text) → short_of word ≡ short
        → found_from w (word ∷ words) ≡ found_unless words out word total (is_some short)
    by_short other no_long None no_short =
        let is : IsPlain word = record { other = other; no_long = no_long; no_short = no_short } in
        out_given parts pending idle false any word words once w (plain_turn held position word is) (plain_walk held position word is) rest.anywhere
    by_short other no_long (Some flags) is = found_not w word words (dashed_fails held idle position word flags utf8 other no_long is refl)

    by_long : bytes_eq word dashes ≡ false → (long : Option (Text × Option Text)) → long_of word ≡ long → found_from w (word ∷ words) ≡ found_after words (after word any total)
    by_long other (Some long) is =
        let option : IsOption word long = record { other = other; is = is } in
        by_name long.0 long.1 option (option_named long.0) refl ∙ ap (found_after words) (sym (after_long word total long option))
    by_long other None no_long = by_short other no_long (short_of word) refl ∙ found_other words word total other no_long

-- a word behind `--`
goes_on_behind : (word : Text) (words : List Text) → Agrees words → (parts : Parts) (pending : Pending) → are_distinct parts ≡ true
    → found_from (walk_at (held_at parts (ready pending)) idle (position_for (with_pending parts pending)) true) (word ∷ words)
    ≡ found_after words (after word last (with_pending parts pending))
goes_on_behind word words rest parts pending once =
    let held = held_at parts (ready pending) in
    let position = position_for (with_pending parts pending) in
    out_given parts pending idle true last word words once (walk_at held idle position true) (behind_turn held idle position word) (behind_walk held idle position word) rest.behind

-- `--` in place of the text of an option
nothing_behind : (words : List Text) (parts : Parts) (part : Part) (waiting : Waiting)
    → found_from (walk_at (held_at parts (Some (part, []))) waiting (position_for parts) true) words ≡ None
nothing_behind [] parts part waiting = ends_waiting parts part waiting (position_for parts) true
nothing_behind (word ∷ words) parts part waiting = found_not (walk_at held waiting (position_for parts) true) word words (go (has out parts))
  where
    held : Held
    held = held_at parts (Some (part, []))

    go : (b : Bool) → is_faultless (step_fault shape (cond b 2 1) held value) ≡ false
    go true = second_out_fails held
    go false = ap is_faultless (first_out_turn held) ∙ wants parts part

-- the word after an option that waits for its text
goes_on_waiting : (word : Text) (words : List Text) → IsUtf8 word → Agrees words → (parts : Parts) (part : Part) → are_distinct parts ≡ true → same part out ≡ false
    → found_from (walk_at (held_at parts (Some (part, []))) (waits (id_of part)) (position_for parts) false) (word ∷ words) ≡ found_after words (after word (text part) parts)
goes_on_waiting word words utf8 rest parts part once not_out = elim (cases_Bool (bytes_eq word dashes)) [
  | inl is ↦
      found_next w (walk_at held waiting position true) word words (dashes_pass held waiting position word is) (dashes_to held waiting position word is)
      ∙ nothing_behind words parts part waiting ∙ told (sym (ap (λ b. b || (is_some (long_of word) || is_some (short_of word))) is))
  | inr other ↦ by_long other (long_of word) refl ∙ told (sym (ap (λ b. b || (is_some (long_of word) || is_some (short_of word))) other))
]
  where
    held : Held
    held = held_at parts (Some (part, []))

    waiting : Waiting
    waiting = waits (id_of part)

    position : ℕ
    position = position_for parts

    w : Walk
    w = walk_at held waiting position false

    told : {dashed : Bool} → dashed ≡ (bytes_eq word dashes || (is_some (long_of word) || is_some (short_of word)))
        → found_unless words part word parts dashed ≡ found_after words (after word (text part) parts)
    told is = ap (found_unless words part word parts) (is ∙ sym (dashed_is word))

    by_name : (name : Text) (attached : Option Text) → IsOption word (name, attached) → (other : Option Part) → option_named name ≡ other → found_from w (word ∷ words) ≡ None
    by_name name attached is None unknown = found_not w word words (unknown_fails held waiting position word (name, attached) is (not_found name unknown))
    by_name name attached is (Some other) named_so =
        found_not w word words (waiting_fails held (id_of part) position word name attached other is (found_of_name name other named_so) (wants parts part))

    by_short : bytes_eq word dashes ≡ false → long_of word ≡ None → (short : Option Text) → short_of word ≡ short
        → found_from w (word ∷ words) ≡ found_unless words part word parts (is_some short)
    by_short other no_long None no_short =
        let is : IsPlain word = record { other = other; no_long = no_long; no_short = no_short } in
        let after = held_at parts (ready (Some (part, word))) in
        found_next w (walk_at after idle position false) word words (text_turn held (id_of part) position word is) (text_walk parts part position word is)
        ∙ ap (λ n. found_from (walk_at after idle n false) words) (sym (same_place parts part word not_out))
        ∙ rest.anywhere parts (Some (part, word)) once
    by_short other no_long (Some flags) is = found_not w word words (dashed_fails held waiting position word flags utf8 other no_long is refl)

    by_long : bytes_eq word dashes ≡ false → (long : Option (Text × Option Text)) → long_of word ≡ long
        → found_from w (word ∷ words) ≡ found_unless words part word parts (is_some (long_of word) || is_some (short_of word))
    by_long other (Some long) is =
        by_name long.0 long.1 (record { other = other; is = is }) (option_named long.0) refl
        ∙ ap (λ (o : Option (Text × Option Text)). found_unless words part word parts (is_some o || is_some (short_of word))) (sym is)
    by_long other None no_long =
        by_short other no_long (short_of word) refl
        ∙ ap (λ (o : Option (Text × Option Text)). found_unless words part word parts (is_some o || is_some (short_of word))) (sym no_long)

agree : (words : List Text) → AllByRecursion IsUtf8 words → Agrees words
agree [] utf8 = agree_at_end
agree (word ∷ words) utf8 =
    let rest = agree words utf8.1 in
    record {
      anywhere = goes_on word words utf8.0 rest;
      behind = goes_on_behind word words rest;
      waiting = goes_on_waiting word words utf8.0 rest;
    }

-- clap makes of words what they are when they are read one by one
texts_in-by_word : (words : List Text) → AllByRecursion IsUtf8 words → texts_in words ≡ texts_by_word words
texts_in-by_word words utf8 = found_first words ∙ (agree words utf8).anywhere [] None refl

utf8_words : (words : List (String Global)) → AllByRecursion IsUtf8 (map string_bytes words)
utf8_words [] = tt
utf8_words (word ∷ words) = (IsUtf8-string_bytes word, utf8_words words)

-- the reading of words is that without clap
pub read_word_by_word : (words : List (String Global)) → reading (map string_bytes words) ≡ reading_by_word (map string_bytes words)
read_word_by_word words = ap (option_and_then reading_in) (texts_in-by_word (map string_bytes words) (utf8_words words))
