-- What clap finds at the end of the words, from where its walk stands.
use Rattle.std.proofs.Common.{◌≡◌, ◌∙◌, ℕ, ◌&&◌, ◌||◌, Bool, cond, true, false, not, refl, sym, ap, ap₂, codes, List, [], ◌∷◌, ◌++◌, Option, Some, None, is_some, bytes_eq, inl, inr, true≢false}
use Rattle.std.specs.List.{fold, find}
use Rattle.std.specs.Option.{option_map, option_map_or}
use Rattle.std.specs.Prelude.{option_and_then}
use Rattle.std.proofs.lemmas.Bool.{cases_Bool, and_parts}
use Rattle.clap.specs.Kinds.{Kinds, check_kinds, or_else}
use Rattle.clap.specs.Facts.{explicit_source}
use Rattle.clap.specs.Takes.{is_given}
use Rattle.clap.specs.Faults.{entered_fault, level_fault, settle_fault, default_fault, given_default_fault, defaults_fault, check_fault, turn_fault, walk_fault}
use Rattle.clap.specs.Simple.{built, entered}
use Rattle.clap.specs.Walk.{Held, idle, Row, Rule, Text, Waiting, Walk, first_of, has_row, settled, walk, walked, finished, with_default, nothing_held}
use Rattle.command_line.specs.Texts.{Given}
use Rattle.command_line.specs.Command.{waplay_command, is_faultless, given, given_by, texts_in}
use Rattle.command_line.specs.WordByWord.{Part, bits, order, mode, generated, out, same, option_named, Parts, Next, any, text, last, is_dashed, option_in, after_option, after_option_or_word, after, scanned, has, are_distinct, text_for, given_in}
use Rattle.command_line.proofs.PartRows.{shape, rules, id_of, same_id, row_for, rows_for, has_row_for, first_for, known, use_passes, use_fails, use_wants, used_new, distinct_push}

-- ---- where clap's walk stands

-- what was read, and has its text, but is not used yet
abbrev pub Pending : Type 0
Pending = Option (Part × Text)

abbrev pub with_pending : Parts → Pending → Parts
with_pending parts None = parts
with_pending parts (Some given) = parts ++ given ∷ []

abbrev pub held_at : Parts → Option (Part × List Text) → Held
held_at parts pending = record { rows = rows_for parts; pending = option_map (λ (p : Part × List Text). (id_of p.0, p.1)) pending; skip = 0 }

abbrev pub ready : Pending → Option (Part × List Text)
ready pending = option_map (λ (p : Part × Text). (p.0, p.1 ∷ [])) pending

abbrev pub walk_at : Held → Waiting → ℕ → Bool → Walk
walk_at held waiting position trailing = record { held = held; waiting = waiting; position = position; is_trailing = trailing; stopped = None }

pub not_false : (b : Bool) → not b ≡ true → b ≡ false
not_false true h = absurd (true≢false (sym h))
not_false false h = refl

pub not_true : (b : Bool) → not b ≡ false → b ≡ true
not_true true h = refl
not_true false h = absurd (true≢false h)

pub settles : (parts : Parts) (pending : Pending) → are_distinct (with_pending parts pending) ≡ true → settle_fault rules false (held_at parts (ready pending)) ≡ []
settles parts None once = refl
settles parts (Some given) once =
    let new = not_false (has given.0 parts) (and_parts (are_distinct parts) _ (sym (distinct_push given.0 given.1 parts) ∙ once)).1 in
    rw (known given.0) (use_passes given.0 given.1 (rows_for parts) (has_row_for given.0 parts ∙ new))

pub settles_to : (parts : Parts) (pending : Pending) → are_distinct (with_pending parts pending) ≡ true → settled rules (held_at parts (ready pending)) ≡ held_at (with_pending parts pending) None
settles_to parts None once = refl
settles_to parts (Some given) once =
    let new = not_false (has given.0 parts) (and_parts (are_distinct parts) _ (sym (distinct_push given.0 given.1 parts) ∙ once)).1 in
    rw (known given.0) (ap (λ rows. record { rows = rows; pending = None; skip = 0 }) (used_new given.0 given.1 parts new))

pub settles_not : (parts : Parts) (pending : Pending) → are_distinct parts ≡ true → are_distinct (with_pending parts pending) ≡ false → is_faultless (settle_fault rules false (held_at parts (ready pending))) ≡ false
settles_not parts None once twice = absurd (true≢false (sym once ∙ twice))
settles_not parts (Some given) once twice =
    let again : has given.0 parts ≡ true = not_true (has given.0 parts) (rw once at (sym (distinct_push given.0 given.1 parts) ∙ twice)) in
    rw (known given.0) (use_fails given.0 given.1 (rows_for parts) (has_row_for given.0 parts ∙ again))

pub wants : (parts : Parts) (part : Part) → is_faultless (settle_fault rules false (held_at parts (Some (part, [])))) ≡ false
wants parts part = rw (known part) (use_wants part (rows_for parts))

-- ---- the end of the words

abbrev pub HaveNoDefaults : List Rule → Type 0
HaveNoDefaults [] = Unit {0}
HaveNoDefaults (a ∷ rest) = (a.defaults ≡ []) × HaveNoDefaults rest

pub without_default : (rows : List Row) (a : Rule) → a.defaults ≡ [] → with_default rows a ≡ rows
without_default rows a none = rw none (go (has_row a.id rows))
  where
    go : (b : Bool) → cond b rows rows ≡ rows
    go true = refl
    go false = refl

pub without_defaults : (rows : List Row) (c : List Rule) → HaveNoDefaults c → fold with_default rows c ≡ rows
without_defaults rows [] none = refl
without_defaults rows (a ∷ rest) none = ap (λ r. fold with_default r rest) (without_default rows a none.0) ∙ without_defaults rows rest none.1

pub no_default_fault : (rows : List Row) (a : Rule) → a.defaults ≡ [] → default_fault rows a ≡ []
no_default_fault rows a none = rw none (go (has_row a.id rows))
  where
    go : (b : Bool) → cond (b || true) [] (given_default_fault a []) ≡ []
    go true = refl
    go false = refl

pub no_defaults_fault : (rows : List Row) (c : List Rule) → HaveNoDefaults c → defaults_fault rows c ≡ []
unfolding defaults_fault
no_defaults_fault rows [] none = refl
no_defaults_fault rows (a ∷ rest) none =
    rw (no_default_fault rows a none.0, without_default rows a none.0) (no_defaults_fault rows rest none.1)

pub have_none : HaveNoDefaults rules
have_none = (refl, (refl, (refl, (refl, (refl, tt)))))

abbrev pub faults_at_end : Held → Kinds
faults_at_end held =
    or_else (settle_fault rules false held) (or_else (defaults_fault (settled rules held).rows rules) (check_fault shape (finished rules held) false))

abbrev pub held_after : Walk → List Text → Held
held_after w words = (fold (walked rules []) w words).held

abbrev pub given_at : List Row → Given
given_at rows = record {
  bits = first_of (codes "bits") rows;
  order = first_of (codes "order") rows;
  mode = first_of (codes "mode") rows;
  generated = first_of (codes "gen") rows;
  out = first_of (codes "out") rows;
}

-- what clap makes of words from where its walk stands
abbrev pub found_from : Walk → List Text → Option Given
found_from w words =
    cond (is_faultless (or_else (walk_fault shape [] w words) (faults_at_end (held_after w words)))) (Some (given_at (finished rules (held_after w words)))) None

pub found_first : (words : List Text) → texts_in words ≡ found_from (walk_at (held_at [] None) idle 1 false) words
found_first words = go (walk rules [] nothing_held words).stopped
  where
    go : (stop : Option (Text × List Text))
        → cond (is_faultless (level_fault shape [] nothing_held words (is_some (entered (built waplay_command) stop)) (entered_fault (built waplay_command) stop))) (Some (given_by words)) None
        ≡ found_from (walk_at (held_at [] None) idle 1 false) words
    go None = refl
    go (Some p) = refl

-- at a fault nothing is found
pub or_else_fails : (a b : Kinds) → is_faultless a ≡ false → is_faultless (or_else a b) ≡ false
or_else_fails [] b fails = absurd (true≢false fails)
or_else_fails (k ∷ ks) b fails = refl

pub found_not : (w : Walk) (word : Text) (words : List Text) → is_faultless (turn_fault shape [] w word) ≡ false → found_from w (word ∷ words) ≡ None
unfolding walk_fault
found_not w word words fails =
    rw (or_else_fails _ (faults_at_end (held_after w (word ∷ words))) (or_else_fails (turn_fault shape [] w word) (walk_fault shape [] (walked rules [] w word) words) fails)) refl

pub found_next : (w after : Walk) (word : Text) (words : List Text) → turn_fault shape [] w word ≡ [] → walked rules [] w word ≡ after → found_from w (word ∷ words) ≡ found_from after words
unfolding walk_fault
found_next w after word words passes to = ap₂ found passes to
  where
    found : Kinds → Walk → Option Given
    found kinds v =
        cond (is_faultless (or_else (or_else kinds (walk_fault shape [] v words)) (faults_at_end (held_after v words)))) (Some (given_at (finished rules (held_after v words)))) None

-- ---- each end

abbrev pub as_given : Parts → Given
as_given parts = record {
  bits = text_for bits parts;
  order = text_for order parts;
  mode = text_for mode parts;
  generated = text_for generated parts;
  out = text_for out parts;
}

pub given_for : (parts : Parts) → given_at (rows_for parts) ≡ as_given parts
given_for parts = rw (first_for bits parts, first_for order parts, first_for mode parts, first_for generated parts, first_for out parts) refl

pub is_given_for : (part : Part) (parts : Parts) → is_given (id_of part) (rows_for parts) ≡ has part parts
is_given_for part [] = refl
is_given_for part (given ∷ parts) = rw (same_id given.0 part) (go (same given.0 part) (is_given_for part parts))
  where
    go : (b : Bool) → is_given (id_of part) (rows_for parts) ≡ has part parts
        → option_map_or (λ (r : Row). explicit_source r.source) (cond b (Some (row_for given)) (find (λ (r : Row). bytes_eq r.id (id_of part)) (rows_for parts))) false ≡ (b || has part parts)
    go true rest = refl
    go false rest = rest

-- OUT is what has to be there
pub check_is : (rows : List Row) → is_faultless (check_fault shape rows false) ≡ is_given (codes "out") rows
check_is rows = go (is_given (codes "out") rows)
  where
    go : (b : Bool) → is_faultless (check_kinds false false ((not b) || false)) ≡ b
    go true = refl
    go false = refl

pub found_at_end : Held → Option Given
found_at_end held = cond (is_faultless (faults_at_end held)) (Some (given_at (finished rules held))) None

pub end_passes : (held : Held) (parts : Parts) → settle_fault rules false held ≡ [] → settled rules held ≡ held_at parts None → are_distinct parts ≡ true → found_at_end held ≡ given_in parts
unfolding found_at_end
end_passes held parts passes to once =
    let rows : finished rules held ≡ rows_for parts =
    ap (λ (h : Held). fold with_default h.rows rules) to ∙ without_defaults (rows_for parts) rules have_none in
    let defaults = no_defaults_fault (settled rules held).rows rules have_none in
    let faults : faults_at_end held ≡ check_fault shape (rows_for parts) false =
    ap₂ (λ a b. or_else a (or_else b (check_fault shape (finished rules held) false))) passes defaults ∙ ap (λ r. check_fault shape r false) rows in
    let there : is_faultless (faults_at_end held) ≡ has out parts =
    ap is_faultless faults ∙ check_is (rows_for parts) ∙ is_given_for out parts in
    ap₂ (λ b (g : Given). cond b (Some g) None) there (ap given_at rows ∙ given_for parts) ∙ ap (λ d. cond (d && has out parts) (Some (as_given parts)) None) (sym once)

pub end_fails : (held : Held) → is_faultless (settle_fault rules false held) ≡ false → found_at_end held ≡ None
unfolding found_at_end
end_fails held fails = rw (or_else_fails _ (or_else (defaults_fault (settled rules held).rows rules) (check_fault shape (finished rules held) false)) fails) refl

pub found_none : (w : Walk) → found_from w [] ≡ found_at_end w.held
unfolding found_at_end walk_fault
found_none w = refl

pub ends : (parts : Parts) (pending : Pending) (waiting : Waiting) (position : ℕ) (trailing : Bool) → are_distinct parts ≡ true
    → found_from (walk_at (held_at parts (ready pending)) waiting position trailing) [] ≡ given_in (with_pending parts pending)
ends parts pending waiting position trailing once =
    let held = held_at parts (ready pending) in
    found_none (walk_at held waiting position trailing) ∙ elim (cases_Bool (are_distinct (with_pending parts pending))) [
      | inl all ↦ end_passes held (with_pending parts pending) (settles parts pending all) (settles_to parts pending all) all
      | inr twice ↦ end_fails held (settles_not parts pending once twice) ∙ ap (λ d. cond (d && has out (with_pending parts pending)) (Some (as_given (with_pending parts pending))) None) (sym twice)
    ]

pub ends_waiting : (parts : Parts) (part : Part) (waiting : Waiting) (position : ℕ) (trailing : Bool) → found_from (walk_at (held_at parts (Some (part, []))) waiting position trailing) [] ≡ None
ends_waiting parts part waiting position trailing =
    found_none (walk_at (held_at parts (Some (part, []))) waiting position trailing) ∙ end_fails (held_at parts (Some (part, []))) (wants parts part)

-- what stands twice stays
abbrev pub found_in : Option Parts → Option Given
found_in parts = option_and_then given_in parts

abbrev pub StaysTwice : Option (Next × Parts) → Type 0
StaysTwice None = Unit {0}
StaysTwice (Some now) = are_distinct now.1 ≡ false

pub pushed_twice : (part : Part) (word : Text) (parts : Parts) → are_distinct parts ≡ false → are_distinct (parts ++ (part, word) ∷ []) ≡ false
pushed_twice part word parts twice = distinct_push part word parts ∙ ap (λ b. b && not (has part parts)) twice

pub word_stays : (word : Text) (next : Next) (parts : Parts) → are_distinct parts ≡ false → StaysTwice (after word next parts)
word_stays word any parts twice = by_dashes (bytes_eq word (codes "--")) (option_in word)
  where
    by_short : (b : Bool) → StaysTwice (cond b None (Some (any, parts ++ (out, word) ∷ [])))
    by_short true = tt
    by_short false = pushed_twice out word parts twice

    by_option : (part : Option Part) (attached : Option Text) → StaysTwice (after_option part attached parts)
    by_option None attached = tt
    by_option (Some part) None = twice
    by_option (Some part) (Some attached) = pushed_twice part attached parts twice

    by_dashes : (b : Bool) (long : Option (Text × Option Text)) → StaysTwice (cond b (Some (last, parts)) (after_option_or_word word long parts))
    by_dashes true long = twice
    by_dashes false None = by_short (is_dashed word)
    by_dashes false (Some option) = by_option (option_named option.0) option.1
word_stays word (text part) parts twice = by_dashed (is_dashed word)
  where
    by_dashed : (b : Bool) → StaysTwice (cond b None (Some (any, parts ++ (part, word) ∷ [])))
    by_dashed true = tt
    by_dashed false = pushed_twice part word parts twice
word_stays word last parts twice = pushed_twice out word parts twice

pub given_twice : (parts : Parts) → are_distinct parts ≡ false → given_in parts ≡ None
given_twice parts twice = ap (λ d. cond (d && has out parts) (Some (as_given parts)) None) twice

pub twice_stays : (words : List Text) (next : Next) (parts : Parts) → are_distinct parts ≡ false → found_in (scanned words next parts) ≡ None
twice_stays [] any parts twice = given_twice parts twice
twice_stays [] (text part) parts twice = refl
twice_stays [] last parts twice = given_twice parts twice
twice_stays (word ∷ words) next parts twice = go (after word next parts) (word_stays word next parts twice) (twice_stays words)
  where
    go : (now : Option (Next × Parts)) → StaysTwice now → ((n : Next) (ps : Parts) → are_distinct ps ≡ false → found_in (scanned words n ps) ≡ None)
        → found_in (option_and_then (λ (n : Next × Parts). scanned words n.0 n.1) now) ≡ None
    go None stays rest = refl
    go (Some now) stays rest = rest now.0 now.1 stays
