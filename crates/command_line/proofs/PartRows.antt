-- Texts that are given, as the rows that clap keeps of them.
use Rattle.std.proofs.Common.{◌≡◌, ◌∙◌, ◌&&◌, ◌||◌, Bool, cond, true, false, not, refl, sym, ap, ap₂, codes, List, [], ◌∷◌, ◌++◌, map, Option, Some, None, bytes_eq, inl, inr, true≢false}
use Rattle.std.specs.List.{AllByRecursion, fold, find, list_any}
use Rattle.std.specs.Option.{option_map, option_map_or, unwrap_or}
use Rattle.std.specs.Prelude.{option_and_then}
use Rattle.std.specs.Char.{encode_utf8}
use Rattle.std.specs.Str.{chars, IsUtf8, encode_utf8_all}
use Rattle.std.proofs.lemmas.Bool.{cases_eq, ne_eqb}
use Rattle.clap.specs.Faults.{use_fault}
use Rattle.clap.specs.Simple.{Shape, built}
use Rattle.command_line.specs.Command.{out_rule}
use Rattle.clap.specs.Walk.{Row, Rule, Text, arg_by_id, arg_by_long, first_of, has_row, used, more_values, with_values, without}
use Rattle.clap.specs.declared.parser.matches.ValueSource.TheVariants.{CommandLine}
use Rattle.clap.specs.declared.builder.value_parser.Reading.TheVariants as how
use Rattle.command_line.specs.Command.{waplay_command, is_faultless, given}
use Rattle.command_line.specs.WordByWord.{Part, bits, order, mode, generated, out, place, same, option_named, Parts, has, are_distinct, text_for}

-- what clap reads by
abbrev pub shape : Shape
shape = (built waplay_command).top

abbrev pub rules : List Rule
rules = shape.rules

abbrev pub id_of : Part → Text
id_of bits = codes "bits"
id_of order = codes "order"
id_of mode = codes "mode"
id_of generated = codes "gen"
id_of out = codes "out"

-- the rule of a part
abbrev pub rule_for : Part → Option Rule
rule_for part = arg_by_id rules (id_of part)

-- ---- names

pub same_id : (a b : Part) → bytes_eq (id_of a) (id_of b) ≡ same a b
same_id bits bits = refl
same_id bits order = refl
same_id bits mode = refl
same_id bits generated = refl
same_id bits out = refl
same_id order bits = refl
same_id order order = refl
same_id order mode = refl
same_id order generated = refl
same_id order out = refl
same_id mode bits = refl
same_id mode order = refl
same_id mode mode = refl
same_id mode generated = refl
same_id mode out = refl
same_id generated bits = refl
same_id generated order = refl
same_id generated mode = refl
same_id generated generated = refl
same_id generated out = refl
same_id out bits = refl
same_id out order = refl
same_id out mode = refl
same_id out generated = refl
same_id out out = refl

-- the option of a name is found by the name
pub long_found : (name : Text) → arg_by_long rules name ≡ option_and_then rule_for (option_named name)
long_found name = go (bytes_eq (codes "bits") name) (bytes_eq (codes "order") name) (bytes_eq (codes "mode") name) (bytes_eq (codes "gen") name)
  where
    go : (a b c d : Bool) → cond (a || false) (rule_for bits) (cond (b || false) (rule_for order) (cond (c || false) (rule_for mode) (cond (d || false) (rule_for generated) None)))
        ≡ option_and_then rule_for (cond a (Some bits) (cond b (Some order) (cond c (Some mode) (cond d (Some generated) None))))
    go true b c d = refl
    go false true c d = refl
    go false false true d = refl
    go false false false true = refl
    go false false false false = refl

-- ---- rows

abbrev pub row_for : Part × Text → Row
row_for given = record { id = id_of given.0; values = given.1 ∷ []; count = None; source = Some CommandLine; reading = how.AsWritten }

abbrev pub rows_for : Parts → List Row
rows_for parts = map row_for parts

pub has_row_for : (part : Part) (parts : Parts) → has_row (id_of part) (rows_for parts) ≡ has part parts
has_row_for part [] = refl
has_row_for part (given ∷ parts) = ap₂ (λ a b. a || b) (same_id given.0 part) (has_row_for part parts)

pub first_for : (part : Part) (parts : Parts) → first_of (id_of part) (rows_for parts) ≡ text_for part parts
first_for part [] = refl
first_for part (given ∷ parts) = rw (same_id given.0 part) (go (same given.0 part) (first_for part parts))
  where
    go : (b : Bool) → first_of (id_of part) (rows_for parts) ≡ text_for part parts
        → option_and_then (λ (r : Row). Rattle.std.specs.Prelude.slice_get r.values 0) (cond b (Some (row_for given)) (find (λ (r : Row). bytes_eq r.id (id_of part)) (rows_for parts)))
        ≡ option_map (λ (g : Part × Text). g.1) (cond b (Some given) (find (λ (g : Part × Text). same g.0 part) parts))
    go true rest = refl
    go false rest = rest

-- ---- one use

abbrev pub rule_at : Part → Rule
rule_at part = unwrap_or (rule_for part) out_rule

pub known : (part : Part) → arg_by_id rules (id_of part) ≡ Some (rule_at part)
known bits = refl
known order = refl
known mode = refl
known generated = refl
known out = refl

-- a part that is new is used with its text
pub use_passes : (part : Part) (given : Text) (rows : List Row) → has_row (id_of part) rows ≡ false → use_fault false (rule_at part) (given ∷ []) rows ≡ []
use_passes bits given rows new = rw new refl
use_passes order given rows new = rw new refl
use_passes mode given rows new = rw new refl
use_passes generated given rows new = rw new refl
use_passes out given rows new = rw new refl

pub use_fails : (part : Part) (given : Text) (rows : List Row) → has_row (id_of part) rows ≡ true → is_faultless (use_fault false (rule_at part) (given ∷ []) rows) ≡ false
use_fails bits given rows again = rw again refl
use_fails order given rows again = rw again refl
use_fails mode given rows again = rw again refl
use_fails generated given rows again = rw again refl
use_fails out given rows again = rw again refl

-- an option wants a text
pub use_wants : (part : Part) (rows : List Row) → is_faultless (use_fault false (rule_at part) [] rows) ≡ false
use_wants bits rows = refl
use_wants order rows = refl
use_wants mode rows = refl
use_wants generated rows = refl
use_wants out rows = refl

pub used_is : (part : Part) (given : Text) (rows : List Row) → used (rule_at part) (given ∷ []) rows ≡ with_values (id_of part) how.AsWritten CommandLine (given ∷ []) (without (id_of part) rows)
used_is bits given rows = refl
used_is order given rows = refl
used_is mode given rows = refl
used_is generated given rows = refl
used_is out given rows = refl

pub without_new : (part : Part) (parts : Parts) → has part parts ≡ false → without (id_of part) (rows_for parts) ≡ rows_for parts
without_new part [] new = refl
without_new part (given ∷ parts) new = rw (same_id given.0 part) (go (same given.0 part) (without_new part parts) new)
  where
    go : (b : Bool) → (has part parts ≡ false → without (id_of part) (rows_for parts) ≡ rows_for parts) → (b || has part parts) ≡ false
        → cond b (rows_for parts) (row_for given ∷ without (id_of part) (rows_for parts)) ≡ row_for given ∷ rows_for parts
    go true rest new = absurd (true≢false new)
    go false rest new = ap (λ rows. row_for given ∷ rows) (rest new)

pub added_new : (part : Part) (word : Text) (parts : Parts) → has part parts ≡ false
    → with_values (id_of part) how.AsWritten CommandLine (word ∷ []) (rows_for parts) ≡ rows_for (parts ++ (part, word) ∷ [])
added_new part word [] new = refl
added_new part word (given ∷ parts) new = rw (same_id given.0 part) (go (same given.0 part) (added_new part word parts) new)
  where
    go : (b : Bool) → (has part parts ≡ false → with_values (id_of part) how.AsWritten CommandLine (word ∷ []) (rows_for parts) ≡ rows_for (parts ++ (part, word) ∷ [])) → (b || has part parts) ≡ false
        → cond b (more_values CommandLine (word ∷ []) (row_for given) ++ rows_for parts) (row_for given ∷ with_values (id_of part) how.AsWritten CommandLine (word ∷ []) (rows_for parts))
        ≡ row_for given ∷ rows_for (parts ++ (part, word) ∷ [])
    go true rest new = absurd (true≢false new)
    go false rest new = ap (λ rows. row_for given ∷ rows) (rest new)

pub used_new : (part : Part) (word : Text) (parts : Parts) → has part parts ≡ false → used (rule_at part) (word ∷ []) (rows_for parts) ≡ rows_for (parts ++ (part, word) ∷ [])
used_new part word parts new =
    used_is part word (rows_for parts) ∙ ap (with_values (id_of part) how.AsWritten CommandLine (word ∷ [])) (without_new part parts new) ∙ added_new part word parts new

-- ---- nothing twice

pub and_none : (b : Bool) → (b && false) ≡ false
and_none true = refl
and_none false = refl

pub or_true : (b : Bool) → (b || true) ≡ true
or_true true = refl
or_true false = refl

pub and_false : {X : Type 0} (b : Bool) (x y : X) → cond (b && false) x y ≡ y
and_false true x y = refl
and_false false x y = refl

pub same_either_way : (a b : Part) → same a b ≡ same b a
same_either_way a b = elim (cases_eq (place a) (place b)) [
  | inl one ↦ rw one refl
  | inr two ↦ ne_eqb (place a) (place b) two ∙ sym (ne_eqb (place b) (place a) (λ one. two (sym one)))
]

pub or_false : (b : Bool) → (b || false) ≡ b
or_false true = refl
or_false false = refl

pub has_push : (part new : Part) (word : Text) (parts : Parts) → has part (parts ++ (new, word) ∷ []) ≡ (has part parts || same new part)
has_push part new word [] = or_false (same new part)
has_push part new word (given ∷ parts) = go (same given.0 part) (has_push part new word parts)
  where
    go : (b : Bool) → has part (parts ++ (new, word) ∷ []) ≡ (has part parts || same new part) → (b || has part (parts ++ (new, word) ∷ [])) ≡ ((b || has part parts) || same new part)
    go true rest = refl
    go false rest = rest

pub distinct_push : (part : Part) (word : Text) (parts : Parts) → are_distinct (parts ++ (part, word) ∷ []) ≡ (are_distinct parts && not (has part parts))
distinct_push part word [] = refl
distinct_push part word (given ∷ parts) =
    ap₂ (λ a b. not a && b) (has_push given.0 part word parts ∙ ap (λ b. has given.0 parts || b) (same_either_way part given.0)) (distinct_push part word parts)
    ∙ go (has given.0 parts) (same given.0 part) (are_distinct parts) (has part parts)
  where
    go : (a s d h : Bool) → (not (a || s) && (d && not h)) ≡ ((not a && d) && not (s || h))
    go true s d h = refl
    go false true true h = refl
    go false true false h = refl
    go false false d h = refl
