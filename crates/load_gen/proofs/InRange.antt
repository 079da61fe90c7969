-- The script of a number is well-formed.
use Rattle.std.proofs.Common.{◌≡◌, ◌≤◌, ◌<◌, ℕ, suc, zero, List, [], ◌∷◌, ◌++◌, ◌+◌, ◌*◌, ◌%◌, ◌==◌, refl, sym, ap, subst, ◌∙◌, append_assoc, inl, inr, length, arith, Bool, true, false, if◌then◌else◌, pos, None}
use Rattle.std.proofs.lemmas.Int.{ints}
use Rattle.std.proofs.lemmas.List.{append-nil, length-append}
use Rattle.std.proofs.lemmas.Str.{IsUtf8-append, IsUtf8-from_is_utf8, is_utf8-from_IsUtf8}
use Rattle.std.specs.Prelude.{codes}
use Rattle.node_table.specs.declared.kinds.Kind.TheVariants as node
use Rattle.script_ast.specs.Operations.{IsInRange}
use Rattle.script_ast.specs.Holders.{AreNested}
use Rattle.script_ast.specs.Ranges.{IsText, is_new_name}
use Rattle.script_ast.proofs.Nesting.{IsBlock, none_block, next_block, block_nested}
use Rattle.script_ast.proofs.Texts.{new_name_is_text}
use Rattle.script_ast.specs.WellFormed.{IsWellFormed, AreCallsAfter}
use Rattle.script_ast.specs.declared.call_list.Call.{Call}
use Rattle.script_ast.specs.declared.operations.Op.{Op}
use Rattle.script_ast.specs.declared.operations.Op.TheVariants.{Create, CreateDelay, SetValueAtTime, LinearRampToValueAtTime, SetValue, Start, Stop, Suspend, Resume, StartRendering}
use Rattle.load_gen.specs.Voices.{Voice, IsVoice, voice, ramp_ops, way_ops, delay_ops, time_ops, voice_ops, ops_of_voices, connected, level_of, source, gain, delay, feedback}
use Rattle.load_gen.specs.Generator.{in_list, muting_ops, ops_before, held_ops, calls, script}
use Rattle.load_gen.proofs.Listing.{in_list_length, in_list_append}
use Rattle.load_gen.proofs.NewNames.{names_are_new}

abbrev AreInRange : List Op → Type 0
AreInRange [] = Unit {0}
AreInRange (op ∷ ops) = IsInRange op × AreInRange ops

both_in_range : (xs ys : List Op) → AreInRange xs → AreInRange ys → AreInRange (xs ++ ys)
both_in_range [] ys first second = second
both_in_range (x ∷ xs) ys first second = (first.0, both_in_range xs ys first.1 second)

either_in_range : (b : Bool) (xs ys : List Op) → AreInRange xs → AreInRange ys → AreInRange (if b then xs else ys)
either_in_range true xs ys first second = first
either_in_range false xs ys first second = second

-- ---- voices

gain_text : IsText (codes "gain")
unfolding is_new_name
gain_text = new_name_is_text (codes "gain") refl

-- two texts that might be names, one behind the other
destination_text : IsText (codes "destination")
unfolding is_new_name
destination_text =
    let first = IsUtf8-from_is_utf8 (codes "destina") (new_name_is_text (codes "destina") refl) in
    let second = IsUtf8-from_is_utf8 (codes "tion") (new_name_is_text (codes "tion") refl) in
    is_utf8-from_IsUtf8 (codes "destination") (IsUtf8-append (codes "destina") (codes "tion") first second)

-- the four names at a place are texts
record AreTexts (place : ℕ) : Type 0 where
  source : IsText (source place)
  gain : IsText (gain place)
  delay : IsText (delay place)
  feedback : IsText (feedback place)

are_texts : (place : ℕ) → place < 200 → AreTexts place
are_texts place less =
    let new = names_are_new place less in
    record {
      source = new_name_is_text _ new.source;
      gain = new_name_is_text _ new.gain;
      delay = new_name_is_text _ new.delay;
      feedback = new_name_is_text _ new.feedback;
    }

in_source : (v : Voice) → IsVoice v → IsInRange (Create (source v.place) (node.Constant (level_of v.offset)))
in_source v is = ((names_are_new v.place is.place).source, (refl, refl), (omega (arith, ints, is.offset), omega (arith, ints, is.offset)), refl)

in_gain : (v : Voice) → IsVoice v → IsInRange (Create (gain v.place) (node.Gain (pos 0)))
in_gain v is = ((names_are_new v.place is.place).gain, (refl, refl), (omega (arith, ints), omega (arith, ints)), refl)

in_set : (v : Voice) → IsVoice v → IsInRange (SetValueAtTime (gain v.place) (codes "gain") (pos 0) (pos 0))
in_set v is = ((omega (arith, ints), omega (arith, ints)), (omega (arith, ints), omega (arith, ints)), (are_texts v.place is.place).gain, gain_text)

in_ramp : (v : Voice) → IsVoice v → IsInRange (LinearRampToValueAtTime (gain v.place) (codes "gain") (pos (v.gain * 256)) (pos (1 + 64 * v.time)))
in_ramp v is = ((omega (arith, ints, is.gain), omega (arith, ints, is.gain)), (omega (arith, ints, is.time), omega (arith, ints, is.time)), (are_texts v.place is.place).gain, gain_text)

in_delay : (v : Voice) → IsVoice v → IsInRange (CreateDelay (delay v.place) (pos 16777216) (pos (v.delay * 65536)))
in_delay v is = ((names_are_new v.place is.place).delay, (omega (arith, ints), omega (arith, ints)), (omega (arith, ints, is.delay), omega (arith, ints, is.delay)))

in_feedback : (v : Voice) → IsVoice v → IsInRange (Create (feedback v.place) (node.Gain (pos 8388608)))
in_feedback v is = ((names_are_new v.place is.place).feedback, (refl, refl), (omega (arith, ints), omega (arith, ints)), refl)

in_connection : (from to : List ℕ) → IsText from → IsText to → IsInRange (connected from to)
in_connection from to first second = (omega arith, omega arith, first, second)

ramp_in_range : (v : Voice) → IsVoice v → AreInRange (ramp_ops v)
ramp_in_range v is =
    let texts = are_texts v.place is.place in
    (in_source v is, (in_gain v is, (in_set v is, (in_ramp v is, (in_connection _ _ texts.source texts.gain, tt)))))

delay_in_range : (v : Voice) → IsVoice v → AreInRange (delay_ops v)
delay_in_range v is =
    let texts = are_texts v.place is.place in (
      in_delay v is,
      (
        in_feedback v is,
        (
          in_connection _ _ texts.gain texts.delay,
          (
            in_connection _ _ texts.delay texts.feedback,
            (in_connection _ _ texts.feedback texts.delay, (in_connection _ _ texts.delay destination_text, tt)),
          ),
        ),
      ),
    )

way_in_range : (v : Voice) → IsVoice v → AreInRange (way_ops v)
way_in_range v is =
    let other : AreInRange (connected (gain v.place) (codes "destination") ∷ []) = (in_connection _ _ (are_texts v.place is.place).gain destination_text, tt) in
    either_in_range (v.place % 8 == 7) (delay_ops v) (connected (gain v.place) (codes "destination") ∷ []) (delay_in_range v is) other

in_start : (v : Voice) → IsVoice v → IsInRange (Start (source v.place) (pos (128 * (v.place % 50))) (pos 0) None)
in_start v is = ((omega (arith, ints, is.place), omega (arith, ints, is.place)), (omega (arith, ints), omega (arith, ints)), tt, (are_texts v.place is.place).source)

in_stop : (v : Voice) → IsVoice v → IsInRange (Stop (source v.place) (pos (240000 + 128 * v.place)))
in_stop v is = ((omega (arith, ints, is.place), omega (arith, ints, is.place)), (are_texts v.place is.place).source)

time_in_range : (v : Voice) → IsVoice v → AreInRange (time_ops v)
time_in_range v is = (in_start v is, (in_stop v is, tt))

voice_in_range : (v : Voice) → IsVoice v → AreInRange (voice_ops v)
voice_in_range v is = both_in_range (ramp_ops v) (way_ops v ++ time_ops v) (ramp_in_range v is) (both_in_range (way_ops v) (time_ops v) (way_in_range v is) (time_in_range v is))

is_voice : (seed place : ℕ) → place < 200 → IsVoice (voice seed place)
is_voice seed place less = record { place = less; offset = omega arith; gain = omega arith; time = omega arith; delay = omega arith }

voices_in_range : (seed voices : ℕ) → voices ≤ 200 → AreInRange (ops_of_voices seed voices)
voices_in_range seed zero few = tt
voices_in_range seed (suc voices) few =
    both_in_range (ops_of_voices seed voices) (voice_ops (voice seed voices)) (voices_in_range seed voices (omega (arith, few))) (voice_in_range (voice seed voices) (is_voice seed voices (omega (arith, few))))

muting_in_range : (voices : ℕ) → voices ≤ 40 → AreInRange (muting_ops voices)
muting_in_range zero few = tt
muting_in_range (suc voices) few =
    let text : IsText (gain (5 * voices)) = (are_texts (5 * voices) (omega (arith, few))).gain in
    let last : AreInRange (SetValue (gain (5 * voices)) (codes "gain") (pos 0) ∷ []) = (((omega (arith, ints), omega (arith, ints)), text, gain_text), tt) in
    both_in_range (muting_ops voices) (SetValue (gain (5 * voices)) (codes "gain") (pos 0) ∷ []) (muting_in_range voices (omega (arith, few))) last

before_in_range : (seed : ℕ) → AreInRange (ops_before seed)
before_in_range seed =
    let last : AreInRange (Suspend (pos 240000) ∷ []) = ((omega (arith, ints), omega (arith, ints)), tt) in
    both_in_range (ops_of_voices seed 200) (Suspend (pos 240000) ∷ []) (voices_in_range seed 200 (omega arith)) last

held_in_range : AreInRange held_ops
held_in_range =
    let last : AreInRange (Resume ∷ []) = (tt, tt) in
    both_in_range (muting_ops 40) (Resume ∷ []) (muting_in_range 40 (omega arith)) last

-- ---- calls

listed_after : (n holder : ℕ) (ops : List Op) → holder ≤ n → AreInRange ops → AreCallsAfter n (in_list (suc n) holder ops)
listed_after n holder [] low within = tt
listed_after n holder (op ∷ ops) low within =
    let next : suc n ≡ n + 1 = omega arith in
    let rest = listed_after (suc n) holder ops (omega (arith, low)) within.1 in
    ((next, omega (arith, low), within.0), subst (λ m. AreCallsAfter m (in_list (suc (suc n)) holder ops)) next rest)

both_after : (n : ℕ) (xs ys : List Call) → AreCallsAfter n xs → AreCallsAfter (length xs + n) ys → AreCallsAfter n (xs ++ ys)
both_after n [] ys first second = let none : 0 + n ≡ n = omega arith in subst (λ m. AreCallsAfter m ys) none second
both_after n (x ∷ xs) ys first second =
    let next : length (x ∷ xs) + n ≡ length xs + (n + 1) = omega arith in
    (first.0, both_after (n + 1) xs ys first.1 (subst (λ m. AreCallsAfter m ys) next second))

-- operations as calls that go on behind n calls
list_after : (n first holder : ℕ) (ops : List Op) → first ≡ n + 1 → holder ≤ n → AreInRange ops → AreCallsAfter n (in_list first holder ops)
list_after n first holder ops is low within =
    let next : suc n ≡ first = omega (arith, is) in
    subst (λ m. AreCallsAfter n (in_list m holder ops)) next (listed_after n holder ops low within)

calls_after : (seed : ℕ) → AreCallsAfter 0 (calls seed)
unfolding calls
calls_after seed =
    let before : List Op = ops_before seed in
    let s = length before in
    let calls_before = in_list 1 0 before in
    let calls_held = in_list (s + 1) s held_ops in
    let first = in_list_length 1 0 before in
    let second = in_list_length (s + 1) s held_ops in
    let start : AreInRange (StartRendering ∷ []) = (tt, tt) in
    let calls_start = in_list (s + length held_ops + 1) 0 (StartRendering ∷ []) in
    let last : AreCallsAfter (length calls_held + (length calls_before + 0)) calls_start =
    list_after (length calls_held + (length calls_before + 0)) (s + length held_ops + 1) 0 (StartRendering ∷ []) (omega (arith, first, second)) (omega arith) start in
    let middle : AreCallsAfter (length calls_before + 0) calls_held =
    list_after (length calls_before + 0) (s + 1) s held_ops (omega (arith, first)) (omega (arith, first)) held_in_range in
    both_after 0 calls_before (calls_held ++ calls_start) (list_after 0 1 0 before refl (omega arith) (before_in_range seed))
    (both_after (length calls_before + 0) calls_held calls_start middle last)

-- ---- lists in one another

-- calls of a list before the rest of it
listed_block : (first holder : ℕ) (ops : List Op) (rest : List Call) → holder ≤ first → IsBlock holder rest → IsBlock holder (in_list first holder ops ++ rest)
listed_block first holder [] rest low block = block
listed_block first holder (op ∷ ops) rest low block =
    let call : Call = record { ordinal = first; holder = holder; op = op } in
    next_block holder call [] (in_list (suc first) holder ops ++ rest) refl low (inl refl) (none_block first) (listed_block (suc first) holder ops rest (omega (arith, low)) block)

-- the suspension is the last call before those that it holds
parted : (seed : ℕ) → calls seed
    ≡ in_list 1 0 (ops_of_voices seed 200)
    ++ (in_list (length (ops_of_voices seed 200) + 1) 0 (Suspend (pos 240000) ∷ [])
    ++ (in_list (length (ops_before seed) + 1) (length (ops_before seed)) held_ops ++ in_list (length (ops_before seed) + length held_ops + 1) 0 (StartRendering ∷ [])))
unfolding calls
parted seed =
    let held = in_list (length (ops_before seed) + 1) (length (ops_before seed)) held_ops in
    let last = in_list (length (ops_before seed) + length held_ops + 1) 0 (StartRendering ∷ []) in
    ap (λ (cs : List Call). cs ++ (held ++ last)) (in_list_append 1 0 (ops_of_voices seed 200) (Suspend (pos 240000) ∷ []))
    ∙ append_assoc (in_list 1 0 (ops_of_voices seed 200)) (in_list (length (ops_of_voices seed 200) + 1) 0 (Suspend (pos 240000) ∷ [])) (held ++ last)

calls_nested : (seed : ℕ) → AreNested (calls seed)
calls_nested seed =
    let voices : List Op = ops_of_voices seed 200 in
    let suspension : Call = record { ordinal = length voices + 1; holder = 0; op = Suspend (pos 240000) } in
    let s = length (ops_before seed) in
    let at : s ≡ length voices + 1 = length-append voices (Suspend (pos 240000) ∷ []) in
    let held = in_list (s + 1) s held_ops in
    let last = in_list (s + length held_ops + 1) 0 (StartRendering ∷ []) in
    let inside : IsBlock s held = subst (IsBlock s) (append-nil held) (listed_block (s + 1) s held_ops [] (omega arith) (none_block s)) in
    let inner : IsBlock (length voices + 1) held = subst (λ n. IsBlock n held) at inside in
    let outer : IsBlock 0 last = subst (IsBlock 0) (append-nil last) (listed_block (s + length held_ops + 1) 0 (StartRendering ∷ []) [] (omega arith) (none_block 0)) in
    let middle : IsBlock 0 (suspension ∷ held ++ last) = next_block 0 suspension held last refl (omega arith) (inr refl) inner outer in
    subst AreNested (sym (parted seed)) (block_nested _ (listed_block 1 0 voices (suspension ∷ held ++ last) (omega arith) middle))

pub well_formed : (number : ℕ) → IsWellFormed (script number)
well_formed number = record { channels = omega arith; frames = omega arith; rate = omega arith; quantum = omega arith; calls = calls_after number; nested = calls_nested number }
