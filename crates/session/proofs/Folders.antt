-- What the folder of assets held at the moments of a session, put together call by call.
use Rattle.std.proofs.Common.{ℕ, zero, suc, ◌≡◌, ◌≤◌, ◌<◌, ◌+◌, List, [], ◌∷◌, length, Bool, true, false, ◌||◌, refl, sym, ◌∙◌, ap, arith}
use Rattle.std.proofs.lemmas.Bool.Decides.{nat_tests}
use Rattle.std.proofs.lemmas.List.{length-append}
use Rattle.std.specs.Prelude.{◌==◌, nat_lt, if◌then◌else◌, slice_index_or}
use Rattle.io_edge.specs.Paths.{Paths}
use Rattle.script_ast.specs.declared.call_list.Call.{Call}
use Rattle.control_side.specs.Assets.{IsHeld}
use Rattle.session.specs.Folders.{Folder, IsFolderOf, AgreeBetween}
use Rattle.session.specs.Session.{Told, after_call, after_calls, held_by, HasDecode}
use Rattle.control_side.specs.Step.{is_decode}

-- one folder up to a moment, and another from then on
abbrev pub spliced : ℕ → Folder → Folder → Folder
spliced moment first later n = if nat_lt n moment then first n else later n

pub spliced_before : (moment : ℕ) (first later : Folder) (n : ℕ) → n < moment → spliced moment first later n ≡ first n
spliced_before moment first later n before =
    let test : nat_lt n moment ≡ true = grind (arith, nat_tests) in
    rw test refl

pub spliced_from : (moment : ℕ) (first later : Folder) (n : ℕ) → moment ≤ n → spliced moment first later n ≡ later n
spliced_from moment first later n from =
    let test : nat_lt n moment ≡ false = grind (arith, nat_tests) in
    rw test refl

-- two folders of a store make one
pub splice_of : (tells : Bool) (paths : Paths) (moment : ℕ) (first later : Folder) → IsFolderOf tells paths first → IsFolderOf tells paths later → IsFolderOf tells paths (spliced moment first later)
splice_of tells paths moment first later a b n told q = by_test (nat_lt n moment)
  where
    by_test : (early : Bool) → (if early then first n else later n) q ≡ paths q
    by_test true = a n told q
    by_test false = b n told q

-- what was found up to a moment: calls that are left come to what all calls come to, whatever a folder holds from then on
abbrev pub Found : Bool → Paths → ℕ → ℕ → (Folder → Told) → (Folder → Told) → Type 0
Found tells paths low moment rest whole = (folder : Folder) × IsFolderOf tells paths folder × ((other : Folder) → AgreeBetween low moment folder other → rest other ≡ whole other)

-- one call more
pub found_more : (tells : Bool) (paths held : Paths) (low : ℕ) (before next : Told) (call : Call) (calls : List Call) (holder : ℕ) (whole : Folder → Told)
    → low ≤ length before.lines → call.holder ≡ holder → IsHeld tells paths held → next ≡ after_call before held call
    → Found tells paths low (length before.lines) (λ folder. after_calls folder before (held_by holder (call ∷ calls))) whole
    → Found tells paths low (length next.lines) (λ folder. after_calls folder next (held_by holder calls)) whole
found_more tells paths held low before next call calls holder whole from mine is told (folder, of, come) =
    let test : (call.holder == holder) ≡ true = grind (arith, nat_tests) in
    let long : length next.lines ≡ length before.lines + 1 = ap (λ (t : Told). length t.lines) told ∙ length-append before.lines _ in (
      spliced (length before.lines) folder (λ n. held),
      splice_of tells paths (length before.lines) folder (λ n. held) of (λ n. is),
      λ other agree.
          let earlier : AgreeBetween low (length before.lines) folder other = λ n after early. agree n after (omega arith) ∙ spliced_before (length before.lines) folder (λ k. held) n early in
          let now : other (length before.lines) ≡ held = agree (length before.lines) from (omega arith) ∙ spliced_from (length before.lines) folder (λ k. held) (length before.lines) (omega arith) in
          let first : after_calls other before (held_by holder (call ∷ calls)) ≡ after_calls other (after_call before (other (length before.lines)) call) (held_by holder calls) =
          ap (λ b. after_calls other before (if b then call ∷ held_by holder calls else held_by holder calls)) test in
          ap (λ t. after_calls other t (held_by holder calls)) (told ∙ ap (λ h. after_call before h call) (sym now)) ∙ sym first ∙ come other earlier,
    )

pub more_lines : (before next : Told) (held : Paths) (call : Call) → next ≡ after_call before held call → length before.lines ≤ length next.lines
more_lines before next held call is =
    let long : length next.lines ≡ length before.lines + 1 = ap (λ (t : Told). length t.lines) is ∙ length-append before.lines _ in
    omega arith

-- a call of another list
pub found_past : (tells : Bool) (paths : Paths) (low : ℕ) (told : Told) (call : Call) (calls : List Call) (holder : ℕ) (whole : Folder → Told) → (call.holder ≡ holder → ⊥)
    → Found tells paths low (length told.lines) (λ folder. after_calls folder told (held_by holder (call ∷ calls))) whole
    → Found tells paths low (length told.lines) (λ folder. after_calls folder told (held_by holder calls)) whole
found_past tells paths low told call calls holder whole other_one (folder, of, come) =
    let test : (call.holder == holder) ≡ false = grind (arith, nat_tests, other_one) in
    (folder, of, λ other agree. ap (λ b. after_calls other told (if b then call ∷ held_by holder calls else held_by holder calls)) (sym test) ∙ come other agree)

-- a decodeAudioData that is in a list
pub decode_at : (calls : List Call) (holder i : ℕ) (d : Call) → i < length calls → (slice_index_or calls i d).holder ≡ holder → is_decode (slice_index_or calls i d).op ≡ true → HasDecode (held_by holder calls)
decode_at [] holder i d inside mine decodes = absurd (omega arith)
decode_at (call ∷ calls) holder zero d inside mine decodes =
    let test : (call.holder == holder) ≡ true = grind (arith, nat_tests) in
    rw (test, decodes) refl
decode_at (call ∷ calls) holder (suc i) d inside mine decodes = by_test (call.holder == holder) (decode_at calls holder i d (omega arith) mine decodes)
  where
    by_test : (b : Bool) → HasDecode (held_by holder calls) → HasDecode (if b then call ∷ held_by holder calls else held_by holder calls)
    by_test true later = or_later (is_decode call.op) _ later
      where
        or_later : (a b : Bool) → b ≡ true → (a || b) ≡ true
        or_later true b is = refl
        or_later false b is = is
    by_test false later = later
