-- How many quanta are left, and what each turn leads to.
use Rattle.std.proofs.Common.{◌≡◌, ◌<◌, ◌≤◌, ◌+◌, ◌-◌, ◌*◌, ◌/◌, ◌∷◌, ◌++◌, [], ◌⊎◌, List, ℕ, zero, suc, length, true, false, inl, inr, refl, ap, ◌∙◌, sym, subst, arith}
use Rattle.std.specs.Prelude.{if◌then◌else◌, IsTrue}
use Rattle.std.proofs.lemmas.List.{length-append}
use Rattle.std.proofs.lemmas.Nat.{div-mul-add}
use Rattle.std.proofs.Math.Nat.{add-div_right}
use Rattle.wa_base.specs.Contexts.{quantum_of}
use Rattle.wa_base.specs.declared.contexts.ContextSpec.{ContextSpec}
use Rattle.script_ast.specs.declared.call_list.Call.{Call}
use Rattle.ctx_state.specs.Context.{turn_of}
use Rattle.ctx_state.specs.declared.context.Turn.{Turn}
use Rattle.ctx_state.specs.declared.context.Turn.TheVariants.{Went, Due, Done}
use Rattle.meaning.specs.declared.world.World.{World}
use Rattle.session.specs.Folders.{Folder}
use Rattle.control_side.specs.Machine.{Machine}
use Rattle.session.specs.Session.{Told, Played, lines_after, after_turn, after_list, held_by, is_running, quanta_from, quanta_left, finished, by_turn, turns, HasDecode, ByTurn, TurnsDecode}
use Rattle.control_side.proofs.Stepping.{turned_time}

-- a quantum later, by the numbers of the world
pub time_after : (old new : Told) (spec : ContextSpec) → new ≡ after_turn old → spec ≡ old.machine.context.spec → spec ≡ old.machine.world.spec
    → new.machine.context.time ≡ old.machine.context.time + quantum_of old.machine.world.spec
time_after old new spec is of_context of_world =
    ap (λ told. told.machine.context.time) is ∙ turned_time old.machine.context ∙ ap (λ (s : ContextSpec). old.machine.context.time + quantum_of s) (sym of_context ∙ of_world)

pub spec_after : (old new : Told) → new ≡ after_turn old → new.machine.world.spec ≡ old.machine.world.spec
spec_after old new is = ap (λ told. told.machine.world.spec) is

-- the last quantum
pub one_left : (old new : Told) → 0 < quantum_of old.machine.world.spec → old.machine.context.time < old.machine.world.spec.length
    → new.machine.context.time ≡ old.machine.context.time + quantum_of old.machine.world.spec → old.machine.world.spec.length ≤ new.machine.context.time → quanta_left old.machine ≡ 1
one_left old new some left time reached =
    let q = quantum_of old.machine.world.spec in
    let frames = old.machine.world.spec.length - old.machine.context.time in
    let whole : frames + (q - 1) ≡ 1 * q + (frames - 1) = omega arith in
    ap (λ n. n / q) whole ∙ div-mul-add 1 q (frames - 1) (omega arith)

-- one of more
pub more_left : (old new : Told) → 0 < quantum_of old.machine.world.spec → new ≡ after_turn old
    → new.machine.context.time ≡ old.machine.context.time + quantum_of old.machine.world.spec → new.machine.context.time < new.machine.world.spec.length
    → quanta_left old.machine ≡ suc (quanta_left new.machine)
more_left old new some is time left =
    let q = quantum_of old.machine.world.spec in
    let spec = spec_after old new is in
    let long : new.machine.world.spec.length ≡ old.machine.world.spec.length = ap (λ (s : ContextSpec). s.length) spec in
    let rest = old.machine.world.spec.length - new.machine.context.time + (q - 1) in
    let whole : old.machine.world.spec.length - old.machine.context.time + (q - 1) ≡ rest + q = omega arith in
    let next : (n : ℕ) → n + 1 ≡ suc n = λ n. omega arith in
    ap (λ n. n / q) whole ∙ add-div_right rest some ∙ next (rest / q) ∙ ap (λ (s : ContextSpec). suc (quanta_from new.machine.context.time s)) (sym spec)

-- a call list leaves as many
pub as_many_left : (old new : Machine) → new.world.spec ≡ old.world.spec → new.context.time ≡ old.context.time → quanta_left new ≡ quanta_left old
as_many_left old new spec time = rw (spec, time) refl

module _ (folder : Folder) (calls : List Call) (old : Told) (tape : List World) where
  abbrev longer : List World
  longer = tape ++ old.machine.world ∷ []

  -- after the list of the call that the turn led to
  abbrev listed : ℕ → Told
  listed ordinal = after_list folder calls (after_turn old) ordinal

  abbrev due_case : ℕ → ℕ → Played
  due_case left ordinal = if is_running (listed ordinal).machine.context.state then turns left folder calls (listed ordinal) longer else finished (listed ordinal) longer

  abbrev by_case : ℕ → Turn → Played
  by_case left turn = by_turn turn (turns left folder calls (after_turn old) longer) (due_case left) (λ ordinal. finished (listed ordinal) longer)

  turn_is : (left : ℕ) (turn : Turn) → turn_of old.machine.context ≡ turn → quanta_left old.machine ≡ suc left → turns (quanta_left old.machine) folder calls old tape ≡ by_case left turn
  turn_is left turn is more = ap (λ n. turns n folder calls old tape) more ∙ ap (by_case left) is

  -- a turn after which rendering goes on
  pub turns_went : (left : ℕ) → turn_of old.machine.context ≡ Went → quanta_left old.machine ≡ suc left → turns (quanta_left old.machine) folder calls old tape ≡ turns left folder calls (after_turn old) longer
  turns_went left went more = turn_is left Went went more

  -- a suspension that was resumed
  pub turns_due : (left ordinal : ℕ) → turn_of old.machine.context ≡ Due ordinal → quanta_left old.machine ≡ suc left → is_running (listed ordinal).machine.context.state ≡ true
      → turns (quanta_left old.machine) folder calls old tape ≡ turns left folder calls (listed ordinal) longer
  turns_due left ordinal due more runs = turn_is left (Due ordinal) due more ∙ ap (λ b. if b then turns left folder calls (listed ordinal) longer else finished (listed ordinal) longer) runs

  -- one that was not
  pub turns_stalled : (left ordinal : ℕ) → turn_of old.machine.context ≡ Due ordinal → quanta_left old.machine ≡ suc left → is_running (listed ordinal).machine.context.state ≡ false
      → turns (quanta_left old.machine) folder calls old tape ≡ finished (listed ordinal) longer
  turns_stalled left ordinal due more stands = turn_is left (Due ordinal) due more ∙ ap (λ b. if b then turns left folder calls (listed ordinal) longer else finished (listed ordinal) longer) stands

  -- the last turn
  pub turns_done : (ordinal : ℕ) → turn_of old.machine.context ≡ Done ordinal → quanta_left old.machine ≡ 1 → turns (quanta_left old.machine) folder calls old tape ≡ finished (listed ordinal) longer
  turns_done ordinal done last = turn_is zero (Done ordinal) done last

  -- ---- decodeAudioData

  abbrev DecodesIn : ℕ → Turn → Type 0
  DecodesIn left turn =
      ByTurn turn (TurnsDecode left folder calls (after_turn old))
      (λ ordinal. HasDecode (held_by ordinal calls) ⊎ (IsTrue (is_running (listed ordinal).machine.context.state) × TurnsDecode left folder calls (listed ordinal)))
      (λ ordinal. HasDecode (held_by ordinal calls))

  decodes_in : (left : ℕ) (turn : Turn) → turn_of old.machine.context ≡ turn → quanta_left old.machine ≡ suc left → DecodesIn left turn → TurnsDecode (quanta_left old.machine) folder calls old
  decodes_in left turn is more here = subst (λ n. TurnsDecode n folder calls old) (sym more) (subst (DecodesIn left) (sym is) here)

  pub decode_went : (left : ℕ) → turn_of old.machine.context ≡ Went → quanta_left old.machine ≡ suc left → TurnsDecode left folder calls (after_turn old) → TurnsDecode (quanta_left old.machine) folder calls old
  decode_went left went more later = decodes_in left Went went more later

  pub decode_due : (left ordinal : ℕ) → turn_of old.machine.context ≡ Due ordinal → quanta_left old.machine ≡ suc left → HasDecode (held_by ordinal calls) → TurnsDecode (quanta_left old.machine) folder calls old
  decode_due left ordinal due more here = decodes_in left (Due ordinal) due more (inl here)

  pub decode_later : (left ordinal : ℕ) → turn_of old.machine.context ≡ Due ordinal → quanta_left old.machine ≡ suc left → is_running (listed ordinal).machine.context.state ≡ true
      → TurnsDecode left folder calls (listed ordinal) → TurnsDecode (quanta_left old.machine) folder calls old
  decode_later left ordinal due more runs later = decodes_in left (Due ordinal) due more (inr (runs, later))

  pub decode_done : (ordinal : ℕ) → turn_of old.machine.context ≡ Done ordinal → quanta_left old.machine ≡ 1 → HasDecode (held_by ordinal calls) → TurnsDecode (quanta_left old.machine) folder calls old
  decode_done ordinal done last here = decodes_in zero (Done ordinal) done last here

-- a turn takes no line away
pub longer_after : (old new : Told) → new ≡ after_turn old → length old.lines ≤ length new.lines
longer_after old new is =
    let long : length new.lines ≡ length old.lines + length (lines_after old.machine) = ap (λ told. length told.lines) is ∙ length-append old.lines (lines_after old.machine) in
    omega arith
