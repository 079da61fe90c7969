-- What calls and turns leave of a steady machine: it is steady and plain, and an edit that a call comes to is accepted.
use Rattle.std.proofs.Common.{ℕ, ◌≡◌, ◌≤◌, ◌<◌, ◌+◌, Bool, true, false, List, [], ◌∷◌, length, map, Option, Some, None, Result, Ok, Err, refl, sym, ◌∙◌, ap, subst, arith}
use Rattle.std.specs.Prelude.{◌==◌, nat_lt, nat_le, is_some, unwrap_or, if◌then◌else◌}
use Rattle.std.proofs.lemmas.Bool.Decides.{nat_tests}
use Rattle.io_edge.specs.Paths.{Paths}
use Rattle.wa_base.specs.Contexts.{quantum_of, IsSupported}
use Rattle.wa_base.specs.declared.contexts.ContextSpec.{ContextSpec}
use Rattle.wa_base.specs.declared.exceptions.Exc.{Exc}
use Rattle.wa_base.specs.declared.exceptions.Exc.TheVariants.{NotSupported}
use Rattle.wa_base.specs.declared.features.Feature.TheVariants.{Resampling, AssetSize}
use Rattle.buffer_store.specs.declared.wav.Wav.{Wav}
use Rattle.buffer_store.specs.Recordings.{IsRecording}
use Rattle.wav_io.specs.WavGrammar.{wav_of}
use Rattle.wav_io.specs.declared.wav.WavErr.{WavErr}
use Rattle.script_ast.specs.Operations.{IsInRange, new_name}
use Rattle.script_ast.specs.WellFormed.{AreCallsAfter}
use Rattle.script_ast.specs.declared.call_list.Call.{Call}
use Rattle.script_ast.specs.declared.operations.Op.{Op}
use Rattle.script_ast.specs.declared.operations.Op.TheVariants as op
use Rattle.ctx_state.specs.Context.{ContextView, next, ordinal_at, due_or_not, turn_of, turned_by, after_turn}
use Rattle.ctx_state.specs.declared.context.Turn.{Turn}
use Rattle.ctx_state.specs.declared.context.Turn.TheVariants.{Went, Due, Done}
use Rattle.name_book.specs.declared.book.Object.{Object}
use Rattle.name_book.specs.declared.book.Object.TheVariants as object
use Rattle.control_msgs.specs.Messages.{after, slots_set, marked}
use Rattle.control_msgs.proofs.Marks.{marked_valid, marked_nodes}
use Rattle.meaning.specs.declared.buffers.BufferEdit.TheVariants as buffer_edit
use Rattle.meaning.specs.declared.change.Edit.{Edit}
use Rattle.meaning.specs.declared.change.Edit.TheVariants as edit
use Rattle.meaning.specs.declared.world.World.{World}
use Rattle.meaning.specs.Changes.{creates, edited, refusal}
use Rattle.meaning.specs.Lists.{listed}
use Rattle.meaning.specs.Validity.{IsValid}
use Rattle.meaning.specs.World.{plain}
use Rattle.meaning.proofs.Automating.{slots_valid}
use Rattle.control_side.specs.Assets.{max_asset, rejected, unless_rejected, adopts, by_reading, decodes}
use Rattle.control_side.specs.declared.decide.Decided.{Decided}
use Rattle.control_side.specs.declared.decide.Decided.TheVariants as comes_to
use Rattle.control_side.specs.Machine.{Machine, IsAccepted, first_machine}
use Rattle.control_side.specs.Steady.{IsSteady, IsThere}
use Rattle.control_side.specs.Step.{IsFor, decided_with, settled, step, with_edit}
use Rattle.control_side.proofs.Called.{Leaves, settled_leaves}
use Rattle.control_side.proofs.Deciding.{decided_for}
use Rattle.control_side.proofs.Stepping.{steady_edited, steady_named, turned_spec, turned_time}
use Rattle.session.specs.Folders.{Folder}
use Rattle.session.specs.Session.{Told, after_call, after_calls, held_by, machine_after}
use Rattle.session.proofs.Beginning.{first_valid}
use Rattle.wav_io.proofs.Recorded.{is_recording}

-- ---- what a call comes to

module _ (m : Machine) (steady : IsSteady m) (name path : List ℕ) where
  abbrev decode : Op
  decode = op.DecodeAudioData name path

  -- a recording becomes a buffer, where it is accepted
  adopts_for : (wav : Wav) → IsRecording wav → IsFor m decode (adopts m wav)
  adopts_for wav recording = by_rate (wav.rate == m.world.spec.rate)
    where
      e : Edit
      e = edit.Buffers (buffer_edit.Adopt wav)

      by_refusal : (r : Option Exc) → refusal m.world m.context.time e ≡ r → IsFor m decode (unless_rejected r e)
      by_refusal None fine = (record { time = let low = steady.time in omega arith; named = recording; accepted = fine }, refl)
      by_refusal (Some exception) thrown = tt

      by_rate : (b : Bool) → IsFor m decode (if b then unless_rejected (refusal m.world m.context.time e) e else rejected (NotSupported (Some Resampling)))
      by_rate true = by_refusal (refusal m.world m.context.time e) refl
      by_rate false = tt

  reading_for : (bytes : List ℕ) (read : Result Wav WavErr) → wav_of bytes ≡ read → IsFor m decode (by_reading m read)
  reading_for bytes (Ok wav) is = adopts_for wav (is_recording bytes wav is)
  reading_for bytes (Err fault) is = tt

  decodes_for : (found : Option (List ℕ)) → IsFor m decode (decodes m found)
  decodes_for None = tt
  decodes_for (Some bytes) = by_length (nat_lt max_asset (length bytes))
    where
      by_length : (b : Bool) → IsFor m decode (if b then rejected (NotSupported (Some AssetSize)) else by_reading m (wav_of bytes))
      by_length true = tt
      by_length false = reading_for bytes (wav_of bytes) refl

-- What an operation comes to in a steady machine is what it may come to, whatever the paths hold: an edit is one that the world accepts.
pub comes_for : (m : Machine) → IsSteady m → (held : Paths) (o : Op) → IsInRange o → IsFor m o (decided_with m held o)
comes_for m steady held (op.DecodeAudioData name path) in_range = decodes_for m steady name path (held path)
comes_for m steady held other in_range = decided_for m steady other in_range

-- ---- a steady machine stays so through a call

edit_steady : (m : Machine) → IsSteady m → (e : Edit) (name : Option (List ℕ)) → creates e ≡ is_some name → IsAccepted m e → IsSteady (with_edit m e name)
edit_steady m steady e None none accepted = steady_edited m e none accepted steady
edit_steady m steady e (Some name) some accepted = steady_named m e name some accepted steady

pub settled_steady : (m : Machine) → IsSteady m → (call : Call) (d : Decided) → IsFor m call.op d → IsSteady (settled m call d).machine
settled_steady m steady call (comes_to.Answer said) fits = steady
settled_steady m steady call comes_to.Start fits = record { valid = steady.valid; spec = steady.spec; time = steady.time; bound = steady.bound; named = steady.named }
settled_steady m steady call (comes_to.Suspend frame) fits = record { valid = steady.valid; spec = steady.spec; time = steady.time; bound = steady.bound; named = steady.named }
settled_steady m steady call comes_to.Resume fits = record { valid = steady.valid; spec = steady.spec; time = steady.time; bound = steady.bound; named = steady.named }
settled_steady m steady call (comes_to.Change e) fits = edit_steady m steady e (new_name call.op) fits.1 fits.0

module _ (m : Machine) (steady : IsSteady m) (held : Paths) (call : Call) (in_range : IsInRange call.op) where
  -- the machine after a call is steady
  pub step_steady : IsSteady (step m held call).machine
  step_steady = settled_steady m steady call (decided_with m held call.op) (comes_for m steady held call.op in_range)

  -- its world grew, and neither the context's numbers nor its time moved
  pub step_leaves : Leaves m (step m held call).machine call.op
  step_leaves = settled_leaves m steady call (decided_with m held call.op) (comes_for m steady held call.op in_range)

-- ---- a plain world stays so

plain_edit : (w : World) (now : ℕ) (e : Edit) → plain (edited (plain w) now e) ≡ edited (plain w) now e
plain_edit w now (edit.Create kind) = refl
plain_edit w now (edit.CreateBufferSource rate buffer points) = refl
plain_edit w now (edit.CreateConvolver buffer) = refl
plain_edit w now (edit.Connect edge) = refl
plain_edit w now (edit.Disconnect from form) = refl
plain_edit w now (edit.Source node e) = refl
plain_edit w now (edit.Param id e) = refl
plain_edit w now (edit.Attribute node e) = refl
plain_edit w now (edit.SetCurve node curve) = refl
plain_edit w now (edit.Buffers e) = refl

pub edited_plain : (w : World) (now : ℕ) (e : Edit) → plain w ≡ w → plain (edited w now e) ≡ edited w now e
edited_plain w now e is = subst (λ (x : World). plain (edited x now e) ≡ edited x now e) is (plain_edit w now e)

pub after_plain : (w : World) (first last : ℕ) → plain w ≡ w → plain (after first last w) ≡ after first last w
after_plain w first last is = subst (λ (x : World). plain (after first last x) ≡ after first last x) is refl

named_plain : (m : Machine) (e : Edit) (name : Option (List ℕ)) → plain m.world ≡ m.world → plain (with_edit m e name).world ≡ (with_edit m e name).world
named_plain m e None is = edited_plain m.world m.context.time e is
named_plain m e (Some name) is = edited_plain m.world m.context.time e is

pub settled_plain : (m : Machine) (call : Call) (d : Decided) → plain m.world ≡ m.world → plain (settled m call d).machine.world ≡ (settled m call d).machine.world
settled_plain m call (comes_to.Answer said) is = is
settled_plain m call comes_to.Start is = is
settled_plain m call (comes_to.Suspend frame) is = is
settled_plain m call comes_to.Resume is = is
settled_plain m call (comes_to.Change e) is = named_plain m e (new_name call.op) is

-- the world after a call is plain
pub step_plain : (m : Machine) (held : Paths) (call : Call) → plain m.world ≡ m.world → plain (step m held call).machine.world ≡ (step m held call).machine.world
step_plain m held call is = settled_plain m call (decided_with m held call.op) is

-- and the one after a turn
pub turn_plain : (m : Machine) → plain m.world ≡ m.world → plain (machine_after m).world ≡ (machine_after m).world
turn_plain m is = after_plain m.world m.context.time (next m.context) is

-- ---- lists of calls

-- the fields of each call are in range
abbrev pub AreInRange : List Call → Type 0
AreInRange [] = Unit {0}
AreInRange (call ∷ calls) = IsInRange call.op × AreInRange calls

-- those of a well-formed script are, in whatever list they stand
pub held_in_range : (n holder : ℕ) (calls : List Call) → AreCallsAfter n calls → AreInRange (held_by holder calls)
held_in_range n holder [] are = tt
held_in_range n holder (call ∷ calls) are = by_holder (call.holder == holder) (held_in_range (n + 1) holder calls are.1)
  where
    by_holder : (b : Bool) → AreInRange (held_by holder calls) → AreInRange (if b then call ∷ held_by holder calls else held_by holder calls)
    by_holder true rest = (are.0.2, rest)
    by_holder false rest = rest

pub calls_steady : (folder : Folder) (calls : List Call) (told : Told) → AreInRange calls → IsSteady told.machine → IsSteady (after_calls folder told calls).machine
calls_steady folder [] told are steady = steady
calls_steady folder (call ∷ calls) told are steady =
    let held = folder (length told.lines) in
    calls_steady folder calls (after_call told held call) are.1 (step_steady told.machine steady held call are.0)

pub calls_plain : (folder : Folder) (calls : List Call) (told : Told) → plain told.machine.world ≡ told.machine.world
    → plain (after_calls folder told calls).machine.world ≡ (after_calls folder told calls).machine.world
calls_plain folder [] told is = is
calls_plain folder (call ∷ calls) told is =
    let held = folder (length told.lines) in
    calls_plain folder calls (after_call told held call) (step_plain told.machine held call is)

-- ---- turns

there_after : (w : World) (first last : ℕ) (o : Object) → IsThere w o → IsThere (after first last w) o
there_after w first last (object.Node node) there = there
there_after w first last (object.Buffer buffer) there = there

pub after_valid : (w : World) (first last : ℕ) → IsValid w → IsValid (after first last w)
after_valid w first last valid = marked_valid (slots_set first w) (listed (map (marked last) w.scheds.items)) last refl (slots_valid w first valid)

-- the machine after a turn that comes before the length is steady
pub turn_steady : (m : Machine) → IsSteady m → m.context.time < m.world.spec.length → IsSteady (machine_after m)
turn_steady m steady left = record {
  valid = after_valid m.world m.context.time (next m.context) steady.valid;
  spec = turned_spec m.context ∙ steady.spec;
  time =
      let now = turned_time m.context in
      let same : quantum_of m.context.spec ≡ quantum_of m.world.spec = ap quantum_of steady.spec in
      let most = steady.valid.spec.length_high in
      let short = steady.valid.spec.quantum.high in
      omega (arith, now, same, most, short);
  bound = λ k d l. there_after m.world m.context.time (next m.context) _ (steady.bound k d l);
  named = rw (marked_nodes (next m.context) m.world.scheds.items) steady.named;
}

-- whether a turn reaches the length
abbrev pub is_last : Turn → Bool
is_last Went = false
is_last (Due ordinal) = false
is_last (Done ordinal) = true

last_by : (late : Bool) (n : ℕ) (o : Option ℕ) → is_last (if late then Done n else due_or_not o) ≡ late
last_by true n o = refl
last_by false n None = refl
last_by false n (Some ordinal) = refl

module _ (c : ContextView) (turn : Turn) (is : turn_of c ≡ turn) where
  test_is : nat_le c.spec.length (next c) ≡ is_last turn
  test_is = sym (last_by (nat_le c.spec.length (next c)) (unwrap_or c.started 0) (ordinal_at (next c) c.suspensions)) ∙ ap is_last is

  pub not_last : is_last turn ≡ false → next c < c.spec.length
  not_last other = let test : nat_le c.spec.length (next c) ≡ false = test_is ∙ other in grind (arith, nat_tests)

  pub last_reaches : is_last turn ≡ true → c.spec.length ≤ next c
  last_reaches last = let test : nat_le c.spec.length (next c) ≡ true = test_is ∙ last in grind (arith, nat_tests)

-- where rendering goes on, the state stays
pub went_state : (c : ContextView) → turn_of c ≡ Went → (after_turn c).state ≡ c.state
unfolding after_turn
went_state c is = ap (λ (t : Turn). (turned_by t (record c { time = next c })).state) is

-- ---- the first machine

pub first_steady : (spec : ContextSpec) → IsSupported spec → IsSteady (first_machine spec)
first_steady spec supported = record {
  valid = first_valid spec supported;
  spec = refl;
  time = omega arith;
  bound = λ k d l. absurd (omega arith);
  named = λ k d l. absurd (omega arith);
}

pub first_plain : (spec : ContextSpec) → plain (first_machine spec).world ≡ (first_machine spec).world
first_plain spec = refl
