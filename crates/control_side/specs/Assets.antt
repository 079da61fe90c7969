-- What the folder of assets holds in a call, and what comes of decoding a file in it.
use Rattle.std.specs.Prelude.{ℕ, ◌≡◌, ◌==◌, nat_lt, List, length, replicate, IsTrue, Bool, true, if◌then◌else◌, Option, Some, None, Result, Ok, Err}
use Rattle.wa_base.specs.declared.exceptions.Exc.{Exc}
use Rattle.wa_base.specs.declared.exceptions.Exc.TheVariants.{NotSupported, NotFound, Encoding}
use Rattle.wa_base.specs.declared.features.Feature.TheVariants.{Resampling, AssetSize}
use Rattle.io_edge.specs.Fetch.{IsWithin, IsFetchedOf}
use Rattle.io_edge.specs.Paths.{Paths, SamePaths}
use Rattle.io_edge.specs.declared.files.Fetched.{Fetched}
use Rattle.io_edge.specs.declared.files.Fetched.TheVariants.{Bytes, Missing, TooLong}
use Rattle.script_ast.specs.declared.operations.Op.{Op}
use Rattle.script_ast.specs.declared.operations.Op.TheVariants as op
use Rattle.transcript.specs.declared.lines.Answer.TheVariants.{Rejected}
use Rattle.wav_io.specs.WavGrammar.{wav_of}
use Rattle.buffer_store.specs.Buffers.{limit_refusal}
use Rattle.buffer_store.specs.declared.wav.Wav.{Wav}
use Rattle.wav_io.specs.declared.wav.Head.{Head}
use Rattle.wav_io.specs.declared.wav.WavErr.{WavErr}
use Rattle.meaning.specs.declared.buffers.BufferEdit.TheVariants.{Adopt}
use Rattle.meaning.specs.declared.change.Edit.{Edit}
use Rattle.meaning.specs.declared.change.Edit.TheVariants.{Buffers}
use Rattle.meaning.specs.Changes.{IsNamed, refusal, creates}
use Rattle.control_side.specs.declared.decide.Decided.{Decided}
use Rattle.control_side.specs.declared.decide.Decided.TheVariants as comes_to
use Rattle.control_side.specs.Machine.{Machine}

-- a store that tells what its paths hold tells it of the moment of a call
abbrev pub IsHeld : Bool → Paths → Paths → Type 0
IsHeld tells paths held = IsTrue tells → SamePaths paths held

-- ---- what decoding comes to

-- the most bytes that an asset may have
abbrev pub max_asset : ℕ
max_asset = 67108864

-- the promise is rejected
abbrev pub rejected : Exc → Decided
rejected exception = comes_to.Answer (Rejected exception)

abbrev pub unless_rejected : Option Exc → Edit → Decided
unless_rejected None change = comes_to.Change change
unless_rejected (Some exception) change = rejected exception

-- a recording at the rate of the context becomes a buffer, unless all buffers would be too long
abbrev pub adopts : Machine → Wav → Decided
adopts machine wav =
    if wav.rate == machine.world.spec.rate then unless_rejected (refusal machine.world machine.context.time (Buffers (Adopt wav))) (Buffers (Adopt wav))
    else rejected (NotSupported (Some Resampling))

abbrev pub by_reading : Machine → Result Wav WavErr → Decided
by_reading machine (Ok wav) = adopts machine wav
by_reading machine (Err fault) = rejected Encoding

-- what the path holds is decoded
abbrev pub decodes : Machine → Option (List ℕ) → Decided
decodes machine None = rejected NotFound
decodes machine (Some bytes) =
    if nat_lt max_asset (length bytes) then rejected (NotSupported (Some AssetSize))
    else by_reading machine (wav_of bytes)

-- ---- what is said of it

-- why a recording becomes no buffer, by all but its samples: its rate is another one than the context's, or all buffers would be too long
abbrev pub head_refusal : Machine → Head → Option Exc
head_refusal machine head =
    if head.rate == machine.world.spec.rate then limit_refusal machine.world.store head.channels head.frames
    else Some (NotSupported (Some Resampling))

-- what was fetched comes with a call that decodes
abbrev pub HasAsset : Op → Option Fetched → Type 0
HasAsset (op.DecodeAudioData name path) None = ⊥
HasAsset (op.DecodeAudioData name path) (Some asset) = IsWithin max_asset asset
HasAsset other asset = Unit {0}

-- it was fetched of what its path holds
abbrev pub IsAssetOf : Paths → Op → Option Fetched → Type 0
IsAssetOf held (op.DecodeAudioData name path) None = ⊥
IsAssetOf held (op.DecodeAudioData name path) (Some asset) = IsFetchedOf (held path) asset
IsAssetOf held other asset = Unit {0}

-- something that a path may hold for which the store answers so: of a file that is too long it tells no bytes
abbrev pub found_of : Fetched → Option (List ℕ)
found_of (Bytes bytes) = Some bytes
found_of Missing = None
found_of (TooLong n) = Some (replicate n 0)

-- an answer, or an edit that names what is there, that the world accepts, and that creates an object
abbrev pub IsFit : Machine → Decided → Type 0
IsFit machine (comes_to.Answer said) = Unit {0}
IsFit machine comes_to.Start = ⊥
IsFit machine (comes_to.Suspend frame) = ⊥
IsFit machine comes_to.Resume = ⊥
IsFit machine (comes_to.Change change) = IsNamed machine.world change × (refusal machine.world machine.context.time change ≡ None) × (creates change ≡ true)
