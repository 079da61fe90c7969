-- What the creation of a convolver makes of a world, and why it is refused (BaseAudioContext.createConvolver).
use Rattle.std.specs.Prelude.{nat_le, if◌then◌else◌, List, Option, None, Some}
use Rattle.std.specs.Option.{option_or}
use Rattle.wa_base.specs.declared.exceptions.Exc.{Exc}
use Rattle.wa_base.specs.declared.exceptions.Exc.TheVariants.{NotSupported}
use Rattle.wa_base.specs.declared.features.Feature.TheVariants.{ResponseChannels}
use Rattle.wa_base.specs.declared.graph_names.BufId.{BufId}
use Rattle.node_table.specs.declared.equation.Equation.TheVariants.{Convolution}
use Rattle.buffer_store.specs.declared.buffers.Buffer.{Buffer as AudioBuffer}
use Rattle.node_table.specs.Nodes.{creation_refusal}
use Rattle.node_table.specs.declared.kinds.Kind.{Kind}
use Rattle.node_table.specs.declared.kinds.Kind.TheVariants.{Causal}
use Rattle.meaning.specs.declared.world.World.{World}
use Rattle.meaning.specs.Sources.{resampling_refusal}
use Rattle.meaning.specs.World.{channels_in, samples_in}

-- a convolver whose response is a buffer: it goes by the samples of its first channel, and without a buffer by none
abbrev pub convolver_of : List AudioBuffer → Option BufId → Kind
convolver_of store buffer = Causal (Convolution (samples_in store buffer 0))

-- a response has one channel
abbrev pub response_channels_refusal : List AudioBuffer → Option BufId → Option Exc
response_channels_refusal store buffer = if nat_le (channels_in store buffer) 1 then None else Some (NotSupported (Some ResponseChannels))

-- a convolver is refused for the channels of its buffer, then for its rate, then for its length and for its samples, and then for want of room
abbrev pub convolver_refusal : World → Option BufId → Option Exc
convolver_refusal w buffer = option_or (response_channels_refusal w.store buffer) (option_or (resampling_refusal w buffer) (creation_refusal w.nodes (convolver_of w.store buffer)))
