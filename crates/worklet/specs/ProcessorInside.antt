-- What contracts see of a processor.
use Rattle.worklet.specs.Processor.{ProcessorView, after_silence}
use Rattle.worklet.specs.declared.processor.Processor.TheInside.{Inside}

abbrev pub view_of : Inside → ProcessorView
view_of s = record { code = s.program; channels = s.channels.items; others = after_silence s.program s.others s.owed }
